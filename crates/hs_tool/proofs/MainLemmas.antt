-- A run over files and streams that begin without a failure is one with which the program may end.
use Rattle.std.proofs.Common.{◌≡◌, subst, ℕ, List, None}
use Rattle.hs_request.specs.Requests.{request_of}
use Rattle.hs_tool.specs.Answers.{IsAnswer}
use Rattle.hs_tool.specs.Main.{EndsWith, outside, input}
use Rattle.hs_tool.specs.Main as ends

pub ran-from : (words : List (List ℕ)) (store out given err stored sunk read erred status : ℕ) → store ≡ 0 → out ≡ 0 → given ≡ 0 → err ≡ 0
    → IsAnswer (request_of words) (outside store out) (outside stored sunk) (input given) (input read) None None err erred status → EndsWith status
ran-from words store out given err stored sunk read erred status s o g e answer =
    ends.EndsWith.ran words stored sunk read erred
    (subst (λ n. IsAnswer (request_of words) (outside 0 0) (outside stored sunk) (input 0) (input read) None None n erred status) e
    (subst (λ n. IsAnswer (request_of words) (outside 0 0) (outside stored sunk) (input n) (input read) None None err erred status) g
    (subst (λ n. IsAnswer (request_of words) (outside 0 n) (outside stored sunk) (input given) (input read) None None err erred status) o
    (subst (λ n. IsAnswer (request_of words) (outside n out) (outside stored sunk) (input given) (input read) None None err erred status) s answer))))
