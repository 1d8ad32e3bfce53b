-- What a run is on the stream of one name: it depends on the actions on that name alone, and on what they are shown.
use Rattle.std.proofs.Common.{◌≡◌, ℕ, Bool, true, false, List, [], ◌∷◌, bytes_eq, Option, None, refl, sym, ap, ◌∙◌, subst, if◌then◌else◌}
use Rattle.std.proofs.lemmas.Bool.{false≢true}
use Rattle.std.proofs.lemmas.Slice.Eq.{bytes_eq-Decides}
use Rattle.hs_base.specs.Lists.{Each}
use Rattle.hs_script.specs.Actions.{Action, name_of}
use Rattle.hs_script.specs.Bases.{Basis, Stream, File}
use Rattle.hs_script.specs.Machine.{Answer, Moves, Machine, start, Steps}
use Rattle.hs_script.specs.Runs.{IsRun, none, more, run_text}
use Rattle.hs_script.specs.Laws.{IsOwn, MakesNoForeign, actions_on, answers_on, shown_on, IsAlikeOn}
use Rattle.hs_script.proofs.MachineLemmas.{IsTraced, moves_once, moves_traced}

-- One stream goes through actions that are shown this, with these answers, whatever the numbers of open streams are.
pub data IsStreamRun (basis : Basis) : Option Stream → List Action → List File → List Answer → Type 0 where
  still : {h : Option Stream} → IsStreamRun basis h [] [] []
  moved : {count : ℕ} {shown : File} {h i : Option Stream} {action : Action} {answer : Answer} {actions : List Action} {files : List File} {answers : List Answer} →
      Moves basis count shown h action answer i → IsStreamRun basis i actions files answers → IsStreamRun basis h (action ∷ actions) (shown ∷ files) (answer ∷ answers)

step_on : {basis : Basis} {m n : Machine} (name : List ℕ) (action : Action) (answer : Answer) (actions : List Action) (files : List File) (answers : List Answer) (s : Steps basis m action answer n) → IsStreamRun basis (n.stream name) actions files answers → (t : Bool) → bytes_eq (name_of action) name ≡ t → IsStreamRun basis (m.stream name) (if t then action ∷ actions else actions) (if t then s.shown ∷ files else files) (if t then answer ∷ answers else answers)
step_on {basis} {m} {n} name action answer actions files answers s r true e =
    moved (subst (λ here. Moves basis m.count s.shown (m.stream here) action answer (n.stream here)) ((bytes_eq-Decides (name_of action) name).0 e) s.moves) r
step_on {basis} {m} {n} name action answer actions files answers s r false e =
    subst
    (λ h. IsStreamRun basis h actions files answers)
    (s.others name (λ same. false≢true (sym e ∙ (bytes_eq-Decides (name_of action) name).1 (sym same))))
    r

-- what a run is on one name
pub run_on : {basis : Basis} {m n : Machine} {actions : List Action} {answers : List Answer} (name : List ℕ) (r : IsRun basis m actions answers n) → IsStreamRun basis (m.stream name) (actions_on name actions) (shown_on name r) (answers_on name actions answers)
run_on name none = still
run_on name (more {action = action} {answer = answer} {actions = actions} {answers = answers} s r) =
    step_on name action answer (actions_on name actions) (shown_on name r) (answers_on name actions answers) s (run_on name r) (bytes_eq (name_of action) name) refl

-- one stream that isn't foreign has one list of answers to its own actions
pub answers_once : {basis : Basis} {h : Option Stream} {actions : List Action} {files : List File} {xs ys : List Answer} → IsTraced h → Each (MakesNoForeign basis) files → IsStreamRun basis h actions files xs → IsStreamRun basis h actions files ys → Each IsOwn xs → Each IsOwn ys → xs ≡ ys
answers_once traced known still still owns owns' = refl
answers_once {basis} traced known (moved {actions = actions} {files = files} {answers = xs} s r) (moved {answer = y} {answers = ys} t q) owns owns' =
    let alike =
    moves_once
    traced
    s
    t
    (owns.0.memory ∙ sym owns'.0.memory)
    (λ p l is. false≢true (sym owns.0.full ∙ is))
    (λ p l is. false≢true (sym owns'.0.full ∙ is)) in
    ap (λ a. a ∷ xs) alike.answers
    ∙ ap (λ l. y ∷ l) (answers_once (moves_traced traced known.0 s) known.1 r (subst (λ h. IsStreamRun basis h actions files ys) (sym alike.streams) q) owns.1 owns'.1)

-- the lines of a name depend on its own actions alone
pub isolated : {basis : Basis} {files files' : List ℕ → File} (name : List ℕ) (actions actions' : List Action) (xs ys : List Answer) {m n : Machine} (r : IsRun basis (start files) actions xs m) (q : IsRun basis (start files') actions' ys n) → actions_on name actions ≡ actions_on name actions' → shown_on name r ≡ shown_on name q → Each (MakesNoForeign basis) (shown_on name r) → Each IsOwn (answers_on name actions xs) → Each IsOwn (answers_on name actions' ys) → IsAlikeOn name actions actions' xs ys
isolated {basis} {files} {files'} name actions actions' xs ys r q same shown known owns owns' =
    let on = run_on name q in
    let same_actions = subst (λ a. IsStreamRun basis None a (shown_on name q) (answers_on name actions' ys)) (sym same) on in
    let same_files = subst (λ f. IsStreamRun basis None (actions_on name actions) f (answers_on name actions' ys)) (sym shown) same_actions in
    let answers = answers_once tt known (run_on name r) same_files owns owns' in
    record {
      answers = answers;
      lines = ap (λ a. run_text a (answers_on name actions xs)) same ∙ ap (λ l. run_text (actions_on name actions') l) answers;
    }
