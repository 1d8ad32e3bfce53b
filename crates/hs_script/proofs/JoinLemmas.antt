-- What a loop over a script wants: a step from a move, and runs and texts in a row.
use Rattle.std.proofs.Common.{◌≡◌, ◌≢◌, ℕ, ◌+◌, Bool, true, false, List, [], ◌∷◌, ◌++◌, bytes_eq, Option, None, refl, sym, ap, ◌∙◌, subst, append_assoc, append-nil, if◌then◌else◌}
use Rattle.std.proofs.lemmas.Slice.Eq.{bytes_eq-Decides}
use Rattle.hs_script.specs.Actions.{Action, name_of}
use Rattle.hs_script.specs.Bases.{Basis, Stream, File, Untold}
use Rattle.hs_script.specs.Machine.{Answer, Moves, Machine, opens, IsShown, put_by, LeavesFiles, Steps}
use Rattle.hs_script.specs.Runs.{IsRun, none, more, answer_text, run_text}

-- the machine with another stream at this name, another count, and other files
abbrev pub moved_to : Machine → List ℕ → Option Stream → ℕ → (List ℕ → File) → Machine
moved_to m name h count file = record { stream = λ n. if bytes_eq n name then h else m.stream n; count = count; file = file }

pub moved_here : (m : Machine) (name : List ℕ) (h : Option Stream) (count : ℕ) (file : List ℕ → File) → (moved_to m name h count file).stream name ≡ h
moved_here m name h count file = ap (λ t. if t then h else m.stream name) ((bytes_eq-Decides name name).1 refl)

pub moved_elsewhere : (m : Machine) (name : List ℕ) (h : Option Stream) (count : ℕ) (file : List ℕ → File) (other : List ℕ) → other ≢ name → (moved_to m name h count file).stream other ≡ m.stream other
moved_elsewhere m name h count file other apart = by_test (bytes_eq other name) refl
  where
    by_test : (t : Bool) → bytes_eq other name ≡ t → (if bytes_eq other name then h else m.stream other) ≡ m.stream other
    by_test true e = absurd (apart ((bytes_eq-Decides other name).0 e))
    by_test false e = ap (λ t. if t then h else m.stream other) e

-- a move of one stream is a step of the machine
pub steps_from : {basis : Basis} (m : Machine) (action : Action) (answer : Answer) (shown : File) (h : Option Stream) (count : ℕ) (file : List ℕ → File) → IsShown m.file action shown → Moves basis m.count shown (m.stream (name_of action)) action answer h → count + opens (m.stream (name_of action)) ≡ m.count + opens h → LeavesFiles basis m.file file (put_by (m.stream (name_of action)) action answer.reply) → Steps basis m action answer (moved_to m (name_of action) h count file)
steps_from {basis} m action answer shown h count file shows moves counted files =
    let here = moved_here m (name_of action) h count file in
    record {
      shown = shown;
      shows = shows;
      moves = subst (λ i. Moves basis m.count shown (m.stream (name_of action)) action answer i) (sym here) moves;
      others = λ name other. moved_elsewhere m (name_of action) h count file name other;
      counted = counted ∙ ap (λ i. m.count + opens i) (sym here);
      files = files;
    }

-- so is one that neither looks at a file nor puts one
pub steps_kept : {basis : Basis} (m : Machine) (action : Action) (answer : Answer) (h : Option Stream) (count : ℕ) → IsShown m.file action Untold → put_by (m.stream (name_of action)) action answer.reply ≡ None → Moves basis m.count Untold (m.stream (name_of action)) action answer h → count + opens (m.stream (name_of action)) ≡ m.count + opens h → Steps basis m action answer (moved_to m (name_of action) h count m.file)
steps_kept {basis} m action answer h count shows nothing moves counted =
    steps_from m action answer Untold h count m.file shows moves counted (subst (LeavesFiles basis m.file m.file) (sym nothing) (λ name. refl))

-- a run goes on
pub run_join : {basis : Basis} {m k n : Machine} {actions actions' : List Action} {xs ys : List Answer} → IsRun basis m actions xs k → IsRun basis k actions' ys n → IsRun basis m (actions ++ actions') (xs ++ ys) n
run_join none q = q
run_join (more s r) q = more s (run_join r q)

-- by one step
pub run_step : {basis : Basis} {m k n : Machine} {actions : List Action} {xs : List Answer} {action : Action} {answer : Answer} → IsRun basis m actions xs k → Steps basis k action answer n → IsRun basis m (actions ++ action ∷ []) (xs ++ answer ∷ []) n
run_step r s = run_join r (more s none)

-- the text of a run that goes on
pub text_join : {basis : Basis} {m k : Machine} {actions : List Action} {xs : List Answer} (actions' : List Action) (ys : List Answer) → IsRun basis m actions xs k → run_text (actions ++ actions') (xs ++ ys) ≡ run_text actions xs ++ run_text actions' ys
text_join actions' ys none = refl
text_join actions' ys (more {action = action} {answer = answer} {actions = actions} {answers = answers} s r) =
    ap (λ t. answer_text action answer ++ t) (text_join actions' ys r)
    ∙ sym (append_assoc (answer_text action answer) (run_text actions answers) (run_text actions' ys))

-- and by one step
pub text_step : {basis : Basis} {m k : Machine} {actions : List Action} {xs : List Answer} (action : Action) (answer : Answer) → IsRun basis m actions xs k → run_text (actions ++ action ∷ []) (xs ++ answer ∷ []) ≡ run_text actions xs ++ answer_text action answer
text_step {actions = actions} {xs = xs} action answer r =
    text_join (action ∷ []) (answer ∷ []) r ∙ ap (λ t. run_text actions xs ++ t) (append-nil (answer_text action answer))
