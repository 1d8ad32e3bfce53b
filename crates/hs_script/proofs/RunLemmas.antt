-- Runs of the machine: determined but for want of memory, cut at any command, and bounded.
use Rattle.std.proofs.Common.{◌≡◌, ℕ, ◌≤◌, Bool, List, [], ◌∷◌, ◌++◌, map, refl, sym, ap, ◌∙◌, subst}
use Rattle.hs_base.specs.Lists.{Each}
use Rattle.hs_script.specs.Actions.{Action, name_of}
use Rattle.hs_script.specs.Bases.{Basis, File}
use Rattle.hs_script.specs.Machine.{most_streams, Answer, Moves, Machine, start}
use Rattle.hs_script.specs.Runs.{IsRun, none, more, run_text, ending_text, IsRunText}
use Rattle.hs_script.specs.Laws.{lacks_memory, shown_in, MakesNoForeign, AreTold, IsThrough}
use Rattle.hs_script.proofs.MachineLemmas.{IsSame, AreTraced, step_traced, step_told, sure_moves, sure_or_memory, moves_bounded, steps_once}
use Rattle.hs_script.proofs.ScriptLemmas.{script_once}

same_head : (x y : Bool) (xs ys : List Bool) → x ∷ xs ≡ y ∷ ys → (x ≡ y) × (xs ≡ ys)
same_head x y xs ys e = let head : x ≡ y = cc in let tail : xs ≡ ys = cc in (head, tail)

-- files that are told of behind a run were told of before
pub run_told : {basis : Basis} {m n : Machine} {actions : List Action} {answers : List Answer} → IsRun basis m actions answers n → AreTold n → AreTold m
run_told none told = told
run_told (more s r) told = step_told s (run_told r told)

-- runs of the same machine over the same actions have the same answers, where they lack memory at the same commands
pub runs_once : {basis : Basis} {m m' k k' : Machine} {actions : List Action} {xs ys : List Answer} (r : IsRun basis m actions xs m') (q : IsRun basis k actions ys k') → IsSame m k → AreTraced m → AreTold m' → AreTold k' → Each (MakesNoForeign basis) (shown_in r) → map lacks_memory xs ≡ map lacks_memory ys → xs ≡ ys
runs_once none none same traced told told' known e = refl
runs_once (more {answer = x} {answers = xs} s r) (more {answer = y} {answers = ys} t q) same traced told told' known e =
    let heads = same_head (lacks_memory x) (lacks_memory y) (map lacks_memory xs) (map lacks_memory ys) e in
    let alike = steps_once s t same traced (run_told r told) (run_told q told') heads.0 in
    ap (λ a. a ∷ xs) alike.answers ∙ ap (λ l. y ∷ l) (runs_once r q alike.machines (step_traced s known.0 traced) told told' known.1 heads.1)

-- a run over bytes has one text, given where it lacks memory
pub text_once : {basis : Basis} {files : List ℕ → File} {bytes : List ℕ} {xs ys : List Answer} {text text' : List ℕ} (p : IsRunText basis files bytes xs text) (q : IsRunText basis files bytes ys text') → AreTold p.after → AreTold q.after → Each (MakesNoForeign basis) (shown_in p.run) → map lacks_memory xs ≡ map lacks_memory ys → text ≡ text'
text_once {basis} {files} {bytes} {xs} {ys} {text} {text'} p q told told' known e =
    let same = script_once p.script q.script in
    let answers = runs_once p.run (subst (λ a. IsRun basis (start files) a ys q.after) (sym same.same_actions) q.run) (record { streams = λ name. refl; counts = refl; files = λ name. refl }) (λ name. tt) told told' known e in
    p.whole
    ∙ (ap (λ a. run_text a xs ++ ending_text p.ending) same.same_actions
    ∙ (ap (λ l. run_text q.actions l ++ ending_text p.ending) answers
    ∙ (ap (λ f. run_text q.actions ys ++ ending_text f) same.same_ending ∙ sym q.whole)))

-- a run goes through each of its actions
pub through : {basis : Basis} {m after : Machine} (front back : List Action) (action : Action) {answers : List Answer} → IsRun basis m (front ++ action ∷ back) answers after → IsThrough basis m front action back answers after
through {basis} {m} [] back action (more {between = between} {answer = answer} {answers = answers} s r) =
    record {
      first = [];
      answer = answer;
      others = answers;
      before = m;
      behind = between;
      whole = refl;
      leads = none;
      steps = s;
      follows = r;
      sure = λ h reply is_open sure. sure_moves sure (subst (λ o. Moves basis m.count s.shown o action answer (between.stream (name_of action))) is_open s.moves);
      sure_by_memory = λ reply no room sure. sure_or_memory room sure s.moves;
    }
through (other ∷ front) back action (more {answer = answer} s r) =
    let t = through front back action r in
    record {
      first = answer ∷ t.first;
      answer = t.answer;
      others = t.others;
      before = t.before;
      behind = t.behind;
      whole = ap (λ l. answer ∷ l) t.whole;
      leads = more s t.leads;
      steps = t.steps;
      follows = t.follows;
      sure = t.sure;
      sure_by_memory = t.sure_by_memory;
    }

-- a run keeps the number of open streams within what may be
pub bounded : {basis : Basis} {m after : Machine} {actions : List Action} {answers : List Answer} → IsRun basis m actions answers after → m.count ≤ most_streams → after.count ≤ most_streams
bounded none small = small
bounded (more s r) small = bounded r (moves_bounded s.moves small s.counted)
