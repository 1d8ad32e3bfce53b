use Rattle.std.proofs.Common.{ℕ, ◌+◌, ◌<◌, ◌∷◌, [], ◌++◌, ◌≡◌, length, subst, sym, ap, ◌∙◌, slice_get, set, arith}
use Rattle.hs_engine.specs.Automata.{in_set}
use Rattle.hs_states.specs.AutomatonStates.{AreClassesTo, IsFootingOf}
use Rattle.hs_states.specs.Footings.{IsLikeOne}
use Rattle.hs_states.proofs.ClassLemmas.{classes-known, classes-new}
use Rattle.hs_states.proofs.byte_classes.ByteClasses.add.Goals as goal

pub returns-in-Some : goal.returns-in-Some
returns-in-Some c =
    let a = c.args.automaton.now in
    let b : ℕ = c.args.byte in
    let small : b < 256 = omega arith in
    let is : IsFootingOf a b c.of_byte-footing.result = record {
      positions = λ k. c.of_byte-footing.ensures.takes k ∙ ap (λ xs. in_set (slice_get xs k) b) c.sets.ensures;
      prev = c.of_byte-footing.ensures.prev ∙ c.behind.ensures;
    } in
    classes-known a c.args.self.now.classes c.args.self.now.firsts.items c.args.self.now.footings.items b c.requires small c.of_byte-footing.result is c.in-Some.number
    (subst (λ xs. IsLikeOne xs c.of_byte-footing.result c.in-Some.number) c.deref.ensures.value c.in-Some.ensures)

pub returns-in_ok-push-in-None-2 : goal.returns-in_ok-push-in-None-2
returns-in_ok-push-in-None-2 c =
    let a = c.args.automaton.now in
    let b : ℕ = c.args.byte in
    let small : b < 256 = omega arith in
    let table = c.args.self.now.classes in
    let firsts = c.args.self.now.firsts.items in
    let footings = c.args.self.now.footings.items in
    let g = c.of_byte-footing.result in
    let is : IsFootingOf a b g = record {
      positions = λ k. c.of_byte-footing.ensures.takes k ∙ ap (λ xs. in_set (slice_get xs k) b) c.sets.ensures;
      prev = c.of_byte-footing.ensures.prev ∙ c.behind.ensures;
    } in
    let number : length footings ≡ c.len.result = omega (arith, c.len.ensures, c.args.self.now.footings.ok.0) in
    subst (λ z. AreClassesTo a (set table b z) c.push.new.self.items c.push-in-None.new.self.items (b + 1)) number
    (subst (λ z. AreClassesTo a (set table b (length footings)) z c.push-in-None.new.self.items (b + 1)) (sym c.in_ok-push-in-None.ensures.items)
    (subst (λ z. AreClassesTo a (set table b (length footings)) (firsts ++ b ∷ []) z (b + 1)) (sym c.in_ok-push-in-None-2.ensures.items)
    (classes-new a table firsts footings b c.requires small g is)))
