use Rattle.std.proofs.Common.{◌≡◌, ◌++◌, ◌∷◌, [], List, ℕ, length, ap, subst, ◌∙◌, refl, arith}
use Rattle.std.proofs.lemmas.List.{length-append}
use Rattle.hs_forest.specs.Growing.{IsBuilt}
use Rattle.hs_forest.proofs.BuilderLemmas.{built-finished}
use Rattle.hs_compile.proofs.StepLemmas.{no-steps, steps-done}
use Rattle.hs_compile.proofs.steps.Steps.of_program.Goals as goal

pub loop-number-init : goal.loop-number-init
loop-number-init c = record {
  keys = [];
  count = refl;
  are = no-steps c.args.program.now [] c.new-list.result.items c.requires refl c.new-list.ensures.items;
  built = c.new-builder.ensures;
}

pub loop-number-preserved : goal.loop-number-preserved
loop-number-preserved c =
    let was = c.loop-number.invariant in
    let own = c.in_ok-keys.keys.items in record {
      keys = was.keys ++ own ∷ [];
      count = omega (arith, length-append was.keys (own ∷ []), was.count);
      are = c.in_ok-keys.ensures was.keys was.count was.are;
      built = subst (λ (ks : List ℕ). IsBuilt c.add_chain.new.self (was.keys ++ ks ∷ [])) c.deref.ensures.value (c.in_ok-add_chain.ensures was.keys was.built);
    }

pub finish-requires : goal.finish-requires
finish-requires c = built-finished c.loop-number.builder c.loop-number.invariant.keys c.loop-number.invariant.built

pub returns : goal.returns
returns c =
    let was = c.loop-number.invariant in
    let all : c.loop-number.number ≡ length c.args.program.now.chains = omega (arith, c.loop-number-test.false, c.loop-number.auto.number-end, ap length c.chains-number-end.ensures) in record {
      keys = was.keys;
      steps_are = steps-done c.args.program.now was.keys c.loop-number.list.items (was.count ∙ all) was.are;
      forest_is = c.in_ok-forest.ensures was.keys was.built;
    }
