use Rattle.std.proofs.Common.{◌≡◌, true, false, length, subst, slice_index, arith, vec_len}
use Rattle.hs_states.specs.AutomatonStates.{AreBuilt}
use Rattle.hs_states.proofs.BuildLemmas.{built-row, class-few}
use Rattle.hs_states.proofs.subsets.Subsets.take_state.Goals as goal

pub returns-clause-built : goal.returns-clause-built
returns-clause-built c =
    let a = c.args.automaton.now in
    let classes = c.args.classes.now in
    let known = c.loop-class.self.known.items in
    let rows = c.loop-class.self.rows.items in
    let counted : vec_len classes.footings ≡ length classes.footings.items = classes.footings.ok.0 in
    let last : c.loop-class.class ≡ vec_len classes.footings = omega (arith, c.loop-class-test.false) in
    record {
      built = λ e.
          built-row a (slice_index classes.classes) (vec_len classes.footings) known rows c.args.state (class-few a classes.classes classes.firsts.items classes.footings.items (vec_len classes.footings) counted c.requires.classes)
          (subst (λ n. AreBuilt a (slice_index classes.classes) (vec_len classes.footings) known rows c.args.state n) last c.loop-class.invariant.built);
      too_many = λ never. absurd (let e : true ≡ false = never in cc);
    }
