use Rattle.std.proofs.Common.{sym, subst, true}
use Rattle.hs_base.specs.Contexts.{Context, context_of, prev_at}
use Rattle.hs_base.specs.ContextSets.{has_next}
use Rattle.hs_base.proofs.StreamContexts.{same-context}
use Rattle.hs_engine.specs.Automata.{accepts, in_mask}
use Rattle.std.proofs.Common.{◌≡◌, length, refl, slice_get}
use Rattle.hs_limex.proofs.PlainLemmas.{bit-leaves, leaves-bit, not-true, true-false}
use Rattle.hs_base.proofs.BitLemmas.{zero-bits}
use Rattle.hs_base.specs.Bits.{has_bit}
use Rattle.hs_nfa.proofs.plain.PlainEngine.out.Goals as goal

pub returns-then-is_zero-clause-leaves : goal.returns-then-is_zero-clause-leaves
returns-then-is_zero-clause-leaves c tree u entered runs len at prev field next = (
  λ told. true-false (has_next c.empty.result next) told (c.empty.ensures next),
  λ leaves.
      let (x, set, is) = leaves-bit c.args.self.now.automaton tree runs u entered c.args.region.now field next leaves in
      true-false (has_bit c.args.region.now x) set (zero-bits c.args.region.now (c.is_zero.ensures.0 c.if-is_zero.true) x),
)

pub returns-clause-leaves : goal.returns-clause-leaves
returns-clause-leaves c tree u entered runs len at prev field next =
    let a = c.args.self.now.automaton in
    let same : ◌≡◌ {A = Context} (record { prev = c.args.prev; next = next }) (context_of u next) = same-context c.args.prev (prev_at u (length u)) next next prev refl in (
      λ told.
          let (x, set, is) = c.accepted.ensures.sound next told in
          bit-leaves a tree runs u entered c.args.region.now field next x set (subst (λ h. accepts a x h ≡ true) same (subst (λ masks. in_mask (slice_get masks x) (record { prev = c.args.prev; next = next }) ≡ true) c.accepts.ensures is)),
      λ leaves.
          let (x, set, is) = leaves-bit a tree runs u entered c.args.region.now field next leaves in
          c.accepted.ensures.whole next x set
          (subst (λ masks. in_mask (slice_get masks x) (record { prev = c.args.prev; next = next }) ≡ true) (sym c.accepts.ensures) (subst (λ h. accepts a x h ≡ true) (sym same) is)),
    )

pub returns-clause-rests : goal.returns-clause-rests
returns-clause-rests c never zeros next =
    not-true (has_next c.accepted.result next)
    (λ told.
    let (x, set, is) = c.accepted.ensures.sound next told in
    true-false (has_bit c.args.region.now x) set (zero-bits c.args.region.now zeros x))
