use Rattle.std.proofs.Common.{◌≡◌, ℕ, ◌<◌, length, List, inl, inr, length-set, Some, slice_get, sym, ap, subst, ◌∙◌, refl, arith}
use Rattle.std.proofs.lemmas.List.{with_items_is}
use Rattle.std.proofs.lemmas.Option.{slice_get_within, slice_get-get_or}
use Rattle.std.specs.Vec.{with_items}
use Rattle.hs_base.specs.Bits.{AreZero}
use Rattle.hs_lazy.specs.declared.parts.Run.{Run}
use Rattle.hs_lazy.proofs.ListLemmas.{get-set}
use Rattle.hs_lazy.proofs.ToldLemmas.{loaded-sized, loaded-zero}
use Rattle.hs_lazy.proofs.cache.Cache.begin.Goals as goal

pub returns-clause-zero : goal.returns-clause-zero
returns-clause-zero c =
    let whole : (with_items c.args.self.now.runs c.loop-run.run-items).items ≡ c.loop-run.run-items = with_items_is c.args.self.now.runs c.loop-run.run-items (c.loop-run.invariant.len ∙ sym c.args.self.now.runs.ok.0) in
    loaded-zero _ (λ (i : ℕ) (run : Run) (is : slice_get (with_items c.args.self.now.runs c.loop-run.run-items).items i ≡ Some run).
    let is' : slice_get c.loop-run.run-items i ≡ Some run = subst (λ (l : List Run). slice_get l i ≡ Some run) whole is in
    c.loop-run.invariant.zero i run (omega (arith, slice_get_within c.loop-run.run-items i run is', c.loop-run-test.false)) is')

pub returns-clause-sized : goal.returns-clause-sized
returns-clause-sized c =
    let whole : (with_items c.args.self.now.runs c.loop-run.run-items).items ≡ c.loop-run.run-items = with_items_is c.args.self.now.runs c.loop-run.run-items (c.loop-run.invariant.len ∙ sym c.args.self.now.runs.ok.0) in
    loaded-sized c.args.self.now _ refl (ap length whole ∙ c.loop-run.invariant.len)
    (λ i run is. c.loop-run.invariant.sized i run (subst (λ (l : List Run). slice_get l i ≡ Some run) whole is))

pub loop-run-init : goal.loop-run-init
loop-run-init c = record {
  len = ap length c.deref_mut-run-items.ensures.value;
  zero = λ i run low is. absurd (omega (arith, low));
  sized = λ i run is. (run, subst (λ (l : List Run). slice_get l i ≡ Some run) c.deref_mut-run-items.ensures.value is, refl);
}

pub loop-run-preserved : goal.loop-run-preserved
loop-run-preserved c =
    let low : c.loop-run.run-index < length c.loop-run.run-items = omega (arith, c.loop-run-test.true) in
    record {
      len = length-set c.loop-run.run-items c.loop-run.run-index _ ∙ c.loop-run.invariant.len;
      zero = λ i run below is. elim (get-set c.loop-run.run-items c.loop-run.run-index _ i run low is) [
        | inl (here, what) ↦ subst (λ (x : Run). AreZero x.image) (sym what) c.clear_bits.ensures.zero
        | inr (other, was) ↦ c.loop-run.invariant.zero i run (omega (arith, below, other)) was
      ];
      sized = λ i run is. elim (get-set c.loop-run.run-items c.loop-run.run-index _ i run low is) [
        | inl (here, what) ↦
            let prior : (old : Run) × (slice_get c.args.self.now.runs.items c.loop-run.run-index ≡ Some old) × (length _ ≡ length old.image) = c.loop-run.invariant.sized c.loop-run.run-index _ (slice_get-get_or c.loop-run.run-items c.loop-run.run-index _ low) in
            (prior.0, subst (λ n. slice_get c.args.self.now.runs.items n ≡ Some prior.0) (sym here) prior.1, ap (λ (x : Run). length x.image) what ∙ (c.clear_bits.ensures.len ∙ prior.2))
        | inr (other, was) ↦ c.loop-run.invariant.sized i run was
      ];
    }
