use Rattle.std.proofs.Common.{◌≡◌, ℕ, ◌-◌, length, take, ap, subst, ◌∙◌, arith}
use Rattle.std.proofs.Math.Seq.{take-length}
use Rattle.hs_base.specs.ContextSets.{has_next}
use Rattle.hs_base.specs.Leaving.{TellsLeaving}
use Rattle.hs_layout.specs.Layouts.{field_bytes}
use Rattle.hs_run.specs.Programs.{looked}
use Rattle.hs_run.proofs.ChainLemmas.{leaves-next}
use Rattle.hs_run.proofs.LayoutLemmas.{there}
use Rattle.hs_run.proofs.chains.leave_chain.Goals as goal

pub leave_at-now-requires-clause-part : goal.leave_at-now-requires-clause-part
leave_at-now-requires-clause-part g c r role = c.requires.parts c.loop-k.k r c.loop-k.invariant.low c.loop-k-test.true role

pub loop-k-init : goal.loop-k-init
loop-k-init g c = record {
  low = c.begin_chain-begun.ensures.low;
  next = λ plan x u runs is. let begins = c.begin_chain-begun.ensures.begins plan x u runs is in omega (arith, begins.next);
  leaves = λ plan x u runs is kept.
      let begins = c.begin_chain-begun.ensures.begins plan x u runs is in
      let e : looked (plan.looks_back x.chain) ≡ c.begin_chain-begun.result.next - c.args.chain.now.first = omega (arith, begins.next) in
      subst (λ n. TellsLeaving (has_next c.begin_chain-begun.result.now) (take n x.chain) u) e begins.leaves;
}

pub loop-k-preserved : goal.loop-k-preserved
loop-k-preserved g c =
    let k : ℕ = c.loop-k.k in
    let inv = c.loop-k.invariant in
    let (r, role) = there c.args.program.now.roles k (omega (arith, c.loop-k-test.true, c.requires.sound.within)) in
    record {
      low = omega (arith, inv.low);
      next = λ plan x u runs is. let n = inv.next plan x u runs is in omega (arith, n);
      leaves = λ plan x u runs is kept.
          leaves-next c.args.program.now plan c.args.chain.now x runs c.args.layout.now u c.args.spot.now is k r (inv.next plan x u runs is) c.loop-k-test.true role c.loop-k.now (inv.leaves plan x u runs is kept)
          (field_bytes c.args.layout.now c.args.region.now k) c.leave_at-now.result (λ p place. kept k p inv.low c.loop-k-test.true place) (c.leave_at-now.ensures r role);
    }

pub returns-clause-leaves : goal.returns-clause-leaves
returns-clause-leaves g c plan x u runs is kept =
    let e : c.loop-k.k - c.args.chain.now.first ≡ length x.chain = omega (arith, c.loop-k-test.false, c.loop-k.auto.k-end c.begin_chain-begun.ensures.high, runs.end) in
    subst (λ pieces. TellsLeaving (has_next c.loop-k.now) pieces u) (ap (λ n. take n x.chain) e ∙ take-length x.chain) (c.loop-k.invariant.leaves plan x u runs is kept)

pub returns-clause-ticks : goal.returns-clause-ticks
returns-clause-ticks g c = omega (arith, c.begin_chain-begun.ensures.ticks, c.begin_chain-begun.ensures.low, c.begin_chain-begun.ensures.high)
