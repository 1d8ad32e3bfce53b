use Rattle.std.proofs.Common.{◌≡◌, ℕ, ◌+◌, ◌-◌, ◌≤◌, ◌<◌, [], ◌∷◌, ◌++◌, length, take, sym, ap, subst, ◌∙◌, inr, arith}
use Rattle.std.proofs.lemmas.Option.{slice_get_within}
use Rattle.std.proofs.Math.Seq.{take-length}
use Rattle.hs_base.specs.ContextSets.{has_next}
use Rattle.hs_base.specs.Leaving.{TellsLeaving}
use Rattle.hs_layout.specs.Layouts.{field_bytes}
use Rattle.hs_rose.specs.PieceEngines.{piece_meaning}
use Rattle.hs_run.specs.Chains.{AreKept, AreParts, AreWritten}
use Rattle.hs_run.specs.Pieces.{GoesOn, IsPart, KeepsOn}
use Rattle.hs_run.specs.Programs.{looked}
use Rattle.hs_run.proofs.ChainLemmas.{leaves-next, keeps-next, begin-kept, no_field-parts, parts-more, kept-more}
use Rattle.hs_run.proofs.LayoutLemmas.{there, starts-count, written-none, written-more}
use Rattle.hs_run.proofs.chains.step_chain.Goals as goal

pub step_at-now-requires-clause-part : goal.step_at-now-requires-clause-part
step_at-now-requires-clause-part g c r role =
    let k : ℕ = c.loop-k.k in
    let inv = c.loop-k.invariant in
    let below : k < length c.args.program.now.roles = slice_get_within c.args.program.now.roles k r role in
    let same : field_bytes c.args.layout.now c.loop-k.region k ≡ field_bytes c.args.layout.now c.args.region.now k =
    inv.written.others k (inr (let le : k ≤ k = omega arith in le)) (omega (arith, below, starts-count c.args.program.now c.args.layout.now c.requires.fits)) in
    subst (λ bytes. IsPart c.args.program.now r bytes c.args.spot.now.at) (sym same)
    (c.requires.parts k r inv.low c.loop-k-test.true role)

pub loop-k-init : goal.loop-k-init
loop-k-init g c = record {
  low = c.begin_chain-begun.ensures.low;
  ticks = c.begin_chain-begun.ensures.ticks;
  written = written-none c.args.layout.now c.args.chain.now.first c.begin_chain-begun.result.next c.args.region.now;
  parts = no_field-parts c.args.program.now c.args.layout.now c.args.region.now c.args.chain.now.first c.begin_chain-begun.result.next (c.args.spot.now.at + 1) c.begin_chain-begun.ensures.bare;
  next = λ plan x u runs is. let begins = c.begin_chain-begun.ensures.begins plan x u runs is in omega (arith, begins.next);
  leaves = λ plan x u runs is kept.
      let begins = c.begin_chain-begun.ensures.begins plan x u runs is in
      let e : looked (plan.looks_back x.chain) ≡ c.begin_chain-begun.result.next - c.args.chain.now.first = omega (arith, begins.next) in
      subst (λ n. TellsLeaving (has_next c.begin_chain-begun.result.now) (take n x.chain) u) e begins.leaves;
  keeps = λ plan x u runs is kept.
      let begins = c.begin_chain-begun.ensures.begins plan x u runs is in
      begin-kept c.args.program.now plan c.args.chain.now x runs c.args.layout.now c.args.region.now u (u ++ c.args.byte ∷ []) c.begin_chain-begun.result.next begins.next c.begin_chain-begun.ensures.high kept;
}

pub loop-k-preserved : goal.loop-k-preserved
loop-k-preserved g c =
    let meaning = piece_meaning in
    let program = c.args.program.now in
    let l = c.args.layout.now in
    let k : ℕ = c.loop-k.k in
    let first : ℕ = c.args.chain.now.first in
    let inv = c.loop-k.invariant in
    let step = c.step_at-now.ensures in
    let (r, role) = there program.roles k (omega (arith, c.loop-k-test.true, c.requires.sound.within)) in
    let count : length l.starts ≡ length program.roles + 1 = starts-count program l c.requires.fits in
    let inside : k + 1 < length l.starts = omega (arith, slice_get_within program.roles k r role, count) in
    let same : field_bytes l c.loop-k.region k ≡ field_bytes l c.args.region.now k = inv.written.others k (inr (let le : k ≤ k = omega arith in le)) inside in
    let goes : GoesOn program r (field_bytes l c.args.region.now k) c.args.spot.now c.loop-k.now c.step_at-now.result =
    subst (λ bytes. GoesOn program r bytes c.args.spot.now c.loop-k.now c.step_at-now.result) same (step.leaves r role) in
    let keeps : KeepsOn program r (field_bytes l c.args.region.now k) (field_bytes l c.step_at-now.new.region k) c.args.spot.now c.args.byte c.loop-k.now =
    subst (λ bytes. KeepsOn program r bytes (field_bytes l c.step_at-now.new.region k) c.args.spot.now c.args.byte c.loop-k.now) same (step.keeps r role) in
    record {
      low = omega (arith, inv.low);
      ticks = omega (arith, inv.low, inv.ticks, step.ticks);
      written = written-more l first k (k + 1) c.args.region.now c.loop-k.region c.step_at-now.new.region inv.low (omega arith) inv.written step.written;
      parts = parts-more program l first k (c.args.spot.now.at + 1) c.loop-k.region c.step_at-now.new.region inside step.written inv.parts step.part;
      next = λ plan x u runs is. let n = inv.next plan x u runs is in omega (arith, n);
      leaves = λ plan x u runs is kept.
          leaves-next program plan c.args.chain.now x runs l u c.args.spot.now is k r (inv.next plan x u runs is) c.loop-k-test.true role c.loop-k.now (inv.leaves plan x u runs is kept)
          (field_bytes l c.args.region.now k) c.step_at-now.result (λ p place. kept k p inv.low c.loop-k-test.true place) goes;
      keeps = λ plan x u runs is kept.
          kept-more plan l first k c.loop-k.region c.step_at-now.new.region (u ++ c.args.byte ∷ []) inside step.written (inv.keeps plan x u runs is kept)
          (λ p place.
          keeps-next program plan c.args.chain.now x runs l u c.args.spot.now is k r (inv.next plan x u runs is) c.loop-k-test.true role c.loop-k.now (inv.leaves plan x u runs is kept)
          (field_bytes l c.args.region.now k) (field_bytes l c.step_at-now.new.region k) c.args.byte keeps p place (kept k p inv.low c.loop-k-test.true place));
    }

pub returns-clause-written : goal.returns-clause-written
returns-clause-written g c =
    let e : c.loop-k.k ≡ c.args.chain.now.end = omega (arith, c.loop-k-test.false, c.loop-k.auto.k-end c.begin_chain-begun.ensures.high) in
    subst (λ n. AreWritten c.args.layout.now c.args.chain.now.first n c.args.region.now c.loop-k.region) e c.loop-k.invariant.written

pub returns-clause-parts : goal.returns-clause-parts
returns-clause-parts g c =
    let e : c.loop-k.k ≡ c.args.chain.now.end = omega (arith, c.loop-k-test.false, c.loop-k.auto.k-end c.begin_chain-begun.ensures.high) in
    subst (λ n. AreParts c.args.program.now c.args.layout.now c.loop-k.region c.args.chain.now.first n (c.args.spot.now.at + 1)) e c.loop-k.invariant.parts

pub returns-clause-leaves : goal.returns-clause-leaves
returns-clause-leaves g c plan x u runs is kept =
    let e : c.loop-k.k - c.args.chain.now.first ≡ length x.chain = omega (arith, c.loop-k-test.false, c.loop-k.auto.k-end c.begin_chain-begun.ensures.high, runs.end) in
    subst (λ pieces. TellsLeaving (has_next c.loop-k.now) pieces u) (ap (λ n. take n x.chain) e ∙ take-length x.chain) (c.loop-k.invariant.leaves plan x u runs is kept)

pub returns-clause-steps : goal.returns-clause-steps
returns-clause-steps g c plan x u runs is kept =
    let e : c.loop-k.k ≡ c.args.chain.now.end = omega (arith, c.loop-k-test.false, c.loop-k.auto.k-end c.begin_chain-begun.ensures.high) in
    subst (λ n. AreKept plan c.args.layout.now c.loop-k.region c.args.chain.now.first n (u ++ c.args.byte ∷ [])) e (c.loop-k.invariant.keeps plan x u runs is kept)

pub returns-clause-ticks : goal.returns-clause-ticks
returns-clause-ticks g c =
    let e : c.loop-k.k ≡ c.args.chain.now.end = omega (arith, c.loop-k-test.false, c.loop-k.auto.k-end c.begin_chain-begun.ensures.high) in
    omega (arith, e, c.loop-k.invariant.ticks)
