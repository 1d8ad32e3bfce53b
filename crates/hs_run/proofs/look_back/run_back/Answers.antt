use Rattle.std.proofs.Common.{◌≡◌, ℕ, ◌+◌, ◌-◌, ◌<◌, ◌≤◌, ◌⊎◌, length, get_or, refl, subst, ◌∙◌, inl, inr, arith}
use Rattle.std.proofs.lemmas.Bool.{cases_lt}
use Rattle.hs_run.proofs.LookLemmas.{IsRunTo, run-begin, run-end, run-more, window-byte, window-prev}
use Rattle.hs_run.proofs.look_back.run_back.Goals as goal

pub loop-i-init : goal.loop-i-init
loop-i-init g c = record {
  len = c.clear.ensures.len;
  well = c.clear.ensures.well (c.args.spot.now.at - (c.args.back + c.min-seen.result) + 0);
  ticks = omega arith;
  runs = λ tree u runs listed is.
      let n : ℕ = c.args.spot.now.at - (c.args.back + c.min-seen.result) in
      let within : n ≤ length u = omega (arith, is.offset) in
      let quiet = c.at_rest-is_at_rest.ensures.quiet ((c.at_rest-is_at_rest.ensures.zero listed).1 (c.clear.ensures.zero listed)) in
      run-begin (g.E.Engine.meaning c.args.engine.now) tree runs listed u n c.clear.new.region c.prev_behind-prev.result is.bytes within c.clear.ensures.starts quiet
      (c.prev_behind-prev.ensures
      ∙ window-prev u c.args.spot.now.history n (64 - c.args.back - c.min-seen.result - 1) is.past within (omega (arith, is.offset, c.min-seen.ensures, c.requires.within, c.requires.back)));
}

pub loop-i-preserved : goal.loop-i-preserved
loop-i-preserved g c =
    let m = g.E.Engine.meaning c.args.engine.now in
    let n : ℕ = c.args.spot.now.at - (c.args.back + c.min-seen.result) in
    let i : ℕ = c.loop-i.i in
    let place : ℕ = 64 - c.args.back - c.min-seen.result + i in
    let inv = c.loop-i.invariant in
    let e : n + i + 1 ≡ n + (i + 1) = omega arith in
    record {
      len = c.step.ensures.len;
      well = subst (m.well c.step.new.region) e c.step.ensures.well;
      ticks = omega (arith, c.step.ensures.ticks, inv.ticks);
      runs = λ tree u runs listed is.
          let below : n + i < length u = omega (arith, is.offset, c.min-seen.ensures, c.requires.within, c.loop-i-test.true) in
          run-more m tree runs listed u n i (n + i) (get_or c.args.spot.now.history place 0) c.loop-i.part c.step.new.region c.loop-i.prev c.behind-prev.result c.all.result (inv.runs tree u runs listed is) below
          (window-byte u c.args.spot.now.history (n + i) place is.past below (omega (arith, is.offset, c.min-seen.ensures, c.requires.within, c.requires.back, c.loop-i-test.true))) refl c.all.ensures c.step.ensures.takes c.behind-prev.ensures;
    }

pub returns-clause-runs : goal.returns-clause-runs
returns-clause-runs g c tree u runs listed is =
    let n : ℕ = c.args.spot.now.at - (c.args.back + c.min-seen.result) in
    let all : c.loop-i.i ≡ c.min-seen.result = omega (arith, c.loop-i-test.false, c.loop-i.auto.i-end) in
    let end : IsRunTo (g.E.Engine.meaning c.args.engine.now) tree runs listed u n c.min-seen.result c.loop-i.part c.loop-i.prev =
    subst (λ k. IsRunTo (g.E.Engine.meaning c.args.engine.now) tree runs listed u n k c.loop-i.part c.loop-i.prev) all (c.loop-i.invariant.runs tree u runs listed is) in
    let enough : (16 ≤ c.min-seen.result) ⊎ (n ≡ 0) = elim (cases_lt (c.args.spot.now.at - c.args.back) 16) [
      | inl few ↦ inr (omega (arith, few, c.min-seen.ensures))
      | inr many ↦ inl (omega (arith, many, c.min-seen.ensures))
    ] in
    run-end (g.E.Engine.meaning c.args.engine.now) tree runs listed u n c.min-seen.result c.args.back c.loop-i.part c.loop-i.prev end (omega (arith, is.offset, c.requires.within))
    (omega (arith, is.offset, c.min-seen.ensures, c.requires.within)) enough

pub returns-clause-ticks : goal.returns-clause-ticks
returns-clause-ticks g c = omega (arith, c.loop-i.invariant.ticks, c.loop-i-test.false, c.loop-i.auto.i-end, c.min-seen.ensures)
