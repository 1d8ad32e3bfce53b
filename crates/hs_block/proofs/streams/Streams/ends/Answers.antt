use Rattle.std.proofs.Common.{suc, arith}
use Rattle.hs_engine.specs.AnyBelow.{any_below}
use Rattle.hs_bits.specs.BlockContexts.{context_before, context_behind}
use Rattle.hs_bits.proofs.PlaceLemmas.{bit-none}
use Rattle.hs_block.proofs.StreamSettleLemmas.{Accepts, ends-all, ends-more, masked}
use Rattle.hs_block.proofs.streams.Streams.ends.Goals as goal

pub loop-position-init : goal.loop-position-init
loop-position-init g c = record {
  within = omega arith;
  ends_before = λ i small. bit-none i;
  ends_behind = λ i small. bit-none i;
}

pub loop-position-preserved : goal.loop-position-preserved
loop-position-preserved g c =
    let s = c.args.self.now in
    let entry = c.args.entry.now in
    let words = c.args.words.now in
    let live = c.args.live.now in
    let whole = c.args.whole.now in
    let x = c.in-Some.position in
    let inv = c.loop-position.invariant in
    let more = c.ends_of-more.result in
    record {
      within = omega (arith, c.in-Some.ensures.high);
      ends_before = λ i small.
          ends-more s entry.state live words c.ending-ending.result c.requires.lit.dark c.ending-ending.ensures.bits i i (context_before entry.prev whole i) c.loop-position.from x c.loop-position.before more.before c.in-Some.ensures.high
          c.in-Some.ensures.least c.in-Some.ensures.low (c.ends_of-more.ensures.before i small) (inv.ends_before i small);
      ends_behind = λ i small.
          ends-more s entry.state live words c.ending-ending.result c.requires.lit.dark c.ending-ending.ensures.bits i (suc i) (context_behind entry.prev whole i) c.loop-position.from x c.loop-position.behind more.behind c.in-Some.ensures.high
          c.in-Some.ensures.least c.in-Some.ensures.low (c.ends_of-more.ensures.behind i small) (inv.ends_behind i small);
    }

pub returns-clause-before : goal.returns-clause-before
returns-clause-before g c i =
    let s = c.args.self.now in
    let entry = c.args.entry.now in
    let here = context_before entry.prev c.args.whole.now i in
    masked c.low_places-low.result c.loop-position.before c.args.count i (any_below s.size (Accepts s entry.state c.args.words.now i here)) c.low_places-low.ensures
    (λ below.
    ends-all s entry.state c.args.live.now c.args.words.now c.ending-ending.result c.requires.lit.dark c.ending-ending.ensures.bits i i here c.loop-position.from c.loop-position.before c.loop-position.invariant.within c.in_default.ensures
    (c.loop-position.invariant.ends_before i (omega (arith, below, c.requires.few))))

pub returns-clause-behind : goal.returns-clause-behind
returns-clause-behind g c i =
    let s = c.args.self.now in
    let entry = c.args.entry.now in
    let here = context_behind entry.prev c.args.whole.now i in
    masked c.low_places-low.result c.loop-position.behind c.args.count i (any_below s.size (Accepts s entry.state c.args.words.now (suc i) here)) c.low_places-low.ensures
    (λ below.
    ends-all s entry.state c.args.live.now c.args.words.now c.ending-ending.result c.requires.lit.dark c.ending-ending.ensures.bits i (suc i) here c.loop-position.from c.loop-position.behind c.loop-position.invariant.within c.in_default.ensures
    (c.loop-position.invariant.ends_behind i (omega (arith, below, c.requires.few))))
