use Rattle.std.proofs.Common.{◌∙◌}
use Rattle.hs_base.specs.Contexts.{Context}
use Rattle.hs_base.specs.Bits.{has_bit}
use Rattle.hs_engine.specs.Tables.{leads_to}
use Rattle.hs_limex.proofs.PlainLemmas.{any-more, byte-skipped}
use Rattle.hs_nfa.proofs.plain.follow_byte.Goals as goal

pub returns-then-region-place-eq0-clause-bits : goal.returns-then-region-place-eq0-clause-bits
returns-then-region-place-eq0-clause-bits c k first known =
    byte-skipped c.args.follows.now c.args.region.now (record { prev = c.args.prev; next = c.args.next }) c.args.place k (has_bit c.args.led.now k) first c.if-region-place-eq0.true known

pub loop-position-preserved : goal.loop-position-preserved
loop-position-preserved c =
    let here : Context = record { prev = c.args.prev; next = c.args.next } in
    record {
      len = c.follow_one.ensures.len ∙ c.loop-position.invariant.len;
      bits = λ k first known.
          any-more c.loop-position.position (leads_to c.args.follows.now c.args.region.now here k) (has_bit c.loop-position.led k) (has_bit c.follow_one.new.led k) first
          (c.loop-position.invariant.bits k first known) (c.follow_one.ensures.bits k);
    }
