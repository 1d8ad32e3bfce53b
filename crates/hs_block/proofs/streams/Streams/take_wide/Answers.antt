use Rattle.std.proofs.Common.{arith}
use Rattle.hs_block.proofs.streams.Streams.take_wide.Goals as goal

pub take-requires : goal.take-requires
take-requires g c = record {
  fits = record { room = omega (arith, c.if-self-eq2.true); few = omega arith; exact = λ few. c.if-self-eq2.true };
  len = c.requires.len;
  clear = c.requires.clear;
  whole = c.requires.whole;
  blank = c.requires.blank;
  few = c.requires.few;
  first = c.requires.first;
  room = omega arith;
}

pub take-requires-then-self-eq-EXACT_WIDTH : goal.take-requires-then-self-eq-EXACT_WIDTH
take-requires-then-self-eq-EXACT_WIDTH g c = record {
  fits = record { room = omega (arith, c.if-self-eq-EXACT_WIDTH.true); few = omega arith; exact = λ few. c.if-self-eq-EXACT_WIDTH.true };
  len = c.requires.len;
  clear = c.requires.clear;
  whole = c.requires.whole;
  blank = c.requires.blank;
  few = c.requires.few;
  first = c.requires.first;
  room = omega arith;
}

pub take-requires-2 : goal.take-requires-2
take-requires-2 g c =
    let s = c.args.self.now in
    record {
      fits = record { room = omega (arith, s.wide, s.few); few = omega arith; exact = λ few. absurd (omega (arith, few)) };
      len = c.requires.len;
      clear = c.requires.clear;
      whole = c.requires.whole;
      blank = c.requires.blank;
      few = c.requires.few;
      first = c.requires.first;
      room = omega arith;
    }
