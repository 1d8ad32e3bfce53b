use Rattle.std.proofs.Common.{◌<◌, ◌∙◌, sym, arith}
use Rattle.std.proofs.lemmas.List.{at_drop_all}
use Rattle.hs_text.specs.FlagLetters.{flag_bit, flags_from}
use Rattle.hs_text.proofs.CutLemmas.{each-from_index}
use Rattle.hs_text.proofs.flag.flags_of.Goals as goal

pub returns : goal.returns
returns c = record {
  each = each-from_index (λ letter. 0 < flag_bit letter) c.args.letters.now (λ k below. c.loop-letter.invariant.each k (omega arith));
  named = sym c.loop-letter.invariant.kept ∙ at_drop_all (flags_from c.loop-letter.flags.0) c.args.letters.now c.loop-letter.letter-index (omega arith);
}
