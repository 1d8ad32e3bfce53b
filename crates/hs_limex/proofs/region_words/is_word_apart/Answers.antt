use Rattle.std.proofs.Common.{bit_and, get_or, arith}
use Rattle.std.proofs.lemmas.Bool.{eqb-true}
use Rattle.hs_limex.proofs.RegionWordLemmas.{apart-one}
use Rattle.hs_limex.proofs.region_words.is_word_apart.Goals as goal

pub returns : goal.returns
returns c is k =
    let row = c.args.row.now in
    apart-one c.args.bytes.now row c.load.result k (omega (arith, c.requires.bytes, c.requires.row)) c.load.ensures (eqb-true (bit_and c.load.result (get_or row 0 0)) 0 is)
