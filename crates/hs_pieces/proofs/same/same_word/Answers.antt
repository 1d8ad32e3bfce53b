use Rattle.std.proofs.Common.{◌≡◌, ap, arith}
use Rattle.std.proofs.lemmas.Bool.{eq-eqb, eqb-true}
use Rattle.std.specs.Int.{bit_at}
use Rattle.std.proofs.Common.{eqb}
use Rattle.hs_pieces.proofs.SameLemmas.{bits-same}
use Rattle.hs_pieces.proofs.same.same_word.Goals as goal

pub returns : goal.returns
returns c =
    let x = c.args.x in
    let y = c.args.y in (
      λ is i below. let same : x ≡ y = eqb-true x y is in ap (λ n. eqb (bit_at n i) 1) same,
      λ same. eq-eqb x y (bits-same x y (omega arith) (omega arith) same),
    )
