use Rattle.std.proofs.Common.{◌≡◌, ◌<◌, false, true, sym, ◌∙◌, get_or, arith}
use Rattle.hs_plain.proofs.ByteLemmas.{byte_of-has, has-byte_of}
use Rattle.hs_plain.proofs.ends.is_byte_of.Goals as goal

pub returns-then-at-stream-clause-member : goal.returns-then-at-stream-clause-member
returns-then-at-stream-clause-member c =
    let stream = c.args.stream.now in
    let small : get_or stream c.args.at 0 < 256 = omega (arith, c.type_inv.stream c.args.at) in (
      λ is. byte_of-has c.args.set.now stream c.args.at small c.if-at-stream.true (sym c.contains.ensures ∙ is),
      λ byte. c.contains.ensures ∙ (has-byte_of c.args.set.now stream c.args.at small byte).1,
    )

pub returns-else-at-stream-clause-member : goal.returns-else-at-stream-clause-member
returns-else-at-stream-clause-member c =
    let stream = c.args.stream.now in
    let small : get_or stream c.args.at 0 < 256 = omega (arith, c.type_inv.stream c.args.at) in (
      λ is. let e : false ≡ true = is in cc,
      λ byte. let (within, _) = has-byte_of c.args.set.now stream c.args.at small byte in absurd (omega arith),
    )
