use Rattle.std.proofs.Common.{get_or, bit_and, ◌∙◌, ap, arith}
use Rattle.hs_confirm.proofs.confirm.Confirm.key_at.Goals as goal

pub returns : goal.returns
returns c =
    let confirm = c.args.self.now in
    ap (λ b. bit_and c.args.full (get_or confirm.masks b 0)) c.from.ensures ∙ confirm.masked c.args.bucket c.requires c.args.full (omega (arith, c.ranges.full.fits))
