use Rattle.std.proofs.Common.{◌∙◌, sym, arith}
use Rattle.std.proofs.lemmas.List.{length-map}
use Rattle.hs_base.specs.LiteralView.{literal_byte}
use Rattle.hs_confirm.proofs.TakingLemmas.{ends_there-late}
use Rattle.hs_confirm.proofs.taking.ends_there.Goals as goal

pub returns-then-literal-at : goal.returns-then-literal-at
returns-then-literal-at c =
    let same = length-map c.args.literal.now literal_byte in
    c.takes_all.ensures ∙ sym (ends_there-late _ c.args.history.now c.args.bytes.now c.args.at _ _ (omega arith) (omega arith))
