use Rattle.std.proofs.Common.{◌∙◌, sym, arith}
use Rattle.hs_confirm.proofs.KeyLemmas.{text_place-before, text_place-bytes, text_place-history}
use Rattle.hs_confirm.proofs.keys.text_place.Goals as goal

pub returns-then-back-at : goal.returns-then-back-at
returns-then-back-at c = c.folded.ensures ∙ sym (text_place-bytes c.args.history.now c.args.bytes.now c.args.at c.args.back c.if-back-at.true)

pub returns-then-early-history : goal.returns-then-early-history
returns-then-early-history c =
    c.folded-then-early-history.ensures ∙ sym (text_place-history c.args.history.now c.args.bytes.now c.args.at c.args.back (omega arith) (omega arith))

pub returns-else-early-history : goal.returns-else-early-history
returns-else-early-history c = sym (text_place-before _ _ c.args.back (omega arith))
