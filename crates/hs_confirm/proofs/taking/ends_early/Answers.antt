use Rattle.std.proofs.Common.{◌∙◌, sym, arith}
use Rattle.std.proofs.lemmas.List.{length-map}
use Rattle.hs_base.specs.LiteralView.{literal_byte}
use Rattle.hs_confirm.proofs.TakingLemmas.{ends_there-long, ends_there-early, and_true, and_false}
use Rattle.hs_confirm.proofs.taking.ends_early.Goals as goal

pub returns-then-early-history : goal.returns-then-early-history
returns-then-early-history c = let same = length-map c.args.literal.now literal_byte in sym (ends_there-long _ _ _ (omega arith))

pub returns-then-takes_all : goal.returns-then-takes_all
returns-then-takes_all c =
    and_true _ _ _ (sym c.takes_all.ensures ∙ c.if-takes_all.true) c.takes_all-then-takes_all.ensures
    ∙ sym (ends_there-early c.args.literal.now c.args.history.now c.args.bytes.now c.args.at _ (omega (arith, c.requires.early)) c.if-early-history.false c.requires.within)

pub returns-else-takes_all : goal.returns-else-takes_all
returns-else-takes_all c =
    and_false _ _ _ (sym c.takes_all.ensures ∙ c.if-takes_all.false) c.takes_all.ensures
    ∙ sym (ends_there-early c.args.literal.now c.args.history.now c.args.bytes.now c.args.at _ (omega (arith, c.requires.early)) c.if-early-history.false c.requires.within)
