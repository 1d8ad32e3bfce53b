use Rattle.std.proofs.Common.{Some, ap, sym, ◌∙◌}
use Rattle.hs_outside.proofs.Filing.{content_of-none}
use Rattle.hs_outside.proofs.Slots.{content_of-slot}
use Rattle.hs_outside.proofs.mem_store.content_in.Goals as goal

pub returns-in-Some : goal.returns-in-Some
returns-in-Some c =
    ap Some c.content.ensures ∙ sym (content_of-slot _ _ _ _ c.in-Some.ensures.first c.index-files-place.is)

pub returns-in-None : goal.returns-in-None
returns-in-None c = sym (content_of-none _ _ c.in-None.ensures.first)
