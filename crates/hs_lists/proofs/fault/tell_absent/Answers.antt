use Rattle.std.proofs.Common.{◌++◌, codes}
use Rattle.hs_outside.proofs.Sending.{IsSent-then, IsCutShort-longer, IsCutShort-after}
use Rattle.hs_lists.proofs.EndingLemmas.{sends-behind}
use Rattle.hs_lists.proofs.fault.tell_absent.Goals as goal

pub returns-in-Err : goal.returns-in-Err
returns-in-Err g c = IsCutShort-longer (c.args.name.now ++ codes "\n") c.in-Err.ensures

pub returns-in-Err-write_all : goal.returns-in-Err-write_all
returns-in-Err-write_all g c =
    let named = rw c.as_bytes.ensures.value at c.in-Err-write_all.ensures in
    IsCutShort-longer (codes "\n") (IsCutShort-after {text = codes "fault absent "} c.in-Ok.ensures named)

pub returns : goal.returns
returns g c =
    let named = rw c.as_bytes.ensures.value at c.in-Ok-write_all.ensures in
    sends-behind c.write_all-3.result _ _ _ _ _ _ (codes "fault absent " ++ c.args.name.now) (codes "\n") (IsSent-then {text = codes "fault absent "} c.in-Ok.ensures named) c.write_all-3.ensures
