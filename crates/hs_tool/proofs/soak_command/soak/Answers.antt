use Rattle.std.proofs.Common.{refl, string_bytes}
use Rattle.hs_outside.proofs.Sending.{Took-nothing}
use Rattle.hs_lists.specs.Causes.{cause_of}
use Rattle.hs_tool.proofs.SoakLemmas.{soak-stops, soak-sent, soak-cut}
use Rattle.hs_tool.proofs.soak_command.soak.Goals as goal

pub returns-in-Err : goal.returns-in-Err
returns-in-Err g c told stored = soak-stops c.args.seed c.args.count _ _ (cause_of c.in-Err.fault) c.in-Err.ensures.fault (Took-nothing (g.O.Sink.written c.args.out.now)) (record { store = refl; sink = refl })

pub returns-in-Ok-write_all : goal.returns-in-Ok-write_all
returns-in-Ok-write_all g c told stored = soak-sent c.args.seed c.args.count told stored _ _ _ _ (string_bytes c.in-Ok.text) c.as_bytes.result.now c.as_bytes.ensures.value c.in-Ok-write_all.ensures c.in-Ok.ensures.text

pub returns : goal.returns
returns g c told stored = soak-cut c.args.seed c.args.count told stored _ _ _ _ (string_bytes c.in-Ok.text) c.as_bytes.result.now c.as_bytes.ensures.value c.in-Err-write_all.ensures c.in-Ok.ensures.text
