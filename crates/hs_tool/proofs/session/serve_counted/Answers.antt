use Rattle.std.proofs.Common.{refl}
use Rattle.hs_outside.proofs.Taking.{Gave-nothing}
use Rattle.hs_outside.proofs.Sending.{Took-nothing}
use Rattle.hs_tool.specs.Serving.{no_memory}
use Rattle.hs_tool.proofs.SaveLemmas.{keeps-same}
use Rattle.hs_tool.proofs.session.serve_counted.Goals as goal

pub returns-in-Err-clause-ends : goal.returns-in-Err-clause-ends
returns-in-Err-clause-ends g c = no_memory (Gave-nothing (g.I.Source.left c.args.input.now)) refl (Took-nothing (g.O.Sink.written c.args.out.now))

pub returns-in-Err-clause-kept : goal.returns-in-Err-clause-kept
returns-in-Err-clause-kept g c = keeps-same refl
