use Rattle.std.proofs.Common.{◌∙◌, ap, []}
use Rattle.hs_stream.specs.Streams.{Writes}
use Rattle.hs_stream.proofs.TallyLemmas.{added, room-kept}
use Rattle.hs_stream.proofs.runs.write_piece.Goals as goal

pub returns-in-Some-clause-added : goal.returns-in-Some-clause-added
returns-in-Some-clause-added g c =
    added c.args.tally c.in-Some.now c.args.room c.args.collected.now c.write_cached.new.events (Writes c.args.db.now c.args.stream.now c.write_cached.new.self c.args.piece.now) c.requires.empty c.in-Ok.ensures.told c.in-Some.ensures.whole c.in-Some.ensures.tally

pub returns-in-Some-clause-emptied : goal.returns-in-Some-clause-emptied
returns-in-Some-clause-emptied g c = c.in-Some.ensures.cleared ∙ ap (λ r. record { reports = []; room = r }) (room-kept c.args.room c.requires.empty c.in-Ok.ensures.told)
