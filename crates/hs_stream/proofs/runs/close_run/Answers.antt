use Rattle.hs_stream.specs.Streams.{Closes}
use Rattle.hs_stream.proofs.TallyLemmas.{added}
use Rattle.hs_stream.proofs.runs.close_run.Goals as goal

pub returns-in-Some : goal.returns-in-Some
returns-in-Some g c =
    added c.args.tally c.in-Some.last c.args.room c.args.collected.now c.close_cached.new.events (Closes c.args.db.now c.args.stream) c.requires.empty c.close_cached.ensures.told c.in-Some.ensures.whole c.in-Some.ensures.tally
