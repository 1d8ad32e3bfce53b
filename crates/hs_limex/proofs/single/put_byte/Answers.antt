use Rattle.hs_limex.proofs.SingleLemmas.{put-here, put-kept}
use Rattle.hs_limex.proofs.single.put_byte.Goals as goal

pub returns-clause-here : goal.returns-clause-here
returns-clause-here c k here = put-here c.args.bytes.now c.args.word c.args.place k c.requires.inside here

pub returns-clause-kept : goal.returns-clause-kept
returns-clause-kept c k was = put-kept c.args.bytes.now c.args.word c.args.place k c.requires.inside was
