use Rattle.hs_confirm.specs.Filed.{literals_of, buckets_of}
use Rattle.hs_confirm.proofs.confirm.Confirm.build.Goals as goal

pub returns-clause-literals : goal.returns-clause-literals
unfolding literals_of
returns-clause-literals c = c.in_ok-entries.ensures.literals

pub returns-clause-buckets : goal.returns-clause-buckets
unfolding buckets_of
returns-clause-buckets c = c.in_ok-entries.ensures.buckets
