use Rattle.hs_utf8.proofs.PartLemmas.{lowered-no_points, lowered-proper}
use Rattle.hs_utf8.proofs.SpanLemmas.{lowered-spans}
use Rattle.hs_utf8.proofs.UniqueLemmas.{lowered-once}
use Rattle.hs_utf8.proofs.laws.lowered_trees.Goals as goal

pub returns-clause-once : goal.returns-clause-once
returns-clause-once c = lowered-once

pub returns-clause-spans : goal.returns-clause-spans
returns-clause-spans c = lowered-spans

pub returns-clause-no_points : goal.returns-clause-no_points
returns-clause-no_points c = lowered-no_points

pub returns-clause-proper : goal.returns-clause-proper
returns-clause-proper c = lowered-proper
