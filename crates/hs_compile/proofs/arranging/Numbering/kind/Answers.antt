use Rattle.std.proofs.Common.{ap}
use Rattle.hs_nodes.specs.Openings.{named_literal}
use Rattle.hs_compile.proofs.arranging.Numbering.kind.Goals as goal

pub number-requires-clause-known : goal.number-requires-clause-known
number-requires-clause-known c = c.requires.known c.in-Literal.old (ap named_literal c.in-Literal.is)

pub number-requires-in-FirstLiteral-clause-known : goal.number-requires-in-FirstLiteral-clause-known
number-requires-in-FirstLiteral-clause-known c = c.requires.known c.in-FirstLiteral.old (ap named_literal c.in-FirstLiteral.is)

pub number-requires-in-LookBack-clause-known : goal.number-requires-in-LookBack-clause-known
number-requires-in-LookBack-clause-known c = c.requires.known c.in-LookBack.pair.literal (ap named_literal c.in-LookBack.is)
