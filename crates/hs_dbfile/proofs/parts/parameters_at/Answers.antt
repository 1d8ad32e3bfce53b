use Rattle.std.proofs.Common.{arith}
use Rattle.hs_dbfile.proofs.FieldLemmas.{parameters_stop}
use Rattle.hs_dbfile.proofs.parts.parameters_at.Goals as goal

pub returns-in-empty : goal.returns-in-empty
returns-in-empty c = parameters_stop c.args.bytes.now (λ some. let none = c.in-empty.len_below in omega (arith, none, some))

pub returns-else-bits-lt-PARAMETERS : goal.returns-else-bits-lt-PARAMETERS
returns-else-bits-lt-PARAMETERS c =
    parameters_stop c.args.bytes.now (λ some. let large = c.if-bits-lt-PARAMETERS.false in omega (arith, large))
