use Rattle.std.proofs.Common.{rules}
use Rattle.std.proofs.lemmas.Slice.{overwrites}
use Rattle.hs_text.proofs.line_buffer.append.Goals as goal

pub returns-clause-rest : goal.returns-clause-rest
returns-clause-rest c = λ k behind. search (rules, overwrites)
