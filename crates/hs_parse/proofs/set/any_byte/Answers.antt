use Rattle.std.proofs.Common.{sym, ap, ◌∙◌}
use Rattle.hs_parse.specs.Tokens.{any_byte}
use Rattle.hs_parse.proofs.SetLemmas.{members-all, members-not_newline}
use Rattle.hs_parse.proofs.set.any_byte.Goals as goal

pub returns-then-dotall : goal.returns-then-dotall
returns-then-dotall c = members-all ∙ ap any_byte (sym c.if-dotall.true)

pub returns-else-dotall : goal.returns-else-dotall
returns-else-dotall c = members-not_newline ∙ ap any_byte (sym c.if-dotall.false)
