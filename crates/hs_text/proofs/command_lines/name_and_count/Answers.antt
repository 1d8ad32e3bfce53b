use Rattle.std.proofs.Common.{subst, sym}
use Rattle.hs_text.specs.Commands.{IsName}
use Rattle.hs_text.proofs.CommandLemmas.{no_parts, parts_once}
use Rattle.hs_text.proofs.command_lines.name_and_count.Goals as goal

pub returns-in_default : goal.returns-in_default
returns-in_default c = λ name count h. no_parts c.args.operands.now c.in_default.ensures name count h

pub returns-then-not-is_name : goal.returns-then-not-is_name
returns-then-not-is_name c = λ name count h.
    let parts = parts_once c.args.operands.now c.in-Some.name.now c.in-Some.digits.now name count c.in-Some.ensures.1 c.in-Some.ensures.0 h in
    c.if-not-is_name.ensures (subst IsName (sym parts.left) h.is_name)

pub returns-in-None : goal.returns-in-None
returns-in-None c = λ name count h.
    let parts = parts_once c.args.operands.now c.in-Some.name.now c.in-Some.digits.now name count c.in-Some.ensures.1 c.in-Some.ensures.0 h in
    c.in-None.ensures count h.small parts.right
