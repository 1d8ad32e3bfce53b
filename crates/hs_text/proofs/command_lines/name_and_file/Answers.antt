use Rattle.std.proofs.Common.{subst, sym}
use Rattle.hs_text.specs.Commands.{IsName, IsFileName}
use Rattle.hs_text.proofs.CommandLemmas.{no_file_parts, file_parts_once}
use Rattle.hs_text.proofs.command_lines.name_and_file.Goals as goal

pub returns-in_default : goal.returns-in_default
returns-in_default c = λ name file h. no_file_parts c.args.operands.now c.in_default.ensures name file h

pub returns-then-not-is_name : goal.returns-then-not-is_name
returns-then-not-is_name c = λ name file h.
    let parts = file_parts_once c.args.operands.now c.in-Some.name.now c.in-Some.file.now name file c.in-Some.ensures.1 c.in-Some.ensures.0 h in
    c.if-not-is_name.ensures (subst IsName (sym parts.left) h.is_name)

pub returns-then-not-is_file_name : goal.returns-then-not-is_file_name
returns-then-not-is_file_name c = λ name file h.
    let parts = file_parts_once c.args.operands.now c.in-Some.name.now c.in-Some.file.now name file c.in-Some.ensures.1 c.in-Some.ensures.0 h in
    c.if-not-is_file_name.ensures (subst IsFileName (sym parts.right) h.is_file)
