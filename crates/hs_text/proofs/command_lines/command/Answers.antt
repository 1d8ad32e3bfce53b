use Rattle.hs_text.proofs.CommandLemmas.{other_word}
use Rattle.hs_text.proofs.command_lines.command.Goals as goal

pub returns-in_default-verb_of : goal.returns-in_default-verb_of
returns-in_default-verb_of c = λ order h.
    other_word c.args.line.now c.in-Some.word.now c.in-Some.operands.now c.in-Some.ensures.1 c.in-Some.ensures.0 c.in_default-verb_of.ensures order h
