use Rattle.std.proofs.Common.{◌≡◌, ℕ, List, Result, Err, MatchResult, ap, ◌∙◌, subst}
use Rattle.hs_text.specs.declared.fault.ListFault.{ListFault}
use Rattle.hs_text.specs.declared.fault.ListFault.TheVariants.{Line}
use Rattle.hs_text.specs.PatternFile.{HasBadLine}
use Rattle.hs_text.specs.Reading.{IsListFault}
use Rattle.hs_lists.specs.Accepting.{formless, unread, bad_line}
use Rattle.hs_lists.proofs.form.read_patterns.Goals as goal

-- the line that the reader blames
blamed : {T : Type 0} (Good : T → Type 0) (bytes : List ℕ) (line : ℕ) (result : Result T ListFault) → MatchResult result Good (λ fault. IsListFault bytes fault) → result ≡ Err (Line line) → HasBadLine bytes line
blamed Good bytes line result answer is = subst (λ r. MatchResult r Good (λ fault. IsListFault bytes fault)) is answer

pub returns-in-Err-Line : goal.returns-in-Err-Line
returns-in-Err-Line c = formless (bad_line (blamed _ c.args.bytes.now c.in-Err-Line.line c.read_list.result c.read_list.ensures (c.in-Err-Line.is ∙ ap Err c.in-Err-Line.field-0-is)))

pub returns-in-Err-Memory : goal.returns-in-Err-Memory
returns-in-Err-Memory c = unread
