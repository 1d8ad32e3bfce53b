use Rattle.std.proofs.Common.{◌≡◌, ℕ, List, Result, Err, MatchResult, ap, ◌∙◌, subst}
use Rattle.hs_dbfile.specs.declared.fault.DecodeFault.{DecodeFault}
use Rattle.hs_dbfile.specs.declared.fault.DecodeFault.TheVariants.{Form}
use Rattle.hs_dbfile.specs.Files.{IsFormPlace}
use Rattle.hs_dbfile.specs.Entries.{IsFaultOf}
use Rattle.hs_lists.specs.Accepting.{formless, unread, bad_bytes}
use Rattle.hs_lists.proofs.form.read_database.Goals as goal

-- the place that the reader names
placed : {T : Type 0} (Good : T → Type 0) (bytes : List ℕ) (at : ℕ) (result : Result T DecodeFault) → MatchResult result Good (λ fault. IsFaultOf bytes fault) → result ≡ Err (Form at) → IsFormPlace bytes at
placed Good bytes at result answer is = subst (λ r. MatchResult r Good (λ fault. IsFaultOf bytes fault)) is answer

pub returns-in-Err-Form : goal.returns-in-Err-Form
returns-in-Err-Form c = formless (bad_bytes (placed _ c.args.bytes.now c.in-Err-Form.at c.decode_file.result c.decode_file.ensures (c.in-Err-Form.is ∙ ap Err c.in-Err-Form.field-0-is)))

pub returns-in-Err-Memory : goal.returns-in-Err-Memory
returns-in-Err-Memory c = unread
