use Rattle.std.proofs.Common.{◌≡◌, ℕ, List, ◌++◌, Option, Some, None, Result, Err, IfSome, MatchResult, refl, ap, ◌∙◌, subst, sym}
use Rattle.hs_dbfile.specs.declared.fault.DecodeFault.{DecodeFault}
use Rattle.hs_dbfile.specs.declared.fault.DecodeFault.TheVariants.{Form}
use Rattle.hs_dbfile.specs.Files.{IsFormPlace}
use Rattle.hs_dbfile.specs.Entries.{IsFaultOf}
use Rattle.hs_lists.specs.ListKinds.{database_file}
use Rattle.hs_lists.specs.Causes.{cause_of}
use Rattle.hs_lists.specs.Accepting.{IsFormCause, unread}
use Rattle.hs_lists.specs.declared.fault.Fault.{Fault}
use Rattle.hs_lists.proofs.early.early_database_fault.Goals.{in-Ok, in-Err-Form, in-Err-Memory}
use Rattle.hs_lists.proofs.early.early_database_fault.Goals as goal

-- the place that the reader names
placed : {T : Type 0} (Good : T → Type 0) (bytes : List ℕ) (at : ℕ) (result : Result T DecodeFault) → MatchResult result Good (λ fault. IsFaultOf bytes fault) → result ≡ Err (Form at) → IsFormPlace bytes at
placed Good bytes at result answer is = subst (λ r. MatchResult r Good (λ fault. IsFaultOf bytes fault)) is answer

-- what holds of each value of the one kind holds of each of the other
each_some : {T : Type 0} (P Q : T → Type 0) (result : Option T) → ((x : T) → P x → Q x) → IfSome result P → IfSome result Q
each_some P Q None to is = tt
each_some P Q (Some x) to is = to x is

pub returns : goal.returns
returns c = elim c.match-decode_file.branch [
  | in-Ok w ↦ subst Early (sym w.result-is) tt
  | in-Err-Form w ↦
      let place = placed _ c.args.bytes.now w.in-Err-Form.at c.decode_file.result c.decode_file.ensures (w.in-Err-Form.is ∙ ap Err w.in-Err-Form.field-0-is) in
      subst Early (sym w.result-is) (each_some _ _ w.early_form.result (λ fault early rest. early c.args.bytes.now rest refl place) w.early_form.ensures)
  | in-Err-Memory w ↦ subst Early (sym w.result-is) (λ rest. unread)
]
  where
    Early : Option Fault → Type 0
    Early result = IfSome result (λ fault. (rest : List ℕ) → IsFormCause database_file (c.args.bytes.now ++ rest) (cause_of fault))
