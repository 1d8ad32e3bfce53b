use Rattle.std.proofs.Common.{ℕ, List, ◌++◌, Option, IfSome, subst, sym}
use Rattle.hs_lists.specs.ListKinds.{pattern_file}
use Rattle.hs_lists.specs.Causes.{cause_of}
use Rattle.hs_lists.specs.Accepting.{IsFormCause}
use Rattle.hs_lists.specs.declared.fault.Fault.{Fault}
use Rattle.hs_lists.proofs.SettledLemmas.{form_cause-settled}
use Rattle.hs_lists.proofs.early.early_pattern_fault.Goals.{in-Ok, in-Err}
use Rattle.hs_lists.proofs.early.early_pattern_fault.Goals as goal

pub returns : goal.returns
returns c = elim c.match-read_patterns.branch [
  | in-Ok w ↦ subst Early (sym w.result-is) tt
  | in-Err w ↦ subst Early (sym w.result-is) (form_cause-settled c.args.bytes.now c.settled_part.result.now (cause_of w.in-Err.fault) c.settled_part.ensures w.in-Err.ensures)
]
  where
    Early : Option Fault → Type 0
    Early result = IfSome result (λ fault. (rest : List ℕ) → IsFormCause pattern_file (c.args.bytes.now ++ rest) (cause_of fault))
