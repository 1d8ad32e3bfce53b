-- A text is read as one tree in bytes, or has a fault, and never both.
use Rattle.std.proofs.Common.{◌≡◌, ℕ, List, subst}
use Rattle.hs_base.specs.declared.flags.Flags.{Flags}
use Rattle.hs_base.specs.declared.refusal.Refusal.{Refusal}
use Rattle.hs_base.specs.Trees.{Tree}
use Rattle.hs_parse.specs.Faults.{Fault}
use Rattle.hs_parse.proofs.GrammarLemmas.{one_tree}
use Rattle.hs_parse.proofs.PathLemmas.{never_both}
use Rattle.hs_utf8.specs.Lowered.{IsLowered}
use Rattle.hs_utf8.proofs.UniqueLemmas.{lowered-once}
use Rattle.hs_compile.specs.Lists.{IsReadTree}

pub one_read : (text : List ℕ) (flags : Flags) (t u : Tree) → IsReadTree text flags t → IsReadTree text flags u → t ≡ u
one_read text flags t u one two =
    let same : one.expression ≡ two.expression = one_tree text flags one.expression two.expression one.read two.read in
    lowered-once two.expression t u (subst (λ x. IsLowered x t) same one.lowered) two.lowered

pub read_not_fault : (text : List ℕ) (flags : Flags) (t : Tree) (refusal : Refusal) → IsReadTree text flags t → Fault text flags refusal → ⊥
read_not_fault text flags t refusal is fault = never_both text flags is.expression refusal is.read fault
