-- What the definitions of the grammar and of faults say together.
use Rattle.std.specs.Prelude.{◌≡◌, ℕ, List}
use Rattle.hs_base.specs.declared.flags.Flags.{Flags}
use Rattle.hs_base.specs.declared.refusal.Refusal.{Refusal}
use Rattle.hs_base.specs.Trees.{Tree}
use Rattle.hs_parse.specs.Grammar.{Reads}
use Rattle.hs_parse.specs.Faults.{Fault}

-- a text is read as one tree at most
abbrev pub OneTree : Type 0
OneTree =
    (text : List ℕ) (flags : Flags) (tree other : Tree) →
    Reads text flags tree → Reads text flags other → tree ≡ other

-- a text has one fault at most
abbrev pub OneFault : Type 0
OneFault =
    (text : List ℕ) (flags : Flags) (refusal other : Refusal) →
    Fault text flags refusal → Fault text flags other → refusal ≡ other

-- no text is both read and refused
abbrev pub NeverReadAndRefused : Type 0
NeverReadAndRefused =
    (text : List ℕ) (flags : Flags) (tree : Tree) (refusal : Refusal) →
    Reads text flags tree → Fault text flags refusal → ⊥

-- a text is read as a tree, or it has a fault
pub data Outcome (text : List ℕ) (flags : Flags) : Type 0 where
  read : {tree : Tree} → Reads text flags tree → Outcome text flags
  refused : {refusal : Refusal} → Fault text flags refusal → Outcome text flags

-- every text has one of them
abbrev pub AlwaysOne : Type 0
AlwaysOne = (text : List ℕ) (flags : Flags) → Outcome text flags
