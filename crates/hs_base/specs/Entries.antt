-- The entries of a list, as plain data.
use Rattle.std.specs.Prelude.{ℕ, List}
use Rattle.hs_base.specs.declared.ext.Ext.{Ext}
use Rattle.hs_base.specs.declared.ext.Entry.{Entry}
use Rattle.hs_base.specs.declared.flags.Flags.{Flags}

-- an expression of a list, with what is asked of its matches
pub record ListedEntry : Type 0 where
  pub id : ℕ
  pub flags : ℕ
  pub ext : Ext
  pub text : List ℕ

-- the entry of a list that is kept
abbrev pub listed : Entry → ListedEntry
listed entry = record { id = entry.id.0; flags = entry.flags.0; ext = entry.ext; text = entry.text.items }

-- its flags as the code keeps them
abbrev pub flags_of : ListedEntry → Flags
flags_of entry = record { 0 = entry.flags }
