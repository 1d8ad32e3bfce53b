-- The entries of a literal that still count, and what the bits of a literal tell of them.
use Rattle.std.specs.Prelude.{◌≡◌, ◌↔◌, ℕ, zero, suc, ◌+◌, ◌-◌, ◌<◌, Bool, true, ◌&&◌, nat_lt, List, length, take, Some}
use Rattle.std.specs.Prelude.{slice_get}
use Rattle.hs_base.specs.Contexts.{class_of}
use Rattle.hs_base.specs.Chains.{Piece}
use Rattle.hs_base.specs.Leaving.{LeavesAt}

-- A literal of n bytes was entered k + 1 bytes before the end of u.
pub record IsEnteredBack (n : ℕ) (u : List ℕ) (entered : List Bool) (k : ℕ) : Type 0 where
  pub below : k < n
  pub from : ℕ
  pub ends : from + suc k ≡ length u
  pub is_entered : slice_get entered from ≡ Some true

-- The bits of a literal of n bytes, behind u: bit k tells of the entry k + 1 bytes before the end.
abbrev pub TellsEntries : (n : ℕ) (bit : ℕ → Bool) (u : List ℕ) (entered : List Bool) → Type 0
TellsEntries n bit u entered = (k : ℕ) → (bit k ≡ true) ↔ IsEnteredBack n u entered k

-- the bits behind one more byte, before which the literal is entered or not
abbrev pub shifted : (n : ℕ) (enters : Bool) (bit : ℕ → Bool) → ℕ → Bool
shifted n enters bit zero = nat_lt 0 n && enters
shifted n enters bit (suc k) = nat_lt (suc k) n && bit k

-- The piece behind those is entered n bytes before the end of u: they are left there, where the byte there comes next.
pub record IsEnteredBefore (pieces : List Piece) (n : ℕ) (u : List ℕ) : Type 0 where
  pub byte : ℕ
  pub there : slice_get u (length u - n) ≡ Some byte
  pub entered : LeavesAt pieces (take (length u - n) u) (class_of byte)
