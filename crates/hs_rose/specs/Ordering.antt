-- The order of a program's literals.
use Rattle.std.specs.Prelude.{◌≡◌, ℕ, ◌<◌, List, length, Some, slice_get}
use Rattle.hs_rose.specs.declared.role.Role.{Role}
use Rattle.hs_rose.specs.Naming.{literal_of}

-- A role of lesser number names the literal.
pub record IsNamedBefore (roles : List Role) (number literal : ℕ) : Type 0 where
  pub place : ℕ
  pub before : place < number
  pub role : Role
  pub there : slice_get roles place ≡ Some role
  pub names : literal_of role ≡ Some literal

-- So many literals are in the order of their first roles: each is named by a role, and before a role that names one
-- each literal of lesser number is named.
pub record AreInOrder (roles : List Role) (count : ℕ) : Type 0 where
  pub named : (k : ℕ) → k < count → IsNamedBefore roles (length roles) k
  pub order : (j k l : ℕ) (r : Role) → slice_get roles j ≡ Some r → literal_of r ≡ Some k → l < k →
      IsNamedBefore roles j l
