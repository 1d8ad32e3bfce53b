-- Which roles stand for each literal of a program.
use Rattle.std.specs.Prelude.{◌≡◌, ℕ, suc, ◌==◌, Bool, false, List, [], ◌∷◌, ◌++◌, length, Option, Some, None}
use Rattle.std.specs.Prelude.{cond, slice_get}
use Rattle.std.specs.declared.vec.Vec.{Vec}
use Rattle.std.specs.declared.alloc.Global.{Global}
use Rattle.hs_rose.specs.declared.role.Role.{Role}
use Rattle.hs_rose.specs.Naming.{literal_of}

-- a list of numbers that is kept
abbrev pub role_numbers : Vec ℕ Global → List ℕ
role_numbers list = list.items

-- whether there is a literal and its number is that one
abbrev pub is_literal_number : ℕ → Option ℕ → Bool
is_literal_number k None = false
is_literal_number k (Some n) = n == k

-- the numbers, from `at` on, of the roles with the literal of that number
abbrev pub roles_with : (literal at : ℕ) → List Role → List ℕ
roles_with literal at [] = []
roles_with literal at (r ∷ roles) =
    cond (is_literal_number literal (literal_of r)) (at ∷ roles_with literal (suc at) roles)
    (roles_with literal (suc at) roles)

-- For each of so many literals a list: the numbers of its roles, rising.
pub record AreRolesOfLiterals (roles : List Role) (count : ℕ) (literal_roles : List (List ℕ)) : Type 0 where
  pub count_is : length literal_roles ≡ count
  pub each : (k : ℕ) (numbers : List ℕ) → slice_get literal_roles k ≡ Some numbers → numbers ≡ roles_with k 0 roles

-- The number is put behind those in the list of the literal, if there is one; the other lists stay.
pub record IsRoleAdded (before : List (List ℕ)) (literal : Option ℕ) (number : ℕ) (now : List (List ℕ)) : Type 0 where
  pub count : length now ≡ length before
  pub each : (k : ℕ) (list : List ℕ) → slice_get now k ≡ Some list → (own : List ℕ)
      × (slice_get before k ≡ Some own)
      × (list ≡ own ++ cond (is_literal_number k literal) (number ∷ []) [])
