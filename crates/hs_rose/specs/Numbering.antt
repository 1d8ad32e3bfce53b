-- Members of a list by their numbers, each of which stands there once.
use Rattle.std.specs.Prelude.{◌≡◌, ℕ, List, [], ◌∷◌, ◌++◌, length, Some, slice_get}

-- no member stands twice
abbrev pub AreApart : {A : Type 0} → List A → Type 0
AreApart {A} xs = (j k : ℕ) (x : A) → slice_get xs j ≡ Some x → slice_get xs k ≡ Some x → j ≡ k

-- x isn't among them
abbrev pub IsNew : {A : Type 0} → List A → A → Type 0
IsNew {A} xs x = (k : ℕ) → slice_get xs k ≡ Some x → ⊥

-- A number for x among those that stand there: its place, or the next one where it was none of them.
pub data IsNumbered {A : Type 0} (before : List A) (x : A) (now : List A) (number : ℕ) : Type 0 where
  found : now ≡ before → slice_get before number ≡ Some x → IsNumbered before x now number
  added : IsNew before x → now ≡ before ++ x ∷ [] → number ≡ length before → IsNumbered before x now number
