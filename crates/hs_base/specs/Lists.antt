-- Facts of the members of a list, by recursion on the list.
use Rattle.std.specs.Prelude.{◌≡◌, ◌⊎◌, List, [], ◌∷◌}

-- one of the members has the property
abbrev pub OneOf : {A : Type 0} → (A → Type 0) → List A → Type 0
OneOf P [] = ⊥
OneOf P (x ∷ xs) = P x ⊎ OneOf P xs

-- each member has it
abbrev pub Each : {A : Type 0} → (A → Type 0) → List A → Type 0
Each P [] = Unit {0}
Each P (x ∷ xs) = P x × Each P xs

-- x is a member
abbrev pub IsMember : {A : Type 0} → A → List A → Type 0
IsMember x xs = OneOf (λ y. x ≡ y) xs

-- each member is related to all that follow it
abbrev pub IsRising : {A : Type 0} → (A → A → Type 0) → List A → Type 0
IsRising R [] = Unit {0}
IsRising R (x ∷ xs) = Each (R x) xs × IsRising R xs
