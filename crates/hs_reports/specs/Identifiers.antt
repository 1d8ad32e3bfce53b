-- Identifiers as numbers.
use Rattle.std.specs.Prelude.{ℕ, Bool, true, false, List, [], ◌∷◌, map}
use Rattle.hs_base.specs.declared.entry.ExprId.{ExprId}
use Rattle.hs_reports.specs.declared.identifier.Identifier.{Identifier}

abbrev pub id_numbers : List ExprId → List ℕ
id_numbers ids = map (λ id. id.0) ids

abbrev pub numbers_of : List Identifier → List ℕ
numbers_of identifiers = map (λ x. x.id.0) identifiers

-- the single ones among identifiers
abbrev pub with_single : Bool → Identifier → List Identifier → List Identifier
with_single true x xs = x ∷ xs
with_single false x xs = xs

abbrev pub singles_of : List Identifier → List Identifier
singles_of [] = []
singles_of (x ∷ xs) = with_single x.single x (singles_of xs)
