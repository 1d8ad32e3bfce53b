-- The identifiers as reports have them.
use Rattle.std.proofs.Common.{◌≡◌, Bool, true, false, List, [], ◌∷◌, map, refl, ap, ◌∙◌}
use Rattle.hs_compile.specs.GraphBuilding.{same_identifier}
use Rattle.hs_nodes.specs.Graphs as nodes
use Rattle.hs_reports.specs.Identifiers.{numbers_of}
use Rattle.hs_rose.specs.declared.identifiers.Identifier.{Identifier}
use Rattle.hs_rose.specs.Identifiers.{ids_of, singles_of, with_single}

pub same-numbers : (xs : List Identifier) → numbers_of (map same_identifier xs) ≡ ids_of xs
same-numbers [] = refl
same-numbers (x ∷ xs) = ap (λ ns. x.id.0 ∷ ns) (same-numbers xs)

one-single : (s : Bool) (x : Identifier) (xs : List Identifier) → nodes.with_single s (same_identifier x) (map same_identifier xs) ≡ map same_identifier (with_single s x xs)
one-single true x xs = refl
one-single false x xs = refl

pub same-singles : (xs : List Identifier) → nodes.singles_of (map same_identifier xs) ≡ map same_identifier (singles_of xs)
same-singles [] = refl
same-singles (x ∷ xs) = ap (λ ys. nodes.with_single x.single (same_identifier x) ys) (same-singles xs) ∙ one-single x.single x (singles_of xs)
