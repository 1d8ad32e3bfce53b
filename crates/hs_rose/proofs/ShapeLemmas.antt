-- What is kept of pieces.
use Rattle.std.proofs.Common.{◌≡◌, ℕ, zero, suc, Bool, true, false, eqb, leb, List, [], ◌∷◌, length, Option, Some, None, refl, arith}
use Rattle.std.proofs.lemmas.Bool.Decides.{nat_tests}
use Rattle.hs_base.specs.Chains.{Piece, lit, nfa, rep}
use Rattle.hs_base.specs.KeptPieces.{form_of, literal_form, tree_form, repeat_form}
use Rattle.hs_base.specs.Literals.{LiteralByte}
use Rattle.hs_base.specs.Trees.{Tree}
use Rattle.hs_base.specs.WrittenOut.{count, write_out}
use Rattle.hs_rose.specs.Kinds.{IsShape}
use Rattle.hs_rose.specs.Shapes.{literal_shape, tree_shape, repeat_shape, shape_for}

far : (n : ℕ) → (eqb (suc (suc n)) 0 ≡ false) × (eqb (suc (suc n)) 1 ≡ false)
far n = (grind (arith, nat_tests), grind (arith, nat_tests))

behind : (n : ℕ) → eqb (suc n) 0 ≡ false
behind n = grind (arith, nat_tests)

many : (n : ℕ) → leb (suc (suc n)) 1 ≡ false
many n = grind (arith, nat_tests)

literal-shaped : (l : Bool) (pieces : List Piece) (xs : List LiteralByte) → IsShape (literal_form l pieces (length xs)) (lit xs) (literal_shape l (length pieces)).kind (literal_shape l (length pieces)).size
literal-shaped l [] xs = record { kind_is = refl; size_is = refl }
literal-shaped true (x ∷ []) xs = record { kind_is = refl; size_is = refl }
literal-shaped false (x ∷ []) xs = record { kind_is = refl; size_is = refl }
literal-shaped true (x ∷ y ∷ pieces) xs = rw ((far (length pieces)).0, (far (length pieces)).1) (record { kind_is = refl; size_is = refl })
literal-shaped false (x ∷ y ∷ pieces) xs = rw ((far (length pieces)).0, (far (length pieces)).1) (record { kind_is = refl; size_is = refl })

tree-shaped : (l : Bool) (pieces : List Piece) (tree : Tree) → IsShape (tree_form l pieces tree) (nfa tree) (tree_shape l (length pieces) (count (write_out tree))).kind (tree_shape l (length pieces) (count (write_out tree))).size
tree-shaped true [] tree = record { kind_is = refl; size_is = refl }
tree-shaped false [] tree = record { kind_is = refl; size_is = refl }
tree-shaped true (x ∷ pieces) tree = rw (behind (length pieces)) (record { kind_is = refl; size_is = refl })
tree-shaped false (x ∷ pieces) tree = rw (behind (length pieces)) (record { kind_is = refl; size_is = refl })

repeat-shaped : (set : List Bool) (least : ℕ) (greatest : Option ℕ) → IsShape (repeat_form set least greatest) (rep set least greatest) (repeat_shape least greatest).kind (repeat_shape least greatest).size
repeat-shaped set least None = record { kind_is = refl; size_is = refl }
repeat-shaped set zero (Some m) = record { kind_is = refl; size_is = refl }
repeat-shaped set (suc zero) (Some m) = record { kind_is = refl; size_is = refl }
repeat-shaped set (suc (suc least)) (Some m) = rw (many least) (record { kind_is = refl; size_is = refl })

-- what is kept of the piece behind so many others is what its form says
pub shaped : (l : Bool) (pieces : List Piece) (piece : Piece) → IsShape (form_of l pieces piece) piece (shape_for l (length pieces) piece).kind (shape_for l (length pieces) piece).size
shaped l pieces (lit xs) = literal-shaped l pieces xs
shaped l pieces (nfa tree) = tree-shaped l pieces tree
shaped l pieces (rep set least greatest) = repeat-shaped set least greatest
