-- Parts behind what waits: what one more item does to the pieces.
use Rattle.std.proofs.Common.{◌≡◌, ℕ, ◌<◌, Bool, List, [], ◌∷◌, ◌++◌, length, map, Option, refl, sym, ap, ◌∙◌, arith}
use Rattle.std.proofs.lemmas.List.{append_assoc}
use Rattle.hs_base.specs.Trees.{Tree}
use Rattle.hs_base.specs.Literals.{LiteralByte}
use Rattle.hs_base.specs.Chains.{Piece, lit, rep, Part, literal, ordinary, long, ordinary_joined, piece_of, rest_of_run}
use Rattle.hs_expr.proofs.RunLemmas.{with_items-snoc}
use Rattle.hs_pieces.specs.Splitting.{closed, pieces_of_cut}

-- what ends the ordinary items that wait

closed-literal : (items : List Tree) (xs : List LiteralByte) (cut : List Part) →
    pieces_of_cut items (literal xs ∷ cut) ≡ closed items ++ lit xs ∷ pieces_of_cut [] cut
closed-literal [] xs cut = refl
closed-literal (t ∷ ts) xs cut = refl

closed-long : (items : List Tree) (set : List Bool) (least : ℕ) (greatest : Option ℕ) (cut : List Part) →
    pieces_of_cut items (long set least greatest ∷ cut) ≡ closed items ++ rep set least greatest ∷ pieces_of_cut [] cut
closed-long [] set least greatest cut = refl
closed-long (t ∷ ts) set least greatest cut = refl

closed-none : (items : List Tree) → pieces_of_cut items [] ≡ closed items
closed-none [] = refl
closed-none (t ∷ ts) = refl

-- the items that wait are closed, and one more piece is complete
one_more : (before closing : List Piece) (piece : Piece) (rest all last : List Piece) →
    all ≡ before ++ closing → last ≡ all ++ piece ∷ [] → last ++ rest ≡ before ++ (closing ++ piece ∷ rest)
one_more before closing piece rest all last first second =
    ap (λ xs. xs ++ rest) second ∙ append_assoc all (piece ∷ []) rest
    ∙ ap (λ xs. xs ++ piece ∷ rest) first ∙ append_assoc before closing (piece ∷ rest)

-- a literal is complete
pub literal-complete : (before all last : List Piece) (items : List Tree) (xs : List LiteralByte) (cut : List Part) →
    all ≡ before ++ closed items → last ≡ all ++ lit xs ∷ [] →
    last ++ pieces_of_cut [] cut ≡ before ++ pieces_of_cut items (literal xs ∷ cut)
literal-complete before all last items xs cut first second =
    one_more before (closed items) (lit xs) (pieces_of_cut [] cut) all last first second
    ∙ ap (λ pieces. before ++ pieces) (sym (closed-literal items xs cut))

-- a long repeat is complete
pub long-complete : (before all last : List Piece) (items : List Tree) (set : List Bool) (least : ℕ) (greatest : Option ℕ) (cut : List Part) →
    all ≡ before ++ closed items → last ≡ all ++ rep set least greatest ∷ [] →
    last ++ pieces_of_cut [] cut ≡ before ++ pieces_of_cut items (long set least greatest ∷ cut)
long-complete before all last items set least greatest cut first second =
    one_more before (closed items) (rep set least greatest) (pieces_of_cut [] cut) all last first second
    ∙ ap (λ pieces. before ++ pieces) (sym (closed-long items set least greatest cut))

-- nothing more comes
pub all-complete : (before all : List Piece) (items : List Tree) → all ≡ before ++ closed items → all ≡ before ++ pieces_of_cut items []
all-complete before all items is = is ∙ ap (λ pieces. before ++ pieces) (sym (closed-none items))

-- an ordinary item more
pub ordinary-added : (items : List Tree) (t : Tree) (cut : List Part) →
    pieces_of_cut (items ++ t ∷ []) cut ≡ pieces_of_cut items (ordinary (t ∷ []) ∷ cut)
ordinary-added items t cut = ap (λ parts. map piece_of parts) (with_items-snoc items t (ordinary_joined cut))

-- the rest of a run of two or more is a literal
pub rest-literal : (run : List LiteralByte) → 1 < length run → rest_of_run run ≡ literal run ∷ []
rest-literal [] some = absurd (omega arith)
rest-literal (x ∷ []) some = absurd (omega arith)
rest-literal (x ∷ y ∷ xs) some = refl
