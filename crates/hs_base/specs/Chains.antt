-- Chains of pieces: what an expression is split into, at its literals and its long repeats of one set.
use Rattle.std.specs.Prelude.{◌≡◌, ℕ, zero, suc, ◌/◌, ◌≤◌, Bool, true, false, nat_le, List, [], ◌∷◌, ◌++◌, length, map}
use Rattle.std.specs.Prelude.{take, drop, Option, Some, None}
use Rattle.hs_base.specs.Lists.{Each}
use Rattle.hs_base.specs.Trees.{Tree, Trees, empty, class, points, assert, cat, alt, repeat, none, more, trees_of}
use Rattle.hs_base.specs.Trees.{AreBounds}
use Rattle.hs_base.specs.Spans.{Spans}
use Rattle.hs_base.specs.EndAssertions.{has_embedded_end}
use Rattle.hs_base.specs.WrittenOut.{IsPlain}
use Rattle.hs_base.specs.Literals.{LiteralByte, is_small_letter, literal_set, literal_of}
use Rattle.hs_base.specs.Items.{items_of}

pub data Piece : Type 0 where
  -- bytes in a row
  lit : List LiteralByte → Piece
  -- an expression
  nfa : Tree → Piece
  -- so many bytes of a set
  rep : List Bool → ℕ → Option ℕ → Piece

-- the alternatives of an expression, nested ones opened; what is no alternative is its own only one
abbrev mutual
  pub alternatives_of : Tree → List Tree
  alternatives_of empty = empty ∷ []
  alternatives_of (class set) = class set ∷ []
  alternatives_of (points ranges) = points ranges ∷ []
  alternatives_of (assert assertion) = assert assertion ∷ []
  alternatives_of (cat items) = cat items ∷ []
  alternatives_of (alt items) = alternatives_of_all items
  alternatives_of (repeat body least greatest) = repeat body least greatest ∷ []

  pub alternatives_of_all : Trees → List Tree
  alternatives_of_all none = []
  alternatives_of_all (more item items) = alternatives_of item ++ alternatives_of_all items

-- the most bytes of one literal
abbrev pub most_literal_bytes : ℕ
most_literal_bytes = 32

-- so many copies are too many for positions: the repeat of a set is a piece of its own
abbrev pub is_long : ℕ → Option ℕ → Bool
is_long least None = nat_le 65 least
is_long least (Some greatest) = nat_le 65 greatest

-- What becomes of items in a row, on the way to pieces.
pub data Part : Type 0 where
  literal : List LiteralByte → Part
  ordinary : List Tree → Part
  long : List Bool → ℕ → Option ℕ → Part

-- a class by the literal byte that it is, if it is one
abbrev pub class_part : List Bool → Option LiteralByte → Part
class_part set None = ordinary (class set ∷ [])
class_part set (Some byte) = literal (byte ∷ [])

-- a repeat of a set
abbrev pub repeat_part : List Bool → ℕ → Option ℕ → (long : Bool) → Part
repeat_part set least greatest true = long set least greatest
repeat_part set least greatest false = ordinary (repeat (class set) least greatest ∷ [])

-- one item
abbrev pub part_of : Tree → Part
part_of empty = ordinary (empty ∷ [])
part_of (class set) = class_part set (literal_of set)
part_of (points ranges) = ordinary (points ranges ∷ [])
part_of (assert assertion) = ordinary (assert assertion ∷ [])
part_of (cat items) = ordinary (cat items ∷ [])
part_of (alt items) = ordinary (alt items ∷ [])
part_of (repeat empty least greatest) = ordinary (repeat empty least greatest ∷ [])
part_of (repeat (class set) least greatest) = repeat_part set least greatest (is_long least greatest)
part_of (repeat (points ranges) least greatest) = ordinary (repeat (points ranges) least greatest ∷ [])
part_of (repeat (assert assertion) least greatest) = ordinary (repeat (assert assertion) least greatest ∷ [])
part_of (repeat (cat items) least greatest) = ordinary (repeat (cat items) least greatest ∷ [])
part_of (repeat (alt items) least greatest) = ordinary (repeat (alt items) least greatest ∷ [])
part_of (repeat (repeat body n m) least greatest) = ordinary (repeat (repeat body n m) least greatest ∷ [])

-- literal bytes before parts: one run with those that follow at once
abbrev pub with_literal : List LiteralByte → List Part → List Part
with_literal xs [] = literal xs ∷ []
with_literal xs (literal ys ∷ parts) = literal (xs ++ ys) ∷ parts
with_literal xs (ordinary ts ∷ parts) = literal xs ∷ ordinary ts ∷ parts
with_literal xs (long set least greatest ∷ parts) = literal xs ∷ long set least greatest ∷ parts

-- literal items in a row are one run
abbrev pub runs_joined : List Part → List Part
runs_joined [] = []
runs_joined (literal xs ∷ parts) = with_literal xs (runs_joined parts)
runs_joined (ordinary ts ∷ parts) = ordinary ts ∷ runs_joined parts
runs_joined (long set least greatest ∷ parts) = long set least greatest ∷ runs_joined parts

-- the rest of a run: one byte alone is an ordinary item
abbrev pub rest_of_run : List LiteralByte → List Part
rest_of_run [] = []
rest_of_run (x ∷ []) = ordinary (class (literal_set x) ∷ []) ∷ []
rest_of_run (x ∷ y ∷ xs) = literal (x ∷ y ∷ xs) ∷ []

-- so many full literals from the front, and then the rest
abbrev pub cut_times : ℕ → List LiteralByte → List Part
cut_times zero xs = rest_of_run xs
cut_times (suc n) xs = literal (take most_literal_bytes xs) ∷ cut_times n (drop most_literal_bytes xs)

-- a run, cut from the front into full literals
abbrev pub cut_run : List LiteralByte → List Part
cut_run xs = cut_times (length xs / most_literal_bytes) xs

-- each run is cut
abbrev pub runs_cut : List Part → List Part
runs_cut [] = []
runs_cut (literal xs ∷ parts) = cut_run xs ++ runs_cut parts
runs_cut (ordinary ts ∷ parts) = ordinary ts ∷ runs_cut parts
runs_cut (long set least greatest ∷ parts) = long set least greatest ∷ runs_cut parts

-- ordinary items before parts: one list with those that follow at once
abbrev pub with_ordinary : List Tree → List Part → List Part
with_ordinary ts [] = ordinary ts ∷ []
with_ordinary ts (literal xs ∷ parts) = ordinary ts ∷ literal xs ∷ parts
with_ordinary ts (ordinary us ∷ parts) = ordinary (ts ++ us) ∷ parts
with_ordinary ts (long set least greatest ∷ parts) = ordinary ts ∷ long set least greatest ∷ parts

-- ordinary items in a row are one list
abbrev pub ordinary_joined : List Part → List Part
ordinary_joined [] = []
ordinary_joined (literal xs ∷ parts) = literal xs ∷ ordinary_joined parts
ordinary_joined (ordinary ts ∷ parts) = with_ordinary ts (ordinary_joined parts)
ordinary_joined (long set least greatest ∷ parts) = long set least greatest ∷ ordinary_joined parts

-- the piece of a part
abbrev pub piece_of : Part → Piece
piece_of (literal xs) = lit xs
piece_of (ordinary ts) = nfa (cat (trees_of ts))
piece_of (long set least greatest) = rep set least greatest

-- The pieces of items in a row: runs of literal items are cut into literals, a literal item alone is an ordinary one,
-- long repeats of a set stand alone, and the ordinary items between these are one expression.
abbrev pub pieces_of : List Tree → List Piece
pieces_of items = map piece_of (ordinary_joined (runs_cut (runs_joined (map part_of items))))

-- The chains of an expression: one for each alternative.
abbrev pub chains_of : Tree → List (List Piece)
chains_of t = map (λ u. pieces_of (items_of u)) (alternatives_of t)

-- the expression that a piece stands for
abbrev pub piece_tree : Piece → Tree
piece_tree (lit xs) = cat (trees_of (map (λ x. class (literal_set x)) xs))
piece_tree (nfa t) = t
piece_tree (rep set least greatest) = repeat (class set) least greatest

-- a chain stands for its pieces, one after the other
abbrev pub chain_trees : List Piece → Trees
chain_trees chain = trees_of (map piece_tree chain)

-- the chain has a span from i to j in the stream
abbrev pub ChainSpans : List ℕ → Bool → List Piece → ℕ → ℕ → Type 0
ChainSpans w ended chain i j = Spans w ended (cat (chain_trees chain)) i j

-- where both cases count, the byte is a small letter
abbrev pub IsLiteralByte : LiteralByte → Type 0
IsLiteralByte x = x.both_cases ≡ true → is_small_letter x.byte ≡ true

-- the piece can be run
abbrev pub IsFitPiece : Piece → Type 0
IsFitPiece (lit xs) = (2 ≤ length xs) × (length xs ≤ most_literal_bytes) × Each IsLiteralByte xs
IsFitPiece (nfa t) = IsPlain t × (has_embedded_end t false ≡ false)
IsFitPiece (rep set least greatest) = (length set ≡ 256) × AreBounds least greatest × (is_long least greatest ≡ true)

-- a chain whose pieces can be run, in this order: no byte is consumed behind an assertion of the stream's end
pub record IsFitChain (chain : List Piece) : Type 0 where
  pub pieces : Each IsFitPiece chain
  pub plain : IsPlain (cat (chain_trees chain))
  pub ends_last : has_embedded_end (cat (chain_trees chain)) false ≡ false
