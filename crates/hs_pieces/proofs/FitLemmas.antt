-- Chains can be run.
use Rattle.std.proofs.Common.{◌≡◌, ℕ, zero, suc, ◌+◌, ◌-◌, ◌*◌, ◌/◌, ◌<◌, ◌≤◌, Bool, true, false, ◌||◌, ◌&&◌, ◌==◌, List, [], ◌∷◌, ◌++◌, length, map, take, drop, Option, Some, None, if◌then◌else◌, refl, sym, ap, ◌∙◌, subst, arith}
use Rattle.std.proofs.lemmas.Bool.Decides.{nat_tests}
use Rattle.std.proofs.lemmas.List.{map-append, take-append-drop, length-take, length-drop}
use Rattle.hs_base.specs.Lists.{Each}
use Rattle.hs_base.specs.Trees.{Tree, Trees, empty, class, points, assert, cat, alt, repeat, none, more, trees_of, IsProper, AreProper, AreBounds}
use Rattle.hs_base.specs.EndAssertions.{one_may_consume, has_embedded_end, sequence_has_embedded_end, one_has_embedded_end}
use Rattle.hs_base.specs.WrittenOut.{IsPlain, ArePlain}
use Rattle.hs_base.specs.Literals.{LiteralByte, is_small_letter, places_from, literal_of_places, literal_of}
use Rattle.hs_base.specs.Items.{items_of}
use Rattle.hs_base.specs.Chains.{Part, literal, ordinary, long, part_of, class_part, repeat_part, is_long, with_literal, with_ordinary, runs_joined, runs_cut, ordinary_joined, rest_of_run, cut_times, cut_run, piece_of, piece_tree, pieces_of, chain_trees, alternatives_of, alternatives_of_all, chains_of, IsLiteralByte, IsFitPiece, IsFitChain}
use Rattle.hs_base.proofs.ListLemmas.{each-append, each-left, each-right}
use Rattle.hs_base.proofs.EndAssertionLemmas.{neither}
use Rattle.hs_pieces.specs.Proper.{IsProperByte, IsProperPiece, AreProperChains}
use Rattle.hs_pieces.proofs.FlatLemmas.{items_in, items_within, parts_of, parts_of-same}
use Rattle.hs_expr.proofs.ItemLemmas.{items-proper}
use Rattle.hs_pieces.proofs.EndLemmas.{items-have_end, chain-has_end, ends-sooner, items-plain, chain-plain}

each-weaker : {A : Type 0} (P Q : A → Type 0) (xs : List A) → ((x : A) → P x → Q x) → Each P xs → Each Q xs
each-weaker P Q [] keeps each = tt
each-weaker P Q (x ∷ xs) keeps each = (keeps x each.0, each-weaker P Q xs keeps each.1)

-- a long repeat as a piece needs it
abbrev IsLongRepeat : List Bool → ℕ → Option ℕ → Type 0
IsLongRepeat set least greatest = (length set ≡ 256) × AreBounds least greatest × (is_long least greatest ≡ true)

-- a byte of a literal as a piece needs it
pub record IsSoundByte (x : LiteralByte) : Type 0 where
  pub proper : IsProperByte x
  pub literal : IsLiteralByte x

-- a part whose run may still be short or long
abbrev IsGood : Part → Type 0
IsGood (literal xs) = Each IsSoundByte xs
IsGood (ordinary ts) = Unit {0}
IsGood (long set least greatest) = IsLongRepeat set least greatest

-- a part that becomes a piece
abbrev IsFit : Part → Type 0
IsFit (literal xs) = (2 ≤ length xs) × (length xs ≤ 32) × Each IsSoundByte xs
IsFit (ordinary ts) = Unit {0}
IsFit (long set least greatest) = IsLongRepeat set least greatest

some_case : (test : Bool) (x y : LiteralByte) → (if test then Some y else None) ≡ Some x → (test ≡ true) × (y ≡ x)
some_case true x y h = let e : y ≡ x = cc in (refl, e)
some_case false x y h = absurd (cc)

small_letter : (a b : ℕ) → (is_small_letter b && (a + 32 == b)) ≡ true → is_small_letter b ≡ true
small_letter a b h = grind (arith, nat_tests)

literal-good : (places : List ℕ) (x : LiteralByte) → literal_of_places places ≡ Some x → Each (λ b. b < 256) places → IsSoundByte x
literal-good [] x h small = absurd (cc)
literal-good (b ∷ []) x h small =
    let e : record { byte = b; both_cases = false } ≡ x = cc in
    subst IsSoundByte e (record { proper = small.0; literal = λ both. absurd (cc) })
literal-good (a ∷ b ∷ []) x h small =
    let case = some_case (is_small_letter b && (a + 32 == b)) x (record { byte = b; both_cases = true }) h in
    subst IsSoundByte case.1 (record { proper = small.1.0; literal = λ both. small_letter a b case.0 })
literal-good (a ∷ b ∷ c ∷ others) x h small = absurd (cc)

-- the members of a set lie within it
places-below : (n bound : ℕ) (set : List Bool) → n + length set ≤ bound → Each (λ b. b < bound) (places_from n set)
places-below n bound [] h = tt
places-below n bound (true ∷ set) h = (omega arith, places-below (n + 1) bound set (omega arith))
places-below n bound (false ∷ set) h = places-below (n + 1) bound set (omega arith)

class_part-good : (set : List Bool) (byte : Option LiteralByte) → length set ≡ 256 → literal_of set ≡ byte → IsGood (class_part set byte)
class_part-good set None size is = tt
class_part-good set (Some x) size is = (literal-good (places_from 0 set) x is (places-below 0 256 set (omega arith)), tt)

repeat_part-good : (set : List Bool) (least : ℕ) (greatest : Option ℕ) (long : Bool) → length set ≡ 256 → AreBounds least greatest →
    is_long least greatest ≡ long → IsGood (repeat_part set least greatest long)
repeat_part-good set least greatest true size bounds is = (size, bounds, is)
repeat_part-good set least greatest false size bounds is = tt

part_of-good : (t : Tree) → IsProper t → IsGood (part_of t)
part_of-good empty proper = tt
part_of-good (class set) proper = class_part-good set (literal_of set) proper refl
part_of-good (points ranges) proper = tt
part_of-good (assert assertion) proper = tt
part_of-good (cat items) proper = tt
part_of-good (alt items) proper = tt
part_of-good (repeat empty least greatest) proper = tt
part_of-good (repeat (class set) least greatest) proper = repeat_part-good set least greatest (is_long least greatest) proper.0 proper.1 refl
part_of-good (repeat (points ranges) least greatest) proper = tt
part_of-good (repeat (assert assertion) least greatest) proper = tt
part_of-good (repeat (cat items) least greatest) proper = tt
part_of-good (repeat (alt items) least greatest) proper = tt
part_of-good (repeat (repeat body n m) least greatest) proper = tt

parts-good : (items : List Tree) → Each IsProper items → Each IsGood (map part_of items)
parts-good [] proper = tt
parts-good (t ∷ ts) proper = (part_of-good t proper.0, parts-good ts proper.1)

with_literal-good : (xs : List LiteralByte) (parts : List Part) → Each IsSoundByte xs → Each IsGood parts → Each IsGood (with_literal xs parts)
with_literal-good xs [] bytes good = (bytes, tt)
with_literal-good xs (literal ys ∷ parts) bytes good = (each-append IsSoundByte xs ys bytes good.0, good.1)
with_literal-good xs (ordinary ts ∷ parts) bytes good = (bytes, good)
with_literal-good xs (long set least greatest ∷ parts) bytes good = (bytes, good)

runs_joined-good : (parts : List Part) → Each IsGood parts → Each IsGood (runs_joined parts)
runs_joined-good [] good = tt
runs_joined-good (literal xs ∷ parts) good = with_literal-good xs (runs_joined parts) good.0 (runs_joined-good parts good.1)
runs_joined-good (ordinary ts ∷ parts) good = (tt, runs_joined-good parts good.1)
runs_joined-good (long set least greatest ∷ parts) good = (good.0, runs_joined-good parts good.1)

rest-fit : (xs : List LiteralByte) → length xs < 32 → Each IsSoundByte xs → Each IsFit (rest_of_run xs)
rest-fit [] few bytes = tt
rest-fit (x ∷ []) few bytes = (tt, tt)
rest-fit (x ∷ y ∷ xs) few bytes = ((omega arith, omega arith, bytes), tt)

cut_times-fit : (n : ℕ) (xs : List LiteralByte) → 32 * n ≤ length xs → length xs < 32 * n + 32 → Each IsSoundByte xs → Each IsFit (cut_times n xs)
cut_times-fit zero xs some few bytes = rest-fit xs (omega arith) bytes
cut_times-fit (suc n) xs some few bytes =
    let front : length (take 32 xs) ≡ 32 = omega (arith, length-take 32 xs) in
    let rest : length (drop 32 xs) ≡ length xs - 32 = length-drop 32 xs in
    let all : Each IsSoundByte (take 32 xs ++ drop 32 xs) = subst (Each IsSoundByte) (sym (take-append-drop 32 xs)) bytes in (
      (omega arith, omega arith, each-left IsSoundByte (take 32 xs) (drop 32 xs) all),
      cut_times-fit n (drop 32 xs) (omega arith) (omega arith) (each-right IsSoundByte (take 32 xs) (drop 32 xs) all),
    )

runs_cut-fit : (parts : List Part) → Each IsGood parts → Each IsFit (runs_cut parts)
runs_cut-fit [] good = tt
runs_cut-fit (literal xs ∷ parts) good =
    each-append IsFit (cut_run xs) (runs_cut parts)
    (cut_times-fit (length xs / 32) xs (omega arith) (omega arith) good.0) (runs_cut-fit parts good.1)
runs_cut-fit (ordinary ts ∷ parts) good = (tt, runs_cut-fit parts good.1)
runs_cut-fit (long set least greatest ∷ parts) good = (good.0, runs_cut-fit parts good.1)

with_ordinary-fit : (ts : List Tree) (parts : List Part) → Each IsFit parts → Each IsFit (with_ordinary ts parts)
with_ordinary-fit ts [] fit = (tt, tt)
with_ordinary-fit ts (literal xs ∷ parts) fit = (tt, fit)
with_ordinary-fit ts (ordinary us ∷ parts) fit = (tt, fit.1)
with_ordinary-fit ts (long set least greatest ∷ parts) fit = (tt, fit)

ordinary_joined-fit : (parts : List Part) → Each IsFit parts → Each IsFit (ordinary_joined parts)
ordinary_joined-fit [] fit = tt
ordinary_joined-fit (literal xs ∷ parts) fit = (fit.0, ordinary_joined-fit parts fit.1)
ordinary_joined-fit (ordinary ts ∷ parts) fit = with_ordinary-fit ts (ordinary_joined parts) (ordinary_joined-fit parts fit.1)
ordinary_joined-fit (long set least greatest ∷ parts) fit = (fit.0, ordinary_joined-fit parts fit.1)

parts_of-fit : (items : List Tree) → Each IsProper items → Each IsFit (parts_of items)
parts_of-fit items proper =
    ordinary_joined-fit (runs_cut (runs_joined (map part_of items)))
    (runs_cut-fit (runs_joined (map part_of items)) (runs_joined-good (map part_of items) (parts-good items proper)))

piece-fit : (part : Part) → IsFit part → IsPlain (piece_tree (piece_of part)) →
    has_embedded_end (piece_tree (piece_of part)) false ≡ false → IsFitPiece (piece_of part)
piece-fit (literal xs) fit plain last = (fit.0, fit.1, each-weaker IsSoundByte IsLiteralByte xs (λ x sound. sound.literal) fit.2)
piece-fit (ordinary ts) fit plain last = (plain, last)
piece-fit (long set least greatest) fit plain last = fit

pieces-fit : (parts : List Part) → Each IsFit parts → ArePlain (chain_trees (map piece_of parts)) →
    sequence_has_embedded_end (chain_trees (map piece_of parts)) false ≡ false → Each IsFitPiece (map piece_of parts)
pieces-fit [] fit plain last = tt
pieces-fit (part ∷ parts) fit plain last =
    let apart = neither (has_embedded_end (piece_tree (piece_of part)) (false || one_may_consume (chain_trees (map piece_of parts))))
    (sequence_has_embedded_end (chain_trees (map piece_of parts)) false) last in (
      piece-fit part fit.0 plain.0
          (ends-sooner (piece_tree (piece_of part)) false (one_may_consume (chain_trees (map piece_of parts))) apart.0),
      pieces-fit parts fit.1 plain.1 apart.1,
    )

-- the chain of an alternative can be run
chain-fit : (t : Tree) → IsProper t → IsPlain t → has_embedded_end t false ≡ false → IsFitChain (pieces_of (items_of t))
chain-fit t proper plain last =
    let same = parts_of-same (items_of t) (items-proper t proper) in
    let chain_plain = chain-plain (parts_of (items_of t)) (subst (λ items. ArePlain (trees_of items)) (sym same) (items-plain t plain)) in
    let chain_last = chain-has_end (parts_of (items_of t)) false
    ∙ ap (λ items. sequence_has_embedded_end (trees_of items) false) same ∙ items-have_end t false ∙ last in
    record {
      pieces = pieces-fit (parts_of (items_of t)) (parts_of-fit (items_of t) (items-proper t proper)) chain_plain chain_last;
      plain = chain_plain;
      ends_last = chain_last;
    }

-- so can each chain
mutual
  pub chains-fit : (t : Tree) → IsProper t → IsPlain t → has_embedded_end t false ≡ false → Each IsFitChain (chains_of t)
  chains-fit empty proper plain last = (chain-fit empty proper plain last, tt)
  chains-fit (class set) proper plain last = (chain-fit (class set) proper plain last, tt)
  chains-fit (points ranges) proper plain last = absurd plain
  chains-fit (assert assertion) proper plain last = (chain-fit (assert assertion) proper plain last, tt)
  chains-fit (cat items) proper plain last = (chain-fit (cat items) proper plain last, tt)
  chains-fit (alt items) proper plain last = alternatives-fit items proper plain last
  chains-fit (repeat body least greatest) proper plain last = (chain-fit (repeat body least greatest) proper plain last, tt)

  alternatives-fit : (items : Trees) → AreProper items → ArePlain items → one_has_embedded_end items false ≡ false →
      Each IsFitChain (map (λ u. pieces_of (items_of u)) (alternatives_of_all items))
  alternatives-fit none proper plain last = tt
  alternatives-fit (more item items) proper plain last =
      let apart = neither (has_embedded_end item false) (one_has_embedded_end items false) last in
      subst (Each IsFitChain) (sym (map-append (λ u. pieces_of (items_of u)) (alternatives_of item) (alternatives_of_all items)))
      (each-append IsFitChain (chains_of item) (map (λ u. pieces_of (items_of u)) (alternatives_of_all items))
      (chains-fit item proper.0 plain.0 apart.0) (alternatives-fit items proper.1 plain.1 apart.1))

-- the values of each piece are within their types

trees-proper : (ts : List Tree) → Each IsProper ts → AreProper (trees_of ts)
trees-proper [] each = tt
trees-proper (t ∷ ts) each = (each.0, trees-proper ts each.1)

piece-proper : (part : Part) → IsFit part → Each IsProper (items_in part) → IsProperPiece (piece_of part)
piece-proper (literal xs) fit items = each-weaker IsSoundByte IsProperByte xs (λ x sound. sound.proper) fit.2
piece-proper (ordinary ts) fit items = trees-proper ts items
piece-proper (long set least greatest) fit items = (fit.0, fit.1)

pieces-proper : (parts : List Part) → Each IsFit parts → Each IsProper (items_within parts) → Each IsProperPiece (map piece_of parts)
pieces-proper [] fit items = tt
pieces-proper (part ∷ parts) fit items = (
  piece-proper part fit.0 (each-left IsProper (items_in part) (items_within parts) items),
  pieces-proper parts fit.1 (each-right IsProper (items_in part) (items_within parts) items),
)

chain-proper : (t : Tree) → IsProper t → Each IsProperPiece (pieces_of (items_of t))
chain-proper t proper =
    pieces-proper (parts_of (items_of t)) (parts_of-fit (items_of t) (items-proper t proper))
    (subst (Each IsProper) (sym (parts_of-same (items_of t) (items-proper t proper))) (items-proper t proper))

mutual
  pub chains-proper : (t : Tree) → IsProper t → AreProperChains (chains_of t)
  chains-proper empty proper = (chain-proper empty proper, tt)
  chains-proper (class set) proper = (chain-proper (class set) proper, tt)
  chains-proper (points ranges) proper = (chain-proper (points ranges) proper, tt)
  chains-proper (assert assertion) proper = (chain-proper (assert assertion) proper, tt)
  chains-proper (cat items) proper = (chain-proper (cat items) proper, tt)
  chains-proper (alt items) proper = alternatives-proper items proper
  chains-proper (repeat body least greatest) proper = (chain-proper (repeat body least greatest) proper, tt)

  alternatives-proper : (items : Trees) → AreProper items → AreProperChains (map (λ u. pieces_of (items_of u)) (alternatives_of_all items))
  alternatives-proper none proper = tt
  alternatives-proper (more item items) proper =
      subst AreProperChains (sym (map-append (λ u. pieces_of (items_of u)) (alternatives_of item) (alternatives_of_all items)))
      (each-append (Each IsProperPiece) (chains_of item) (map (λ u. pieces_of (items_of u)) (alternatives_of_all items))
      (chains-proper item proper.0) (alternatives-proper items proper.1))
