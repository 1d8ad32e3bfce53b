-- An engine over a chunk as a cache tells it.
use Rattle.std.proofs.Common.{◌≡◌, ◌↔◌, ℕ, zero, suc, ◌+◌, ◌*◌, ◌/◌, ◌%◌, ◌<◌, ◌≤◌, Bool, true, false, ◌&&◌, List, [], ◌∷◌, ◌++◌, length, take, drop, replicate, slice_index, get_or, eqb, bit_and, refl, sym, ap, subst, ◌∙◌, arith}
use Rattle.std.specs.Int.{bit_at}
use Rattle.std.specs.Prelude.{nat_lt}
use Rattle.std.proofs.lemmas.List.{get_or-drop, get_or-take, length-take, replicate_more}
use Rattle.hs_base.specs.declared.context.Next.{Next}
use Rattle.hs_base.specs.declared.context.Next.TheVariants as after
use Rattle.hs_base.specs.declared.context.Prev.{Prev}
use Rattle.hs_base.specs.Bits.{has_word_bit}
use Rattle.hs_base.specs.Contexts.{class_of}
use Rattle.hs_base.specs.Fields.{Leaves}
use Rattle.hs_base.specs.Trees.{Tree}
use Rattle.hs_base.proofs.ContextSetLemmas.{bit-and}
use Rattle.hs_bits.specs.WordBits.{bits_of, word_bit}
use Rattle.std.proofs.lemmas.Nat.Bits.{bit_at_ones}
use Rattle.hs_bits.proofs.PlaceLemmas.{bit-none, less-is, not-less}
use Rattle.hs_block.specs.Blocks.{IsFieldOf}
use Rattle.hs_engine.specs.Engines.{Meaning}
use Rattle.hs_lazy.specs.Caches.{TellsRun, Told}
use Rattle.hs_lazy.specs.Runs.{IsRunThrough}
use Rattle.hs_waking.specs.EntryRows.{DoEntriesSuffice, entries_to}
use Rattle.hs_nodes.specs.Blocks.{block, front}
use Rattle.hs_nodes.specs.Starting.{AreToldEnds, IsRunEntered, IsToldIn, RunsAlone, entered_to, is_place}
use Rattle.hs_nodes.specs.declared.ends.ChunkEnds.{ChunkEnds}
use Rattle.hs_nodes.proofs.EnteredLemmas.{entered-place, length-block-few}
use Rattle.hs_nodes.proofs.SufficeLemmas.{place-front, reach-block, reach-place}

bit-both : (x y i : ℕ) → word_bit (bit_and x y) i ≡ (word_bit x i && word_bit y i)
unfolding word_bit
bit-both x y i = bit-and x y i

-- a place of a row of words
place-bit : (words : List ℕ) (j i : ℕ) → i < 64 → has_word_bit words (64 * j + i) ≡ word_bit (slice_index words j) i
unfolding has_word_bit word_bit
place-bit words j i small =
    let at : (64 * j + i) / 64 ≡ j = omega arith in
    let bit : (64 * j + i) % 64 ≡ i = omega arith in
    ap (λ k. eqb (bit_at (get_or words k 0) ((64 * j + i) % 64)) 1) at ∙ ap (λ k. eqb (bit_at (get_or words j 0) k) 1) bit

and-true : (a b : Bool) → b ≡ true → (a && b) ≡ a
and-true true b e = e
and-true false b e = refl

and-false : (a b : Bool) → b ≡ false → (a && b) ≡ false
and-false true b e = e
and-false false b e = refl

-- the words of a block, so far as it has bytes
pub told-in : (bytes befores behinds : List ℕ) (t : Told) (j all : ℕ) → j < 8 → ((i : ℕ) → word_bit all i ≡ nat_lt i (length (block bytes j))) → ((i : ℕ) → i < 512 → has_word_bit befores i ≡ t.before i) → ((i : ℕ) → i < 512 → has_word_bit behinds i ≡ t.behind i) →
    IsToldIn bytes t j (bit_and (slice_index befores j) all) (bit_and (slice_index behinds j) all)
told-in bytes befores behinds t j all few low before behind = record {
  before_in = λ i inside. bit-both (slice_index befores j) all i ∙ (and-true _ _ (low i ∙ less-is i (length (block bytes j)) inside) ∙ (sym (place-bit befores j i (omega (arith, inside, length-block-few bytes j))) ∙ before (64 * j + i) (omega (arith, inside, few, length-block-few bytes j))));
  before_past = λ i past. bit-both (slice_index befores j) all i ∙ and-false _ _ (low i ∙ not-less i (length (block bytes j)) past);
  behind_in = λ i inside. bit-both (slice_index behinds j) all i ∙ (and-true _ _ (low i ∙ less-is i (length (block bytes j)) inside) ∙ (sym (place-bit behinds j i (omega (arith, inside, length-block-few bytes j))) ∙ behind (64 * j + i) (omega (arith, inside, few, length-block-few bytes j))));
  behind_past = λ i past. bit-both (slice_index behinds j) all i ∙ and-false _ _ (low i ∙ not-less i (length (block bytes j)) past);
}

-- entries before each byte
everywhere-entries : (kept : ℕ → Bool) (n : ℕ) → ((p : ℕ) → kept p ≡ true) → entries_to kept n ≡ replicate n true
everywhere-entries kept zero all = refl
everywhere-entries kept (suc n) all =
    let next : n + 1 ≡ suc n = omega arith in
    ap (λ es. es ++ kept n ∷ []) (everywhere-entries kept n all) ∙ (ap (λ b. replicate n true ++ b ∷ []) (all n) ∙ (replicate_more n true ∙ ap (λ k. replicate k true) next))

-- they suffice
pub everywhere-suffices : (m : Meaning) (kept : ℕ → Bool) (prev : Prev) (bytes : List ℕ) → ((p : ℕ) → kept p ≡ true) → DoEntriesSuffice m kept prev bytes
everywhere-suffices m kept prev bytes all = record {
  field = λ tree u region entered runs count last field. subst (λ es. m.field region tree (u ++ bytes) (entered ++ es)) (everywhere-entries kept (length bytes) all) field;
  leaves = λ tree u entered runs count last i within next. subst (λ es. Leaves tree (u ++ take i bytes) (entered ++ entries_to kept i) next ↔ Leaves tree (u ++ take i bytes) (entered ++ es) next) (everywhere-entries kept i all) (λ l. l, λ l. l);
}

-- the byte at a place of a block
byte-place : (bytes : List ℕ) (j i : ℕ) → i < length (block bytes j) → slice_index (block bytes j) i ≡ slice_index bytes (64 * j + i)
unfolding block
byte-place bytes j i inside =
    get_or-take 64 (drop (64 * j) bytes) i 0 (omega (arith, inside, length-take 64 (drop (64 * j) bytes))) ∙ get_or-drop (64 * j) bytes i 0

both : {A B C : Type 0} → A ↔ B → B ↔ C → A ↔ C
both f g = (λ a. g.0 (f.0 a), λ c. f.1 (g.1 c))

from-bit : (a b : Bool) {B : Type 0} → a ≡ b → (b ≡ true) ↔ B → (a ≡ true) ↔ B
from-bit a b {B} e f = subst (λ x. (x ≡ true) ↔ B) (sym e) f

module _ (m : Meaning) (old : List ℕ) (prev : Prev) (at : ℕ) (bytes : List ℕ) (t : Told) (words : ℕ → ℕ) (ends : ChunkEnds) (all : (p : ℕ) → is_place words p ≡ true) (tells : TellsRun m old prev bytes t) (are : AreToldEnds bytes ends t) where
  module _ (tree : Tree) (u : List ℕ) (entered : List Bool) (of : IsFieldOf m old prev at tree u entered) where
    run : IsRunThrough (m.field t.part tree) tree u entered bytes t.before t.behind
    run = tells.runs tree u entered of.runs of.count of.behind of.field

    -- it is left at a place of the chunk just where it is at that of the block
    at-place : (j i : ℕ) → i ≤ length (block bytes j) → 64 * j ≤ length bytes → (next : Next) →
        Leaves tree (u ++ take (64 * j + i) bytes) (entered ++ replicate (64 * j + i) true) next ↔
        Leaves tree (front u bytes j ++ take i (block bytes j)) (entered_to entered words bytes j ++ bits_of (words j) i) next
    at-place j i within reaches next =
        subst (λ v. Leaves tree (u ++ take (64 * j + i) bytes) (entered ++ replicate (64 * j + i) true) next ↔ Leaves tree v (entered_to entered words bytes j ++ bits_of (words j) i) next) (place-front u bytes j i within)
        (subst (λ es. Leaves tree (u ++ take (64 * j + i) bytes) (entered ++ replicate (64 * j + i) true) next ↔ Leaves tree (u ++ take (64 * j + i) bytes) es next) (entered-place entered words bytes j i (omega (arith, within, length-block-few bytes j)) reaches)
        (subst (λ es. Leaves tree (u ++ take (64 * j + i) bytes) (entered ++ replicate (64 * j + i) true) next ↔ Leaves tree (u ++ take (64 * j + i) bytes) (entered ++ es) next) (sym (everywhere-entries (is_place words) (64 * j + i) all)) (λ l. l, λ l. l)))

    inside-chunk : (j i : ℕ) → i < length (block bytes j) → 64 * j + i < length bytes
    inside-chunk j i low = omega (arith, reach-place bytes j (i + 1) (omega (arith, low)) (reach-block bytes j i low))

    entered-run : IsRunEntered (m.field t.part tree) tree u entered bytes words ends
    entered-run = record {
      field = subst (λ es. m.field t.part tree (u ++ bytes) (entered ++ es)) (sym (everywhere-entries (is_place words) (length bytes) all)) run.field;
      before_is = λ j small. record {
        below = λ i low. from-bit _ _ ((are j).before_in i low) (both (run.before_is (64 * j + i) (inside-chunk j i low))
            (subst (λ b. Leaves tree (u ++ take (64 * j + i) bytes) (entered ++ replicate (64 * j + i) true) (class_of b) ↔ Leaves tree (front u bytes j ++ take i (block bytes j)) (entered_to entered words bytes j ++ bits_of (words j) i) (class_of (slice_index (block bytes j) i))) (byte-place bytes j i low)
            (at-place j i (omega (arith, low)) (reach-block bytes j i low) (class_of (slice_index (block bytes j) i)))));
        above = (are j).before_past;
      };
      behind_is = λ j small. record {
        below = λ i low.
            let next : (64 * j + i) + 1 ≡ 64 * j + (i + 1) = omega arith in
            from-bit _ _ ((are j).behind_in i low) (both (run.behind_is (64 * j + i) (inside-chunk j i low))
            (subst (λ k. Leaves tree (u ++ take k bytes) (entered ++ replicate k true) after.Unknown ↔ Leaves tree (front u bytes j ++ take (i + 1) (block bytes j)) (entered_to entered words bytes j ++ bits_of (words j) (i + 1)) after.Unknown) (sym next)
            (at-place j (i + 1) (omega (arith, low)) (reach-block bytes j i low) after.Unknown)));
        above = (are j).behind_past;
      };
    }

  pub told-alone : RunsAlone m old t.part prev at bytes ends
  told-alone = record {
    words = words;
    runs = λ tree u entered of. entered-run tree u entered of;
    suffices = everywhere-suffices m (is_place words) prev bytes all;
  }

-- a block without a byte
pub told-past : (bytes : List ℕ) (t : Told) (j : ℕ) → block bytes j ≡ [] → IsToldIn bytes t j 0 0
told-past bytes t j none =
    let empty : length (block bytes j) ≡ 0 = ap length none in record {
      before_in = λ i inside. absurd (omega (arith, inside, empty));
      before_past = λ i past. bit-none i;
      behind_in = λ i inside. absurd (omega (arith, inside, empty));
      behind_past = λ i past. bit-none i;
    }

-- all places
abbrev pub all-words : ℕ → ℕ
all-words j = 18446744073709551615

pub all-places : (p : ℕ) → is_place all-words p ≡ true
unfolding word_bit
all-places p = ap (λ b. eqb b 1) (bit_at_ones 64 (p % 64) (omega arith))
