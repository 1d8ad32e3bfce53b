-- Hits of a table as hits of a chunk.
use Rattle.std.proofs.Common.{◌≡◌, ◌++◌, ℕ, zero, suc, ◌+◌, ◌*◌, ◌/◌, ◌%◌, ◌<◌, ◌≤◌, Bool, true, false, List, [], ◌∷◌, length, set, Some, slice_get, refl, sym, ap, subst, ◌∙◌, inl, inr, arith, length-set}
use Rattle.std.specs.Prelude.{slice_index}
use Rattle.std.proofs.lemmas.Bool.{cases_lt, cases_eq}
use Rattle.std.proofs.lemmas.Option.{get_or_from_slice_get, slice_get-get_or, slice_get_within}
use Rattle.hs_base.specs.LiteralEnds.{EndsAt}
use Rattle.hs_base.specs.Literals.{LiteralByte}
use Rattle.hs_base.specs.Regions.{last_bytes}
use Rattle.hs_block.specs.LiteralBlocks.{is_hit}
use Rattle.hs_bits.specs.WordBits.{word_bit}
use Rattle.hs_block.specs.declared.literal.Hits.{Hits}
use Rattle.hs_bits.proofs.PlaceLemmas.{bit-none}
use Rattle.hs_literals.specs.HitLaws.{ReachesBack}
use Rattle.hs_literals.specs.HitTables.{AreMarked, HitTable, TellsHits, has_hit}
use Rattle.hs_literals.proofs.HitStreamLemmas.{hits-of_stream}
use Rattle.hs_literals.specs.HitTables.{is_hit_at as is_table_hit}
use Rattle.hs_nodes.specs.Hits.{is_hit_at}
use Rattle.hs_nodes.specs.declared.hits.ChunkHits.{ChunkHits}
use Rattle.hs_scan.specs.Hits.{AreShown, HasNowhere, IsShown, hits_of, no_hits}
use Rattle.hs_scan.specs.Scans.{AreHitsBehind}
use Rattle.hs_scan.proofs.BlockLemmas.{value-tells}
use Rattle.hs_nodes.proofs.FillLemmas.{get-past, set-other, set-same}

-- the hits of the first so many blocks are those of the table
pub record AreBlockHits (table : HitTable) (number : ℕ) (behind : List ℕ) (n : ℕ) : Type 0 where
  pub count : length behind ≡ 8
  pub each : (j : ℕ) → j < n → (own : Hits) × (slice_index behind j ≡ own.behind) × ((i : ℕ) → i ≤ 64 → is_hit own i ≡ is_table_hit table number (64 * j + i))

pub blocks-shown : (table : HitTable) (number : ℕ) (hits : ChunkHits) (n : ℕ) (first : Hits) → n ≡ 8 → hits.at_start ≡ first.at_start → ((i : ℕ) → i ≤ 64 → is_hit first i ≡ is_table_hit table number (64 * 0 + i)) → AreBlockHits table number hits.behind n → IsShown table number hits
blocks-shown table number hits n first all start first_is are zero below = start ∙ (first_is 0 (omega arith) ∙ (let e : 64 * 0 + 0 ≡ 0 = omega arith in ap (is_table_hit table number) e))
blocks-shown table number hits n first all start first_is are (suc m) below =
    let (own, same, is) = are.each (m / 64) (omega arith) in
    let low : m % 64 < 64 = omega arith in
    let e : 64 * (m / 64) + suc (m % 64) ≡ suc m = omega arith in
    ap (λ w. word_bit w (m % 64)) same ∙ (is (suc (m % 64)) (omega (arith, low)) ∙ ap (is_table_hit table number) e)

-- block by block

pub record IsShownTo (table : HitTable) (number : ℕ) (hits : ChunkHits) (n : ℕ) : Type 0 where
  pub first : Hits
  pub start : hits.at_start ≡ first.at_start
  pub is : (i : ℕ) → i ≤ 64 → is_hit first i ≡ is_table_hit table number (64 * 0 + i)
  pub blocks : AreBlockHits table number hits.behind n

pub shown-none : (table : HitTable) (number : ℕ) (hits : ChunkHits) (first : Hits) → hits.at_start ≡ first.at_start → length hits.behind ≡ 8 → ((i : ℕ) → i ≤ 64 → is_hit first i ≡ is_table_hit table number (64 * 0 + i)) → IsShownTo table number hits 0
shown-none table number hits first start count is = record {
  first = first;
  start = start;
  is = is;
  blocks = record { count = count; each = λ j below. absurd (omega arith) };
}

pub shown-more : (table : HitTable) (number : ℕ) (hits : ChunkHits) (own : Hits) (behind : List ℕ) (j n : ℕ) → n ≡ j + 1 → j < 8 → behind ≡ set hits.behind j own.behind → ((i : ℕ) → i ≤ 64 → is_hit own i ≡ is_table_hit table number (64 * j + i)) →
    IsShownTo table number hits j → IsShownTo table number (record hits { behind = behind }) n
shown-more table number hits own behind j n next below same own_is to = record {
  first = to.first;
  start = to.start;
  is = to.is;
  blocks = record {
    count = ap length same ∙ (length-set hits.behind j own.behind ∙ to.blocks.count);
    each = λ i low. elim (cases_eq i j) [
      | inl here ↦ (
        own,
        ap (λ k. slice_index behind k) here ∙ (ap (λ xs. slice_index xs j) same ∙ get_or_from_slice_get (set hits.behind j own.behind) j own.behind 0 (set-same hits.behind j own.behind (omega (arith, below, to.blocks.count)))),
        subst (λ k. (m : ℕ) → m ≤ 64 → is_hit own m ≡ is_table_hit table number (64 * k + m)) (sym here) own_is,
      )
      | inr apart ↦
          let (other, is, tells) = to.blocks.each i (omega (arith, low, next, apart)) in
          let inside : i < length hits.behind = omega (arith, low, next, below, to.blocks.count) in
          (other, ap (λ xs. slice_index xs i) same ∙ (get_or_from_slice_get (set hits.behind j own.behind) i (slice_index hits.behind i) 0 (set-other hits.behind i j own.behind apart ∙ slice_get-get_or hits.behind i 0 inside) ∙ is), tells)
    ];
  };
}

pub shown-all : (table : HitTable) (number : ℕ) (hits : ChunkHits) (n : ℕ) → n ≡ 8 → IsShownTo table number hits n → IsShown table number hits
shown-all table number hits n all to = blocks-shown table number hits n to.first all to.start to.is to.blocks

-- literal by literal

pub no-hit : (i : ℕ) → is_hit_at no_hits i ≡ false
no-hit zero = refl
no-hit (suc i) = ap (λ w. word_bit w (i % 64)) (zeros (i / 64)) ∙ bit-none (i % 64)
  where
    zeros : (k : ℕ) → slice_index no_hits.behind k ≡ 0
    zeros zero = refl
    zeros (suc zero) = refl
    zeros (suc (suc zero)) = refl
    zeros (suc (suc (suc zero))) = refl
    zeros (suc (suc (suc (suc zero)))) = refl
    zeros (suc (suc (suc (suc (suc zero))))) = refl
    zeros (suc (suc (suc (suc (suc (suc zero)))))) = refl
    zeros (suc (suc (suc (suc (suc (suc (suc zero))))))) = refl
    zeros (suc (suc (suc (suc (suc (suc (suc (suc k)))))))) = refl

unmarked-none : (table : HitTable) (k i : ℕ) → AreMarked table → has_hit table k ≡ false → is_table_hit table k i ≡ false
unmarked-none table k i marked none = by-value (is_table_hit table k i) refl
  where
    by-value : (b : Bool) → is_table_hit table k i ≡ b → is_table_hit table k i ≡ false
    by-value false is = is
    by-value true is = let hit : has_hit table k ≡ true = marked.marked k i is in cc

-- The literals before a number are shown, and no other.
pub record AreShownTo (table : HitTable) (hits : List ChunkHits) (from : ℕ) : Type 0 where
  pub within : from ≤ table.count
  pub count : length hits ≡ table.count
  pub shown : (k : ℕ) → k < from → AreShown table hits k
  pub rest : (k : ℕ) → from ≤ k → HasNowhere hits k
  pub others : (k : ℕ) → has_hit table k ≡ false → HasNowhere hits k

pub all-none : (table : HitTable) (hits : List ChunkHits) → length hits ≡ table.count → ((k : ℕ) → HasNowhere hits k) → AreShownTo table hits 0
all-none table hits count none = record { within = omega arith; count = count; shown = λ k below. absurd (omega arith); rest = λ k past. none k; others = λ k unset. none k }

pub all-passed : (table : HitTable) (hits : List ChunkHits) (from to : ℕ) → AreMarked table → from ≤ to → to ≤ table.count → ((k : ℕ) → from ≤ k → k < to → has_hit table k ≡ false) → AreShownTo table hits from → AreShownTo table hits to
all-passed table hits from to marked order inside none are = record {
  within = inside;
  count = are.count;
  shown = λ k below. elim (cases_lt k from) [
    | inl early ↦ are.shown k early
    | inr late ↦ λ i small. ap (λ h. is_hit_at h i) (are.rest k late) ∙ (no-hit i ∙ sym (unmarked-none table k i marked (none k late below)))
  ];
  rest = λ k past. are.rest k (omega (arith, order, past));
  others = are.others;
}

hits-same : (hits : List ChunkHits) (k : ℕ) (own : ChunkHits) → k < length hits → hits_of (set hits k own) k ≡ own
hits-same hits k own below = get_or_from_slice_get (set hits k own) k own no_hits (set-same hits k own below)

hits-other : (hits : List ChunkHits) (i k : ℕ) (own : ChunkHits) → (i ≡ k → ⊥) → hits_of (set hits k own) i ≡ hits_of hits i
hits-other [] i k own apart = refl
hits-other (x ∷ hits) zero zero own apart = absurd (apart refl)
hits-other (x ∷ hits) (suc i) zero own apart = refl
hits-other (x ∷ hits) zero (suc k) own apart = refl
hits-other (x ∷ hits) (suc i) (suc k) own apart = hits-other hits i k own (λ same. apart (ap suc same))

pub all-more : (table : HitTable) (hits : List ChunkHits) (k n : ℕ) (own : ChunkHits) → n ≡ k + 1 → k < table.count → has_hit table k ≡ true → IsShown table k own → AreShownTo table hits k → AreShownTo table (set hits k own) n
all-more table hits k n own next inside hit is are = record {
  within = omega (arith, next, inside);
  count = length-set hits k own ∙ are.count;
  shown = λ i below. elim (cases_eq i k) [
    | inl same ↦ subst (λ m. IsShown table m (hits_of (set hits k own) m)) (sym same) (subst (IsShown table k) (sym (hits-same hits k own (omega (arith, inside, are.count)))) is)
    | inr apart ↦ subst (IsShown table i) (sym (hits-other hits i k own apart)) (are.shown i (omega (arith, below, next, apart)))
  ];
  rest = λ i past. hits-other hits i k own (λ same. omega (arith, same, past, next)) ∙ are.rest i (omega (arith, past, next));
  others = λ i unset. hits-other hits i k own (λ same. apart-marks table i k unset hit same) ∙ are.others i unset;
}
  where
    apart-marks : (table : HitTable) (i k : ℕ) → has_hit table i ≡ false → has_hit table k ≡ true → i ≡ k → ⊥
    apart-marks table i k unset set same = let e : has_hit table i ≡ has_hit table k = ap (has_hit table) same in cc

-- taken back
pub record AreForgottenTo (table : HitTable) (hits : List ChunkHits) (from : ℕ) : Type 0 where
  pub within : from ≤ table.count
  pub count : length hits ≡ table.count
  pub none : (k : ℕ) → k < from → HasNowhere hits k
  pub others : (k : ℕ) → has_hit table k ≡ false → HasNowhere hits k

pub forgot-none : (table : HitTable) (hits : List ChunkHits) → length hits ≡ table.count → ((k : ℕ) → has_hit table k ≡ false → HasNowhere hits k) → AreForgottenTo table hits 0
forgot-none table hits count others = record { within = omega arith; count = count; none = λ k below. absurd (omega arith); others = others }

pub forgot-passed : (table : HitTable) (hits : List ChunkHits) (from to : ℕ) → from ≤ to → to ≤ table.count → ((k : ℕ) → from ≤ k → k < to → has_hit table k ≡ false) → AreForgottenTo table hits from → AreForgottenTo table hits to
forgot-passed table hits from to order inside none are = record {
  within = inside;
  count = are.count;
  none = λ k below. elim (cases_lt k from) [ inl early ↦ are.none k early | inr late ↦ are.others k (none k late below) ];
  others = are.others;
}

pub forgot-more : (table : HitTable) (hits : List ChunkHits) (k n : ℕ) → n ≡ k + 1 → k < table.count → AreForgottenTo table hits k → AreForgottenTo table (set hits k no_hits) n
forgot-more table hits k n next inside are = record {
  within = omega (arith, next, inside);
  count = length-set hits k no_hits ∙ are.count;
  none = λ i below. elim (cases_eq i k) [
    | inl same ↦ ap (hits_of (set hits k no_hits)) same ∙ hits-same hits k no_hits (omega (arith, inside, are.count))
    | inr apart ↦ hits-other hits i k no_hits apart ∙ are.none i (omega (arith, below, next, apart))
  ];
  others = λ i unset. elim (cases_eq i k) [
    | inl same ↦ ap (hits_of (set hits k no_hits)) same ∙ hits-same hits k no_hits (omega (arith, inside, are.count))
    | inr apart ↦ hits-other hits i k no_hits apart ∙ are.others i unset
  ];
}

pub forgot-all : (table : HitTable) (hits : List ChunkHits) → AreForgottenTo table hits table.count → (k : ℕ) → HasNowhere hits k
forgot-all table hits are k = elim (cases_lt k table.count) [ inl below ↦ are.none k below | inr past ↦ get-past hits k no_hits (omega (arith, past, are.count)) ]

-- The hits of a table are those of the literals behind any stream with those last bytes.
pub hits-behind : (literals : List (List LiteralByte)) (table : HitTable) (hits : List ChunkHits) (at : ℕ) (past before bytes : List ℕ) → TellsHits table literals before bytes →
    ((k : ℕ) → k < table.count → AreShown table hits k) → length literals ≤ table.count → length bytes ≤ 512 → ((number : ℕ) (literal : List LiteralByte) → slice_get literals number ≡ Some literal → length literal ≤ 32) →
    ((u : List ℕ) (literal : List LiteralByte) → at ≡ length u → past ≡ last_bytes 64 u → length literal ≤ 32 → ReachesBack literal u before) → AreHitsBehind literals at past hits bytes
hits-behind literals table hits at past before bytes tells shown few small short reaches u offset past_is number literal own there own_there i within =
    let below : number < length literals = slice_get_within literals number literal there in
    let law = hits-of_stream table literals u before bytes number literal tells there (reaches u literal offset past_is (short number literal there)) i within in
    let same : hits_of hits number ≡ own = get_or_from_slice_get hits number own no_hits own_there in
    value-tells (is_hit_at own i) (is_table_hit table number i) (EndsAt literal (u ++ bytes) (length u + i)) (ap (λ h. is_hit_at h i) (sym same) ∙ shown number (omega (arith, below, few)) i (omega (arith, within, small))) law
