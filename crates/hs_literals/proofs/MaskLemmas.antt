-- Masks of a block, and masks that leave no bucket open.
use Rattle.std.proofs.Common.{◌≡◌, ℕ, ◌+◌, ◌-◌, ◌<◌, ◌≤◌, List, [], ◌++◌, cond, ltb, length, get_or, take, drop, Option, Some, refl, sym, ap, ◌∙◌, subst, arith, inl, inr, Fits, w8, append_assoc, length-append, length-take, length-drop}
use Rattle.std.specs.Prelude.{slice_get}
use Rattle.std.specs.List.{All}
use Rattle.std.specs.Int.{bit_at}
use Rattle.std.proofs.lemmas.Bool.{cases_lt, le-ltb}
use Rattle.std.proofs.lemmas.Nat.Bits.{bit_at_ones}
use Rattle.std.proofs.lemmas.Option.{slice_get_within, slice_get-get_or, get_or_from_slice_get}
use Rattle.std.proofs.lemmas.List.{take-append-drop, take_all, take-take, drop-take, append-nil, length-take-le, get_or-take, get_or-drop, get_or_past, get_or_default, get_or_append_left, get_or-append_right, get_or-append-add}
use Rattle.std.proofs.lemmas.List.FromFn.{get_or-map-range_with_len}
use Rattle.hs_base.specs.Literals.{LiteralByte}
use Rattle.hs_base.specs.LiteralEnds.{EndsAt}
use Rattle.hs_confirm.specs.PlaceEnds.{IsPlaceEnd, ArePlaceEnds}
use Rattle.hs_fdr.specs.declared.tables.Tables.{Tables}
use Rattle.hs_fdr.specs.Masks.{mask_of, width_of}
use Rattle.hs_fdr.specs.Blocks.{mask_at, byte_or_zero, block_masks}
use Rattle.hs_fdr_build.specs.Asking.{AreTablesOf}
use Rattle.hs_fdr_build.proofs.NoEndLemmas.{no-end-is-masked-in-blocks}
use Rattle.hs_literals.proofs.AllEndLemmas.{no_member}
use Rattle.hs_literals.specs.Masking.{HidesNone, TablesHideNone, MasksHideNone, AreFew, StandsBefore}
use Rattle.hs_literals.specs.OpenPlaces.{ClosedBehind}

-- the tables of literals hide none of them
pub tables_hide_none : (tables : Tables) (literals : List (List LiteralByte)) (buckets : List ℕ) → AreFew buckets → AreTablesOf literals buckets tables → TablesHideNone tables literals buckets
tables_hide_none tables literals buckets few are = λ earlier before block later next i fit below within number bucket literal numbered filed ends.
    no-end-is-masked-in-blocks literals buckets tables are bucket literal (few number bucket filed) (record { number = number; is = numbered; goes = filed }) earlier before block later next i fit below within ends

-- where a mask with all bits hides none, no literal ends
pub none_ends : (literals : List (List LiteralByte)) (buckets text : List ℕ) (offset mask number : ℕ) (literal : List LiteralByte) → AreFew buckets → length buckets ≡ length literals → mask ≡ 255 → HidesNone mask literals buckets text offset
    → slice_get literals number ≡ Some literal → EndsAt literal text offset → ⊥
none_ends literals buckets text offset mask number literal few same all hides numbered ends =
    let within : number < length literals = slice_get_within literals number literal numbered in
    let bucket = get_or buckets number 0 in
    let filed = slice_get-get_or buckets number 0 (omega arith) in
    let set : bit_at 255 bucket ≡ 1 = bit_at_ones 8 bucket (few number bucket filed) in
    omega (arith, hides number bucket literal numbered filed ends, ap (λ m. bit_at m bucket) all, set)

take-add : (n m : ℕ) (xs : List ℕ) → take (n + m) xs ≡ take n xs ++ take m (drop n xs)
take-add n m xs =
    sym (take-append-drop n (take (n + m) xs))
    ∙ ap (λ ys. ys ++ drop n (take (n + m) xs)) (take-take n (n + m) xs (omega arith))
    ∙ ap (λ ys. take n xs ++ ys) (drop-take n m xs)

-- seven bytes of the bytes themselves
pub before_inside : (history bytes : List ℕ) (from count : ℕ) → 7 ≤ from → from ≤ length bytes → count ≡ 7 → StandsBefore history bytes from (take count (drop (from - 7) bytes))
before_inside history bytes from count low inside is =
    let e : from ≡ from - 7 + 7 = omega arith in
    record {
      earlier = history ++ take (from - 7) bytes;
      split = ap (λ n. history ++ take n bytes) e ∙ ap (λ xs. history ++ xs) (take-add (from - 7) 7 bytes) ∙ sym (append_assoc history (take (from - 7) bytes) (take 7 (drop (from - 7) bytes)))
          ∙ ap (λ n. (history ++ take (from - 7) bytes) ++ take n (drop (from - 7) bytes)) (sym is);
      short = omega (arith, length-take count (drop (from - 7) bytes));
    }

-- the last bytes of the history
pub before_history : (history bytes : List ℕ) (from skipped count : ℕ) → from ≡ 0 → length history ≤ skipped + 7 → count ≡ length history - skipped → StandsBefore history bytes from (take count (drop skipped history))
before_history history bytes from skipped count start short is =
    let none : take from bytes ≡ [] = ap (λ n. take n bytes) start in
    let rest : take count (drop skipped history) ≡ drop skipped history = take_all count (drop skipped history) (omega (arith, length-drop skipped history)) in
    record {
      earlier = take skipped history;
      split = ap (λ xs. history ++ xs) none ∙ append-nil history ∙ sym (take-append-drop skipped history) ∙ ap (λ xs. take skipped history ++ xs) (sym rest);
      short = omega (arith, length-take count (drop skipped history), length-drop skipped history);
    }

-- each is a byte
abbrev pub AreBytes : List ℕ → Type 0
AreBytes bytes = (i : ℕ) → Fits w8 (get_or bytes i 0)

pub bytes-append : (xs ys : List ℕ) → AreBytes xs → AreBytes ys → All (λ b. b < 256) (xs ++ ys)
bytes-append xs ys fit fit' = λ k d below.
    elim (cases_lt k (length xs)) [
      | inl front ↦ subst (λ b. b < 256) (sym (get_or_append_left xs ys d k front ∙ get_or_default xs k d 0 front)) (fit k).fits
      | inr back ↦ subst (λ b. b < 256) (sym (get_or-append_right xs ys (length xs) k d refl back ∙ get_or_default ys (k - length xs) d 0 (omega (arith, below, length-append xs ys)))) (fit' (k - length xs)).fits
    ]

pub bytes-part : (bytes : List ℕ) (n from : ℕ) → AreBytes bytes → AreBytes (take n (drop from bytes))
bytes-part bytes n from fit = λ i.
    elim (cases_lt i n) [
      | inl below ↦ subst (λ b. Fits w8 b) (sym (get_or-take n (drop from bytes) i 0 below ∙ get_or-drop from bytes i 0)) (fit (from + i))
      | inr past ↦ subst (λ b. Fits w8 b) (sym (get_or_past (take n (drop from bytes)) i 0 (omega (arith, length-take n (drop from bytes))))) (subst (λ b. Fits w8 b) (get_or_past bytes (length bytes) 0 (omega arith)) (fit (length bytes)))
    ]

-- the masks of a block hide none
pub block_hides_none : (tables : Tables) (literals : List (List LiteralByte)) (buckets history bytes before masks : List ℕ) (next : Option ℕ) (from size : ℕ) → TablesHideNone tables literals buckets → StandsBefore history bytes from before → from ≤ length bytes
    → AreBytes before → AreBytes bytes → ((i : ℕ) → i < 64 → from + i < length bytes → i < size) → masks ≡ block_masks (mask_of tables) (width_of tables) before (take size (drop from bytes)) next
    → MasksHideNone masks literals buckets history bytes from
block_hides_none tables literals buckets history bytes before masks next from size hides stands inside fit fit' whole is = λ i below within number bucket literal numbered filed ends.
    let rest = drop from bytes in
    let block = take size rest in
    let later = drop size rest in
    let split : history ++ bytes ≡ stands.earlier ++ (before ++ (block ++ later)) =
    ap (λ xs. history ++ xs) (sym (take-append-drop from bytes))
    ∙ sym (append_assoc history (take from bytes) rest)
    ∙ ap (λ xs. xs ++ rest) stands.split
    ∙ append_assoc stands.earlier before rest
    ∙ ap (λ xs. stands.earlier ++ (before ++ xs)) (sym (take-append-drop size rest)) in
    let long : length history + from ≡ length stands.earlier + length before =
    omega (arith, length-append history (take from bytes), length-take-le from bytes inside, ap length stands.split, length-append stands.earlier before) in
    let at : length history + (from + i + 1) ≡ length stands.earlier + (length before + (i + 1)) = omega arith in
    let there : EndsAt literal (stands.earlier ++ (before ++ (block ++ later))) (length stands.earlier + (length before + (i + 1))) =
    subst (λ n. EndsAt literal (stands.earlier ++ (before ++ (block ++ later))) n) at (subst (λ text. EndsAt literal text (length history + (from + i + 1))) split ends) in
    ap (λ ms. bit_at (get_or ms i 0) bucket) is
    ∙ hides stands.earlier before block later next i (bytes-append before block fit (bytes-part bytes size from fit')) below (omega (arith, whole i below within, length-take size rest, length-drop from bytes)) number bucket literal numbered filed there

-- the masks of a block leave none open behind it
pub closed_behind_block : (tables : Tables) (before bytes masks : List ℕ) (next : Option ℕ) (from size : ℕ) → size ≤ length bytes - from → masks ≡ block_masks (mask_of tables) (width_of tables) before (take size (drop from bytes)) next
    → ClosedBehind masks bytes from
unfolding block_masks
closed_behind_block tables before bytes masks next from size inside is i below past =
    let block = take size (drop from bytes) in
    let mask = λ (k : ℕ). cond (ltb k (length block)) (mask_at (mask_of tables) (width_of tables) (before ++ block) (byte_or_zero next) (length before + k)) 255 in
    let behind : length block ≤ i = omega (arith, length-take size (drop from bytes), length-drop from bytes) in
    ap (λ ms. get_or ms i 0) is ∙ get_or-map-range_with_len mask 0 64 i i 0 below (omega arith) ∙ rw (le-ltb i (length block) behind) refl

-- buckets that are all below eight
pub few-from_all : (buckets : List ℕ) → All (λ b. b < 8) buckets → AreFew buckets
few-from_all buckets below = λ number bucket filed.
    subst (λ b. b < 8) (get_or_from_slice_get buckets number bucket 0 filed) (below number 0 (slice_get_within buckets number bucket filed))

bytes-both : (xs ys : List ℕ) → AreBytes xs → AreBytes ys → AreBytes (xs ++ ys)
bytes-both xs ys fit fit' = λ i.
    elim (cases_lt i (length xs)) [
      | inl front ↦ subst (λ b. Fits w8 b) (sym (get_or_append_left xs ys 0 i front)) (fit i)
      | inr back ↦ subst (λ b. Fits w8 b) (sym (get_or-append_right xs ys (length xs) i 0 refl back)) (fit' (i - length xs))
    ]

-- what stands before a place are bytes
pub before_bytes : (history bytes before : List ℕ) (from : ℕ) → AreBytes history → AreBytes bytes → StandsBefore history bytes from before → AreBytes before
before_bytes history bytes before from fit fit' stands = λ i.
    subst (λ b. Fits w8 b) (ap (λ xs. get_or xs (length stands.earlier + i) 0) stands.split ∙ get_or-append-add stands.earlier before i 0)
    (bytes-both history (take from bytes) fit (bytes-part bytes from 0 fit') (length stands.earlier + i))

-- a mask with all bits leaves no bucket open
pub none_open : (literals : List (List LiteralByte)) (buckets text : List ℕ) (offset mask : ℕ) (numbers : List ℕ) → AreFew buckets → mask ≡ 255 → ArePlaceEnds literals buckets mask text offset numbers → numbers ≡ []
none_open literals buckets text offset mask numbers few all are =
    no_member numbers (λ number member.
    let is : IsPlaceEnd literals buckets mask text offset number = (are.exact number).0 member in
    let set : bit_at 255 is.bucket ≡ 1 = bit_at_ones 8 is.bucket (few number is.bucket is.filed) in
    omega (arith, is.unmasked, ap (λ m. bit_at m is.bucket) all, set))
