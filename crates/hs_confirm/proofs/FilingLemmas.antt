-- Widths of buckets, and entries one by one.
use Rattle.std.proofs.Common.{◌≡◌, ℕ, zero, suc, ◌+◌, ◌-◌, ◌*◌, ◌/◌, ◌%◌, ◌^◌, ◌<◌, ◌≤◌, List, [], ◌∷◌, ◌++◌, length, get_or, set, map, take, sym, ap, ◌∙◌, subst, arith, inl, inr, get_or-set_same, get_or-set_other}
use Rattle.std.proofs.lemmas.Nat.{and_le_r}
use Rattle.std.proofs.lemmas.List.{map_more, take_more}
use Rattle.std.proofs.lemmas.Bool.{cases_eq}
use Rattle.std.proofs.lemmas.Option.{same_Some, none-some}
use Rattle.hs_confirm.specs.declared.entry.Entry.{Entry}
use Rattle.hs_confirm.specs.Keys.{IsMask, key_row}
use Rattle.hs_confirm.specs.Entries.{IsKeyed, AreKeyed, rows_of_entries}
use Rattle.hs_confirm.specs.Widths.{AreShort}

-- the width of one bucket comes down
pub short-step : (widths lens buckets : List ℕ) (number bucket width : ℕ) → bucket ≡ get_or buckets number 0 → bucket < length widths → width ≤ get_or widths bucket 0 → width ≤ get_or lens number 0 → AreShort widths lens buckets number
    → AreShort (set widths bucket width) lens buckets (number + 1)
short-step widths lens buckets number bucket width is within less fits short k below =
    elim (cases_eq (get_or buckets k 0) bucket) [
      | inl same ↦
          let w : get_or (set widths bucket width) (get_or buckets k 0) 0 ≡ width = ap (λ b. get_or (set widths bucket width) b 0) same ∙ get_or-set_same widths bucket width 0 within in
          let old : get_or widths (get_or buckets k 0) 0 ≡ get_or widths bucket 0 = ap (λ b. get_or widths b 0) same in
          elim (cases_eq k number) [
            | inl e ↦ let l : get_or lens k 0 ≡ get_or lens number 0 = ap (λ n. get_or lens n 0) e in omega arith
            | inr other ↦ omega (arith, short k (omega arith))
          ]
      | inr apart ↦
          let w : get_or (set widths bucket width) (get_or buckets k 0) 0 ≡ get_or widths (get_or buckets k 0) 0 = get_or-set_other widths bucket (get_or buckets k 0) width 0 apart in
          let other : k ≡ number → ⊥ = λ e. apart (ap (λ n. get_or buckets n 0) e ∙ sym is) in
          omega (arith, short k (omega arith))
    ]

-- the mask of one bucket more
pub mask-step : (widths masks : List ℕ) (bucket mask : ℕ) → bucket < length masks → IsMask (get_or widths bucket 0) mask → ((b : ℕ) → b < bucket → IsMask (get_or widths b 0) (get_or masks b 0)) → (b : ℕ) → b < bucket + 1
    → IsMask (get_or widths b 0) (get_or (set masks bucket mask) b 0)
mask-step widths masks bucket mask within is masked b below =
    elim (cases_eq b bucket) [
      | inl same ↦
          let w : get_or widths b 0 ≡ get_or widths bucket 0 = ap (λ n. get_or widths n 0) same in
          let m : get_or (set masks bucket mask) b 0 ≡ mask = ap (λ n. get_or (set masks bucket mask) n 0) same ∙ get_or-set_same masks bucket mask 0 within in
          subst (λ v. IsMask v (get_or (set masks bucket mask) b 0)) (sym w) (subst (λ v. IsMask (get_or widths bucket 0) v) (sym m) is)
      | inr apart ↦ subst (λ v. IsMask (get_or widths b 0) v) (sym (get_or-set_other masks bucket b mask 0 apart)) (masked b (omega arith))
    ]

-- one entry more
pub keyed-push : (widths : List ℕ) (entries : List Entry) (entry : Entry) → AreKeyed widths entries → IsKeyed widths entry → AreKeyed widths (entries ++ entry ∷ [])
keyed-push widths [] entry keyed is zero other found = subst (IsKeyed widths) (same_Some entry other found) is
keyed-push widths [] entry keyed is (suc n) other found = absurd (none-some other found)
keyed-push widths (e ∷ entries) entry keyed is zero other found = keyed zero other found
keyed-push widths (e ∷ entries) entry keyed is (suc n) other found = keyed-push widths entries entry (λ k x here. keyed (suc k) x here) is n other found

row-within : (count bucket key : ℕ) → 0 < count → key_row count bucket key < count
row-within count bucket key some = omega (arith, and_le_r (key * 11400714819323198485 % 2 ^ 64 / 2 ^ 40 + bucket) (count - 1))

-- each row is one of so many
pub rows-within : (count : ℕ) (entries : List Entry) (k : ℕ) → 0 < count → k < length (rows_of_entries count entries) → get_or (rows_of_entries count entries) k 0 < count
rows-within count [] k some below = absurd (omega arith)
rows-within count (e ∷ entries) zero some below = row-within count e.bucket e.key some
rows-within count (e ∷ entries) (suc k) some below = rows-within count entries k some (omega arith)

-- one element more of a list that a loop makes
pub push-more : {X Y : Type 0} (f : X → Y) (ys : List Y) (y : Y) (xs : List X) (n : ℕ) (x : X) → n < length xs → x ≡ get_or xs n x → ys ≡ map f (take n xs) → y ≡ f x → ys ++ y ∷ [] ≡ map f (take (n + 1) xs)
push-more f ys y xs n x within read front is =
    ap (λ zs. zs ++ y ∷ []) front
    ∙ ap (λ z. map f (take n xs) ++ z ∷ []) (is ∙ ap f read)
    ∙ sym (map_more f xs n x within)

pub take-push : (ys : List ℕ) (y : ℕ) (xs : List ℕ) (n : ℕ) → n < length xs → ys ≡ take n xs → y ≡ get_or xs n 0 → ys ++ y ∷ [] ≡ take (n + 1) xs
take-push ys y xs n within front is =
    ap (λ zs. zs ++ y ∷ []) front
    ∙ ap (λ z. take n xs ++ z ∷ []) is
    ∙ sym (take_more xs n 0 within)
