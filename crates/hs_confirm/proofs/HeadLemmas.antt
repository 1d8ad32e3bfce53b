-- Heads of buckets: what is left behind them, and one of them told.
use Rattle.std.proofs.Common.{◌≡◌, ◌≢◌, ℕ, zero, suc, ◌+◌, ◌-◌, ◌<◌, ◌≤◌, Bool, true, false, ◌&&◌, List, [], ◌∷◌, cond, length, get_or, set, map, replicate, Option, Some, None, refl, sym, ap, ◌∙◌, subst, arith, inl, inr, leb, get_or-set_same, get_or-set_other}
use Rattle.std.specs.Prelude.{slice_get}
use Rattle.std.specs.Int.{bit_at, w8}
use Rattle.std.specs.Option.{option_map, unwrap_or, MatchOption}
use Rattle.std.specs.List.{range_with_len, filter}
use Rattle.std.proofs.lemmas.Bool.{false≢true, and_parts, and_from, and_right, le-leb, leb-true, cases_lt, cases_eq, false_from_ne_true}
use Rattle.std.proofs.lemmas.List.{get_or-replicate}
use Rattle.std.proofs.lemmas.Nat.Bits.{bit_at_above, bit_at_not}
use Rattle.std.proofs.lemmas.Option.{slice_get-map, slice_get_within, same_Some}
use Rattle.hs_base.specs.Lists.{IsMember}
use Rattle.hs_bits.specs.LowestBits.{IsLowestBit, AreBitsBehind}
use Rattle.hs_bits.proofs.LowestLemmas.{others-stay}
use Rattle.hs_confirm.specs.declared.entry.Entry.{Entry}
use Rattle.hs_confirm.specs.BucketEnds.{IsBucketEnd}
use Rattle.hs_confirm.specs.PlaceEnds.{IsPlaceEnd, ArePlaceEnds}
use Rattle.hs_confirm.specs.Taking.{ends_there}
use Rattle.hs_confirm.specs.Entries.{literal_in, AreKeyed, number_ends, ends_from}
use Rattle.hs_confirm.specs.Heads.{IsFirstPassing, IsHead, IsFirstHead, HasNone, AreOpenBuckets, OutsideHave, AreHeads, entry_left, number_left, left_behind}
use Rattle.hs_confirm.proofs.TakingLemmas.{ends_from_there, there_from_ends}
use Rattle.hs_confirm.proofs.EndLemmas.{IsEntryEnd, number_end, end_number, bucket_end, mapped}
use Rattle.hs_confirm.proofs.NumberLemmas.{passing, passing-in, passing-end, passing-skip, IsPassing, member-passing, passing-member, passing-rising}

-- the first of a list, or else another number
abbrev pub first_or : List ℕ → ℕ → ℕ
first_or [] other = other
first_or (x ∷ xs) other = x

first_or_cond : (b : Bool) (p : ℕ → Bool) (from count : ℕ) (xs : List ℕ) → p from ≡ b → from < count → IsFirstPassing p (from + 1) count (first_or xs count) → IsFirstPassing p from count (first_or (cond b (from ∷ xs) xs) count)
first_or_cond true p from count xs says below rest = record { low = omega arith; fail = λ k low high. absurd (omega arith); here = λ within. says }
first_or_cond false p from count xs says below rest = record {
  low = omega (arith, rest.low);
  fail = λ k low high. elim (cases_eq k from) [ inl e ↦ ap p e ∙ says | inr other ↦ rest.fail k (omega arith) high ];
  here = rest.here;
}

first_passing : (n : ℕ) (p : ℕ → Bool) (from count : ℕ) → from + n ≡ count → IsFirstPassing p from count (first_or (filter p (range_with_len from n)) count)
first_passing zero p from count e = record { low = omega arith; fail = λ k low high. absurd (omega arith); here = λ within. absurd (omega arith) }
first_passing (suc n) p from count e = first_or_cond (p from) p from count (filter p (range_with_len (from + 1) n)) refl (omega arith) (first_passing n p (from + 1) count (omega arith))

pub first_end : (entries : List Entry) (bucket : ℕ) (text : List ℕ) (offset from number : ℕ) → from ≤ length entries → number ≡ first_or (ends_from entries bucket text offset from) (length entries) → IsFirstPassing (number_ends entries bucket text offset) from (length entries) number
unfolding ends_from
first_end entries bucket text offset from number within is =
    let p = number_ends entries bucket text offset in
    subst (λ n. IsFirstPassing p from (length entries) n) (sym is) (first_passing (length entries - from) p from (length entries) (omega arith))

pub first_or-next : (r : Option ℕ) (xs ys : List ℕ) (count : ℕ) → MatchOption r ((xs ≡ []) × (ys ≡ [])) (λ x. xs ≡ x ∷ ys) → unwrap_or r count ≡ first_or xs count
first_or-next None xs ys count says = ap (λ zs. first_or zs count) (sym says.0)
first_or-next (Some x) xs ys count says = ap (λ zs. first_or zs count) (sym says)

-- a number that is left, with its entry
pub record IsLeft (entries : List Entry) (heads : List ℕ) (text : List ℕ) (offset number : ℕ) : Type 0 where
  pub entry : Entry
  pub numbered : slice_get entries number ≡ Some entry
  pub low : get_or heads entry.bucket 0 ≤ number
  pub ends : ends_there (literal_in entry) text offset ≡ true

left_option : (entries : List Entry) (heads : List ℕ) (text : List ℕ) (offset number : ℕ) (found : Option Entry) → slice_get entries number ≡ found → entry_left heads text offset found number ≡ true → IsLeft entries heads text offset number
left_option entries heads text offset number None is says = absurd (false≢true says)
left_option entries heads text offset number (Some entry) is says =
    let both = and_parts (leb (get_or heads entry.bucket 0) number) (ends_there (literal_in entry) text offset) says in
    record { entry = entry; numbered = is; low = leb-true (get_or heads entry.bucket 0) number both.0; ends = both.1 }

pub is_left : (entries : List Entry) (heads : List ℕ) (text : List ℕ) (offset number : ℕ) → number_left entries heads text offset number ≡ true → IsLeft entries heads text offset number
is_left entries heads text offset number says = left_option entries heads text offset number (slice_get entries number) refl says

pub left_is : (entries : List Entry) (heads : List ℕ) (text : List ℕ) (offset number : ℕ) (entry : Entry) → slice_get entries number ≡ Some entry → get_or heads entry.bucket 0 ≤ number → ends_there (literal_in entry) text offset ≡ true → number_left entries heads text offset number ≡ true
left_is entries heads text offset number entry numbered low ends =
    ap (λ found. entry_left heads text offset found number) numbered ∙ and_from (leb (get_or heads entry.bucket 0) number) (ends_there (literal_in entry) text offset) (le-leb (get_or heads entry.bucket 0) number low) ends

passing-agree : (n : ℕ) (p q : ℕ → Bool) (from : ℕ) → ((k : ℕ) → from ≤ k → p k ≡ q k) → filter p (range_with_len from n) ≡ filter q (range_with_len from n)
passing-agree zero p q from same = refl
passing-agree (suc n) p q from same =
    ap (λ b. cond b (from ∷ filter p (range_with_len (from + 1) n)) (filter p (range_with_len (from + 1) n))) (same from (omega arith))
    ∙ ap (λ xs. cond (q from) (from ∷ xs) xs) (passing-agree n p q (from + 1) (λ k low. same k (omega arith)))

left_passing : (entries : List Entry) (heads text : List ℕ) (offset : ℕ) → left_behind entries heads text offset ≡ passing (number_left entries heads text offset) (length entries) 0
unfolding left_behind
left_passing entries heads text offset = let e : length entries ≡ length entries - 0 = omega arith in ap (λ m. filter (number_left entries heads text offset) (range_with_len 0 m)) e

-- what is known where one bucket's head is told
record IsTold (widths : List ℕ) (entries : List Entry) (heads : List ℕ) (text : List ℕ) (offset bucket number next : ℕ) : Type 0 where
  pub keyed : AreKeyed widths entries
  pub eight : length heads ≡ 8
  pub few : bucket < 8
  pub head : number ≡ get_or heads bucket 0
  pub within : number < length entries
  pub ends : number_ends entries bucket text offset number ≡ true
  pub least : (b : ℕ) → b < 8 → number ≤ get_or heads b 0
  pub behind : IsFirstPassing (number_ends entries bucket text offset) (number + 1) (length entries) next

below_fail : {widths : List ℕ} {entries : List Entry} {heads text : List ℕ} {offset bucket number next : ℕ} → IsTold widths entries heads text offset bucket number next → (k : ℕ) → k < number → number_left entries heads text offset k ≡ false
below_fail {entries = entries} {heads = heads} {text = text} {offset = offset} told k high =
    false_from_ne_true (number_left entries heads text offset k) (λ says.
    let left : IsLeft entries heads text offset k = is_left entries heads text offset k says in
    let few : left.entry.bucket < 8 = (told.keyed k left.entry left.numbered).few in
    omega (arith, left.low, told.least left.entry.bucket few))

here_left : {widths : List ℕ} {entries : List Entry} {heads text : List ℕ} {offset bucket number next : ℕ} → IsTold widths entries heads text offset bucket number next → number_left entries heads text offset number ≡ true
here_left {entries = entries} {heads = heads} {text = text} {offset = offset} {bucket = bucket} {number = number} told =
    let found : IsEntryEnd entries bucket text offset number = number_end entries bucket text offset number told.ends in
    let same : get_or heads found.entry.bucket 0 ≡ number = ap (λ b. get_or heads b 0) found.filed ∙ sym told.head in
    left_is entries heads text offset number found.entry found.numbered (omega arith) found.ends

through_fail : {widths : List ℕ} {entries : List Entry} {heads text : List ℕ} {offset bucket number next : ℕ} → IsTold widths entries heads text offset bucket number next → (k : ℕ) → k < number + 1 → number_left entries (set heads bucket next) text offset k ≡ false
through_fail {entries = entries} {heads = heads} {text = text} {offset = offset} {bucket = bucket} {number = number} {next = next} told k high =
    false_from_ne_true (number_left entries (set heads bucket next) text offset k) (λ says.
    let left : IsLeft entries (set heads bucket next) text offset k = is_left entries (set heads bucket next) text offset k says in
    let few : left.entry.bucket < 8 = (told.keyed k left.entry left.numbered).few in
    let found : IsEntryEnd entries bucket text offset number = number_end entries bucket text offset number told.ends in
    elim (cases_eq left.entry.bucket bucket) [
      | inl same ↦
          let is : get_or (set heads bucket next) left.entry.bucket 0 ≡ next = ap (λ b. get_or (set heads bucket next) b 0) same ∙ get_or-set_same heads bucket next 0 (omega (arith, told.eight, told.few)) in
          omega (arith, left.low, told.behind.low)
      | inr apart ↦
          let is : get_or (set heads bucket next) left.entry.bucket 0 ≡ get_or heads left.entry.bucket 0 = get_or-set_other heads bucket left.entry.bucket next 0 apart in
          let e : k ≡ number = omega (arith, left.low, told.least left.entry.bucket few) in
          let one : left.entry ≡ found.entry = same_Some left.entry found.entry (sym left.numbered ∙ ap (slice_get entries) e ∙ found.numbered) in
          apart (ap (λ entry. entry.bucket) one ∙ found.filed)
    ])

ends_false : (entries : List Entry) (bucket : ℕ) (text : List ℕ) (offset k : ℕ) (entry : Entry) → slice_get entries k ≡ Some entry → entry.bucket ≡ bucket → number_ends entries bucket text offset k ≡ false → ends_there (literal_in entry) text offset ≡ false
ends_false entries bucket text offset k entry numbered filed fails =
    false_from_ne_true (ends_there (literal_in entry) text offset) (λ ends. false≢true (sym fails ∙ end_number entries bucket text offset k entry numbered filed ends))

agree_option : {widths : List ℕ} {entries : List Entry} {heads text : List ℕ} {offset bucket number next : ℕ} → IsTold widths entries heads text offset bucket number next → (k : ℕ) → number + 1 ≤ k → (found : Option Entry) → slice_get entries k ≡ found
    → entry_left heads text offset found k ≡ entry_left (set heads bucket next) text offset found k
agree_option told k low None is = refl
agree_option {entries = entries} {heads = heads} {text = text} {offset = offset} {bucket = bucket} {number = number} {next = next} told k low (Some entry) is =
    elim (cases_eq entry.bucket bucket) [
      | inl same ↦
          let old : get_or heads entry.bucket 0 ≡ number = ap (λ b. get_or heads b 0) same ∙ sym told.head in
          let new : get_or (set heads bucket next) entry.bucket 0 ≡ next = ap (λ b. get_or (set heads bucket next) b 0) same ∙ get_or-set_same heads bucket next 0 (omega (arith, told.eight, told.few)) in
          elim (cases_lt k next) [
            | inl before ↦
                let none = ends_false entries bucket text offset k entry is same (told.behind.fail k low before) in
                and_right (leb (get_or heads entry.bucket 0) k) _ none ∙ sym (and_right (leb (get_or (set heads bucket next) entry.bucket 0) k) _ none)
            | inr behind ↦
                ap (λ b. b && ends_there (literal_in entry) text offset)
                (le-leb (get_or heads entry.bucket 0) k (omega arith) ∙ sym (le-leb (get_or (set heads bucket next) entry.bucket 0) k (omega arith)))
          ]
      | inr apart ↦ ap (λ n. leb n k && ends_there (literal_in entry) text offset) (sym (get_or-set_other heads bucket entry.bucket next 0 apart))
    ]

left-told : {widths : List ℕ} {entries : List Entry} {heads text : List ℕ} {offset bucket number next : ℕ} → IsTold widths entries heads text offset bucket number next → left_behind entries heads text offset ≡ number ∷ left_behind entries (set heads bucket next) text offset
left-told {entries = entries} {heads = heads} {text = text} {offset = offset} {bucket = bucket} {number = number} {next = next} told =
    let p = number_left entries heads text offset in
    let q = number_left entries (set heads bucket next) text offset in
    let count = length entries in
    left_passing entries heads text offset
    ∙ passing-skip number p count 0 number (omega arith) (λ k low high. below_fail told k high)
    ∙ passing-in p count number told.within (here_left told)
    ∙ ap (λ xs. number ∷ xs)
    (passing-agree (count - (number + 1)) p q (number + 1) (λ k low. agree_option told k low (slice_get entries k) refl)
    ∙ sym (passing-skip (number + 1) q count 0 (number + 1) (omega arith) (λ k low high. through_fail told k high))
    ∙ sym (left_passing entries (set heads bucket next) text offset))

-- the least head told
pub left_behind-told : (widths : List ℕ) (entries : List Entry) (heads text : List ℕ) (offset bucket number next : ℕ) → AreKeyed widths entries → length heads ≡ 8 → AreHeads entries text offset heads → bucket < 8 → number ≡ get_or heads bucket 0 → number < length entries
    → ((b : ℕ) → b < 8 → get_or heads bucket 0 ≤ get_or heads b 0) → IsFirstPassing (number_ends entries bucket text offset) (number + 1) (length entries) next
    → left_behind entries heads text offset ≡ number ∷ left_behind entries (set heads bucket next) text offset
left_behind-told widths entries heads text offset bucket number next keyed eight are few head within least behind =
    left-told {widths = widths} (record {
      keyed = keyed;
      eight = eight;
      few = few;
      head = head;
      within = within;
      ends = ap (number_ends entries bucket text offset) head ∙ are bucket few (subst (λ n. n < length entries) head within);
      least = λ b below. subst (λ n. n ≤ get_or heads b 0) (sym head) (least b below);
      behind = behind;
    })

-- no head is a number
pub left_behind-none : (widths : List ℕ) (entries : List Entry) (heads text : List ℕ) (offset bucket : ℕ) → AreKeyed widths entries → ((b : ℕ) → b < 8 → get_or heads bucket 0 ≤ get_or heads b 0) → length entries ≤ get_or heads bucket 0 → left_behind entries heads text offset ≡ []
left_behind-none widths entries heads text offset bucket keyed least past =
    let p = number_left entries heads text offset in
    let count = length entries in
    left_passing entries heads text offset
    ∙ passing-skip count p count 0 count (omega arith) (λ k low high.
    false_from_ne_true (p k) (λ says.
    let left : IsLeft entries heads text offset k = is_left entries heads text offset k says in
    omega (arith, left.low, least left.entry.bucket (keyed k left.entry left.numbered).few)))
    ∙ passing-end p count count (omega arith)

-- heads that are those of the buckets that a mask leaves open
pub heads-numbers : (entries : List Entry) (mask : ℕ) (heads text : List ℕ) (offset : ℕ) → ((b : ℕ) → b < 8 → IsHead entries mask text offset b (get_or heads b 0)) → AreHeads entries text offset heads
heads-numbers entries mask heads text offset are bucket few within =
    elim (cases_eq (bit_at mask bucket) 0) [
      | inl unmasked ↦ ((are bucket few).unmasked unmasked).here within
      | inr masked ↦ absurd (omega (arith, (are bucket few).masked masked))
    ]

place_end : (widths : List ℕ) (entries : List Entry) (mask : ℕ) (heads text : List ℕ) (offset number : ℕ) → AreKeyed widths entries → offset ≤ length text → ((b : ℕ) → b < 8 → IsHead entries mask text offset b (get_or heads b 0)) → number < length entries
    → IsLeft entries heads text offset number → IsPlaceEnd (map literal_in entries) (map (λ entry. entry.bucket) entries) mask text offset number
place_end widths entries mask heads text offset number keyed inside are within left = record {
  literal = literal_in left.entry;
  bucket = left.entry.bucket;
  numbered = slice_get-map literal_in entries number ∙ ap (option_map literal_in) left.numbered;
  filed = slice_get-map (λ entry. entry.bucket) entries number ∙ ap (option_map (λ entry. entry.bucket)) left.numbered;
  unmasked =
      elim (cases_eq (bit_at mask left.entry.bucket) 0) [
        | inl unmasked ↦ unmasked
        | inr masked ↦ absurd (omega (arith, left.low, (are left.entry.bucket (keyed number left.entry left.numbered).few).masked masked))
      ];
  ends = ends_from_there (literal_in left.entry) text offset inside left.ends;
}

place_left_is : (widths : List ℕ) (entries : List Entry) (mask : ℕ) (heads text : List ℕ) (offset number : ℕ) → AreKeyed widths entries → ((b : ℕ) → b < 8 → IsHead entries mask text offset b (get_or heads b 0))
    → IsPlaceEnd (map literal_in entries) (map (λ entry. entry.bucket) entries) mask text offset number → number_left entries heads text offset number ≡ true
place_left_is widths entries mask heads text offset number keyed are is =
    let (entry, numbered, literal) = mapped literal_in entries number (slice_get entries number) is.literal refl is.numbered in
    let (other, numbered', filed) = mapped (λ e. e.bucket) entries number (slice_get entries number) is.bucket refl is.filed in
    let same : entry.bucket ≡ is.bucket = ap (λ e. e.bucket) (same_Some entry other (sym numbered ∙ numbered')) ∙ filed in
    let ends : ends_there (literal_in entry) text offset ≡ true = ap (λ l. ends_there l text offset) literal ∙ there_from_ends is.literal text offset is.ends in
    let first : IsFirstPassing (number_ends entries entry.bucket text offset) 0 (length entries) (get_or heads entry.bucket 0) =
    (are entry.bucket (keyed number entry numbered).few).unmasked (ap (bit_at mask) same ∙ is.unmasked) in
    elim (cases_lt number (get_or heads entry.bucket 0)) [
      | inl before ↦ absurd (false≢true (sym (first.fail number (omega arith) before) ∙ end_number entries entry.bucket text offset number entry numbered refl ends))
      | inr behind ↦ left_is entries heads text offset number entry numbered behind ends
    ]

pub left_behind-exact : (widths : List ℕ) (entries : List Entry) (mask : ℕ) (heads text : List ℕ) (offset : ℕ) → AreKeyed widths entries → offset ≤ length text → ((b : ℕ) → b < 8 → IsHead entries mask text offset b (get_or heads b 0))
    → ArePlaceEnds (map literal_in entries) (map (λ entry. entry.bucket) entries) mask text offset (left_behind entries heads text offset)
unfolding left_behind
left_behind-exact widths entries mask heads text offset keyed inside are =
    let p = number_left entries heads text offset in
    record {
      rising = passing-rising (length entries) p 0;
      exact = λ number. (
        λ member.
            let is : IsPassing p 0 (length entries) number = member-passing (length entries) p 0 number member in
            place_end widths entries mask heads text offset number keyed inside are (omega (arith, is.high)) (is_left entries heads text offset number is.passes),
        λ is.
            let passes : p number ≡ true = place_left_is widths entries mask heads text offset number keyed are is in
            let left : IsLeft entries heads text offset number = is_left entries heads text offset number passes in
            passing-member (length entries) p 0 number (record { low = omega arith; high = omega (arith, slice_get_within entries number left.entry left.numbered); passes = passes }),
      );
    }

-- where a bucket has one, there is one
pub some-exact : (entries : List Entry) (mask : ℕ) (text : List ℕ) (offset bucket number : ℕ) (numbers : List ℕ) → offset ≤ length text → IsHead entries mask text offset bucket number → number < length entries
    → ArePlaceEnds (map literal_in entries) (map (λ entry. entry.bucket) entries) mask text offset numbers → numbers ≢ []
some-exact entries mask text offset bucket number numbers inside head within are =
    elim (cases_eq (bit_at mask bucket) 0) [
      | inl unmasked ↦
          let found : IsEntryEnd entries bucket text offset number = number_end entries bucket text offset number ((head.unmasked unmasked).here within) in
          let is : IsBucketEnd (map literal_in entries) (map (λ entry. entry.bucket) entries) bucket text offset number = bucket_end entries bucket text offset number inside found in
          let member : IsMember number numbers = (are.exact number).1 (record { literal = is.literal; bucket = bucket; numbered = is.numbered; filed = is.filed; unmasked = unmasked; ends = is.ends }) in
          λ none. subst (IsMember number) none member
      | inr masked ↦ absurd (omega (arith, head.masked masked))
    ]

-- the buckets that a mask leaves open
pub open-all : (mask : ℕ) → mask < 256 → AreOpenBuckets mask (255 - mask)
open-all mask fits bucket is =
    elim (cases_lt bucket 8) [
      | inl few ↦ (few, omega (arith, bit_at_not w8 mask bucket fits few, is))
      | inr past ↦ absurd (omega (arith, bit_at_above (255 - mask) 8 bucket (omega arith) past, is))
    ]

-- one bucket less
pub open-step : (mask left less bucket : ℕ) → AreOpenBuckets mask left → AreBitsBehind left bucket less → AreOpenBuckets mask less
open-step mask left less bucket are behind other is = let (_, old) = (behind other).0 is in are other old

none-head : (entries : List Entry) (mask : ℕ) (text : List ℕ) (offset bucket number : ℕ) → HasNone entries mask text offset bucket → number ≡ length entries → IsHead entries mask text offset bucket number
none-head entries mask text offset bucket number none e = record {
  unmasked = λ unmasked. record { low = omega arith; fail = λ k low high. none unmasked k (omega arith); here = λ within. absurd (omega arith) };
  masked = λ masked. e;
}

pub open-head : (entries : List Entry) (mask : ℕ) (text : List ℕ) (offset bucket number : ℕ) → bit_at mask bucket ≡ 0 → IsFirstPassing (number_ends entries bucket text offset) 0 (length entries) number → IsHead entries mask text offset bucket number
open-head entries mask text offset bucket number unmasked first = record { unmasked = λ _. first; masked = λ masked. absurd (masked unmasked) }

-- the heads where one bucket is known to have one
pub heads-first : (entries : List Entry) (mask : ℕ) (text : List ℕ) (offset bucket number left count : ℕ) → count ≡ length entries → IsFirstHead entries mask text offset bucket number left
    → OutsideHave (λ b. IsHead entries mask text offset b (get_or (set (replicate 8 count) bucket number) b 0)) left
heads-first entries mask text offset bucket number left count e first other few out =
    elim (cases_eq other bucket) [
      | inl same ↦
          let is : get_or (set (replicate 8 count) bucket number) bucket 0 ≡ number = get_or-set_same (replicate 8 count) bucket number 0 first.few in
          subst (λ b. IsHead entries mask text offset b (get_or (set (replicate 8 count) bucket number) b 0)) (sym same)
          (subst (λ n. IsHead entries mask text offset bucket n) (sym is) (open-head entries mask text offset bucket number first.unmasked first.first))
      | inr apart ↦
          none-head entries mask text offset other _ (first.none other few out apart)
          (get_or-set_other (replicate 8 count) bucket other number 0 apart ∙ get_or-replicate 8 other count 0 few ∙ e)
    ]

-- one head more
pub heads-step : (entries : List Entry) (mask : ℕ) (heads text : List ℕ) (offset left less bucket number : ℕ) → length heads ≡ 8 → bucket < 8 → bit_at mask bucket ≡ 0 → IsFirstPassing (number_ends entries bucket text offset) 0 (length entries) number
    → IsLowestBit left bucket → AreBitsBehind left bucket less → OutsideHave (λ b. IsHead entries mask text offset b (get_or heads b 0)) left
    → OutsideHave (λ b. IsHead entries mask text offset b (get_or (set heads bucket number) b 0)) less
heads-step entries mask heads text offset left less bucket number eight few unmasked first low behind are other below out =
    elim (cases_eq other bucket) [
      | inl same ↦
          let is : get_or (set heads bucket number) bucket 0 ≡ number = get_or-set_same heads bucket number 0 (omega arith) in
          subst (λ b. IsHead entries mask text offset b (get_or (set heads bucket number) b 0)) (sym same)
          (subst (λ n. IsHead entries mask text offset bucket n) (sym is) (open-head entries mask text offset bucket number unmasked first))
      | inr apart ↦
          subst (λ n. IsHead entries mask text offset other n) (sym (get_or-set_other heads bucket other number 0 apart))
          (are other below (sym (others-stay left bucket less low behind other apart) ∙ out))
    ]

-- heads that are all no number
pub left_behind-empty : (widths : List ℕ) (entries : List Entry) (text : List ℕ) (offset count : ℕ) → AreKeyed widths entries → count ≡ length entries → left_behind entries (replicate 8 count) text offset ≡ []
left_behind-empty widths entries text offset count keyed e =
    let read : (b : ℕ) → b < 8 → get_or (replicate 8 count) b 0 ≡ count = λ b few. get_or-replicate 8 b count 0 few in
    left_behind-none widths entries (replicate 8 count) text offset 0 keyed (λ b few. omega (arith, read b few)) (omega arith)
