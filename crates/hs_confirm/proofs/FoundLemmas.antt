-- The literals that end at a place, bucket by bucket: the next one, and which they are.
use Rattle.std.proofs.Common.{◌≡◌, ◌≢◌, ◌⊎◌, ℕ, zero, suc, ◌+◌, ◌-◌, ◌<◌, ◌≤◌, Bool, true, false, List, [], ◌∷◌, ◌++◌, length, map, eqb, refl, sym, ap, ◌∙◌, subst, arith, inl, inr, eq-eqb}
use Rattle.std.specs.Prelude.{if◌then◌else◌}
use Rattle.std.specs.Int.{bit_at, w8}
use Rattle.std.specs.List.{range_with_len, flat_map}
use Rattle.std.proofs.lemmas.Bool.{cases_eq, ne_eqb, eqb-true, false_from_ne_true}
use Rattle.std.proofs.lemmas.Nat.Bits.{bit_at_not}
use Rattle.std.proofs.lemmas.Option.{slice_get_within, same_Some}
use Rattle.hs_base.specs.Lists.{IsMember}
use Rattle.hs_base.proofs.ListLemmas.{member-left, member-right, member-append}
use Rattle.hs_bits.specs.LowestBits.{IsLowestBit, AreBitsBehind}
use Rattle.hs_bits.proofs.LowestLemmas.{lowest-gone, others-stay}
use Rattle.hs_confirm.specs.declared.entry.Entry.{Entry}
use Rattle.hs_confirm.specs.declared.head.Head.{Head}
use Rattle.hs_confirm.specs.BucketEnds.{IsBucketEnd}
use Rattle.hs_confirm.specs.OpenEnds.{AreOpenEnds}
use Rattle.hs_confirm.specs.Entries.{literal_in, AreKeyed, number_ends, ends_from}
use Rattle.hs_confirm.specs.Found.{AreAmong, IsFound, behind_head, bucket_left, buckets_left}
use Rattle.hs_confirm.specs.Heads.{IsFirstHead, IsFirstPassing}
use Rattle.hs_confirm.proofs.EndLemmas.{IsEntryEnd, number_end, bucket_end, entry_end, ends_from-in}
use Rattle.hs_confirm.proofs.HeadLemmas.{first_or, first_end, open-all}
use Rattle.hs_confirm.proofs.NumberLemmas.{IsPassing, member-passing, passing-member, passing-skip}

-- One bucket less.

open_bucket : (entries : List Entry) (left : ℕ) (text : List ℕ) (offset bucket : ℕ) → bit_at left bucket ≡ 1 → bucket_left entries left text offset bucket ≡ ends_from entries bucket text offset 0
open_bucket entries left text offset bucket is = ap (λ b. if b then ends_from entries bucket text offset 0 else []) (eq-eqb (bit_at left bucket) 1 is)

closed_bucket : (entries : List Entry) (left : ℕ) (text : List ℕ) (offset bucket : ℕ) → bit_at left bucket ≡ 0 → bucket_left entries left text offset bucket ≡ []
closed_bucket entries left text offset bucket is = ap (λ b. if b then ends_from entries bucket text offset 0 else []) (ne_eqb (bit_at left bucket) 1 (λ one. omega (arith, is, one)))

same_bucket : (entries : List Entry) (left less : ℕ) (text : List ℕ) (offset bucket : ℕ) → bit_at left bucket ≡ bit_at less bucket → bucket_left entries left text offset bucket ≡ bucket_left entries less text offset bucket
same_bucket entries left less text offset bucket same = ap (λ bit. if eqb bit 1 then ends_from entries bucket text offset 0 else []) same

agree : (n from : ℕ) (f g : ℕ → List ℕ) → ((j : ℕ) → from ≤ j → f j ≡ g j) → flat_map f (range_with_len from n) ≡ flat_map g (range_with_len from n)
agree zero from f g same = refl
agree (suc n) from f g same =
    ap (λ xs. xs ++ flat_map f (range_with_len (from + 1) n)) (same from (omega arith))
    ∙ ap (λ xs. g from ++ xs) (agree n (from + 1) f g (λ j low. same j (omega arith)))

nothing : (n from : ℕ) (f : ℕ → List ℕ) → ((j : ℕ) → f j ≡ []) → flat_map f (range_with_len from n) ≡ []
nothing zero from f none = refl
nothing (suc n) from f none = ap (λ xs. xs ++ flat_map f (range_with_len (from + 1) n)) (none from) ∙ nothing n (from + 1) f none

-- the first list that isn't empty, and the others
first_of : (n from k : ℕ) (f g : ℕ → List ℕ) → from ≤ k → k < from + n → ((j : ℕ) → j < k → f j ≡ []) → ((j : ℕ) → j ≢ k → f j ≡ g j) → g k ≡ [] → flat_map f (range_with_len from n) ≡ f k ++ flat_map g (range_with_len from n)
first_of zero from k f g low high none same gone = absurd (omega arith)
first_of (suc n) from k f g low high none same gone =
    elim (cases_eq from k) [
      | inl here ↦
          ap (λ xs. xs ++ flat_map f (range_with_len (from + 1) n)) (ap f here)
          ∙ ap (λ xs. f k ++ xs)
          (agree n (from + 1) f g (λ j above. same j (λ e. omega (arith, e, above, here)))
          ∙ ap (λ xs. xs ++ flat_map g (range_with_len (from + 1) n)) (sym (ap g here ∙ gone)))
      | inr apart ↦
          let differs : from ≢ k = apart in
          let before : from < k = omega arith in
          ap (λ xs. xs ++ flat_map f (range_with_len (from + 1) n)) (none from before)
          ∙ first_of n (from + 1) k f g (omega arith) (omega arith) none same gone
          ∙ ap (λ xs. f k ++ (xs ++ flat_map g (range_with_len (from + 1) n))) (sym (sym (same from apart) ∙ none from before))
    ]

pub buckets_left-first : (entries : List Entry) (left less bucket : ℕ) (text : List ℕ) (offset : ℕ) → bucket < 8 → IsLowestBit left bucket → AreBitsBehind left bucket less → buckets_left entries left text offset ≡ ends_from entries bucket text offset 0 ++ buckets_left entries less text offset
unfolding buckets_left
buckets_left-first entries left less bucket text offset few low behind =
    first_of 8 0 bucket (bucket_left entries left text offset) (bucket_left entries less text offset) (omega arith) (omega (arith, few)) (λ j below. closed_bucket entries left text offset j (low.lowest j below))
    (λ j apart. same_bucket entries left less text offset j (sym (others-stay left bucket less low behind j apart))) (closed_bucket entries less text offset bucket (lowest-gone left bucket less behind))
    ∙ ap (λ xs. xs ++ flat_map (bucket_left entries less text offset) (range_with_len 0 8)) (open_bucket entries left text offset bucket low.is)

pub buckets_left-none : (entries : List Entry) (left : ℕ) (text : List ℕ) (offset : ℕ) → ((bucket : ℕ) → bit_at left bucket ≡ 0) → buckets_left entries left text offset ≡ []
unfolding buckets_left
buckets_left-none entries left text offset none = nothing 8 0 (bucket_left entries left text offset) (λ bucket. closed_bucket entries left text offset bucket (none bucket))

-- what comes first, and what behind it
pub record IsNextOf (entries : List Entry) (bucket : ℕ) (text : List ℕ) (offset from number : ℕ) : Type 0 where
  pub within : number < length entries
  pub ends : number_ends entries bucket text offset number ≡ true
  pub split : ends_from entries bucket text offset from ≡ number ∷ ends_from entries bucket text offset (number + 1)

pub next_of : (entries : List Entry) (bucket : ℕ) (text : List ℕ) (offset from number : ℕ) (rest : List ℕ) → ends_from entries bucket text offset from ≡ number ∷ rest → IsNextOf entries bucket text offset from number
unfolding ends_from
next_of entries bucket text offset from number rest e =
    let p = number_ends entries bucket text offset in
    let count = length entries in
    let is : IsPassing p from (count - from) number = member-passing (count - from) p from number (subst (IsMember number) (sym e) (inl refl)) in
    let within : number < count = omega (arith, is.low, is.high) in
    let first : IsFirstPassing p from count number = first_end entries bucket text offset from number (omega (arith, is.low)) (sym (ap (λ xs. first_or xs count) e)) in
    let skip : ends_from entries bucket text offset from ≡ ends_from entries bucket text offset number = passing-skip (number - from) p count from number (omega (arith, is.low)) first.fail in
    record { within = within; ends = is.passes; split = skip ∙ ends_from-in entries bucket text offset number within is.passes }

-- Which they are.

from_member : (entries : List Entry) (bucket : ℕ) (text : List ℕ) (offset from number : ℕ) → IsMember number (ends_from entries bucket text offset from) → (from ≤ number) × (number_ends entries bucket text offset number ≡ true)
unfolding ends_from
from_member entries bucket text offset from number member =
    let is : IsPassing (number_ends entries bucket text offset) from (length entries - from) number = member-passing (length entries - from) (number_ends entries bucket text offset) from number member in
    (is.low, is.passes)

member_from : (entries : List Entry) (bucket : ℕ) (text : List ℕ) (offset number : ℕ) → number_ends entries bucket text offset number ≡ true → IsMember number (ends_from entries bucket text offset 0)
unfolding ends_from
member_from entries bucket text offset number says =
    let found : IsEntryEnd entries bucket text offset number = number_end entries bucket text offset number says in
    passing-member (length entries - 0) (number_ends entries bucket text offset) 0 number (record { low = omega arith; high = omega (arith, slice_get_within entries number found.entry found.numbered); passes = says })

member_if : (b : Bool) (xs : List ℕ) (x : ℕ) → IsMember x (if b then xs else []) → (b ≡ true) × IsMember x xs
member_if true xs x member = (refl, member)
member_if false xs x member = absurd member

any_member : (n from : ℕ) (f : ℕ → List ℕ) (x : ℕ) → IsMember x (flat_map f (range_with_len from n)) → (j : ℕ) × IsMember x (f j)
any_member zero from f x member = absurd member
any_member (suc n) from f x member =
    elim (member-append (f from) (flat_map f (range_with_len (from + 1) n)) x member) [ inl here ↦ (from, here) | inr later ↦ any_member n (from + 1) f x later ]

member_any : (n from j : ℕ) (f : ℕ → List ℕ) (x : ℕ) → from ≤ j → j < from + n → IsMember x (f j) → IsMember x (flat_map f (range_with_len from n))
member_any zero from j f x low high member = absurd (omega arith)
member_any (suc n) from j f x low high member =
    elim (cases_eq from j) [
      | inl here ↦ member-left (f from) (flat_map f (range_with_len (from + 1) n)) x (subst (λ i. IsMember x (f i)) (sym here) member)
      | inr apart ↦ let differs : from ≢ j = apart in member-right (f from) (flat_map f (range_with_len (from + 1) n)) x (member_any n (from + 1) j f x (omega arith) (omega arith) member)
    ]

-- a literal of a bucket whose bit is 1 that ends there
record IsLeftEnd (entries : List Entry) (left : ℕ) (text : List ℕ) (offset number : ℕ) : Type 0 where
  bucket : ℕ
  opened : bit_at left bucket ≡ 1
  ends : number_ends entries bucket text offset number ≡ true

left_member : (entries : List Entry) (left : ℕ) (text : List ℕ) (offset number : ℕ) → IsMember number (buckets_left entries left text offset) → IsLeftEnd entries left text offset number
unfolding buckets_left
left_member entries left text offset number member =
    let (bucket, there) = any_member 8 0 (bucket_left entries left text offset) number member in
    let (is, inside) = member_if (eqb (bit_at left bucket) 1) (ends_from entries bucket text offset 0) number there in
    record { bucket = bucket; opened = eqb-true (bit_at left bucket) 1 is; ends = (from_member entries bucket text offset 0 number inside).1 }

member_left : (entries : List Entry) (left : ℕ) (text : List ℕ) (offset bucket number : ℕ) → bucket < 8 → bit_at left bucket ≡ 1 → number_ends entries bucket text offset number ≡ true → IsMember number (buckets_left entries left text offset)
unfolding buckets_left
member_left entries left text offset bucket number few opened ends =
    member_any 8 0 bucket (bucket_left entries left text offset) number (omega arith) (omega (arith, few))
    (subst (IsMember number) (sym (open_bucket entries left text offset bucket opened)) (member_from entries bucket text offset number ends))

-- a literal is in one bucket
one_bucket : (entries : List Entry) (bucket other : ℕ) (text : List ℕ) (offset number : ℕ) → number_ends entries bucket text offset number ≡ true → number_ends entries other text offset number ≡ true → bucket ≡ other
one_bucket entries bucket other text offset number says says' =
    let found : IsEntryEnd entries bucket text offset number = number_end entries bucket text offset number says in
    let found' : IsEntryEnd entries other text offset number = number_end entries other text offset number says' in
    sym found.filed ∙ ap (λ entry. entry.bucket) (same_Some found.entry found'.entry (sym found.numbered ∙ found'.numbered)) ∙ found'.filed

-- the literals of all buckets that a mask leaves open
open-exact : (widths : List ℕ) (entries : List Entry) (mask : ℕ) (text : List ℕ) (offset : ℕ) → AreKeyed widths entries → mask < 256 → offset ≤ length text
    → AreOpenEnds (map literal_in entries) (map (λ entry. entry.bucket) entries) mask text offset (buckets_left entries (255 - mask) text offset)
open-exact widths entries mask text offset keyed fits inside number = (
  (λ member.
      let is : IsLeftEnd entries (255 - mask) text offset number = left_member entries (255 - mask) text offset number member in
      let found : IsBucketEnd (map literal_in entries) (map (λ entry. entry.bucket) entries) is.bucket text offset number = bucket_end entries is.bucket text offset number inside (number_end entries is.bucket text offset number is.ends) in
      record { literal = found.literal; bucket = is.bucket; numbered = found.numbered; filed = found.filed; unmasked = (open-all mask fits is.bucket is.opened).1; ends = found.ends }),
  (λ is.
      let says : number_ends entries is.bucket text offset number ≡ true = entry_end entries is.bucket text offset number (record { literal = is.literal; numbered = is.numbered; filed = is.filed; ends = is.ends }) in
      let found : IsEntryEnd entries is.bucket text offset number = number_end entries is.bucket text offset number says in
      let few : is.bucket < 8 = subst (λ b. b < 8) found.filed (keyed number found.entry found.numbered).few in
      member_left entries (255 - mask) text offset is.bucket number few (omega (arith, bit_at_not w8 mask is.bucket fits few, is.unmasked)) says),
)

pub open-told : (widths : List ℕ) (entries : List Entry) (mask buckets : ℕ) (text : List ℕ) (offset : ℕ) (numbers : List ℕ) → AreKeyed widths entries → mask < 256 → offset ≤ length text → buckets ≡ 255 - mask → numbers ≡ buckets_left entries buckets text offset
    → AreOpenEnds (map literal_in entries) (map (λ entry. entry.bucket) entries) mask text offset numbers
open-told widths entries mask buckets text offset numbers keyed fits inside are all =
    subst (AreOpenEnds (map literal_in entries) (map (λ entry. entry.bucket) entries) mask text offset) (ap (λ b. buckets_left entries b text offset) (sym are) ∙ sym all)
    (open-exact widths entries mask text offset keyed fits inside)

-- where an end stands to the first one that was found
behind_first : (entries : List Entry) (buckets : ℕ) (text : List ℕ) (offset : ℕ) (head : Head) → head.number ∷ behind_head entries text offset head ≡ buckets_left entries buckets text offset → IsFound entries text offset head → (bucket number : ℕ) → bucket < 8 → bit_at buckets bucket ≡ 1
    → number_ends entries bucket text offset number ≡ true → ((bucket ≡ head.bucket) × (head.number ≤ number)) ⊎ (bit_at head.left bucket ≡ 1)
behind_first entries buckets text offset head all found bucket number few opened ends =
    elim (subst (IsMember number) (sym all) (member_left entries buckets text offset bucket number few opened ends)) [
      | inl same ↦ inl (one_bucket entries bucket head.bucket text offset number ends (ap (number_ends entries head.bucket text offset) same ∙ found.ends), omega (arith, same))
      | inr later ↦
          elim (member-append (ends_from entries head.bucket text offset (head.number + 1)) (buckets_left entries head.left text offset) number later) [
            | inl own ↦
                let (low, is) = from_member entries head.bucket text offset (head.number + 1) number own in
                inl (one_bucket entries bucket head.bucket text offset number ends is, omega arith)
            | inr other ↦
                let is : IsLeftEnd entries head.left text offset number = left_member entries head.left text offset number other in
                inr (ap (bit_at head.left) (one_bucket entries bucket is.bucket text offset number ends is.ends) ∙ is.opened)
          ]
    ]

-- the first one that was found, of all buckets that a mask leaves open
pub first-known : (entries : List Entry) (mask : ℕ) (text : List ℕ) (offset : ℕ) (head : Head) → mask < 256 → IsFound entries text offset head → AreAmong head.left (255 - mask)
    → head.number ∷ behind_head entries text offset head ≡ buckets_left entries (255 - mask) text offset → IsFirstHead entries mask text offset head.bucket head.number head.left
first-known entries mask text offset head fits found among all =
    let start : IsLeftEnd entries (255 - mask) text offset head.number = left_member entries (255 - mask) text offset head.number (subst (IsMember head.number) all (inl refl)) in
    let own : start.bucket ≡ head.bucket = one_bucket entries start.bucket head.bucket text offset head.number start.ends found.ends in
    let opened : bit_at (255 - mask) head.bucket ≡ 1 = ap (bit_at (255 - mask)) (sym own) ∙ start.opened in
    record {
      few = found.few;
      unmasked = (open-all mask fits head.bucket opened).1;
      first = record {
        low = omega arith;
        fail = λ k low high.
            false_from_ne_true (number_ends entries head.bucket text offset k) (λ says.
            elim (behind_first entries (255 - mask) text offset head all found head.bucket k found.few opened says) [
              | inl behind ↦ let not_before : head.number ≤ k = behind.1 in omega (arith, not_before, high)
              | inr is ↦ omega (arith, is, found.passed)
            ]);
        here = λ within. found.ends;
      };
      within = found.within;
      unmasked_left = λ bucket is. open-all mask fits bucket (among bucket is);
      none = λ other few out apart unmasked k within.
          false_from_ne_true (number_ends entries other text offset k) (λ says.
          elim (behind_first entries (255 - mask) text offset head all found other k few (omega (arith, bit_at_not w8 mask other fits few, unmasked)) says) [
            | inl behind ↦ apart behind.0
            | inr is ↦ omega (arith, is, out)
          ]);
    }
