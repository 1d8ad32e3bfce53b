-- All ends of literals: the numbers at one place, and the places one by one.
use Rattle.std.proofs.Common.{◌≡◌, ℕ, zero, suc, ◌+◌, ◌-◌, ◌<◌, ◌≤◌, Bool, true, List, [], ◌∷◌, ◌++◌, length, Option, Some, None, refl, sym, ap, ◌∙◌, subst, arith, inl, inr, length-append}
use Rattle.std.specs.Prelude.{slice_get, MatchOption}
use Rattle.std.specs.List.{range_with_len, flat_map}
use Rattle.std.proofs.lemmas.Bool.{false≢true, cases_lt}
use Rattle.std.proofs.lemmas.List.{length-map}
use Rattle.std.proofs.lemmas.Option.{slice_get_within, slice_get-get_or}
use Rattle.hs_base.specs.Literals.{LiteralByte}
use Rattle.hs_base.specs.Lists.{Each, IsMember, IsRising}
use Rattle.hs_base.proofs.ListLemmas.{each-of_members, member-left, member-right, member-append, member-map, map-member, IsOrder, rising-unique, rising-append, rising-map}
use Rattle.hs_base.specs.LiteralEnds.{EndsAt}
use Rattle.hs_confirm.specs.PlaceEnds.{IsPlaceEnd, ArePlaceEnds}
use Rattle.hs_confirm.specs.declared.confirm.Confirm.{Confirm}
use Rattle.hs_confirm.specs.declared.place_ends.PlaceEnds.{PlaceEnds}
use Rattle.hs_confirm.specs.PlaceLeft.{place_left}
use Rattle.hs_confirm.specs.Entries.{literal_in}
use Rattle.hs_confirm.specs.Filed.{literals_of, buckets_of}
use Rattle.hs_confirm.proofs.TakingLemmas.{ends_from_there, there_from_ends}
use Rattle.hs_confirm.proofs.NumberLemmas.{IsPassing, member-passing, passing-member, passing-rising}
use Rattle.hs_literals.specs.ScanEnds.{IsEndBefore, AreScanEnds}
use Rattle.hs_literals.specs.Masking.{HidesNone}
use Rattle.hs_literals.specs.Places.{NoneBetween}
use Rattle.hs_literals.specs.AllEnds.{literal_ends, numbers_at, pairs_of_place, ends_behind}

-- a literal that ends there, with its number
pub record IsEnd (literals : List (List LiteralByte)) (text : List ℕ) (offset number : ℕ) : Type 0 where
  pub literal : List LiteralByte
  pub numbered : slice_get literals number ≡ Some literal
  pub ends : EndsAt literal text offset

end_option : (literals : List (List LiteralByte)) (text : List ℕ) (offset number : ℕ) (found : Option (List LiteralByte)) → offset ≤ length text → slice_get literals number ≡ found → literal_ends text offset found ≡ true → IsEnd literals text offset number
end_option literals text offset number None inside is says = absurd (false≢true says)
end_option literals text offset number (Some literal) inside is says = record { literal = literal; numbered = is; ends = ends_from_there literal text offset inside says }

end_says : (literals : List (List LiteralByte)) (text : List ℕ) (offset number : ℕ) → IsEnd literals text offset number → literal_ends text offset (slice_get literals number) ≡ true
end_says literals text offset number is = ap (literal_ends text offset) is.numbered ∙ there_from_ends is.literal text offset is.ends

pub numbers_at-member : (literals : List (List LiteralByte)) (text : List ℕ) (offset number : ℕ) → offset ≤ length text → IsMember number (numbers_at literals text offset) → IsEnd literals text offset number
numbers_at-member literals text offset number inside member =
    let p : ℕ → Bool = λ n. literal_ends text offset (slice_get literals n) in
    let is : IsPassing p 0 (length literals) number = member-passing (length literals) p 0 number member in
    end_option literals text offset number (slice_get literals number) inside refl is.passes

pub member-numbers_at : (literals : List (List LiteralByte)) (text : List ℕ) (offset number : ℕ) → IsEnd literals text offset number → IsMember number (numbers_at literals text offset)
member-numbers_at literals text offset number is =
    passing-member (length literals) (λ n. literal_ends text offset (slice_get literals n)) 0 number
    (record { low = omega arith; high = omega (arith, slice_get_within literals number is.literal is.numbered); passes = end_says literals text offset number is })

pub numbers_at-rising : (literals : List (List LiteralByte)) (text : List ℕ) (offset : ℕ) → IsRising (λ m n. m < n) (numbers_at literals text offset)
numbers_at-rising literals text offset = passing-rising (length literals) (λ n. literal_ends text offset (slice_get literals n)) 0

number_order : IsOrder (λ (m : ℕ) (n : ℕ). m < n)
number_order = record { irreflexive = λ x below. omega arith; transitive = λ x y z below above. omega arith }

-- the ends at a place are those of the buckets that a mask leaves open, where it hides none
pub place_numbers : (literals : List (List LiteralByte)) (buckets : List ℕ) (mask : ℕ) (text : List ℕ) (offset : ℕ) (numbers : List ℕ) → length buckets ≡ length literals → offset ≤ length text → HidesNone mask literals buckets text offset
    → ArePlaceEnds literals buckets mask text offset numbers → numbers ≡ numbers_at literals text offset
place_numbers literals buckets mask text offset numbers same inside hides are =
    rising-unique (λ m n. m < n) number_order numbers (numbers_at literals text offset) are.rising (numbers_at-rising literals text offset)
    (λ number member.
    let is : IsPlaceEnd literals buckets mask text offset number = (are.exact number).0 member in
    member-numbers_at literals text offset number (record { literal = is.literal; numbered = is.numbered; ends = is.ends }))
    (λ number member.
    let is : IsEnd literals text offset number = numbers_at-member literals text offset number inside member in
    let within : number < length literals = slice_get_within literals number is.literal is.numbered in
    let filed = slice_get-get_or buckets number 0 (omega arith) in
    (are.exact number).1 (record { literal = is.literal; bucket = _; numbered = is.numbered; filed = filed; unmasked = hides number _ is.literal is.numbered filed is.ends; ends = is.ends }))

-- the same where there may be none
pub option_numbers : (literals : List (List LiteralByte)) (buckets : List ℕ) (mask : ℕ) (text : List ℕ) (offset : ℕ) (found : Option PlaceEnds) → length buckets ≡ length literals → offset ≤ length text → HidesNone mask literals buckets text offset
    → MatchOption found (ArePlaceEnds literals buckets mask text offset []) (λ ends. (place_left ends ≡ [] → ⊥) × ArePlaceEnds literals buckets mask text offset (place_left ends))
    → MatchOption found (numbers_at literals text offset ≡ []) (λ ends. place_left ends ≡ numbers_at literals text offset)
option_numbers literals buckets mask text offset None same inside hides are = sym (place_numbers literals buckets mask text offset [] same inside hides are)
option_numbers literals buckets mask text offset (Some ends) same inside hides are = place_numbers literals buckets mask text offset (place_left ends) same inside hides are.1

pub no_member : (xs : List ℕ) → ((x : ℕ) → IsMember x xs → ⊥) → xs ≡ []
no_member [] none = refl
no_member (x ∷ xs) none = absurd (none x (inl refl))

-- no literal ends there
pub numbers_at-none : (literals : List (List LiteralByte)) (text : List ℕ) (offset : ℕ) → offset ≤ length text → ((number : ℕ) → IsEnd literals text offset number → ⊥) → numbers_at literals text offset ≡ []
numbers_at-none literals text offset inside none = no_member (numbers_at literals text offset) (λ number member. none number (numbers_at-member literals text offset number inside member))

pub ends_behind-end : (literals : List (List LiteralByte)) (history bytes : List ℕ) (from : ℕ) → length bytes ≤ from → ends_behind literals history bytes from ≡ []
unfolding ends_behind
ends_behind-end literals history bytes from past =
    let e : length bytes - from ≡ 0 = omega arith in
    ap (λ n. flat_map (λ end. pairs_of_place end (numbers_at literals (history ++ bytes) (length history + end))) (range_with_len (from + 1) n)) e

pub ends_behind-more : (literals : List (List LiteralByte)) (history bytes : List ℕ) (from : ℕ) → from < length bytes
    → ends_behind literals history bytes from ≡ pairs_of_place (from + 1) (numbers_at literals (history ++ bytes) (length history + (from + 1))) ++ ends_behind literals history bytes (from + 1)
unfolding ends_behind
ends_behind-more literals history bytes from below =
    let e : length bytes - from ≡ suc (length bytes - (from + 1)) = omega arith in
    ap (λ n. flat_map (λ end. pairs_of_place end (numbers_at literals (history ++ bytes) (length history + end))) (range_with_len (from + 1) n)) e

-- places at which no literal ends are passed over
pub ends_behind-skip : (d : ℕ) (literals : List (List LiteralByte)) (history bytes : List ℕ) (from to : ℕ) → from + d ≡ to → to ≤ length bytes → NoneBetween literals history bytes from (to + 1) → ends_behind literals history bytes from ≡ ends_behind literals history bytes to
ends_behind-skip zero literals history bytes from to e inside none = let same : from ≡ to = omega arith in ap (ends_behind literals history bytes) same
ends_behind-skip (suc d) literals history bytes from to e inside none =
    let here : numbers_at literals (history ++ bytes) (length history + (from + 1)) ≡ [] =
    numbers_at-none literals (history ++ bytes) (length history + (from + 1)) (omega (arith, length-append history bytes)) (λ number is. none (from + 1) number is.literal (omega arith) (omega arith) is.numbered is.ends) in
    ends_behind-more literals history bytes from (omega arith)
    ∙ ap (λ numbers. pairs_of_place (from + 1) numbers ++ ends_behind literals history bytes (from + 1)) here
    ∙ ends_behind-skip d literals history bytes (from + 1) to (omega arith) inside (λ end number literal low high. none end number literal (omega arith) high)

-- the place behind those that are passed over
pub ends_behind-enter : (literals : List (List LiteralByte)) (history bytes : List ℕ) (from to : ℕ) → from < to → to ≤ length bytes → NoneBetween literals history bytes from to
    → ends_behind literals history bytes from ≡ pairs_of_place to (numbers_at literals (history ++ bytes) (length history + to)) ++ ends_behind literals history bytes to
ends_behind-enter literals history bytes from to order inside none =
    let last = to - 1 in
    let e : last + 1 ≡ to = omega arith in
    ends_behind-skip (last - from) literals history bytes from last (omega arith) (omega arith) (λ end number literal low high. none end number literal low (omega arith))
    ∙ ends_behind-more literals history bytes last (omega arith)
    ∙ ap (λ n. pairs_of_place n (numbers_at literals (history ++ bytes) (length history + n)) ++ ends_behind literals history bytes n) e

pairs_rising : (end : ℕ) (numbers : List ℕ) → IsRising (λ m n. m < n) numbers → IsRising IsEndBefore (pairs_of_place end numbers)
pairs_rising end numbers rising = rising-map (λ m n. m < n) IsEndBefore (λ number. (end, number)) numbers (λ m n below. inr (refl, below)) rising

-- the places from one on, in a list of their own
abbrev behind : (literals : List (List LiteralByte)) (history bytes : List ℕ) (from n : ℕ) → List (ℕ × ℕ)
behind literals history bytes from n = flat_map (λ end. pairs_of_place end (numbers_at literals (history ++ bytes) (length history + end))) (range_with_len from n)

behind-member : (n : ℕ) (literals : List (List LiteralByte)) (history bytes : List ℕ) (from : ℕ) (x : ℕ × ℕ) → from + n ≤ length bytes + 1 → IsMember x (behind literals history bytes from n)
    → (from ≤ x.0) × (x.0 < from + n) × IsEnd literals (history ++ bytes) (length history + x.0) x.1
behind-member zero literals history bytes from x inside member = absurd member
behind-member (suc n) literals history bytes from x inside member =
    elim (member-append (pairs_of_place from (numbers_at literals (history ++ bytes) (length history + from))) (behind literals history bytes (from + 1) n) x member) [
      | inl here ↦
          let (number, there, same) = map-member (λ number. (from, number)) (numbers_at literals (history ++ bytes) (length history + from)) x here in
          subst (λ y. (from ≤ y.0) × (y.0 < from + suc n) × IsEnd literals (history ++ bytes) (length history + y.0) y.1) (sym same)
          (omega arith, omega arith, numbers_at-member literals (history ++ bytes) (length history + from) number (omega (arith, length-append history bytes)) there)
      | inr later ↦
          let (low, high, is) = behind-member n literals history bytes (from + 1) x (omega arith) later in
          (omega arith, omega arith, is)
    ]

member-behind : (n : ℕ) (literals : List (List LiteralByte)) (history bytes : List ℕ) (from : ℕ) (x : ℕ × ℕ) → from ≤ x.0 → x.0 < from + n → IsEnd literals (history ++ bytes) (length history + x.0) x.1 → IsMember x (behind literals history bytes from n)
member-behind zero literals history bytes from x low high is = absurd (omega arith)
member-behind (suc n) literals history bytes from x low high is =
    let first = pairs_of_place from (numbers_at literals (history ++ bytes) (length history + from)) in
    elim (cases_lt from x.0) [
      | inl above ↦ member-right first (behind literals history bytes (from + 1) n) x (member-behind n literals history bytes (from + 1) x (omega arith) (omega arith) is)
      | inr below ↦
          let e : from ≡ x.0 = omega arith in
          member-left first (behind literals history bytes (from + 1) n) x
          (subst (λ end. IsMember x (pairs_of_place end (numbers_at literals (history ++ bytes) (length history + end)))) (sym e)
          (member-map (λ number. (x.0, number)) (numbers_at literals (history ++ bytes) (length history + x.0)) x.1 (member-numbers_at literals (history ++ bytes) (length history + x.0) x.1 is)))
    ]

behind-rising : (n : ℕ) (literals : List (List LiteralByte)) (history bytes : List ℕ) (from : ℕ) → from + n ≤ length bytes + 1 → IsRising IsEndBefore (behind literals history bytes from n)
behind-rising zero literals history bytes from inside = tt
behind-rising (suc n) literals history bytes from inside =
    let numbers = numbers_at literals (history ++ bytes) (length history + from) in
    let later = behind literals history bytes (from + 1) n in
    rising-append IsEndBefore (pairs_of_place from numbers) later (pairs_rising from numbers (numbers_at-rising literals (history ++ bytes) (length history + from))) (behind-rising n literals history bytes (from + 1) (omega arith))
    (each-of_members (λ x. Each (IsEndBefore x) later) (pairs_of_place from numbers) (λ x here.
    each-of_members (IsEndBefore x) later (λ y there.
    let (number, _, same) = map-member (λ number. (from, number)) numbers x here in
    let (low, _, _) = behind-member n literals history bytes (from + 1) y (omega arith) there in
    let e : x.0 ≡ from = ap (λ z. z.0) same in
    inl (omega arith))))

-- all ends behind the first place
pub ends_behind-exact : (literals : List (List LiteralByte)) (history bytes : List ℕ) → AreScanEnds literals history bytes (ends_behind literals history bytes 0)
unfolding ends_behind
ends_behind-exact literals history bytes = record {
  rising = behind-rising (length bytes - 0) literals history bytes 1 (omega arith);
  exact = λ x. (
    λ member.
        let (low, high, is) = behind-member (length bytes - 0) literals history bytes 1 x (omega arith) member in
        record { literal = is.literal; numbered = is.numbered; some = low; within = omega arith; ends = is.ends },
    λ is.
        member-behind (length bytes - 0) literals history bytes 1 x is.some (omega (arith, is.within)) (record { literal = is.literal; numbered = is.numbered; ends = is.ends }),
  );
}

-- there are as many buckets as literals
pub as_many : (confirm : Confirm) → length (buckets_of confirm) ≡ length (literals_of confirm)
unfolding literals_of buckets_of
as_many confirm = length-map confirm.entries.items (λ entry. entry.bucket) ∙ sym (length-map confirm.entries.items literal_in)
