-- Least places: moved behind a beginning, and found by the bits of a block.
use Rattle.std.proofs.Common.{◌≡◌, ℕ, ◌+◌, ◌-◌, ◌^◌, ◌<◌, ◌≤◌, Bool, true, false, nat_lt, ◌&&◌, List, length, get_or, take, drop, Option, Some, None, refl, sym, ap, ◌∙◌, subst, arith, inl, inr, length-drop, eqb, Fits, w8}
use Rattle.std.specs.Option.{option_map}
use Rattle.std.proofs.lemmas.Nat.Bits.{bit_at-zero}
use Rattle.std.proofs.lemmas.Bool.{cases_lt, lt-ltb, le-ltb}
use Rattle.std.proofs.lemmas.List.{get_or-drop, get_or-take, take_rest}
use Rattle.hs_bits.specs.LowestBits.{IsLowestBit}
use Rattle.hs_bits.specs.MemberPlaces.{ArePlacesOf}
use Rattle.memchr.specs.Find.{IsFirstByte}
use Rattle.hs_accel.specs.Places.{NonePasses, IsFirstAt, IsLeastPlace}
use Rattle.hs_accel.specs.Sets.{AreAlike}

-- each element is a byte
abbrev pub AreBytes : List ℕ → Type 0
AreBytes bytes = (k : ℕ) → Fits w8 (get_or bytes k 0)

else_false : (b : Bool) → (b ≡ true → ⊥) → b ≡ false
else_false true f = absurd (f refl)
else_false false f = refl

-- the byte at a place is that of the rest
at_rest : (bytes : List ℕ) (from k : ℕ) → from ≤ k → get_or (drop from bytes) (k - from) 0 ≡ get_or bytes k 0
at_rest bytes from k h = let e : from + (k - from) ≡ k = omega arith in get_or-drop from bytes (k - from) 0 ∙ ap (λ n. get_or bytes n 0) e

-- the first place of the rest, counted from the beginning
pub first_behind : (p q : ℕ → Bool) (bytes : List ℕ) (from : ℕ) (r : Option ℕ) → from ≤ length bytes → AreBytes bytes → AreAlike p q → IsFirstByte q (drop from bytes) r → IsLeastPlace p bytes from (option_map (λ at. from + at) r)
first_behind p q bytes from None within fit alike first = λ k low high.
    let x = get_or bytes k 0 in
    alike x (fit k).fits ∙ else_false (q x) (λ t. first (k - from) (omega arith) (omega (arith, length-drop from bytes)) (ap q (at_rest bytes from k low) ∙ t))
first_behind p q bytes from (Some at) within fit alike first =
    record {
      low = omega arith;
      high = omega (arith, first.0.high, length-drop from bytes);
      passes = alike (get_or bytes (from + at) 0) (fit (from + at)).fits ∙ ap q (sym (get_or-drop from bytes at 0)) ∙ first.1;
      least = λ k low high.
          let x = get_or bytes k 0 in
          alike x (fit k).fits ∙ else_false (q x) (λ t. first.0.before (k - from) (omega arith) (omega arith) (ap q (at_rest bytes from k low) ∙ t));
    }

-- the places of up to 64 bytes from one on

byte-there : (bytes : List ℕ) (at end k : ℕ) → at ≤ k → k < end → get_or (take (end - at) (drop at bytes)) (k - at) 0 ≡ get_or bytes k 0
byte-there bytes at end k low high = get_or-take (end - at) (drop at bytes) (k - at) 0 (omega arith) ∙ at_rest bytes at k low

-- none of them is a place of the set
pub none-in_block : (test : ℕ → Bool) (bytes : List ℕ) (from at end count : ℕ) → count ≡ end - at → NonePasses test bytes from at →
    ArePlacesOf test (take (end - at) (drop at bytes)) count 0 → NonePasses test bytes from end
none-in_block test bytes from at end count is none places k low high =
    elim (cases_lt k at) [
      | inl before ↦ none k low before
      | inr behind ↦
          let x : Bool = test (get_or (take (end - at) (drop at bytes)) (k - at) 0) in
          let unset : (nat_lt (k - at) count && x) ≡ false = sym (places (k - at)) ∙ ap (λ n. eqb n 1) (bit_at-zero (k - at)) in
          sym (ap test (byte-there bytes at end k behind high)) ∙ (sym (ap (λ t. t && x) (lt-ltb (k - at) count (omega (arith, is)))) ∙ unset)
    ]

within-count : (i count : ℕ) (x : Bool) → (nat_lt i count && x) ≡ true → i < count
within-count i count x is =
    elim (cases_lt i count) [
      | inl below ↦ below
      | inr above ↦ absurd (let f : false ≡ true = sym (ap (λ t. t && x) (le-ltb i count above)) ∙ is in cc)
    ]

-- the lowest of them is the first
pub first-in_block : (test : ℕ → Bool) (bytes : List ℕ) (from at end count places place : ℕ) → from ≤ at → end ≤ length bytes → count ≡ end - at → NonePasses test bytes from at →
    ArePlacesOf test (take (end - at) (drop at bytes)) count places → IsLowestBit places place → IsFirstAt test bytes from (length bytes) (at + place)
first-in_block test bytes from at end count places place low room is none are lowest =
    let slice : List ℕ = take (end - at) (drop at bytes) in
    let set : (nat_lt place count && test (get_or slice place 0)) ≡ true = sym (are place) ∙ ap (λ n. eqb n 1) lowest.is in
    let within : place < count = within-count place count (test (get_or slice place 0)) set in
    let e : at + place - at ≡ place = omega arith in
    let here : test (get_or slice place 0) ≡ true = sym (ap (λ t. t && test (get_or slice place 0)) (lt-ltb place count within)) ∙ set in
    record {
      low = omega arith;
      high = omega (arith, is);
      passes = ap test (sym (byte-there bytes at end (at + place) (omega arith) (omega (arith, is))) ∙ ap (λ n. get_or slice n 0) e) ∙ here;
      least = λ k low' high.
          elim (cases_lt k at) [
            | inl before ↦ none k low' before
            | inr behind ↦
                let x : Bool = test (get_or slice (k - at) 0) in
                let unset : (nat_lt (k - at) count && x) ≡ false = sym (are (k - at)) ∙ ap (λ n. eqb n 1) (lowest.lowest (k - at) (omega arith)) in
                sym (ap test (byte-there bytes at end k behind (omega (arith, is)))) ∙ (sym (ap (λ t. t && x) (lt-ltb (k - at) count (omega arith))) ∙ unset)
          ];
    }

-- the same where the rest is given as a slice
pub first_behind_slice : (p q : ℕ → Bool) (bytes : List ℕ) (from : ℕ) (r : Option ℕ) → from ≤ length bytes → AreBytes bytes → AreAlike p q → IsFirstByte q (take (length bytes - from) (drop from bytes)) r
    → IsLeastPlace p bytes from (option_map (λ at. from + at) r)
first_behind_slice p q bytes from r within fit alike first =
    first_behind p q bytes from r within fit alike (subst (λ rest. IsFirstByte q rest r) (take_rest bytes from) first)
