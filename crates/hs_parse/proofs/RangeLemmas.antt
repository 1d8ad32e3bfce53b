-- Sets of code points as ranges: there is one list of them for each test.
use Rattle.std.proofs.Common.{◌≡◌, ℕ, zero, suc, ◌+◌, ◌<◌, ◌≤◌, inl, inr, Bool, true, false, ◌&&◌, ◌||◌, ◌==◌, List, [], ◌∷◌, ◌++◌, Result, Ok, Err, IfOk, OnOk, refl, sym, ap, ap₂, ◌∙◌, true≢false, arith}
use Rattle.std.specs.Result.{is_ok}
use Rattle.std.specs.Prelude.{nat_le, nat_lt, not, if◌then◌else◌}
use Rattle.std.proofs.lemmas.Bool.{cases_eq, and_parts, or_cases, or_left, or_right, and_from, eqb-true, eq-eqb, le-leb, le-ltb, lt-ltb}
use Rattle.std.proofs.lemmas.Bool.Decides.{nat_tests}
use Rattle.unicode.specs.CaseFolding.{simple_fold}
use Rattle.regex_class.specs.Ranges.{Range, in_range, in_ranges, rises_from, fits_from, IsCanonical, HasExactly}
use Rattle.regex_class.proofs.RangesLemmas.{same_members-same, or-false, fits_from-true, le-fits_from, in_ranges-append, in_ranges-push}
use Rattle.hs_base.specs.Lists.{Each}
use Rattle.hs_base.specs.Trees.{IsRange}
use Rattle.hs_utf8.specs.Members.{has_encoding}
use Rattle.hs_utf8.specs.Folds.{AreFolds}
use Rattle.hs_base.specs.Assertions.{line_feed}
use Rattle.hs_syntax.specs.declared.named.Named.{Named}
use Rattle.hs_syntax.specs.Names.{is_of, ranges_beyond}
use Rattle.hs_parse.specs.declared.set.Test.TheVariants as tests
use Rattle.hs_parse.specs.Classes.{is_between}
use Rattle.hs_parse.specs.Points.{any_from, shares_folding, is_point_of, any_point, passes_point, AreRanges, AddsPoints}

-- some ranges from a number on, and what they have
record FromOn (p : ℕ → Bool) (at : ℕ) : Type 0 where
  pub ranges : List Range
  pub rises : rises_from at ranges ≡ true
  pub same : (c : ℕ) → c ≤ 0x10FFFF → in_ranges ranges c ≡ (nat_le at c && p c)

none_on : (p : ℕ → Bool) (at : ℕ) → at ≡ 0x110000 → FromOn p at
unfolding in_ranges rises_from
none_on p at e = record { ranges = []; rises = refl; same = λ c h. grind (arith, nat_tests, e, h) }

-- ranges that rise from the next number on rise from this one on
rises_before : (at : ℕ) (rs : List Range) → rises_from (at + 1) rs ≡ true → rises_from at rs ≡ true
unfolding rises_from
rises_before at [] h = refl
rises_before at (r ∷ rs) h =
    let parts = and_parts (fits_from (at + 1) r) (rises_from (r.1 + 2) rs) h in
    let fits = fits_from-true (at + 1) r parts.0 in
    ap₂ (λ x y. x && y) (le-fits_from at r (omega (arith, fits.0)) fits.1 fits.2) parts.1

no_member : (p : ℕ → Bool) (at c : ℕ) → p at ≡ false → (nat_le (at + 1) c && p c) ≡ (nat_le at c && p c)
no_member p at c e = elim (cases_eq at c) [
  | inl same ↦
      let last : p c ≡ false = ap p (sym same) ∙ e in
      ap (λ x. nat_le (at + 1) c && x) last ∙ no (nat_le (at + 1) c) (nat_le at c) ∙ sym (ap (λ x. nat_le at c && x) last)
  | inr other ↦ ap (λ x. x && p c) (grind (arith, nat_tests, other))
]
  where
    no : (x y : Bool) → (x && false) ≡ (y && false)
    no true true = refl
    no true false = refl
    no false true = refl
    no false false = refl

a_member : (p : ℕ → Bool) (at c : ℕ) → p at ≡ true → (in_range (at, at) c || (nat_le (at + 1) c && p c)) ≡ (nat_le at c && p c)
unfolding in_range
a_member p at c e = elim (cases_eq at c) [
  | inl same ↦
      let here : (nat_le at c && nat_le c at) ≡ true = grind (arith, nat_tests, same) in
      let there : nat_le at c ≡ true = grind (arith, nat_tests, same) in
      or_left (nat_le at c && nat_le c at) (nat_le (at + 1) c && p c) here ∙ sym (ap₂ (λ x y. x && y) there (ap p (sym same) ∙ e))
  | inr other ↦
      let here : (nat_le at c && nat_le c at) ≡ false = grind (arith, nat_tests, other) in
      ap (λ x. x || (nat_le (at + 1) c && p c)) here ∙ ap (λ x. x && p c) (grind (arith, nat_tests, other))
]

turned : (x y z : Bool) → ((x || y) || z) ≡ (x || (y || z))
turned true y z = refl
turned false y z = refl

-- one more number before them
with_first : (p : ℕ → Bool) (at : ℕ) (rs : List Range) → at ≤ 0x10FFFF → p at ≡ true → rises_from (at + 1) rs ≡ true →
    ((c : ℕ) → c ≤ 0x10FFFF → in_ranges rs c ≡ (nat_le (at + 1) c && p c)) → FromOn p at
unfolding in_range in_ranges rises_from
with_first p at [] h e rises same = record {
  ranges = (at, at) ∷ [];
  rises = ap (λ x. x && true) (le-fits_from at (at, at) (omega arith) (omega arith) h);
  same = λ c k. ap (λ x. in_range (at, at) c || x) (same c k) ∙ a_member p at c e;
}
with_first p at ((first, last) ∷ rs) h e rises same = elim (cases_eq (at + 1) first) [
  | inl near ↦ record {
    ranges = (at, last) ∷ rs;
    rises = ap₂ (λ x y. x && y) (le-fits_from at (at, last) (omega arith) (omega (arith, fits.0, fits.1)) fits.2) parts.1;
    same = λ c k. joined c near ∙ ap (λ x. in_range (at, at) c || x) (same c k) ∙ a_member p at c e;
  }
  | inr far ↦ record {
    ranges = (at, at) ∷ (first, last) ∷ rs;
    rises =
        ap₂ (λ x y. x && y) (le-fits_from at (at, at) (omega arith) (omega arith) h)
        (ap₂ (λ x y. x && y) (le-fits_from (at + 2) (first, last) (omega (arith, fits.0, far)) fits.1 fits.2) parts.1);
    same = λ c k. ap (λ x. in_range (at, at) c || x) (same c k) ∙ a_member p at c e;
  }
]
  where
    parts : (fits_from (at + 1) (first, last) ≡ true) × (rises_from (last + 2) rs ≡ true)
    parts = and_parts (fits_from (at + 1) (first, last)) (rises_from (last + 2) rs) rises

    fits : (at + 1 ≤ first) × (first ≤ last) × (last ≤ 0x10_FFFF)
    fits = fits_from-true (at + 1) (first, last) parts.0

    joined : (c : ℕ) → at + 1 ≡ first →
        (in_range (at, last) c || in_ranges rs c) ≡ (in_range (at, at) c || (in_range (first, last) c || in_ranges rs c))
    joined c near =
        let low = fits.1 in
        let one : (nat_le at c && nat_le c last) ≡ ((nat_le at c && nat_le c at) || (nat_le first c && nat_le c last)) =
        grind (arith, nat_tests, near, low) in
        ap (λ x. x || in_ranges rs c) one ∙ turned (nat_le at c && nat_le c at) (nat_le first c && nat_le c last) (in_ranges rs c)

one_before : (p : ℕ → Bool) (at : ℕ) → at ≤ 0x10FFFF → FromOn p (at + 1) → (b : Bool) → p at ≡ b → FromOn p at
one_before p at h rest true e = with_first p at rest.ranges h e rest.rises rest.same
one_before p at h rest false e = record {
  ranges = rest.ranges;
  rises = rises_before at rest.ranges rest.rises;
  same = λ c k. rest.same c k ∙ no_member p at c e;
}

from_on : (p : ℕ → Bool) (count at : ℕ) → at + count ≡ 0x110000 → FromOn p at
from_on p zero at e = none_on p at (omega (arith, e))
from_on p (suc count) at e = one_before p at (omega (arith, e)) (from_on p count (at + 1) (omega (arith, e))) (p at) refl

-- there are ranges of the code points that pass a test
pub record RangesRead (test : ℕ → Bool) : Type 0 where
  pub ranges : List (ℕ × ℕ)
  pub are : AreRanges test ranges

from_start : (test : ℕ → Bool) → FromOn (λ c. has_encoding c && test c) 0 → RangesRead test
from_start test all = record {
  ranges = all.ranges;
  are = record {
    canonical = all.rises;
    exactly = λ c h. all.same c h ∙ ap (λ b. b && (has_encoding c && test c)) (le-leb 0 c (omega arith));
  };
}

pub ranges_read : (test : ℕ → Bool) → RangesRead test
ranges_read test = from_start test (from_on (λ c. has_encoding c && test c) 0x110000 0 (omega arith))

-- and one list of them
pub one_list : {test other : ℕ → Bool} {xs ys : List (ℕ × ℕ)} → ((c : ℕ) → test c ≡ other c) → AreRanges test xs → AreRanges other ys → xs ≡ ys
one_list {xs = xs} {ys = ys} same a b =
    same_members-same xs ys a.canonical b.canonical
    (λ c h. a.exactly c h ∙ ap (λ x. has_encoding c && x) (same c) ∙ sym (b.exactly c h))

-- ranges in order are within Unicode
ranges_proper : (n : ℕ) (rs : List Range) → rises_from n rs ≡ true → Each IsRange rs
unfolding rises_from
ranges_proper n [] h = tt
ranges_proper n (r ∷ rs) h =
    let parts = and_parts (fits_from n r) (rises_from (r.1 + 2) rs) h in
    let fits = fits_from-true n r parts.0 in
    ((fits.1, omega (arith, fits.2)), ranges_proper (r.1 + 2) rs parts.1)

pub are_proper : {test : ℕ → Bool} {rs : List (ℕ × ℕ)} → AreRanges test rs → Each IsRange rs
are_proper {rs = rs} are = ranges_proper 0 rs are.canonical

-- one of some numbers passes a test
pub any_found : (test : ℕ → Bool) (first count : ℕ) → any_from test first count ≡ true → (m : ℕ) × (first ≤ m) × (m < first + count) × (test m ≡ true)
any_found test first zero h = absurd (true≢false (sym h))
any_found test first (suc count) h = elim (or_cases (test first) (any_from test (first + 1) count) h) [
  | inl here ↦ (first, omega arith, omega arith, here)
  | inr later ↦
      let (m, low, high, passes) = any_found test (first + 1) count later in
      (m, omega (arith, low), omega (arith, high), passes)
]

pub any_of : (test : ℕ → Bool) (first count m : ℕ) → first ≤ m → m < first + count → test m ≡ true → any_from test first count ≡ true
any_of test first zero m low high passes = absurd (omega (arith, low, high))
any_of test first (suc count) m low high passes = elim (cases_eq first m) [
  | inl same ↦ or_left (test first) (any_from test (first + 1) count) (ap test same ∙ passes)
  | inr other ↦ or_right (test first) (any_from test (first + 1) count) (any_of test (first + 1) count m (omega (arith, low, other)) (omega (arith, high)) passes)
]

same_truth : (a b : Bool) → (a ≡ true → b ≡ true) → (b ≡ true → a ≡ true) → a ≡ b
same_truth true b to from = sym (to refl)
same_truth false true to from = from refl
same_truth false false to from = refl

-- one range
pub in_one : (first last c : ℕ) → in_ranges ((first, last) ∷ []) c ≡ is_between first last c
unfolding in_ranges in_range
in_one first last c = or-false (nat_le first c && nat_le c last)

-- a range with the other cases of its members
pub folded_range : (first last : ℕ) (xs : List (ℕ × ℕ)) → AreFolds ((first, last) ∷ []) xs → HasExactly xs (shares_folding first last)
unfolding shares_folding
folded_range first last xs folds c h = same_truth (in_ranges xs c) (any_from test 0 0x110000) to from
  where
    test : ℕ → Bool
    test member = is_between first last member && (simple_fold member == simple_fold c)

    to : in_ranges xs c ≡ true → any_from test 0 0x110000 ≡ true
    to is =
        let shared = (folds.exactly c h).0 is in
        let inside = shared.within in
        any_of test 0 0x110000 shared.member (omega arith) (omega (arith, inside))
        (ap₂ (λ x y. x && y) (sym (in_one first last shared.member) ∙ shared.is_member) (eq-eqb _ _ shared.same))

    from : any_from test 0 0x110000 ≡ true → in_ranges xs c ≡ true
    from is =
        let (m, low, high, passes) = any_found test 0 0x110000 is in
        let parts = and_parts (is_between first last m) (simple_fold m == simple_fold c) passes in
        (folds.exactly c h).1 (record {
          member = m;
          within = omega (arith, high);
          is_member = in_one first last m ∙ parts.0;
          same = eqb-true (simple_fold m) (simple_fold c) parts.1;
        })

or_turned : (x y : Bool) → (x || y) ≡ (y || x)
or_turned true true = refl
or_turned true false = refl
or_turned false true = refl
or_turned false false = refl

-- ranges behind others
pub adds_points : (test : ℕ → Bool) (old passing new : List (ℕ × ℕ)) → HasExactly passing test → new ≡ old ++ passing → AddsPoints test old new
adds_points test old passing new exact is c h =
    ap (λ rs. in_ranges rs c) is
    ∙ in_ranges-append old passing c
    ∙ ap (λ x. in_ranges old c || x) (exact c h)
    ∙ or_turned (in_ranges old c) (test c)

-- the surrogates are what has no encoding
scalar_up_to : (c : ℕ) → c ≤ 0x10FFFF → has_encoding c ≡ not (is_between 0xD800 0xDFFF c)
scalar_up_to c h = grind (arith, nat_tests, h)

and_turned : (x y : Bool) → (x && y) ≡ (y && x)
and_turned true true = refl
and_turned true false = refl
and_turned false true = refl
and_turned false false = refl

-- a set without the surrogates
pub without_surrogates : (rs surrogates xs : List (ℕ × ℕ)) → IsCanonical xs → HasExactly surrogates (in_ranges ((0xD800, 0xDFFF) ∷ [])) →
    HasExactly xs (λ c. in_ranges rs c && not (in_ranges surrogates c)) → AreRanges (in_ranges rs) xs
without_surrogates rs surrogates xs canonical left whole = record {
  canonical = canonical;
  exactly = λ c h.
      whole c h
      ∙ ap (λ x. in_ranges rs c && not x) (left c h ∙ in_one 0xD800 0xDFFF c)
      ∙ ap (λ x. in_ranges rs c && x) (sym (scalar_up_to c h))
      ∙ and_turned (in_ranges rs c) (has_encoding c);
}

-- the same ranges for a test that says the same
pub same_test : (test other : ℕ → Bool) (xs : List (ℕ × ℕ)) → ((c : ℕ) → c ≤ 0x10FFFF → test c ≡ other c) → AreRanges test xs → AreRanges other xs
same_test test other xs same are = record {
  canonical = are.canonical;
  exactly = λ c h. are.exactly c h ∙ ap (λ x. has_encoding c && x) (same c h);
}

-- what holds of a value that is there
pub map_ok : {A E : Type 0} {P Q : A → Type 0} (result : Result A E) → ((x : A) → P x → Q x) → IfOk result P → IfOk result Q
map_ok (Ok x) f h = f x h
map_ok (Err e) f h = tt

-- what `.` takes
pub all_points : (dotall : Bool) → dotall ≡ true → HasExactly ((0, 0x10FFFF) ∷ []) (any_point dotall)
all_points dotall e c h =
    in_one 0 0x10FFFF c
    ∙ and_from (nat_le 0 c) (nat_le c 0x10FFFF) (le-leb 0 c (omega arith)) (le-leb c 0x10FFFF h)
    ∙ sym (ap (λ d. d || not (c == line_feed)) e)

pub no_newline : (dotall : Bool) → dotall ≡ false → HasExactly ((0, 9) ∷ (11, 0x10FFFF) ∷ []) (any_point dotall)
unfolding in_ranges in_range
no_newline dotall e c h =
    let same : ((nat_le 0 c && nat_le c 9) || ((nat_le 11 c && nat_le c 0x10FFFF) || false)) ≡ not (c == 10) =
    grind (arith, nat_tests, h) in
    same ∙ sym (ap (λ d. d || not (c == line_feed)) e)

-- what a range takes
pub range_folded : (caseless : Bool) (first last : ℕ) (xs : List (ℕ × ℕ)) → caseless ≡ true → AreFolds ((first, last) ∷ []) xs →
    HasExactly xs (passes_point (tests.Range caseless first last))
range_folded caseless first last xs e folds c h =
    folded_range first last xs folds c h ∙ sym (ap (λ b. if b then shares_folding first last c else is_between first last c) e)

pub range_plain : (caseless : Bool) (first last : ℕ) (xs : List (ℕ × ℕ)) → caseless ≡ false → xs ≡ (first, last) ∷ [] →
    HasExactly xs (passes_point (tests.Range caseless first last))
range_plain caseless first last xs e is c h =
    ap (λ rs. in_ranges rs c) is ∙ in_one first last c ∙ sym (ap (λ b. if b then shares_folding first last c else is_between first last c) e)

-- the ranges have the code points of a class that are below a byte, and those that aren't ASCII
pub record HasNamed (class : Named) (ranges : List (ℕ × ℕ)) (byte : ℕ) : Type 0 where
  pub same : (c : ℕ) → in_ranges ranges c ≡ ((nat_lt c byte && is_of class c) || in_ranges (ranges_beyond class) c)

pub named_first : (class : Named) (ranges : List (ℕ × ℕ)) → ranges ≡ ranges_beyond class → HasNamed class ranges 0
named_first class ranges e = record {
  same = λ c.
      ap (λ rs. in_ranges rs c) e
      ∙ sym (ap (λ b. (b && is_of class c) || in_ranges (ranges_beyond class) c) (le-ltb c 0 (omega arith)));
}

one_more_byte : (c byte : ℕ) → (byte ≡ c → ⊥) → nat_lt c (byte + 1) ≡ nat_lt c byte
one_more_byte c byte other = grind (arith, nat_tests, other)

pub named_less : (class : Named) (ranges : List (ℕ × ℕ)) (byte : ℕ) → HasNamed class ranges byte → is_of class byte ≡ false →
    HasNamed class ranges (byte + 1)
named_less class ranges byte before none = record {
  same = λ c.
      before.same c
      ∙ ap (λ b. b || in_ranges (ranges_beyond class) c)
      (elim (cases_eq byte c) [
        | inl same ↦
            let last : is_of class c ≡ false = ap (is_of class) (sym same) ∙ none in
            ap (λ x. nat_lt c byte && x) last ∙ no (nat_lt c byte) (nat_lt c (byte + 1)) ∙ sym (ap (λ x. nat_lt c (byte + 1) && x) last)
        | inr other ↦ ap (λ x. x && is_of class c) (sym (one_more_byte c byte other))
      ]);
}
  where
    no : (x y : Bool) → (x && false) ≡ (y && false)
    no true true = refl
    no true false = refl
    no false true = refl
    no false false = refl

byte_in : (byte c : ℕ) → in_range (byte, byte) c ≡ (nat_le byte c && nat_le c byte)
unfolding in_range
byte_in byte c = refl

pub named_more :
    (class : Named) (old new : List (ℕ × ℕ)) (byte : ℕ) → HasNamed class old byte → is_of class byte ≡ true →
    new ≡ old ++ (byte, byte) ∷ [] → HasNamed class new (byte + 1)
named_more class old new byte before some is = record {
  same = λ c.
      ap (λ rs. in_ranges rs c) is
      ∙ in_ranges-push old (byte, byte) c
      ∙ ap (λ b. b || in_range (byte, byte) c) (before.same c)
      ∙ elim (cases_eq byte c) [
        | inl same ↦
            or_right _ (in_range (byte, byte) c) (here c same)
            ∙ sym (or_left (nat_lt c (byte + 1) && is_of class c) _
            (and_from _ _ (lt-ltb c (byte + 1) (omega (arith, same))) (ap (is_of class) (sym same) ∙ some)))
        | inr other ↦
            ap (λ b. ((nat_lt c byte && is_of class c) || in_ranges (ranges_beyond class) c) || b) (there c other)
            ∙ or-false _
            ∙ ap (λ x. (x && is_of class c) || in_ranges (ranges_beyond class) c) (sym (one_more_byte c byte other))
      ];
}
  where
    here : (c : ℕ) → byte ≡ c → in_range (byte, byte) c ≡ true
    here c same = byte_in byte c ∙ and_from (nat_le byte c) (nat_le c byte) (le-leb byte c (omega (arith, same))) (le-leb c byte (omega (arith, same)))

    there : (c : ℕ) → (byte ≡ c → ⊥) → in_range (byte, byte) c ≡ false
    there c other = byte_in byte c ∙ grind (arith, nat_tests, other)

pub named_all : (class : Named) (all : List (ℕ × ℕ)) (byte : ℕ) (xs : List (ℕ × ℕ)) → HasNamed class all byte → byte ≡ 0x80 →
    HasExactly xs (in_ranges all) → HasExactly xs (is_point_of class)
named_all class all byte xs named e exact c h =
    exact c h ∙ named.same c ∙ ap (λ n. (nat_lt c n && is_of class c) || in_ranges (ranges_beyond class) c) e

-- ranges were appended
pub pushed : {A E : Type 0} (test : ℕ → Bool) (result : Result A E) (old passing slice new : List (ℕ × ℕ)) → HasExactly passing test →
    slice ≡ passing → new ≡ (if is_ok result then old ++ slice else old) → OnOk result (AddsPoints test old new)
pushed test (Ok x) old passing slice new exact same is = adds_points test old passing new exact (is ∙ ap (λ xs. old ++ xs) same)
pushed test (Err e) old passing slice new exact same is = tt
