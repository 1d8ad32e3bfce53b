-- A set of code points in bytes, from its ranges in order.
use Rattle.std.proofs.Common.{◌≡◌, ℕ, ◌<◌, ◌≤◌, Bool, true, false, ◌&&◌, List, [], ◌∷◌, ◌++◌, refl, sym, ap, subst, ◌∙◌, inl, inr, arith, append-nil}
use Rattle.std.specs.Prelude.{nat_lt}
use Rattle.std.proofs.lemmas.Bool.{cases_lt}
use Rattle.std.proofs.lemmas.Bool.Decides.{nat_tests}
use Rattle.hs_base.specs.ByteSets.{bytes_where}
use Rattle.hs_base.specs.Trees.{Tree, class}
use Rattle.regex_class.specs.Ranges.{Range, in_ranges, HasExactly, IsBounds}
use Rattle.regex_class.proofs.RangesLemmas.{in_ranges-nil}
use Rattle.hs_utf8.specs.Members.{has_encoding, is_member}
use Rattle.hs_utf8.specs.Lowered.{ascii_end, is_ascii_member, AreAscii, nothing, something, alternatives, IsLoweredSet}
use Rattle.hs_utf8.specs.Steps.{AddsAllRuns, AddsAscii}
use Rattle.hs_utf8.proofs.ByteLemmas.{where-same}
use Rattle.hs_utf8.proofs.RangeLemmas.{and-false}
use Rattle.hs_utf8.proofs.RunLemmas.{runs-same}

-- ranges with the same code points have the same members
members-same : (rs ranges : List Range) → HasExactly rs (in_ranges ranges) → (c : ℕ) → is_member rs c ≡ is_member ranges c
members-same rs ranges same c = elim (cases_lt 0x10FFFF c) [
  | inl beyond ↦
      let none : has_encoding c ≡ false = grind (arith, nat_tests) in
      ap (λ b. b && in_ranges rs c) none ∙ sym (ap (λ b. b && in_ranges ranges c) none)
  | inr within ↦ ap (λ b. has_encoding c && b) (same c within)
]

ascii-same : (rs ranges : List Range) (trees : List Tree) → ((c : ℕ) → is_member rs c ≡ is_member ranges c) →
    AreAscii rs trees → AreAscii ranges trees
ascii-same rs ranges _ same (nothing none) = nothing (λ b. sym (ap (λ x. nat_lt b ascii_end && x) (same b)) ∙ none b)
ascii-same rs ranges _ same (something b is) =
    let tests : (d : ℕ) → is_ascii_member ranges d ≡ is_ascii_member rs d = λ d. ap (λ x. nat_lt d ascii_end && x) (sym (same d)) in
    subst (λ set. AreAscii ranges (class set ∷ [])) (where-same (is_ascii_member ranges) (is_ascii_member rs) tests)
    (something b (tests b ∙ is))

-- the class of ASCII, the runs, and the alternatives of them
pub set-lowered : (rs ranges : List Range) (middle all : List Tree) (tree : Tree) → HasExactly rs (in_ranges ranges) →
    AddsAscii rs [] middle → AddsAllRuns rs middle all → tree ≡ alternatives all → IsLoweredSet ranges tree
set-lowered rs ranges middle all tree exact ascii runs is =
    let same = members-same rs ranges exact in
    record {
      ascii = ascii.ascii;
      runs = runs.runs;
      are_ascii = ascii-same rs ranges ascii.ascii same ascii.are_ascii;
      are_runs = runs-same (is_member rs) (is_member ranges) ascii_end runs.runs (λ c low. same c) runs.are_runs;
      is = is ∙ ap alternatives (runs.is ∙ ap (λ ts. ts ++ runs.runs) ascii.is);
    }

no_ascii : (rs : List Range) (old : List Tree) → ((b : ℕ) → is_ascii_member rs b ≡ false) → AddsAscii rs old old
no_ascii rs old none = record { ascii = []; is = sym (append-nil old); are_ascii = nothing none }

pub ascii-none : (rs : List Range) (old : List Tree) → rs ≡ [] → AddsAscii rs old old
ascii-none rs old none =
    no_ascii rs old (λ b.
    ap (λ x. nat_lt b ascii_end && (has_encoding b && x)) (ap (λ ss. in_ranges ss b) none ∙ in_ranges-nil b)
    ∙ (ap (λ x. nat_lt b ascii_end && x) (and-false (has_encoding b)) ∙ and-false (nat_lt b ascii_end)))

pub ascii-above : (rs : List Range) (old : List Tree) (b : Range) → IsBounds rs b → ascii_end ≤ b.0 → AddsAscii rs old old
ascii-above rs old (least, greatest) bounds above = no_ascii rs old one
  where
    below : (b : ℕ) (here : Bool) → in_ranges rs b ≡ here → b < ascii_end → here ≡ false
    below b true is low = absurd (let least_one : least ≤ b = (bounds.between b is).0 in let no : ⊥ = omega arith in no)
    below b false is low = refl

    one : (b : ℕ) → is_ascii_member rs b ≡ false
    one b = elim (cases_lt b ascii_end) [
      | inl low ↦
          ap (λ x. nat_lt b ascii_end && (has_encoding b && x)) (below b (in_ranges rs b) refl low)
          ∙ (ap (λ x. nat_lt b ascii_end && x) (and-false (has_encoding b)) ∙ and-false (nat_lt b ascii_end))
      | inr high ↦
          let no : nat_lt b ascii_end ≡ false = grind (arith, nat_tests) in
          ap (λ x. x && is_member rs b) no
    ]

pub ascii-some : (rs : List Range) (old new : List Tree) (b : Range) → IsBounds rs b → b.0 < ascii_end →
    new ≡ old ++ class (bytes_where (is_ascii_member rs)) ∷ [] → AddsAscii rs old new
ascii-some rs old new (least, greatest) bounds low is = record {
  ascii = class (bytes_where (is_ascii_member rs)) ∷ [];
  is = is;
  are_ascii = something least (
      let first : nat_lt least ascii_end ≡ true = grind (arith, nat_tests) in
      let scalar : has_encoding least ≡ true = grind (arith, nat_tests) in
      ap (λ x. x && is_member rs least) first
      ∙ (ap (λ x. x && in_ranges rs least) scalar ∙ bounds.first)
      );
}

-- the test of ASCII, where the last byte was tested
pub ascii-test : (b n : ℕ) (x : Bool) → n ≡ ascii_end → (nat_lt b n && x) ≡ (nat_lt b ascii_end && (has_encoding b && x))
ascii-test b n x is = elim (cases_lt b ascii_end) [
  | inl low ↦
      let here : nat_lt b n ≡ true = grind (arith, nat_tests) in
      let there : nat_lt b ascii_end ≡ true = grind (arith, nat_tests) in
      let scalar : has_encoding b ≡ true = grind (arith, nat_tests) in
      ap (λ t. t && x) here ∙ sym (ap (λ t. t && (has_encoding b && x)) there ∙ ap (λ t. t && x) scalar)
  | inr high ↦
      let here : nat_lt b n ≡ false = grind (arith, nat_tests) in
      let there : nat_lt b ascii_end ≡ false = grind (arith, nat_tests) in
      ap (λ t. t && x) here ∙ sym (ap (λ t. t && (has_encoding b && x)) there)
]
