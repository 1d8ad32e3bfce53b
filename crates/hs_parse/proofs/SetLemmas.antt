-- Sets of the bytes that pass a test.
use Rattle.std.proofs.Common.{◌≡◌, ℕ, zero, suc, ◌+◌, ◌-◌, ◌^◌, ◌/◌, ◌%◌, ◌<◌, Bool, true, false, not, ◌||◌, List, [], ◌∷◌, ◌++◌, map, eqb, refl, sym, ap, ◌∙◌, arith}
use Rattle.std.specs.Prelude.{if◌then◌else◌}
use Rattle.std.specs.List.{range_with_len, list_any}
use Rattle.std.specs.Int.{bit_at}
use Rattle.std.proofs.lemmas.Nat.Bits.{bit_at-zero}
use Rattle.hs_base.specs.declared.byte_set.ByteSet.{ByteSet}
use Rattle.hs_base.specs.ByteSets.{has, members, bytes_where}
use Rattle.hs_base.proofs.ByteSetLemmas.{word_at}
use Rattle.hs_syntax.specs.declared.mode.Mode.{Mode}
use Rattle.hs_parse.specs.declared.item.Item.TheVariants as item
use Rattle.hs_parse.specs.declared.set.Test.{Test}
use Rattle.hs_parse.specs.Classes.{passes, bytes_of, item_at, nothing, class_of}
use Rattle.hs_parse.specs.Tokens.{any_byte}
use Rattle.hs_parse.specs.Reading.{HasItems}
use Rattle.hs_parse.proofs.ClassLemmas.{items_last, any_last}

-- tests that agree on a range give one list
same_on_range :
    (f g : ℕ → Bool) (n a : ℕ) →
    ((b : ℕ) → b < a + n → f b ≡ g b) → map f (range_with_len a n) ≡ map g (range_with_len a n)
same_on_range f g zero a same = refl
same_on_range f g (suc n) a same =
    let first = same a (omega arith) in
    let rest = same_on_range f g n (a + 1) (λ b h. same b (omega (arith, h))) in
    cc (first, rest)

-- the set of the bytes that pass a test
pub members-where : (s : ByteSet) (test : ℕ → Bool) → ((b : ℕ) → b < 256 → has s b ≡ test b) → members s ≡ bytes_where test
unfolding members
members-where s test same = same_on_range (has s) test 256 0 same

-- the set of every byte
pub members-all :
    members (record { words = (2 ^ 64 - 1) ∷ (2 ^ 64 - 1) ∷ (2 ^ 64 - 1) ∷ (2 ^ 64 - 1) ∷ [] }) ≡ any_byte true
unfolding has members any_byte
members-all = refl

-- the set of every byte but the line feed
pub members-not_newline :
    members (record { words = (2 ^ 64 - 1 - 2 ^ 10) ∷ (2 ^ 64 - 1) ∷ (2 ^ 64 - 1) ∷ (2 ^ 64 - 1) ∷ [] }) ≡ any_byte false
unfolding has members any_byte
members-not_newline = refl

-- the set of a class
pub members-class :
    (s whole : ByteSet) (negated : Bool) (tests : List Test) →
    ((b : ℕ) → b < 256 → has s b ≡ list_any (λ (t : Test). passes t b) tests) →
    ((b : ℕ) → b < 256 → has whole b ≡ (if negated then not (has s b) else has s b)) →
    members whole ≡ class_of negated tests
unfolding members class_of
members-class s whole negated tests items all =
    same_on_range (has whole)
    (λ b. if negated then not (list_any (λ (t : Test). passes t b) tests) else list_any (λ (t : Test). passes t b) tests) 256 0
    (λ b h. all b h ∙ ap (λ x. if negated then not x else x) (items b h))

-- no byte is in the empty set
pub no_member : (b : ℕ) → b < 256 → has (record { words = 0 ∷ 0 ∷ 0 ∷ 0 ∷ [] }) b ≡ false
unfolding has
no_member b h =
    ap (λ n. eqb (bit_at n (b % 64)) 1) (word_at (λ _. 0) (b / 64) (omega arith)) ∙ ap (λ n. eqb n 1) (bit_at-zero (b % 64))

or_nothing : (a b : Bool) → b ≡ false → (a || b) ≡ a
or_nothing true b e = refl
or_nothing false b e = e

-- the bytes that pass a test, in a set that was empty
pub members-inserted :
    (s empty : ByteSet) (test : Test) → ((b : ℕ) → b < 256 → has empty b ≡ false) →
    ((b : ℕ) → b < 256 → has s b ≡ (passes test b || has empty b)) → members s ≡ bytes_of test
unfolding bytes_of
members-inserted s empty test none added =
    members-where s (passes test) (λ b h. added b h ∙ or_nothing (passes test b) (has empty b) (none b h))

-- no item is read yet
pub no_items :
    (text : List ℕ) (mode : Mode) (start : ℕ) →
    HasItems text mode start (record { words = 0 ∷ 0 ∷ 0 ∷ 0 ∷ [] }) start
no_items text mode start = record { tests = []; items = nothing; same = no_member }

-- one item more
pub more_items :
    (text : List ℕ) (mode : Mode) (start here end : ℕ) (test : Test) (old new : ByteSet) →
    HasItems text mode start old here → item_at text mode start here ≡ item.Bytes test end →
    ((b : ℕ) → b < 256 → has new b ≡ (passes test b || has old b)) →
    HasItems text mode start new end
more_items text mode start here end test old new before e added = record {
  tests = before.tests ++ test ∷ [];
  items = items_last before.items e;
  same = λ b h.
      added b h
      ∙ ap (λ x. passes test b || x) (before.same b h)
      ∙ sym (any_last (λ (t : Test). passes t b) before.tests test);
}
