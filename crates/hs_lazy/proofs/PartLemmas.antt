-- Regions in an image, and the bits of sets of members.
use Rattle.std.proofs.Common.{◌≡◌, ℕ, zero, suc, ◌+◌, ◌-◌, ◌<◌, ◌≤◌, false, List, [], ◌∷◌, ◌++◌, length, take, drop, Option, Some, None, slice_get, slice_range, get_or, refl, sym, ap, ◌∙◌, arith, length-append, length-drop}
use Rattle.std.proofs.lemmas.List.{length-take, length-take-le, get_or_past}
use Rattle.std.proofs.lemmas.Slice.{take-put_mid_below, drop-put_mid, between-put_mid, between_is}
use borrow.Rule.Slice.PartMut.{mid_of, put_mid}
use Rattle.hs_base.specs.Bits.{AreZero, has_word_bit}
use Rattle.hs_base.proofs.BitLemmas.{same-zero, zero-all}
use Rattle.hs_base.proofs.RegionLemmas.{get-range}
use Rattle.hs_bits.proofs.WordLemmas.{words-zero, unset-bits}
use Rattle.hs_lazy.specs.declared.parts.Member.{Member}
use Rattle.hs_lazy.specs.declared.parts.EndSet.{EndSet}
use Rattle.hs_lazy.specs.Images.{IsSameSets}
use Rattle.hs_lazy.specs.Parts.{AreMembersApart, IsBeside, before_of, behind_of, part, set_of}
use Rattle.hs_lazy.specs.Parts.IsBeside.{before_it, behind_it}

pub size-mid : (low high : ℕ) (xs : List ℕ) → low ≤ high → high ≤ length xs → length (mid_of low (high - low) xs) ≡ high - low
size-mid low high xs order within = length-take-le (high - low) (drop low xs) (omega (arith, length-drop low xs, order, within))

pub size-part : (image : List ℕ) (m : Member) → m.start ≤ m.end → m.end ≤ length image → length (part image m) ≡ m.end - m.start
size-part image m order within = size-mid m.start m.end image order within

pub part-here : (image bytes : List ℕ) (m : Member) → m.start ≤ m.end → m.end ≤ length image → length bytes ≡ m.end - m.start →
    part (put_mid m.start (m.end - m.start) image bytes) m ≡ bytes
part-here image bytes m order within long = between-put_mid m.start (m.end - m.start) image bytes m.end (omega (arith, order, within)) long

pub part-beside : (image bytes : List ℕ) (m other : Member) → m.start ≤ m.end → m.end ≤ length image → length bytes ≡ m.end - m.start →
    IsBeside m other → part (put_mid m.start (m.end - m.start) image bytes) other ≡ part image other
part-beside image bytes m other order within long (before_it below) =
    between_is (put_mid m.start (m.end - m.start) image bytes) other.start other.end ∙
    (ap (drop other.start) (take-put_mid_below m.start (m.end - m.start) image bytes other.end below (omega (arith, order, within))) ∙
    sym (between_is image other.start other.end))
part-beside image bytes m other order within long (behind_it above) =
    ap (λ (l : List ℕ). take (other.end - other.start) l) (drop-put_mid m.start (m.end - m.start) image bytes other.start (omega (arith, order, above)) (omega (arith, order, within)) long)

pub size-put : (image bytes : List ℕ) (m : Member) → m.start ≤ m.end → m.end ≤ length image → length bytes ≡ m.end - m.start →
    length (put_mid m.start (m.end - m.start) image bytes) ≡ length image
size-put image bytes m order within long = omega (
  arith,
  length-append (take m.start image) (bytes ++ drop (m.end - m.start) (drop m.start image)),
  length-append bytes (drop (m.end - m.start) (drop m.start image)),
  length-take-le m.start image (omega (arith, order, within)),
  length-drop (m.end - m.start) (drop m.start image),
  length-drop m.start image,
  order,
  within,
  long,
)

-- a range of a list that is zero
pub size-range : (xs : List ℕ) (a b i : ℕ) → i < length (slice_range xs a b) → i < b - a
size-range xs a b i low = omega (arith, low, length-take (b - a) (drop a xs))

pub zero-range : (xs : List ℕ) (a b : ℕ) → AreZero xs → AreZero (slice_range xs a b)
zero-range xs a b zeros i low = get-range xs a b i (size-range xs a b i low) ∙ zero-all xs zeros (a + i)

pub same-range : (xs ys : List ℕ) (a b : ℕ) → length xs ≡ length ys → length (slice_range xs a b) ≡ length (slice_range ys a b)
same-range xs ys a b same = omega (arith, same, length-take (b - a) (drop a xs), length-take (b - a) (drop a ys), length-drop a xs, length-drop a ys)

-- the regions of a member in two images in which it has nothing live
pub same-parts : (image other : List ℕ) (m : Member) → length image ≡ length other → AreZero (part image m) → AreZero (part other m) → part image m ≡ part other m
same-parts image other m long none none' =
    same-zero (part image m) (part other m) (same-range image other m.start m.end long) none none'

-- two members lie one before the other
pub beside : (members : List Member) (j k : ℕ) (a b : Member) → AreMembersApart members → slice_get members j ≡ Some a → slice_get members k ≡ Some b →
    j < k → IsBeside b a
beside members j k a b apart is-a is-b less = before_it (apart.in_turn j k a b less is-a is-b)

pub beside-back : (members : List Member) (j k : ℕ) (a b : Member) → AreMembersApart members → slice_get members j ≡ Some a → slice_get members k ≡ Some b →
    j < k → IsBeside a b
beside-back members j k a b apart is-a is-b less = behind_it (apart.in_turn j k a b less is-a is-b)

abbrev four : List ℕ
four = 0 ∷ 0 ∷ 0 ∷ 0 ∷ []

four-zeros : (i : ℕ) → get_or four i 0 ≡ 0
four-zeros zero = refl
four-zeros (suc zero) = refl
four-zeros (suc (suc zero)) = refl
four-zeros (suc (suc (suc zero))) = refl
four-zeros (suc (suc (suc (suc i)))) = get_or_past four (suc (suc (suc (suc i)))) 0 (omega arith)

pub four-unset : (k : ℕ) → has_word_bit four k ≡ false
four-unset k = words-zero four four-zeros k

abbrev pub eight : List ℕ
eight = 0 ∷ 0 ∷ 0 ∷ 0 ∷ 0 ∷ 0 ∷ 0 ∷ 0 ∷ []

eight-zeros : (i : ℕ) → get_or eight i 0 ≡ 0
eight-zeros zero = refl
eight-zeros (suc zero) = refl
eight-zeros (suc (suc zero)) = refl
eight-zeros (suc (suc (suc zero))) = refl
eight-zeros (suc (suc (suc (suc i)))) = four-zeros i

pub eight-unset : (k : ℕ) → has_word_bit eight k ≡ false
eight-unset k = words-zero eight eight-zeros k

abbrev pub nowhere : EndSet
nowhere = record { before = four; behind = four }

pub none-same : (kept : Option EndSet) → kept ≡ None → IsSameSets kept nowhere
none-same kept none = record {
  before = λ k. ap (λ s. before_of s k) none ∙ sym (four-unset k);
  behind = λ k. ap (λ s. behind_of s k) none ∙ sym (four-unset k);
}

pub some-same : (kept : Option EndSet) (set : EndSet) → kept ≡ Some set → IsSameSets kept set
some-same kept set some = record {
  before = λ k. ap (λ s. before_of s k) some;
  behind = λ k. ap (λ s. behind_of s k) some;
}

pub unset-same : (kept : Option EndSet) (set : EndSet) → kept ≡ None → AreZero set.before → AreZero set.behind → IsSameSets kept set
unset-same kept set none before behind = record {
  before = λ k. ap (λ s. before_of s k) none ∙ sym (unset-bits set.before before k);
  behind = λ k. ap (λ s. behind_of s k) none ∙ sym (unset-bits set.behind behind k);
}

pub set-by : (sets : List EndSet) (n i : ℕ) → n ≡ suc i → set_of sets n ≡ slice_get sets i
set-by sets n i is = ap (set_of sets) is

pub set-zero : (sets : List EndSet) (n : ℕ) → n ≡ 0 → set_of sets n ≡ None
set-zero sets n is = ap (set_of sets) is
