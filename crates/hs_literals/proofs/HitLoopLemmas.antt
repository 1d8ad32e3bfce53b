-- Ends that a loop adds, one by one, and all of a chunk.
use Rattle.std.proofs.Common.{◌≡◌, ◌↔◌, ◌⊎◌, ℕ, zero, suc, ◌+◌, ◌-◌, ◌<◌, ◌≤◌, Bool, true, false, ◌&&◌, ◌||◌, List, [], ◌∷◌, ◌++◌, length, get_or, Some, eqb, refl, sym, ap, subst, ◌∙◌, inl, inr, arith}
use Rattle.std.proofs.lemmas.Bool.{cases_eq, cases_lt, eq-eqb, eqb-true, false≢true}
use Rattle.std.specs.Prelude.{slice_get}
use Rattle.std.specs.Int.{bit_at, w8}
use Rattle.std.proofs.lemmas.Nat.Bits.{bit_at-zero, bit_at_not}
use Rattle.std.proofs.lemmas.Option.{slice_get_within, slice_get-get_or, same_Some}
use Rattle.hs_base.specs.Lists.{IsMember}
use Rattle.hs_base.specs.Literals.{LiteralByte}
use Rattle.hs_base.specs.LiteralEnds.{EndsAt}
use Rattle.hs_base.proofs.ListLemmas.{member-map, map-member}
use Rattle.hs_bits.specs.LowestBits.{IsLowestBit, AreBitsBehind}
use Rattle.hs_bits.proofs.LowestLemmas.{lowest-gone, others-stay}
use Rattle.hs_confirm.specs.BucketEnds.{IsBucketEnd, AreBucketEnds}
use Rattle.hs_literals.specs.Masking.{AreFew, HidesNone}
use Rattle.hs_literals.specs.Places.{NoneBetween}
use Rattle.hs_literals.specs.AllEnds.{pairs_of_place}
use Rattle.hs_literals.specs.HitTables.{HitTable, IsHit, IsBlank, TellsHits, AddsHit, AddsHits, IsHitAt, IsHitBut, IsHitInside, IsHitOf, IsHitUpTo, is_hit_at, has_hit}

-- Of the new ends some are added, and those of a list are left.
pub record StillAdds (IsNew : (number place : ℕ) → Type 0) (left : List (ℕ × ℕ)) (old now : HitTable) : Type 0 where
  pub count : now.count ≡ old.count
  pub each : (n p : ℕ) → IsMember (p, n) left → IsNew n p
  pub places : (n p : ℕ) → (IsNew n p ⊎ (is_hit_at old n p ≡ true)) ↔ (IsMember (p, n) left ⊎ (is_hit_at now n p ≡ true))
  pub numbers : (n : ℕ) → (((p : ℕ) × IsNew n p) ⊎ (has_hit old n ≡ true)) ↔ (((p : ℕ) × IsMember (p, n) left) ⊎ (has_hit now n ≡ true))

module _ (IsNew : (number place : ℕ) → Type 0) (old : HitTable) where
  pub adds-start : (left : List (ℕ × ℕ)) → ((n p : ℕ) → IsNew n p ↔ IsMember (p, n) left) → StillAdds IsNew left old old
  adds-start left are = record {
    count = refl;
    each = λ n p. (are n p).1;
    places = λ n p. ((λ was. elim was [ inl new ↦ inl ((are n p).0 new) | inr set ↦ inr set ]), (λ is. elim is [ inl member ↦ inl ((are n p).1 member) | inr set ↦ inr set ]));
    numbers = λ n. (
      (λ was. elim was [ inl new ↦ inl (new.0, (are n new.0).0 new.1) | inr set ↦ inr set ]),
      (λ is. elim is [ inl member ↦ inl (member.0, (are n member.0).1 member.1) | inr set ↦ inr set ]),
    );
  }

  pub adds-all : (left : List (ℕ × ℕ)) (now : HitTable) → StillAdds IsNew left old now → left ≡ [] → AddsHits old now IsNew
  adds-all left now adds none = let done : StillAdds IsNew [] old now = subst (λ l. StillAdds IsNew l old now) none adds in record {
    count = done.count;
    places = λ n p. ((λ set. (done.places n p).1 (inr set)), (λ was. elim ((done.places n p).0 was) [ inl member ↦ absurd member | inr set ↦ set ]));
    numbers = λ n. ((λ set. (done.numbers n).1 (inr set)), (λ was. elim ((done.numbers n).0 was) [ inl member ↦ absurd member.1 | inr set ↦ set ]));
  }

either-set : (a b : Bool) → (a || b) ≡ true → (a ≡ true) ⊎ (b ≡ true)
either-set true b is = inl refl
either-set false b is = inr is

both-set : (a b : Bool) → (a && b) ≡ true → (a ≡ true) × (b ≡ true)
both-set true b is = (refl, is)
both-set false b is = absurd (false≢true is)

first-set : (a b : Bool) → a ≡ true → (a || b) ≡ true
first-set a b is = ap (λ c. c || b) is

second-set : (a b : Bool) → b ≡ true → (a || b) ≡ true
second-set true b is = refl
second-set false b is = is

both-of : (a b : Bool) → a ≡ true → b ≡ true → (a && b) ≡ true
both-of a b is is' = ap (λ c. c && b) is ∙ is'

module _ (IsNew : (number place : ℕ) → Type 0) (old now new : HitTable) (left rest : List (ℕ × ℕ)) (place number : ℕ) (adds : StillAdds IsNew left old now) (next : left ≡ (place, number) ∷ rest) (one : AddsHit now new number place) where
  next-set : is_hit_at new number place ≡ true
  next-set = one.places number place ∙ first-set (eqb number number && eqb place place) (is_hit_at now number place) (both-of (eqb number number) (eqb place place) (eq-eqb number number refl) (eq-eqb place place refl))

  next-marked : has_hit new number ≡ true
  next-marked = one.numbers number ∙ first-set (eqb number number) (has_hit now number) (eq-eqb number number refl)

  own-place : (n p : ℕ) → ◌≡◌ {A = ℕ × ℕ} (p, n) (place, number) → is_hit_at new n p ≡ true
  own-place n p same = subst (λ x. is_hit_at new x.1 x.0 ≡ true) (sym same) next-set

  own-number : (n p : ℕ) → ◌≡◌ {A = ℕ × ℕ} (p, n) (place, number) → has_hit new n ≡ true
  own-number n p same = subst (λ x. has_hit new x.1 ≡ true) (sym same) next-marked

  here : StillAdds IsNew ((place, number) ∷ rest) old now
  here = subst (λ l. StillAdds IsNew l old now) next adds

  pub adds-next : StillAdds IsNew rest old new
  adds-next = record {
    count = one.count ∙ here.count;
    each = λ n p member. here.each n p (inr member);
    places = λ n p. (
      (λ was. elim ((here.places n p).0 was) [
        | inl member ↦ elim member [ inl own ↦ inr (own-place n p own) | inr later ↦ inl later ]
        | inr set ↦ inr (one.places n p ∙ second-set (eqb n number && eqb p place) (is_hit_at now n p) set)
      ]),
      (λ is. elim is [
        | inl later ↦ (here.places n p).1 (inl (inr later))
        | inr set ↦ elim (either-set (eqb n number && eqb p place) (is_hit_at now n p) (sym (one.places n p) ∙ set)) [
          | inl own ↦
              let both = both-set (eqb n number) (eqb p place) own in
              (here.places n p).1 (inl (inl (pair-same n p (eqb-true n number both.0) (eqb-true p place both.1))))
          | inr was ↦ (here.places n p).1 (inr was)
        ]
      ]),
    );
    numbers = λ n. (
      (λ was. elim ((here.numbers n).0 was) [
        | inl member ↦ elim member.1 [ inl own ↦ inr (own-number n member.0 own) | inr later ↦ inl (member.0, later) ]
        | inr set ↦ inr (one.numbers n ∙ second-set (eqb n number) (has_hit now n) set)
      ]),
      (λ is. elim is [
        | inl later ↦ (here.numbers n).1 (inl (later.0, inr later.1))
        | inr set ↦ elim (either-set (eqb n number) (has_hit now n) (sym (one.numbers n) ∙ set)) [
          | inl own ↦ (here.numbers n).1 (inl (place, inl (pair-same n place (eqb-true n number own) refl)))
          | inr was ↦ (here.numbers n).1 (inr was)
        ]
      ]),
    );
  } where
    pair-same : (n p : ℕ) → n ≡ number → p ≡ place → ◌≡◌ {A = ℕ × ℕ} (p, n) (place, number)
    pair-same n p own there = cc

-- what is added next is new
pub next-new : (IsNew : (number place : ℕ) → Type 0) (old now : HitTable) (left rest : List (ℕ × ℕ)) (place number : ℕ) → StillAdds IsNew left old now → left ≡ (place, number) ∷ rest → IsNew number place
next-new IsNew old now left rest place number adds next = adds.each number place (subst (IsMember (place, number)) (sym next) (inl refl))

-- The ends of one bucket at one place.
pub bucket-ends : (literals : List (List LiteralByte)) (buckets before bytes : List ℕ) (bucket place : ℕ) (numbers : List ℕ) → place ≤ length bytes → AreBucketEnds literals buckets bucket (before ++ bytes) (length before + place) numbers
    → (n p : ℕ) → IsHitOf literals buckets bucket before bytes place n p ↔ IsMember (p, n) (pairs_of_place place numbers)
bucket-ends literals buckets before bytes bucket place numbers within are n p = (
  (λ hit.
      let is = hit.1.1 in
      let ends : EndsAt is.literal (before ++ bytes) (length before + place) = subst (λ k. EndsAt is.literal (before ++ bytes) (length before + k)) hit.1.0 is.ends in
      let member : IsMember n numbers = (are.exact n).1 (record { literal = is.literal; numbered = is.numbered; filed = hit.0; ends = ends }) in
      subst (λ q. IsMember (q, n) (pairs_of_place place numbers)) (sym hit.1.0) (member-map (λ m. (place, m)) numbers n member)),
  (λ member.
      let from = map-member (λ m. (place, m)) numbers (p, n) member in
      let there : p ≡ place = ap (λ x. x.0) from.2 in
      let own : n ≡ from.0 = ap (λ x. x.1) from.2 in
      let is : IsBucketEnd literals buckets bucket (before ++ bytes) (length before + place) n = (are.exact n).0 (subst (λ m. IsMember m numbers) (sym own) from.1) in (
        is.filed,
        (
          there,
          record { literal = is.literal; numbered = is.numbered; within = omega (arith, there, within); ends = subst (λ k. EndsAt is.literal (before ++ bytes) (length before + k)) (sym there) is.ends },
        ),
      )),
)

pub bucket-none : (literals : List (List LiteralByte)) (buckets before bytes : List ℕ) (bucket place : ℕ) (table : HitTable) → place ≤ length bytes → AreBucketEnds literals buckets bucket (before ++ bytes) (length before + place) []
    → AddsHits table table (IsHitOf literals buckets bucket before bytes place)
bucket-none literals buckets before bytes bucket place table within are =
    let none : (n p : ℕ) → IsHitOf literals buckets bucket before bytes place n p ↔ IsMember {A = ℕ × ℕ} (p, n) [] = bucket-ends literals buckets before bytes bucket place [] within are in
    adds-all (IsHitOf literals buckets bucket before bytes place) table [] table (adds-start (IsHitOf literals buckets bucket before bytes place) table [] none) refl

-- a mask that leaves each bucket open
pub hides-nothing : (literals : List (List LiteralByte)) (buckets text : List ℕ) (offset : ℕ) → HidesNone 0 literals buckets text offset
hides-nothing literals buckets text offset number bucket literal numbered filed ends = bit_at-zero bucket

-- One place after the other.

pub adds-joined : (P Q R : (number place : ℕ) → Type 0) (old now new : HitTable) → AddsHits old now P → AddsHits now new Q → ((n p : ℕ) → R n p ↔ (P n p ⊎ Q n p)) → AddsHits old new R
adds-joined P Q R old now new first second are = record {
  count = second.count ∙ first.count;
  places = λ n p. (
    (λ set. elim ((second.places n p).0 set) [
      | inl later ↦ inl ((are n p).1 (inr later))
      | inr was ↦ elim ((first.places n p).0 was) [ inl one ↦ inl ((are n p).1 (inl one)) | inr before ↦ inr before ]
    ]),
    (λ is. elim is [
      | inl new ↦ elim ((are n p).0 new) [ inl one ↦ (second.places n p).1 (inr ((first.places n p).1 (inl one))) | inr later ↦ (second.places n p).1 (inl later) ]
      | inr before ↦ (second.places n p).1 (inr ((first.places n p).1 (inr before)))
    ]),
  );
  numbers = λ n. (
    (λ set. elim ((second.numbers n).0 set) [
      | inl later ↦ inl (later.0, (are n later.0).1 (inr later.1))
      | inr was ↦ elim ((first.numbers n).0 was) [ inl one ↦ inl (one.0, (are n one.0).1 (inl one.1)) | inr before ↦ inr before ]
    ]),
    (λ is. elim is [
      | inl new ↦ elim ((are n new.0).0 new.1) [ inl one ↦ (second.numbers n).1 (inr ((first.numbers n).1 (inl (new.0, one)))) | inr later ↦ (second.numbers n).1 (inl (new.0, later)) ]
      | inr before ↦ (second.numbers n).1 (inr ((first.numbers n).1 (inr before)))
    ]),
  );
}

adds-alike : (P R : (number place : ℕ) → Type 0) (old new : HitTable) → AddsHits old new P → ((n p : ℕ) → R n p ↔ P n p) → AddsHits old new R
adds-alike P R old new adds are = record {
  count = adds.count;
  places = λ n p. (
    (λ set. elim ((adds.places n p).0 set) [ inl one ↦ inl ((are n p).1 one) | inr before ↦ inr before ]),
    (λ is. elim is [ inl one ↦ (adds.places n p).1 (inl ((are n p).0 one)) | inr before ↦ (adds.places n p).1 (inr before) ]),
  );
  numbers = λ n. (
    (λ set. elim ((adds.numbers n).0 set) [ inl one ↦ inl (one.0, (are n one.0).1 one.1) | inr before ↦ inr before ]),
    (λ is. elim is [ inl one ↦ (adds.numbers n).1 (inl (one.0, (are n one.0).0 one.1)) | inr before ↦ (adds.numbers n).1 (inr before) ]),
  );
}

-- Bucket by bucket, at one place.

module _ (literals : List (List LiteralByte)) (buckets before bytes : List ℕ) (place : ℕ) (same : length buckets ≡ length literals) where
  -- the bucket of a literal that ends there
  filed-in : (n p : ℕ) (hit : IsHitAt literals before bytes place n p) → slice_get buckets n ≡ Some (get_or buckets n 0)
  filed-in n p hit = slice_get-get_or buckets n 0 (let below : n < length literals = slice_get_within literals n hit.1.literal hit.1.numbered in omega arith)

  -- a mask that hides none leaves the buckets of all open
  pub but-start : (mask left : ℕ) (table : HitTable) → AreFew buckets → mask < 256 → left ≡ 255 - mask → HidesNone mask literals buckets (before ++ bytes) (length before + place) → AddsHits table table (IsHitBut literals buckets left before bytes place)
  but-start mask left table few fits are hides =
      adds-all (IsHitBut literals buckets left before bytes place) table [] table (adds-start (IsHitBut literals buckets left before bytes place) table [] (λ n p. ((λ hit. absurd (hidden n p hit)), (λ member. absurd member)))) refl where
        hidden : (n p : ℕ) → IsHitBut literals buckets left before bytes place n p → ⊥
        hidden n p hit =
            let is = hit.1.1 in
            let bucket = get_or buckets n 0 in
            let filed = filed-in n p hit.1 in
            let ends : EndsAt is.literal (before ++ bytes) (length before + place) = subst (λ k. EndsAt is.literal (before ++ bytes) (length before + k)) hit.1.0 is.ends in
            let unmasked : bit_at mask bucket ≡ 0 = hides n bucket is.literal is.numbered filed ends in
            let closed : bit_at (255 - mask) bucket ≡ 0 = ap (λ m. bit_at m bucket) (sym are) ∙ hit.0 bucket filed in
            omega (arith, bit_at_not w8 mask bucket fits (few n bucket filed), unmasked, closed)

  -- one bucket more
  pub but-next : (left less bucket : ℕ) (old now new : HitTable) → IsLowestBit left bucket → AreBitsBehind left bucket less → AddsHits old now (IsHitBut literals buckets left before bytes place) → AddsHits now new (IsHitOf literals buckets bucket before bytes place)
      → AddsHits old new (IsHitBut literals buckets less before bytes place)
  but-next left less bucket old now new low behind first second =
      adds-joined (IsHitBut literals buckets left before bytes place) (IsHitOf literals buckets bucket before bytes place) (IsHitBut literals buckets less before bytes place) old now new first second (λ n p. (
        (λ hit. elim (cases_eq (get_or buckets n 0) bucket) [
          | inl own ↦ inr (filed-in n p hit.1 ∙ ap (λ b. Some b) own, hit.1)
          | inr apart ↦ inl ((λ b filed. sym (others-stay left bucket less low behind b (λ is. apart (same_Some (get_or buckets n 0) b (sym (filed-in n p hit.1) ∙ filed) ∙ is))) ∙ hit.0 b filed), hit.1)
        ]),
        (λ is. elim is [
          | inl hit ↦ ((λ b filed. others-stay left bucket less low behind b (λ own. zero_not_one (bit_at left bucket) (ap (bit_at left) (sym own) ∙ hit.0 b filed) low.is) ∙ hit.0 b filed), hit.1)
          | inr hit ↦ ((λ b filed. ap (bit_at less) (same_Some b bucket (sym filed ∙ hit.0)) ∙ lowest-gone left bucket less behind), hit.1)
        ]),
      )) where
        zero_not_one : (bit : ℕ) → bit ≡ 0 → bit ≡ 1 → ⊥
        zero_not_one bit none one = omega (arith, none, one)

  -- all of them
  pub but-all : (left : ℕ) (old now : HitTable) → left ≡ 0 → AddsHits old now (IsHitBut literals buckets left before bytes place) → AddsHits old now (IsHitAt literals before bytes place)
  but-all left old now none adds =
      adds-alike (IsHitBut literals buckets left before bytes place) (IsHitAt literals before bytes place) old now adds (λ n p. ((λ hit. ((λ b filed. ap (λ m. bit_at m b) none ∙ bit_at-zero b), hit)), (λ hit. hit.1)))

-- none so far
pub upto-start : (literals : List (List LiteralByte)) (before bytes : List ℕ) (table : HitTable) (at : ℕ) → at ≡ 0 → AddsHits table table (IsHitUpTo literals before bytes at)
upto-start literals before bytes table at start =
    adds-all (IsHitUpTo literals before bytes at) table [] table (adds-start (IsHitUpTo literals before bytes at) table [] (λ n p. ((λ hit. absurd (let low : 1 ≤ p = hit.1.0 in let high : p ≤ at = hit.0 in omega arith)), (λ member. absurd member)))) refl

-- those of one place more
pub upto-next : (literals : List (List LiteralByte)) (before bytes : List ℕ) (old now new : HitTable) (from to : ℕ) → from < to → NoneBetween literals before bytes from to → AddsHits old now (IsHitUpTo literals before bytes from) → AddsHits now new (IsHitAt literals before bytes to) → AddsHits old new (IsHitUpTo literals before bytes to)
upto-next literals before bytes old now new from to order none =
    λ first second.
    adds-joined (IsHitUpTo literals before bytes from) (IsHitAt literals before bytes to) (IsHitUpTo literals before bytes to) old now new first second (λ n p. (
      (λ hit. elim (cases_lt from p) [
        | inl above ↦ elim (cases_lt p to) [
          | inl below ↦ absurd (none p n hit.1.1.literal above below hit.1.1.numbered hit.1.1.ends)
          | inr at ↦ let high : p ≤ to = hit.0 in inr (omega arith, hit.1.1)
        ]
        | inr low ↦ inl (low, hit.1)
      ]),
      (λ is. elim is [
        | inl hit ↦ let high : p ≤ from = hit.0 in (omega arith, hit.1)
        | inr hit ↦ let at : p ≡ to = hit.0 in (omega arith, (omega arith, hit.1))
      ]),
    ))

-- all of them
pub upto-all : (literals : List (List LiteralByte)) (before bytes : List ℕ) (old new : HitTable) (from to : ℕ) → length bytes < to → NoneBetween literals before bytes from to → AddsHits old new (IsHitUpTo literals before bytes from) → AddsHits old new (IsHitInside literals before bytes)
upto-all literals before bytes old new from to past none adds =
    adds-alike (IsHitUpTo literals before bytes from) (IsHitInside literals before bytes) old new adds (λ n p. (
      (λ hit. elim (cases_lt from p) [
        | inl above ↦ let high : p ≤ length bytes = hit.1.within in absurd (none p n hit.1.literal above (omega arith) hit.1.numbered hit.1.ends)
        | inr low ↦ (low, hit)
      ]),
      (λ hit. hit.1),
    ))

positive : (p : ℕ) → (p ≡ 0 → ⊥) → 1 ≤ p
positive zero not_zero = absurd (not_zero refl)
positive (suc p) not_zero = omega arith

-- All ends of a chunk.
pub hits-told : (literals : List (List LiteralByte)) (before bytes : List ℕ) (old first new : HitTable) (count : ℕ) → IsBlank old count → AddsHits old first (IsHitAt literals before bytes 0) → AddsHits first new (IsHitInside literals before bytes) → TellsHits new literals before bytes
hits-told literals before bytes old first new count blank starts insides = record {
  places = λ n p. ((λ set. told n p ((insides.places n p).0 set)), (λ hit. (insides.places n p).1 (by_place n p hit)));
  numbers = λ n. ((λ set. told-number n ((insides.numbers n).0 set)), (λ hit. (insides.numbers n).1 (by_number n hit.0 hit.1)));
} where
  at-start : (n p : ℕ) → is_hit_at first n p ≡ true → IsHit literals before bytes n p
  at-start n p set = elim ((starts.places n p).0 set) [ inl hit ↦ hit.1 | inr was ↦ absurd (false≢true (sym (blank.nowhere n p) ∙ was)) ]

  told : (n p : ℕ) → IsHitInside literals before bytes n p ⊎ (is_hit_at first n p ≡ true) → IsHit literals before bytes n p
  told n p (inl hit) = hit.1
  told n p (inr set) = at-start n p set

  told-number : (n : ℕ) → ((p : ℕ) × IsHitInside literals before bytes n p) ⊎ (has_hit first n ≡ true) → (p : ℕ) × IsHit literals before bytes n p
  told-number n (inl hit) = (hit.0, hit.1.1)
  told-number n (inr set) = elim ((starts.numbers n).0 set) [ inl hit ↦ (hit.0, hit.1.1) | inr was ↦ absurd (false≢true (sym (blank.none n) ∙ was)) ]

  by_place : (n p : ℕ) → IsHit literals before bytes n p → IsHitInside literals before bytes n p ⊎ (is_hit_at first n p ≡ true)
  by_place n p hit = elim (cases_eq p 0) [ inl start ↦ inr ((starts.places n p).1 (inl (start, hit))) | inr later ↦ inl (positive p later, hit) ]

  by_number : (n p : ℕ) → IsHit literals before bytes n p → ((q : ℕ) × IsHitInside literals before bytes n q) ⊎ (has_hit first n ≡ true)
  by_number n p hit = elim (cases_eq p 0) [ inl start ↦ inr ((starts.numbers n).1 (inl (p, (start, hit)))) | inr later ↦ inl (p, (positive p later, hit)) ]
