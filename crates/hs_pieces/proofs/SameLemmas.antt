-- Lists and trees that are equal.
use Rattle.std.proofs.Common.{◌≡◌, ◌↔◌, ℕ, zero, suc, ◌+◌, ◌-◌, ◌*◌, ◌/◌, ◌%◌, ◌^◌, ◌<◌, ◌≤◌, Bool, IsTrue, List, [], ◌∷◌, length, map, take, slice_get, get_or, eqb, Some, refl, sym, ap, subst, ◌∙◌, inl, inr, arith}
use Rattle.std.specs.Int.{bit_at}
use Rattle.std.proofs.lemmas.Bool.{cases_lt, false≢true}
use Rattle.std.proofs.lemmas.Nat.Bits.{bit_at-lt, same_from_bits_below}
use Rattle.std.proofs.lemmas.List.{take_all, take_more_same, get_or-map, length-map}
use Rattle.std.proofs.lemmas.Option.{slice_get_within, get_or_from_slice_get}
use Rattle.hs_base.specs.declared.byte_set.ByteSet.{ByteSet}
use Rattle.hs_base.specs.Bits.{has_word_bit}
use Rattle.hs_base.specs.ByteSets.{has, members}
use Rattle.hs_base.specs.Trees.{Tree, cat, alt, trees_of}
use Rattle.hs_base.proofs.ByteSetLemmas.{members-at}
use Rattle.hs_base.proofs.LiteralLemmas.{members-where}

pub trees-same : (xs ys : List Tree) → trees_of xs ≡ trees_of ys → xs ≡ ys
trees-same [] [] e = refl
trees-same [] (y ∷ ys) e = absurd (cc)
trees-same (x ∷ xs) [] e = absurd (cc)
trees-same (x ∷ xs) (y ∷ ys) e =
    let h : x ≡ y = cc in
    let t : trees_of xs ≡ trees_of ys = cc in
    ap (λ z. z ∷ xs) h ∙ ap (λ zs. y ∷ zs) (trees-same xs ys t)

-- two mapped lists are equal as far as one more member
pub same-more : {A B : Type 0} (f : A → B) (xs ys : List A) (k : ℕ) (x y : A) → k < length xs → k < length ys → x ≡ get_or xs k x → y ≡ get_or ys k y →
    take k (map f xs) ≡ take k (map f ys) → f x ≡ f y → take (k + 1) (map f xs) ≡ take (k + 1) (map f ys)
same-more f xs ys k x y below below' is is' same one =
    take_more_same (map f xs) (map f ys) k (f x) (omega (arith, below, length-map xs f)) (omega (arith, below', length-map ys f)) same
    (get_or-map f xs k x (f x) below ∙ ap f (sym is) ∙ one ∙ ap f is' ∙ sym (get_or-map f ys k y (f x) below'))

-- as far as all
pub same-all : {A B : Type 0} (f : A → B) (xs ys : List A) (k : ℕ) → length xs ≤ k → length ys ≤ k → take k (map f xs) ≡ take k (map f ys) → map f xs ≡ map f ys
same-all f xs ys k long long' same =
    sym (take_all k (map f xs) (omega (arith, length-map xs f))) ∙ same ∙ take_all k (map f ys) (omega (arith, length-map ys f))

-- equal mapped lists have equal members and one length
pub same-at : {A B : Type 0} (f : A → B) (xs ys : List A) (k : ℕ) (x y : A) → k < length xs → k < length ys → x ≡ get_or xs k x → y ≡ get_or ys k y →
    map f xs ≡ map f ys → f x ≡ f y
same-at f xs ys k x y below below' is is' same =
    ap f is ∙ sym (get_or-map f xs k x (f x) below) ∙ ap (λ zs. get_or zs k (f x)) same ∙ get_or-map f ys k y (f x) below' ∙ ap f (sym is')

pub same-length : {A B : Type 0} (f : A → B) (xs ys : List A) → map f xs ≡ map f ys → length xs ≡ length ys
same-length f xs ys same = sym (length-map xs f) ∙ ap (λ zs. length zs) same ∙ length-map ys f

-- two lists are equal as far as one more member
pub same-next : {A : Type 0} (xs ys : List A) (k : ℕ) (x y : A) → slice_get xs k ≡ Some x → slice_get ys k ≡ Some y → take k xs ≡ take k ys → x ≡ y → take (k + 1) xs ≡ take (k + 1) ys
same-next xs ys k x y at at' same one =
    take_more_same xs ys k x (slice_get_within xs k x at) (slice_get_within ys k y at') same
    (get_or_from_slice_get xs k x x at ∙ one ∙ sym (get_or_from_slice_get ys k y x at'))

pub same-whole : {A : Type 0} (xs ys : List A) (k : ℕ) → length xs ≤ k → length ys ≤ k → take k xs ≡ take k ys → xs ≡ ys
same-whole xs ys k long long' same = sym (take_all k xs long) ∙ same ∙ take_all k ys long'

pub same-there : {A : Type 0} (xs ys : List A) (k : ℕ) (x y : A) → slice_get xs k ≡ Some x → slice_get ys k ≡ Some y → xs ≡ ys → x ≡ y
same-there xs ys k x y at at' same = let e : Some x ≡ Some y = sym at ∙ ap (λ zs. slice_get zs k) same ∙ at' in cc

-- sets with the same members
pub sets-same : (s t : ByteSet) → ((b : ℕ) → b < 256 → has s b ≡ has t b) → members s ≡ members t
sets-same s t same = members-where s (has t) same ∙ sym (members-where t (has t) (λ b below. refl))

pub member-same : (s t : ByteSet) (b : ℕ) → b < 256 → members s ≡ members t → has s b ≡ has t b
member-same s t b below same =
    let e : Some (has s b) ≡ Some (has t b) = sym (members-at s b below) ∙ ap (λ ms. slice_get ms b) same ∙ members-at t b below in
    cc

-- the bits of a word of a set tell of its members
bit-member : (s : ByteSet) (words : List ℕ) (k i : ℕ) → ((b : ℕ) → has_word_bit words b ≡ has s b) → i < 64 → eqb (bit_at (get_or words k 0) i) 1 ≡ has s (64 * k + i)
unfolding has_word_bit
bit-member s words k i is below =
    let own : (64 * k + i) / 64 ≡ k = omega arith in
    let at : (64 * k + i) % 64 ≡ i = omega arith in
    subst (λ n. eqb (bit_at (get_or words n 0) i) 1 ≡ has s (64 * k + i)) own (subst (λ n. eqb (bit_at (get_or words ((64 * k + i) / 64) 0) n) 1 ≡ has s (64 * k + i)) at (is (64 * k + i)))

-- sets with the same members have the same words, bit by bit
pub word-same : (s t : ByteSet) (xs ys : List ℕ) (k : ℕ) → ((b : ℕ) → has_word_bit xs b ≡ has s b) → ((b : ℕ) → has_word_bit ys b ≡ has t b) → k < 4 → members s ≡ members t →
    (i : ℕ) → i < 64 → eqb (bit_at (get_or xs k 0) i) 1 ≡ eqb (bit_at (get_or ys k 0) i) 1
word-same s t xs ys k is is' within same i below = bit-member s xs k i is below ∙ member-same s t (64 * k + i) (omega arith) same ∙ sym (bit-member t ys k i is' below)

-- sets agree on the members of one word more
pub words-more : (s t : ByteSet) (xs ys : List ℕ) (k : ℕ) → ((b : ℕ) → has_word_bit xs b ≡ has s b) → ((b : ℕ) → has_word_bit ys b ≡ has t b) → ((b : ℕ) → b < 64 * k → has s b ≡ has t b) →
    ((i : ℕ) → i < 64 → eqb (bit_at (get_or xs k 0) i) 1 ≡ eqb (bit_at (get_or ys k 0) i) 1) → (b : ℕ) → b < 64 * (k + 1) → has s b ≡ has t b
words-more s t xs ys k is is' before word b below =
    elim (cases_lt b (64 * k)) [
      | inl lower ↦ before b lower
      | inr higher ↦
          let i : b - 64 * k < 64 = omega arith in
          let whole : 64 * k + (b - 64 * k) ≡ b = omega arith in
          subst (λ n. has s n ≡ has t n) whole (sym (bit-member s xs k (b - 64 * k) is i) ∙ word (b - 64 * k) i ∙ bit-member t ys k (b - 64 * k) is' i)
    ]

digit-same : (m n : ℕ) → m < 2 → n < 2 → eqb m 1 ≡ eqb n 1 → m ≡ n
digit-same zero zero below below' e = refl
digit-same zero (suc zero) below below' e = absurd (false≢true e)
digit-same (suc zero) zero below below' e = absurd (false≢true (sym e))
digit-same (suc zero) (suc zero) below below' e = refl
digit-same (suc (suc m)) n below below' e = absurd (omega arith)
digit-same m (suc (suc n)) below below' e = absurd (omega arith)

-- words with the same bits
pub bits-same : (x y : ℕ) → x < 2 ^ 64 → y < 2 ^ 64 → ((i : ℕ) → i < 64 → eqb (bit_at x i) 1 ≡ eqb (bit_at y i) 1) → x ≡ y
bits-same x y below below' same = same_from_bits_below 64 x y below below' (λ i within. digit-same (bit_at x i) (bit_at y i) (bit_at-lt x i) (bit_at-lt y i) (same i within))

-- lists of trees as one tree
pub cat-agree : (r : Bool) (xs ys : List Tree) → (IsTrue r ↔ (xs ≡ ys)) → IsTrue r ↔ (cat (trees_of xs) ≡ cat (trees_of ys))
cat-agree r xs ys both = (λ is. ap (λ zs. cat (trees_of zs)) (both.0 is), λ e. both.1 (trees-same xs ys (let t : trees_of xs ≡ trees_of ys = cc in t)))

pub alt-agree : (r : Bool) (xs ys : List Tree) → (IsTrue r ↔ (xs ≡ ys)) → IsTrue r ↔ (alt (trees_of xs) ≡ alt (trees_of ys))
alt-agree r xs ys both = (λ is. ap (λ zs. alt (trees_of zs)) (both.0 is), λ e. both.1 (trees-same xs ys (let t : trees_of xs ≡ trees_of ys = cc in t)))

pub agree-along : (r : Bool) (s t s' t' : Tree) → s ≡ s' → t ≡ t' → (IsTrue r ↔ (s' ≡ t')) → IsTrue r ↔ (s ≡ t)
agree-along r s t s' t' e e' both = (λ is. e ∙ both.0 is ∙ sym e', λ same. both.1 (sym e ∙ same ∙ e'))
