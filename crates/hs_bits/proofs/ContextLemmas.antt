-- The words of contexts.
use Rattle.std.proofs.Common.{◌≡◌, ◌↔◌, ℕ, zero, suc, ◌+◌, ◌<◌, ◌≤◌, Bool, true, false, nat_lt, ◌&&◌, ◌||◌, List, ◌++◌, length, get_or, take, eqb, refl, sym, ap, subst, ◌∙◌, inl, inr, arith, bit_or, bit_and}
use Rattle.std.proofs.lemmas.Bool.{cases_lt}
use Rattle.std.proofs.lemmas.List.{append-nil}
use Rattle.std.proofs.lemmas.Nat.Bits.{bit_at_ones}
use Rattle.hs_base.specs.declared.context.Mask.{Mask}
use Rattle.hs_base.specs.declared.context.Next.{Next}
use Rattle.hs_base.specs.declared.context.Next.TheVariants as after
use Rattle.hs_base.specs.declared.context.NextSet.{NextSet}
use Rattle.hs_base.specs.declared.context.Prev.{Prev}
use Rattle.hs_base.specs.declared.context.Prev.TheVariants as behind
use Rattle.hs_base.specs.Assertions.{line_feed, is_word_byte}
use Rattle.hs_base.specs.Contexts.{class_of, context_of, next_by, next_number, prev_at, prev_by, prev_number}
use Rattle.hs_base.specs.ContextSets.{has_context, has_next}
use Rattle.hs_bits.proofs.WordLemmas.{and-none, or-none, none-under_alone, number-more_alone}
use Rattle.hs_bits.specs.declared.contexts.Contexts.{Contexts}
use Rattle.hs_bits.specs.declared.contexts.Classes.{Classes}
use Rattle.hs_bits.specs.WordBits.{word_bit, one_later, Marks}
use Rattle.hs_bits.specs.BlockContexts.{is_class, AreClasses, class_word, AreContexts, prev_before, is_part, HasContextBefore, HasContextBehind, context_before, context_behind}
use Rattle.hs_bits.proofs.BlockLemmas.{prev-next}
use Rattle.hs_bits.proofs.PlaceLemmas.{bit-none, bit-both, bit-either, less-is, not-less}

-- one of three classes holds

picks-class : (line word : Bool) (x : Next → Bool) →
    ((eqb (next_number (next_by line word false)) 0 && x after.Word) || ((eqb (next_number (next_by line word false)) 1 && x after.Newline) || (eqb (next_number (next_by line word false)) 2 && x after.Other)))
    ≡ x (next_by line word false)
picks-class true true x = or-none (x after.Newline)
picks-class true false x = or-none (x after.Newline)
picks-class false true x = or-none (x after.Word)
picks-class false false x = refl

picks-behind : (line word : Bool) (x : Prev → Bool) →
    ((eqb (next_number (next_by line word false)) 0 && x behind.Word) || ((eqb (next_number (next_by line word false)) 1 && x behind.Newline) || (eqb (next_number (next_by line word false)) 2 && x behind.Other)))
    ≡ x (prev_by line word)
picks-behind true true x = or-none (x behind.Newline)
picks-behind true false x = or-none (x behind.Newline)
picks-behind false true x = or-none (x behind.Word)
picks-behind false false x = refl

picks-prev : (prev : Prev) (x : Prev → Bool) →
    ((eqb (prev_number prev) 0 && x behind.Start) || ((eqb (prev_number prev) 1 && x behind.Word) || ((eqb (prev_number prev) 2 && x behind.Newline) || (eqb (prev_number prev) 3 && x behind.Other))))
    ≡ x prev
picks-prev behind.Start x = or-none (x behind.Start)
picks-prev behind.Word x = or-none (x behind.Word)
picks-prev behind.Newline x = or-none (x behind.Newline)
picks-prev behind.Other x = refl

same-three : (a b c a' b' c' x y z : Bool) → a ≡ a' → b ≡ b' → c ≡ c' → ((a && x) || ((b && y) || (c && z))) ≡ ((a' && x) || ((b' && y) || (c' && z)))
same-three a b c a' b' c' x y z p q r =
    ap (λ t. (t && x) || ((b && y) || (c && z))) p ∙ (ap (λ t. (a' && x) || ((t && y) || (c && z))) q ∙ ap (λ t. (a' && x) || ((b' && y) || (t && z))) r)

-- below the count a bit tells the class, and from there on nothing
class-below : (n i : ℕ) (bit test : Bool) → bit ≡ (nat_lt i n && test) → i < n → bit ≡ test
class-below n i bit test is below = is ∙ ap (λ t. t && test) (less-is i n below)

class-above : (n i : ℕ) (bit test : Bool) → bit ≡ (nat_lt i n && test) → n ≤ i → bit ≡ false
class-above n i bit test is above = is ∙ ap (λ t. t && test) (not-less i n above)

pub among-below : (classes : Classes) (bytes : List ℕ) (n i : ℕ) (x : Next → Bool) → AreClasses classes bytes n → i < n →
    ((word_bit classes.words i && x after.Word) || ((word_bit classes.newlines i && x after.Newline) || (word_bit classes.others i && x after.Other))) ≡ x (class_of (get_or bytes i 0))
among-below classes bytes n i x are below =
    same-three (word_bit classes.words i) (word_bit classes.newlines i) (word_bit classes.others i) (is_class after.Word bytes i) (is_class after.Newline bytes i) (is_class after.Other bytes i)
    (x after.Word) (x after.Newline) (x after.Other)
    (class-below n i (word_bit classes.words i) (is_class after.Word bytes i) (are.words i) below)
    (class-below n i (word_bit classes.newlines i) (is_class after.Newline bytes i) (are.newlines i) below)
    (class-below n i (word_bit classes.others i) (is_class after.Other bytes i) (are.others i) below)
    ∙ picks-class (eqb (get_or bytes i 0) line_feed) (is_word_byte (get_or bytes i 0)) x

among-above : (classes : Classes) (bytes : List ℕ) (n i : ℕ) (x y z : Bool) → AreClasses classes bytes n → n ≤ i →
    ((word_bit classes.words i && x) || ((word_bit classes.newlines i && y) || (word_bit classes.others i && z))) ≡ false
among-above classes bytes n i x y z are above =
    same-three (word_bit classes.words i) (word_bit classes.newlines i) (word_bit classes.others i) false false false x y z
    (class-above n i (word_bit classes.words i) (is_class after.Word bytes i) (are.words i) above)
    (class-above n i (word_bit classes.newlines i) (is_class after.Newline bytes i) (are.newlines i) above)
    (class-above n i (word_bit classes.others i) (is_class after.Other bytes i) (are.others i) above)

-- what stands before a place

start-no : (line word : Bool) → eqb (prev_number (prev_by line word)) 0 ≡ false
start-no true word = refl
start-no false true = refl
start-no false false = refl

word-same : (line word : Bool) → eqb (next_number (next_by line word false)) 0 ≡ eqb (prev_number (prev_by line word)) 1
word-same true word = refl
word-same false true = refl
word-same false false = refl

newline-same : (line word : Bool) → eqb (next_number (next_by line word false)) 1 ≡ eqb (prev_number (prev_by line word)) 2
newline-same true word = refl
newline-same false true = refl
newline-same false false = refl

other-same : (line word : Bool) → eqb (next_number (next_by line word false)) 2 ≡ eqb (prev_number (prev_by line word)) 3
other-same true word = refl
other-same false true = refl
other-same false false = refl

class-behind : (classes : Classes) (bytes : List ℕ) (n j : ℕ) (prev : Prev) → AreClasses classes bytes n → j < n →
    word_bit (class_word classes prev) j ≡ eqb (prev_number (prev_by (eqb (get_or bytes j 0) line_feed) (is_word_byte (get_or bytes j 0)))) (prev_number prev)
class-behind classes bytes n j behind.Start are below = bit-none j ∙ sym (start-no (eqb (get_or bytes j 0) line_feed) (is_word_byte (get_or bytes j 0)))
class-behind classes bytes n j behind.Word are below =
    class-below n j (word_bit classes.words j) (is_class after.Word bytes j) (are.words j) below ∙ word-same (eqb (get_or bytes j 0) line_feed) (is_word_byte (get_or bytes j 0))
class-behind classes bytes n j behind.Newline are below =
    class-below n j (word_bit classes.newlines j) (is_class after.Newline bytes j) (are.newlines j) below ∙ newline-same (eqb (get_or bytes j 0) line_feed) (is_word_byte (get_or bytes j 0))
class-behind classes bytes n j behind.Other are below =
    class-below n j (word_bit classes.others j) (is_class after.Other bytes j) (are.others j) below ∙ other-same (eqb (get_or bytes j 0) line_feed) (is_word_byte (get_or bytes j 0))

pub prev-bit : (contexts : Contexts) (first prev : Prev) (bytes : List ℕ) (i : ℕ) → AreContexts contexts first bytes → i < length bytes →
    one_later (eqb (prev_number contexts.prev) (prev_number prev)) (word_bit (class_word contexts.classes prev)) i ≡ eqb (prev_number (prev_before first bytes i)) (prev_number prev)
prev-bit contexts first prev bytes zero are below = ap (λ p. eqb (prev_number p) (prev_number prev)) are.prev_is
prev-bit contexts first prev bytes (suc j) are below = class-behind contexts.classes bytes (length bytes) j prev are.classes (omega arith)

-- the part of a mask that belongs to one that stands before
pub part-bit : (contexts : Contexts) (mask : Mask) (first prev : Prev) (bytes : List ℕ) (places among : ℕ) (set : NextSet) → AreContexts contexts first bytes →
    ((i : ℕ) → i < 64 → word_bit places i ≡ one_later (eqb (prev_number contexts.prev) (prev_number prev)) (word_bit (class_word contexts.classes prev)) i) →
    ((i : ℕ) → word_bit among i ≡ ((word_bit contexts.classes.words i && has_next set after.Word) || ((word_bit contexts.classes.newlines i && has_next set after.Newline) || (word_bit contexts.classes.others i && has_next set after.Other)))) →
    ((next : Next) → has_next set next ≡ has_context mask (record { prev = prev; next = next })) → (i : ℕ) → word_bit (bit_and places among) i ≡ is_part mask prev first bytes i
part-bit contexts mask first prev bytes places among set are places_are among_is row i =
    let n : ℕ = length bytes in
    let next : Next = class_of (get_or bytes i 0) in
    elim (cases_lt i n) [
      | inl below ↦
          let one : word_bit places i ≡ eqb (prev_number (prev_before first bytes i)) (prev_number prev) = places_are i (omega (arith, are.few)) ∙ prev-bit contexts first prev bytes i are below in
          let other : word_bit among i ≡ has_context mask (record { prev = prev; next = next }) = among_is i ∙ (among-below contexts.classes bytes n i (has_next set) are.classes below ∙ row next) in
          bit-both places among i
          ∙ (ap (λ t. t && word_bit among i) one
          ∙ (ap (λ t. eqb (prev_number (prev_before first bytes i)) (prev_number prev) && t) other
          ∙ sym (ap (λ t. t && (eqb (prev_number (prev_before first bytes i)) (prev_number prev) && has_context mask (record { prev = prev; next = next }))) (less-is i n below))))
      | inr above ↦
          let none : word_bit among i ≡ false = among_is i ∙ among-above contexts.classes bytes n i (has_next set after.Word) (has_next set after.Newline) (has_next set after.Other) are.classes above in
          bit-both places among i
          ∙ (ap (λ t. word_bit places i && t) none
          ∙ (and-none (word_bit places i)
          ∙ sym (ap (λ t. t && (eqb (prev_number (prev_before first bytes i)) (prev_number prev) && has_context mask (record { prev = prev; next = next }))) (not-less i n above))))
    ]

-- what stands before a place of a block, by its stream
pub prev-there : (prev : Prev) (u bytes : List ℕ) (i : ℕ) → prev ≡ prev_at u (length u) → i ≤ length bytes → prev_before prev bytes i ≡ prev_at (u ++ take i bytes) (length (u ++ take i bytes))
prev-there prev u bytes zero is below = is ∙ ap (λ w. prev_at w (length w)) (sym (append-nil u))
prev-there prev u bytes (suc j) is below =
    subst (λ k. prev_before prev bytes (suc j) ≡ prev_at (u ++ take k bytes) (length (u ++ take k bytes))) (let e : j + 1 ≡ suc j = omega arith in e)
    (prev-next bytes u j (prev_before prev bytes (suc j)) (omega arith) refl)

four-words : (a b c d i : ℕ) → word_bit (bit_or a (bit_or b (bit_or c d))) i ≡ (word_bit a i || (word_bit b i || (word_bit c i || word_bit d i)))
four-words a b c d i =
    bit-either a (bit_or b (bit_or c d)) i
    ∙ (ap (λ t. word_bit a i || t) (bit-either b (bit_or c d) i) ∙ ap (λ t. word_bit a i || (word_bit b i || t)) (bit-either c d i))

pub three-words : (a b c i : ℕ) (x y z : Bool) → word_bit a i ≡ x → word_bit b i ≡ y → word_bit c i ≡ z → word_bit (bit_or a (bit_or b c)) i ≡ (x || (y || z))
three-words a b c i x y z p q r =
    bit-either a (bit_or b c) i
    ∙ (ap (λ t. word_bit a i || t) (bit-either b c i)
    ∙ (ap (λ t. t || (word_bit b i || word_bit c i)) p ∙ (ap (λ t. x || (t || word_bit c i)) q ∙ ap (λ t. x || (y || t)) r)))

same-four : (a b c d a' b' c' d' : Bool) → a ≡ a' → b ≡ b' → c ≡ c' → d ≡ d' → (a || (b || (c || d))) ≡ (a' || (b' || (c' || d')))
same-four a b c d a' b' c' d' p q r s =
    ap (λ t. t || (b || (c || d))) p ∙ (ap (λ t. a' || (t || (c || d))) q ∙ (ap (λ t. a' || (b' || (t || d))) r ∙ ap (λ t. a' || (b' || (c' || t))) s))

same-truth : (a b : Bool) → a ≡ b → (a ≡ true) ↔ (b ≡ true)
same-truth a b same = ((λ is. sym same ∙ is), (λ is. same ∙ is))

-- the four parts together
pub before-places : (mask : Mask) (prev : Prev) (bytes : List ℕ) (start words newlines others : ℕ) →
    ((i : ℕ) → word_bit start i ≡ is_part mask behind.Start prev bytes i) → ((i : ℕ) → word_bit words i ≡ is_part mask behind.Word prev bytes i) →
    ((i : ℕ) → word_bit newlines i ≡ is_part mask behind.Newline prev bytes i) → ((i : ℕ) → word_bit others i ≡ is_part mask behind.Other prev bytes i) →
    (i : ℕ) → word_bit (bit_or start (bit_or words (bit_or newlines others))) i ≡ (nat_lt i (length bytes) && has_context mask (context_before prev bytes i))
before-places mask prev bytes start words newlines others p q r s i =
    let n : ℕ = length bytes in
    let next : Next = class_of (get_or bytes i 0) in
    let here : Prev = prev_before prev bytes i in
    let x : Prev → Bool = λ p'. has_context mask (record { prev = p'; next = next }) in
    four-words start words newlines others i
    ∙ (same-four (word_bit start i) (word_bit words i) (word_bit newlines i) (word_bit others i) (is_part mask behind.Start prev bytes i) (is_part mask behind.Word prev bytes i)
    (is_part mask behind.Newline prev bytes i) (is_part mask behind.Other prev bytes i) (p i) (q i) (r i) (s i)
    ∙ elim (cases_lt i n) [
      | inl below ↦
          let low : nat_lt i n ≡ true = less-is i n below in
          ap (λ t. (t && (eqb (prev_number here) 0 && x behind.Start)) || ((t && (eqb (prev_number here) 1 && x behind.Word)) || ((t && (eqb (prev_number here) 2 && x behind.Newline)) || (t && (eqb (prev_number here) 3 && x behind.Other))))) low
          ∙ (picks-prev here x ∙ sym (ap (λ t. t && x here) low))
      | inr above ↦
          let high : nat_lt i n ≡ false = not-less i n above in
          ap (λ t. (t && (eqb (prev_number here) 0 && x behind.Start)) || ((t && (eqb (prev_number here) 1 && x behind.Word)) || ((t && (eqb (prev_number here) 2 && x behind.Newline)) || (t && (eqb (prev_number here) 3 && x behind.Other))))) high
          ∙ sym (ap (λ t. t && x here) high)
    ])

pub before-marks : (mask : Mask) (prev : Prev) (u bytes : List ℕ) (word : ℕ) → prev ≡ prev_at u (length u) →
    ((i : ℕ) → word_bit word i ≡ (nat_lt i (length bytes) && has_context mask (context_before prev bytes i))) → Marks (length bytes) word (HasContextBefore mask u bytes)
before-marks mask prev u bytes word is places =
    let n : ℕ = length bytes in
    record {
      below = λ i below.
          let next : Next = class_of (get_or bytes i 0) in
          let x : Prev → Bool = λ p'. has_context mask (record { prev = p'; next = next }) in
          same-truth (word_bit word i) (has_context mask (context_of (u ++ take i bytes) next))
          (places i ∙ (ap (λ t. t && x (prev_before prev bytes i)) (less-is i n below) ∙ ap x (prev-there prev u bytes i is (omega arith))));
      above = λ i above. places i ∙ ap (λ t. t && has_context mask (context_before prev bytes i)) (not-less i n above);
    }

pub behind-places : (contexts : Contexts) (mask : Mask) (prev : Prev) (bytes : List ℕ) (words newlines others : ℕ) → AreContexts contexts prev bytes →
    ((i : ℕ) → word_bit words i ≡ (word_bit contexts.classes.words i && has_context mask (record { prev = behind.Word; next = after.Unknown }))) →
    ((i : ℕ) → word_bit newlines i ≡ (word_bit contexts.classes.newlines i && has_context mask (record { prev = behind.Newline; next = after.Unknown }))) →
    ((i : ℕ) → word_bit others i ≡ (word_bit contexts.classes.others i && has_context mask (record { prev = behind.Other; next = after.Unknown }))) →
    (i : ℕ) → word_bit (bit_or words (bit_or newlines others)) i ≡ (nat_lt i (length bytes) && has_context mask (context_behind prev bytes i))
behind-places contexts mask prev bytes words newlines others are p q r i =
    let n : ℕ = length bytes in
    let classes : Classes = contexts.classes in
    let x : Prev → Bool = λ p'. has_context mask (record { prev = p'; next = after.Unknown }) in
    let here : Bool = x (prev_before prev bytes (suc i)) in
    three-words words newlines others i (word_bit classes.words i && x behind.Word) (word_bit classes.newlines i && x behind.Newline) (word_bit classes.others i && x behind.Other) (p i) (q i) (r i)
    ∙ elim (cases_lt i n) [
      | inl below ↦
          same-three (word_bit classes.words i) (word_bit classes.newlines i) (word_bit classes.others i) (is_class after.Word bytes i) (is_class after.Newline bytes i) (is_class after.Other bytes i)
          (x behind.Word) (x behind.Newline) (x behind.Other) (class-below n i (word_bit classes.words i) (is_class after.Word bytes i) (are.classes.words i) below)
          (class-below n i (word_bit classes.newlines i) (is_class after.Newline bytes i) (are.classes.newlines i) below)
          (class-below n i (word_bit classes.others i) (is_class after.Other bytes i) (are.classes.others i) below)
          ∙ (picks-behind (eqb (get_or bytes i 0) line_feed) (is_word_byte (get_or bytes i 0)) x ∙ sym (ap (λ t. t && here) (less-is i n below)))
      | inr above ↦
          among-above classes bytes n i (x behind.Word) (x behind.Newline) (x behind.Other) are.classes above ∙ sym (ap (λ t. t && here) (not-less i n above))
    ]

pub behind-marks : (mask : Mask) (prev : Prev) (u bytes : List ℕ) (word : ℕ) →
    ((i : ℕ) → word_bit word i ≡ (nat_lt i (length bytes) && has_context mask (context_behind prev bytes i))) → Marks (length bytes) word (HasContextBehind mask u bytes)
behind-marks mask prev u bytes word places =
    let n : ℕ = length bytes in
    let x : Prev → Bool = λ p'. has_context mask (record { prev = p'; next = after.Unknown }) in
    record {
      below = λ i below.
          let line : Bool = eqb (get_or bytes i 0) line_feed in
          let letter : Bool = is_word_byte (get_or bytes i 0) in
          same-truth (word_bit word i) (has_context mask (context_of (u ++ take (i + 1) bytes) after.Unknown))
          (places i ∙ (ap (λ t. t && x (prev_by line letter)) (less-is i n below) ∙ ap x (prev-next bytes u i (prev_by line letter) below refl)));
      above = λ i above. places i ∙ ap (λ t. t && has_context mask (context_behind prev bytes i)) (not-less i n above);
    }

-- of a mask that has every context or none
pub everywhere-bit : (word i : ℕ) (kept test : Bool) → i < 64 → word_bit word i ≡ (word_bit 18446744073709551615 i && kept) → test ≡ kept → word_bit word i ≡ test
unfolding word_bit
everywhere-bit word i kept test below is same = is ∙ (ap (λ b. eqb b 1 && kept) (bit_at_ones 64 i below) ∙ sym same)

-- the classes of no byte, and of one more
pub classes-none : (bytes : List ℕ) → AreClasses (record { words = 0; newlines = 0; others = 0 }) bytes 0
classes-none bytes = record {
  words = λ i. none-under_alone i (is_class after.Word bytes i) (word_bit 0 i) (bit-none i);
  newlines = λ i. none-under_alone i (is_class after.Newline bytes i) (word_bit 0 i) (bit-none i);
  others = λ i. none-under_alone i (is_class after.Other bytes i) (word_bit 0 i) (bit-none i);
}

class-more : (bytes : List ℕ) (class : Next) (p old new number : ℕ) → ((i : ℕ) → word_bit old i ≡ (nat_lt i p && is_class class bytes i)) → number ≡ next_number (class_of (get_or bytes p 0)) →
    ((i : ℕ) → word_bit new i ≡ ((eqb i p && eqb number (next_number class)) || word_bit old i)) → (i : ℕ) → word_bit new i ≡ (nat_lt i (p + 1) && is_class class bytes i)
class-more bytes class p old new number are is placed i =
    number-more_alone (is_class class bytes) i p (eqb number (next_number class)) (word_bit old i) (word_bit new i)
    (λ same. ap (λ k. eqb k (next_number class)) (is ∙ ap (λ j. next_number (class_of (get_or bytes j 0))) (sym same))) (are i) (placed i)

pub classes-more : (bytes : List ℕ) (classes : Classes) (p words newlines others number : ℕ) → AreClasses classes bytes p → number ≡ next_number (class_of (get_or bytes p 0)) →
    ((i : ℕ) → word_bit words i ≡ ((eqb i p && eqb number 0) || word_bit classes.words i)) → ((i : ℕ) → word_bit newlines i ≡ ((eqb i p && eqb number 1) || word_bit classes.newlines i)) →
    ((i : ℕ) → word_bit others i ≡ ((eqb i p && eqb number 2) || word_bit classes.others i)) → AreClasses (record { words = words; newlines = newlines; others = others }) bytes (p + 1)
classes-more bytes classes p words newlines others number are is one two three = record {
  words = class-more bytes after.Word p classes.words words number are.words is one;
  newlines = class-more bytes after.Newline p classes.newlines newlines number are.newlines is two;
  others = class-more bytes after.Other p classes.others others number are.others is three;
}
