-- The tables of single words, read and made.
use Rattle.std.proofs.Common.{◌≡◌, ℕ, ◌+◌, ◌-◌, ◌*◌, ◌/◌, ◌%◌, ◌<◌, ◌≤◌, Bool, true, false, ◌&&◌, List, length, get_or, bit_or, refl, sym, ap, ◌∙◌, inl, inr, arith, vec_len}
use Rattle.std.proofs.Math.Nat.{mul-le-mul_left}
use Rattle.std.proofs.lemmas.Bool.{cases_lt, lt-ltb, le-ltb}
use Rattle.std.proofs.lemmas.Nat.{div-mul-add, mod-mul-add}
use Rattle.hs_base.specs.Contexts.{Context}
use Rattle.hs_base.proofs.ByteSetLemmas.{bit-or}
use Rattle.hs_base.proofs.ContextLemmas.{of_either, left_of_either, right_of_either}
use Rattle.hs_engine.specs.declared.automaton.Automaton.{Automaton}
use Rattle.hs_engine.specs.Automata.{takes, follows}
use Rattle.hs_engine.specs.RowSizes.{square_count}
use Rattle.hs_engine.specs.Rows.{in_square, square_number}
use Rattle.hs_limex.specs.SingleWords.{IsLedBut, IsOn, follow_bit, is_set, reach_bit}
use Rattle.hs_limex.specs.SmallWords.{AreWordsOf, one_context}
use Rattle.hs_limex.proofs.NumberLemmas.{in_row-past}
use Rattle.hs_limex.proofs.PlainLemmas.{not-true}
use Rattle.hs_limex.proofs.StepLemmas.{takes-below}
use Rattle.hs_limex.proofs.SingleLemmas.{no-bit}
use Rattle.hs_limex.specs.Fitting.{IsLed, led_in, led_on}
use Rattle.hs_limex.specs.Near.{IsNearFrom}
use Rattle.hs_limex.specs.SmallMoves.{moves_of_small, small_follows}
use Rattle.hs_limex.specs.declared.small.Small.{Small}

-- with one square of rows what follows is the same in every context
pub one-square : (b : Bool) → square_count b ≡ 1 → b ≡ false
one-square true one = absurd (omega (arith, one))
one-square false one = refl

pub same-follows : (a : Automaton) → a.follows.by_context ≡ false → (x y : ℕ) (c : Context) → follows a x y c ≡ follows a x y one_context
same-follows a one x y c =
    let here : square_number a.follows.by_context c ≡ 0 = ap (λ b. square_number b c) one in
    let there : square_number a.follows.by_context one_context ≡ 0 = ap (λ b. square_number b one_context) one in
    ap (λ n. in_square a.follows n x y) (here ∙ sym there)

-- what a position's word says is what follows it
pub follow-is : (a : Automaton) (pitch span size : ℕ) (words : List ℕ) → AreWordsOf a pitch span words → size ≡ vec_len a.sets → (x y : ℕ) → follow_bit words (4 * pitch + span) size x y ≡ follows a x y one_context
follow-is a pitch span size words are same x y =
    let word : Bool = is_set (get_or words (4 * pitch + span + x) 0) y in
    elim (cases_lt x size) [
      | inl below ↦
          let inside : 4 * pitch + span + x < length words = omega (arith, are.len) in
          ap (λ b. b && word) (lt-ltb x size below) ∙ (are.each (4 * pitch + span + x) inside).follow x refl y
      | inr past ↦
          ap (λ b. b && word) (le-ltb x size past) ∙ sym (in_row-past a.follows x y one_context (omega (arith, past, a.follows_whole)))
    ]

-- what a distance's word says is that, too
pub near-is : (a : Automaton) (pitch span size : ℕ) (words : List ℕ) → AreWordsOf a pitch span words → size ≡ vec_len a.sets → (d k : ℕ) → d < span →
    is_set (get_or words (4 * pitch + d) 0) k ≡ follow_bit words (4 * pitch + span) size k (k + d)
near-is a pitch span size words are same d k used =
    let inside : 4 * pitch + d < length words = omega (arith, are.len) in
    (are.each (4 * pitch + d) inside).near d used refl k ∙ sym (follow-is a pitch span size words are same k (k + d))

-- the row of a byte stands in one word, inside of those of all bytes
pub row-inside : (pitch byte : ℕ) → 0 < pitch → byte < 256 → byte * pitch / 64 < 4 * pitch
row-inside pitch byte some below =
    let last : byte ≤ 255 = omega arith in
    let most : pitch * byte ≤ pitch * 255 = mul-le-mul_left pitch last in
    omega arith

-- what the row of a byte says is which positions take it
pub reach-is : (a : Automaton) (pitch span size : ℕ) (words : List ℕ) → AreWordsOf a pitch span words → size ≡ vec_len a.sets → size ≤ pitch → 0 < pitch →
    ((b k : ℕ) → k < pitch → b * pitch % 64 + k < 64) → (b k : ℕ) → b < 256 → reach_bit words pitch size b k ≡ takes a k b
reach-is a pitch span size words are same room some aligned b k byte =
    let j : ℕ = b * pitch / 64 in
    let i : ℕ = b * pitch % 64 + k in
    elim (cases_lt k size) [
      | inl below ↦
          let inner : k < pitch = omega arith in
          let low : i < 64 = aligned b k inner in
          let row : j < 4 * pitch = row-inside pitch b some byte in
          let inside : j < length words = omega (arith, are.len) in
          let place : 64 * j + i ≡ b * pitch + k = omega arith in
          ap (λ t. t && is_set (get_or words j 0) i) (lt-ltb k size below)
          ∙ ((are.each j inside).reach row i low
          ∙ (ap (λ n. takes a (n % pitch) (n / pitch)) place
          ∙ (ap (λ n. takes a n ((b * pitch + k) / pitch)) (mod-mul-add b pitch k inner)
          ∙ ap (λ n. takes a k n) (div-mul-add b pitch k inner))))
      | inr past ↦
          ap (λ t. t && is_set (get_or words j 0) i) (le-ltb k size past)
          ∙ sym (not-true (takes a k b) (λ is. absurd (omega (arith, takes-below a b k is))))
    ]

-- where what isn't far is near, at a distance that is used, it is so by the words
pub rest-is : (a : Automaton) (pitch span size : ℕ) (words : List ℕ) → AreWordsOf a pitch span words → size ≡ vec_len a.sets → (far : ℕ) →
    ((x y : ℕ) → follows a x y one_context ≡ true → is_set far x ≡ false → IsNearFrom x y) → ((d k : ℕ) → d < 8 → follows a k (k + d) one_context ≡ true → d < span) → (x y : ℕ) →
    follow_bit words (4 * pitch + span) size x y ≡ true → is_set far x ≡ false → (x ≤ y) × (y < x + span)
rest-is a pitch span size words are same far rest used x y is beside =
    let on : follows a x y one_context ≡ true = sym (follow-is a pitch span size words are same x y) ∙ is in
    let near : IsNearFrom x y = rest x y on beside in
    let least : x ≤ y = near.least in
    let most : y < x + 8 = near.most in
    let small : y - x < 8 = omega arith in
    let place : x + (y - x) ≡ y = omega arith in
    let below : y - x < span = used (y - x) x small (ap (λ n. follows a x n one_context) place ∙ on) in
    (least, omega arith)

-- what the words lead to

pub on-led : (s : Small) (live : ℕ) (c : Context) (entering : Bool) (k : ℕ) → IsOn (small_follows s) live k → IsLed (moves_of_small s) (is_set live) c entering k
on-led s live c entering k on = led_on on.from on.is_live on.is_followed

pub either-led : (s : Small) (live led : ℕ) (c : Context) (entering : Bool) (k : ℕ) → IsLedBut (small_follows s) live 0 led → k < 64 → entering ≡ true → is_set (bit_or led s.enters) k ≡ true →
    IsLed (moves_of_small s) (is_set live) c entering k
either-led s live led c entering k on small enters_now is =
    elim (of_either (is_set led k) (is_set s.enters k) (sym (bit-or led s.enters k) ∙ is)) [
      | inl old ↦ on-led s live c entering k (on.sound k small old)
      | inr begin ↦ led_in enters_now begin
    ]

pub led-either : (s : Small) (live led : ℕ) (c : Context) (entering : Bool) (k : ℕ) → IsLedBut (small_follows s) live 0 led → k < 64 → IsLed (moves_of_small s) (is_set live) c entering k →
    is_set (bit_or led s.enters) k ≡ true
led-either s live led c entering k on small (led_in enters_now is) = bit-or led s.enters k ∙ right_of_either (is_set led k) (is_set s.enters k) is
led-either s live led c entering k on small (led_on x set is) = bit-or led s.enters k ∙ left_of_either (is_set led k) (is_set s.enters k) (on.whole x k small set is (no-bit x))
