-- Numbers that are read digit by digit.
use Rattle.std.proofs.Common.{◌≡◌, ℕ, ◌+◌, ◌-◌, ◌*◌, ◌<◌, ◌≤◌, inl, inr, true, false, List, [], ◌∷◌, length, take, drop, get_or, refl, sym, ap, subst, ◌∙◌, arith}
use Rattle.std.proofs.Math.Seq.{take-length}
use Rattle.std.specs.Prelude.{◌&&◌, nat_lt, if◌then◌else◌}
use Rattle.std.proofs.Math.Nat.{le-mul_of_pos_right}
use Rattle.std.proofs.lemmas.Bool.{cases_lt, lt-ltb, le-ltb}
use Rattle.hs_syntax.specs.declared.number.Number.{Number}
use Rattle.hs_syntax.specs.Numbers.{digit_of, number, number_on, greatest_number, capped, number_at}

pub capped-below : (n : ℕ) → n < greatest_number → capped n ≡ n
capped-below n h = ap (λ b. if b then n else greatest_number) (lt-ltb n greatest_number h)

pub capped-above : (n : ℕ) → greatest_number ≤ n → capped n ≡ greatest_number
capped-above n h = ap (λ b. if b then n else greatest_number) (le-ltb n greatest_number h)

-- a digit behind a number that was capped
pub capped-digit : (n radix digit : ℕ) → 0 < radix → capped (capped n * radix + digit) ≡ capped (n * radix + digit)
capped-digit n radix digit h =
    elim (cases_lt n greatest_number) [
      | inl below ↦ ap (λ k. capped (k * radix + digit)) (capped-below n below)
      | inr above ↦
          let first : greatest_number ≤ greatest_number * radix = le-mul_of_pos_right greatest_number h in
          let second : n ≤ n * radix = le-mul_of_pos_right n h in
          ap (λ k. capped (k * radix + digit)) (capped-above n above)
          ∙ capped-above (greatest_number * radix + digit) (omega (arith, first))
          ∙ sym (capped-above (n * radix + digit) (omega (arith, second, above)))
    ]

-- the digits that are left spell what all digits do
pub record AreLeft (radix most value count : ℕ) (rest : List ℕ) (all : Number) : Type 0 where
  pub spelled : ℕ
  pub value-is : value ≡ capped spelled
  pub left : number_on radix most spelled count rest ≡ all

pub all_left : (radix most : ℕ) (bytes : List ℕ) → AreLeft radix most 0 0 bytes (number_on radix most 0 0 bytes)
all_left radix most bytes = record { spelled = 0; value-is = refl; left = refl }

-- one digit more
pub one_more :
    (radix most value next count b : ℕ) (rest : List ℕ) (all : Number) →
    AreLeft radix most value count (b ∷ rest) all → (nat_lt count most && nat_lt (digit_of b) radix) ≡ true → 0 < radix →
    next ≡ capped (value * radix + digit_of b) → AreLeft radix most next (count + 1) rest all
one_more radix most value next count b rest all before go h e = record {
  spelled = before.spelled * radix + digit_of b;
  value-is = e ∙ ap (λ k. capped (k * radix + digit_of b)) before.value-is ∙ capped-digit before.spelled radix (digit_of b) h;
  left =
      sym (ap (λ x. if x then number_on radix most (before.spelled * radix + digit_of b) (count + 1) rest else number before.spelled count) go)
      ∙ before.left;
}

-- no digit more, behind which other bytes may stand
pub no_more_digits :
    (radix most value count b : ℕ) (rest : List ℕ) (all : Number) →
    AreLeft radix most value count (b ∷ rest) all → (nat_lt count most && nat_lt (digit_of b) radix) ≡ false →
    number value count ≡ number (capped all.value) all.count
no_more_digits radix most value count b rest all before stop =
    let same : number before.spelled count ≡ all =
    sym (ap (λ x. if x then number_on radix most (before.spelled * radix + digit_of b) (count + 1) rest else number before.spelled count) stop)
    ∙ before.left in
    ap (λ k. number k count) before.value-is ∙ ap (λ (n : Number). number (capped n.value) n.count) same

-- or none
pub no_bytes :
    (radix most value count : ℕ) (all : Number) →
    AreLeft radix most value count [] all → number value count ≡ number (capped all.value) all.count
no_bytes radix most value count all before =
    ap (λ k. number k count) before.value-is ∙ ap (λ (n : Number). number (capped n.value) n.count) before.left

rest_is : {A : Type 0} (b : A) (bytes : List A) → take (length (b ∷ bytes) - 1) (drop 1 (b ∷ bytes)) ≡ bytes
rest_is b bytes =
    let same : length (b ∷ bytes) - 1 ≡ length bytes = omega arith in
    ap (λ n. take n bytes) same ∙ take-length bytes

-- one digit more, as the loop sees it
pub loop_more :
    (radix most value next count digit : ℕ) (rest : List ℕ) (all : Number) →
    AreLeft radix most value count rest all → 1 ≤ length rest → digit ≡ digit_of (get_or rest 0 0) →
    (nat_lt count most && nat_lt digit radix) ≡ true → 0 < radix → next ≡ capped (value * radix + digit) →
    AreLeft radix most next (count + 1) (take (length rest - 1) (drop 1 rest)) all
loop_more radix most value next count digit [] all before h d go r e = absurd (omega (arith, h))
loop_more radix most value next count digit (b ∷ rest) all before h d go r e =
    subst (λ bytes. AreLeft radix most next (count + 1) bytes all) (sym (rest_is b rest))
    (one_more radix most value next count b rest all before
    (ap (λ x. nat_lt count most && nat_lt x radix) (sym d) ∙ go) r (e ∙ ap (λ x. capped (value * radix + x)) d))

-- no digit more, as the loop sees it
pub loop_done :
    (radix most value count digit at : ℕ) (bytes rest : List ℕ) →
    AreLeft radix most value count rest (number_on radix most 0 0 (drop at bytes)) → 1 ≤ length rest →
    digit ≡ digit_of (get_or rest 0 0) → (nat_lt count most && nat_lt digit radix) ≡ false →
    number value count ≡ number_at radix most bytes at
unfolding number_at
loop_done radix most value count digit at bytes [] before h d stop = absurd (omega (arith, h))
loop_done radix most value count digit at bytes (b ∷ rest) before h d stop =
    no_more_digits radix most value count b rest (number_on radix most 0 0 (drop at bytes)) before
    (ap (λ x. nat_lt count most && nat_lt x radix) (sym d) ∙ stop)

-- no byte more, as the loop sees it
pub loop_past :
    (radix most value count at : ℕ) (bytes rest : List ℕ) →
    AreLeft radix most value count rest (number_on radix most 0 0 (drop at bytes)) → length rest < 1 →
    number value count ≡ number_at radix most bytes at
unfolding number_at
loop_past radix most value count at bytes [] before h = no_bytes radix most value count (number_on radix most 0 0 (drop at bytes)) before
loop_past radix most value count at bytes (b ∷ rest) before h = absurd (omega (arith, h))
