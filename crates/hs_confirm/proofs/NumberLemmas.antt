-- The numbers from one on that pass a test, rising.
use Rattle.std.proofs.Common.{◌≡◌, ℕ, zero, suc, ◌+◌, ◌-◌, ◌<◌, ◌≤◌, Bool, true, false, List, [], ◌∷◌, cond, refl, sym, ap, ◌∙◌, arith, inl, inr, ◌⊎◌}
use Rattle.std.specs.List.{range_with_len, filter}
use Rattle.std.proofs.lemmas.Bool.{false≢true, cases_lt}
use Rattle.hs_base.specs.Lists.{Each, IsMember, IsRising}

-- the numbers from one on and below a count that pass
abbrev pub passing : (ℕ → Bool) → (count from : ℕ) → List ℕ
passing p count from = filter p (range_with_len from (count - from))

pub passing-end : (p : ℕ → Bool) (count from : ℕ) → count ≤ from → passing p count from ≡ []
passing-end p count from past = let e : count - from ≡ 0 = omega arith in ap (λ m. filter p (range_with_len from m)) e

pub passing-in : (p : ℕ → Bool) (count from : ℕ) → from < count → p from ≡ true → passing p count from ≡ from ∷ passing p count (from + 1)
passing-in p count from below passes =
    let e : count - from ≡ suc (count - (from + 1)) = omega arith in
    ap (λ m. filter p (range_with_len from m)) e ∙ rw passes refl

pub passing-out : (p : ℕ → Bool) (count from : ℕ) → p from ≡ false → passing p count from ≡ passing p count (from + 1)
passing-out p count from fails =
    elim (cases_lt from count) [
      | inl below ↦
          let e : count - from ≡ suc (count - (from + 1)) = omega arith in
          ap (λ m. filter p (range_with_len from m)) e ∙ rw fails refl
      | inr past ↦ passing-end p count from past ∙ sym (passing-end p count (from + 1) (omega arith))
    ]

-- those that fail are passed over
pub passing-skip : (d : ℕ) (p : ℕ → Bool) (count from to : ℕ) → from + d ≡ to → ((k : ℕ) → from ≤ k → k < to → p k ≡ false) → passing p count from ≡ passing p count to
passing-skip zero p count from to e fail = let same : from ≡ to = omega arith in ap (passing p count) same
passing-skip (suc d) p count from to e fail =
    passing-out p count from (fail from (omega arith) (omega arith))
    ∙ passing-skip d p count (from + 1) to (omega arith) (λ k low high. fail k (omega arith) high)

-- a number that passes within the range
pub record IsPassing (p : ℕ → Bool) (from n k : ℕ) : Type 0 where
  pub low : from ≤ k
  pub high : k < from + n
  pub passes : p k ≡ true

member-passing_cond : (b : Bool) (x k : ℕ) (xs : List ℕ) → IsMember k (cond b (x ∷ xs) xs) → ((b ≡ true) × (k ≡ x)) ⊎ IsMember k xs
member-passing_cond true x k xs (inl same) = inl (refl, same)
member-passing_cond true x k xs (inr member) = inr member
member-passing_cond false x k xs member = inr member

pub member-passing : (n : ℕ) (p : ℕ → Bool) (from k : ℕ) → IsMember k (filter p (range_with_len from n)) → IsPassing p from n k
member-passing zero p from k member = absurd member
member-passing (suc n) p from k member =
    elim (member-passing_cond (p from) from k (filter p (range_with_len (from + 1) n)) member) [
      | inl here ↦ record { low = omega arith; high = omega arith; passes = ap p here.1 ∙ here.0 }
      | inr there ↦
          let rest : IsPassing p (from + 1) n k = member-passing n p (from + 1) k there in
          record { low = omega arith; high = omega arith; passes = rest.passes }
    ]

cond-member_here : (b : Bool) (x k : ℕ) (xs : List ℕ) → b ≡ true → k ≡ x → IsMember k (cond b (x ∷ xs) xs)
cond-member_here true x k xs is same = inl same
cond-member_here false x k xs is same = absurd (false≢true is)

cond-member_there : (b : Bool) (x k : ℕ) (xs : List ℕ) → IsMember k xs → IsMember k (cond b (x ∷ xs) xs)
cond-member_there true x k xs member = inr member
cond-member_there false x k xs member = member

pub passing-member : (n : ℕ) (p : ℕ → Bool) (from k : ℕ) → IsPassing p from n k → IsMember k (filter p (range_with_len from n))
passing-member zero p from k is = absurd (omega (arith, is.low, is.high))
passing-member (suc n) p from k is =
    elim (cases_lt from k) [
      | inl above ↦ cond-member_there (p from) from k (filter p (range_with_len (from + 1) n)) (passing-member n p (from + 1) k (record { low = omega arith; high = omega (arith, is.high); passes = is.passes }))
      | inr below ↦ let same : k ≡ from = omega (arith, is.low) in cond-member_here (p from) from k (filter p (range_with_len (from + 1) n)) (sym (ap p same) ∙ is.passes) same
    ]

cond-each : (P : ℕ → Type 0) (b : Bool) (x : ℕ) (xs : List ℕ) → P x → Each P xs → Each P (cond b (x ∷ xs) xs)
cond-each P true x xs here each = (here, each)
cond-each P false x xs here each = each

each-above : (n : ℕ) (p : ℕ → Bool) (low from : ℕ) → low < from → Each (λ k. low < k) (filter p (range_with_len from n))
each-above zero p low from h = tt
each-above (suc n) p low from h = cond-each (λ k. low < k) (p from) from (filter p (range_with_len (from + 1) n)) h (each-above n p low (from + 1) (omega arith))

cond-rising : (b : Bool) (x : ℕ) (xs : List ℕ) → Each (λ k. x < k) xs → IsRising (λ j k. j < k) xs → IsRising (λ j k. j < k) (cond b (x ∷ xs) xs)
cond-rising true x xs above rising = (above, rising)
cond-rising false x xs above rising = rising

pub passing-rising : (n : ℕ) (p : ℕ → Bool) (from : ℕ) → IsRising (λ j k. j < k) (filter p (range_with_len from n))
passing-rising zero p from = tt
passing-rising (suc n) p from =
    cond-rising (p from) from (filter p (range_with_len (from + 1) n)) (each-above n p from (from + 1) (omega arith)) (passing-rising n p (from + 1))
