-- Remainders of offsets: of m offsets in a row no two have the same.
use Rattle.std.proofs.Common.{◌≡◌, ℕ, ◌+◌, ◌*◌, ◌/◌, ◌%◌, ◌<◌, ◌≤◌, sym, ap, ◌∙◌, inl, inr, arith}
use Rattle.std.proofs.lemmas.Bool.{cases_lt}
use Rattle.std.proofs.Math.Nat.{add-mod_right, div-add-mod, mod-add-mod, mul-le-mul_left}

apart-places : (m q p : ℕ) → q < p → p < q + m → q % m ≡ p % m → ⊥
apart-places m q p before near same =
    let left : m * (q / m) + q % m ≡ q = div-add-mod q m in
    let right : m * (p / m) + p % m ≡ p = div-add-mod p m in
    elim (cases_lt (q / m) (p / m)) [
      | inl under ↦
          let next : q / m + 1 ≤ p / m = omega arith in
          let step : m * (q / m + 1) ≤ m * (p / m) = mul-le-mul_left m next in
          let wide : m * (q / m + 1) ≡ m * (q / m) + m = omega arith in
          omega arith
      | inr over ↦
          let step : m * (p / m) ≤ m * (q / m) = mul-le-mul_left m over in
          omega arith
    ]

pub same-place : (m q p : ℕ) → q < p + m → p < q + m → q % m ≡ p % m → q ≡ p
same-place m q p below above same =
    elim (cases_lt q p) [
      | inl before ↦ absurd (apart-places m q p before above same)
      | inr behind ↦ elim (cases_lt p q) [
        | inl after ↦ absurd (apart-places m p q after below (sym same))
        | inr back ↦ omega arith
      ]
    ]

-- one round farther stands at the same place
pub round-place : (m q p : ℕ) → p ≡ q + m → p % m ≡ q % m
round-place m q p far = ap (λ n. n % m) far ∙ add-mod_right q m

-- so many places ahead
pub ahead-place : (m from ahead q : ℕ) → q ≡ from + ahead → (from % m + ahead) % m ≡ q % m
ahead-place m from ahead q same = mod-add-mod from m ahead ∙ ap (λ n. n % m) (sym same)
