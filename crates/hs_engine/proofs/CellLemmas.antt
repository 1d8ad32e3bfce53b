-- Numbers of cells in a table of rows.
use Rattle.std.proofs.Common.{◌≡◌, ℕ, ◌+◌, ◌*◌, ◌<◌, ◌≤◌, ap, inl, inr, arith}
use Rattle.std.proofs.lemmas.Bool.{cases_lt}
use Rattle.std.proofs.Math.Nat.{mul-le-mul_left}

-- two cells of one number stand in the same row, at the same place
pub same_cell : (size x y from to : ℕ) → y < size → to < size → size * x + y ≡ size * from + to → (x ≡ from) × (y ≡ to)
same_cell size x y from to hy ht same =
    elim (cases_lt x from) [
      | inl under ↦
          let next : x + 1 ≤ from = omega arith in
          let step : size * (x + 1) ≤ size * from = mul-le-mul_left size next in
          let wide : size * (x + 1) ≡ size * x + size = omega arith in
          absurd (omega arith)
      | inr over ↦
          elim (cases_lt from x) [
            | inl under ↦
                let next : from + 1 ≤ x = omega arith in
                let step : size * (from + 1) ≤ size * x = mul-le-mul_left size next in
                let wide : size * (from + 1) ≡ size * from + size = omega arith in
                absurd (omega arith)
            | inr back ↦
                let e : x ≡ from = omega arith in
                let f : size * x ≡ size * from = ap (λ z. size * z) e in
                (e, omega arith)
          ]
    ]
