-- Powers of two at the widths that there are.
use Rattle.std.proofs.Common.{◌≡◌, ℕ, zero, suc, ◌+◌, ◌-◌, ◌*◌, ◌%◌, ◌^◌, ◌<◌, ◌≤◌, refl, sym, ap, ◌∙◌, subst, arith}

power_by : (d : ℕ) → d < 7 → 1 * 2 ^ (suc d) % 18446744073709551616 ≡ 2 ^ (suc d)
power_by zero h = refl
power_by (suc zero) h = refl
power_by (suc (suc zero)) h = refl
power_by (suc (suc (suc zero))) h = refl
power_by (suc (suc (suc (suc zero)))) h = refl
power_by (suc (suc (suc (suc (suc zero))))) h = refl
power_by (suc (suc (suc (suc (suc (suc zero)))))) h = refl
power_by (suc (suc (suc (suc (suc (suc (suc d))))))) h = absurd (omega arith)

pub spread-power : (width : ℕ) → 9 ≤ width → width ≤ 15 → 1 * 2 ^ (width - 8) % 18446744073709551616 ≡ 2 ^ (width - 8)
spread-power width low high =
    let e : suc (width - 9) ≡ width - 8 = omega arith in
    subst (λ w. 1 * 2 ^ w % 18446744073709551616 ≡ 2 ^ w) e (power_by (width - 9) (omega arith))

share_by : (d : ℕ) → d < 7 → 256 * (1 * 2 ^ (suc d) % 18446744073709551616) ≡ 2 ^ (9 + d)
share_by zero h = refl
share_by (suc zero) h = refl
share_by (suc (suc zero)) h = refl
share_by (suc (suc (suc zero))) h = refl
share_by (suc (suc (suc (suc zero)))) h = refl
share_by (suc (suc (suc (suc (suc zero))))) h = refl
share_by (suc (suc (suc (suc (suc (suc zero)))))) h = refl
share_by (suc (suc (suc (suc (suc (suc (suc d))))))) h = absurd (omega arith)

pub spread-share : (width : ℕ) → 9 ≤ width → width ≤ 15 → 256 * (1 * 2 ^ (width - 8) % 18446744073709551616) ≡ 2 ^ width
spread-share width low high =
    let e : suc (width - 9) ≡ width - 8 = omega arith in
    let f : 9 + (width - 9) ≡ width = omega arith in
    ap (λ w. 256 * (1 * 2 ^ w % 18446744073709551616)) (sym e) ∙ share_by (width - 9) (omega arith) ∙ ap (λ w. 2 ^ w) f

row_by : (d j : ℕ) → d < 7 → j < 8 → (j * 2 ^ (9 + d) % 18446744073709551616 ≡ j * 2 ^ (9 + d)) × (j * 2 ^ (9 + d) % 18446744073709551616 + 2 ^ (9 + d) ≤ 8 * 2 ^ (9 + d))
row_by zero j h k = (omega arith, omega arith)
row_by (suc zero) j h k = (omega arith, omega arith)
row_by (suc (suc zero)) j h k = (omega arith, omega arith)
row_by (suc (suc (suc zero))) j h k = (omega arith, omega arith)
row_by (suc (suc (suc (suc zero)))) j h k = (omega arith, omega arith)
row_by (suc (suc (suc (suc (suc zero))))) j h k = (omega arith, omega arith)
row_by (suc (suc (suc (suc (suc (suc zero)))))) j h k = (omega arith, omega arith)
row_by (suc (suc (suc (suc (suc (suc (suc d))))))) j h k = absurd (omega arith)

-- where a row of masks begins, and that it ends within the eight
pub row-within : (width j : ℕ) → 9 ≤ width → width ≤ 15 → j < 8 → (j * 2 ^ width % 18446744073709551616 ≡ j * 2 ^ width) × (j * 2 ^ width % 18446744073709551616 + 2 ^ width ≤ 8 * 2 ^ width)
row-within width j low high h =
    let e : 9 + (width - 9) ≡ width = omega arith in
    subst (λ w. (j * 2 ^ w % 18446744073709551616 ≡ j * 2 ^ w) × (j * 2 ^ w % 18446744073709551616 + 2 ^ w ≤ 8 * 2 ^ w)) e (row_by (width - 9) j (omega arith) h)

positive : (k : ℕ) → 0 < 2 ^ k
positive zero = omega arith
positive (suc k) = let h = positive k in omega arith

-- the further bits above a byte
pub spread-top : (width : ℕ) → 9 ≤ width → width ≤ 15 → (256 * 2 ^ (width - 8) ≡ 2 ^ width) × (0 < 2 ^ (width - 8))
spread-top width low high = (ap (λ n. 256 * n) (sym (spread-power width low high)) ∙ spread-share width low high, positive (width - 8))

top_by : (d : ℕ) → d < 7 → (1 * 2 ^ (9 + d) % 18446744073709551616 ≡ 2 ^ (9 + d)) × ((0 < 1 * 2 ^ (9 + d) % 18446744073709551616) × (1 * 2 ^ (9 + d) % 18446744073709551616 ≤ 32768))
top_by zero h = (refl, (omega arith, omega arith))
top_by (suc zero) h = (refl, (omega arith, omega arith))
top_by (suc (suc zero)) h = (refl, (omega arith, omega arith))
top_by (suc (suc (suc zero))) h = (refl, (omega arith, omega arith))
top_by (suc (suc (suc (suc zero)))) h = (refl, (omega arith, omega arith))
top_by (suc (suc (suc (suc (suc zero))))) h = (refl, (omega arith, omega arith))
top_by (suc (suc (suc (suc (suc (suc zero)))))) h = (refl, (omega arith, omega arith))
top_by (suc (suc (suc (suc (suc (suc (suc d))))))) h = absurd (omega arith)

-- how many masks a place has
pub top-is : (width : ℕ) → 9 ≤ width → width ≤ 15 → (1 * 2 ^ width % 18446744073709551616 ≡ 2 ^ width) × ((0 < 1 * 2 ^ width % 18446744073709551616) × (1 * 2 ^ width % 18446744073709551616 ≤ 32768))
top-is width low high =
    let e : 9 + (width - 9) ≡ width = omega arith in
    subst (λ w. (1 * 2 ^ w % 18446744073709551616 ≡ 2 ^ w) × ((0 < 1 * 2 ^ w % 18446744073709551616) × (1 * 2 ^ w % 18446744073709551616 ≤ 32768))) e (top_by (width - 9) (omega arith))
