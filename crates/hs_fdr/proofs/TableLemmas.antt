-- Super-characters and rows.
use Rattle.std.proofs.Common.{◌≡◌, ℕ, zero, suc, ◌+◌, ◌-◌, ◌*◌, ◌%◌, ◌^◌, ◌<◌, ◌≤◌, List, ◌∷◌, length, get_or, take, drop, ap, ◌∙◌, subst, arith, bit_and}
use Rattle.std.specs.Simd.Lanes.{number_l}
use Rattle.std.proofs.Math.Seq.{drop-cons}
use Rattle.std.proofs.lemmas.Nat.{and_mask}
use Rattle.hs_fdr.specs.Blocks.{super_character}

low_bits_by : (d byte after : ℕ) → d < 7 → byte < 256 → after < 256 → (byte + after * 256) % 2 ^ (9 + d) ≡ super_character (9 + d) byte after
low_bits_by zero byte after h p q = omega arith
low_bits_by (suc zero) byte after h p q = omega arith
low_bits_by (suc (suc zero)) byte after h p q = omega arith
low_bits_by (suc (suc (suc zero))) byte after h p q = omega arith
low_bits_by (suc (suc (suc (suc zero)))) byte after h p q = omega arith
low_bits_by (suc (suc (suc (suc (suc zero))))) byte after h p q = omega arith
low_bits_by (suc (suc (suc (suc (suc (suc zero)))))) byte after h p q = omega arith
low_bits_by (suc (suc (suc (suc (suc (suc (suc d))))))) byte after h p q = absurd (omega arith)

-- the low bits of two bytes
pub super_character-is : (width low_bits byte after : ℕ) → 9 ≤ width → width ≤ 15 → low_bits + 1 ≡ 2 ^ width → byte < 256 → after < 256
    → bit_and (byte + after * 256) low_bits ≡ super_character width byte after
super_character-is width low_bits byte after low high bits p q =
    let e : 9 + (width - 9) ≡ width = omega arith in
    let m : low_bits ≡ 2 ^ width - 1 = omega arith in
    ap (bit_and (byte + after * 256)) m ∙ and_mask (byte + after * 256) width
    ∙ subst (λ w. (byte + after * 256) % 2 ^ w ≡ super_character w byte after) e (low_bits_by (width - 9) byte after (omega arith) p q)

-- two bytes that are read as one number
pub pair-is : (bytes : List ℕ) (at : ℕ) → at + 2 ≤ length bytes → number_l 256 (take 2 (drop at bytes)) ≡ get_or bytes at 0 + get_or bytes (at + 1) 0 * 256
pair-is bytes at room =
    let second : drop (suc at) bytes ≡ get_or bytes (suc at) 0 ∷ drop (suc (suc at)) bytes = drop-cons bytes (suc at) 0 (omega arith) in
    let first : drop at bytes ≡ get_or bytes at 0 ∷ drop (suc at) bytes = drop-cons bytes at 0 (omega arith) in
    let both : drop at bytes ≡ get_or bytes at 0 ∷ get_or bytes (suc at) 0 ∷ drop (suc (suc at)) bytes = first ∙ ap (λ xs. get_or bytes at 0 ∷ xs) second in
    let one : suc at ≡ at + 1 = omega arith in
    ap (λ xs. number_l 256 (take 2 xs)) both ∙ ap (λ n. get_or bytes at 0 + 256 * (get_or bytes n 0 + 256 * 0)) one ∙ omega arith
