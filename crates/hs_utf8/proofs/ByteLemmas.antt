-- Sets of bytes, by the test for their members.
use Rattle.std.proofs.Common.{◌≡◌, ℕ, ◌/◌, ◌%◌, ◌<◌, Bool, false, List, [], ◌∷◌, map, eqb, refl, ap, ◌∙◌, arith}
use Rattle.std.specs.List.{range_with_len}
use Rattle.std.specs.Int.{bit_at}
use Rattle.std.proofs.lemmas.Nat.Bits.{bit_at-zero}
use Rattle.hs_base.specs.ByteSets.{has, members, bytes_where}
use Rattle.hs_base.proofs.ByteSetLemmas.{word_at}
use Rattle.hs_base.proofs.LiteralLemmas.{members-where}

-- no byte is in the empty set
pub no_member : (b : ℕ) → b < 256 → has (record { words = 0 ∷ 0 ∷ 0 ∷ 0 ∷ [] }) b ≡ false
unfolding has
no_member b h =
    ap (λ n. eqb (bit_at n (b % 64)) 1) (word_at (λ _. 0) (b / 64) (omega arith)) ∙ ap (λ n. eqb n 1) (bit_at-zero (b % 64))

pub members-none : members (record { words = 0 ∷ 0 ∷ 0 ∷ 0 ∷ [] }) ≡ bytes_where (λ _. false)
members-none = members-where (record { words = 0 ∷ 0 ∷ 0 ∷ 0 ∷ [] }) (λ _. false) no_member

map-same : (f g : ℕ → Bool) (xs : List ℕ) → ((b : ℕ) → f b ≡ g b) → map f xs ≡ map g xs
map-same f g [] same = refl
map-same f g (x ∷ xs) same = ap (λ b. b ∷ map f xs) (same x) ∙ ap (λ bs. g x ∷ bs) (map-same f g xs same)

-- tests that agree give the same set
pub where-same : (f g : ℕ → Bool) → ((b : ℕ) → f b ≡ g b) → bytes_where f ≡ bytes_where g
where-same f g same = map-same f g (range_with_len 0 256) same
