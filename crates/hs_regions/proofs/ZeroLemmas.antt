-- Bytes that are all 0.
use Rattle.std.proofs.Common.{◌≡◌, ℕ, List, length, replicate, sym, ◌∙◌}
use Rattle.std.proofs.lemmas.Grind.{same_number_lists}
use Rattle.std.proofs.lemmas.List.{get_or-replicate, length-replicate}
use Rattle.hs_base.specs.Bits.{AreZero}
use Rattle.hs_base.proofs.BitLemmas.{zero-all}

pub zeros-are : (bytes : List ℕ) → AreZero bytes → bytes ≡ replicate (length bytes) 0
zeros-are bytes zeros =
    same_number_lists bytes (replicate (length bytes) 0) (sym (length-replicate {A = ℕ} (length bytes) 0))
    (λ k below. zero-all bytes zeros k ∙ sym (get_or-replicate (length bytes) k 0 0 below))
