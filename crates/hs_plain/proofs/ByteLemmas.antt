-- The byte at an offset, as a member of a set.
use Rattle.std.proofs.Common.{◌≡◌, ℕ, ◌<◌, true, List, length, Some, slice_get, get_or, sym, ap, subst, ◌∙◌}
use Rattle.std.proofs.lemmas.Option.{slice_get_within, slice_get-get_or, same_Some}
use Rattle.hs_base.specs.declared.byte_set.ByteSet.{ByteSet}
use Rattle.hs_base.specs.ByteSets.{has, members}
use Rattle.hs_base.specs.Spans.{IsByteOf}
use Rattle.hs_base.proofs.ByteSetLemmas.{members-at}

pub byte_of-has : (set : ByteSet) (w : List ℕ) (i : ℕ) → get_or w i 0 < 256 → i < length w → has set (get_or w i 0) ≡ true → IsByteOf (members set) w i
byte_of-has set w i small within is =
    (get_or w i 0, slice_get-get_or w i 0 within, members-at set (get_or w i 0) small ∙ ap (λ b. Some b) is)

pub has-byte_of : (set : ByteSet) (w : List ℕ) (i : ℕ) → get_or w i 0 < 256 → IsByteOf (members set) w i → (i < length w) × (has set (get_or w i 0) ≡ true)
has-byte_of set w i small (b, byte, member) =
    let within : i < length w = slice_get_within w i b byte in
    let same : b ≡ get_or w i 0 = same_Some b (get_or w i 0) (sym byte ∙ slice_get-get_or w i 0 within) in
    let here : slice_get (members set) (get_or w i 0) ≡ Some true = subst (λ x. slice_get (members set) x ≡ Some true) same member in
    (within, same_Some (has set (get_or w i 0)) true (sym (members-at set (get_or w i 0) small) ∙ here))
