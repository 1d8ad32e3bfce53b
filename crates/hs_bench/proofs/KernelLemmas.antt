-- The first masks of blocks, one block more.
use Rattle.std.proofs.Common.{◌≡◌, ℕ, ◌+◌, List, [], ◌∷◌, Option, Some, None, Bor, fold, map, bit_and, length, get_or, slice_get, unwrap_or, is_some, ltb, sym, arith, ap, ◌∙◌}
use Rattle.std.specs.Option.{option_copied}
use Rattle.std.proofs.lemmas.Option.{slice_get_past, slice_get-get_or}
use Rattle.std.proofs.lemmas.Bool.Decides.{nat_tests}
use Rattle.std.specs.List.{range_with_len}
use Rattle.std.proofs.lemmas.List.Sums.{fold-append}
use Rattle.std.proofs.lemmas.List.FromFn.{map-range_with_len_more}

pub ones-more : (f : ℕ → ℕ) (n all first : ℕ) → all ≡ fold bit_and 255 (map f (range_with_len 0 n)) → first ≡ f n
    → bit_and all first ≡ fold bit_and 255 (map f (range_with_len 0 (n + 1)))
ones-more f n all first so_far is =
    (λ t. bit_and (so_far t) (is t))
    ∙ sym (ap (fold bit_and 255) (map-range_with_len_more f 0 n n (omega arith)) ∙ fold-append bit_and 255 (map f (range_with_len 0 n)) (f n ∷ []))

-- an element that may be there, told by what is read in its place
pub got-is : (xs : List ℕ) (i : ℕ) (got : Option (Bor ℕ)) → is_some got ≡ ltb i (length xs) → ((d : ℕ) → unwrap_or (option_copied got) d ≡ get_or xs i d) → option_copied got ≡ slice_get xs i
got-is xs i None some read = sym (slice_get_past xs i (grind (arith, nat_tests)))
got-is xs i (Some x) some read = ap Some (read x.now) ∙ sym (slice_get-get_or xs i x.now (grind (arith, nat_tests)))
