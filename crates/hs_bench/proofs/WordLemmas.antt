-- Literals that grow with the bytes of a line, and lists of them that grow with lines.
use Rattle.std.proofs.Common.{◌≡◌, ℕ, ◌+◌, ◌<◌, false, List, [], ◌∷◌, ◌++◌, length, map, take, get_or, sym, ap, ◌∙◌}
use Rattle.std.proofs.lemmas.List.{map-append, take_more}
use Rattle.hs_base.specs.declared.literal.LitByte.{LitByte}
use Rattle.hs_base.specs.LiteralView.{literal_byte}
use Rattle.hs_bench.specs.Words.{exact}

-- one byte more
pub exact-more : (line : List ℕ) (i : ℕ) (literal : List LitByte) (x : LitByte) → i < length line → map literal_byte literal ≡ exact (take i line) → x.byte ≡ get_or line i 0 → x.both_cases ≡ false
    → map literal_byte (literal ++ x ∷ []) ≡ exact (take (i + 1) line)
exact-more line i literal x room so_far byte case =
    map-append literal_byte literal (x ∷ [])
    ∙ (λ t. so_far t ++ record { byte = byte t; both_cases = case t } ∷ [])
    ∙ sym (ap exact (take_more line i 0 room) ∙ map-append _ (take i line) (get_or line i 0 ∷ []))
