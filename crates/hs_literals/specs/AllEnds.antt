-- All ends of literals, as lists.
use Rattle.std.specs.Prelude.{ℕ, ◌+◌, ◌-◌, Bool, false, List, ◌++◌, Option, Some, None, length, map, slice_get}
use Rattle.std.specs.List.{range_with_len, filter, flat_map}
use Rattle.hs_base.specs.Literals.{LiteralByte}
use Rattle.hs_confirm.specs.Taking.{ends_there}

-- whether the literal ends there
abbrev pub literal_ends : List ℕ → ℕ → Option (List LiteralByte) → Bool
literal_ends text offset None = false
literal_ends text offset (Some literal) = ends_there literal text offset

-- the numbers of all literals that end at an offset of a text, rising
abbrev pub numbers_at : List (List LiteralByte) → List ℕ → ℕ → List ℕ
numbers_at literals text offset =
    filter (λ number. literal_ends text offset (slice_get literals number)) (range_with_len 0 (length literals))

-- each number with the same end
abbrev pub pairs_of_place : ℕ → List ℕ → List (ℕ × ℕ)
pairs_of_place end numbers = map (λ number. (end, number)) numbers

-- all ends behind a place of the bytes
unfoldable pub ends_behind : List (List LiteralByte) → (history bytes : List ℕ) → ℕ → List (ℕ × ℕ)
ends_behind literals history bytes from =
    flat_map (λ end. pairs_of_place end (numbers_at literals (history ++ bytes) (length history + end)))
    (range_with_len (from + 1) (length bytes - from))
