-- What the slow program looks at.
use Rattle.std.specs.Prelude.{◌≡◌, ℕ, ◌-◌, ◌<◌, ◌≤◌, Bool, ◌&&◌, ◌==◌, List, [], slice_index, Option, MatchOption}
use Rattle.std.specs.List.{slice_index_or}
use Rattle.hs_base.specs.Literals.{LiteralByte}
use Rattle.hs_confirm.specs.Taking.{ends_there}

-- the byte so many places before the last one in front of an offset, or None where the text begins behind it
abbrev pub IsByteBefore : List ℕ → (offset back : ℕ) → Option ℕ → Type 0
IsByteBefore text offset back byte =
    MatchOption byte (offset ≤ back) (λ b. (back < offset) × (b ≡ slice_index text (offset - 1 - back)))

-- whether the literal of that number is in the bucket and ends there
abbrev pub plain_ends_there : List (List LiteralByte) → (buckets : List ℕ) → (bucket : ℕ) → List ℕ → ℕ → ℕ → Bool
plain_ends_there literals buckets bucket text offset number =
    (slice_index buckets number == bucket) && ends_there (slice_index_or literals number []) text offset
