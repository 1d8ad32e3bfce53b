-- The literals that are kept, each with its bucket and its key.
use Rattle.std.specs.Prelude.{◌≡◌, ℕ, ◌<◌, ◌≤◌, ◌-◌, ◌^◌, bit_and, Bool, true, false, ◌&&◌, ◌==◌, List, length, map}
use Rattle.std.specs.Prelude.{Option, Some, None, slice_get, slice_index}
use Rattle.std.specs.List.{range_with_len, filter}
use Rattle.hs_base.specs.Literals.{LiteralByte}
use Rattle.hs_base.specs.LiteralView.{literal_byte}
use Rattle.hs_confirm.specs.declared.entry.Entry.{Entry}
use Rattle.hs_confirm.specs.Taking.{ends_there}
use Rattle.hs_confirm.specs.Keys.{full_text_key, literal_key, key_row}

-- the literal of an entry
abbrev pub literal_in : Entry → List LiteralByte
literal_in entry = map literal_byte entry.literal.items

-- wherever the literal ends, the last eight bytes have this key in the bits of the mask
abbrev pub IsOwnKey : (literal : List LiteralByte) (own mask : ℕ) → Type 0
IsOwnKey literal own mask =
    (text : List ℕ) (offset full : ℕ) →
    full ≡ full_text_key text offset →
    full < 2 ^ 64 →
    ends_there literal text offset ≡ true →
    bit_and full mask ≡ own

-- the bucket is one of eight, the key is that of the literal at the bucket's width, and the literal is no shorter than
-- that; it has a key of its own besides
pub record IsKeyed (widths : List ℕ) (entry : Entry) : Type 0 where
  pub few : entry.bucket < 8
  pub short : slice_index widths entry.bucket ≤ length (literal_in entry)
  pub key : entry.key ≡ literal_key (slice_index widths entry.bucket) (literal_in entry)
  pub own : IsOwnKey (literal_in entry) entry.own entry.own_mask

-- the same of all entries
abbrev pub AreKeyed : List ℕ → List Entry → Type 0
AreKeyed widths entries = (number : ℕ) (entry : Entry) → slice_get entries number ≡ Some entry → IsKeyed widths entry

-- the row of each entry, of so many rows
abbrev pub rows_of_entries : ℕ → List Entry → List ℕ
rows_of_entries rows entries = map (λ entry. key_row rows entry.bucket entry.key) entries

-- whether the entry is in the bucket and ends there
abbrev pub entry_ends : (bucket : ℕ) → List ℕ → ℕ → Entry → Bool
entry_ends bucket text offset entry = (entry.bucket == bucket) && ends_there (literal_in entry) text offset

abbrev pub entry_ends_option : (bucket : ℕ) → List ℕ → ℕ → Option Entry → Bool
entry_ends_option bucket text offset None = false
entry_ends_option bucket text offset (Some entry) = entry_ends bucket text offset entry

-- whether the entry of that number is in the bucket and ends there
abbrev pub number_ends : List Entry → (bucket : ℕ) → List ℕ → ℕ → ℕ → Bool
number_ends entries bucket text offset number = entry_ends_option bucket text offset (slice_get entries number)

-- the numbers from one on of the entries of the bucket that end there, rising
unfoldable pub ends_from : List Entry → (bucket : ℕ) → List ℕ → ℕ → ℕ → List ℕ
ends_from entries bucket text offset from =
    filter (number_ends entries bucket text offset) (range_with_len from (length entries - from))
