-- For each bucket its least literal that is still to be told at a place.
use Rattle.std.specs.Prelude.{◌≡◌, ◌≢◌, ℕ, ◌<◌, ◌≤◌, Bool, true, false, ◌&&◌, nat_le, List, length, Option, Some, None}
use Rattle.std.specs.Prelude.{slice_get, slice_index}
use Rattle.std.specs.List.{range_with_len, filter}
use Rattle.std.specs.Int.{bit_at}
use Rattle.hs_confirm.specs.declared.entry.Entry.{Entry}
use Rattle.hs_confirm.specs.Taking.{ends_there}
use Rattle.hs_confirm.specs.Entries.{literal_in, number_ends}

-- the least number from one on that passes, or the count where none below it does
pub record IsFirstPassing (passes : ℕ → Bool) (from count number : ℕ) : Type 0 where
  pub low : from ≤ number
  pub fail : (k : ℕ) → from ≤ k → k < number → passes k ≡ false
  pub here : number < count → passes number ≡ true

-- the first literal of a bucket that ends there, if the mask leaves the bucket open, or the count of all
pub record IsHead (entries : List Entry) (mask : ℕ) (text : List ℕ) (offset bucket number : ℕ) : Type 0 where
  pub unmasked : bit_at mask bucket ≡ 0 →
      IsFirstPassing (number_ends entries bucket text offset) 0 (length entries) number
  pub masked : bit_at mask bucket ≢ 0 → number ≡ length entries

-- no literal of a bucket ends there, if the mask leaves the bucket open
abbrev pub HasNone : List Entry → (mask : ℕ) → List ℕ → (offset bucket : ℕ) → Type 0
HasNone entries mask text offset bucket =
    bit_at mask bucket ≡ 0 → (number : ℕ) → number < length entries →
    number_ends entries bucket text offset number ≡ false

-- the bits that are 1 are those of buckets that the mask leaves open
abbrev pub AreOpenBuckets : (mask left : ℕ) → Type 0
AreOpenBuckets mask left = (bucket : ℕ) → bit_at left bucket ≡ 1 → (bucket < 8) × (bit_at mask bucket ≡ 0)

-- that holds of each bucket whose bit is 0
abbrev pub OutsideHave : (ℕ → Type 0) → (left : ℕ) → Type 0
OutsideHave P left = (bucket : ℕ) → bucket < 8 → bit_at left bucket ≡ 0 → P bucket

-- a literal of that bucket ends there, and of all others at most of those whose bit is 1
pub record IsFirstHead (entries : List Entry) (mask : ℕ) (text : List ℕ) (offset bucket number left : ℕ) : Type 0 where
  pub few : bucket < 8
  pub unmasked : bit_at mask bucket ≡ 0
  pub first : IsFirstPassing (number_ends entries bucket text offset) 0 (length entries) number
  pub within : number < length entries
  pub unmasked_left : AreOpenBuckets mask left
  pub none : OutsideHave (λ other. other ≢ bucket → HasNone entries mask text offset other) left

-- each head is a number of its bucket that ends there, or no number
abbrev pub AreHeads : List Entry → List ℕ → (offset : ℕ) → List ℕ → Type 0
AreHeads entries text offset heads =
    (bucket : ℕ) → bucket < 8 → slice_index heads bucket < length entries →
    number_ends entries bucket text offset (slice_index heads bucket) ≡ true

-- whether the entry is at or behind the head of its bucket, and ends there
abbrev pub entry_left : (heads : List ℕ) → List ℕ → ℕ → Option Entry → ℕ → Bool
entry_left heads text offset None number = false
entry_left heads text offset (Some entry) number =
    nat_le (slice_index heads entry.bucket) number && ends_there (literal_in entry) text offset

-- whether the literal of that number is still to be told
abbrev pub number_left : List Entry → (heads : List ℕ) → List ℕ → ℕ → ℕ → Bool
number_left entries heads text offset number = entry_left heads text offset (slice_get entries number) number

-- the numbers that are still to be told, rising
unfoldable pub left_behind : List Entry → (heads : List ℕ) → List ℕ → ℕ → List ℕ
left_behind entries heads text offset =
    filter (number_left entries heads text offset) (range_with_len 0 (length entries))
