-- The literals that end at a place, bucket by bucket.
use Rattle.std.specs.Prelude.{◌≡◌, ℕ, ◌+◌, ◌<◌, ◌==◌, true, List, [], ◌∷◌, ◌++◌, length, Option, Some, None}
use Rattle.std.specs.Prelude.{if◌then◌else◌}
use Rattle.std.specs.List.{range_with_len, flat_map}
use Rattle.std.specs.Int.{bit_at}
use Rattle.hs_confirm.specs.declared.entry.Entry.{Entry}
use Rattle.hs_confirm.specs.declared.head.Head.{Head}
use Rattle.hs_confirm.specs.Entries.{number_ends, ends_from}

-- each bit that is 1 is that of one of eight buckets
abbrev pub AreBuckets : (left : ℕ) → Type 0
AreBuckets left = (bucket : ℕ) → bit_at left bucket ≡ 1 → bucket < 8

-- each bit that is 1 is one of those
abbrev pub AreAmong : (left buckets : ℕ) → Type 0
AreAmong left buckets = (bucket : ℕ) → bit_at left bucket ≡ 1 → bit_at buckets bucket ≡ 1

-- the literals of a bucket that end there, if its bit is 1
abbrev pub bucket_left : List Entry → (left : ℕ) → List ℕ → (offset bucket : ℕ) → List ℕ
bucket_left entries left text offset bucket =
    if bit_at left bucket == 1 then ends_from entries bucket text offset 0 else []

-- those of all buckets whose bit is 1
unfoldable pub buckets_left : List Entry → (left : ℕ) → List ℕ → ℕ → List ℕ
buckets_left entries left text offset = flat_map (bucket_left entries left text offset) (range_with_len 0 8)

-- those behind one of a bucket, and those of the buckets that haven't been looked at
abbrev pub behind_head : List Entry → List ℕ → ℕ → Head → List ℕ
behind_head entries text offset head =
    ends_from entries head.bucket text offset (head.number + 1) ++ buckets_left entries head.left text offset

-- the one that was found, if there is one, and those behind it
abbrev pub from_head : List Entry → List ℕ → ℕ → Option Head → List ℕ
from_head entries text offset None = []
from_head entries text offset (Some head) = head.number ∷ behind_head entries text offset head

-- that literal is in the bucket and ends there, and the bucket is none of those that haven't been looked at
pub record IsFound (entries : List Entry) (text : List ℕ) (offset : ℕ) (head : Head) : Type 0 where
  pub few : head.bucket < 8
  pub within : head.number < length entries
  pub ends : number_ends entries head.bucket text offset head.number ≡ true
  pub passed : bit_at head.left head.bucket ≡ 0
  pub left : AreBuckets head.left

-- so it is with what was found, if there is something
abbrev pub AreFound : List Entry → List ℕ → (offset : ℕ) → (found : Option Head) → Type 0
AreFound entries text offset found = (head : Head) → found ≡ Some head → IsFound entries text offset head

-- of the buckets that haven't been looked at, each is one of those
abbrev pub AreLeft : (found : Option Head) → (buckets : ℕ) → Type 0
AreLeft found buckets = (head : Head) → found ≡ Some head → AreAmong head.left buckets
