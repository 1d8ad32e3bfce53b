-- Steps in a row.
use Rattle.std.specs.Prelude.{◌≡◌, ℕ, zero, suc, ◌+◌, ◌-◌, ◌%◌, ◌<◌, ◌≤◌, ◌⊎◌, false, List, length, slice_index}
use Rattle.hs_bits.specs.WordBits.{word_bit}
use Rattle.hs_pool.specs.declared.following.Taken.{Taken}
use Rattle.hs_pool.specs.Rows.{next_of, step_at}

-- the state behind so many bytes of a block from a place on, where the first one is `first`
abbrev pub state_to : (rows : List (List ℕ)) (first from enters : ℕ) (bytes : List ℕ) → ℕ → ℕ
state_to rows first from enters bytes zero = first
state_to rows first from enters bytes (suc k) =
    next_of (step_at rows (state_to rows first from enters bytes k) (word_bit enters (from + k))
    (slice_index bytes (from + k)))

-- the step of the byte so many places behind that one
abbrev pub step_of : (rows : List (List ℕ)) (first from enters : ℕ) (bytes : List ℕ) → ℕ → ℕ
step_of rows first from enters bytes k =
    step_at rows (state_to rows first from enters bytes k) (word_bit enters (from + k)) (slice_index bytes (from + k))

-- The flags are those of the steps of so many bytes, and all others are as before.
pub record AreFollowed (rows : List (List ℕ)) (first from enters : ℕ) (bytes flags flags' : List ℕ) (count : ℕ) : Type 0
  where
    pub len : length flags' ≡ length flags
    pub are : (k : ℕ) → k < count → slice_index flags' (from + k) ≡ step_of rows first from enters bytes k % 256
    pub others : (i : ℕ) → (i < from) ⊎ (from + count ≤ i) → slice_index flags' i ≡ slice_index flags i

-- They are those of all bytes of the block from that place on, and lead to that state.
pub record FollowsTo (rows : List (List ℕ)) (first from enters : ℕ) (bytes flags flags' : List ℕ) (last : ℕ) : Type 0
  where
    pub followed : AreFollowed rows first from enters bytes flags flags' (length bytes - from)
    pub last_is : last ≡ state_to rows first from enters bytes (length bytes - from)

-- The word has bit k of each of 64 flags, and no more.
pub record AreFlagsAt (flags : List ℕ) (k word : ℕ) : Type 0 where
  pub below : (i : ℕ) → i < 64 → word_bit word i ≡ word_bit (slice_index flags i) k
  pub past : (i : ℕ) → 64 ≤ i → word_bit word i ≡ false

-- Steps that are all known take the bytes of a block from that place on, and lead to that state.
pub record IsKnownRun (rows : List (List ℕ)) (first from enters : ℕ) (bytes : List ℕ) (taken : Taken) : Type 0 where
  pub state_is : taken.state ≡ state_to rows first from enters bytes (length bytes - from)
  pub some : taken.state ≡ 0 → ⊥
  pub before_is : (k : ℕ) → from + k < length bytes →
      word_bit taken.ends.before (from + k) ≡ word_bit (step_of rows first from enters bytes k) 0
  pub behind_is : (k : ℕ) → from + k < length bytes →
      word_bit taken.ends.behind (from + k) ≡ word_bit (step_of rows first from enters bytes k) 1
  pub before_others : (i : ℕ) → (i < from) ⊎ (length bytes ≤ i) → word_bit taken.ends.before i ≡ false
  pub behind_others : (i : ℕ) → (i < from) ⊎ (length bytes ≤ i) → word_bit taken.ends.behind i ≡ false
