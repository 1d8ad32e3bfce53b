-- The words of the tables of an automaton in which no context matters.
use Rattle.std.specs.Prelude.{◌≡◌, ℕ, ◌+◌, ◌*◌, ◌/◌, ◌%◌, ◌<◌, List, length, slice_index, vec_len}
use Rattle.hs_base.specs.Contexts.{Context}
use Rattle.hs_base.specs.declared.context.Prev.TheVariants as before
use Rattle.hs_base.specs.declared.context.Next.TheVariants as after
use Rattle.hs_engine.specs.declared.automaton.Automaton.{Automaton}
use Rattle.hs_engine.specs.Automata.{takes, follows}
use Rattle.hs_limex.specs.SingleWords.{is_set}

-- the context that stands for all
abbrev pub one_context : Context
one_context = record { prev = before.Start; next = after.Word }

-- The word of that number: first come rows of the positions by bytes, then for each distance a word of the positions
-- that are followed so many places on, then for each position a word of those that follow it.
pub record IsWordOf (a : Automaton) (pitch span number word : ℕ) : Type 0 where
  pub reach : number < 4 * pitch → (i : ℕ) → i < 64 →
      is_set word i ≡ takes a ((64 * number + i) % pitch) ((64 * number + i) / pitch)
  pub near : (d : ℕ) → d < span → number ≡ 4 * pitch + d →
      (k : ℕ) → is_set word k ≡ follows a k (k + d) one_context
  pub follow : (x : ℕ) → number ≡ 4 * pitch + span + x →
      (k : ℕ) → is_set word k ≡ follows a x k one_context

-- the words of an automaton
pub record AreWordsOf (a : Automaton) (pitch span : ℕ) (words : List ℕ) : Type 0 where
  pub len : length words ≡ 4 * pitch + span + vec_len a.sets
  pub each : (number : ℕ) → number < length words → IsWordOf a pitch span number (slice_index words number)
