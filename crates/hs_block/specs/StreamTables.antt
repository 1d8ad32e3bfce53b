-- What the tables say by which a block is taken by words.
use Rattle.std.specs.Prelude.{◌≡◌, ℕ, ◌<◌, Bool, true, ◌&&◌, List, slice_get, slice_index, vec_len}
use Rattle.hs_base.specs.declared.context.Prev.{Prev}
use Rattle.hs_base.specs.Contexts.{Context}
use Rattle.hs_engine.specs.declared.automaton.Automaton.{Automaton}
use Rattle.hs_engine.specs.Automata.{in_mask, in_set, takes, enters, accepts, follows}
use Rattle.hs_base.specs.declared.byte_set.ByteSet.{ByteSet}
use Rattle.hs_block.specs.declared.class_words.ClassWords.{ClassWords}
use Rattle.hs_block.specs.declared.streams.Streams.{Streams}
use Rattle.hs_bits.specs.BlockContexts.{context_before}
use Rattle.hs_block.specs.StreamSets.{is_from, takes_byte}
use Rattle.hs_bits.specs.WordBits.{word_bit}
use Rattle.hs_block.specs.Rows.{Rules}

-- the other position may come before the one in that context
abbrev pub comes_before : Streams → (position other : ℕ) → Context → Bool
comes_before s x y c = is_from s.size s.width s.froms.items s.rests.items x y c

-- The tables say of so many positions what is told of them: which byte each takes, in which contexts it is entered and
-- accepts, and in which another may come before it.
pub record Tells (s : Streams) (size : ℕ) (takes : (position byte : ℕ) → Bool)
    (enters accepts : (position : ℕ) (c : Context) → Bool) (follows : (from to : ℕ) (c : Context) → Bool) : Type 0 where
  pub size_is : s.size ≡ size
  pub takes_are : (x b : ℕ) → x < size → b < 256 → takes_byte s.sets.items s.numbers.items x b ≡ takes x b
  pub enters_are : (x : ℕ) (c : Context) → in_mask (slice_get s.enters.items x) c ≡ enters x c
  pub accepts_are : (x : ℕ) (c : Context) → in_mask (slice_get s.accepts.items x) c ≡ accepts x c
  pub follows_are : (x y : ℕ) (c : Context) → x < size → comes_before s x y c ≡ follows y x c

-- they say what an automaton does
abbrev pub TellsOf : Streams → Automaton → Type 0
TellsOf s a = Tells s (vec_len a.sets) (takes a) (enters a) (accepts a) (follows a)

-- what they say of a block behind `prev`
abbrev pub stream_rules : Streams → Prev → (enters : ℕ) (bytes : List ℕ) → Rules
stream_rules s prev entered bytes = record {
  size = s.size;
  takes = λ i x. takes_byte s.sets.items s.numbers.items x (slice_index bytes i);
  begins = λ i x. word_bit entered i && in_mask (slice_get s.enters.items x) (context_before prev bytes i);
  follows = λ i y x. comes_before s x y (context_before prev bytes i);
}

-- the words that are made tell at which places of a block the bytes of their sets stand
abbrev pub AreClassWords : ClassWords → (sets : List ByteSet) (bytes : List ℕ) → Type 0
AreClassWords classes sets bytes =
    (k i : ℕ) →
    word_bit classes.known k ≡ true →
    i < 64 →
    word_bit (slice_index classes.words k) i ≡ in_set (slice_get sets k) (slice_index bytes i)
