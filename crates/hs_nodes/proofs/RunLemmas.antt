-- An engine over a chunk, block by block.
use Rattle.std.proofs.Common.{◌≡◌, ◌⊎◌, ℕ, zero, suc, ◌+◌, ◌*◌, ◌<◌, ◌≤◌, ◌||◌, Bool, true, false, List, [], ◌∷◌, ◌++◌, length, take, drop, slice_set, slice_index, bit_and, bit_or, eqb, if◌then◌else◌, refl, sym, ap, subst, ◌∙◌, inl, inr, arith, length-append}
use Rattle.std.proofs.Math.Seq.{take-add}
use Rattle.std.proofs.lemmas.List.{get_or-set_same, get_or-set_other, length-take-le, take_all}
use Rattle.std.specs.Int.{bit_at}
use Rattle.hs_base.specs.Chains.{Piece, piece_tree, IsFitChain}
use Rattle.hs_base.specs.Lists.{Each}
use Rattle.hs_base.specs.Trees.{Tree}
use Rattle.hs_base.proofs.ByteSetLemmas.{bit-or}
use Rattle.hs_base.proofs.ContextSetLemmas.{bit-and}
use Rattle.hs_block.specs.Scans.{Scans}
use Rattle.hs_base.specs.declared.context.Prev.{Prev}
use Rattle.hs_engine.specs.Engines.{Meaning}
use Rattle.hs_engine.specs.declared.ends.BlockEnds.{BlockEnds}
use Rattle.hs_block.specs.Blocks.{TakesBlock, is_busy}
use Rattle.hs_bits.specs.WordBits.{word_bit, bits_of, count_below}
use Rattle.hs_bits.proofs.PlaceLemmas.{bit-none}
use Rattle.hs_nodes.specs.declared.ends.ChunkEnds.{ChunkEnds}
use Rattle.hs_nodes.specs.Blocks.{block, front}
use Rattle.hs_nodes.specs.Left.{AreLeft, AreLeftIn, nowhere}
use Rattle.hs_nodes.specs.Pieces.{AreEmptyIn, IsHeldBy, IsRunOver}
use Rattle.hs_nodes.proofs.ChunkLemmas.{block-past, front-all, front-more, front-none}
use Rattle.hs_nodes.proofs.PieceLemmas.{IsThrough, piece-entered, piece-left}

-- what one more word of the code says
pub word-through : (out enters null : ℕ) → IsThrough (bit_or out (bit_and enters null)) out enters null
unfolding word_bit
word-through out enters null i = bit-or out (bit_and enters null) i ∙ ap (λ b. (eqb (bit_at out i) 1) || b) (bit-and enters null i)

-- the ends of the blocks from one on are nowhere
pub record AreNowhereFrom (n : ℕ) (ends : ChunkEnds) : Type 0 where
  pub before : (i : ℕ) → n ≤ i → slice_index ends.before i ≡ 0
  pub behind : (i : ℕ) → n ≤ i → slice_index ends.behind i ≡ 0

-- the field behind the first so many blocks, and where the pieces are left in these
pub record IsRunTo (Field : Tree → List ℕ → List Bool → Type 0) (pieces : List Piece) (piece : Piece) (u bytes : List ℕ) (ends : ChunkEnds) (n : ℕ) : Type 0 where
  pub held : IsHeldBy Field pieces piece (front u bytes n)
  pub left : (i : ℕ) → i < n → AreLeft (pieces ++ piece ∷ []) (front u bytes i) (block bytes i) (slice_index ends.before i) (slice_index ends.behind i)

pub run-none : (Field : Tree → List ℕ → List Bool → Type 0) (pieces : List Piece) (piece : Piece) (u bytes : List ℕ) (ends : ChunkEnds) → IsHeldBy Field pieces piece u → IsRunTo Field pieces piece u bytes ends 0
run-none Field pieces piece u bytes ends held = record {
  held = subst (λ v. IsHeldBy Field pieces piece v) (sym (front-none u bytes)) held;
  left = λ i low. absurd (omega arith);
}

-- the words of one more block
pub record AreMoreEnds (old new : ChunkEnds) (j before behind : ℕ) : Type 0 where
  pub before_here : slice_index new.before j ≡ before
  pub behind_here : slice_index new.behind j ≡ behind
  pub before_other : (i : ℕ) → (i ≡ j → ⊥) → slice_index new.before i ≡ slice_index old.before i
  pub behind_other : (i : ℕ) → (i ≡ j → ⊥) → slice_index new.behind i ≡ slice_index old.behind i

pub ends-more : (befores behinds : List ℕ) (j before behind : ℕ) → j < length befores → j < length behinds →
    AreMoreEnds (record { before = befores; behind = behinds }) (record { before = slice_set befores j before; behind = slice_set behinds j behind }) j before behind
ends-more befores behinds j before behind low low' = record {
  before_here = get_or-set_same befores j before 0 low;
  behind_here = get_or-set_same behinds j behind 0 low';
  before_other = λ i apart. get_or-set_other befores j i before 0 apart;
  behind_other = λ i apart. get_or-set_other behinds j i behind 0 apart;
}

pub nowhere-more : (old new : ChunkEnds) (j n before behind : ℕ) → n ≡ j + 1 → AreMoreEnds old new j before behind → AreNowhereFrom j old → AreNowhereFrom n new
nowhere-more old new j n before behind next more none = record {
  before = λ i high. more.before_other i (omega arith) ∙ none.before i (omega arith);
  behind = λ i high. more.behind_other i (omega arith) ∙ none.behind i (omega arith);
}

module _ (Old New : Tree → List ℕ → List Bool → Type 0) (pieces rest : List Piece) (piece : Piece) (u bytes : List ℕ) (enters null ends ends' : ChunkEnds) (j n out out' before behind : ℕ) (fit : IsFitChain (pieces ++ piece ∷ rest)) (left : AreLeftIn pieces u bytes enters)
    (empty : AreEmptyIn (piece_tree piece) u bytes enters null)
    (scans : (entered : List Bool) → length entered ≡ length (front u bytes j) → Old (piece_tree piece) (front u bytes j) entered → Scans (New (piece_tree piece)) (piece_tree piece) (front u bytes j) entered (block bytes j) (slice_index enters.before j) out out')
    (through : IsThrough before out (slice_index enters.before j) (slice_index null.before j)) (through' : IsThrough behind out' (slice_index enters.behind j) (slice_index null.behind j)) (more : AreMoreEnds ends ends' j before behind) (next : n ≡ j + 1) (small : j < 8)
    (run : IsRunTo Old pieces piece u bytes ends j) where
  own : Scans (New (piece_tree piece)) (piece_tree piece) (front u bytes j) run.held.entered (block bytes j) (slice_index enters.before j) out out'
  own = scans run.held.entered run.held.are.count run.held.field

  here_left : AreLeft (pieces ++ piece ∷ []) (front u bytes j) (block bytes j) before behind
  here_left =
      piece-left (New (piece_tree piece)) pieces rest piece (front u bytes j) (block bytes j) run.held.entered (slice_index enters.before j) (slice_index enters.behind j) (slice_index null.before j) (slice_index null.behind j)
      out out' before behind fit (left.each j small) run.held.are (empty.each j small) own through through'

  left-upto : (i : ℕ) → (i < j) ⊎ (i ≡ j) → AreLeft (pieces ++ piece ∷ []) (front u bytes i) (block bytes i) (slice_index ends'.before i) (slice_index ends'.behind i)
  left-upto i (inl low) =
      subst (λ w. AreLeft (pieces ++ piece ∷ []) (front u bytes i) (block bytes i) w (slice_index ends'.behind i)) (sym (more.before_other i (omega arith)))
      (subst (λ w. AreLeft (pieces ++ piece ∷ []) (front u bytes i) (block bytes i) (slice_index ends.before i) w) (sym (more.behind_other i (omega arith))) (run.left i low))
  left-upto i (inr same) =
      subst (λ k. AreLeft (pieces ++ piece ∷ []) (front u bytes k) (block bytes k) (slice_index ends'.before k) (slice_index ends'.behind k)) (sym same)
      (subst (λ w. AreLeft (pieces ++ piece ∷ []) (front u bytes j) (block bytes j) w (slice_index ends'.behind j)) (sym more.before_here)
      (subst (λ w. AreLeft (pieces ++ piece ∷ []) (front u bytes j) (block bytes j) before w) (sym more.behind_here) here_left))

  cases : (i : ℕ) → i < n → (i < j) ⊎ (i ≡ j)
  cases i low = grind (arith, next)

  -- one more block
  pub run-more : IsRunTo New pieces piece u bytes ends' n
  run-more = record {
    held = subst (λ v. IsHeldBy New pieces piece v) (sym (front-more u bytes j n next)) (record {
      entered = run.held.entered ++ bits_of (slice_index enters.before j) (length (block bytes j));
      are = piece-entered (New (piece_tree piece)) pieces rest piece (front u bytes j) (block bytes j) run.held.entered (slice_index enters.before j) (slice_index enters.behind j) (slice_index null.before j) (slice_index null.behind j)
          out out' before behind fit (left.each j small) run.held.are (empty.each j small) own through through';
      field = own.field;
    });
    left = λ i low. left-upto i (cases i low);
  }

-- pieces are left nowhere in a block of no bytes
pub left-past : (pieces : List Piece) (u bytes : List ℕ) (before behind : ℕ) → bytes ≡ [] → before ≡ 0 → behind ≡ 0 → AreLeft pieces u bytes before behind
left-past pieces u bytes before behind none none' none'' =
    let empty : length bytes ≡ 0 = ap length none in record {
      before_is = record { below = λ i low. absurd (omega arith); above = λ i high. ap (λ w. word_bit w i) none' ∙ bit-none i };
      behind_is = record { below = λ i low. absurd (omega arith); above = λ i high. ap (λ w. word_bit w i) none'' ∙ bit-none i };
    }

split : (n i : ℕ) → (i < n) ⊎ (n ≤ i)
split n i = grind arith

-- all blocks
pub run-all : (Field : Tree → List ℕ → List Bool → Type 0) (pieces : List Piece) (piece : Piece) (u bytes : List ℕ) (ends : ChunkEnds) (n : ℕ) → length bytes ≤ 64 * n → AreNowhereFrom n ends → IsRunTo Field pieces piece u bytes ends n → IsRunOver Field pieces piece u bytes ends
run-all Field pieces piece u bytes ends n all none run = record {
  held = subst (λ v. IsHeldBy Field pieces piece v) (front-all u bytes n all) run.held;
  left = record { each = λ j small. by_split j (split n j) };
} where
  by_split : (j : ℕ) → (j < n) ⊎ (n ≤ j) → AreLeft (pieces ++ piece ∷ []) (front u bytes j) (block bytes j) (slice_index ends.before j) (slice_index ends.behind j)
  by_split j (inl low) = run.left j low
  by_split j (inr high) = left-past (pieces ++ piece ∷ []) (front u bytes j) (block bytes j) (slice_index ends.before j) (slice_index ends.behind j) (block-past bytes j (omega arith)) (none.before j high) (none.behind j high)

-- where a region stands behind one more block
pub reach-more : (bytes own : List ℕ) (j n at : ℕ) → n ≡ j + 1 → 64 * j < length bytes → own ≡ block bytes j → at + 64 * j + length own ≡ at + length (take (64 * n) bytes)
unfolding block
reach-more bytes own j n at next below own_is =
    let more : 64 * n ≡ 64 * j + 64 = omega arith in
    let all : take (64 * n) bytes ≡ take (64 * j) bytes ++ take 64 (drop (64 * j) bytes) = ap (λ k. take k bytes) more ∙ take-add (64 * j) 64 bytes in
    let count : length (take (64 * n) bytes) ≡ length (take (64 * j) bytes) + length (take 64 (drop (64 * j) bytes)) = ap length all ∙ length-append (take (64 * j) bytes) (take 64 (drop (64 * j) bytes)) in
    let same : length own ≡ length (take 64 (drop (64 * j) bytes)) = ap length own_is in
    omega (arith, count, same, length-take-le (64 * j) bytes (omega arith))

-- and behind all
pub reach-all : (bytes : List ℕ) (n : ℕ) → length bytes ≤ 64 * n → length (take (64 * n) bytes) ≡ length bytes
reach-all bytes n enough = ap length (take_all (64 * n) bytes enough)

count-few : (n : ℕ) (f : ℕ → Bool) → count_below n f ≤ n
count-few zero f = omega arith
count-few (suc n) f = by (f n) (count-few n f) where
  by : (b : Bool) → count_below n f ≤ n → (if b then 1 else 0) + count_below n f ≤ suc n
  by true few = omega (arith, few)
  by false few = omega (arith, few)

-- the steps of a block
pub steps-few : (m : Meaning) (old new : List ℕ) (prev : Prev) (at enters : ℕ) (own : List ℕ) (ends : BlockEnds) (here now : ℕ) → TakesBlock m old new prev at enters own ends here now → now ≤ here + length own
steps-few m old new prev at enters own ends here now takes =
    let few = count-few (length own) (is_busy enters takes.run.parts) in
    let ticks : takes.ticks ≤ length own = subst (λ k. k ≤ length own) (sym takes.run.ticks_are) few in
    let counted : now ≡ here + takes.ticks = takes.counted in
    omega (arith, ticks, counted)

-- the steps up to a block and in it
pub steps-more : (bytes own : List ℕ) (j n first here now : ℕ) → n ≡ j + 1 → 64 * j < length bytes → own ≡ block bytes j → now ≤ here + length own →
    here ≤ first + length (take (64 * j) bytes) → now ≤ first + length (take (64 * n) bytes)
steps-more bytes own j n first here now next below own_is few so_far =
    let reach = reach-more bytes own j n 0 next below own_is in
    let short : length (take (64 * j) bytes) ≡ 64 * j = length-take-le (64 * j) bytes (omega arith) in
    omega (arith, few, reach, short, so_far)

zero-at : (i : ℕ) → slice_index (0 ∷ 0 ∷ 0 ∷ 0 ∷ 0 ∷ 0 ∷ 0 ∷ 0 ∷ []) i ≡ 0
zero-at i = all-zero (0 ∷ 0 ∷ 0 ∷ 0 ∷ 0 ∷ 0 ∷ 0 ∷ 0 ∷ []) (refl, (refl, (refl, (refl, (refl, (refl, (refl, (refl, tt)))))))) i where
  all-zero : (xs : List ℕ) → Each (λ x. x ≡ 0) xs → (i : ℕ) → slice_index xs i ≡ 0
  all-zero [] each i = refl
  all-zero (x ∷ xs) each zero = each.0
  all-zero (x ∷ xs) each (suc i) = all-zero xs each.1 i

pub nowhere-none : AreNowhereFrom 0 nowhere
nowhere-none = record { before = λ i high. zero-at i; behind = λ i high. zero-at i }

pub reach-upto : (bytes : List ℕ) (j : ℕ) → 64 * j ≤ length bytes → length (take (64 * j) bytes) ≡ 64 * j
reach-upto bytes j within = length-take-le (64 * j) bytes within
