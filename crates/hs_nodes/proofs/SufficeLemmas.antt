-- A chunk by an engine without a parent that was entered where its matches may begin.
use Rattle.std.proofs.Common.{◌≡◌, ◌↔◌, ℕ, zero, suc, ◌+◌, ◌*◌, ◌<◌, ◌≤◌, Bool, true, List, [], ◌∷◌, ◌++◌, length, take, drop, replicate, slice_index, bit_and, bit_or, refl, sym, ap, subst, ◌∙◌, arith, length-append}
use Rattle.std.proofs.Math.Seq.{take-add}
use Rattle.std.proofs.lemmas.List.{append-nil, append_assoc, length-drop, length-take, replicate-append-replicate}
use Rattle.hs_base.specs.declared.context.Next.{Next}
use Rattle.hs_base.specs.declared.context.Next.TheVariants as after
use Rattle.hs_base.specs.declared.context.Prev.{Prev}
use Rattle.hs_base.specs.Chains.{Piece, piece_tree, IsFitChain}
use Rattle.hs_base.specs.Contexts.{class_of}
use Rattle.hs_base.specs.Fields.{Leaves}
use Rattle.hs_base.specs.Trees.{Tree}
use Rattle.hs_bits.specs.WordBits.{bits_of, word_bit}
use Rattle.hs_block.specs.Scans.{Scans}
use Rattle.hs_engine.specs.Engines.{Meaning}
use Rattle.hs_waking.specs.EntryRows.{DoEntriesSuffice, entries_to}
use Rattle.hs_nodes.specs.Blocks.{EndsBehind, block, front}
use Rattle.hs_nodes.specs.Left.{AreLeftIn}
use Rattle.hs_nodes.specs.Pieces.{AreEmptyIn, IsHeld, IsRunOver, TakesChunk}
use Rattle.hs_nodes.specs.Starting.{IsEnteredThroughout, IsRunEntered, RunsEntered, entered_to, is_place}
use Rattle.hs_nodes.specs.declared.ends.ChunkEnds.{ChunkEnds}
use Rattle.hs_nodes.proofs.EnteredLemmas.{entered-place, length-block-few}
use Rattle.hs_nodes.proofs.RunLemmas.{AreNowhereFrom, IsRunTo, reach-all, reach-upto, run-all, run-more, run-none, word-through}
use Rattle.hs_nodes.proofs.StartingLemmas.{bits-all}

-- a place of a block is one of the chunk
pub reach-place : (bytes : List ℕ) (j i : ℕ) → i ≤ length (block bytes j) → 64 * j ≤ length bytes → 64 * j + i ≤ length bytes
unfolding block
reach-place bytes j i within reaches = omega (arith, within, reaches, length-take 64 (drop (64 * j) bytes), length-drop (64 * j) bytes)

pub reach-block : (bytes : List ℕ) (j i : ℕ) → i < length (block bytes j) → 64 * j ≤ length bytes
unfolding block
reach-block bytes j i low = omega (arith, low, length-take 64 (drop (64 * j) bytes), length-drop (64 * j) bytes)

take-again : (i n : ℕ) (xs : List ℕ) → i ≤ n → take i (take n xs) ≡ take i xs
take-again zero n xs below = refl
take-again (suc i) zero xs below = absurd (omega arith)
take-again (suc i) (suc n) [] below = refl
take-again (suc i) (suc n) (x ∷ xs) below = ap (λ v. x ∷ v) (take-again i n xs (omega arith))

-- the bytes before it
pub place-front : (u bytes : List ℕ) (j i : ℕ) → i ≤ length (block bytes j) → u ++ take (64 * j + i) bytes ≡ front u bytes j ++ take i (block bytes j)
unfolding front block
place-front u bytes j i within =
    ap (λ v. u ++ v) (take-add (64 * j) i bytes)
    ∙ (sym (append_assoc u (take (64 * j) bytes) (take i (drop (64 * j) bytes)))
    ∙ ap (λ v. (u ++ take (64 * j) bytes) ++ v) (sym (take-again i 64 (drop (64 * j) bytes) (omega (arith, within, length-take 64 (drop (64 * j) bytes))))))

-- entries before each byte up to a block
abbrev pub throughout_to : (entered : List Bool) (bytes : List ℕ) (n : ℕ) → List Bool
throughout_to entered bytes n = entered ++ replicate (length (take (64 * n) bytes)) true

all-place : (entered : List Bool) (bytes : List ℕ) (j i enter : ℕ) → length (take (64 * j) bytes) ≡ 64 * j → ((k : ℕ) → k < i → word_bit enter k ≡ true) → entered ++ replicate (64 * j + i) true ≡ throughout_to entered bytes j ++ bits_of enter i
all-place entered bytes j i enter up set =
    ap (λ es. entered ++ es) (sym (replicate-append-replicate (64 * j) i true))
    ∙ (sym (append_assoc entered (replicate (64 * j) true) (replicate i true))
    ∙ (ap (λ n. (entered ++ replicate n true) ++ replicate i true) (sym up) ∙ ap (λ es. throughout_to entered bytes j ++ es) (sym (bits-all enter i set))))

all-next : (entered : List Bool) (bytes : List ℕ) (j n enter : ℕ) → n ≡ j + 1 → ((k : ℕ) → k < length (block bytes j) → word_bit enter k ≡ true) → throughout_to entered bytes j ++ bits_of enter (length (block bytes j)) ≡ throughout_to entered bytes n
unfolding block
all-next entered bytes j n enter next set =
    let own = take 64 (drop (64 * j) bytes) in
    let more : 64 * n ≡ 64 * j + 64 = omega arith in
    let all : length (take (64 * n) bytes) ≡ length (take (64 * j) bytes) + length own = ap (λ k. length (take k bytes)) more ∙ (ap length (take-add (64 * j) 64 bytes) ∙ length-append (take (64 * j) bytes) own) in
    ap (λ es. throughout_to entered bytes j ++ es) (bits-all enter (length own) set)
    ∙ (append_assoc entered (replicate (length (take (64 * j) bytes)) true) (replicate (length own) true)
    ∙ (ap (λ es. entered ++ es) (replicate-append-replicate (length (take (64 * j) bytes)) (length own) true) ∙ ap (λ k. entered ++ replicate k true) (sym all)))

-- the history is that with these entries
abbrev pub HasEntries : (entered : List Bool) (bytes : List ℕ) (n : ℕ) → Tree → List ℕ → List Bool → Type 0
HasEntries entered bytes n tree v es = es ≡ throughout_to entered bytes n

module _ (m : Meaning) (old new : List ℕ) (prev : Prev) (at : ℕ) (bytes : List ℕ) (words : ℕ → ℕ) (enters null own ends : ChunkEnds) (runs_entered : RunsEntered m old new prev at bytes words own) (suffice : DoEntriesSuffice m (is_place words) prev bytes)
    (throughout : IsEnteredThroughout enters bytes) (few : length bytes ≤ 512)
    (before_is : (j : ℕ) → j < 8 → slice_index ends.before j ≡ bit_or (slice_index own.before j) (bit_and (slice_index enters.before j) (slice_index null.before j)))
    (behind_is : (j : ℕ) → j < 8 → slice_index ends.behind j ≡ bit_or (slice_index own.behind j) (bit_and (slice_index enters.behind j) (slice_index null.behind j)))
    (past : AreNowhereFrom 8 ends) where
  module _ (pieces rest : List Piece) (piece : Piece) (u : List ℕ) (fit : IsFitChain (pieces ++ piece ∷ rest)) (runs : m.is_for (piece_tree piece)) (stands : EndsBehind u prev at) (empty : AreEmptyIn (piece_tree piece) u bytes enters null) (left : AreLeftIn pieces u bytes enters)
      (held : IsHeld m pieces piece old u) where
    run : IsRunEntered (m.field new (piece_tree piece)) (piece_tree piece) u held.entered bytes words own
    run = runs_entered (piece_tree piece) u held.entered (record { runs = runs; count = held.are.count; offset = stands.offset; behind = stands.behind; field = held.field })

    -- where it is left at a place of a block
    left-there : (j i : ℕ) → i ≤ length (block bytes j) → 64 * j ≤ length bytes → (enter : ℕ) → ((k : ℕ) → k < i → word_bit enter k ≡ true) → (next : Next) →
        Leaves (piece_tree piece) (front u bytes j ++ take i (block bytes j)) (entered_to held.entered words bytes j ++ bits_of (words j) i) next ↔
        Leaves (piece_tree piece) (front u bytes j ++ take i (block bytes j)) (throughout_to held.entered bytes j ++ bits_of enter i) next
    left-there j i within reaches enter set next =
        let up : length (take (64 * j) bytes) ≡ 64 * j = reach-upto bytes j reaches in
        let inside : 64 * j + i ≤ length bytes = reach-place bytes j i within reaches in
        let both = suffice.leaves (piece_tree piece) u held.entered runs held.are.count stands.behind (64 * j + i) inside next in
        subst (λ v. Leaves (piece_tree piece) v (entered_to held.entered words bytes j ++ bits_of (words j) i) next ↔ Leaves (piece_tree piece) v (throughout_to held.entered bytes j ++ bits_of enter i) next) (place-front u bytes j i within)
        (subst (λ es. Leaves (piece_tree piece) (u ++ take (64 * j + i) bytes) es next ↔ Leaves (piece_tree piece) (u ++ take (64 * j + i) bytes) (throughout_to held.entered bytes j ++ bits_of enter i) next) (entered-place held.entered words bytes j i (omega (arith, within, length-block-few bytes j)) reaches)
        (subst (λ es. Leaves (piece_tree piece) (u ++ take (64 * j + i) bytes) (held.entered ++ entries_to (is_place words) (64 * j + i)) next ↔ Leaves (piece_tree piece) (u ++ take (64 * j + i) bytes) es next) (all-place held.entered bytes j i enter up set) both))

    -- what is told of a block
    scan : (j n : ℕ) → n ≡ j + 1 → j < 8 → Scans (HasEntries held.entered bytes n (piece_tree piece)) (piece_tree piece) (front u bytes j) (throughout_to held.entered bytes j) (block bytes j) (slice_index enters.before j) (slice_index own.before j) (slice_index own.behind j)
    scan j n next small = record {
      field = all-next held.entered bytes j n (slice_index enters.before j) next (throughout j small);
      before_is = record {
        below = λ i low.
            let same = left-there j i (omega (arith, low)) (reach-block bytes j i low) (slice_index enters.before j) (λ k less. throughout j small k (omega (arith, less, low))) (class_of (slice_index (block bytes j) i)) in
            let told = (run.before_is j small).below i low in
            (λ set. same.0 (told.0 set), λ leaves. told.1 (same.1 leaves));
        above = (run.before_is j small).above;
      };
      behind_is = record {
        below = λ i low.
            let same = left-there j (i + 1) (omega (arith, low)) (reach-block bytes j i low) (slice_index enters.before j) (λ k less. throughout j small k (omega (arith, less, low))) after.Unknown in
            let told = (run.behind_is j small).below i low in
            (λ set. same.0 (told.0 set), λ leaves. told.1 (same.1 leaves));
        above = (run.behind_is j small).above;
      };
    }

    -- so many blocks
    blocks-to : (n : ℕ) → n ≤ 8 → IsRunTo (HasEntries held.entered bytes n) pieces piece u bytes ends n
    blocks-to zero few_blocks = run-none (HasEntries held.entered bytes 0) pieces piece u bytes ends (record { entered = held.entered; are = held.are; field = sym (append-nil held.entered) })
    blocks-to (suc j) few_blocks =
        let next : suc j ≡ j + 1 = omega arith in
        let small : j < 8 = omega arith in
        run-more (HasEntries held.entered bytes j) (HasEntries held.entered bytes (suc j)) pieces rest piece u bytes enters null ends ends j (suc j) (slice_index own.before j) (slice_index own.behind j) (slice_index ends.before j) (slice_index ends.behind j) fit left empty
        (λ es count same. subst (λ xs. Scans (HasEntries held.entered bytes (suc j) (piece_tree piece)) (piece_tree piece) (front u bytes j) xs (block bytes j) (slice_index enters.before j) (slice_index own.before j) (slice_index own.behind j)) (sym same) (scan j (suc j) next small))
        (λ i. ap (λ w. word_bit w i) (before_is j small) ∙ word-through (slice_index own.before j) (slice_index enters.before j) (slice_index null.before j) i)
        (λ i. ap (λ w. word_bit w i) (behind_is j small) ∙ word-through (slice_index own.behind j) (slice_index enters.behind j) (slice_index null.behind j) i)
        (record { before_here = refl; behind_here = refl; before_other = λ i apart. refl; behind_other = λ i apart. refl })
        next small (blocks-to j (omega arith))

    over : IsRunOver (HasEntries held.entered bytes 8) pieces piece u bytes ends
    over = run-all (HasEntries held.entered bytes 8) pieces piece u bytes ends 8 (omega (arith, few)) past (blocks-to 8 (omega arith))

    whole : over.held.entered ≡ held.entered ++ replicate (length bytes) true
    whole = over.held.field ∙ ap (λ n. held.entered ++ replicate n true) (reach-all bytes 8 (omega (arith, few)))

    all-over : IsRunOver (m.field new) pieces piece u bytes ends
    all-over = record {
      held = record {
        entered = over.held.entered;
        are = over.held.are;
        field = subst (m.field new (piece_tree piece) (u ++ bytes)) (sym whole) (suffice.field (piece_tree piece) u new held.entered runs held.are.count stands.behind run.field);
      };
      left = over.left;
    }

  pub suffice-takes : TakesChunk m old new prev at bytes enters null ends
  suffice-takes pieces rest piece u fit runs stands empty left held = all-over pieces rest piece u fit runs stands empty left held
