-- An engine over a chunk that is entered at some of its places, block by block.
use Rattle.std.proofs.Common.{◌≡◌, ◌⊎◌, ℕ, zero, suc, ◌+◌, ◌*◌, ◌/◌, ◌%◌, ◌<◌, ◌≤◌, Bool, List, [], ◌∷◌, ◌++◌, length, take, drop, slice_index, refl, sym, ap, subst, ◌∙◌, inl, inr, arith, length-append}
use Rattle.std.proofs.lemmas.List.{append-nil, append_assoc, length-take}
use Rattle.hs_base.specs.declared.context.Prev.{Prev}
use Rattle.hs_base.specs.Trees.{Tree}
use Rattle.hs_bits.specs.WordBits.{Marks, bits_of, word_bit}
use Rattle.hs_bits.proofs.PlaceLemmas.{bit-none}
use Rattle.hs_block.specs.Blocks.{IsFieldOf}
use Rattle.hs_block.specs.Scans.{IsLeftBefore, IsLeftBehind, Scans}
use Rattle.hs_engine.specs.declared.ends.BlockEnds.{BlockEnds}
use Rattle.hs_engine.specs.Engines.{Meaning}
use Rattle.hs_waking.specs.EntryRows.{entries_to}
use Rattle.hs_nodes.specs.Blocks.{block, front}
use Rattle.hs_nodes.specs.Starting.{RunsEntered, ScansBehind, entered_to, is_place}
use Rattle.hs_nodes.specs.declared.ends.ChunkEnds.{ChunkEnds}
use Rattle.hs_nodes.proofs.ChunkLemmas.{block-past, front-all, front-more, front-none, length-front}
use Rattle.hs_nodes.proofs.RunLemmas.{AreMoreEnds, AreNowhereFrom, reach-all, reach-more, reach-upto}

pub length-block-few : (bytes : List ℕ) (j : ℕ) → length (block bytes j) ≤ 64
unfolding block
length-block-few bytes j = omega (arith, length-take 64 (drop (64 * j) bytes))

-- the entries of a block are the bits of its word
pub place-of : (words : ℕ → ℕ) (j i : ℕ) → i < 64 → is_place words (64 * j + i) ≡ word_bit (words j) i
place-of words j i small =
    let at : (64 * j + i) / 64 ≡ j = omega arith in
    let bit : (64 * j + i) % 64 ≡ i = omega arith in
    ap (λ k. word_bit (words k) ((64 * j + i) % 64)) at ∙ ap (word_bit (words j)) bit

pub entries-more : (words : ℕ → ℕ) (j n : ℕ) → n ≤ 64 → entries_to (is_place words) (64 * j + n) ≡ entries_to (is_place words) (64 * j) ++ bits_of (words j) n
entries-more words j zero few =
    let none : 64 * j + 0 ≡ 64 * j = omega arith in
    ap (entries_to (is_place words)) none ∙ sym (append-nil (entries_to (is_place words) (64 * j)))
entries-more words j (suc n) few =
    let next : 64 * j + suc n ≡ suc (64 * j + n) = omega arith in
    ap (entries_to (is_place words)) next
    ∙ (ap (λ es. es ++ is_place words (64 * j + n) ∷ []) (entries-more words j n (omega arith))
    ∙ (ap (λ b. (entries_to (is_place words) (64 * j) ++ bits_of (words j) n) ++ b ∷ []) (place-of words j n (omega arith))
    ∙ append_assoc (entries_to (is_place words) (64 * j)) (bits_of (words j) n) (word_bit (words j) n ∷ [])))

pub length-entries : (kept : ℕ → Bool) (n : ℕ) → length (entries_to kept n) ≡ n
length-entries kept zero = refl
length-entries kept (suc n) = omega (arith, length-append (entries_to kept n) (kept n ∷ []), length-entries kept n)

-- the entries up to a place of a block
pub entered-place : (entered : List Bool) (words : ℕ → ℕ) (bytes : List ℕ) (j i : ℕ) → i ≤ 64 → 64 * j ≤ length bytes → entered ++ entries_to (is_place words) (64 * j + i) ≡ entered_to entered words bytes j ++ bits_of (words j) i
entered-place entered words bytes j i few within =
    ap (λ es. entered ++ es) (entries-more words j i few)
    ∙ (sym (append_assoc entered (entries_to (is_place words) (64 * j)) (bits_of (words j) i))
    ∙ ap (λ n. (entered ++ entries_to (is_place words) n) ++ bits_of (words j) i) (sym (reach-upto bytes j within)))

-- the field behind the first so many blocks, and where the expression is left in these
pub record IsRunEnteredTo (Field : List ℕ → List Bool → Type 0) (tree : Tree) (u : List ℕ) (entered : List Bool) (bytes : List ℕ) (words : ℕ → ℕ) (ends : ChunkEnds) (n : ℕ) : Type 0 where
  pub field : Field (front u bytes n) (entered_to entered words bytes n)
  pub before_is : (j : ℕ) → j < n → Marks (length (block bytes j)) (slice_index ends.before j) (IsLeftBefore tree (front u bytes j) (entered_to entered words bytes j) (block bytes j) (words j))
  pub behind_is : (j : ℕ) → j < n → Marks (length (block bytes j)) (slice_index ends.behind j) (IsLeftBehind tree (front u bytes j) (entered_to entered words bytes j) (block bytes j) (words j))

abbrev pub RunsTo : Meaning → (old new : List ℕ) → Prev → (at : ℕ) (bytes : List ℕ) (words : ℕ → ℕ) → ChunkEnds → (n : ℕ) → Type 0
RunsTo m old new prev at bytes words ends n =
    (tree : Tree) (u : List ℕ) (entered : List Bool) → IsFieldOf m old prev at tree u entered → IsRunEnteredTo (m.field new tree) tree u entered bytes words ends n

pub entered-none : (m : Meaning) (region : List ℕ) (prev : Prev) (at : ℕ) (bytes : List ℕ) (words : ℕ → ℕ) (ends : ChunkEnds) → RunsTo m region region prev at bytes words ends 0
entered-none m region prev at bytes words ends tree u entered of = record {
  field = subst (λ v. m.field region tree v (entered ++ [])) (sym (front-none u bytes)) (subst (m.field region tree u) (sym (append-nil entered)) of.field);
  before_is = λ j low. absurd (omega arith);
  behind_is = λ j low. absurd (omega arith);
}

cases : (i j n : ℕ) → n ≡ j + 1 → i < n → (i < j) ⊎ (i ≡ j)
cases i j n next low = grind (arith, next)

module _ (m : Meaning) (old region new : List ℕ) (prev : Prev) (at here : ℕ) (bytes own : List ℕ) (words : ℕ → ℕ) (enters : ℕ) (ends ends' : ChunkEnds) (j n : ℕ) (left : BlockEnds)
    (below : 64 * j < length bytes) (next : n ≡ j + 1) (own_is : own ≡ block bytes j) (here_is : here ≡ at + 64 * j)
    (word_is : enters ≡ words j) (scans : ScansBehind m region new prev bytes j here enters own left)
    (more : AreMoreEnds ends ends' j left.before left.behind) where
  blocks : ScansBehind m region new prev bytes j here (words j) (block bytes j) left
  blocks = subst (λ bs. ScansBehind m region new prev bytes j here (words j) bs left) own_is (subst (λ w. ScansBehind m region new prev bytes j here w own left) word_is scans)

  module _ (tree : Tree) (u : List ℕ) (entered : List Bool) (of : IsFieldOf m old prev at tree u entered) (run : IsRunEnteredTo (m.field region tree) tree u entered bytes words ends j) where
    counted : length (entered_to entered words bytes j) ≡ length (front u bytes j)
    counted = omega (arith, of.count, length-front u bytes j (omega arith), length-append entered (entries_to (is_place words) (length (take (64 * j) bytes))), length-entries (is_place words) (length (take (64 * j) bytes)), reach-upto bytes j (omega arith))

    scan : Scans (m.field new tree) tree (front u bytes j) (entered_to entered words bytes j) (block bytes j) (words j) left.before left.behind
    scan = blocks u of.behind tree (front u bytes j) (entered_to entered words bytes j) (record {
      runs = of.runs;
      count = counted;
      offset = omega (arith, here_is, of.offset, length-front u bytes j (omega arith));
      behind = refl;
      field = run.field;
    })

    entries-next : entered_to entered words bytes j ++ bits_of (words j) (length (block bytes j)) ≡ entered_to entered words bytes n
    entries-next =
        let up = reach-more bytes (block bytes j) j n 0 next below refl in
        let reach : 64 * j + length (block bytes j) ≡ length (take (64 * n) bytes) = omega (arith, up) in
        sym (entered-place entered words bytes j (length (block bytes j)) (length-block-few bytes j) (omega arith)) ∙ ap (λ k. entered ++ entries_to (is_place words) k) reach

    before-at : (i : ℕ) → (i < j) ⊎ (i ≡ j) → Marks (length (block bytes i)) (slice_index ends'.before i) (IsLeftBefore tree (front u bytes i) (entered_to entered words bytes i) (block bytes i) (words i))
    before-at i (inl low) = subst (λ w. Marks (length (block bytes i)) w (IsLeftBefore tree (front u bytes i) (entered_to entered words bytes i) (block bytes i) (words i))) (sym (more.before_other i (omega arith))) (run.before_is i low)
    before-at i (inr same) =
        subst (λ k. Marks (length (block bytes k)) (slice_index ends'.before k) (IsLeftBefore tree (front u bytes k) (entered_to entered words bytes k) (block bytes k) (words k))) (sym same)
        (subst (λ w. Marks (length (block bytes j)) w (IsLeftBefore tree (front u bytes j) (entered_to entered words bytes j) (block bytes j) (words j))) (sym more.before_here) scan.before_is)

    behind-at : (i : ℕ) → (i < j) ⊎ (i ≡ j) → Marks (length (block bytes i)) (slice_index ends'.behind i) (IsLeftBehind tree (front u bytes i) (entered_to entered words bytes i) (block bytes i) (words i))
    behind-at i (inl low) = subst (λ w. Marks (length (block bytes i)) w (IsLeftBehind tree (front u bytes i) (entered_to entered words bytes i) (block bytes i) (words i))) (sym (more.behind_other i (omega arith))) (run.behind_is i low)
    behind-at i (inr same) =
        subst (λ k. Marks (length (block bytes k)) (slice_index ends'.behind k) (IsLeftBehind tree (front u bytes k) (entered_to entered words bytes k) (block bytes k) (words k))) (sym same)
        (subst (λ w. Marks (length (block bytes j)) w (IsLeftBehind tree (front u bytes j) (entered_to entered words bytes j) (block bytes j) (words j))) (sym more.behind_here) scan.behind_is)

    one-more : IsRunEnteredTo (m.field new tree) tree u entered bytes words ends' n
    one-more = record {
      field = subst (λ v. m.field new tree v (entered_to entered words bytes n)) (sym (front-more u bytes j n next)) (subst (m.field new tree (front u bytes j ++ block bytes j)) entries-next scan.field);
      before_is = λ i low. before-at i (cases i j n next low);
      behind_is = λ i low. behind-at i (cases i j n next low);
    }

  pub entered-more : RunsTo m old region prev at bytes words ends j → RunsTo m old new prev at bytes words ends' n
  entered-more before_now tree u entered of = one-more tree u entered of (before_now tree u entered of)

zero-marks : (n w : ℕ) (P : ℕ → Type 0) → n ≡ 0 → w ≡ 0 → Marks n w P
zero-marks n w P none zero_is = record {
  below = λ i low. absurd (omega arith);
  above = λ i high. ap (λ v. word_bit v i) zero_is ∙ bit-none i;
}

split : (n i : ℕ) → (i < n) ⊎ (n ≤ i)
split n i = grind arith

-- all blocks
pub entered-all : (m : Meaning) (old new : List ℕ) (prev : Prev) (at : ℕ) (bytes : List ℕ) (words : ℕ → ℕ) (ends : ChunkEnds) (n : ℕ) → length bytes ≤ 64 * n → AreNowhereFrom n ends → RunsTo m old new prev at bytes words ends n → RunsEntered m old new prev at bytes words ends
entered-all m old new prev at bytes words ends n all none runs tree u entered of = record {
  field = subst (λ v. m.field new tree v (entered ++ entries_to (is_place words) (length bytes))) (front-all u bytes n all) (subst (λ k. m.field new tree (front u bytes n) (entered ++ entries_to (is_place words) k)) (reach-all bytes n all) run.field);
  before_is = λ j small. before-at j (split n j);
  behind_is = λ j small. behind-at j (split n j);
} where
  run : IsRunEnteredTo (m.field new tree) tree u entered bytes words ends n
  run = runs tree u entered of

  before-at : (j : ℕ) → (j < n) ⊎ (n ≤ j) → Marks (length (block bytes j)) (slice_index ends.before j) (IsLeftBefore tree (front u bytes j) (entered_to entered words bytes j) (block bytes j) (words j))
  before-at j (inl low) = run.before_is j low
  before-at j (inr high) = zero-marks (length (block bytes j)) (slice_index ends.before j) _ (ap length (block-past bytes j (omega arith))) (none.before j high)

  behind-at : (j : ℕ) → (j < n) ⊎ (n ≤ j) → Marks (length (block bytes j)) (slice_index ends.behind j) (IsLeftBehind tree (front u bytes j) (entered_to entered words bytes j) (block bytes j) (words j))
  behind-at j (inl low) = run.behind_is j low
  behind-at j (inr high) = zero-marks (length (block bytes j)) (slice_index ends.behind j) _ (ap length (block-past bytes j (omega arith))) (none.behind j high)
