-- A literal that ends nowhere in a chunk: what is kept of it goes by the last bytes alone.
use Rattle.std.proofs.Common.{◌≡◌, ◌↔◌, ℕ, suc, ◌+◌, ◌-◌, ◌*◌, ◌/◌, ◌%◌, ◌^◌, ◌<◌, ◌≤◌, Bool, true, false, List, [], ◌∷◌, ◌++◌, length, get_or, take, slice_get, slice_index, Some, sym, ap, subst, ◌∙◌, inl, inr, arith, length-append}
use Rattle.std.specs.Prelude.{if◌then◌else◌}
use Rattle.std.proofs.lemmas.Bool.{cases_lt, le-ltb, lt-ltb}
use Rattle.std.proofs.lemmas.List.{get_or-append-add}
use Rattle.std.proofs.lemmas.Option.{slice_get-get_or}
use Rattle.std.proofs.Math.Seq.{take-append-add}
use Rattle.hs_base.specs.Bits.{has_bit, has_word_bit}
use Rattle.hs_base.specs.Chains.{Piece, lit}
use Rattle.hs_base.specs.Contexts.{class_of}
use Rattle.hs_base.specs.Leaving.{AreEntered, LeavesAt}
use Rattle.hs_base.specs.LiteralRows.{IsEnteredBack}
use Rattle.hs_block.specs.LiteralBlocks.{turned, was_entered}
use Rattle.hs_block.proofs.LiteralWordLemmas.{turned-above, turned-below}
use Rattle.hs_bits.specs.WordBits.{word_bit}
use Rattle.hs_bits.proofs.NextLemmas.{word-bit}
use Rattle.hs_bits.proofs.PlaceLemmas.{bit-shifted}
use Rattle.hs_nodes.specs.declared.ends.ChunkEnds.{ChunkEnds}
use Rattle.hs_nodes.specs.declared.hits.ChunkHits.{ChunkHits}
use Rattle.hs_nodes.specs.Hits.{TakesLiteralPart, is_hit_at}
use Rattle.hs_nodes.specs.Left.{AreLeftIn, nowhere}
use Rattle.hs_nodes.proofs.FlatLemmas.{left-flat, nowhere-left}
use Rattle.hs_nodes.proofs.RunLemmas.{nowhere-none}
use Rattle.hs_nodes.proofs.SpareLemmas.{entered-chunk, spared-nowhere}
use Rattle.hs_waking.specs.EntryRows.{entries_to}

-- a bit of a word of a row
place-bit : (words : List ℕ) (n i place : ℕ) → i < 64 → place ≡ 64 * n + i → word_bit (slice_index words n) i ≡ has_word_bit words place
unfolding word_bit
place-bit words n i place small same = sym (word-bit words n i small) ∙ ap (has_word_bit words) (sym same)

-- the last places of the word before one
pub before-bits : (words : List ℕ) (len n i : ℕ) → len ≤ 32 → i < len → 1 ≤ n → word_bit (slice_index words (n - 1) / 2 ^ (64 - len)) i ≡ has_word_bit words (64 * n - len + i)
before-bits words len n i short low some =
    bit-shifted (slice_index words (n - 1)) (64 - len) i
    ∙ place-bit words (n - 1) (64 - len + i) (64 * n - len + i) (omega (arith, short, low)) (omega (arith, short, low, some))

-- the last places of the chunk, by its last two words
pub end-bits : (words : List ℕ) (len count last carry i : ℕ) → len ≤ 32 → i < len → len ≤ count → 64 * last < count → count ≤ 64 * last + 64 → ((j : ℕ) → j < len → 1 ≤ last → word_bit carry j ≡ has_word_bit words (64 * last - len + j)) →
    was_entered len (slice_index words last) carry (count - 64 * last + i) ≡ has_word_bit words (count - len + i)
end-bits words len count last carry i short low room begun within carried = elim (cases_lt (count - 64 * last + i) len) [
  | inl near ↦
      let place : 64 * last - len + (count - 64 * last + i) ≡ count - len + i = omega (arith, short, low, room, begun, within, near) in
      ap (λ (b : Bool). if b then word_bit carry (count - 64 * last + i) else word_bit (slice_index words last) (count - 64 * last + i - len)) (lt-ltb (count - 64 * last + i) len near)
      ∙ (carried (count - 64 * last + i) near (omega (arith, short, low, room, begun, within, near)) ∙ ap (has_word_bit words) place)
  | inr far ↦
      ap (λ (b : Bool). if b then word_bit carry (count - 64 * last + i) else word_bit (slice_index words last) (count - 64 * last + i - len)) (le-ltb (count - 64 * last + i) len far)
      ∙ place-bit words last (count - 64 * last + i - len) (count - len + i) (omega (arith, short, low, room, begun, within, far)) (omega (arith, short, low, room, begun, within, far))
]

module _ (len carry : ℕ) (new bytes : List ℕ) (enters : ChunkEnds) (room : len ≤ length bytes) (few : length bytes ≤ 512) (carried : (i : ℕ) → i < len → word_bit carry i ≡ has_word_bit enters.before (length bytes - len + i)) (kept_is : (k : ℕ) → has_bit new k ≡ turned len (word_bit carry) k) where
  -- what is kept behind the chunk
  unset-above : (k : ℕ) → len ≤ k → has_bit new k ≡ false
  unset-above k above = kept_is k ∙ turned-above len (word_bit carry) k above

  abbrev is_kept : ℕ → Bool
  is_kept i = word_bit (slice_index enters.before (i / 64)) (i % 64)

  kept-there : (k place : ℕ) → k < len → place + suc k ≡ length bytes → has_bit new k ≡ is_kept place
  unfolding has_word_bit word_bit
  kept-there k place below there =
      let same : length bytes - len + (len - suc k) ≡ place = omega (arith, below, there, room) in
      kept_is k ∙ (turned-below len (word_bit carry) k below ∙ (carried (len - suc k) (omega (arith, below)) ∙ ap (has_word_bit enters.before) same))

  module _ (pieces : List Piece) (u : List ℕ) (left : AreLeftIn pieces u bytes enters) (entered : List Bool) (are : AreEntered pieces u entered) where
    abbrev now : List Bool
    now = entered ++ entries_to is_kept (length bytes)

    behind : AreEntered pieces (u ++ bytes) now
    behind = entered-chunk pieces u bytes enters few left entered are

    -- it was entered before a byte of the chunk just where the words tell it
    told : (place : ℕ) → place < length bytes → (slice_get now (length u + place) ≡ Some true) ↔ (is_kept place ≡ true)
    told place low =
        let size = length-append u bytes in
        let byte : get_or (u ++ bytes) (length u + place) 0 ≡ get_or bytes place 0 = get_or-append-add u bytes place 0 in
        let stream : take (length u + place) (u ++ bytes) ≡ u ++ take place bytes = take-append-add u bytes place in
        let there : slice_get (u ++ bytes) (length u + place) ≡ Some (get_or bytes place 0) = slice_get-get_or (u ++ bytes) (length u + place) 0 (omega (arith, low, size)) ∙ ap (λ b. Some b) byte in
        let own = behind.each (length u + place) (get_or bytes place 0) there in
        let flat = left-flat pieces u bytes enters few left place low in (
          λ set. flat.1 (subst (λ v. LeavesAt pieces v (class_of (get_or bytes place 0))) stream (own.0 set)),
          λ set. own.1 (subst (λ v. LeavesAt pieces v (class_of (get_or bytes place 0))) (sym stream) (flat.0 set)),
        )

    tail-set : (k : ℕ) → k < len → has_bit new k ≡ true → IsEnteredBack len (u ++ bytes) now k
    tail-set k below set =
        let size = length-append u bytes in
        let place = length bytes - suc k in
        let there : place + suc k ≡ length bytes = omega (arith, below, room) in record {
          below = below;
          from = length u + place;
          ends = omega (arith, size, there);
          is_entered = (told place (omega (arith, there))).1 (sym (kept-there k place below there) ∙ set);
        }

    tail-back : (k : ℕ) → IsEnteredBack len (u ++ bytes) now k → has_bit new k ≡ true
    tail-back k back =
        let size = length-append u bytes in
        let place = length bytes - suc k in
        let there : place + suc k ≡ length bytes = omega (arith, back.below, room) in
        let same : back.from ≡ length u + place = omega (arith, back.ends, size, there) in
        kept-there k place back.below there ∙ (told place (omega (arith, there))).0 (ap (λ n. slice_get now n) (sym same) ∙ back.is_entered)

    pub tail-field : (k : ℕ) → (has_bit new k ≡ true) ↔ IsEnteredBack len (u ++ bytes) now k
    tail-field k = elim (cases_lt k len) [
      | inl below ↦ (λ set. tail-set k below set, λ back. tail-back k back)
      | inr above ↦ (λ set. absurd (let both : true ≡ false = sym set ∙ unset-above k above in cc), λ back. tail-back k back)
    ]

  pub tail-takes : (old : List ℕ) (hits : ChunkHits) → 1 ≤ len → ((i : ℕ) → is_hit_at hits i ≡ false) → TakesLiteralPart len old new bytes hits enters nowhere
  tail-takes old hits some none pieces rest literal u fit count small hits_are left held = record {
    held = record {
      entered = now pieces u left held.entered held.are;
      are = behind pieces u left held.entered held.are;
      field = tail-field pieces u left held.entered held.are;
    };
    left = nowhere-left (pieces ++ lit literal ∷ []) u bytes nowhere nowhere-none (spared-nowhere pieces rest literal u bytes hits fit (omega (arith, count, some)) small hits_are none);
  }
