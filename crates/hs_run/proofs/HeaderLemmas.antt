-- The header of a region over one byte keeps to its rules.
use Rattle.std.proofs.Common.{◌≡◌, ℕ, ◌+◌, ◌*◌, ◌<◌, ◌≤◌, List, [], ◌∷◌, ◌++◌, length, get_or, drop, sym, ap, ◌∙◌, inl, inr, arith}
use Rattle.std.specs.Prelude.{slice_range}
use Rattle.std.proofs.lemmas.List.{get_or-drop, get_or_append_left}
use Rattle.hs_base.specs.Bits.{has_bit}
use Rattle.hs_base.specs.Offsets.{greatest_offset}
use Rattle.hs_base.specs.Regions.{IsHeader, fields_at, region_offset}
use Rattle.hs_base.proofs.RegionLemmas.{get-range, range-size}
use Rattle.hs_layout.specs.Layouts.{Laid}
use Rattle.hs_run.specs.Keeping.{AreBitsWritten, IsSpareBit}
use Rattle.hs_run.proofs.FeedLemmas.{AreSteps, bits-before, bits-stay, history-stays}

spare-above : (l : Laid) (k : ℕ) → IsSpareBit l k → 8 * 72 ≤ k
spare-above l k (inl (low, high)) = omega (arith, low)
spare-above l k (inr (inl (low, high))) = omega (arith, low)
spare-above l k (inr (inr (low, high))) = omega (arith, low)

spare-below : (l : Laid) (k : ℕ) → IsSpareBit l k → k < 8 * fields_at l.singles l.identifiers
spare-below l k (inl (low, high)) = omega (arith, high)
spare-below l k (inr (inl (low, high))) = omega (arith, high)
spare-below l k (inr (inr (low, high))) = high

module _ (l : Laid) (count : ℕ) (r0 r1 r2 r3 r4 past history offset : List ℕ) (b : ℕ) (steps : AreSteps l count r0 r1 r2 r3 r4 history offset) (was : past ≡ slice_range r0 8 72) (is : history ≡ drop 1 (past ++ b ∷ []))
    (reads : slice_range r3 8 72 ≡ history) (grows : region_offset r4 ≡ region_offset r0 + 1) (room : region_offset r0 + 1 ≤ greatest_offset) (written : AreBitsWritten l r1 r2) where
  same-bit : (k : ℕ) → IsSpareBit l k → has_bit r4 k ≡ has_bit r0 k
  same-bit k spare =
      bits-stay l count r0 r1 r2 r3 r4 history offset steps k (spare-above l k spare)
      ∙ (written.spare k spare ∙ bits-before l count r0 r1 r2 r3 r4 history offset steps k (spare-below l k spare))

  past-size : length past ≡ 64
  past-size = ap length was ∙ range-size r0 8 72 (omega arith) (omega (arith, steps.sized, steps.room, steps.header))

  -- a byte of the history is the next one of the old history
  moved-byte : (i : ℕ) → i + 1 < 64 → get_or r4 (8 + i) 0 ≡ get_or r0 (8 + (i + 1)) 0
  moved-byte i below =
      let e : 1 + i ≡ i + 1 = omega arith in
      sym (get-range r4 8 72 i (omega (arith, below)))
      ∙ (ap (λ xs. get_or xs i 0) (history-stays l count r0 r1 r2 r3 r4 history offset steps ∙ (reads ∙ is))
      ∙ (get_or-drop 1 (past ++ b ∷ []) i 0
      ∙ (ap (λ n. get_or (past ++ b ∷ []) n 0) e
      ∙ (get_or_append_left past (b ∷ []) 0 (i + 1) (omega (arith, below, past-size)) ∙ (ap (λ xs. get_or xs (i + 1) 0) was ∙ get-range r0 8 72 (i + 1) (omega (arith, below)))))))

  pub header-moved : IsHeader l.singles l.identifiers r0 → IsHeader l.singles l.identifiers r4
  header-moved old = record {
    offset = omega (arith, grows, room);
    history = λ i early. moved-byte i (omega (arith, early, grows)) ∙ old.history (i + 1) (omega (arith, early, grows));
    told = λ k low high. same-bit k (inl (low, high)) ∙ old.told k low high;
    here = λ k low high. same-bit k (inr (inl (low, high))) ∙ old.here k low high;
    last = λ k low high. same-bit k (inr (inr (low, high))) ∙ old.last k low high;
  }
