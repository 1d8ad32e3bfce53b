-- Places of masks that a literal asks to be 0.
use Rattle.std.proofs.Common.{◌≡◌, ℕ, ◌+◌, ◌-◌, ◌*◌, ◌%◌, ◌^◌, ◌<◌, ◌≤◌, IsTrue, List, length, map, get_or, Some, sym, ap, subst, ◌∙◌, arith}
use Rattle.std.specs.List.{slice_get}
use Rattle.std.specs.Option.{option_map}
use Rattle.std.proofs.lemmas.List.{length-map}
use Rattle.std.proofs.lemmas.Option.{slice_get-map, slice_get-get_or}
use Rattle.hs_base.specs.declared.literal.LitByte.{LitByte}
use Rattle.hs_base.specs.Literals.{LiteralByte, takes}
use Rattle.hs_base.specs.LiteralView.{literal_byte}
use Rattle.hs_fdr_build.specs.Asking.{TakesBefore, MayStand, beyond, last, inner}
use Rattle.hs_fdr_build.specs.Clearing.{Clears}
use Rattle.hs_fdr_build.specs.MaskPlaces.{IsPlaceOf}
use Rattle.hs_fdr_build.proofs.ClearLemmas.{clears-none, clears-map}
use Rattle.hs_fdr_build.proofs.WidthLemmas.{spread-top}

-- what stands that far before the last byte
abbrev pub Stands : (literal : List LiteralByte) (j : ℕ) (x : LiteralByte) → Type 0
Stands literal j x = slice_get literal (length literal - 1 - j) ≡ Some x

pub stands : (xs : List LitByte) (x d : LitByte) (i j : ℕ) → j < length xs → i ≡ length xs - 1 - j → x ≡ get_or xs i d → Stands (map literal_byte xs) j (literal_byte x)
stands xs x d i j h e is =
    let n : length (map literal_byte xs) ≡ length xs = length-map xs literal_byte in
    let at : length (map literal_byte xs) - 1 - j ≡ i = omega arith in
    ap (slice_get (map literal_byte xs)) at ∙ slice_get-map literal_byte xs i ∙ ap (option_map literal_byte) (slice_get-get_or xs i d (omega arith) ∙ ap Some (sym is))

-- what it takes there
taken-there : (literal : List LiteralByte) (j b : ℕ) (x : LiteralByte) → Stands literal j x → TakesBefore literal j b → IsTrue (takes x b)
taken-there literal j b x is it =
    let two : Some it.place ≡ Some x = sym it.stands ∙ is in
    let e : it.place ≡ x = cc in
    subst (λ p. IsTrue (takes p b)) e it.taken

-- where it doesn't reach as far
pub places-none : (width j bucket : ℕ) (literal : List LiteralByte) (s : List ℕ) → length literal ≤ j → Clears (λ place b. (b ≡ bucket) × IsPlaceOf width literal j place) s s
places-none width j bucket literal s past = clears-none _ s (λ at b (same, it). let h : j < length literal = it.reaches in omega arith)

module _ (width j bucket : ℕ) (literal : List LiteralByte) (x : LiteralByte) (low : 9 ≤ width) (high : width ≤ 15) (reaches : j < length literal) (is : Stands literal j x) where
  abbrev Places : ℕ → ℕ → Type 0
  Places place b = (b ≡ bucket) × IsPlaceOf width literal j place

  -- at its last byte
  pub places-last : (s t : List ℕ) → j ≡ 0 → Clears (λ place b. (b ≡ bucket) × (place < 2 ^ width) × IsTrue (takes x (place % 256))) s t → Clears Places s t
  places-last s t first = clears-map _ Places s t
      (λ place b _ _ (same, small, takes). (
        same,
        record {
          v = place;
          small = small;
          at = sym (ap (λ n. n * 2 ^ width + place) first ∙ zeroed place);
          reaches = reaches;
          may = last first (record { place = x; stands = is; within = reaches; taken = takes });
        },
      ))
      (λ place b _ _ (same, it).
      let e : place ≡ it.v = it.at ∙ ap (λ n. n * 2 ^ width + it.v) first ∙ zeroed it.v in
      (same, subst (λ p. p < 2 ^ width) (sym e) it.small, subst (λ p. IsTrue (takes x (p % 256))) (sym e) (from it.v it.may)))
    where
      zeroed : (n : ℕ) → 0 * 2 ^ width + n ≡ n
      zeroed n = omega arith

      from : (v : ℕ) → MayStand width literal j v → IsTrue (takes x (v % 256))
      from v (beyond past) = absurd (omega arith)
      from v (last _ it) = taken-there literal j (v % 256) x is it
      from v (inner above _ _ _ _) = absurd (omega arith)

  -- before it
  pub places-inner : (y : LiteralByte) (first : ℕ) (s t : List ℕ) → 0 < j → Stands literal (j - 1) y → first ≡ j * 2 ^ width
      → Clears (λ place b. (b ≡ bucket) × (byte after : ℕ) × (byte < 256) × IsTrue (takes x byte) × IsTrue (takes y after) × (place ≡ first + (byte + 256 * (after % 2 ^ (width - 8))))) s t → Clears Places s t
  places-inner y first s t above behind begins = clears-map _ Places s t
      (λ place b _ _ (same, byte, after, small, h, n, at). (same, to place byte after small h n at))
      (λ place b _ _ (same, it). from place b same it)
    where
      top : (256 * 2 ^ (width - 8) ≡ 2 ^ width) × (0 < 2 ^ (width - 8))
      top = spread-top width low high

      to : (place byte after : ℕ) → byte < 256 → IsTrue (takes x byte) → IsTrue (takes y after) → place ≡ first + (byte + 256 * (after % 2 ^ (width - 8))) → IsPlaceOf width literal j place
      to place byte after small h n at =
          let spread = 2 ^ (width - 8) in
          let further = after % spread in
          let v = byte + 256 * further in
          let e : 256 * spread ≡ 2 ^ width = top.0 in
          let k : 0 < spread = top.1 in
          let l : further < spread = omega arith in
          let r : byte ≡ v % 256 = omega arith in
          record {
            v = v;
            small = omega arith;
            at = at ∙ ap (λ f. f + v) begins;
            reaches = reaches;
            may = inner above (record { place = x; stands = is; within = reaches; taken = subst (λ b. IsTrue (takes x b)) r h }) after (record { place = y; stands = behind; within = omega arith; taken = n }) (omega arith);
          }

      from : (place b : ℕ) → b ≡ bucket → IsPlaceOf width literal j place → (b ≡ bucket) × (byte after : ℕ) × (byte < 256) × IsTrue (takes x byte) × IsTrue (takes y after) × (place ≡ first + (byte + 256 * (after % 2 ^ (width - 8))))
      from place b same it = parts it.v it.at it.may
        where
          parts : (v : ℕ) → place ≡ j * 2 ^ width + v → MayStand width literal j v → (b ≡ bucket) × (byte after : ℕ) × (byte < 256) × IsTrue (takes x byte) × IsTrue (takes y after) × (place ≡ first + (byte + 256 * (after % 2 ^ (width - 8))))
          parts v at (beyond past) = absurd (omega arith)
          parts v at (last none _) = absurd (omega arith)
          parts v at (inner _ here after next further) =
              let e : v ≡ v % 256 + 256 * (after % 2 ^ (width - 8)) = omega arith in
              (same, v % 256, after, omega arith, taken-there literal j (v % 256) x is here, taken-there literal (j - 1) after y behind next, at ∙ (λ i. (sym begins) i + e i))
