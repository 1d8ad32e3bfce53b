-- The bytes of a history before the stream's first.
use Rattle.std.proofs.Common.{◌≡◌, ℕ, ◌+◌, ◌-◌, ◌<◌, ◌≤◌, min, List, take, drop, length, get_or, sym, ◌∙◌, arith, length-drop}
use Rattle.std.proofs.lemmas.List.{get_or-take, get_or-drop, length-take-le}
use Rattle.hs_base.specs.Bits.{AreZero}
use Rattle.hs_base.specs.Regions.{HasNoEarlyByte, region_offset}

module _ (region : List ℕ) (seen : ℕ) (there : 72 ≤ length region) (same : seen ≡ min (region_offset region) 64) where
  early-size : length (take (72 - seen - 8) (drop 8 region)) ≡ 72 - seen - 8
  early-size = length-take-le (72 - seen - 8) (drop 8 region) (omega (arith, length-drop 8 region))

  at-place : (i : ℕ) → i < 72 - seen - 8 → get_or (take (72 - seen - 8) (drop 8 region)) i 0 ≡ get_or region (8 + i) 0
  at-place i below = get_or-take (72 - seen - 8) (drop 8 region) i 0 below ∙ get_or-drop 8 region i 0

  pub zero-early : AreZero (take (72 - seen - 8) (drop 8 region)) → HasNoEarlyByte region
  zero-early zeros i below =
      let inner : i < 72 - seen - 8 = early-inner (region_offset region) seen i same below in
      sym (at-place i inner) ∙ zeros i (omega (arith, early-size))
    where
      early-inner : (offset seen i : ℕ) → seen ≡ min offset 64 → i + offset < 64 → i < 72 - seen - 8
      early-inner offset seen i same below = omega arith

  pub early-zero : HasNoEarlyByte region → AreZero (take (72 - seen - 8) (drop 8 region))
  early-zero early i below =
      let inner : i < 72 - seen - 8 = omega (arith, early-size) in
      at-place i inner ∙ early i (inner-early (region_offset region) seen i same inner)
    where
      inner-early : (offset seen i : ℕ) → seen ≡ min offset 64 → i < 72 - seen - 8 → i + offset < 64
      inner-early offset seen i same below = omega arith
