-- The super-characters of bytes, in two turns or in four.
use Rattle.std.proofs.Common.{◌≡◌, ◌↔◌, ℕ, ◌+◌, ◌*◌, ◌/◌, ◌%◌, ◌<◌, ◌⊎◌, Bool, IsTrue, List, refl, ◌∙◌, inl, inr, arith}
use Rattle.hs_fdr_build.specs.Clearing.{Clears}
use Rattle.hs_fdr_build.proofs.ClearLemmas.{clears-map, clears-then}

-- one of two bytes
abbrev pub IsEither : (test : ℕ → Bool) (one other : ℕ) → Type 0
IsEither test one other = (b : ℕ) → IsTrue (test b) ↔ ((b ≡ one) ⊎ (b ≡ other))

abbrev pub Column : (low count bucket : ℕ) → ℕ → ℕ → Type 0
Column low count bucket place b = (b ≡ bucket) × (k : ℕ) × (k < count) × (place ≡ low + 256 * k)

-- two columns are all super-characters with one of two low bytes
pub columns-are : (test : ℕ → Bool) (one other count top bucket : ℕ) (s t u : List ℕ) → IsEither test one other → one < 256 → other < 256 → 256 * count ≡ top → Clears (Column one count bucket) s t → Clears (Column other count bucket) t u
    → Clears (λ place b. (b ≡ bucket) × (place < top) × IsTrue (test (place % 256))) s u
columns-are test one other count top bucket s t u is p q e first second =
    clears-map (λ place b. Column one count bucket place b ⊎ Column other count bucket place b) (λ place b. (b ≡ bucket) × (place < top) × IsTrue (test (place % 256))) s u
    (λ place b _ _ found. elim found [
      | inl it ↦ to place b one p it (λ r. (is (place % 256)).1 (inl r))
      | inr it ↦ to place b other q it (λ r. (is (place % 256)).1 (inr r))
    ])
    (λ place b _ _ (same, below, takes). elim ((is (place % 256)).0 takes) [
      | inl r ↦ inl (from place b one same below r)
      | inr r ↦ inr (from place b other same below r)
    ])
    (clears-then (Column one count bucket) (Column other count bucket) s t u first second)
  where
    to : (place b low : ℕ) → low < 256 → Column low count bucket place b → (place % 256 ≡ low → IsTrue (test (place % 256))) → (b ≡ bucket) × (place < top) × IsTrue (test (place % 256))
    to place b low small (same, k, below, at) takes = (same, omega arith, takes (omega arith))

    from : (place b low : ℕ) → b ≡ bucket → place < top → place % 256 ≡ low → Column low count bucket place b
    from place b low same below r = (same, place / 256, omega arith, omega arith)

abbrev pub Pair : (first spread byte after bucket : ℕ) → ℕ → ℕ → Type 0
Pair first spread byte after bucket place b = (b ≡ bucket) × (place ≡ first + (byte + 256 * (after % spread)))

at_pair : (place first spread byte after x y : ℕ) → byte ≡ x → after ≡ y → place ≡ first + (byte + 256 * (after % spread)) → place ≡ first + (x + 256 * (y % spread))
at_pair place first spread byte after x y e f at = at ∙ (λ i. first + (e i + 256 * (f i % spread)))

module _ (here behind : ℕ → Bool) (one other next second first spread bucket : ℕ) (p : one < 256) (q : other < 256) (is : IsEither here one other) (it : IsEither behind next second) where
  abbrev Of : ℕ → ℕ → ℕ → ℕ → Type 0
  Of byte after = Pair first spread byte after bucket

  abbrev Four : ℕ → ℕ → Type 0
  Four place b = ((Of one next place b ⊎ Of one second place b) ⊎ Of other next place b) ⊎ Of other second place b

  abbrev Each : ℕ → ℕ → Type 0
  Each place b = (b ≡ bucket) × (byte after : ℕ) × (byte < 256) × IsTrue (here byte) × IsTrue (behind after) × (place ≡ first + (byte + 256 * (after % spread)))

  to : (place b : ℕ) → Four place b → Each place b
  to place b (inl (inl (inl (same, at)))) = (same, one, next, p, (is one).1 (inl refl), (it next).1 (inl refl), at)
  to place b (inl (inl (inr (same, at)))) = (same, one, second, p, (is one).1 (inl refl), (it second).1 (inr refl), at)
  to place b (inl (inr (same, at))) = (same, other, next, q, (is other).1 (inr refl), (it next).1 (inl refl), at)
  to place b (inr (same, at)) = (same, other, second, q, (is other).1 (inr refl), (it second).1 (inr refl), at)

  from : (place b byte after : ℕ) → b ≡ bucket → (byte ≡ one) ⊎ (byte ≡ other) → (after ≡ next) ⊎ (after ≡ second) → place ≡ first + (byte + 256 * (after % spread)) → Four place b
  from place b byte after same (inl h) (inl n) at = inl (inl (inl (same, at_pair place first spread byte after one next h n at)))
  from place b byte after same (inl h) (inr n) at = inl (inl (inr (same, at_pair place first spread byte after one second h n at)))
  from place b byte after same (inr h) (inl n) at = inl (inr (same, at_pair place first spread byte after other next h n at))
  from place b byte after same (inr h) (inr n) at = inr (same, at_pair place first spread byte after other second h n at)

  -- four pairs are all super-characters of one of two bytes and one of two behind it
  pub pairs-are : (s t u v w : List ℕ) → Clears (Of one next) s t → Clears (Of one second) t u → Clears (Of other next) u v → Clears (Of other second) v w → Clears Each s w
  pairs-are s t u v w a b c d =
      clears-map Four Each s w (λ place bucket' _ _. to place bucket')
      (λ place bucket' _ _ (same, byte, after, _, h, n, at). from place bucket' byte after same ((is byte).0 h) ((it after).0 n) at)
      (clears-then (λ place b. (Of one next place b ⊎ Of one second place b) ⊎ Of other next place b) (Of other second) s v w
      (clears-then (λ place b. Of one next place b ⊎ Of one second place b) (Of other next) s u v
      (clears-then (Of one next) (Of one second) s t u a b) c) d)
