-- The farthest distance, as it moves over a byte.
use Rattle.std.proofs.Common.{◌≡◌, ℕ, ◌+◌, ◌<◌, ◌≤◌, Bool, true, false, refl, sym, subst, ◌∙◌, inl, inr, arith, List, [], ◌∷◌, ◌++◌, length}
use Rattle.std.specs.Prelude.{min, None}
use Rattle.hs_base.specs.declared.byte_set.ByteSet.{ByteSet}
use Rattle.hs_base.specs.declared.context.Next.{Next}
use Rattle.hs_base.specs.ByteSets.{has, members}
use Rattle.hs_base.specs.Fields.{Leaves}
use Rattle.hs_base.specs.Trees.{class, repeat}
use Rattle.hs_base.specs.RepeatRows.{IsAway}
use Rattle.hs_engine.specs.Engines.{IsAsleep, IsQuiet, IsStart, LeavesNothing}
use Rattle.hs_repeat.specs.RepeatMeanings.{first_meaning}
use Rattle.hs_base.proofs.RepeatRowLemmas.{first-within}
use Rattle.hs_base.specs.RepeatRows.{IsFirstDistance, IsFirstRow, distance_of}
use Rattle.hs_base.specs.RepeatRows.IsFirstDistance.{none, some}
use Rattle.hs_repeat.proofs.EntryLemmas.{away-leaves, leaves-away}
use Rattle.hs_repeat.proofs.DistanceLemmas.{Moves, away-moves, away-none}

-- where the distance is 0, no entry lives
pub first-none : (n : ℕ) (Away : ℕ → Type 0) (value : ℕ) → 0 < n → ((d : ℕ) → Away d → 0 < d) → IsFirstDistance n Away value → value ≡ 0 → (d : ℕ) → Away d → ⊥
first-none n Away value some_bytes positive (none zero nothing) is d away = nothing d away
first-none n Away value some_bytes positive (some far greatest equal) is d away =
    let ahead : 0 < far = positive far greatest.holds in
    omega arith

pub first-entered : (n : ℕ) (Away Later : ℕ → Type 0) (entering : Bool) (value : ℕ) → 0 < n → Moves Away Later entering → IsFirstDistance n Away value → value ≡ 0 → entering ≡ true → IsFirstDistance n Later 1
first-entered n Away Later entering value some_bytes moves first is enters =
    some 1 (record {
      holds = moves.enters enters;
      greatest = λ m later. elim (moves.only m later) [
        | inl (one, _) ↦ omega arith
        | inr (e, away, _) ↦ absurd (first-none n Away value some_bytes moves.positive first is e away)
      ];
    }) (omega arith)

pub first-rests : (n : ℕ) (Away Later : ℕ → Type 0) (entering : Bool) (value : ℕ) → 0 < n → Moves Away Later entering → IsFirstDistance n Away value → value ≡ 0 → entering ≡ false → IsFirstDistance n Later 0
first-rests n Away Later entering value some_bytes moves first is out =
    none refl (λ d later. elim (moves.only d later) [
      | inl (_, enters) ↦ (let e : true ≡ false = sym enters ∙ out in cc)
      | inr (e, away, _) ↦ first-none n Away value some_bytes moves.positive first is e away
    ])

-- one farther, up to the bound
pub first-farther : (n : ℕ) (Away Later : ℕ → Type 0) (entering : Bool) (value new : ℕ) → 0 < n → Moves Away Later entering → IsFirstDistance n Away value → 0 < value → new ≡ min n (value + 1) → IsFirstDistance n Later new
first-farther n Away Later entering value new some_bytes moves (none zero nothing) ahead is = absurd (omega arith)
first-farther n Away Later entering value new some_bytes moves (some far greatest equal) ahead is =
    some (far + 1) (record {
      holds = moves.kept far greatest.holds;
      greatest = λ m later. elim (moves.only m later) [
        | inl (one, _) ↦ omega arith
        | inr (e, away, next) ↦
            let below : e ≤ far = greatest.greatest e away in
            omega arith
      ];
    }) (omega arith)

-- at the bound just where the repeat is left

pub first-full : (n : ℕ) (Away : ℕ → Type 0) (value : ℕ) → 0 < n → IsFirstDistance n Away value → value ≡ n → (d : ℕ) × Away d × (n ≤ d)
first-full n Away value some_bytes (none zero nothing) is = absurd (omega arith)
first-full n Away value some_bytes (some far greatest equal) is = (far, greatest.holds, omega arith)

pub full-first : (n : ℕ) (Away : ℕ → Type 0) (value : ℕ) → IsFirstDistance n Away value → (d : ℕ) → Away d → n ≤ d → value ≡ n
full-first n Away value (none zero nothing) d away low = absurd (nothing d away)
full-first n Away value (some far greatest equal) d away low =
    let below : d ≤ far = greatest.greatest d away in
    omega arith

module _ (set : ByteSet) (n : ℕ) (some_bytes : 0 < n) (u : List ℕ) (entered : List Bool) (value : ℕ) (first : IsFirstDistance n (IsAway (members set) u entered) value) where
  pub first-leaves : (next : Next) → value ≡ n → Leaves (repeat (class (members set)) n None) u entered next
  first-leaves next full =
      let (d, away, low) = first-full n (IsAway (members set) u entered) value some_bytes first full in
      away-leaves (members set) n None u entered next d away low tt

  pub leaves-first : (next : Next) → Leaves (repeat (class (members set)) n None) u entered next → value ≡ n
  leaves-first next leaves =
      let (d, away, low, _) = leaves-away (members set) n None u entered next leaves in
      full-first n (IsAway (members set) u entered) value first d away low

-- a row at rest

module _ (set : ByteSet) (n : ℕ) (some_bytes : 0 < n) (bytes : List ℕ) where
  first-empty : distance_of bytes ≡ 0 → LeavesNothing (first_meaning set n) bytes
  first-empty zero_row tree u entered is len first next leaves =
      let full : distance_of bytes ≡ n = leaves-first set n some_bytes u entered (distance_of bytes) first next (subst (λ t. Leaves t u entered next) is leaves) in
      omega arith

  first-outside : distance_of bytes ≡ 0 → (u : List ℕ) (entered : List Bool) (len : length entered ≡ length u) (b : ℕ) (byte : b < 256) (entering : Bool) → has set b ≡ false →
      IsFirstRow n (members set) bytes (u ++ b ∷ []) (entered ++ entering ∷ [])
  first-outside zero_row u entered len b byte entering isnt = none zero_row (away-none set u entered len b byte entering isnt)

  first-stays : distance_of bytes ≡ 0 → (u : List ℕ) (entered : List Bool) (len : length entered ≡ length u) (b : ℕ) (byte : b < 256) → IsFirstRow n (members set) bytes u entered → (inside : Bool) → has set b ≡ inside →
      IsFirstRow n (members set) bytes (u ++ b ∷ []) (entered ++ false ∷ [])
  first-stays zero_row u entered len b byte first false isnt = first-outside zero_row u entered len b byte false isnt
  first-stays zero_row u entered len b byte first true is =
      subst (IsFirstDistance n (IsAway (members set) (u ++ b ∷ []) (entered ++ false ∷ []))) (sym zero_row)
      (first-rests n (IsAway (members set) u entered) (IsAway (members set) (u ++ b ∷ []) (entered ++ false ∷ [])) false (distance_of bytes) some_bytes (away-moves set u entered len b byte false is) first zero_row refl)

  pub first-quiet : distance_of bytes ≡ 0 → IsQuiet (first_meaning set n) bytes
  first-quiet zero_row = record {
    stays = λ never b byte tree u entered is len first. first-stays zero_row u entered len b byte first (has set b) refl;
    leaves_nothing = first-empty zero_row;
  }

  start-zero : IsStart (first_meaning set n) bytes → distance_of bytes ≡ 0
  start-zero start =
      let early = first-within n (members set) [] [] (distance_of bytes) (start (repeat (class (members set)) n None) refl) in
      let least : distance_of bytes ≤ 0 = early.within in
      omega arith

  pub first-asleep : (b : ℕ) → IsStart (first_meaning set n) bytes → b < 256 → has set b ≡ false → IsAsleep (first_meaning set n) bytes b
  first-asleep b start byte isnt = record {
    stays = λ enters tree u entered is len first. first-outside (start-zero start) u entered len b byte enters isnt;
    leaves_nothing = first-empty (start-zero start);
  }
