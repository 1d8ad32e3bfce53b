-- The nearest distance, as it moves over a byte.
use Rattle.std.proofs.Common.{◌≡◌, ℕ, ◌+◌, ◌<◌, ◌≤◌, Bool, true, false, refl, sym, subst, ◌∙◌, inl, inr, arith, List, [], ◌∷◌, ◌++◌, length}
use Rattle.std.specs.Prelude.{Some}
use Rattle.hs_base.specs.declared.byte_set.ByteSet.{ByteSet}
use Rattle.hs_base.specs.declared.context.Next.{Next}
use Rattle.hs_base.specs.ByteSets.{has, members}
use Rattle.hs_base.specs.Fields.{Leaves}
use Rattle.hs_base.specs.Trees.{Tree, class, repeat}
use Rattle.hs_base.specs.RepeatRows.{IsAway}
use Rattle.hs_base.specs.RepeatRows.{IsLastDistance, IsLastRow, distance_of}
use Rattle.hs_base.specs.RepeatRows.IsLastDistance.{none, some}
use Rattle.hs_engine.specs.Engines.{IsAsleep, IsQuiet, IsStart}
use Rattle.hs_repeat.specs.Repeats.{IsLastOf}
use Rattle.hs_repeat.specs.RepeatMeanings.{last_meaning}
use Rattle.hs_base.proofs.RepeatRowLemmas.{last-within}
use Rattle.hs_repeat.proofs.EntryLemmas.{away-leaves, leaves-away}
use Rattle.hs_repeat.proofs.DistanceLemmas.{Moves, away-moves, away-none, away-positive}

pub last-none : (m : ℕ) (Away : ℕ → Type 0) (value : ℕ) → ((d : ℕ) → Away d → 0 < d) → IsLastDistance m Away value → value ≡ 0 → (d : ℕ) → Away d → d ≤ m → ⊥
last-none m Away value positive (none zero nothing) is d away within = nothing d away within
last-none m Away value positive (some near within) is d away high =
    let ahead : 0 < value = positive value near.holds in
    omega arith

pub last-entered : (m : ℕ) (Away Later : ℕ → Type 0) (entering : Bool) → 0 < m → Moves Away Later entering → entering ≡ true → IsLastDistance m Later 1
last-entered m Away Later entering some_bytes moves enters =
    some (record {
      holds = moves.enters enters;
      least = λ d later. elim (moves.only d later) [
        | inl (one, _) ↦ omega arith
        | inr (e, away, next) ↦ omega arith
      ];
    }) (omega arith)

-- no entry is near enough, behind the byte
pub last-far : (m : ℕ) (Away Later : ℕ → Type 0) (entering : Bool) → Moves Away Later entering → entering ≡ false → ((d : ℕ) → Away d → d < m → ⊥) → IsLastDistance m Later 0
last-far m Away Later entering moves out far =
    none refl (λ d later within. elim (moves.only d later) [
      | inl (_, enters) ↦ (let e : true ≡ false = sym enters ∙ out in cc)
      | inr (e, away, next) ↦ far e away (omega arith)
    ])

pub last-rests : (m : ℕ) (Away Later : ℕ → Type 0) (entering : Bool) (value : ℕ) → Moves Away Later entering → IsLastDistance m Away value → value ≡ 0 → entering ≡ false → IsLastDistance m Later 0
last-rests m Away Later entering value moves last is out =
    last-far m Away Later entering moves out (λ d away below. last-none m Away value moves.positive last is d away (omega arith))

-- at the bound the nearest entry is lost, and the others with it
pub last-lost : (m : ℕ) (Away Later : ℕ → Type 0) (entering : Bool) (value : ℕ) → Moves Away Later entering → IsLastDistance m Away value → 0 < value → m ≤ value → entering ≡ false → IsLastDistance m Later 0
last-lost m Away Later entering value moves (none zero nothing) ahead full out = absurd (omega arith)
last-lost m Away Later entering value moves (some near within) ahead full out =
    last-far m Away Later entering moves out (λ d away below. let above : value ≤ d = near.least d away in omega arith)

-- one farther
pub last-farther : (m : ℕ) (Away Later : ℕ → Type 0) (entering : Bool) (value : ℕ) → Moves Away Later entering → IsLastDistance m Away value → 0 < value → value < m → entering ≡ false → IsLastDistance m Later (value + 1)
last-farther m Away Later entering value moves (none zero nothing) ahead below out = absurd (omega arith)
last-farther m Away Later entering value moves (some near within) ahead below out =
    some (record {
      holds = moves.kept value near.holds;
      least = λ d later. elim (moves.only d later) [
        | inl (_, enters) ↦ absurd (let e : true ≡ false = sym enters ∙ out in cc)
        | inr (e, away, next) ↦
            let above : value ≤ e = near.least e away in
            omega arith
      ];
    }) (omega arith)

-- not 0 just where the repeat is left

last-near : (m : ℕ) (Away : ℕ → Type 0) (value : ℕ) → IsLastDistance m Away value → 0 < value → Away value × (value ≤ m)
last-near m Away value (none zero nothing) ahead = absurd (omega arith)
last-near m Away value (some near within) ahead = (near.holds, within)

module _ (set : ByteSet) (n m : ℕ) (low : n ≤ 1) (u : List ℕ) (entered : List Bool) (value : ℕ) (last : IsLastDistance m (IsAway (members set) u entered) value) where
  pub last-leaves : (next : Next) → 0 < value → Leaves (repeat (class (members set)) n (Some m)) u entered next
  last-leaves next ahead =
      let (away, high) = last-near m (IsAway (members set) u entered) value last ahead in
      away-leaves (members set) n (Some m) u entered next value away (omega arith) high

  pub leaves-last : (next : Next) → Leaves (repeat (class (members set)) n (Some m)) u entered next → value ≡ 0 → ⊥
  leaves-last next leaves zero =
      let (d, away, _, high) = leaves-away (members set) n (Some m) u entered next leaves in
      last-none m (IsAway (members set) u entered) value (away-positive (members set) u entered) last zero d away high

-- a row at rest

module _ (set : ByteSet) (m : ℕ) (bytes : List ℕ) where
  pub last-empty : distance_of bytes ≡ 0 → (tree : Tree) (u : List ℕ) (entered : List Bool) → IsLastOf set m tree → IsLastRow m (members set) bytes u entered → (next : Next) → Leaves tree u entered next → ⊥
  last-empty zero_row tree u entered (inl is) last next leaves =
      leaves-last set 0 m (omega arith) u entered (distance_of bytes) last next (subst (λ t. Leaves t u entered next) is leaves) zero_row
  last-empty zero_row tree u entered (inr is) last next leaves =
      leaves-last set 1 m (omega arith) u entered (distance_of bytes) last next (subst (λ t. Leaves t u entered next) is leaves) zero_row

  last-outside : distance_of bytes ≡ 0 → (u : List ℕ) (entered : List Bool) (len : length entered ≡ length u) (b : ℕ) (byte : b < 256) (entering : Bool) → has set b ≡ false →
      IsLastRow m (members set) bytes (u ++ b ∷ []) (entered ++ entering ∷ [])
  last-outside zero_row u entered len b byte entering isnt = none zero_row (λ d away within. away-none set u entered len b byte entering isnt d away)

  last-stays : distance_of bytes ≡ 0 → (u : List ℕ) (entered : List Bool) (len : length entered ≡ length u) (b : ℕ) (byte : b < 256) → IsLastRow m (members set) bytes u entered → (inside : Bool) → has set b ≡ inside →
      IsLastRow m (members set) bytes (u ++ b ∷ []) (entered ++ false ∷ [])
  last-stays zero_row u entered len b byte last false isnt = last-outside zero_row u entered len b byte false isnt
  last-stays zero_row u entered len b byte last true is =
      subst (IsLastDistance m (IsAway (members set) (u ++ b ∷ []) (entered ++ false ∷ []))) (sym zero_row)
      (last-rests m (IsAway (members set) u entered) (IsAway (members set) (u ++ b ∷ []) (entered ++ false ∷ [])) false (distance_of bytes) (away-moves set u entered len b byte false is) last zero_row refl)

  pub last-quiet : distance_of bytes ≡ 0 → IsQuiet (last_meaning set m) bytes
  last-quiet zero_row = record {
    stays = λ never b byte tree u entered is len last. last-stays zero_row u entered len b byte last (has set b) refl;
    leaves_nothing = λ tree u entered is len last. last-empty zero_row tree u entered is last;
  }

  start-zero : IsStart (last_meaning set m) bytes → distance_of bytes ≡ 0
  start-zero start =
      let early = last-within m (members set) [] [] (distance_of bytes) (start (repeat (class (members set)) 0 (Some m)) (inl refl)) in
      let least : distance_of bytes ≤ 0 = early.within in
      omega arith

  pub last-asleep : (b : ℕ) → IsStart (last_meaning set m) bytes → b < 256 → has set b ≡ false → IsAsleep (last_meaning set m) bytes b
  last-asleep b start byte isnt = record {
    stays = λ enters tree u entered is len last. last-outside (start-zero start) u entered len b byte enters isnt;
    leaves_nothing = λ tree u entered is len last. last-empty (start-zero start) tree u entered is last;
  }

-- a row that isn't at rest

pub left-last : (set : ByteSet) (m : ℕ) (bytes : List ℕ) → 0 < distance_of bytes → (tree : Tree) (u : List ℕ) (entered : List Bool) → IsLastOf set m tree → IsLastRow m (members set) bytes u entered → (next : Next) → Leaves tree u entered next
left-last set m bytes ahead tree u entered (inl is) last next =
    subst (λ t. Leaves t u entered next) (sym is) (last-leaves set 0 m (omega arith) u entered (distance_of bytes) last next ahead)
left-last set m bytes ahead tree u entered (inr is) last next =
    subst (λ t. Leaves t u entered next) (sym is) (last-leaves set 1 m (omega arith) u entered (distance_of bytes) last next ahead)
