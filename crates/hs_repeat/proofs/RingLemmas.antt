-- The bits of the last offsets, as they move over a byte.
use Rattle.std.proofs.Common.{◌≡◌, ℕ, ◌+◌, ◌-◌, ◌*◌, ◌%◌, ◌<◌, ◌≤◌, Bool, true, false, eqb, refl, sym, ap, subst, ◌∙◌, inl, inr, arith, List, [], ◌∷◌, ◌++◌, length, length-append}
use Rattle.std.specs.Prelude.{min, Some, if◌then◌else◌}
use Rattle.std.proofs.lemmas.Bool.{cases_eq, cases_lt, eq-eqb, ne_eqb}
use Rattle.std.proofs.Math.Nat.{mod-le, mod-lt}
use Rattle.hs_base.specs.declared.byte_set.ByteSet.{ByteSet}
use Rattle.hs_base.specs.ByteSets.{has, members}
use Rattle.hs_base.specs.Fields.{Leaves}
use Rattle.hs_base.specs.Trees.{class, repeat}
use Rattle.hs_base.specs.Bits.{AreZero, has_bit}
use Rattle.hs_engine.specs.Engines.{IsAsleep, IsQuiet, IsStart, LeavesNothing}
use Rattle.hs_repeat.specs.RepeatMeanings.{ring_meaning}
use Rattle.hs_base.proofs.RepeatRowLemmas.{ring-within}
use Rattle.hs_bits.specs.BitRanges.{HasBitIn, HasBitRound}
use Rattle.hs_base.specs.RepeatRows.{IsAway}
use Rattle.hs_base.specs.RepeatRows.{IsHeld, IsRingAt, IsRingRow}
use Rattle.hs_bits.proofs.BitRangeLemmas.{bits-none}
use Rattle.hs_base.proofs.BitLemmas.{zero-bits}
use Rattle.hs_repeat.proofs.EntryLemmas.{leaves-away, unbroken-kept, unbroken-new, unbroken-only, unbroken-none}
use Rattle.hs_repeat.proofs.PlaceLemmas.{ahead-place, round-place, same-place}

pub clash : {A : Type 0} (b : Bool) → b ≡ true → b ≡ false → A
clash b is isnt = absurd (let e : true ≡ false = sym is ∙ isnt in cc)

-- the bits with that of one place rewritten
abbrev pub IsWritten : (old new : List ℕ) (place : ℕ) (value : Bool) → Type 0
IsWritten old new place value = (k : ℕ) → has_bit new k ≡ (if eqb k place then value else has_bit old k)

written-here : (old new : List ℕ) (place : ℕ) (value : Bool) → IsWritten old new place value → (k : ℕ) → k ≡ place → has_bit new k ≡ value
written-here old new place value bits k same = bits k ∙ rw (eq-eqb k place same) refl

written-else : (old new : List ℕ) (place : ℕ) (value : Bool) → IsWritten old new place value → (k : ℕ) → (k ≡ place → ⊥) → has_bit new k ≡ has_bit old k
written-else old new place value bits k apart = bits k ∙ rw (ne_eqb k place apart) refl

-- a byte of the set

module _ (set : ByteSet) (m : ℕ) (some : 0 < m) (u : List ℕ) (entered : List Bool) (len : length entered ≡ length u) (b : ℕ) (byte : b < 256) (entering : Bool) (is : has set b ≡ true)
    (old new : List ℕ) (row : IsRingRow m (members set) old u entered) (bits : IsWritten old new (length u % m) entering) where
  here-held : (k : ℕ) → k ≡ length u % m → entering ≡ true → IsHeld m (members set) (u ++ b ∷ []) (entered ++ entering ∷ []) k
  here-held k same enters = record {
    from = length u;
    unbroken = unbroken-new set u entered len b byte entering is enters;
    recent = omega (arith, length-append u (b ∷ []));
    place = sym same;
  }

  else-held : (k : ℕ) → (k ≡ length u % m → ⊥) → IsHeld m (members set) u entered k → IsHeld m (members set) (u ++ b ∷ []) (entered ++ entering ∷ []) k
  else-held k apart held =
      let recent : length u ≤ held.from + m = held.recent in
      elim (cases_eq (length u) (held.from + m)) [
        | inl far ↦ absurd (apart (sym held.place ∙ sym (round-place m held.from (length u) far)))
        | inr near ↦ record {
          from = held.from;
          unbroken = unbroken-kept set u entered len b byte entering is held.from held.unbroken;
          recent = omega (arith, length-append u (b ∷ []));
          place = held.place;
        }
      ]

  -- an entry at the place of the byte is that of the byte
  held-here : (k : ℕ) → k ≡ length u % m → IsHeld m (members set) (u ++ b ∷ []) (entered ++ entering ∷ []) k → entering ≡ true
  held-here k same held =
      elim (unbroken-only set u entered len b byte entering held.from held.unbroken) [
        | inl (_, enters) ↦ enters
        | inr unbroken ↦
            let before : held.from < length u = unbroken.before in
            let recent : length (u ++ b ∷ []) ≤ held.from + m = held.recent in
            let e : held.from ≡ length u = same-place m held.from (length u) (omega arith) (omega (arith, length-append u (b ∷ []))) (held.place ∙ same) in
            absurd (omega arith)
      ]

  held-else : (k : ℕ) → (k ≡ length u % m → ⊥) → IsHeld m (members set) (u ++ b ∷ []) (entered ++ entering ∷ []) k → IsHeld m (members set) u entered k
  held-else k apart held =
      elim (unbroken-only set u entered len b byte entering held.from held.unbroken) [
        | inl (last, _) ↦ absurd (apart (sym held.place ∙ ap (λ n. n % m) last))
        | inr unbroken ↦
            let recent : length (u ++ b ∷ []) ≤ held.from + m = held.recent in
            record { from = held.from; unbroken = unbroken; recent = omega (arith, length-append u (b ∷ [])); place = held.place }
      ]

  pub ring-in : IsRingRow m (members set) new (u ++ b ∷ []) (entered ++ entering ∷ [])
  ring-in k =
      elim (cases_eq k (length u % m)) [
        | inl same ↦
            let e : has_bit new k ≡ entering = written-here old new (length u % m) entering bits k same in
            (λ set_bit. here-held k same (sym e ∙ set_bit), λ held. e ∙ held-here k same held)
        | inr apart ↦
            let e : has_bit new k ≡ has_bit old k = written-else old new (length u % m) entering bits k apart in
            let whole = row k in
            (λ set_bit. else-held k apart (whole.0 (sym e ∙ set_bit)), λ held. e ∙ whole.1 (held-else k apart held))
      ]

-- any byte, behind which no bit is set

pub ring-out : (set : ByteSet) (m : ℕ) (u : List ℕ) (entered : List Bool) → length entered ≡ length u → (b : ℕ) → b < 256 → (entering : Bool) → has set b ≡ false → (new : List ℕ) → ((k : ℕ) → has_bit new k ≡ false) →
    IsRingRow m (members set) new (u ++ b ∷ []) (entered ++ entering ∷ [])
ring-out set m u entered len b byte entering isnt new none k =
    (λ set_bit. clash (has_bit new k) set_bit (none k), λ held. absurd (unbroken-none set u entered len b byte entering isnt held.from held.unbroken))

pub ring-start : (set : List Bool) (m : ℕ) (new : List ℕ) → AreZero new → IsRingRow m set new [] []
ring-start set m new zeros k =
    (λ set_bit. clash (has_bit new k) set_bit (zero-bits new zeros k), λ held. absurd (let before : held.from < 0 = held.unbroken.before in omega arith))

-- which bits may be set

pub zero-ring : (m : ℕ) (new : List ℕ) (at : ℕ) → AreZero new → IsRingAt m new at
zero-ring m new at zeros = record { spare = λ k _. zero-bits new zeros k; early = λ k _. zero-bits new zeros k }

pub written-ring : (m : ℕ) (old new : List ℕ) (at : ℕ) (value : Bool) → 0 < m → IsRingAt m old at → IsWritten old new (at % m) value → IsRingAt m new (at + 1)
written-ring m old new at value some well bits =
    let within : at % m < m = mod-lt at some in
    let low : at % m ≤ at = mod-le at m in
    record {
      spare = λ k above. written-else old new (at % m) value bits k (λ same. omega arith) ∙ well.spare k above;
      early = λ k above. written-else old new (at % m) value bits k (λ same. omega arith) ∙ well.early k (omega arith);
    }

-- told by whether a bit from the lesser of both on is set
pub ring-fits : (m : ℕ) (bytes : List ℕ) (at places : ℕ) → places ≡ min m at → (HasBitIn bytes places (8 * length bytes) → ⊥) → IsRingAt m bytes at
ring-fits m bytes at places lesser none = record {
  spare = λ k above. bits-none bytes places none k (omega arith);
  early = λ k above. bits-none bytes places none k (omega arith);
}

pub fits-ring : (m : ℕ) (bytes : List ℕ) (at places : ℕ) → places ≡ min m at → IsRingAt m bytes at → HasBitIn bytes places (8 * length bytes) → ⊥
fits-ring m bytes at places lesser well some =
    let above : places ≤ some.bit = some.above in
    elim (cases_lt some.bit m) [
      | inl below ↦
          let late : at ≤ some.bit = omega arith in
          clash (has_bit bytes some.bit) some.set (well.early some.bit late)
      | inr past ↦ clash (has_bit bytes some.bit) some.set (well.spare some.bit past)
    ]

-- entries from one distance to another

module _ (set : List Bool) (m : ℕ) (some : 0 < m) (u : List ℕ) (entered : List Bool) (bytes : List ℕ) (row : IsRingRow m set bytes u entered) where
  away-bit : (d : ℕ) (away : IsAway set u entered d) → d ≤ m → has_bit bytes (away.from % m) ≡ true
  away-bit d away within =
      let ends : away.from + d ≡ length u = away.ends in
      let whole = row (away.from % m) in
      whole.1 (record { from = away.from; unbroken = away.unbroken; recent = omega arith; place = refl })

  pub round-away : (near far count : ℕ) → near + count ≡ far + 1 → far ≤ m → far ≤ length u → 0 < near → HasBitRound bytes m ((length u - far) % m) count →
      (d : ℕ) × IsAway set u entered d × (near ≤ d) × (d ≤ far)
  round-away near far count counts within short ahead_of round =
      let below : round.ahead < count = round.below in
      let q : ℕ = length u - far + round.ahead in
      let place : ((length u - far) % m + round.ahead) % m ≡ q % m = ahead-place m (length u - far) round.ahead q refl in
      let whole = row (((length u - far) % m + round.ahead) % m) in
      let held : IsHeld m set u entered (((length u - far) % m + round.ahead) % m) = whole.0 round.set in
      let before : held.from < length u = held.unbroken.before in
      let recent : length u ≤ held.from + m = held.recent in
      let e : held.from ≡ q = same-place m held.from q (omega arith) (omega arith) (held.place ∙ place) in
      (length u - held.from, record { from = held.from; ends = omega arith; unbroken = held.unbroken }, omega arith, omega arith)

  pub away-round : (near far count d : ℕ) → near + count ≡ far + 1 → far ≤ m → far ≤ length u → IsAway set u entered d → near ≤ d → d ≤ far → HasBitRound bytes m ((length u - far) % m) count
  away-round near far count d counts within short away low high =
      let ends : away.from + d ≡ length u = away.ends in
      let place : ((length u - far) % m + (far - d)) % m ≡ away.from % m = ahead-place m (length u - far) (far - d) away.from (omega arith) in
      record {
        ahead = far - d;
        below = omega arith;
        set = subst (λ p. has_bit bytes p ≡ true) (sym place) (away-bit d away (omega arith));
      }

  pub none-away : ((k : ℕ) → has_bit bytes k ≡ false) → (d : ℕ) → IsAway set u entered d → d ≤ m → ⊥
  none-away none d away within = clash (has_bit bytes (away.from % m)) (away-bit d away within) (none (away.from % m))

pub zero-round : (bytes : List ℕ) (size first count : ℕ) → AreZero bytes → HasBitRound bytes size first count → ⊥
zero-round bytes size first count zeros round = clash (has_bit bytes ((first + round.ahead) % size)) round.set (zero-bits bytes zeros ((first + round.ahead) % size))

-- a row at rest

module _ (set : ByteSet) (n m : ℕ) (some : 0 < m) (bytes : List ℕ) where
  ring-empty : AreZero bytes → LeavesNothing (ring_meaning set n m) bytes
  ring-empty zeros tree u entered is len row next leaves =
      let (d, away, low, high) = leaves-away (members set) n (Some m) u entered next (subst (λ t. Leaves t u entered next) is leaves) in
      none-away (members set) m some u entered bytes row (zero-bits bytes zeros) d away high

  ring-stays : AreZero bytes → (u : List ℕ) (entered : List Bool) (len : length entered ≡ length u) (b : ℕ) (byte : b < 256) → IsRingRow m (members set) bytes u entered → (inside : Bool) → has set b ≡ inside →
      IsRingRow m (members set) bytes (u ++ b ∷ []) (entered ++ false ∷ [])
  ring-stays zeros u entered len b byte row false isnt = ring-out set m u entered len b byte false isnt bytes (zero-bits bytes zeros)
  ring-stays zeros u entered len b byte row true is =
      ring-in set m some u entered len b byte false is bytes bytes row (λ k.
      elim (cases_eq k (length u % m)) [
        | inl same ↦ rw (eq-eqb k (length u % m) same) (zero-bits bytes zeros k)
        | inr apart ↦ rw (ne_eqb k (length u % m) apart) refl
      ])

  pub ring-quiet : AreZero bytes → IsQuiet (ring_meaning set n m) bytes
  ring-quiet zeros = record {
    stays = λ never b byte tree u entered is len row. ring-stays zeros u entered len b byte row (has set b) refl;
    leaves_nothing = ring-empty zeros;
  }

  start-none : IsStart (ring_meaning set n m) bytes → (k : ℕ) → has_bit bytes k ≡ false
  start-none start k =
      let early = ring-within m (members set) [] [] bytes (start (repeat (class (members set)) n (Some m)) refl) in
      early.early k (omega arith)

  pub ring-asleep : (b : ℕ) → IsStart (ring_meaning set n m) bytes → b < 256 → has set b ≡ false → IsAsleep (ring_meaning set n m) bytes b
  ring-asleep b start byte isnt = record {
    stays = λ enters tree u entered is len row. ring-out set m u entered len b byte enters isnt bytes (start-none start);
    leaves_nothing = λ tree u entered is len row next leaves.
        let (d, away, low, high) = leaves-away (members set) n (Some m) u entered next (subst (λ t. Leaves t u entered next) is leaves) in
        none-away (members set) m some u entered bytes row (start-none start) d away high;
  }
