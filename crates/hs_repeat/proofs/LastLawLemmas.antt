-- What a distance says of each history, over a byte and over a block.
use Rattle.std.proofs.Common.{◌≡◌, ◌≢◌, ◌↔◌, ℕ, zero, suc, ◌+◌, ◌<◌, ◌≤◌, Bool, true, false, not, eqb, List, [], ◌∷◌, ◌++◌, length, get_or, take, refl, sym, ap, subst, ◌∙◌, inl, inr, arith}
use Rattle.std.proofs.lemmas.Bool.{cases_eq, cases_lt, eq-eqb, ne_eqb}
use Rattle.std.proofs.lemmas.List.{append-nil}
use Rattle.hs_base.specs.declared.byte_set.ByteSet.{ByteSet}
use Rattle.hs_base.specs.ByteSets.{has, members}
use Rattle.hs_base.specs.Fields.{Leaves}
use Rattle.hs_base.specs.RepeatRows.{IsAway, IsLastDistance}
use Rattle.hs_base.specs.RepeatRows.IsLastDistance.{none}
use Rattle.hs_bits.specs.WordBits.{bits_of, one_later, word_bit}
use Rattle.hs_bits.proofs.BlockLemmas.{block-more, entered-more, length-block, length-entered}
use Rattle.hs_repeat.specs.RepeatBlocks.{TakesDistances, distance_behind}
use Rattle.hs_repeat.specs.RepeatLaws.{StayWithin, LastDistanceMoves, LastDistancesAreOfHistories, LastDistancesStayWithin, LastBlocksTellLeaving, LastIsLeftByDistance}
use Rattle.hs_repeat.proofs.DistanceLemmas.{Moves, away-moves, away-none, positive}
use Rattle.hs_repeat.proofs.LastLemmas.{last-entered, last-farther, last-leaves, last-lost, last-rests, leaves-last}
use Rattle.hs_repeat.proofs.LastWalkLemmas.{behind-farther, behind-lost, behind-none, behind-within}

-- over a byte of the set
inside-moves : (bound d : ℕ) (Away Later : ℕ → Type 0) (enters : Bool) → 0 < bound → Moves Away Later enters → IsLastDistance bound Away d → IsLastDistance bound Later (distance_behind bound d enters true)
inside-moves bound d Away Later true some moves last = last-entered bound Away Later true some moves refl
inside-moves bound d Away Later false some moves last =
    elim (cases_eq d 0) [
      | inl zero_is ↦ subst (IsLastDistance bound Later) (sym (behind-none bound d false true refl refl zero_is)) (last-rests bound Away Later false d moves last zero_is refl)
      | inr ahead ↦
          elim (cases_lt d bound) [
            | inl below ↦
                subst (IsLastDistance bound Later) (sym (behind-farther bound d false true refl refl (positive d ahead) below))
                (last-farther bound Away Later false d moves last (positive d ahead) below refl)
            | inr full ↦
                subst (IsLastDistance bound Later) (sym (behind-lost bound d false true refl refl full)) (last-lost bound Away Later false d moves last (positive d ahead) full refl)
          ]
    ]

moves-by : (set : ByteSet) (bound d : ℕ) (u : List ℕ) (entered : List Bool) (b : ℕ) (enters inside : Bool) → 0 < bound → b < 256 → length entered ≡ length u → has set b ≡ inside → IsLastDistance bound (IsAway (members set) u entered) d →
    IsLastDistance bound (IsAway (members set) (u ++ b ∷ []) (entered ++ enters ∷ [])) (distance_behind bound d enters inside)
moves-by set bound d u entered b enters false some byte len is last = none refl (λ e away within. away-none set u entered len b byte enters is e away)
moves-by set bound d u entered b enters true some byte len is last =
    inside-moves bound d (IsAway (members set) u entered) (IsAway (members set) (u ++ b ∷ []) (entered ++ enters ∷ [])) enters some (away-moves set u entered len b byte enters is) last

pub last-moves : LastDistanceMoves
last-moves set bound d u entered b enters some byte len last = moves-by set bound d u entered b enters (has set b) some byte len refl last

-- the same where the new distance is that behind the byte, and the two tell alike whether it is entered
pub last-step : (set : ByteSet) (bound old read moved new : ℕ) (u : List ℕ) (entered : List Bool) (b : ℕ) (enters counts : Bool) → 0 < bound → b < 256 → length entered ≡ length u →
    read ≡ old → new ≡ moved → moved ≡ distance_behind bound read enters (has set b) → enters ≡ counts → IsLastDistance bound (IsAway (members set) u entered) old →
    IsLastDistance bound (IsAway (members set) (u ++ b ∷ []) (entered ++ counts ∷ [])) new
last-step set bound old read moved new u entered b enters counts some byte len same written is alike last =
    let e : new ≡ distance_behind bound old counts (has set b) = written ∙ (is ∙ (ap (λ d. distance_behind bound d enters (has set b)) same ∙ ap (λ e. distance_behind bound old e (has set b)) alike)) in
    subst (IsLastDistance bound (IsAway (members set) (u ++ b ∷ []) (entered ++ counts ∷ []))) (sym e) (last-moves set bound old u entered b counts some byte len last)

-- over a block

pub last-through : LastDistancesAreOfHistories
last-through set bound old new enters bytes left some fits takes u entered len last i within = up-to i within
  where
    up-to : (i : ℕ) → i ≤ length bytes → IsLastDistance bound (IsAway (members set) (u ++ take i bytes) (entered ++ bits_of enters i)) (takes.distances i)
    up-to zero within =
        subst (IsLastDistance bound (IsAway (members set) (u ++ []) (entered ++ []))) (sym takes.first)
        (subst (λ w. IsLastDistance bound (IsAway (members set) w (entered ++ [])) old) (sym (append-nil u)) (subst (λ e. IsLastDistance bound (IsAway (members set) u e) old) (sym (append-nil entered)) last))
    up-to (suc i) within =
        let e : i + 1 ≡ suc i = omega arith in
        let below : i < length bytes = omega arith in
        let long : length (entered ++ bits_of enters i) ≡ length (u ++ take i bytes) = omega (arith, length-entered entered enters i, length-block u bytes i (omega arith)) in
        let moved = last-moves set bound (takes.distances i) (u ++ take i bytes) (entered ++ bits_of enters i) (get_or bytes i 0) (word_bit enters i) some (fits i below) long (up-to i (omega arith)) in
        subst (λ k. IsLastDistance bound (IsAway (members set) (u ++ take k bytes) (entered ++ bits_of enters k)) (takes.distances k)) e
        (subst (IsLastDistance bound (IsAway (members set) (u ++ take (i + 1) bytes) (entered ++ bits_of enters (i + 1)))) (sym (takes.moves i below))
        (subst (λ w. IsLastDistance bound (IsAway (members set) w (entered ++ bits_of enters (i + 1))) (distance_behind bound (takes.distances i) (word_bit enters i) (has set (get_or bytes i 0)))) (block-more u bytes i below)
        (subst (λ v. IsLastDistance bound (IsAway (members set) ((u ++ take i bytes) ++ get_or bytes i 0 ∷ []) v) (distance_behind bound (takes.distances i) (word_bit enters i) (has set (get_or bytes i 0)))) (entered-more entered enters i) moved)))

pub stay-within : LastDistancesStayWithin
stay-within set bound old new enters bytes left some low takes i within = up-to i within
  where
    up-to : (i : ℕ) → i ≤ length bytes → StayWithin bound old takes.distances i
    up-to zero within = record { bounded = omega (arith, takes.first); within = omega (arith, takes.first) }
    up-to (suc i) within =
        let before = up-to i (omega arith) in
        let so_far : takes.distances i ≤ old + i = before.within in
        let e : i + 1 ≡ suc i = omega arith in
        let moved : takes.distances (suc i) ≡ distance_behind bound (takes.distances i) (word_bit enters i) (has set (get_or bytes i 0)) = ap takes.distances (sym e) ∙ takes.moves i (omega arith) in
        let (bounded, more) = behind-within bound (takes.distances i) (word_bit enters i) (has set (get_or bytes i 0)) some in
        record { bounded = omega arith; within = omega arith }

-- where it is left

pub left-by : LastIsLeftByDistance
left-by set bound d tree u entered next (inl is) last =
    (λ ahead. subst (λ t. Leaves t u entered next) (sym is) (last-leaves set 0 bound (omega arith) u entered d last next (positive d ahead)), λ leaves. leaves-last set 0 bound (omega arith) u entered d last next (subst (λ t. Leaves t u entered next) is leaves))
left-by set bound d tree u entered next (inr is) last =
    (λ ahead. subst (λ t. Leaves t u entered next) (sym is) (last-leaves set 1 bound (omega arith) u entered d last next (positive d ahead)), λ leaves. leaves-last set 1 bound (omega arith) u entered d last next (subst (λ t. Leaves t u entered next) is leaves))

-- the bit before each place is whether the distance isn't 0 there

pub left-before : (set : ByteSet) (bound old new enters : ℕ) (bytes : List ℕ) (left : ℕ) (takes : TakesDistances set bound old new enters bytes left) (i : ℕ) → i < length bytes →
    one_later (not (eqb old 0)) (word_bit left) i ≡ not (eqb (takes.distances i) 0)
left-before set bound old new enters bytes left takes zero below = ap (λ d. not (eqb d 0)) (sym takes.first)
left-before set bound old new enters bytes left takes (suc i) below =
    let e : i + 1 ≡ suc i = omega arith in
    takes.left_is i (omega arith) ∙ ap (λ k. not (eqb (takes.distances k) 0)) e

isnt-zero : (d : ℕ) (P : Type 0) (bit : Bool) → bit ≡ not (eqb d 0) → (d ≢ 0) ↔ P → (bit ≡ true) ↔ P
isnt-zero d P bit is by =
    elim (cases_eq d 0) [
      | inl zero_is ↦
          let off : bit ≡ false = is ∙ ap not (eq-eqb d 0 zero_is) in
          (λ on. absurd (let e : true ≡ false = sym on ∙ off in cc), λ holds. absurd (by.1 holds zero_is))
      | inr some ↦ (λ on. by.0 some, λ holds. is ∙ ap not (ne_eqb d 0 some))
    ]

pub tells-leaving : LastBlocksTellLeaving
tells-leaving set bound old new enters bytes left some fits takes tree u entered is len last = record {
  before = λ i next below.
      isnt-zero (takes.distances i) (Leaves tree (u ++ take i bytes) (entered ++ bits_of enters i) next) (one_later (not (eqb old 0)) (word_bit left) i) (left-before set bound old new enters bytes left takes i below)
      (left-by set bound (takes.distances i) tree (u ++ take i bytes) (entered ++ bits_of enters i) next is (last-through set bound old new enters bytes left some fits takes u entered len last i (omega arith)));
  behind = λ i next below.
      isnt-zero (takes.distances (i + 1)) (Leaves tree (u ++ take (i + 1) bytes) (entered ++ bits_of enters (i + 1)) next) (word_bit left i) (takes.left_is i below)
      (left-by set bound (takes.distances (i + 1)) tree (u ++ take (i + 1) bytes) (entered ++ bits_of enters (i + 1)) next is (last-through set bound old new enters bytes left some fits takes u entered len last (i + 1) (omega arith)));
}
