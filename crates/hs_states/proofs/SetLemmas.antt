-- The states as sets of positions by bytes.
use Rattle.std.proofs.Common.{◌≡◌, ℕ, zero, suc, ◌+◌, ◌*◌, ◌/◌, ◌%◌, ◌<◌, ◌≤◌, false, ◌&&◌, List, [], ◌∷◌, ◌++◌, drop, take, length, get_or, eqb, nat_lt, Some, slice_get, refl, sym, ap, subst, ◌∙◌, inl, inr, arith, length-append, vec_len, map}
use Rattle.std.specs.Int.{bit_at}
use Rattle.std.proofs.lemmas.Bool.{cases_lt, le-ltb, lt-ltb}
use Rattle.std.proofs.lemmas.List.{get_or-take, get_or_past, length-take-le, length-drop, take-append-le, drop-append-le}
use Rattle.std.proofs.Math.Nat.{mul-le-mul_left, mul-suc}
use Rattle.std.proofs.Math.Seq.{drop-append_seam, get_or-append_right, take-length}
use Rattle.std.proofs.lemmas.Option.{get_or_from_slice_get, slice_get-get_or, slice_get_within, same_Some}
use Rattle.hs_base.specs.declared.context.Prev.{Prev}
use Rattle.hs_base.specs.declared.context.Prev.TheVariants as stands
use Rattle.hs_base.specs.Bits.{has_bit, has_word_bit}
use Rattle.hs_base.specs.Lists.{Each}
use Rattle.hs_base.specs.Trees.{Tree}
use Rattle.hs_base.specs.WrittenOut.{Core, write_out}
use Rattle.hs_base.specs.WrittenOut as written
use Rattle.hs_base.specs.AssertionTests.{has_assertion}
use Rattle.hs_base.proofs.BitLemmas.{bits-past}
use Rattle.hs_bits.proofs.WordLemmas.{and-none}
use Rattle.hs_engine.specs.declared.automaton.Automaton.{Automaton}
use Rattle.hs_engine.specs.Tables.{Runs}
use Rattle.hs_engine.proofs.AgreementLemmas.{get-seam}
use Rattle.hs_states.specs.AutomatonStates.{AreBuilt, state_of}
use Rattle.hs_states.specs.DfaStates.{AreStatesOf, DfaState, first_state, is_led_to, is_live, move_by, tests_of}
use Rattle.hs_states.specs.Footings.{HasPositionsBelow}
use Rattle.hs_states.specs.PackedSets.{ArePrevsTo, AreSetsTo, IsPackedSet, IsSetPushed, set_at}
use Rattle.hs_states.specs.StateSets.{AreSetsOf, IsSetOf, IsStateNumber, prev_of, state_count}
use Rattle.hs_states.specs.declared.footing.Footing.{Footing}
use Rattle.hs_states.specs.declared.state_sets.StateSets.{StateSets}
use Rattle.hs_states.proofs.BuildLemmas.{built-all, map-length}
use Rattle.hs_states.proofs.FootingLemmas.{IsStateAt, state-at}
use Rattle.hs_states.proofs.SoFarLemmas.{still-there}
use Rattle.hs_states.proofs.StateLemmas.{live-past, live-where, not-true, same-live, where-size}
use Rattle.hs_states.proofs.TransferLemmas.{states-of}

each-by_place : (bytes : List ℕ) → ((i : ℕ) → get_or bytes i 0 < 256) → Each (λ b. b < 256) bytes
each-by_place [] small = record {}
each-by_place (b ∷ bytes) small = (small 0, each-by_place bytes (λ i. small (suc i)))

-- the first bytes of a row that is stored

taken-bit : (width : ℕ) (words row : List ℕ) → length row ≡ 64 → width ≤ 64 → ((k : ℕ) → has_bit row k ≡ (nat_lt k 512 && has_word_bit words k)) →
    (k : ℕ) → k < 8 * width → has_bit (take width row) k ≡ has_word_bit words k
unfolding has_bit
taken-bit width words row len narrow bits k below =
    ap (λ n. eqb (bit_at n (k % 8)) 1) (get_or-take width row (k / 8) 0 (omega arith))
    ∙ (bits k ∙ ap (λ t. t && has_word_bit words k) (lt-ltb k 512 (omega arith)))

pub packed-set : (width : ℕ) (words row : List ℕ) → length row ≡ 64 → width ≤ 64 → ((i : ℕ) → i < width → get_or row i 0 < 256) → ((k : ℕ) → has_bit row k ≡ (nat_lt k 512 && has_word_bit words k)) →
    IsPackedSet width words (take width row)
packed-set width words row len narrow small bits =
    let size : length (take width row) ≡ width = length-take-le width row (omega (arith, len)) in
    record {
      size = size;
      small = each-by_place (take width row) (λ i.
          elim (cases_lt i width) [
            | inl below ↦ subst (λ b. b < 256) (sym (get_or-take width row i 0 below)) (small i below)
            | inr past ↦ subst (λ b. b < 256) (sym (get_or_past (take width row) i 0 (omega (arith, size)))) (omega arith)
          ]);
      bits = λ k.
          elim (cases_lt k (8 * width)) [
            | inl below ↦ rw (lt-ltb k (8 * width) below) (taken-bit width words row len narrow bits k below)
            | inr past ↦ rw (le-ltb k (8 * width) past) (bits-past (take width row) k (omega (arith, size)))
          ];
    }

-- numbers that were put behind others are as small
pub small-behind : (old bytes new : List ℕ) → new ≡ old ++ bytes → ((i d : ℕ) → i < length new → get_or new i d < 256) → (i : ℕ) → i < length bytes → get_or bytes i 0 < 256
small-behind old bytes new is small i below =
    let within : length old + i < length new = omega (arith, ap (λ xs. length xs) is, length-append old bytes) in
    subst (λ b. b < 256) (ap (λ xs. get_or xs (length old + i) 0) is ∙ (get_or-append_right old bytes (length old + i) 0 (omega arith) ∙ ap (λ k. get_or bytes k 0) (omega arith))) (small (length old + i) 0 within)

pub taken-small : (width : ℕ) (row : List ℕ) → ((i : ℕ) → i < length (take width row) → get_or (take width row) i 0 < 256) → width ≤ length row → (i : ℕ) → i < width → get_or row i 0 < 256
taken-small width row small within i below =
    subst (λ b. b < 256) (get_or-take width row i 0 below) (small i (omega (arith, length-take-le width row within)))

-- sets one behind the other

within-row : (width i n : ℕ) → i < n → width * i + width ≤ width * n
within-row width i n below = subst (λ m. m ≤ width * n) (mul-suc width i) (mul-le-mul_left width below)

set-before : (width i : ℕ) (sets bytes : List ℕ) → width * i + width ≤ length sets → set_at width (sets ++ bytes) i ≡ set_at width sets i
set-before width i sets bytes within =
    ap (take width) (drop-append-le (width * i) sets bytes (omega arith))
    ∙ take-append-le width (drop (width * i) sets) bytes (omega (arith, length-drop (width * i) sets))

set-last : (width i : ℕ) (sets bytes : List ℕ) → length sets ≡ width * i → length bytes ≡ width → set_at width (sets ++ bytes) i ≡ bytes
set-last width i sets bytes len size =
    ap (λ n. take width (drop n (sets ++ bytes))) (sym len)
    ∙ (ap (take width) (drop-append_seam sets bytes) ∙ (ap (λ n. take n bytes) (sym size) ∙ take-length bytes))

pub sets-none : (width : ℕ) (states : List Footing) → AreSetsTo width states 0 []
sets-none width states = record { len = omega arith; each = λ i f below at. absurd (omega arith) }

pub sets-more : (width : ℕ) (states : List Footing) (n : ℕ) (f : Footing) (sets more : List ℕ) → AreSetsTo width states n sets → slice_get states n ≡ Some f → IsSetPushed width f.positions sets more →
    AreSetsTo width states (n + 1) more
sets-more width states n f sets more are there pushed =
    subst (AreSetsTo width states (n + 1)) (sym pushed.is)
    (record {
      len = length-append sets pushed.bytes ∙ (ap (λ m. m + length pushed.bytes) are.len ∙ (ap (λ m. width * n + m) pushed.set.size ∙ (sym (mul-suc width n) ∙ ap (λ m. width * m) (omega arith))));
      each = λ i g below at.
          elim (cases_lt i n) [
            | inl before ↦ subst (IsPackedSet width g.positions) (sym (set-before width i sets pushed.bytes (omega (arith, within-row width i n before, are.len)))) (are.each i g before at)
            | inr past ↦
                let last : i ≡ n = omega arith in
                let same : f ≡ g = same_Some f g (sym there ∙ (ap (slice_get states) (sym last) ∙ at)) in
                subst (λ (h : Footing). IsPackedSet width h.positions (set_at width (sets ++ pushed.bytes) i)) same
                (subst (IsPackedSet width f.positions)
                (sym (ap (set_at width (sets ++ pushed.bytes)) last ∙ set-last width n sets pushed.bytes are.len pushed.set.size)) pushed.set)
          ];
    })

-- what stands before

pub prevs-none : (states : List Footing) → ArePrevsTo states 0 []
prevs-none states = record { len = refl; each = λ i f below at. absurd (omega arith) }

pub prevs-more : (states : List Footing) (n : ℕ) (f : Footing) (prevs : List Prev) → ArePrevsTo states n prevs → slice_get states n ≡ Some f → ArePrevsTo states (n + 1) (prevs ++ f.prev ∷ [])
prevs-more states n f prevs are there = record {
  len = omega (arith, length-append prevs (f.prev ∷ []), are.len);
  each = λ i g below at.
      elim (cases_lt i n) [
        | inl before ↦ still-there prevs f.prev i g.prev (are.each i g before at)
        | inr past ↦
            let last : i ≡ n = omega arith in
            let same : f ≡ g = same_Some f g (sym there ∙ (ap (slice_get states) (sym last) ∙ at)) in
            ap (slice_get (prevs ++ f.prev ∷ [])) (last ∙ sym are.len) ∙ (get-seam prevs f.prev ∙ ap (λ (h : Footing). Some h.prev) same)
      ];
}

-- the sets of all states of an expression

module _ (a : Automaton) (tree : Tree) (runs : Runs a tree) (flag : a.has_assertion ≡ has_assertion tree) (class : ℕ → ℕ) (count : ℕ) (known : List Footing) (rows : List ℕ)
    (built : AreBuilt a class count known rows (length known) 0) (s : StateSets) (width : s.width ≡ (vec_len a.sets + 7) / 8)
    (sets : AreSetsTo s.width known (length known) s.sets.items) (prevs : ArePrevsTo known (length known) s.prevs.items) where
  abbrev Size : ℕ
  Size = vec_len a.sets

  packed-live : (f : Footing) → HasPositionsBelow Size f → (x : ℕ) → (nat_lt x (8 * s.width) && has_word_bit f.positions x) ≡ is_live (state_of Size f) x
  packed-live f positions x =
      elim (cases_lt x Size) [
        | inl below ↦ rw (lt-ltb x (8 * s.width) (omega (arith, width))) (sym (live-where Size (has_word_bit f.positions) f.prev x below))
        | inr past ↦
            let unset : has_word_bit f.positions x ≡ false = not-true (has_word_bit f.positions x) (λ set. omega (arith, positions x set)) in
            ap (λ t. nat_lt x (8 * s.width) && t) unset ∙ (and-none (nat_lt x (8 * s.width)) ∙ sym (live-past (state_of Size f) Size x (where-size Size (has_word_bit f.positions) f.prev) past))
      ]

  set-of : (i : ℕ) (f : Footing) → slice_get known i ≡ Some f → IsSetOf s.width (set_at s.width s.sets.items i) (state_of Size f)
  set-of i f at =
      let packed = sets.each i f (slice_get_within known i f at) at in
      record {
        size = packed.size;
        small = packed.small;
        bits = λ x. packed.bits x ∙ packed-live f (built.positions i f at) x;
      }

  prev-of : (i : ℕ) (f : Footing) → slice_get known i ≡ Some f → prev_of s i ≡ f.prev
  prev-of i f at = get_or_from_slice_get s.prevs.items i f.prev stands.Other (prevs.each i f (slice_get_within known i f at) at)

  pub sets-are : s.has_assertion ≡ a.has_assertion → AreSetsOf s tree
  sets-are keeps =
      let states : List DfaState = map (state_of Size) known in
      let all : AreStatesOf (write_out tree) a.has_assertion states = states-of a (write_out tree) runs.tables a.has_assertion states (built-all a class count known rows built) in
      record {
        states = states;
        all = subst (λ h. AreStatesOf (write_out tree) h states) flag all;
        keeps = keeps ∙ flag;
        count = omega (arith, map-length (state_of Size) known, prevs.len, s.prevs.ok.0);
        width = width ∙ ap (λ n. (n + 7) / 8) runs.tables.size;
        each = λ i state at.
            let place : IsStateAt Size known i state = state-at Size known i state at in
            subst (λ z. IsSetOf s.width (set_at s.width s.sets.items i) z × (prev_of s i ≡ z.prev)) place.is
            (set-of i place.footing place.at, prev-of i place.footing place.at);
      }

-- a set and what stands before have one number

module _ (sets : StateSets) (tree : Tree) (are : AreSetsOf sets tree) where
  abbrev Written : Core
  Written = write_out tree

  state-size : (i : ℕ) (s : DfaState) → slice_get are.states i ≡ Some s → length s.live ≡ written.count Written
  state-size zero s at =
      let first : DfaState = first_state (tests_of Written) (has_assertion tree) in
      subst (λ (z : DfaState). length z.live ≡ written.count Written) (same_Some first s (sym are.all.so_far.begins ∙ at))
      (where-size (written.count Written) (λ x. false) first.prev)
  state-size (suc n) s at =
      let d = are.all.so_far.discovered (suc n) (omega arith) (slice_get_within are.states (suc n) s at) in
      let moved : DfaState = move_by (tests_of Written) (has_assertion tree) d.is.source d.byte in
      subst (λ (z : DfaState). length z.live ≡ written.count Written) (same_Some moved s (sym d.is.leads ∙ at))
      (where-size (written.count Written) (is_led_to (tests_of Written) d.is.source d.byte) moved.prev)

  state-there : (i : ℕ) → i < state_count sets → slice_get are.states i ≡ Some (get_or are.states i (first_state (tests_of Written) (has_assertion tree)))
  state-there i within = slice_get-get_or are.states i _ (omega (arith, within, are.count))

  pub one-number : (bytes : List ℕ) (stands : Prev) (i j : ℕ) → IsStateNumber sets bytes stands i → IsStateNumber sets bytes stands j → i ≡ j
  one-number bytes stands i j one other =
      let s : DfaState = get_or are.states i (first_state (tests_of Written) (has_assertion tree)) in
      let t : DfaState = get_or are.states j (first_state (tests_of Written) (has_assertion tree)) in
      let at = state-there i one.within in
      let there = state-there j other.within in
      let same : s ≡ t =
      same-live (written.count Written) s t (state-size i s at) (state-size j t there)
      (λ x below.
      sym ((are.each i s at).0.bits x) ∙ (ap (λ (b : List ℕ). has_bit b x) (one.set ∙ sym other.set) ∙ (are.each j t there).0.bits x))
      (sym (are.each i s at).1 ∙ (one.prev ∙ sym other.prev ∙ (are.each j t there).1)) in
      are.all.so_far.once i j t (at ∙ ap (λ (z : DfaState). Some z) same) there
