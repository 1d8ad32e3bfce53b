-- Discovering the values one by one: number by number, and for each number class by class of bytes.
use Rattle.std.proofs.Common.{◌≡◌, ℕ, zero, suc, ◌+◌, ◌*◌, ◌<◌, ◌≤◌, List, [], ◌∷◌, ◌++◌, length, get_or, Some, slice_get, refl, sym, ap, subst, ◌∙◌, inl, inr, arith, length-append}
use Rattle.std.proofs.lemmas.Bool.{cases_lt}
use Rattle.std.proofs.lemmas.Nat.{mul-add-lt}
use Rattle.std.proofs.lemmas.List.{get_or_append_left}
use Rattle.std.proofs.Math.Seq.{get_or-append_seam}
use Rattle.std.proofs.lemmas.Option.{slice_get_within, same_Some, none-some}
use Rattle.hs_engine.proofs.AgreementLemmas.{get-append, get-seam}
use Rattle.hs_states.specs.Discovery.{IsMove, LeadsBelow, IsTakenBefore, earlier_value, lesser_byte, IsDiscovered, AreAllDiscovered}
use Rattle.hs_states.specs.DfaBuilding.{IsDone, done_number, done_class, table_number, IsSoFar}

once-one : {S : Type 0} (v : S) (i : ℕ) (s : S) → slice_get (v ∷ []) i ≡ Some s → i ≡ 0
once-one v zero s is = refl
once-one v (suc i) s is = absurd (none-some s is)

-- an entry of a list with one more at its end
pub data IsEntry {S : Type 0} (values : List S) (v : S) (i : ℕ) (s : S) : Type 0 where
  old_entry : slice_get values i ≡ Some s → IsEntry values v i s
  new_entry : i ≡ length values → s ≡ v → IsEntry values v i s

pub entry-of : {S : Type 0} (values : List S) (v : S) (i : ℕ) (s : S) → slice_get (values ++ v ∷ []) i ≡ Some s → IsEntry values v i s
entry-of values v i s is =
    elim (cases_lt i (length values)) [
      | inl below ↦ old_entry (sym (get-append values (v ∷ []) i v below) ∙ is)
      | inr above ↦
          let within : i < length (values ++ v ∷ []) = slice_get_within (values ++ v ∷ []) i s is in
          let last : i ≡ length values = omega (arith, length-append values (v ∷ [])) in
          new_entry last (same_Some s v (sym is ∙ (ap (slice_get (values ++ v ∷ [])) last ∙ get-seam values v)))
    ]

pub still-there : {S : Type 0} (values : List S) (v : S) (i : ℕ) (s : S) → slice_get values i ≡ Some s → slice_get (values ++ v ∷ []) i ≡ Some s
still-there values v i s is = get-append values (v ∷ []) i v (slice_get_within values i s is) ∙ is

module _ {S : Type 0} (first : S) (move : S → ℕ → S) (class : ℕ → ℕ) (count : ℕ) where
  start-none : (j b : ℕ) → IsDone class 0 0 j b → IsMove move (first ∷ []) j b (table_number class count [] j b)
  start-none j b (done_number less) = absurd (omega arith)
  start-none j b (done_class same less) = absurd (omega arith)

  pub so_far-start : IsSoFar first move class count (first ∷ []) [] 0 0
  so_far-start = record {
    so_far = record {
      begins = refl;
      once = λ i j s one other. once-one first i s one ∙ sym (once-one first j s other);
      discovered = λ n positive within. absurd (omega arith);
    };
    moves = λ j b small within done. start-none j b done;
  }

  module _ (values : List S) (next : List ℕ) (i c : ℕ) (so : IsSoFar first move class count values next i c) where
    row-done : c ≡ count → ((b : ℕ) → b < 256 → class b < count) → (j b : ℕ) → b < 256 → IsDone class (i + 1) 0 j b → IsDone class i c j b
    row-done full few j b small (done_number less) =
        elim (cases_lt j i) [
          | inl before ↦ done_number before
          | inr above ↦ done_class (omega arith) (omega (arith, few b small))
        ]
    row-done full few j b small (done_class same less) = absurd (omega arith)

    -- the moves of a number are done
    pub so_far-row : c ≡ count → ((b : ℕ) → b < 256 → class b < count) → IsSoFar first move class count values next (i + 1) 0
    so_far-row full few = record { so_far = so.so_far; moves = λ j b small within done. so.moves j b small within (row-done full few j b small done) }

    pub so_far-all : i ≡ length values → AreAllDiscovered first move values
    so_far-all end = record {
      so_far = so.so_far;
      closed = λ j b within small.
          let is = so.moves j b small within (done_number (omega arith)) in
          record { to = table_number class count next j b; below = slice_get_within values (table_number class count next j b) (move is.source b) is.leads; is = is };
    }

    -- one more move, whose value is known
    module _ (len : length next ≡ i * count + c) (few : (b : ℕ) → b < 256 → class b < count) (n : ℕ)
        (leads : (b : ℕ) → b < 256 → class b ≡ c → IsMove move values i b n) where
      old-number : (j b : ℕ) → b < 256 → IsDone class i c j b → table_number class count (next ++ n ∷ []) j b ≡ table_number class count next j b
      old-number j b small (done_number less) =
          let small_class : class b < count = few b small in
          let bound : j * count + class b < count * i = mul-add-lt j count (class b) i less small_class in
          let turned : count * i ≡ i * count = omega arith in
          get_or_append_left next (n ∷ []) 0 (j * count + class b) (omega arith)
      old-number j b small (done_class same less) =
          let row : j * count ≡ i * count = ap (λ z. z * count) same in
          get_or_append_left next (n ∷ []) 0 (j * count + class b) (omega arith)

      new-number : (j b : ℕ) → j ≡ i → class b ≡ c → table_number class count (next ++ n ∷ []) j b ≡ n
      new-number j b same is =
          let row : j * count ≡ i * count = ap (λ z. z * count) same in
          let place : j * count + class b ≡ length next = omega arith in
          ap (λ k. get_or (next ++ n ∷ []) k 0) place ∙ get_or-append_seam next n [] 0

      old-move : (j b : ℕ) → b < 256 → j < length values → IsDone class i c j b → IsMove move values j b (table_number class count (next ++ n ∷ []) j b)
      old-move j b small within done = subst (IsMove move values j b) (sym (old-number j b small done)) (so.moves j b small within done)

      more-moves : (j b : ℕ) → b < 256 → j < length values → IsDone class i (c + 1) j b → IsMove move values j b (table_number class count (next ++ n ∷ []) j b)
      more-moves j b small within (done_number less) = old-move j b small within (done_number less)
      more-moves j b small within (done_class same less) =
          elim (cases_lt (class b) c) [
            | inl before ↦ old-move j b small within (done_class same before)
            | inr above ↦
                let here : class b ≡ c = omega arith in
                subst (IsMove move values j b) (sym (new-number j b same here)) (subst (λ z. IsMove move values z b n) (sym same) (leads b small here))
          ]

      pub so_far-known : IsSoFar first move class count values (next ++ n ∷ []) i (c + 1)
      so_far-known = record { so_far = so.so_far; moves = more-moves }

    -- a value that isn't known
    module _ (s : S) (at : slice_get values i ≡ Some s) (b0 : ℕ) (small0 : b0 < 256) (before : (b : ℕ) → b < b0 → class b < c)
        (isnt : (k : ℕ) → slice_get values k ≡ Some (move s b0) → ⊥) where
      abbrev More : List S
      More = values ++ move s b0 ∷ []

      more-move : (from byte to : ℕ) → IsMove move values from byte to → IsMove move More from byte to
      more-move from byte to is = record {
        source = is.source;
        at = still-there values (move s b0) from is.source is.at;
        leads = still-there values (move s b0) to (move is.source byte) is.leads;
      }

      more-below : (bound from byte : ℕ) → LeadsBelow move values bound from byte → LeadsBelow move More bound from byte
      more-below bound from byte leads = record { to = leads.to; below = leads.below; is = more-move from byte leads.to leads.is }

      more-discovered : (number : ℕ) → IsDiscovered move values number → IsDiscovered move More number
      more-discovered number d = record {
        source = d.source;
        byte = d.byte;
        earlier = d.earlier;
        small = d.small;
        is = more-move d.source d.byte number d.is;
        first = λ j b small taken. more-below number j b (d.first j b small taken);
      }

      taken-done : (j b : ℕ) → IsTakenBefore i b0 j b → IsDone class i c j b
      taken-done j b (earlier_value less) = done_number less
      taken-done j b (lesser_byte same less) = done_class same (before b less)

      taken-within : (j b : ℕ) → IsTakenBefore i b0 j b → j ≤ i
      taken-within j b (earlier_value less) = omega arith
      taken-within j b (lesser_byte same less) = omega arith

      new-discovered : IsDiscovered move More (length values)
      new-discovered =
          let inside : i < length values = slice_get_within values i s at in
          record {
            source = i;
            byte = b0;
            earlier = inside;
            small = small0;
            is = record { source = s; at = still-there values (move s b0) i s at; leads = get-seam values (move s b0) };
            first = λ j b small taken.
                let is = so.moves j b small (omega (arith, taken-within j b taken)) (taken-done j b taken) in
                more-below (length values) j b
                (record { to = table_number class count next j b; below = slice_get_within values (table_number class count next j b) (move is.source b) is.leads; is = is });
          }

      more-once : (k l : ℕ) (v : S) → IsEntry values (move s b0) k v → IsEntry values (move s b0) l v → k ≡ l
      more-once k l v (old_entry one) (old_entry other) = so.so_far.once k l v one other
      more-once k l v (old_entry one) (new_entry last same) = absurd (isnt k (one ∙ ap (λ z. Some z) same))
      more-once k l v (new_entry last same) (old_entry other) = absurd (isnt l (other ∙ ap (λ z. Some z) same))
      more-once k l v (new_entry one same) (new_entry other same') = one ∙ sym other

      done-within : (j b : ℕ) → IsDone class i c j b → j < length values
      done-within j b (done_number less) = omega (arith, slice_get_within values i s at)
      done-within j b (done_class same less) = omega (arith, slice_get_within values i s at)

      pub so_far-new : IsSoFar first move class count More next i c
      so_far-new = record {
        so_far = record {
          begins = still-there values (move s b0) 0 first so.so_far.begins;
          once = λ k l v one other. more-once k l v (entry-of values (move s b0) k v one) (entry-of values (move s b0) l v other);
          discovered = λ n positive within.
              elim (cases_lt n (length values)) [
                | inl below ↦ more-discovered n (so.so_far.discovered n positive below)
                | inr above ↦
                    let last : n ≡ length values = omega (arith, length-append values (move s b0 ∷ [])) in
                    subst (IsDiscovered move More) (sym last) new-discovered
              ];
        };
        moves = λ j b small within done. more-move j b (table_number class count next j b) (so.moves j b small (done-within j b done) done);
      }
