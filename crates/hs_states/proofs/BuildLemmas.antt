-- One more move of the states that are built.
use Rattle.std.proofs.Common.{◌≡◌, ℕ, zero, suc, ◌+◌, ◌<◌, ◌≤◌, false, List, [], ◌∷◌, ◌++◌, map, length, get_or, EachIndex, slice_index, Option, Some, slice_get, refl, sym, ap, subst, ◌∙◌, inl, inr, arith, vec_len, length-append}
use Rattle.std.proofs.lemmas.Bool.{cases_lt}
use Rattle.std.proofs.lemmas.List.{map-append, get_or_append_left}
use Rattle.std.proofs.Math.Seq.{get_or-append_seam}
use Rattle.std.proofs.lemmas.Option.{none-some, slice_get_within, same_Some}
use Rattle.hs_base.specs.Bits.{has_word_bit}
use Rattle.hs_engine.specs.declared.automaton.Automaton.{Automaton}
use Rattle.hs_states.specs.AutomatonStates.{AreBuilt, AreClassesTo, AreStatesIn, HasTooManyStates, IsFootingOf, state_of, tests_by}
use Rattle.hs_states.specs.DfaBuilding.{IsSoFar}
use Rattle.hs_states.specs.DfaStates.{DfaState, first_state, kept_prev, move_by}
use Rattle.hs_states.specs.Footings.{HasPositionsBelow, IsLikeOne, IsNewTo, is_moved_to}
use Rattle.hs_base.specs.declared.context.Prev.TheVariants as stands
use Rattle.hs_engine.proofs.AgreementLemmas.{get-seam}
use Rattle.hs_states.specs.Subsets.{IsEntered, is_added, is_known, is_too_many}
use Rattle.hs_states.specs.declared.footing.Footing.{Footing}
use Rattle.hs_states.proofs.StateLemmas.{same-where, true-false}
use Rattle.hs_states.proofs.DiscoveryLemmas.{no-longer}
use Rattle.hs_states.proofs.FootingLemmas.{alike-state, footing-at, moved-below, moved-state, new-state}
use Rattle.hs_states.proofs.SoFarLemmas.{entry-of, IsEntry, new_entry, old_entry, so_far-all, so_far-known, so_far-new, so_far-row, so_far-start, still-there}

pub map-length : {A B : Type 0} (f : A → B) (xs : List A) → length (map f xs) ≡ length xs
map-length f [] = refl
map-length f (x ∷ xs) = ap suc (map-length f xs)

-- numbers below a bound, with one more
more-within : (rows : List ℕ) (n bound : ℕ) → EachIndex rows (λ k. slice_index rows k < bound) → n < bound → EachIndex (rows ++ n ∷ []) (λ k. slice_index (rows ++ n ∷ []) k < bound)
more-within rows n bound each small k below =
    elim (cases_lt k (length rows)) [
      | inl less ↦ subst (λ v. v < bound) (sym (get_or_append_left rows (n ∷ []) 0 k less)) (each k less)
      | inr above ↦
          let last : k ≡ length rows = omega (arith, length-append rows (n ∷ [])) in
          subst (λ v. v < bound) (sym (ap (λ j. get_or (rows ++ n ∷ []) j 0) last ∙ get_or-append_seam rows n [] 0)) small
    ]

module _ (a : Automaton) where
  abbrev Size : ℕ
  Size = vec_len a.sets

  abbrev First : DfaState
  First = first_state (tests_by a) a.has_assertion

  abbrev Move : DfaState → ℕ → DfaState
  Move = move_by (tests_by a) a.has_assertion

  abbrev States : List Footing → List DfaState
  States = map (state_of (vec_len a.sets))

  module _ (classes firsts : List ℕ) (footings : List Footing) (count : ℕ) (counted : count ≡ length footings) (are : AreClassesTo a classes firsts footings 256) where
    abbrev Class : ℕ → ℕ
    Class = slice_index classes

    pub class-few : (b : ℕ) → b < 256 → Class b < count
    class-few b small =
        let has = are.classes b small in
        omega (arith, counted, slice_get_within footings (Class b) has.footing has.at)

    class-footing : (c : ℕ) (g : Footing) → slice_get footings c ≡ Some g → (b : ℕ) → b < 256 → Class b ≡ c → IsFootingOf a b g
    class-footing c g at b small is =
        let has = are.classes b small in
        let same : has.footing ≡ g = same_Some has.footing g (sym has.at ∙ (ap (slice_get footings) is ∙ at)) in
        subst (IsFootingOf a b) same has.is

    module _ (known : List Footing) (rows : List ℕ) (i c : ℕ) (built : AreBuilt a Class count known rows i c) (below : c < count) (f g one : Footing)
        (at : slice_get known i ≡ Some f) (class_at : slice_get footings c ≡ Some g)
        (positions : (k : ℕ) → has_word_bit one.positions k ≡ is_moved_to a f g k) (prev : one.prev ≡ kept_prev a.has_assertion g.prev) where
      -- the first byte of the class
      abbrev Least : ℕ
      Least = slice_index firsts c

      inside : c < length footings
      inside = omega (arith, counted, below)

      least-small : Least < 256
      least-small = (are.firsts c inside).small

      moves-to : (b : ℕ) → b < 256 → Class b ≡ c → state_of Size one ≡ Move (state_of Size f) b
      moves-to b small is = moved-state a f g one b (class-footing c g class_at b small is) positions prev

      least-moves : state_of Size one ≡ Move (state_of Size f) Least
      least-moves = moves-to Least least-small (are.firsts c inside).own

      one-below : HasPositionsBelow Size one
      one-below = moved-below a f g one Least (class-footing c g class_at Least least-small (are.firsts c inside).own) positions prev

      -- the state is known
      pub built-known : (k : ℕ) → IsLikeOne known one k → AreBuilt a Class count known (rows ++ k ∷ []) i (c + 1)
      built-known k like = record {
        so = so_far-known First Move Class count (States known) rows i c built.so built.len class-few k
            (λ b small is. record {
              source = state_of Size f;
              at = footing-at Size known i f at;
              leads = footing-at Size known k like.like like.at ∙ ap (λ s. Some s) (alike-state Size like.like one like.alike ∙ moves-to b small is);
            });
        few = built.few;
        len = omega (arith, length-append rows (k ∷ []), built.len);
        within = more-within rows k (length known) built.within (slice_get_within known k like.like like.at);
        positions = built.positions;
      }

      abbrev Longer : List DfaState
      Longer = map (state_of (vec_len a.sets)) known ++ Move (state_of (vec_len a.sets) f) (slice_index firsts c) ∷ []

      not-there : IsNewTo known one → (k : ℕ) → slice_get (States known) k ≡ Some (Move (state_of Size f) Least) → ⊥
      not-there new k is = new-state Size known one built.positions one-below new k (is ∙ ap (λ s. Some s) (sym least-moves))

      so-longer : IsNewTo known one → IsSoFar First Move Class count Longer rows i c
      so-longer new =
          so_far-new First Move Class count (States known) rows i c built.so (state_of Size f) (footing-at Size known i f at) Least least-small (are.firsts c inside).before
          (not-there new)

      below-entry : (k : ℕ) (h : Footing) → IsEntry known one k h → HasPositionsBelow Size h
      below-entry k h (old_entry there) = built.positions k h there
      below-entry k h (new_entry last same) = subst (HasPositionsBelow Size) (sym same) one-below

      -- the state is new
      pub built-more : IsNewTo known one → length known < 255 → AreBuilt a Class count (known ++ one ∷ []) rows i c
      built-more new room =
          let states : States (known ++ one ∷ []) ≡ Longer =
          map-append (state_of Size) known (one ∷ []) ∙ ap (λ s. States known ++ s ∷ []) least-moves in
          record {
            so = subst (λ values. IsSoFar First Move Class count values rows i c) (sym states) (so-longer new);
            few = omega (arith, length-append known (one ∷ []));
            len = built.len;
            within = λ k less. omega (arith, built.within k less, length-append known (one ∷ []));
            positions = λ k h there. below-entry k h (entry-of known one k h there);
          }

      -- there is no room for it
      pub too-many : IsNewTo known one → 255 ≤ length known → HasTooManyStates a
      too-many new full states all few =
          let least : length Longer ≤ length states = no-longer First Move Longer states (so-longer new).so_far all in
          absurd (omega (arith, least, length-append (States known) (Move (state_of Size f) Least ∷ []), map-length (state_of Size) known))

    -- what entering a state builds

    module _ (known : List Footing) (rows : List ℕ) (i c : ℕ) (built : AreBuilt a Class count known rows i c) (below : c < count) (f g one : Footing)
        (at : slice_get known i ≡ Some f) (class_at : slice_get footings c ≡ Some g)
        (positions : (k : ℕ) → has_word_bit one.positions k ≡ is_moved_to a f g k) (prev : one.prev ≡ kept_prev a.has_assertion g.prev) where
      built-added : IsNewTo known one → length known < 255 → AreBuilt a Class count (known ++ one ∷ []) (rows ++ length known ∷ []) i (c + 1)
      built-added new room =
          built-known (known ++ one ∷ []) rows i c (built-more known rows i c built below f g one at class_at positions prev new room) below f g one (still-there known one i f at) class_at positions prev (length known)
          (record { like = one; at = get-seam known one; alike = record { positions = λ k. refl; prev = refl } })

      pub entered-builds : (more : List Footing) (number : Option ℕ) (n : ℕ) → number ≡ Some n → IsEntered known more one number → AreBuilt a Class count more (rows ++ n ∷ []) i (c + 1)
      entered-builds more number n is (is_known k own same like) =
          let number_is : k ≡ n = same_Some k n (sym own ∙ is) in
          subst (λ z. AreBuilt a Class count z (rows ++ n ∷ []) i (c + 1)) (sym same)
          (subst (λ z. AreBuilt a Class count known (rows ++ z ∷ []) i (c + 1)) number_is (built-known known rows i c built below f g one at class_at positions prev k like))
      entered-builds more number n is (is_added own same new room) =
          let number_is : length known ≡ n = same_Some (length known) n (sym own ∙ is) in
          subst (λ z. AreBuilt a Class count z (rows ++ n ∷ []) i (c + 1)) (sym same)
          (subst (λ z. AreBuilt a Class count (known ++ one ∷ []) (rows ++ z ∷ []) i (c + 1)) number_is (built-added new room))
      entered-builds more number n is (is_too_many own same new full) = absurd (none-some n (sym own ∙ is))

      pub entered-too_many : (more : List Footing) (number : Option ℕ) → ((n : ℕ) → number ≡ Some n → ⊥) → IsEntered known more one number → HasTooManyStates a
      entered-too_many more number none (is_known k own same like) = absurd (none k own)
      entered-too_many more number none (is_added own same new room) = absurd (none (length known) own)
      entered-too_many more number none (is_too_many own same new full) = too-many known rows i c built below f g one at class_at positions prev new full

  pub entered-few : (known more : List Footing) (one : Footing) (number : Option ℕ) (n : ℕ) → length known ≤ 255 → number ≡ Some n → IsEntered known more one number → n < 256
  entered-few known more one number n few is (is_known k own same like) =
      let number_is : k ≡ n = same_Some k n (sym own ∙ is) in
      omega (arith, slice_get_within known k like.like like.at)
  entered-few known more one number n few is (is_added own same new room) =
      let number_is : length known ≡ n = same_Some (length known) n (sym own ∙ is) in
      omega arith
  entered-few known more one number n few is (is_too_many own same new full) = absurd (none-some n (sym own ∙ is))

  pub entered-more : (known more : List Footing) (one : Footing) (number : Option ℕ) → IsEntered known more one number → length known ≤ length more
  entered-more known more one number (is_known k own same like) = omega (arith, ap (λ xs. length xs) same)
  entered-more known more one number (is_added own same new room) = omega (arith, ap (λ xs. length xs) same, length-append known (one ∷ []))
  entered-more known more one number (is_too_many own same new full) = omega (arith, ap (λ xs. length xs) same)

  pub entered-stays : (known more : List Footing) (one : Footing) (number : Option ℕ) (i : ℕ) (f : Footing) → IsEntered known more one number → slice_get known i ≡ Some f → slice_get more i ≡ Some f
  entered-stays known more one number i f (is_known k own same like) at = ap (λ xs. slice_get xs i) same ∙ at
  entered-stays known more one number i f (is_added own same new room) at = ap (λ xs. slice_get xs i) same ∙ still-there known one i f at
  entered-stays known more one number i f (is_too_many own same new full) at = ap (λ xs. slice_get xs i) same ∙ at

  only-one : (one : Footing) → ((k : ℕ) → has_word_bit one.positions k ≡ false) → (k : ℕ) (f : Footing) → slice_get (one ∷ []) k ≡ Some f → (x : ℕ) → has_word_bit f.positions x ≡ false
  only-one one none zero f there x = ap (λ (h : Footing). has_word_bit h.positions x) (sym (same_Some one f there)) ∙ none x
  only-one one none (suc k) f there x = absurd (none-some f there)

  -- the first state alone
  pub built-first : (class : ℕ → ℕ) (count : ℕ) (one : Footing) → ((k : ℕ) → has_word_bit one.positions k ≡ false) → one.prev ≡ kept_prev a.has_assertion stands.Start → AreBuilt a class count (one ∷ []) [] 0 0
  built-first class count one none prev =
      let first_is : First ≡ state_of Size one = same-where Size (λ x. false) (has_word_bit one.positions) (kept_prev a.has_assertion stands.Start) one.prev (λ x below. sym (none x)) (sym prev) in
      record {
        so = subst (λ s. IsSoFar First Move class count (s ∷ []) [] 0 0) first_is (so_far-start First Move class count);
        few = omega arith;
        len = omega arith;
        within = λ k below. absurd (omega arith);
        positions = λ k f there x set. true-false (has_word_bit f.positions x) set (only-one one none k f there x);
      }

  -- the row of a state is done
  pub built-row : (class : ℕ → ℕ) (count : ℕ) (known : List Footing) (rows : List ℕ) (i : ℕ) → ((b : ℕ) → b < 256 → class b < count) → AreBuilt a class count known rows i count → AreBuilt a class count known rows (i + 1) 0
  built-row class count known rows i few built = record {
    so = so_far-row First Move class count (States known) rows i count built.so refl few;
    few = built.few;
    len = grind (arith, built.len);
    within = built.within;
    positions = built.positions;
  }

  -- all rows are done
  pub built-all : (class : ℕ → ℕ) (count : ℕ) (known : List Footing) (rows : List ℕ) → AreBuilt a class count known rows (length known) 0 → AreStatesIn a (States known)
  built-all class count known rows built = so_far-all First Move class count (States known) rows (length known) 0 built.so (sym (map-length (state_of Size) known))
