-- One more byte of the classes.
use Rattle.std.proofs.Common.{◌≡◌, ◌≢◌, ℕ, ◌+◌, ◌<◌, List, [], ◌∷◌, ◌++◌, length, get_or, set, slice_index, Some, slice_get, refl, sym, ap, subst, ◌∙◌, inl, inr, arith, length-append, length-set}
use Rattle.std.proofs.lemmas.Bool.{cases_lt}
use Rattle.std.proofs.lemmas.List.{get_or-set_same, get_or-set_other, get_or_append_left}
use Rattle.std.proofs.Math.Seq.{get_or-append_seam}
use Rattle.std.proofs.lemmas.Option.{slice_get_within}
use Rattle.hs_engine.specs.declared.automaton.Automaton.{Automaton}
use Rattle.hs_engine.proofs.AgreementLemmas.{get-seam}
use Rattle.hs_states.specs.AutomatonStates.{AreClassesTo, HasClass, IsFirstOf, IsFootingOf}
use Rattle.hs_states.specs.Footings.{IsLikeOne}
use Rattle.hs_states.specs.declared.footing.Footing.{Footing}
use Rattle.hs_states.proofs.SoFarLemmas.{still-there}

module _ (a : Automaton) (table least : List ℕ) (footings : List Footing) (n : ℕ) (are : AreClassesTo a table least footings n) (small : n < 256) (g : Footing) (is : IsFootingOf a n g) where
  old-class : (class b : ℕ) → b < n → slice_index (set table n class) b ≡ slice_index table b
  old-class class b below = get_or-set_other table n b class 0 (let d : b ≢ n = λ e. absurd (omega arith) in d)

  new-class : (class : ℕ) → slice_index (set table n class) n ≡ class
  new-class class = get_or-set_same table n class 0 (omega (arith, are.whole))

  -- a number keeps its first byte
  old-first : (class number first : ℕ) → IsFirstOf (slice_index table) n number first → IsFirstOf (slice_index (set table n class)) (n + 1) number first
  old-first class number first known = record {
    small = omega (arith, known.small);
    own = old-class class first known.small ∙ known.own;
    before = λ b less. subst (λ k. k < number) (sym (old-class class b (omega (arith, known.small)))) (known.before b less);
  }

  -- a byte keeps its class
  old-has : (class b : ℕ) (more : List Footing) → ((k : ℕ) (f : Footing) → slice_get footings k ≡ Some f → slice_get more k ≡ Some f) → b < n → HasClass a more (slice_index (set table n class)) b
  old-has class b more kept below =
      let has = are.classes b below in
      record { footing = has.footing; at = ap (slice_get more) (old-class class b below) ∙ kept (slice_index table b) has.footing has.at; is = has.is }

  like-is : (number : ℕ) (like : IsLikeOne footings g number) → IsFootingOf a n like.like
  like-is number like = record { positions = λ k. like.alike.positions k ∙ is.positions k; prev = like.alike.prev ∙ is.prev }

  -- the byte is of a class that is known
  pub classes-known : (number : ℕ) → IsLikeOne footings g number → AreClassesTo a (set table n number) least footings (n + 1)
  classes-known number like = record {
    whole = length-set table n number ∙ are.whole;
    len = are.len;
    few = omega (arith, are.few);
    classes = λ b below.
        elim (cases_lt b n) [
          | inl less ↦ old-has number b footings (λ k f there. there) less
          | inr above ↦
              let last : b ≡ n = omega arith in
              subst (HasClass a footings (slice_index (set table n number))) (sym last)
              (record { footing = like.like; at = ap (slice_get footings) (new-class number) ∙ like.at; is = like-is number like })
        ];
    firsts = λ k below. old-first number k (slice_index least k) (are.firsts k below);
  }

  new-first : IsFirstOf (slice_index (set table n (length footings))) (n + 1) (length footings) n
  new-first = record {
    small = omega arith;
    own = new-class (length footings);
    before = λ b less.
        let has = are.classes b less in
        subst (λ k. k < length footings) (sym (old-class (length footings) b less)) (slice_get_within footings (slice_index table b) has.footing has.at);
  }

  -- the byte has a class of its own
  pub classes-new : AreClassesTo a (set table n (length footings)) (least ++ n ∷ []) (footings ++ g ∷ []) (n + 1)
  classes-new = record {
    whole = length-set table n (length footings) ∙ are.whole;
    len = omega (arith, are.len, length-append least (n ∷ []), length-append footings (g ∷ []));
    few = omega (arith, are.few, length-append footings (g ∷ []));
    classes = λ b below.
        elim (cases_lt b n) [
          | inl less ↦ old-has (length footings) b (footings ++ g ∷ []) (λ k f there. still-there footings g k f there) less
          | inr above ↦
              let last : b ≡ n = omega arith in
              subst (HasClass a (footings ++ g ∷ []) (slice_index (set table n (length footings)))) (sym last)
              (record { footing = g; at = ap (slice_get (footings ++ g ∷ [])) (new-class (length footings)) ∙ get-seam footings g; is = is })
        ];
    firsts = λ k below.
        elim (cases_lt k (length footings)) [
          | inl less ↦
              subst (IsFirstOf (slice_index (set table n (length footings))) (n + 1) k) (sym (get_or_append_left least (n ∷ []) 0 k (omega (arith, are.len))))
              (old-first (length footings) k (slice_index least k) (are.firsts k less))
          | inr above ↦
              let last : k ≡ length footings = omega (arith, length-append footings (g ∷ [])) in
              let place : k ≡ length least = omega (arith, are.len) in
              subst (IsFirstOf (slice_index (set table n (length footings))) (n + 1) k) (sym (ap (λ j. get_or (least ++ n ∷ []) j 0) place ∙ get_or-append_seam least n [] 0))
              (subst (λ j. IsFirstOf (slice_index (set table n (length footings))) (n + 1) j n) (sym last) new-first)
        ];
  }

pub no-classes : (a : Automaton) (table : List ℕ) → length table ≡ 256 → AreClassesTo a table [] [] 0
no-classes a table whole = record {
  whole = whole;
  len = refl;
  few = omega arith;
  classes = λ b below. absurd (omega arith);
  firsts = λ k below. absurd (omega arith);
}
