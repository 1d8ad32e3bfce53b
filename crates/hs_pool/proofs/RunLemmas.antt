-- Bytes of a block that an engine takes one by one, wherever its stream stands.
use Rattle.std.proofs.Common.{◌≡◌, ◌↔◌, ◌⊎◌, ℕ, zero, suc, ◌+◌, ◌<◌, ◌≤◌, inl, inr, Bool, true, false, ◌||◌, List, [], ◌∷◌, ◌++◌, length, take, Some, slice_index, refl, sym, ap, subst, ◌∙◌, arith, length-append}
use Rattle.std.proofs.lemmas.Bool.{cases_lt}
use Rattle.std.proofs.lemmas.List.{append-nil, take_all}
use Rattle.hs_base.specs.declared.byte_set.ByteSet.{ByteSet}
use Rattle.hs_base.specs.declared.context.Next.TheVariants as after
use Rattle.hs_base.specs.declared.context.Prev.{Prev}
use Rattle.hs_base.specs.ByteSets.{has}
use Rattle.hs_base.specs.Contexts.{class_of, prev_at, prev_behind}
use Rattle.hs_base.specs.Fields.{Leaves}
use Rattle.hs_base.specs.Trees.{Tree}
use Rattle.hs_bits.specs.WordBits.{bits_of, word_bit}
use Rattle.hs_bits.proofs.BlockLemmas.{block-more, entered-more, length-block, length-entered, prev-next}
use Rattle.hs_engine.specs.Engines.{AreWakers, Meaning}
use Rattle.hs_pool.specs.Blocks.{IsIdleRegion, TakesBlock}
use Rattle.hs_pool.specs.Running.{prev_to}
use Rattle.hs_engine.specs.Timeless.{IsStepTaken, TakesStep}
use Rattle.hs_engine.specs.declared.ends.ByteEnds.{ByteEnds}
use Rattle.hs_engine.specs.declared.ends.BlockEnds.{BlockEnds}

module _ (m : Meaning) (old : List ℕ) (prev : Prev) (enters : ℕ) (bytes : List ℕ) (ends : BlockEnds) where
  -- behind so many bytes, for one history
  pub record IsTakenFor (region : List ℕ) (n : ℕ) (tree : Tree) (u : List ℕ) (entered : List Bool) : Type 0 where
    pub field : m.field region tree (u ++ take n bytes) (entered ++ bits_of enters n)
    pub before_is : (i : ℕ) → i < n → (word_bit ends.before i ≡ true) ↔ Leaves tree (u ++ take i bytes) (entered ++ bits_of enters i) (class_of (slice_index bytes i))
    pub behind_is : (i : ℕ) → i < n → (word_bit ends.behind i ≡ true) ↔ Leaves tree (u ++ take (i + 1) bytes) (entered ++ bits_of enters (i + 1)) after.Unknown

  -- and for each
  abbrev pub IsTakenTo : (region : List ℕ) (n : ℕ) → Type 0
  IsTakenTo region n =
      (tree : Tree) (u : List ℕ) (entered : List Bool) →
      m.is_for tree →
      length entered ≡ length u →
      prev ≡ prev_at u (length u) →
      m.field old tree u entered →
      IsTakenFor region n tree u entered

  pub taken-none : IsTakenTo old 0
  taken-none tree u entered is-for sized stands field = record {
    field = subst (λ w. m.field old tree w (entered ++ [])) (sym (append-nil u)) (subst (m.field old tree u) (sym (append-nil entered)) field);
    before_is = λ i low. absurd (omega (arith, low));
    behind_is = λ i low. absurd (omega (arith, low));
  }

  -- what stands before the next byte
  stands-to : (u : List ℕ) (n : ℕ) → n ≤ length bytes → prev ≡ prev_at u (length u) → prev_to prev bytes n ≡ prev_at (u ++ take n bytes) (length (u ++ take n bytes))
  stands-to u zero within is = is ∙ ap (λ w. prev_at w (length w)) (sym (append-nil u))
  stands-to u (suc p) within is =
      let next : p + 1 ≡ suc p = omega arith in
      subst (λ n. prev_behind (Some (slice_index bytes p)) ≡ prev_at (u ++ take n bytes) (length (u ++ take n bytes))) next
      (prev-next bytes u p (prev_behind (Some (slice_index bytes p))) (omega (arith, within)) refl)

  module _ (region new : List ℕ) (n : ℕ) (one : ByteEnds) (low : n < length bytes) (taken : IsTakenTo region n)
      (step : TakesStep m region new (prev_to prev bytes n) (word_bit enters n) (slice_index bytes n) one)
      (before : word_bit ends.before n ≡ one.before) (behind : word_bit ends.behind n ≡ one.behind) where
    -- one more byte
    pub taken-more : IsTakenTo new (n + 1)
    taken-more tree u entered is-for sized stands field = record {
      field =
          subst (λ w. m.field new tree w (entered ++ bits_of enters (n + 1))) (block-more u bytes n low)
          (subst (λ es. m.field new tree ((u ++ take n bytes) ++ slice_index bytes n ∷ []) es) (entered-more entered enters n) two.field);
      before_is = before_is;
      behind_is = behind_is;
    }
      where
        first : IsTakenFor region n tree u entered
        first = taken tree u entered is-for sized stands field

        two : IsStepTaken (m.field new tree) tree (u ++ take n bytes) (entered ++ bits_of enters n) (word_bit enters n) (slice_index bytes n) one
        two = step.takes tree (u ++ take n bytes) (entered ++ bits_of enters n) is-for
            (omega (arith, sized, length-block u bytes n (omega (arith, low)), length-entered entered enters n))
            (stands-to u n (omega (arith, low)) stands) first.field

        before_is : (i : ℕ) → i < n + 1 → (word_bit ends.before i ≡ true) ↔ Leaves tree (u ++ take i bytes) (entered ++ bits_of enters i) (class_of (slice_index bytes i))
        before_is i below = elim (cases_lt i n) [
          | inl less ↦ first.before_is i less
          | inr more ↦
              let here : n ≡ i = omega (arith, below, more) in
              subst (λ k. (word_bit ends.before k ≡ true) ↔ Leaves tree (u ++ take k bytes) (entered ++ bits_of enters k) (class_of (slice_index bytes k))) here
              (subst (λ x. (x ≡ true) ↔ Leaves tree (u ++ take n bytes) (entered ++ bits_of enters n) (class_of (slice_index bytes n))) (sym before) two.before_is)
        ]

        behind_is : (i : ℕ) → i < n + 1 → (word_bit ends.behind i ≡ true) ↔ Leaves tree (u ++ take (i + 1) bytes) (entered ++ bits_of enters (i + 1)) after.Unknown
        behind_is i below = elim (cases_lt i n) [
          | inl less ↦ first.behind_is i less
          | inr more ↦
              let here : n ≡ i = omega (arith, below, more) in
              subst (λ k. (word_bit ends.behind k ≡ true) ↔ Leaves tree (u ++ take (k + 1) bytes) (entered ++ bits_of enters (k + 1)) after.Unknown) here
              (subst (λ x. (x ≡ true) ↔ Leaves tree (u ++ take (n + 1) bytes) (entered ++ bits_of enters (n + 1)) after.Unknown) (sym behind)
              (subst (λ w. (one.behind ≡ true) ↔ Leaves tree w (entered ++ bits_of enters (n + 1)) after.Unknown) (block-more u bytes n low)
              (subst (λ es. (one.behind ≡ true) ↔ Leaves tree ((u ++ take n bytes) ++ slice_index bytes n ∷ []) es after.Unknown) (entered-more entered enters n) two.behind_is)))
        ]

  -- the whole block
  pub taken-all : (region : List ℕ) → IsTakenTo region (length bytes) → length region ≡ length old → ((at : ℕ) → m.well region at) →
      ((i : ℕ) → length bytes ≤ i → word_bit ends.before i ≡ false) → ((i : ℕ) → length bytes ≤ i → word_bit ends.behind i ≡ false) →
      TakesBlock m old region prev enters bytes ends
  taken-all region taken len well befores behinds = record {
    len = len;
    well = well;
    takes = λ tree u entered is-for sized stands field.
        let all : IsTakenFor region (length bytes) tree u entered = taken tree u entered is-for sized stands field in
        record {
          field = subst (λ w. m.field region tree (u ++ w) (entered ++ bits_of enters (length bytes))) (take_all (length bytes) bytes (omega arith)) all.field;
          before_is = record { below = all.before_is; above = befores };
          behind_is = record { below = all.behind_is; above = behinds };
        };
  }

-- a region in which nothing is live takes a byte so that doesn't wake it
module _ (m : Meaning) (region : List ℕ) (idle : IsIdleRegion m region) (listed : m.always ≡ false) where
  never : (P : Type 0) → (P → ⊥) → (false ≡ true) ↔ P
  never P none = (λ set. absurd (cc), λ p. absurd (none p))

  or-own : (x : Bool) → x ≡ false → (e : Bool) → (x || e) ≡ e
  or-own true is e = absurd (cc)
  or-own false is e = refl

  pub asleep-step : (wakers : ByteSet) (prev : Prev) (enters : Bool) (byte : ℕ) → AreWakers m wakers → byte < 256 → (enters ≡ false) ⊎ (has wakers byte ≡ false) →
      TakesStep m region region prev enters byte (record { before = false; behind = false })
  asleep-step wakers prev enters byte are small unwoken = record {
    well = idle.well;
    takes = λ tree u entered is-for sized stands field.
        let stays : m.field region tree (u ++ byte ∷ []) (entered ++ enters ∷ []) = elim unwoken [
          | inl out ↦
              subst (λ x. m.field region tree (u ++ byte ∷ []) (entered ++ x ∷ [])) (or-own m.always listed false ∙ sym out)
              (idle.quiet.stays listed byte small tree u entered is-for sized field)
          | inr none ↦
              subst (λ x. m.field region tree (u ++ byte ∷ []) (entered ++ x ∷ [])) (or-own m.always listed enters)
              ((are region byte idle.starts small none).stays enters tree u entered is-for sized field)
        ] in
        record {
          field = stays;
          before_is = never (Leaves tree u entered (class_of byte)) (idle.quiet.leaves_nothing tree u entered is-for sized field (class_of byte));
          behind_is = never (Leaves tree (u ++ byte ∷ []) (entered ++ enters ∷ []) after.Unknown)
              (idle.quiet.leaves_nothing tree (u ++ byte ∷ []) (entered ++ enters ∷ []) is-for (longer u entered sized) stays after.Unknown);
        };
  } where
    longer : (u : List ℕ) (entered : List Bool) → length entered ≡ length u → length (entered ++ enters ∷ []) ≡ length (u ++ byte ∷ [])
    longer u entered sized = omega (arith, sized, length-append u (byte ∷ []), length-append entered (enters ∷ []))
