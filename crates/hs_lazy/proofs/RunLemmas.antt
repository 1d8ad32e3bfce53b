-- What bytes make of regions: none, one more, and all of a chunk.
use Rattle.std.proofs.Common.{◌≡◌, ℕ, zero, suc, ◌+◌, ◌<◌, ◌↔◌, inl, inr, Bool, true, false, ◌||◌, List, [], ◌∷◌, ◌++◌, length, take, replicate, Some, slice_index, refl, sym, ap, subst, ◌∙◌, arith, length-append}
use Rattle.std.proofs.lemmas.List.{append-nil, take_all, append_assoc, take-append-le, get_or_append_left, length-replicate}
use Rattle.std.proofs.lemmas.Bool.{cases_lt}
use Rattle.hs_base.specs.declared.context.Next.TheVariants as after
use Rattle.hs_base.specs.declared.context.Prev.{Prev}
use Rattle.hs_base.specs.Contexts.{class_of, prev_at, prev_behind}
use Rattle.hs_base.specs.Fields.{Leaves}
use Rattle.hs_base.specs.Trees.{Tree}
use Rattle.hs_engine.specs.Engines.{IsAsleep, Meaning}
use Rattle.hs_engine.specs.declared.ends.ByteEnds.{ByteEnds}
use Rattle.hs_engine.specs.Timeless.{IsStepTaken}
use Rattle.hs_lazy.specs.Runs.{IsBlankRegion, IsRunThrough, RunsThrough, TakesEntered}
use Rattle.hs_lazy.proofs.TableLemmas.{get-last}

-- What stands before the byte behind these: what stood before them, if there are none.
abbrev pub StandsBehind : (prev : Prev) (bytes : List ℕ) (here : Prev) → Type 0
StandsBehind prev bytes here =
    (u : List ℕ) → prev ≡ prev_at u (length u) → here ≡ prev_at (u ++ bytes) (length (u ++ bytes))

pub stands-none : (prev : Prev) → StandsBehind prev [] prev
stands-none prev u is = is ∙ ap (λ w. prev_at w (length w)) (sym (append-nil u))

prev-last : (w : List ℕ) (b : ℕ) → prev_at (w ++ b ∷ []) (length (w ++ b ∷ [])) ≡ prev_behind (Some b)
unfolding prev_at
prev-last w b =
    let size : length (w ++ b ∷ []) ≡ suc (length w) = omega (arith, length-append w (b ∷ [])) in
    ap (prev_at (w ++ b ∷ [])) size ∙ ap prev_behind (get-last w b)

pub stands-more : (prev : Prev) (bytes : List ℕ) (b : ℕ) → StandsBehind prev (bytes ++ b ∷ []) (prev_behind (Some b))
stands-more prev bytes b u is =
    sym (prev-last (u ++ bytes) b) ∙ ap (λ w. prev_at w (length w)) (append_assoc u bytes (b ∷ []))

pub run-none : (m : Meaning) (region : List ℕ) (prev : Prev) (before behind : ℕ → Bool) → RunsThrough m region region prev [] before behind
run-none m region prev before behind tree u entered is-for sized stands field = record {
  field = subst (λ w. m.field region tree w (entered ++ [])) (sym (append-nil u)) (subst (m.field region tree u) (sym (append-nil entered)) field);
  before_is = λ i low. absurd (omega (arith, low));
  behind_is = λ i low. absurd (omega (arith, low));
}

replicate-last : (k : ℕ) → replicate k true ++ true ∷ [] ≡ replicate (suc k) true
replicate-last zero = refl
replicate-last (suc k) = ap (λ l. true ∷ l) (replicate-last k)

replicate-more : (n : ℕ) (es : List Bool) → (es ++ replicate n true) ++ true ∷ [] ≡ es ++ replicate (n + 1) true
replicate-more n es =
    let next : suc n ≡ n + 1 = omega arith in
    append_assoc es (replicate n true) (true ∷ []) ∙ (ap (λ l. es ++ l) (replicate-last n) ∙ ap (λ k. es ++ replicate k true) next)

take-here : (xs : List ℕ) (b : ℕ) → take (length xs) (xs ++ b ∷ []) ≡ xs
take-here [] b = refl
take-here (x ∷ xs) b = ap (λ l. x ∷ l) (take-here xs b)

take-past : (xs : List ℕ) (b : ℕ) → take (length xs + 1) (xs ++ b ∷ []) ≡ xs ++ b ∷ []
take-past xs b = take_all (length xs + 1) (xs ++ b ∷ []) (omega (arith, length-append xs (b ∷ [])))

index-here : (xs : List ℕ) (b : ℕ) → slice_index (xs ++ b ∷ []) (length xs) ≡ b
index-here [] b = refl
index-here (x ∷ xs) b = index-here xs b

both-ways : {A B C : Type 0} → A ↔ B → B ≡ C → A ↔ C
both-ways {A = A} way same = subst (λ T. A ↔ T) same way

module _ (m : Meaning) (old mid new : List ℕ) (prev here : Prev) (xs : List ℕ) (b : ℕ) (before behind : ℕ → Bool)
    (runs : RunsThrough m old mid prev xs before behind)
    (one : RunsThrough m mid new here (b ∷ []) (λ i. before (length xs)) (λ i. behind (length xs)))
    (stands : StandsBehind prev xs here) where
  pub run-more : RunsThrough m old new prev (xs ++ b ∷ []) before behind
  run-more tree u entered is-for sized is field = record {
    field = subst (λ w. m.field new tree w (entered ++ replicate (length (xs ++ b ∷ [])) true)) (append_assoc u xs (b ∷ []))
        (subst (m.field new tree ((u ++ xs) ++ b ∷ [])) (replicate-more (length xs) entered ∙ ap (λ n. entered ++ replicate n true) (sym (length-append xs (b ∷ [])))) two.field);
    before_is = before_is;
    behind_is = behind_is;
  }
    where
      first : IsRunThrough (m.field mid tree) tree u entered xs before behind
      first = runs tree u entered is-for sized is field

      two : IsRunThrough (m.field new tree) tree (u ++ xs) (entered ++ replicate (length xs) true) (b ∷ []) (λ i. before (length xs)) (λ i. behind (length xs))
      two = one tree (u ++ xs) (entered ++ replicate (length xs) true) is-for
          (omega (arith, sized, length-append u xs, length-append entered (replicate (length xs) true), length-replicate (length xs) true))
          (stands u is) first.field

      before_is : (i : ℕ) → i < length (xs ++ b ∷ []) →
          (before i ≡ true) ↔ Leaves tree (u ++ take i (xs ++ b ∷ [])) (entered ++ replicate i true) (class_of (slice_index (xs ++ b ∷ []) i))
      before_is i low = elim (cases_lt i (length xs)) [
        | inl less ↦
            subst (λ w. (before i ≡ true) ↔ Leaves tree (u ++ w) (entered ++ replicate i true) (class_of (slice_index (xs ++ b ∷ []) i))) (sym (take-append-le i xs (b ∷ []) (omega (arith, less))))
            (subst (λ c. (before i ≡ true) ↔ Leaves tree (u ++ take i xs) (entered ++ replicate i true) (class_of c)) (sym (get_or_append_left xs (b ∷ []) 0 i less)) (first.before_is i less))
        | inr more ↦
            let here : length xs ≡ i = omega (arith, low, more, length-append xs (b ∷ [])) in
            subst (λ k. (before k ≡ true) ↔ Leaves tree (u ++ take k (xs ++ b ∷ [])) (entered ++ replicate k true) (class_of (slice_index (xs ++ b ∷ []) k))) here
            (subst (λ w. (before (length xs) ≡ true) ↔ Leaves tree (u ++ w) (entered ++ replicate (length xs) true) (class_of (slice_index (xs ++ b ∷ []) (length xs)))) (sym (take-here xs b))
            (subst (λ c. (before (length xs) ≡ true) ↔ Leaves tree (u ++ xs) (entered ++ replicate (length xs) true) (class_of c)) (sym (index-here xs b))
            (subst (λ w. (before (length xs) ≡ true) ↔ Leaves tree w (entered ++ replicate (length xs) true) (class_of b)) (append-nil (u ++ xs))
            (subst (λ es. (before (length xs) ≡ true) ↔ Leaves tree ((u ++ xs) ++ []) es (class_of b)) (append-nil (entered ++ replicate (length xs) true)) (two.before_is 0 (omega arith))))))
      ]

      behind_is : (i : ℕ) → i < length (xs ++ b ∷ []) →
          (behind i ≡ true) ↔ Leaves tree (u ++ take (i + 1) (xs ++ b ∷ [])) (entered ++ replicate (i + 1) true) after.Unknown
      behind_is i low = elim (cases_lt i (length xs)) [
        | inl less ↦
            subst (λ w. (behind i ≡ true) ↔ Leaves tree (u ++ w) (entered ++ replicate (i + 1) true) after.Unknown) (sym (take-append-le (i + 1) xs (b ∷ []) (omega (arith, less)))) (first.behind_is i less)
        | inr more ↦
            let here : length xs ≡ i = omega (arith, low, more, length-append xs (b ∷ [])) in
            subst (λ k. (behind k ≡ true) ↔ Leaves tree (u ++ take (k + 1) (xs ++ b ∷ [])) (entered ++ replicate (k + 1) true) after.Unknown) here
            (subst (λ w. (behind (length xs) ≡ true) ↔ Leaves tree (u ++ w) (entered ++ replicate (length xs + 1) true) after.Unknown) (sym (take-past xs b))
            (subst (λ w. (behind (length xs) ≡ true) ↔ Leaves tree w (entered ++ replicate (length xs + 1) true) after.Unknown) (append_assoc u xs (b ∷ []))
            (subst (λ es. (behind (length xs) ≡ true) ↔ Leaves tree ((u ++ xs) ++ b ∷ []) es after.Unknown) (replicate-more (length xs) entered) (two.behind_is 0 (omega arith)))))
      ]

-- only the bits of the bytes count
pub run-same : (m : Meaning) (old new : List ℕ) (prev : Prev) (bytes : List ℕ) (before behind before' behind' : ℕ → Bool) →
    ((i : ℕ) → i < length bytes → before' i ≡ before i) → ((i : ℕ) → i < length bytes → behind' i ≡ behind i) →
    RunsThrough m old new prev bytes before behind → RunsThrough m old new prev bytes before' behind'
run-same m old new prev bytes before behind before' behind' befores behinds runs tree u entered is-for sized is field =
    let one : IsRunThrough (m.field new tree) tree u entered bytes before behind = runs tree u entered is-for sized is field in
    record {
      field = one.field;
      before_is = λ i low. subst (λ x. (x ≡ true) ↔ Leaves tree (u ++ take i bytes) (entered ++ replicate i true) (class_of (slice_index bytes i))) (sym (befores i low)) (one.before_is i low);
      behind_is = λ i low. subst (λ x. (x ≡ true) ↔ Leaves tree (u ++ take (i + 1) bytes) (entered ++ replicate (i + 1) true) after.Unknown) (sym (behinds i low)) (one.behind_is i low);
    }

or-true : (x : Bool) → (x || true) ≡ true
or-true true = refl
or-true false = refl

-- A member that sleeps on stays as it is, and is left nowhere.
pub asleep-takes : (m : Meaning) (region : List ℕ) (prev : Prev) (byte : ℕ) (ends : ByteEnds) → IsAsleep m region byte → IsBlankRegion m region →
    ends.before ≡ false → ends.behind ≡ false → TakesEntered m region region prev byte ends
asleep-takes m region prev byte ends asleep blank no-before no-behind = record {
  well = blank.well;
  takes = takes;
}
  where
    never : (x : Bool) (P : Type 0) → x ≡ false → (P → ⊥) → (x ≡ true) ↔ P
    never x P unset none = (λ set. absurd (cc), λ p. absurd (none p))

    takes : (tree : Tree) (u : List ℕ) (entered : List Bool) → m.is_for tree → length entered ≡ length u → prev ≡ prev_at u (length u) → m.field region tree u entered →
        IsStepTaken (m.field region tree) tree u entered true byte ends
    takes tree u entered is-for sized is field =
        let stays : m.field region tree (u ++ byte ∷ []) (entered ++ true ∷ []) =
        subst (λ x. m.field region tree (u ++ byte ∷ []) (entered ++ x ∷ [])) (or-true m.always) (asleep.stays true tree u entered is-for sized field) in
        record {
          field = stays;
          before_is = never ends.before (Leaves tree u entered (class_of byte)) no-before (asleep.leaves_nothing tree u entered is-for sized field (class_of byte));
          behind_is = never ends.behind (Leaves tree (u ++ byte ∷ []) (entered ++ true ∷ []) after.Unknown) no-behind
              (asleep.leaves_nothing tree (u ++ byte ∷ []) (entered ++ true ∷ []) is-for
              (omega (arith, sized, length-append u (byte ∷ []), length-append entered (true ∷ []))) stays after.Unknown);
        }

-- One byte that is taken is a run.
pub run-one : (m : Meaning) (old new : List ℕ) (prev : Prev) (byte : ℕ) (ends : ByteEnds) → TakesEntered m old new prev byte ends →
    RunsThrough m old new prev (byte ∷ []) (λ i. ends.before) (λ i. ends.behind)
run-one m old new prev byte ends taken tree u entered is-for sized is field =
    let one = taken.takes tree u entered is-for sized is field in
    record {
      field = one.field;
      before_is = λ i low.
          let first : 0 ≡ i = omega (arith, low) in
          subst (λ k. (ends.before ≡ true) ↔ Leaves tree (u ++ take k (byte ∷ [])) (entered ++ replicate k true) (class_of (slice_index (byte ∷ []) k))) first
          (subst (λ w. (ends.before ≡ true) ↔ Leaves tree w (entered ++ []) (class_of byte)) (sym (append-nil u))
          (subst (λ es. (ends.before ≡ true) ↔ Leaves tree u es (class_of byte)) (sym (append-nil entered)) one.before_is));
      behind_is = λ i low.
          let first : 0 ≡ i = omega (arith, low) in
          subst (λ k. (ends.behind ≡ true) ↔ Leaves tree (u ++ take (k + 1) (byte ∷ [])) (entered ++ replicate (k + 1) true) after.Unknown) first one.behind_is;
    }
