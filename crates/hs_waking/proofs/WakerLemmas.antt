-- The bytes that wake an engine as a row of one set.
use Rattle.std.proofs.Common.{◌≡◌, ℕ, zero, suc, ◌+◌, ◌<◌, ◌≤◌, Bool, true, false, ◌||◌, List, [], ◌∷◌, ◌++◌, length, take, replicate, get_or, slice_get, refl, sym, ap, subst, ◌∙◌, arith, length-append}
use Rattle.std.specs.Prelude.{EachIndex, slice_index}
use Rattle.std.proofs.lemmas.List.{append-nil, append_assoc, length-replicate, length-take-le, replicate-append-replicate, take_all}
use Rattle.std.proofs.Math.Seq.{take-suc}
use Rattle.hs_base.specs.declared.byte_set.ByteSet.{ByteSet}
use Rattle.hs_base.specs.declared.context.Prev.{Prev}
use Rattle.hs_bits.specs.BlockContexts.{prev_before}
use Rattle.hs_waking.specs.declared.prev_set.PrevSet.{PrevSet}
use Rattle.hs_waking.specs.PrevSets.{has_prev}
use Rattle.hs_base.specs.ByteSets.{has}
use Rattle.hs_base.specs.Trees.{Tree}
use Rattle.hs_engine.specs.Engines.{Meaning, AreWakers, IsAsleep, IsStart}
use Rattle.hs_waking.specs.Fits.{FitsNowhere, FitsTo}
use Rattle.hs_waking.specs.WakeRows.{IsWakeRow}

none-or : (b : Bool) → (b ≡ true → ⊥) → b ≡ false
none-or true not = absurd (not refl)
none-or false not = refl

either-true : (b : Bool) → (b || true) ≡ true
either-true true = refl
either-true false = refl

module _ (m : Meaning) (behind : PrevSet) (set : ByteSet) (each : (prev : Prev) → has_prev behind prev ≡ true) (wakers : AreWakers m set) (region bytes : List ℕ) (prev : Prev) (starts : IsStart m region)
    (small : EachIndex bytes (λ k. slice_index bytes k < 256)) (nowhere : FitsNowhere behind (set ∷ []) prev bytes) where
  outside : (i : ℕ) → i < length bytes → has set (get_or bytes i 0) ≡ false
  outside i low = none-or (has set (get_or bytes i 0)) (λ is. nowhere i low (each (prev_before prev bytes i), fits-here is)) where
    fits-here : has set (get_or bytes i 0) ≡ true → FitsTo (slice_get (set ∷ [])) bytes 1 i
    fits-here is zero below inside = let same : i ≡ i + 0 = omega arith in subst (λ n. has set (get_or bytes n 0) ≡ true) same is
    fits-here is (suc d) below inside = absurd (omega arith)

  sleeps : (i : ℕ) → i < length bytes → IsAsleep m region (get_or bytes i 0)
  sleeps i low = wakers region (get_or bytes i 0) starts (small i low) (outside i low)

  module _ (tree : Tree) (u : List ℕ) (entered : List Bool) (told : m.is_for tree) (len : length entered ≡ length u) (field : m.field region tree u entered) where
    same-len : (i : ℕ) → i ≤ length bytes → length (entered ++ replicate i true) ≡ length (u ++ take i bytes)
    same-len i within = omega (arith, len, length-append entered (replicate i true), length-append u (take i bytes), length-replicate i true, length-take-le i bytes within)

    stays-to : (i : ℕ) → i ≤ length bytes → m.field region tree (u ++ take i bytes) (entered ++ replicate i true)
    stays-to zero within = subst (λ v. m.field region tree v (entered ++ [])) (sym (append-nil u)) (subst (λ es. m.field region tree u es) (sym (append-nil entered)) field)
    stays-to (suc i) within =
        let one : i + 1 ≡ suc i = omega arith in
        let next = (sleeps i (omega arith)).stays true tree (u ++ take i bytes) (entered ++ replicate i true) told (same-len i (omega arith)) (stays-to i (omega arith)) in
        subst (λ v. m.field region tree v (entered ++ replicate (suc i) true)) (append_assoc u (take i bytes) (get_or bytes i 0 ∷ []) ∙ sym (ap (λ v. u ++ v) (take-suc bytes i 0 (omega arith))))
        (subst (λ es. m.field region tree ((u ++ take i bytes) ++ get_or bytes i 0 ∷ []) es) (append_assoc entered (replicate i true) (true ∷ []) ∙ ap (λ v. entered ++ v) (replicate-append-replicate i 1 true ∙ ap (λ n. replicate n true) one))
        (subst (λ b. m.field region tree ((u ++ take i bytes) ++ get_or bytes i 0 ∷ []) ((entered ++ replicate i true) ++ b ∷ [])) (either-true m.always) next))

pub waker-row : (m : Meaning) (behind : PrevSet) (set : ByteSet) → ((prev : Prev) → has_prev behind prev ≡ true) → AreWakers m set → IsWakeRow m behind (set ∷ [])
waker-row m behind set each wakers region bytes prev starts small nowhere = record {
  stays = λ tree u entered told len before field.
      subst (λ v. m.field region tree (u ++ v) (entered ++ replicate (length bytes) true)) (take_all (length bytes) bytes (omega arith))
      (stays-to m behind set each wakers region bytes prev starts small nowhere tree u entered told len field (length bytes) (omega arith));
  leaves_nothing = λ tree u entered told len before field i some within next.
      (sleeps m behind set each wakers region bytes prev starts small nowhere 0 some).leaves_nothing tree (u ++ take i bytes) (entered ++ replicate i true) told
      (same-len m behind set each wakers region bytes prev starts small nowhere tree u entered told len field i within)
      (stays-to m behind set each wakers region bytes prev starts small nowhere tree u entered told len field i within) next;
}
