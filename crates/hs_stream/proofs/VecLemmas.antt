-- A `Vec` that is written with its own elements.
use Rattle.std.proofs.Common.{◌≡◌, ◌∙◌, List, length, Vec, sym, ap, subst}
use Rattle.std.proofs.lemmas.List.{with_items_is}
use Rattle.std.specs.Vec.{with_items}
use native.Mathlib.Nat.{ℕ_set}

module _ {X Z : Type 0} (v : Vec X Z) where
  -- other elements are the same ones, with any proof of their number
  refilled : (xs : List X) → xs ≡ v.items → (k : v.len ≡ length xs) → record v { items = xs; ok = (k, v.ok.1) } ≡ v
  refilled xs e =
      subst (λ ys. (k : v.len ≡ length ys) → record v { items = ys; ok = (k, v.ok.1) } ≡ v) (sym e)
      (λ k. ap (λ j. record v { ok = (j, v.ok.1) }) (ℕ_set v.len (length v.items) k v.ok.0))

  pub with-items_same : (ws : List X) → ws ≡ v.items → with_items v ws ≡ v
  with-items_same ws e =
      let there = with_items v ws in
      refilled there.items (with_items_is v ws (ap length e ∙ sym v.ok.0) ∙ e) there.ok.0
