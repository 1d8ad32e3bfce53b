-- A bound on what the roles of a program take, by the chains before a number of them: one more.
use Rattle.std.proofs.Common.{◌≡◌, ℕ, suc, ◌+◌, length, Some, slice_get, sym, ap, subst, ◌∙◌, arith}
use Rattle.hs_rose.specs.declared.info.ChainInfo.{ChainInfo}
use Rattle.hs_rose.specs.Programs.{Tables}
use Rattle.hs_run.specs.Programs.{IsRunnable}

module _ (program : Tables) where
  -- It holds of as many roles as the chains before that number have.
  pub record IsBoundTo (j : ℕ) (Bound : ℕ → Type 0) : Type 0 where
    pub next : (c : ChainInfo) → slice_get program.chains j ≡ Some c → Bound c.first
    pub all : j ≡ length program.chains → Bound (length program.roles)

  pub bound-none : IsRunnable program → (Bound : ℕ → Type 0) → Bound 0 → IsBoundTo 0 Bound
  bound-none runs Bound start = record {
    next = λ c chain. subst Bound (sym (runs.begins c chain)) start;
    all = λ empty. subst Bound (sym (runs.none (sym empty))) start;
  }

  pub bound-more : IsRunnable program → (j : ℕ) (Before Behind : ℕ → Type 0) (c : ChainInfo) → slice_get program.chains j ≡ Some c → IsBoundTo j Before → (Before c.first → Behind c.end) → IsBoundTo (j + 1) Behind
  bound-more runs j Before Behind c chain before step = record {
    next = λ d is. subst Behind (sym (runs.follows j c d chain (ap (slice_get program.chains) (let s : suc j ≡ j + 1 = omega arith in s) ∙ is))) (step (before.next c chain));
    all = λ last. subst Behind (runs.ends j c chain (omega (arith, last))) (step (before.next c chain));
  }
