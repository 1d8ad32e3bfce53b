-- Nodes of which a cache tells.
use Rattle.std.proofs.Common.{◌≡◌, ℕ, Bool, true, false, List, ◌++◌, length, replicate, Option, Some, None, sym, subst, ◌∙◌}
use Rattle.std.specs.Prelude.{MatchBool}
use Rattle.hs_base.specs.declared.context.Prev.{Prev}
use Rattle.hs_base.specs.Bits.{AreZero}
use Rattle.hs_engine.specs.Engines.{Meaning}
use Rattle.hs_lazy.specs.Caches.{IsSilent, TellsRun, Told}
use Rattle.hs_nodes.specs.Nodes.{PassesOver}
use Rattle.hs_nodes.specs.Resting.{SleepsThrough}
use Rattle.hs_nodes.proofs.LivingLemmas.{zeros-same}

pub none-some : {A : Type 0} (o : Option A) (x : A) → o ≡ None → o ≡ Some x → ⊥
none-some o x none some = cc

-- it was told, since that was answered
pub told-true : (o : Option Told) (b : Bool) → MatchBool b ((t : Told) × (o ≡ Some t)) (o ≡ None) → b ≡ true → (t : Told) × (o ≡ Some t)
told-true o true m e = m
told-true o false m e = absurd (cc)

pub told-false : (o : Option Told) (b : Bool) → MatchBool b ((t : Told) × (o ≡ Some t)) (o ≡ None) → b ≡ false → o ≡ None
told-false o true m e = absurd (cc)
told-false o false m e = m

-- where nothing is live behind a chunk and before it, and it is left nowhere, the engine passes over it
module _ (m : Meaning) (old : List ℕ) (prev : Prev) (bytes : List ℕ) (t : Told) (runs : TellsRun m old prev bytes t) (sized : length old ≡ m.width) (zero_old : AreZero old) (silent : IsSilent t) where
  pub told-sleeps : SleepsThrough m prev bytes
  told-sleeps region idle = subst (λ rs. PassesOver m rs prev bytes) (zeros-same old region (sized ∙ sym idle.sized) zero_old idle.zero) passes where
    same : t.part ≡ old
    same = zeros-same t.part old (runs.sized ∙ sym sized) silent.zero zero_old

    passes : PassesOver m old prev bytes
    passes tree u entered is_for count last field =
        let run = runs.runs tree u entered is_for count last field in record {
          field = subst (λ rs. m.field rs tree (u ++ bytes) (entered ++ replicate (length bytes) true)) same run.field;
          before_is = λ i low. ((λ set. absurd (cc)), λ leaves. sym (silent.before i) ∙ (run.before_is i low).1 leaves);
          behind_is = λ i low. ((λ set. absurd (cc)), λ leaves. sym (silent.behind i) ∙ (run.behind_is i low).1 leaves);
        }
