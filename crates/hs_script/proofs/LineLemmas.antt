-- The first line of bytes: there is one, and only one.
use Rattle.std.proofs.Common.{◌≡◌, ◌≢◌, ℕ, ◌<◌, Bool, true, false, eqb, List, [], ◌∷◌, length, refl, sym, ap, ◌∙◌, subst, arith}
use Rattle.std.proofs.lemmas.Bool.{eq-eqb, eqb-true, false≢true}
use Rattle.hs_base.specs.Lists.{Each}
use Rattle.hs_base.specs.Assertions.{line_feed}
use Rattle.hs_text.proofs.CutLemmas.{AreSame, no_separator, cut_once}
use Rattle.hs_script.specs.Scripts.{BeginsLine, fed, unfed}

pub line_once : {l m r s bytes : List ℕ} → BeginsLine l r bytes → BeginsLine m s bytes → AreSame l m r s
line_once {l} {m} {r} {s} (fed p e) (fed q f) = cut_once line_feed l m r s p q (sym e ∙ f)
line_once {l} {m} {r} {s} (fed p e) (unfed q some f nothing) =
    absurd (no_separator line_feed l r (subst (λ xs. Each (λ b. b ≢ line_feed) xs) e q))
line_once {l} {m} {r} {s} (unfed q some f nothing) (fed p e) =
    absurd (no_separator line_feed m s (subst (λ xs. Each (λ b. b ≢ line_feed) xs) e q))
line_once (unfed p some e nothing) (unfed q some' f nothing') = record { left = e ∙ sym f; right = nothing ∙ sym nothing' }

-- no bytes have no line
pub no_line : {l r : List ℕ} → BeginsLine l r [] → ⊥
no_line {l = []} (fed p e) = cc
no_line {l = x ∷ xs} (fed p e) = cc
no_line (unfed p some e nothing) = some refl

-- a first line, with what is left behind it
pub record HasLine (bytes : List ℕ) : Type 0 where
  pub line : List ℕ
  pub rest : List ℕ
  pub begins : BeginsLine line rest bytes
  pub shorter : length rest < length bytes

longer : (b : ℕ) {bytes : List ℕ} → b ≢ line_feed → (l r : List ℕ) → BeginsLine l r bytes → length r < length bytes → HasLine (b ∷ bytes)
longer b {bytes} other l r (fed p e) short =
    record { line = b ∷ l; rest = r; begins = fed (other, p) (ap (λ xs. b ∷ xs) e); shorter = omega (arith, short) }
longer b {bytes} other l r (unfed p some e nothing) short =
    record { line = b ∷ bytes; rest = []; begins = unfed (other, p) (λ e. cc) refl refl; shorter = omega arith }

pub has_line : (b : ℕ) (bytes : List ℕ) → HasLine (b ∷ bytes)
has_line b [] = by_test (eqb b line_feed) refl
  where
    by_test : (t : Bool) → eqb b line_feed ≡ t → HasLine (b ∷ [])
    by_test true e =
        record { line = []; rest = []; begins = fed tt (ap (λ x. x ∷ []) (eqb-true b line_feed e)); shorter = omega arith }
    by_test false e =
        record { line = b ∷ []; rest = []; begins = unfed ((λ is. false≢true (sym e ∙ eq-eqb b line_feed is)), tt) (λ e. cc) refl refl; shorter = omega arith }
has_line b (c ∷ cs) = by_test (has_line c cs) (eqb b line_feed) refl
  where
    by_test : HasLine (c ∷ cs) → (t : Bool) → eqb b line_feed ≡ t → HasLine (b ∷ c ∷ cs)
    by_test has true e =
        record { line = []; rest = c ∷ cs; begins = fed tt (ap (λ x. x ∷ c ∷ cs) (eqb-true b line_feed e)); shorter = omega arith }
    by_test has false e = longer b (λ is. false≢true (sym e ∙ eq-eqb b line_feed is)) has.line has.rest has.begins has.shorter
