-- The reading goes one way.
use Rattle.std.proofs.Common.{◌≡◌, ℕ, Bool, true, false, List, refl, sym, ap, subst, ◌∙◌}
use Rattle.hs_base.specs.declared.flags.Flags.{Flags}
use Rattle.hs_base.specs.declared.refusal.Refusal.{Refusal}
use Rattle.hs_parse.specs.declared.spot.Spot.{Spot}
use Rattle.hs_parse.specs.Tokens.{Token, Next}
use Rattle.hs_parse.specs.Faults.{State, Move, goes, accepts, stops, move, Run, here, on, StopsAt}
use Rattle.hs_parse.proofs.TokenLemmas.{one_next}

-- runs join
pub run_then : {text : List ℕ} {s t u : State} → Run text s t → Run text t u → Run text s u
run_then here more = more
run_then (on there m run) more = on there m (run_then run more)

-- a run of one token
pub one_step :
    {text : List ℕ} {s t : State} {made : Token} {start behind : Spot} →
    Next text s.here start made behind → move made start behind s.outside s.before ≡ goes t → Run text s t
one_step there m = on there m here

-- whether the reading goes on
abbrev pub is_going : Move → Bool
is_going (goes s) = true
is_going accepts = false
is_going (stops at refusals) = false

-- the reading has come to its end
pub record Halts (text : List ℕ) (s : State) (last : Move) : Type 0 where
  pub made : Token
  pub start : Spot
  pub behind : Spot
  pub there : Next text s.here start made behind
  pub is : move made start behind s.outside s.before ≡ last
  pub final : is_going last ≡ false

-- one move is made from a state
same_moves :
    {text : List ℕ} (s : State) {a b : Token} {i j t u : Spot} {m n : Move} →
    Next text s.here i a t → move a i t s.outside s.before ≡ m → Next text s.here j b u → move b j u s.outside s.before ≡ n → m ≡ n
same_moves s {a = a} {b = b} {i = i} {j = j} {t = t} {u = u} p e q f =
    let same = one_next p q in
    sym e
    ∙ ap (λ (x : Token). move x i t s.outside s.before) same.token
    ∙ ap (λ (x : Spot). move b x t s.outside s.before) same.start
    ∙ ap (λ (x : Spot). move b j x s.outside s.before) same.behind
    ∙ f

going_on : {s : State} {m : Move} → m ≡ goes s → is_going m ≡ false → ⊥
going_on e h = let bad : true ≡ false = sym (ap is_going e) ∙ h in cc

moved_run : {text : List ℕ} {s t u : State} → s ≡ t → Run text t u → Run text s u
moved_run {text = text} {u = u} same run = subst (λ x. Run text x u) (sym same) run

-- two readings come to the same end
pub one_end :
    {text : List ℕ} {s t u : State} {m n : Move} →
    Run text s t → Halts text t m → Run text s u → Halts text u n → m ≡ n
one_end {s = s} here a here b = same_moves s a.there a.is b.there b.is
one_end {s = s} here a (on there e run) b = absurd (going_on (same_moves s a.there a.is there e) a.final)
one_end {s = s} (on there e run) a here b = absurd (going_on (same_moves s b.there b.is there e) b.final)
one_end {s = s} (on {t = x} there e run) a (on {t = y} other f more) b =
    let goal : goes x ≡ goes y = same_moves s there e other f in
    let same : x ≡ y = cc in
    one_end run a (moved_run same more) b

-- a reading that stops has come to its end
pub stops_halts :
    {text : List ℕ} {flags : Flags} {at : ℕ} {refusals : List Refusal} →
    (stop : StopsAt text flags at refusals) → Halts text stop.last (stops at refusals)
stops_halts stop =
    record { made = stop.token; start = stop.start; behind = stop.behind; there = stop.there; is = stop.stopped; final = refl }
