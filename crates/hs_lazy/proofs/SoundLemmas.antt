-- An automaton stays sound while its tables grow.
use Rattle.std.proofs.Common.{◌≡◌, ℕ, ◌+◌, ◌*◌, ◌<◌, List, length, Some, slice_get, get_or, refl, sym, ap, subst, arith}
use Rattle.std.proofs.Math.ListN.{set}
use Rattle.std.proofs.lemmas.Option.{slice_get_read, slice_get_within}
use Rattle.hs_engine.specs.Engines.{Meaning}
use Rattle.hs_lazy.specs.declared.parts.Member.{Member}
use Rattle.hs_lazy.specs.declared.parts.State.{State}
use Rattle.hs_lazy.specs.declared.parts.EndSet.{EndSet}
use Rattle.hs_lazy.specs.declared.dfa.LazyDfa.{LazyDfa}
use Rattle.hs_lazy.specs.Parts.{AreStillThere, IsStateWhole}
use Rattle.hs_lazy.specs.Sound.{AreMembersOf, IsDfaSound, IsStep}
use Rattle.hs_lazy.proofs.TableLemmas.{sound-ends, sound-grown, sound-written}

-- a state that was read is whole
pub whole-at : (d : LazyDfa) (s : ℕ) (old : State) → s < length d.states.items → old ≡ get_or d.states.items s old → IsStateWhole d.members.items old
whole-at d s old low is = d.live s old (slice_get_read d.states.items _ s old refl low is)

module _ {E : Type 0} (meaning : E → Meaning) (engines : List E) where
  abbrev pub IsSoundDfa : LazyDfa → Type 0
  IsSoundDfa d = IsDfaSound meaning engines d.members.items d.states.items d.rows.items d.ends.items

  pub sound-same : (m m' : List Member) (s s' : List State) (r r' : List ℕ) (e e' : List EndSet) → m' ≡ m → s' ≡ s → r' ≡ r → e' ≡ e →
      IsDfaSound meaning engines m s r e → IsDfaSound meaning engines m' s' r' e'
  sound-same m m' s s' r r' e e' ms ss rs es sound =
      subst (λ x. IsDfaSound meaning engines x s' r' e') (sym ms)
      (subst (λ x. IsDfaSound meaning engines m x r' e') (sym ss)
      (subst (λ x. IsDfaSound meaning engines m s x e') (sym rs)
      (subst (λ x. IsDfaSound meaning engines m s r x) (sym es) sound)))

  pub after-same : (d d' : LazyDfa) → d'.members ≡ d.members → d'.states ≡ d.states → d'.rows ≡ d.rows → d'.ends ≡ d.ends →
      IsSoundDfa d → IsSoundDfa d'
  after-same d d' ms ss rs es sound =
      sound-same d.members.items d'.members.items d.states.items d'.states.items d.rows.items d'.rows.items d.ends.items d'.ends.items
      (ap (λ v. v.items) ms) (ap (λ v. v.items) ss) (ap (λ v. v.items) rs) (ap (λ v. v.items) es) sound

  pub after-find : (d d' : LazyDfa) → d'.members ≡ d.members → AreStillThere d.states.items d'.states.items → d'.rows ≡ d.rows → d'.ends ≡ d.ends →
      IsSoundDfa d → IsSoundDfa d'
  after-find d d' ms kept rs es sound =
      sound-same d.members.items d'.members.items d'.states.items d'.states.items d.rows.items d'.rows.items d.ends.items d'.ends.items
      (ap (λ v. v.items) ms) refl (ap (λ v. v.items) rs) (ap (λ v. v.items) es)
      (sound-grown meaning engines d.members.items d.states.items d'.states.items d.rows.items d.ends.items d.unknown kept sound)

  pub after-ends : (d d' : LazyDfa) → d'.members ≡ d.members → d'.states ≡ d.states → d'.rows ≡ d.rows → AreStillThere d.ends.items d'.ends.items →
      IsSoundDfa d → IsSoundDfa d'
  after-ends d d' ms ss rs kept sound =
      sound-same d.members.items d'.members.items d.states.items d'.states.items d.rows.items d'.rows.items d'.ends.items d'.ends.items
      (ap (λ v. v.items) ms) (ap (λ v. v.items) ss) (ap (λ v. v.items) rs) refl
      (sound-ends meaning engines d.members.items d.states.items d.rows.items d.ends.items d'.ends.items kept sound)

  pub after-write : (d d' : LazyDfa) (s b step : ℕ) (old : State) → d'.members ≡ d.members → d'.states ≡ d.states → d'.ends ≡ d.ends →
      d'.rows.items ≡ set d.rows.items (256 * s + b) step → slice_get d.states.items s ≡ Some old → b < 256 →
      IsStep meaning engines d.members.items d.states.items d.ends.items old b step →
      IsSoundDfa d → IsSoundDfa d'
  after-write d d' s b step old ms ss es rows is small one sound =
      let low : s < length d.states.items = slice_get_within d.states.items s old is in
      sound-same d.members.items d'.members.items d.states.items d'.states.items (set d.rows.items (256 * s + b) step) d'.rows.items d.ends.items d'.ends.items
      (ap (λ v. v.items) ms) (ap (λ v. v.items) ss) rows (ap (λ v. v.items) es)
      (sound-written meaning engines d.members.items d.states.items d.rows.items d.ends.items s b step old is small (omega (arith, low, small, d.states_few, d.rows_len)) one sound)

  pub after-forget : (d d' : LazyDfa) → d'.members ≡ d.members → length d'.states.items ≡ 0 → IsSoundDfa d → IsSoundDfa d'
  after-forget d d' ms none sound = record {
    of = subst (λ v. AreMembersOf meaning engines v.items) (sym ms) sound.of;
    steps = λ s b old is small known. absurd (omega (arith, slice_get_within d'.states.items s old is, none));
  }
