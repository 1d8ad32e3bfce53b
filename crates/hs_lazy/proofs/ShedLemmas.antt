-- Members that are given up.
use Rattle.std.proofs.Common.{◌≡◌, ℕ, ◌+◌, ◌<◌, Bool, false, not, ◌&&◌, inl, inr, List, length, Option, Some, None, slice_get, refl, sym, ap, subst, ◌∙◌, arith}
use Rattle.std.specs.Prelude.{if◌then◌else◌}
use Rattle.std.proofs.Math.ListN.{set}
use Rattle.std.proofs.lemmas.Bool.{eq-eqb}
use Rattle.std.proofs.lemmas.Option.{slice_get_within}
use Rattle.hs_engine.specs.Engines.{AreWakers, Meaning}
use Rattle.hs_lazy.specs.Members.{IsShed}
use Rattle.hs_lazy.specs.Members.IsShed.{sheds, stays}
use Rattle.hs_lazy.specs.Parts.{AreFewer, AreMembersApart, IsSameMember}
use Rattle.hs_lazy.specs.Sound.{AreMembersOf, IsDfaSound}
use Rattle.hs_lazy.specs.Tables.{AreAllSound, AreDfasOf, engine_at, engine_in, member_by, member_in, member_of, own_member, place_in, place_for}
use Rattle.hs_lazy.specs.declared.cache.Dfas.{Dfas}
use Rattle.hs_lazy.specs.declared.cache.Place.{Place}
use Rattle.hs_lazy.specs.declared.dfa.LazyDfa.{LazyDfa}
use Rattle.hs_lazy.specs.declared.parts.Member.{Member}
use Rattle.hs_lazy.proofs.ChunkLemmas.{own-is, own-kept}
use Rattle.hs_lazy.proofs.ListLemmas.{get-set}
use Rattle.hs_lazy.proofs.TableLemmas.{sound-none}
use Rattle.hs_lazy.proofs.ToldLemmas.{own-number}

pub fewer-same : (members : List Member) → AreFewer members members
fewer-same members k m is = (m, is, record { number_is = refl; engine_is = refl; start_is = refl; end_is = refl; wakers_are = refl; kept = λ kept. kept })

same-then : (a b c : Member) → IsSameMember a b → IsSameMember b c → IsSameMember a c
same-then a b c one other = record {
  number_is = other.number_is ∙ one.number_is;
  engine_is = other.engine_is ∙ one.engine_is;
  start_is = other.start_is ∙ one.start_is;
  end_is = other.end_is ∙ one.end_is;
  wakers_are = other.wakers_are ∙ one.wakers_are;
  kept = λ kept. one.kept (other.kept kept);
}

fewer-then : (a b c : List Member) → AreFewer a b → AreFewer b c → AreFewer a c
fewer-then a b c one other k m is =
    let (x, x_is, same) = other k m is in
    let (y, y_is, same') = one k x x_is in
    (y, y_is, same-then y x m same' same)

shed-then : (a b c : LazyDfa) → IsShed a b → IsShed b c → IsShed a c
shed-then a b c one (stays same) = subst (IsShed a) (sym same) one
shed-then a b c (stays same) (sheds fewer none) = sheds (subst (λ (d : LazyDfa). AreFewer d.members.items c.members.items) same fewer) none
shed-then a b c (sheds fewer none) (sheds fewer' none') = sheds (fewer-then a.members.items b.members.items c.members.items fewer fewer') none'

-- one automaton more gives up members
pub shed-set : (old list : List LazyDfa) (at : ℕ) (dfa new : LazyDfa) → slice_get list at ≡ Some dfa → IsShed dfa new →
    ((i : ℕ) (x : LazyDfa) → slice_get list i ≡ Some x → (before : LazyDfa) × (slice_get old i ≡ Some before) × IsShed before x) →
    (i : ℕ) (x : LazyDfa) → slice_get (set list at new) i ≡ Some x → (before : LazyDfa) × (slice_get old i ≡ Some before) × IsShed before x
shed-set old list at dfa new there one all i x is = elim (get-set list at new i x (slice_get_within list at dfa there) is) [
  | inl (here, what) ↦
      let (before, before_is, prior) = all i dfa (ap (slice_get list) here ∙ there) in
      (before, before_is, subst (IsShed before) (sym what) (shed-then before dfa new prior one))
  | inr (other, was) ↦ all i x was
]

-- one more is given up
pub fewer-set : (old members : List Member) (k : ℕ) (m m' : Member) → slice_get members k ≡ Some m → IsSameMember m m' → AreFewer old members → AreFewer old (set members k m')
fewer-set old members k m m' at one fewer j x is = elim (get-set members k m' j x (slice_get_within members k m at) is) [
  | inl (here, what) ↦
      let (before, before_is, same) = fewer j m (ap (slice_get members) here ∙ at) in (
        before,
        before_is,
        subst (IsSameMember before) (sym what) (record {
          number_is = one.number_is ∙ same.number_is;
          engine_is = one.engine_is ∙ same.engine_is;
          start_is = one.start_is ∙ same.start_is;
          end_is = one.end_is ∙ same.end_is;
          wakers_are = one.wakers_are ∙ same.wakers_are;
          kept = λ kept. same.kept (one.kept kept);
        }),
      )
  | inr (other, was) ↦ fewer j x was
]

-- they lie where they lay
pub fewer-apart : (old new : List Member) → AreFewer old new → AreMembersApart old → AreMembersApart new
fewer-apart old new fewer apart = record {
  rising = λ k m is. (let (b, b_is, same) = fewer k m is in omega (arith, apart.rising k b b_is, same.start_is, same.end_is));
  within = λ k m is. (let (b, b_is, same) = fewer k m is in omega (arith, apart.within k b b_is, same.end_is));
  in_turn = λ j k a b low is-a is-b.
      let (x, x_is, same) = fewer j a is-a in
      let (y, y_is, same') = fewer k b is-b in
      omega (arith, apart.in_turn j k x y low x_is y_is, same.end_is, same'.start_is);
}

module _ {E : Type 0} (meaning : E → Meaning) (engines : List E) where
  -- and are of the engines that they were of
  fewer-of : (old new : List Member) → AreFewer old new → AreMembersOf meaning engines old → AreMembersOf meaning engines new
  fewer-of old new fewer of = record {
    there = λ k m is. (let (b, b_is, same) = fewer k m is in subst (λ n. n < length engines) (sym same.engine_is) (of.there k b b_is));
    listed = λ k m e is at. (let (b, b_is, same) = fewer k m is in of.listed k b e b_is (ap (slice_get engines) (sym same.engine_is) ∙ at));
    sized = λ k m e is at.
        let (b, b_is, same) = fewer k m is in
        ap (λ n. n + (meaning e).width) same.start_is ∙ (of.sized k b e b_is (ap (slice_get engines) (sym same.engine_is) ∙ at) ∙ sym same.end_is);
    woken = λ k m e is at.
        let (b, b_is, same) = fewer k m is in
        subst (AreWakers (meaning e)) (sym same.wakers_are) (of.woken k b e b_is (ap (slice_get engines) (sym same.engine_is) ∙ at));
  }

  shed-sound : (old new : LazyDfa) → IsShed old new → IsDfaSound meaning engines old.members.items old.states.items old.rows.items old.ends.items →
      IsDfaSound meaning engines new.members.items new.states.items new.rows.items new.ends.items
  shed-sound old new (stays same) sound = subst (λ (d : LazyDfa). IsDfaSound meaning engines d.members.items d.states.items d.rows.items d.ends.items) (sym same) sound
  shed-sound old new (sheds fewer none) sound =
      sound-none meaning engines new.members.items new.states.items new.rows.items new.ends.items none (fewer-of old.members.items new.members.items fewer sound.of)

  pub shed-all-sound : (old new : List LazyDfa) → ((i : ℕ) (dfa : LazyDfa) → slice_get new i ≡ Some dfa → (before : LazyDfa) × (slice_get old i ≡ Some before) × IsShed before dfa) →
      AreAllSound meaning engines old → AreAllSound meaning engines new
  shed-all-sound old new shed all i dfa is =
      let (before, before_is, one) = shed i dfa is in
      shed-sound before dfa one (all i before before_is)

shed-fewer : (old new : LazyDfa) → IsShed old new → AreFewer old.members.items new.members.items
shed-fewer old new (stays same) = subst (λ (d : LazyDfa). AreFewer old.members.items d.members.items) (sym same) (fewer-same old.members.items)
shed-fewer old new (sheds fewer none) = fewer

-- a member that runs for a number did so before
fewer-by : (old new : List LazyDfa) → ((i : ℕ) (dfa : LazyDfa) → slice_get new i ≡ Some dfa → (before : LazyDfa) × (slice_get old i ≡ Some before) × IsShed before dfa) →
    (p : Option Place) (m : Member) → member_by new p ≡ Some m → (before : Member) × (member_by old p ≡ Some before) × IsSameMember before m
fewer-by old new shed None m is = absurd (cc)
fewer-by old new shed (Some p) m is = by (slice_get new p.dfa) refl is
  where
    by : (o : Option LazyDfa) → slice_get new p.dfa ≡ o → member_in o p.member ≡ Some m → (before : Member) × (member_by old (Some p) ≡ Some before) × IsSameMember before m
    by None d own = absurd (cc)
    by (Some dfa) d own =
        let (was, was_is, one) = shed p.dfa dfa d in
        let (before, before_is, same) = shed-fewer was dfa one p.member m own in
        (before, ap (λ o. member_in o p.member) was_is ∙ before_is, same)

own-some : (k : ℕ) (m : Member) → m.number ≡ k → m.is_dropped ≡ false → own_member k (Some m) ≡ Some m
own-some k m number kept =
    ap (λ (b : Bool). if b && not m.is_dropped then Some m else None) (eq-eqb m.number k number) ∙ ap (λ (b : Bool). if not b then Some m else None) kept

engine-got : (o : Option Member) (n : ℕ) → engine_in o ≡ Some n → (m : Member) × (o ≡ Some m) × (m.engine ≡ n)
engine-got None n e = absurd (cc)
engine-got (Some m) n e = (m, refl, some-same m.engine n e)
  where
    some-same : (x y : ℕ) → Some x ≡ Some y → x ≡ y
    some-same x y same = cc

-- an engine that runs for a number ran for it before
pub shed-engines : (d d' : Dfas) → d'.places ≡ d.places → ((i : ℕ) (dfa : LazyDfa) → slice_get d'.list.items i ≡ Some dfa → (before : LazyDfa) × (slice_get d.list.items i ≡ Some before) × IsShed before dfa) →
    (k n : ℕ) → engine_at d' k ≡ Some n → engine_at d k ≡ Some n
unfolding engine_at
shed-engines d d' places shed k n is =
    let (m, own, engine) = engine-got (member_of d' k) n is in
    let by : member_by d'.list.items (place_for d' k) ≡ Some m = own-is k (member_by d'.list.items (place_for d' k)) m own in
    let (before, before_is, same) = fewer-by d.list.items d'.list.items shed (place_for d' k) m by in
    let spot : place_for d' k ≡ place_for d k = ap (λ ps. place_in (slice_get ps.items k)) places in
    let number : before.number ≡ k = sym same.number_is ∙ own-number k (member_by d'.list.items (place_for d' k)) m own in
    let kept : before.is_dropped ≡ false = same.kept (own-kept k (member_by d'.list.items (place_for d' k)) m own) in
    ap engine_in (ap (λ p. own_member k (member_by d.list.items p)) (sym spot) ∙ (ap (own_member k) before_is ∙ own-some k before number kept)) ∙ ap Some (sym same.engine_is ∙ engine)

pub shed-dfas : {E : Type 0} (meaning : E → Meaning) (engines : List E) (d d' : Dfas) → d'.places ≡ d.places → ((i : ℕ) (dfa : LazyDfa) → slice_get d'.list.items i ≡ Some dfa → (before : LazyDfa) × (slice_get d.list.items i ≡ Some before) × IsShed before dfa) →
    AreDfasOf meaning engines d → AreDfasOf meaning engines d'
shed-dfas meaning engines d d' places shed of = record {
  there = λ k n is. of.there k n (shed-engines d d' places shed k n is);
  listed = λ k n e is at. of.listed k n e (shed-engines d d' places shed k n is) at;
  sound = shed-all-sound meaning engines d.list.items d'.list.items shed of.sound;
}
