-- A number to which an engine is given, and an automaton more.
use Rattle.std.proofs.Common.{◌≡◌, ℕ, zero, suc, ◌+◌, ◌<◌, Bool, true, false, not, ◌&&◌, List, [], ◌∷◌, ◌++◌, length, slice_get, Option, Some, None, refl, sym, ap, subst, ◌∙◌, inl, inr, arith, eqb}
use Rattle.std.specs.Prelude.{if◌then◌else◌}
use Rattle.std.proofs.Math.ListN.{set}
use Rattle.std.proofs.lemmas.Bool.{cases_eq, ne_eqb}
use Rattle.std.proofs.lemmas.Option.{slice_get_within}
use Rattle.hs_base.specs.declared.byte_set.ByteSet.{ByteSet}
use Rattle.hs_engine.specs.Engines.{AreWakers, Meaning}
use Rattle.hs_lazy.specs.Members.{IsTakenIn}
use Rattle.hs_lazy.specs.Sound.{AreMembersOf, IsDfaSound}
use Rattle.hs_lazy.specs.Tables.{AreDfasOf, IsPut, engine_at, engine_in, member_by, member_in, member_of, own_member, place_in, place_for}
use Rattle.hs_lazy.specs.Tables.IsPut.{is_put, stays}
use Rattle.hs_lazy.specs.declared.cache.Dfas.{Dfas}
use Rattle.hs_lazy.specs.declared.cache.Place.{Place}
use Rattle.hs_lazy.specs.declared.dfa.LazyDfa.{LazyDfa}
use Rattle.hs_lazy.specs.declared.parts.Member.{Member}
use Rattle.hs_lazy.proofs.TableLemmas.{get-either, get-last, sound-none}
use Rattle.hs_base.proofs.RegionLemmas.{range-size}
use Rattle.hs_lazy.specs.Caches.{loaded, loaded_by, run_at}
use Rattle.hs_lazy.specs.declared.cache.Cache.{Cache}
use Rattle.hs_lazy.proofs.ChunkLemmas.{own-is}
use Rattle.hs_lazy.proofs.ListLemmas.{get-set, set-got, set-others}

some-same : {A : Type 0} (x y : A) → Some x ≡ Some y → x ≡ y
some-same x y e = cc

-- an automaton without members behind the others
pushed-member : (list : List LazyDfa) (new : LazyDfa) → new.members.items ≡ [] → (i j : ℕ) → member_in (slice_get (list ++ new ∷ []) i) j ≡ member_in (slice_get list i) j
pushed-member [] new none zero j = ap (λ (ms : List Member). slice_get ms j) none
pushed-member [] new none (suc i) j = refl
pushed-member (x ∷ list) new none zero j = refl
pushed-member (x ∷ list) new none (suc i) j = pushed-member list new none i j

pushed-by : (list : List LazyDfa) (new : LazyDfa) → new.members.items ≡ [] → (p : Option Place) → member_by (list ++ new ∷ []) p ≡ member_by list p
pushed-by list new none None = refl
pushed-by list new none (Some p) = pushed-member list new none p.dfa p.member

-- the engines of numbers go by the list and the places
pub engine-same : (d d' : Dfas) (k : ℕ) → member_by d'.list.items (place_for d' k) ≡ member_by d.list.items (place_for d k) → engine_at d' k ≡ engine_at d k
unfolding engine_at
engine-same d d' k same = ap (λ m. engine_in (own_member k m)) same

pub engine-pushed : (d d' : Dfas) (new : LazyDfa) (k : ℕ) → new.members.items ≡ [] → d'.list.items ≡ d.list.items ++ new ∷ [] → d'.places ≡ d.places → engine_at d' k ≡ engine_at d k
engine-pushed d d' new k none list places =
    engine-same d d' k (ap (λ l. member_by l (place_for d' k)) list ∙ (ap (λ ps. member_by (d.list.items ++ new ∷ []) (place_in (slice_get ps.items k))) places ∙ pushed-by d.list.items new none (place_for d k)))

no-members : {E : Type 0} (meaning : E → Meaning) (engines : List E) (members : List Member) → members ≡ [] → AreMembersOf meaning engines members
no-members meaning engines members none = record {
  there = λ k m is. absurd (omega (arith, slice_get_within members k m is, ap length none));
  listed = λ k m e is at. absurd (omega (arith, slice_get_within members k m is, ap length none));
  sized = λ k m e is at. absurd (omega (arith, slice_get_within members k m is, ap length none));
  woken = λ k m e is at. absurd (omega (arith, slice_get_within members k m is, ap length none));
}

pub dfas-pushed : {E : Type 0} (meaning : E → Meaning) (engines : List E) (d d' : Dfas) (new : LazyDfa) → new.members.items ≡ [] → new.states.items ≡ [] → d'.list.items ≡ d.list.items ++ new ∷ [] → d'.places ≡ d.places → AreDfasOf meaning engines d → AreDfasOf meaning engines d'
dfas-pushed meaning engines d d' new none unknown list places are = record {
  there = λ k n is. are.there k n (sym (engine-pushed d d' new k none list places) ∙ is);
  listed = λ k n e is at. are.listed k n e (sym (engine-pushed d d' new k none list places) ∙ is) at;
  sound = λ i dfa is. elim (get-either d.list.items new i dfa (ap (λ l. slice_get l i) (sym list) ∙ is)) [
    | inl there ↦ are.sound i dfa there
    | inr here ↦ subst (λ (x : LazyDfa). IsDfaSound meaning engines x.members.items x.states.items x.rows.items x.ends.items) (sym here.1)
        (sound-none meaning engines new.members.items new.states.items new.rows.items new.ends.items unknown (no-members meaning engines new.members.items none))
  ];
}

-- one member more, of another number
more-own : (members : List Member) (m : Member) (k j : ℕ) → (m.number ≡ k → ⊥) → own_member k (slice_get (members ++ m ∷ []) j) ≡ own_member k (slice_get members j)
more-own [] m k zero apart = ap (λ (b : Bool). if b && not m.is_dropped then Some m else None) (ne_eqb m.number k apart)
more-own [] m k (suc j) apart = refl
more-own (x ∷ members) m k zero apart = refl
more-own (x ∷ members) m k (suc j) apart = more-own members m k j apart

engine-if : (b : Bool) (m : Member) (n : ℕ) → engine_in (if b then Some m else None) ≡ Some n → n ≡ m.engine
engine-if true m n e = sym (some-same m.engine n e)
engine-if false m n e = absurd (cc)

module _ (d d' : Dfas) (number engine size at member : ℕ) (wakers : ByteSet) (before behind : LazyDfa) (there : slice_get d.list.items at ≡ Some before) (list : d'.list.items ≡ set d.list.items at behind) (places : d'.places.items ≡ set d.places.items number (Some (record { dfa = at; member = member })))
    (within : number < length d.places.items) (taken : IsTakenIn before behind number engine size wakers member) where
  low : at < length d.list.items
  low = slice_get_within d.list.items at before there

  new-place : place_for d' number ≡ Some (record { dfa = at; member = member })
  new-place = ap (λ ps. place_in (slice_get ps number)) places ∙ ap place_in (set-got d.places.items number (Some (record { dfa = at; member = member })) within)

  old-place : (k : ℕ) → (k ≡ number → ⊥) → place_for d' k ≡ place_for d k
  old-place k apart = ap (λ ps. place_in (slice_get ps k)) places ∙ ap place_in (set-others d.places.items number (Some (record { dfa = at; member = member })) k apart)

  new-dfa : slice_get d'.list.items at ≡ Some behind
  new-dfa = ap (λ l. slice_get l at) list ∙ set-got d.list.items at behind low

  new-member : slice_get behind.members.items member ≡ Some taken.member
  new-member = ap (λ ms. slice_get ms member) taken.members ∙ (ap (slice_get (before.members.items ++ taken.member ∷ [])) taken.place_is ∙ get-last before.members.items taken.member)

  found : member_by d'.list.items (place_for d' number) ≡ Some taken.member
  found = ap (member_by d'.list.items) new-place ∙ (ap (λ o. member_in o member) new-dfa ∙ new-member)

  pub put-own : (n : ℕ) → engine_at d' number ≡ Some n → n ≡ engine
  unfolding engine_at
  put-own n is = engine-if (eqb taken.member.number number && not taken.member.is_dropped) taken.member n (sym (ap (λ o. engine_in (own_member number o)) found) ∙ is) ∙ taken.engine_is

  others-by : (k : ℕ) → (k ≡ number → ⊥) → (p : Option Place) → own_member k (member_by (set d.list.items at behind) p) ≡ own_member k (member_by d.list.items p)
  others-by k apart None = refl
  others-by k apart (Some p) = elim (cases_eq p.dfa at) [
    | inl same ↦
        ap (λ i. own_member k (member_in (slice_get (set d.list.items at behind) i) p.member)) same
        ∙ (ap (λ o. own_member k (member_in o p.member)) (set-got d.list.items at behind low)
        ∙ (ap (λ ms. own_member k (slice_get ms p.member)) taken.members
        ∙ (more-own before.members.items taken.member k p.member (λ e. apart (sym e ∙ taken.number_is))
        ∙ (sym (ap (λ o. own_member k (member_in o p.member)) there) ∙ ap (λ i. own_member k (member_in (slice_get d.list.items i) p.member)) (sym same)))))
    | inr other ↦ ap (λ o. own_member k (member_in o p.member)) (set-others d.list.items at behind p.dfa other)
  ]

  pub put-others : (k : ℕ) → (k ≡ number → ⊥) → engine_at d' k ≡ engine_at d k
  unfolding engine_at
  put-others k apart =
      ap engine_in (ap (λ l. own_member k (member_by l (place_for d' k))) list ∙ (ap (λ p. own_member k (member_by (set d.list.items at behind) p)) (old-place k apart) ∙ others-by k apart (place_for d k)))

  module _ {E : Type 0} (meaning : E → Meaning) (engines : List E) (own : E) (own_is : slice_get engines engine ≡ Some own) (listed : (e : E) → slice_get engines engine ≡ Some e → (meaning e).always ≡ false) (size_is : size ≡ (meaning own).width) (are_wakers : AreWakers (meaning own) wakers) (are : AreDfasOf meaning engines d) where
    old-sound : IsDfaSound meaning engines before.members.items before.states.items before.rows.items before.ends.items
    old-sound = are.sound at before there

    of-engine : (P : ℕ → Type 0) → P engine → P taken.member.engine
    of-engine P p = subst P (sym taken.engine_is) p

    members-of : AreMembersOf meaning engines behind.members.items
    members-of = subst (AreMembersOf meaning engines) (sym taken.members) (record {
      there = λ k m is. elim (get-either before.members.items taken.member k m is) [
        | inl old ↦ old-sound.of.there k m old
        | inr here ↦ subst (λ (x : Member). x.engine < length engines) (sym here.1) (of-engine (λ i. i < length engines) (slice_get_within engines engine own own_is))
      ];
      listed = λ k m e is. elim (get-either before.members.items taken.member k m is) [
        | inl old ↦ old-sound.of.listed k m e old
        | inr here ↦ subst (λ (x : Member). slice_get engines x.engine ≡ Some e → (meaning e).always ≡ false) (sym here.1) (of-engine (λ i. slice_get engines i ≡ Some e → (meaning e).always ≡ false) (listed e))
      ];
      sized = λ k m e is. elim (get-either before.members.items taken.member k m is) [
        | inl old ↦ old-sound.of.sized k m e old
        | inr here ↦ subst (λ (x : Member). slice_get engines x.engine ≡ Some e → x.start + (meaning e).width ≡ x.end) (sym here.1)
            (of-engine (λ i. slice_get engines i ≡ Some e → taken.member.start + (meaning e).width ≡ taken.member.end)
            (λ at_e. let same : own ≡ e = some-same own e (sym own_is ∙ at_e) in subst (λ (x : E). taken.member.start + (meaning x).width ≡ taken.member.end) same (subst (λ n. taken.member.start + n ≡ taken.member.end) size_is taken.size_is)))
      ];
      woken = λ k m e is. elim (get-either before.members.items taken.member k m is) [
        | inl old ↦ old-sound.of.woken k m e old
        | inr here ↦ subst (λ (x : Member). slice_get engines x.engine ≡ Some e → AreWakers (meaning e) x.wakers) (sym here.1)
            (of-engine (λ i. slice_get engines i ≡ Some e → AreWakers (meaning e) taken.member.wakers)
            (λ at_e. let same : own ≡ e = some-same own e (sym own_is ∙ at_e) in subst (λ (x : E). AreWakers (meaning x) taken.member.wakers) same (subst (λ w. AreWakers (meaning own) w) (sym taken.wakers_are) are_wakers)))
      ];
    })

    pub put-dfas : AreDfasOf meaning engines d'
    put-dfas = record {
      there = λ k n is. elim (cases_eq k number) [
        | inl same ↦ subst (λ i. i < length engines) (sym (put-own n (ap (engine_at d') (sym same) ∙ is))) (slice_get_within engines engine own own_is)
        | inr apart ↦ are.there k n (sym (put-others k apart) ∙ is)
      ];
      listed = λ k n e is at_e. elim (cases_eq k number) [
        | inl same ↦ listed e (ap (slice_get engines) (sym (put-own n (ap (engine_at d') (sym same) ∙ is))) ∙ at_e)
        | inr apart ↦ are.listed k n e (sym (put-others k apart) ∙ is) at_e
      ];
      sound = λ i dfa is. elim (get-set d.list.items at behind i dfa low (ap (λ l. slice_get l i) (sym list) ∙ is)) [
        | inl here ↦ subst (λ (x : LazyDfa). IsDfaSound meaning engines x.members.items x.states.items x.rows.items x.ends.items) (sym here.1)
            (sound-none meaning engines behind.members.items behind.states.items behind.rows.items behind.ends.items taken.states members-of)
        | inr old ↦ are.sound i dfa old.1
      ];
    }

-- nothing was put
module _ (d d' : Dfas) (list : d'.list.items ≡ d.list.items) (places : d'.places ≡ d.places) where
  pub stay-engine : (k : ℕ) → engine_at d' k ≡ engine_at d k
  stay-engine k = engine-same d d' k (ap (λ l. member_by l (place_for d' k)) list ∙ ap (λ ps. member_by d.list.items (place_in (slice_get ps.items k))) places)

  pub stay-dfas : {E : Type 0} (meaning : E → Meaning) (engines : List E) → AreDfasOf meaning engines d → AreDfasOf meaning engines d'
  stay-dfas meaning engines are = record {
    there = λ k n is. are.there k n (sym (stay-engine k) ∙ is);
    listed = λ k n e is at. are.listed k n e (sym (stay-engine k) ∙ is) at;
    sound = λ i dfa is. are.sound i dfa (ap (λ l. slice_get l i) (sym list) ∙ is);
  }

-- what a put leaves
pub record PutLeaves {E : Type 0} (meaning : E → Meaning) (engines : List E) (d d' : Dfas) (number engine : ℕ) : Type 0 where
  pub dfas : AreDfasOf meaning engines d'
  pub own : (n : ℕ) → engine_at d' number ≡ Some n → n ≡ engine
  pub others : (k : ℕ) → (k ≡ number → ⊥) → engine_at d' k ≡ engine_at d k

pub put-leaves : {E : Type 0} (meaning : E → Meaning) (engines : List E) (d d' : Dfas) (number engine size : ℕ) (wakers : ByteSet) (own : E) → slice_get engines engine ≡ Some own → ((e : E) → slice_get engines engine ≡ Some e → (meaning e).always ≡ false) → size ≡ (meaning own).width → AreWakers (meaning own) wakers → engine_at d number ≡ None →
    AreDfasOf meaning engines d → IsPut d d' number engine size wakers → PutLeaves meaning engines d d' number engine
put-leaves meaning engines d d' number engine size wakers own own_is listed size_is are_wakers none are (stays list places) = record {
  dfas = stay-dfas d d' list places meaning engines are;
  own = λ n is. absurd (let both : Some n ≡ None = sym is ∙ (stay-engine d d' list places number ∙ none) in cc);
  others = λ k apart. stay-engine d d' list places k;
}
put-leaves meaning engines d d' number engine size wakers own own_is listed size_is are_wakers none are (is_put at member before behind there list places within taken) = record {
  dfas = put-dfas d d' number engine size at member wakers before behind there list places within taken meaning engines own own_is listed size_is are_wakers are;
  own = put-own d d' number engine size at member wakers before behind there list places within taken;
  others = put-others d d' number engine size at member wakers before behind there list places within taken;
}

-- the region that is loaded for a number

engine-member : (o : Option Member) (n : ℕ) → engine_in o ≡ Some n → (m : Member) × (o ≡ Some m) × (m.engine ≡ n)
engine-member None n e = absurd (cc)
engine-member (Some m) n e = (m, refl, some-same m.engine n e)

member-place : (list : List LazyDfa) (o : Option Place) (m : Member) → member_by list o ≡ Some m → (p : Place) × (o ≡ Some p) × (member_in (slice_get list p.dfa) p.member ≡ Some m)
member-place list None m e = absurd (cc)
member-place list (Some p) m e = (p, refl, e)

member-dfa : (o : Option LazyDfa) (j : ℕ) (m : Member) → member_in o j ≡ Some m → (dfa : LazyDfa) × (o ≡ Some dfa) × (slice_get dfa.members.items j ≡ Some m)
member-dfa None j m e = absurd (cc)
member-dfa (Some dfa) j m e = (dfa, refl, e)

there : {A : Type 0} (xs : List A) (k : ℕ) → k < length xs → (x : A) × (slice_get xs k ≡ Some x)
there [] k below = absurd (omega arith)
there (x ∷ xs) zero below = (x, refl)
there (x ∷ xs) (suc k) below = there xs k (omega arith)

pub loaded-size : {E : Type 0} (meaning : E → Meaning) (engines : List E) (cache : Cache) → AreDfasOf meaning engines cache.dfas → (k n : ℕ) (e : E) → engine_at cache.dfas k ≡ Some n → slice_get engines n ≡ Some e → length (loaded cache k) ≡ (meaning e).width
unfolding engine_at loaded
loaded-size meaning engines cache are k n e is at =
    let (m, own, engine_is) = engine-member (member_of cache.dfas k) n is in
    let (p, place_is, by) = member-place cache.dfas.list.items (place_for cache.dfas k) m (own-is k (member_by cache.dfas.list.items (place_for cache.dfas k)) m own) in
    let (dfa, dfa_is, member_is) = member-dfa (slice_get cache.dfas.list.items p.dfa) p.member m by in
    let (run, run_is) = there cache.runs.items p.dfa (omega (arith, slice_get_within cache.dfas.list.items p.dfa dfa dfa_is, cache.runs_room)) in
    let size = (are.sound p.dfa dfa dfa_is).of.sized p.member m e member_is (ap (slice_get engines) engine_is ∙ at) in
    ap (λ o. length (loaded_by o (run_at cache.runs.items (place_for cache.dfas k)))) own
    ∙ (ap (λ o. length (loaded_by (Some m) (run_at cache.runs.items o))) place_is
    ∙ (ap (λ o. length (loaded_by (Some m) o)) run_is
    ∙ (range-size run.image m.start m.end (dfa.apart.rising p.member m member_is) (omega (arith, run.image_len, dfa.apart.within p.member m member_is)) ∙ omega (arith, size))))

-- an automaton more, or none for want of memory
pub maybe-engine : (b : Bool) (d d' : Dfas) (new : LazyDfa) (k : ℕ) → new.members.items ≡ [] → d'.list.items ≡ (if b then d.list.items ++ new ∷ [] else d.list.items) → d'.places ≡ d.places → engine_at d' k ≡ engine_at d k
maybe-engine true d d' new k none list places = engine-pushed d d' new k none list places
maybe-engine false d d' new k none list places = stay-engine d d' list places k

pub maybe-dfas : {E : Type 0} (meaning : E → Meaning) (engines : List E) (b : Bool) (d d' : Dfas) (new : LazyDfa) → new.members.items ≡ [] → new.states.items ≡ [] → d'.list.items ≡ (if b then d.list.items ++ new ∷ [] else d.list.items) → d'.places ≡ d.places → AreDfasOf meaning engines d → AreDfasOf meaning engines d'
maybe-dfas meaning engines true d d' new none unknown list places are = dfas-pushed meaning engines d d' new none unknown list places are
maybe-dfas meaning engines false d d' new none unknown list places are = stay-dfas d d' list places meaning engines are
