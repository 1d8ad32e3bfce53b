-- The roles that have nodes, with one role or one chain more.
use Rattle.std.proofs.Common.{◌≡◌, ◌⊎◌, ℕ, ◌+◌, ◌<◌, ◌≤◌, List, [], ◌∷◌, ◌++◌, length, Some, slice_get, flat_map, refl, sym, ap, subst, ◌∙◌, inl, inr, arith, append_assoc}
use Rattle.std.specs.List.{AllZip}
use Rattle.std.proofs.lemmas.Bool.{cases_lt}
use Rattle.std.proofs.lemmas.List.{append-nil}
use Rattle.std.proofs.lemmas.Option.{same_Some, slice_get_within}
use Rattle.hs_forest.proofs.BuilderLemmas.{beginnings-snoc, flat-snoc}
use Rattle.hs_forest.specs.Forests.{beginnings}
use Rattle.hs_rose.specs.declared.info.ChainInfo.{ChainInfo}
use Rattle.hs_rose.specs.declared.role.Role.{Role}
use Rattle.hs_rose.specs.Programs.{Tables}
use Rattle.hs_rose.proofs.ListLemmas.{get-behind, get-left, get-push, zip-push}
use Rattle.hs_compile.specs.declared.step.Step.{Step}
use Rattle.hs_compile.specs.GraphKinds.{IsKindAt}
use Rattle.hs_compile.specs.GraphSteps.{AreChainKeys, AreKeysTo, AreRisingSteps, AreSteps, AreStepsOfChains, AreStepsTo, AreStepsWithin, HasKind, IsKeyOf, IsStepOf, begins, goes_on, passes}
use Rattle.hs_compile.specs.GraphTables.{IsReady, LooksBack}
use Rattle.hs_compile.proofs.GraphListLemmas.{length-push}

-- the steps of no chain
pub no-steps : (t : Tables) (keys : List (List ℕ)) (steps : List Step) → IsReady t → keys ≡ [] → steps ≡ [] → AreStepsOfChains t keys steps
no-steps t keys steps ready none none' = subst (λ ks. AreStepsOfChains t ks steps) (sym none) (subst (λ ss. AreStepsOfChains t [] ss) (sym none') (record {
  roles = 0;
  are = record {
    chains = λ j c own there at. absurd (cc);
    each = tt;
    rising = λ j k a b low at at'. absurd (cc);
    below = λ k step at. absurd (cc);
    all = λ i r low at alone. absurd (omega (arith, low));
  };
  next = λ c at. ready.begins c at;
  whole = λ all. sym (ready.none (sym all));
}))

module _ (t : Tables) (keys : List (List ℕ)) (number : ℕ) (c : ChainInfo) (there : slice_get t.chains number ≡ Some c) where
  -- a chain begins
  pub chain-begun : (steps : List Step) → length keys ≡ number → AreStepsOfChains t keys steps → AreStepsWithin t keys number c c.first [] steps
  chain-begun steps count of = record {
    count = count;
    keys_are = begins c.first [] refl refl;
    are = subst (λ n. AreStepsTo t keys [] n steps) (sym (of.next c (ap (slice_get t.chains) count ∙ there))) of.are;
  }

  module _ (i next : ℕ) (is : next ≡ i + 1) (more : List ℕ) (steps : List Step) (r : Role) (role_there : slice_get t.roles i ≡ Some r) (low : c.first ≤ i) (within : AreStepsWithin t keys number c i more steps) where
    -- a role without a node of its own
    pub step-passed : LooksBack r → AreStepsWithin t keys number c next more steps
    step-passed back = record {
      count = within.count;
      keys_are = passes next more i r low (omega (arith, is)) role_there back within.keys_are;
      are = record {
        chains = within.are.chains;
        each = within.are.each;
        rising = within.are.rising;
        below = λ k step at. omega (arith, within.are.below k step at, is);
        all = λ j q below at alone. elim (cases_lt j i) [
          | inl less ↦ within.are.all j q less at alone
          | inr past ↦
              let same : j ≡ i = omega (arith, past, below, is) in
              absurd (alone (subst LooksBack (same_Some r q (sym role_there ∙ (ap (slice_get t.roles) (sym same) ∙ at))) back))
        ];
      };
    }

    -- a role with one
    module _ (high : i < c.end) (alone : LooksBack r → ⊥) (step : Step) (role_is : step.role ≡ i) (kind : IsKindAt t c.first i step.kind) (key : ℕ) (key_is : IsKeyOf step.kind key) where
      has-kind : HasKind t c.first i step.kind
      has-kind = record { role = r; there = role_there; alone = alone; is = kind }

      step-of : IsStepOf t step (more ++ key ∷ [])
      step-of = record {
        number = number;
        chain = c;
        chain_there = there;
        low = omega (arith, low, role_is);
        high = omega (arith, high, role_is);
        has = subst (λ n. HasKind t c.first n step.kind) (sym role_is) has-kind;
        front = more;
        key = key;
        key_is = key_is;
        keys_are = refl;
        before = subst (λ n. AreKeysTo t c.first n more) (sym role_is) within.keys_are;
      }

      all-flat : (flat_map beginnings keys ++ beginnings more) ++ (more ++ key ∷ []) ∷ [] ≡ flat_map beginnings keys ++ beginnings (more ++ key ∷ [])
      all-flat = append_assoc (flat_map beginnings keys) (beginnings more) ((more ++ key ∷ []) ∷ []) ∙ ap (λ zs. flat_map beginnings keys ++ zs) (sym (beginnings-snoc [] more key))

      rising-more : AreRisingSteps (steps ++ step ∷ [])
      rising-more j k a b order at at' = by (get-push steps step j a at) (get-push steps step k b at')
        where
          by : (slice_get steps j ≡ Some a) ⊎ ((j ≡ length steps) × (step ≡ a)) → (slice_get steps k ≡ Some b) ⊎ ((k ≡ length steps) × (step ≡ b)) → a.role < b.role
          by (inl old) (inl old') = within.are.rising j k a b order old old'
          by (inl old) (inr last) = omega (arith, within.are.below j a old, role_is, ap (λ (x : Step). x.role) last.1)
          by (inr last) (inl old') = absurd (omega (arith, last.0, order, slice_get_within steps k b old'))
          by (inr last) (inr last') = absurd (omega (arith, last.0, last'.0, order))

      pub step-added : AreStepsWithin t keys number c next (more ++ key ∷ []) (steps ++ step ∷ [])
      step-added = record {
        count = within.count;
        keys_are = goes_on next (more ++ key ∷ []) i key step.kind more low (omega (arith, is)) has-kind key_is refl within.keys_are;
        are = record {
          chains = within.are.chains;
          each = subst (λ zs. AllZip (IsStepOf t) (steps ++ step ∷ []) zs) all-flat
              (zip-push (IsStepOf t) steps (flat_map beginnings keys ++ beginnings more) step (more ++ key ∷ []) within.are.each step-of);
          rising = rising-more;
          below = λ k x at. elim (get-push steps step k x at) [
            | inl old ↦ omega (arith, within.are.below k x old, is)
            | inr last ↦ omega (arith, role_is, is, ap (λ (y : Step). y.role) last.1)
          ];
          all = λ j q below at only. elim (cases_lt j i) [
            | inl less ↦
                let has = within.are.all j q less at only in
                record { place = has.place; step = has.step; there = get-left steps (step ∷ []) has.place has.step has.there; role = has.role }
            | inr past ↦ record { place = length steps; step = step; there = get-behind steps step; role = omega (arith, role_is, past, below, is) }
          ];
        };
      }

  -- a chain ends
  module _ (ready : IsReady t) (more : List ℕ) (steps : List Step) (within : AreStepsWithin t keys number c c.end more steps) where
    chains-more : AreChainKeys t (keys ++ more ∷ [])
    chains-more j d own at at' = by (get-push keys more j own at')
      where
        by : (slice_get keys j ≡ Some own) ⊎ ((j ≡ length keys) × (more ≡ own)) → AreKeysTo t d.first d.end own
        by (inl old) = within.are.chains j d own at old
        by (inr last) =
            let one : c ≡ d = same_Some c d (sym there ∙ (ap (slice_get t.chains) (sym (last.0 ∙ within.count)) ∙ at)) in
            subst (λ ks. AreKeysTo t d.first d.end ks) last.1 (subst (λ (x : ChainInfo). AreKeysTo t x.first x.end more) one within.keys_are)

    pub chain-ended : AreStepsOfChains t (keys ++ more ∷ []) steps
    chain-ended = record {
      roles = c.end;
      are = record {
        chains = chains-more;
        each = subst (λ zs. AllZip (IsStepOf t) steps zs) (sym (append-nil (flat_map beginnings (keys ++ more ∷ [])) ∙ flat-snoc keys more)) within.are.each;
        rising = within.are.rising;
        below = within.are.below;
        all = within.are.all;
      };
      next = λ d at. ready.follows number c d there (ap (slice_get t.chains) (omega (arith, length-push keys more, within.count)) ∙ at);
      whole = λ all. ready.ends number c there (omega (arith, all, length-push keys more, within.count));
    }

-- all chains are done
pub steps-done : (t : Tables) (keys : List (List ℕ)) (steps : List Step) → length keys ≡ length t.chains → AreStepsOfChains t keys steps → AreSteps t keys steps
steps-done t keys steps count of = record { count = count; are = subst (λ n. AreStepsTo t keys [] n steps) (of.whole count) of.are }
