use Rattle.std.proofs.Common.{◌≡◌, length, List, Some, slice_get, ◌∷◌, [], ◌++◌, sym, subst, ◌∙◌, refl, arith, length-set}
use Rattle.std.specs.Prelude.{is_ok}
use Rattle.hs_lazy.specs.declared.parts.State.{State}
use Rattle.hs_lazy.specs.Parts.{AreOwnersLive, AreStillThere}
use Rattle.hs_lazy.proofs.IdleLemmas.{owners-live}
use Rattle.hs_lazy.proofs.StepLemmas.{leading-more, live-pushed}
use Rattle.hs_lazy.proofs.TableLemmas.{get-last, kept-pushed, more-pushed, pushed}
use Rattle.hs_lazy.proofs.dfa.LazyDfa.add_state.Goals as goal

pub invariant_of-self-clause-live : goal.invariant_of-self-clause-live
invariant_of-self-clause-live c =
    live-pushed c.args.self.now.members.items c.args.self.now.states.items c.push.new.self.items (record { image = c.args.image.now; prev = c.args.prev; live = c.live_members-live.result }) (is_ok c.push.result) c.push.ensures.items c.args.self.now.live
    (record {
      image_len = c.live_members-live.ensures.image_len;
      live_len = c.live_members-live.ensures.len;
      live = owners-live c.args.self.now.members.items c.args.self.now.owners.items c.args.image.now c.live_members-live.result c.args.self.now.owned c.args.self.now.apart
          (subst (λ l. AreOwnersLive l c.args.image.now c.live_members-live.result 512) c.deref-2.ensures.value c.live_members-live.ensures.live);
    })

pub invariant_of-self-clause-leading : goal.invariant_of-self-clause-leading
invariant_of-self-clause-leading c =
    leading-more c.args.self.now.rows.items (length c.args.self.now.states.items) (length c.push.new.self.items)
    (more-pushed c.args.self.now.states.items c.push.new.self.items (record { image = c.args.image.now; prev = c.args.prev; live = c.live_members-live.result }) (is_ok c.push.result) c.push.ensures.items) c.args.self.now.leading

pub invariant_of-self-clause-slots_len : goal.invariant_of-self-clause-slots_len
invariant_of-self-clause-slots_len c = length-set c.args.self.now.slots.items c.in-Some.slot _ ∙ c.args.self.now.slots_len

pub returns-clause-states : goal.returns-clause-states
returns-clause-states c =
    let now : c.push.new.self.items ≡ c.args.self.now.states.items ++ (record { image = c.args.image.now; prev = c.args.prev; live = c.live_members-live.result }) ∷ [] =
    pushed _ _ _ c.push.result c.unwrap.result c.push.ensures.items c.unwrap.ensures in
    subst (AreStillThere c.args.self.now.states.items) (sym now) (kept-pushed c.args.self.now.states.items _)

pub returns-clause-found : goal.returns-clause-found
returns-clause-found c =
    let now : c.push.new.self.items ≡ c.args.self.now.states.items ++ (record { image = c.args.image.now; prev = c.args.prev; live = c.live_members-live.result }) ∷ [] =
    pushed _ _ _ c.push.result c.unwrap.result c.push.ensures.items c.unwrap.ensures in
    let number : c.len-number.result ≡ length c.args.self.now.states.items = c.len-number.ensures ∙ c.args.self.now.states.ok.0 in
    record {
      state = record { image = c.args.image.now; prev = c.args.prev; live = c.live_members-live.result };
      is = subst (λ (l : List State). slice_get l c.len-number.result ≡ Some (record { image = c.args.image.now; prev = c.args.prev; live = c.live_members-live.result })) (sym now)
          (subst (λ n. slice_get (c.args.self.now.states.items ++ (record { image = c.args.image.now; prev = c.args.prev; live = c.live_members-live.result }) ∷ []) n ≡ Some (record { image = c.args.image.now; prev = c.args.prev; live = c.live_members-live.result })) (sym number)
          (get-last c.args.self.now.states.items (record { image = c.args.image.now; prev = c.args.prev; live = c.live_members-live.result })));
      image_is = refl;
      prev_is = refl;
    }

pub invariant_of-self-clause-unknown : goal.invariant_of-self-clause-unknown
invariant_of-self-clause-unknown c k high =
    let more = more-pushed c.args.self.now.states.items c.push.new.self.items (record { image = c.args.image.now; prev = c.args.prev; live = c.live_members-live.result }) (is_ok c.push.result) c.push.ensures.items in
    c.args.self.now.unknown k (omega (arith, high, more))
