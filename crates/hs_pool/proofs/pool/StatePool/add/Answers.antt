use Rattle.std.proofs.Common.{ℕ, ◌≡◌, ◌++◌, ◌∷◌, [], List, length, replicate, Some, slice_get, slice_index, refl, sym, ap, subst, ◌∙◌, arith, length-append, length-set}
use Rattle.hs_pool.specs.declared.state.State.{State}
use Rattle.hs_pool.specs.Rows.{AreLeading, IsSink, next_of, step_at, step_place}
use Rattle.hs_pool.proofs.TableLemmas.{get-last, get-pushed, leading-pushed, pushed, row-after, row-before, zeros-at}
use Rattle.hs_pool.proofs.pool.StatePool.add.Goals as goal

pub invariant_of-self-clause-rows_len : goal.invariant_of-self-clause-rows_len
invariant_of-self-clause-rows_len c =
    let old = c.args.self.now in
    let own : State = record { engine = c.args.engine; prev = c.args.prev; region = c.args.region.now } in
    let states : c.push.new.self.items ≡ old.states.items ++ own ∷ [] = pushed old.states.items c.push.new.self.items own c.push.result c.unwrap.result c.push.ensures.items c.unwrap.ensures in
    let rows : c.push-2.new.self.items ≡ old.rows.items ++ replicate 512 0 ∷ [] = pushed old.rows.items c.push-2.new.self.items (replicate 512 0) c.push-2.result c.unwrap-2.result c.push-2.ensures.items c.unwrap-2.ensures in
    omega (arith, ap length states, ap length rows, length-append old.states.items (own ∷ []), length-append old.rows.items (replicate 512 0 ∷ []), old.rows_len)

pub invariant_of-self-clause-leading : goal.invariant_of-self-clause-leading
invariant_of-self-clause-leading c =
    let old = c.args.self.now in
    let own : State = record { engine = c.args.engine; prev = c.args.prev; region = c.args.region.now } in
    let states : c.push.new.self.items ≡ old.states.items ++ own ∷ [] = pushed old.states.items c.push.new.self.items own c.push.result c.unwrap.result c.push.ensures.items c.unwrap.ensures in
    let rows : c.push-2.new.self.items ≡ old.rows.items ++ replicate 512 0 ∷ [] = pushed old.rows.items c.push-2.new.self.items (replicate 512 0) c.push-2.result c.unwrap-2.result c.push-2.ensures.items c.unwrap-2.ensures in
    subst (λ (l : List (List ℕ)). AreLeading l (length c.push.new.self.items)) (sym rows)
    (leading-pushed old.rows.items (replicate 512 0) (zeros-at 512) (length old.states.items) (length c.push.new.self.items) old.rows_len (omega (arith, ap length states, length-append old.states.items (own ∷ []))) old.leading)

pub invariant_of-self-clause-sink : goal.invariant_of-self-clause-sink
invariant_of-self-clause-sink c =
    let old = c.args.self.now in
    let rows : c.push-2.new.self.items ≡ old.rows.items ++ replicate 512 0 ∷ [] = pushed old.rows.items c.push-2.new.self.items (replicate 512 0) c.push-2.result c.unwrap-2.result c.push-2.ensures.items c.unwrap-2.ensures in
    subst (λ (l : List (List ℕ)). IsSink l) (sym rows)
    (λ k. ap (λ l. slice_index l k) (row-before old.rows.items (replicate 512 0) 0 (omega (arith, old.some, old.rows_len))) ∙ old.sink k)

pub invariant_of-self-clause-slots_len : goal.invariant_of-self-clause-slots_len
invariant_of-self-clause-slots_len c = length-set c.args.self.now.slots.items c.args.slot _ ∙ c.args.self.now.slots_len

pub returns-clause-grows : goal.returns-clause-grows
returns-clause-grows c =
    let old = c.args.self.now in
    let own : State = record { engine = c.args.engine; prev = c.args.prev; region = c.args.region.now } in
    let states : c.push.new.self.items ≡ old.states.items ++ own ∷ [] = pushed old.states.items c.push.new.self.items own c.push.result c.unwrap.result c.push.ensures.items c.unwrap.ensures in
    let rows : c.push-2.new.self.items ≡ old.rows.items ++ replicate 512 0 ∷ [] = pushed old.rows.items c.push-2.new.self.items (replicate 512 0) c.push-2.result c.unwrap-2.result c.push-2.ensures.items c.unwrap-2.ensures in
    record {
      still = λ s state is. subst (λ (l : List State). slice_get l s ≡ Some state) (sym states) (get-pushed old.states.items own s state is);
      kept = λ s enters byte low.
          ap (λ (l : List (List ℕ)). step_at l s enters byte) rows
          ∙ ap (λ l. slice_index l (step_place enters byte)) (row-before old.rows.items (replicate 512 0) s (omega (arith, low, old.rows_len)));
      fresh = λ s enters byte high.
          ap (λ (l : List (List ℕ)). next_of (step_at l s enters byte)) rows
          ∙ ap next_of (row-after old.rows.items (replicate 512 0) (zeros-at 512) s (step_place enters byte) (λ low. high (omega (arith, low, old.rows_len))));
    }

pub returns-clause-found : goal.returns-clause-found
returns-clause-found c =
    let old = c.args.self.now in
    let own : State = record { engine = c.args.engine; prev = c.args.prev; region = c.args.region.now } in
    let states : c.push.new.self.items ≡ old.states.items ++ own ∷ [] = pushed old.states.items c.push.new.self.items own c.push.result c.unwrap.result c.push.ensures.items c.unwrap.ensures in
    let number : c.len-number.result ≡ length old.states.items = c.len-number.ensures ∙ old.states.ok.0 in
    record {
      state = record { engine = c.args.engine; prev = c.args.prev; region = c.args.region.now };
      is =
          subst (λ (l : List State). slice_get l c.len-number.result ≡ Some (record { engine = c.args.engine; prev = c.args.prev; region = c.args.region.now })) (sym states)
          (subst (λ n. slice_get (old.states.items ++ (record { engine = c.args.engine; prev = c.args.prev; region = c.args.region.now }) ∷ []) n ≡ Some (record { engine = c.args.engine; prev = c.args.prev; region = c.args.region.now })) (sym number)
          (get-last old.states.items own));
      of = record { engine_is = refl; prev_is = refl; region_is = refl };
      some = λ none. omega (arith, none, number, old.some);
    }
