use Rattle.std.proofs.Common.{◌≡◌, ◌+◌, ◌++◌, ℕ, List, take, drop, false, length, Some, slice_get, slice_index, sym, subst, ap, ◌∙◌, arith}
use Rattle.std.proofs.lemmas.List.{take_at}
use Rattle.hs_lazy.specs.Parts.{AreOwned}
use Rattle.std.specs.Prelude.{is_ok}
use Rattle.hs_lazy.proofs.EmptyLemmas.{no-states}
use Rattle.hs_lazy.proofs.IdleLemmas.{owned-pushed}
use Rattle.hs_lazy.proofs.StepLemmas.{apart-pushed, few-pushed}
use Rattle.hs_lazy.proofs.dfa.LazyDfa.put.Goals as goal

pub invariant_of-self-clause-apart : goal.invariant_of-self-clause-apart
invariant_of-self-clause-apart c =
    apart-pushed c.forget.new.self.members.items c.push.new.self.items (record { number = c.args.number; engine = c.args.engine; start = c.end-start.result; end = c.end-start.result + c.args.size; wakers = c.args.wakers; is_dropped = false }) (is_ok c.push.result) c.push.ensures.items c.forget.new.self.apart
    (λ k x is. c.end-start.ensures.end k x (subst (λ v. slice_get v.items k ≡ Some x) c.forget.ensures.members is)) (omega arith) (omega arith)

pub invariant_of-self-clause-few : goal.invariant_of-self-clause-few
invariant_of-self-clause-few c =
    few-pushed c.forget.new.self.members.items c.push.new.self.items (record { number = c.args.number; engine = c.args.engine; start = c.end-start.result; end = c.end-start.result + c.args.size; wakers = c.args.wakers; is_dropped = false }) (is_ok c.push.result) 256 c.push.ensures.items
    (omega (arith, ap (λ v. length v.items) c.forget.ensures.members, c.len-member.ensures, c.args.self.now.members.ok.0))

pub invariant_of-self-clause-live : goal.invariant_of-self-clause-live
invariant_of-self-clause-live c = no-states _ _ c.forget.ensures.states

pub unwrap-requires : goal.unwrap-requires
unwrap-requires c = c.push.ensures.succeeds
    (omega (arith, ap (λ v. length v.items) c.forget.ensures.members, c.len-member.ensures, c.args.self.now.members.ok.0, c.forget.new.self.members.ok.0, c.forget.new.self.members_room))

abbrev Owners : (c : goal.After-push) → List ℕ
Owners c = take c.forget.new.self.owners.len (c.write_owner.new.owners ++ drop (length c.write_owner.new.owners) c.forget.new.self.owners.items)

owners-are : (c : goal.After-push) → Owners c ≡ c.write_owner.new.owners
owners-are c = take_at c.write_owner.new.owners (drop (length c.write_owner.new.owners) c.forget.new.self.owners.items) c.forget.new.self.owners.len (c.write_owner.ensures.len ∙ c.deref_mut.ensures.len)

pub invariant_of-self-clause-owners_len : goal.invariant_of-self-clause-owners_len
invariant_of-self-clause-owners_len c = ap length (owners-are c) ∙ (c.write_owner.ensures.len ∙ (ap length c.deref_mut.ensures.value ∙ c.forget.new.self.owners_len))

pub invariant_of-self-clause-owned : goal.invariant_of-self-clause-owned
invariant_of-self-clause-owned c =
    subst (AreOwned c.push.new.self.items) (sym (owners-are c))
    (owned-pushed c.forget.new.self.members.items c.push.new.self.items (record { number = c.args.number; engine = c.args.engine; start = c.end-start.result; end = c.end-start.result + c.args.size; wakers = c.args.wakers; is_dropped = false }) (is_ok c.push.result) c.forget.new.self.owners.items c.write_owner.new.owners c.push.ensures.items
    (λ k x is. c.end-start.ensures.end k x (subst (λ v. slice_get v.items k ≡ Some x) c.forget.ensures.members is))
    (λ i low. c.write_owner.ensures.before i low ∙ ap (λ (l : List ℕ). slice_index l i) c.deref_mut.ensures.value)
    (λ i low high. c.write_owner.ensures.own i low high ∙ omega (arith, ap (λ v. length v.items) c.forget.ensures.members, c.len-member.ensures, c.args.self.now.members.ok.0))
    c.forget.new.self.owned)
