use Rattle.std.proofs.Common.{◌≡◌, ◌∙◌, ◌||◌, Bool, true, false, not, refl, sym, subst}
use Rattle.hs_nodes.specs.Waking.{is_never_empty}
use Rattle.hs_nodes.specs.declared.table.Node.{Node}
use Rattle.hs_nodes.proofs.KindLemmas.{one-value}
use Rattle.hs_nodes.proofs.StartingLemmas.{zero-places}
use Rattle.hs_nodes.proofs.waking.is_woken.Goals as goal

both-told : (a b : Bool) → (not a || not b) ≡ false → (a ≡ true) × (b ≡ true)
both-told true true told = (refl, refl)
both-told true false told = absurd (let e : true ≡ false = told in cc)
both-told false b told = absurd (let e : true ≡ false = told in cc)

pub returns : goal.returns
returns g c = record {
  asleep = λ node there told.
      let (none, never) = both-told c.is_none.result c.never_empty.result told in (
        subst (λ (n : Node). is_never_empty n.kind ≡ true) (one-value c.node_at.result node _ c.node_at.ensures there) (sym c.never_empty.ensures ∙ never),
        zero-places c.args.places.now (c.is_none.ensures.zero none),
      );
}
