use Rattle.std.proofs.Common.{ap, ◌∙◌, ◌&&◌, ◌||◌, eqb, sym}
use Rattle.hs_base.specs.Contexts.{prev_number}
use Rattle.hs_waking.specs.PrevSets.{has_prev}
use Rattle.hs_waking.proofs.PrevLemmas.{with-member, with-none}
use Rattle.hs_waking.proofs.prev_set.PrevSet.with.Goals as goal

pub returns-then-not-wanted : goal.returns-then-not-wanted
returns-then-not-wanted c other = with-none (eqb (prev_number other) (prev_number c.args.prev)) (has_prev c.args.self other) c.args.wanted c.if-not-wanted.true

pub returns : goal.returns
unfolding has_prev
returns c other =
    with-member c.args.self.bits c.args.prev other c.number.result c.number.ensures
    ∙ ap (λ w. (eqb (prev_number other) (prev_number c.args.prev) && w) || has_prev c.args.self other) (sym c.if-not-wanted.false)
