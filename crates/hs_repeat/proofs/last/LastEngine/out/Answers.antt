use Rattle.std.proofs.Common.{◌≡◌, ◌∙◌, ◌<◌, true, false, sym}
use Rattle.hs_base.specs.RepeatRows.{distance_of}
use Rattle.hs_repeat.proofs.LastLemmas.{last-empty, left-last}
use Rattle.hs_repeat.proofs.DistanceLemmas.{positive}
use Rattle.hs_repeat.proofs.last.LastEngine.out.Goals as goal

pub returns-then-is_at_rest-clause-leaves : goal.returns-then-is_at_rest-clause-leaves
returns-then-is_at_rest-clause-leaves c tree u entered runs len at prev last next =
    let kept = c.args.self.now.nearest in
    let zero_row : distance_of c.args.region.now ≡ 0 = c.is_at_rest.ensures.none.0 c.if-is_at_rest.true in (
      λ told. absurd (let e : true ≡ false = sym told ∙ c.empty.ensures next in cc),
      λ leaves. absurd (last-empty kept.set kept.bound c.args.region.now zero_row tree u entered runs last next leaves),
    )

pub returns-else-is_at_rest-clause-leaves : goal.returns-else-is_at_rest-clause-leaves
returns-else-is_at_rest-clause-leaves c tree u entered runs len at prev last next =
    let kept = c.args.self.now.nearest in
    let ahead : 0 < distance_of c.args.region.now =
    positive (distance_of c.args.region.now) (λ none. let e : true ≡ false = sym (c.is_at_rest.ensures.none.1 none) ∙ c.if-is_at_rest.false in cc) in (
      λ told. left-last kept.set kept.bound c.args.region.now ahead tree u entered runs last next,
      λ leaves. c.all.ensures next,
    )
