use Rattle.std.proofs.Common.{◌≡◌, ◌∙◌, ◌<◌, true, false, sym, subst, arith}
use Rattle.hs_base.specs.Fields.{Leaves}
use Rattle.hs_base.specs.RepeatRows.{distance_of}
use Rattle.hs_repeat.proofs.FirstLemmas.{first-leaves, leaves-first}
use Rattle.hs_repeat.proofs.first.FirstEngine.out.Goals as goal

pub returns-then-read-self-clause-leaves : goal.returns-then-read-self-clause-leaves
returns-then-read-self-clause-leaves c tree u entered runs len at prev first next =
    let some : 0 < c.args.self.now.farthest.bound = omega (arith, c.args.self.now.farthest.some) in
    let full : distance_of c.args.region.now ≡ c.args.self.now.farthest.bound = sym c.read.ensures ∙ c.if-read-self.true in (
      λ told. subst (λ t. Leaves t u entered next) (sym runs) (first-leaves c.args.self.now.farthest.set c.args.self.now.farthest.bound some u entered (distance_of c.args.region.now) first next full),
      λ leaves. c.all.ensures next,
    )

pub returns-else-read-self-clause-leaves : goal.returns-else-read-self-clause-leaves
returns-else-read-self-clause-leaves c tree u entered runs len at prev first next =
    let some : 0 < c.args.self.now.farthest.bound = omega (arith, c.args.self.now.farthest.some) in (
      λ told. absurd (let e : true ≡ false = sym told ∙ c.empty.ensures next in cc),
      λ leaves.
          let full : distance_of c.args.region.now ≡ c.args.self.now.farthest.bound =
          leaves-first c.args.self.now.farthest.set c.args.self.now.farthest.bound some u entered (distance_of c.args.region.now) first next (subst (λ t. Leaves t u entered next) runs leaves) in
          absurd (c.if-read-self.false (c.read.ensures ∙ full)),
    )
