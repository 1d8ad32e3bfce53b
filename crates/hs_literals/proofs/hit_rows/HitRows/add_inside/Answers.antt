use Rattle.std.proofs.Common.{◌≤◌, ◌+◌, ◌++◌, ◌∙◌, length, ap, subst, arith}
use Rattle.hs_literals.specs.Held.{held, held_buckets}
use Rattle.hs_literals.specs.Masking.{HidesNone}
use Rattle.hs_literals.specs.Places.{NoneBetween}
use Rattle.hs_literals.proofs.HitLoopLemmas.{upto-start, upto-next, upto-all}
use Rattle.hs_literals.proofs.hit_rows.HitRows.add_inside.Goals as goal

pub loop-mask-init : goal.loop-mask-init
loop-mask-init c =
    let made = c.new-places.ensures in
    record {
      literals = made.literals;
      history = made.history;
      bytes = made.bytes;
      adds = upto-start (held c.args.literals.now) c.args.before.now c.args.bytes.now c.args.self.now c.new-places.result.at made.at;
    }

pub add_place-requires : goal.add_place-requires
add_place-requires c =
    let before = c.args.before.now in
    let bytes = c.args.bytes.now in
    let old = c.loop-mask.places in
    let new = c.next_open.new.self in
    let is = c.loop-mask.invariant in
    let entered = c.in-Some.ensures in
    let mask = c.in-Some.mask in
    record {
      known = omega (arith, c.requires.known, is.adds.count);
      few = c.requires.few;
      within = subst (λ b. new.at ≤ length b) (ap (λ b. b.now) entered.bytes ∙ is.bytes) new.within;
      hides =
          subst (λ l. HidesNone mask (held l) (held_buckets l) (before ++ bytes) (length before + new.at)) is.literals
          (subst (λ h. HidesNone mask (held old.literals.now) (held_buckets old.literals.now) (h ++ bytes) (length h + new.at)) is.history
          (subst (λ b. HidesNone mask (held old.literals.now) (held_buckets old.literals.now) (old.history.now ++ b) (length old.history.now + new.at)) is.bytes entered.next.1));
    }

pub loop-mask-preserved : goal.loop-mask-preserved
loop-mask-preserved c =
    let old = c.loop-mask.places in
    let new = c.next_open.new.self in
    let is = c.loop-mask.invariant in
    let entered = c.in-Some.ensures in
    let before = c.args.before.now in
    let bytes = c.args.bytes.now in
    let none =
    subst (λ l. NoneBetween (held l) before bytes old.at new.at) is.literals
    (subst (λ h. NoneBetween (held old.literals.now) h bytes old.at new.at) is.history
    (subst (λ b. NoneBetween (held old.literals.now) old.history.now b old.at new.at) is.bytes entered.none_before)) in
    record {
      literals = ap (λ l. l.now) entered.literals ∙ is.literals;
      history = ap (λ h. h.now) entered.history ∙ is.history;
      bytes = ap (λ b. b.now) entered.bytes ∙ is.bytes;
      adds = upto-next (held c.args.literals.now) before bytes c.args.self.now c.loop-mask.self c.add_place.new.self old.at new.at entered.next.0 none is.adds c.add_place.ensures;
    }

pub returns : goal.returns
returns c =
    let old = c.loop-mask.places in
    let new = c.next_open.new.self in
    let is = c.loop-mask.invariant in
    let end = c.in_default.ensures in
    let before = c.args.before.now in
    let bytes = c.args.bytes.now in
    let none =
    subst (λ l. NoneBetween (held l) before bytes old.at (new.at + 1)) is.literals
    (subst (λ h. NoneBetween (held old.literals.now) h bytes old.at (new.at + 1)) is.history
    (subst (λ b. NoneBetween (held old.literals.now) old.history.now b old.at (new.at + 1)) is.bytes end.next.1)) in
    upto-all (held c.args.literals.now) before bytes c.args.self.now c.loop-mask.self old.at (new.at + 1) (omega (arith, end.next.0, ap length is.bytes)) none is.adds
