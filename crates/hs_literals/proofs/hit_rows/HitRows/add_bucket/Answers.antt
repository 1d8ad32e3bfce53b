use Rattle.std.proofs.Common.{◌≡◌, ◌+◌, ◌++◌, length, ap, sym, subst, arith, length-append}
use Rattle.std.proofs.lemmas.Option.{slice_get_within}
use Rattle.hs_confirm.specs.BucketEnds.{AreBucketEnds}
use Rattle.hs_confirm.specs.Left.{ends_left}
use Rattle.hs_literals.specs.AllEnds.{pairs_of_place}
use Rattle.hs_literals.specs.Held.{held, held_buckets}
use Rattle.hs_literals.specs.HitTables.{IsHitOf}
use Rattle.hs_literals.proofs.HitLoopLemmas.{adds-start, adds-next, adds-all, next-new, bucket-ends, bucket-none}
use Rattle.hs_literals.proofs.hit_rows.HitRows.add_bucket.Goals as goal

pub returns-then-not-may_end : goal.returns-then-not-may_end
returns-then-not-may_end c =
    let literals = c.args.literals.now in
    let before = c.args.before.now in
    let bytes = c.args.bytes.now in
    let place = c.args.place in
    bucket-none (held literals) (held_buckets literals) before bytes c.args.bucket place c.args.self.now c.requires.within
    (c.may_end.ensures.none c.if-not-may_end.true (before ++ bytes) (length before + place) (omega (arith, length-append before bytes, c.requires.within)) c.requires.full)

pub loop-number-init : goal.loop-number-init
loop-number-init c =
    let literals = c.args.literals.now in
    let before = c.args.before.now in
    let bytes = c.args.bytes.now in
    let place = c.args.place in
    let left = ends_left c.into_iter-number-iterator.result in
    let same : ends_left c.keyed_ends-ends.result ≡ left = ap ends_left (sym c.into_iter-number-iterator.ensures.into_iter_gives) in
    adds-start (IsHitOf (held literals) (held_buckets literals) c.args.bucket before bytes place) c.args.self.now (pairs_of_place place left)
    (bucket-ends (held literals) (held_buckets literals) before bytes c.args.bucket place left c.requires.within
    (subst (AreBucketEnds (held literals) (held_buckets literals) c.args.bucket (before ++ bytes) (length before + place)) same c.keyed_ends-ends.ensures))

pub add-requires : goal.add-requires
add-requires c =
    let literals = held c.args.literals.now in
    let place = c.args.place in
    let (filed, (there, hit)) =
    next-new (IsHitOf literals (held_buckets c.args.literals.now) c.args.bucket c.args.before.now c.args.bytes.now place) c.args.self.now c.loop-number.self (pairs_of_place place (ends_left c.loop-number.number-iterator)) (pairs_of_place place (ends_left c.next.new.self)) place
    c.in-Some.number c.loop-number.invariant (ap (pairs_of_place place) c.in-Some.ensures.steps) in
    record {
      known = omega (arith, slice_get_within literals c.in-Some.number hit.literal hit.numbered, c.loop-number.invariant.count, c.requires.known);
      within = omega (arith, c.requires.within, c.requires.few);
    }

pub loop-number-preserved : goal.loop-number-preserved
loop-number-preserved c =
    let place = c.args.place in
    adds-next (IsHitOf (held c.args.literals.now) (held_buckets c.args.literals.now) c.args.bucket c.args.before.now c.args.bytes.now place) c.args.self.now c.loop-number.self c.add.new.self (pairs_of_place place (ends_left c.loop-number.number-iterator)) (pairs_of_place place (ends_left c.next.new.self)) place
    c.in-Some.number c.loop-number.invariant (ap (pairs_of_place place) c.in-Some.ensures.steps) c.add.ensures

pub returns : goal.returns
returns c =
    let place = c.args.place in
    adds-all (IsHitOf (held c.args.literals.now) (held_buckets c.args.literals.now) c.args.bucket c.args.before.now c.args.bytes.now place) c.args.self.now (pairs_of_place place (ends_left c.loop-number.number-iterator)) c.loop-number.self c.loop-number.invariant
    (ap (pairs_of_place place) c.in-None.ensures.steps.0)
