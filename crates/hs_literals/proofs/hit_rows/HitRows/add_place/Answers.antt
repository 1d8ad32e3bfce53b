use Rattle.std.proofs.Common.{◌<◌, sym, subst, arith}
use Rattle.hs_confirm.specs.Found.{AreBuckets}
use Rattle.hs_confirm.proofs.HeadLemmas.{open-all}
use Rattle.hs_literals.specs.Held.{held, held_buckets}
use Rattle.hs_literals.proofs.AllEndLemmas.{as_many}
use Rattle.hs_literals.proofs.HitLoopLemmas.{but-start, but-next, but-all}
use Rattle.hs_literals.proofs.hit_rows.HitRows.add_place.Goals as goal

pub loop-left-init : goal.loop-left-init
loop-left-init c =
    let literals = c.args.literals.now in
    let fits : c.args.mask < 256 = omega (arith, c.ranges.mask.fits) in
    record {
      few = subst AreBuckets (sym c.from-left.ensures) (λ bucket is. (open-all c.args.mask fits bucket is).0);
      adds = but-start (held literals) (held_buckets literals) c.args.before.now c.args.bytes.now c.args.place (as_many literals.confirm) c.args.mask c.from-left.result c.args.self.now literals.few fits c.from-left.ensures c.requires.hides;
    }

pub add_bucket-requires : goal.add_bucket-requires
add_bucket-requires c =
    let l = c.loop-left in
    record {
      known = omega (arith, c.requires.known, l.invariant.adds.count);
      few = c.requires.few;
      within = c.requires.within;
      bucket = l.invariant.few c.lowest_bit-bucket.result c.lowest_bit-bucket.ensures.lowest.is;
      full = c.full_text_key-full.ensures;
    }

pub loop-left-preserved : goal.loop-left-preserved
loop-left-preserved c =
    let literals = c.args.literals.now in
    let l = c.loop-left in
    let bucket = c.lowest_bit-bucket.result in
    let low = c.lowest_bit-bucket.ensures.lowest in
    let behind = c.without_lowest_bit-left.ensures.behind bucket low in
    record {
      few = λ other is. l.invariant.few other ((behind other).0 is).1;
      adds = but-next (held literals) (held_buckets literals) c.args.before.now c.args.bytes.now c.args.place (as_many literals.confirm) l.left c.without_lowest_bit-left.result bucket c.args.self.now l.self c.add_bucket.new.self low behind l.invariant.adds c.add_bucket.ensures;
    }

pub returns : goal.returns
returns c =
    let literals = c.args.literals.now in
    let l = c.loop-left in
    but-all (held literals) (held_buckets literals) c.args.before.now c.args.bytes.now c.args.place (as_many literals.confirm) l.left c.args.self.now l.self c.loop-left-test.false l.invariant.adds
