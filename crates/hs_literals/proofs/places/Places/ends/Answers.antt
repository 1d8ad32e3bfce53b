use Rattle.std.proofs.Common.{◌+◌, ◌++◌, length, arith, length-append}
use Rattle.hs_confirm.specs.Filed.{literals_of, buckets_of}
use Rattle.hs_literals.proofs.AllEndLemmas.{option_numbers, as_many}
use Rattle.hs_literals.proofs.places.Places.ends.Goals as goal

pub returns : goal.returns
returns c =
    let places = c.args.self.now in
    let confirm = places.literals.now.confirm in
    option_numbers (literals_of confirm) (buckets_of confirm) c.args.mask (places.history.now ++ places.bytes.now) (length places.history.now + places.at) c.some_place_ends.result (as_many confirm) (omega (arith, length-append places.history.now places.bytes.now, places.within)) c.requires c.some_place_ends.ensures
