use Rattle.std.proofs.Common.{rules, ◌≡◌, ◌∙◌, ℕ, length, ap}
use Rattle.std.proofs.lemmas.List.{length-replicate}
use Rattle.hs_kept.specs.Packing.{packed_size}
use Rattle.hs_compile.specs.Databases.{packing_of}
use Rattle.hs_stream.proofs.EmptyLemmas.{empty-behind, empty-well, offset-zero, zeros-zero}
use Rattle.hs_stream.proofs.stream.Stream.open.Goals as goal

pub returns-clause-fits : goal.returns-clause-fits
returns-clause-fits c =
    let bytes = c.in_ok-region.region.items in
    let sized : length bytes ≡ packed_size (packing_of c.args.db.now) =
    ap length c.in_ok-region.ensures ∙ (length-replicate {A = ℕ} c.region_size.result 0 ∙ c.region_size.ensures.size) in
    record {
      digest = search rules;
      region = empty-well c.args.db.now bytes (zeros-zero bytes c.region_size.result c.in_ok-region.ensures) sized c.packing-packing.ensures.whole;
    }

pub returns-clause-offset : goal.returns-clause-offset
returns-clause-offset c = offset-zero c.in_ok-region.region.items (zeros-zero c.in_ok-region.region.items c.region_size.result c.in_ok-region.ensures)

pub returns-clause-fresh : goal.returns-clause-fresh
returns-clause-fresh c plan is =
    let bytes = c.in_ok-region.region.items in
    let sized : length bytes ≡ packed_size (packing_of c.args.db.now) =
    ap length c.in_ok-region.ensures ∙ (length-replicate {A = ℕ} c.region_size.result 0 ∙ c.region_size.ensures.size) in
    empty-behind c.args.db.now bytes (zeros-zero bytes c.region_size.result c.in_ok-region.ensures) sized plan is
