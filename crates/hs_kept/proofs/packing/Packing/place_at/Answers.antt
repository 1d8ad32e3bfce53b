use Rattle.std.proofs.Common.{◌≡◌, ◌+◌, ◌-◌, suc, arith}
use Rattle.hs_kept.specs.StateFields.{end_of}
use Rattle.hs_kept.specs.Parts.{place_from}
use Rattle.hs_kept.proofs.FieldLemmas.{IsApart, read-apart}
use Rattle.hs_kept.proofs.PlaceLemmas.{place-next, place-zero}
use Rattle.hs_kept.proofs.packing.Packing.place_at.Goals as goal

pub returns-then-number-eq0 : goal.returns-then-number-eq0
returns-then-number-eq0 c = place-zero c.args.self.now.fields.items c.args.at c.args.number c.if-number-eq0.true c.requires.found

pub overflow_add-result : goal.overflow_add-result
overflow_add-result c =
    let f = c.index-before.result.now in
    let apart : IsApart f 0 0 c.args.self.now.region_size c.args.self.now.size =
    read-apart c.args.self.now (c.args.number - 1) f (omega (arith, c.requires.found.within, c.if-number-eq0.false)) c.index-before.ensures in
    omega (arith, apart.place_within, c.args.self.now.small)

pub end-requires : goal.end-requires
end-requires c =
    let f = c.index-before.result.now in
    let apart : IsApart f 0 0 c.args.self.now.region_size c.args.self.now.size =
    read-apart c.args.self.now (c.args.number - 1) f (omega (arith, c.requires.found.within, c.if-number-eq0.false)) c.index-before.ensures in
    record { small = omega (arith, apart.within, c.args.self.now.region_small) }

pub overflow_add-result-2 : goal.overflow_add-result-2
overflow_add-result-2 c =
    let f = c.index-before.result.now in
    let apart : IsApart f 0 0 c.args.self.now.region_size c.args.self.now.size =
    read-apart c.args.self.now (c.args.number - 1) f (omega (arith, c.requires.found.within, c.if-number-eq0.false)) c.index-before.ensures in
    omega (arith, apart.place_within, c.args.self.now.small, c.args.self.now.region_small, c.requires.within, c.saturating_sub.ensures)

pub returns : goal.returns
returns c =
    let f = c.index-before.result.now in
    let place : place_from c.args.self.now.fields.items 0 0 c.args.at ≡ suc f.place + (c.args.at - end_of f) =
    place-next c.args.self.now.fields.items c.args.at c.args.number f (omega (arith, c.if-number-eq0.false)) c.requires.found c.index-before.ensures in
    omega (arith, place, c.saturating_sub.ensures, c.end.ensures)
