use Rattle.std.proofs.Common.{◌≡◌, ◌+◌, length, refl, sym, ap, subst, ◌∙◌, arith}
use Rattle.std.specs.Int.{to_le_bytes, w64}
use Rattle.std.proofs.lemmas.List.{with_items_is}
use Rattle.hs_base.specs.Regions.{region_offset}
use Rattle.hs_run.specs.Chains.{AreParts}
use Rattle.hs_run.specs.Feeding.{SettlesBits}
use Rattle.hs_run.proofs.FeedLemmas.{byte-feeds, parts-moved, size}
use Rattle.hs_run.proofs.HeaderLemmas.{header-moved}
use Rattle.hs_run.proofs.LayoutLemmas.{apart}
use Rattle.hs_run.proofs.PieceLemmas.{each-by}
use Rattle.hs_run.proofs.SettledLemmas.{steps-of}
use Rattle.hs_run.proofs.runner.feed_byte.Goals as goal

pub of-spot-requires-clause-there : goal.of-spot-requires-clause-there
of-spot-requires-clause-there g c =
    let header = (apart c.args.program.now c.args.layout.now c.requires.layout).header in
    omega (arith, header, c.requires.region.sized)

pub returns-clause-region : goal.returns-clause-region
returns-clause-region g c =
    let program = c.args.program.now in
    let l = c.args.layout.now in
    let steps = steps-of program l c.requires.layout c.args.region.now c.move_chains.new.region c.settle_bits.new.region c.set_history.new.region c.set_offset.new.region c.of-spot.result.history c.behind-behind.result.history (to_le_bytes w64 c.behind-behind.result.at) c.args.byte
    c.requires.region.sized c.of-spot.ensures.history c.behind-behind.ensures.history c.move_chains.ensures.written c.settle_bits.ensures.len c.settle_bits.ensures.settled.holds.written.bytes c.set_history.ensures.written c.set_history.ensures.len c.set_offset.ensures.written c.set_offset.ensures.len refl in
    let at : c.of-spot.result.at + 1 ≡ region_offset c.set_offset.new.region = sym (c.set_offset.ensures.reads ∙ c.behind-behind.ensures.at) in
    record {
      sized = size l (length program.roles) c.args.region.now c.move_chains.new.region c.settle_bits.new.region c.set_history.new.region c.set_offset.new.region c.behind-behind.result.history (to_le_bytes w64 c.behind-behind.result.at) steps;
      parts =
          subst (λ n. AreParts c.args.program.now l c.set_offset.new.region 0 (length program.roles) n) at
          (parts-moved c.args.program.now l c.requires.layout c.args.region.now c.move_chains.new.region c.settle_bits.new.region c.set_history.new.region c.set_offset.new.region c.behind-behind.result.history (to_le_bytes w64 c.behind-behind.result.at) steps (c.of-spot.result.at + 1)
          c.move_chains.ensures.parts);
    }

pub returns-clause-taken : goal.returns-clause-taken
returns-clause-taken g c =
    let program = c.args.program.now in
    let l = c.args.layout.now in
    let settled = c.settle_bits.ensures.settled in
    let steps = steps-of program l c.requires.layout c.args.region.now c.move_chains.new.region c.settle_bits.new.region c.set_history.new.region c.set_offset.new.region c.of-spot.result.history c.behind-behind.result.history (to_le_bytes w64 c.behind-behind.result.at) c.args.byte
    c.requires.region.sized c.of-spot.ensures.history c.behind-behind.ensures.history c.move_chains.ensures.written c.settle_bits.ensures.len settled.holds.written.bytes c.set_history.ensures.written c.set_history.ensures.len c.set_offset.ensures.written c.set_offset.ensures.len refl in
    let ends = c.move_chains.new.ends in
    let is_ends : c.deref.result.now ≡ ends = c.deref.ensures.value ∙ with_items_is c.args.scratch.now.ends ends (c.move_chains.ensures.ends ∙ c.deref_mut-2.ensures.len) in
    let settles : SettlesBits l program.identifiers ends c.move_chains.new.region c.settle_bits.new.region c.of-spot.result.at settled.pairs =
    subst (λ xs. SettlesBits l xs ends c.move_chains.new.region c.settle_bits.new.region c.of-spot.result.at settled.pairs) c.identifiers.ensures
    (subst (λ es. SettlesBits l c.identifiers.result.now es c.move_chains.new.region c.settle_bits.new.region c.of-spot.result.at settled.pairs) is_ends settled.holds) in
    record {
      pairs = settled.pairs;
      through = settled.through;
      holds =
          byte-feeds c.args.program.now l c.requires.layout c.of-spot.result c.behind-behind.result c.args.byte c.args.region.now c.move_chains.new.region c.settle_bits.new.region c.set_history.new.region c.set_offset.new.region
          c.behind-behind.result.history (to_le_bytes w64 c.behind-behind.result.at) c.move_chains.new.ends settled.pairs c.of-spot.ensures.stands c.behind-behind.ensures.stands c.move_chains.ensures.moves settles
          (c.move_chains.ensures.ends ∙ (ap length c.deref_mut-2.ensures.value ∙ c.requires.scratch.ends)) steps c.set_history.ensures.reads c.set_offset.ensures.reads (each-by c.set_offset.new.region (λ i. (c.type_inv.region i).fits))
          (omega (arith, c.of-spot.ensures.at, c.requires.room));
    }

pub returns-clause-header : goal.returns-clause-header
returns-clause-header g c old =
    let program = c.args.program.now in
    let l = c.args.layout.now in
    let settled = c.settle_bits.ensures.settled in
    let steps = steps-of program l c.requires.layout c.args.region.now c.move_chains.new.region c.settle_bits.new.region c.set_history.new.region c.set_offset.new.region c.of-spot.result.history c.behind-behind.result.history (to_le_bytes w64 c.behind-behind.result.at) c.args.byte
    c.requires.region.sized c.of-spot.ensures.history c.behind-behind.ensures.history c.move_chains.ensures.written c.settle_bits.ensures.len settled.holds.written.bytes c.set_history.ensures.written c.set_history.ensures.len c.set_offset.ensures.written c.set_offset.ensures.len refl in
    header-moved l (length program.roles) c.args.region.now c.move_chains.new.region c.settle_bits.new.region c.set_history.new.region c.set_offset.new.region c.of-spot.result.history c.behind-behind.result.history (to_le_bytes w64 c.behind-behind.result.at) c.args.byte steps
    c.of-spot.ensures.history c.behind-behind.ensures.history c.set_history.ensures.reads (c.set_offset.ensures.reads ∙ (c.behind-behind.ensures.at ∙ ap (λ n. n + 1) c.of-spot.ensures.at)) c.requires.room settled.holds.written old

pub returns-clause-ticks : goal.returns-clause-ticks
returns-clause-ticks g c = c.move_chains.ensures.ticks
