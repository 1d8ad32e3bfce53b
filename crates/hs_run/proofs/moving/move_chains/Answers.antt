use Rattle.std.proofs.Common.{◌≡◌, ◌+◌, ◌*◌, ◌≤◌, ap, length, get_or, Some, slice_get, ◌∙◌, arith}
use Rattle.std.proofs.lemmas.List.{length-set}
use Rattle.std.proofs.lemmas.Option.{slice_get-get_or}
use Rattle.hs_run.specs.Ends.{no_ends}
use Rattle.hs_run.proofs.DoneLemmas.{chain-parts, done-moves, done-more, done-none, done-parts, done-written}
use Rattle.hs_run.proofs.TickLemmas.{bound-more, bound-none}
use Rattle.hs_run.proofs.moving.move_chains.Goals as goal

pub loop-j-init : goal.loop-j-init
loop-j-init g c = record {
  ends = c.forget.ensures.len ∙ c.requires.ends;
  window = c.requires.window;
  ticks = bound-none c.args.program.now c.requires.runs (λ n. c.args.steps.now ≤ c.args.steps.now + 16 * n) (omega arith);
  done = done-none c.args.program.now c.args.layout.now c.requires.fits c.requires.runs c.args.region.now c.args.arrival.now.spot c.args.arrival.now.byte c.forget.new.ends c.forget.ensures.none;
}

pub bounds-ends-entry_of : goal.bounds-ends-entry_of
bounds-ends-entry_of g c =
    let sound = c.requires.runs.chains c.loop-j.j c.chain_at-chain.result.now c.chain_at-chain.ensures in
    let below = sound.identifier c.entry_of.result.now c.entry_of.ensures in
    omega (arith, below, c.loop-j.invariant.ends)

pub move_chain-requires-clause-sound : goal.move_chain-requires-clause-sound
move_chain-requires-clause-sound g c = c.requires.runs.chains c.loop-j.j c.chain_at-chain.result.now c.chain_at-chain.ensures

pub move_chain-requires-clause-sized : goal.move_chain-requires-clause-sized
move_chain-requires-clause-sized g c = c.loop-j.invariant.done.written.len ∙ c.requires.sized

pub move_chain-requires-clause-parts : goal.move_chain-requires-clause-parts
move_chain-requires-clause-parts g c =
    chain-parts c.args.program.now c.args.layout.now c.requires.fits c.requires.runs c.args.region.now c.args.arrival.now.spot c.args.arrival.now.byte c.loop-j.j c.loop-j.region c.loop-j.region c.loop-j.ends c.chain_at-chain.result.now no_ends no_ends c.loop-j.invariant.done c.chain_at-chain.ensures
    c.requires.parts

pub loop-j-preserved : goal.loop-j-preserved
loop-j-preserved g c =
    let inv = c.loop-j.invariant in
    let chain = c.chain_at-chain.result.now in
    let info = c.entry_of.result.now in
    let sound = c.requires.runs.chains c.loop-j.j chain c.chain_at-chain.ensures in
    let slot : slice_get c.loop-j.ends info.identifier ≡ Some (get_or c.loop-j.ends info.identifier no_ends) =
    slice_get-get_or c.loop-j.ends info.identifier no_ends (omega (arith, sound.identifier info c.entry_of.ensures, inv.ends)) in
    record {
      ends = length-set c.loop-j.ends info.identifier c.move_chain.new.ends ∙ inv.ends;
      window = c.move_chain.ensures.window ∙ inv.window;
      ticks =
          bound-more c.args.program.now c.requires.runs c.loop-j.j (λ n. c.loop-j.steps ≤ c.args.steps.now + 16 * n) (λ n. c.move_chain.new.steps ≤ c.args.steps.now + 16 * n) chain c.chain_at-chain.ensures inv.ticks
          (λ so_far. omega (arith, so_far, c.move_chain.ensures.ticks, sound.order));
      done =
          done-more c.args.program.now c.args.layout.now c.requires.fits c.requires.runs c.args.region.now c.args.arrival.now.spot c.args.arrival.now.byte c.loop-j.j c.loop-j.region c.move_chain.new.region c.loop-j.ends chain
          (get_or c.loop-j.ends info.identifier no_ends) c.move_chain.new.ends inv.done c.chain_at-chain.ensures c.move_chain.ensures.written c.move_chain.ensures.parts c.move_chain.ensures.moves info c.entry_of.ensures slot;
    }

pub returns-clause-written : goal.returns-clause-written
returns-clause-written g c =
    done-written c.args.program.now c.args.layout.now c.requires.fits c.requires.runs c.args.region.now c.args.arrival.now.spot c.args.arrival.now.byte c.loop-j.j c.loop-j.region c.loop-j.ends c.loop-j.invariant.done
    (omega (arith, c.loop-j-test.false, c.loop-j.auto.j-end, ap length c.chains-j-end.ensures))

pub returns-clause-parts : goal.returns-clause-parts
returns-clause-parts g c =
    done-parts c.args.program.now c.args.layout.now c.requires.fits c.requires.runs c.args.region.now c.args.arrival.now.spot c.args.arrival.now.byte c.loop-j.j c.loop-j.region c.loop-j.ends c.loop-j.invariant.done
    (omega (arith, c.loop-j-test.false, c.loop-j.auto.j-end, ap length c.chains-j-end.ensures))

pub returns-clause-moves : goal.returns-clause-moves
returns-clause-moves g c =
    done-moves c.args.program.now c.args.layout.now c.requires.fits c.requires.runs c.args.region.now c.args.arrival.now.spot c.args.arrival.now.byte c.loop-j.j c.loop-j.region c.loop-j.ends c.loop-j.invariant.done
    (omega (arith, c.loop-j-test.false, c.loop-j.auto.j-end, ap length c.chains-j-end.ensures))

pub returns-clause-ticks : goal.returns-clause-ticks
returns-clause-ticks g c = c.loop-j.invariant.ticks.all (omega (arith, c.loop-j-test.false, c.loop-j.auto.j-end, ap length c.chains-j-end.ensures))
