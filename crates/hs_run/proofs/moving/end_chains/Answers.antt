use Rattle.std.proofs.Common.{◌≡◌, ◌+◌, ◌*◌, ◌≤◌, ap, length, get_or, Some, slice_get, ◌∙◌, arith}
use Rattle.std.proofs.lemmas.List.{length-set}
use Rattle.std.proofs.lemmas.Option.{slice_get-get_or}
use Rattle.hs_run.specs.Ends.{no_ends}
use Rattle.hs_run.proofs.EndedLemmas.{ended-all, ended-more, ended-none}
use Rattle.hs_run.proofs.TickLemmas.{bound-more, bound-none}
use Rattle.hs_run.proofs.moving.end_chains.Goals as goal

pub loop-j-init : goal.loop-j-init
loop-j-init g c = record {
  ends = c.forget.ensures.len ∙ c.requires.ends;
  window = c.requires.window;
  ticks = bound-none c.args.program.now c.requires.runs (λ n. c.args.steps.now ≤ c.args.steps.now + 8 * n) (omega arith);
  done = ended-none c.args.program.now c.args.layout.now c.args.region.now c.args.spot.now c.forget.new.ends c.forget.ensures.none;
}

pub bounds-ends-entry_of : goal.bounds-ends-entry_of
bounds-ends-entry_of g c =
    let sound = c.requires.runs.chains c.loop-j.j c.chain_at-chain.result.now c.chain_at-chain.ensures in
    let below = sound.identifier c.entry_of.result.now c.entry_of.ensures in
    omega (arith, below, c.loop-j.invariant.ends)

pub end_chain-requires-clause-sound : goal.end_chain-requires-clause-sound
end_chain-requires-clause-sound g c = c.requires.runs.chains c.loop-j.j c.chain_at-chain.result.now c.chain_at-chain.ensures

pub end_chain-requires-clause-parts : goal.end_chain-requires-clause-parts
end_chain-requires-clause-parts g c k r low high role =
    let sound = c.requires.runs.chains c.loop-j.j c.chain_at-chain.result.now c.chain_at-chain.ensures in
    c.requires.parts k r (omega arith) (omega (arith, high, sound.within)) role

pub loop-j-preserved : goal.loop-j-preserved
loop-j-preserved g c =
    let inv = c.loop-j.invariant in
    let chain = c.chain_at-chain.result.now in
    let info = c.entry_of.result.now in
    let sound = c.requires.runs.chains c.loop-j.j chain c.chain_at-chain.ensures in
    let slot : slice_get c.loop-j.ends info.identifier ≡ Some (get_or c.loop-j.ends info.identifier no_ends) =
    slice_get-get_or c.loop-j.ends info.identifier no_ends (omega (arith, sound.identifier info c.entry_of.ensures, inv.ends)) in
    record {
      ends = length-set c.loop-j.ends info.identifier c.end_chain.new.ends ∙ inv.ends;
      window = c.end_chain.ensures.window ∙ inv.window;
      ticks =
          bound-more c.args.program.now c.requires.runs c.loop-j.j (λ n. c.loop-j.steps ≤ c.args.steps.now + 8 * n) (λ n. c.end_chain.new.steps ≤ c.args.steps.now + 8 * n) chain c.chain_at-chain.ensures inv.ticks
          (λ so_far. omega (arith, so_far, c.end_chain.ensures.ticks, sound.order));
      done =
          ended-more c.args.program.now c.args.layout.now c.args.region.now c.args.spot.now c.loop-j.j c.loop-j.ends chain (get_or c.loop-j.ends info.identifier no_ends) c.end_chain.new.ends inv.done
          c.chain_at-chain.ensures sound c.end_chain.ensures.ends info c.entry_of.ensures slot;
    }

pub returns-clause-about : goal.returns-clause-about
returns-clause-about g c =
    ended-all c.args.program.now c.args.layout.now c.args.region.now c.args.spot.now c.loop-j.j c.loop-j.ends c.loop-j.invariant.done (omega (arith, c.loop-j-test.false, c.loop-j.auto.j-end, ap length c.chains-j-end.ensures))

pub returns-clause-ticks : goal.returns-clause-ticks
returns-clause-ticks g c = c.loop-j.invariant.ticks.all (omega (arith, c.loop-j-test.false, c.loop-j.auto.j-end, ap length c.chains-j-end.ensures))
