use Rattle.std.proofs.Common.{◌≡◌, slice_set, ◌<◌, ◌+◌, ℕ, List, length, true, false, refl, sym, subst, ◌∙◌, arith}
use Rattle.std.proofs.lemmas.List.{length-set}
use Rattle.hs_nodes.proofs.NodeLemmas.{there}
use Rattle.hs_nodes.specs.Left.{nowhere}
use Rattle.hs_nodes.proofs.LivingLemmas.{node-rests}
use Rattle.hs_nodes.proofs.SettleLemmas.{IsSettledTo, settled-all, settled-none, settled-pass, settled-visit}
use Rattle.hs_nodes.proofs.settling.settle.Goals as goal
use Rattle.hs_nodes.proofs.settling.settle.Goals.{then-node_rests, else-node_rests}

pub loop-k-init : goal.loop-k-init
loop-k-init g c = record {
  ends = c.requires.ends;
  within = omega arith;
  is = settled-none g.E.Engine.meaning c.args.table.now c.args.region.now c.args.marks.now c.requires.resting c.args.ends.now c.requires.nowhere;
}

pub node_rests-requires-clause-there : goal.node_rests-requires-clause-there
node_rests-requires-clause-there g c = c.requires.marked c.in-Some.k (c.loop-k.invariant.is.fewer c.in-Some.k c.in-Some.ensures.is)

pub loop-k-preserved : goal.loop-k-preserved
loop-k-preserved g c =
    let m = g.E.Engine.meaning in
    let table = c.args.table.now in
    let region = c.args.region.now in
    let first = c.args.marks.now in
    let k = c.in-Some.k in
    let marks = c.loop-k.marks in
    let inv = c.loop-k.invariant in
    let below : k < length table.nodes.items = c.requires.marked k (inv.is.fewer k c.in-Some.ensures.is) in
    let own = there table.nodes.items k below in
    let unset = c.node_rests.ensures own.0 own.1 in
    let rests = node-rests m table c.requires.sound.0 region c.requires.sound.1 c.requires.idle k own.0 own.1 in
    let here = settled-pass m table region first c.requires.resting marks c.loop-k.ends c.loop-k.from k c.in-Some.ensures.low (omega (arith, below)) c.in-Some.ensures.least inv.is in record {
      ends = length-set c.loop-k.ends k nowhere ∙ inv.ends;
      within = omega (arith, below);
      is = elim c.if-node_rests.branch [
        | then-node_rests w ↦
            subst (λ (ms : List ℕ). IsSettledTo m table region first ms (slice_set c.loop-k.ends k nowhere) (k + 1)) (sym w.marks-is)
            (settled-visit m table region first c.requires.resting marks w.write.new.self c.loop-k.ends k (k + 1) refl own.0 own.1 inv.ends w.write.ensures.room w.write.ensures.others
            (λ set. c.in-Some.ensures.is) (λ is. w.write.ensures.put) (λ not. absurd (not (unset.0 w.if-node_rests.true))) (λ off. rests (unset.0 w.if-node_rests.true)) here)
        | else-node_rests w ↦
            subst (λ (ms : List ℕ). IsSettledTo m table region first ms (slice_set c.loop-k.ends k nowhere) (k + 1)) (sym w.marks-is)
            (settled-visit m table region first c.requires.resting marks marks c.loop-k.ends k (k + 1) refl own.0 own.1 inv.ends refl (λ j apart. refl)
            (λ set. set) (λ is. absurd (let both : false ≡ true = sym w.if-node_rests.false ∙ unset.1 is in cc)) (λ not. refl) (λ off. absurd (let both : true ≡ false = sym c.in-Some.ensures.is ∙ off in cc)) here)
      ];
    }

pub returns-clause-settled : goal.returns-clause-settled
returns-clause-settled g c =
    let m = g.E.Engine.meaning in
    let table = c.args.table.now in
    let inv = c.loop-k.invariant in
    let room = inv.is.room in
    settled-all m table c.args.region.now c.args.marks.now c.requires.resting c.loop-k.marks c.loop-k.ends inv.ends
    (settled-pass m table c.args.region.now c.args.marks.now c.requires.resting c.loop-k.marks c.loop-k.ends c.loop-k.from (length table.nodes.items) inv.within (omega arith) (λ j low high. c.in_default.ensures j low (omega (arith, room, c.requires.room))) inv.is)
