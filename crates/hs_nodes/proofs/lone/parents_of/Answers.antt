use Rattle.std.proofs.Common.{◌+◌, ◌<◌, ◌≤◌, length, refl, sym, subst, arith}
use Rattle.std.proofs.lemmas.Option.{slice_get-get_or, slice_get_within}
use Rattle.hs_bits.specs.Marks.{mark_room}
use Rattle.hs_nodes.proofs.LoneLemmas.{AreParentsTo, parents-none, parents-some}
use Rattle.hs_nodes.proofs.lone.parents_of.Goals as goal
use Rattle.hs_nodes.proofs.lone.parents_of.Goals.{in-Some, in_default}

pub write-requires : goal.write-requires
write-requires c =
    let low : c.in-Some.parent < c.loop-i.i = c.requires.earlier c.loop-i.i c.in-Some.parent _ (slice_get-get_or c.args.nodes.now c.loop-i.i _ (omega (arith, c.loop-i-test.true))) c.in-Some.is in
    omega (arith, low, c.loop-i-test.true, c.loop-i.invariant.room)

pub loop-i-preserved : goal.loop-i-preserved
loop-i-preserved c =
    let nodes = c.args.nodes.now in
    let i = c.loop-i.i in
    elim c.match-nodes-i.branch [
      | in-Some w ↦
          record {
            room = subst (λ ms. length nodes ≤ mark_room ms) (sym w.parents-is) (omega (arith, w.write.ensures.room, c.loop-i.invariant.room));
            marked = subst (λ ms. AreParentsTo nodes ms (i + 1)) (sym w.parents-is) (parents-some nodes c.loop-i.parents w.write.new.self i (i + 1) w.in-Some.parent _ refl w.in-Some.is w.write.ensures.put w.write.ensures.others c.loop-i.invariant.marked);
          }
      | in_default w ↦
          record {
            room = subst (λ ms. length nodes ≤ mark_room ms) (sym w.parents-is) c.loop-i.invariant.room;
            marked = subst (λ ms. AreParentsTo nodes ms (i + 1)) (sym w.parents-is) (parents-none nodes c.loop-i.parents i (i + 1) _ refl w.in_default.not-Some c.loop-i.invariant.marked);
          }
    ]

pub returns-clause-parents : goal.returns-clause-parents
returns-clause-parents c j p child at is = c.loop-i.invariant.marked j p child (omega (arith, slice_get_within c.args.nodes.now j child at, c.loop-i-test.false)) at is
