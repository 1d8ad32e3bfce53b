use Rattle.std.proofs.Common.{refl, arith}
use Rattle.hs_bits.proofs.WordLemmas.{zero-row}
use Rattle.hs_block.proofs.StreamSettleLemmas.{settle-first}
use Rattle.hs_block.proofs.streams.Streams.solve.Goals as goal

pub loop-round-init : goal.loop-round-init
loop-round-init g c =
    let s = c.args.self.now in
    let entry = c.args.entry.now in
    record {
      len = refl;
      known = c.new-classes.ensures s.sets.items c.args.whole.now c.requires.first;
      settled =
          settle-first s entry.prev entry.state entry.enters c.args.first c.args.whole.now c.args.words.now c.first_todo-todo.result _ (omega (arith, c.requires.room, s.wide)) c.requires.zero
          (λ i. let b = c.type_inv.whole i in omega (arith, b)) c.requires.first (λ k. zero-row _ k) c.first_todo-todo.ensures.entered c.first_todo-todo.ensures.led;
    }
