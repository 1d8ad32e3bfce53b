use Rattle.std.proofs.Common.{arith}
use Rattle.hs_run.proofs.BeginLemmas.{begins-looked, begins-plain, looks, pair-bare}
use Rattle.hs_run.proofs.chains.begin_chain.Goals as goal

pub leave_looked_back-requires-clause-some : goal.leave_looked_back-requires-clause-some
leave_looked_back-requires-clause-some g c = (c.begins_back.ensures.0 c.if-begins_back.true).0

pub leave_looked_back-requires-clause-looks_back : goal.leave_looked_back-requires-clause-looks_back
leave_looked_back-requires-clause-looks_back g c = (c.begins_back.ensures.0 c.if-begins_back.true).1

pub returns-then-begins_back-clause-high : goal.returns-then-begins_back-clause-high
returns-then-begins_back-clause-high g c =
    let (r, role, sound) = looks c.args.program.now c.args.chain.now c.requires.sound (c.begins_back.ensures.0 c.if-begins_back.true) in sound.within

pub returns-then-begins_back-clause-bare : goal.returns-then-begins_back-clause-bare
returns-then-begins_back-clause-bare g c = pair-bare c.args.program.now c.args.chain.now c.requires.sound (c.begins_back.ensures.0 c.if-begins_back.true)

pub returns-then-begins_back-clause-begins : goal.returns-then-begins_back-clause-begins
returns-then-begins_back-clause-begins g c plan x u runs is =
    begins-looked c.args.program.now plan c.args.chain.now x runs c.args.spot.now u is c.leave_looked_back.result (c.begins_back.ensures.0 c.if-begins_back.true) (c.requires.sound.within) c.leave_looked_back.ensures.leaves

pub returns-clause-begins : goal.returns-clause-begins
returns-clause-begins g c plan x u runs is =
    begins-plain c.args.program.now plan c.args.chain.now x runs u c.all.result c.all.ensures c.begins_back.result c.if-begins_back.false c.begins_back.ensures

pub overflow_add-result : goal.overflow_add-result
overflow_add-result g c =
    let (r, role, sound) = looks c.args.program.now c.args.chain.now c.requires.sound (c.begins_back.ensures.0 c.if-begins_back.true) in
    omega (arith, sound.within, c.requires.sound.small)

pub returns-then-begins_back-clause-ticks : goal.returns-then-begins_back-clause-ticks
returns-then-begins_back-clause-ticks g c = omega (arith, c.leave_looked_back.ensures.ticks)

pub returns-clause-ticks : goal.returns-clause-ticks
returns-clause-ticks g c = omega arith
