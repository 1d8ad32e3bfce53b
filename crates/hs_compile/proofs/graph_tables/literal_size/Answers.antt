use Rattle.std.proofs.Common.{arith}
use Rattle.hs_compile.proofs.ReadLemmas.{has-length}
use Rattle.hs_compile.proofs.graph_tables.literal_size.Goals as goal

pub overflow_cast-result : goal.overflow_cast-result
overflow_cast-result c =
    let has = has-length c.args.program.now c.literals.result.now c.args.number c.index-literals-number.result c.len.result c.literals.ensures c.requires.there c.index-literals-number.is (omega (arith, c.len.ensures, c.index-literals-number.result.ok.0)) in
    omega (arith, c.requires.ready.short c.args.number has.literal has.there, has.count)

pub returns : goal.returns
returns c =
    has-length c.args.program.now c.literals.result.now c.args.number c.index-literals-number.result c.len.result c.literals.ensures c.requires.there c.index-literals-number.is (omega (arith, c.len.ensures, c.index-literals-number.result.ok.0))
