use Rattle.hs_nodes.proofs.SufficeLemmas.{suffice-takes}
use Rattle.hs_nodes.proofs.engines.run_engine.Goals as goal

pub returns-in-Some-clause-takes : goal.returns-in-Some-clause-takes
returns-in-Some-clause-takes g c =
    let own = c.run_alone.ensures.runs in
    suffice-takes (g.E.Engine.meaning c.args.numbered.now.engine.now) c.args.region.now c.run_alone.new.region c.args.chunk.now.prev c.args.chunk.now.at c.args.chunk.now.bytes.now own.words c.args.entry.now.enters.now c.args.null.now c.run_alone.result c.through.result own.runs own.suffices
    (c.requires.entered c.in-Some.k c.in-Some.is) c.args.chunk.now.few c.through.ensures.before c.through.ensures.behind (record { before = c.through.ensures.past; behind = c.through.ensures.past_behind })

pub run_alone-requires-clause-told : goal.run_alone-requires-clause-told
run_alone-requires-clause-told g c t is = c.requires.told c.in-Some.k t c.in-Some.is is
