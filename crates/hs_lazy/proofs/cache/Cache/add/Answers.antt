use Rattle.std.proofs.Common.{◌∙◌, length, refl}
use Rattle.std.proofs.lemmas.Option.{slice_get_read}
use Rattle.hs_lazy.proofs.PutLemmas.{put-leaves}
use Rattle.hs_lazy.proofs.cache.Cache.add.Goals as goal

pub returns-clause-dfas : goal.returns-clause-dfas
returns-clause-dfas g c = (put-leaves g.E.Engine.meaning c.args.engines.now c.make_room.new.self.dfas c.put.new.self c.args.number c.args.engine c.size-size.result c.wakers.result.now c.index-engines-engine.result (slice_get_read c.args.engines.now (length c.args.engines.now) c.args.engine c.index-engines-engine.result refl c.requires.there c.index-engines-engine.is) c.requires.listed c.size-size.ensures c.wakers.ensures (c.make_room.ensures.same c.args.number ∙ c.requires.none) c.make_room.ensures.dfas c.put.ensures).dfas

pub returns-clause-own : goal.returns-clause-own
returns-clause-own g c = (put-leaves g.E.Engine.meaning c.args.engines.now c.make_room.new.self.dfas c.put.new.self c.args.number c.args.engine c.size-size.result c.wakers.result.now c.index-engines-engine.result (slice_get_read c.args.engines.now (length c.args.engines.now) c.args.engine c.index-engines-engine.result refl c.requires.there c.index-engines-engine.is) c.requires.listed c.size-size.ensures c.wakers.ensures (c.make_room.ensures.same c.args.number ∙ c.requires.none) c.make_room.ensures.dfas c.put.ensures).own

pub returns-clause-others : goal.returns-clause-others
returns-clause-others g c k apart = (put-leaves g.E.Engine.meaning c.args.engines.now c.make_room.new.self.dfas c.put.new.self c.args.number c.args.engine c.size-size.result c.wakers.result.now c.index-engines-engine.result (slice_get_read c.args.engines.now (length c.args.engines.now) c.args.engine c.index-engines-engine.result refl c.requires.there c.index-engines-engine.is) c.requires.listed c.size-size.ensures c.wakers.ensures (c.make_room.ensures.same c.args.number ∙ c.requires.none) c.make_room.ensures.dfas c.put.ensures).others k apart ∙ c.make_room.ensures.same k
