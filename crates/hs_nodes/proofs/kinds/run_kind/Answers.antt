use Rattle.std.proofs.Common.{◌+◌, ◌*◌, ◌≤◌, length, refl, sym, subst, ◌∙◌}
use Rattle.std.proofs.lemmas.Option.{slice_get-get_or, slice_get_read}
use Rattle.hs_nodes.specs.declared.table.NodeKind.{NodeKind}
use Rattle.hs_nodes.specs.Contexts.{AreChunkContexts, NeedsContexts}
use Rattle.hs_nodes.specs.Hits.{hit_count, no_hits}
use Rattle.hs_nodes.specs.declared.hits.ChunkHits.{ChunkHits}
use Rattle.hs_nodes.specs.Nodes.{IsKindSound, IsWellPart, TakesPiece, most_ticks}
use Rattle.hs_nodes.proofs.KindLemmas.{engine-takes, engine-well, first-takes, literal-takes, needed-contexts, pair-takes, same-default}
use Rattle.hs_nodes.proofs.PooledLemmas.{pooled-all}
use Rattle.hs_nodes.proofs.kinds.run_kind.Goals as goal

pub null_ends-requires : goal.null_ends-requires
null_ends-requires g c =
    needed-contexts c.in-Engine.number c.in-Engine.null (AreChunkContexts c.args.found.now.contexts.now c.args.chunk.now.prev c.args.chunk.now.at c.args.chunk.now.bytes.now)
    (λ needs. c.requires.contexts (subst (λ (k : NodeKind). NeedsContexts k) (sym c.in-Engine.is) needs))

pub bounds-engines-number : goal.bounds-engines-number
bounds-engines-number g c = (subst (λ (k : NodeKind). IsKindSound g.E.Engine.meaning c.args.engines.now (length c.args.found.now.foretold.now.hits.now) k (length c.args.part.now)) c.in-Engine.is c.requires.sound).there

pub run_engine-requires-clause-len : goal.run_engine-requires-clause-len
run_engine-requires-clause-len g c =
    let engines = c.args.engines.now in
    let sound = subst (λ (k : NodeKind). IsKindSound g.E.Engine.meaning engines (length c.args.found.now.foretold.now.hits.now) k (length c.args.part.now)) c.in-Engine.is c.requires.sound in
    sym (sound.each c.index-engines-number.result (slice_get_read engines (length engines) c.in-Engine.number c.index-engines-number.result refl sound.there c.index-engines-number.is)).0

pub run_engine-requires-clause-well : goal.run_engine-requires-clause-well
run_engine-requires-clause-well g c =
    let engines = c.args.engines.now in
    let sound = subst (λ (k : NodeKind). IsKindSound g.E.Engine.meaning engines (length c.args.found.now.foretold.now.hits.now) k (length c.args.part.now)) c.in-Engine.is c.requires.sound in
    subst (λ (k : NodeKind). IsWellPart g.E.Engine.meaning engines k c.args.part.now c.args.chunk.now.at) c.in-Engine.is c.requires.well c.index-engines-number.result
    (slice_get_read engines (length engines) c.in-Engine.number c.index-engines-number.result refl sound.there c.index-engines-number.is)

pub run_engine-requires-clause-listed : goal.run_engine-requires-clause-listed
run_engine-requires-clause-listed g c =
    let engines = c.args.engines.now in
    let sound = subst (λ (k : NodeKind). IsKindSound g.E.Engine.meaning engines (length c.args.found.now.foretold.now.hits.now) k (length c.args.part.now)) c.in-Engine.is c.requires.sound in
    (sound.each c.index-engines-number.result (slice_get_read engines (length engines) c.in-Engine.number c.index-engines-number.result refl sound.there c.index-engines-number.is)).1

pub run_engine-requires-clause-idle : goal.run_engine-requires-clause-idle
run_engine-requires-clause-idle g c part len zero =
    let engines = c.args.engines.now in
    let sound = subst (λ (k : NodeKind). IsKindSound g.E.Engine.meaning engines (length c.args.found.now.foretold.now.hits.now) k (length c.args.part.now)) c.in-Engine.is c.requires.sound in
    let there = slice_get_read engines (length engines) c.in-Engine.number c.index-engines-number.result refl sound.there c.index-engines-number.is in
    c.requires.idle c.in-Engine.number c.index-engines-number.result part there (sound.each c.index-engines-number.result there).1 len zero

pub run_engine-requires-clause-starts : goal.run_engine-requires-clause-starts
run_engine-requires-clause-starts g c k is untold =
    let engines = c.args.engines.now in
    let sound = subst (λ (k : NodeKind). IsKindSound g.E.Engine.meaning engines (length c.args.found.now.foretold.now.hits.now) k (length c.args.part.now)) c.in-Engine.is c.requires.sound in
    c.requires.starts k is untold c.in-Engine.number c.in-Engine.null c.index-engines-number.result c.in-Engine.is (slice_get_read engines (length engines) c.in-Engine.number c.index-engines-number.result refl sound.there c.index-engines-number.is)

pub bounds-hits-number : goal.bounds-hits-number
bounds-hits-number g c = (subst (λ (k : NodeKind). IsKindSound g.E.Engine.meaning c.args.engines.now (length c.args.found.now.foretold.now.hits.now) k (length c.args.part.now)) c.in-Literal.is c.requires.sound).0

pub run_literal_part-requires-clause-some : goal.run_literal_part-requires-clause-some
run_literal_part-requires-clause-some g c = (subst (λ (k : NodeKind). IsKindSound g.E.Engine.meaning c.args.engines.now (length c.args.found.now.foretold.now.hits.now) k (length c.args.part.now)) c.in-Literal.is c.requires.sound).1

pub run_literal_part-requires-clause-short : goal.run_literal_part-requires-clause-short
run_literal_part-requires-clause-short g c = (subst (λ (k : NodeKind). IsKindSound g.E.Engine.meaning c.args.engines.now (length c.args.found.now.foretold.now.hits.now) k (length c.args.part.now)) c.in-Literal.is c.requires.sound).2

pub run_literal_part-requires-clause-size : goal.run_literal_part-requires-clause-size
run_literal_part-requires-clause-size g c = (subst (λ (k : NodeKind). IsKindSound g.E.Engine.meaning c.args.engines.now (length c.args.found.now.foretold.now.hits.now) k (length c.args.part.now)) c.in-Literal.is c.requires.sound).3

pub run_literal_part-requires-clause-well : goal.run_literal_part-requires-clause-well
run_literal_part-requires-clause-well g c = subst (λ (k : NodeKind). IsWellPart g.E.Engine.meaning c.args.engines.now k c.args.part.now c.args.chunk.now.at) c.in-Literal.is c.requires.well

pub bounds-hits-number-in-FirstLiteral : goal.bounds-hits-number-in-FirstLiteral
bounds-hits-number-in-FirstLiteral g c = (subst (λ (k : NodeKind). IsKindSound g.E.Engine.meaning c.args.engines.now (length c.args.found.now.foretold.now.hits.now) k (length c.args.part.now)) c.in-FirstLiteral.is c.requires.sound).0

pub returns-in-Engine-clause-len : goal.returns-in-Engine-clause-len
returns-in-Engine-clause-len g c =
    let engines = c.args.engines.now in
    let sound = subst (λ (k : NodeKind). IsKindSound g.E.Engine.meaning engines (length c.args.found.now.foretold.now.hits.now) k (length c.args.part.now)) c.in-Engine.is c.requires.sound in
    c.run_engine.ensures.len ∙ (sound.each c.index-engines-number.result (slice_get_read engines (length engines) c.in-Engine.number c.index-engines-number.result refl sound.there c.index-engines-number.is)).0

pub returns-in-Engine-clause-well : goal.returns-in-Engine-clause-well
returns-in-Engine-clause-well g c =
    let m = g.E.Engine.meaning in
    let engines = c.args.engines.now in
    let sound = subst (λ (k : NodeKind). IsKindSound m engines (length c.args.found.now.foretold.now.hits.now) k (length c.args.part.now)) c.in-Engine.is c.requires.sound in
    subst (λ (k : NodeKind). IsWellPart m engines k c.run_engine.new.region (c.args.chunk.now.at + length c.args.chunk.now.bytes.now)) (sym c.in-Engine.is)
    (engine-well m engines c.in-Engine.number c.in-Engine.null c.run_engine.new.region (c.args.chunk.now.at + length c.args.chunk.now.bytes.now) c.index-engines-number.result (slice_get_read engines (length engines) c.in-Engine.number c.index-engines-number.result refl sound.there c.index-engines-number.is) c.run_engine.ensures.well)

pub returns-in-Engine-clause-takes : goal.returns-in-Engine-clause-takes
returns-in-Engine-clause-takes g c =
    let m = g.E.Engine.meaning in
    let engines = c.args.engines.now in
    let sound = subst (λ (k : NodeKind). IsKindSound m engines (length c.args.found.now.foretold.now.hits.now) k (length c.args.part.now)) c.in-Engine.is c.requires.sound in
    subst (λ (k : NodeKind). TakesPiece m engines k c.args.part.now c.run_engine.new.region c.args.chunk.now.prev c.args.chunk.now.at c.args.chunk.now.past.now c.args.chunk.now.bytes.now c.args.found.now.foretold.now.hits.now c.args.entry.now.enters.now c.run_engine.result) (sym c.in-Engine.is)
    (engine-takes m engines c.in-Engine.number c.in-Engine.null c.args.part.now c.run_engine.new.region c.args.chunk.now.prev c.args.chunk.now.at c.args.chunk.now.past.now c.args.chunk.now.bytes.now c.args.found.now.foretold.now.hits.now c.args.entry.now.enters.now c.null_ends.result c.run_engine.result
    c.index-engines-number.result (slice_get_read engines (length engines) c.in-Engine.number c.index-engines-number.result refl sound.there c.index-engines-number.is) c.null_ends.ensures c.run_engine.ensures.takes)

pub returns-in-Literal-clause-len : goal.returns-in-Literal-clause-len
returns-in-Literal-clause-len g c =
    c.run_literal_part.ensures.size ∙ sym (subst (λ (k : NodeKind). IsKindSound g.E.Engine.meaning c.args.engines.now (length c.args.found.now.foretold.now.hits.now) k (length c.args.part.now)) c.in-Literal.is c.requires.sound).3

pub returns-in-Literal-clause-well : goal.returns-in-Literal-clause-well
returns-in-Literal-clause-well g c = subst (λ (k : NodeKind). IsWellPart g.E.Engine.meaning c.args.engines.now k c.run_literal_part.new.part (c.args.chunk.now.at + length c.args.chunk.now.bytes.now)) (sym c.in-Literal.is) c.run_literal_part.ensures.well

pub returns-in-Literal-clause-takes : goal.returns-in-Literal-clause-takes
returns-in-Literal-clause-takes g c =
    let m = g.E.Engine.meaning in
    let engines = c.args.engines.now in
    let hits = c.args.found.now.foretold.now.hits.now in
    let sound = subst (λ (k : NodeKind). IsKindSound m engines (length hits) k (length c.args.part.now)) c.in-Literal.is c.requires.sound in
    subst (λ (k : NodeKind). TakesPiece m engines k c.args.part.now c.run_literal_part.new.part c.args.chunk.now.prev c.args.chunk.now.at c.args.chunk.now.past.now c.args.chunk.now.bytes.now hits c.args.entry.now.enters.now c.run_literal_part.result) (sym c.in-Literal.is)
    (literal-takes m engines c.in-Literal.number c.in-Literal.len c.args.part.now c.run_literal_part.new.part c.args.chunk.now.prev c.args.chunk.now.at c.args.chunk.now.past.now c.args.chunk.now.bytes.now hits c.args.entry.now.enters.now c.run_literal_part.result
    _ (slice_get-get_or hits c.in-Literal.number _ sound.0) c.run_literal_part.ensures.takes)

pub returns-in-FirstLiteral-clause-well : goal.returns-in-FirstLiteral-clause-well
returns-in-FirstLiteral-clause-well g c = subst (λ (k : NodeKind). IsWellPart g.E.Engine.meaning c.args.engines.now k c.args.part.now (c.args.chunk.now.at + length c.args.chunk.now.bytes.now)) (sym c.in-FirstLiteral.is) tt

pub returns-in-FirstLiteral-clause-takes : goal.returns-in-FirstLiteral-clause-takes
returns-in-FirstLiteral-clause-takes g c =
    let m = g.E.Engine.meaning in
    let engines = c.args.engines.now in
    let hits = c.args.found.now.foretold.now.hits.now in
    let sound = subst (λ (k : NodeKind). IsKindSound m engines (length hits) k (length c.args.part.now)) c.in-FirstLiteral.is c.requires.sound in
    subst (λ (k : NodeKind). TakesPiece m engines k c.args.part.now c.args.part.now c.args.chunk.now.prev c.args.chunk.now.at c.args.chunk.now.past.now c.args.chunk.now.bytes.now hits c.args.entry.now.enters.now c.ends_of.result) (sym c.in-FirstLiteral.is)
    (first-takes m engines c.in-FirstLiteral.number _ c.args.part.now c.args.part.now c.args.chunk.now.prev c.args.chunk.now.at c.args.chunk.now.past.now c.args.chunk.now.bytes.now hits c.args.entry.now.enters.now c.ends_of.result
    _ sound.1 (slice_get-get_or hits c.in-FirstLiteral.number _ sound.0) c.ends_of.ensures)

pub returns-in-Engine-clause-ticks : goal.returns-in-Engine-clause-ticks
returns-in-Engine-clause-ticks g c = subst (λ (k : NodeKind). c.run_engine.new.steps ≤ c.args.steps.now + most_ticks k c.args.found.now.foretold.now.hits.now (length c.args.chunk.now.bytes.now)) (sym c.in-Engine.is) c.run_engine.ensures.ticks

pub bounds-engines-pair : goal.bounds-engines-pair
bounds-engines-pair g c = (subst (λ (k : NodeKind). IsKindSound g.E.Engine.meaning c.args.engines.now (length c.args.found.now.foretold.now.hits.now) k (length c.args.part.now)) c.in-LookBack.is c.requires.sound).0.there

pub bounds-hits-pair : goal.bounds-hits-pair
bounds-hits-pair g c = (subst (λ (k : NodeKind). IsKindSound g.E.Engine.meaning c.args.engines.now (length c.args.found.now.foretold.now.hits.now) k (length c.args.part.now)) c.in-LookBack.is c.requires.sound).1

pub run_pair-requires-clause-room : goal.run_pair-requires-clause-room
run_pair-requires-clause-room g c =
    let engines = c.args.engines.now in
    let sound = subst (λ (k : NodeKind). IsKindSound g.E.Engine.meaning engines (length c.args.found.now.foretold.now.hits.now) k (length c.args.part.now)) c.in-LookBack.is c.requires.sound in
    (sound.0.each c.index-engines-pair.result (slice_get_read engines (length engines) c.in-LookBack.pair.engine c.index-engines-pair.result refl sound.0.there c.index-engines-pair.is)).0

pub run_pair-requires-clause-listed : goal.run_pair-requires-clause-listed
run_pair-requires-clause-listed g c =
    let engines = c.args.engines.now in
    let sound = subst (λ (k : NodeKind). IsKindSound g.E.Engine.meaning engines (length c.args.found.now.foretold.now.hits.now) k (length c.args.part.now)) c.in-LookBack.is c.requires.sound in
    (sound.0.each c.index-engines-pair.result (slice_get_read engines (length engines) c.in-LookBack.pair.engine c.index-engines-pair.result refl sound.0.there c.index-engines-pair.is)).1

pub run_pair-requires-clause-edges : goal.run_pair-requires-clause-edges
run_pair-requires-clause-edges g c =
    let engines = c.args.engines.now in
    let sound = subst (λ (k : NodeKind). IsKindSound g.E.Engine.meaning engines (length c.args.found.now.foretold.now.hits.now) k (length c.args.part.now)) c.in-LookBack.is c.requires.sound in
    sound.0.edges c.index-engines-pair.result (slice_get_read engines (length engines) c.in-LookBack.pair.engine c.index-engines-pair.result refl sound.0.there c.index-engines-pair.is)

pub run_pair-requires-clause-some : goal.run_pair-requires-clause-some
run_pair-requires-clause-some g c = (subst (λ (k : NodeKind). IsKindSound g.E.Engine.meaning c.args.engines.now (length c.args.found.now.foretold.now.hits.now) k (length c.args.part.now)) c.in-LookBack.is c.requires.sound).2

pub run_pair-requires-clause-short : goal.run_pair-requires-clause-short
run_pair-requires-clause-short g c = (subst (λ (k : NodeKind). IsKindSound g.E.Engine.meaning c.args.engines.now (length c.args.found.now.foretold.now.hits.now) k (length c.args.part.now)) c.in-LookBack.is c.requires.sound).3

pub returns-in-LookBack-clause-well : goal.returns-in-LookBack-clause-well
returns-in-LookBack-clause-well g c = subst (λ (k : NodeKind). IsWellPart g.E.Engine.meaning c.args.engines.now k c.args.part.now (c.args.chunk.now.at + length c.args.chunk.now.bytes.now)) (sym c.in-LookBack.is) tt

pub returns-in-LookBack-clause-ticks : goal.returns-in-LookBack-clause-ticks
returns-in-LookBack-clause-ticks g c =
    let hits = c.args.found.now.foretold.now.hits.now in
    let count = length c.args.chunk.now.bytes.now in
    let sound = subst (λ (k : NodeKind). IsKindSound g.E.Engine.meaning c.args.engines.now (length hits) k (length c.args.part.now)) c.in-LookBack.is c.requires.sound in
    subst (λ (k : NodeKind). c.run_pair.new.steps ≤ c.args.steps.now + most_ticks k hits count) (sym c.in-LookBack.is)
    (subst (λ (own : ChunkHits). c.run_pair.new.steps ≤ c.args.steps.now + 16 * hit_count own count) (same-default hits c.in-LookBack.pair.literal _ no_hits sound.1) c.run_pair.ensures.ticks)

pub returns-in-LookBack-clause-takes : goal.returns-in-LookBack-clause-takes
returns-in-LookBack-clause-takes g c =
    let m = g.E.Engine.meaning in
    let engines = c.args.engines.now in
    let hits = c.args.found.now.foretold.now.hits.now in
    let sound = subst (λ (k : NodeKind). IsKindSound m engines (length hits) k (length c.args.part.now)) c.in-LookBack.is c.requires.sound in
    subst (λ (k : NodeKind). TakesPiece m engines k c.args.part.now c.args.part.now c.args.chunk.now.prev c.args.chunk.now.at c.args.chunk.now.past.now c.args.chunk.now.bytes.now hits c.args.entry.now.enters.now c.run_pair.result) (sym c.in-LookBack.is)
    (pair-takes m engines c.in-LookBack.pair c.args.part.now c.args.part.now c.args.chunk.now.prev c.args.chunk.now.at c.args.chunk.now.past.now c.args.chunk.now.bytes.now hits c.args.entry.now.enters.now c.run_pair.result
    c.index-engines-pair.result _ (slice_get_read engines (length engines) c.in-LookBack.pair.engine c.index-engines-pair.result refl sound.0.there c.index-engines-pair.is) (slice_get-get_or hits c.in-LookBack.pair.literal _ sound.1) c.run_pair.ensures.takes)

pub run_engine-requires-clause-told : goal.run_engine-requires-clause-told
run_engine-requires-clause-told g c k t is some =
    let engines = c.args.engines.now in
    let sound = subst (λ (k : NodeKind). IsKindSound g.E.Engine.meaning engines (length c.args.found.now.foretold.now.hits.now) k (length c.args.part.now)) c.in-Engine.is c.requires.sound in
    c.requires.told k t is some c.in-Engine.number c.in-Engine.null c.index-engines-number.result c.in-Engine.is (slice_get_read engines (length engines) c.in-Engine.number c.index-engines-number.result refl sound.there c.index-engines-number.is)

pub run_engine-requires-clause-pool : goal.run_engine-requires-clause-pool
run_engine-requires-clause-pool g c =
    let engines = c.args.engines.now in
    let sound = subst (λ (k : NodeKind). IsKindSound g.E.Engine.meaning engines (length c.args.found.now.foretold.now.hits.now) k (length c.args.part.now)) c.in-Engine.is c.requires.sound in
    c.requires.pool c.in-Engine.number c.index-engines-number.result (slice_get_read engines (length engines) c.in-Engine.number c.index-engines-number.result refl sound.there c.index-engines-number.is)

pub returns-in-Engine-clause-pool : goal.returns-in-Engine-clause-pool
returns-in-Engine-clause-pool g c =
    let engines = c.args.engines.now in
    let sound = subst (λ (k : NodeKind). IsKindSound g.E.Engine.meaning engines (length c.args.found.now.foretold.now.hits.now) k (length c.args.part.now)) c.in-Engine.is c.requires.sound in
    pooled-all g.E.Engine.meaning c.in-Engine.number engines c.index-engines-number.result c.args.pool.now c.run_engine.new.pool
    (slice_get_read engines (length engines) c.in-Engine.number c.index-engines-number.result refl sound.there c.index-engines-number.is) c.run_engine.ensures.pool c.run_engine.ensures.others c.requires.pool
