use Rattle.std.proofs.Common.{length, refl, sym, subst}
use Rattle.std.proofs.lemmas.Option.{slice_get-get_or, slice_get_read}
use Rattle.hs_nodes.specs.declared.table.NodeKind.{NodeKind}
use Rattle.hs_nodes.specs.Nodes.{IsKindSound, IsWellPart}
use Rattle.hs_nodes.specs.Leaving.{LeavesPiece}
use Rattle.hs_nodes.proofs.LeavingLemmas.{engine-piece, first-piece, literal-piece, look_back-piece}
use Rattle.hs_nodes.proofs.leaving.leaves_kind.Goals as goal

pub bounds-engines-number : goal.bounds-engines-number
bounds-engines-number g c = (subst (λ (k : NodeKind). IsKindSound g.E.Engine.meaning c.args.engines.now (length c.args.stop.now.hits.now) k (length c.args.part.now)) c.in-Engine.is c.requires.sound).there

pub leaves_engine-requires-clause-len : goal.leaves_engine-requires-clause-len
leaves_engine-requires-clause-len g c =
    let engines = c.args.engines.now in
    let sound = subst (λ (k : NodeKind). IsKindSound g.E.Engine.meaning engines (length c.args.stop.now.hits.now) k (length c.args.part.now)) c.in-Engine.is c.requires.sound in
    sym (sound.each c.index-engines-number.result (slice_get_read engines (length engines) c.in-Engine.number c.index-engines-number.result refl sound.there c.index-engines-number.is)).0

pub leaves_engine-requires-clause-well : goal.leaves_engine-requires-clause-well
leaves_engine-requires-clause-well g c =
    let engines = c.args.engines.now in
    let sound = subst (λ (k : NodeKind). IsKindSound g.E.Engine.meaning engines (length c.args.stop.now.hits.now) k (length c.args.part.now)) c.in-Engine.is c.requires.sound in
    subst (λ (k : NodeKind). IsWellPart g.E.Engine.meaning engines k c.args.part.now c.args.stop.now.at) c.in-Engine.is c.requires.well c.index-engines-number.result
    (slice_get_read engines (length engines) c.in-Engine.number c.index-engines-number.result refl sound.there c.index-engines-number.is)

pub bounds-stop-number : goal.bounds-stop-number
bounds-stop-number g c = (subst (λ (k : NodeKind). IsKindSound g.E.Engine.meaning c.args.engines.now (length c.args.stop.now.hits.now) k (length c.args.part.now)) c.in-Literal.is c.requires.sound).0

pub leaves_literal-requires-clause-some : goal.leaves_literal-requires-clause-some
leaves_literal-requires-clause-some g c = (subst (λ (k : NodeKind). IsKindSound g.E.Engine.meaning c.args.engines.now (length c.args.stop.now.hits.now) k (length c.args.part.now)) c.in-Literal.is c.requires.sound).1

pub leaves_literal-requires-clause-short : goal.leaves_literal-requires-clause-short
leaves_literal-requires-clause-short g c = (subst (λ (k : NodeKind). IsKindSound g.E.Engine.meaning c.args.engines.now (length c.args.stop.now.hits.now) k (length c.args.part.now)) c.in-Literal.is c.requires.sound).2

pub leaves_literal-requires-clause-size : goal.leaves_literal-requires-clause-size
leaves_literal-requires-clause-size g c = (subst (λ (k : NodeKind). IsKindSound g.E.Engine.meaning c.args.engines.now (length c.args.stop.now.hits.now) k (length c.args.part.now)) c.in-Literal.is c.requires.sound).3

pub bounds-stop-number-in-FirstLiteral : goal.bounds-stop-number-in-FirstLiteral
bounds-stop-number-in-FirstLiteral g c = (subst (λ (k : NodeKind). IsKindSound g.E.Engine.meaning c.args.engines.now (length c.args.stop.now.hits.now) k (length c.args.part.now)) c.in-FirstLiteral.is c.requires.sound).0

pub returns-in-Engine-clause-left : goal.returns-in-Engine-clause-left
returns-in-Engine-clause-left g c =
    let m = g.E.Engine.meaning in
    let engines = c.args.engines.now in
    let stop = c.args.stop.now in
    let sound = subst (λ (k : NodeKind). IsKindSound m engines (length stop.hits.now) k (length c.args.part.now)) c.in-Engine.is c.requires.sound in
    subst (λ (k : NodeKind). LeavesPiece m engines k c.args.part.now stop.prev stop.at stop.past.now stop.next stop.hits.now c.args.entered c.leaves_engine.result) (sym c.in-Engine.is)
    (engine-piece m engines c.args.part.now stop.prev stop.at stop.past.now stop.next stop.hits.now c.args.entered c.leaves_engine.result c.in-Engine.number c.in-Engine.null c.index-engines-number.result
    (slice_get_read engines (length engines) c.in-Engine.number c.index-engines-number.result refl sound.there c.index-engines-number.is) c.leaves_engine.ensures)

pub returns-in-Literal-clause-left : goal.returns-in-Literal-clause-left
returns-in-Literal-clause-left g c =
    let m = g.E.Engine.meaning in
    let engines = c.args.engines.now in
    let stop = c.args.stop.now in
    let sound = subst (λ (k : NodeKind). IsKindSound m engines (length stop.hits.now) k (length c.args.part.now)) c.in-Literal.is c.requires.sound in
    subst (λ (k : NodeKind). LeavesPiece m engines k c.args.part.now stop.prev stop.at stop.past.now stop.next stop.hits.now c.args.entered c.leaves_literal.result) (sym c.in-Literal.is)
    (literal-piece m engines c.args.part.now stop.prev stop.at stop.past.now stop.next stop.hits.now c.args.entered c.leaves_literal.result c.in-Literal.number c.in-Literal.len _ (slice_get-get_or stop.hits.now c.in-Literal.number _ sound.0) c.leaves_literal.ensures)

pub returns-in-FirstLiteral-clause-left : goal.returns-in-FirstLiteral-clause-left
returns-in-FirstLiteral-clause-left g c =
    let m = g.E.Engine.meaning in
    let engines = c.args.engines.now in
    let stop = c.args.stop.now in
    let sound = subst (λ (k : NodeKind). IsKindSound m engines (length stop.hits.now) k (length c.args.part.now)) c.in-FirstLiteral.is c.requires.sound in
    subst (λ (k : NodeKind). LeavesPiece m engines k c.args.part.now stop.prev stop.at stop.past.now stop.next stop.hits.now c.args.entered c.leaves_first.result) (sym c.in-FirstLiteral.is)
    (first-piece m engines c.args.part.now stop.prev stop.at stop.past.now stop.next stop.hits.now c.args.entered c.leaves_first.result c.in-FirstLiteral.number c.in-FirstLiteral.len _ (slice_get-get_or stop.hits.now c.in-FirstLiteral.number _ sound.0) c.leaves_first.ensures)

pub bounds-engines-pair : goal.bounds-engines-pair
bounds-engines-pair g c = (subst (λ (k : NodeKind). IsKindSound g.E.Engine.meaning c.args.engines.now (length c.args.stop.now.hits.now) k (length c.args.part.now)) c.in-LookBack.is c.requires.sound).0.there

pub bounds-stop-pair : goal.bounds-stop-pair
bounds-stop-pair g c = (subst (λ (k : NodeKind). IsKindSound g.E.Engine.meaning c.args.engines.now (length c.args.stop.now.hits.now) k (length c.args.part.now)) c.in-LookBack.is c.requires.sound).1

pub leaves_look_back-requires-clause-room : goal.leaves_look_back-requires-clause-room
leaves_look_back-requires-clause-room g c =
    let engines = c.args.engines.now in
    let sound = subst (λ (k : NodeKind). IsKindSound g.E.Engine.meaning c.args.engines.now (length c.args.stop.now.hits.now) k (length c.args.part.now)) c.in-LookBack.is c.requires.sound in
    (sound.0.each c.index-engines-pair.result (slice_get_read engines (length engines) c.in-LookBack.pair.engine c.index-engines-pair.result refl sound.0.there c.index-engines-pair.is)).0

pub leaves_look_back-requires-clause-listed : goal.leaves_look_back-requires-clause-listed
leaves_look_back-requires-clause-listed g c =
    let engines = c.args.engines.now in
    let sound = subst (λ (k : NodeKind). IsKindSound g.E.Engine.meaning c.args.engines.now (length c.args.stop.now.hits.now) k (length c.args.part.now)) c.in-LookBack.is c.requires.sound in
    (sound.0.each c.index-engines-pair.result (slice_get_read engines (length engines) c.in-LookBack.pair.engine c.index-engines-pair.result refl sound.0.there c.index-engines-pair.is)).1

pub leaves_look_back-requires-clause-edges : goal.leaves_look_back-requires-clause-edges
leaves_look_back-requires-clause-edges g c =
    let engines = c.args.engines.now in
    let sound = subst (λ (k : NodeKind). IsKindSound g.E.Engine.meaning c.args.engines.now (length c.args.stop.now.hits.now) k (length c.args.part.now)) c.in-LookBack.is c.requires.sound in
    sound.0.edges c.index-engines-pair.result (slice_get_read engines (length engines) c.in-LookBack.pair.engine c.index-engines-pair.result refl sound.0.there c.index-engines-pair.is)

pub leaves_look_back-requires-clause-some : goal.leaves_look_back-requires-clause-some
leaves_look_back-requires-clause-some g c = (subst (λ (k : NodeKind). IsKindSound g.E.Engine.meaning c.args.engines.now (length c.args.stop.now.hits.now) k (length c.args.part.now)) c.in-LookBack.is c.requires.sound).2

pub leaves_look_back-requires-clause-short : goal.leaves_look_back-requires-clause-short
leaves_look_back-requires-clause-short g c = (subst (λ (k : NodeKind). IsKindSound g.E.Engine.meaning c.args.engines.now (length c.args.stop.now.hits.now) k (length c.args.part.now)) c.in-LookBack.is c.requires.sound).3

pub returns-in-LookBack-clause-left : goal.returns-in-LookBack-clause-left
returns-in-LookBack-clause-left g c =
    let m = g.E.Engine.meaning in
    let engines = c.args.engines.now in
    let stop = c.args.stop.now in
    let sound = subst (λ (k : NodeKind). IsKindSound g.E.Engine.meaning c.args.engines.now (length c.args.stop.now.hits.now) k (length c.args.part.now)) c.in-LookBack.is c.requires.sound in
    subst (λ (k : NodeKind). LeavesPiece m engines k c.args.part.now stop.prev stop.at stop.past.now stop.next stop.hits.now c.args.entered c.leaves_look_back.result) (sym c.in-LookBack.is)
    (look_back-piece m engines c.args.part.now stop.prev stop.at stop.past.now stop.next stop.hits.now c.args.entered c.leaves_look_back.result c.in-LookBack.pair c.index-engines-pair.result _
    (slice_get_read engines (length engines) c.in-LookBack.pair.engine c.index-engines-pair.result refl sound.0.there c.index-engines-pair.is) (slice_get-get_or stop.hits.now c.in-LookBack.pair.literal _ sound.1) c.leaves_look_back.ensures.tells)
