use Rattle.std.proofs.lemmas.Option.{slice_get-get_or, slice_get_within}
use Rattle.hs_nodes.specs.Blocks.{block, front}
use Rattle.hs_nodes.proofs.FirstLemmas.{empty-asked, empty-unasked, mask-empty}
use Rattle.hs_nodes.proofs.nulls.mask_words.Goals as goal

pub bounds-contexts-number : goal.bounds-contexts-number
bounds-contexts-number c = let own = c.requires.contexts.each c.args.number c.requires.there in slice_get_within c.args.contexts.now c.args.number own.0 own.1

pub bounds-contexts-number-2 : goal.bounds-contexts-number-2
bounds-contexts-number-2 c = let own = c.requires.contexts.each c.args.number c.requires.there in slice_get_within c.args.contexts.now c.args.number own.0 own.1

pub returns-then-asked_behind-eq0 : goal.returns-then-asked_behind-eq0
returns-then-asked_behind-eq0 c tree u null stands =
    empty-unasked tree (front u c.args.chunk.now.bytes.now c.args.number) (block c.args.chunk.now.bytes.now c.args.number) c.args.asked c.args.asked_behind 0 0 c.if-asked-eq0.true c.if-asked_behind-eq0.true

pub returns : goal.returns
returns c tree u null stands =
    let own = c.requires.contexts.each c.args.number c.requires.there in
    let within = slice_get_within c.args.contexts.now c.args.number own.0 own.1 in
    empty-asked c.args.asked c.args.asked_behind
    (mask-empty tree c.args.mask c.args.chunk.now.prev c.args.chunk.now.at u c.args.chunk.now.bytes.now c.args.contexts.now _ c.args.number c.before-2.result c.behind.result c.requires.there null stands c.requires.contexts (slice_get-get_or c.args.contexts.now c.args.number _ within) c.before-2.ensures c.behind.ensures)
