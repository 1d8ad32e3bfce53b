use Rattle.std.proofs.Common.{length, refl, arith}
use Rattle.std.proofs.lemmas.Option.{slice_get_read}
use Rattle.hs_block.proofs.StreamSettleLemmas.{end-before, end-behind}
use Rattle.hs_block.proofs.streams.Streams.ends_of.Goals as goal

pub returns-clause-before : goal.returns-clause-before
returns-clause-before g c i small =
    let s = c.args.self.now in
    let x = c.args.position in
    end-before s c.args.entry.now.prev c.args.entry.now.state c.args.whole.now c.args.words.now x c.index-accepts.result.now c.contains_word_bit.result c.one_later-before.result c.places_before.result
    (slice_get_read s.accepts.items (length s.accepts.items) x c.index-accepts.result.now refl (omega (arith, c.requires.position, s.accepted_all, s.accepts.ok.0)) c.index-accepts.ensures)
    c.contains_word_bit.ensures c.one_later-before.ensures c.places_before.ensures i small

pub returns-clause-behind : goal.returns-clause-behind
returns-clause-behind g c i small =
    let s = c.args.self.now in
    let x = c.args.position in
    end-behind s c.args.entry.now.prev c.args.whole.now c.args.words.now x c.index-accepts.result.now c.places_behind.result
    (slice_get_read s.accepts.items (length s.accepts.items) x c.index-accepts.result.now refl (omega (arith, c.requires.position, s.accepted_all, s.accepts.ok.0)) c.index-accepts.ensures)
    c.places_behind.ensures i small
