use Rattle.std.proofs.Common.{◌+◌, length, take, drop, ◌≡◌, sym, ◌∙◌, arith}
use Rattle.std.proofs.lemmas.List.{drop-drop}
use Rattle.std.proofs.lemmas.Grind.{common_steps}
use Rattle.hs_outside.specs.MemSource.{SourceState}
use Rattle.hs_outside.proofs.Pieces.{after_read-given, later_pieces-drop, later_pieces-last, Reads-copied, given_len-none, given_len-fits}
use Rattle.hs_outside.proofs.mem_source.MemSourceSource.read.Goals as goal

pub returns-then-self-len-clause-after : goal.returns-then-self-len-clause-after
returns-then-self-len-clause-after c =
    let s = c.self.inside in
    let not_listed = sym c.is_listed.ensures ∙ c.if-is_listed.false in
    let moves = later_pieces-drop s.pieces.items s.read (omega arith) in
    rw (← c.self.view_is) (after_read-given s.bytes.items s.taken c.given_len-n.result (length c.args.buf.now) (drop s.read s.pieces.items) (drop (s.read + 1) s.pieces.items) s.plan c.call.new.self not_listed (rw (← c.self.view_is) at c.given_len-n.ensures) moves c.call.ensures)

pub returns-else-self-len-clause-after : goal.returns-else-self-len-clause-after
returns-else-self-len-clause-after c =
    let s = c.self.inside in
    let not_listed = sym c.is_listed.ensures ∙ c.if-is_listed.false in
    let stays = later_pieces-last s.pieces.items s.read (omega arith) in
    rw (← c.self.view_is) (after_read-given s.bytes.items s.taken c.given_len-n.result (length c.args.buf.now) (drop s.read s.pieces.items) (drop s.read s.pieces.items) s.plan c.call.new.self not_listed (rw (← c.self.view_is) at c.given_len-n.ensures) stays c.call.ensures)

pub returns-then-self-len-clause-given : goal.returns-then-self-len-clause-given
returns-then-self-len-clause-given c =
    let s = c.self.inside in
    let n = c.given_len-n.result in
    let gives = rw (← c.self.view_is) at c.given_len-n.ensures in
    let copied : c.copy_from_slice.new.self ≡ take n (drop s.taken s.bytes.items) = grind (arith, common_steps) in
    let here : SourceState = record { left = drop s.taken s.bytes.items; pieces = drop s.read s.pieces.items; plan = s.plan } in
    let fits = given_len-fits here (length c.args.buf.now) in
    rw (← c.self.view_is) (Reads-copied (drop s.taken s.bytes.items) (drop (s.taken + n) s.bytes.items) c.args.buf.now c.copy_from_slice.new.self n copied (sym (drop-drop n s.taken s.bytes.items)) (omega arith) (omega arith) (λ none room. given_len-none here (length c.args.buf.now) (sym gives ∙ none) room))

pub returns-else-self-len-clause-given : goal.returns-else-self-len-clause-given
returns-else-self-len-clause-given c =
    let s = c.self.inside in
    let n = c.given_len-n.result in
    let gives = rw (← c.self.view_is) at c.given_len-n.ensures in
    let copied : c.copy_from_slice.new.self ≡ take n (drop s.taken s.bytes.items) = grind (arith, common_steps) in
    let here : SourceState = record { left = drop s.taken s.bytes.items; pieces = drop s.read s.pieces.items; plan = s.plan } in
    let fits = given_len-fits here (length c.args.buf.now) in
    rw (← c.self.view_is) (Reads-copied (drop s.taken s.bytes.items) (drop (s.taken + n) s.bytes.items) c.args.buf.now c.copy_from_slice.new.self n copied (sym (drop-drop n s.taken s.bytes.items)) (omega arith) (omega arith) (λ none room. given_len-none here (length c.args.buf.now) (sym gives ∙ none) room))
