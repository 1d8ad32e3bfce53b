use Rattle.std.proofs.Common.{◌++◌, ◌∙◌, ap, length, append_assoc}
use Rattle.std.specs.Int.{w32, to_le_bytes}
use Rattle.hs_dbfile.proofs.state.append_region.Goals as goal

pub returns-clause-written : goal.returns-clause-written
returns-clause-written c =
    c.in_ok-append_text.ensures.written
    ∙ ap (λ xs. xs ++ c.args.region.now) (c.in_ok-extend_from_slice.ensures.items ∙ ap (λ xs. c.args.bytes.now.items ++ xs) c.length_bytes.ensures)
    ∙ append_assoc c.args.bytes.now.items (to_le_bytes w32 (length c.args.region.now)) c.args.region.now
