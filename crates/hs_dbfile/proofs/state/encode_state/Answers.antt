use Rattle.std.proofs.Common.{◌++◌, ◌∙◌, ap}
use Rattle.std.specs.Int.{w16, to_le_bytes}
use Rattle.hs_dbfile.proofs.StateLemmas.{name_bytes, state_written}
use Rattle.hs_dbfile.proofs.state.encode_state.Goals as goal

pub returns : goal.returns
returns c =
    state_written
    c.args.digest
    c.args.region.now
    c.extend_from_slice.new.self.items
    c.append_digest.new.bytes.items
    c.append_region.new.bytes.items
    (c.in_ok-extend_from_slice.ensures.items ∙ ap (λ xs. xs ++ (name_bytes ++ to_le_bytes w16 2)) c.new-bytes.ensures.items)
    c.in_ok-append_digest.ensures.written
    c.in_ok-append_region.ensures.written
    c.append_digest.ensures.sized
    c.append_digest.ensures.fits
    c.requires
    c.append_region.ensures.widths
