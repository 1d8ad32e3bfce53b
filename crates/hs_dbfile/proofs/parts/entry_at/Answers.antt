use Rattle.hs_dbfile.proofs.CodeLemmas.{when_err}
use Rattle.hs_dbfile.proofs.EntryLemmas.{as_entry, at_id, behind_id, at_flags, behind_flags, at_bits, behind_bits, at_least, behind_least, at_greatest, behind_greatest, entry_read}
use Rattle.hs_dbfile.proofs.parts.entry_at.Goals as goal

pub returns-in_err-id : goal.returns-in_err-id
returns-in_err-id c = when_err c.from_residual.result c.in_err-id.field-0.0 _ _ c.from_residual.ensures.1 (as_entry (at_id c.in_err-id.ensures))

pub returns-in_err-flags : goal.returns-in_err-flags
returns-in_err-flags c =
    when_err c.from_residual-in_err-flags.result c.in_err-flags.field-0.0 _ _ c.from_residual-in_err-flags.ensures.1 (as_entry (behind_id c.in_ok-id.ensures (at_flags c.in_err-flags.ensures)))

pub returns-in_err-bits : goal.returns-in_err-bits
returns-in_err-bits c =
    when_err c.from_residual-in_err-bits.result c.in_err-bits.field-0.0 _ _ c.from_residual-in_err-bits.ensures.1 (as_entry (behind_id c.in_ok-id.ensures (behind_flags c.in_ok-flags.ensures (at_bits c.in_err-bits.ensures))))

pub returns-in_err-min_offset : goal.returns-in_err-min_offset
returns-in_err-min_offset c =
    when_err c.from_residual-in_err-min_offset.result c.in_err-min_offset.field-0.0 _ _ c.from_residual-in_err-min_offset.ensures.1 (as_entry (behind_id c.in_ok-id.ensures (behind_flags c.in_ok-flags.ensures (behind_bits c.in_ok-bits.ensures (at_least c.in_ok-bits.bits c.in_err-min_offset.ensures)))))

pub returns-in_err-max_offset : goal.returns-in_err-max_offset
returns-in_err-max_offset c =
    when_err c.from_residual-in_err-max_offset.result c.in_err-max_offset.field-0.0 _ _ c.from_residual-in_err-max_offset.ensures.1 (as_entry (behind_id c.in_ok-id.ensures (behind_flags c.in_ok-flags.ensures (behind_bits c.in_ok-bits.ensures (behind_least c.in_ok-bits.bits c.in_ok-min_offset.ensures (at_greatest c.in_ok-bits.bits c.in_err-max_offset.ensures))))))

pub returns-in_err-text : goal.returns-in_err-text
returns-in_err-text c =
    when_err c.from_residual-in_err-text.result c.in_err-text.field-0.0 _ _ c.from_residual-in_err-text.ensures.1 (as_entry (behind_id c.in_ok-id.ensures (behind_flags c.in_ok-flags.ensures (behind_bits c.in_ok-bits.ensures (behind_least c.in_ok-bits.bits c.in_ok-min_offset.ensures (behind_greatest c.in_ok-bits.bits c.in_ok-max_offset.ensures c.in_err-text.ensures))))))

pub returns : goal.returns
returns c =
    entry_read c.in_ok-id.ensures c.in_ok-flags.ensures c.in_ok-bits.ensures c.in_ok-min_offset.ensures c.in_ok-max_offset.ensures c.in_ok-text.ensures
