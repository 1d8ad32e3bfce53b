use Rattle.hs_dbfile.proofs.CodeLemmas.{when_err}
use Rattle.hs_dbfile.proofs.StateLemmas.{as_state, at_name, behind_name, at_version, behind_version, at_digest, behind_digest, state_read}
use Rattle.hs_dbfile.proofs.state.state_at.Goals as goal

pub returns-in_err-rest : goal.returns-in_err-rest
returns-in_err-rest c = when_err c.from_residual.result c.in_err-rest.field-0.0 _ _ c.from_residual.ensures.1 (as_state (at_name c.in_err-rest.ensures))

pub returns-in_err-version : goal.returns-in_err-version
returns-in_err-version c =
    when_err c.from_residual-in_err-version.result c.in_err-version.field-0.0 _ _ c.from_residual-in_err-version.ensures.1 (as_state (behind_name c.in_ok-rest.ensures (at_version c.in_err-version.ensures)))

pub returns-in_err-digest : goal.returns-in_err-digest
returns-in_err-digest c =
    when_err c.from_residual-in_err-digest.result c.in_err-digest.field-0.0 _ _ c.from_residual-in_err-digest.ensures.1 (as_state (behind_name c.in_ok-rest.ensures (behind_version c.in_ok-version.ensures (at_digest c.in_err-digest.ensures))))

pub returns-in_err-region : goal.returns-in_err-region
returns-in_err-region c =
    when_err c.from_residual-in_err-region.result c.in_err-region.field-0.0 _ _ c.from_residual-in_err-region.ensures.1 (as_state (behind_name c.in_ok-rest.ensures (behind_version c.in_ok-version.ensures (behind_digest c.in_ok-digest.ensures c.in_err-region.ensures))))

pub returns : goal.returns
returns c = state_read c.in_ok-rest.ensures c.in_ok-version.ensures c.in_ok-digest.ensures c.in_ok-region.ensures
