use Rattle.std.proofs.Common.{◌∙◌, sym, subst}
use Rattle.hs_dbfile.specs.States.{IsState, IsStateFaultOf, state_bytes, state_of}
use Rattle.hs_dbfile.proofs.CodeLemmas.{match_weaken}
use Rattle.hs_dbfile.proofs.FileLemmas.{is_nothing, is_something}
use Rattle.hs_dbfile.proofs.PlaceLemmas.{place_stop, place_extra}
use Rattle.hs_dbfile.proofs.StateLemmas.{state_once, state_end, state_of_digest, state_differs}
use Rattle.hs_dbfile.proofs.state.read_state.Goals as goal

pub returns-in-Err : goal.returns-in-Err
returns-in-Err c =
    subst (IsStateFaultOf c.args.bytes.now c.args.digest) (sym c.form.ensures) (place_stop state_bytes IsState c.args.bytes.now c.in-Err.stop.rest.now c.in-Err.ensures)

pub returns-then-is_empty : goal.returns-then-is_empty
returns-then-is_empty c =
    let form = state_end c.in-Ok.ensures (is_nothing c.in-Ok.read.1.now (sym c.is_empty.ensures ∙ c.if-is_empty.true)) in
    match_weaken
    c.region_of.result
    _
    _
    _
    _
    (λ region p. state_of_digest (state_of c.in-Ok.read.0) form p)
    (λ fault q. state_differs c.args.bytes.now c.args.digest (state_of c.in-Ok.read.0) fault form q)
    c.region_of.ensures

pub returns-else-is_empty : goal.returns-else-is_empty
returns-else-is_empty c =
    subst
    (IsStateFaultOf c.args.bytes.now c.args.digest)
    (sym c.form-else-is_empty.ensures)
    (place_extra state_bytes IsState c.args.bytes.now c.in-Ok.read.1.now (state_of c.in-Ok.read.0) state_once c.in-Ok.ensures (is_something c.in-Ok.read.1.now (sym c.is_empty.ensures ∙ c.if-is_empty.false)))
