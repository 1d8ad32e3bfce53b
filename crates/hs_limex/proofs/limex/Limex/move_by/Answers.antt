use Rattle.std.proofs.Common.{◌≡◌, ℕ, ◌*◌, ◌<◌, ◌≤◌, length, sym, arith, vec_len}
use Rattle.hs_base.specs.Contexts.{Context, class_of, context_of, prev_at}
use Rattle.hs_base.specs.WrittenOut.{write_out}
use Rattle.hs_base.specs.Bits.{has_bit}
use Rattle.hs_base.proofs.BitLemmas.{zero-bits}
use Rattle.hs_base.proofs.StreamContexts.{same-context}
use Rattle.hs_limex.specs.LimexEngines.{moves_of_limex}
use Rattle.hs_limex.proofs.BodyLemmas.{reach-few}
use Rattle.hs_limex.proofs.PlainLemmas.{field-rests, not-true}
use Rattle.hs_limex.proofs.StepLemmas.{field-step_in}
use Rattle.hs_limex.proofs.limex.Limex.move_by.Goals as goal

pub returns-then-stays_at_rest-clause-well : goal.returns-then-stays_at_rest-clause-well
returns-then-stays_at_rest-clause-well c at k above = zero-bits c.args.region.now (c.stays_at_rest.ensures.zero c.if-stays_at_rest.true) k

pub returns-then-stays_at_rest-clause-takes : goal.returns-then-stays_at_rest-clause-takes
returns-then-stays_at_rest-clause-takes c tree u entered is len prev field =
    let t = moves_of_limex c.args.self.now in
    let b : ℕ = c.args.byte in
    let byte : b < 256 = omega arith in
    field-rests is.automaton (write_out tree) t.first is.runs.tables is.fits.first u entered len c.args.region.now field (zero-bits c.args.region.now (c.stays_at_rest.ensures.zero c.if-stays_at_rest.true)) b byte c.args.entered
    (c.stays_at_rest.ensures.outside c.if-stays_at_rest.true)

pub returns-clause-takes : goal.returns-clause-takes
returns-clause-takes c tree u entered is len prev field =
    let t = moves_of_limex c.args.self.now in
    let here : Context = record { prev = c.args.prev; next = c.class_of-next.result } in
    let b : ℕ = c.args.byte in
    let byte : b < 256 = omega arith in
    let same : context_of u (class_of b) ≡ here = same-context (prev_at u (length u)) c.args.prev (class_of b) c.class_of-next.result (sym prev) (sym c.class_of-next.ensures) in
    let room : vec_len is.automaton.sets ≤ 8 * length c.args.region.now = omega (arith, is.fits.size, c.requires.len) in
    field-step_in t is.automaton is.fits (write_out tree) is.runs.tables u entered len c.args.region.now field b byte c.args.entered here same c.move_over.new.region
    room c.move_over.ensures.sound c.move_over.ensures.whole

pub returns-clause-well : goal.returns-clause-well
returns-clause-well c at k above =
    let t = moves_of_limex c.args.self.now in
    let byte : c.args.byte < 256 = omega arith in
    not-true (has_bit c.move_over.new.region k) (λ set. absurd (omega (arith, reach-few c.args.self.now.body c.args.byte k byte (c.move_over.ensures.sound k set).0)))
