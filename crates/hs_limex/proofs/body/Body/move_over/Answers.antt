use Rattle.std.proofs.Common.{◌≡◌, ℕ, ◌*◌, ◌<◌, true, length, sym, subst}
use Rattle.hs_base.specs.Bits.{has_bit}
use Rattle.hs_engine.specs.Between.{between}
use Rattle.hs_limex.specs.BodyMoves.{moves_of_body}
use Rattle.hs_limex.specs.Fitting.{IsLed}
use Rattle.hs_limex.specs.TableMoves.{moves_of_tables}
use Rattle.hs_limex.specs.declared.body.Body.{Body}
use Rattle.hs_limex.specs.declared.tables.Tables.{Tables}
use Rattle.hs_limex.proofs.body.Body.move_over.Goals as goal

pub returns-in-Small-clause-sound : goal.returns-in-Small-clause-sound
returns-in-Small-clause-sound c =
    let here = between c.args.prev c.args.next in
    subst
    (λ (b : Body). (k : ℕ) → has_bit c.move_over.new.region k ≡ true →
    ((moves_of_body b).reach c.args.byte k ≡ true) × IsLed (moves_of_body b) (has_bit c.args.region.now) here c.args.entering k)
    (sym c.in-Small.is) (λ k. c.move_over.ensures.sound here k)

pub returns-in-Small-clause-whole : goal.returns-in-Small-clause-whole
returns-in-Small-clause-whole c =
    let here = between c.args.prev c.args.next in
    subst
    (λ (b : Body). (k : ℕ) → k < 8 * length c.args.region.now → (moves_of_body b).reach c.args.byte k ≡ true →
    IsLed (moves_of_body b) (has_bit c.args.region.now) here c.args.entering k → has_bit c.move_over.new.region k ≡ true)
    (sym c.in-Small.is) (λ k. c.move_over.ensures.whole here k)

pub returns-in-Wide-clause-sound : goal.returns-in-Wide-clause-sound
returns-in-Wide-clause-sound c =
    let here = between c.args.prev c.args.next in
    let new = c.move_over-in-Wide.new.region in
    subst
    (λ (b : Body). (k : ℕ) → has_bit new k ≡ true → ((moves_of_body b).reach c.args.byte k ≡ true) × IsLed (moves_of_body b) (has_bit c.args.region.now) here c.args.entering k)
    (sym c.in-Wide.is)
    (subst
    (λ (t : Tables). (k : ℕ) → has_bit new k ≡ true → ((moves_of_tables t).reach c.args.byte k ≡ true) × IsLed (moves_of_tables t) (has_bit c.args.region.now) here c.args.entering k)
    c.deref.ensures c.move_over-in-Wide.ensures.sound)

pub returns-in-Wide-clause-whole : goal.returns-in-Wide-clause-whole
returns-in-Wide-clause-whole c =
    let here = between c.args.prev c.args.next in
    let new = c.move_over-in-Wide.new.region in
    let old = c.args.region.now in
    subst
    (λ (b : Body). (k : ℕ) → k < 8 * length old → (moves_of_body b).reach c.args.byte k ≡ true → IsLed (moves_of_body b) (has_bit old) here c.args.entering k → has_bit new k ≡ true)
    (sym c.in-Wide.is)
    (subst
    (λ (t : Tables). (k : ℕ) → k < 8 * length old → (moves_of_tables t).reach c.args.byte k ≡ true → IsLed (moves_of_tables t) (has_bit old) here c.args.entering k → has_bit new k ≡ true)
    c.deref.ensures c.move_over-in-Wide.ensures.whole)
