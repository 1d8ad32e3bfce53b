use Rattle.std.proofs.Common.{slice_get, map, ◌∙◌, ap, sym}
use Rattle.std.proofs.lemmas.Grind.{merely}
use Rattle.hs_base.specs.Contexts.{class_of}
use Rattle.hs_engine.specs.Automata.{in_mask, in_set}
use Rattle.hs_engine.specs.Between.{between}
use Rattle.hs_limex.specs.LimexEngines.{moves_of_limex}
use Rattle.hs_rose.proofs.MovesRowLemmas.{rows-from}
use Rattle.hs_rose.proofs.StreamingLemmas.{told-moves, told-some}
use Rattle.hs_waking.specs.Rows.{row_sets}
use Rattle.hs_rose.proofs.positions.PositionEngine.build.Goals as goal

pub invariant_of-result-clause-size_is : goal.invariant_of-result-clause-size_is
invariant_of-result-clause-size_is c s is =
    let a = c.args.automaton.now in
    let limex = c.in_ok-limex.limex in
    (told-moves s (moves_of_limex limex) a c.in_ok-limex.ensures.fits (told-some c.in_ok-streams.streams s a c.in_ok-streams.ensures is)).size_is

pub invariant_of-result-clause-takes_are : goal.invariant_of-result-clause-takes_are
invariant_of-result-clause-takes_are c s is =
    let a = c.args.automaton.now in
    let limex = c.in_ok-limex.limex in
    (told-moves s (moves_of_limex limex) a c.in_ok-limex.ensures.fits (told-some c.in_ok-streams.streams s a c.in_ok-streams.ensures is)).takes_are

pub invariant_of-result-clause-enters_are : goal.invariant_of-result-clause-enters_are
invariant_of-result-clause-enters_are c s is =
    let a = c.args.automaton.now in
    let limex = c.in_ok-limex.limex in
    (told-moves s (moves_of_limex limex) a c.in_ok-limex.ensures.fits (told-some c.in_ok-streams.streams s a c.in_ok-streams.ensures is)).enters_are

pub invariant_of-result-clause-accepts_are : goal.invariant_of-result-clause-accepts_are
invariant_of-result-clause-accepts_are c s is =
    let a = c.args.automaton.now in
    let limex = c.in_ok-limex.limex in
    (told-moves s (moves_of_limex limex) a c.in_ok-limex.ensures.fits (told-some c.in_ok-streams.streams s a c.in_ok-streams.ensures is)).accepts_are

pub invariant_of-result-clause-follows_are : goal.invariant_of-result-clause-follows_are
invariant_of-result-clause-follows_are c s is =
    let a = c.args.automaton.now in
    let limex = c.in_ok-limex.limex in
    (told-moves s (moves_of_limex limex) a c.in_ok-limex.ensures.fits (told-some c.in_ok-streams.streams s a c.in_ok-streams.ensures is)).follows_are

pub invariant_of-result-clause-behind_has : goal.invariant_of-result-clause-behind_has
invariant_of-result-clause-behind_has c x b prev small enter member =
    let fits = c.in_ok-limex.ensures.fits in
    c.behind_of-behind.ensures x b prev small (sym (fits.enters (between prev (class_of b)) x) ∙ enter) (sym (fits.reach b x small) ∙ member)

pub invariant_of-result-clause-rows_are : goal.invariant_of-result-clause-rows_are
invariant_of-result-clause-rows_are c =
    merely (rows-from (moves_of_limex c.in_ok-limex.limex) c.args.automaton.now c.in_ok-limex.ensures.fits (map row_sets c.in_ok-rows.rows.items) c.in_ok-rows.ensures.rows)

pub invariant_of-result-clause-last_has : goal.invariant_of-result-clause-last_has
invariant_of-result-clause-last_has c x b h small accept member =
    let fits = c.in_ok-limex.ensures.fits in
    c.first_bytes-last.ensures x b h small
    (ap (λ items. in_mask (slice_get items x) h) c.accepts.ensures ∙ (sym (fits.accepts h x) ∙ accept))
    (ap (λ items. in_set (slice_get items x) b) c.sets.ensures ∙ (sym (fits.reach b x small) ∙ member))

pub invariant_of-result-clause-living_has : goal.invariant_of-result-clause-living_has
invariant_of-result-clause-living_has c x b small member =
    let fits = c.in_ok-limex.ensures.fits in
    c.bytes_of_any-living.ensures x b small
    (ap (λ items. in_set (slice_get items x) b) c.sets-2.ensures ∙ (sym (fits.reach b x small) ∙ member))
