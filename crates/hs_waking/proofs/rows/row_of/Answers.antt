use Rattle.std.proofs.Common.{◌≡◌, Vec, Global, true, slice_get, sym, subst}
use Rattle.std.proofs.lemmas.Result.{IfOk-weaker}
use Rattle.hs_base.specs.declared.byte_set.ByteSet.{ByteSet}
use Rattle.hs_engine.specs.Automata.{in_mask}
use Rattle.hs_waking.specs.Rows.{IsRowFromEach, IsRowOf}
use Rattle.hs_waking.proofs.RowLemmas.{row-of-each}
use Rattle.hs_waking.proofs.rows.row_of.Goals as goal

pub returns-clause-row : goal.returns-clause-row
returns-clause-row c =
    let a = c.args.automaton.now in
    let first = c.first_level.result in
    IfOk-weaker c.row_from.result (λ (row : Vec ByteSet Global). IsRowFromEach a first row.items) (λ (row : Vec ByteSet Global). IsRowOf a row.items)
    (λ row is.
    row-of-each a first row.items
    (λ x h enter. c.first_level.ensures x h (subst (λ masks. in_mask (slice_get masks x) h ≡ true) (sym c.enters.ensures) enter)) is) c.row_from.ensures.row
