use Rattle.std.proofs.Common.{◌≡◌, ◌<◌, ℕ, ◌∙◌, length, get_or, sym, ap, subst, arith}
use Rattle.std.proofs.lemmas.List.{take_all}
use Rattle.hs_confirm.specs.declared.entry.Entry.{Entry}
use Rattle.hs_confirm.specs.Keys.{key_row}
use Rattle.hs_confirm.specs.Entries.{rows_of_entries}
use Rattle.hs_confirm.proofs.FilingLemmas.{push-more, rows-within}
use Rattle.hs_confirm.proofs.filing.rows_of.Goals as goal

pub loop-entry-preserved : goal.loop-entry-preserved
loop-entry-preserved c =
    let f : Entry → ℕ = λ e. key_row c.args.count e.bucket e.key in
    c.in_ok-push.ensures.items
    ∙ push-more f c.loop-entry.rows.items c.key_row.result c.args.entries.now c.loop-entry.entry-index c.entry-item.result (omega arith) c.entry-item.is c.loop-entry.invariant c.key_row.ensures.row

pub returns-clause-within : goal.returns-clause-within
returns-clause-within c =
    let all = take_all c.loop-entry.entry-index c.args.entries.now c.loop-entry-test.false in
    let rows : c.loop-entry.rows.items ≡ rows_of_entries c.args.count c.args.entries.now = c.loop-entry.invariant ∙ ap (rows_of_entries c.args.count) all in
    subst (λ xs. (k : ℕ) → k < length xs → get_or xs k 0 < c.args.count) (sym rows) (λ k below. rows-within c.args.count c.args.entries.now k c.requires.some below)
