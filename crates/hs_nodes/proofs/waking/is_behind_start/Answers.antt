use Rattle.std.proofs.Common.{◌≡◌, ◌+◌, ◌∙◌, false, suc, true, sym, ap, subst, arith}
use Rattle.std.specs.Prelude.{slice_index, vec_len}
use Rattle.std.proofs.lemmas.Option.{slice_get_read}
use Rattle.hs_nodes.specs.Waking.{HavePlaces, is_never_empty, no_places}
use Rattle.hs_nodes.specs.declared.table.Node.{Node}
use Rattle.hs_nodes.proofs.KindLemmas.{one-value}
use Rattle.hs_nodes.proofs.StartingLemmas.{none-starts, start-behind}
use Rattle.hs_waking.proofs.PrevLemmas.{start-nowhere}
use Rattle.hs_waking.specs.PrevSets.{has_prev}
use Rattle.hs_nodes.proofs.waking.is_behind_start.Goals as goal

pub returns-clause-never : goal.returns-clause-never
returns-clause-never g c node there told =
    subst (λ (n : Node). is_never_empty n.kind ≡ true) (one-value c.node_at.result node _ c.node_at.ensures there) (sym c.never_empty.ensures ∙ told)

pub returns-clause-places : goal.returns-clause-places
returns-clause-places g c bytes told =
    let wakes = c.args.graph.now.wakes in
    let rows = wakes.rows in
    let starts = wakes.row_starts.items in
    let place = c.args.place in
    let prev = c.args.prev in
    let row = c.index-row.result.now in
    let from : c.start_of-from.result ≡ slice_index starts place = c.start_of-from.ensures ∙ ap (λ xs. slice_index xs place) c.deref.ensures.value in
    let to : c.start_of-to.result ≡ slice_index starts (place + 1) = c.start_of-to.ensures ∙ ap (λ xs. slice_index xs (place + 1)) c.deref-2.ensures.value in
    let behind : c.start_of-to.result ≡ c.start_of-from.result + 1 = omega (arith, c.saturating_sub.ensures, c.if-saturating_sub-ne1.false) in
    let apart : has_prev row.behind prev ≡ false = sym c.contains.ensures ∙ c.if-contains.false in
    subst (λ n. HavePlaces rows.items wakes.sets.items n (slice_index starts (suc place)) prev bytes no_places) from
    (none-starts rows.items wakes.sets.items prev bytes c.start_of-from.result (slice_index starts (suc place)) row (sym (to ∙ start-behind starts place) ∙ behind)
    (slice_get_read rows.items (vec_len rows) c.start_of-from.result row rows.ok.0 (omega (arith, behind, to, c.requires.known, rows.ok.0)) c.index-row.ensures)
    (λ own numbered. start-nowhere row.behind own prev bytes (c.is_start.ensures c.if-not-is_start.false) apart))
