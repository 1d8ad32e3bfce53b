use Rattle.std.proofs.Common.{◌<◌, ◌∙◌, sym, ap, length, vec_len, arith, rules}
use Rattle.std.proofs.lemmas.List.{length-map}
use Rattle.hs_confirm.specs.Keys.{key_row}
use Rattle.hs_confirm.specs.Entries.{rows_of_entries}
use Rattle.hs_confirm.proofs.ChainLemmas.{next_least}
use Rattle.hs_confirm.proofs.EndLemmas.{ends_from-told, ends_from-untold, ends_from-end}
use Rattle.hs_confirm.proofs.ends.EndsIterator.next.Goals as goal

pub returns-then-ends-clause-steps : goal.returns-then-ends-clause-steps
returns-then-ends-clause-steps c =
    let ends = c.loop-self.self in
    let confirm = ends.confirm.now in
    let rows = rows_of_entries (vec_len confirm.chains.heads) confirm.entries.items in
    let within : ends.next < length confirm.entries.items = omega (arith, c.loop-self-test.true, c.len.ensures, confirm.entries.ok.0) in
    let standing : ends.next < length rows = omega (arith, within, length-map confirm.entries.items (λ e. key_row (vec_len confirm.chains.heads) e.bucket e.key)) in
    let least = next_least rows confirm.chains.heads.items confirm.chains.nexts.items ends.next (key_row (vec_len confirm.chains.heads) ends.bucket ends.key) c.after-self.result confirm.chained standing (ends.stands (omega (arith, c.loop-self-test.true, c.len.ensures))) c.after-self.ensures in
    sym c.loop-self.invariant
    ∙ ends_from-told confirm.widths confirm.entries.items (vec_len confirm.chains.heads) ends.bucket ends.key _ _ ends.next c.after-self.result confirm.keyed ends.keyed least within (sym c.ends_there-ends.ensures ∙ c.if-ends.true)

pub returns-then-ends-clause-goes : goal.returns-then-ends-clause-goes
returns-then-ends-clause-goes c =
    let e = returns-then-ends-clause-steps c in
    let fewer = ap length e in
    search rules

pub loop-self-preserved : goal.loop-self-preserved
loop-self-preserved c =
    let ends = c.loop-self.self in
    let confirm = ends.confirm.now in
    let rows = rows_of_entries (vec_len confirm.chains.heads) confirm.entries.items in
    let within : ends.next < length confirm.entries.items = omega (arith, c.loop-self-test.true, c.len.ensures, confirm.entries.ok.0) in
    let standing : ends.next < length rows = omega (arith, within, length-map confirm.entries.items (λ e. key_row (vec_len confirm.chains.heads) e.bucket e.key)) in
    let least = next_least rows confirm.chains.heads.items confirm.chains.nexts.items ends.next (key_row (vec_len confirm.chains.heads) ends.bucket ends.key) c.after-self.result confirm.chained standing (ends.stands (omega (arith, c.loop-self-test.true, c.len.ensures))) c.after-self.ensures in
    sym (ends_from-untold confirm.widths confirm.entries.items (vec_len confirm.chains.heads) ends.bucket ends.key _ _ ends.next c.after-self.result confirm.keyed ends.keyed least (sym c.ends_there-ends.ensures ∙ c.if-ends.false))
    ∙ c.loop-self.invariant

pub returns-clause-steps : goal.returns-clause-steps
returns-clause-steps c =
    let over = ends_from-end c.loop-self.self.confirm.now.entries.items c.loop-self.self.bucket _ _ c.loop-self.self.next (omega (arith, c.loop-self-test.false, c.len.ensures, c.loop-self.self.confirm.now.entries.ok.0)) in
    (sym c.loop-self.invariant ∙ over, over)
