use Rattle.std.proofs.Common.{◌≡◌, vec_len, get_or, ◌∙◌, refl, sym, ap, subst, arith}
use Rattle.hs_confirm.specs.BucketEnds.{AreBucketEnds}
use Rattle.hs_confirm.specs.Filed.{literals_of, buckets_of}
use Rattle.hs_confirm.specs.Keys.{key_at, key_row}
use Rattle.hs_confirm.specs.Entries.{rows_of_entries}
use Rattle.hs_confirm.proofs.ChainLemmas.{first_least}
use Rattle.hs_confirm.proofs.EndLemmas.{ends_from-end, ends_from-exact, ends_from-skip}
use Rattle.hs_confirm.proofs.confirm.Confirm.may_end.Goals as goal

pub returns-clause-passed : goal.returns-clause-passed
returns-clause-passed c unmarked text offset is =
    let confirm = c.args.self.now in
    let entries = confirm.entries.items in
    let heads = vec_len confirm.chains.heads in
    let bucket = c.args.bucket in
    let key = c.key_at.result in
    let row = c.key_row-row.result in
    let number = get_or confirm.chains.heads.items row 0 in
    let past : number ≡ vec_len confirm.chains.nexts = c.is_marked.ensures unmarked in
    let least = first_least (rows_of_entries heads entries) confirm.chains.heads.items confirm.chains.nexts.items row (key_row heads bucket key) number confirm.chained
    (omega (arith, c.key_row-row.ensures.within, c.rows.ensures.count, confirm.chains.heads.ok.0)) (c.key_row-row.ensures.row ∙ ap (λ n. key_row n bucket key) c.rows.ensures.count) refl in
    ends_from-skip confirm.widths entries heads bucket key text offset 0 number confirm.keyed (c.key_at.ensures ∙ ap (key_at (get_or confirm.widths bucket 0)) is) least
    ∙ ends_from-end entries bucket text offset number (omega (arith, past, confirm.numbered, confirm.entries.ok.0))

pub returns-clause-none : goal.returns-clause-none
unfolding literals_of buckets_of
returns-clause-none c unmarked text offset within is =
    let confirm = c.args.self.now in
    subst (AreBucketEnds (literals_of confirm) (buckets_of confirm) c.args.bucket text offset) (returns-clause-passed c unmarked text offset is)
    (ends_from-exact confirm.entries.items c.args.bucket text offset within)
