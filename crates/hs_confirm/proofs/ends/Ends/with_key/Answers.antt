use Rattle.std.proofs.Common.{◌++◌, ◌+◌, length, vec_len, get_or, ◌∙◌, sym, ap, subst, arith, length-append}
use Rattle.hs_confirm.specs.Filed.{literals_of, buckets_of}
use Rattle.hs_confirm.specs.Keys.{key_at, key_row}
use Rattle.hs_confirm.specs.Entries.{rows_of_entries}
use Rattle.hs_confirm.specs.BucketEnds.{AreBucketEnds}
use Rattle.hs_confirm.proofs.ChainLemmas.{first_least}
use Rattle.hs_confirm.proofs.EndLemmas.{ends_from-exact, ends_from-skip}
use Rattle.hs_confirm.proofs.ends.Ends.with_key.Goals as goal

pub returns-clause-left : goal.returns-clause-left
returns-clause-left c =
    let confirm = c.args.confirm.now in
    let entries = confirm.entries.items in
    let text = c.args.history.now ++ c.args.bytes.now in
    let offset = length c.args.history.now + c.args.at in
    let key = c.key_at-key.result in
    let least = first_least (rows_of_entries (vec_len confirm.chains.heads) entries) confirm.chains.heads.items confirm.chains.nexts.items c.key_row-row.result (key_row (vec_len confirm.chains.heads) c.args.bucket key) c.first.result confirm.chained
    (omega (arith, c.key_row-row.ensures.within, c.rows.ensures.count, confirm.chains.heads.ok.0)) (c.key_row-row.ensures.row ∙ ap (λ n. key_row n c.args.bucket key) c.rows.ensures.count) c.first.ensures in
    sym (ends_from-skip confirm.widths entries (vec_len confirm.chains.heads) c.args.bucket key text offset 0 c.first.result confirm.keyed (c.key_at-key.ensures ∙ ap (key_at (get_or confirm.widths c.args.bucket 0)) c.requires.full) least)

pub returns-clause-exact : goal.returns-clause-exact
unfolding literals_of buckets_of
returns-clause-exact c =
    let confirm = c.args.confirm.now in
    let text = c.args.history.now ++ c.args.bytes.now in
    let offset = length c.args.history.now + c.args.at in
    subst (λ numbers. AreBucketEnds (literals_of confirm) (buckets_of confirm) c.args.bucket text offset numbers) (sym (returns-clause-left c))
    (ends_from-exact confirm.entries.items c.args.bucket text offset (omega (arith, length-append c.args.history.now c.args.bytes.now, c.requires.within)))
