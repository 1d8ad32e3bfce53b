use Rattle.std.proofs.Common.{◌<◌, ◌++◌, ◌+◌, length, vec_len, sym, arith}
use Rattle.std.proofs.lemmas.List.{length-map}
use Rattle.std.proofs.lemmas.Option.{slice_get_read}
use Rattle.hs_confirm.specs.Keys.{key_row}
use Rattle.hs_confirm.specs.Rows.{IsLeastFrom}
use Rattle.hs_confirm.specs.Entries.{rows_of_entries}
use Rattle.hs_confirm.proofs.ChainLemmas.{next_least}
use Rattle.hs_confirm.proofs.EndLemmas.{end_key, end_row, ends_from-skip}
use Rattle.hs_confirm.proofs.ends.Ends.behind.Goals as goal

pub invariant_of-result : goal.invariant_of-result
invariant_of-result c =
    let confirm = c.args.confirm.now in
    let entries = confirm.entries.items in
    let heads = vec_len confirm.chains.heads in
    let text = c.args.history.now ++ c.args.bytes.now in
    let offset = length c.args.history.now + c.args.at in
    let within : c.args.number < length entries = omega (arith, c.requires.number, confirm.entries.ok.0) in
    let numbered = slice_get_read entries (vec_len confirm.entries) c.args.number c.index.result.now confirm.entries.ok.0 c.requires.number c.index.ensures in
    let key = end_key confirm.widths entries c.args.bucket text offset c.args.number c.index.result.now confirm.keyed c.requires.ends numbered in
    let same = length-map entries (λ e. key_row heads e.bucket e.key) in
    let row = end_row confirm.widths entries heads c.args.bucket c.index.result.now.key text offset c.args.number confirm.keyed key c.requires.ends in
    let least : IsLeastFrom (rows_of_entries heads entries) (key_row heads c.args.bucket c.index.result.now.key) (c.args.number + 1) c.after.result = next_least (rows_of_entries heads entries) confirm.chains.heads.items confirm.chains.nexts.items c.args.number _ c.after.result confirm.chained (omega arith) row c.after.ensures in
    record {
      eight = c.requires.bucket;
      within = c.requires.within;
      full_is = c.requires.full;
      keyed = key;
      stands = λ below. least.stands (omega (arith, below, same, confirm.entries.ok.0));
    }

pub returns : goal.returns
returns c =
    let confirm = c.args.confirm.now in
    let entries = confirm.entries.items in
    let heads = vec_len confirm.chains.heads in
    let text = c.args.history.now ++ c.args.bytes.now in
    let offset = length c.args.history.now + c.args.at in
    let within : c.args.number < length entries = omega (arith, c.requires.number, confirm.entries.ok.0) in
    let numbered = slice_get_read entries (vec_len confirm.entries) c.args.number c.index.result.now confirm.entries.ok.0 c.requires.number c.index.ensures in
    let key = end_key confirm.widths entries c.args.bucket text offset c.args.number c.index.result.now confirm.keyed c.requires.ends numbered in
    let same = length-map entries (λ e. key_row heads e.bucket e.key) in
    let row = end_row confirm.widths entries heads c.args.bucket c.index.result.now.key text offset c.args.number confirm.keyed key c.requires.ends in
    let least : IsLeastFrom (rows_of_entries heads entries) (key_row heads c.args.bucket c.index.result.now.key) (c.args.number + 1) c.after.result = next_least (rows_of_entries heads entries) confirm.chains.heads.items confirm.chains.nexts.items c.args.number _ c.after.result confirm.chained (omega arith) row c.after.ensures in
    sym (ends_from-skip confirm.widths entries heads c.args.bucket c.index.result.now.key text offset (c.args.number + 1) c.after.result confirm.keyed key least)
