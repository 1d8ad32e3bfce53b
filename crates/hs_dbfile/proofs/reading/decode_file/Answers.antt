use Rattle.std.proofs.Common.{◌≡◌, ◌++◌, ◌∷◌, [], ◌∙◌, List, length, map, ap, sym, subst, arith}
use Rattle.std.proofs.lemmas.List.{map-append, length-append}
use Rattle.hs_base.specs.Lists.{Each}
use Rattle.hs_base.specs.Entries.{ListedEntry, listed}
use Rattle.hs_dbfile.specs.Files.{entries_bytes}
use Rattle.hs_dbfile.specs.Entries.{IsEntry, IsFaultOf, listed_parts}
use Rattle.hs_dbfile.specs.Reading.{IsRead, start_bytes}
use Rattle.hs_dbfile.proofs.NumberLemmas.{IsBelow}
use Rattle.hs_dbfile.proofs.FileLemmas.{file_stop_start, file_stop_entry, form_stop, form_extra, all_read, next_read, each_behind, file_end, is_nothing, is_something}
use Rattle.hs_dbfile.proofs.reading.decode_file.Goals as goal

pub returns-in-Err : goal.returns-in-Err
returns-in-Err c =
    subst (IsFaultOf c.args.bytes.now) (sym c.form.ensures) (form_stop c.args.bytes.now c.in-Err.stop.rest.now (file_stop_start c.args.bytes.now c.in-Err.stop.rest.now c.in-Err.ensures))

pub returns-in-Err-entry_at : goal.returns-in-Err-entry_at
returns-in-Err-entry_at c =
    let kept = c.loop-entry.invariant in
    subst
    (IsFaultOf c.args.bytes.now)
    (sym c.form-in-Err-entry_at.ensures)
    (form_stop c.args.bytes.now c.in-Err-entry_at.stop.rest.now (file_stop_entry c.args.bytes.now (map listed c.loop-entry.entries.items) c.in-Ok.read.0 c.loop-entry._entry c.loop-entry.rest.now c.in-Err-entry_at.stop.rest.now kept.started kept.each kept.counted c.loop-entry-test.true c.in-Err-entry_at.ensures))

pub loop-entry-preserved : goal.loop-entry-preserved
loop-entry-preserved c =
    let kept = c.loop-entry.invariant in
    let done : List ListedEntry = map listed c.loop-entry.entries.items in
    let entry : ListedEntry = listed_parts c.in-Ok-entry_at.read.0 in
    let next : map listed c.push.new.self.items ≡ done ++ entry ∷ [] =
    ap (map listed) c.in_ok-push.ensures.items
    ∙ map-append listed c.loop-entry.entries.items (c.in_ok-entry.entry ∷ [])
    ∙ ap (λ e. done ++ e ∷ []) c.in_ok-entry.ensures
    in
    record {
      started = subst (λ es. IsRead start_bytes (IsBelow 4294967296) c.args.bytes.now c.in-Ok.read.0 (entries_bytes es ++ c.in-Ok-entry_at.read.1.now)) (sym next) (next_read c.args.bytes.now done entry c.in-Ok.read.0 c.loop-entry.rest.now c.in-Ok-entry_at.read.1.now kept.started c.in-Ok-entry_at.ensures);
      each = subst (Each IsEntry) (sym next) (each_behind done entry kept.each c.in-Ok-entry_at.ensures.allowed);
      counted = let l = ap length next in let both = length-append done (entry ∷ []) in let before = kept.counted in omega (arith, l, both, before);
    }

pub returns-then-is_empty : goal.returns-then-is_empty
returns-then-is_empty c =
    let kept = c.loop-entry.invariant in
    let read = all_read c.args.bytes.now (map listed c.loop-entry.entries.items) c.in-Ok.read.0 c.loop-entry._entry c.loop-entry.rest.now kept.started kept.each kept.counted (let end = c.loop-entry-test.false in omega (arith, end)) (let most = c.loop-entry.auto._entry-end in omega (arith, most)) in
    file_end c.args.bytes.now c.loop-entry.rest.now (map listed c.loop-entry.entries.items) read (is_nothing c.loop-entry.rest.now (sym c.is_empty.ensures ∙ c.if-is_empty.true))

pub returns-else-is_empty : goal.returns-else-is_empty
returns-else-is_empty c =
    let kept = c.loop-entry.invariant in
    let read = all_read c.args.bytes.now (map listed c.loop-entry.entries.items) c.in-Ok.read.0 c.loop-entry._entry c.loop-entry.rest.now kept.started kept.each kept.counted (let end = c.loop-entry-test.false in omega (arith, end)) (let most = c.loop-entry.auto._entry-end in omega (arith, most)) in
    subst
    (IsFaultOf c.args.bytes.now)
    (sym c.form-else-is_empty.ensures)
    (form_extra c.args.bytes.now c.loop-entry.rest.now (map listed c.loop-entry.entries.items) read (is_something c.loop-entry.rest.now (sym c.is_empty.ensures ∙ c.if-is_empty.false)))
