-- Writing the entries of a list one by one.
use Rattle.std.proofs.Common.{◌≡◌, ℕ, zero, suc, ◌+◌, ◌<◌, List, [], ◌∷◌, ◌++◌, length, get_or, drop, map, sym, ap, ◌∙◌, subst, append_assoc, arith}
use Rattle.std.proofs.Math.Seq.{drop-cons}
use Rattle.hs_base.specs.Lists.{Each}
use Rattle.hs_base.specs.declared.ext.Entry.{Entry}
use Rattle.hs_base.specs.Entries.{ListedEntry, listed}
use Rattle.hs_dbfile.specs.Files.{entry_bytes, entries_bytes, IsWritable, IsWithinWidths}
use Rattle.hs_dbfile.specs.Entries.{fields_bytes}

-- what holds of each entry holds of the one at a place
each_at : (P : ListedEntry → Type 0) (entries : List Entry) (i : ℕ) (d : Entry) → Each P (map listed entries) → i < length entries → P (listed (get_or entries i d))
each_at P [] i d each below = absurd (omega (arith, below))
each_at P (entry ∷ entries) zero d each below = each.0
each_at P (entry ∷ entries) (suc i) d each below = each_at P entries i d each.1 (omega (arith, below))

-- the text of an entry of a list that has an encoding is short
pub encodable_text : (entries : List Entry) (i : ℕ) (entry : Entry) → Each (λ e. length e.text < 65536) (map listed entries) → i < length entries → entry ≡ get_or entries i entry → length entry.text.items < 65536
encodable_text entries i entry each below is = subst (λ (e : Entry). length e.text.items < 65536) (sym is) (each_at (λ e. length e.text < 65536) entries i entry each below)

-- the text of an entry that can be written is short
pub short_text : (entries : List Entry) (i : ℕ) (entry : Entry) → Each IsWritable (map listed entries) → i < length entries → entry ≡ get_or entries i entry → length entry.text.items < 65536
short_text entries i entry each below is = (subst (λ e. IsWritable (listed e)) (sym is) (each_at IsWritable entries i entry each below)).short

-- the entries from a place on
pub from_place : (entries : List Entry) (i : ℕ) (entry : Entry) → i < length entries → entry ≡ get_or entries i entry → drop i entries ≡ entry ∷ drop (i + 1) entries
from_place entries i entry below is =
    let at-suc : drop (suc i) entries ≡ drop (i + 1) entries = ap (λ k. drop k entries) (let e : suc i ≡ i + 1 = omega arith in e) in
    drop-cons entries i entry below ∙ ap (λ e. e ∷ drop (suc i) entries) (sym is) ∙ ap (λ es. entry ∷ es) at-suc

pub entries_left : (entries : List Entry) (i : ℕ) (entry : Entry) → i < length entries → entry ≡ get_or entries i entry → entries_bytes (map listed (drop i entries)) ≡ entry_bytes (listed entry) ++ entries_bytes (map listed (drop (i + 1) entries))
entries_left entries i entry below is = ap (λ es. entries_bytes (map listed es)) (from_place entries i entry below is)

pub step_written : (entries : List Entry) (i : ℕ) (entry : Entry) (before after whole : List ℕ) → i < length entries → entry ≡ get_or entries i entry → after ≡ before ++ entry_bytes (listed entry) → before ++ entries_bytes (map listed (drop i entries)) ≡ whole → after ++ entries_bytes (map listed (drop (i + 1) entries)) ≡ whole
step_written entries i entry before after whole below is written kept =
    ap (λ xs. xs ++ entries_bytes (map listed (drop (i + 1) entries))) written
    ∙ append_assoc before (entry_bytes (listed entry)) (entries_bytes (map listed (drop (i + 1) entries)))
    ∙ ap (λ xs. before ++ xs) (sym (entries_left entries i entry below is))
    ∙ kept

pub each_left : (entries : List Entry) (i : ℕ) (entry : Entry) → i < length entries → entry ≡ get_or entries i entry → IsWithinWidths (listed entry) → Each IsWithinWidths (map listed (drop (i + 1) entries)) → Each IsWithinWidths (map listed (drop i entries))
each_left entries i entry below is first others =
    subst (λ es. Each IsWithinWidths (map listed es)) (sym (from_place entries i entry below is)) (first, others)

-- the fields and the text are the entry
pub entry_written : (entry : ListedEntry) (old between new fields text : List ℕ) → between ≡ old ++ fields → fields ≡ fields_bytes entry → new ≡ between ++ text → text ≡ entry.text → new ≡ old ++ entry_bytes entry
entry_written entry old between new fields text first fields-are second text-is =
    second
    ∙ ap (λ xs. xs ++ text) first
    ∙ append_assoc old fields text
    ∙ ap (λ xs. old ++ (xs ++ text)) fields-are
    ∙ ap (λ xs. old ++ (fields_bytes entry ++ xs)) text-is
