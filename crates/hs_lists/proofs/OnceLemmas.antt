-- A file of a list is read in one way: it is accepted, or refused, and by one cause.
use Rattle.std.proofs.Common.{◌≡◌, ℕ, List, [], Some, None, ap, ◌∙◌, subst}
use Rattle.hs_base.specs.Patterns.{Pattern}
use Rattle.hs_base.specs.Entries.{ListedEntry}
use Rattle.hs_base.specs.declared.refusal.Refusal.TheVariants.{ListLine}
use Rattle.hs_text.proofs.FileLemmas as texts
use Rattle.hs_dbfile.proofs.FileLemmas.{is_file_once, is_place_once}
use Rattle.hs_compile.specs.Lists.{AreAcceptedAs, IsFirstRefusal}
use Rattle.hs_compile.proofs.ListLemmas as lists
use Rattle.hs_lists.specs.ListKinds.{ListKind, pattern_file, database_file}
use Rattle.hs_lists.specs.Causes.{Cause, refused, form}
use Rattle.hs_lists.specs.Accepting.{HoldsList, HasBadForm, bad_line, bad_bytes, IsAccepted, IsRefused, bad_form, bad_entry}

-- a file holds one list
list_once : (kind : ListKind) (file : List ℕ) (xs ys : List ListedEntry) → HoldsList kind file xs → HoldsList kind file ys → xs ≡ ys
list_once pattern_file file xs ys p q = texts.list_once p q
list_once database_file file xs ys p q = is_file_once file xs ys p q

-- a file that holds a list is of the form
never_both : {kind : ListKind} {file : List ℕ} (entries : List ListedEntry) {cause : Cause} → HoldsList kind file entries → HasBadForm file kind cause → ⊥
never_both entries list (bad_line bad) = texts.never_both list bad
never_both entries list (bad_bytes place) = place.no_file entries list

-- a file isn't of the form by one cause
form_once : {kind : ListKind} {file : List ℕ} {cause other : Cause} → HasBadForm file kind cause → HasBadForm file kind other → cause ≡ other
form_once (bad_line bad) (bad_line bad') = ap (λ line. refused None (ListLine line)) (texts.bad_once bad bad')
form_once {file = file} (bad_bytes {at = at} place) (bad_bytes {at = at'} place') = ap form (is_place_once file at at' place place')

-- no file is both accepted and refused
pub accepted-refused : {kind : ListKind} {file : List ℕ} {entries : List ListedEntry} {P : List Pattern} {cause : Cause} → IsAccepted kind file entries P → IsRefused kind file cause → ⊥
accepted-refused {entries = entries} accepted (bad_form bad) = never_both entries accepted.list bad
accepted-refused {kind = kind} {file = file} {entries = entries} {P = P} accepted (bad_entry {entries = others} {number = number} {id = id} {refusal = refusal} list first) =
    lists.accepted-refused [] number others P id refusal (subst (λ es. AreAcceptedAs es P) (list_once kind file entries others accepted.list list) accepted.accepted) first

-- a file is refused by one cause
pub refused_once : {kind : ListKind} {file : List ℕ} {cause other : Cause} → IsRefused kind file cause → IsRefused kind file other → cause ≡ other
refused_once (bad_form bad) (bad_form bad') = form_once bad bad'
refused_once (bad_form bad) (bad_entry {entries = entries} list first) = absurd (never_both entries list bad)
refused_once (bad_entry {entries = entries} list first) (bad_form bad) = absurd (never_both entries list bad)
refused_once {kind = kind} {file = file} (bad_entry {entries = entries} {number = number} {id = id} {refusal = refusal} list first) (bad_entry {entries = entries'} {number = number'} {id = id'} {refusal = refusal'} list' first') =
    let same = list_once kind file entries' entries list' list in
    let once = lists.first_once [] number number' entries id id' refusal refusal' first (subst (λ es. IsFirstRefusal es number' id' refusal') same first') in
    ap (λ n. refused (Some (n, id)) refusal) once.same_number ∙ (ap (λ i. refused (Some (number', i)) refusal) once.same_id ∙ ap (λ r. refused (Some (number', id')) r) once.same_refusal)
