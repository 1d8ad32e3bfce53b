-- The entries of a file, and where a file stops.
use Rattle.std.proofs.Common.{◌≡◌, ℕ, zero, suc, ◌+◌, ◌-◌, ◌<◌, ◌≤◌, List, [], ◌∷◌, ◌++◌, length, refl, sym, ap, ◌∙◌, subst, append_assoc, append-nil, arith, true, false, eqb}
use Rattle.std.specs.Int.{w32, to_le_bytes, from_le_bytes}
use Rattle.std.proofs.lemmas.List.{length-append}
use Rattle.std.proofs.lemmas.Bool.{eqb-true, false≢true}
use Rattle.hs_base.specs.Lists.{Each}
use Rattle.hs_base.specs.Entries.{ListedEntry}
use Rattle.hs_dbfile.specs.Files.{entry_bytes, entries_bytes, head_bytes, file_bytes, IsWritable, IsWithinWidths, IsDatabaseFile, IsFormPlace}
use Rattle.hs_dbfile.specs.Entries.{IsEntry}
use Rattle.hs_dbfile.specs.Laws.{IsFileOnce, IsPlaceOnce}
use Rattle.hs_dbfile.specs.Reading.{IsRead, IsPlace, Stops, always, Always, start_bytes}
use Rattle.hs_dbfile.proofs.CodeLemmas.{Once, pair_bytes, ArePair, pair_once, stops_first, stops_second, reads_pair, IsSameCode, stops_as, once_as, reads_as, always_once}
use Rattle.hs_dbfile.proofs.NumberLemmas.{IsBelow, code_32, number_once}
use Rattle.hs_dbfile.proofs.PlaceLemmas.{place_stop, place_extra, not_empty}
use Rattle.hs_dbfile.proofs.EntryLemmas.{entry_once, no_entry, no_entry_is}

-- so many entries that can be written
pub record HasEntries (n : ℕ) (entries : List ListedEntry) : Type 0 where
  pub counted : length entries ≡ n
  pub each : Each IsEntry entries

first_of_list : List ListedEntry → ListedEntry × List ListedEntry
first_of_list [] = (no_entry, [])
first_of_list (entry ∷ entries) = (entry, entries)

none_counted : (n : ℕ) {P : Type 0} → 0 ≡ suc n → P
none_counted n e = absurd (omega (arith, e))

entries_same : (n : ℕ) → IsSameCode (pair_bytes entry_bytes entries_bytes) (ArePair IsEntry (λ entry. HasEntries n)) entries_bytes (HasEntries (suc n))
unfolding first_of_list
entries_same n = record {
  to = λ p. p.0 ∷ p.1;
  from = first_of_list;
  to_allowed = λ p h. record { counted = let l = h.second.counted in omega (arith, l); each = (h.first, h.second.each) };
  from_allowed = λ entries h. elim entries as (λ es. HasEntries (suc n) es → ArePair IsEntry (λ entry. HasEntries n) (first_of_list es)) [
    | [] ↦ λ h. none_counted n h.counted
    | entry ∷ entries ↦ λ h. record { first = h.each.0; second = record { counted = let l = h.counted in omega (arith, l); each = h.each.1 } }
  ] h;
  to_bytes = λ p h. refl;
  from_bytes = λ entries h. elim entries as (λ es. HasEntries (suc n) es → pair_bytes entry_bytes entries_bytes (first_of_list es) ≡ entries_bytes es) [
    | [] ↦ λ h. none_counted n h.counted
    | entry ∷ entries ↦ λ h. refl
  ] h;
  back = λ entries h. elim entries as (λ es. HasEntries (suc n) es → (first_of_list es).0 ∷ (first_of_list es).1 ≡ es) [
    | [] ↦ λ h. none_counted n h.counted
    | entry ∷ entries ↦ λ h. refl
  ] h;
}

fill : ℕ → List ListedEntry
fill zero = []
fill (suc n) = no_entry ∷ fill n

filled : (n : ℕ) → HasEntries n (fill n)
unfolding fill
filled zero = record { counted = refl; each = tt }
filled (suc n) = record { counted = let l = (filled n).counted in omega (arith, l); each = (no_entry_is, (filled n).each) }

-- an entry that isn't there stops the entries
pub entries_stop : (done : List ListedEntry) (k : ℕ) (bytes between rest : List ℕ) → Each IsEntry done → bytes ≡ entries_bytes done ++ between → Stops entry_bytes IsEntry between rest → Stops entries_bytes (HasEntries (length done + suc k)) bytes rest
entries_stop [] k bytes between rest each parts s =
    let here : Stops entry_bytes IsEntry bytes rest = subst (λ b. Stops entry_bytes IsEntry b rest) (sym parts) s in
    let more = stops_as _ _ _ _ bytes rest (entries_same k) (stops_first entry_bytes IsEntry entries_bytes (λ entry. HasEntries k) (λ entry. fill k) bytes rest (λ entry p. filled k) here) in
    let none : List ListedEntry = [] in
    let e : suc k ≡ length none + suc k = omega arith in
    subst (λ n. Stops entries_bytes (HasEntries n) bytes rest) e more
entries_stop (entry ∷ done) k bytes between rest each parts s =
    let behind : List ℕ = entries_bytes done ++ between in
    let read : IsRead entry_bytes IsEntry bytes entry behind = record { parts = parts ∙ append_assoc (entry_bytes entry) (entries_bytes done) between; allowed = each.0 } in
    let inner = entries_stop done k behind between rest each.1 refl s in
    let more = stops_as _ _ _ _ bytes rest (entries_same (length done + suc k)) (stops_second entry_bytes IsEntry entries_bytes (λ entry. HasEntries (length done + suc k)) entry bytes behind rest entry_once read inner) in
    let e : suc (length done + suc k) ≡ length (entry ∷ done) + suc k = omega arith in
    subst (λ n. Stops entries_bytes (HasEntries n) bytes rest) e more

pub entries_once : (n : ℕ) → Once entries_bytes (HasEntries n)
entries_once zero [] [] x y p q e = record { value = refl; rest = e }
entries_once zero [] (b ∷ bs) x y p q e = absurd (let l = q.counted in omega (arith, l))
entries_once zero (a ∷ as') bs x y p q e = absurd (let l = p.counted in omega (arith, l))
entries_once (suc n) as' bs x y p q e =
    once_as _ _ _ _ (entries_same n) (pair_once entry_bytes IsEntry entries_bytes (λ entry. HasEntries n) entry_once (λ entry h. entries_once n)) as' bs x y p q e

-- ---- the head and the count

start_same : IsSameCode (pair_bytes (always head_bytes) (to_le_bytes w32)) (ArePair Always (λ one. IsBelow 4294967296)) start_bytes (IsBelow 4294967296)
start_same = record {
  to = λ p. p.1;
  from = λ n. (tt, n);
  to_allowed = λ p h. h.second;
  from_allowed = λ n h. record { first = tt; second = h };
  to_bytes = λ p h. refl;
  from_bytes = λ n h. refl;
  back = λ n h. refl;
}

pub start_once : Once start_bytes (IsBelow 4294967296)
start_once =
    once_as _ _ _ _ start_same (pair_once (always head_bytes) Always (to_le_bytes w32) (λ one. IsBelow 4294967296) (always_once head_bytes) (λ one p. number_once (to_le_bytes w32) (from_le_bytes w32) 4 4294967296 code_32))

pub start_stop_head : (bytes rest : List ℕ) → Stops (always head_bytes) Always bytes rest → Stops start_bytes (IsBelow 4294967296) bytes rest
start_stop_head bytes rest s =
    stops_as _ _ _ _ bytes rest start_same (stops_first (always head_bytes) Always (to_le_bytes w32) (λ one. IsBelow 4294967296) (λ one. 0) bytes rest (λ one p. omega arith) s)

head_read : (bytes between : List ℕ) → bytes ≡ head_bytes ++ between → IsRead (always head_bytes) Always bytes tt between
head_read bytes between parts = record { parts = parts; allowed = tt }

pub start_stop_count : (bytes between rest : List ℕ) → bytes ≡ head_bytes ++ between → Stops (to_le_bytes w32) (IsBelow 4294967296) between rest → Stops start_bytes (IsBelow 4294967296) bytes rest
start_stop_count bytes between rest parts s =
    stops_as _ _ _ _ bytes rest start_same (stops_second (always head_bytes) Always (to_le_bytes w32) (λ one. IsBelow 4294967296) tt bytes between rest (always_once head_bytes) (head_read bytes between parts) s)

pub start_read : (bytes between rest : List ℕ) (n : ℕ) → bytes ≡ head_bytes ++ between → IsRead (to_le_bytes w32) (IsBelow 4294967296) between n rest → IsRead start_bytes (IsBelow 4294967296) bytes n rest
unfolding start_same
start_read bytes between rest n parts read =
    reads_as _ _ _ _ bytes rest (tt, n) start_same (reads_pair (always head_bytes) Always (to_le_bytes w32) (λ one. IsBelow 4294967296) tt n bytes between rest (head_read bytes between parts) read)

-- ---- the file

-- the entries of some file
pub record AreFile (entries : List ListedEntry) : Type 0 where
  pub few : length entries < 4294967296
  pub each : Each IsEntry entries

file_same : IsSameCode (pair_bytes start_bytes entries_bytes) (ArePair (IsBelow 4294967296) HasEntries) file_bytes AreFile
file_same = record {
  to = λ p. p.1;
  from = λ entries. (length entries, entries);
  to_allowed = λ p h. record { few = subst (λ k. k < 4294967296) (sym h.second.counted) h.first; each = h.second.each };
  from_allowed = λ entries h. record { first = h.few; second = record { counted = refl; each = h.each } };
  to_bytes = λ p h. ap (λ k. start_bytes k ++ entries_bytes p.1) h.second.counted;
  from_bytes = λ entries h. refl;
  back = λ entries h. refl;
}

pub file_once : Once file_bytes AreFile
file_once =
    once_as _ _ _ _ file_same (pair_once start_bytes (IsBelow 4294967296) entries_bytes HasEntries start_once (λ n p. entries_once n))

pub file_stop_start : (bytes rest : List ℕ) → Stops start_bytes (IsBelow 4294967296) bytes rest → Stops file_bytes AreFile bytes rest
file_stop_start bytes rest s =
    stops_as _ _ _ _ bytes rest file_same (stops_first start_bytes (IsBelow 4294967296) entries_bytes HasEntries fill bytes rest (λ n p. filled n) s)

pub file_stop_entries : (bytes between rest : List ℕ) (n : ℕ) → IsRead start_bytes (IsBelow 4294967296) bytes n between → Stops entries_bytes (HasEntries n) between rest → Stops file_bytes AreFile bytes rest
file_stop_entries bytes between rest n read s =
    stops_as _ _ _ _ bytes rest file_same (stops_second start_bytes (IsBelow 4294967296) entries_bytes HasEntries n bytes between rest start_once read s)

pub file_read : (bytes between rest : List ℕ) (n : ℕ) (entries : List ListedEntry) → IsRead start_bytes (IsBelow 4294967296) bytes n between → between ≡ entries_bytes entries ++ rest → length entries ≡ n → Each IsEntry entries → IsRead file_bytes AreFile bytes entries rest
unfolding file_same
file_read bytes between rest n entries read parts counted each =
    let second : IsRead entries_bytes (HasEntries n) between entries rest = record { parts = parts; allowed = record { counted = counted; each = each } } in
    reads_as _ _ _ _ bytes rest (n, entries) file_same (reads_pair start_bytes (IsBelow 4294967296) entries_bytes HasEntries n entries bytes between rest read second)

each_writable : (entries : List ListedEntry) → Each IsEntry entries → Each IsWritable entries
each_writable [] h = tt
each_writable (entry ∷ entries) h = (h.0.writable, each_writable entries h.1)

each_width : (entries : List ListedEntry) → Each IsEntry entries → Each IsWithinWidths entries
each_width [] h = tt
each_width (entry ∷ entries) h = (h.0.widths, each_width entries h.1)

each_entry : (entries : List ListedEntry) → Each IsWritable entries → Each IsWithinWidths entries → Each IsEntry entries
each_entry [] p q = tt
each_entry (entry ∷ entries) p q = (record { writable = p.0; widths = q.0 }, each_entry entries p.1 q.1)

pub as_file : (bytes : List ℕ) (entries : List ListedEntry) → AreFile entries → bytes ≡ file_bytes entries → IsDatabaseFile bytes entries
as_file bytes entries is whole = record {
  writable = record { few = is.few; each = each_writable entries is.each };
  widths = each_width entries is.each;
  whole = whole;
}

pub of_file : {bytes : List ℕ} {entries : List ListedEntry} → IsDatabaseFile bytes entries → AreFile entries
of_file {entries = entries} file = record { few = file.writable.few; each = each_entry entries file.writable.each file.widths }

-- bytes that are read to their end are a file
pub file_end : (bytes rest : List ℕ) (entries : List ListedEntry) → IsRead file_bytes AreFile bytes entries rest → rest ≡ [] → IsDatabaseFile bytes entries
file_end bytes rest entries read none =
    as_file bytes entries read.allowed (read.parts ∙ ap (λ xs. file_bytes entries ++ xs) none ∙ append-nil (file_bytes entries))

pub is_file_once : IsFileOnce
is_file_once bytes xs ys p q =
    (file_once xs ys [] [] (of_file p) (of_file q) (ap (λ b. b ++ []) (sym p.whole ∙ q.whole))).value

-- ---- the place where bytes stop being a file

as_form_place : (bytes : List ℕ) (at : ℕ) → IsPlace file_bytes AreFile bytes at → IsFormPlace bytes at
as_form_place bytes at p = record {
  no_file = λ entries file. p.no_code entries (of_file file) file.whole;
  front = p.front;
  rest = p.rest;
  parts = p.parts;
  place = p.place;
  begins = record { entries = p.begins.value; rest = p.begins.rest; file = as_file (p.front ++ p.begins.rest) p.begins.value p.begins.allowed p.begins.whole };
  longest = λ longer behind parts begun.
      p.longest longer behind parts (record { value = begun.entries; rest = begun.rest; allowed = of_file begun.file; whole = begun.file.whole });
}

-- where reading stops
pub form_stop : (bytes rest : List ℕ) → Stops file_bytes AreFile bytes rest → IsFormPlace bytes (length bytes - length rest)
form_stop bytes rest s = as_form_place bytes (length bytes - length rest) (place_stop file_bytes AreFile bytes rest s)

-- where bytes stand behind a file
pub form_extra : (bytes rest : List ℕ) (entries : List ListedEntry) → IsRead file_bytes AreFile bytes entries rest → (rest ≡ [] → ⊥) → IsFormPlace bytes (length bytes - length rest)
form_extra bytes rest entries read some =
    as_form_place bytes (length bytes - length rest) (place_extra file_bytes AreFile bytes rest entries file_once read some)

-- ---- the reader's loop

-- an entry that isn't there stops the file
pub file_stop_entry : (bytes : List ℕ) (done : List ListedEntry) (n i : ℕ) (left rest : List ℕ) → IsRead start_bytes (IsBelow 4294967296) bytes n (entries_bytes done ++ left) → Each IsEntry done → length done ≡ i → i < n → Stops entry_bytes IsEntry left rest → Stops file_bytes AreFile bytes rest
file_stop_entry bytes done n i left rest read each counted below s =
    let between : List ℕ = entries_bytes done ++ left in
    let inner = entries_stop done (n - suc (length done)) between left rest each refl s in
    let e : length done + suc (n - suc (length done)) ≡ n = omega (arith, counted, below) in
    file_stop_entries bytes between rest n read (subst (λ k. Stops entries_bytes (HasEntries k) between rest) e inner)

pub stop_within : {bytes rest : List ℕ} → Stops file_bytes AreFile bytes rest → length rest ≤ length bytes
stop_within {bytes = bytes} {rest = rest} s =
    let l = ap length s.parts in
    let both = length-append s.front rest in
    omega (arith, l, both)

pub read_within : {bytes rest : List ℕ} {entries : List ListedEntry} → IsRead file_bytes AreFile bytes entries rest → length rest ≤ length bytes
read_within {bytes = bytes} {rest = rest} {entries = entries} read =
    let l = ap length read.parts in
    let both = length-append (file_bytes entries) rest in
    omega (arith, l, both)

entries_bytes-append : (xs ys : List ListedEntry) → entries_bytes (xs ++ ys) ≡ entries_bytes xs ++ entries_bytes ys
entries_bytes-append [] ys = refl
entries_bytes-append (x ∷ xs) ys =
    ap (λ b. entry_bytes x ++ b) (entries_bytes-append xs ys) ∙ sym (append_assoc (entry_bytes x) (entries_bytes xs) (entries_bytes ys))

-- the entries before and one more are read
pub next_read : (bytes : List ℕ) (done : List ListedEntry) (entry : ListedEntry) (n : ℕ) (left rest : List ℕ) → IsRead start_bytes (IsBelow 4294967296) bytes n (entries_bytes done ++ left) → IsRead entry_bytes IsEntry left entry rest → IsRead start_bytes (IsBelow 4294967296) bytes n (entries_bytes (done ++ entry ∷ []) ++ rest)
next_read bytes done entry n left rest read next =
    let one : entries_bytes (entry ∷ []) ≡ entry_bytes entry = append-nil (entry_bytes entry) in
    let longer : entries_bytes done ++ left ≡ entries_bytes (done ++ entry ∷ []) ++ rest =
    ap (λ b. entries_bytes done ++ b) next.parts
    ∙ sym (append_assoc (entries_bytes done) (entry_bytes entry) rest)
    ∙ ap (λ b. (entries_bytes done ++ b) ++ rest) (sym one)
    ∙ ap (λ b. b ++ rest) (sym (entries_bytes-append done (entry ∷ [])))
    in
    record { parts = read.parts ∙ ap (λ b. start_bytes n ++ b) longer; allowed = read.allowed }

pub each_behind : (done : List ListedEntry) (entry : ListedEntry) → Each IsEntry done → IsEntry entry → Each IsEntry (done ++ entry ∷ [])
each_behind [] entry each is = (is, tt)
each_behind (first ∷ done) entry each is = (each.0, each_behind done entry each.1 is)

-- all entries are read
pub all_read : (bytes : List ℕ) (entries : List ListedEntry) (n i : ℕ) (rest : List ℕ) → IsRead start_bytes (IsBelow 4294967296) bytes n (entries_bytes entries ++ rest) → Each IsEntry entries → length entries ≡ i → n ≤ i → i ≤ n → IsRead file_bytes AreFile bytes entries rest
all_read bytes entries n i rest read each counted least most =
    file_read bytes (entries_bytes entries ++ rest) rest n entries read refl (omega (arith, counted, least, most)) each

pub is_nothing : (xs : List ℕ) → eqb (length xs) 0 ≡ true → xs ≡ []
is_nothing [] e = refl
is_nothing (x ∷ xs) e = absurd (let l = eqb-true (length (x ∷ xs)) 0 e in omega (arith, l))

pub is_something : (xs : List ℕ) → eqb (length xs) 0 ≡ false → xs ≡ [] → ⊥
is_something [] e nothing = false≢true (sym e)
is_something (x ∷ xs) e nothing = not_empty x xs nothing

-- ---- one place

below_place : {bytes : List ℕ} {m n : ℕ} → IsFormPlace bytes m → IsFormPlace bytes n → n ≤ m
below_place {m = m} p q = subst (λ k. k ≤ m) q.place (p.longest q.front q.rest q.parts q.begins)

pub is_place_once : IsPlaceOnce
is_place_once bytes m n p q = let least = below_place p q in let most = below_place q p in omega (arith, least, most)
