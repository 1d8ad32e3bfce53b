-- Files of which the beginning shows that they are no database file.
use Rattle.std.proofs.Common.{◌≡◌, ℕ, ◌<◌, ◌≤◌, List, [], ◌∷◌, ◌++◌, length, refl, sym, ap, ◌∙◌, subst, append_assoc, append-nil, arith}
use Rattle.hs_dbfile.specs.Files.{IsDatabaseFile, BeginsFile, IsFormPlace}
use Rattle.hs_lists.specs.ListKinds.{database_file}
use Rattle.hs_lists.specs.Causes.{form}
use Rattle.hs_lists.specs.Accepting.{IsFormCause, formless, bad_bytes}

-- of two beginnings of a list one begins the other
data AreNested (front longer : List ℕ) : Type 0 where
  outside : (more : List ℕ) → longer ≡ front ++ more → AreNested front longer
  inside : (more : List ℕ) → front ≡ longer ++ more → AreNested front longer

nested : (front rest longer behind : List ℕ) → front ++ rest ≡ longer ++ behind → AreNested front longer
nested [] rest longer behind e = outside longer refl
nested (b ∷ front) rest [] behind e = inside (b ∷ front) refl
nested (b ∷ front) rest (c ∷ longer) behind e =
    let heads : b ≡ c = cc in
    let tails : front ++ rest ≡ longer ++ behind = cc in
    with_head heads (nested front rest longer behind tails)
  where
    with_head : b ≡ c → AreNested front longer → AreNested (b ∷ front) (c ∷ longer)
    with_head same (outside more e) = outside more (ap (λ xs. c ∷ xs) e ∙ ap (λ x. x ∷ (front ++ more)) (sym same))
    with_head same (inside more e) = inside more (ap (λ xs. b ∷ xs) e ∙ ap (λ x. x ∷ (longer ++ more)) same)

-- what begins a beginning of a database file begins one
begins-shorter : (front more : List ℕ) → BeginsFile (front ++ more) → BeginsFile front
begins-shorter front more begun = record {
  entries = begun.entries;
  rest = more ++ begun.rest;
  file = subst (λ bytes. IsDatabaseFile bytes begun.entries) (append_assoc front more begun.rest) begun.file;
}

-- bytes that stop before their end to be a database file don't begin one
begins_none : (bytes : List ℕ) (at : ℕ) → IsFormPlace bytes at → at < length bytes → BeginsFile bytes → ⊥
begins_none bytes at place before begun = let long = place.longest bytes [] (sym (append-nil bytes)) begun in omega (arith, long, before)

-- where bytes stop before their end to be a database file, each file that begins with them stops there
pub form_place-early : (bytes rest : List ℕ) (at : ℕ) → IsFormPlace bytes at → at < length bytes → IsFormPlace (bytes ++ rest) at
form_place-early bytes rest at place before = record {
  no_file = λ entries file. begins_none bytes at place before (record { entries = entries; rest = rest; file = file });
  front = place.front;
  rest = place.rest ++ rest;
  parts = ap (λ xs. xs ++ rest) place.parts ∙ append_assoc place.front place.rest rest;
  place = place.place;
  begins = place.begins;
  longest = λ longer behind parts begun. by_nested longer (nested bytes rest longer behind parts) begun;
}
  where
    by_nested : (longer : List ℕ) → AreNested bytes longer → BeginsFile longer → length longer ≤ at
    by_nested longer (outside more e) begun = absurd (begins_none bytes at place before (begins-shorter bytes more (subst BeginsFile e begun)))
    by_nested longer (inside more e) begun = place.longest longer more e begun

-- each file that begins with bytes that stop before their end is refused there
pub form_cause-early : (bytes rest : List ℕ) (at : ℕ) → at < length bytes → IsFormPlace bytes at → IsFormCause database_file (bytes ++ rest) (form at)
form_cause-early bytes rest at before place = formless (bad_bytes (form_place-early bytes rest at place before))
