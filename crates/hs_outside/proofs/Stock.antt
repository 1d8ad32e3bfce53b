-- What a put does to the slots of a store over memory.
use Rattle.std.proofs.Common.{◌≡◌, ◌≢◌, ℕ, zero, suc, ◌+◌, ◌-◌, ◌<◌, ◌≤◌, List, [], ◌∷◌, ◌++◌, length, get_or, nat_le, ◌&&◌, true, sym, ◌∙◌, ap, arith, All, length-append, length-set}
use Rattle.std.proofs.Math.ListN.{set}
use Rattle.std.proofs.lemmas.List.{map-set, map-append}
use Rattle.std.proofs.lemmas.List.Elements.{All-set, All-append}
use Rattle.hs_outside.specs.MemStore.{File, IsFirstNamed, put_in, total_len}
use Rattle.hs_outside.specs.MemFile.{Slot, file_of, files_of, IsStocked}
use Rattle.hs_outside.proofs.Filing.{place_within, put_in-at, put_in-none}
use Rattle.hs_outside.proofs.Slots.{length-files_of, files_of-at, put_len-slot, put_len-none, content-counted, room_from_test}

-- the file at a place of a name has that name
named_at : (files : List File) (name : List ℕ) (place : ℕ) (d : File) → IsFirstNamed files name place → (get_or files place d).name ≡ name
named_at [] name place d h = absurd h
named_at (file ∷ later) name zero d h = h
named_at (file ∷ later) name (suc place) d h = named_at later name place d h.1

-- the test of room for a put into these slots
abbrev pub PassesTest : List Slot → List Slot → ℕ → List ℕ → List ℕ → Type 0
PassesTest slots spare room name bytes =
    (nat_le (length (put_in (files_of slots) name bytes)) (length slots + length spare) && nat_le (total_len (put_in (files_of slots) name bytes)) room) ≡ true

-- what the test says
passed : (slots spare : List Slot) (room : ℕ) (name bytes : List ℕ) → PassesTest slots spare room name bytes →
    (length (put_in (files_of slots) name bytes) ≤ length slots + length spare) × (total_len (put_in (files_of slots) name bytes) ≤ room)
passed slots spare room name bytes test =
    room_from_test (length (put_in (files_of slots) name bytes)) (length slots + length spare) (total_len (put_in (files_of slots) name bytes)) room test

-- other bytes in the place of a slot's fit it, and all others' with them
pub replaced_fits : (slots spare : List Slot) (places used room : ℕ) (name bytes : List ℕ) (place : ℕ) (slot : Slot) →
    IsStocked slots spare places used room → IsFirstNamed (files_of slots) name place → slot ≡ get_or slots place slot → PassesTest slots spare room name bytes →
    (length slot.content ≤ used) × (used - length slot.content + length bytes ≤ room) × (length bytes ≤ slot.room)
replaced_fits slots spare places used room name bytes place slot stock first here test =
    let tested = passed slots spare room name bytes test in
    let counted = content-counted slots name place slot first here in
    let after = put_len-slot slots name bytes place slot first here in
    let within : place < length slots = omega (arith, place_within (files_of slots) name place first, length-files_of slots) in
    let size : slot.room ≡ room = ap (λ (s : Slot). s.room) here ∙ stock.sizes place slot within in
    (omega (arith, stock.counted), omega (arith, stock.counted), omega (arith, stock.counted))

-- the files after the bytes of a slot were replaced
pub replaced_files : (slots : List Slot) (name bytes : List ℕ) (place : ℕ) (slot : Slot) →
    IsFirstNamed (files_of slots) name place → slot ≡ get_or slots place slot → files_of (set slots place (record slot { content = bytes })) ≡ put_in (files_of slots) name bytes
replaced_files slots name bytes place slot first here =
    let named : slot.name ≡ name = ap (λ (s : Slot). s.name) here ∙ ap (λ (f : File). f.name) (sym (files_of-at slots place slot)) ∙ named_at (files_of slots) name place (file_of slot) first in
    let file : List ℕ → File = λ n. record { name = n; content = bytes } in
    map-set file_of slots place (record slot { content = bytes })
    ∙ ap (λ (n : List ℕ). set (files_of slots) place (file n)) named
    ∙ sym (put_in-at (files_of slots) name bytes place first)

-- the slots after the bytes of one were replaced
pub replaced_stock : (slots spare : List Slot) (places used room : ℕ) (name bytes : List ℕ) (place : ℕ) (slot : Slot) →
    IsStocked slots spare places used room → IsFirstNamed (files_of slots) name place → slot ≡ get_or slots place slot → PassesTest slots spare room name bytes →
    IsStocked (set slots place (record slot { content = bytes })) spare places (used - length slot.content + length bytes) room
replaced_stock slots spare places used room name bytes place slot stock first here test =
    let fits = replaced_fits slots spare places used room name bytes place slot stock first here test in
    let after = put_len-slot slots name bytes place slot first here in
    let within : place < length slots = omega (arith, place_within (files_of slots) name place first, length-files_of slots) in
    let size : slot.room ≡ room = ap (λ (s : Slot). s.room) here ∙ stock.sizes place slot within in
    let files = replaced_files slots name bytes place slot first here in
    record {
      counted = omega (arith, ap total_len files, after.1, stock.counted, fits.0);
      within = fits.1;
      sizes = All-set (λ (s : Slot). s.room ≡ room) slots place (record slot { content = bytes }) size stock.sizes;
      spare_sizes = stock.spare_sizes;
      enough = omega (arith, stock.enough, length-set slots place (record slot { content = bytes }));
    }

-- the last of the spare slots
last_spare : (rest : List Slot) (slot : Slot) (room : ℕ) → All (λ s. s.room ≡ room) (rest ++ slot ∷ []) → (All (λ s. s.room ≡ room) rest) × (slot.room ≡ room)
last_spare [] slot room h = (λ k d lt. absurd (omega arith), h 0 slot (omega arith))
last_spare (first ∷ rest) slot room h =
    let more = last_spare rest slot room (λ k d lt. h (suc k) d (omega arith)) in
    (by_place more.0, more.1)
  where
    by_place : All (λ s. s.room ≡ room) rest → All (λ s. s.room ≡ room) (first ∷ rest)
    by_place others zero d lt = h 0 first (omega arith)
    by_place others (suc k) d lt = others k d (omega arith)

-- a slot is spare for a put under a name that isn't there
pub added_spare : (slots spare : List Slot) (room : ℕ) (name bytes : List ℕ) → All (λ file. file.name ≢ name) (files_of slots) → PassesTest slots spare room name bytes → 0 < length spare
added_spare slots spare room name bytes none test =
    let tested = passed slots spare room name bytes test in
    let after = put_len-none slots name bytes none in
    omega arith

-- the name and the bytes fit it, and all others' with them
pub added_fits : (slots rest : List Slot) (slot : Slot) (places used room : ℕ) (name bytes : List ℕ) →
    IsStocked slots (rest ++ slot ∷ []) places used room → All (λ file. file.name ≢ name) (files_of slots) → PassesTest slots (rest ++ slot ∷ []) room name bytes →
    (length name ≤ slot.room) × (length bytes ≤ slot.room) × (used + (length name + length bytes) ≤ room)
added_fits slots rest slot places used room name bytes stock none test =
    let tested = passed slots (rest ++ slot ∷ []) room name bytes test in
    let after = put_len-none slots name bytes none in
    let size = (last_spare rest slot room stock.spare_sizes).1 in
    (omega (arith, stock.counted), omega (arith, stock.counted), omega (arith, stock.counted))

-- the files after one was added
pub added_files : (slots : List Slot) (name bytes : List ℕ) (size : ℕ) → All (λ file. file.name ≢ name) (files_of slots) →
    files_of (slots ++ (record { name = name; content = bytes; room = size }) ∷ []) ≡ put_in (files_of slots) name bytes
added_files slots name bytes size none =
    map-append file_of slots ((record { name = name; content = bytes; room = size }) ∷ []) ∙ sym (put_in-none (files_of slots) name bytes none)

-- the slots after one was added
pub added_stock : (slots rest : List Slot) (slot : Slot) (places now used room : ℕ) (name bytes : List ℕ) →
    IsStocked slots (rest ++ slot ∷ []) places used room → All (λ file. file.name ≢ name) (files_of slots) → PassesTest slots (rest ++ slot ∷ []) room name bytes → places ≤ now →
    IsStocked (slots ++ (record slot { name = name; content = bytes }) ∷ []) rest now (used + (length name + length bytes)) room
added_stock slots rest slot places now used room name bytes stock none test grown =
    let fits = added_fits slots rest slot places used room name bytes stock none test in
    let after = put_len-none slots name bytes none in
    let files = added_files slots name bytes slot.room none in
    let spare = last_spare rest slot room stock.spare_sizes in
    let added : List Slot = (record slot { name = name; content = bytes }) ∷ [] in
    record {
      counted = omega (arith, ap total_len files, after.1, stock.counted);
      within = fits.2;
      sizes = All-append (λ (s : Slot). s.room ≡ room) slots added stock.sizes (only_one spare.1);
      spare_sizes = spare.0;
      enough = omega (arith, stock.enough, length-append slots added, length-append rest (slot ∷ []));
    }
  where
    only_one : slot.room ≡ room → All (λ s. s.room ≡ room) ((record slot { name = name; content = bytes }) ∷ [])
    only_one size zero d lt = size
    only_one size (suc k) d lt = absurd (omega arith)
