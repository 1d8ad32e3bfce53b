-- The slots of a store over memory, and the files in them.
use Rattle.std.proofs.Common.{◌≡◌, ◌≢◌, ℕ, zero, suc, ◌+◌, ◌<◌, ◌≤◌, List, [], ◌∷◌, length, get_or, sym, subst, ◌∙◌, ap, refl, arith, All, Some, length-append, nat_le, ◌-◌, ◌&&◌, ◌==◌, Bool, true, false}
use Rattle.std.proofs.lemmas.Bool.Decides.{nat_tests}
use Rattle.hs_outside.specs.MemStore.{File, IsFirstNamed, content_of, put_in, total_len}
use Rattle.hs_outside.specs.MemFile.{Slot, file_of, files_of}
use Rattle.hs_outside.proofs.Filing.{content_of-at, put_in-len_at, put_in-none, total_len-append}

-- the first slot with a name holds the first file with it
pub first_named : (slots : List Slot) (name : List ℕ) (place : ℕ) → place < length slots → ((k : ℕ) (d : Slot) → k < place → (get_or slots k d).name ≢ name) → ((d : Slot) → (get_or slots place d).name ≡ name) → IsFirstNamed (files_of slots) name place
first_named [] name place within before here = absurd (omega arith)
first_named (slot ∷ later) name zero within before here = here slot
first_named (slot ∷ later) name (suc place) within before here =
    (before 0 slot (omega arith), first_named later name place (omega arith) (λ k d lt. before (suc k) d (omega arith)) (λ d. here d))

-- how many files there are
pub length-files_of : (slots : List Slot) → length (files_of slots) ≡ length slots
length-files_of [] = refl
length-files_of (slot ∷ later) = ap suc (length-files_of later)

-- the file in a slot
pub files_of-at : (slots : List Slot) (place : ℕ) (d : Slot) → get_or (files_of slots) place (file_of d) ≡ file_of (get_or slots place d)
files_of-at [] place d = refl
files_of-at (slot ∷ later) zero d = refl
files_of-at (slot ∷ later) (suc place) d = files_of-at later place d

-- where no slot has a name, no file has it
pub unnamed_files : (slots : List Slot) (name : List ℕ) → ((k : ℕ) (d : Slot) → k < length slots → (get_or slots k d).name ≢ name) → All (λ file. file.name ≢ name) (files_of slots)
unnamed_files [] name h k d lt = absurd (omega arith)
unnamed_files (slot ∷ later) name h zero d lt = h 0 slot (omega arith)
unnamed_files (slot ∷ later) name h (suc k) d lt = unnamed_files later name (λ i e below. h (suc i) e (omega arith)) k d (omega arith)

-- the content of a slot that is the first with a name
pub content_of-slot : (slots : List Slot) (name : List ℕ) (place : ℕ) (slot : Slot) → IsFirstNamed (files_of slots) name place → slot ≡ get_or slots place slot → content_of (files_of slots) name ≡ Some slot.content
content_of-slot slots name place slot first here =
    content_of-at (files_of slots) name place (file_of slot) first
    ∙ ap (λ (file : File). Some file.content) (files_of-at slots place slot)
    ∙ ap (λ (s : Slot). Some s.content) (sym here)

-- how many files and bytes there are after a put under the name of a slot
pub put_len-slot : (slots : List Slot) (name bytes : List ℕ) (place : ℕ) (slot : Slot) → IsFirstNamed (files_of slots) name place → slot ≡ get_or slots place slot →
    (length (put_in (files_of slots) name bytes) ≡ length slots) × (total_len (put_in (files_of slots) name bytes) + length slot.content ≡ total_len (files_of slots) + length bytes)
put_len-slot slots name bytes place slot first here =
    let counts = put_in-len_at (files_of slots) name bytes place (file_of slot) first in
    let same : (get_or (files_of slots) place (file_of slot)).content ≡ slot.content = ap (λ (f : File). f.content) (files_of-at slots place slot) ∙ ap (λ (s : Slot). s.content) (sym here) in
    (counts.0 ∙ length-files_of slots, subst (λ (c : List ℕ). total_len (put_in (files_of slots) name bytes) + length c ≡ total_len (files_of slots) + length bytes) same counts.1)

-- the bytes of a slot are counted
pub content-counted : (slots : List Slot) (name : List ℕ) (place : ℕ) (slot : Slot) → IsFirstNamed (files_of slots) name place → slot ≡ get_or slots place slot → length slot.content ≤ total_len (files_of slots)
content-counted slots name place slot first here =
    let counts = put_len-slot slots name [] place slot first here in omega (arith, counts.1)

-- how many files and bytes there are after a put under a name that isn't there
pub put_len-none : (slots : List Slot) (name bytes : List ℕ) → All (λ file. file.name ≢ name) (files_of slots) →
    (length (put_in (files_of slots) name bytes) ≡ length slots + 1) × (total_len (put_in (files_of slots) name bytes) ≡ total_len (files_of slots) + (length name + length bytes))
put_len-none slots name bytes none =
    let added = put_in-none (files_of slots) name bytes none in
    let file : File = record { name = name; content = bytes } in (
      omega (arith, ap length added, length-append (files_of slots) (file ∷ []), length-files_of slots),
      ap total_len added ∙ total_len-append (files_of slots) file,
    )

-- the tests of room: of bytes in the place of others
pub room-slot : (bytes room used content files most total : ℕ) → content ≤ used → used ≤ room → files ≤ most → total + content ≡ used + bytes → nat_le bytes (room - (used - content)) ≡ (nat_le files most && nat_le total room)
room-slot bytes room used content files most total counted within few sums = grind (arith, nat_tests)

-- of one more file where there is a place for it and room for its name
pub room-added : (bytes name room used files most total : ℕ) → used ≤ room → name ≤ room - used → files ≤ most → total ≡ used + (name + bytes) → nat_le bytes (room - used - name) ≡ (nat_le files most && nat_le total room)
room-added bytes name room used files most total within named few sums = grind (arith, nat_tests)

-- of one more file where there is no place for it
pub room-many : (files most : ℕ) (fits : Bool) → most < files → false ≡ (nat_le files most && fits)
room-many files most fits many = grind (arith, nat_tests)

-- of one more file where there is no room for its name
pub room-long : (bytes name room used files most total : ℕ) → used ≤ room → room - used < name → total ≡ used + (name + bytes) → false ≡ (nat_le files most && nat_le total room)
room-long bytes name room used files most total within long sums = grind (arith, nat_tests)

-- what a test for none says of a count
pub some_from_test : (count : ℕ) (test : Bool) → test ≡ (count == 0) → test ≡ false → 0 < count
some_from_test count test h k = grind (arith, nat_tests)

-- the same where there is none
pub none_from_test : (count : ℕ) (test : Bool) → test ≡ (count == 0) → test ≡ true → count ≡ 0
none_from_test count test h k = grind (arith, nat_tests)

-- what the test of room says
pub room_from_test : (files most total room : ℕ) → (nat_le files most && nat_le total room) ≡ true → (files ≤ most) × (total ≤ room)
room_from_test files most total room h = (grind (arith, nat_tests), grind (arith, nat_tests))
