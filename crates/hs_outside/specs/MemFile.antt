-- A file in memory, with its room.
use Rattle.std.specs.Prelude.{◌≡◌, ℕ, ◌+◌, ◌≤◌, List, map, length, All}
use Rattle.hs_outside.specs.MemStore.{File, total_len}

-- a file's name and bytes, and how many bytes each may have
pub record Slot : Type 0 where
  pub name : List ℕ
  pub content : List ℕ
  pub room : ℕ

-- the file in the slot
abbrev pub file_of : Slot → File
file_of slot = record { name = slot.name; content = slot.content }

-- the files in the slots
abbrev pub files_of : List Slot → List File
files_of slots = map file_of slots

-- the slots in use and the spare ones: the bytes in use are counted and have room, each slot has room for all, and
-- there is a place for each slot
pub record IsStocked (files spare : List Slot) (places used room : ℕ) : Type 0 where
  pub counted : used ≡ total_len (files_of files)
  pub within : used ≤ room
  pub sizes : All (λ slot. slot.room ≡ room) files
  pub spare_sizes : All (λ slot. slot.room ≡ room) spare
  pub enough : length files + length spare ≤ places
