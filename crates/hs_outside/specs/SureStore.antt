-- A store over memory that never fails: what it holds, and what a put leaves.
use Rattle.std.specs.Prelude.{ℕ, Bool, true, false, ◌&&◌, nat_le, List, [], length, if◌then◌else◌}
use Rattle.hs_outside.specs.MemStore.{File, content_of, told_of, put_in, total_len}
use Rattle.hs_outside.specs.Store.{Told, untold}

-- the files whose puts had room, the most files and the most bytes of names and contents that it holds, and whether
-- each put until now had room
pub record Cabinet : Type 0 where
  pub files : List File
  pub most_files : ℕ
  pub room : ℕ
  pub is_told : Bool

-- a store without a file
abbrev pub first_cabinet : ℕ → ℕ → Cabinet
first_cabinet most_files room = record { files = []; most_files = most_files; room = room; is_told = true }

-- what the store tells of a name: after a put past the room nothing
abbrev pub told_by : Cabinet → List ℕ → Told
told_by store name = if store.is_told then told_of (content_of store.files name) else untold

-- after the put there would be no more files and bytes than there is room for
abbrev pub fits_in : Cabinet → List ℕ → List ℕ → Bool
fits_in store name bytes =
    nat_le (length (put_in store.files name bytes)) store.most_files
    && nat_le (total_len (put_in store.files name bytes)) store.room

-- the store after a put: of a file that has room with it, else with the put lost
abbrev pub after_filing : Cabinet → List ℕ → List ℕ → Cabinet
after_filing store name bytes =
    if fits_in store name bytes
    then record store { files = put_in store.files name bytes }
    else record store { is_told = false }
