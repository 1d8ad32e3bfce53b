-- A store over memory: what it holds, and what its calls give and leave.
use Rattle.std.specs.Prelude.{◌≡◌, ◌≢◌, ℕ, zero, suc, ◌+◌, ◌-◌, Bool, ◌||◌, ◌&&◌, not, nat_le, List, [], ◌∷◌, length}
use Rattle.std.specs.Prelude.{min, if◌then◌else◌, Option, None, Some, Result, Ok, Err}
use Rattle.std.specs.Str.{bytes_eq}
use Rattle.hs_outside.specs.FaultPlan.{Plan, first_plan, is_listed, called, failed}
use Rattle.hs_outside.specs.Store.{Told, lacks, holds}
use Rattle.hs_outside.specs.declared.fault.StoreFault.{StoreFault}
use Rattle.hs_outside.specs.declared.fault.StoreFault.TheVariants.{Absent, Failed}

-- a file's name and bytes
pub record File : Type 0 where
  pub name : List ℕ
  pub content : List ℕ

-- the files, the most files and the most bytes of names and contents that it holds, and the calls that fail
pub record StoreState : Type 0 where
  pub files : List File
  pub most_files : ℕ
  pub room : ℕ
  pub plan : Plan

-- a store without a file
abbrev pub first_store : ℕ → ℕ → List ℕ → StoreState
first_store most_files room fails = record { files = []; most_files = most_files; room = room; plan = first_plan fails }

-- the bytes of the file of this name
abbrev pub content_of : List File → List ℕ → Option (List ℕ)
content_of [] name = None
content_of (file ∷ later) name = if bytes_eq file.name name then Some file.content else content_of later name

-- what is told of a file that is there with these bytes, or isn't there
abbrev pub told_of : Option (List ℕ) → Told
told_of None = lacks
told_of (Some content) = holds content

-- what the store tells of a name
abbrev pub told_in : StoreState → List ℕ → Told
told_in store name = told_of (content_of store.files name)

-- the answer to a read at an offset into a buffer with this room, where the next call is or isn't listed to fail
abbrev pub read_answer : Option (List ℕ) → Bool → ℕ → ℕ → Result ℕ StoreFault
read_answer None listed offset room = Err Absent
read_answer (Some content) listed offset room = if listed then Err Failed else Ok (min room (length content - offset))

-- the calls after such a read: it failed only where it was listed and the file is there
abbrev pub plan_read : Option (List ℕ) → Plan → Plan
plan_read None plan = called plan
plan_read (Some content) plan = if is_listed plan then failed plan else called plan

-- how many bytes the names and contents have together
abbrev pub total_len : List File → ℕ
total_len [] = 0
total_len (file ∷ later) = length file.name + length file.content + total_len later

-- the files after these bytes were put under this name
abbrev pub put_in : List File → List ℕ → List ℕ → List File
put_in [] name bytes = record { name = name; content = bytes } ∷ []
put_in (file ∷ later) name bytes =
    if bytes_eq file.name name
    then record file { content = bytes } ∷ later
    else file ∷ put_in later name bytes

-- after the put there would be no more files and bytes than there is room for
abbrev pub has_room : StoreState → List ℕ → List ℕ → Bool
has_room store name bytes =
    nat_le (length (put_in store.files name bytes)) store.most_files
    && nat_le (total_len (put_in store.files name bytes)) store.room

-- a put fails where it is listed, and where it has no room
abbrev pub refuses_put : StoreState → List ℕ → List ℕ → Bool
refuses_put store name bytes = is_listed store.plan || not (has_room store name bytes)

-- the store after a put
abbrev pub after_put : StoreState → List ℕ → List ℕ → StoreState
after_put store name bytes =
    if refuses_put store name bytes
    then record store { plan = failed store.plan }
    else record store { files = put_in store.files name bytes; plan = called store.plan }

-- the first file of this name stands at this place
abbrev pub IsFirstNamed : List File → List ℕ → ℕ → Type 0
IsFirstNamed [] name place = ⊥
IsFirstNamed (file ∷ later) name zero = file.name ≡ name
IsFirstNamed (file ∷ later) name (suc place) = (file.name ≢ name) × IsFirstNamed later name place
