-- What a store tells of each name, and what its calls say of it.
use Rattle.std.specs.Prelude.{◌≡◌, ◌≢◌, ◌⊎◌, ℕ, ◌<◌, ◌≤◌, List, [], ◌++◌, length, take, drop}
use Rattle.hs_outside.specs.Counts.{Rose}
use Rattle.hs_outside.specs.declared.fault.StoreFault.{StoreFault}
use Rattle.hs_outside.specs.declared.fault.StoreFault.TheVariants.{Absent, Failed}
use Rattle.hs_outside.specs.declared.fault.FileFault.{FileFault}
use Rattle.hs_outside.specs.declared.fault.FileFault.TheVariants.{Absent as Gone, Failed as Broken, Limit, Memory}

-- what a store tells of a name: nothing, that it has no such file, or the file's bytes
pub data Told : Type 0 where
  untold : Told
  lacks : Told
  holds : List ℕ → Told

-- the file has these bytes from the offset on
abbrev pub HasAt : Told → ℕ → List ℕ → Type 0
HasAt untold offset bytes = Unit {0}
HasAt lacks offset bytes = ⊥
HasAt (holds file) offset bytes = (rest : List ℕ) × (drop offset file ≡ bytes ++ rest)

-- the file has no byte at the offset or past it
abbrev pub EndsBy : Told → ℕ → Type 0
EndsBy untold offset = Unit {0}
EndsBy lacks offset = ⊥
EndsBy (holds file) offset = length file ≤ offset

-- n bytes came: they are the first of the buffer, whose rest is as it was. None come only at the file's end or without
-- room.
pub record ReadsAt (told : Told) (offset : ℕ) (old new : List ℕ) (n : ℕ) : Type 0 where
  pub within : n ≤ length new
  pub given : HasAt told offset (take n new)
  pub rest : drop n new ≡ drop n old
  pub end : n ≡ 0 → 0 < length new → EndsBy told offset

-- where it is told, the store has no such file
abbrev pub IsMissing : Told → Type 0
IsMissing untold = Unit {0}
IsMissing lacks = Unit {0}
IsMissing (holds file) = ⊥

-- where it is told, the store has such a file
abbrev pub IsPresent : Told → Type 0
IsPresent untold = Unit {0}
IsPresent lacks = ⊥
IsPresent (holds file) = Unit {0}

-- why nothing was read: no such file, with the count as it was; or a fault, which is counted, and only of a file that
-- isn't told missing
abbrev pub Refuses : StoreFault → Told → ℕ → ℕ → Type 0
Refuses Absent told before now = IsMissing told × (now ≡ before)
Refuses Failed told before now = IsPresent told × Rose before now

-- what is told of a name after a file was put there
abbrev pub told_put : Told → List ℕ → Told
told_put untold bytes = untold
told_put lacks bytes = holds bytes
told_put (holds file) bytes = holds bytes

-- what is told of each other name is as it was
abbrev pub KeepsOthers : (List ℕ → Told) → (List ℕ → Told) → List ℕ → Type 0
KeepsOthers before now name = (other : List ℕ) → other ≢ name → now other ≡ before other

-- the file was put, and what is told of each other name is as it was
pub record Puts (before now : List ℕ → Told) (name bytes : List ℕ) : Type 0 where
  pub file : now name ≡ told_put (before name) bytes
  pub others : KeepsOthers before now name

-- nothing is told of any name
abbrev pub TellsNothing : (List ℕ → Told) → Type 0
TellsNothing now = (name : List ℕ) → now name ≡ untold

-- a store may stop telling with a put, and then tells nothing later
abbrev pub PutsOrHides : (List ℕ → Told) → (List ℕ → Told) → List ℕ → List ℕ → Type 0
PutsOrHides before now name bytes = Puts before now name bytes ⊎ TellsNothing now

-- the one file may be anything now, and what is told of each other name is as it was; what wasn't told isn't told now
pub record Spoils (before now : List ℕ → Told) (name : List ℕ) : Type 0 where
  pub untold_stays : before name ≡ untold → now name ≡ untold
  pub others : KeepsOthers before now name

-- the file begins with these bytes; of a file that is missing they are none
abbrev pub Begins : Told → List ℕ → Type 0
Begins untold seen = Unit {0}
Begins lacks seen = seen ≡ []
Begins (holds file) seen = (rest : List ℕ) × (file ≡ seen ++ rest)

-- the file is these bytes
abbrev pub IsFile : Told → List ℕ → Type 0
IsFile untold bytes = Unit {0}
IsFile lacks bytes = ⊥
IsFile (holds file) bytes = file ≡ bytes

-- the file is longer than the limit
abbrev pub IsLonger : Told → ℕ → Type 0
IsLonger untold limit = Unit {0}
IsLonger lacks limit = ⊥
IsLonger (holds file) limit = limit < length file

-- why a file wasn't read whole, with the count of faults before and now
abbrev pub Prevents : FileFault → Told → ℕ → ℕ → ℕ → Type 0
Prevents Gone told limit before now = IsMissing told × (now ≡ before)
Prevents Broken told limit before now = IsPresent told × Rose before now
Prevents Limit told limit before now = IsLonger told limit × (now ≡ before)
Prevents Memory told limit before now = IsPresent told × (now ≡ before)
