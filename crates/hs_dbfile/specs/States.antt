-- The state file: the digest of a list and the region of a stream over it, behind a head. Numbers are written with
-- their lowest byte first.
use Rattle.std.specs.Prelude.{◌≡◌, ◌≢◌, ℕ, ◌+◌, ◌<◌, ◌^◌, List, ◌++◌, length, codes}
use Rattle.std.specs.Int.{w16, w32, to_le_bytes}
use Rattle.hs_base.specs.Lists.{Each}
use Rattle.hs_dbfile.specs.Reading.{IsPlace}
use Rattle.hs_dbfile.specs.declared.state.StateFault.{StateFault}
use Rattle.hs_dbfile.specs.declared.state.StateFault.TheVariants as fault
use Rattle.hs_dbfile.specs.declared.state.StateParts.{StateParts}

-- what the form of a state file holds
pub record State : Type 0 where
  pub version : ℕ
  pub digest : List ℕ
  pub region : List ℕ

-- a region, behind its length in 32 bits
abbrev pub region_bytes : List ℕ → List ℕ
region_bytes region = to_le_bytes w32 (length region) ++ region

-- the name of the form, the version in 16 bits, the digest and the region, and nothing behind it
abbrev pub state_bytes : State → List ℕ
state_bytes state =
    codes "HSST" ++ (to_le_bytes w16 state.version ++ (state.digest ++ region_bytes state.region))

-- a digest: 32 bytes
pub record IsDigest (digest : List ℕ) : Type 0 where
  pub sized : length digest ≡ 32
  pub bytes : Each (λ b. b < 2 ^ 8) digest

-- bytes whose length has 32 bits
pub record IsStorable (region : List ℕ) : Type 0 where
  pub short : length region < 2 ^ 32
  pub bytes : Each (λ b. b < 2 ^ 8) region

-- its parts have their widths
pub record IsState (state : State) : Type 0 where
  pub numbered : state.version < 2 ^ 16
  pub digest : IsDigest state.digest
  pub region : IsStorable state.region

-- The bytes have the form of a state file, and hold this. The form asks neither which version that is, nor whose
-- digest, nor what the region says.
pub record HasForm (bytes : List ℕ) (state : State) : Type 0 where
  pub is : IsState state
  pub whole : bytes ≡ state_bytes state

-- the version of the state files that are written
abbrev pub state_version : ℕ
state_version = 2

-- The bytes are the state file of the region of a stream over the list of that digest.
abbrev pub IsStateFile : (bytes digest region : List ℕ) → Type 0
IsStateFile bytes digest region =
    HasForm bytes (record { version = state_version; digest = digest; region = region })

-- The bytes haven't the form of a state file, and the longest beginning of them that begins one has this length.
abbrev pub IsStatePlace : (bytes : List ℕ) (at : ℕ) → Type 0
IsStatePlace bytes at = IsPlace state_bytes IsState bytes at

-- The form is there, with another version.
pub record HasVersion (bytes : List ℕ) (version : ℕ) : Type 0 where
  pub state : State
  pub form : HasForm bytes state
  pub told : state.version ≡ version
  pub other : version ≢ state_version

-- The form is there with the version, and with another digest.
pub record IsOfOther (bytes digest : List ℕ) : Type 0 where
  pub state : State
  pub form : HasForm bytes state
  pub same : state.version ≡ state_version
  pub other : state.digest ≢ digest

-- Why bytes gave no region for that digest. The form comes first, then the version, then the digest.
abbrev pub IsStateFaultOf : (bytes digest : List ℕ) → StateFault → Type 0
IsStateFaultOf bytes digest (fault.Form at) = IsStatePlace bytes at
IsStateFaultOf bytes digest (fault.Version version) = HasVersion bytes version
IsStateFaultOf bytes digest fault.OtherDatabase = IsOfOther bytes digest

-- It has the version and that digest, and this is its region.
pub record IsOfDigest (state : State) (digest region : List ℕ) : Type 0 where
  pub version : state.version ≡ state_version
  pub same : state.digest ≡ digest
  pub is : region ≡ state.region

-- Why it gives no region for that digest.
abbrev pub Differs : State → (digest : List ℕ) → StateFault → Type 0
Differs state digest (fault.Form at) = ⊥
Differs state digest (fault.Version version) = (state.version ≡ version) × (version ≢ state_version)
Differs state digest fault.OtherDatabase = (state.version ≡ state_version) × (state.digest ≢ digest)

-- what parts are that are still in the file
abbrev pub state_of : StateParts → State
state_of parts = record { version = parts.version; digest = parts.digest; region = parts.region.now }

-- What is read of bytes for a digest is one region, or one fault.
pub record IsReadOnce (bytes digest : List ℕ) : Type 0 where
  pub regions : (x y : List ℕ) → IsStateFile bytes digest x → IsStateFile bytes digest y → x ≡ y
  pub never : (x : List ℕ) (fault : StateFault) → IsStateFile bytes digest x → IsStateFaultOf bytes digest fault → ⊥
  pub faults : (x y : StateFault) → IsStateFaultOf bytes digest x → IsStateFaultOf bytes digest y → x ≡ y

-- That holds of any bytes and any digest.
abbrev pub StatesReadOnce : Type 0
StatesReadOnce = (bytes digest : List ℕ) → IsReadOnce bytes digest

-- what two files that have the same bytes have in common, and how long they are
pub record IsSameState (bytes digest digest' region region' : List ℕ) : Type 0 where
  pub digests : digest ≡ digest'
  pub regions : region ≡ region'
  pub long : length bytes ≡ 42 + length region

-- A state file is of one digest and one region, and 42 bytes longer than the region.
abbrev pub StatesAreOne : Type 0
StatesAreOne =
    (bytes digest digest' region region' : List ℕ) →
    IsStateFile bytes digest region →
    IsStateFile bytes digest' region' →
    IsSameState bytes digest digest' region region'
