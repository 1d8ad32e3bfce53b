-- What it means to read a value from the front of bytes, for any code that gives each value its bytes.
use Rattle.std.specs.Prelude.{◌≡◌, ℕ, ◌<◌, ◌≤◌, ◌^◌, List, [], ◌∷◌, ◌++◌, length}
use Rattle.std.specs.Int.{w32, to_le_bytes}
use Rattle.hs_base.specs.Lists.{Each}
use Rattle.hs_dbfile.specs.Files.{head_bytes}

-- The bytes begin with the code of a value that is allowed, and the rest stands behind it.
pub record IsRead
    {A : Type 0} (code : A → List ℕ) (Allowed : A → Type 0) (bytes : List ℕ) (value : A)
    (rest : List ℕ) : Type 0 where
  pub parts : bytes ≡ code value ++ rest
  pub allowed : Allowed value

-- both are empty, or begin with the same byte
pub data SameFirst : List ℕ → List ℕ → Type 0 where
  neither : SameFirst [] []
  same : {b : ℕ} {xs ys : List ℕ} → SameFirst (b ∷ xs) (b ∷ ys)

-- Up to the rest the bytes begin the code of an allowed value. No code of an allowed value stands where they are
-- followed by the first byte of the rest, or, where the rest is empty, by nothing.
pub record Stops {A : Type 0} (code : A → List ℕ) (Allowed : A → Type 0) (bytes rest : List ℕ) : Type 0 where
  pub front : List ℕ
  pub parts : bytes ≡ front ++ rest
  pub value : A
  pub more : List ℕ
  pub allowed : Allowed value
  pub begins : code value ≡ front ++ more
  pub refused : (others : List ℕ) (other : A) (behind : List ℕ) →
      SameFirst rest others →
      Allowed other →
      front ++ others ≡ code other ++ behind →
      ⊥

-- the code of some allowed value begins with these bytes
pub record BeginsCode {A : Type 0} (code : A → List ℕ) (Allowed : A → Type 0) (bytes : List ℕ) : Type 0 where
  pub value : A
  pub rest : List ℕ
  pub allowed : Allowed value
  pub whole : bytes ++ rest ≡ code value

-- The bytes are no code of an allowed value, and the longest beginning of them that begins one has this length.
pub record IsPlace {A : Type 0} (code : A → List ℕ) (Allowed : A → Type 0) (bytes : List ℕ) (at : ℕ) : Type 0 where
  pub no_code : (value : A) → Allowed value → bytes ≡ code value → ⊥
  pub front : List ℕ
  pub rest : List ℕ
  pub parts : bytes ≡ front ++ rest
  pub place : length front ≡ at
  pub begins : BeginsCode code Allowed front
  pub longest : (longer behind : List ℕ) →
      bytes ≡ longer ++ behind → BeginsCode code Allowed longer → length longer ≤ at

-- a number of one byte
abbrev pub one_byte : ℕ → List ℕ
one_byte n = n ∷ []

-- bytes are their own code
abbrev pub itself : List ℕ → List ℕ
itself bytes = bytes

-- the code of the one value that there is
abbrev pub always : List ℕ → Unit {0} → List ℕ
always bytes value = bytes

-- that value is allowed
abbrev pub Always : Unit {0} → Type 0
Always value = Unit {0}

-- a bound of 64 bits that has this value where its bit is 0
pub record IsBound (given missing n : ℕ) : Type 0 where
  pub fits : n < 2 ^ 64
  pub absent : given ≡ 0 → n ≡ missing

-- a text whose length has 16 bits
pub record IsText (text : List ℕ) : Type 0 where
  pub short : length text < 2 ^ 16
  pub bytes : Each (λ b. b < 2 ^ 8) text

-- the head and how many entries there are
abbrev pub start_bytes : ℕ → List ℕ
start_bytes count = head_bytes ++ to_le_bytes w32 count
