-- What a graph is made of: tables whose chains follow one another.
use Rattle.std.specs.Prelude.{◌≡◌, ◌<◌, ◌≤◌, ℕ, suc, List, length, map, Some, slice_get}
use Rattle.hs_base.specs.Chains.{Piece}
use Rattle.hs_base.specs.Literals.{LiteralByte}
use Rattle.hs_layout.specs.Layouts.{Laid, laid_size, layout_of}
use Rattle.hs_rose.specs.declared.info.ChainInfo.{ChainInfo}
use Rattle.hs_rose.specs.declared.kind.Kind.TheVariants as kinds
use Rattle.hs_rose.specs.declared.role.Role.{Role}
use Rattle.hs_rose.specs.Identifiers.{singles_of}
use Rattle.hs_rose.specs.Listing.{Asked}
use Rattle.hs_rose.specs.Programs.{Tables, IsProgramOf}
use Rattle.hs_compile.specs.Sizes.{greatest_size}

-- the tables are those of a list
pub record IsProgram (t : Tables) : Type 0 where
  pub entries : List Asked
  pub chains : List (List (List Piece))
  pub is : IsProgramOf t entries chains

-- the sizes of the fields
abbrev pub sizes_of : List Role → List ℕ
sizes_of roles = map (λ role. role.field_size) roles

-- the layout of the regions of a program
abbrev pub program_layout : Tables → Laid
program_layout t = layout_of (length (singles_of t.identifiers)) (length t.identifiers) (sizes_of t.roles)

-- The layout is that of the program, and its regions are small enough.
pub record IsLaidFor (t : Tables) (l : Laid) : Type 0 where
  pub laid : l ≡ program_layout t
  pub small : laid_size l ≤ greatest_size

-- the role's piece is asked anew where the literal behind it ends
abbrev pub LooksBack : Role → Type 0
LooksBack r = r.kind ≡ kinds.LookBack

-- the chain is one of the tables
abbrev pub IsOneOf : Tables → ChainInfo → Type 0
IsOneOf t c = (j : ℕ) × (slice_get t.chains j ≡ Some c)

-- Each chain has roles and an entry that are there, and the chains follow one another. Only its first piece looks back,
-- and behind that stands a literal: none ends with such a piece. None begins with a literal that is entered. Each
-- literal is short.
pub record IsReady (t : Tables) : Type 0 where
  pub order : (j : ℕ) (c : ChainInfo) → slice_get t.chains j ≡ Some c → c.first ≤ c.end
  pub within : (j : ℕ) (c : ChainInfo) → slice_get t.chains j ≡ Some c → c.end ≤ length t.roles
  pub numbered : (j : ℕ) (c : ChainInfo) → slice_get t.chains j ≡ Some c → 1 ≤ c.entry
  pub entry : (j : ℕ) (c : ChainInfo) → slice_get t.chains j ≡ Some c → c.entry ≤ length t.entries
  pub begins : (c : ChainInfo) → slice_get t.chains 0 ≡ Some c → c.first ≡ 0
  pub follows : (j : ℕ) (c d : ChainInfo) → slice_get t.chains j ≡ Some c →
      slice_get t.chains (suc j) ≡ Some d → d.first ≡ c.end
  pub ends : (j : ℕ) (c : ChainInfo) → slice_get t.chains j ≡ Some c → suc j ≡ length t.chains →
      c.end ≡ length t.roles
  pub none : length t.chains ≡ 0 → length t.roles ≡ 0
  pub looks_first : (j i : ℕ) (c : ChainInfo) (r : Role) → slice_get t.chains j ≡ Some c → c.first ≤ i → i < c.end →
      slice_get t.roles i ≡ Some r → LooksBack r → i ≡ c.first
  pub pairs : (c : ChainInfo) (i : ℕ) (before r : Role) → IsOneOf t c → c.first ≤ i → suc i < c.end →
      slice_get t.roles i ≡ Some before → LooksBack before → slice_get t.roles (suc i) ≡ Some r →
      r.kind ≡ kinds.BareLiteral
  pub last : (j i : ℕ) (c : ChainInfo) (r : Role) → slice_get t.chains j ≡ Some c → c.first ≤ i → suc i ≡ c.end →
      slice_get t.roles i ≡ Some r → LooksBack r → ⊥
  pub first : (j : ℕ) (c : ChainInfo) (r : Role) → slice_get t.chains j ≡ Some c → c.first < c.end →
      slice_get t.roles c.first ≡ Some r → r.kind ≡ kinds.Literal → ⊥
  pub short : (number : ℕ) (literal : List LiteralByte) → slice_get t.literals number ≡ Some literal →
      length literal ≤ 32
