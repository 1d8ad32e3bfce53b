-- What is built of a program, chain by chain and piece by piece.
use Rattle.std.specs.Prelude.{◌≡◌, ℕ, suc, ◌++◌, List, length, map, Some, slice_get}
use Rattle.std.specs.List.{AllZip}
use Rattle.hs_base.specs.Chains.{Piece, lit}
use Rattle.hs_base.specs.LiteralView.{literal_bytes}
use Rattle.hs_base.specs.Lists.{Each}
use Rattle.hs_base.specs.Literals.{LiteralByte}
use Rattle.hs_base.specs.Regions.{Place}
use Rattle.hs_pieces.specs.LookBack.{begins_with_look_back}
use Rattle.hs_rose.specs.declared.builder.Builder.{Builder}
use Rattle.hs_rose.specs.declared.builder.Named.{Named}
use Rattle.hs_rose.specs.declared.builder.Owner.{Owner}
use Rattle.hs_rose.specs.declared.role.Role.{Role}
use Rattle.hs_rose.specs.declared.shape.Shape.{Shape}
use Rattle.hs_rose.specs.Indexing.{IsIndexed}
use Rattle.hs_rose.specs.Listing.{ListedChain, ListedPiece, listed_pieces}
use Rattle.hs_rose.specs.Made.{IsMade, IsMarked, model_of}
use Rattle.hs_rose.specs.Numbering.{AreApart}
use Rattle.hs_rose.specs.Ordering.{AreInOrder}
use Rattle.hs_rose.specs.Programs.{AreChainsOf, IsRoleOf, Names}

-- the literals so far
abbrev pub literals_of : Builder → List (List LiteralByte)
literals_of b = map literal_bytes b.literals.list.items

-- the pieces so far that have engines
abbrev pub models_of : Builder → List Piece
models_of b = map model_of b.made.items

-- Each literal, and each piece that has an engine, is there once, with what is made of it, and all are found.
pub record IsSound (b : Builder) : Type 0 where
  pub indexed : IsIndexed b.literals
  pub literals : AreApart (literals_of b)
  pub models : AreApart (models_of b)
  pub made : Each IsMade b.made.items
  pub marked : Each IsMarked b.made.items

-- the members of the one list have the same numbers in the other
abbrev pub AreKept : {A : Type 0} → List A → List A → Type 0
AreKept {A} before now = (k : ℕ) (x : A) → slice_get before k ≡ Some x → slice_get now k ≡ Some x

-- The roles and chains stay, and no literal and no engine gets another number.
pub record IsGrown (before now : Builder) : Type 0 where
  pub roles : now.roles.items ≡ before.roles.items
  pub chains : now.chains.items ≡ before.chains.items
  pub literals : AreKept (literals_of before) (literals_of now)
  pub models : AreKept (models_of before) (models_of now)

-- The literals are as many as before, or the piece is one more of them and has the next number.
pub data IsNext (before now : Builder) (piece : Piece) (number : ℕ) : Type 0 where
  as_many : length (literals_of now) ≡ length (literals_of before) → IsNext before now piece number
  one_more : (xs : List LiteralByte) → piece ≡ lit xs → number ≡ length (literals_of before) →
      length (literals_of now) ≡ suc (length (literals_of before)) → IsNext before now piece number

-- The piece has got a number.
pub record IsNamed (before now : Builder) (piece : Piece) (named : Named) : Type 0 where
  pub sound : IsSound now
  pub grown : IsGrown before now
  pub names : Names (literals_of now) (models_of now) named.number named.null piece
  pub next : IsNext before now piece named.number

-- The chains are built, and of the next one these pieces.
pub record IsBuilt (b : Builder) (chains : List ListedChain) (pieces : List ListedPiece) : Type 0 where
  pub sound : IsSound b
  pub roles : AllZip (IsRoleOf (literals_of b) (models_of b)) b.roles.items (listed_pieces chains ++ pieces)
  pub chains_are : AreChainsOf 0 b.chains.items chains
  pub order : AreInOrder b.roles.items (length (literals_of b))

-- what is said of the pieces of the chain
pub record IsOwner (owner : Owner) (x : ListedChain) : Type 0 where
  pub entry : owner.entry ≡ x.entry
  pub chain : owner.chain ≡ x.number
  pub id : owner.id.0 ≡ x.asked.id
  pub least : owner.min_offset ≡ x.asked.least
  pub greatest : owner.max_offset ≡ x.asked.greatest
  pub looks_back : owner.looks_back ≡ begins_with_look_back x.pieces

-- the place of the piece behind so many others
pub record IsPlaceOf (owner : Owner) (before : ℕ) (piece : Piece) (place : Place) : Type 0 where
  pub looks_back : place.looks_back ≡ owner.looks_back
  pub pieces : length place.pieces ≡ before
  pub piece_is : place.piece ≡ piece

-- the role that is made for the piece behind so many others
pub record IsRoleFor (owner : Owner) (before : ℕ) (shape : Shape) (named : Named) (r : Role) : Type 0 where
  pub entry : r.entry ≡ owner.entry
  pub chain : r.chain ≡ owner.chain
  pub piece : r.piece ≡ suc before
  pub id : r.id ≡ owner.id
  pub least : r.min_offset ≡ owner.min_offset
  pub greatest : r.max_offset ≡ owner.max_offset
  pub kind_is : r.kind ≡ shape.kind
  pub size_is : r.field_size ≡ shape.size
  pub number : r.number ≡ named.number
  pub null : r.null ≡ named.null
