-- Which program is that of a list.
use Rattle.std.specs.Prelude.{◌≡◌, ℕ, ◌+◌, ◌<◌, ◌^◌, false, List, [], ◌∷◌, length, Some, slice_get}
use Rattle.std.specs.List.{AllZip}
use Rattle.hs_base.specs.declared.context.Mask.{Mask}
use Rattle.hs_base.specs.Chains.{Piece, lit, nfa, rep}
use Rattle.hs_base.specs.Contexts.{Context}
use Rattle.hs_base.specs.ContextSets.{has_context}
use Rattle.hs_base.specs.Literals.{LiteralByte}
use Rattle.hs_base.specs.Regions.{place_size}
use Rattle.hs_base.specs.Chains.{piece_tree}
use Rattle.hs_rose.specs.declared.engine.PieceEngine.{PieceEngine}
use Rattle.hs_rose.specs.declared.role.Role.{Role}
use Rattle.hs_rose.specs.declared.info.ChainInfo.{ChainInfo}
use Rattle.hs_rose.specs.declared.info.EntryInfo.{EntryInfo}
use Rattle.hs_rose.specs.declared.identifiers.Identifier.{Identifier}
use Rattle.hs_rose.specs.Identifiers.{AreIdentifiersOf, ids_of}
use Rattle.hs_rose.specs.Kinds.{place_kind}
use Rattle.hs_rose.specs.Listing.{Asked, ListedChain, ListedPiece, listed_chains, listed_pieces, piece_number}
use Rattle.hs_rose.specs.Made.{IsNullMask}
use Rattle.hs_rose.specs.Naming.{engine_of, literal_of}
use Rattle.hs_rose.specs.Ordering.{AreInOrder}
use Rattle.hs_rose.specs.Numbering.{AreApart}
use Rattle.hs_rose.specs.PieceEngines.{IsEngineOf}
use Rattle.hs_rose.specs.Runnable.{AreRunnable}
use Rattle.hs_base.specs.Lists.{Each}

-- What a program has: what is asked of each entry; the identifiers; the chains; a role for each piece; the literals and
-- engines that roles name by number, each once.
pub record Tables : Type 0 where
  pub entries : List EntryInfo
  pub identifiers : List Identifier
  pub chains : List ChainInfo
  pub roles : List Role
  pub literals : List (List LiteralByte)
  pub engines : List PieceEngine

-- the mask has no context
abbrev pub IsEmptyMask : Mask → Type 0
IsEmptyMask mask = (c : Context) → has_context mask c ≡ false

-- the number is that of a piece that is run, of these, and the mask tells where it has the empty span
pub record NamesPiece (models : List Piece) (number : ℕ) (null : Mask) (piece : Piece) : Type 0 where
  pub named : slice_get models number ≡ Some piece
  pub null_is : IsNullMask null (piece_tree piece)

-- the number is that of a literal of these, which has no empty span
pub record NamesLiteral (literals : List (List LiteralByte)) (number : ℕ) (null : Mask) (xs : List LiteralByte) :
    Type 0 where
  pub named : slice_get literals number ≡ Some xs
  pub null_is : IsEmptyMask null

-- the number and the mask are those of the piece
abbrev pub Names : (literals : List (List LiteralByte)) (models : List Piece) → ℕ → Mask → Piece → Type 0
Names literals models number null (lit xs) = NamesLiteral literals number null xs
Names literals models number null (nfa tree) = NamesPiece models number null (nfa tree)
Names literals models number null (rep set n m) = NamesPiece models number null (rep set n m)

-- The role is that of the piece: it tells where that stands, what is asked of its entry, what is kept of it, and names
-- its literal or, by the piece that is run, its engine.
pub record IsRoleOf (literals : List (List LiteralByte)) (models : List Piece) (r : Role) (x : ListedPiece) :
    Type 0 where
  pub entry : r.entry ≡ x.chain.entry
  pub chain : r.chain ≡ x.chain.number
  pub piece : r.piece ≡ piece_number x
  pub id : r.id.0 ≡ x.chain.asked.id
  pub least : r.min_offset ≡ x.chain.asked.least
  pub greatest : r.max_offset ≡ x.chain.asked.greatest
  pub kind_is : r.kind ≡ place_kind x.place
  pub size_is : r.field_size ≡ place_size x.place
  pub names : Names literals models r.number r.null x.place.piece

-- what is asked of the entry, and the place of its identifier among those
pub record IsInfoOf (ids : List ℕ) (info : EntryInfo) (asked : Asked) : Type 0 where
  pub id : info.id.0 ≡ asked.id
  pub place : slice_get ids info.identifier ≡ Some asked.id
  pub flags : info.flags.0 ≡ asked.flags
  pub least : info.min_offset ≡ asked.least
  pub greatest : info.max_offset ≡ asked.greatest

-- The chain has the roles from that one on, as many as it has pieces.
pub record IsChainOf (first_role : ℕ) (c : ChainInfo) (x : ListedChain) : Type 0 where
  pub entry : c.entry ≡ x.entry
  pub first : c.first ≡ first_role
  pub end : c.end ≡ first_role + length x.pieces

-- The chains are those, whose roles follow one another from that one on.
abbrev pub AreChainsOf : (first_role : ℕ) → List ChainInfo → List ListedChain → Type 0
AreChainsOf first_role [] [] = Unit {0}
AreChainsOf first_role [] (x ∷ xs) = ⊥
AreChainsOf first_role (c ∷ cs) [] = ⊥
AreChainsOf first_role (c ∷ cs) (x ∷ xs) =
    IsChainOf first_role c x × AreChainsOf (first_role + length x.pieces) cs xs

-- Each role names a literal or an engine that is there, and each chain has roles that are there.
pub record IsWhole (t : Tables) : Type 0 where
  pub literals : (j k : ℕ) (r : Role) → slice_get t.roles j ≡ Some r → literal_of r ≡ Some k → k < length t.literals
  pub engines : (j k : ℕ) (r : Role) → slice_get t.roles j ≡ Some r → engine_of r ≡ Some k → k < length t.engines

-- The program is that of the list: a role for each piece of each chain of each entry, in order. Equal literals are one,
-- in the order of their first roles, and equal pieces have one engine.
pub record IsProgramOf (t : Tables) (entries : List Asked) (chains : List (List (List Piece))) : Type 0 where
  pub models : List Piece
  pub few_entries : length entries < 2 ^ 32
  pub few_roles : length t.roles < 2 ^ 64
  pub runnable : Each AreRunnable chains
  pub infos : AllZip (IsInfoOf (ids_of t.identifiers)) t.entries entries
  pub identifiers : AreIdentifiersOf t.identifiers entries
  pub chains_are : AreChainsOf 0 t.chains (listed_chains entries chains)
  pub roles : AllZip (IsRoleOf t.literals models) t.roles (listed_pieces (listed_chains entries chains))
  pub engines : AllZip IsEngineOf t.engines models
  pub one_engine : AreApart models
  pub one_literal : AreApart t.literals
  pub literal_order : AreInOrder t.roles (length t.literals)
