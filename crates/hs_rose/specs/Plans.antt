-- For which patterns a program is made, and the plan of its regions.
use Rattle.std.specs.Prelude.{◌≡◌, ℕ, Bool, false, List, []}
use Rattle.std.specs.List.{sum_by}
use Rattle.hs_base.specs.Chains.{Piece}
use Rattle.hs_base.specs.EndAssertions.{has_embedded_end}
use Rattle.hs_base.specs.Patterns.{Pattern}
use Rattle.hs_base.specs.Regions.{Place, Plan, places_behind, place_size}
use Rattle.hs_base.specs.Trees.{IsProper}
use Rattle.hs_base.specs.WrittenOut.{IsPlain}
use Rattle.hs_pieces.specs.LookBack.{begins_with_look_back}
use Rattle.hs_rose.specs.Identifiers.{asks_single, ids_of, singles_of}
use Rattle.hs_rose.specs.Listing.{Asked}
use Rattle.hs_rose.specs.Programs.{Tables}

-- what is asked of the entry is what is asked of the pattern
pub record AsksFor (asked : Asked) (x : Pattern) : Type 0 where
  pub id : asked.id ≡ x.id
  pub single : asks_single asked ≡ x.single
  pub least : asked.least ≡ x.least
  pub greatest : asked.greatest ≡ x.greatest

-- The pattern's expression can be split into chains that are run.
pub record IsFitPattern (x : Pattern) : Type 0 where
  pub proper : IsProper x.tree
  pub plain : IsPlain x.tree
  pub ends_last : has_embedded_end x.tree false ≡ false

-- the plan of patterns, with these identifiers, of which those are single
abbrev pub plan_with : List Pattern → (identifiers singles : List ℕ) → Plan
plan_with P identifiers singles = record {
  patterns = P;
  identifiers = identifiers;
  singles = singles;
  looks_back = begins_with_look_back;
}

-- the plan of patterns, with the identifiers of the program
abbrev pub plan_of : Tables → List Pattern → Plan
plan_of t P = plan_with P (ids_of t.identifiers) (ids_of (singles_of t.identifiers))

-- the place of a piece behind those, in a chain whose first one looks back or not
abbrev pub place_with : (looks_back : Bool) → List Piece → Piece → Place
place_with looks_back pieces piece = record { looks_back = looks_back; pieces = pieces; piece = piece }

-- the places of the pieces of a chain
abbrev pub chain_places : List Piece → List Place
chain_places chain = places_behind (begins_with_look_back chain) [] chain

-- how many bytes the fields of its pieces take
abbrev pub chain_size : List Piece → ℕ
chain_size chain = sum_by place_size (chain_places chain)

-- and those of the pieces of chains
abbrev pub chains_size : List (List Piece) → ℕ
chains_size chains = sum_by chain_size chains
