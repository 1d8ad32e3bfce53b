-- What is built of a packing while a list is compiled, chain by chain.
use Rattle.std.specs.Prelude.{◌≡◌, ℕ, suc, ◌≤◌, false, List, [], ◌∷◌, ◌++◌, length, map, flat_map, Option, Some, None}
use Rattle.hs_base.specs.Chains.{Piece, chains_of, lit, nfa, rep}
use Rattle.hs_base.specs.EndAssertions.{has_embedded_end}
use Rattle.hs_base.specs.Regions.{Place, Plan, list_places, place_size, places_behind}
use Rattle.hs_base.specs.Trees.{Tree}
use Rattle.hs_base.specs.WrittenOut.{IsPlain, count, write_out}
use Rattle.hs_layout.specs.Layouts.{Laid, layout_of}
use Rattle.hs_pieces.specs.LookBack.{begins_with_look_back}
use Rattle.hs_states.specs.StateSets.{AreSetsOf}
use Rattle.hs_states.specs.declared.state_sets.StateSets.{StateSets}
use Rattle.hs_kept.specs.KeptRegions.{IsKeptByState}
use Rattle.hs_kept.specs.declared.builder.Candidate.{Candidate}
use Rattle.hs_kept.specs.declared.builder.PackingBuilder.{PackingBuilder}

-- An expression has an automaton.
abbrev pub IsBuildable : Piece → Type 0
IsBuildable (lit xs) = Unit {0}
IsBuildable (nfa t) = IsPlain t × (count (write_out t) ≤ 512) × (has_embedded_end t false ≡ false)
IsBuildable (rep set least greatest) = Unit {0}

-- ---- the pieces

-- the pieces of a chain, in order
abbrev pub places_in_chain : List Piece → List Place
places_in_chain chain = places_behind (begins_with_look_back chain) [] chain

-- the pieces of chains
abbrev pub places_in_chains : List (List Piece) → List Place
places_in_chains chains = flat_map places_in_chain chains

-- the pieces of a list of expressions, by the chains of each
abbrev pub places_in_list : List (List (List Piece)) → List Place
places_in_list lists = flat_map places_in_chains lists

-- the piece isn't kept by the number of a state
abbrev pub IsKeptByField : Place → Type 0
IsKeptByField p = (tree : Tree) → IsKeptByState p tree → ⊥

-- a piece that a chain begins with, and that doesn't look back
abbrev pub first_place : Piece → Place
first_place piece = record { looks_back = false; pieces = []; piece = piece }

-- It is told whether the piece is kept by the number of a state, and then with the sets of the states.
pub data IsPieceTold (p : Place) : Option StateSets → Type 0 where
  by_field : IsKeptByField p → IsPieceTold p None
  by_state : {sets : StateSets} (tree : Tree) → IsKeptByState p tree → AreSetsOf sets tree → IsPieceTold p (Some sets)

-- So it is of the first piece of a chain. No other one is kept so.
abbrev pub IsFirstTold : (chain : List Piece) → Option StateSets → Type 0
IsFirstTold [] found = found ≡ None
IsFirstTold (piece ∷ pieces) found =
    IsPieceTold
    (record { looks_back = begins_with_look_back (piece ∷ pieces); pieces = []; piece = piece })
    found

-- ---- the list so far

-- the candidate of the piece of that number, where it is kept by the number of a state
abbrev pub candidates_of : (number : ℕ) → Option StateSets → List Candidate
candidates_of number None = []
candidates_of number (Some sets) = record { number = number; sets = sets } ∷ []

-- Of those pieces, numbered from that number on, the ones that are kept by the number of a state have the candidates,
-- in order.
pub data AreCandidates : List Place → List Candidate → (number : ℕ) → Type 0 where
  none : {number : ℕ} → AreCandidates [] [] number
  field : {p : Place} {ps : List Place} {cs : List Candidate} {number : ℕ} →
      IsKeptByField p →
      AreCandidates ps cs (suc number) →
      AreCandidates (p ∷ ps) cs number
  state : {p : Place} {ps : List Place} {c : Candidate} {cs : List Candidate} {number : ℕ} (tree : Tree) →
      IsKeptByState p tree →
      c.number ≡ number →
      AreSetsOf c.sets tree →
      AreCandidates ps cs (suc number) →
      AreCandidates (p ∷ ps) (c ∷ cs) number

-- The builder has the candidates of those pieces, and their number.
pub record HasCandidates (builder : PackingBuilder) (places : List Place) : Type 0 where
  pub candidates : AreCandidates places builder.candidates.items 0
  pub pieces : builder.pieces ≡ length places

-- It is built for a list of expressions, by the chains of each.
abbrev pub IsPackedTo : PackingBuilder → List (List (List Piece)) → Type 0
IsPackedTo builder lists = HasCandidates builder (places_in_list lists)

-- So it is with one expression more, which has these chains.
abbrev pub IsPackedWith : (old new : PackingBuilder) (chains : List (List Piece)) → Type 0
IsPackedWith old new chains =
    (before : List (List (List Piece))) → IsPackedTo old before → IsPackedTo new (before ++ chains ∷ [])

-- It is built for the patterns of the plan, and the layout is that of the plan's regions.
pub record IsBuiltForPlan (builder : PackingBuilder) (l : Laid) (plan : Plan) : Type 0 where
  pub looks_back : plan.looks_back ≡ begins_with_look_back
  pub packed : IsPackedTo builder (map (λ x. chains_of x.tree) plan.patterns)
  pub layout : l ≡ layout_of (length plan.singles) (length plan.identifiers) (map place_size (list_places plan))
