-- The roles of a program that have nodes, in order, and the keys of what they run.
--
-- A role that looks back has no node of its own: it has one together with the literal behind it.
use Rattle.std.specs.Prelude.{◌≡◌, ◌+◌, ◌*◌, ◌^◌, ◌<◌, ◌≤◌, ℕ, suc, List, [], ◌∷◌, ◌++◌, length, Some, slice_get}
use Rattle.std.specs.Prelude.{flat_map}
use Rattle.std.specs.List.{AllZip}
use Rattle.hs_forest.specs.declared.builder.Builder.{Builder}
use Rattle.hs_forest.specs.Forests.{ForestTables, IsForestOf, beginnings}
use Rattle.hs_forest.specs.Growing.{IsBuilt}
use Rattle.hs_nodes.specs.declared.table.NodeKind.{NodeKind}
use Rattle.hs_nodes.specs.declared.table.NodeKind.TheVariants.{Engine, Literal, FirstLiteral, LookBack}
use Rattle.hs_rose.specs.declared.info.ChainInfo.{ChainInfo}
use Rattle.hs_rose.specs.declared.role.Role.{Role}
use Rattle.hs_rose.specs.Programs.{Tables}
use Rattle.hs_compile.specs.declared.step.Step.{Step}
use Rattle.hs_compile.specs.GraphKinds.{IsKindAt}
use Rattle.hs_compile.specs.GraphTables.{LooksBack}

-- the group of the key of a kind: kinds of different groups run different pieces
abbrev pub key_group : NodeKind → ℕ
key_group (FirstLiteral number len) = 0
key_group (Literal number len) = 1
key_group (Engine number null) = 2
key_group (LookBack pair) = pair.engine + 3

-- and its number in the group
abbrev pub key_number : NodeKind → ℕ
key_number (FirstLiteral number len) = number
key_number (Literal number len) = number
key_number (Engine number null) = number
key_number (LookBack pair) = pair.literal

-- The key is that of what a node of that kind runs.
pub record IsKeyOf (kind : NodeKind) (key : ℕ) : Type 0 where
  pub small : key_number kind < 2 ^ 32
  pub is : key ≡ key_group kind * 2 ^ 32 + key_number kind

-- The role of that number, in a chain whose roles begin with `first`, has a node of that kind.
pub record HasKind (t : Tables) (first i : ℕ) (kind : NodeKind) : Type 0 where
  pub role : Role
  pub there : slice_get t.roles i ≡ Some role
  pub alone : LooksBack role → ⊥
  pub is : IsKindAt t first i kind

-- The keys of the roles from `first` to before that one, but for those that look back.
pub data AreKeysTo (t : Tables) (first : ℕ) : (i : ℕ) (keys : List ℕ) → Type 0 where
  begins : (i : ℕ) (keys : List ℕ) → i ≡ first → keys ≡ [] → AreKeysTo t first i keys
  passes : (i : ℕ) (keys : List ℕ) (j : ℕ) (r : Role) → first ≤ j → suc j ≡ i → slice_get t.roles j ≡ Some r →
      LooksBack r → AreKeysTo t first j keys → AreKeysTo t first i keys
  goes_on : (i : ℕ) (keys : List ℕ) (j key : ℕ) (kind : NodeKind) (front : List ℕ) → first ≤ j → suc j ≡ i →
      HasKind t first j kind → IsKeyOf kind key → keys ≡ front ++ key ∷ [] → AreKeysTo t first j front →
      AreKeysTo t first i keys

-- The step is that of a role of a chain, and the keys are those up to it.
pub record IsStepOf (t : Tables) (step : Step) (keys : List ℕ) : Type 0 where
  pub number : ℕ
  pub chain : ChainInfo
  pub chain_there : slice_get t.chains number ≡ Some chain
  pub low : chain.first ≤ step.role
  pub high : step.role < chain.end
  pub has : HasKind t chain.first step.role step.kind
  pub front : List ℕ
  pub key : ℕ
  pub key_is : IsKeyOf step.kind key
  pub keys_are : keys ≡ front ++ key ∷ []
  pub before : AreKeysTo t chain.first step.role front

-- the role of that number has one of the steps
pub record HasStep (steps : List Step) (i : ℕ) : Type 0 where
  pub place : ℕ
  pub step : Step
  pub there : slice_get steps place ≡ Some step
  pub role : step.role ≡ i

-- The keys are those of the chains.
abbrev pub AreChainKeys : Tables → List (List ℕ) → Type 0
AreChainKeys t keys =
    (j : ℕ) (c : ChainInfo) (own : List ℕ) →
    slice_get t.chains j ≡ Some c →
    slice_get keys j ≡ Some own →
    AreKeysTo t c.first c.end own

-- roles rise by step
abbrev pub AreRisingSteps : List Step → Type 0
AreRisingSteps steps =
    (j k : ℕ) (a b : Step) → j < k → slice_get steps j ≡ Some a → slice_get steps k ≡ Some b → a.role < b.role

-- The steps of the roles before that number: those of whole chains with these keys, and of one more with `more`.
pub record AreStepsTo (t : Tables) (keys : List (List ℕ)) (more : List ℕ) (roles : ℕ) (steps : List Step) :
    Type 0 where
  pub chains : AreChainKeys t keys
  pub each : AllZip (IsStepOf t) steps (flat_map beginnings keys ++ beginnings more)
  pub rising : AreRisingSteps steps
  pub below : (k : ℕ) (step : Step) → slice_get steps k ≡ Some step → step.role < roles
  pub all : (i : ℕ) (r : Role) → i < roles → slice_get t.roles i ≡ Some r → (LooksBack r → ⊥) → HasStep steps i

-- Those of the first so many chains.
pub record AreStepsOfChains (t : Tables) (keys : List (List ℕ)) (steps : List Step) : Type 0 where
  pub roles : ℕ
  pub are : AreStepsTo t keys [] roles steps
  pub next : (c : ChainInfo) → slice_get t.chains (length keys) ≡ Some c → c.first ≡ roles
  pub whole : length keys ≡ length t.chains → roles ≡ length t.roles

-- Those of the roles of a chain, before that number.
pub record AreStepsWithin (t : Tables) (keys : List (List ℕ)) (number : ℕ) (c : ChainInfo) (i : ℕ) (more : List ℕ)
    (steps : List Step) : Type 0 where
  pub count : length keys ≡ number
  pub keys_are : AreKeysTo t c.first i more
  pub are : AreStepsTo t keys more i steps

-- The steps are those of all chains, whose keys these are.
pub record AreSteps (t : Tables) (keys : List (List ℕ)) (steps : List Step) : Type 0 where
  pub count : length keys ≡ length t.chains
  pub are : AreStepsTo t keys [] (length t.roles) steps

-- The steps of the first so many chains, of whose keys a forest is built.
pub record AreChainsStepped (t : Tables) (number : ℕ) (steps : List Step) (builder : Builder) : Type 0 where
  pub keys : List (List ℕ)
  pub count : length keys ≡ number
  pub are : AreStepsOfChains t keys steps
  pub built : IsBuilt builder keys

-- The forest is that of the keys of the chains.
pub record IsForestFor (t : Tables) (steps : List Step) (forest : ForestTables) : Type 0 where
  pub keys : List (List ℕ)
  pub steps_are : AreSteps t keys steps
  pub forest_is : IsForestOf forest keys
