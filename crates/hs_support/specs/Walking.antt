-- Walks: where they lead, and what moves them.
use Rattle.std.specs.Prelude.{◌≡◌, ℕ, List, ◌∷◌, ◌++◌, length, map, Option}
use Rattle.hs_base.specs.Chains.{Part, part_of, rest_of_run}
use Rattle.hs_base.specs.Literals.{LiteralByte}
use Rattle.hs_base.specs.Trees.{Tree}
use Rattle.hs_support.specs.Waiting.{LeadsCut, LeadsFrom}
use Rattle.hs_support.specs.declared.walk.Walk.{Walk}

-- That is the first excess of all, if these parts come.
abbrev pub Leads : Walk → List Part → Option ℕ → Type 0
Leads walk parts answer = LeadsFrom walk.found walk.count walk.run parts answer

-- behind the part the walk stands there
abbrev pub Takes : Walk → Part → (next : Walk) → Type 0
Takes walk part next =
    (parts : List Part) (answer : Option ℕ) → Leads next parts answer → Leads walk (part ∷ parts) answer

-- behind the items the walk stands there
abbrev pub PassesItems : Walk → List Tree → (next : Walk) → Type 0
PassesItems walk items next =
    (parts : List Part) (answer : Option ℕ) → Leads next parts answer → Leads walk (map part_of items ++ parts) answer

-- behind the run that waits the walk stands there
abbrev pub EndsRun : Walk → (next : Walk) → Type 0
EndsRun walk next =
    (xs : List LiteralByte) (cut : List Part) (answer : Option ℕ) → length xs ≡ walk.run →
    LeadsCut next.found next.count cut answer → LeadsCut walk.found walk.count (rest_of_run xs ++ cut) answer
