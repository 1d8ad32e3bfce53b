-- The packing of a list that is compiled.
use Rattle.std.proofs.Common.{◌≡◌, List, [], ◌∷◌, map, refl, subst, ◌∙◌}
use Rattle.hs_base.specs.Chains.{Piece, chains_of, lit, nfa, rep}
use Rattle.hs_base.specs.Lists.{Each}
use Rattle.hs_base.specs.Patterns.{Pattern}
use Rattle.hs_kept.specs.declared.builder.PackingBuilder.{PackingBuilder}
use Rattle.hs_kept.specs.Builders.{IsBuildable, IsBuiltForPlan, IsPackedTo}
use Rattle.hs_layout.specs.Layouts.{Laid}
use Rattle.hs_rose.specs.Plans.{plan_of}
use Rattle.hs_rose.specs.Programs.{Tables}
use Rattle.hs_rose.specs.Runnable.{IsRunnable, IsRunnableChain}
use Rattle.hs_compile.specs.GraphLaws.{IsProgramFor}
use Rattle.hs_compile.specs.GraphTables.{program_layout}
use Rattle.hs_compile.proofs.RowLemmas.{plan-laid}

-- ---- what can be run can be built

piece-buildable : (piece : Piece) → IsRunnable piece → IsBuildable piece
piece-buildable (lit xs) is = tt
piece-buildable (nfa tree) is = is
piece-buildable (rep set least greatest) is = tt

pieces-buildable : (chain : List Piece) → Each IsRunnable chain → Each IsBuildable chain
pieces-buildable [] all = tt
pieces-buildable (piece ∷ pieces) all = (piece-buildable piece all.0, pieces-buildable pieces all.1)

pub chains-buildable : (chains : List (List Piece)) → Each IsRunnableChain chains → Each (Each IsBuildable) chains
chains-buildable [] all = tt
chains-buildable (chain ∷ chains) all = (pieces-buildable chain all.0.pieces, chains-buildable chains all.1)

-- ---- the plan of a program

-- the builder of the patterns' chains is that of the plan
pub built-for : (t : Tables) (b : PackingBuilder) (l : Laid) (P : List Pattern) (chains : List (List (List Piece))) → IsProgramFor t P → l ≡ program_layout t →
    chains ≡ map (λ (x : Pattern). chains_of x.tree) P → IsPackedTo b chains → IsBuiltForPlan b l (plan_of t P)
built-for t b l P chains is laid same packed = record {
  looks_back = refl;
  packed = subst (IsPackedTo b) same packed;
  layout = laid ∙ plan-laid t is.entries P is.program is.asks;
}
