-- A plan and the graph that runs it have as many identifiers, and regions of one size.
use Rattle.std.proofs.Common.{◌≡◌, ◌-◌, List, length, map, sym, ap, ◌∙◌, arith}
use Rattle.std.specs.Prelude.{slice_index}
use Rattle.std.proofs.lemmas.List.{length-map}
use Rattle.hs_base.specs.Literals.{LiteralByte}
use Rattle.hs_base.specs.Regions.{Plan, fields_at, list_places, plan_size, place_size}
use Rattle.hs_base.proofs.SumLemmas.{sums-size}
use Rattle.hs_engine.specs.Engines.{Meaning}
use Rattle.hs_layout.specs.Layouts.{laid_size}
use Rattle.hs_nodes.specs.Graphs.{RunsPlan, plan_layout}
use Rattle.hs_reports.specs.Identifiers.{singles_of}
use Rattle.hs_nodes.specs.declared.graph.Graph.{Graph}

pub plan-size : (plan : Plan) → laid_size (plan_layout plan) ≡ plan_size plan
plan-size plan =
    let sizes = map place_size (list_places plan) in
    let e : length (plan_layout plan).starts - 1 ≡ length sizes = omega (arith, sums-size (fields_at (length plan.singles) (length plan.identifiers)) sizes) in
    ap (slice_index (plan_layout plan).starts) e

module _ {E : Type 0} (meaning : E → Meaning) (graph : Graph E) (literals : List (List LiteralByte)) (plan : Plan) (runs : RunsPlan meaning graph literals plan) where
  pub ids-count : length graph.identifiers.items ≡ length plan.identifiers
  ids-count = sym (length-map graph.identifiers.items (λ x. x.id.0)) ∙ ap length runs.ids

  pub singles-count : length (singles_of graph.identifiers.items) ≡ length plan.singles
  singles-count = sym (length-map (singles_of graph.identifiers.items) (λ x. x.id.0)) ∙ ap length runs.singles
