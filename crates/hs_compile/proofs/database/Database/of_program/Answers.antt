use Rattle.std.proofs.Common.{◌≡◌, List, Vec, Global, IfSome, length, map, take, ap, sym, subst, ◌∙◌}
use Rattle.std.proofs.lemmas.List.{length-map}
use Rattle.hs_base.specs.declared.literal.LitByte.{LitByte}
use Rattle.hs_base.specs.LiteralView.{literal_bytes}
use Rattle.hs_base.specs.Chains.{chains_of}
use Rattle.hs_literals.specs.Held.{held}
use Rattle.hs_layout.specs.Layouts.{laid_size}
use Rattle.hs_nodes.specs.Graphs.{IsGraphSound, RunsPlan}
use Rattle.hs_nodes.specs.Lone.{AreLiving}
use Rattle.hs_rose.specs.PieceEngines.{piece_meaning}
use Rattle.hs_rose.specs.Plans.{plan_of}
use Rattle.hs_compile.specs.GraphLaws.{IsDatabaseOfPlans}
use Rattle.hs_compile.proofs.ArrangedLemmas.{may-be}
use Rattle.hs_compile.proofs.DatabaseLemmas.{database-plans}
use Rattle.hs_compile.proofs.database.Database.of_program.Goals as goal

pub build_graph-requires-clause-built : goal.build_graph-requires-clause-built
build_graph-requires-clause-built c =
    let is = c.requires.packed.is_for in
    record { entries = is.entries; chains = map (λ x. chains_of x.tree) c.requires.packed.patterns; is = is.program }

pub arrange-requires : goal.arrange-requires
arrange-requires c =
    may-be c.in_ok-graph.graph c.args.program.literals (length c.deref.result.now) c.args.layout
    (ap length (sym c.in_ok-graph.ensures.literals) ∙ (length-map c.in_ok-graph.named.items literal_bytes ∙ ap (λ (xs : List (Vec LitByte Global)). length xs) (sym c.deref.ensures.value)))
    c.in_ok-graph.ensures.sound

pub new-requires : goal.new-requires
new-requires c = record {
  plan = plan_of c.args.program c.requires.packed.patterns;
  is_of =
      let t = c.args.program in
      let texts = map literal_bytes c.in_ok-arranged.arranged.items in
      let olds : map literal_bytes c.deref.result.now ≡ t.literals = ap (λ (ls : List (Vec LitByte Global)). map literal_bytes ls) c.deref.ensures.value ∙ c.in_ok-graph.ensures.literals in
      database-plans t c.arrange.new.graph texts c.in_ok-literals.literals c.in_ok-lasting.lasting c.in_ok-lone.lone c.args.layout c.args.packing c.args.digest c.requires.laid
      (c.in_ok-literals.ensures ∙ ap (λ (ls : List (Vec LitByte Global)). map literal_bytes ls) c.deref-2.ensures.value)
      (λ P is. c.in_ok-arranged.ensures.runs (plan_of t P) (subst (λ xs. RunsPlan piece_meaning c.in_ok-graph.graph xs (plan_of t P)) (sym olds) (c.in_ok-graph.ensures.runs P is)))
      (c.in_ok-arranged.ensures.sound c.args.layout (subst (λ xs. IsGraphSound piece_meaning c.in_ok-graph.graph xs c.args.layout) (sym olds) c.in_ok-graph.ensures.sound))
      (subst (λ (ls : List (Vec LitByte Global)). IfSome c.in_ok-lasting.lasting (λ own. held own ≡ take c.arrange.new.graph.openings.others (map literal_bytes ls))) c.deref-3.ensures.value c.in_ok-lasting.ensures)
      c.in_ok-lone.ensures
      c.requires.packed.patterns c.requires.packed.is_for c.requires.packed.packs;
}

pub returns-clause-plans : goal.returns-clause-plans
returns-clause-plans c =
    let t = c.args.program in
    let texts = map literal_bytes c.in_ok-arranged.arranged.items in
    let olds : map literal_bytes c.deref.result.now ≡ t.literals = ap (λ (ls : List (Vec LitByte Global)). map literal_bytes ls) c.deref.ensures.value ∙ c.in_ok-graph.ensures.literals in
    subst (IsDatabaseOfPlans c.args.program) (sym c.new.ensures)
    (database-plans t c.arrange.new.graph texts c.in_ok-literals.literals c.in_ok-lasting.lasting c.in_ok-lone.lone c.args.layout c.args.packing c.args.digest c.requires.laid
    (c.in_ok-literals.ensures ∙ ap (λ (ls : List (Vec LitByte Global)). map literal_bytes ls) c.deref-2.ensures.value)
    (λ P is. c.in_ok-arranged.ensures.runs (plan_of t P) (subst (λ xs. RunsPlan piece_meaning c.in_ok-graph.graph xs (plan_of t P)) (sym olds) (c.in_ok-graph.ensures.runs P is)))
    (c.in_ok-arranged.ensures.sound c.args.layout (subst (λ xs. IsGraphSound piece_meaning c.in_ok-graph.graph xs c.args.layout) (sym olds) c.in_ok-graph.ensures.sound))
    (subst (λ (ls : List (Vec LitByte Global)). IfSome c.in_ok-lasting.lasting (λ own. held own ≡ take c.arrange.new.graph.openings.others (map literal_bytes ls))) c.deref-3.ensures.value c.in_ok-lasting.ensures)
    c.in_ok-lone.ensures)

pub of_graph-requires-clause-sound : goal.of_graph-requires-clause-sound
of_graph-requires-clause-sound c =
    let t = c.args.program in
    let olds : map literal_bytes c.deref.result.now ≡ t.literals = ap (λ (ls : List (Vec LitByte Global)). map literal_bytes ls) c.deref.ensures.value ∙ c.in_ok-graph.ensures.literals in
    let sound = c.in_ok-arranged.ensures.sound c.args.layout (subst (λ xs. IsGraphSound piece_meaning c.in_ok-graph.graph xs c.args.layout) (sym olds) c.in_ok-graph.ensures.sound) in
    (length (map literal_bytes c.in_ok-arranged.arranged.items), laid_size c.args.layout, sound.table)

pub of_graph-requires-clause-few : goal.of_graph-requires-clause-few
of_graph-requires-clause-few c =
    let t = c.args.program in
    let olds : map literal_bytes c.deref.result.now ≡ t.literals = ap (λ (ls : List (Vec LitByte Global)). map literal_bytes ls) c.deref.ensures.value ∙ c.in_ok-graph.ensures.literals in
    let sound = c.in_ok-arranged.ensures.sound c.args.layout (subst (λ xs. IsGraphSound piece_meaning c.in_ok-graph.graph xs c.args.layout) (sym olds) c.in_ok-graph.ensures.sound) in
    sound.few

pub of_graph-requires-clause-terminals : goal.of_graph-requires-clause-terminals
of_graph-requires-clause-terminals c =
    let t = c.args.program in
    let olds : map literal_bytes c.deref.result.now ≡ t.literals = ap (λ (ls : List (Vec LitByte Global)). map literal_bytes ls) c.deref.ensures.value ∙ c.in_ok-graph.ensures.literals in
    let sound = c.in_ok-arranged.ensures.sound c.args.layout (subst (λ xs. IsGraphSound piece_meaning c.in_ok-graph.graph xs c.args.layout) (sym olds) c.in_ok-graph.ensures.sound) in
    sound.terminals

pub of_graph-requires-clause-living : goal.of_graph-requires-clause-living
of_graph-requires-clause-living c =
    subst (λ es. AreLiving piece_meaning es c.in_ok-living.living.items) c.deref-4.ensures.value c.in_ok-living.ensures
