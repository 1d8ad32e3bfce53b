use Rattle.std.proofs.Common.{sym, subst}
use Rattle.hs_engine.proofs.AutomatonLemmas.{null-exact}
use Rattle.hs_expr.specs.Meaning.{tree_of}
use Rattle.hs_rose.specs.declared.positions.PositionEngine.{PositionEngine}
use Rattle.hs_rose.specs.PositionEngines.{meaning_of_positions}
use Rattle.hs_rose.proofs.MakeLemmas.{positions-engine}
use Rattle.hs_rose.specs.Made.{IsNullMask}
use Rattle.hs_rose.proofs.making.make_positions.Goals as goal

pub returns-clause-made : goal.returns-clause-made
returns-clause-made c =
    let tree = tree_of c.args.expr.now in record {
      engine_is = positions-engine c.in_ok-new.field-0 tree (subst (λ (l : PositionEngine). (meaning_of_positions l).is_for tree) (sym c.in_ok-new.ensures.ok) (c.in_ok-positions.ensures tree c.in_ok-automaton.ensures.runs));
      null_is = subst (λ mask. IsNullMask mask tree) (sym c.null.ensures)
          (null-exact c.in_ok-automaton.automaton tree c.in_ok-automaton.ensures.runs);
    }
