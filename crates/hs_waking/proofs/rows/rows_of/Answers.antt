use Rattle.std.proofs.Common.{◌≡◌, map, true, sym, subst, inl, inr, arith}
use Rattle.std.proofs.lemmas.Bool.{cases_lt}
use Rattle.hs_engine.specs.Automata.{enters}
use Rattle.hs_waking.specs.Rows.{HasRowFrom, row_sets}
use Rattle.hs_waking.proofs.RowLemmas.{entered-within}
use Rattle.hs_waking.proofs.rows.rows_of.Goals as goal

pub loop-position-preserved : goal.loop-position-preserved
loop-position-preserved c =
    let a = c.args.automaton.now in
    let p = c.loop-position.position in
    let adds = c.in_ok-add_row.ensures in
    record {
      rows = λ x h below enter.
          elim (cases_lt x p) [
            | inl less ↦ adds.kept x (c.loop-position.invariant.rows x h less enter)
            | inr past ↦
                let same : p ≡ x = omega (arith, below, past) in
                subst (HasRowFrom a (map row_sets c.add_row.new.rows.items)) same (adds.added h (subst (λ y. enters a y h ≡ true) (sym same) enter))
          ];
      short = adds.short c.loop-position.invariant.short;
      few = omega (arith, c.len.ensures, c.if-len-gt-MAX_ROWS.false);
    }

pub returns-then-fit_seldom-clause-rows : goal.returns-then-fit_seldom-clause-rows
returns-then-fit_seldom-clause-rows c x h enter =
    c.loop-position.invariant.rows x h (let within = entered-within c.args.automaton.now x h enter in omega (arith, within, c.size-position-end.ensures.size, c.loop-position-test.false)) enter
