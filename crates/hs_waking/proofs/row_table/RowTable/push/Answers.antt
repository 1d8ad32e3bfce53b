use Rattle.std.proofs.Common.{◌++◌, ◌∷◌, [], ap, ◌∙◌, Vec, Global}
use Rattle.hs_waking.specs.declared.wake_row.WakeRow.{WakeRow}
use Rattle.hs_waking.specs.PrevSets.{has_prev}
use Rattle.hs_waking.proofs.RowTableLemmas.{behind-kept, extends-then}
use Rattle.hs_waking.proofs.row_table.RowTable.push.Goals as goal

pub returns : goal.returns
returns c = record {
  row = c.in_ok-own.own;
  rows = c.in_ok-push.ensures.items ∙ ap (λ (v : Vec WakeRow Global). v.items ++ c.in_ok-own.own ∷ []) (c.in_ok-own.ensures.rows ∙ c.in_ok-begun.ensures.rows);
  kept = extends-then _ _ _ c.in_ok-begun.ensures.kept c.in_ok-own.ensures.kept;
  is = c.in_ok-own.ensures.row;
  behind_more = λ prev member. ap (λ s. has_prev s prev) c.in_ok-own.ensures.behind ∙ c.in_ok-begun.ensures.more prev member;
  behind_is = behind-kept c.in_ok-begun.begun c.in_ok-own.own _ _ c.in_ok-own.ensures.behind c.in_ok-own.ensures.number c.in_ok-own.ensures.kept c.in_ok-begun.ensures.behind;
}
