-- What engines of automata mean: their regions have a bit for each position.
use Rattle.std.proofs.Common.{sym, ◌∙◌}
use Rattle.std.specs.Prelude.{◌≡◌, ℕ, ◌+◌, ◌/◌, false, vec_len}
use Rattle.hs_base.specs.Trees.{Tree}
use Rattle.hs_base.specs.PositionRows.{IsField}
use Rattle.hs_base.specs.WrittenOut.{IsReached, count, write_out}
use Rattle.hs_base.proofs.BitLemmas.{same-told}
use Rattle.hs_engine.specs.declared.automaton.Automaton.{Automaton}
use Rattle.hs_engine.specs.Engines.{Meaning}
use Rattle.hs_engine.specs.Tables.{IsClearFrom, Runs}
use Rattle.hs_engine.proofs.AutomatonLemmas.{field-clear}

-- of so many positions, for the expressions with the property, which have as many
abbrev pub positions_meaning : (size : ℕ) (IsRun : Tree → Type 0) →
    ((tree : Tree) → IsRun tree → size ≡ count (write_out tree)) → Meaning
positions_meaning size IsRun sizes = record {
  width = (size + 7) / 8;
  is_for = IsRun;
  field = λ region tree u entered. IsField region (write_out tree) u entered;
  well = λ region at. IsClearFrom region size;
  always = false;
  one_field = λ tree u entered region other runs len is other_is.
      same-told (IsReached (write_out tree) u entered) region other (is.len ∙ sym other_is.len) is.bytes other_is.bytes;
  well_formed = λ tree u entered region runs len is. field-clear (write_out tree) size (sizes tree runs) u entered
      region;
}

-- that go by the automaton
abbrev pub automaton_meaning : Automaton → Meaning
automaton_meaning a = positions_meaning (vec_len a.sets) (Runs a) (λ tree runs. runs.tables.size)
