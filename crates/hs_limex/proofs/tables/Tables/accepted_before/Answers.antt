use Rattle.std.proofs.Common.{◌≡◌, ℕ, ◌+◌, ◌*◌, true, ◌&&◌, sym, ap, ◌∙◌}
use Rattle.std.proofs.lemmas.Bool.{eqb-true}
use Rattle.hs_base.specs.Bits.{has_word_bit}
use Rattle.hs_base.specs.Contexts.{Context, context_number, next_number, prev_number}
use Rattle.hs_base.specs.ContextSets.{has_next}
use Rattle.hs_base.proofs.ContextLemmas.{of_both}
use Rattle.hs_limex.specs.WordTables.{in_table}
use Rattle.hs_limex.proofs.LimexLemmas.{common-bit}
use Rattle.hs_limex.proofs.PlainLemmas.{true-false}
use Rattle.hs_limex.proofs.tables.Tables.accepted_before.Goals as goal

pub returns-then-are_apart-clause-sound : goal.returns-then-are_apart-clause-sound
returns-then-are_apart-clause-sound g c other told = true-false (has_next c.empty.result other) told (c.empty.ensures other)

pub returns-then-are_apart-clause-whole : goal.returns-then-are_apart-clause-whole
returns-then-are_apart-clause-whole g c accepts =
    let t = c.args.self.now in
    let here : Context = record { prev = c.args.prev; next = c.args.next } in
    let k : ℕ = accepts.position in
    let live = has_word_bit c.args.live.now k in
    let row = has_word_bit c.row_in.result.now k in
    let set : row ≡ true = c.row_in.ensures.bits k ∙ (ap (λ n. in_table t.accepts n k) c.number_of.ensures.number ∙ accepts.accepts) in
    true-false (live && row) (of_both live row accepts.is_live set) (c.are_apart.ensures.0 c.if-are_apart.true k)

pub returns-else-are_apart-clause-sound : goal.returns-else-are_apart-clause-sound
returns-else-are_apart-clause-sound g c other told =
    let t = c.args.self.now in
    let same : next_number other ≡ next_number c.args.next = eqb-true (next_number other) (next_number c.args.next) (sym (c.of.ensures other) ∙ told) in
    let number : context_number (record { prev = c.args.prev; next = other }) ≡ c.number_of.result = ap (λ n. 6 * prev_number c.args.prev + n) same ∙ sym c.number_of.ensures.number in
    let (k, live, row) = common-bit c.args.live.now c.row_in.result.now (λ apart. true-false c.are_apart.result (c.are_apart.ensures.1 apart) c.if-are_apart.false) in
    record {
      position = k;
      is_live = live;
      accepts = ap (λ n. in_table t.accepts n k) number ∙ (sym (c.row_in.ensures.bits k) ∙ row);
    }
