use Rattle.std.proofs.Common.{◌≡◌, ℕ, true, ◌&&◌, ◌∙◌}
use Rattle.hs_base.specs.Bits.{has_bit, has_word_bit}
use Rattle.hs_base.specs.Contexts.{Context}
use Rattle.hs_base.proofs.ContextLemmas.{of_both}
use Rattle.hs_limex.proofs.PlainLemmas.{true-false}
use Rattle.hs_limex.proofs.tables.Tables.accepted_row.Goals as goal

pub returns-then-is_row_apart-clause-whole : goal.returns-then-is_row_apart-clause-whole
returns-then-is_row_apart-clause-whole g c next accepts =
    let t = c.args.self.now in
    let here : Context = record { prev = c.args.prev; next = next } in
    let k : ℕ = accepts.position in
    let live = has_bit c.args.region.now k in
    let row = has_word_bit c.row_in.result.now k in
    let in_row : row ≡ true = c.row_in.ensures.bits k ∙ t.accepting_all here k accepts.accepts in
    true-false (live && row) (of_both live row accepts.is_live in_row) (c.is_row_apart.ensures c.if-is_row_apart.true k)
