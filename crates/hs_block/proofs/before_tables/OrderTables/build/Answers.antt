use Rattle.std.proofs.Common.{◌+◌, ◌*◌, ◌&&◌, not, length, get_or, sym, ap, ◌∙◌, arith}
use Rattle.hs_engine.specs.Rows.{in_square}
use Rattle.hs_bits.proofs.WordLemmas.{zero-words}
use Rattle.hs_block.specs.StreamSets.{in_rows}
use Rattle.hs_block.proofs.TableLemmas.{more-squares, orders-more, orders-one}
use Rattle.hs_block.proofs.before_tables.OrderTables.build.Goals as goal

pub returns-then-square_count-eq1 : goal.returns-then-square_count-eq1
returns-then-square_count-eq1 c =
    let froms = c.in_ok-froms.froms in
    let successors = c.in_ok-successors.successors in
    orders-one c.args.follows.now c.word_count_for-width.result froms.items _ successors.items _ (sym c.square_count.ensures ∙ c.if-square_count-eq1.true) (ap (λ l. length l) c.new-rests.ensures.items) (omega arith)
    (sym froms.ok.0 ∙ c.in_ok-froms.ensures.count) (sym successors.ok.0 ∙ c.in_ok-successors.ensures.count) (omega (arith, c.in_ok-asks.ensures.len, c.in_ok-asks.asks.ok.0, c.size-then-square_count-eq1.ensures.size))
    (λ x. ap (λ items. get_or items x 0) (c.in_ok-asks.ensures.items_if_clones_equal (λ y is. is)) ∙ zero-words c.size-then-square_count-eq1.result x) c.in_ok-froms.ensures.one c.in_ok-successors.ensures.have

pub returns : goal.returns
returns c =
    let follows = c.args.follows.now in
    let width = c.word_count_for-width.result in
    let froms = c.in_ok-froms.froms in
    let rests = c.in_ok-rests.rests in
    let successors = c.in_ok-successors.successors in
    orders-more follows width froms.items rests.items successors.items c.in_ok-asks-2.asks.items (more-squares follows.by_context (λ is. c.if-square_count-eq1.false (c.square_count.ensures ∙ is))) (omega arith)
    (sym froms.ok.0 ∙ c.in_ok-froms.ensures.count) (sym successors.ok.0 ∙ c.in_ok-successors.ensures.count) (sym c.in_ok-asks-2.asks.ok.0 ∙ (c.in_ok-asks-2.ensures.count ∙ c.size-2.ensures.size)) (sym rests.ok.0 ∙ c.in_ok-rests.ensures.count) c.in_ok-asks-2.ensures.few
    (λ x q y below few inside unset. sym (ap (λ items. in_rows items width (12 * x + q) y) c.deref-2.ensures.value) ∙ c.in_ok-asks-2.ensures.unasked x q y (omega (arith, below)) few inside unset) c.in_ok-froms.ensures.each
    (λ x q y below few inside. c.in_ok-rests.ensures.bits x q y below few inside ∙ ap (λ items. in_square follows q y x && not (in_rows items width x y)) c.deref.ensures.value) c.in_ok-successors.ensures.have
