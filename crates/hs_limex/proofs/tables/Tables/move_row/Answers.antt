use Rattle.std.proofs.Common.{◌≡◌, ◌*◌, ◌<◌, true, ◌&&◌, length, sym, ◌∙◌, arith}
use Rattle.std.specs.Prelude.{nat_lt}
use Rattle.std.proofs.lemmas.Bool.{lt-ltb, ltb-true}
use Rattle.hs_base.specs.Contexts.{Context}
use Rattle.hs_base.proofs.ContextLemmas.{first_of_both, second_of_both, of_both}
use Rattle.hs_base.specs.Bits.{has_bit}
use Rattle.hs_base.specs.Bits.{has_word_bit}
use Rattle.hs_limex.proofs.StepLemmas.{led-as}
use Rattle.hs_limex.proofs.TableLemmas.{replicate-words}
use Rattle.hs_limex.specs.TableMoves.{moves_of_tables}
use Rattle.hs_limex.proofs.tables.Tables.move_row.Goals as goal

pub lead-requires-clause-zero : goal.lead-requires-clause-zero
lead-requires-clause-zero g c k = replicate-words g.row.W k

pub returns-clause-sound : goal.returns-clause-sound
returns-clause-sound g c k set =
    let t = c.args.self.now in
    let old = c.args.region.now in
    let here : Context = record { prev = c.args.prev; next = c.args.next } in
    let live = c.load_row-live.result in
    let row = has_word_bit c.row_in.result.now k in
    let led = has_word_bit c.lead.new.led k in
    let kept = has_word_bit c.keep_words.new.words k in
    let stored : (nat_lt k (8 * length old) && kept) ≡ true = sym (c.store_row.ensures.bits k) ∙ set in
    let below : k < 8 * length old = ltb-true k (8 * length old) (first_of_both (nat_lt k (8 * length old)) kept stored) in
    let inside : k < 64 * length c.row_in.result.now = omega (arith, below, c.requires.len, c.row_in.ensures.len, t.wide) in
    let both : (row && led) ≡ true = sym (c.keep_words.ensures.bits k inside) ∙ second_of_both (nat_lt k (8 * length old)) kept stored in (
      sym (c.row_in.ensures.bits k) ∙ first_of_both row led both,
      led-as (moves_of_tables t) (has_word_bit live) (has_bit old) here c.args.entering k c.load_row-live.ensures.bits
          (c.lead.ensures.sound k (second_of_both row led both)),
    )

pub returns-clause-whole : goal.returns-clause-whole
returns-clause-whole g c k below reach leads =
    let t = c.args.self.now in
    let old = c.args.region.now in
    let here : Context = record { prev = c.args.prev; next = c.args.next } in
    let live = c.load_row-live.result in
    let row = has_word_bit c.row_in.result.now k in
    let led = has_word_bit c.lead.new.led k in
    let kept = has_word_bit c.keep_words.new.words k in
    let inside : k < 64 * length c.row_in.result.now = omega (arith, below, c.requires.len, c.row_in.ensures.len, t.wide) in
    let is_led : led ≡ true =
    c.lead.ensures.whole k (omega (arith, inside, c.row_in.ensures.len))
    (led-as (moves_of_tables t) (has_bit old) (has_word_bit live) here c.args.entering k (λ x. sym (c.load_row-live.ensures.bits x)) leads) in
    let both : kept ≡ true = c.keep_words.ensures.bits k inside ∙ of_both row led (c.row_in.ensures.bits k ∙ reach) is_led in
    c.store_row.ensures.bits k ∙ of_both (nat_lt k (8 * length old)) kept (lt-ltb k (8 * length old) below) both
