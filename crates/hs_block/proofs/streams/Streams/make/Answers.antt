use Rattle.std.proofs.Common.{◌∙◌, slice_get, ap, sym, arith}
use Rattle.hs_engine.specs.Automata.{in_mask}
use Rattle.hs_engine.specs.Rows.{in_row}
use Rattle.hs_block.specs.StreamSets.{is_from}
use Rattle.hs_block.proofs.streams.Streams.make.Goals as goal

pub returns : goal.returns
returns c =
    let a = c.args.automaton.now in
    let orders = c.in_ok-orders.ensures in
    record {
      size_is = c.size.ensures.size;
      takes_are = c.requires.takes;
      enters_are = λ x h. ap (λ items. in_mask (slice_get items x) h) (c.in_ok-enters.ensures.items ∙ c.enters.ensures);
      accepts_are = λ x h. ap (λ items. in_mask (slice_get items x) h) (c.in_ok-accepts.ensures.items ∙ c.accepts.ensures);
      follows_are = λ x y h below.
          ap (λ n. is_from n c.in_ok-orders.orders.width c.in_ok-orders.orders.froms.items c.in_ok-orders.orders.rests.items x y h) (c.size.ensures.size ∙ (sym a.follows_whole ∙ sym (ap (λ r. r.size) c.follows.ensures)))
          ∙ (orders.froms_are x y h (omega (arith, below, ap (λ r. r.size) c.follows.ensures, a.follows_whole)) ∙ ap (λ r. in_row r y x h) c.follows.ensures);
    }
