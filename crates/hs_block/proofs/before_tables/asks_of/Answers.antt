use Rattle.std.proofs.Common.{◌+◌, ◌∙◌, [], ◌∷◌, ap, length, length-append, arith}
use Rattle.hs_block.proofs.OrderLemmas.{few-asked, words-more}
use Rattle.hs_block.proofs.before_tables.asks_of.Goals as goal

pub loop-position-preserved : goal.loop-position-preserved
loop-position-preserved c =
    let inv = c.loop-position.invariant in
    record {
      count = ap length c.in_ok-push.ensures.items ∙ length-append c.loop-position.asks.items (c.asked_squares.result ∷ []) ∙ ap (λ n. n + 1) inv.count;
      each =
          words-more c.args.rests.now c.loop-position.asks.items c.push.new.self.items c.args.width c.loop-position.position c.asked_squares.result c.in_ok-push.ensures.items inv.count inv.each
          (record { few = c.asked_squares.ensures.few; unasked = c.asked_squares.ensures.unasked });
    }

pub returns-clause-few : goal.returns-clause-few
returns-clause-few c x q = few-asked c.args.rests.now c.loop-position.asks.items c.args.width c.loop-position.position x q c.loop-position.invariant.count c.loop-position.invariant.each

pub returns-clause-unasked : goal.returns-clause-unasked
returns-clause-unasked c x q y below = (c.loop-position.invariant.each x (omega (arith, below))).unasked q y
