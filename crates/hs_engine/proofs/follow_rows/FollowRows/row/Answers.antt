use Rattle.std.proofs.Common.{◌≡◌, ◌+◌, ◌-◌, take, drop, ap, ◌∙◌, arith}
use Rattle.hs_base.specs.Contexts.{Context}
use Rattle.hs_base.specs.Bits.{has_bit}
use Rattle.hs_engine.specs.Rows.{in_square, row_start, square_number}
use Rattle.hs_engine.proofs.RowLemmas.{row-bits}
use Rattle.hs_engine.proofs.follow_rows.FollowRows.row.Goals as goal

pub returns-clause-bits : goal.returns-clause-bits
unfolding in_square
returns-clause-bits c y =
    let here : Context = record { prev = c.args.prev; next = c.args.class } in
    let number = square_number c.args.self.now.by_context here in
    let begins : c.start-start.result ≡ row_start c.args.self.now.size number c.args.position = c.start-start.ensures.start ∙ ap (λ k. row_start c.args.self.now.size k c.args.position) c.square.ensures.number in
    ap (λ bytes. has_bit (take (c.start-start.result + c.row_len_of.result - c.start-start.result) (drop c.start-start.result bytes)) y) c.deref.ensures.value
    ∙ row-bits c.args.self.now.bits.items c.start-start.result (c.start-start.result + c.row_len_of.result - c.start-start.result) c.args.self.now.size number c.args.position y c.requires begins (omega (arith, c.row_len_of.ensures))
    (omega (arith, c.row_len_of.ensures, c.start-start.ensures.room, c.args.self.now.bits.ok.0))
