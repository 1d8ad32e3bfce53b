use Rattle.std.proofs.Common.{◌≡◌, ◌≤◌, ◌+◌, ◌*◌, ◌-◌, take, drop, ap, ◌∙◌, arith}
use Rattle.std.proofs.Math.Nat.{mul-le-mul_left}
use Rattle.hs_base.specs.Bits.{has_word_bit}
use Rattle.hs_limex.specs.WordTables.{in_table}
use Rattle.hs_limex.proofs.TableLemmas.{row-bits}
use Rattle.hs_limex.proofs.word_rows.WordRows.row_in.Goals as goal

pub returns-clause-bits : goal.returns-clause-bits
unfolding in_table
returns-clause-bits g c k =
    let rows = c.args.self.now in
    let n = c.args.number in
    let width = c.width_in-width.result in
    let start = width * n in
    let same : width ≡ rows.width = c.width_in-width.ensures in
    let begins : start ≡ rows.width * n = ap (λ w. w * n) same in
    let next : n + 1 ≤ rows.count = omega (arith, c.requires.number) in
    let step : rows.width * (n + 1) ≤ rows.width * rows.count = mul-le-mul_left rows.width next in
    let wide : rows.width * (n + 1) ≡ rows.width * n + rows.width = omega arith in
    ap (λ words. has_word_bit (take (start + width - start) (drop start words)) k) c.deref.ensures.value
    ∙ row-bits rows.words.items start (start + width - start) rows.count rows.width n k c.requires.number begins (omega (arith, same)) (omega (arith, same, begins, rows.words.ok.0, rows.whole))
