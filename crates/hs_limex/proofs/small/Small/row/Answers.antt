use Rattle.std.proofs.Common.{◌≡◌, ◌<◌, ◌+◌, ◌*◌, ◌/◌, ◌%◌, ◌&&◌, get_or, nat_lt, ap, ◌∙◌, arith, vec_len}
use Rattle.std.proofs.lemmas.List.{get_or_read_under}
use Rattle.hs_limex.proofs.SingleLemmas.{row-bit}
use Rattle.hs_limex.proofs.SmallLemmas.{row-inside}
use Rattle.hs_limex.specs.SingleWords.{is_set}
use Rattle.hs_limex.proofs.small.Small.row.Goals as goal

pub returns : goal.returns
returns c k =
    let s = c.args.self.now in
    let place = c.args.byte * s.pitch / 64 in
    let start = c.args.byte * s.pitch % 64 in
    let word = c.index.result.now in
    let row : place < 4 * s.pitch = row-inside s.pitch c.args.byte s.some (omega arith) in
    let read : word ≡ get_or s.words.items place 0 = get_or_read_under s.words.items place (vec_len s.words) word 0 c.index.ensures (omega (arith, s.whole)) (omega (arith, s.words.ok.0)) in
    row-bit word start s.all s.size k (s.all_are k) ∙ ap (λ w. nat_lt k s.size && is_set w (start + k)) read
