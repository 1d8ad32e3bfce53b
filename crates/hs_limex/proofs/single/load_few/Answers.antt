use Rattle.std.proofs.Common.{◌/◌, ◌-◌, ◌||◌, false, length, eqb, arith}
use Rattle.hs_limex.proofs.SingleLemmas.{bytes-known, bytes-more, no-bit, this-or}
use Rattle.hs_limex.proofs.single.load_few.Goals as goal

pub returns : goal.returns
returns c k =
    let bytes = c.args.bytes.now in
    let p = k / 8 in
    let last = length bytes - 1 in
    let one = bytes-more bytes 0 c.with_byte-first.result k 0 false (no-bit k) (c.with_byte-first.ensures k) in
    let two = bytes-more bytes c.with_byte-first.result c.with_byte-two.result k 1 (eqb p 0 || false) one (c.with_byte-two.ensures k) in
    let all = bytes-more bytes c.with_byte-two.result c.with_byte.result k last (eqb p 1 || (eqb p 0 || false)) two (c.with_byte.ensures k) in
    bytes-known bytes c.with_byte.result k (eqb p last || (eqb p 1 || (eqb p 0 || false))) all
    (λ below. this-or p last (eqb p 1 || (eqb p 0 || false)) (λ a. this-or p 1 (eqb p 0 || false) (λ b. this-or p 0 false (λ d. absurd (omega (arith, a, b, d, below, c.requires.few))))))
