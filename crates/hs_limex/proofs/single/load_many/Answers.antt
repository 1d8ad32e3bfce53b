use Rattle.std.proofs.Common.{◌/◌, ◌-◌, ◌||◌, false, length, eqb, arith}
use Rattle.hs_limex.proofs.SingleLemmas.{bytes-known, bytes-more, no-bit, this-or}
use Rattle.hs_limex.proofs.single.load_many.Goals as goal

pub returns : goal.returns
returns c k =
    let bytes = c.args.bytes.now in
    let p = k / 8 in
    let count = length bytes in
    let in1 = eqb p 0 || false in
    let in2 = eqb p 1 || in1 in
    let in3 = eqb p 2 || in2 in
    let in4 = eqb p 3 || in3 in
    let in5 = eqb p (count - 3) || in4 in
    let in6 = eqb p (count - 2) || in5 in
    let one = bytes-more bytes 0 c.with_byte-first.result k 0 false (no-bit k) (c.with_byte-first.ensures k) in
    let two = bytes-more bytes c.with_byte-first.result c.with_byte-two.result k 1 in1 one (c.with_byte-two.ensures k) in
    let three = bytes-more bytes c.with_byte-two.result c.with_byte-three.result k 2 in2 two (c.with_byte-three.ensures k) in
    let four = bytes-more bytes c.with_byte-three.result c.with_byte-four.result k 3 in3 three (c.with_byte-four.ensures k) in
    let five = bytes-more bytes c.with_byte-four.result c.with_byte-five.result k (count - 3) in4 four (c.with_byte-five.ensures k) in
    let six = bytes-more bytes c.with_byte-five.result c.with_byte-six.result k (count - 2) in5 five (c.with_byte-six.ensures k) in
    bytes-known bytes c.with_byte.result k (eqb p (count - 1) || in6) (bytes-more bytes c.with_byte-six.result c.with_byte.result k (count - 1) in6 six (c.with_byte.ensures k))
    (λ below.
    this-or p (count - 1) in6 (λ a.
    this-or p (count - 2) in5 (λ b.
    this-or p (count - 3) in4 (λ d.
    this-or p 3 in3 (λ e.
    this-or p 2 in2 (λ f.
    this-or p 1 in1 (λ h.
    this-or p 0 false (λ i. absurd (omega (arith, a, b, d, e, f, h, i, below, c.requires.few))))))))))
