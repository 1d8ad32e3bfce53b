use Rattle.std.proofs.Common.{◌≡◌, ℕ, ◌-◌, ◌*◌, ◌/◌, ◌&&◌, ◌++◌, ◌∙◌, List, length, drop, get_or, nat_lt, ap, sym, arith}
use Rattle.std.proofs.lemmas.List.{length-append, length-drop, length-take-le}
use Rattle.hs_base.specs.Bits.{has_word_bit}
use Rattle.hs_limex.specs.SingleWords.{is_set}
use Rattle.hs_limex.proofs.RegionWordLemmas.{wide-stored}
use Rattle.hs_limex.proofs.region_words.store_wide.Goals as goal

pub returns-then-whole-bytes-clause-bits : goal.returns-then-whole-bytes-clause-bits
returns-then-whole-bytes-clause-bits c k =
    let bytes = c.args.bytes.now in
    let row = c.args.row.now in
    let count : ℕ = length bytes / 8 in
    let front = c.store.new.bytes in
    let tail = c.store_word.new.bytes in
    let rest : List ℕ = drop (8 * count - 0) (drop 0 bytes) in
    let all : List ℕ = front ++ rest in
    let size : ℕ = length all - 8 * count in
    let len : length front ≡ 8 * count = omega (arith, c.store.ensures.len, length-take-le (8 * count - 0) (drop 0 bytes) (omega (arith, length-drop 0 bytes))) in
    let whole : length all ≡ length bytes = omega (arith, len, length-append front rest, length-drop (8 * count - 0) (drop 0 bytes), length-drop 0 bytes) in
    let left : length tail ≡ size = c.store_word.ensures.len ∙ length-take-le size (drop (8 * count) all) (omega (arith, length-drop (8 * count) all)) in
    wide-stored front rest tail row count (length bytes) k len whole (omega (arith, left, whole)) (omega (arith, left, whole))
    (λ i. c.store.ensures.bits i ∙ ap (λ n. nat_lt i (8 * n) && has_word_bit row i) (sym c.store.ensures.len))
    (λ i. c.store_word.ensures.bits i ∙ ap (λ n. nat_lt i (8 * n) && is_set (get_or row count 0) i) (sym c.store_word.ensures.len))
