use Rattle.std.proofs.Common.{◌≡◌, ◌<◌, ◌∙◌, ℕ, Bool, eqb, arith, ap, refl}
use Rattle.hs_base.specs.Assertions.{line_feed, is_word_byte}
use Rattle.hs_base.specs.ByteSets.{has}
use Rattle.hs_base.specs.Contexts.{prev_by}
use Rattle.hs_waking.specs.PrevSets.{has_prev}
use Rattle.hs_waking.proofs.PrevLemmas.{bytes-more, empty-has, put-none, put-one}
use Rattle.hs_waking.proofs.prev_set.PrevSet.bytes.Goals.{then-contains, else-contains}
use Rattle.hs_waking.proofs.prev_set.PrevSet.bytes.Goals as goal

pub loop-byte-init : goal.loop-byte-init
loop-byte-init c = record { done = λ b low. absurd (omega arith); later = λ b from below. empty-has b below }

pub loop-byte-preserved : goal.loop-byte-preserved
loop-byte-preserved c =
    let n = c.loop-byte.byte in
    let small : n < 256 = omega (arith, c.loop-byte-test.true) in
    let test : ℕ → Bool = λ b. has_prev c.args.self (prev_by (eqb b line_feed) (is_word_byte b)) in
    let told : c.contains.result ≡ test n = c.contains.ensures ∙ ap (has_prev c.args.self) c.behind.ensures in
    let more = bytes-more test (has c.loop-byte.bytes) (has c.if-contains.bytes) n c.loop-byte.invariant.done c.loop-byte.invariant.later small c.contains.result told
    (elim c.if-contains.branch [
      | then-contains w ↦ put-one (has c.loop-byte.bytes) (has c.if-contains.bytes) n n c.contains.result refl w.if-contains.true (λ b below. ap (λ s. has s b) w.bytes-is ∙ w.insert.ensures b below)
      | else-contains w ↦ put-none (has c.loop-byte.bytes) (has c.if-contains.bytes) n c.contains.result w.if-contains.false (λ b below. ap (λ s. has s b) w.bytes-is)
    ]) in
    record { done = more.0; later = more.1 }
