use Rattle.std.proofs.Common.{◌≡◌, ℕ, ◌+◌, ◌-◌, ◌≤◌, ◌⊎◌, ◌++◌, true, false, length, take, refl, sym, ap, subst, ◌∙◌, inl, inr, arith, length-append}
use Rattle.std.specs.Prelude.{slice_index}
use Rattle.std.proofs.lemmas.Bool.{cases_lt}
use Rattle.std.proofs.lemmas.List.{length-take-le}
use Rattle.hs_bits.proofs.PlaceLemmas.{less-is}
use Rattle.hs_nodes.specs.Blocks.{prev_by_count}
use Rattle.hs_nodes.proofs.LookLemmas.{IsRunTo, run-asleep, run-end, run-window}
use Rattle.hs_nodes.proofs.RunLemmas.{steps-few}
use Rattle.hs_nodes.proofs.look_back.run_back.Goals as goal

pub run-requires-clause-throughout : goal.run-requires-clause-throughout
run-requires-clause-throughout g c always = absurd (let both : true ≡ false = sym always ∙ c.requires.listed in cc)

pub returns-then-passed-seen-clause-runs : goal.returns-then-passed-seen-clause-runs
returns-then-passed-seen-clause-runs g c tree u runs is =
    let m = g.E.Engine.meaning c.args.engine.now in
    let at = c.args.chunk.now.at in
    let past = c.args.chunk.now.past.now in
    let bytes = c.args.chunk.now.bytes.now in
    let seen : ℕ = c.min-seen.result in
    let passed : ℕ = c.passed_over-passed.result in
    let n : ℕ = at + c.args.place - 64 - seen in
    let end : ℕ = length u + c.args.place - 64 in
    let long : length (u ++ bytes) ≡ length u + length bytes = length-append u bytes in
    let few = c.passed_over-passed.ensures.few in
    let quiet = c.at_rest-is_at_rest.ensures.quiet ((c.at_rest-is_at_rest.ensures.zero c.requires.listed).1 (c.clear.ensures.zero c.requires.listed)) in
    let begun : IsRunTo m tree runs c.requires.listed (u ++ bytes) n passed c.clear.new.region c.prev_behind-prev.result =
    run-asleep m tree runs c.requires.listed at u past bytes is n (c.args.place - seen) passed c.byte_at.result c.clear.new.region c.prev_behind-prev.result (omega (arith, is.offset, c.min-seen.ensures, c.requires.low, c.requires.within)) (omega (arith, c.min-seen.ensures, c.requires.low))
    (omega (arith, is.offset, long, c.requires.high, few, c.min-seen.ensures, c.requires.within)) c.clear.ensures.starts quiet (λ i low. c.passed_over-passed.ensures.asleep c.clear.new.region i c.clear.ensures.starts low) c.prev_behind-prev.ensures c.byte_at.ensures in
    let last : IsRunTo m tree runs c.requires.listed (u ++ bytes) n seen c.clear.new.region c.prev_behind-prev.result =
    subst (λ k. IsRunTo m tree runs c.requires.listed (u ++ bytes) n k c.clear.new.region c.prev_behind-prev.result) c.if-passed-seen.true begun in
    let enough : (16 ≤ seen) ⊎ (n ≡ 0) = elim (cases_lt (at + c.args.place - 64) 16) [
      | inl less ↦ inr (omega (arith, less, c.min-seen.ensures))
      | inr many ↦ inl (omega (arith, many, c.min-seen.ensures))
    ] in
    run-end m tree runs c.requires.listed (u ++ bytes) n seen end c.clear.new.region c.prev_behind-prev.result last (omega (arith, long, c.requires.high)) (omega (arith, is.offset, c.min-seen.ensures, c.requires.within)) enough

pub returns-clause-ticks : goal.returns-clause-ticks
returns-clause-ticks g c =
    let m = g.E.Engine.meaning c.args.engine.now in
    let left : ℕ = c.min-seen.result - c.passed_over-passed.result in
    let size : length (take left c.window_at-window.result) ≡ left = length-take-le left c.window_at-window.result (omega (arith, c.window_at-window.ensures.len, c.min-seen.ensures)) in
    omega (arith, c.min-seen.ensures, size, steps-few m _ _ _ _ _ _ c.run.result c.args.steps.now c.run.new.steps c.run.ensures.takes)

pub returns-clause-runs : goal.returns-clause-runs
returns-clause-runs g c tree u runs is =
    let m = g.E.Engine.meaning c.args.engine.now in
    let at = c.args.chunk.now.at in
    let past = c.args.chunk.now.past.now in
    let bytes = c.args.chunk.now.bytes.now in
    let seen : ℕ = c.min-seen.result in
    let passed : ℕ = c.passed_over-passed.result in
    let n : ℕ = at + c.args.place - 64 - seen in
    let end : ℕ = length u + c.args.place - 64 in
    let long : length (u ++ bytes) ≡ length u + length bytes = length-append u bytes in
    let few = c.passed_over-passed.ensures.few in
    let quiet = c.at_rest-is_at_rest.ensures.quiet ((c.at_rest-is_at_rest.ensures.zero c.requires.listed).1 (c.clear.ensures.zero c.requires.listed)) in
    let begun : IsRunTo m tree runs c.requires.listed (u ++ bytes) n passed c.clear.new.region c.prev_behind-prev.result =
    run-asleep m tree runs c.requires.listed at u past bytes is n (c.args.place - seen) passed c.byte_at.result c.clear.new.region c.prev_behind-prev.result (omega (arith, is.offset, c.min-seen.ensures, c.requires.low, c.requires.within)) (omega (arith, c.min-seen.ensures, c.requires.low))
    (omega (arith, is.offset, long, c.requires.high, few, c.min-seen.ensures, c.requires.within)) c.clear.ensures.starts quiet (λ i low. c.passed_over-passed.ensures.asleep c.clear.new.region i c.clear.ensures.starts low) c.prev_behind-prev.ensures c.byte_at.ensures in
    let all : passed + (seen - passed) ≡ seen = omega (arith, few, c.min-seen.ensures) in
    let taken : IsRunTo m tree runs c.requires.listed (u ++ bytes) n (passed + (seen - passed)) c.run.new.region c.prev_behind.result =
    run-window m tree runs c.requires.listed at u past bytes is n (c.args.place - seen) passed (seen - passed) c.low_places.result (n + passed) c.byte_at-2.result c.clear.new.region c.run.new.region c.window_at-window.result c.prev_behind-prev.result c.prev_behind.result begun (omega (arith, is.offset, c.min-seen.ensures, c.requires.low, c.requires.within))
    (omega (arith, few, c.if-passed-seen.false, c.min-seen.ensures, c.requires.low)) (omega (arith, is.offset, long, c.requires.high, few, c.min-seen.ensures, c.requires.low, c.requires.within)) (omega (arith, c.window_at-window.ensures.len, c.min-seen.ensures)) c.window_at-window.ensures.bytes
    (λ i low. c.low_places.ensures i ∙ less-is i (seen - passed) low) refl (λ v entered of. (c.run.ensures.takes.run.scans tree v entered of).field)
    (c.prev_behind.ensures ∙ ap (λ k. prev_by_count k c.byte_at-2.result) (let e : at + c.args.place - 64 ≡ n + (passed + (seen - passed)) = omega (arith, few, c.min-seen.ensures, c.requires.low, c.requires.within) in e))
    (c.byte_at-2.ensures ∙ ap (slice_index (past ++ bytes)) (let e : c.args.place - 1 ≡ c.args.place - seen + (passed + (seen - passed)) - 1 = omega (arith, few, c.min-seen.ensures, c.requires.low) in e)) in
    let last : IsRunTo m tree runs c.requires.listed (u ++ bytes) n seen c.run.new.region c.prev_behind.result =
    subst (λ k. IsRunTo m tree runs c.requires.listed (u ++ bytes) n k c.run.new.region c.prev_behind.result) all taken in
    let enough : (16 ≤ seen) ⊎ (n ≡ 0) = elim (cases_lt (at + c.args.place - 64) 16) [
      | inl less ↦ inr (omega (arith, less, c.min-seen.ensures))
      | inr many ↦ inl (omega (arith, many, c.min-seen.ensures))
    ] in
    run-end m tree runs c.requires.listed (u ++ bytes) n seen end c.run.new.region c.prev_behind.result last (omega (arith, long, c.requires.high)) (omega (arith, is.offset, c.min-seen.ensures, c.requires.within)) enough
