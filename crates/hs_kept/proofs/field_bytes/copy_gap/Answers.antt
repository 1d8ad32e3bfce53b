use Rattle.std.proofs.Common.{◌≡◌, ℕ, ◌+◌, ◌-◌, List, ◌++◌, length, take, slice_range, sym, ap, ◌∙◌, arith}
use Rattle.std.proofs.lemmas.List.{append-nil}
use Rattle.hs_base.proofs.RegionLemmas.{range-size}
use Rattle.hs_kept.proofs.PartLemmas.{range-none}
use Rattle.hs_kept.proofs.WritingLemmas.{front-written, range-written}
use Rattle.hs_kept.proofs.field_bytes.copy_gap.Goals as goal

pub returns-then-start-end-clause-gap : goal.returns-then-start-end-clause-gap
returns-then-start-end-clause-gap c =
    let w : List ℕ = c.copy_from_slice.new.self in
    let is : w ≡ slice_range c.args.from.now c.args.start c.args.end = c.copy_from_slice.ensures.after in
    let size = range-size c.args.from.now c.args.start c.args.end c.requires.order c.requires.within in
    range-written c.args.to.now w _ c.args.at _ (omega (arith, c.requires.room)) (omega (arith, ap (λ (l : List ℕ). length l) is, size)) ∙ is

pub returns-then-start-end-clause-made : goal.returns-then-start-end-clause-made
returns-then-start-end-clause-made c =
    let w : List ℕ = c.copy_from_slice.new.self in
    let is : w ≡ slice_range c.args.from.now c.args.start c.args.end = c.copy_from_slice.ensures.after in
    let size = range-size c.args.from.now c.args.start c.args.end c.requires.order c.requires.within in
    front-written c.args.to.now w _ c.args.at _ (omega (arith, c.requires.room)) (omega (arith, ap (λ (l : List ℕ). length l) is, size)) ∙ ap (λ (l : List ℕ). take c.args.at c.args.to.now ++ l) is

pub returns-else-start-end-clause-gap : goal.returns-else-start-end-clause-gap
returns-else-start-end-clause-gap c =
    let e : c.args.at + (c.args.end - c.args.start) ≡ c.args.at = omega (arith, c.if-start-end.false) in
    let e' : c.args.start ≡ c.args.end = omega (arith, c.if-start-end.false, c.requires.order) in
    range-none c.args.to.now c.args.at _ e ∙ sym (range-none c.args.from.now c.args.start c.args.end (sym e'))

pub returns-else-start-end-clause-made : goal.returns-else-start-end-clause-made
returns-else-start-end-clause-made c =
    let e : c.args.at + (c.args.end - c.args.start) ≡ c.args.at = omega (arith, c.if-start-end.false) in
    let e' : c.args.start ≡ c.args.end = omega (arith, c.if-start-end.false, c.requires.order) in
    let front : List ℕ = take c.args.at c.args.to.now in
    ap (λ n. take n c.args.to.now) e ∙ (sym (append-nil front) ∙ ap (λ (l : List ℕ). front ++ l) (sym (range-none c.args.from.now c.args.start c.args.end (sym e'))))
