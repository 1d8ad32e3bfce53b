use Rattle.std.proofs.Common.{◌+◌, ◌-◌, ◌++◌, ◌∙◌, length, sym, ap, subst, arith}
use Rattle.hs_confirm.specs.Filed.{literals_of, buckets_of}
use Rattle.hs_literals.specs.Held.{held}
use Rattle.hs_literals.specs.AllEnds.{numbers_at, pairs_of_place, ends_behind}
use Rattle.hs_literals.specs.Masking.{HidesNone}
use Rattle.hs_literals.proofs.AllEndLemmas.{ends_behind-skip, ends_behind-end, ends_behind-enter}
use Rattle.hs_literals.proofs.scan.LitScan.enter_next.Goals as goal

pub ends-requires : goal.ends-requires
ends-requires c =
    let old = c.loop-mask.self.places in
    let new = c.next_open.new.self in
    let same = c.in-Some.ensures in
    let mask = c.in-Some.mask in
    subst (λ l. HidesNone mask (literals_of l.now.confirm) (buckets_of l.now.confirm) (new.history.now ++ new.bytes.now) (length new.history.now + new.at)) (sym same.literals)
    (subst (λ h. HidesNone mask (literals_of old.literals.now.confirm) (buckets_of old.literals.now.confirm) (h.now ++ new.bytes.now) (length h.now + new.at)) (sym same.history)
    (subst (λ b. HidesNone mask (literals_of old.literals.now.confirm) (buckets_of old.literals.now.confirm) (old.history.now ++ b.now) (length old.history.now + new.at)) (sym same.bytes) same.next.1))

pub returns-in-Some-ends-clause-next : goal.returns-in-Some-ends-clause-next
returns-in-Some-ends-clause-next c =
    let old = c.loop-mask.self.places in
    let new = c.next_open.new.self in
    let same = c.in-Some.ensures in (
      omega (arith, same.next.0, c.loop-mask.invariant.low),
      c.loop-mask.invariant.same
          ∙ ends_behind-enter (held old.literals.now) old.history.now old.bytes.now old.at new.at same.next.0 (omega (arith, new.within, ap (λ b. length b.now) same.bytes)) same.none_before
          ∙ ap (λ l. pairs_of_place new.at (numbers_at (held l.now) (old.history.now ++ old.bytes.now) (length old.history.now + new.at)) ++ ends_behind (held l.now) old.history.now old.bytes.now new.at) (sym same.literals)
          ∙ ap (λ h. pairs_of_place new.at (numbers_at (held new.literals.now) (h.now ++ old.bytes.now) (length h.now + new.at)) ++ ends_behind (held new.literals.now) h.now old.bytes.now new.at) (sym same.history)
          ∙ ap (λ b. pairs_of_place new.at (numbers_at (held new.literals.now) (new.history.now ++ b.now) (length new.history.now + new.at)) ++ ends_behind (held new.literals.now) new.history.now b.now new.at) (sym same.bytes)
          ∙ ap (λ numbers. pairs_of_place new.at numbers ++ ends_behind (held new.literals.now) new.history.now new.bytes.now new.at) (sym c.in-Some-ends.ensures),
    )

pub loop-mask-preserved : goal.loop-mask-preserved
loop-mask-preserved c =
    let old = c.loop-mask.self.places in
    let new = c.next_open.new.self in
    let same = c.in-Some.ensures in
    record {
      bytes = same.bytes ∙ c.loop-mask.invariant.bytes;
      ends = c.loop-mask.invariant.ends;
      low = omega (arith, same.next.0, c.loop-mask.invariant.low);
      same = c.loop-mask.invariant.same
          ∙ ends_behind-enter (held old.literals.now) old.history.now old.bytes.now old.at new.at same.next.0 (omega (arith, new.within, ap (λ b. length b.now) same.bytes)) same.none_before
          ∙ ap (λ l. pairs_of_place new.at (numbers_at (held l.now) (old.history.now ++ old.bytes.now) (length old.history.now + new.at)) ++ ends_behind (held l.now) old.history.now old.bytes.now new.at) (sym same.literals)
          ∙ ap (λ h. pairs_of_place new.at (numbers_at (held new.literals.now) (h.now ++ old.bytes.now) (length h.now + new.at)) ++ ends_behind (held new.literals.now) h.now old.bytes.now new.at) (sym same.history)
          ∙ ap (λ b. pairs_of_place new.at (numbers_at (held new.literals.now) (new.history.now ++ b.now) (length new.history.now + new.at)) ++ ends_behind (held new.literals.now) new.history.now b.now new.at) (sym same.bytes)
          ∙ ap (λ numbers. pairs_of_place new.at numbers ++ ends_behind (held new.literals.now) new.history.now new.bytes.now new.at) c.in_default-ends.ensures;
    }

pub returns-clause-next : goal.returns-clause-next
returns-clause-next c =
    let old = c.loop-mask.self.places in
    let new = c.next_open.new.self in
    let end = c.in_default.ensures.next.0 in (
      c.loop-mask.invariant.ends,
      c.loop-mask.invariant.same
          ∙ ends_behind-skip (new.at - old.at) (held old.literals.now) old.history.now old.bytes.now old.at new.at (omega (arith, end, old.within)) (omega (arith, end)) c.in_default.ensures.next.1
          ∙ ends_behind-end (held old.literals.now) old.history.now old.bytes.now new.at (omega (arith, end)),
      ends_behind-end (held new.literals.now) new.history.now new.bytes.now new.at (omega (arith, end, ap (λ b. length b.now) c.in_default.ensures.bytes)),
    )
