use Rattle.std.proofs.Common.{◌+◌, ◌∙◌, length, ap, arith}
use Rattle.hs_confirm.specs.Filed.{literals_of, buckets_of}
use Rattle.hs_literals.specs.Places.{NoneBetween}
use Rattle.hs_literals.proofs.OpenLemmas.{none_joined, hides_alike}
use Rattle.hs_literals.proofs.places.Places.next_open.Goals as goal

pub returns-then-not-enter_block-clause-none_before :
    goal.returns-then-not-enter_block-clause-none_before
returns-then-not-enter_block-clause-none_before c =
    let first = c.args.self.now in
    let old = c.loop-self.self in
    let same = c.loop-self.invariant in
    let made = c.enter_block.ensures in
    let none : NoneBetween (literals_of first.literals.now.confirm) first.history.now first.bytes.now first.at (c.enter_block.new.self.at + 1) =
    none_joined (literals_of first.literals.now.confirm) (literals_of old.literals.now.confirm) first.history.now old.history.now first.bytes.now old.bytes.now first.at old.at (c.enter_block.new.self.at + 1) (ap (λ l. literals_of l.now.confirm) same.literals) (ap (λ h. h.now) same.history) (ap (λ b. b.now) same.bytes) same.none made.none in
    λ end number literal low high numbered ends. none end number literal low (omega arith) numbered ends

pub returns-then-not-enter_block-clause-next : goal.returns-then-not-enter_block-clause-next
returns-then-not-enter_block-clause-next c =
    let first = c.args.self.now in
    let old = c.loop-self.self in
    let same = c.loop-self.invariant in
    let made = c.if-not-enter_block.ensures in (
      made.more ∙ ap (λ b. length b.now) same.bytes,
      none_joined (literals_of first.literals.now.confirm) (literals_of old.literals.now.confirm) first.history.now old.history.now first.bytes.now old.bytes.now first.at old.at (c.enter_block.new.self.at + 1) (ap (λ l. literals_of l.now.confirm) same.literals) (ap (λ h. h.now) same.history) (ap (λ b. b.now) same.bytes) same.none made.none,
    )

pub loop-self-preserved : goal.loop-self-preserved
loop-self-preserved c =
    let first = c.args.self.now in
    let old = c.loop-self.self in
    let same = c.loop-self.invariant in
    let made = c.if-not-enter_block.ensures in
    record {
      literals = made.literals ∙ same.literals;
      history = made.history ∙ same.history;
      bytes = made.bytes ∙ same.bytes;
      low = omega (arith, same.low, made.low);
      none = none_joined (literals_of first.literals.now.confirm) (literals_of old.literals.now.confirm) first.history.now old.history.now first.bytes.now old.bytes.now first.at old.at (c.enter_block.new.self.at + 1) (ap (λ l. literals_of l.now.confirm) same.literals) (ap (λ h. h.now) same.history) (ap (λ b. b.now) same.bytes) same.none made.none;
    }

pub returns-clause-none_before : goal.returns-clause-none_before
returns-clause-none_before c =
    let first = c.args.self.now in
    let old = c.loop-self.self in
    let same = c.loop-self.invariant in
    none_joined (literals_of first.literals.now.confirm) (literals_of old.literals.now.confirm) first.history.now old.history.now first.bytes.now old.bytes.now first.at old.at c.pass_closed.new.self.at (ap (λ l. literals_of l.now.confirm) same.literals) (ap (λ h. h.now) same.history) (ap (λ b. b.now) same.bytes) same.none c.pass_closed.ensures.none_before

pub returns-clause-next : goal.returns-clause-next
returns-clause-next c =
    let first = c.args.self.now in
    let old = c.loop-self.self in
    let same = c.loop-self.invariant in
    let made = c.pass_closed.ensures in (
      omega (arith, same.low, made.low),
      hides_alike c.pass_closed.result (literals_of first.literals.now.confirm) (literals_of old.literals.now.confirm) (buckets_of first.literals.now.confirm) (buckets_of old.literals.now.confirm) first.history.now old.history.now first.bytes.now old.bytes.now c.pass_closed.new.self.at
          (ap (λ l. literals_of l.now.confirm) same.literals) (ap (λ l. buckets_of l.now.confirm) same.literals) (ap (λ h. h.now) same.history) (ap (λ b. b.now) same.bytes) made.hides,
    )
