use Rattle.std.proofs.Common.{◌≡◌, ◌+◌, ◌++◌, [], ◌∙◌, length, sym, ap, subst}
use Rattle.std.proofs.lemmas.Nat.Bits.{bit_at-zero}
use Rattle.std.proofs.lemmas.Option.{same_Some}
use Rattle.std.specs.Int.{bit_at}
use Rattle.hs_bits.proofs.LowestLemmas.{lowest-gone}
use Rattle.hs_confirm.specs.Entries.{ends_from}
use Rattle.hs_confirm.specs.Found.{IsFound, buckets_left}
use Rattle.hs_confirm.specs.Left.{ends_left}
use Rattle.hs_confirm.proofs.FoundLemmas.{IsNextOf, buckets_left-first, buckets_left-none, next_of}
use Rattle.hs_confirm.proofs.head.first_head.Goals as goal

pub returns-in-Some-clause-all : goal.returns-in-Some-clause-all
returns-in-Some-clause-all c =
    let entries = c.args.confirm.now.entries.items in
    let text = c.args.history.now ++ c.args.bytes.now in
    let offset = length c.args.history.now + c.args.at in
    let l = c.loop-left in
    let bucket = c.lowest_bit-bucket.result in
    let low = c.lowest_bit-bucket.ensures.lowest in
    let less = c.without_lowest_bit-left.result in
    let next : IsNextOf entries bucket text offset 0 c.in-Some.number = next_of entries bucket text offset 0 c.in-Some.number (ends_left c.next.new.self) (sym c.with_key.ensures.left ∙ c.in-Some.ensures.steps) in
    sym (ap (λ xs. xs ++ buckets_left entries less text offset) next.split)
    ∙ sym (buckets_left-first entries l.left less bucket text offset (c.requires.buckets bucket (l.invariant.among bucket low.is)) low (c.without_lowest_bit-left.ensures.behind bucket low))
    ∙ l.invariant.all

pub returns-in-Some-clause-found : goal.returns-in-Some-clause-found
returns-in-Some-clause-found c head same =
    let entries = c.args.confirm.now.entries.items in
    let text = c.args.history.now ++ c.args.bytes.now in
    let offset = length c.args.history.now + c.args.at in
    let l = c.loop-left in
    let bucket = c.lowest_bit-bucket.result in
    let low = c.lowest_bit-bucket.ensures.lowest in
    let less = c.without_lowest_bit-left.result in
    let behind = c.without_lowest_bit-left.ensures.behind bucket low in
    let next : IsNextOf entries bucket text offset 0 c.in-Some.number = next_of entries bucket text offset 0 c.in-Some.number (ends_left c.next.new.self) (sym c.with_key.ensures.left ∙ c.in-Some.ensures.steps) in
    subst (IsFound entries text offset) (same_Some _ head same) (record {
      few = c.requires.buckets bucket (l.invariant.among bucket low.is);
      within = next.within;
      ends = next.ends;
      passed = lowest-gone l.left bucket less behind;
      left = λ other is. c.requires.buckets other (l.invariant.among other ((behind other).0 is).1);
    })

pub loop-left-preserved-then-not-may_end : goal.loop-left-preserved-then-not-may_end
loop-left-preserved-then-not-may_end c =
    let entries = c.args.confirm.now.entries.items in
    let text = c.args.history.now ++ c.args.bytes.now in
    let offset = length c.args.history.now + c.args.at in
    let l = c.loop-left in
    let bucket = c.lowest_bit-bucket.result in
    let low = c.lowest_bit-bucket.ensures.lowest in
    let less = c.without_lowest_bit-left.result in
    let behind = c.without_lowest_bit-left.ensures.behind bucket low in
    let none : ends_from entries bucket text offset 0 ≡ [] = c.may_end.ensures.passed (c.if-not-may_end.true) text offset c.requires.full in
    record {
      among = λ other is. l.invariant.among other ((behind other).0 is).1;
      all = sym (buckets_left-first entries l.left less bucket text offset (c.requires.buckets bucket (l.invariant.among bucket low.is)) low behind ∙ ap (λ xs. xs ++ buckets_left entries less text offset) none) ∙ l.invariant.all;
    }

pub loop-left-preserved : goal.loop-left-preserved
loop-left-preserved c =
    let entries = c.args.confirm.now.entries.items in
    let text = c.args.history.now ++ c.args.bytes.now in
    let offset = length c.args.history.now + c.args.at in
    let l = c.loop-left in
    let bucket = c.lowest_bit-bucket.result in
    let low = c.lowest_bit-bucket.ensures.lowest in
    let less = c.without_lowest_bit-left.result in
    let behind = c.without_lowest_bit-left.ensures.behind bucket low in
    let none : ends_from entries bucket text offset 0 ≡ [] = sym c.with_key.ensures.left ∙ c.in_default.ensures.steps.0 in
    record {
      among = λ other is. l.invariant.among other ((behind other).0 is).1;
      all = sym (buckets_left-first entries l.left less bucket text offset (c.requires.buckets bucket (l.invariant.among bucket low.is)) low behind ∙ ap (λ xs. xs ++ buckets_left entries less text offset) none) ∙ l.invariant.all;
    }

pub returns-clause-all : goal.returns-clause-all
returns-clause-all c =
    let l = c.loop-left in
    sym (buckets_left-none c.args.confirm.now.entries.items l.left (c.args.history.now ++ c.args.bytes.now) (length c.args.history.now + c.args.at) (λ bucket. ap (λ n. bit_at n bucket) c.loop-left-test.false ∙ bit_at-zero bucket))
    ∙ l.invariant.all
