use Rattle.std.proofs.Common.{◌≡◌, ◌∙◌, ◌+◌, ℕ, length, get_or, ap, subst, arith}
use Rattle.std.proofs.lemmas.Option.{slice_get-get_or}
use Rattle.hs_base.specs.Bits.{has_word_bit}
use Rattle.hs_bits.specs.NextBits.{IsNextBitIn}
use Rattle.hs_reports.proofs.SettlementLemmas.{IsSettledTo, IsWalkedTo, walked-next, walked-all, all-emptied}
use Rattle.hs_reports.proofs.SettledLemmas.{no_identifier, settled-named, told-grows, settles-block}
use Rattle.hs_reports.proofs.settling.settle_block.Goals as goal

pub loop-noted-preserved : goal.loop-noted-preserved
loop-noted-preserved c =
    let identifiers = c.args.identifiers.now in
    let place : ℕ = c.in-Some.place in
    let walked =
    subst (IsWalkedTo identifiers c.args.last c.args.ends.now c.args.told.now c.args.here.now c.loop-noted.ends c.loop-noted.told c.loop-noted.here c.loop-noted.tellings) c.in-Some.is c.loop-noted.invariant.walked in
    let words : length c.settle_one.new.ends.words ≡ length identifiers = c.settle_one.ensures.words_count ∙ c.loop-noted.invariant.words in
    record {
      words = words;
      told = c.settle_one.auto.told ∙ c.loop-noted.invariant.told;
      here = c.settle_one.auto.here ∙ c.loop-noted.invariant.here;
      room = ap (λ t. t.room) c.settle_one.ensures.pushed ∙ c.loop-noted.invariant.room;
      quiet = c.loop-noted.invariant.quiet;
      walked =
          walked-next identifiers c.args.last c.args.ends.now c.args.told.now c.args.here.now (get_or identifiers place no_identifier) place c.loop-noted.ends c.settle_one.new.ends c.loop-noted.told c.settle_one.new.told
          c.loop-noted.here c.settle_one.new.here c.loop-noted.tellings c.settle_one.new.tellings c.next-noted-in-Some.result walked
          (slice_get-get_or identifiers place no_identifier walked.ahead.high) c.settle_one.ensures
          (subst (λ n. IsNextBitIn (has_word_bit c.settle_one.new.ends.noted) (place + 1) n c.next-noted-in-Some.result) words c.next-noted-in-Some.ensures.next);
    }

-- behind the walk all are settled
all-settled : (c : goal.In_default) →
    IsSettledTo c.args.identifiers.now c.args.last c.args.ends.now c.args.told.now c.args.here.now c.loop-noted.ends c.loop-noted.told c.loop-noted.here c.loop-noted.tellings (length c.args.identifiers.now)
all-settled c =
    walked-all c.args.identifiers.now c.args.last c.args.ends.now c.args.told.now c.args.here.now c.loop-noted.ends c.loop-noted.told c.loop-noted.here c.loop-noted.tellings
    (subst (IsWalkedTo c.args.identifiers.now c.args.last c.args.ends.now c.args.told.now c.args.here.now c.loop-noted.ends c.loop-noted.told c.loop-noted.here c.loop-noted.tellings) c.in_default.is c.loop-noted.invariant.walked)

pub returns-clause-grows : goal.returns-clause-grows
returns-clause-grows c =
    told-grows c.args.identifiers.now c.args.last c.args.ends.now c.loop-noted.ends c.args.told.now c.args.here.now c.loop-noted.told c.loop-noted.here c.loop-noted.tellings (length c.args.identifiers.now) (all-settled c)

pub returns-clause-emptied : goal.returns-clause-emptied
returns-clause-emptied c =
    all-emptied c.args.identifiers.now c.args.last c.args.ends.now c.args.told.now c.args.here.now c.loop-noted.ends c.loop-noted.told c.loop-noted.here c.loop-noted.tellings (length c.args.identifiers.now)
    (omega (arith, c.requires.ends)) c.loop-noted.invariant.quiet (all-settled c)

pub returns-clause-no_other : goal.returns-clause-no_other
returns-clause-no_other c p below = (all-settled c).only p (omega (arith, c.loop-noted.invariant.words))

pub returns-clause-named : goal.returns-clause-named
returns-clause-named c =
    settled-named c.args.identifiers.now c.args.last c.args.ends.now c.loop-noted.ends c.args.told.now c.args.here.now c.loop-noted.told c.loop-noted.here c.loop-noted.tellings (length c.args.identifiers.now) (all-settled c)

pub returns-clause-settled : goal.returns-clause-settled
returns-clause-settled c =
    settles-block c.args.identifiers.now c.args.last c.args.ends.now c.loop-noted.ends c.args.told.now c.args.here.now c.loop-noted.told c.loop-noted.here c.loop-noted.tellings (length c.args.identifiers.now)
    c.requires.last c.loop-noted.invariant.quiet (omega arith) (all-settled c)
