use Rattle.std.proofs.Common.{◌≡◌, ℕ, ◌+◌, ◌*◌, ◌<◌, ◌≤◌, [], ◌∷◌, length, take, drop, get_or, sym, ap, subst, ◌∙◌, arith}
use Rattle.std.proofs.lemmas.List.{take_more, take-append-drop}
use Rattle.std.proofs.Math.Seq.{take-length}
use Rattle.hs_base.specs.Lists.{Each}
use Rattle.hs_base.proofs.ListLemmas.{each-left}
use Rattle.hs_reports.specs.Events.{Takes}
use Rattle.hs_run.specs.Feeding.{Feeds}
use Rattle.hs_run.proofs.FeedLemmas.{feeds-alike, takes-more, takes-none}
use Rattle.hs_run.proofs.PieceLemmas.{each-by}
use Rattle.hs_run.proofs.runner.feed.Goals as goal

pub loop-place-init : goal.loop-place-init
loop-place-init g c = record {
  scratch = c.requires.scratch;
  region = c.requires.region;
  header = λ old. old;
  offset = omega arith;
  ticks = omega arith;
  taken = takes-none c.args.program.now g.V.Events.tells c.args.events.now c.args.region.now;
}

pub feed_byte-requires-clause-room : goal.feed_byte-requires-clause-room
feed_byte-requires-clause-room g c = omega (arith, c.loop-place.invariant.offset, c.requires.room, c.loop-place-test.true)

pub loop-place-preserved : goal.loop-place-preserved
loop-place-preserved g c =
    let bytes = c.args.bytes.now in
    let i : ℕ = c.loop-place.place in
    let inv = c.loop-place.invariant in
    let byte = c.feed_byte.ensures in
    let small : Each (λ b. b < 256) (take i bytes) =
    each-left (λ b. b < 256) (take i bytes) (drop i bytes) (subst (Each (λ b. b < 256)) (sym (take-append-drop i bytes)) (each-by bytes (λ k. (c.type_inv.bytes k).fits))) in
    record {
      scratch = byte.scratch;
      region = byte.region;
      header = λ old. byte.header (inv.header old);
      offset = omega (arith, byte.offset, inv.offset);
      ticks = omega (arith, byte.ticks, inv.ticks);
      taken =
          subst (λ bs. Takes g.V.Events.tells c.args.events.now c.feed_byte.new.events (Feeds c.args.program.now c.args.region.now c.feed_byte.new.region bs)) (sym (take_more bytes i 0 c.loop-place-test.true))
          (takes-more c.args.program.now g.V.Events.tells c.args.events.now c.loop-place.events c.feed_byte.new.events c.args.region.now c.loop-place.region c.feed_byte.new.region
          (take i bytes) (get_or bytes i 0 ∷ []) small inv.taken byte.taken);
    }

pub returns-clause-offset : goal.returns-clause-offset
returns-clause-offset g c = omega (arith, c.loop-place.invariant.offset, c.loop-place-test.false, c.loop-place.auto.place-end)

pub returns-clause-taken : goal.returns-clause-taken
returns-clause-taken g c =
    let whole : take c.loop-place.place c.args.bytes.now ≡ c.args.bytes.now =
    ap (λ n. take n c.args.bytes.now) (let e : c.loop-place.place ≡ length c.args.bytes.now = omega (arith, c.loop-place-test.false, c.loop-place.auto.place-end) in e) ∙ take-length c.args.bytes.now in
    subst (λ bs. Takes g.V.Events.tells c.args.events.now c.loop-place.events (Feeds c.args.program.now c.args.region.now c.loop-place.region bs)) whole c.loop-place.invariant.taken

pub returns-clause-alike : goal.returns-clause-alike
returns-clause-alike g c =
    let taken = returns-clause-taken g c in feeds-alike c.args.program.now c.args.region.now c.loop-place.region c.args.bytes.now taken.pairs taken.holds

pub returns-clause-well : goal.returns-clause-well
returns-clause-well g c old = record { fits = c.loop-place.invariant.region; header = c.loop-place.invariant.header old.header }

pub returns-clause-ticks : goal.returns-clause-ticks
returns-clause-ticks g c =
    let e : c.loop-place.place ≡ length c.args.bytes.now = omega (arith, c.loop-place-test.false, c.loop-place.auto.place-end) in
    subst (λ n. c.loop-place.steps ≤ c.args.steps.now + 16 * (length c.args.program.now.roles * n)) e c.loop-place.invariant.ticks
