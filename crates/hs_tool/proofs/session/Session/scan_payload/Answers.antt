use Rattle.std.proofs.Common.{◌≡◌, ◌∙◌, ◌++◌, [], length, take, true, false, Some, refl, ap, arith}
use Rattle.hs_reader.proofs.ReadLemmas.{when_true, when_false}
use Rattle.hs_tool.proofs.PayloadLemmas.{comes-start, comes-piece, comes-all, comes-short, comes-lost, comes-broken, unlost, few_taken, some_taken, counts-broken, counts-lost}
use Rattle.hs_lines.proofs.PassLemmas.{passed-nothing, passes-join}
use Rattle.hs_tool.proofs.ScanLemmas.{scans-none, scans-join, scans-weaker}
use Rattle.hs_tool.proofs.session.Session.scan_payload.Goals as goal

pub loop-left-init : goal.loop-left-init
loop-left-init g c = record {
  scanned = record {
    came = [];
    come = comes-start (g.I.Source.left c.args.self.now.input.now) c.args.self.now.reader c.args.count;
    scanned = scans-none c.args.self.now.db.now (Some c.args.name.now) c.args.stream.now (passed-nothing (g.O.Sink.written c.args.self.now.out.now) c.args.self.now.pending);
  };
  stays = record { same_db = refl; same_store = refl; same_input = refl; same_out = refl; cache = c.requires.cache };
  same_files = refl;
  fits = c.requires.fits;
  room = c.requires.room;
  counted = record { source = refl; sink = refl };
}

pub loop-left-preserved : goal.loop-left-preserved
loop-left-preserved g c =
    let so_far = c.loop-left.invariant.scanned in
    let bytes = c.first_of-bytes.result.now in
    let waits = when_true _ _ c.in-Ok-true.field-0-test c.in-Ok-true.ensures.waits in
    let is : bytes ≡ take c.loop-left.left c.fill.new.self.bytes = c.first_of-bytes.ensures ∙ ap (λ l. take c.loop-left.left l) c.waiting.ensures in
    record {
      scanned = record {
        came = so_far.came ++ bytes;
        come = comes-piece bytes so_far.come c.fill.ensures.consumes waits.1 is c.advance.ensures.bytes c.advance.ensures.place c.advance.ensures.ended;
        scanned = scans-join (λ s t first then. passes-join false _ _ _ _ _ _ s t first then.passed) so_far.scanned (rw c.copied.ensures at c.in-Ok.ensures.scanned);
      };
      stays = record {
        same_db = c.loop-left.invariant.stays.same_db;
        same_store = c.loop-left.invariant.stays.same_store;
        same_input = c.loop-left.invariant.stays.same_input;
        same_out = c.loop-left.invariant.stays.same_out;
        cache = c.write_piece-scanned.ensures.cache;
      };
      same_files = c.loop-left.invariant.same_files;
      fits = c.write_piece-scanned.ensures.fits;
      room = omega (arith, c.loop-left.invariant.room, c.write_piece-scanned.ensures.offset, ap length is, few_taken c.loop-left.left c.fill.new.self.bytes);
      counted = record {
        source = c.in-Ok-true.ensures.counts ∙ c.loop-left.invariant.counted.source;
        sink = c.in-Ok.ensures.scanned.passes.counted ∙ c.loop-left.invariant.counted.sink;
      };
    }

pub returns-in-Err-scanned-clause-scanned : goal.returns-in-Err-scanned-clause-scanned
returns-in-Err-scanned-clause-scanned g c =
    let so_far = c.loop-left.invariant.scanned in
    let bytes = c.first_of-bytes.result.now in
    let waits = when_true _ _ c.in-Ok-true.field-0-test c.in-Ok-true.ensures.waits in
    let is : bytes ≡ take c.loop-left.left c.fill.new.self.bytes = c.first_of-bytes.ensures ∙ ap (λ l. take c.loop-left.left l) c.waiting.ensures in
    record {
      came = so_far.came ++ bytes;
      comes =
          comes-lost
          (comes-piece bytes so_far.come c.fill.ensures.consumes waits.1 is c.advance.ensures.bytes c.advance.ensures.place c.advance.ensures.ended)
          (c.advance.ensures.ended ∙ waits.1);
      scanned = scans-join (λ s t first then. passes-join true _ _ _ _ _ c.args.self.now.pending s t first then.cut) so_far.scanned (rw c.copied.ensures at c.in-Err-scanned.ensures.scanned);
    }

pub returns-in-Err-clause-scanned : goal.returns-in-Err-clause-scanned
returns-in-Err-clause-scanned g c =
    let so_far = c.loop-left.invariant.scanned in
    record {
      came = so_far.came;
      comes = comes-broken c.in-Err.stop so_far.come c.fill.ensures.consumes (omega arith) c.in-Err.ensures.broken;
      scanned = scans-weaker (λ text passes. unlost c.in-Err.stop _ _ c.in-Err.ensures.counts text passes) so_far.scanned;
    }

pub returns-in-Err-clause-counts : goal.returns-in-Err-clause-counts
returns-in-Err-clause-counts g c = counts-broken (g.I.Source.faults c.fill.new.input) c.in-Err.stop c.loop-left.invariant.counted c.in-Err.ensures.counts

pub returns-in-Err-clause-stays : goal.returns-in-Err-clause-stays
returns-in-Err-clause-stays g c =
    let stays = c.loop-left.invariant.stays in
    record { same_db = stays.same_db; same_store = stays.same_store; same_input = stays.same_input; same_out = stays.same_out; cache = stays.cache }

pub returns-in-Ok-false-clause-scanned : goal.returns-in-Ok-false-clause-scanned
returns-in-Ok-false-clause-scanned g c =
    let so_far = c.loop-left.invariant.scanned in
    record {
      came = so_far.came;
      comes = comes-short so_far.come c.fill.ensures.consumes (omega arith) (when_false _ _ c.in-Ok-false.field-0-test c.in-Ok-false.ensures.waits);
      scanned = so_far.scanned;
    }

pub returns-in-Err-scanned-clause-counts : goal.returns-in-Err-scanned-clause-counts
returns-in-Err-scanned-clause-counts g c = counts-lost c.loop-left.invariant.counted c.in-Ok-true.ensures.counts c.in-Err-scanned.ensures.scanned.passes.failed

pub loop-left-smaller : goal.loop-left-smaller
loop-left-smaller g c =
    let waits = when_true _ _ c.in-Ok-true.field-0-test c.in-Ok-true.ensures.waits in
    let bytes = c.first_of-bytes.result.now in
    let is : bytes ≡ take c.loop-left.left c.fill.new.self.bytes = c.first_of-bytes.ensures ∙ ap (λ l. take c.loop-left.left l) c.waiting.ensures in
    omega (arith, ap length is, few_taken c.loop-left.left c.fill.new.self.bytes, some_taken c.loop-left.left c.fill.new.self.bytes (omega arith) waits.0)

pub returns-clause-scanned : goal.returns-clause-scanned
returns-clause-scanned g c =
    let so_far = c.loop-left.invariant.scanned in
    record { came = so_far.came; comes = comes-all so_far.come (omega arith); scanned = so_far.scanned }
