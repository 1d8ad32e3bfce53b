use Rattle.std.proofs.Common.{◌∙◌, refl, subst, arith, rules}
use Rattle.hs_outside.specs.Counts.{Rose}
use Rattle.hs_outside.proofs.Viewing.{IsPresent-read, ReadsAt-again}
use Rattle.hs_tool.proofs.ScanLemmas.{seen-start, seen-more, seen-end, seen-part, seen-cut, seen-longer}
use Rattle.hs_tool.proofs.scan.scan_file.Goals as goal

pub pieces-init : goal.pieces-init
pieces-init g c = record {
  seen = seen-start c.args.db.now (g.S.Store.told c.args.store.now c.args.name.now) c.args.stream.now (g.O.Sink.written c.args.out.now) (g.O.Sink.faults c.args.out.now) c.args.pending.now c.requires.start;
  fits = c.requires.fits;
  cache = c.requires.cache;
  stored = refl;
  sunk = refl;
  room = search rules;
  kept = refl;
}

pub returns-in-Ok-eq0-clause-scanned : goal.returns-in-Ok-eq0-clause-scanned
returns-in-Ok-eq0-clause-scanned g c =
    let kept = c.pieces.invariant in
    let reads = ReadsAt-again _ _ c.args.name.now c.offset-at.result _ _ c.in-Ok-eq0.field-0 kept.kept c.in-Ok-eq0.ensures.given in
    seen-end c.offset-at.result c.in-Ok-eq0.field-0 c.offset-at.ensures c.in-Ok-eq0.field-0-test (omega (arith, c.read_at.auto.buf, kept.room)) kept.seen reads

pub returns-in-Err-clause-cut : goal.returns-in-Err-clause-cut
returns-in-Err-clause-cut g c =
    let kept = c.pieces.invariant in
    let reads = ReadsAt-again _ _ c.args.name.now c.offset-at.result _ _ c.in-Ok.count kept.kept c.in-Ok.ensures.given in
    seen-cut c.offset-at.result c.in-Ok.count c.offset-at.ensures kept.seen reads c.in-Err.ensures.scanned

pub pieces-preserved : goal.pieces-preserved
pieces-preserved g c =
    let kept = c.pieces.invariant in
    let reads = ReadsAt-again _ _ c.args.name.now c.offset-at.result _ _ c.in-Ok.count kept.kept c.in-Ok.ensures.given in
    record {
      seen = seen-more c.offset-at.result c.in-Ok.count c.offset-at.ensures (omega arith) kept.seen reads c.in-Ok-write_piece.ensures.scanned c.in-Ok-write_piece.ensures.offset;
      fits = c.in-Ok-write_piece.ensures.fits;
      cache = c.in-Ok-write_piece.ensures.cache;
      stored = c.in-Ok.ensures.counted ∙ kept.stored;
      sunk = c.in-Ok-write_piece.ensures.scanned.passes.counted ∙ kept.sunk;
      room = omega (arith, c.read_at.auto.buf, kept.room);
      kept = c.read_at.ensures.kept ∙ kept.kept;
    }

pub returns-in-Err-Absent-clause-cut : goal.returns-in-Err-Absent-clause-cut
returns-in-Err-Absent-clause-cut g c = seen-part c.pieces.invariant.seen

pub returns-in-Err-Failed-clause-cut : goal.returns-in-Err-Failed-clause-cut
returns-in-Err-Failed-clause-cut g c = seen-part c.pieces.invariant.seen

pub returns-then-at-count-clause-cut : goal.returns-then-at-count-clause-cut
returns-then-at-count-clause-cut g c = seen-part c.pieces.invariant.seen

pub returns-then-at-count-clause-fault : goal.returns-then-at-count-clause-fault
returns-then-at-count-clause-fault g c =
    let kept = c.pieces.invariant in
    let reads = ReadsAt-again _ _ c.args.name.now c.offset-at.result _ _ c.in-Ok.count kept.kept c.in-Ok.ensures.given in
    (seen-longer c.offset-at.result c.in-Ok.count c.offset-at.ensures (omega arith) kept.seen reads, c.in-Ok.ensures.counted ∙ kept.stored, kept.sunk)

pub returns-in-Err-clause-fault : goal.returns-in-Err-clause-fault
returns-in-Err-clause-fault g c =
    let kept = c.pieces.invariant in
    let reads = ReadsAt-again _ _ c.args.name.now c.offset-at.result _ _ c.in-Ok.count kept.kept c.in-Ok.ensures.given in
    (IsPresent-read (g.S.Store.told c.args.store.now c.args.name.now) c.offset-at.result _ reads.given, c.in-Ok.ensures.counted ∙ kept.stored, subst (λ n. Rose n (g.O.Sink.faults c.write_piece.new.out)) kept.sunk c.in-Err.ensures.scanned.passes.failed)
