use Rattle.std.proofs.Common.{refl, sym, subst, arith}
use Rattle.std.specs.Int.{to_le_bytes, w64}
use Rattle.hs_keeping.specs.Keeping.{AreLast, AreRead}
use Rattle.hs_scan.specs.Scratches.{stand_of}
use Rattle.hs_nodes.proofs.FillLemmas.{each-by}
use Rattle.hs_scan.proofs.WritingLemmas.{AreWrites, all-written}
use Rattle.hs_scan.proofs.writing.end_write.Goals as goal

pub returns : goal.returns
returns g c =
    let graph = c.args.graph.now in
    let l = c.args.layout.now in
    let s = c.args.scratch.now in
    let fits = c.requires.fits in
    let r0 = c.args.region.now in
    let r1 = c.write.new.region in
    let r4 = c.set_offset.new.region in
    let known = s.course.known in
    let read =
    subst (λ xs. AreRead l r1 xs known.told.items known.here.items) c.deref.ensures.value c.write.ensures.read in
    let last =
    subst (λ xs. AreLast l r1 xs s.last.items) c.deref.ensures.value (subst (λ row. AreLast l r1 c.deref.result.now row) c.deref-2.ensures.value c.write.ensures.last) in
    let writes : AreWrites graph l r0 r1 c.copy_fields.new.region c.set_history.new.region r4 s.past (to_le_bytes w64 s.at) = record {
      sized = c.requires.sized;
      room = omega arith;
      header = fits.apart.header;
      bits = c.write.ensures.written;
      copies = c.copy_fields.ensures;
      third = c.set_history.ensures.written;
      wide = c.requires.room.past;
      len_third = c.set_history.ensures.len;
      fourth = c.set_offset.ensures.written;
      wide_offset = refl;
      len_fourth = c.set_offset.ensures.len;
    } in
    all-written graph l fits r0 r1 c.copy_fields.new.region c.set_history.new.region r4 s.past (to_le_bytes w64 s.at) writes (stand_of s r0) s.last.items refl (record { singles = sym fits.singles; all = sym fits.identifiers }) (each-by r4 (λ i. (c.type_inv.region i).fits))
    c.set_offset.ensures.reads c.set_history.ensures.reads read last
