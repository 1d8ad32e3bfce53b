use Rattle.std.proofs.Common.{◌≡◌, ◌≤◌, ◌-◌, length, refl, sym, subst, ◌∙◌, arith}
use Rattle.std.specs.Prelude.{slice_range}
use Rattle.hs_base.proofs.RegionLemmas.{range-size}
use Rattle.hs_keeping.specs.Keeping.{AreRead}
use Rattle.hs_keeping.specs.Knowing.{FitsKnown}
use Rattle.hs_scan.proofs.writing.begin_write.Goals as goal

pub copy_from_slice-requires : goal.copy_from_slice-requires
copy_from_slice-requires g c =
    let region = c.args.region.now in
    let wide : 72 ≤ length region = omega (arith, c.requires.sized, c.requires.fits.apart.header) in
    let size : length (slice_range region 8 72) ≡ 72 - 8 = range-size region 8 72 (omega arith) wide in
    c.requires.room.past ∙ sym (subst (λ bytes. length bytes ≡ 64) (sym c.history.ensures) size)

pub returns : goal.returns
returns g c =
    let room = c.requires.room in
    let known = c.begin.new.self in
    let identifiers = c.args.graph.now.identifiers.items in
    record {
      room = record {
        room = room.room;
        hits = room.hits;
        known = subst (λ xs. FitsKnown (length xs) known) c.deref.ensures.value c.begin.ensures.fits;
        finals = room.finals;
        last = room.last;
        past = c.copy_from_slice.ensures.len ∙ room.past;
      };
      pending = c.begin.ensures.pending;
      read = subst (λ xs. AreRead c.args.layout.now c.args.region.now xs known.told.items known.here.items) c.deref.ensures.value c.begin.ensures.read;
      at_is = c.offset-scratch.ensures;
      past = c.copy_from_slice.ensures.after ∙ c.history.ensures;
      hits = refl;
      rows = refl;
      finals = refl;
    }
