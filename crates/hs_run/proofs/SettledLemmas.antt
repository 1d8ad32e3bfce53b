-- The bytes of a region over one byte, from what the calls say.
use Rattle.std.proofs.Common.{◌≡◌, ℕ, ◌<◌, ◌≤◌, ◌⊎◌, List, [], ◌∷◌, ◌++◌, length, get_or, drop, ap, arith, length-append, length-drop}
use Rattle.std.specs.Prelude.{slice_range}
use Rattle.hs_base.specs.Regions.{fields_at}
use Rattle.hs_base.proofs.RegionLemmas.{range-size}
use Rattle.hs_layout.specs.Layouts.{Laid, laid_size, with_part}
use Rattle.hs_run.specs.Chains.{AreWritten}
use Rattle.hs_run.specs.Programs.{FitsLayout}
use Rattle.hs_rose.specs.Programs.{Tables}
use Rattle.hs_run.proofs.FeedLemmas.{AreSteps}
use Rattle.hs_run.proofs.LayoutLemmas.{apart}

pub steps-of : (program : Tables) (l : Laid) (fits : FitsLayout program l) (r0 r1 r2 r3 r4 past history : List ℕ) (offset : List ℕ) (b : ℕ) → length r0 ≡ laid_size l → past ≡ slice_range r0 8 72 → history ≡ drop 1 (past ++ b ∷ []) →
    AreWritten l 0 (length program.roles) r0 r1 → length r2 ≡ length r1 → ((i : ℕ) → (i < 72) ⊎ (fields_at l.singles l.identifiers ≤ i) → get_or r2 i 0 ≡ get_or r1 i 0) →
    r3 ≡ with_part r2 8 72 history → length r3 ≡ length r2 → r4 ≡ with_part r3 0 8 offset → length r4 ≡ length r3 → length offset ≡ 8 → AreSteps l (length program.roles) r0 r1 r2 r3 r4 history offset
steps-of program l fits r0 r1 r2 r3 r4 past history offset b sized was is moved len bytes third len_third fourth len_fourth eight =
    let header = (apart program l fits).header in
    let size : length (slice_range r0 8 72) ≡ 64 = range-size r0 8 72 (omega arith) (omega (arith, sized, header)) in
    record {
      sized = sized;
      room = omega arith;
      header = header;
      moved = moved;
      len = len;
      bytes = bytes;
      third = third;
      wide = omega (arith, ap length is, length-drop 1 (past ++ b ∷ []), length-append past (b ∷ []), ap length was, size);
      len_third = len_third;
      fourth = fourth;
      wide_offset = eight;
      len_fourth = len_fourth;
    }
