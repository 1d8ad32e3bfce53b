-- The size of a program's regions, and the region of the empty stream.
use Rattle.std.proofs.Common.{◌≡◌, ℕ, ◌+◌, ◌-◌, ◌<◌, ◌≤◌, false, List, [], length, take, replicate, get_or, Some, slice_get, sym, ap, subst, ◌∙◌, inl, inr, arith}
use Rattle.std.specs.Prelude.{slice_index, slice_range}
use Rattle.std.proofs.lemmas.Bool.{cases_lt}
use Rattle.std.proofs.lemmas.List.{get_or-replicate, get_or-take, get_or_past, length-map, length-replicate, length-take-le}
use Rattle.std.proofs.lemmas.Grind.{same_number_lists}
use Rattle.hs_base.specs.Bits.{AreZero, has_bit}
use Rattle.hs_base.specs.Regions.{IsHeader, IsRegion, fields_at, history_at, plan_size, region_offset, sums_from}
use Rattle.hs_base.proofs.BitLemmas.{zero-all, zero-bits}
use Rattle.hs_base.proofs.RegionLemmas.{get-range, range-size}
use Rattle.hs_base.proofs.RegionStartLemmas.{regions-begin}
use Rattle.hs_base.proofs.SumLemmas.{sums-above, sums-size}
use Rattle.hs_layout.specs.Layouts.{field_bytes, laid_size}
use Rattle.hs_rose.specs.declared.engine.PieceEngine.{PieceEngine}
use Rattle.hs_rose.specs.declared.role.Role.{Role}
use Rattle.hs_rose.specs.Identifiers.{singles_of}
use Rattle.hs_rose.specs.PieceEngines.{piece_meaning}
use Rattle.hs_rose.specs.Programs.{Tables}
use Rattle.hs_run.specs.Clearing.{AreEmptyRegions, AreWellRegions}
use Rattle.hs_run.specs.Pieces.{IsPart, IsSound}
use Rattle.hs_run.specs.Programs.{program_layout, sizes_of}
use Rattle.hs_run.proofs.LayoutLemmas.{apart, field-next, starts-count}
use Rattle.hs_run.proofs.PlanLayoutLemmas.{plan-laid, plan-size}
use Rattle.std.proofs.lemmas.Option.{get_or_from_slice_get, same_Some, slice_get_within}

-- the sums of the sizes up to the last one
pub laid-sums : (program : Tables) → laid_size (program_layout program) ≡
    slice_index (sums_from (fields_at (length (singles_of program.identifiers)) (length program.identifiers)) (sizes_of program.roles)) (length (sizes_of program.roles))
laid-sums program =
    let first = fields_at (length (singles_of program.identifiers)) (length program.identifiers) in
    let e : length (sums_from first (sizes_of program.roles)) - 1 ≡ length (sizes_of program.roles) = omega (arith, sums-size first (sizes_of program.roles)) in
    ap (slice_index (sums_from first (sizes_of program.roles))) e

pub laid-above : (program : Tables) (k size : ℕ) → slice_get (sums_from (fields_at (length (singles_of program.identifiers)) (length program.identifiers)) (sizes_of program.roles)) k ≡ Some size → size ≤ laid_size (program_layout program)
laid-above program k size at =
    omega (arith, sums-above (fields_at (length (singles_of program.identifiers)) (length program.identifiers)) (sizes_of program.roles) k size at, laid-sums program)

pub laid-whole : (program : Tables) (k size : ℕ) → k ≡ length program.roles → slice_get (sums_from (fields_at (length (singles_of program.identifiers)) (length program.identifiers)) (sizes_of program.roles)) k ≡ Some size →
    size ≡ laid_size (program_layout program)
laid-whole program k size last at =
    let sums = sums_from (fields_at (length (singles_of program.identifiers)) (length program.identifiers)) (sizes_of program.roles) in
    let end : k ≡ length (sizes_of program.roles) = last ∙ sym (length-map program.roles (λ (r : Role). r.field_size)) in
    sym (laid-sums program ∙ (ap (slice_index sums) (sym end) ∙ get_or_from_slice_get sums k size 0 at))

-- bytes that are all 0

zeros-are : (bytes : List ℕ) → AreZero bytes → bytes ≡ replicate (length bytes) 0
zeros-are bytes zeros =
    same_number_lists bytes (replicate (length bytes) 0) (sym (length-replicate {A = ℕ} (length bytes) 0))
    (λ k below. zero-all bytes zeros k ∙ sym (get_or-replicate (length bytes) k 0 0 below))

range-zero : (bytes : List ℕ) (low high : ℕ) → AreZero bytes → low ≤ high → high ≤ length bytes → slice_range bytes low high ≡ replicate (high - low) 0
range-zero bytes low high zeros order within =
    let size : length (slice_range bytes low high) ≡ high - low = range-size bytes low high order within in
    same_number_lists (slice_range bytes low high) (replicate (high - low) 0) (size ∙ sym (length-replicate {A = ℕ} (high - low) 0))
    (λ k below.
    let inner : k < high - low = omega (arith, below, size) in
    get-range bytes low high k inner ∙ (zero-all bytes zeros (low + k) ∙ sym (get_or-replicate (high - low) k 0 0 inner)))

offset-zero : (bytes : List ℕ) → AreZero bytes → region_offset bytes ≡ 0
offset-zero bytes zeros = omega (arith, z 0, z 1, z 2, z 3, z 4, z 5, z 6, z 7)
  where
    z : (i : ℕ) → get_or (take 8 bytes) i 0 ≡ 0
    z i = elim (cases_lt i 8) [
      | inl below ↦ get_or-take 8 bytes i 0 below ∙ zero-all bytes zeros i
      | inr past ↦ get_or_past (take 8 bytes) i 0 (omega (arith, past, Rattle.std.proofs.lemmas.List.length-take 8 bytes))
    ]

module _ (bytes : List ℕ) (zeros : AreZero bytes) where
  header-zero : (singles identifiers : ℕ) → IsHeader singles identifiers bytes
  header-zero singles identifiers = record {
    offset = omega (arith, offset-zero bytes zeros);
    history = λ i early. zero-all bytes zeros (history_at + i);
    told = λ k past below. zero-bits bytes zeros k;
    here = λ k past below. zero-bits bytes zeros k;
    last = λ k past below. zero-bits bytes zeros k;
  }

  part-zero : (program : Tables) (r : Role) (size : ℕ) (part : List ℕ) → IsSound program r size → part ≡ replicate size 0 → IsPart program r part 0
  part-zero program r size part sound is = record {
    engine = λ same e there.
        let has = sound.engine same in
        let one : has.value ≡ e = same_Some has.value e (sym has.there ∙ there) in
        subst (λ bs. (piece_meaning e).well bs 0) (sym is) (subst (λ (q : PieceEngine). (piece_meaning q).well (replicate size 0) 0) one has.begins);
    literal = λ same x there. record { spare = λ k past. no_bits k; early = λ k past. no_bits k };
  }
    where
      no_bits : (k : ℕ) → has_bit part k ≡ false
      no_bits k = subst (λ bs. has_bit bs k ≡ false) (sym is) (zero-bits (replicate size 0) (λ i below. get_or-replicate size i 0 0 (omega (arith, below, length-replicate {A = ℕ} size 0))) k)

  pub zero-well : AreWellRegions bytes
  zero-well program l runs fits sized = record {
    fits = record {
      sized = sized;
      parts = λ k r low high role.
          let next = field-next program l fits k r role in
          let below = slice_get_within program.roles k r role in
          let starts = starts-count program l fits in
          let is_apart = apart program l fits in
          let order : slice_index l.starts k ≤ slice_index l.starts (k + 1) = omega (arith, next) in
          let within : slice_index l.starts (k + 1) ≤ length bytes =
          let e = is_apart.rising (k + 1) (length l.starts - 1) (omega (arith, starts, below)) (omega (arith, starts)) in omega (arith, e, sized) in
          let size : slice_index l.starts (k + 1) - slice_index l.starts k ≡ r.field_size = omega (arith, next) in
          subst (λ at. IsPart program r (field_bytes l bytes k) at) (sym (offset-zero bytes zeros))
          (part-zero program r r.field_size (field_bytes l bytes k) (runs.roles k r role) (range-zero bytes (slice_index l.starts k) (slice_index l.starts (k + 1)) zeros order within ∙ ap (λ n. replicate n 0) size));
    };
    header = header-zero l.singles l.identifiers;
  }

  pub zero-empty : AreEmptyRegions bytes
  zero-empty program l plan fits sized runs =
      let same : length bytes ≡ plan_size plan = sized ∙ (ap laid_size (plan-laid program plan runs l fits) ∙ plan-size plan) in
      subst (λ bs. IsRegion plan [] bs) (sym (zeros-are bytes zeros ∙ ap (λ n. replicate n 0) same)) (regions-begin plan)
