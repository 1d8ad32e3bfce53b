-- What is kept of the empty stream, and when a stream is one of a database.
use Rattle.std.proofs.Common.{◌≡◌, ℕ, ◌≤◌, List, [], length, replicate, get_or, take, ap, subst, sym, ◌∙◌, inl, inr, arith}
use Rattle.std.proofs.lemmas.Bool.{cases_lt}
use Rattle.std.proofs.lemmas.List.{get_or-take, get_or_past, get_or-replicate, length-replicate, length-take}
use Rattle.hs_base.specs.Bits.{AreZero}
use Rattle.hs_base.specs.Regions.{Plan, region_offset}
use Rattle.hs_base.proofs.BitLemmas.{zero-all}
use Rattle.hs_compile.specs.Databases.{Compiled, IsDatabaseOf, IsWholeDatabase, graph_of, layout_of, literals_in, packing_of}
use Rattle.hs_kept.specs.KeptRegions.{IsKeptRegion}
use Rattle.hs_kept.specs.Packing.{packed_size}
use Rattle.hs_kept.proofs.KeptLemmas.{kept-begins, kept-well}
use Rattle.hs_kept.proofs.PackingLemmas.{packings-sized}
use Rattle.hs_regions.proofs.WellLemmas.{header-room}
use Rattle.hs_regions.proofs.ZeroLemmas.{zeros-are}
use Rattle.hs_rose.specs.PieceEngines.{piece_meaning}
use Rattle.hs_stream.specs.Leading.{IsBehind, IsRegionOf}
use Rattle.hs_stream.specs.Streams.{region_of, StreamsAreWellFormed}
use Rattle.hs_literals.specs.Held.{held}
use Rattle.hs_stream.proofs.PackedLemmas.{kept-exact}
use Rattle.hs_stream.proofs.RunningLemmas.{plan-packed}

pub zeros-zero : (bytes : List ℕ) (n : ℕ) → bytes ≡ replicate n 0 → AreZero bytes
zeros-zero bytes n is k below =
    ap (λ bs. get_or bs k 0) is ∙ get_or-replicate n k 0 0 (omega (arith, below, ap length is, length-replicate {A = ℕ} n 0))

pub offset-zero : (bytes : List ℕ) → AreZero bytes → region_offset bytes ≡ 0
offset-zero bytes zeros = omega (arith, z 0, z 1, z 2, z 3, z 4, z 5, z 6, z 7)
  where
    z : (i : ℕ) → get_or (take 8 bytes) i 0 ≡ 0
    z i = elim (cases_lt i 8) [
      | inl below ↦ get_or-take 8 bytes i 0 below ∙ zero-all bytes zeros i
      | inr past ↦ get_or_past (take 8 bytes) i 0 (omega (arith, past, length-take 8 bytes))
    ]

module _ (db : Compiled) (bytes : List ℕ) (zeros : AreZero bytes) (sized : length bytes ≡ packed_size (packing_of db)) where
  pub empty-behind : (plan : Plan) → IsDatabaseOf db plan → IsBehind plan [] bytes
  empty-behind plan is =
      let same : bytes ≡ replicate (packed_size (packing_of db)) 0 = zeros-are bytes zeros ∙ ap (λ n. replicate n 0) sized in
      record {
        bytes = tt;
        region = subst (IsKeptRegion plan []) (sym same) (kept-begins plan (packed_size (packing_of db)) (packings-sized (packing_of db) plan is.packing));
      }

  pub empty-well : IsWholeDatabase db → IsRegionOf db bytes
  empty-well whole =
      let region = (empty-behind whole.plan whole.is_of).region in
      (kept-exact db whole.plan whole.is_of bytes region.bytes).1 (kept-well whole.plan [] bytes region)

pub streams-well : StreamsAreWellFormed
streams-well db plan stream is small =
    let exact = kept-exact db plan is (region_of stream) small in
    (λ own. (own.digest, exact.0 own.region), λ both. record { digest = both.0; region = exact.1 both.1 })

-- there is a whole offset
pub offset-there : (db : Compiled) (kept : List ℕ) → IsWholeDatabase db → IsRegionOf db kept → 8 ≤ length kept
offset-there db kept whole well =
    let room = header-room piece_meaning (graph_of db) (layout_of db) (packing_of db) (held (literals_in db)) whole.plan (plan-packed db whole.plan whole.is_of) kept well.len in
    omega (arith, room)
