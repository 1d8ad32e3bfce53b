-- What a runner finds of a chain where a stream stands.
use Rattle.std.specs.Prelude.{◌≡◌, ◌⊎◌, ℕ, ◌+◌, ◌<◌, ◌≤◌}
use Rattle.std.specs.Prelude.{List, [], ◌∷◌, ◌++◌, length, take, Some}
use Rattle.std.specs.Prelude.{slice_get}
use Rattle.hs_base.specs.declared.context.NextSet.{NextSet}
use Rattle.hs_base.specs.ContextSets.{has_next}
use Rattle.hs_base.specs.KeptPieces.{IsKeptAs}
use Rattle.hs_base.specs.Leaving.{TellsLeaving}
use Rattle.hs_base.specs.Regions.{Place, Plan, fields_at, list_places, place_form}
use Rattle.hs_layout.specs.Layouts.{Laid, field_bytes}
use Rattle.hs_run.specs.Pieces.{IsPart}
use Rattle.hs_run.specs.Programs.{Row, RunsRow, looked}
use Rattle.hs_run.specs.Spots.{IsSpot}
use Rattle.hs_run.specs.declared.chains.Begun.{Begun}
use Rattle.hs_rose.specs.declared.info.ChainInfo.{ChainInfo}
use Rattle.hs_rose.specs.Programs.{Tables}
use Rattle.hs_rose.specs.declared.role.Role.{Role}
use Rattle.hs_run.specs.declared.spot.Spot.{Spot}

-- The fields from one number on and before another may be written; all else is as before.
pub record AreWritten (l : Laid) (from to : ℕ) (old new : List ℕ) : Type 0 where
  pub len : length new ≡ length old
  pub header : take (fields_at l.singles l.identifiers) new ≡ take (fields_at l.singles l.identifiers) old
  pub others : (j : ℕ) → (j < from) ⊎ (to ≤ j) → j + 1 < length l.starts → field_bytes l new j ≡ field_bytes l old j

-- each of those fields is that of its piece behind the bytes u
abbrev pub AreKept : Plan → Laid → (region : List ℕ) (from to : ℕ) (u : List ℕ) → Type 0
AreKept plan l region from to u =
    (k : ℕ) (p : Place) → from ≤ k → k < to → slice_get (list_places plan) k ≡ Some p →
    IsKeptAs (place_form p) p.pieces (field_bytes l region k) u

module _ (program : Tables) where
  -- each of those fields may be that of its role at the offset
  abbrev pub AreParts : Laid → (region : List ℕ) (from to at : ℕ) → Type 0
  AreParts l region from to at =
      (k : ℕ) (r : Role) → from ≤ k → k < to → slice_get program.roles k ≡ Some r →
      IsPart program r (field_bytes l region k) at

  -- Whatever row the chain runs, and behind whatever stream: where the pieces are left that are told together, and how
  -- many they are.
  pub record BeginsRow (plan : Plan) (c : ChainInfo) (x : Row) (u : List ℕ) (begun : Begun) : Type 0 where
    pub next : begun.next ≡ c.first + looked (plan.looks_back x.chain)
    pub leaves : TellsLeaving (has_next begun.now) (take (looked (plan.looks_back x.chain)) x.chain) u

  abbrev pub BeginsChain : ChainInfo → Spot → Begun → Type 0
  BeginsChain c spot begun =
      (plan : Plan) (x : Row) (u : List ℕ) → RunsRow program plan c x → IsSpot u spot →
      BeginsRow plan c x u begun

  -- And where the whole chain is left.
  abbrev pub LeavesChain : Laid → ChainInfo → (region : List ℕ) → Spot → NextSet → Type 0
  LeavesChain l c region spot set =
      (plan : Plan) (x : Row) (u : List ℕ) → RunsRow program plan c x → IsSpot u spot →
      AreKept plan l region c.first c.end u → TellsLeaving (has_next set) x.chain u

  -- And its fields behind the byte.
  abbrev pub StepsChain : Laid → ChainInfo → (old new : List ℕ) → Spot → (byte : ℕ) → Type 0
  StepsChain l c old new spot byte =
      (plan : Plan) (x : Row) (u : List ℕ) → RunsRow program plan c x → IsSpot u spot →
      AreKept plan l old c.first c.end u → AreKept plan l new c.first c.end (u ++ byte ∷ [])
