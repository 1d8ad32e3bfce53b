-- What bytes, or the end of the stream, make of a region and report.
use Rattle.std.specs.Prelude.{◌≡◌, ℕ, ◌<◌, List, ◌++◌, length}
use Rattle.hs_base.specs.Lists.{Each}
use Rattle.hs_base.specs.Regions.{Plan, IsHeader, IsRegion, region_offset}
use Rattle.hs_base.specs.Told.{Pair, IsTold, IsNew, IsLast}
use Rattle.hs_layout.specs.Layouts.{Laid, laid_size}
use Rattle.hs_run.specs.Chains.{AreParts}
use Rattle.hs_run.specs.Keeping.{AreBitsWritten, AreRead}
use Rattle.hs_run.specs.Programs.{RunsPlan}
use Rattle.hs_run.specs.Reporting.{AreSettled, pairs_about}
use Rattle.hs_run.specs.declared.ends.Ends.{Ends}
use Rattle.hs_run.specs.declared.kept.Kept.{Kept}
use Rattle.hs_rose.specs.declared.identifiers.Identifier.{Identifier}
use Rattle.hs_rose.specs.Programs.{Tables}

-- What one byte settles of the identifiers: the bits of the old region and those of the new one, and the pairs that are
-- reported.
pub record SettlesBits (l : Laid) (identifiers : List Identifier) (ends : List Ends) (old new : List ℕ) (at : ℕ)
    (pairs : List Pair) : Type 0 where
  pub before : List Kept
  pub later : List Kept
  pub before_count : length before ≡ length identifiers
  pub later_count : length later ≡ length identifiers
  pub was : AreRead l old identifiers before
  pub settles : AreSettled identifiers before ends later
  pub written : AreBitsWritten l old new
  pub is : AreRead l new identifiers later
  pub told : pairs ≡ pairs_about identifiers before ends at

-- The region is that of the stream u with the bytes behind it, and the pairs are the new reports of the bytes.
pub record IsFed (plan : Plan) (u bytes now : List ℕ) (pairs : List Pair) : Type 0 where
  pub region : IsRegion plan (u ++ bytes) now
  pub new : IsNew plan.patterns u bytes pairs

-- the same pairs have both properties
pub record AreAlike (First Second : List Pair → Type 0) : Type 0 where
  pub pairs : List Pair
  pub first : First pairs
  pub second : Second pairs

module _ (program : Tables) where
  -- The bytes may be run as a region: they have its length, and each field may stand at their offset.
  pub record FitsRegion (l : Laid) (region : List ℕ) : Type 0 where
    pub sized : length region ≡ laid_size l
    pub parts : AreParts program l region 0 (length program.roles) (region_offset region)

  -- And its header keeps to its rules.
  pub record IsWellRegion (l : Laid) (region : List ℕ) : Type 0 where
    pub fits : FitsRegion l region
    pub header : IsHeader l.singles l.identifiers region

  -- That holds for every plan that the program runs, and every stream of bytes that leads to the old region.
  abbrev pub Feeds : (old new bytes : List ℕ) → List Pair → Type 0
  Feeds old new bytes pairs =
      (plan : Plan) (u : List ℕ) (told : List Pair) →
      RunsPlan program plan →
      Each (λ b. b < 256) u →
      IsRegion plan u old →
      IsTold plan.patterns u told →
      IsFed plan u bytes new pairs

  -- For every plan that the program runs, and every stream of bytes that leads to the region, the pairs are the last
  -- reports.
  abbrev pub Finishes : (region : List ℕ) → List Pair → Type 0
  Finishes region pairs =
      (plan : Plan) (u : List ℕ) →
      RunsPlan program plan →
      Each (λ b. b < 256) u →
      IsRegion plan u region →
      IsLast plan.patterns u pairs

  -- Two streams of which that is the region have the same new reports of the bytes.
  abbrev pub GoesOnAlike : (region bytes : List ℕ) → Type 0
  GoesOnAlike region bytes =
      (plan : Plan) (u v : List ℕ) (told told' : List Pair) →
      RunsPlan program plan →
      Each (λ b. b < 256) u →
      Each (λ b. b < 256) v →
      IsRegion plan u region →
      IsRegion plan v region →
      IsTold plan.patterns u told →
      IsTold plan.patterns v told' →
      AreAlike (IsNew plan.patterns u bytes) (IsNew plan.patterns v bytes)

  -- And the same last ones.
  abbrev pub EndsAlike : (region : List ℕ) → Type 0
  EndsAlike region =
      (plan : Plan) (u v : List ℕ) →
      RunsPlan program plan →
      Each (λ b. b < 256) u →
      Each (λ b. b < 256) v →
      IsRegion plan u region →
      IsRegion plan v region →
      AreAlike (IsLast plan.patterns u) (IsLast plan.patterns v)
