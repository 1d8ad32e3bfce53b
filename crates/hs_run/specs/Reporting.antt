-- Which pairs are reported in one go over the identifiers.
use Rattle.std.specs.Prelude.{◌≡◌, ℕ, ◌+◌, Bool, List, [], ◌∷◌, ◌++◌, Some, slice_get}
use Rattle.hs_base.specs.Told.{Pair}
use Rattle.hs_base.specs.Settling.{Kept, Ends, tells_before, tells_behind, tells_end, settled, pairs_told}
use Rattle.hs_rose.specs.declared.identifiers.Identifier.{Identifier}
use Rattle.hs_rose.specs.Identifiers.{ids_of}
use Rattle.hs_run.specs.declared.ends.Ends.{Ends as EndsAbout}
use Rattle.hs_run.specs.declared.reporting.Moment.{Moment}
use Rattle.hs_run.specs.declared.reporting.Moment.TheVariants.{BeforeByte, BehindByte, BeforeLastByte, AtEnd}
use Rattle.hs_run.specs.declared.kept.Kept.{Kept as KeptOf}
use Rattle.hs_run.specs.Ends.{ends_of}
use Rattle.hs_run.specs.Keeping.{plain_kept}

-- what is kept of an identifier and its ends tell that its pair is reported
abbrev pub tells : Moment → Bool → Kept → Ends → Bool
tells BeforeByte single kept ends = tells_before single kept ends
tells BehindByte single kept ends = tells_behind single kept ends
tells BeforeLastByte single kept ends = kept.last
tells AtEnd single kept ends = tells_end single kept ends.behind

-- whether it is, for each identifier
abbrev pub told_values : Moment → List Identifier → List KeptOf → List EndsAbout → List Bool
told_values moment [] kept ends = []
told_values moment (x ∷ xs) [] ends = []
told_values moment (x ∷ xs) (k ∷ ks) [] = []
told_values moment (x ∷ xs) (k ∷ ks) (e ∷ es) =
    tells moment x.single (plain_kept k) (ends_of e) ∷ told_values moment xs ks es

-- the pairs with one end that are reported
abbrev pub pairs_at : Moment → List Identifier → List KeptOf → List EndsAbout → ℕ → List Pair
pairs_at moment identifiers kept ends to = pairs_told (ids_of identifiers) (told_values moment identifiers kept ends) to

-- those that end before the byte at that offset, and then those that end behind it
abbrev pub pairs_about : List Identifier → List KeptOf → List EndsAbout → ℕ → List Pair
pairs_about identifiers kept ends at =
    pairs_at BeforeByte identifiers kept ends at ++ pairs_at BehindByte identifiers kept ends (at + 1)

-- what is kept of each identifier behind the byte
abbrev pub AreSettled : List Identifier → List KeptOf → List EndsAbout → List KeptOf → Type 0
AreSettled identifiers old ends new =
    (i : ℕ) (identifier : Identifier) (k k' : KeptOf) (e : EndsAbout) →
    slice_get identifiers i ≡ Some identifier →
    slice_get old i ≡ Some k →
    slice_get ends i ≡ Some e →
    slice_get new i ≡ Some k' →
    plain_kept k' ≡ settled identifier.single (plain_kept k) (ends_of e)
