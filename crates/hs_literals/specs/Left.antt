-- What a scan has left.
use Rattle.std.specs.Prelude.{ℕ, List, ◌++◌}
use Rattle.hs_confirm.specs.PlaceLeft.{place_left}
use Rattle.hs_literals.specs.declared.scan.LitScan.{LitScan}
use Rattle.hs_literals.specs.Held.{held}
use Rattle.hs_literals.specs.AllEnds.{pairs_of_place, ends_behind}

-- the ends that are still to come
abbrev pub scan_left : LitScan → List (ℕ × ℕ)
scan_left scan =
    pairs_of_place scan.places.at (place_left scan.ends) ++ ends_behind (held scan.places.literals.now)
    scan.places.history.now scan.places.bytes.now scan.places.at
