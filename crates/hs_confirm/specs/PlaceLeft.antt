-- What an iteration over all ends at a place has left.
use Rattle.std.specs.Prelude.{ℕ, ◌+◌, List, ◌++◌, length}
use Rattle.hs_confirm.specs.declared.place_ends.PlaceEnds.{PlaceEnds}
use Rattle.hs_confirm.specs.Heads.{left_behind}

-- the numbers that are still to come
abbrev pub place_left : PlaceEnds → List ℕ
place_left ends =
    left_behind ends.confirm.now.entries.items ends.heads (ends.history.now ++ ends.bytes.now)
    (length ends.history.now + ends.at)
