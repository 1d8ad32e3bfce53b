-- What the engines of repeats run, and what their rows say.
use Rattle.std.specs.Prelude.{◌≡◌, ℕ, ◌+◌, ◌/◌, false, None, Some}
use Rattle.std.proofs.Common.{sym, ◌∙◌}
use Rattle.hs_base.specs.declared.byte_set.ByteSet.{ByteSet}
use Rattle.hs_base.specs.ByteSets.{members}
use Rattle.hs_base.specs.RepeatRows.{IsAway, IsDistanceAt, IsFirstRow, IsLastRow, IsRingAt, IsRingRow, distance_of}
use Rattle.hs_engine.specs.Engines.{Meaning}
use Rattle.hs_repeat.specs.Repeats.{IsLastOf, repeat_of}
use Rattle.hs_base.proofs.RepeatRowLemmas.{same-distance, first-once, first-within, last-once, last-within, ring-once}
use Rattle.hs_base.proofs.RepeatRowLemmas.{ring-within}

-- at least n bytes of the set, by how far the farthest entry that lives is away
abbrev pub first_meaning : (set : ByteSet) (n : ℕ) → Meaning
first_meaning set n = record {
  width = 2;
  is_for = λ tree. tree ≡ repeat_of set n None;
  field = λ region tree u entered. IsFirstRow n (members set) region u entered;
  well = λ region at. IsDistanceAt n (distance_of region) at;
  always = false;
  one_field = λ tree u entered region other runs len is other_is row other_row.
      same-distance region other is.len other_is.len is.bytes other_is.bytes
      (first-once n (IsAway (members set) u entered) (distance_of region) (distance_of other) row other_row);
  well_formed = λ tree u entered region runs len is row. first-within n (members set) u entered (distance_of region)
      row;
}

-- at most m bytes of the set, by how far the nearest entry that lives is away
abbrev pub last_meaning : (set : ByteSet) (m : ℕ) → Meaning
last_meaning set m = record {
  width = 2;
  is_for = IsLastOf set m;
  field = λ region tree u entered. IsLastRow m (members set) region u entered;
  well = λ region at. IsDistanceAt m (distance_of region) at;
  always = false;
  one_field = λ tree u entered region other runs len is other_is row other_row.
      same-distance region other is.len other_is.len is.bytes other_is.bytes
      (last-once m (IsAway (members set) u entered) (distance_of region) (distance_of other) row other_row);
  well_formed = λ tree u entered region runs len is row. last-within m (members set) u entered (distance_of region) row;
}

-- from n to m bytes of the set, by a bit for each of the last m offsets
abbrev pub ring_meaning : (set : ByteSet) (n m : ℕ) → Meaning
ring_meaning set n m = record {
  width = (m + 7) / 8;
  is_for = λ tree. tree ≡ repeat_of set n (Some m);
  field = λ region tree u entered. IsRingRow m (members set) region u entered;
  well = λ region at. IsRingAt m region at;
  always = false;
  one_field = λ tree u entered region other runs len is other_is. ring-once m (members set) u entered region other
      (is.len ∙ sym other_is.len) is.bytes other_is.bytes;
  well_formed = λ tree u entered region runs len is. ring-within m (members set) u entered region;
}
