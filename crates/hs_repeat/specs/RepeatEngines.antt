-- What each engine of repeats means.
use Rattle.hs_engine.specs.Engines.{Meaning}
use Rattle.hs_repeat.specs.declared.first.First.{First}
use Rattle.hs_repeat.specs.declared.last.Last.{Last}
use Rattle.hs_repeat.specs.declared.ring.Ring.{Ring}
use Rattle.hs_repeat.specs.RepeatMeanings.{first_meaning, last_meaning, ring_meaning}

abbrev pub meaning_of_first : First → Meaning
meaning_of_first first = first_meaning first.farthest.set first.farthest.bound

abbrev pub meaning_of_last : Last → Meaning
meaning_of_last last = last_meaning last.nearest.set last.nearest.bound

abbrev pub meaning_of_ring : Ring → Meaning
meaning_of_ring ring = ring_meaning ring.set ring.least ring.greatest
