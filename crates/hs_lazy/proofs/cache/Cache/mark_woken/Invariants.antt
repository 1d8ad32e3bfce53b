use Rattle.std.proofs.Common.{◌≡◌, ℕ, ◌<◌, true, false, length, Some}
use Rattle.hs_bits.specs.Marks.{is_marked}
use Rattle.hs_lazy.specs.declared.cache.Place.{Place}
use Rattle.hs_lazy.specs.Caches.{IsSilent, Told, told}
use Rattle.hs_lazy.specs.Tables.{engine_at, place_for}
use Rattle.hs_lazy.proofs.cache.Cache.mark_woken.Given as goal

abbrev pub invariant-loop-at : goal.invariant-loop-at
invariant-loop-at l = record {
  room : length l.marks ≡ length l.fn.marks;
  kept : (k : ℕ) → is_marked l.fn.marks k ≡ true → is_marked l.marks k ≡ true;
  own : (k : ℕ) → is_marked l.marks k ≡ true → is_marked l.fn.marks k ≡ false → (n : ℕ) × (engine_at l.self.dfas k ≡ Some n);
  silent : (k : ℕ) (t : Told) (p : Place) → place_for l.self.dfas k ≡ Some p → p.dfa < l.at → told l.self k ≡ Some t → is_marked l.marks k ≡ false → IsSilent t;
}
