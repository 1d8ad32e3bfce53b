-- What is known of the identifiers within a write, and room for it.
use Rattle.std.specs.Prelude.{◌≡◌, ℕ, ◌+◌, ◌≤◌, true, List, length}
use Rattle.hs_base.specs.Bits.{has_word_bit, word_count}
use Rattle.hs_base.specs.Lists.{Each, IsMember}
use Rattle.hs_reports.specs.EndTables.{HasNoEnds}
use Rattle.hs_reports.specs.Identifiers.{id_numbers, numbers_of}
use Rattle.hs_reports.specs.Settlement.{ArePending, SettlesBlock}
use Rattle.hs_reports.specs.declared.identifier.Identifier.{Identifier}
use Rattle.hs_layout.specs.Layouts.{Laid}
use Rattle.hs_keeping.specs.Keeping.{AreRead}
use Rattle.hs_keeping.specs.declared.known.Known.{Known}

-- There is room for so many identifiers.
pub record FitsKnown (count : ℕ) (known : Known) : Type 0 where
  pub told : length known.told.items ≡ word_count count
  pub here : length known.here.items ≡ word_count count
  pub ends : length known.ends.words ≡ count
  pub room : count ≤ known.tellings.room

-- An identifier of which a pair ends behind the last byte is noted, and none has an end yet.
pub record IsPending (known : Known) : Type 0 where
  pub none : HasNoEnds known.ends
  pub pending : ArePending known.here.items known.ends

-- What the region keeps of the identifiers is known, and those are noted of which a pair ends behind the last byte.
pub record BeginsKnown (l : Laid) (region : List ℕ) (identifiers : List Identifier) (known : Known) : Type 0 where
  pub fits : FitsKnown (length identifiers) known
  pub pending : IsPending known
  pub read : AreRead l region identifiers known.told.items known.here.items

-- A block with that last byte is settled, which tells of these identifiers alone.
pub record SettlesKnown (identifiers : List Identifier) (last : ℕ) (old new : Known) : Type 0 where
  pub fits : FitsKnown (length identifiers) new
  pub pending : ArePending old.here.items old.ends → IsPending new
  pub named : Each (λ id. IsMember id (numbers_of identifiers)) (id_numbers new.tellings.ids)
  pub settles : SettlesBlock identifiers (last + 1) old.ends old.told.items old.here.items new.told.items new.here.items
      new.tellings
  pub keeps : (p : ℕ) → has_word_bit old.told.items p ≡ true → has_word_bit new.told.items p ≡ true
