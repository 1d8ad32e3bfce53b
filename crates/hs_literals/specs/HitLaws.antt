-- What hits say of a stream: `before` has just its last bytes.
use Rattle.std.specs.Prelude.{◌≡◌, ◌↔◌, ℕ, ◌+◌, ◌*◌, ◌≤◌, ◌⊎◌, true, List, [], ◌++◌, length, take, drop, Some}
use Rattle.std.specs.Prelude.{slice_get}
use Rattle.hs_base.specs.LiteralEnds.{EndsAt}
use Rattle.hs_base.specs.Literals.{LiteralByte}
use Rattle.hs_block.specs.declared.literal.Hits.{Hits}
use Rattle.hs_block.specs.LiteralBlocks.{AreHits, is_hit}
use Rattle.hs_literals.specs.HitTables.{HitTable, TellsHits, is_hit_at}

-- Those are the last bytes of u, as many as the literal has or more; or they are all of u.
pub record ReachesBack (literal : List LiteralByte) (u before : List ℕ) : Type 0 where
  pub earlier : List ℕ
  pub split : u ≡ earlier ++ before
  pub enough : (earlier ≡ []) ⊎ (length literal ≤ length before)

-- A table tells where a literal ends in the stream.
abbrev pub HitsTellOfStreams : Type 0
HitsTellOfStreams =
    (table : HitTable) (literals : List (List LiteralByte)) (u before bytes : List ℕ) (number : ℕ)
    (literal : List LiteralByte) →
    TellsHits table literals before bytes →
    slice_get literals number ≡ Some literal →
    ReachesBack literal u before →
    (place : ℕ) →
    place ≤ length bytes →
    (is_hit_at table number place ≡ true) ↔ EndsAt literal (u ++ bytes) (length u + place)

-- So do the hits of a block.
abbrev pub BlocksTellOfStreams : Type 0
BlocksTellOfStreams =
    (table : HitTable) (literals : List (List LiteralByte)) (u before bytes : List ℕ) (number block : ℕ)
    (literal : List LiteralByte) (hits : Hits) →
    TellsHits table literals before bytes →
    slice_get literals number ≡ Some literal →
    ReachesBack literal u before →
    64 * block ≤ length bytes →
    ((i : ℕ) → i ≤ 64 → is_hit hits i ≡ is_hit_at table number (64 * block + i)) →
    AreHits hits literal (u ++ take (64 * block) bytes) (take 64 (drop (64 * block) bytes))
