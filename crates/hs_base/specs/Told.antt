-- The reports of a stream in the order in which its bytes decide them.
use Rattle.std.specs.Prelude.{◌≡◌, ℕ, ◌<◌, ◌≤◌, ◌⊎◌, ◌↔◌, true, false, List, ◌++◌, length, map, take}
use Rattle.hs_base.specs.Lists.{IsMember, IsRising}
use Rattle.hs_base.specs.Patterns.{Pattern}
use Rattle.hs_base.specs.Reports.{IsReport}

-- an identifier and an end
pub record Pair : Type 0 where
  pub id : ℕ
  pub to : ℕ

-- the order of pairs: by end, then identifier
abbrev pub IsBefore : Pair → Pair → Type 0
IsBefore x y = (x.to < y.to) ⊎ ((x.to ≡ y.to) × (x.id < y.id))

-- a pair with the number of bytes that decide it
pub record Mark : Type 0 where
  pub count : ℕ
  pub pair : Pair

-- the order of decision: by count, then end, then identifier
abbrev pub IsDecidedBefore : Mark → Mark → Type 0
IsDecidedBefore x y = (x.count < y.count) ⊎ ((x.count ≡ y.count) × IsBefore x.pair y.pair)

-- The count is the deciding count of the pair: the least number of bytes after which it is reported.
pub record IsDecided (P : List Pattern) (w : List ℕ) (m : Mark) : Type 0 where
  pub within : m.count ≤ length w
  pub reported : IsReport P (take m.count w) false m.pair.id m.pair.to
  pub not_before : (n : ℕ) → n < m.count → IsReport P (take n w) false m.pair.id m.pair.to → ⊥

-- the marks are exactly those of the stream's reports, in the order of decision
pub record AreMarks (P : List Pattern) (w : List ℕ) (marks : List Mark) : Type 0 where
  pub each : (m : Mark) → IsMember m marks ↔ IsDecided P w m
  pub rising : IsRising IsDecidedBefore marks

-- The told list of a stream: each of its reports, once, in the order of decision.
pub record IsTold (P : List Pattern) (w : List ℕ) (told : List Pair) : Type 0 where
  pub marks : List Mark
  pub decided : AreMarks P w marks
  pub pairs : told ≡ map (λ m. m.pair) marks

-- The new reports of v after u: what the told list of both has behind that of u.
pub record IsNew (P : List Pattern) (u v : List ℕ) (new : List Pair) : Type 0 where
  pub told : List Pair
  pub before : IsTold P u told
  pub after : IsTold P (u ++ v) (told ++ new)

-- The last reports of a stream: those that only its end decides, by end, then identifier.
pub record IsLast (P : List Pattern) (w : List ℕ) (last : List Pair) : Type 0 where
  pub each : (p : Pair) → IsMember p last ↔ (IsReport P w true p.id p.to × (IsReport P w false p.id p.to → ⊥))
  pub rising : IsRising IsBefore last
