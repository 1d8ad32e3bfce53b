-- What holds of the definitions, for every list of patterns and every stream.
use Rattle.std.specs.Prelude.{◌≡◌, ◌≢◌, ℕ, ◌+◌, ◌<◌, ◌⊎◌, ◌↔◌, Bool, true, false, List, [], ◌∷◌, ◌++◌, length}
use Rattle.hs_base.specs.Lists.{IsMember, IsRising}
use Rattle.hs_base.specs.Trees.{Tree}
use Rattle.hs_base.specs.Spans.{Spans}
use Rattle.hs_base.specs.Patterns.{Pattern}
use Rattle.hs_base.specs.Reports.{IsReport}
use Rattle.hs_base.specs.Told.{Pair, IsTold, IsNew, IsLast}

-- A span of a stream that may go on is one of each longer stream, ended or not.
abbrev pub SpansStay : Type 0
SpansStay =
    (u v : List ℕ) (ended : Bool) (tree : Tree) (i j : ℕ) →
    Spans u false tree i j →
    Spans (u ++ v) ended tree i j

-- A span that ends before the last byte that is known needs no later byte.
abbrev pub SpansNeedNoLaterByte : Type 0
SpansNeedNoLaterByte =
    (u v : List ℕ) (tree : Tree) (i j : ℕ) →
    j < length u →
    Spans (u ++ v) false tree i j →
    Spans u false tree i j

-- What is reported of a stream that may go on is reported of each longer one, ended or not.
abbrev pub ReportsStay : Type 0
ReportsStay =
    (P : List Pattern) (u v : List ℕ) (ended : Bool) (id to : ℕ) →
    IsReport P u false id to →
    IsReport P (u ++ v) ended id to

-- What is reported before the end is reported of the ended stream.
abbrev pub ReportsStayAtEnd : Type 0
ReportsStayAtEnd = (P : List Pattern) (w : List ℕ) (id to : ℕ) → IsReport P w false id to → IsReport P w true id to

-- At most one list is told for a stream.
abbrev pub IsToldOnce : Type 0
IsToldOnce = (P : List Pattern) (w : List ℕ) (xs ys : List Pair) → IsTold P w xs → IsTold P w ys → xs ≡ ys

-- Of bytes after others at most one list is new.
abbrev pub IsNewOnce : Type 0
IsNewOnce = (P : List Pattern) (u v : List ℕ) (xs ys : List Pair) → IsNew P u v xs → IsNew P u v ys → xs ≡ ys

-- At most one list is last for a stream.
abbrev pub IsLastOnce : Type 0
IsLastOnce = (P : List Pattern) (w : List ℕ) (xs ys : List Pair) → IsLast P w xs → IsLast P w ys → xs ≡ ys

-- As bytes come, a told list grows only at its end.
abbrev pub ToldGrows : Type 0
ToldGrows =
    (P : List Pattern) (u v : List ℕ) (xs ys : List Pair) →
    IsTold P u xs →
    IsTold P (u ++ v) ys →
    (rest : List Pair) × (ys ≡ xs ++ rest)

-- The new reports of v after u, and those of x after both, are together the new ones of v and x after u.
abbrev pub NewJoins : Type 0
NewJoins =
    (P : List Pattern) (u v x : List ℕ) (xs ys : List Pair) →
    IsNew P u v xs →
    IsNew P (u ++ v) x ys →
    IsNew P u (v ++ x) (xs ++ ys)

-- a list in two parts: the new reports of v after u, and those of x after both
pub record IsNewInTwo (P : List Pattern) (u v x : List ℕ) (all : List Pair) : Type 0 where
  pub front : List Pair
  pub back : List Pair
  pub whole : all ≡ front ++ back
  pub first : IsNew P u v front
  pub then : IsNew P (u ++ v) x back

-- The new reports of v and x after u are made of those two.
abbrev pub NewSplits : Type 0
NewSplits = (P : List Pattern) (u v x : List ℕ) (all : List Pair) → IsNew P u (v ++ x) all → IsNewInTwo P u v x all

-- The told list of a stream has what is reported of it before the end, and nothing else.
abbrev pub ToldIsExact : Type 0
ToldIsExact =
    (P : List Pattern) (w : List ℕ) (told : List Pair) →
    IsTold P w told →
    (p : Pair) → IsMember p told ↔ IsReport P w false p.id p.to

-- A told list has no pair twice.
abbrev pub ToldRepeatsNothing : Type 0
ToldRepeatsNothing = (P : List Pattern) (w : List ℕ) (told : List Pair) → IsTold P w told → IsRising (λ x y. x ≢ y) told

-- The new reports of one byte end before it or behind it.
abbrev pub NewEndAboutByte : Type 0
NewEndAboutByte =
    (P : List Pattern) (u : List ℕ) (b : ℕ) (new : List Pair) →
    IsNew P u (b ∷ []) new →
    (p : Pair) → IsMember p new → (p.to ≡ length u) ⊎ (p.to ≡ length u + 1)

-- The last reports of a stream end at its length or one before it.
abbrev pub LastEndAtLastByte : Type 0
LastEndAtLastByte =
    (P : List Pattern) (w : List ℕ) (last : List Pair) →
    IsLast P w last →
    (p : Pair) → IsMember p last → (p.to ≡ length w) ⊎ (p.to + 1 ≡ length w)
