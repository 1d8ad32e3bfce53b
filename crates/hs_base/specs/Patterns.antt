-- Patterns, and the pairs of an identifier and an end that they give.
use Rattle.std.specs.Prelude.{◌≡◌, ℕ, ◌^◌, ◌<◌, ◌≤◌, ◌⊎◌, Bool, false, not, ◌&&◌, ◌||◌, ◌==◌, List, length, IsTrue}
use Rattle.std.specs.List.{list_any, list_all}
use Rattle.hs_base.specs.Lists.{OneOf, Each}
use Rattle.hs_base.specs.Trees.{Tree, IsProper}
use Rattle.hs_base.specs.Spans.{Spans}

-- an expression of a list, with what is asked of its matches
pub record Pattern : Type 0 where
  pub id : ℕ
  -- whether the identifier is to be reported at most once in a stream
  pub single : Bool
  -- the least and the greatest end offset
  pub least : ℕ
  pub greatest : ℕ
  pub tree : Tree

-- all values of a pattern are within their types
pub record IsProperPattern (x : Pattern) : Type 0 where
  pub id : x.id < 2 ^ 32
  pub least : x.least < 2 ^ 64
  pub greatest : x.greatest < 2 ^ 64
  pub tree : IsProper x.tree

-- The identifier is one of the list, and each of its patterns is to be reported at most once in a stream.
abbrev pub is_single : List Pattern → ℕ → Bool
is_single P id = list_any (λ x. x.id == id) P && list_all (λ x. not (x.id == id) || x.single) P

-- none of the patterns is to be reported at most once
abbrev pub AreNotSingle : List Pattern → Type 0
AreNotSingle P = Each (λ x. x.single ≡ false) P

-- the pattern has that identifier, and a match that ends there
pub record HasEnd (w : List ℕ) (ended : Bool) (id to : ℕ) (x : Pattern) : Type 0 where
  pub named : x.id ≡ id
  pub above : x.least ≤ to
  pub below : to ≤ x.greatest
  pub from : ℕ
  pub spans : Spans w ended x.tree from to

-- Some pattern of the list has that identifier and a match that ends there. The empty stream that may go on has no
-- pairs yet.
pub record IsPair (P : List Pattern) (w : List ℕ) (ended : Bool) (id to : ℕ) : Type 0 where
  pub within : to ≤ length w
  pub begun : (0 < length w) ⊎ IsTrue ended
  pub given : OneOf (HasEnd w ended id to) P
