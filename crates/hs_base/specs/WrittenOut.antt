-- An expression with its repeats written out, its positions, and the expression in front of each: the position
-- automaton (Glushkov, "The abstract theory of automata") is about these.
use Rattle.std.specs.Prelude.{◌≡◌, ℕ, zero, suc, ◌+◌, ◌-◌, ◌≤◌, ◌⊎◌, Bool, true, false, nat_lt, if◌then◌else◌, List, []}
use Rattle.std.specs.Prelude.{length, Option, Some, None, IfSome, slice_get}
use Rattle.hs_base.specs.declared.assertion.Assertion.{Assertion}
use Rattle.hs_base.specs.Trees as tree
use Rattle.hs_base.specs.Trees.{Tree, Trees}
use Rattle.hs_base.specs.Contexts.{Context, context_at, allows}
use Rattle.hs_base.specs.Spans.{IsByteOf}

-- an expression of two parts at most, without bounded repeats
pub data Core : Type 0 where
  -- nothing at all, not even the empty text
  fail : Core
  -- the empty text
  empty : Core
  -- one byte of a set
  class : List Bool → Core
  -- a place where the assertion holds
  assert : Assertion → Core
  -- the one, and then the other
  cat : Core → Core → Core
  -- the one or the other
  alt : Core → Core → Core
  -- one round of the body or more
  plus : Core → Core

-- the expression or the empty text
abbrev pub option : Core → Core
option a = alt a empty

-- any number of rounds
abbrev pub star : Core → Core
star a = option (plus a)

-- n copies of a, and then b
abbrev pub copies_then : ℕ → Core → Core → Core
copies_then zero a b = b
copies_then (suc n) a b = cat a (copies_then n a b)

-- n copies of a at most, each optional one inside the one before
abbrev pub up_to : ℕ → Core → Core
up_to zero a = empty
up_to (suc n) a = option (cat a (up_to n a))

-- n copies of a at least: the last one goes round
abbrev pub at_least : ℕ → Core → Core
at_least zero a = star a
at_least (suc n) a = copies_then n a (plus a)

-- a repeat, written out
abbrev pub repeat_of : ℕ → Option ℕ → Core → Core
repeat_of n None a = at_least n a
repeat_of n (Some m) a = copies_then n a (up_to (m - n) a)

-- An expression with its repeats written out. Code points are none of its business: they are lowered to bytes before.
abbrev mutual
  pub write_out : Tree → Core
  write_out tree.empty = empty
  write_out (tree.class set) = class set
  write_out (tree.points ranges) = fail
  write_out (tree.assert assertion) = assert assertion
  write_out (tree.cat items) = cat_from empty items
  write_out (tree.alt items) = alt_from fail items
  write_out (tree.repeat body least greatest) = repeat_of least greatest (write_out body)

  -- the expression, and then the items
  pub cat_from : Core → Trees → Core
  cat_from before tree.none = before
  cat_from before (tree.more item items) = cat_from (cat before (write_out item)) items

  -- the expression or one of the items
  pub alt_from : Core → Trees → Core
  alt_from before tree.none = before
  alt_from before (tree.more item items) = alt_from (alt before (write_out item)) items

-- no code points, and the bounds of repeats are in order
abbrev mutual
  pub IsPlain : Tree → Type 0
  IsPlain tree.empty = Unit {0}
  IsPlain (tree.class set) = Unit {0}
  IsPlain (tree.points ranges) = ⊥
  IsPlain (tree.assert assertion) = Unit {0}
  IsPlain (tree.cat items) = ArePlain items
  IsPlain (tree.alt items) = ArePlain items
  IsPlain (tree.repeat body least greatest) = IsPlain body × IfSome greatest (λ m. least ≤ m)

  pub ArePlain : Trees → Type 0
  ArePlain tree.none = Unit {0}
  ArePlain (tree.more item items) = IsPlain item × ArePlain items

-- rounds in a row lead from i to an offset
pub data Rounds (R : ℕ → ℕ → Type 0) (i : ℕ) : ℕ → Type 0 where
  no_round : Rounds R i i
  round : (m j : ℕ) → Rounds R i m → R m j → Rounds R i j

-- The expression has a span from i to j, where each offset has its context, and bytes of sets stand at some offsets.
abbrev pub CoreSpans : (ℕ → Context) → (List Bool → ℕ → Type 0) → Core → ℕ → ℕ → Type 0
CoreSpans context Byte fail i j = ⊥
CoreSpans context Byte empty i j = i ≡ j
CoreSpans context Byte (class set) i j = Byte set i × (j ≡ i + 1)
CoreSpans context Byte (assert assertion) i j = (i ≡ j) × (allows assertion (context i) ≡ true)
CoreSpans context Byte (cat a b) i j = (m : ℕ) × CoreSpans context Byte a i m × CoreSpans context Byte b m j
CoreSpans context Byte (alt a b) i j = CoreSpans context Byte a i j ⊎ CoreSpans context Byte b i j
CoreSpans context Byte (plus a) i j = (m : ℕ) × Rounds (CoreSpans context Byte a) i m × CoreSpans context Byte a m j

-- it has that span in a stream
abbrev pub StreamSpans : List ℕ → Bool → Core → ℕ → ℕ → Type 0
StreamSpans w ended r i j = CoreSpans (context_at w ended) (λ set k. IsByteOf set w k) r i j

-- how many positions it has: the places for a byte, numbered from left to right from 0
abbrev pub count : Core → ℕ
count fail = 0
count empty = 0
count (class set) = 1
count (assert assertion) = 0
count (cat a b) = count a + count b
count (alt a b) = count a + count b
count (plus a) = count a

-- f of the number of a position of the first part of n positions, g of the number of one of the second part
unfoldable pub pick : {A : Type 0} → ℕ → (ℕ → A) → (ℕ → A) → ℕ → A
pick n f g x = if nat_lt x n then f x else g (x - n)

-- the set of a position; of any other number, no byte
abbrev pub set_of : Core → ℕ → List Bool
set_of fail x = []
set_of empty x = []
set_of (class set) zero = set
set_of (class set) (suc x) = []
set_of (assert assertion) x = []
set_of (cat a b) x = pick (count a) (set_of a) (set_of b) x
set_of (alt a b) x = pick (count a) (set_of a) (set_of b) x
set_of (plus a) x = set_of a x

-- the expression in front of a position and the position itself: what has matched when its byte is taken
abbrev pub front : Core → ℕ → Core
front fail x = fail
front empty x = fail
front (class set) zero = class set
front (class set) (suc x) = fail
front (assert assertion) x = fail
front (cat a b) x = pick (count a) (front a) (λ y. cat a (front b y)) x
front (alt a b) x = pick (count a) (front a) (front b) x
front (plus a) x = cat (star a) (front a x)

-- a position is reached at the end of the bytes u, which more may follow, from an offset
abbrev pub IsReachedFrom : Core → List ℕ → ℕ → ℕ → Type 0
IsReachedFrom r u q x = StreamSpans u false (front r x) q (length u)

-- it is reached from one of the offsets where the expression is entered
pub record IsReached (r : Core) (u : List ℕ) (entered : List Bool) (x : ℕ) : Type 0 where
  pub from : ℕ
  pub is_entered : slice_get entered from ≡ Some true
  pub reached : IsReachedFrom r u from x
