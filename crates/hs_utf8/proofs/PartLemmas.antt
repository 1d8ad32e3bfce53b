-- What holds of each part of a lowered tree: it has no set of code points, and its values are within their types.
use Rattle.std.proofs.Common.{◌≡◌, ℕ, ◌+◌, ◌≤◌, Bool, false, ◌&&◌, List, [], ◌∷◌, ◌++◌, map, length, Option, Some, None, IfSome, sym, subst}
use Rattle.std.specs.Prelude.{nat_le}
use Rattle.std.proofs.lemmas.List.FromFn.{length-map-range_with_len}
use Rattle.hs_base.specs.ByteSets.{bytes_where}
use Rattle.hs_base.specs.Lists.{Each}
use Rattle.hs_base.specs.Trees.{Tree, Trees, empty, class, points, assert, cat, alt, repeat, none, more, trees_of, IsProper, AreProper, AreBounds}
use Rattle.hs_base.specs.WrittenOut.{IsPlain, ArePlain}
use Rattle.hs_base.proofs.ListLemmas.{each-append}
use Rattle.hs_utf8.specs.Members.{is_member}
use Rattle.hs_utf8.specs.Runs.{AreRuns, place_tree}
use Rattle.hs_utf8.specs.Lowered.{ascii_end, is_ascii_member, AreAscii, nothing, something, alternatives, IsLoweredSet, IsLowered, AreLowered, HasNoPoints, HaveNoPoints}

where-length : (f : ℕ → Bool) → length (bytes_where f) ≡ 256
where-length f = length-map-range_with_len f 0 256

-- trees of which each has no set of code points
have_none : (trees : List Tree) → Each HasNoPoints trees → HaveNoPoints (trees_of trees)
have_none [] each = tt
have_none (t ∷ trees) each = (each.0, have_none trees each.1)

are_proper : (trees : List Tree) → Each IsProper trees → AreProper (trees_of trees)
are_proper [] each = tt
are_proper (t ∷ trees) each = (each.0, are_proper trees each.1)

classes-none : (places : List (ℕ × ℕ)) → Each HasNoPoints (map place_tree places)
classes-none [] = tt
classes-none (p ∷ places) = (tt, classes-none places)

classes-proper : (places : List (ℕ × ℕ)) → Each IsProper (map place_tree places)
classes-proper [] = tt
classes-proper ((low, high) ∷ places) = (where-length (λ b. nat_le low b && nat_le b high), classes-proper places)

runs-none : (member : ℕ → Bool) (from : ℕ) (trees : List Tree) → AreRuns member from trees → Each HasNoPoints trees
runs-none member from [] runs = tt
runs-none member from (t ∷ trees) (next, is, runs) = (
  subst HasNoPoints (sym is) (have_none (map place_tree next.places) (classes-none next.places)),
  runs-none member (next.last + 1) trees runs,
)

runs-proper : (member : ℕ → Bool) (from : ℕ) (trees : List Tree) → AreRuns member from trees → Each IsProper trees
runs-proper member from [] runs = tt
runs-proper member from (t ∷ trees) (next, is, runs) = (
  subst IsProper (sym is) (are_proper (map place_tree next.places) (classes-proper next.places)),
  runs-proper member (next.last + 1) trees runs,
)

ascii-none : (ranges : List (ℕ × ℕ)) (trees : List Tree) → AreAscii ranges trees → Each HasNoPoints trees
ascii-none ranges _ (nothing h) = tt
ascii-none ranges _ (something b h) = (tt, tt)

ascii-proper : (ranges : List (ℕ × ℕ)) (trees : List Tree) → AreAscii ranges trees → Each IsProper trees
ascii-proper ranges _ (nothing h) = tt
ascii-proper ranges _ (something b h) = (where-length (is_ascii_member ranges), tt)

alternatives-none : (trees : List Tree) → Each HasNoPoints trees → HasNoPoints (alternatives trees)
alternatives-none [] each = tt
alternatives-none (t ∷ []) each = each.0
alternatives-none (t ∷ u ∷ trees) each = have_none (t ∷ u ∷ trees) each

alternatives-proper : (trees : List Tree) → Each IsProper trees → IsProper (alternatives trees)
alternatives-proper [] each = where-length (λ _. false)
alternatives-proper (t ∷ []) each = each.0
alternatives-proper (t ∷ u ∷ trees) each = are_proper (t ∷ u ∷ trees) each

set-none : (ranges : List (ℕ × ℕ)) (tree : Tree) → IsLoweredSet ranges tree → HasNoPoints tree
set-none ranges tree set =
    subst HasNoPoints (sym set.is)
    (alternatives-none (set.ascii ++ set.runs)
    (each-append HasNoPoints set.ascii set.runs (ascii-none ranges set.ascii set.are_ascii) (runs-none (is_member ranges) ascii_end set.runs set.are_runs)))

set-proper : (ranges : List (ℕ × ℕ)) (tree : Tree) → IsLoweredSet ranges tree → IsProper tree
set-proper ranges tree set =
    subst IsProper (sym set.is)
    (alternatives-proper (set.ascii ++ set.runs)
    (each-append IsProper set.ascii set.runs (ascii-proper ranges set.ascii set.are_ascii) (runs-proper (is_member ranges) ascii_end set.runs set.are_runs)))

-- no set of code points is left
mutual
  pub lowered-no_points : (t u : Tree) → IsLowered t u → HasNoPoints u
  lowered-no_points empty u is = subst HasNoPoints (sym is) tt
  lowered-no_points (class set) u is = subst HasNoPoints (sym is) tt
  lowered-no_points (points ranges) u is = set-none ranges u is
  lowered-no_points (assert assertion) u is = subst HasNoPoints (sym is) tt
  lowered-no_points (cat items) u (lowered, are, is) = subst HasNoPoints (sym is) (all-no_points items lowered are)
  lowered-no_points (alt items) u (lowered, are, is) = subst HasNoPoints (sym is) (all-no_points items lowered are)
  lowered-no_points (repeat body least greatest) u (lowered, here, is) =
      subst HasNoPoints (sym is) (lowered-no_points body lowered here)

  all-no_points : (items us : Trees) → AreLowered items us → HaveNoPoints us
  all-no_points none us is = subst HaveNoPoints (sym is) tt
  all-no_points (more item items) us (first, others, here, rest, is) =
      subst HaveNoPoints (sym is) (lowered-no_points item first here, all-no_points items others rest)

-- the values are within their types
mutual
  pub lowered-proper : (t u : Tree) → IsLowered t u → IsProper t → IsProper u
  lowered-proper empty u is proper = subst IsProper (sym is) tt
  lowered-proper (class set) u is proper = subst IsProper (sym is) proper
  lowered-proper (points ranges) u is proper = set-proper ranges u is
  lowered-proper (assert assertion) u is proper = subst IsProper (sym is) tt
  lowered-proper (cat items) u (lowered, are, is) proper = subst IsProper (sym is) (all-proper items lowered are proper)
  lowered-proper (alt items) u (lowered, are, is) proper = subst IsProper (sym is) (all-proper items lowered are proper)
  lowered-proper (repeat body least greatest) u (lowered, here, is) proper =
      subst IsProper (sym is) (lowered-proper body lowered here proper.0, proper.1)

  all-proper : (items us : Trees) → AreLowered items us → AreProper items → AreProper us
  all-proper none us is proper = subst AreProper (sym is) tt
  all-proper (more item items) us (first, others, here, rest, is) proper =
      subst AreProper (sym is) (lowered-proper item first here proper.0, all-proper items others rest proper.1)

bounds-order : (least : ℕ) (greatest : Option ℕ) → AreBounds least greatest → IfSome greatest (λ m. least ≤ m)
bounds-order least None bounds = tt
bounds-order least (Some m) bounds = bounds.greatest.0

-- with no set of code points and bounds in order
mutual
  pub proper-plain : (t : Tree) → HasNoPoints t → IsProper t → IsPlain t
  proper-plain empty free proper = tt
  proper-plain (class set) free proper = tt
  proper-plain (points ranges) free proper = absurd free
  proper-plain (assert assertion) free proper = tt
  proper-plain (cat items) free proper = all-plain items free proper
  proper-plain (alt items) free proper = all-plain items free proper
  proper-plain (repeat body least greatest) free proper =
      (proper-plain body free proper.0, bounds-order least greatest proper.1)

  all-plain : (items : Trees) → HaveNoPoints items → AreProper items → ArePlain items
  all-plain none free proper = tt
  all-plain (more item items) free proper = (proper-plain item free.0 proper.0, all-plain items free.1 proper.1)
