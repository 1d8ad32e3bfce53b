-- What is read is proper: its values are within their types.
use Rattle.std.proofs.Common.{◌≡◌, ℕ, Bool, List, [], ◌∷◌, length, not, ◌||◌, sym, subst}
use Rattle.std.specs.Prelude.{◌==◌, if◌then◌else◌}
use Rattle.std.specs.List.{list_any}
use Rattle.std.proofs.lemmas.List.FromFn.{length-map-range_with_len}
use Rattle.hs_base.specs.Assertions.{line_feed}
use Rattle.hs_base.specs.declared.flags.Flags.{Flags}
use Rattle.hs_base.specs.Trees.{Tree, IsProper, AreProper}
use Rattle.hs_expr.specs.Meaning.{trees_of}
use Rattle.hs_syntax.specs.declared.mode.Mode.{Mode}
use Rattle.hs_syntax.specs.declared.form.Form.{Form}
use Rattle.hs_syntax.specs.declared.form.Form.TheVariants as form
use Rattle.hs_syntax.proofs.FitLemmas.{either}
use Rattle.hs_parse.specs.declared.spot.Spot.{Spot}
use Rattle.hs_parse.specs.Spots.{form_of}
use Rattle.hs_parse.specs.declared.set.Test.{Test}
use Rattle.hs_parse.specs.declared.set.Test.TheVariants.{Range, Class}
use Rattle.hs_parse.specs.Classes.{passes, bytes_of, class_of}
use Rattle.hs_parse.specs.Tokens.{any_byte, one_of, Token, ending, single, code_point, assertion, opening, closing, bar, quantifier, setting, faulty, Made, token, skips, bracket, made_by, made_at, ClassToken, closed, unclosed, refused, TokenAt, formed, bracketed, Next, now, skipped}
use Rattle.hs_parse.specs.Grammar.{Atom, one_byte, one_point, asserted, group, Item, once, repeated, Sequence, nothing, item_first, setting_first, sequence_tree, Alternation, last, alternative_first, alternation_tree, Reads}
use Rattle.hs_parse.proofs.RangeLemmas.{are_proper}

-- a set has a truth value for each byte
abbrev IsWhole : Token → Type 0
IsWhole ending = Unit {0}
IsWhole (single set) = length set ≡ 256
IsWhole code_point = Unit {0}
IsWhole (assertion here) = Unit {0}
IsWhole opening = Unit {0}
IsWhole closing = Unit {0}
IsWhole bar = Unit {0}
IsWhole (quantifier least greatest possessive) = Unit {0}
IsWhole setting = Unit {0}
IsWhole (faulty refusal) = Unit {0}

abbrev MakesWhole : Made → Type 0
MakesWhole (token made mode n) = IsWhole made
MakesWhole (skips mode n) = Unit {0}
MakesWhole bracket = Unit {0}

any_whole : (dotall : Bool) → length (any_byte dotall) ≡ 256
unfolding any_byte
any_whole dotall = length-map-range_with_len (λ b. dotall || not (b == line_feed)) 0 256

bytes_whole : (test : Test) → length (bytes_of test) ≡ 256
unfolding bytes_of
bytes_whole test = length-map-range_with_len (passes test) 0 256

class_of_whole : (negated : Bool) (tests : List Test) → length (class_of negated tests) ≡ 256
unfolding class_of
class_of_whole negated tests =
    length-map-range_with_len
    (λ b. if negated then not (list_any (λ (t : Test). passes t b) tests) else list_any (λ (t : Test). passes t b) tests) 0 256

one_of_whole : (mode : Mode) (set : List Bool) → length set ≡ 256 → IsWhole (one_of mode set)
one_of_whole mode set h = either IsWhole mode.utf8 code_point (single set) (λ _. tt) (λ _. h)

made_whole : (mode : Mode) (at : ℕ) (f : Form) → MakesWhole (made_by mode at f)
made_whole mode at form.End = tt
made_whole mode at (form.Skipped behind n) = tt
made_whole mode at (form.Setting behind n) = tt
made_whole mode at (form.Opening inside n) = tt
made_whole mode at form.Closing = tt
made_whole mode at form.Bar = tt
made_whole mode at form.Any = one_of_whole mode _ (any_whole mode.dotall)
made_whole mode at (form.Character code n) = one_of_whole mode _ (bytes_whole (Range mode.caseless code code))
made_whole mode at (form.Class named negated n) = one_of_whole mode _ (bytes_whole (Class named negated))
made_whole mode at form.Bracket = tt
made_whole mode at (form.Assert here n) = tt
made_whole mode at (form.Quantifier least greatest possessive n) = tt
made_whole mode at (form.Refused reason) = tt

made_at_whole : (text : List ℕ) (s : Spot) → MakesWhole (made_at text s)
unfolding made_at
made_at_whole text s = made_whole s.mode s.place (form_of text s)

class_whole : {text : List ℕ} {mode : Mode} {at end : ℕ} {made : Token} → ClassToken text mode at made end → IsWhole made
class_whole {mode = mode} (closed items e) = one_of_whole mode _ (class_of_whole _ _)
class_whole (unclosed items e) = tt
class_whole (refused items e) = tt

token_whole : {text : List ℕ} {s t : Spot} {made : Token} → TokenAt text s made t → IsWhole made
token_whole {text = text} {s = s} (formed e) = subst MakesWhole e (made_at_whole text s)
token_whole (bracketed e there) = class_whole there

next_whole : {text : List ℕ} {s start t : Spot} {made : Token} → Next text s start made t → IsWhole made
next_whole (now p) = token_whole p
next_whole (skipped e there) = next_whole there

sequence_proper : (ts : List Tree) → AreProper (trees_of ts) → IsProper (sequence_tree ts)
sequence_proper [] row = tt
sequence_proper (t ∷ []) row = row.0
sequence_proper (t ∷ u ∷ ts) row = row

alternation_proper : (ts : List Tree) → AreProper (trees_of ts) → IsProper (alternation_tree ts)
alternation_proper [] row = tt
alternation_proper (t ∷ []) row = row.0
alternation_proper (t ∷ u ∷ ts) row = row

mutual
  atom_proper : {text : List ℕ} {depth : ℕ} {s t : Spot} {tree : Tree} → Atom text depth s tree t → IsProper tree
  atom_proper (one_byte p) = next_whole p
  atom_proper (one_point p set) = are_proper set.are
  atom_proper (asserted p) = tt
  atom_proper (group {trees = trees} below p alternatives q) = alternation_proper trees (alternatives_proper alternatives)

  item_proper : {text : List ℕ} {depth : ℕ} {s t : Spot} {tree : Tree} → Item text depth s tree t → IsProper tree
  item_proper (once a n) = atom_proper a
  item_proper (repeated a q bounds) = (atom_proper a, bounds)

  items_proper :
      {text : List ℕ} {depth : ℕ} {s t : Spot} {trees : List Tree} → Sequence text depth s trees t → AreProper (trees_of trees)
  items_proper nothing = tt
  items_proper (item_first item row) = (item_proper item, items_proper row)
  items_proper (setting_first p row) = items_proper row

  alternatives_proper :
      {text : List ℕ} {depth : ℕ} {s t : Spot} {trees : List Tree} → Alternation text depth s trees t → AreProper (trees_of trees)
  alternatives_proper (last {items = items} row) = (sequence_proper items (items_proper row), tt)
  alternatives_proper (alternative_first {items = items} row mark rest) =
      (sequence_proper items (items_proper row), alternatives_proper rest)

-- values within their types
pub reads-proper : {text : List ℕ} {flags : Flags} {tree : Tree} → Reads text flags tree → IsProper tree
reads-proper reads = subst IsProper (sym reads.is) (alternation_proper reads.trees (alternatives_proper reads.whole))
