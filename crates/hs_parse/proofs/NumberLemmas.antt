-- The numbers of refusals that a text has.
use Rattle.std.proofs.Common.{ℕ, ◌+◌, inl, inr, Bool, true, false, ◌⊎◌, List, [], ◌∷◌, ◌++◌, length, Option, Some, None, sym, subst}
use Rattle.std.specs.Prelude.{nat_lt}
use Rattle.std.specs.List.{slice_get}
use Rattle.hs_base.specs.declared.flags.Flags.{Flags}
use Rattle.hs_base.specs.declared.refusal.Refusal.{Refusal}
use Rattle.hs_base.specs.declared.refusal.Refusal.TheVariants.{Syntax, RepeatLimit, DepthLimit}
use Rattle.hs_base.specs.declared.refusal.Refusal.TheVariants as refusals
use Rattle.hs_base.specs.declared.construct.Construct.TheVariants.{Possessive}
use Rattle.hs_base.specs.Refusals.{number_of}
use Rattle.hs_base.specs.Trees.{greatest_bound}
use Rattle.hs_syntax.specs.declared.mode.Mode.{Mode}
use Rattle.hs_syntax.specs.declared.wrong.Wrong.{Wrong}
use Rattle.hs_syntax.specs.declared.wrong.Wrong.TheVariants as wrong
use Rattle.hs_syntax.specs.declared.form.Form.{Form}
use Rattle.hs_syntax.specs.declared.form.Form.TheVariants as form
use Rattle.hs_syntax.specs.declared.piece.Piece.{Piece}
use Rattle.hs_syntax.specs.declared.piece.Piece.TheVariants as piece
use Rattle.hs_syntax.specs.Bytes.{is_byte}
use Rattle.hs_syntax.proofs.FitLemmas.{either}
use Rattle.hs_parse.specs.declared.item.Item.{Item}
use Rattle.hs_parse.specs.declared.item.Item.TheVariants as item
use Rattle.hs_parse.specs.declared.spot.Spot.{Spot}
use Rattle.hs_parse.specs.Spots.{form_of, refusal_at}
use Rattle.hs_parse.specs.Classes.{hyphen, class_piece, range_of, item_of, item_at}
use Rattle.hs_parse.specs.Tokens.{Token, ending, single, code_point, assertion, opening, closing, bar, quantifier, setting, faulty, Made, token, skips, bracket, one_of, made_by, made_at, ClassToken, closed, unclosed, refused, TokenAt, formed, bracketed, Next, now, skipped}
use Rattle.hs_parse.specs.Grammar.{greatest_depth}
use Rattle.hs_parse.specs.Faults.{Before, beginning, atom, repeated, Move, goes, accepts, stops, order_faults, bounds_faults, mark_faults, quantifier_faults, end_move, close_move, quantifier_move, move, IsOneOf, HasFault, too_long, stopped, Fault, IsOfText, syntax_fault, unknown_escape, unsupported, repeat_limit, length_limit, depth_limit}
use Rattle.hs_parse.proofs.FaultLemmas.{one_of_both}

-- the number of a form that is refused
form_number : (reason : Wrong) (at : ℕ) → IsOfText (number_of (refusal_at reason at))
form_number wrong.Syntax at = syntax_fault
form_number wrong.UnknownEscape at = unknown_escape
form_number (wrong.IllFormed place) at = syntax_fault
form_number (wrong.Unsupported construct) at = unsupported

-- of an item
abbrev ItemNumber : Item → Type 0
ItemNumber item.End = Unit {0}
ItemNumber item.Close = Unit {0}
ItemNumber (item.Bytes test end) = Unit {0}
ItemNumber (item.Refused refusal) = IsOfText (number_of refusal)

range_number : (caseless : Bool) (at code middle : ℕ) (p : Piece) → ItemNumber (range_of caseless at code middle p)
range_number caseless at code middle piece.End = tt
range_number caseless at code middle piece.Close = tt
range_number caseless at code middle (piece.Character greatest n) =
    either ItemNumber (nat_lt greatest code) _ _ (λ _. syntax_fault) (λ _. tt)
range_number caseless at code middle (piece.Class named negated n) = tt
range_number caseless at code middle (piece.Refused reason) = form_number reason (middle + 1)

item_number_of :
    (caseless : Bool) (at : ℕ) (hyphens : ℕ → Bool) (pieces : ℕ → Piece) (p : Piece) →
    ItemNumber (item_of caseless at hyphens pieces p)
item_number_of caseless at hyphens pieces piece.End = tt
item_number_of caseless at hyphens pieces piece.Close = tt
item_number_of caseless at hyphens pieces (piece.Character code n) =
    either ItemNumber (hyphens (at + n)) _ _ (λ _. range_number caseless at code (at + n) (pieces (at + n + 1))) (λ _. tt)
item_number_of caseless at hyphens pieces (piece.Class named negated n) = tt
item_number_of caseless at hyphens pieces (piece.Refused reason) = form_number reason at

item_number : (text : List ℕ) (mode : Mode) (start at : ℕ) → ItemNumber (item_at text mode start at)
unfolding item_at
item_number text mode start at =
    item_number_of mode.caseless at (λ place. is_byte hyphen (slice_get text place)) (λ place. class_piece text mode start place)
    (class_piece text mode start at)

-- of a token
abbrev TokenNumber : Token → Type 0
TokenNumber ending = Unit {0}
TokenNumber (single set) = Unit {0}
TokenNumber code_point = Unit {0}
TokenNumber (assertion here) = Unit {0}
TokenNumber opening = Unit {0}
TokenNumber closing = Unit {0}
TokenNumber bar = Unit {0}
TokenNumber (quantifier least greatest possessive) = Unit {0}
TokenNumber setting = Unit {0}
TokenNumber (faulty refusal) = IsOfText (number_of refusal)

abbrev MadeNumber : Made → Type 0
MadeNumber (token made mode n) = TokenNumber made
MadeNumber (skips mode n) = Unit {0}
MadeNumber bracket = Unit {0}

one_of_number : (mode : Mode) (set : List Bool) → TokenNumber (one_of mode set)
one_of_number mode set = either TokenNumber mode.utf8 code_point (single set) (λ _. tt) (λ _. tt)

made_number : (mode : Mode) (at : ℕ) (f : Form) → MadeNumber (made_by mode at f)
made_number mode at form.End = tt
made_number mode at (form.Skipped behind n) = tt
made_number mode at (form.Setting behind n) = tt
made_number mode at (form.Opening inside n) = tt
made_number mode at form.Closing = tt
made_number mode at form.Bar = tt
made_number mode at form.Any = one_of_number mode _
made_number mode at (form.Character code n) = one_of_number mode _
made_number mode at (form.Class named negated n) = one_of_number mode _
made_number mode at form.Bracket = tt
made_number mode at (form.Assert here n) = tt
made_number mode at (form.Quantifier least greatest possessive n) = tt
made_number mode at (form.Refused reason) = form_number reason at

made_at_number : (text : List ℕ) (s : Spot) → MadeNumber (made_at text s)
unfolding made_at
made_at_number text s = made_number s.mode s.place (form_of text s)

class_number : {text : List ℕ} {mode : Mode} {at end : ℕ} {made : Token} → ClassToken text mode at made end → TokenNumber made
class_number {mode = mode} (closed items e) = one_of_number mode _
class_number (unclosed items e) = syntax_fault
class_number {text = text} {mode = mode} (refused {here = here} items e) = subst ItemNumber e (item_number text mode _ here)

token_number : {text : List ℕ} {s t : Spot} {made : Token} → TokenAt text s made t → TokenNumber made
token_number {text = text} {s = s} (formed e) = subst MadeNumber e (made_at_number text s)
token_number (bracketed e there) = class_number there

next_number : {text : List ℕ} {s start t : Spot} {made : Token} → Next text s start made t → TokenNumber made
next_number (now p) = token_number p
next_number (skipped e there) = next_number there

-- of each of some refusals
abbrev AreOfText : List Refusal → Type 0
AreOfText rs = (r : Refusal) → IsOneOf r rs → IsOfText (number_of r)

none_of_text : AreOfText []
none_of_text r never = absurd never

only_of_text : (s : Refusal) → IsOfText (number_of s) → AreOfText (s ∷ [])
only_of_text s h r (inl e) = subst (λ x. IsOfText (number_of x)) (sym e) h
only_of_text s h r (inr never) = absurd never

both_of_text : (xs ys : List Refusal) → AreOfText xs → AreOfText ys → AreOfText (xs ++ ys)
both_of_text xs ys h k r there = by_case (one_of_both r xs ys there)
  where
    by_case : IsOneOf r xs ⊎ IsOneOf r ys → IsOfText (number_of r)
    by_case (inl here) = h r here
    by_case (inr here) = k r here

order_number : (at : ℕ) (before : Before) → AreOfText (order_faults at before)
order_number at beginning = only_of_text (Syntax at) syntax_fault
order_number at atom = none_of_text
order_number at repeated = only_of_text (Syntax at) syntax_fault

bounds_number : (at n : ℕ) (m : Option ℕ) → AreOfText (bounds_faults at n m)
bounds_number at n None =
    either AreOfText (nat_lt greatest_bound n) _ _ (λ _. only_of_text (RepeatLimit n) repeat_limit) (λ _. none_of_text)
bounds_number at n (Some m) =
    either AreOfText (nat_lt greatest_bound n) _ _ (λ _. only_of_text (RepeatLimit n) repeat_limit)
    (λ _. either AreOfText (nat_lt greatest_bound m) _ _ (λ _. only_of_text (RepeatLimit m) repeat_limit)
    (λ _. either AreOfText (nat_lt m n) _ _ (λ _. only_of_text (Syntax at) syntax_fault) (λ _. none_of_text)))

mark_number : (at : ℕ) (possessive : Bool) → AreOfText (mark_faults at possessive)
mark_number at true = only_of_text (refusals.Unsupported Possessive at) unsupported
mark_number at false = none_of_text

quantifier_number : (at n : ℕ) (m : Option ℕ) (possessive : Bool) (before : Before) → AreOfText (quantifier_faults at n m possessive before)
quantifier_number at n m possessive before =
    both_of_text (order_faults at before) (bounds_faults at n m ++ mark_faults at possessive) (order_number at before)
    (both_of_text (bounds_faults at n m) (mark_faults at possessive) (bounds_number at n m) (mark_number at possessive))

-- of a move
abbrev MoveNumbers : Move → Type 0
MoveNumbers (goes s) = Unit {0}
MoveNumbers accepts = Unit {0}
MoveNumbers (stops at rs) = AreOfText rs

end_numbers : (at : ℕ) (outside : List Mode) → MoveNumbers (end_move at outside)
end_numbers at [] = tt
end_numbers at (mode ∷ outside) = only_of_text (Syntax at) syntax_fault

close_numbers : (at end : ℕ) (outside : List Mode) → MoveNumbers (close_move at end outside)
close_numbers at end [] = only_of_text (Syntax at) syntax_fault
close_numbers at end (mode ∷ outside) = tt

quantifier_numbers : (at : ℕ) (behind : Spot) (outside : List Mode) (rs : List Refusal) → AreOfText rs → MoveNumbers (quantifier_move at behind outside rs)
quantifier_numbers at behind outside [] h = tt
quantifier_numbers at behind outside (r ∷ rs) h = h

move_numbers : (made : Token) (start behind : Spot) (outside : List Mode) (before : Before) → TokenNumber made → MoveNumbers (move made start behind outside before)
move_numbers ending start behind outside before h = end_numbers start.place outside
move_numbers (single set) start behind outside before h = tt
move_numbers code_point start behind outside before h = tt
move_numbers (assertion here) start behind outside before h = tt
move_numbers opening start behind outside before h =
    either MoveNumbers (nat_lt (length outside) greatest_depth) _ _ (λ _. tt) (λ _. only_of_text DepthLimit depth_limit)
move_numbers closing start behind outside before h = close_numbers start.place behind.place outside
move_numbers bar start behind outside before h = tt
move_numbers (quantifier n m possessive) start behind outside before h =
    quantifier_numbers start.place behind outside (quantifier_faults start.place n m possessive before)
    (quantifier_number start.place n m possessive before)
move_numbers setting start behind outside before h = tt
move_numbers (faulty refusal) start behind outside before h = only_of_text refusal h

has_number : {text : List ℕ} {flags : Flags} {at : ℕ} {r : Refusal} → HasFault text flags at r → IsOfText (number_of r)
has_number (too_long h) = length_limit
has_number {r = r} (stopped h stop has) =
    let numbers = move_numbers stop.token stop.start stop.behind stop.last.outside stop.last.before (next_number stop.there) in
    subst MoveNumbers stop.stopped numbers r has

-- a fault has a number of those that a text may have
pub fault-number : {text : List ℕ} {flags : Flags} {refusal : Refusal} → Fault text flags refusal → IsOfText (number_of refusal)
fault-number fault = has_number fault.has
