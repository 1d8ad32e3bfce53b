-- What may be wrong with a token, and which of it is told.
use Rattle.std.proofs.Common.{◌≡◌, ℕ, ◌<◌, ◌≤◌, ◌⊎◌, inl, inr, Bool, true, false, List, [], ◌∷◌, ◌++◌, length, Option, Some, None, refl, sym, ap, subst, ◌∙◌, arith}
use Rattle.std.specs.Prelude.{nat_lt, ◌==◌, if◌then◌else◌}
use Rattle.std.proofs.lemmas.Bool.{cases_lt, cases_Bool, lt-ltb, le-ltb}
use Rattle.hs_base.specs.declared.refusal.Refusal.{Refusal}
use Rattle.hs_base.specs.declared.refusal.Refusal.TheVariants.{Syntax, UnknownEscape, Unsupported, UnsupportedFlag, UnsupportedParameter, MatchesEmpty, EmbeddedEnd, RepeatLimit, PositionLimit, LengthLimit, DepthLimit, CountLimit, StateLimit, MixedSingle, OffsetOrder, ListLine}
use Rattle.hs_base.specs.declared.construct.Construct.TheVariants.{Possessive}
use Rattle.hs_base.specs.Refusals.{number_of}
use Rattle.hs_base.specs.Trees.{greatest_bound, AreBounds}
use Rattle.hs_syntax.specs.declared.mode.Mode.{Mode}
use Rattle.hs_syntax.proofs.FitLemmas.{either, less}
use Rattle.hs_parse.specs.declared.spot.Spot.{Spot}
use Rattle.hs_parse.specs.Tokens.{Token, ending, single, code_point, assertion, opening, closing, bar, quantifier, setting, faulty}
use Rattle.hs_parse.specs.Grammar.{greatest_depth}
use Rattle.hs_parse.specs.Faults.{Before, beginning, atom, repeated, goes, stops, state, order_faults, bounds_faults, mark_faults, quantifier_faults, end_move, close_move, quantifier_move, move, IsOneOf}
use Rattle.hs_parse.specs.Reading.{IsLeastOf}

-- each refusal has a number from 1 on
number_one : (r : Refusal) → 1 ≤ number_of r
number_one (Syntax at) = omega arith
number_one (UnknownEscape at) = omega arith
number_one (Unsupported construct at) = omega arith
number_one (UnsupportedFlag bit) = omega arith
number_one (UnsupportedParameter bit) = omega arith
number_one MatchesEmpty = omega arith
number_one EmbeddedEnd = omega arith
number_one (RepeatLimit bound) = omega arith
number_one (PositionLimit count) = omega arith
number_one LengthLimit = omega arith
number_one DepthLimit = omega arith
number_one CountLimit = omega arith
number_one (StateLimit bytes) = omega arith
number_one (MixedSingle id) = omega arith
number_one OffsetOrder = omega arith
number_one (ListLine line) = omega arith

-- a form without a meaning is told first
pub syntax_least : (at : ℕ) (others : List Refusal) → IsLeastOf (Syntax at) (Syntax at ∷ others)
syntax_least at others = record { has = inl refl; least = λ other h. number_one other }

-- the only one is the least
pub only_least : (r : Refusal) → IsLeastOf r (r ∷ [])
only_least r = record { has = inl refl; least = λ other h. by_case other h }
  where
    by_case : (other : Refusal) → IsOneOf other (r ∷ []) → number_of r ≤ number_of other
    by_case other (inl e) = let same = ap number_of e in omega (arith, same)
    by_case other (inr never) = absurd never

-- of two lists
pub one_of_both : (r : Refusal) (xs ys : List Refusal) → IsOneOf r (xs ++ ys) → IsOneOf r xs ⊎ IsOneOf r ys
one_of_both r [] ys h = inr h
one_of_both r (x ∷ xs) ys (inl e) = inl (inl e)
one_of_both r (x ∷ xs) ys (inr h) = further (one_of_both r xs ys h)
  where
    further : IsOneOf r xs ⊎ IsOneOf r ys → IsOneOf r (x ∷ xs) ⊎ IsOneOf r ys
    further (inl k) = inl (inr k)
    further (inr k) = inr k

-- some refusals, of which one is the least
pub record HasLeast (refusals : List Refusal) : Type 0 where
  pub refusal : Refusal
  pub least : IsLeastOf refusal refusals

pub has_least : (r : Refusal) (rs : List Refusal) → HasLeast (r ∷ rs)
has_least r [] = record { refusal = r; least = only_least r }
has_least r (s ∷ rs) = lesser (has_least s rs)
  where
    before : (m : Refusal) → IsLeastOf m (s ∷ rs) → number_of r ≤ number_of m →
        (other : Refusal) → IsOneOf other (r ∷ s ∷ rs) → number_of r ≤ number_of other
    before m h k other (inl e) = let same = ap number_of e in omega (arith, same)
    before m h k other (inr there) = let far = h.least other there in omega (arith, far, k)

    behind : (m : Refusal) → IsLeastOf m (s ∷ rs) → number_of m < number_of r →
        (other : Refusal) → IsOneOf other (r ∷ s ∷ rs) → number_of m ≤ number_of other
    behind m h k other (inl e) = let same = ap number_of e in omega (arith, same, k)
    behind m h k other (inr there) = h.least other there

    lesser : HasLeast (s ∷ rs) → HasLeast (r ∷ s ∷ rs)
    lesser h =
        elim (cases_lt (number_of h.refusal) (number_of r)) [
          | inl less ↦ record {
            refusal = h.refusal;
            least = record { has = inr h.least.has; least = behind h.refusal h.least less };
          }
          | inr more ↦ record { refusal = r; least = record { has = inl refl; least = before h.refusal h.least more } }
        ]

-- the refusals of a quantifier at a place, by their numbers
abbrev pub named : (at bound number : ℕ) → Refusal
named at bound number =
    if number == 1 then Syntax at
    else if number == 8 then RepeatLimit bound
    else Unsupported Possessive at

-- each is the one of its number
abbrev pub AreNamed : (at bound : ℕ) → List Refusal → Type 0
AreNamed at bound refusals = (r : Refusal) → IsOneOf r refusals → r ≡ named at bound (number_of r)

both_named : (at bound : ℕ) (xs ys : List Refusal) → AreNamed at bound xs → AreNamed at bound ys → AreNamed at bound (xs ++ ys)
both_named at bound xs ys h k r there = by_case (one_of_both r xs ys there)
  where
    by_case : IsOneOf r xs ⊎ IsOneOf r ys → r ≡ named at bound (number_of r)
    by_case (inl here) = h r here
    by_case (inr here) = k r here

none_named : (at bound : ℕ) → AreNamed at bound []
none_named at bound r never = absurd never

only_named : (at bound : ℕ) (s : Refusal) → s ≡ named at bound (number_of s) → AreNamed at bound (s ∷ [])
only_named at bound s e r (inl same) = subst (λ x. x ≡ named at bound (number_of x)) (sym same) e
only_named at bound s e r (inr never) = absurd never

order_named : (at bound : ℕ) (before : Before) → AreNamed at bound (order_faults at before)
order_named at bound beginning = only_named at bound (Syntax at) refl
order_named at bound atom = none_named at bound
order_named at bound repeated = only_named at bound (Syntax at) refl

mark_named : (at bound : ℕ) (possessive : Bool) → AreNamed at bound (mark_faults at possessive)
mark_named at bound true = only_named at bound (Unsupported Possessive at) refl
mark_named at bound false = none_named at bound

-- the bound that is told, if one is
abbrev told_bound : ℕ → Option ℕ → ℕ
told_bound n None = n
told_bound n (Some m) = if nat_lt greatest_bound n then n else m

bounds_named : (at n : ℕ) (m : Option ℕ) → AreNamed at (told_bound n m) (bounds_faults at n m)
bounds_named at n None =
    either (AreNamed at n) (nat_lt greatest_bound n) _ _ (λ _. only_named at n (RepeatLimit n) refl) (λ _. none_named at n)
bounds_named at n (Some m) =
    elim (cases_Bool (nat_lt greatest_bound n)) [
      | inl above ↦
          subst (λ b. AreNamed at (if b then n else m) (if b then RepeatLimit n ∷ [] else if nat_lt greatest_bound m then RepeatLimit m ∷ [] else if nat_lt m n then Syntax at ∷ [] else []))
          (sym above) (only_named at n (RepeatLimit n) refl)
      | inr below ↦
          subst (λ b. AreNamed at (if b then n else m) (if b then RepeatLimit n ∷ [] else if nat_lt greatest_bound m then RepeatLimit m ∷ [] else if nat_lt m n then Syntax at ∷ [] else []))
          (sym below)
          (either (AreNamed at m) (nat_lt greatest_bound m) _ _ (λ _. only_named at m (RepeatLimit m) refl)
          (λ _. either (AreNamed at m) (nat_lt m n) _ _ (λ _. only_named at m (Syntax at) refl) (λ _. none_named at m)))
    ]

quantifier_named :
    (at n : ℕ) (m : Option ℕ) (possessive : Bool) (before : Before) →
    AreNamed at (told_bound n m) (quantifier_faults at n m possessive before)
quantifier_named at n m possessive before =
    both_named at (told_bound n m) (order_faults at before) (bounds_faults at n m ++ mark_faults at possessive)
    (order_named at (told_bound n m) before)
    (both_named at (told_bound n m) (bounds_faults at n m) (mark_faults at possessive) (bounds_named at n m)
    (mark_named at (told_bound n m) possessive))

-- of some refusals each number is that of one
abbrev pub AreApart : List Refusal → Type 0
AreApart refusals = (r s : Refusal) → IsOneOf r refusals → IsOneOf s refusals → number_of r ≡ number_of s → r ≡ s

named_apart : (at bound : ℕ) (rs : List Refusal) → AreNamed at bound rs → AreApart rs
named_apart at bound rs h r s here there e = h r here ∙ ap (named at bound) e ∙ sym (h s there)

only_apart : (x : Refusal) → AreApart (x ∷ [])
only_apart x r s (inl e) (inl f) same = e ∙ sym f
only_apart x r s (inl e) (inr never) same = absurd never
only_apart x r s (inr never) there same = absurd never

from_stops : {i j : ℕ} {xs ys : List Refusal} → stops i xs ≡ stops j ys → AreApart xs → AreApart ys
from_stops {xs = xs} {ys = ys} e h = let same : xs ≡ ys = cc in subst AreApart same h

quantifier_apart : (at place : ℕ) (behind : Spot) (outside : List Mode) (rs refusals : List Refusal) → AreApart rs → quantifier_move at behind outside rs ≡ stops place refusals → AreApart refusals
quantifier_apart at place behind outside [] refusals h e = absurd cc
quantifier_apart at place behind outside (r ∷ rs) refusals h e = from_stops e h

end_apart : (at place : ℕ) (outside : List Mode) (refusals : List Refusal) → end_move at outside ≡ stops place refusals → AreApart refusals
end_apart at place [] refusals e = absurd cc
end_apart at place (mode ∷ outside) refusals e = from_stops e (only_apart (Syntax at))

close_apart : (at end place : ℕ) (outside : List Mode) (refusals : List Refusal) → close_move at end outside ≡ stops place refusals → AreApart refusals
close_apart at end place [] refusals e = from_stops e (only_apart (Syntax at))
close_apart at end place (mode ∷ outside) refusals e = absurd cc

opening_apart : (at place : ℕ) (mode : Mode) (behind : Spot) (outside : List Mode) (refusals : List Refusal) (b : Bool) →
    (if b then goes (state behind (mode ∷ outside) beginning) else stops at (DepthLimit ∷ [])) ≡ stops place refusals → AreApart refusals
opening_apart at place mode behind outside refusals true e = absurd cc
opening_apart at place mode behind outside refusals false e = from_stops e (only_apart DepthLimit)

-- the reasons for which the reading stops differ in their numbers
pub move_apart :
    (made : Token) (start behind : Spot) (outside : List Mode) (before : Before) (place : ℕ) (refusals : List Refusal) →
    move made start behind outside before ≡ stops place refusals → AreApart refusals
move_apart ending start behind outside before place refusals e = end_apart start.place place outside refusals e
move_apart (single set) start behind outside before place refusals e = absurd cc
move_apart code_point start behind outside before place refusals e = absurd cc
move_apart (assertion here) start behind outside before place refusals e = absurd cc
move_apart opening start behind outside before place refusals e =
    opening_apart start.place place start.mode behind outside refusals (nat_lt (length outside) greatest_depth) e
move_apart closing start behind outside before place refusals e = close_apart start.place behind.place place outside refusals e
move_apart bar start behind outside before place refusals e = absurd cc
move_apart (quantifier n m possessive) start behind outside before place refusals e =
    quantifier_apart start.place place behind outside (quantifier_faults start.place n m possessive before) refusals
    (named_apart start.place (told_bound n m) _ (quantifier_named start.place n m possessive before)) e
move_apart setting start behind outside before place refusals e = absurd cc
move_apart (faulty refusal) start behind outside before place refusals e = from_stops e (only_apart refusal)

-- a number that isn't greater
not_less : (a b : ℕ) → nat_lt a b ≡ false → b ≤ a
not_less a b h =
    elim (cases_lt a b) [
      | inl below ↦ absurd (let bad : true ≡ false = sym (lt_true a b below) ∙ h in cc)
      | inr above ↦ above
    ]
  where
    lt_true : (a b : ℕ) → a < b → nat_lt a b ≡ true
    lt_true a b k = lt-ltb a b k

-- with the bounds of a quantifier nothing is wrong where they are small enough and in order
pub bounds_right : (at n : ℕ) (m : Option ℕ) → bounds_faults at n m ≡ [] → AreBounds n m
bounds_right at n None e =
    elim (cases_Bool (nat_lt greatest_bound n)) [
      | inl above ↦ absurd (let bad : RepeatLimit n ∷ [] ≡ [] = sym (ap (λ b. if b then RepeatLimit n ∷ [] else []) above) ∙ e in cc)
      | inr below ↦ record { least = not_less greatest_bound n below; greatest = tt }
    ]
bounds_right at n (Some m) e =
    elim (cases_Bool (nat_lt greatest_bound n)) [
      | inl above ↦ absurd (let bad : RepeatLimit n ∷ [] ≡ [] = sym (ap (λ b. if b then RepeatLimit n ∷ [] else rest) above) ∙ e in cc)
      | inr below ↦ small below (sym (ap (λ b. if b then RepeatLimit n ∷ [] else rest) below) ∙ e)
    ]
  where
    last : List Refusal
    last = if nat_lt m n then Syntax at ∷ [] else []

    rest : List Refusal
    rest = if nat_lt greatest_bound m then RepeatLimit m ∷ [] else last

    ordered : nat_lt greatest_bound n ≡ false → nat_lt greatest_bound m ≡ false → last ≡ [] → AreBounds n (Some m)
    ordered below near f =
        elim (cases_Bool (nat_lt m n)) [
          | inl crossed ↦ absurd (let bad : Syntax at ∷ [] ≡ [] = sym (ap (λ b. if b then Syntax at ∷ [] else []) crossed) ∙ f in cc)
          | inr order ↦ record {
            least = not_less greatest_bound n below;
            greatest = (not_less m n order, not_less greatest_bound m near);
          }
        ]

    small : nat_lt greatest_bound n ≡ false → rest ≡ [] → AreBounds n (Some m)
    small below f =
        elim (cases_Bool (nat_lt greatest_bound m)) [
          | inl far ↦ absurd (let bad : RepeatLimit m ∷ [] ≡ [] = sym (ap (λ b. if b then RepeatLimit m ∷ [] else last) far) ∙ f in cc)
          | inr near ↦ ordered below near (sym (ap (λ b. if b then RepeatLimit m ∷ [] else last) near) ∙ f)
        ]

-- and the other way round
lt_false : (a b : ℕ) → b ≤ a → nat_lt a b ≡ false
lt_false a b h = le-ltb a b h

pub right_bounds : (at n : ℕ) (m : Option ℕ) → AreBounds n m → bounds_faults at n m ≡ []
right_bounds at n None bounds = ap (λ b. if b then RepeatLimit n ∷ [] else []) (lt_false greatest_bound n bounds.least)
right_bounds at n (Some m) bounds =
    ap (λ b. if b then RepeatLimit n ∷ [] else if nat_lt greatest_bound m then RepeatLimit m ∷ [] else if nat_lt m n then Syntax at ∷ [] else [])
    (lt_false greatest_bound n bounds.least)
    ∙ ap (λ b. if b then RepeatLimit m ∷ [] else if nat_lt m n then Syntax at ∷ [] else []) (lt_false greatest_bound m bounds.greatest.1)
    ∙ ap (λ b. if b then Syntax at ∷ [] else []) (lt_false m n bounds.greatest.0)

-- a quantifier that is read
pub quantifier_goes :
    (at n : ℕ) (m : Option ℕ) (behind : Spot) (outside : List Mode) → AreBounds n m →
    quantifier_move at behind outside (quantifier_faults at n m false atom) ≡ goes (state behind outside repeated)
quantifier_goes at n m behind outside bounds =
    ap (λ xs. quantifier_move at behind outside (xs ++ [])) (right_bounds at n m bounds)

-- nothing is wrong with it
pub all_right : (at n : ℕ) (m : Option ℕ) (possessive : Bool) → quantifier_faults at n m possessive atom ≡ [] → AreBounds n m × (possessive ≡ false)
all_right at n m possessive e = (bounds_right at n m (left_empty (bounds_faults at n m) _ e), by_mark possessive (right_empty (bounds_faults at n m) _ e))
  where
    left_empty : (xs ys : List Refusal) → xs ++ ys ≡ [] → xs ≡ []
    left_empty [] ys e = refl
    left_empty (x ∷ xs) ys e = absurd cc

    right_empty : (xs ys : List Refusal) → xs ++ ys ≡ [] → ys ≡ []
    right_empty [] ys e = e
    right_empty (x ∷ xs) ys e = absurd cc

    by_mark : (b : Bool) → mark_faults at b ≡ [] → b ≡ false
    by_mark true e = absurd cc
    by_mark false e = refl

-- a quantifier behind no atom
pub first_move :
    (at n : ℕ) (m : Option ℕ) (possessive : Bool) (behind : Spot) (outside : List Mode) →
    quantifier_move at behind outside (quantifier_faults at n m possessive beginning)
    ≡ stops at (Syntax at ∷ (bounds_faults at n m ++ mark_faults at possessive))
first_move at n m possessive behind outside = refl

pub second_move :
    (at n : ℕ) (m : Option ℕ) (possessive : Bool) (behind : Spot) (outside : List Mode) →
    quantifier_move at behind outside (quantifier_faults at n m possessive repeated)
    ≡ stops at (Syntax at ∷ (bounds_faults at n m ++ mark_faults at possessive))
second_move at n m possessive behind outside = refl

-- one behind an atom with which something is wrong
pub wrong_move :
    (at : ℕ) (behind : Spot) (outside : List Mode) (rs : List Refusal) (r : Refusal) → IsOneOf r rs →
    quantifier_move at behind outside rs ≡ stops at rs
wrong_move at behind outside [] r never = absurd never
wrong_move at behind outside (x ∷ rs) r h = refl
