-- Where the grammar reads, the reading goes on.
use Rattle.std.proofs.Common.{◌≡◌, ℕ, ◌<◌, ◌≤◌, inl, inr, false, List, [], ◌∷◌, length, Option, refl, sym, ap, subst, arith}
use Rattle.std.specs.Prelude.{if◌then◌else◌}
use Rattle.std.proofs.lemmas.Bool.{lt-ltb, le-ltb}
use Rattle.hs_base.specs.declared.flags.Flags.{Flags}
use Rattle.hs_base.specs.declared.refusal.Refusal.{Refusal}
use Rattle.hs_base.specs.declared.refusal.Refusal.TheVariants.{DepthLimit, LengthLimit}
use Rattle.hs_base.specs.Refusals.{number_of}
use Rattle.hs_base.specs.Trees.{Tree, AreBounds}
use Rattle.hs_syntax.specs.declared.mode.Mode.{Mode}
use Rattle.hs_parse.specs.declared.spot.Spot.{Spot}
use Rattle.hs_parse.specs.Tokens.{ending, opening, quantifier, Next}
use Rattle.hs_parse.specs.Grammar.{greatest_length, greatest_depth, Atom, one_byte, one_point, asserted, group, Item, once, repeated, Sequence, nothing, item_first, setting_first, Alternation, last, alternative_first, Reads}
use Rattle.hs_parse.specs.Faults.{Before, beginning, atom, repeated as behind_mark, state, goes, accepts, stops, move, Run, here, on, StopsAt, IsOneOf, HasFault, too_long, stopped, IsFirst, Fault}
use Rattle.hs_parse.specs.Reading.{IsLeastOf}
use Rattle.hs_parse.specs.Laws.{OneFault, NeverReadAndRefused}
use Rattle.hs_parse.proofs.RunLemmas.{run_then, one_step, Halts, one_end, stops_halts}
use Rattle.hs_parse.proofs.FaultLemmas.{AreApart, move_apart, quantifier_goes}

-- a group may open within fewer than the greatest number
pub opens_group :
    (start behind : Spot) (outside : List Mode) (before : Before) → length outside < greatest_depth →
    move opening start behind outside before ≡ goes (state behind (start.mode ∷ outside) beginning)
opens_group start behind outside before h =
    ap (λ b. if b then goes (state behind (start.mode ∷ outside) beginning) else stops start.place (DepthLimit ∷ []))
    (lt-ltb (length outside) greatest_depth h)

-- and not within so many
pub opens_no_group :
    (start behind : Spot) (outside : List Mode) (before : Before) → greatest_depth ≤ length outside →
    move opening start behind outside before ≡ stops start.place (DepthLimit ∷ [])
opens_no_group start behind outside before h =
    ap (λ b. if b then goes (state behind (start.mode ∷ outside) beginning) else stops start.place (DepthLimit ∷ []))
    (le-ltb (length outside) greatest_depth h)

-- the reading comes from a spot to another, and what stands before that
pub record Comes (text : List ℕ) (outside : List Mode) (s : Spot) (before : Before) (t : Spot) : Type 0 where
  pub after : Before
  pub run : Run text (state s outside before) (state t outside after)

-- behind a quantifier
pub quantifier_runs :
    {text : List ℕ} {s start t : Spot} {n : ℕ} {m : Option ℕ} →
    Next text s start (quantifier n m false) t → AreBounds n m → (outside : List Mode) →
    Run text (state s outside atom) (state t outside behind_mark)
quantifier_runs {start = start} {t = t} {n = n} {m = m} q bounds outside =
    one_step q (quantifier_goes start.place n m t outside bounds)

mutual
  -- behind an atom
  pub atom_runs :
      {text : List ℕ} {depth : ℕ} {s t : Spot} {tree : Tree} →
      Atom text depth s tree t → (outside : List Mode) (before : Before) → length outside ≡ depth →
      Run text (state s outside before) (state t outside atom)
  atom_runs (one_byte p) outside before h = one_step p refl
  atom_runs (one_point p set) outside before h = one_step p refl
  atom_runs (asserted p) outside before h = one_step p refl
  atom_runs (group {start = start} {inner = inner} below p alternatives q) outside before h =
      let inside = alternation_runs alternatives (start.mode ∷ outside) beginning (omega arith) in
      on p (opens_group start inner outside before (omega arith)) (run_then inside.run (one_step q refl))

  -- behind an item
  pub item_runs :
      {text : List ℕ} {depth : ℕ} {s t : Spot} {tree : Tree} →
      Item text depth s tree t → (outside : List Mode) (before : Before) → length outside ≡ depth →
      Comes text outside s before t
  item_runs (once a n) outside before h = record { after = atom; run = atom_runs a outside before h }
  item_runs (repeated a q bounds) outside before h =
      record { after = behind_mark; run = run_then (atom_runs a outside before h) (quantifier_runs q bounds outside) }

  -- behind a sequence
  pub sequence_runs :
      {text : List ℕ} {depth : ℕ} {s t : Spot} {trees : List Tree} →
      Sequence text depth s trees t → (outside : List Mode) (before : Before) → length outside ≡ depth →
      Comes text outside s before t
  sequence_runs nothing outside before h = record { after = before; run = here }
  sequence_runs (item_first item row) outside before h =
      let first = item_runs item outside before h in
      let rest = sequence_runs row outside first.after h in
      record { after = rest.after; run = run_then first.run rest.run }
  sequence_runs (setting_first p row) outside before h =
      let rest = sequence_runs row outside beginning h in
      record { after = rest.after; run = on p refl rest.run }

  -- behind alternatives
  pub alternation_runs :
      {text : List ℕ} {depth : ℕ} {s t : Spot} {trees : List Tree} →
      Alternation text depth s trees t → (outside : List Mode) (before : Before) → length outside ≡ depth →
      Comes text outside s before t
  alternation_runs (last row) outside before h = sequence_runs row outside before h
  alternation_runs (alternative_first row mark rest) outside before h =
      let first = sequence_runs row outside before h in
      let others = alternation_runs rest outside beginning h in
      record { after = others.after; run = run_then first.run (on mark refl others.run) }

-- a text that is read is read to its end
whole_halts :
    {text : List ℕ} {s start t : Spot} → Next text s start ending t → (after : Before) → Halts text (state s [] after) accepts
whole_halts p after = record { made = ending; start = _; behind = _; there = p; is = refl; final = refl }

accepts_no_stop : {at : ℕ} {refusals : List Refusal} → accepts ≡ stops at refusals → ⊥
accepts_no_stop e = cc

-- a text that is read doesn't stop
not_both :
    {text : List ℕ} {flags : Flags} {tree : Tree} {at : ℕ} {refusal : Refusal} →
    Reads text flags tree → HasFault text flags at refusal → ⊥
not_both reads (too_long h) = omega (arith, h, reads.within)
not_both reads (stopped h stop has) =
    let whole = alternation_runs reads.whole [] beginning refl in
    accepts_no_stop (one_end whole.run (whole_halts reads.ended whole.after) stop.run (stops_halts stop))

-- no text is both read and refused
pub never_both : NeverReadAndRefused
never_both text flags tree refusal reads fault = not_both reads fault.has

-- the place and the reasons of two readings that stop are the same
record AreSameStops (at to : ℕ) (rs ss : List Refusal) : Type 0 where
  pub place : at ≡ to
  pub reasons : rs ≡ ss

same_stops : {at to : ℕ} {rs ss : List Refusal} → stops at rs ≡ stops to ss → AreSameStops at to rs ss
same_stops e = record { place = cc; reasons = cc }

one_stop :
    {text : List ℕ} {flags : Flags} {at to : ℕ} {rs ss : List Refusal} →
    StopsAt text flags at rs → StopsAt text flags to ss → AreSameStops at to rs ss
one_stop stop other = same_stops (one_end stop.run (stops_halts stop) other.run (stops_halts other))

stop_apart : {text : List ℕ} {flags : Flags} {at : ℕ} {rs : List Refusal} → StopsAt text flags at rs → AreApart rs
stop_apart {at = at} {rs = rs} stop =
    move_apart stop.token stop.start stop.behind stop.last.outside stop.last.before at rs stop.stopped

-- two refusals of a text stand at one place, and differ in their numbers
record AreAtOne (at to : ℕ) (r s : Refusal) : Type 0 where
  pub place : at ≡ to
  pub apart : number_of r ≡ number_of s → r ≡ s

at_one :
    {text : List ℕ} {flags : Flags} {at to : ℕ} {r s : Refusal} →
    HasFault text flags at r → HasFault text flags to s → AreAtOne at to r s
at_one (too_long h) (too_long k) = record { place = refl; apart = λ e. refl }
at_one (too_long h) (stopped k stop has) = absurd (omega (arith, h, k))
at_one (stopped h stop has) (too_long k) = absurd (omega (arith, h, k))
at_one {r = r} {s = s} (stopped h stop has) (stopped k other there) =
    let same = one_stop stop other in
    record { place = same.place; apart = stop_apart stop r s has (subst (IsOneOf s) (sym same.reasons) there) }

first_number : (at to : ℕ) (r s : Refusal) → at ≡ to → IsFirst at r to s → number_of r ≤ number_of s
first_number at to r s e (inl before) = absurd (omega (arith, e, before))
first_number at to r s e (inr (place, number)) = number

-- a text has one fault at most
pub one_fault : OneFault
one_fault text flags refusal other f g =
    let one = at_one f.has g.has in
    let less = first_number _ _ _ _ one.place (f.first g.at other g.has) in
    let more = first_number _ _ _ _ (sym one.place) (g.first f.at refusal f.has) in
    one.apart (omega (arith, less, more))

-- the refusal of a text that is too long comes first
pub long_fault : {text : List ℕ} {flags : Flags} → greatest_length < length text → Fault text flags LengthLimit
long_fault {text = text} {flags = flags} h = record { at = 0; has = too_long h; first = by_fault }
  where
    by_fault : (place : ℕ) (other : Refusal) → HasFault text flags place other → IsFirst 0 LengthLimit place other
    by_fault place other (too_long k) = inr (refl, omega arith)
    by_fault place other (stopped k stop has) = absurd (omega (arith, h, k))

-- and so does that of least number where a reading stops
pub fault_of :
    {text : List ℕ} {flags : Flags} {at : ℕ} {refusals : List Refusal} {refusal : Refusal} →
    length text ≤ greatest_length → StopsAt text flags at refusals → IsLeastOf refusal refusals → Fault text flags refusal
fault_of {text = text} {flags = flags} {at = at} {refusals = refusals} {refusal = refusal} short stop is =
    record { at = at; has = stopped short stop is.has; first = by_fault }
  where
    by_fault : (place : ℕ) (other : Refusal) → HasFault text flags place other → IsFirst at refusal place other
    by_fault place other (too_long k) = absurd (omega (arith, short, k))
    by_fault place other (stopped k another has) =
        let same = one_stop stop another in
        inr (same.place, is.least other (subst (IsOneOf other) (sym same.reasons) has))
