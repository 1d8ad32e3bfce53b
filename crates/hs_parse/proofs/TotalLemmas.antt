-- Every text is read, or has a fault.
use Rattle.std.proofs.Common.{◌≡◌, ℕ, zero, suc, ◌+◌, ◌<◌, ◌≤◌, inl, inr, Bool, true, false, List, [], ◌∷◌, length, Option, refl, sym, subst, arith}
use Rattle.std.proofs.lemmas.Bool.{cases_lt, cases_Bool}
use Rattle.hs_base.specs.declared.flags.Flags.{Flags}
use Rattle.hs_base.specs.declared.refusal.Refusal.{Refusal}
use Rattle.hs_base.specs.declared.refusal.Refusal.TheVariants.{Syntax, DepthLimit}
use Rattle.hs_base.specs.Trees.{Tree, AreBounds}
use Rattle.hs_parse.specs.declared.fault.ParseFault.TheVariants as fault
use Rattle.hs_parse.specs.declared.spot.Spot.{Spot}
use Rattle.hs_parse.specs.Spots.{spot, start_of}
use Rattle.hs_parse.specs.Tokens.{Token, ending, single, code_point, assertion, opening, closing, bar, quantifier, setting, faulty, Next}
use Rattle.hs_parse.specs.Grammar.{greatest_length, greatest_depth, NoQuantifier, Atom, one_byte, one_point, asserted, group, Item, once, repeated, Sequence, nothing, item_first, setting_first, sequence_tree, Alternation, last, alternative_first}
use Rattle.hs_parse.specs.Faults.{quantifier_faults, atom}
use Rattle.hs_parse.specs.Reading.{EndsGroup, at_closing, at_ending, IsLeastOf, StopsFrom}
use Rattle.hs_parse.specs.Laws.{Outcome, read, refused, AlwaysOne}
use Rattle.hs_parse.proofs.TokenLemmas.{NextTakes, next_takes, next_read, NextRead}
use Rattle.hs_parse.proofs.PointLemmas.{next_token, points_read}
use Rattle.hs_parse.proofs.FaultLemmas.{has_least, all_right}
use Rattle.hs_parse.proofs.GrammarLemmas.{is_quantifier, no_quantifier}
use Rattle.hs_parse.proofs.PathLemmas.{long_fault}
use Rattle.hs_parse.proofs.StopLemmas.{faulty_stops, quantifier_stops, depth_stops, group_stops, unclosed_stops, wrong_stops, twice_stops, passes_stops, item_passes, setting_passes, bar_passes, stops_fault, closing_fault}

-- further alternatives, or the end of the group
data Tail (text : List ℕ) (depth : ℕ) : Spot → List Tree → Spot → Type 0 where
  no_more : {s : Spot} → EndsGroup text s → Tail text depth s [] s
  further : {s start next t : Spot} {trees : List Tree} →
      Next text s start bar next → Alternation text depth next trees t → EndsGroup text t →
      Tail text depth s trees t

-- the rest of a group is read
record RestRead (text : List ℕ) (depth : ℕ) (s : Spot) : Type 0 where
  pub trees : List Tree
  pub middle : Spot
  pub row : Sequence text depth s trees middle
  pub others : List Tree
  pub end : Spot
  pub tail : Tail text depth middle others end
  pub rises : s.place ≤ end.place
  pub within : end.place ≤ length text

-- the alternatives of it
record WholeRead (text : List ℕ) (depth : ℕ) (s end : Spot) (trees : List Tree) : Type 0 where
  pub whole : Alternation text depth s trees end
  pub ended : EndsGroup text end

whole_of :
    {text : List ℕ} {depth : ℕ} {s middle end : Spot} {trees others : List Tree} →
    Sequence text depth s trees middle → Tail text depth middle others end →
    WholeRead text depth s end (sequence_tree trees ∷ others)
whole_of row (no_more ended) = record { whole = last row; ended = ended }
whole_of row (further mark more ended) = record { whole = alternative_first row mark more; ended = ended }

-- a group is read from a spot on, or the reading stops
data Way (text : List ℕ) (depth : ℕ) (s : Spot) : Type 0 where
  found : RestRead text depth s → Way text depth s
  halts : (refusal : Refusal) → StopsFrom text depth s (fault.Refused refusal) → Way text depth s

-- a spot further on
record IsFurther (text : List ℕ) (s t : Spot) : Type 0 where
  pub rises : s.place < t.place
  pub within : t.place ≤ length text

-- what is known from spots further on
abbrev Later : List ℕ → Spot → Type 0
Later text s = (depth : ℕ) (t : Spot) → depth ≤ greatest_depth → IsFurther text s t → Way text depth t

further_both : {text : List ℕ} {s t u : Spot} → IsFurther text s t → IsFurther text t u → IsFurther text s u
further_both h k = record { rises = omega (arith, h.rises, k.rises); within = k.within }

behind_item :
    (text : List ℕ) (depth : ℕ) (s t : Spot) (tree : Tree) →
    IsFurther text s t → Item text depth s tree t → NoQuantifier text t → Way text depth t → Way text depth s
behind_item text depth s t tree far item bare (found rest) = found (record {
  trees = _;
  middle = rest.middle;
  row = item_first item rest.row;
  others = rest.others;
  end = rest.end;
  tail = rest.tail;
  rises = omega (arith, far.rises, rest.rises);
  within = rest.within;
})
behind_item text depth s t tree far item bare (halts refusal stop) =
    halts refusal (passes_stops text depth s t (fault.Refused refusal) (item_passes text depth s t tree item bare) stop)

-- an atom that goes on
record AtomRead (text : List ℕ) (depth : ℕ) (s middle : Spot) (tree : Tree) : Type 0 where
  pub whole : Atom text depth s tree middle
  pub far : IsFurther text s middle

bare_of : {text : List ℕ} {s : Spot} → (next : NextRead text s) → is_quantifier next.made ≡ false → NoQuantifier text s
bare_of next other =
    no_quantifier (record { made = next.made; start = next.start; behind = next.behind; there = next.there; told = other })

-- the quantifier that a token is
record QuantifierIs (made : Token) : Type 0 where
  pub least : ℕ
  pub greatest : Option ℕ
  pub possessive : Bool
  pub is : made ≡ quantifier least greatest possessive

quantifier_is : (made : Token) → is_quantifier made ≡ true → QuantifierIs made
quantifier_is ending q = absurd cc
quantifier_is (single set) q = absurd cc
quantifier_is code_point q = absurd cc
quantifier_is (assertion here) q = absurd cc
quantifier_is opening q = absurd cc
quantifier_is closing q = absurd cc
quantifier_is bar q = absurd cc
quantifier_is (quantifier n m possessive) q = record { least = _; greatest = _; possessive = _; is = refl }
quantifier_is setting q = absurd cc
quantifier_is (faulty refusal) q = absurd cc

as_quantifier :
    {text : List ℕ} {s start t : Spot} {made : Token} → Next text s start made t → (q : QuantifierIs made) →
    Next text s start (quantifier q.least q.greatest q.possessive) t
as_quantifier {text = text} {s = s} {start = start} {t = t} there q = subst (λ (x : Token). Next text s start x t) q.is there

behind_quantifier :
    (text : List ℕ) (depth : ℕ) (s middle start t : Spot) (tree : Tree) (n : ℕ) (m : Option ℕ) →
    depth ≤ greatest_depth → Later text s → AtomRead text depth s middle tree →
    Next text middle start (quantifier n m false) t → AreBounds n m → Way text depth s
behind_quantifier text depth s middle start t tree n m deep later a q bounds =
    by_next (next_read text t takes.within)
  where
    takes : NextTakes text (quantifier n m false) middle.place start.place t.place
    takes = next_takes a.far.within q

    far : IsFurther text s t
    far = record { rises = omega (arith, a.far.rises, takes.reached, takes.forward); within = takes.within }

    by_next : NextRead text t → Way text depth s
    by_next next =
        elim (cases_Bool (is_quantifier next.made)) [
          | inl again ↦
              let other = quantifier_is next.made again in
              halts (Syntax next.start.place)
              (twice_stops text depth s middle start t next.start next.behind n other.least m other.greatest other.possessive
              tree a.whole q bounds (as_quantifier next.there other))
          | inr other ↦
              behind_item text depth s t _ far (repeated a.whole q bounds) (bare_of next other) (later depth t deep far)
        ]

-- a quantifier, by what is wrong with it
marked :
    (text : List ℕ) (depth : ℕ) (s middle start t : Spot) (tree : Tree) (n : ℕ) (m : Option ℕ) (possessive : Bool) →
    depth ≤ greatest_depth → Later text s → AtomRead text depth s middle tree →
    Next text middle start (quantifier n m possessive) t →
    (faults : List Refusal) → quantifier_faults start.place n m possessive atom ≡ faults → Way text depth s
marked text depth s middle start t tree n m possessive deep later a q [] e =
    let good = all_right start.place n m possessive e in
    behind_quantifier text depth s middle start t tree n m deep later a
    (subst (λ b. Next text middle start (quantifier n m b) t) good.1 q) good.0
marked text depth s middle start t tree n m possessive deep later a q (r ∷ rs) e =
    let least = has_least r rs in
    halts least.refusal
    (wrong_stops text depth s middle start t n m possessive tree least.refusal a.whole q
    (subst (IsLeastOf least.refusal) (sym e) least.least))

behind_atom :
    (text : List ℕ) (depth : ℕ) (s middle : Spot) (tree : Tree) →
    depth ≤ greatest_depth → Later text s → AtomRead text depth s middle tree → Way text depth s
behind_atom text depth s middle tree deep later a = by_next (next_read text middle a.far.within)
  where
    by_next : NextRead text middle → Way text depth s
    by_next next =
        elim (cases_Bool (is_quantifier next.made)) [
          | inl q ↦
              let mark = quantifier_is next.made q in
              marked text depth s middle next.start next.behind tree mark.least mark.greatest mark.possessive deep later a
              (as_quantifier next.there mark) _ refl
          | inr other ↦
              behind_item text depth s middle tree a.far (once a.whole (bare_of next other)) (bare_of next other)
              (later depth middle deep a.far)
        ]

behind_bar :
    (text : List ℕ) (depth : ℕ) (s start t : Spot) →
    s.place ≤ t.place → Next text s start bar t → Way text depth t → Way text depth s
behind_bar text depth s start t h mark (found rest) =
    let all = whole_of rest.row rest.tail in
    found (record {
      trees = [];
      middle = _;
      row = nothing;
      others = _;
      end = rest.end;
      tail = further mark all.whole all.ended;
      rises = omega (arith, h, rest.rises);
      within = rest.within;
    })
behind_bar text depth s start t h mark (halts refusal stop) =
    halts refusal (passes_stops text depth s t (fault.Refused refusal) (bar_passes text depth s start t mark) stop)

behind_setting :
    (text : List ℕ) (depth : ℕ) (s start t : Spot) →
    s.place ≤ t.place → Next text s start setting t → Way text depth t → Way text depth s
behind_setting text depth s start t h p (found rest) = found (record {
  trees = _;
  middle = rest.middle;
  row = setting_first p rest.row;
  others = rest.others;
  end = rest.end;
  tail = rest.tail;
  rises = omega (arith, h, rest.rises);
  within = rest.within;
})
behind_setting text depth s start t h p (halts refusal stop) =
    halts refusal (passes_stops text depth s t (fault.Refused refusal) (setting_passes text depth s start t p) stop)

closed_group :
    (text : List ℕ) (depth : ℕ) (s start inner end : Spot) (trees : List Tree) →
    depth < greatest_depth → Later text s → Next text s start opening inner → s.place < inner.place →
    inner.place ≤ end.place → end.place ≤ length text → Alternation text (depth + 1) inner trees end → EndsGroup text end →
    Way text depth s
closed_group text depth s start inner end trees below later opens rises h k whole (at_closing {t = t} c) =
    let takes = next_takes k c in
    behind_atom text depth s (spot t.place start.mode) _ (omega (arith, below)) later
    (record {
      whole = group below opens whole c;
      far = record { rises = omega (arith, rises, h, takes.reached, takes.forward); within = takes.within };
    })
closed_group text depth s start inner end trees below later opens rises h k whole (at_ending {start = stop} {t = t} e) =
    halts (Syntax stop.place) (unclosed_stops text depth s start inner end stop t trees below opens whole e)

behind_opening :
    (text : List ℕ) (depth : ℕ) (s start inner : Spot) →
    depth < greatest_depth → Later text s → Next text s start opening inner → s.place < inner.place →
    Way text (depth + 1) inner → Way text depth s
behind_opening text depth s start inner below later opens rises (found rest) =
    let all = whole_of rest.row rest.tail in
    closed_group text depth s start inner rest.end _ below later opens rises rest.rises rest.within all.whole all.ended
behind_opening text depth s start inner below later opens rises (halts refusal stop) =
    halts refusal (group_stops text depth s start inner (fault.Refused refusal) below opens stop)

-- from a spot on, if that is known from spots further on
way_at :
    (text : List ℕ) (depth : ℕ) (s start t : Spot) (made : Token) →
    s.place ≤ length text → depth ≤ greatest_depth → Later text s → Next text s start made t → Way text depth s
way_at text depth s start t ending h deep later there =
    found (record { trees = []; middle = _; row = nothing; others = []; end = _; tail = no_more (at_ending there); rises = omega arith; within = h })
way_at text depth s start t (single set) h deep later there =
    let takes = next_takes h there in
    let rises : start.place < t.place = takes.rises in
    behind_atom text depth s t _ deep later
    (record { whole = one_byte there; far = record { rises = omega (arith, rises, takes.reached); within = takes.within } })
way_at text depth s start t code_point h deep later there =
    let takes = next_takes h there in
    let rises : start.place < t.place = takes.rises in
    let set = points_read (next_token there) refl in
    behind_atom text depth s t _ deep later
    (record { whole = one_point there set.there; far = record { rises = omega (arith, rises, takes.reached); within = takes.within } })
way_at text depth s start t (assertion here) h deep later there =
    let takes = next_takes h there in
    let rises : start.place < t.place = takes.rises in
    behind_atom text depth s t _ deep later
    (record { whole = asserted there; far = record { rises = omega (arith, rises, takes.reached); within = takes.within } })
way_at text depth s start t opening h deep later there =
    elim (cases_lt depth greatest_depth) [
      | inl below ↦
          let takes = next_takes h there in
          let rises : start.place < t.place = takes.rises in
          let up : s.place < t.place = omega (arith, rises, takes.reached) in
          behind_opening text depth s start t below later there up
          (later (depth + 1) t (omega (arith, below)) (record { rises = up; within = takes.within }))
      | inr full ↦ halts DepthLimit (depth_stops text depth s start t full there)
    ]
way_at text depth s start t closing h deep later there =
    found (record { trees = []; middle = _; row = nothing; others = []; end = _; tail = no_more (at_closing there); rises = omega arith; within = h })
way_at text depth s start t bar h deep later there =
    let takes = next_takes h there in
    let rises : start.place < t.place = takes.rises in
    let up : s.place < t.place = omega (arith, rises, takes.reached) in
    behind_bar text depth s start t (omega (arith, up)) there (later depth t deep (record { rises = up; within = takes.within }))
way_at text depth s start t (quantifier n m possessive) h deep later there =
    halts (Syntax start.place) (quantifier_stops text depth s start t n m possessive there)
way_at text depth s start t setting h deep later there =
    let takes = next_takes h there in
    let rises : start.place < t.place = takes.rises in
    let up : s.place < t.place = omega (arith, rises, takes.reached) in
    behind_setting text depth s start t (omega (arith, up)) there (later depth t deep (record { rises = up; within = takes.within }))
way_at text depth s start t (faulty refusal) h deep later there =
    halts refusal (faulty_stops text depth s start t refusal there)

-- from every spot on
way :
    (fuel : ℕ) (text : List ℕ) (depth : ℕ) (s : Spot) →
    s.place ≤ length text → depth ≤ greatest_depth → length text ≤ s.place + fuel → Way text depth s
way zero text depth s h deep k =
    let next = next_read text s h in
    way_at text depth s next.start next.behind next.made h deep
    (λ below t under far. absurd (omega (arith, k, far.rises, far.within))) next.there
way (suc fuel) text depth s h deep k =
    let next = next_read text s h in
    way_at text depth s next.start next.behind next.made h deep
    (λ below t under far. way fuel text below t far.within under (omega (arith, k, far.rises))) next.there

ended_outcome :
    (text : List ℕ) (flags : Flags) (end : Spot) (trees : List Tree) →
    length text ≤ greatest_length → Alternation text 0 (start_of flags) trees end → EndsGroup text end → Outcome text flags
ended_outcome text flags end trees short whole (at_closing {start = close} {t = t} c) =
    refused (closing_fault text flags end close t trees short whole c)
ended_outcome text flags end trees short whole (at_ending {start = stop} {t = t} e) =
    read (record { within = short; trees = trees; last = end; whole = whole; start = stop; behind = t; ended = e; is = refl })

outcome : (text : List ℕ) (flags : Flags) → length text ≤ greatest_length → Way text 0 (start_of flags) → Outcome text flags
outcome text flags short (found rest) =
    let all = whole_of rest.row rest.tail in ended_outcome text flags rest.end _ short all.whole all.ended
outcome text flags short (halts refusal stop) = refused (stops_fault text flags (fault.Refused refusal) short stop)

-- every text is read or has a fault
pub always_one : AlwaysOne
always_one text flags =
    elim (cases_lt greatest_length (length text)) [
      | inl long ↦ refused (long_fault long)
      | inr short ↦ outcome text flags short (way (length text) text 0 (start_of flags) (omega arith) (omega arith) (omega arith))
    ]
