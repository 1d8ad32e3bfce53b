-- What the parser's loops keep, and what its functions give.
use Rattle.std.proofs.Common.{◌≡◌, ◌≢◌, ℕ, ◌+◌, ◌<◌, ◌≤◌, ◌⊎◌, inl, inr, Bool, true, false, List, [], ◌∷◌, ◌++◌, append_assoc, length, map, Option, Result, Ok, Err, IfErr, Box, Vec, Global, refl, sym, ap, subst, ◌∙◌, arith}
use Rattle.std.specs.Result.{IsErr, IsErrAnd}
use Rattle.std.proofs.lemmas.List.{map_push, append-nil}
use Rattle.hs_base.specs.declared.assertion.Assertion.{Assertion}
use Rattle.hs_base.specs.declared.byte_set.ByteSet.{ByteSet}
use Rattle.hs_base.specs.declared.flags.Flags.{Flags}
use Rattle.hs_base.specs.declared.refusal.Refusal.{Refusal}
use Rattle.hs_base.specs.declared.refusal.Refusal.TheVariants.{Syntax}
use Rattle.hs_base.specs.ByteSets.{members}
use Rattle.hs_base.specs.Trees.{Tree, class, points, assert, repeat}
use Rattle.hs_expr.specs.declared.expr.Expr.{Expr}
use Rattle.hs_expr.specs.declared.expr.Expr.TheVariants.{Class, Points, Assert, Repeat, rolls-Class, rolls-Points, rolls-Assert, rolls-Repeat}
use Rattle.hs_expr.specs.declared.expr.Expr.TheOpen.{Expr-F}
use Rattle.hs_expr.specs.declared.expr.Expr.TheFolds.{fold-roll-Expr}
use Rattle.hs_expr.specs.Meaning.{node_tree, tree_of}
use Rattle.hs_parse.specs.declared.token.Token.{Token as Seen}
use Rattle.hs_parse.specs.declared.token.Token.TheVariants as seen
use Rattle.hs_parse.specs.declared.token.Found.{Found}
use Rattle.hs_parse.specs.declared.fault.ParseFault.TheVariants as fault
use Rattle.hs_parse.specs.declared.spot.Spot.{Spot}
use Rattle.hs_parse.specs.Spots.{spot, start_of}
use Rattle.hs_parse.specs.Tokens.{Token, ending, single, code_point, assertion, opening, closing, bar, quantifier, setting, Next}
use Rattle.hs_parse.specs.Grammar.{greatest_length, greatest_depth, NoQuantifier, Atom, one_byte, one_point, asserted, group, Item, once, repeated, Sequence, nothing, item_first, setting_first, sequence_tree, Alternation, last, alternative_first, alternation_tree, Reads}
use Rattle.hs_parse.specs.Faults.{Fault, quantifier_faults}
use Rattle.hs_parse.specs.Faults as faults
use Rattle.hs_parse.specs.Reading.{EndsGroup, at_closing, at_ending, EndsSequence, with_group, at_bar, ReadsOn, StopsFrom, plain_token, sees_quantifier, goes_on, IsNext, IsToken, IsLeastOf, ReadsAtom, ReadsItem, ReadsSequence, ReadsGroup}
use Rattle.hs_parse.specs.Points.{ArePoints}
use Rattle.hs_parse.specs.PointReading.{IsPoint}
use Rattle.hs_parse.proofs.TokenLemmas.{one_next}
use Rattle.hs_parse.proofs.PointLemmas.{next_token}
use Rattle.hs_parse.proofs.FaultLemmas.{all_right}
use Rattle.hs_parse.proofs.GrammarLemmas.{is_quantifier, no_quantifier}
use Rattle.hs_parse.proofs.StopLemmas.{unclosed_stops, wrong_stops, twice_stops, passes_here, passes_then, item_passes, setting_passes, sequence_passes, bar_passes, closing_fault}

-- the next token, by what the parser sees
pub as_next :
    {text : List ℕ} {s : Spot} {f : Found} {t : Seen} →
    IsNext text s f → f.token ≡ t → Next text s f.start (plain_token t) f.behind
as_next {text = text} {s = s} {f = f} next e =
    subst (λ x. Next text s f.start (plain_token x) f.behind) e next.there

plain_quantifier : (t : Seen) → is_quantifier (plain_token t) ≡ sees_quantifier t
plain_quantifier seen.End = refl
plain_quantifier (seen.Single set) = refl
plain_quantifier seen.Point = refl
plain_quantifier (seen.Assert here) = refl
plain_quantifier seen.Opening = refl
plain_quantifier seen.Closing = refl
plain_quantifier seen.Bar = refl
plain_quantifier (seen.Quantifier least greatest possessive) = refl
plain_quantifier seen.Setting = refl
plain_quantifier (seen.Refused refusal) = refl

-- no quantifier is next where the parser sees none
pub bare_next : {text : List ℕ} {s : Spot} {f : Found} → IsNext text s f → sees_quantifier f.token ≡ false → NoQuantifier text s
bare_next {f = f} next h =
    no_quantifier (record {
      made = plain_token f.token;
      start = f.start;
      behind = f.behind;
      there = next.there;
      told = plain_quantifier f.token ∙ h;
    })

-- a sequence that ends at no `|` ends its group
pub group_ends :
    {text : List ℕ} {s : Spot} {f : Found} → EndsSequence text s → IsNext text s f → f.token ≢ seen.Bar → EndsGroup text s
group_ends (with_group ended) next other = ended
group_ends {f = f} (at_bar p) next other = absurd (other (is_bar f.token (one_next p next.there).token))
  where
    is_bar : (t : Seen) → bar ≡ plain_token t → t ≡ seen.Bar
    is_bar seen.End e = absurd cc
    is_bar (seen.Single set) e = absurd cc
    is_bar seen.Point e = absurd cc
    is_bar (seen.Assert here) e = absurd cc
    is_bar seen.Opening e = absurd cc
    is_bar seen.Closing e = absurd cc
    is_bar seen.Bar e = refl
    is_bar (seen.Quantifier least greatest possessive) e = absurd cc
    is_bar seen.Setting e = absurd cc
    is_bar (seen.Refused refusal) e = absurd cc

-- a group that doesn't end with the text is closed
pub group_closes :
    {text : List ℕ} {s : Spot} {f : Found} → EndsGroup text s → IsNext text s f → f.token ≢ seen.End → Next text s f.start closing f.behind
group_closes {text = text} {s = s} {f = f} (at_closing p) next other =
    subst (λ (x : Token). Next text s f.start x f.behind) (sym (one_next p next.there).token) next.there
group_closes {f = f} (at_ending p) next other = absurd (other (is_end f.token (one_next p next.there).token))
  where
    is_end : (t : Seen) → ending ≡ plain_token t → t ≡ seen.End
    is_end seen.End e = refl
    is_end (seen.Single set) e = absurd cc
    is_end seen.Point e = absurd cc
    is_end (seen.Assert here) e = absurd cc
    is_end seen.Opening e = absurd cc
    is_end seen.Closing e = absurd cc
    is_end seen.Bar e = absurd cc
    is_end (seen.Quantifier least greatest possessive) e = absurd cc
    is_end seen.Setting e = absurd cc
    is_end (seen.Refused refusal) e = absurd cc

-- the alternatives so far
pub record AlternativesRead (text : List ℕ) (depth : ℕ) (start : Spot) (trees : List Tree) (at : Spot) : Type 0 where
  pub more :
      (rest : List Tree) (end : Spot) →
      Alternation text depth at rest end → Alternation text depth start (trees ++ rest) end
  pub passes : ReadsOn text depth start at
  pub rises : start.place ≤ at.place
  pub within : at.place ≤ length text

-- the items so far
pub record SequenceRead (text : List ℕ) (depth : ℕ) (start : Spot) (trees : List Tree) (at : Spot) : Type 0 where
  pub more :
      (rest : List Tree) (end : Spot) →
      Sequence text depth at rest end → Sequence text depth start (trees ++ rest) end
  pub passes : ReadsOn text depth start at
  pub rises : start.place ≤ at.place
  pub within : at.place ≤ length text

pub no_alternatives :
    (text : List ℕ) (depth : ℕ) (start : Spot) (items : List Expr) →
    items ≡ [] → start.place ≤ length text → AlternativesRead text depth start (map tree_of items) start
no_alternatives text depth start items e h =
    subst (λ xs. AlternativesRead text depth start (map tree_of xs) start) (sym e)
    (record { more = λ rest end whole. whole; passes = passes_here text depth start; rises = omega arith; within = h })

pub no_sequence :
    (text : List ℕ) (depth : ℕ) (start : Spot) (items : List Expr) →
    items ≡ [] → start.place ≤ length text → SequenceRead text depth start (map tree_of items) start
no_sequence text depth start items e h =
    subst (λ xs. SequenceRead text depth start (map tree_of xs) start) (sym e)
    (record { more = λ rest end row. row; passes = passes_here text depth start; rises = omega arith; within = h })

-- one more item
pub more_sequence :
    (text : List ℕ) (depth : ℕ) (start at end : Spot) (before after : List Expr) (item : Expr) →
    SequenceRead text depth start (map tree_of before) at → ReadsItem text depth at (tree_of item) end →
    after ≡ before ++ item ∷ [] → SequenceRead text depth start (map tree_of after) end
more_sequence text depth start at end before after item so_far read e =
    let trees = sym (ap (map tree_of) e ∙ map_push tree_of before item) in
    subst (λ xs. SequenceRead text depth start xs end) trees (record {
      more = λ rest to row.
          subst (λ xs. Sequence text depth start xs to) (sym (append_assoc (map tree_of before) (tree_of item ∷ []) rest))
          (so_far.more (tree_of item ∷ rest) to (item_first read.whole row));
      passes = passes_then text depth start at end so_far.passes
          (item_passes text depth at end (tree_of item) read.whole read.bare);
      rises = omega (arith, so_far.rises, read.rises);
      within = read.within;
    })

-- a change of options
pub setting_sequence :
    (text : List ℕ) (depth : ℕ) (start at : Spot) (f : Found) (trees : List Tree) →
    SequenceRead text depth start trees at → IsNext text at f → f.token ≡ seen.Setting →
    SequenceRead text depth start trees f.behind
setting_sequence text depth start at f trees so_far next e =
    let there : Next text at f.start setting f.behind = as_next next e in
    record {
      more = λ rest to row. so_far.more rest to (setting_first there row);
      passes = passes_then text depth start at f.behind so_far.passes (setting_passes text depth at f.start f.behind there);
      rises = omega (arith, so_far.rises, next.reached, next.forward);
      within = next.within;
    }

-- how far the next token goes, by what the parser sees
pub as_rises :
    {text : List ℕ} {s : Spot} {f : Found} {t : Seen} →
    IsNext text s f → f.token ≡ t → goes_on (plain_token t) f.start.place f.behind.place
as_rises {f = f} next e = subst (λ x. goes_on (plain_token x) f.start.place f.behind.place) e next.rises

-- a change of options takes bytes
pub setting_rises : (text : List ℕ) (at : Spot) (f : Found) → IsNext text at f → f.token ≡ seen.Setting → at.place < f.behind.place
setting_rises text at f next e =
    let rises : f.start.place < f.behind.place = as_rises next e in omega (arith, rises, next.reached)

-- and so does a `|`
pub bar_rises : (text : List ℕ) (at : Spot) (f : Found) → IsNext text at f → f.token ≡ seen.Bar → at.place < f.behind.place
bar_rises text at f next e =
    let rises : f.start.place < f.behind.place = as_rises next e in omega (arith, rises, next.reached)

-- one more alternative, and a `|`
pub more_alternatives :
    (text : List ℕ) (depth : ℕ) (start at end : Spot) (f : Found) (before after : List Expr) (sequence : Expr) →
    AlternativesRead text depth start (map tree_of before) at →
    ReadsSequence text depth at (tree_of sequence) end → IsNext text end f → f.token ≡ seen.Bar →
    after ≡ before ++ sequence ∷ [] → AlternativesRead text depth start (map tree_of after) f.behind
more_alternatives text depth start at end f before after sequence so_far read next mark e =
    let trees = sym (ap (map tree_of) e ∙ map_push tree_of before sequence) in
    let divides : Next text end f.start bar f.behind = as_next next mark in
    subst (λ xs. AlternativesRead text depth start xs f.behind) trees (record {
      more = λ rest to whole.
          subst (λ xs. Alternation text depth start xs to)
          (ap (λ t. map tree_of before ++ t ∷ rest) (sym read.is)
          ∙ sym (append_assoc (map tree_of before) (tree_of sequence ∷ []) rest))
          (so_far.more (sequence_tree read.trees ∷ rest) to (alternative_first read.whole divides whole));
      passes = passes_then text depth start at f.behind so_far.passes
          (passes_then text depth at end f.behind
          (sequence_passes text depth at end read.trees read.whole read.ended)
          (bar_passes text depth end f.start f.behind divides));
      rises = omega (arith, so_far.rises, read.rises, next.reached, next.forward);
      within = next.within;
    })

-- the last alternative
pub all_alternatives :
    (text : List ℕ) (depth : ℕ) (start at end : Spot) (f : Found) (before after : List Expr) (sequence result : Expr) →
    AlternativesRead text depth start (map tree_of before) at →
    ReadsSequence text depth at (tree_of sequence) end → IsNext text end f → f.token ≢ seen.Bar →
    after ≡ before ++ sequence ∷ [] → tree_of result ≡ alternation_tree (map tree_of after) →
    ReadsGroup text depth start (tree_of result) end
all_alternatives text depth start at end f before after sequence result so_far read next other e same =
    let whole = so_far.more (sequence_tree read.trees ∷ []) end (last read.whole) in
    let trees : map tree_of after ≡ map tree_of before ++ sequence_tree read.trees ∷ [] =
    ap (map tree_of) e ∙ map_push tree_of before sequence ∙ ap (λ t. map tree_of before ++ t ∷ []) read.is in
    record {
      trees = map tree_of before ++ sequence_tree read.trees ∷ [];
      whole = whole;
      is = same ∙ ap alternation_tree trees;
      ended = group_ends read.ended next other;
      rises = omega (arith, so_far.rises, read.rises);
      within = read.within;
    }

-- a group
pub group_read :
    (text : List ℕ) (depth : ℕ) (s end : Spot) (f close : Found) (tree : Tree) →
    depth < greatest_depth → IsNext text s f → f.token ≡ seen.Opening →
    ReadsGroup text (depth + 1) f.behind tree end → IsNext text end close → close.token ≢ seen.End →
    ReadsAtom text depth s tree (spot close.behind.place f.start.mode)
group_read text depth s end f close tree below next opens read ended other =
    let closes = group_closes read.ended ended other in
    let there : Next text s f.start opening f.behind = as_next next opens in
    let rises : f.start.place < f.behind.place = as_rises next opens in
    record {
      whole = subst (λ t. Atom text depth s t (spot close.behind.place f.start.mode)) (sym read.is) (group below there read.whole closes);
      rises = omega (arith, next.reached, rises, read.rises, ended.reached, ended.forward);
      within = ended.within;
    }

-- a group that the text ends in
pub group_open :
    (text : List ℕ) (depth : ℕ) (s end : Spot) (f close : Found) (tree : Tree) →
    depth < greatest_depth → IsNext text s f → f.token ≡ seen.Opening →
    ReadsGroup text (depth + 1) f.behind tree end → IsNext text end close → close.token ≡ seen.End →
    StopsFrom text depth s (fault.Refused (Syntax close.start.place))
group_open text depth s end f close tree below next opens read ended is =
    unclosed_stops text depth s f.start f.behind end close.start close.behind read.trees below (as_next next opens) read.whole
    (as_next ended is)

-- the end of a sequence, as the parser sees it
pub sequence_ends :
    (text : List ℕ) (s : Spot) (f : Found) →
    IsNext text s f → (f.token ≡ seen.End) ⊎ ((f.token ≡ seen.Closing) ⊎ ((f.token ≡ seen.Bar) ⊎ (f.token ≡ seen.Setting))) →
    f.token ≢ seen.Setting → EndsSequence text s
sequence_ends text s f next (inl e) other = with_group (at_ending (as_next next e))
sequence_ends text s f next (inr (inl e)) other = with_group (at_closing (as_next next e))
sequence_ends text s f next (inr (inr (inl e))) other = at_bar (as_next next e)
sequence_ends text s f next (inr (inr (inr e))) other = absurd (other e)

-- the tree of a set
tree-class : (set : ByteSet) → tree_of (Class set) ≡ class (members set)
tree-class set = ap tree_of (sym (rolls-Class set)) ∙ fold-roll-Expr Tree node_tree (Expr-F.Class set)

-- the tree of a set of code points
tree-points : (ranges : Vec (ℕ × ℕ) Global) → tree_of (Points ranges) ≡ points ranges.items
tree-points ranges = ap tree_of (sym (rolls-Points ranges)) ∙ fold-roll-Expr Tree node_tree (Expr-F.Points ranges)

-- the tree of an assertion
tree-assert : (here : Assertion) → tree_of (Assert here) ≡ assert here
tree-assert here = ap tree_of (sym (rolls-Assert here)) ∙ fold-roll-Expr Tree node_tree (Expr-F.Assert here)

-- the tree of a repeat
tree-repeat :
    (body : Box Expr Global) (n : ℕ) (m : Option ℕ) →
    tree_of (Repeat body n m) ≡ repeat (tree_of body.value) n m
tree-repeat body n m =
    ap tree_of (sym (rolls-Repeat body n m)) ∙ fold-roll-Expr Tree node_tree (Expr-F.Repeat body n m)

-- an atom of one byte
pub single_read :
    (text : List ℕ) (depth : ℕ) (s : Spot) (f : Found) (set : ByteSet) →
    IsNext text s f → f.token ≡ seen.Single set → ReadsAtom text depth s (tree_of (Class set)) f.behind
single_read text depth s f set next e =
    let there : Next text s f.start (single (members set)) f.behind = as_next next e in
    let rises : f.start.place < f.behind.place = as_rises next e in
    record {
      whole = subst (λ t. Atom text depth s t f.behind) (sym (tree-class set)) (one_byte there);
      rises = omega (arith, next.reached, rises);
      within = next.within;
    }

-- an atom of one code point
pub point_read :
    (text : List ℕ) (depth : ℕ) (s : Spot) (f : Found) (ranges : Vec (ℕ × ℕ) Global) →
    ArePoints text f.start ranges.items → IsNext text s f → f.token ≡ seen.Point →
    ReadsAtom text depth s (tree_of (Points ranges)) f.behind
point_read text depth s f ranges set next e =
    let there : Next text s f.start code_point f.behind = as_next next e in
    let rises : f.start.place < f.behind.place = as_rises next e in
    record {
      whole = subst (λ t. Atom text depth s t f.behind) (sym (tree-points ranges)) (one_point there set);
      rises = omega (arith, next.reached, rises);
      within = next.within;
    }

-- where the set of one is asked for
pub point_there : (text : List ℕ) (f : Found) → IsToken text f → f.token ≡ seen.Point → IsPoint text f.start
point_there text f told e = (f.behind, next_token (as_next told.next e))

pub point_within : (text : List ℕ) (f : Found) → IsToken text f → f.start.place ≤ length text
point_within text f told = omega (arith, told.next.forward, told.next.within)

-- an assertion
pub assertion_read :
    (text : List ℕ) (depth : ℕ) (s : Spot) (f : Found) (here : Assertion) →
    IsNext text s f → f.token ≡ seen.Assert here → ReadsAtom text depth s (tree_of (Assert here)) f.behind
assertion_read text depth s f here next e =
    let there : Next text s f.start (assertion here) f.behind = as_next next e in
    let rises : f.start.place < f.behind.place = as_rises next e in
    record {
      whole = subst (λ t. Atom text depth s t f.behind) (sym (tree-assert here)) (asserted there);
      rises = omega (arith, next.reached, rises);
      within = next.within;
    }

-- an item without a quantifier
pub once_read :
    (text : List ℕ) (depth : ℕ) (s middle : Spot) (f : Found) (tree : Tree) →
    ReadsAtom text depth s tree middle → IsNext text middle f → sees_quantifier f.token ≡ false → ReadsItem text depth s tree middle
once_read text depth s middle f tree read next other =
    let bare = bare_next next other in
    record { whole = once read.whole bare; bare = bare; rises = read.rises; within = read.within }

-- an item with one
pub repeated_read :
    (text : List ℕ) (depth : ℕ) (s middle : Spot) (f again : Found) (n : ℕ) (m : Option ℕ) (possessive : Bool)
    (atom : Expr) (body : Box Expr Global) →
    ReadsAtom text depth s (tree_of atom) middle → IsNext text middle f → f.token ≡ seen.Quantifier n m possessive →
    quantifier_faults f.start.place n m possessive faults.atom ≡ [] →
    IsNext text f.behind again → sees_quantifier again.token ≡ false → body.value ≡ atom →
    ReadsItem text depth s (tree_of (Repeat body n m)) f.behind
repeated_read text depth s middle f again n m possessive atom body read next e right behind other same =
    let good = all_right f.start.place n m possessive right in
    let marks : Next text middle f.start (quantifier n m possessive) f.behind = as_next next e in
    let mark : Next text middle f.start (quantifier n m false) f.behind =
    subst (λ b. Next text middle f.start (quantifier n m b) f.behind) good.1 marks in
    let rises : f.start.place < f.behind.place = as_rises next e in
    let tree : tree_of (Repeat body n m) ≡ repeat (tree_of atom) n m =
    tree-repeat body n m ∙ ap (λ x. repeat (tree_of x) n m) same in
    record {
      whole = subst (λ t. Item text depth s t f.behind) (sym tree) (repeated read.whole mark good.0);
      bare = bare_next behind other;
      rises = omega (arith, read.rises, next.reached, rises);
      within = next.within;
    }

-- the quantifier that the parser sees
record QuantifierSeen (t : Seen) : Type 0 where
  pub least : ℕ
  pub greatest : Option ℕ
  pub possessive : Bool
  pub is : t ≡ seen.Quantifier least greatest possessive

quantifier_seen : (t : Seen) → sees_quantifier t ≡ true → QuantifierSeen t
quantifier_seen seen.End e = absurd cc
quantifier_seen (seen.Single set) e = absurd cc
quantifier_seen seen.Point e = absurd cc
quantifier_seen (seen.Assert here) e = absurd cc
quantifier_seen seen.Opening e = absurd cc
quantifier_seen seen.Closing e = absurd cc
quantifier_seen seen.Bar e = absurd cc
quantifier_seen (seen.Quantifier least greatest possessive) e = record { least = _; greatest = _; possessive = _; is = refl }
quantifier_seen seen.Setting e = absurd cc
quantifier_seen (seen.Refused refusal) e = absurd cc

-- a quantifier behind it
pub twice_read :
    (text : List ℕ) (depth : ℕ) (s middle : Spot) (f again : Found) (n : ℕ) (m : Option ℕ)
    (possessive : Bool) (tree : Tree) →
    ReadsAtom text depth s tree middle → IsNext text middle f → f.token ≡ seen.Quantifier n m possessive →
    quantifier_faults f.start.place n m possessive faults.atom ≡ [] →
    IsNext text f.behind again → sees_quantifier again.token ≡ true →
    StopsFrom text depth s (fault.Refused (Syntax again.start.place))
twice_read text depth s middle f again n m possessive tree read next e right behind is =
    let good = all_right f.start.place n m possessive right in
    let marks : Next text middle f.start (quantifier n m possessive) f.behind = as_next next e in
    let mark : Next text middle f.start (quantifier n m false) f.behind =
    subst (λ b. Next text middle f.start (quantifier n m b) f.behind) good.1 marks in
    let other = quantifier_seen again.token is in
    twice_stops text depth s middle f.start f.behind again.start again.behind n other.least m other.greatest other.possessive
    tree read.whole mark good.0 (as_next behind other.is)

-- a quantifier with which something is wrong
pub wrong_read :
    (text : List ℕ) (depth : ℕ) (s middle : Spot) (f : Found) (n : ℕ) (m : Option ℕ)
    (possessive : Bool) (tree : Tree) (refusal : Refusal) →
    ReadsAtom text depth s tree middle → IsNext text middle f → f.token ≡ seen.Quantifier n m possessive →
    IsLeastOf refusal (quantifier_faults f.start.place n m possessive faults.atom) →
    StopsFrom text depth s (fault.Refused refusal)
wrong_read text depth s middle f n m possessive tree refusal read next e least =
    wrong_stops text depth s middle f.start f.behind n m possessive tree refusal read.whole (as_next next e) least

-- a whole sequence
pub sequence_read :
    (text : List ℕ) (depth : ℕ) (start end : Spot) (items : List Expr) (result : Expr) →
    SequenceRead text depth start (map tree_of items) end → EndsSequence text end →
    tree_of result ≡ sequence_tree (map tree_of items) → ReadsSequence text depth start (tree_of result) end
sequence_read text depth start end items result so_far ended same = record {
  trees = map tree_of items;
  whole =
      subst (λ xs. Sequence text depth start xs end) (append-nil (map tree_of items)) (so_far.more [] end nothing);
  is = same;
  ended = ended;
  rises = so_far.rises;
  within = so_far.within;
}

-- the whole text
pub text_read :
    (text : List ℕ) (flags : Flags) (tree : Tree) (end : Spot) (f : Found) →
    length text ≤ greatest_length → ReadsGroup text 0 (start_of flags) tree end → IsNext text end f → f.token ≡ seen.End →
    Reads text flags tree
text_read text flags tree end f short read next e = record {
  within = short;
  trees = read.trees;
  last = end;
  whole = read.whole;
  start = f.start;
  behind = f.behind;
  ended = as_next next e;
  is = read.is;
}

-- a `)` before its end
pub text_closed :
    (text : List ℕ) (flags : Flags) (tree : Tree) (end : Spot) (f : Found) →
    length text ≤ greatest_length → ReadsGroup text 0 (start_of flags) tree end → IsNext text end f → f.token ≢ seen.End →
    Fault text flags (Syntax f.start.place)
text_closed text flags tree end f short read next other =
    closing_fault text flags end f.start f.behind read.trees short read.whole (group_closes read.ended next other)

-- an error that is handed on
pub handed_on :
    {A E : Type 0} (P : E → Type 0) (result : Result A E) (e : E) →
    IsErr result × IsErrAnd result (λ x. x ≡ e) → P e → IfErr result P
handed_on P (Ok x) e (told, same) h = tt
handed_on P (Err x) e (told, same) h = subst P (sym same) h
