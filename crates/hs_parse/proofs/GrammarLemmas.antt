-- The grammar reads in one way.
use Rattle.std.proofs.Common.{◌≡◌, ℕ, Bool, true, false, List, [], ◌∷◌, refl, sym, ap, subst, ◌∙◌}
use Rattle.hs_base.specs.Trees.{Tree, points}
use Rattle.hs_parse.specs.declared.spot.Spot.{Spot}
use Rattle.hs_parse.specs.Spots.{spot}
use Rattle.hs_parse.specs.Tokens.{Token, ending, single, code_point, assertion, opening, closing, bar, quantifier, setting, faulty, Next}
use Rattle.hs_parse.specs.Grammar.{NoQuantifier, Atom, one_byte, one_point, asserted, group, Item, once, repeated, Sequence, nothing, item_first, setting_first, sequence_tree, Alternation, last, alternative_first, alternation_tree}
use Rattle.hs_parse.specs.Reading.{EndsGroup, at_closing, at_ending, EndsSequence, with_group, at_bar}
use Rattle.hs_parse.specs.Laws.{OneTree}
use Rattle.hs_parse.proofs.TokenLemmas.{one_next}
use Rattle.hs_parse.proofs.PointLemmas.{moved_points}

-- whether a token ends a sequence
abbrev pub ends_sequence : Token → Bool
ends_sequence ending = true
ends_sequence (single set) = false
ends_sequence code_point = false
ends_sequence (assertion here) = false
ends_sequence opening = false
ends_sequence closing = true
ends_sequence bar = true
ends_sequence (quantifier least greatest possessive) = false
ends_sequence setting = false
ends_sequence (faulty refusal) = false

-- whether a token begins an atom
abbrev pub begins_atom : Token → Bool
begins_atom ending = false
begins_atom (single set) = true
begins_atom code_point = true
begins_atom (assertion here) = true
begins_atom opening = true
begins_atom closing = false
begins_atom bar = false
begins_atom (quantifier least greatest possessive) = false
begins_atom setting = false
begins_atom (faulty refusal) = false

-- whether a token is a quantifier
abbrev pub is_quantifier : Token → Bool
is_quantifier ending = false
is_quantifier (single set) = false
is_quantifier code_point = false
is_quantifier (assertion here) = false
is_quantifier opening = false
is_quantifier closing = false
is_quantifier bar = false
is_quantifier (quantifier least greatest possessive) = true
is_quantifier setting = false
is_quantifier (faulty refusal) = false

-- a token is next, of which a test says so much
pub record IsThere (text : List ℕ) (s : Spot) (test : Token → Bool) (answer : Bool) : Type 0 where
  pub made : Token
  pub start : Spot
  pub behind : Spot
  pub there : Next text s start made behind
  pub told : test made ≡ answer

-- a test says one thing of the token that is next
pub clash :
    {text : List ℕ} {s : Spot} {test : Token → Bool} → IsThere text s test true → IsThere text s test false → ⊥
clash {test = test} a b =
    let same : true ≡ false = sym a.told ∙ ap test (one_next a.there b.there).token ∙ b.told in cc

pub group_token : {text : List ℕ} {s : Spot} → EndsGroup text s → IsThere text s ends_sequence true
group_token (at_closing p) = record { made = _; start = _; behind = _; there = p; told = refl }
group_token (at_ending p) = record { made = _; start = _; behind = _; there = p; told = refl }

pub sequence_token : {text : List ℕ} {s : Spot} → EndsSequence text s → IsThere text s ends_sequence true
sequence_token (with_group e) = group_token e
sequence_token (at_bar p) = record { made = _; start = _; behind = _; there = p; told = refl }

-- and begins no atom
pub no_group_atom : {text : List ℕ} {s : Spot} → EndsGroup text s → IsThere text s begins_atom false
no_group_atom (at_closing p) = record { made = _; start = _; behind = _; there = p; told = refl }
no_group_atom (at_ending p) = record { made = _; start = _; behind = _; there = p; told = refl }

pub no_sequence_atom : {text : List ℕ} {s : Spot} → EndsSequence text s → IsThere text s begins_atom false
no_sequence_atom (with_group e) = no_group_atom e
no_sequence_atom (at_bar p) = record { made = _; start = _; behind = _; there = p; told = refl }

-- a group doesn't end at a `|`
pub group_no_bar : {text : List ℕ} {s start t : Spot} → EndsGroup text s → Next text s start bar t → ⊥
group_no_bar (at_closing p) q = let same = (one_next p q).token in cc
group_no_bar (at_ending p) q = let same = (one_next p q).token in cc

-- an atom begins with its token
atom_token : {text : List ℕ} {depth : ℕ} {s t : Spot} {tree : Tree} → Atom text depth s tree t → IsThere text s begins_atom true
atom_token (one_byte p) = record { made = _; start = _; behind = _; there = p; told = refl }
atom_token (one_point p set) = record { made = _; start = _; behind = _; there = p; told = refl }
atom_token (asserted p) = record { made = _; start = _; behind = _; there = p; told = refl }
atom_token (group below p alternatives q) = record { made = _; start = _; behind = _; there = p; told = refl }

-- so does an item
pub item_token : {text : List ℕ} {depth : ℕ} {s t : Spot} {tree : Tree} → Item text depth s tree t → IsThere text s begins_atom true
item_token (once a n) = atom_token a
item_token (repeated a q b) = atom_token a

-- no item begins where a sequence ends
no_item : {text : List ℕ} {depth : ℕ} {s t : Spot} {tree : Tree} → EndsSequence text s → Item text depth s tree t → ⊥
no_item e item = clash (item_token item) (no_sequence_atom e)

-- nor where options change
setting_no_item :
    {text : List ℕ} {depth : ℕ} {s start t u : Spot} {tree : Tree} → Next text s start setting t → Item text depth s tree u → ⊥
setting_no_item p item = clash (item_token item) (record { made = _; start = _; behind = _; there = p; told = refl })

setting_no_end : {text : List ℕ} {s start t : Spot} → EndsSequence text s → Next text s start setting t → ⊥
setting_no_end e p = clash (sequence_token e) (record { made = _; start = _; behind = _; there = p; told = refl })

-- no quantifier is next where another token is
pub no_quantifier : {text : List ℕ} {s : Spot} → IsThere text s is_quantifier false → NoQuantifier text s
no_quantifier other n m possessive start t q =
    clash (record { made = _; start = _; behind = _; there = q; told = refl }) other

-- the tree and the end of two readings are the same
pub record AreSame (a b : Tree) (t u : Spot) : Type 0 where
  pub tree : a ≡ b
  pub end : t ≡ u

-- the trees and the end of two readings are the same
pub record AreSameRows (xs ys : List Tree) (t u : Spot) : Type 0 where
  pub trees : xs ≡ ys
  pub end : t ≡ u

pub moved_next : {text : List ℕ} {s r start t : Spot} {a : Token} → s ≡ r → Next text r start a t → Next text s start a t
moved_next {text = text} {start = start} {t = t} {a = a} e there = subst (λ (x : Spot). Next text x start a t) (sym e) there

moved_sequence :
    {text : List ℕ} {depth : ℕ} {s r t : Spot} {ts : List Tree} → s ≡ r → Sequence text depth r ts t → Sequence text depth s ts t
moved_sequence {text = text} {depth = depth} {t = t} {ts = ts} same row = subst (λ (x : Spot). Sequence text depth x ts t) (sym same) row

moved_alternation :
    {text : List ℕ} {depth : ℕ} {s r t : Spot} {ts : List Tree} → s ≡ r → Alternation text depth r ts t → Alternation text depth s ts t
moved_alternation {text = text} {depth = depth} {t = t} {ts = ts} same row =
    subst (λ (x : Spot). Alternation text depth x ts t) (sym same) row

same_rows :
    {xs ys ss ts : List Tree} → xs ≡ ys → ss ≡ ts → sequence_tree xs ∷ ss ≡ sequence_tree ys ∷ ts
same_rows {xs = xs} {ys = ys} {ss = ss} {ts = ts} e f =
    ap (λ row. sequence_tree row ∷ ss) e ∙ ap (λ rows. sequence_tree ys ∷ rows) f

-- behind a group the options are those before it
same_close : {close other i j : Spot} → close ≡ other → i ≡ j → spot close.place i.mode ≡ spot other.place j.mode
same_close {close = close} {other = other} {i = i} {j = j} e f =
    ap (λ (x : Spot). spot x.place i.mode) e ∙ ap (λ (x : Spot). spot other.place x.mode) f

-- each form is read in one way
mutual
  one_atom :
      {text : List ℕ} {depth : ℕ} {s t u : Spot} {a b : Tree} →
      Atom text depth s a t → Atom text depth s b u → AreSame a b t u
  one_atom (one_byte p) (one_byte q) =
      let same = one_next p q in
      record { tree = let e = same.token in cc; end = same.behind }
  one_atom (one_byte p) (one_point q set) = absurd (let e = (one_next p q).token in cc)
  one_atom (one_byte p) (asserted q) = absurd (let e = (one_next p q).token in cc)
  one_atom (one_byte p) (group below q alternatives c) = absurd (let e = (one_next p q).token in cc)
  one_atom (one_point p set) (one_byte q) = absurd (let e = (one_next p q).token in cc)
  one_atom (one_point p set) (one_point q other) =
      let same = one_next p q in
      record { tree = ap points (moved_points same.start set other); end = same.behind }
  one_atom (one_point p set) (asserted q) = absurd (let e = (one_next p q).token in cc)
  one_atom (one_point p set) (group below q alternatives c) = absurd (let e = (one_next p q).token in cc)
  one_atom (asserted p) (one_point q set) = absurd (let e = (one_next p q).token in cc)
  one_atom (asserted p) (one_byte q) = absurd (let e = (one_next p q).token in cc)
  one_atom (asserted p) (asserted q) =
      let same = one_next p q in
      record { tree = let e = same.token in cc; end = same.behind }
  one_atom (asserted p) (group below q alternatives c) = absurd (let e = (one_next p q).token in cc)
  one_atom (group below p alternatives c) (one_point q set) = absurd (let e = (one_next p q).token in cc)
  one_atom (group below p alternatives c) (one_byte q) = absurd (let e = (one_next p q).token in cc)
  one_atom (group below p alternatives c) (asserted q) = absurd (let e = (one_next p q).token in cc)
  one_atom (group below p alternatives c) (group under q others d) =
      let first = one_next p q in
      let rows = one_alternation alternatives (at_closing c) (moved_alternation first.behind others) (at_closing d) in
      let close = one_next c (moved_next rows.end d) in
      record { tree = ap alternation_tree rows.trees; end = same_close close.behind first.start }

  one_item :
      {text : List ℕ} {depth : ℕ} {s t u : Spot} {a b : Tree} →
      Item text depth s a t → Item text depth s b u → AreSame a b t u
  one_item (once a n) (once b m) = one_atom a b
  one_item (once a n) (repeated b q k) = absurd (n _ _ _ _ _ (moved_next (one_atom a b).end q))
  one_item (repeated a q k) (once b m) = absurd (m _ _ _ _ _ (moved_next (sym (one_atom a b).end) q))
  one_item (repeated a q k) (repeated b r l) =
      let atoms = one_atom a b in
      let marks = one_next q (moved_next atoms.end r) in
      record { tree = let e = marks.token in cc (atoms.tree, e); end = marks.behind }

  one_sequence :
      {text : List ℕ} {depth : ℕ} {s t u : Spot} {xs ys : List Tree} →
      Sequence text depth s xs t → EndsSequence text t →
      Sequence text depth s ys u → EndsSequence text u → AreSameRows xs ys t u
  one_sequence nothing end nothing stop = record { trees = refl; end = refl }
  one_sequence nothing end (item_first item row) stop = absurd (no_item end item)
  one_sequence nothing end (setting_first p row) stop = absurd (setting_no_end end p)
  one_sequence (item_first item row) end nothing stop = absurd (no_item stop item)
  one_sequence (item_first item row) end (item_first other rest) stop =
      let same = one_item item other in
      let again = one_sequence row end (moved_sequence same.end rest) stop in
      record { trees = cc (same.tree, again.trees); end = again.end }
  one_sequence (item_first item row) end (setting_first p rest) stop = absurd (setting_no_item p item)
  one_sequence (setting_first p row) end nothing stop = absurd (setting_no_end stop p)
  one_sequence (setting_first p row) end (item_first other rest) stop = absurd (setting_no_item p other)
  one_sequence (setting_first p row) end (setting_first q rest) stop =
      one_sequence row end (moved_sequence (one_next p q).behind rest) stop

  one_alternation :
      {text : List ℕ} {depth : ℕ} {s t u : Spot} {xs ys : List Tree} →
      Alternation text depth s xs t → EndsGroup text t →
      Alternation text depth s ys u → EndsGroup text u → AreSameRows xs ys t u
  one_alternation (last row) end (last other) stop =
      let same = one_sequence row (with_group end) other (with_group stop) in
      record { trees = ap (λ xs. sequence_tree xs ∷ []) same.trees; end = same.end }
  one_alternation (last row) end (alternative_first other mark rest) stop =
      let same = one_sequence row (with_group end) other (at_bar mark) in
      absurd (group_no_bar end (moved_next same.end mark))
  one_alternation (alternative_first row mark rest) end (last other) stop =
      let same = one_sequence row (at_bar mark) other (with_group stop) in
      absurd (group_no_bar stop (moved_next (sym same.end) mark))
  one_alternation (alternative_first row mark rest) end (alternative_first other divide more) stop =
      let same = one_sequence row (at_bar mark) other (at_bar divide) in
      let next = one_next mark (moved_next same.end divide) in
      let again = one_alternation rest end (moved_alternation next.behind more) stop in
      record { trees = same_rows same.trees again.trees; end = again.end }

-- a text is read as one tree at most
pub one_tree : OneTree
one_tree text flags tree other r s =
    r.is
    ∙ ap alternation_tree (one_alternation r.whole (at_ending r.ended) s.whole (at_ending s.ended)).trees
    ∙ sym s.is
