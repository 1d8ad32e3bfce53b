-- A class is read in one way, and every `[` begins one or has a refusal.
use Rattle.std.proofs.Common.{◌≡◌, ℕ, zero, suc, ◌+◌, ◌<◌, ◌≤◌, Bool, true, false, ◌||◌, List, [], ◌∷◌, ◌++◌, length, refl, sym, ap, ap₂, subst, ◌∙◌, arith}
use Rattle.std.specs.List.{list_any}
use Rattle.hs_base.specs.declared.refusal.Refusal.TheVariants.{Syntax}
use Rattle.hs_syntax.specs.declared.mode.Mode.{Mode}
use Rattle.hs_syntax.proofs.FitLemmas.{either, byte_within}
use Rattle.hs_parse.specs.declared.item.Item.{Item}
use Rattle.hs_parse.specs.declared.item.Item.TheVariants as item
use Rattle.hs_parse.specs.declared.set.Test.{Test}
use Rattle.hs_parse.specs.Classes.{circumflex, item_at, Items, nothing, item_first, is_negated, items_start, class_of}
use Rattle.hs_parse.specs.Tokens.{Token, one_of, faulty, ClassToken, closed, unclosed, refused}
use Rattle.hs_parse.proofs.ItemLemmas.{item_end}

-- whether an item goes on
abbrev pub goes_on : Item → Bool
goes_on item.End = false
goes_on item.Close = false
goes_on (item.Bytes test end) = true
goes_on (item.Refused refusal) = false

-- the tests and the end of two readings are the same
pub record AreSameItems (ss ts : List Test) (j k : ℕ) : Type 0 where
  pub tests : ss ≡ ts
  pub end : j ≡ k

-- an item of some bytes goes on
pub item_stops : {i : Item} {test : Test} {end : ℕ} → i ≡ item.Bytes test end → goes_on i ≡ false → ⊥
item_stops e h = let bad : true ≡ false = sym (ap goes_on e) ∙ h in cc

-- two items at one place are the same
record AreSameTests (a b : Test) (j k : ℕ) : Type 0 where
  pub test : a ≡ b
  pub end : j ≡ k

same_tests : {i : Item} {a b : Test} {j k : ℕ} → i ≡ item.Bytes a j → i ≡ item.Bytes b k → AreSameTests a b j k
same_tests e f = record { test = cc; end = cc }

-- items from the same place
moved_items :
    {text : List ℕ} {mode : Mode} {start i j k : ℕ} {ts : List Test} →
    i ≡ j → Items text mode start j ts k → Items text mode start i ts k
moved_items {text = text} {mode = mode} {start = start} {k = k} {ts = ts} same items =
    subst (λ x. Items text mode start x ts k) (sym same) items

first_tests : {a b : Test} {ss ts : List Test} → a ≡ b → ss ≡ ts → a ∷ ss ≡ b ∷ ts
first_tests e f = ap₂ ◌∷◌ e f

-- two readings that can't go on are the same
pub one_items :
    {text : List ℕ} {mode : Mode} {start at j k : ℕ} {ss ts : List Test} →
    Items text mode start at ss j → goes_on (item_at text mode start j) ≡ false →
    Items text mode start at ts k → goes_on (item_at text mode start k) ≡ false → AreSameItems ss ts j k
one_items nothing stop nothing end = record { tests = refl; end = refl }
one_items nothing stop (item_first e items) end = absurd (item_stops e stop)
one_items (item_first e items) stop nothing end = absurd (item_stops e end)
one_items (item_first e items) stop (item_first f others) end =
    let same = same_tests e f in
    let again = one_items items stop (moved_items same.end others) end in
    record { tests = first_tests same.test again.tests; end = again.end }

-- one item more
pub items_last :
    {text : List ℕ} {mode : Mode} {start at j end : ℕ} {test : Test} {ts : List Test} →
    Items text mode start at ts j → item_at text mode start j ≡ item.Bytes test end →
    Items text mode start at (ts ++ test ∷ []) end
items_last nothing e = item_first e nothing
items_last (item_first f items) e = item_first f (items_last items e)

or_turned : (a b c : Bool) → (a || (b || c)) ≡ (b || (a || c))
or_turned true true c = refl
or_turned true false c = refl
or_turned false true c = refl
or_turned false false c = refl

-- one test more
pub any_last :
    (p : Test → Bool) (tests : List Test) (test : Test) →
    list_any p (tests ++ test ∷ []) ≡ (p test || list_any p tests)
any_last p [] test = refl
any_last p (first ∷ tests) test =
    ap (λ x. p first || x) (any_last p tests test) ∙ or_turned (p first) (p test) (list_any p tests)

-- the items of a class end within the text
pub items_within :
    {text : List ℕ} {mode : Mode} {start at end : ℕ} {ts : List Test} →
    Items text mode start at ts end → at ≤ length text → (at ≤ end) × (end ≤ length text)
items_within nothing h = (omega arith, h)
items_within {text = text} {mode = mode} {start = start} {at = at} (item_first {middle = middle} {test = test} e items) h =
    let here = item_end text mode start at (item.Bytes test middle) h e in
    let rest = items_within items here.1 in
    (omega (arith, rest.0, here.0), rest.1)

-- items up to where they can't go on
pub record ItemsRead (text : List ℕ) (mode : Mode) (start at : ℕ) : Type 0 where
  pub tests : List Test
  pub here : ℕ
  pub items : Items text mode start at tests here
  pub stop : goes_on (item_at text mode start here) ≡ false

stopped_items :
    (text : List ℕ) (mode : Mode) (start at : ℕ) →
    goes_on (item_at text mode start at) ≡ false → ItemsRead text mode start at
stopped_items text mode start at h = record { tests = []; here = at; items = nothing; stop = h }

-- the items of every class are read as far as they go
pub items_read :
    (fuel : ℕ) (text : List ℕ) (mode : Mode) (start at : ℕ) →
    at ≤ length text → length text ≤ at + fuel → ItemsRead text mode start at
items_read zero text mode start at k h = by_item (item_at text mode start at) refl
  where
    by_item : (i : Item) → item_at text mode start at ≡ i → ItemsRead text mode start at
    by_item item.End e = stopped_items text mode start at (ap goes_on e)
    by_item item.Close e = stopped_items text mode start at (ap goes_on e)
    by_item (item.Bytes test end) e =
        let far = item_end text mode start at (item.Bytes test end) k e in absurd (omega (arith, far.0, far.1, h))
    by_item (item.Refused refusal) e = stopped_items text mode start at (ap goes_on e)
items_read (suc fuel) text mode start at k h =
    by_item (item_at text mode start at) refl
    (λ end far within. items_read fuel text mode start end within (omega (arith, h, far)))
  where
    by_item : (i : Item) → item_at text mode start at ≡ i →
        ((end : ℕ) → at < end → end ≤ length text → ItemsRead text mode start end) → ItemsRead text mode start at
    by_item item.End e more = stopped_items text mode start at (ap goes_on e)
    by_item item.Close e more = stopped_items text mode start at (ap goes_on e)
    by_item (item.Bytes test end) e more =
        let far = item_end text mode start at (item.Bytes test end) k e in
        let rest = more end far.0 far.1 in
        record { tests = _; here = rest.here; items = item_first e rest.items; stop = rest.stop }
    by_item (item.Refused refusal) e more = stopped_items text mode start at (ap goes_on e)

-- what the items of a class, and what stands behind them, make of it
abbrev token_of : List ℕ → Mode → ℕ → List Test → Item → Token
token_of text mode at tests item.End = faulty (Syntax at)
token_of text mode at tests item.Close = one_of mode (class_of (is_negated text at) tests)
token_of text mode at tests (item.Bytes test end) = faulty (Syntax at)
token_of text mode at tests (item.Refused refusal) = faulty refusal

abbrev end_of : ℕ → ℕ → Item → ℕ
end_of at here item.End = at
end_of at here item.Close = here + 1
end_of at here (item.Bytes test end) = at
end_of at here (item.Refused refusal) = at

-- a class, by its items and what stands behind them
record View (text : List ℕ) (mode : Mode) (at : ℕ) (made : Token) (end : ℕ) : Type 0 where
  pub tests : List Test
  pub here : ℕ
  pub items : Items text mode (items_start text at) (items_start text at) tests here
  pub stop : goes_on (item_at text mode (items_start text at) here) ≡ false
  pub token-is : made ≡ token_of text mode at tests (item_at text mode (items_start text at) here)
  pub end-is : end ≡ end_of at here (item_at text mode (items_start text at) here)

view : {text : List ℕ} {mode : Mode} {at end : ℕ} {made : Token} → ClassToken text mode at made end → View text mode at made end
view {text = text} {mode = mode} {at = at} (closed {tests = tests} {close = close} items e) = record {
  tests = tests;
  here = close;
  items = items;
  stop = ap goes_on e;
  token-is = ap (token_of text mode at tests) (sym e);
  end-is = ap (end_of at close) (sym e);
}
view {text = text} {mode = mode} {at = at} (unclosed {tests = tests} {end = end} items e) = record {
  tests = tests;
  here = end;
  items = items;
  stop = ap goes_on e;
  token-is = ap (token_of text mode at tests) (sym e);
  end-is = ap (end_of at end) (sym e);
}
view {text = text} {mode = mode} {at = at} (refused {tests = tests} {here = here} items e) = record {
  tests = tests;
  here = here;
  items = items;
  stop = ap goes_on e;
  token-is = ap (token_of text mode at tests) (sym e);
  end-is = ap (end_of at here) (sym e);
}

-- the token and the end of two readings are the same
pub record AreSameClasses (s t : Token) (j k : ℕ) : Type 0 where
  pub token : s ≡ t
  pub end : j ≡ k

-- a class is read in one way
same_views :
    {text : List ℕ} {mode : Mode} {at j k : ℕ} {s t : Token} →
    View text mode at s j → View text mode at t k → AreSameClasses s t j k
same_views {text = text} {mode = mode} {at = at} a b =
    let same = one_items a.items a.stop b.items b.stop in
    let token : token_of text mode at a.tests (item_at text mode (items_start text at) a.here)
    ≡ token_of text mode at b.tests (item_at text mode (items_start text at) b.here) =
    ap (λ xs. token_of text mode at xs (item_at text mode (items_start text at) a.here)) same.tests
    ∙ ap (λ x. token_of text mode at b.tests (item_at text mode (items_start text at) x)) same.end in
    let place : end_of at a.here (item_at text mode (items_start text at) a.here)
    ≡ end_of at b.here (item_at text mode (items_start text at) b.here) =
    ap (λ x. end_of at x (item_at text mode (items_start text at) x)) same.end in
    record { token = a.token-is ∙ token ∙ sym b.token-is; end = a.end-is ∙ place ∙ sym b.end-is }

pub one_class :
    {text : List ℕ} {mode : Mode} {at j k : ℕ} {s t : Token} →
    ClassToken text mode at s j → ClassToken text mode at t k → AreSameClasses s t j k
one_class a b = same_views (view a) (view b)

-- a class stands at the place
pub record ClassRead (text : List ℕ) (mode : Mode) (at : ℕ) : Type 0 where
  pub made : Token
  pub end : ℕ
  pub there : ClassToken text mode at made end

items_class :
    (text : List ℕ) (mode : Mode) (at : ℕ) (tests : List Test) (here : ℕ) →
    Items text mode (items_start text at) (items_start text at) tests here →
    (i : Item) → item_at text mode (items_start text at) here ≡ i → goes_on i ≡ false → ClassRead text mode at
items_class text mode at tests here items item.End e stop = record { made = _; end = _; there = unclosed items e }
items_class text mode at tests here items item.Close e stop = record { made = _; end = _; there = closed items e }
items_class text mode at tests here items (item.Bytes test end) e stop =
    absurd (item_stops {i = item.Bytes test end} {test = test} {end = end} refl stop)
items_class text mode at tests here items (item.Refused refusal) e stop = record { made = _; end = _; there = refused items e }

-- the items of a class begin within the text
pub start_within : (text : List ℕ) (at : ℕ) → at < length text → (at < items_start text at) × (items_start text at ≤ length text)
start_within text at h =
    either (λ k. (at < k) × (k ≤ length text)) (is_negated text at) _ _
    (λ e. let behind = byte_within text (at + 1) circumflex e in (omega arith, omega (arith, behind)))
    (λ e. (omega arith, omega (arith, h)))

-- at every `[` stands one
pub class_read : (text : List ℕ) (mode : Mode) (at : ℕ) → at < length text → ClassRead text mode at
class_read text mode at h =
    let begun = start_within text at h in
    let items = items_read (length text) text mode (items_start text at) (items_start text at) begun.1 (omega arith) in
    items_class text mode at items.tests items.here items.items _ refl items.stop

-- a class that is closed ends within the text
pub closed_within :
    {text : List ℕ} {mode : Mode} {at close : ℕ} {tests : List Test} →
    at < length text → Items text mode (items_start text at) (items_start text at) tests close →
    item_at text mode (items_start text at) close ≡ item.Close → (at < close + 1) × (close + 1 ≤ length text)
closed_within {text = text} {mode = mode} {at = at} {close = close} h items e =
    let begun = start_within text at h in
    let far = items_within items begun.1 in
    let stop = item_end text mode (items_start text at) close item.Close far.1 e in
    (omega (arith, begun.0, far.0), omega (arith, stop))
