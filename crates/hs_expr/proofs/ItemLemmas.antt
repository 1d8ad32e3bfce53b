-- The items of an expression have its spans, and none of them can be opened further.
use Rattle.std.proofs.Common.{◌≡◌, ℕ, zero, suc, ◌≤◌, Bool, true, false, List, [], ◌∷◌, ◌++◌, Option, Some, None, refl, sym, ap, ◌∙◌, subst, if◌then◌else◌, arith}
use Rattle.std.proofs.lemmas.Bool.Decides.{nat_tests}
use Rattle.hs_base.specs.Lists.{Each}
use Rattle.hs_base.proofs.ListLemmas.{each-append}
use Rattle.hs_base.specs.Trees.{Tree, Trees, empty, class, points, assert, cat, alt, repeat, none, more, IsProper, AreProper}
use Rattle.hs_base.specs.Spans.{Spans, CatSpans, Copies}
use Rattle.hs_expr.specs.Meaning.{trees_of}
use Rattle.hs_expr.specs.Items.{items_of, items_of_all, is_once, IsItem, HaveSameSpans}

-- spans of one list of items and then of another
pub data Joined (w : List ℕ) (ended : Bool) (xs ys : List Tree) (i j : ℕ) : Type 0 where
  joined : (m : ℕ) → CatSpans w ended (trees_of xs) i m → CatSpans w ended (trees_of ys) m j → Joined w ended xs ys i j

pub cat_spans-split : (w : List ℕ) (ended : Bool) (xs ys : List Tree) (i j : ℕ) →
    CatSpans w ended (trees_of (xs ++ ys)) i j → Joined w ended xs ys i j
cat_spans-split w ended [] ys i j h = joined i refl h
cat_spans-split w ended (x ∷ xs) ys i j (m, first, others) =
    elim (cat_spans-split w ended xs ys m j others) [ joined k before behind ↦ joined k (m, first, before) behind ]

pub cat_spans-join : (w : List ℕ) (ended : Bool) (xs ys : List Tree) (i m j : ℕ) →
    CatSpans w ended (trees_of xs) i m → CatSpans w ended (trees_of ys) m j → CatSpans w ended (trees_of (xs ++ ys)) i j
cat_spans-join w ended [] ys i m j same behind = subst (λ k. CatSpans w ended (trees_of ys) k j) (sym same) behind
cat_spans-join w ended (x ∷ xs) ys i m j (k, first, others) behind =
    (k, first, cat_spans-join w ended xs ys k m j others behind)

-- one item has its own spans
one_item-open : (w : List ℕ) (ended : Bool) (t : Tree) (i j : ℕ) →
    CatSpans w ended (trees_of (t ∷ [])) i j → Spans w ended t i j
one_item-open w ended t i j (m, here, same) = subst (λ k. Spans w ended t i k) same here

-- so many copies are exactly one
pub once_from : (least : ℕ) (greatest : Option ℕ) → is_once least greatest ≡ true →
    (least ≡ 1) × (greatest ≡ Some 1)
once_from least None once = cc
once_from least (Some greatest) once =
    let low : least ≡ 1 = grind (arith, nat_tests) in
    let high : greatest ≡ 1 = grind (arith, nat_tests) in
    (low, ap Some high)

-- exactly one copy is the body
once-spans : (w : List ℕ) (ended : Bool) (body : Tree) (least : ℕ) (greatest : Option ℕ) (i j : ℕ) →
    is_once least greatest ≡ true → Spans w ended body i j → Spans w ended (repeat body least greatest) i j
once-spans w ended body least greatest i j once here =
    let bounds = once_from least greatest once in
    rw (bounds.0, bounds.1) (1, omega arith, omega arith, (j, here, refl))

once-body : (w : List ℕ) (ended : Bool) (body : Tree) (n i j : ℕ) → 1 ≤ n → n ≤ 1 →
    Copies (Spans w ended body) n i j → Spans w ended body i j
once-body w ended body zero i j low high copies = absurd (omega arith)
once-body w ended body (suc zero) i j low high (m, here, same) = subst (λ k. Spans w ended body i k) same here
once-body w ended body (suc (suc n)) i j low high copies = absurd (omega arith)

-- what an item is opened to has the spans of the item
repeat_items-spans : (w : List ℕ) (ended : Bool) (body : Tree) (least : ℕ) (greatest : Option ℕ) (once : Bool) (i j : ℕ) →
    is_once least greatest ≡ once → (CatSpans w ended (trees_of (items_of body)) i j → Spans w ended body i j) →
    CatSpans w ended (trees_of (if once then items_of body else repeat body least greatest ∷ [])) i j →
    Spans w ended (repeat body least greatest) i j
repeat_items-spans w ended body least greatest true i j once inside h =
    once-spans w ended body least greatest i j once (inside h)
repeat_items-spans w ended body least greatest false i j once inside h =
    one_item-open w ended (repeat body least greatest) i j h

repeat_spans-items : (w : List ℕ) (ended : Bool) (body : Tree) (least : ℕ) (greatest : Option ℕ) (once : Bool) (i j : ℕ) →
    is_once least greatest ≡ once → (Spans w ended body i j → CatSpans w ended (trees_of (items_of body)) i j) →
    Spans w ended (repeat body least greatest) i j →
    CatSpans w ended (trees_of (if once then items_of body else repeat body least greatest ∷ [])) i j
repeat_spans-items w ended body least greatest true i j once inside h =
    let bounds = once_from least greatest once in
    let below : h.0 ≤ 1 = rw bounds.1 at h.2 in
    inside (once-body w ended body h.0 i j (omega (arith, bounds.0, h.1)) below h.3)
repeat_spans-items w ended body least greatest false i j once inside h = (j, h, refl)

mutual
  pub items-spans : (w : List ℕ) (ended : Bool) (t : Tree) (i j : ℕ) →
      CatSpans w ended (trees_of (items_of t)) i j → Spans w ended t i j
  items-spans w ended empty i j h = h
  items-spans w ended (class set) i j h = one_item-open w ended (class set) i j h
  items-spans w ended (points ranges) i j h = one_item-open w ended (points ranges) i j h
  items-spans w ended (assert assertion) i j h = one_item-open w ended (assert assertion) i j h
  items-spans w ended (cat items) i j h = all_items-spans w ended items i j h
  items-spans w ended (alt items) i j h = one_item-open w ended (alt items) i j h
  items-spans w ended (repeat body least greatest) i j h =
      repeat_items-spans w ended body least greatest (is_once least greatest) i j refl (items-spans w ended body i j) h

  all_items-spans : (w : List ℕ) (ended : Bool) (items : Trees) (i j : ℕ) →
      CatSpans w ended (trees_of (items_of_all items)) i j → CatSpans w ended items i j
  all_items-spans w ended none i j h = h
  all_items-spans w ended (more item items) i j h =
      elim (cat_spans-split w ended (items_of item) (items_of_all items) i j h) [
        | joined m before behind ↦ (m, items-spans w ended item i m before, all_items-spans w ended items m j behind)
      ]

mutual
  pub spans-items : (w : List ℕ) (ended : Bool) (t : Tree) (i j : ℕ) →
      Spans w ended t i j → CatSpans w ended (trees_of (items_of t)) i j
  spans-items w ended empty i j h = h
  spans-items w ended (class set) i j h = (j, h, refl)
  spans-items w ended (points ranges) i j h = (j, h, refl)
  spans-items w ended (assert assertion) i j h = (j, h, refl)
  spans-items w ended (cat items) i j h = spans-all_items w ended items i j h
  spans-items w ended (alt items) i j h = (j, h, refl)
  spans-items w ended (repeat body least greatest) i j h =
      repeat_spans-items w ended body least greatest (is_once least greatest) i j refl (spans-items w ended body i j) h

  spans-all_items : (w : List ℕ) (ended : Bool) (items : Trees) (i j : ℕ) →
      CatSpans w ended items i j → CatSpans w ended (trees_of (items_of_all items)) i j
  spans-all_items w ended none i j h = h
  spans-all_items w ended (more item items) i j (m, first, others) =
      cat_spans-join w ended (items_of item) (items_of_all items) i m j
      (spans-items w ended item i m first) (spans-all_items w ended items m j others)

-- the concatenation of the items has the spans of the expression
pub items-have_spans : (t : Tree) → HaveSameSpans (cat (trees_of (items_of t))) t
items-have_spans t = λ w ended i j. (items-spans w ended t i j, spans-items w ended t i j)

repeat-Each : (body : Tree) (least : ℕ) (greatest : Option ℕ) (once : Bool) → is_once least greatest ≡ once →
    Each IsItem (items_of body) → Each IsItem (if once then items_of body else repeat body least greatest ∷ [])
repeat-Each body least greatest true is inside = inside
repeat-Each body least greatest false is inside = (is, tt)

-- no item can be opened further
mutual
  pub items-Each : (t : Tree) → Each IsItem (items_of t)
  items-Each empty = tt
  items-Each (class set) = (tt, tt)
  items-Each (points ranges) = (tt, tt)
  items-Each (assert assertion) = (tt, tt)
  items-Each (cat items) = all_items-Each items
  items-Each (alt items) = (tt, tt)
  items-Each (repeat body least greatest) =
      repeat-Each body least greatest (is_once least greatest) refl (items-Each body)

  all_items-Each : (items : Trees) → Each IsItem (items_of_all items)
  all_items-Each none = tt
  all_items-Each (more item items) =
      each-append IsItem (items_of item) (items_of_all items) (items-Each item) (all_items-Each items)

-- an item is its own only item
items_of-item : (t : Tree) → IsItem t → items_of t ≡ t ∷ []
items_of-item empty is = absurd is
items_of-item (class set) is = refl
items_of-item (points ranges) is = refl
items_of-item (assert assertion) is = refl
items_of-item (cat items) is = absurd is
items_of-item (alt items) is = refl
items_of-item (repeat body least greatest) is =
    ap (λ once. if once then items_of body else repeat body least greatest ∷ []) is

items_of_all-items : (items : List Tree) → Each IsItem items → items_of_all (trees_of items) ≡ items
items_of_all-items [] each = refl
items_of_all-items (item ∷ items) each =
    ap (λ first. first ++ items_of_all (trees_of items)) (items_of-item item each.0)
    ∙ ap (λ others. item ∷ others) (items_of_all-items items each.1)

-- opening the items again changes nothing
pub items_of-again : (t : Tree) → items_of (cat (trees_of (items_of t))) ≡ items_of t
items_of-again t = items_of_all-items (items_of t) (items-Each t)

-- the values of the items are within their types
proper-once : (body : Tree) (least : ℕ) (greatest : Option ℕ) (once : Bool) → IsProper (repeat body least greatest) →
    Each IsProper (items_of body) → Each IsProper (if once then items_of body else repeat body least greatest ∷ [])
proper-once body least greatest true whole inside = inside
proper-once body least greatest false whole inside = (whole, tt)

mutual
  pub items-proper : (t : Tree) → IsProper t → Each IsProper (items_of t)
  items-proper empty proper = tt
  items-proper (class set) proper = (proper, tt)
  items-proper (points ranges) proper = (proper, tt)
  items-proper (assert assertion) proper = (proper, tt)
  items-proper (cat items) proper = all_items-proper items proper
  items-proper (alt items) proper = (proper, tt)
  items-proper (repeat body least greatest) proper =
      proper-once body least greatest (is_once least greatest) proper (items-proper body proper.0)

  all_items-proper : (items : Trees) → AreProper items → Each IsProper (items_of_all items)
  all_items-proper none proper = tt
  all_items-proper (more item items) proper =
      each-append IsProper (items_of item) (items_of_all items) (items-proper item proper.0) (all_items-proper items proper.1)
