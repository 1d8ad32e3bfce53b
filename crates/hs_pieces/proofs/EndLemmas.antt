-- End assertions in chains: a chain has an embedded one where its expression has.
use Rattle.std.proofs.Common.{◌≡◌, ℕ, zero, suc, Bool, true, false, ◌||◌, ◌&&◌, List, [], ◌∷◌, ◌++◌, map, Option, Some, None, if◌then◌else◌, refl, sym, ap, ◌∙◌, subst}
use Rattle.hs_base.specs.Trees.{Tree, Trees, empty, class, points, assert, cat, alt, repeat, none, more, trees_of}
use Rattle.hs_base.specs.EndAssertions.{is_end_assertion, may_consume, one_may_consume, has_embedded_end, sequence_has_embedded_end, one_has_embedded_end}
use Rattle.hs_base.specs.WrittenOut.{IsPlain, ArePlain}
use Rattle.hs_base.specs.Items.{items_of, items_of_all, is_once}
use Rattle.hs_base.specs.Chains.{Part, literal, ordinary, long, piece_of, piece_tree, chain_trees}
use Rattle.hs_base.proofs.ByteSetLemmas.{or-false}
use Rattle.hs_base.proofs.EndAssertionLemmas.{neither}
use Rattle.hs_expr.proofs.ItemLemmas.{once_from}
use Rattle.hs_pieces.proofs.FlatLemmas.{items_in, items_within}

or-assoc : (a b c : Bool) → ((a || b) || c) ≡ (a || (b || c))
or-assoc true b c = refl
or-assoc false b c = refl

or-exchange : (a b c : Bool) → ((a || b) || c) ≡ ((a || c) || b)
or-exchange true b c = refl
or-exchange false true true = refl
or-exchange false true false = refl
or-exchange false false true = refl
or-exchange false false false = refl

or-behind : (a b c : Bool) → (a || (b || c)) ≡ ((a || c) || b)
or-behind a b c = sym (or-assoc a b c) ∙ or-exchange a b c

-- items in a row may consume bytes, and have an embedded end assertion
abbrev pub row_consumes : List Tree → Bool
row_consumes ts = one_may_consume (trees_of ts)

abbrev pub row_has_end : List Tree → Bool → Bool
row_has_end ts after = sequence_has_embedded_end (trees_of ts) after

pub consumes-append : (xs ys : List Tree) → row_consumes (xs ++ ys) ≡ (row_consumes xs || row_consumes ys)
consumes-append [] ys = refl
consumes-append (x ∷ xs) ys =
    ap (λ rest. may_consume x || rest) (consumes-append xs ys) ∙ sym (or-assoc (may_consume x) (row_consumes xs) (row_consumes ys))

pub ends-append : (xs ys : List Tree) (after : Bool) →
    row_has_end (xs ++ ys) after ≡ (row_has_end xs (after || row_consumes ys) || row_has_end ys after)
ends-append [] ys after = refl
ends-append (x ∷ xs) ys after =
    ap (λ rest. has_embedded_end x (after || rest) || row_has_end (xs ++ ys) after) (consumes-append xs ys)
    ∙ ap (λ behind. has_embedded_end x behind || row_has_end (xs ++ ys) after) (or-behind after (row_consumes xs) (row_consumes ys))
    ∙ ap (λ rest. has_embedded_end x ((after || row_consumes ys) || row_consumes xs) || rest) (ends-append xs ys after)
    ∙ sym (or-assoc (has_embedded_end x ((after || row_consumes ys) || row_consumes xs)) (row_has_end xs (after || row_consumes ys)) (row_has_end ys after))

one-consumes : (t : Tree) → row_consumes (t ∷ []) ≡ may_consume t
one-consumes t = or-false (may_consume t)

one-has_end : (t : Tree) (after : Bool) → row_has_end (t ∷ []) after ≡ has_embedded_end t after
one-has_end t after = or-false (has_embedded_end t (after || false)) ∙ ap (has_embedded_end t) (or-false after)

repeat-consumes : (body : Tree) (least : ℕ) (greatest : Option ℕ) (once : Bool) → is_once least greatest ≡ once →
    row_consumes (items_of body) ≡ may_consume body →
    row_consumes (if once then items_of body else repeat body least greatest ∷ []) ≡ may_consume (repeat body least greatest)
repeat-consumes body least greatest true is inside =
    inside ∙ ap (λ most. may_consume (repeat body least most)) (sym (once_from least greatest is).1)
repeat-consumes body least greatest false is inside = one-consumes (repeat body least greatest)

mutual
  pub items-consume : (t : Tree) → row_consumes (items_of t) ≡ may_consume t
  items-consume empty = refl
  items-consume (class set) = one-consumes (class set)
  items-consume (points ranges) = one-consumes (points ranges)
  items-consume (assert assertion) = one-consumes (assert assertion)
  items-consume (cat items) = all_items-consume items
  items-consume (alt items) = one-consumes (alt items)
  items-consume (repeat body least greatest) =
      repeat-consumes body least greatest (is_once least greatest) refl (items-consume body)

  all_items-consume : (items : Trees) → row_consumes (items_of_all items) ≡ one_may_consume items
  all_items-consume none = refl
  all_items-consume (more item items) =
      consumes-append (items_of item) (items_of_all items)
      ∙ ap (λ first. first || row_consumes (items_of_all items)) (items-consume item)
      ∙ ap (λ rest. may_consume item || rest) (all_items-consume items)

repeat-has_end : (body : Tree) (least : ℕ) (greatest : Option ℕ) (once after : Bool) → is_once least greatest ≡ once →
    row_has_end (items_of body) after ≡ has_embedded_end body after →
    row_has_end (if once then items_of body else repeat body least greatest ∷ []) after ≡ has_embedded_end (repeat body least greatest) after
repeat-has_end body least greatest true after is inside =
    inside ∙ ap (λ most. has_embedded_end (repeat body least most) after) (sym (once_from least greatest is).1)
repeat-has_end body least greatest false after is inside = one-has_end (repeat body least greatest) after

mutual
  pub items-have_end : (t : Tree) (after : Bool) → row_has_end (items_of t) after ≡ has_embedded_end t after
  items-have_end empty after = refl
  items-have_end (class set) after = one-has_end (class set) after
  items-have_end (points ranges) after = one-has_end (points ranges) after
  items-have_end (assert assertion) after = one-has_end (assert assertion) after
  items-have_end (cat items) after = all_items-have_end items after
  items-have_end (alt items) after = one-has_end (alt items) after
  items-have_end (repeat body least greatest) after =
      repeat-has_end body least greatest (is_once least greatest) after refl (items-have_end body after)

  all_items-have_end : (items : Trees) (after : Bool) → row_has_end (items_of_all items) after ≡ sequence_has_embedded_end items after
  all_items-have_end none after = refl
  all_items-have_end (more item items) after =
      ends-append (items_of item) (items_of_all items) after
      ∙ ap (λ rest. row_has_end (items_of item) (after || rest) || row_has_end (items_of_all items) after) (all_items-consume items)
      ∙ ap (λ first. first || row_has_end (items_of_all items) after) (items-have_end item (after || one_may_consume items))
      ∙ ap (λ rest. has_embedded_end item (after || one_may_consume items) || rest) (all_items-have_end items after)

-- the same of pieces, by their items

piece-consumes : (part : Part) → may_consume (piece_tree (piece_of part)) ≡ row_consumes (items_in part)
piece-consumes (literal xs) = refl
piece-consumes (ordinary ts) = refl
piece-consumes (long set least greatest) = sym (one-consumes (repeat (class set) least greatest))

piece-has_end : (part : Part) (after : Bool) → has_embedded_end (piece_tree (piece_of part)) after ≡ row_has_end (items_in part) after
piece-has_end (literal xs) after = refl
piece-has_end (ordinary ts) after = refl
piece-has_end (long set least greatest) after = sym (one-has_end (repeat (class set) least greatest) after)

chain-consumes : (parts : List Part) → one_may_consume (chain_trees (map piece_of parts)) ≡ row_consumes (items_within parts)
chain-consumes [] = refl
chain-consumes (part ∷ parts) =
    ap (λ first. first || one_may_consume (chain_trees (map piece_of parts))) (piece-consumes part)
    ∙ ap (λ rest. row_consumes (items_in part) || rest) (chain-consumes parts)
    ∙ sym (consumes-append (items_in part) (items_within parts))

pub chain-has_end : (parts : List Part) (after : Bool) →
    sequence_has_embedded_end (chain_trees (map piece_of parts)) after ≡ row_has_end (items_within parts) after
chain-has_end [] after = refl
chain-has_end (part ∷ parts) after =
    ap (λ rest. has_embedded_end (piece_tree (piece_of part)) (after || rest) || sequence_has_embedded_end (chain_trees (map piece_of parts)) after) (chain-consumes parts)
    ∙ ap (λ first. first || sequence_has_embedded_end (chain_trees (map piece_of parts)) after) (piece-has_end part (after || row_consumes (items_within parts)))
    ∙ ap (λ rest. row_has_end (items_in part) (after || row_consumes (items_within parts)) || rest) (chain-has_end parts after)
    ∙ sym (ends-append (items_in part) (items_within parts) after)

-- where no end assertion is embedded if more follows, none is if less does

less-after : (a c e : Bool) → ((a || c) && e) ≡ false → (a && e) ≡ false
less-after true c e h = h
less-after false c e h = refl

mutual
  pub ends-sooner : (t : Tree) (a c : Bool) → has_embedded_end t (a || c) ≡ false → has_embedded_end t a ≡ false
  ends-sooner empty a c h = refl
  ends-sooner (class set) a c h = refl
  ends-sooner (points ranges) a c h = refl
  ends-sooner (assert assertion) a c h = less-after a c (is_end_assertion assertion) h
  ends-sooner (cat items) a c h = ends_sooner-cat items a c h
  ends-sooner (alt items) a c h = ends_sooner-alt items a c h
  ends-sooner (repeat body least None) a c h =
      ends-sooner body (a || may_consume body) c (subst (λ b. has_embedded_end body b ≡ false) (or-exchange a c (may_consume body)) h)
  ends-sooner (repeat body least (Some zero)) a c h = refl
  ends-sooner (repeat body least (Some (suc zero))) a c h = ends-sooner body a c h
  ends-sooner (repeat body least (Some (suc (suc most)))) a c h =
      ends-sooner body (a || may_consume body) c (subst (λ b. has_embedded_end body b ≡ false) (or-exchange a c (may_consume body)) h)

  ends_sooner-cat : (items : Trees) (a c : Bool) → sequence_has_embedded_end items (a || c) ≡ false → sequence_has_embedded_end items a ≡ false
  ends_sooner-cat none a c h = refl
  ends_sooner-cat (more item items) a c h =
      let apart = neither (has_embedded_end item ((a || c) || one_may_consume items)) (sequence_has_embedded_end items (a || c)) h in
      let first = ends-sooner item (a || one_may_consume items) c
      (subst (λ b. has_embedded_end item b ≡ false) (or-exchange a c (one_may_consume items)) apart.0) in
      ap (λ b. b || sequence_has_embedded_end items a) first ∙ ends_sooner-cat items a c apart.1

  ends_sooner-alt : (items : Trees) (a c : Bool) → one_has_embedded_end items (a || c) ≡ false → one_has_embedded_end items a ≡ false
  ends_sooner-alt none a c h = refl
  ends_sooner-alt (more item items) a c h =
      let apart = neither (has_embedded_end item (a || c)) (one_has_embedded_end items (a || c)) h in
      ap (λ b. b || one_has_embedded_end items a) (ends-sooner item a c apart.0) ∙ ends_sooner-alt items a c apart.1

-- no code points

pub plain-append : (xs ys : List Tree) → ArePlain (trees_of xs) → ArePlain (trees_of ys) → ArePlain (trees_of (xs ++ ys))
plain-append [] ys before behind = behind
plain-append (x ∷ xs) ys before behind = (before.0, plain-append xs ys before.1 behind)

pub plain-apart : (xs ys : List Tree) → ArePlain (trees_of (xs ++ ys)) → ArePlain (trees_of xs) × ArePlain (trees_of ys)
plain-apart [] ys plain = (tt, plain)
plain-apart (x ∷ xs) ys plain = let rest = plain-apart xs ys plain.1 in ((plain.0, rest.0), rest.1)

plain-once : (body : Tree) (least : ℕ) (greatest : Option ℕ) (once : Bool) → IsPlain (repeat body least greatest) →
    ArePlain (trees_of (items_of body)) → ArePlain (trees_of (if once then items_of body else repeat body least greatest ∷ []))
plain-once body least greatest true whole inside = inside
plain-once body least greatest false whole inside = (whole, tt)

mutual
  pub items-plain : (t : Tree) → IsPlain t → ArePlain (trees_of (items_of t))
  items-plain empty plain = tt
  items-plain (class set) plain = (tt, tt)
  items-plain (points ranges) plain = absurd plain
  items-plain (assert assertion) plain = (tt, tt)
  items-plain (cat items) plain = all_items-plain items plain
  items-plain (alt items) plain = (plain, tt)
  items-plain (repeat body least greatest) plain =
      plain-once body least greatest (is_once least greatest) plain (items-plain body plain.0)

  all_items-plain : (items : Trees) → ArePlain items → ArePlain (trees_of (items_of_all items))
  all_items-plain none plain = tt
  all_items-plain (more item items) plain =
      plain-append (items_of item) (items_of_all items) (items-plain item plain.0) (all_items-plain items plain.1)

piece-plain : (part : Part) → ArePlain (trees_of (items_in part)) → IsPlain (piece_tree (piece_of part))
piece-plain (literal xs) plain = plain
piece-plain (ordinary ts) plain = plain
piece-plain (long set least greatest) plain = plain.0

pub chain-plain : (parts : List Part) → ArePlain (trees_of (items_within parts)) → ArePlain (chain_trees (map piece_of parts))
chain-plain [] plain = tt
chain-plain (part ∷ parts) plain =
    let apart = plain-apart (items_in part) (items_within parts) plain in
    (piece-plain part apart.0, chain-plain parts apart.1)
