-- Spans are as long as the widths say.
use Rattle.std.proofs.Common.{ℕ, zero, suc, ◌+◌, ◌*◌, ◌≤◌, inl, inr, min, Bool, List, [], ◌∷◌, length, fold, Option, Some, None, IfSome, subst, arith}
use Rattle.std.proofs.lemmas.Str.{length-encode, len_utf8_bounds}
use Rattle.std.proofs.Math.Nat.{mul-le-mul_left}
use Rattle.std.specs.Prelude.{encode_utf8}
use Rattle.hs_base.specs.Trees.{Tree, Trees, empty, class, points, assert, cat, alt, repeat, none, more}
use Rattle.hs_base.specs.Spans.{Spans, CatSpans, AltSpans, Copies}
use Rattle.hs_expr.specs.Counts.{least_width, least_widths, greatest_width, greatest_widths, add_bounds, greater_bound, repeated_bound, IsWithinWidths}

-- an encoding has 1 to 4 bytes
pub encoding_bounds : (c : ℕ) → (1 ≤ length (encode_utf8 c)) × (length (encode_utf8 c) ≤ 4)
encoding_bounds c = let e = length-encode c in let b = len_utf8_bounds c in (omega arith, omega arith)

fold-min-le : (n : ℕ) (ns : List ℕ) → fold min n ns ≤ n
fold-min-le n [] = omega arith
fold-min-le n (m ∷ ns) = let rest = fold-min-le (min n m) ns in omega arith

pub copies-least : (R : ℕ → ℕ → Type 0) (width : ℕ) → ((i j : ℕ) → R i j → i + width ≤ j) →
    (n i j : ℕ) → Copies R n i j → i + width * n ≤ j
copies-least R width one zero i j same = omega arith
copies-least R width one (suc n) i j (m, first, others) =
    let a = one i m first in let b = copies-least R width one n m j others in omega arith

mutual
  pub spans-least : (w : List ℕ) (ended : Bool) (t : Tree) (i j : ℕ) → Spans w ended t i j → i + least_width t ≤ j
  spans-least w ended empty i j h = omega arith
  spans-least w ended (class set) i j h = omega arith
  spans-least w ended (points ranges) i j h = let b = encoding_bounds h.code_point in omega (arith, h.end)
  spans-least w ended (assert assertion) i j h = omega (arith, h.0)
  spans-least w ended (cat items) i j h = cat_spans-least w ended items 0 i i j (omega arith) h
  spans-least w ended (alt none) i j h = absurd h
  spans-least w ended (alt (more item items)) i j (inl here) =
      let first = spans-least w ended item i j here in
      let below = fold-min-le (least_width item) (least_widths items) in
      omega arith
  spans-least w ended (alt (more item items)) i j (inr later) = alt_spans-least w ended items (least_width item) i j later
  spans-least w ended (repeat body least greatest) i j (n, above, below, copies) =
      let all = copies-least (Spans w ended body) (least_width body) (spans-least w ended body) n i j copies in
      omega (arith, mul-le-mul_left (least_width body) above)

  -- so far from o to i there were at least so many bytes
  cat_spans-least : (w : List ℕ) (ended : Bool) (items : Trees) (before o i j : ℕ) → o + before ≤ i →
      CatSpans w ended items i j → o + fold ◌+◌ before (least_widths items) ≤ j
  cat_spans-least w ended none before o i j far same = omega arith
  cat_spans-least w ended (more item items) before o i j far (m, first, others) =
      let here = spans-least w ended item i m first in
      cat_spans-least w ended items (before + least_width item) o m j (omega arith) others

  alt_spans-least : (w : List ℕ) (ended : Bool) (items : Trees) (before i j : ℕ) →
      AltSpans w ended items i j → i + fold min before (least_widths items) ≤ j
  alt_spans-least w ended none before i j h = absurd h
  alt_spans-least w ended (more item items) before i j (inl here) =
      let first = spans-least w ended item i j here in
      let below = fold-min-le (min before (least_width item)) (least_widths items) in
      omega arith
  alt_spans-least w ended (more item items) before i j (inr later) =
      alt_spans-least w ended items (min before (least_width item)) i j later

-- no byte lies more than the bound behind the offset
abbrev EndsWithin : Option ℕ → ℕ → ℕ → Type 0
EndsWithin bound i j = IfSome bound (λ n. j ≤ i + n)

add_bounds-within : (a b : Option ℕ) (i m j : ℕ) → EndsWithin a i m → EndsWithin b m j → EndsWithin (add_bounds a b) i j
add_bounds-within None b i m j near here = tt
add_bounds-within (Some a) None i m j near here = tt
add_bounds-within (Some a) (Some b) i m j near here = omega arith

greater-left : (a b : Option ℕ) (i j : ℕ) → EndsWithin a i j → EndsWithin (greater_bound a b) i j
greater-left None b i j h = tt
greater-left (Some a) None i j h = tt
greater-left (Some a) (Some b) i j h = omega arith

greater-right : (a b : Option ℕ) (i j : ℕ) → EndsWithin b i j → EndsWithin (greater_bound a b) i j
greater-right None b i j h = tt
greater-right (Some a) None i j h = tt
greater-right (Some a) (Some b) i j h = omega arith

fold-greater : (bounds : List (Option ℕ)) (before : Option ℕ) (i j : ℕ) → EndsWithin before i j →
    EndsWithin (fold greater_bound before bounds) i j
fold-greater [] before i j h = h
fold-greater (b ∷ bounds) before i j h = fold-greater bounds (greater_bound before b) i j (greater-left before b i j h)

copies-within : (R : ℕ → ℕ → Type 0) (width : ℕ) → ((i j : ℕ) → R i j → j ≤ i + width) →
    (n i j : ℕ) → Copies R n i j → j ≤ i + width * n
copies-within R width one zero i j same = omega arith
copies-within R width one (suc n) i j (m, first, others) =
    let a = one i m first in let b = copies-within R width one n m j others in omega arith

copies-none : (R : ℕ → ℕ → Type 0) (n i j : ℕ) → n ≤ 0 → Copies R n i j → j ≤ i
copies-none R zero i j few same = omega arith
copies-none R (suc n) i j few copies = absurd (omega arith)

-- copies of a body with that bound, of which there are n
repeated-within : (R : ℕ → ℕ → Type 0) (width greatest : Option ℕ) (n i j : ℕ) →
    ((i j : ℕ) → R i j → EndsWithin width i j) → IfSome greatest (λ m. n ≤ m) → Copies R n i j →
    EndsWithin (repeated_bound width greatest) i j
repeated-within R (Some width) (Some greatest) n i j one few copies =
    let all = copies-within R width one n i j copies in
    omega (arith, mul-le-mul_left width few)
repeated-within R (Some zero) None n i j one few copies =
    let all = copies-within R zero one n i j copies in omega arith
repeated-within R (Some (suc width)) None n i j one few copies = tt
repeated-within R None (Some zero) n i j one few copies = let all = copies-none R n i j few copies in omega arith
repeated-within R None (Some (suc greatest)) n i j one few copies = tt
repeated-within R None None n i j one few copies = tt

mutual
  pub spans-greatest : (w : List ℕ) (ended : Bool) (t : Tree) (i j : ℕ) → Spans w ended t i j → EndsWithin (greatest_width t) i j
  spans-greatest w ended empty i j h = omega arith
  spans-greatest w ended (class set) i j h = omega arith
  spans-greatest w ended (points ranges) i j h = let b = encoding_bounds h.code_point in omega (arith, h.end)
  spans-greatest w ended (assert assertion) i j h = omega (arith, h.0)
  spans-greatest w ended (cat items) i j h = cat_spans-greatest w ended items (Some 0) i i j (omega arith) h
  spans-greatest w ended (alt items) i j h = alt_spans-greatest w ended items (Some 0) i j h
  spans-greatest w ended (repeat body least greatest) i j (n, above, below, copies) =
      repeated-within (Spans w ended body) (greatest_width body) greatest n i j (spans-greatest w ended body) below copies

  -- so far from o to i there were at most so many bytes
  cat_spans-greatest : (w : List ℕ) (ended : Bool) (items : Trees) (before : Option ℕ) (o i j : ℕ) → EndsWithin before o i →
      CatSpans w ended items i j → EndsWithin (fold add_bounds before (greatest_widths items)) o j
  cat_spans-greatest w ended none before o i j near same = subst (λ k. EndsWithin before o k) same near
  cat_spans-greatest w ended (more item items) before o i j near (m, first, others) =
      let here = spans-greatest w ended item i m first in
      cat_spans-greatest w ended items (add_bounds before (greatest_width item)) o m j
      (add_bounds-within before (greatest_width item) o i m near here) others

  alt_spans-greatest : (w : List ℕ) (ended : Bool) (items : Trees) (before : Option ℕ) (i j : ℕ) →
      AltSpans w ended items i j → EndsWithin (fold greater_bound before (greatest_widths items)) i j
  alt_spans-greatest w ended none before i j h = absurd h
  alt_spans-greatest w ended (more item items) before i j (inl here) =
      fold-greater (greatest_widths items) (greater_bound before (greatest_width item)) i j
      (greater-right before (greatest_width item) i j (spans-greatest w ended item i j here))
  alt_spans-greatest w ended (more item items) before i j (inr later) =
      alt_spans-greatest w ended items (greater_bound before (greatest_width item)) i j later

-- every span is as long as the widths say
pub within_widths : (t : Tree) → IsWithinWidths t
within_widths t = record {
  least = λ w ended i j h. spans-least w ended t i j h;
  greatest = λ w ended i j h. spans-greatest w ended t i j h;
}
