-- Spans carried from one stream to another.
use Rattle.std.proofs.Common.{◌≡◌, ℕ, zero, suc, ◌+◌, ◌<◌, ◌≤◌, Bool, true, false, List, ◌++◌, length, take, drop, Some, slice_get, encode_utf8, IsTrue, refl, sym, ap, ◌∙◌, inl, inr, arith, length-append, length-drop}
use Rattle.std.proofs.lemmas.Option.{slice_get_within, slice_get-get_or}
use Rattle.std.proofs.lemmas.List.{get_or_append_left, take-append-le, drop-append-le}
use Rattle.hs_base.specs.declared.assertion.Assertion.{Assertion}
use Rattle.hs_base.specs.declared.assertion.Assertion.TheVariants.{StreamStart, LineStart, LineEnd, EndOrFinalNewline, StreamEnd, WordBoundary, NotWordBoundary}
use Rattle.hs_base.specs.Trees.{Tree, Trees, empty, class, points, assert, cat, alt, repeat, none, more}
use Rattle.hs_base.specs.Assertions.{Holds, byte_before, is_word, IsEnd}
use Rattle.hs_base.specs.Spans.{HasBytesAt, Copies, Spans, CatSpans, AltSpans}
use Rattle.hs_base.specs.AssertionFree.{EachAssertion, EachAssertionOf}

copies-order : (R : ℕ → ℕ → Type 0) → ((i j : ℕ) → R i j → i ≤ j) → (n i j : ℕ) → Copies R n i j → i ≤ j
copies-order R order zero i j copies = omega arith
copies-order R order (suc n) i j (m, one, rest) =
    let before : i ≤ m = order i m one in
    let after : m ≤ j = copies-order R order n m j rest in
    omega arith

-- a span ends where it begins or behind
mutual
  pub span-order : (w : List ℕ) (ended : Bool) (t : Tree) (i j : ℕ) → Spans w ended t i j → i ≤ j
  span-order w ended empty i j span = omega arith
  span-order w ended (class set) i j span = omega (arith, span.1)
  span-order w ended (points ranges) i j span = omega (arith, span.end)
  span-order w ended (assert assertion) i j span = omega (arith, span.0)
  span-order w ended (cat items) i j span = cat-order w ended items i j span
  span-order w ended (alt items) i j span = alt-order w ended items i j span
  span-order w ended (repeat body least greatest) i j (n, low, high, copies) =
      copies-order (Spans w ended body) (span-order w ended body) n i j copies

  cat-order : (w : List ℕ) (ended : Bool) (ts : Trees) (i j : ℕ) → CatSpans w ended ts i j → i ≤ j
  cat-order w ended none i j span = omega arith
  cat-order w ended (more item items) i j (m, one, rest) =
      let before : i ≤ m = span-order w ended item i m one in
      let after : m ≤ j = cat-order w ended items m j rest in
      omega arith

  alt-order : (w : List ℕ) (ended : Bool) (ts : Trees) (i j : ℕ) → AltSpans w ended ts i j → i ≤ j
  alt-order w ended none i j span = absurd span
  alt-order w ended (more item items) i j (inl here) = span-order w ended item i j here
  alt-order w ended (more item items) i j (inr there) = alt-order w ended items i j there

-- Up to the offset p the second stream has all that the first has: its bytes, and where it holds each assertion that
-- has the property Q.
pub record Allows (Q : Assertion → Type 0) (w : List ℕ) (ended : Bool) (w' : List ℕ) (ended' : Bool) (p : ℕ) : Type 0 where
  pub bytes : (i b : ℕ) → i < p → slice_get w i ≡ Some b → slice_get w' i ≡ Some b
  pub texts : (i : ℕ) (text : List ℕ) → i + length text ≤ p → HasBytesAt w i text → HasBytesAt w' i text
  pub holds : (a : Assertion) (i : ℕ) → Q a → i ≤ p → Holds w ended a i → Holds w' ended' a i

copies-carry : (R S : ℕ → ℕ → Type 0) (p : ℕ) → ((i j : ℕ) → R i j → i ≤ j) → ((i j : ℕ) → j ≤ p → R i j → S i j) → (n i j : ℕ) → j ≤ p → Copies R n i j → Copies S n i j
copies-carry R S p order carry zero i j below copies = copies
copies-carry R S p order carry (suc n) i j below (m, one, rest) =
    let after : m ≤ j = copies-order R order n m j rest in
    (m, carry i m (omega arith) one, copies-carry R S p order carry n m j below rest)

-- then the spans that end there or before are the second's too
mutual
  pub span-carry : (Q : Assertion → Type 0) (w : List ℕ) (ended : Bool) (w' : List ℕ) (ended' : Bool) (p : ℕ) → Allows Q w ended w' ended' p →
      (t : Tree) → EachAssertion Q t → (i j : ℕ) → j ≤ p → Spans w ended t i j → Spans w' ended' t i j
  span-carry Q w ended w' ended' p allows empty each i j below span = span
  span-carry Q w ended w' ended' p allows (class set) each i j below ((b, byte, member), end) =
      let within : i < p = omega arith in
      ((b, allows.bytes i b within byte, member), end)
  span-carry Q w ended w' ended' p allows (points ranges) each i j below span =
      let within : i + length (encode_utf8 span.code_point) ≤ p = omega (arith, span.end) in
      record {
        code_point = span.code_point;
        scalar = span.scalar;
        member = span.member;
        bytes = allows.texts i (encode_utf8 span.code_point) within span.bytes;
        end = span.end;
      }
  span-carry Q w ended w' ended' p allows (assert assertion) each i j below (same, holds) =
      let within : i ≤ p = omega arith in
      (same, allows.holds assertion i each within holds)
  span-carry Q w ended w' ended' p allows (cat items) each i j below span = cat-carry Q w ended w' ended' p allows items each i j below span
  span-carry Q w ended w' ended' p allows (alt items) each i j below span = alt-carry Q w ended w' ended' p allows items each i j below span
  span-carry Q w ended w' ended' p allows (repeat body least greatest) each i j below (n, low, high, copies) =
      (n, low, high, copies-carry (Spans w ended body) (Spans w' ended' body) p (span-order w ended body) (span-carry Q w ended w' ended' p allows body each) n i j below copies)

  cat-carry : (Q : Assertion → Type 0) (w : List ℕ) (ended : Bool) (w' : List ℕ) (ended' : Bool) (p : ℕ) → Allows Q w ended w' ended' p →
      (ts : Trees) → EachAssertionOf Q ts → (i j : ℕ) → j ≤ p → CatSpans w ended ts i j → CatSpans w' ended' ts i j
  cat-carry Q w ended w' ended' p allows none each i j below span = span
  cat-carry Q w ended w' ended' p allows (more item items) each i j below (m, one, rest) =
      let after : m ≤ j = cat-order w ended items m j rest in
      (m, span-carry Q w ended w' ended' p allows item each.0 i m (omega arith) one, cat-carry Q w ended w' ended' p allows items each.1 m j below rest)

  alt-carry : (Q : Assertion → Type 0) (w : List ℕ) (ended : Bool) (w' : List ℕ) (ended' : Bool) (p : ℕ) → Allows Q w ended w' ended' p →
      (ts : Trees) → EachAssertionOf Q ts → (i j : ℕ) → j ≤ p → AltSpans w ended ts i j → AltSpans w' ended' ts i j
  alt-carry Q w ended w' ended' p allows none each i j below span = span
  alt-carry Q w ended w' ended' p allows (more item items) each i j below (inl here) = inl (span-carry Q w ended w' ended' p allows item each.0 i j below here)
  alt-carry Q w ended w' ended' p allows (more item items) each i j below (inr there) = inr (alt-carry Q w ended w' ended' p allows items each.1 i j below there)

-- every assertion will do
mutual
  pub each-unit : (t : Tree) → EachAssertion (λ a. Unit {0}) t
  each-unit empty = tt
  each-unit (class set) = tt
  each-unit (points ranges) = tt
  each-unit (assert assertion) = tt
  each-unit (cat items) = each-unit_of items
  each-unit (alt items) = each-unit_of items
  each-unit (repeat body least greatest) = each-unit body

  each-unit_of : (ts : Trees) → EachAssertionOf (λ a. Unit {0}) ts
  each-unit_of none = tt
  each-unit_of (more item items) = (each-unit item, each-unit_of items)

-- the bytes of a stream and of one that begins with it

pub byte-append : (u v : List ℕ) (i : ℕ) → i < length u → slice_get (u ++ v) i ≡ slice_get u i
byte-append u v i below =
    slice_get-get_or (u ++ v) i 0 (omega (arith, length-append u v))
    ∙ (ap (λ b. Some b) (get_or_append_left u v 0 i below) ∙ sym (slice_get-get_or u i 0 below))

before-append : (u v : List ℕ) (i : ℕ) → i ≤ length u → byte_before (u ++ v) i ≡ byte_before u i
before-append u v zero below = refl
before-append u v (suc i) below = byte-append u v i (omega arith)

text-append : (u v : List ℕ) (i n : ℕ) → i + n ≤ length u → take n (drop i (u ++ v)) ≡ take n (drop i u)
text-append u v i n within =
    ap (take n) (drop-append-le i u v (omega arith)) ∙ take-append-le n (drop i u) v (omega (arith, length-drop i u))

pub bytes-longer : (u v : List ℕ) (i b : ℕ) → slice_get u i ≡ Some b → slice_get (u ++ v) i ≡ Some b
bytes-longer u v i b byte = byte-append u v i (slice_get_within u i b byte) ∙ byte

pub texts-longer : (u v : List ℕ) (i : ℕ) (text : List ℕ) → HasBytesAt u i text → HasBytesAt (u ++ v) i text
texts-longer u v i text has = record {
  within = omega (arith, has.within, length-append u v);
  same = text-append u v i (length text) has.within ∙ has.same;
}

pub texts-shorter : (u v : List ℕ) (i : ℕ) (text : List ℕ) → i + length text ≤ length u → HasBytesAt (u ++ v) i text → HasBytesAt u i text
texts-shorter u v i text within has = record {
  within = within;
  same = sym (text-append u v i (length text) within) ∙ has.same;
}

pub not-ended : IsTrue false → ⊥
not-ended ended = let e : false ≡ true = ended in cc

no-end : (w : List ℕ) (p : ℕ) → IsEnd w false p → ⊥
no-end w p end = not-ended end.0

-- an assertion that holds before the end is known holds whatever follows
pub holds-longer : (u v : List ℕ) (ended : Bool) (a : Assertion) (i : ℕ) → Holds u false a i → Holds (u ++ v) ended a i
holds-longer u v ended StreamStart i holds = holds
holds-longer u v ended LineStart i (inl start) = inl start
holds-longer u v ended LineStart i (inr (before, below)) =
    inr (before-append u v i (omega arith) ∙ before, omega (arith, length-append u v))
holds-longer u v ended LineEnd i (inl byte) = inl (bytes-longer u v i 10 byte)
holds-longer u v ended LineEnd i (inr end) = absurd (no-end u i end)
holds-longer u v ended EndOrFinalNewline i (inl end) = absurd (no-end u i end)
holds-longer u v ended EndOrFinalNewline i (inr final) = absurd (not-ended final.0)
holds-longer u v ended StreamEnd i end = absurd (no-end u i end)
holds-longer u v ended WordBoundary i (inr end, differs) = absurd (no-end u i end)
holds-longer u v ended WordBoundary i (inl below, differs) =
    (inl (omega (arith, length-append u v)), λ same. differs (sym (ap is_word (before-append u v i (omega arith))) ∙ (same ∙ ap is_word (byte-append u v i below))))
holds-longer u v ended NotWordBoundary i (inr end, same) = absurd (no-end u i end)
holds-longer u v ended NotWordBoundary i (inl below, same) =
    (inl (omega (arith, length-append u v)), ap is_word (before-append u v i (omega arith)) ∙ (same ∙ sym (ap is_word (byte-append u v i below))))

-- one that holds before the last byte that is known needs no later byte
pub holds-shorter : (u v : List ℕ) (a : Assertion) (i : ℕ) → i < length u → Holds (u ++ v) false a i → Holds u false a i
holds-shorter u v StreamStart i below holds = holds
holds-shorter u v LineStart i below (inl start) = inl start
holds-shorter u v LineStart i below (inr (before, _)) = inr (sym (before-append u v i (omega arith)) ∙ before, below)
holds-shorter u v LineEnd i below (inl byte) = inl (sym (byte-append u v i below) ∙ byte)
holds-shorter u v LineEnd i below (inr end) = absurd (no-end (u ++ v) i end)
holds-shorter u v EndOrFinalNewline i below (inl end) = absurd (no-end (u ++ v) i end)
holds-shorter u v EndOrFinalNewline i below (inr final) = absurd (not-ended final.0)
holds-shorter u v StreamEnd i below end = absurd (no-end (u ++ v) i end)
holds-shorter u v WordBoundary i below (_, differs) =
    (inl below, λ same. differs (ap is_word (before-append u v i (omega arith)) ∙ (same ∙ sym (ap is_word (byte-append u v i below)))))
holds-shorter u v NotWordBoundary i below (_, same) =
    (inl below, sym (ap is_word (before-append u v i (omega arith))) ∙ (same ∙ ap is_word (byte-append u v i below)))

-- a span of a stream that may go on is one however it goes on
pub spans-longer : (u v : List ℕ) (ended : Bool) (t : Tree) (i j : ℕ) → Spans u false t i j → Spans (u ++ v) ended t i j
spans-longer u v ended t i j span =
    span-carry (λ a. Unit {0}) u false (u ++ v) ended j
    (record {
      bytes = λ k b _ byte. bytes-longer u v k b byte;
      texts = λ k text _ has. texts-longer u v k text has;
      holds = λ a k _ _ holds. holds-longer u v ended a k holds;
    })
    t (each-unit t) i j (omega arith) span

-- a span that ends before the last byte that is known needs no later byte
pub spans-shorter : (u v : List ℕ) (t : Tree) (i j : ℕ) → j < length u → Spans (u ++ v) false t i j → Spans u false t i j
spans-shorter u v t i j below span =
    span-carry (λ a. Unit {0}) (u ++ v) false u false j
    (record {
      bytes = λ k b before byte. sym (byte-append u v k (omega arith)) ∙ byte;
      texts = λ k text within has. texts-shorter u v k text (omega arith) has;
      holds = λ a k _ before holds. holds-shorter u v a k (omega arith) holds;
    })
    t (each-unit t) i j (omega arith) span

-- the spans of an expression without assertions that end within u are the same whatever follows, and at its end
pub spans-free : (u v : List ℕ) (ended ended' : Bool) (t : Tree) → EachAssertion (λ a. ⊥) t → (i j : ℕ) → j ≤ length u → Spans (u ++ v) ended t i j → Spans u ended' t i j
spans-free u v ended ended' t free i j below span =
    span-carry (λ a. ⊥) (u ++ v) ended u ended' j
    (record {
      bytes = λ k b before byte. sym (byte-append u v k (omega arith)) ∙ byte;
      texts = λ k text within has. texts-shorter u v k text (omega arith) has;
      holds = λ a k none before holds. absurd none;
    })
    t free i j (omega arith) span
