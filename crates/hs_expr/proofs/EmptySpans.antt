-- The empty span of the stream that has no byte and has ended.
use Rattle.std.proofs.Common.{◌≡◌, ◌≢◌, ℕ, zero, suc, ◌<◌, ◌≤◌, ◌↔◌, Bool, true, false, List, [], Option, IfSome, IsTrue, refl, sym, subst, ◌∙◌, arith}
use Rattle.std.proofs.lemmas.Bool.{false≢true}
use Rattle.hs_base.specs.Trees.{Tree, Trees, points, cat, repeat, more}
use Rattle.hs_base.specs.Spans.{Spans, CatSpans, Copies}
use Rattle.hs_expr.specs.Counts.{least_width}
use Rattle.hs_expr.proofs.WidthLemmas.{encoding_bounds, spans-least, copies-least}

-- spans don't lead back, so that those of an empty span meet where it stands
cat-empty : (item : Tree) (items : Trees) →
    CatSpans [] true (more item items) 0 0 → Spans [] true item 0 0 × CatSpans [] true items 0 0
cat-empty item items (m, first, others) =
    let at_zero : m ≡ 0 = let a = spans-least [] true (cat items) m 0 others in omega arith in (
      subst (λ k. Spans [] true item 0 k) at_zero first,
      subst (λ k. CatSpans [] true items k 0) at_zero others,
    )

-- an empty item may be left out before the others
pub cat-empty_first : (item : Tree) (items : Trees) → Spans [] true item 0 0 →
    CatSpans [] true (more item items) 0 0 ↔ CatSpans [] true items 0 0
cat-empty_first item items here = (λ h. (cat-empty item items h).1, λ h. (0, here, h))

pub cat-not_empty : (item : Tree) (items : Trees) → (Spans [] true item 0 0 → ⊥) →
    CatSpans [] true (more item items) 0 0 → ⊥
cat-not_empty item items never h = never (cat-empty item items h).0

-- no code point is encoded as no byte
pub points-not_empty : (ranges : List (ℕ × ℕ)) → Spans [] true (points ranges) 0 0 → ⊥
points-not_empty ranges h = let b = encoding_bounds h.code_point in omega (arith, h.end)

copies-stay : (R : ℕ → ℕ → Type 0) → R 0 0 → (n : ℕ) → Copies R n 0 0
copies-stay R here zero = refl
copies-stay R here (suc n) = (0, here, copies-stay R here n)

copies-first : (body : Tree) (n : ℕ) → 0 < n → Copies (Spans [] true body) n 0 0 → Spans [] true body 0 0
copies-first body zero some h = absurd (omega arith)
copies-first body (suc n) some (m, first, others) =
    let back = copies-least (Spans [] true body) (least_width body) (spans-least [] true body) n m 0 others in
    let at_zero : m ≡ 0 = omega arith in
    subst (λ k. Spans [] true body 0 k) at_zero first

-- one copy and more match the empty text exactly where the body does
pub repeat-empty : (body : Tree) (least : ℕ) (greatest : Option ℕ) → least ≢ 0 → IfSome greatest (λ bound. least ≤ bound) →
    Spans [] true body 0 0 ↔ Spans [] true (repeat body least greatest) 0 0
repeat-empty body least greatest some ordered = (
  λ here. (least, omega arith, ordered, copies-stay (Spans [] true body) here least),
  λ (n, above, below, copies). copies-first body n (omega arith) copies,
)

-- a Bool that is false is true of what doesn't hold
pub refutes : {P : Type 0} → (b : Bool) → b ≡ false → (P → IsTrue b) → P → ⊥
refutes b is shows p = false≢true (sym is ∙ shows p)
