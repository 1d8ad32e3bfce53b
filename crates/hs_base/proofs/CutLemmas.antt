-- Spans cut at their end: they are those of the bytes before the end, where that comes next which comes next there.
use Rattle.std.proofs.Common.{◌≡◌, ℕ, ◌+◌, ◌<◌, ◌≤◌, Bool, true, false, ◌&&◌, List, ◌++◌, length, take, drop, Some, slice_get, eqb, refl, sym, ap, subst, ◌∙◌, inl, inr, arith, length-append}
use Rattle.std.specs.Prelude.{slice_index}
use Rattle.std.proofs.lemmas.Bool.{eqb-true, eq-eqb, cases_lt}
use Rattle.std.proofs.lemmas.Option.{slice_get-get_or}
use Rattle.std.proofs.lemmas.List.{take-append-drop, length-take-le}
use Rattle.hs_base.specs.declared.assertion.Assertion.TheVariants.{StreamEnd}
use Rattle.hs_base.specs.declared.context.Next.{Next}
use Rattle.hs_base.specs.Assertions.{line_feed, is_word_byte, IsEnd}
use Rattle.hs_base.specs.Trees.{Tree}
use Rattle.hs_base.specs.Contexts.{next_by, is_end, prev_at, next_at, context_at, allows, then_bytes, then_ended}
use Rattle.hs_base.specs.Spans.{Spans}
use Rattle.hs_base.proofs.ContextLemmas.{first_of_both, second_of_both, of_both, holds-allows, allows-holds}
use Rattle.hs_base.proofs.SpanLemmas.{byte-append, texts-longer, texts-shorter, span-carry, each-unit}
use Rattle.hs_base.proofs.StreamContexts.{same-context, prev-append, next-byte_at, context-then, then-begins}

same-truth : (a b : Bool) → (a ≡ true → b ≡ true) → (b ≡ true → a ≡ true) → a ≡ b
same-truth true b to from = sym (to refl)
same-truth false true to from = from refl
same-truth false false to from = refl

-- two streams that begin with u, behind which the same comes next
module _ (u v v' : List ℕ) (ended ended' : Bool) (alike : next_at (u ++ v) ended (length u) ≡ next_at (u ++ v') ended' (length u)) where
  -- if the one ends there, so does the other
  end-alike : IsEnd (u ++ v) ended (length u) → IsEnd (u ++ v') ended' (length u)
  end-alike end =
      allows-holds (u ++ v') ended' (length u) StreamEnd
      (sym (ap is_end alike) ∙ holds-allows (u ++ v) ended (length u) StreamEnd end)

  -- a byte of u that is the last of the one stream, which has ended, is the last of the other
  last-alike : (i : ℕ) → i < length u → (ended && eqb (i + 1) (length (u ++ v))) ≡ true → (ended' && eqb (i + 1) (length (u ++ v'))) ≡ true
  last-alike i below last =
      let here : i + 1 ≡ length (u ++ v) = eqb-true (i + 1) (length (u ++ v)) (second_of_both ended (eqb (i + 1) (length (u ++ v))) last) in
      let end : IsEnd (u ++ v) ended (length u) =
      (first_of_both ended (eqb (i + 1) (length (u ++ v))) last, omega (arith, length-append u v)) in
      let end' : IsEnd (u ++ v') ended' (length u) = end-alike end in
      of_both ended' (eqb (i + 1) (length (u ++ v'))) end'.0 (eq-eqb (i + 1) (length (u ++ v')) (omega (arith, end'.1, length-append u v)))

-- they have the same contexts up to there
context-alike : (u v v' : List ℕ) (ended ended' : Bool) → next_at (u ++ v) ended (length u) ≡ next_at (u ++ v') ended' (length u) → (i : ℕ) → i ≤ length u → context_at (u ++ v) ended i ≡ context_at (u ++ v') ended' i
context-alike u v v' ended ended' alike i within = elim (cases_lt i (length u)) [
  | inl below ↦
      let b : ℕ = slice_index u i in
      let byte : slice_get u i ≡ Some b = slice_get-get_or u i 0 below in
      let last : (ended && eqb (i + 1) (length (u ++ v))) ≡ (ended' && eqb (i + 1) (length (u ++ v'))) =
      same-truth (ended && eqb (i + 1) (length (u ++ v))) (ended' && eqb (i + 1) (length (u ++ v')))
      (last-alike u v v' ended ended' alike i below) (last-alike u v' v ended' ended (sym alike) i below) in
      same-context (prev_at (u ++ v) i) (prev_at (u ++ v') i) (next_at (u ++ v) ended i) (next_at (u ++ v') ended' i)
      (prev-append u v i within ∙ sym (prev-append u v' i within))
      (next-byte_at (u ++ v) ended i b (byte-append u v i below ∙ byte)
      ∙ (ap (next_by (eqb b line_feed) (is_word_byte b)) last
      ∙ sym (next-byte_at (u ++ v') ended' i b (byte-append u v' i below ∙ byte))))
  | inr above ↦
      let here : i ≡ length u = omega arith in
      same-context (prev_at (u ++ v) i) (prev_at (u ++ v') i) (next_at (u ++ v) ended i) (next_at (u ++ v') ended' i)
      (prev-append u v i within ∙ sym (prev-append u v' i within))
      (ap (next_at (u ++ v) ended) here ∙ (alike ∙ ap (next_at (u ++ v') ended') (sym here)))
]

-- and the same spans that end there
pub spans-alike : (u v v' : List ℕ) (ended ended' : Bool) → next_at (u ++ v) ended (length u) ≡ next_at (u ++ v') ended' (length u) → (tree : Tree) (i : ℕ) → Spans (u ++ v) ended tree i (length u) → Spans (u ++ v') ended' tree i (length u)
spans-alike u v v' ended ended' alike tree i span =
    span-carry (λ a. Unit {0}) (u ++ v) ended (u ++ v') ended' (length u)
    (record {
      bytes = λ k b below byte. byte-append u v' k below ∙ (sym (byte-append u v k below) ∙ byte);
      texts = λ k text within has. texts-longer u v' k text (texts-shorter u v k text within has);
      holds = λ a k _ within holds.
          allows-holds (u ++ v') ended' k a
          (sym (ap (allows a) (context-alike u v v' ended ended' alike k within)) ∙ holds-allows (u ++ v) ended k a holds);
    })
    tree (each-unit tree) i (length u) (omega arith) span

-- the stream in which a context follows u has that context there
next_then : (u : List ℕ) (next : Next) → next_at (then_bytes u next) (then_ended next) (length u) ≡ next
next_then u next = ap (λ c. c.next) (context-then u next)

-- A span that ends behind u is one of the stream in which that follows u which does.
pub spans-then : (u v : List ℕ) (ended : Bool) (next : Next) → next_at (u ++ v) ended (length u) ≡ next → (tree : Tree) (i : ℕ) → Spans (u ++ v) ended tree i (length u) → Spans (then_bytes u next) (then_ended next) tree i (length u)
spans-then u v ended next is tree i span =
    let (v', same) = then-begins u next in
    subst (λ s. Spans s (then_ended next) tree i (length u)) (sym same)
    (spans-alike u v v' ended (then_ended next) (is ∙ (sym (next_then u next) ∙ ap (λ s. next_at s (then_ended next) (length u)) same)) tree i span)

-- and it has no other
pub then-spans : (u v : List ℕ) (ended : Bool) (next : Next) → next_at (u ++ v) ended (length u) ≡ next → (tree : Tree) (i : ℕ) → Spans (then_bytes u next) (then_ended next) tree i (length u) → Spans (u ++ v) ended tree i (length u)
then-spans u v ended next is tree i span =
    let (v', same) = then-begins u next in
    spans-alike u v' v (then_ended next) ended (sym (ap (λ s. next_at s (then_ended next) (length u)) same) ∙ (next_then u next ∙ sym is)) tree i
    (subst (λ s. Spans s (then_ended next) tree i (length u)) same span)

-- An end of a stream is one of its bytes before that end, where that comes next which does there.
pub spans-cut : (w : List ℕ) (ended : Bool) (tree : Tree) (i end : ℕ) → end ≤ length w → Spans w ended tree i end →
    Spans (then_bytes (take end w) (next_at w ended end)) (then_ended (next_at w ended end)) tree i end
spans-cut w ended tree i end within span =
    let u : List ℕ = take end w in
    let whole : u ++ drop end w ≡ w = take-append-drop end w in
    let here : length u ≡ end = length-take-le end w within in
    let is : next_at (u ++ drop end w) ended (length u) ≡ next_at w ended end =
    ap (λ s. next_at s ended (length u)) whole ∙ ap (next_at w ended) here in
    let before : Spans (u ++ drop end w) ended tree i (length u) =
    subst (λ s. Spans s ended tree i (length u)) (sym whole) (subst (Spans w ended tree i) (sym here) span) in
    subst (Spans (then_bytes u (next_at w ended end)) (then_ended (next_at w ended end)) tree i) here
    (spans-then u (drop end w) ended (next_at w ended end) is tree i before)

pub cut-spans : (w : List ℕ) (ended : Bool) (tree : Tree) (i end : ℕ) → end ≤ length w →
    Spans (then_bytes (take end w) (next_at w ended end)) (then_ended (next_at w ended end)) tree i end → Spans w ended tree i end
cut-spans w ended tree i end within span =
    let u : List ℕ = take end w in
    let whole : u ++ drop end w ≡ w = take-append-drop end w in
    let here : length u ≡ end = length-take-le end w within in
    let is : next_at (u ++ drop end w) ended (length u) ≡ next_at w ended end =
    ap (λ s. next_at s ended (length u)) whole ∙ ap (next_at w ended) here in
    let cut : Spans (u ++ drop end w) ended tree i (length u) =
    then-spans u (drop end w) ended (next_at w ended end) is tree i
    (subst (Spans (then_bytes u (next_at w ended end)) (then_ended (next_at w ended end)) tree i) (sym here) span) in
    subst (Spans w ended tree i) here (subst (λ s. Spans s ended tree i (length u)) whole cut)
