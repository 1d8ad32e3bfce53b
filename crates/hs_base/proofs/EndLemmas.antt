-- The pairs of a stream about its last byte, by the matches that end there.
use Rattle.std.proofs.Common.{◌≡◌, ℕ, zero, suc, ◌+◌, ◌<◌, ◌≤◌, ◌⊎◌, ◌↔◌, Bool, true, false, List, [], ◌∷◌, ◌++◌, length, take, drop, Some, slice_get, eqb, IsTrue, refl, sym, ap, subst, ◌∙◌, inl, inr, arith, length-append}
use Rattle.std.specs.Prelude.{slice_index}
use Rattle.std.proofs.lemmas.Bool.{ne_eqb, eq-eqb, cases_lt}
use Rattle.std.proofs.lemmas.Option.{slice_get-get_or}
use Rattle.std.proofs.lemmas.List.{append-nil, take-append-drop, length-take-le}
use Rattle.hs_base.specs.declared.context.Next.{Next}
use Rattle.hs_base.specs.declared.context.Next.TheVariants as after
use Rattle.hs_base.specs.Assertions.{line_feed, is_word_byte}
use Rattle.hs_base.specs.Trees.{Tree}
use Rattle.hs_base.specs.Contexts.{next_by, class_of, next_at, then_bytes, then_ended}
use Rattle.hs_base.specs.Spans.{Spans}
use Rattle.hs_base.specs.Patterns.{Pattern, HasEnd, IsPair}
use Rattle.hs_base.specs.Fields.{Leaves, entered_always}
use Rattle.hs_base.specs.Settling.{EndsHere, HasEndHere}
use Rattle.hs_base.proofs.ListLemmas.{one_of-map}
use Rattle.hs_base.proofs.SpanLemmas.{span-order}
use Rattle.hs_base.proofs.StreamContexts.{next-class, next-seam, next-end}
use Rattle.hs_base.proofs.CutLemmas.{spans-alike, spans-then, then-spans}

-- An expression that is entered always: where a span ends, it is left there, or it has an empty span there.

entered-within : (u : List ℕ) (i : ℕ) → i < length u → slice_get (entered_always u) i ≡ Some true
entered-within [] i below = absurd (omega arith)
entered-within (b ∷ u) zero below = refl
entered-within (b ∷ u) (suc i) below = entered-within u i (omega arith)

pub behind-leaves : (tree : Tree) (u : List ℕ) (next : Next) (from : ℕ) → Spans (then_bytes u next) (then_ended next) tree from (length u) →
    Leaves tree u (entered_always u) next ⊎ Spans (then_bytes u next) (then_ended next) tree (length u) (length u)
behind-leaves tree u next from span = elim (cases_lt from (length u)) [
  | inl before ↦ inl (record { from = from; is_entered = entered-within u from before; before = before; spans = span })
  | inr above ↦
      let order : from ≤ length u = span-order (then_bytes u next) (then_ended next) tree from (length u) span in
      let here : from ≡ length u = omega arith in
      inr (subst (λ i. Spans (then_bytes u next) (then_ended next) tree i (length u)) here span)
]

pub leaves-behind : (tree : Tree) (u : List ℕ) (next : Next) → Leaves tree u (entered_always u) next ⊎ Spans (then_bytes u next) (then_ended next) tree (length u) (length u) →
    (from : ℕ) × Spans (then_bytes u next) (then_ended next) tree from (length u)
leaves-behind tree u next (inl leaves) = (leaves.from, leaves.spans)
leaves-behind tree u next (inr here) = (length u, here)

-- A match of a stream that begins with u, and one behind u where that comes next which does.

end-here : (u v : List ℕ) (ended : Bool) (next : Next) → next_at (u ++ v) ended (length u) ≡ next → (id : ℕ) (x : Pattern) → HasEnd (u ++ v) ended id (length u) x → EndsHere id u next x
end-here u v ended next is id x has = record {
  named = has.named;
  above = has.above;
  below = has.below;
  from = has.from;
  spans = spans-then u v ended next is x.tree has.from has.spans;
}

here-end : (u v : List ℕ) (ended : Bool) (next : Next) → next_at (u ++ v) ended (length u) ≡ next → (id : ℕ) (x : Pattern) → EndsHere id u next x → HasEnd (u ++ v) ended id (length u) x
here-end u v ended next is id x here = record {
  named = here.named;
  above = here.above;
  below = here.below;
  from = here.from;
  spans = then-spans u v ended next is x.tree here.from here.spans;
}

pub pair-here : (P : List Pattern) (u v : List ℕ) (ended : Bool) (next : Next) → next_at (u ++ v) ended (length u) ≡ next → (id : ℕ) → IsPair P (u ++ v) ended id (length u) → HasEndHere P id u next
pair-here P u v ended next is id pair =
    one_of-map (HasEnd (u ++ v) ended id (length u)) (EndsHere id u next) P (λ x has. end-here u v ended next is id x has) pair.given

pub here-pair : (P : List Pattern) (u v : List ℕ) (ended : Bool) (next : Next) → next_at (u ++ v) ended (length u) ≡ next → (0 < length (u ++ v)) ⊎ IsTrue ended → (id : ℕ) → HasEndHere P id u next → IsPair P (u ++ v) ended id (length u)
here-pair P u v ended next is begun id here = record {
  within = omega (arith, length-append u v);
  begun = begun;
  given = one_of-map (EndsHere id u next) (HasEnd (u ++ v) ended id (length u)) P (λ x has. here-end u v ended next is id x has) here;
}

-- before the last byte of a stream
pub pair-before : (P : List Pattern) (u : List ℕ) (b : ℕ) (ended : Bool) (id : ℕ) → IsPair P (u ++ b ∷ []) ended id (length u) ↔ HasEndHere P id u (next_by (eqb b line_feed) (is_word_byte b) ended)
pair-before P u b ended id = (
  pair-here P u (b ∷ []) ended (next_by (eqb b line_feed) (is_word_byte b) ended) (next-seam u b ended) id,
  here-pair P u (b ∷ []) ended (next_by (eqb b line_feed) (is_word_byte b) ended) (next-seam u b ended)
      (inl (omega (arith, length-append u (b ∷ [])))) id,
)

-- before the last byte, which more may follow
pub pair-before_byte : (P : List Pattern) (u : List ℕ) (b id : ℕ) → IsPair P (u ++ b ∷ []) false id (length u) ↔ HasEndHere P id u (class_of b)
pair-before_byte P u b id = pair-before P u b false id

-- before the last byte of an ended stream: a line feed tells that it is the last, another byte doesn't
pub pair-before_final_newline : (P : List Pattern) (u : List ℕ) (b id : ℕ) → b ≡ line_feed → IsPair P (u ++ b ∷ []) true id (length u) ↔ HasEndHere P id u after.FinalNewline
pair-before_final_newline P u b id feed =
    let is : next_by (eqb b line_feed) (is_word_byte b) true ≡ after.FinalNewline =
    ap (λ l. next_by l (is_word_byte b) true) (eq-eqb b line_feed feed) in
    subst (λ next. IsPair P (u ++ b ∷ []) true id (length u) ↔ HasEndHere P id u next) is (pair-before P u b true id)

pub pair-before_end : (P : List Pattern) (u : List ℕ) (b id : ℕ) → (b ≡ line_feed → ⊥) → IsPair P (u ++ b ∷ []) true id (length u) → IsPair P (u ++ b ∷ []) false id (length u)
pair-before_end P u b id other pair =
    (pair-before P u b false id).1
    (subst (HasEndHere P id u) (last-byte (eqb b line_feed) (is_word_byte b) (ne_eqb b line_feed other)) ((pair-before P u b true id).0 pair))
  where
    last-byte : (l x : Bool) → l ≡ false → next_by l x true ≡ next_by l x false
    last-byte true x other = absurd (cc)
    last-byte false true other = refl
    last-byte false false other = refl

-- behind the last byte of a stream
pub pair-end : (P : List Pattern) (w : List ℕ) (id : ℕ) → IsPair P w true id (length w) ↔ HasEndHere P id w after.End
pair-end P w id =
    let whole : w ++ [] ≡ w = append-nil w in
    let is : next_at (w ++ []) true (length w) ≡ after.End = ap (λ s. next_at s true (length w)) whole ∙ next-end w true in (
      λ pair. pair-here P w [] true after.End is id (subst (λ s. IsPair P s true id (length w)) (sym whole) pair),
      λ here. subst (λ s. IsPair P s true id (length w)) whole (here-pair P w [] true after.End is (inr refl) id here),
    )

-- behind the last byte, which more may follow
pub pair-behind_byte : (P : List Pattern) (u : List ℕ) (b id : ℕ) → IsPair P (u ++ b ∷ []) false id (length u + 1) ↔ HasEndHere P id (u ++ b ∷ []) after.Unknown
pair-behind_byte P u b id =
    let w : List ℕ = u ++ b ∷ [] in
    let count : length w ≡ length u + 1 = length-append u (b ∷ []) in
    let whole : w ++ [] ≡ w = append-nil w in
    let is : next_at (w ++ []) false (length w) ≡ after.Unknown = ap (λ s. next_at s false (length w)) whole ∙ next-end w false in
    let begun : 0 < length (w ++ []) = omega (arith, count, length-append w []) in (
      λ pair. pair-here P w [] false after.Unknown is id
          (subst (λ s. IsPair P s false id (length w)) (sym whole) (subst (IsPair P w false id) (sym count) pair)),
      λ here. subst (IsPair P w false id) count
          (subst (λ s. IsPair P s false id (length w)) whole (here-pair P w [] false after.Unknown is (inl begun) id here)),
    )

-- further inside, the end tells nothing
pub pair-inside : (P : List Pattern) (w : List ℕ) (id to : ℕ) → to + 1 < length w → IsPair P w true id to → IsPair P w false id to
pair-inside P w id to below pair = record {
  within = pair.within;
  begun = inl (omega arith);
  given =
      one_of-map (HasEnd w true id to) (HasEnd w false id to) P
      (λ x has. record {
        named = has.named;
        above = has.above;
        below = has.below;
        from = has.from;
        spans = inner x.tree has.from has.spans;
      })
      pair.given;
}
  where
    inner : (tree : Tree) (i : ℕ) → Spans w true tree i to → Spans w false tree i to
    inner tree i span =
        let u : List ℕ = take to w in
        let v : List ℕ = drop to w in
        let whole : u ++ v ≡ w = take-append-drop to w in
        let here : length u ≡ to = length-take-le to w (omega arith) in
        let b : ℕ = slice_index w to in
        let byte : slice_get w to ≡ Some b = slice_get-get_or w to 0 (omega arith) in
        let last : eqb (to + 1) (length w) ≡ false = ne_eqb (to + 1) (length w) (λ same. omega arith) in
        let same : next_at w true to ≡ next_at w false to = next-class w true to b byte last ∙ sym (next-class w false to b byte refl) in
        let alike : next_at (u ++ v) true (length u) ≡ next_at (u ++ v) false (length u) =
        subst (λ s. next_at s true (length u) ≡ next_at s false (length u)) (sym whole)
        (subst (λ e. next_at w true e ≡ next_at w false e) (sym here) same) in
        subst (Spans w false tree i) here
        (subst (λ s. Spans s false tree i (length u)) whole
        (spans-alike u v v true false alike tree i
        (subst (λ s. Spans s true tree i (length u)) (sym whole) (subst (Spans w true tree i) (sym here) span))))
