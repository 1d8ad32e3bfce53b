-- Literals in a stream: their spans, where they are left, and their bits over a byte.
use Rattle.std.proofs.Common.{◌≡◌, ℕ, zero, suc, ◌+◌, ◌-◌, ◌<◌, ◌≤◌, ◌↔◌, Bool, true, false, nat_lt, List, [], ◌∷◌, ◌++◌, length, map, take, drop, Some, None, slice_get, refl, sym, ap, subst, ◌∙◌, arith, length-append, append_assoc, drop-cons, zero-add}
use Rattle.std.specs.List.{range_with_len}
use Rattle.std.specs.Option.{option_map}
use Rattle.std.proofs.lemmas.Bool.Decides.{nat_tests}
use Rattle.std.proofs.lemmas.Option.{slice_get_within, slice_get-get_or, slice_get-map, slice_get_past, get_or_from_slice_get}
use Rattle.std.proofs.lemmas.List.FromFn.{length-range_with_len, get_or-range_with_len}
use Rattle.std.proofs.lemmas.List.{take-append-drop, length-take-le, get_or_append_left}
use Rattle.std.proofs.Math.Seq.{get_or-append_seam}
use Rattle.hs_base.specs.declared.context.Next.{Next}
use Rattle.hs_base.specs.Lists.{Each}
use Rattle.hs_base.specs.ByteSets.{bytes_where}
use Rattle.hs_base.specs.Literals.{LiteralByte, takes, literal_set}
use Rattle.hs_base.specs.LiteralEnds as taking
use Rattle.hs_base.specs.LiteralEnds.{IsTaken, EndsAt}
use Rattle.hs_base.specs.Trees as tree
use Rattle.hs_base.specs.Trees.{Tree, Trees, trees_of}
use Rattle.hs_base.specs.AssertionFree.{EachAssertionOf}
use Rattle.hs_base.specs.Contexts.{class_of, then_bytes, then_ended}
use Rattle.hs_base.specs.Spans.{Spans, CatSpans}
use Rattle.hs_base.specs.Chains.{Piece, lit, piece_tree}
use Rattle.hs_base.specs.Fields.{Leaves}
use Rattle.hs_base.specs.Leaving.{LeavesAt, LeavesBehind}
use Rattle.hs_base.specs.LiteralRows.{IsEnteredBack, TellsEntries, shifted, IsEnteredBefore}
use Rattle.hs_base.proofs.ContextLemmas.{first_of_both, second_of_both, of_both}
use Rattle.hs_base.proofs.SpanLemmas.{spans-free, spans-longer}
use Rattle.hs_base.proofs.StreamContexts.{slice_get-seam, then-begins}

-- the expression of a literal
abbrev lit_trees : List LiteralByte → Trees
lit_trees xs = trees_of (map (λ x. tree.class (literal_set x)) xs)

-- it has a span over as many bytes as it has
lit-width : (w : List ℕ) (ended : Bool) (xs : List LiteralByte) (i j : ℕ) → CatSpans w ended (lit_trees xs) i j → i + length xs ≡ j
lit-width w ended [] i j span = omega (arith, span)
lit-width w ended (x ∷ xs) i j (m, one, rest) =
    let e : m ≡ i + 1 = one.1 in
    let e' : m + length xs ≡ j = lit-width w ended xs m j rest in
    omega arith

lit-free : (xs : List LiteralByte) → EachAssertionOf (λ a. ⊥) (lit_trees xs)
lit-free [] = tt
lit-free (x ∷ xs) = (tt, lit-free xs)

-- whatever comes next
lit-spans : (xs : List LiteralByte) (u : List ℕ) (next : Next) (i : ℕ) →
    Spans (then_bytes u next) (then_ended next) (piece_tree (lit xs)) i (length u) → Spans u false (piece_tree (lit xs)) i (length u)
lit-spans xs u next i span =
    let (v, same) = then-begins u next in
    spans-free u v (then_ended next) false (piece_tree (lit xs)) (lit-free xs) i (length u) (omega arith)
    (subst (λ s. Spans s (then_ended next) (piece_tree (lit xs)) i (length u)) same span)

spans-lit : (xs : List LiteralByte) (u : List ℕ) (next : Next) (i : ℕ) →
    Spans u false (piece_tree (lit xs)) i (length u) → Spans (then_bytes u next) (then_ended next) (piece_tree (lit xs)) i (length u)
spans-lit xs u next i span =
    let (v, same) = then-begins u next in
    subst (λ s. Spans s (then_ended next) (piece_tree (lit xs)) i (length u)) (sym same)
    (spans-longer u v (then_ended next) (piece_tree (lit xs)) i (length u) span)

-- Where a literal is left.

pub literals-leave : (xs : List LiteralByte) (m : ℕ) (bit : ℕ → Bool) (u : List ℕ) (entered : List Bool) (next : Next) →
    length xs ≡ suc m → length entered ≡ length u → TellsEntries (suc m) bit u entered →
    Leaves (piece_tree (lit xs)) u entered next ↔ ((bit m ≡ true) × Spans u false (piece_tree (lit xs)) (length u - suc m) (length u))
literals-leave xs m bit u entered next size count tells = (
  λ leaves.
      let wide : leaves.from + length xs ≡ length u = lit-width (then_bytes u next) (then_ended next) xs leaves.from (length u) leaves.spans in
      let place : leaves.from ≡ length u - suc m = omega arith in (
        (tells m).1 (record { below = omega arith; from = leaves.from; ends = omega arith; is_entered = leaves.is_entered }),
        subst (λ i. Spans u false (piece_tree (lit xs)) i (length u)) place (lit-spans xs u next leaves.from leaves.spans),
      ),
  λ (is, span).
      let back : IsEnteredBack (suc m) u entered m = (tells m).0 is in
      let ends : back.from + suc m ≡ length u = back.ends in
      let place : length u - suc m ≡ back.from = omega arith in
      record {
        from = back.from;
        is_entered = back.is_entered;
        before = omega arith;
        spans = spans-lit xs u next back.from (subst (λ i. Spans u false (piece_tree (lit xs)) i (length u)) place span);
      },
)

pub literals-leave_behind : (pieces : List Piece) (xs : List LiteralByte) (u : List ℕ) (next : Next) → 1 ≤ length xs → length xs ≤ length u →
    LeavesBehind pieces (lit xs) u next ↔ (IsEnteredBefore pieces (length xs) u × Spans u false (piece_tree (lit xs)) (length u - length xs) (length u))
literals-leave_behind pieces xs u next some within = (
  λ behind.
      let wide : behind.from + length xs ≡ length u = lit-width (then_bytes u next) (then_ended next) xs behind.from (length u) behind.spans in
      let place : behind.from ≡ length u - length xs = omega arith in (
        record {
          byte = behind.byte;
          there = subst (λ i. slice_get u i ≡ Some behind.byte) place behind.there;
          entered = subst (λ i. LeavesAt pieces (take i u) (class_of behind.byte)) place behind.entered;
        },
        subst (λ i. Spans u false (piece_tree (lit xs)) i (length u)) place (lit-spans xs u next behind.from behind.spans),
      ),
  λ (before, span). record {
    from = length u - length xs;
    byte = before.byte;
    there = before.there;
    entered = before.entered;
    spans = spans-lit xs u next (length u - length xs) span;
  },
)

-- The bits over a byte.

flag-append : (xs ys : List Bool) (i : ℕ) → i < length xs → slice_get (xs ++ ys) i ≡ slice_get xs i
flag-append xs ys i below =
    slice_get-get_or (xs ++ ys) i false (omega (arith, length-append xs ys))
    ∙ (ap (λ b. Some b) (get_or_append_left xs ys false i below) ∙ sym (slice_get-get_or xs i false below))

flag-seam : (xs : List Bool) (x : Bool) → slice_get (xs ++ x ∷ []) (length xs) ≡ Some x
flag-seam xs x =
    slice_get-get_or (xs ++ x ∷ []) (length xs) false (omega (arith, length-append xs (x ∷ [])))
    ∙ ap (λ b. Some b) (get_or-append_seam xs x [] false)

some-same : (x y : Bool) → ◌≡◌ (Some x) (Some y) → x ≡ y
some-same x y same = cc

less : (k n : ℕ) → nat_lt k n ≡ true → k < n
less k n is = grind (arith, nat_tests)

less_is : (k n : ℕ) → k < n → nat_lt k n ≡ true
less_is k n below = grind (arith, nat_tests)

pub literals-step : (n : ℕ) (bit : ℕ → Bool) (u : List ℕ) (entered : List Bool) (b : ℕ) (enters : Bool) → length entered ≡ length u →
    TellsEntries n bit u entered → TellsEntries n (shifted n enters bit) (u ++ b ∷ []) (entered ++ enters ∷ [])
literals-step n bit u entered b enters count tells zero = (
  λ is. record {
    below = less 0 n (first_of_both (nat_lt 0 n) enters is);
    from = length entered;
    ends = omega (arith, length-append u (b ∷ []), count);
    is_entered = flag-seam entered enters ∙ ap (λ x. Some x) (second_of_both (nat_lt 0 n) enters is);
  },
  λ back.
      let ends : back.from + 1 ≡ length (u ++ b ∷ []) = back.ends in
      let here : back.from ≡ length entered = omega (arith, length-append u (b ∷ []), count) in
      let now : slice_get (entered ++ enters ∷ []) (length entered) ≡ Some true =
      subst (λ i. slice_get (entered ++ enters ∷ []) i ≡ Some true) here back.is_entered in
      of_both (nat_lt 0 n) enters (less_is 0 n back.below) (some-same enters true (sym (flag-seam entered enters) ∙ now)),
)
literals-step n bit u entered b enters count tells (suc k) = (
  λ is.
      let back : IsEnteredBack n u entered k = (tells k).0 (second_of_both (nat_lt (suc k) n) (bit k) is) in
      let ends : back.from + suc k ≡ length u = back.ends in
      record {
        below = less (suc k) n (first_of_both (nat_lt (suc k) n) (bit k) is);
        from = back.from;
        ends = omega (arith, length-append u (b ∷ []));
        is_entered = flag-append entered (enters ∷ []) back.from (omega (arith, count)) ∙ back.is_entered;
      },
  λ back.
      let below : suc k < n = back.below in
      let ends : back.from + suc (suc k) ≡ length (u ++ b ∷ []) = back.ends in
      let within : back.from < length entered = omega (arith, length-append u (b ∷ []), count) in
      of_both (nat_lt (suc k) n) (bit k) (less_is (suc k) n back.below)
      ((tells k).1 (record {
        below = omega arith;
        from = back.from;
        ends = omega (arith, length-append u (b ∷ []));
        is_entered = sym (flag-append entered (enters ∷ []) back.from within) ∙ back.is_entered;
      })),
)

-- The bytes that a literal takes.

where-at : (f : ℕ → Bool) (b : ℕ) → b < 256 → slice_get (bytes_where f) b ≡ Some (f b)
where-at f b below =
    let bytes : List ℕ = range_with_len 0 256 in
    let within : b < length bytes = omega (arith, length-range_with_len 0 256) in
    slice_get-map f bytes b
    ∙ ap (option_map f) (slice_get-get_or bytes b 0 within ∙ ap (λ x. Some x) (get_or-range_with_len 0 256 b 0 below ∙ zero-add b))

where-size : (f : ℕ → Bool) (xs : List ℕ) → length (map f xs) ≡ length xs
where-size f [] = refl
where-size f (x ∷ xs) = ap (λ n. suc n) (where-size f xs)

where-test : (f : ℕ → Bool) (b : ℕ) → slice_get (bytes_where f) b ≡ Some true → f b ≡ true
where-test f b is =
    let within : b < length (bytes_where f) = slice_get_within (bytes_where f) b true is in
    let below : b < 256 = omega (arith, where-size f (range_with_len 0 256), length-range_with_len 0 256) in
    some-same (f b) true (sym (where-at f b below) ∙ is)

taken-length : (xs : List LiteralByte) (bytes : List ℕ) → IsTaken xs bytes → length bytes ≡ length xs
taken-length [] [] taking.none = refl
taken-length [] (b ∷ bytes) is = elim is [ ]
taken-length (x ∷ xs) [] is = elim is [ ]
taken-length (x ∷ xs) (b ∷ bytes) (taking.next is rest) = ap (λ n. suc n) (taken-length xs bytes rest)

drop-at : (w : List ℕ) (i b : ℕ) → slice_get w i ≡ Some b → drop i w ≡ b ∷ drop (suc i) w
drop-at w i b there =
    let within : i < length w = slice_get_within w i b there in
    drop-cons w i 0 within ∙ ap (λ x. x ∷ drop (suc i) w) (get_or_from_slice_get w i b 0 there)

cat-taken : (w : List ℕ) (ended : Bool) (xs : List LiteralByte) (i j : ℕ) → CatSpans w ended (lit_trees xs) i j →
    (taken : List ℕ) × IsTaken xs taken × (drop i w ≡ taken ++ drop j w)
cat-taken w ended [] i j span = ([], taking.none, ap (λ n. drop n w) span)
cat-taken w ended (x ∷ xs) i j (m, ((b, there, member), end), rest) =
    let (taken, is, same) = cat-taken w ended xs m j rest in
    let place : m ≡ suc i = omega arith in (
      b ∷ taken,
      taking.next (where-test (takes x) b member) is,
      drop-at w i b there ∙ ap (λ ys. b ∷ ys) (sym (ap (λ n. drop n w) place) ∙ same),
    )

each-get : (w : List ℕ) (i b : ℕ) → Each (λ x. x < 256) w → slice_get w i ≡ Some b → b < 256
each-get [] i b each there = absurd (let e : None ≡ Some b = sym (slice_get_past [] i (omega arith)) ∙ there in cc)
each-get (x ∷ w) zero b each there = let e : x ≡ b = cc in subst (λ n. n < 256) e each.0
each-get (x ∷ w) (suc i) b each there = each-get w i b each.1 there

taken-cat : (w : List ℕ) (ended : Bool) → Each (λ x. x < 256) w → (xs : List LiteralByte) (before taken behind : List ℕ) → IsTaken xs taken →
    w ≡ before ++ (taken ++ behind) → CatSpans w ended (lit_trees xs) (length before) (length before + length xs)
taken-cat w ended each [] before [] behind taking.none split = omega arith
taken-cat w ended each [] before (b ∷ taken) behind is split = elim is [ ]
taken-cat w ended each (x ∷ xs) before [] behind is split = elim is [ ]
taken-cat w ended each (x ∷ xs) before (b ∷ taken) behind (taking.next is rest) split =
    let there : slice_get w (length before) ≡ Some b =
    ap (λ s. slice_get s (length before)) split ∙ slice_get-seam before b (taken ++ behind) in
    let low : b < 256 = each-get w (length before) b each there in
    let longer : length (before ++ b ∷ []) ≡ length before + 1 = length-append before (b ∷ []) in
    let end : length (before ++ b ∷ []) + length xs ≡ length before + suc (length xs) = omega arith in (
      length (before ++ b ∷ []),
      ((b, there, where-at (takes x) b low ∙ ap (λ y. Some y) is), longer),
      subst (CatSpans w ended (lit_trees xs) (length (before ++ b ∷ []))) end
          (taken-cat w ended each xs (before ++ b ∷ []) taken behind rest (split ∙ sym (append_assoc before (b ∷ []) (taken ++ behind)))),
    )

first-within : (w : List ℕ) (ended : Bool) (xs : List LiteralByte) (i j : ℕ) → 1 ≤ length xs → CatSpans w ended (lit_trees xs) i j → i < length w
first-within w ended [] i j some span = absurd (omega arith)
first-within w ended (x ∷ xs) i j some (m, ((b, there, member), end), rest) = slice_get_within w i b there

pub literal-spans_end : (xs : List LiteralByte) (w : List ℕ) (ended : Bool) (i : ℕ) → 1 ≤ length xs → Each (λ b. b < 256) w →
    Spans w ended (piece_tree (lit xs)) i (i + length xs) ↔ EndsAt xs w (i + length xs)
literal-spans_end xs w ended i some each = (
  λ span.
      let (taken, is, same) = cat-taken w ended xs i (i + length xs) span in
      let within : i < length w = first-within w ended xs i (i + length xs) some span in
      record {
        before = take i w;
        taken = taken;
        behind = drop (i + length xs) w;
        split = sym (take-append-drop i w) ∙ ap (λ s. take i w ++ s) same;
        is = is;
        at = omega (arith, length-take-le i w (omega arith), taken-length xs taken is);
      },
  λ ends.
      let at : i + length xs ≡ length ends.before + length ends.taken = ends.at in
      let size : length ends.taken ≡ length xs = taken-length xs ends.taken ends.is in
      let place : length ends.before ≡ i = omega arith in
      subst (λ n. CatSpans w ended (lit_trees xs) n (n + length xs)) place
      (taken-cat w ended each xs ends.before ends.taken ends.behind ends.is ends.split),
)
