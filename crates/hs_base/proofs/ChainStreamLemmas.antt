-- Chains in a stream: a span of pieces behind others is cut where the last one begins, and the pieces before it are left
-- there as in the bytes up to there.
use Rattle.std.proofs.Common.{◌≡◌, ℕ, zero, suc, ◌<◌, ◌≤◌, ◌⊎◌, ◌↔◌, Bool, true, false, ◌||◌, ◌&&◌, List, [], ◌∷◌, ◌++◌, length, take, drop, Some, None, slice_get, refl, sym, ap, subst, ◌∙◌, inl, inr, arith}
use Rattle.std.specs.Prelude.{slice_index}
use Rattle.std.proofs.lemmas.Bool.{cases_lt}
use Rattle.std.proofs.lemmas.Option.{slice_get_within, slice_get-get_or}
use Rattle.std.proofs.lemmas.List.{take-append-drop, length-take-le}
use Rattle.hs_base.specs.declared.assertion.Assertion.{Assertion}
use Rattle.hs_base.specs.declared.context.Next.{Next}
use Rattle.hs_base.specs.Lists.{Each}
use Rattle.hs_base.specs.Trees as tree
use Rattle.hs_base.specs.Trees.{Tree, Trees, trees_of}
use Rattle.hs_base.specs.Spans.{IsByteOf, Copies, Spans, CatSpans, AltSpans}
use Rattle.hs_base.specs.Contexts.{Context, class_of, prev_at, next_at, context_at, allows, then_bytes, then_ended}
use Rattle.hs_base.specs.EndAssertions.{is_end_assertion, may_consume, one_may_consume, has_embedded_end, sequence_has_embedded_end}
use Rattle.hs_base.specs.WrittenOut.{Core, fail, empty, class, assert, cat, alt, plus, write_out, IsPlain, ArePlain, Rounds, no_round, round, CoreSpans, StreamSpans}
use Rattle.hs_base.specs.Chains.{Piece, piece_tree, chain_trees, IsFitChain}
use Rattle.hs_base.specs.Leaving.{LeavesAt, LeavesBehind, IsEmptyAt, TellsLeaving}
use Rattle.hs_base.proofs.ContextLemmas.{first_of_both, second_of_both, of_both, of_either, left_of_either, right_of_either}
use Rattle.hs_base.proofs.SpanLemmas.{byte-append, span-order}
use Rattle.hs_base.proofs.StreamContexts.{same-context, prev-append, next-class, context-then, context-append, allows-append, then-begins}
use Rattle.hs_base.proofs.WrittenOutLemmas.{spans-written, written-spans}
use Rattle.hs_base.proofs.EndAssertionLemmas.{IsClean, neither, ends-last}

-- What can't consume has empty spans alone.

copies-still : (R : ℕ → ℕ → Type 0) → ((i j : ℕ) → R i j → i ≡ j) → (n i j : ℕ) → Copies R n i j → i ≡ j
copies-still R still zero i j copies = copies
copies-still R still (suc n) i j (m, one, rest) = still i m one ∙ copies-still R still n m j rest

mutual
  pub spans-still : (w : List ℕ) (ended : Bool) (t : Tree) (i j : ℕ) → may_consume t ≡ false → Spans w ended t i j → i ≡ j
  spans-still w ended tree.empty i j nothing span = span
  spans-still w ended (tree.class set) i j nothing span = absurd (let e : true ≡ false = nothing in cc)
  spans-still w ended (tree.points ranges) i j nothing span = absurd (let e : true ≡ false = nothing in cc)
  spans-still w ended (tree.assert assertion) i j nothing span = span.0
  spans-still w ended (tree.cat items) i j nothing span = cat-still w ended items i j nothing span
  spans-still w ended (tree.alt items) i j nothing span = alt-still w ended items i j nothing span
  spans-still w ended (tree.repeat body least None) i j nothing (n, low, high, copies) =
      copies-still (Spans w ended body) (λ x y one. spans-still w ended body x y nothing one) n i j copies
  spans-still w ended (tree.repeat body least (Some zero)) i j nothing (zero, low, high, copies) = copies
  spans-still w ended (tree.repeat body least (Some zero)) i j nothing (suc n, low, high, copies) = absurd (omega (arith, high))
  spans-still w ended (tree.repeat body least (Some (suc most))) i j nothing (n, low, high, copies) =
      copies-still (Spans w ended body) (λ x y one. spans-still w ended body x y nothing one) n i j copies

  cat-still : (w : List ℕ) (ended : Bool) (ts : Trees) (i j : ℕ) → one_may_consume ts ≡ false → CatSpans w ended ts i j → i ≡ j
  cat-still w ended tree.none i j nothing span = span
  cat-still w ended (tree.more item items) i j nothing (m, one, rest) =
      let (first, others) = neither (may_consume item) (one_may_consume items) nothing in
      spans-still w ended item i m first one ∙ cat-still w ended items m j others rest

  alt-still : (w : List ℕ) (ended : Bool) (ts : Trees) (i j : ℕ) → one_may_consume ts ≡ false → AltSpans w ended ts i j → i ≡ j
  alt-still w ended tree.none i j nothing span = absurd span
  alt-still w ended (tree.more item items) i j nothing (inl one) =
      spans-still w ended item i j (neither (may_consume item) (one_may_consume items) nothing).0 one
  alt-still w ended (tree.more item items) i j nothing (inr rest) =
      alt-still w ended items i j (neither (may_consume item) (one_may_consume items) nothing).1 rest

consumes : (w : List ℕ) (ended : Bool) (t : Tree) (i j : ℕ) → i < j → Spans w ended t i j → may_consume t ≡ true
consumes w ended t i j less span = by (may_consume t) refl
  where
    by : (b : Bool) → may_consume t ≡ b → may_consume t ≡ true
    by true is = is
    by false is = absurd (let e : i ≡ j = spans-still w ended t i j is span in omega arith)

-- Pieces in a row, and one behind them.

pub cat-snoc : (w : List ℕ) (ended : Bool) (pieces : List Piece) (piece : Piece) (i j : ℕ) →
    CatSpans w ended (chain_trees (pieces ++ piece ∷ [])) i j →
    (m : ℕ) × CatSpans w ended (chain_trees pieces) i m × Spans w ended (piece_tree piece) m j
cat-snoc w ended [] piece i j (m, one, rest) = (i, refl, subst (Spans w ended (piece_tree piece) i) rest one)
cat-snoc w ended (p ∷ ps) piece i j (l, one, rest) =
    let (m, before, last) = cat-snoc w ended ps piece l j rest in
    (m, (l, one, before), last)

pub snoc-cat : (w : List ℕ) (ended : Bool) (pieces : List Piece) (piece : Piece) (i m j : ℕ) →
    CatSpans w ended (chain_trees pieces) i m → Spans w ended (piece_tree piece) m j →
    CatSpans w ended (chain_trees (pieces ++ piece ∷ [])) i j
snoc-cat w ended [] piece i m j before last =
    (j, subst (λ x. Spans w ended (piece_tree piece) x j) (sym before) last, refl)
snoc-cat w ended (p ∷ ps) piece i m j (l, one, before) last = (l, one, snoc-cat w ended ps piece l m j before last)

-- Where a piece may consume, no end assertion stands in those before it.

abbrev IsCleanPiece : Piece → Type 0
IsCleanPiece p = IsPlain (piece_tree p) × IsClean (write_out (piece_tree p))

one-consumes : (pieces : List Piece) (piece : Piece) (rest : List Piece) → may_consume (piece_tree piece) ≡ true → one_may_consume (chain_trees (pieces ++ piece ∷ rest)) ≡ true
one-consumes [] piece rest may = left_of_either (may_consume (piece_tree piece)) (one_may_consume (chain_trees rest)) may
one-consumes (p ∷ ps) piece rest may =
    right_of_either (may_consume (piece_tree p)) (one_may_consume (chain_trees (ps ++ piece ∷ rest))) (one-consumes ps piece rest may)

pieces-clean : (pieces : List Piece) (piece : Piece) (rest : List Piece) → may_consume (piece_tree piece) ≡ true →
    ArePlain (chain_trees (pieces ++ piece ∷ rest)) →
    sequence_has_embedded_end (chain_trees (pieces ++ piece ∷ rest)) false ≡ false → Each IsCleanPiece pieces
pieces-clean [] piece rest may plain nothing = tt
pieces-clean (p ∷ ps) piece rest may plain nothing =
    let items : Trees = chain_trees (ps ++ piece ∷ rest) in
    let (here, there) = neither (has_embedded_end (piece_tree p) (false || one_may_consume items)) (sequence_has_embedded_end items false) nothing in
    let behind : (false || one_may_consume items) ≡ true = one-consumes ps piece rest may in
    let last : has_embedded_end (piece_tree p) true ≡ false = subst (λ b. has_embedded_end (piece_tree p) b ≡ false) behind here in
    ((plain.0, (ends-last (piece_tree p) true plain.0 last).1 refl), pieces-clean ps piece rest may plain.1 there)

-- Two streams are alike up to an offset: the same bytes before it, and up to it the same for all but end assertions.
record IsAlike (w : List ℕ) (ended : Bool) (w' : List ℕ) (ended' : Bool) (p : ℕ) : Type 0 where
  pub same : (a : Assertion) (k : ℕ) → is_end_assertion a ≡ false → k ≤ p → allows a (context_at w ended k) ≡ allows a (context_at w' ended' k)
  pub bytes : (k : ℕ) → k < p → slice_get w k ≡ slice_get w' k

alike-sym : (w w' : List ℕ) (ended ended' : Bool) (p : ℕ) → IsAlike w ended w' ended' p → IsAlike w' ended' w ended p
alike-sym w w' ended ended' p is = record {
  same = λ a k plain within. sym (is.same a k plain within);
  bytes = λ k below. sym (is.bytes k below);
}

alike-trans : (w w' w'' : List ℕ) (ended ended' ended'' : Bool) (p : ℕ) → IsAlike w ended w' ended' p → IsAlike w' ended' w'' ended'' p → IsAlike w ended w'' ended'' p
alike-trans w w' w'' ended ended' ended'' p is is' = record {
  same = λ a k plain within. is.same a k plain within ∙ is'.same a k plain within;
  bytes = λ k below. is.bytes k below ∙ is'.bytes k below;
}

-- Spans of what is clean are the same in both.

rounds-order : (R : ℕ → ℕ → Type 0) → ((i j : ℕ) → R i j → i ≤ j) → (i j : ℕ) → Rounds R i j → i ≤ j
rounds-order R order i j no_round = omega arith
rounds-order R order i j (round m k before last) =
    let e : i ≤ m = rounds-order R order i m before in
    let e' : m ≤ j = order m j last in
    omega arith

module _ (context : ℕ → Context) (Byte : List Bool → ℕ → Type 0) where
  core-order : (r : Core) (i j : ℕ) → CoreSpans context Byte r i j → i ≤ j
  core-order fail i j span = absurd span
  core-order empty i j span = omega arith
  core-order (class set) i j span = omega (arith, span.1)
  core-order (assert a) i j span = omega (arith, span.0)
  core-order (cat a b) i j (m, first, second) =
      let e : i ≤ m = core-order a i m first in
      let e' : m ≤ j = core-order b m j second in
      omega arith
  core-order (alt a b) i j (inl first) = core-order a i j first
  core-order (alt a b) i j (inr second) = core-order b i j second
  core-order (plus a) i j (m, before, last) =
      let e : i ≤ m = rounds-order (CoreSpans context Byte a) (core-order a) i m before in
      let e' : m ≤ j = core-order a m j last in
      omega arith

rounds-carry : (R S : ℕ → ℕ → Type 0) (p : ℕ) → ((i j : ℕ) → R i j → i ≤ j) → ((i j : ℕ) → j ≤ p → R i j → S i j) → (i j : ℕ) → j ≤ p → Rounds R i j → Rounds S i j
rounds-carry R S p order carry i j within no_round = no_round
rounds-carry R S p order carry i j within (round m k before last) =
    let e : m ≤ j = order m j last in
    round m j (rounds-carry R S p order carry i m (omega arith) before) (carry m j within last)

module _ (w w' : List ℕ) (ended ended' : Bool) (p : ℕ) (is : IsAlike w ended w' ended' p) where
  core-carry : (r : Core) → IsClean r → (i j : ℕ) → j ≤ p → StreamSpans w ended r i j → StreamSpans w' ended' r i j
  core-carry fail clean i j within span = absurd span
  core-carry empty clean i j within span = span
  core-carry (class set) clean i j within ((b, byte, member), end) =
      let below : i < p = omega arith in
      ((b, sym (is.bytes i below) ∙ byte, member), end)
  core-carry (assert a) clean i j within (here, allowed) =
      let e : i ≤ p = omega arith in
      (here, sym (is.same a i clean e) ∙ allowed)
  core-carry (cat a b) clean i j within (m, first, second) =
      let e : m ≤ j = core-order (context_at w ended) (λ set k. IsByteOf set w k) b m j second in
      (m, core-carry a clean.0 i m (omega arith) first, core-carry b clean.1 m j within second)
  core-carry (alt a b) clean i j within (inl first) = inl (core-carry a clean.0 i j within first)
  core-carry (alt a b) clean i j within (inr second) = inr (core-carry b clean.1 i j within second)
  core-carry (plus a) clean i j within (m, before, last) =
      let e : m ≤ j = core-order (context_at w ended) (λ set k. IsByteOf set w k) a m j last in (
        m,
        rounds-carry (StreamSpans w ended a) (StreamSpans w' ended' a) p (core-order (context_at w ended) (λ set k. IsByteOf set w k) a)
            (λ x y below one. core-carry a clean x y below one) i m (omega arith) before,
        core-carry a clean m j within last,
      )

  clean-carry : (pieces : List Piece) → Each IsCleanPiece pieces → (i j : ℕ) → j ≤ p → CatSpans w ended (chain_trees pieces) i j → CatSpans w' ended' (chain_trees pieces) i j
  clean-carry [] clean i j within span = span
  clean-carry (x ∷ xs) clean i j within (m, one, rest) =
      let e : m ≤ j = span-order w ended (tree.cat (chain_trees xs)) m j rest in (
        m,
        written-spans w' ended' (piece_tree x) i m clean.0.0
            (core-carry (write_out (piece_tree x)) clean.0.1 i m (omega arith) (spans-written w ended (piece_tree x) i m clean.0.0 one)),
        clean-carry xs clean.1 m j within rest,
      )

-- The stream in which `next` follows u, up to an offset before its end, and the stream in which the byte there follows
-- the bytes before it.

alike-then : (u : List ℕ) (next : Next) (p : ℕ) → p < length u → IsAlike (then_bytes u next) (then_ended next) u false p
alike-then u next p below =
    let (v, same) = then-begins u next in
    subst (λ s. IsAlike s (then_ended next) u false p) (sym same)
    (record {
      same = λ a k plain within. allows-append u v (then_ended next) k (omega arith) a plain;
      bytes = λ k before. byte-append u v k (omega arith);
    })

alike-append : (u v : List ℕ) (b : ℕ) → slice_get (u ++ v) (length u) ≡ Some b → IsAlike (then_bytes u (class_of b)) (then_ended (class_of b)) (u ++ v) false (length u)
alike-append u v b there = record {
  same = λ a k plain within. by a k plain within (cases_lt k (length u));
  bytes = λ k below. ap (λ s. slice_get s k) (then-begins u (class_of b)).1 ∙ (byte-append u (then-begins u (class_of b)).0 k below ∙ sym (byte-append u v k below));
}
  where
    here : context_at (then_bytes u (class_of b)) (then_ended (class_of b)) (length u) ≡ context_at (u ++ v) false (length u)
    here =
        context-then u (class_of b)
        ∙ same-context (prev_at u (length u)) (prev_at (u ++ v) (length u)) (class_of b) (next_at (u ++ v) false (length u))
        (sym (prev-append u v (length u) (omega arith))) (sym (next-class (u ++ v) false (length u) b there refl))

    by : (a : Assertion) (k : ℕ) → is_end_assertion a ≡ false → k ≤ length u → (k < length u) ⊎ (length u ≤ k) →
        allows a (context_at (then_bytes u (class_of b)) (then_ended (class_of b)) k) ≡ allows a (context_at (u ++ v) false k)
    by a k plain within (inl below) =
        let (x, same) = then-begins u (class_of b) in
        ap (λ s. allows a (context_at s (then_ended (class_of b)) k)) same
        ∙ (allows-append u x (then_ended (class_of b)) k below a plain ∙ ap (allows a) (sym (context-append u v k below)))
    by a k plain within (inr above) =
        let e : length u ≡ k = omega arith in
        subst (λ n. allows a (context_at (then_bytes u (class_of b)) (then_ended (class_of b)) n) ≡ allows a (context_at (u ++ v) false n)) e (ap (allows a) here)

alike-take : (u : List ℕ) (m b : ℕ) → slice_get u m ≡ Some b → IsAlike (then_bytes (take m u) (class_of b)) (then_ended (class_of b)) u false m
alike-take u m b there =
    let within : m < length u = slice_get_within u m b there in
    let whole : take m u ++ drop m u ≡ u = take-append-drop m u in
    let size : length (take m u) ≡ m = length-take-le m u (omega arith) in
    subst (λ n. IsAlike (then_bytes (take m u) (class_of b)) (then_ended (class_of b)) u false n) size
    (subst (λ s. IsAlike (then_bytes (take m u) (class_of b)) (then_ended (class_of b)) s false (length (take m u))) whole
    (alike-append (take m u) (drop m u) b
    (subst (λ s. slice_get s (length (take m u)) ≡ Some b) (sym whole) (subst (λ n. slice_get u n ≡ Some b) (sym size) there))))

alike-cut : (u : List ℕ) (next : Next) (m b : ℕ) → slice_get u m ≡ Some b →
    IsAlike (then_bytes u next) (then_ended next) (then_bytes (take m u) (class_of b)) (then_ended (class_of b)) m
alike-cut u next m b there =
    alike-trans (then_bytes u next) u (then_bytes (take m u) (class_of b)) (then_ended next) false (then_ended (class_of b)) m
    (alike-then u next m (slice_get_within u m b there))
    (alike-sym (then_bytes (take m u) (class_of b)) u (then_ended (class_of b)) false m (alike-take u m b there))

-- How a chain goes on by a piece.

module _ (pieces rest : List Piece) (piece : Piece) (u : List ℕ) (next : Next) (fit : IsFitChain (pieces ++ piece ∷ rest)) where
  clean-before : may_consume (piece_tree piece) ≡ true → Each IsCleanPiece pieces
  clean-before may = pieces-clean pieces piece rest may fit.plain fit.ends_last

  pub leaves-last : LeavesAt (pieces ++ piece ∷ []) u next →
      LeavesBehind pieces piece u next ⊎ (LeavesAt pieces u next × IsEmptyAt (piece_tree piece) u next)
  leaves-last leaves = by (cat-snoc (then_bytes u next) (then_ended next) pieces piece leaves.from (length u) leaves.spans)
    where
      by : (m : ℕ) × CatSpans (then_bytes u next) (then_ended next) (chain_trees pieces) leaves.from m × Spans (then_bytes u next) (then_ended next) (piece_tree piece) m (length u) →
          LeavesBehind pieces piece u next ⊎ (LeavesAt pieces u next × IsEmptyAt (piece_tree piece) u next)
      by (m, before, last) = elim (cases_lt m (length u)) [
        | inl below ↦
            let b : ℕ = slice_index u m in
            let there : slice_get u m ≡ Some b = slice_get-get_or u m 0 below in
            let may : may_consume (piece_tree piece) ≡ true = consumes (then_bytes u next) (then_ended next) (piece_tree piece) m (length u) below last in
            let size : length (take m u) ≡ m = length-take-le m u (omega arith) in
            let carried : CatSpans (then_bytes (take m u) (class_of b)) (then_ended (class_of b)) (chain_trees pieces) leaves.from m =
            clean-carry (then_bytes u next) (then_bytes (take m u) (class_of b)) (then_ended next) (then_ended (class_of b)) m (alike-cut u next m b there)
            pieces (clean-before may) leaves.from m (omega arith) before in
            inl (record {
              from = m;
              byte = b;
              there = there;
              entered = record {
                from = leaves.from;
                spans = subst (CatSpans (then_bytes (take m u) (class_of b)) (then_ended (class_of b)) (chain_trees pieces) leaves.from) (sym size) carried;
              };
              spans = last;
            })
        | inr above ↦
            let order : m ≤ length u = span-order (then_bytes u next) (then_ended next) (piece_tree piece) m (length u) last in
            let here : m ≡ length u = omega arith in
            inr (
              record { from = leaves.from; spans = subst (CatSpans (then_bytes u next) (then_ended next) (chain_trees pieces) leaves.from) here before },
              subst (λ x. Spans (then_bytes u next) (then_ended next) (piece_tree piece) x (length u)) here last,
            )
      ]

  pub last-leaves : LeavesBehind pieces piece u next ⊎ (LeavesAt pieces u next × IsEmptyAt (piece_tree piece) u next) →
      LeavesAt (pieces ++ piece ∷ []) u next
  last-leaves (inl behind) =
      let m : ℕ = behind.from in
      let b : ℕ = behind.byte in
      let below : m < length u = slice_get_within u m b behind.there in
      let may : may_consume (piece_tree piece) ≡ true = consumes (then_bytes u next) (then_ended next) (piece_tree piece) m (length u) below behind.spans in
      let size : length (take m u) ≡ m = length-take-le m u (omega arith) in
      let before : CatSpans (then_bytes (take m u) (class_of b)) (then_ended (class_of b)) (chain_trees pieces) behind.entered.from m =
      subst (CatSpans (then_bytes (take m u) (class_of b)) (then_ended (class_of b)) (chain_trees pieces) behind.entered.from) size behind.entered.spans in
      record {
        from = behind.entered.from;
        spans =
            snoc-cat (then_bytes u next) (then_ended next) pieces piece behind.entered.from m (length u)
            (clean-carry (then_bytes (take m u) (class_of b)) (then_bytes u next) (then_ended (class_of b)) (then_ended next) m
            (alike-sym (then_bytes u next) (then_bytes (take m u) (class_of b)) (then_ended next) (then_ended (class_of b)) m (alike-cut u next m b behind.there))
            pieces (clean-before may) behind.entered.from m (omega arith) before)
            behind.spans;
      }
  last-leaves (inr (leaves, here)) = record {
    from = leaves.from;
    spans = snoc-cat (then_bytes u next) (then_ended next) pieces piece leaves.from (length u) (length u) leaves.spans here;
  }

-- What tells where pieces are left.

pub leaving-begins : (u : List ℕ) (next : Next) → (true ≡ true) ↔ LeavesAt [] u next
leaving-begins u next = (λ _. record { from = length u; spans = refl }, λ _. refl)

module _ (pieces rest : List Piece) (piece : Piece) (u : List ℕ) (now out null : Next → Bool) (fit : IsFitChain (pieces ++ piece ∷ rest))
    (tells : TellsLeaving now pieces u) (leaves : (next : Next) → (out next ≡ true) ↔ LeavesBehind pieces piece u next)
    (empties : (next : Next) → (null next ≡ true) ↔ IsEmptyAt (piece_tree piece) u next) where
  pub leaving-goes_on : TellsLeaving (λ next. out next || (null next && now next)) (pieces ++ piece ∷ []) u
  leaving-goes_on next = (
    λ is. elim (of_either (out next) (null next && now next) is) [
      | inl here ↦ last-leaves pieces rest piece u next fit (inl ((leaves next).0 here))
      | inr both ↦ last-leaves pieces rest piece u next fit
          (inr ((tells next).0 (second_of_both (null next) (now next) both), (empties next).0 (first_of_both (null next) (now next) both)))
    ],
    λ left. elim (leaves-last pieces rest piece u next fit left) [
      | inl behind ↦ left_of_either (out next) (null next && now next) ((leaves next).1 behind)
      | inr (before, none) ↦ right_of_either (out next) (null next && now next)
          (of_both (null next) (now next) ((empties next).1 none) ((tells next).1 before))
    ],
  )
