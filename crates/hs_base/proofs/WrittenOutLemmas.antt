-- Writing out the repeats of an expression keeps its spans.
use Rattle.std.proofs.Common.{◌≡◌, ℕ, zero, suc, ◌+◌, ◌-◌, ◌≤◌, ◌⊎◌, Bool, List, Option, Some, None, IfSome, refl, sym, subst, inl, inr, arith}
use Rattle.hs_base.specs.Trees as tree
use Rattle.hs_base.specs.Trees.{Tree, Trees}
use Rattle.hs_base.specs.Spans.{IsByteOf, Copies, Spans, CatSpans, AltSpans}
use Rattle.hs_base.specs.Contexts.{Context, context_at}
use Rattle.hs_base.specs.WrittenOut.{Core, fail, empty, cat, alt, plus, copies_then, up_to, at_least, repeat_of, write_out, cat_from, alt_from, IsPlain, ArePlain, Rounds, no_round, round, CoreSpans, StreamSpans}
use Rattle.hs_base.proofs.ContextLemmas.{holds-allows, allows-holds}

pub copies-map : (R S : ℕ → ℕ → Type 0) → ((i j : ℕ) → R i j → S i j) → (n i j : ℕ) → Copies R n i j → Copies S n i j
copies-map R S f zero i j copies = copies
copies-map R S f (suc n) i j (m, one, rest) = (m, f i m one, copies-map R S f n m j rest)

-- so many copies, and then so many
copies-split : (R : ℕ → ℕ → Type 0) (n k total i j : ℕ) → total ≡ n + k → Copies R total i j → (m : ℕ) × Copies R n i m × Copies R k m j
copies-split R zero k total i j sum copies =
    let e : total ≡ k = omega arith in
    (i, refl, subst (λ x. Copies R x i j) e copies)
copies-split R (suc n) k zero i j sum copies = absurd (omega arith)
copies-split R (suc n) k (suc total) i j sum (m, one, rest) =
    let (l, first, second) = copies-split R n k total m j (omega arith) rest in
    (l, (m, one, first), second)

copies-join : (R : ℕ → ℕ → Type 0) (n k i m j : ℕ) → Copies R n i m → Copies R k m j → Copies R (n + k) i j
copies-join R zero k i m j first second =
    let e : k ≡ zero + k = omega arith in
    subst (λ x. Copies R x i j) e (subst (λ x. Copies R k x j) (sym first) second)
copies-join R (suc n) k i m j (l, one, first) second =
    let e : suc (n + k) ≡ suc n + k = omega arith in
    let whole : Copies R (suc (n + k)) i j = (l, one, copies-join R n k l m j first second) in
    subst (λ x. Copies R x i j) e whole

-- the last copy
copies-last : (R : ℕ → ℕ → Type 0) (n i j : ℕ) → Copies R (suc n) i j → (m : ℕ) × Copies R n i m × R m j
copies-last R zero i j (m, one, rest) = (i, refl, subst (R i) rest one)
copies-last R (suc n) i j (m, one, rest) =
    let (l, first, last) = copies-last R n m j rest in
    (l, (m, one, first), last)

last-copies : (R : ℕ → ℕ → Type 0) (n i m j : ℕ) → Copies R n i m → R m j → Copies R (suc n) i j
last-copies R zero i m j first last = (j, subst (λ x. R x j) (sym first) last, refl)
last-copies R (suc n) i m j (l, one, first) last = (l, one, last-copies R n l m j first last)

copies-rounds : (R : ℕ → ℕ → Type 0) (n i m j : ℕ) → Rounds R i m → Copies R n m j → Rounds R i j
copies-rounds R zero i m j before copies = subst (Rounds R i) copies before
copies-rounds R (suc n) i m j before (l, one, rest) = copies-rounds R n i l j (round m l before one) rest

rounds-copies : (R : ℕ → ℕ → Type 0) (i j : ℕ) → Rounds R i j → (n : ℕ) × Copies R n i j
rounds-copies R i j no_round = (zero, refl)
rounds-copies R i j (round m k before last) =
    let (n, copies) = rounds-copies R i m before in
    (suc n, last-copies R n i m k copies last)

module _ (context : ℕ → Context) (Byte : List Bool → ℕ → Type 0) (a : Core) where
  copies-plus : (n i j : ℕ) → Copies (CoreSpans context Byte a) (suc n) i j → CoreSpans context Byte (plus a) i j
  copies-plus n i j copies =
      let (m, first, last) = copies-last (CoreSpans context Byte a) n i j copies in
      (m, copies-rounds (CoreSpans context Byte a) n i i m no_round first, last)

  plus-copies : (i j : ℕ) → CoreSpans context Byte (plus a) i j → (n : ℕ) × Copies (CoreSpans context Byte a) (suc n) i j
  plus-copies i j (m, first, last) =
      let (n, copies) = rounds-copies (CoreSpans context Byte a) i m first in
      (n, last-copies (CoreSpans context Byte a) n i m j copies last)

  copies-then : (b : Core) (n i m j : ℕ) → Copies (CoreSpans context Byte a) n i m → CoreSpans context Byte b m j → CoreSpans context Byte (copies_then n a b) i j
  copies-then b zero i m j copies after = subst (λ x. CoreSpans context Byte b x j) (sym copies) after
  copies-then b (suc n) i m j (l, one, rest) after = (l, one, copies-then b n l m j rest after)

  then-copies : (b : Core) (n i j : ℕ) → CoreSpans context Byte (copies_then n a b) i j → (m : ℕ) × Copies (CoreSpans context Byte a) n i m × CoreSpans context Byte b m j
  then-copies b zero i j span = (i, refl, span)
  then-copies b (suc n) i j (l, one, rest) =
      let (m, copies, after) = then-copies b n l j rest in
      (m, (l, one, copies), after)

  copies-up_to : (n k i j : ℕ) → k ≤ n → Copies (CoreSpans context Byte a) k i j → CoreSpans context Byte (up_to n a) i j
  copies-up_to zero zero i j below copies = copies
  copies-up_to zero (suc k) i j below copies = absurd (omega arith)
  copies-up_to (suc n) zero i j below copies = inr copies
  copies-up_to (suc n) (suc k) i j below (m, one, rest) = inl (m, one, copies-up_to n k m j (omega arith) rest)

  up_to-copies : (n i j : ℕ) → CoreSpans context Byte (up_to n a) i j → (k : ℕ) × (k ≤ n) × Copies (CoreSpans context Byte a) k i j
  up_to-copies zero i j span = (zero, omega arith, span)
  up_to-copies (suc n) i j (inr none) = (zero, omega arith, none)
  up_to-copies (suc n) i j (inl (m, one, rest)) =
      let (k, below, copies) = up_to-copies n m j rest in
      (suc k, omega arith, (m, one, copies))

  copies-at_least : (least n i j : ℕ) → least ≤ n → Copies (CoreSpans context Byte a) n i j → CoreSpans context Byte (at_least least a) i j
  copies-at_least zero zero i j above copies = inr copies
  copies-at_least zero (suc n) i j above copies = inl (copies-plus n i j copies)
  copies-at_least (suc least) n i j above copies =
      let (m, first, second) = copies-split (CoreSpans context Byte a) least (suc (n - suc least)) n i j (omega arith) copies in
      copies-then (plus a) least i m j first (copies-plus (n - suc least) m j second)

  at_least-copies : (least i j : ℕ) → CoreSpans context Byte (at_least least a) i j → (n : ℕ) × (least ≤ n) × Copies (CoreSpans context Byte a) n i j
  at_least-copies zero i j (inr none) = (zero, omega arith, none)
  at_least-copies zero i j (inl some) =
      let (n, copies) = plus-copies i j some in
      (suc n, omega arith, copies)
  at_least-copies (suc least) i j span =
      let (m, first, some) = then-copies (plus a) least i j span in
      let (n, second) = plus-copies m j some in
      (least + suc n, omega arith, copies-join (CoreSpans context Byte a) least (suc n) i m j first second)

  -- a repeat written out has the spans of so many copies
  copies-repeat : (least : ℕ) (greatest : Option ℕ) (n i j : ℕ) → least ≤ n → IfSome greatest (λ m. n ≤ m) → Copies (CoreSpans context Byte a) n i j → CoreSpans context Byte (repeat_of least greatest a) i j
  copies-repeat least None n i j above below copies = copies-at_least least n i j above copies
  copies-repeat least (Some most) n i j above below copies =
      let (m, first, second) = copies-split (CoreSpans context Byte a) least (n - least) n i j (omega arith) copies in
      copies-then (up_to (most - least) a) least i m j first (copies-up_to (most - least) (n - least) m j (omega arith) second)

  repeat-copies : (least : ℕ) (greatest : Option ℕ) (i j : ℕ) → IfSome greatest (λ m. least ≤ m) → CoreSpans context Byte (repeat_of least greatest a) i j →
      (n : ℕ) × (least ≤ n) × IfSome greatest (λ m. n ≤ m) × Copies (CoreSpans context Byte a) n i j
  repeat-copies least None i j ordered span =
      let (n, above, copies) = at_least-copies least i j span in
      (n, above, tt, copies)
  repeat-copies least (Some most) i j ordered span =
      let (m, first, rest) = then-copies (up_to (most - least) a) least i j span in
      let (k, below, second) = up_to-copies (most - least) m j rest in
      (least + k, omega arith, omega arith, copies-join (CoreSpans context Byte a) least k i m j first second)

module _ (w : List ℕ) (ended : Bool) where
  mutual
    -- each span of an expression is one of it written out
    pub spans-written : (t : Tree) (i j : ℕ) → IsPlain t → Spans w ended t i j → StreamSpans w ended (write_out t) i j
    spans-written tree.empty i j plain span = span
    spans-written (tree.class set) i j plain span = span
    spans-written (tree.points ranges) i j plain span = absurd plain
    spans-written (tree.assert a) i j plain (same, holds) = (same, holds-allows w ended i a holds)
    spans-written (tree.cat items) i j plain span = cat-written items empty i i j plain refl span
    spans-written (tree.alt items) i j plain span = alt-written items fail i j plain (inr span)
    spans-written (tree.repeat body least greatest) i j plain (n, above, below, copies) =
        copies-repeat (context_at w ended) (λ set k. IsByteOf set w k) (write_out body) least greatest n i j above below
        (copies-map (Spans w ended body) (StreamSpans w ended (write_out body)) (λ x y. spans-written body x y plain.0) n i j copies)

    cat-written : (items : Trees) (before : Core) (i m j : ℕ) → ArePlain items → StreamSpans w ended before i m → CatSpans w ended items m j → StreamSpans w ended (cat_from before items) i j
    cat-written tree.none before i m j plain first span = subst (StreamSpans w ended before i) span first
    cat-written (tree.more item items) before i m j plain first (l, one, rest) =
        cat-written items (cat before (write_out item)) i l j plain.1 (m, first, spans-written item m l plain.0 one) rest

    alt-written : (items : Trees) (before : Core) (i j : ℕ) → ArePlain items → StreamSpans w ended before i j ⊎ AltSpans w ended items i j → StreamSpans w ended (alt_from before items) i j
    alt-written tree.none before i j plain (inl first) = first
    alt-written tree.none before i j plain (inr none) = absurd none
    alt-written (tree.more item items) before i j plain (inl first) = alt-written items (alt before (write_out item)) i j plain.1 (inl (inl first))
    alt-written (tree.more item items) before i j plain (inr (inl one)) = alt-written items (alt before (write_out item)) i j plain.1 (inl (inr (spans-written item i j plain.0 one)))
    alt-written (tree.more item items) before i j plain (inr (inr rest)) = alt-written items (alt before (write_out item)) i j plain.1 (inr rest)

  mutual
    -- and it has no other
    pub written-spans : (t : Tree) (i j : ℕ) → IsPlain t → StreamSpans w ended (write_out t) i j → Spans w ended t i j
    written-spans tree.empty i j plain span = span
    written-spans (tree.class set) i j plain span = span
    written-spans (tree.points ranges) i j plain span = absurd plain
    written-spans (tree.assert a) i j plain (same, allowed) = (same, allows-holds w ended i a allowed)
    written-spans (tree.cat items) i j plain span =
        let (m, none, rest) = written-cat items empty i j plain span in
        subst (λ x. CatSpans w ended items x j) (sym none) rest
    written-spans (tree.alt items) i j plain span =
        elim (written-alt items fail i j plain span) [ inl none ↦ absurd none | inr rest ↦ rest ]
    written-spans (tree.repeat body least greatest) i j plain span =
        let (n, above, below, copies) = repeat-copies (context_at w ended) (λ set k. IsByteOf set w k) (write_out body) least greatest i j plain.1 span in
        (n, above, below, copies-map (StreamSpans w ended (write_out body)) (Spans w ended body) (λ x y. written-spans body x y plain.0) n i j copies)

    written-cat : (items : Trees) (before : Core) (i j : ℕ) → ArePlain items → StreamSpans w ended (cat_from before items) i j → (m : ℕ) × StreamSpans w ended before i m × CatSpans w ended items m j
    written-cat tree.none before i j plain span = (j, span, refl)
    written-cat (tree.more item items) before i j plain span =
        let (l, (m, first, one), rest) = written-cat items (cat before (write_out item)) i j plain.1 span in
        (m, first, (l, written-spans item m l plain.0 one, rest))

    written-alt : (items : Trees) (before : Core) (i j : ℕ) → ArePlain items → StreamSpans w ended (alt_from before items) i j → StreamSpans w ended before i j ⊎ AltSpans w ended items i j
    written-alt tree.none before i j plain span = inl span
    written-alt (tree.more item items) before i j plain span =
        elim (written-alt items (alt before (write_out item)) i j plain.1 span) [
          | inl (inl first) ↦ inl first
          | inl (inr one) ↦ inr (inl (written-spans item i j plain.0 one))
          | inr rest ↦ inr (inr rest)
        ]
