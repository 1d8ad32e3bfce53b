-- End assertions in expressions that are written out: where the tree has no embedded one, no byte is consumed behind one.
use Rattle.std.proofs.Common.{◌≡◌, ℕ, zero, suc, ◌+◌, ◌-◌, ◌<◌, ◌≤◌, ◌⊎◌, Bool, true, false, ◌&&◌, ◌||◌, Option, Some, None, refl, inl, inr, arith}
use Rattle.std.proofs.lemmas.Bool.{cases_lt}
use Rattle.hs_base.specs.Trees as tree
use Rattle.hs_base.specs.Trees.{Tree, Trees}
use Rattle.hs_base.specs.EndAssertions.{is_end_assertion, may_consume, one_may_consume, has_embedded_end, sequence_has_embedded_end, one_has_embedded_end}
use Rattle.hs_base.specs.WrittenOut.{Core, fail, empty, class, assert, cat, alt, plus, copies_then, up_to, repeat_of, write_out, cat_from, alt_from, IsPlain, ArePlain, count}
use Rattle.hs_base.proofs.ContextLemmas.{left_of_either, right_of_either}

-- no end assertion anywhere
abbrev pub IsClean : Core → Type 0
IsClean fail = Unit {0}
IsClean empty = Unit {0}
IsClean (class set) = Unit {0}
IsClean (assert assertion) = is_end_assertion assertion ≡ false
IsClean (cat a b) = IsClean a × IsClean b
IsClean (alt a b) = IsClean a × IsClean b
IsClean (plus a) = IsClean a

-- no end assertion in front of a position
abbrev pub IsTail : Core → Type 0
IsTail fail = Unit {0}
IsTail empty = Unit {0}
IsTail (class set) = Unit {0}
IsTail (assert assertion) = Unit {0}
IsTail (cat a b) = (0 < count b → IsClean a) × IsTail a × IsTail b
IsTail (alt a b) = IsTail a × IsTail b
IsTail (plus a) = (0 < count a → IsClean a) × IsTail a

pub neither : (a b : Bool) → (a || b) ≡ false → (a ≡ false) × (b ≡ false)
neither true b h = absurd (cc)
neither false b h = (refl, h)

not_second : (a b : Bool) → (a && b) ≡ false → a ≡ true → b ≡ false
not_second true b h first = h
not_second false b h first = absurd (cc)

-- what has positions has them in its body

positive-sum : (m n : ℕ) → 0 < m + n → (0 < m) ⊎ (0 < n)
positive-sum m n h = elim (cases_lt 0 m) [ inl some ↦ inl some | inr none ↦ inr (omega arith) ]

positive-copies : (n : ℕ) (a b : Core) → (0 < count b → 0 < count a) → 0 < count (copies_then n a b) → 0 < count a
positive-copies zero a b within h = within h
positive-copies (suc n) a b within h =
    elim (positive-sum (count a) (count (copies_then n a b)) h) [ inl one ↦ one | inr rest ↦ positive-copies n a b within rest ]

positive-up_to : (n : ℕ) (a : Core) → 0 < count (up_to n a) → 0 < count a
positive-up_to zero a h = absurd (omega arith)
positive-up_to (suc n) a h =
    elim (positive-sum (count a) (count (up_to n a)) (omega arith)) [ inl one ↦ one | inr rest ↦ positive-up_to n a rest ]

positive-repeat : (least : ℕ) (greatest : Option ℕ) (a : Core) → 0 < count (repeat_of least greatest a) → 0 < count a
positive-repeat zero None a h = omega arith
positive-repeat (suc least) None a h = positive-copies least a (plus a) (λ some. some) h
positive-repeat least (Some most) a h = positive-copies least a (up_to (most - least) a) (positive-up_to (most - least) a) h

-- and the tree it comes from may consume bytes
mutual
  pub positions-consume : (t : Tree) → IsPlain t → 0 < count (write_out t) → may_consume t ≡ true
  positions-consume tree.empty plain h = absurd (omega arith)
  positions-consume (tree.class set) plain h = refl
  positions-consume (tree.points ranges) plain h = absurd plain
  positions-consume (tree.assert assertion) plain h = absurd (omega arith)
  positions-consume (tree.cat items) plain h =
      elim (positions-cat items empty plain h) [ inl none ↦ absurd (omega arith) | inr some ↦ some ]
  positions-consume (tree.alt items) plain h =
      elim (positions-alt items fail plain h) [ inl none ↦ absurd (omega arith) | inr some ↦ some ]
  positions-consume (tree.repeat body least None) plain h = positions-consume body plain.0 (positive-repeat least None (write_out body) h)
  positions-consume (tree.repeat body zero (Some zero)) plain h = absurd (omega arith)
  positions-consume (tree.repeat body (suc least) (Some zero)) plain h = absurd (let e : suc least ≤ 0 = plain.1 in omega arith)
  positions-consume (tree.repeat body least (Some (suc most))) plain h = positions-consume body plain.0 (positive-repeat least (Some (suc most)) (write_out body) h)

  positions-cat : (items : Trees) (before : Core) → ArePlain items → 0 < count (cat_from before items) → (0 < count before) ⊎ (one_may_consume items ≡ true)
  positions-cat tree.none before plain h = inl h
  positions-cat (tree.more item items) before plain h =
      elim (positions-cat items (cat before (write_out item)) plain.1 h) [
        | inl here ↦
            elim (positive-sum (count before) (count (write_out item)) here) [
              | inl first ↦ inl first
              | inr one ↦ inr (left_of_either (may_consume item) (one_may_consume items) (positions-consume item plain.0 one))
            ]
        | inr rest ↦ inr (right_of_either (may_consume item) (one_may_consume items) rest)
      ]

  positions-alt : (items : Trees) (before : Core) → ArePlain items → 0 < count (alt_from before items) → (0 < count before) ⊎ (one_may_consume items ≡ true)
  positions-alt tree.none before plain h = inl h
  positions-alt (tree.more item items) before plain h =
      elim (positions-alt items (alt before (write_out item)) plain.1 h) [
        | inl here ↦
            elim (positive-sum (count before) (count (write_out item)) here) [
              | inl first ↦ inl first
              | inr one ↦ inr (left_of_either (may_consume item) (one_may_consume items) (positions-consume item plain.0 one))
            ]
        | inr rest ↦ inr (right_of_either (may_consume item) (one_may_consume items) rest)
      ]

-- repeats of what has no end assertion, or none in front of a position

clean-copies : (n : ℕ) (a b : Core) → IsClean a → IsClean b → IsClean (copies_then n a b)
clean-copies zero a b one rest = rest
clean-copies (suc n) a b one rest = (one, clean-copies n a b one rest)

clean-up_to : (n : ℕ) (a : Core) → IsClean a → IsClean (up_to n a)
clean-up_to zero a one = tt
clean-up_to (suc n) a one = ((one, clean-up_to n a one), tt)

clean-repeat : (least : ℕ) (greatest : Option ℕ) (a : Core) → IsClean a → IsClean (repeat_of least greatest a)
clean-repeat zero None a one = (one, tt)
clean-repeat (suc least) None a one = clean-copies least a (plus a) one one
clean-repeat least (Some most) a one = clean-copies least a (up_to (most - least) a) one (clean-up_to (most - least) a one)

tail-copies : (n : ℕ) (a b : Core) → IsTail a → (0 < count a → IsClean a) → IsTail b → (0 < count b → 0 < count a) → IsTail (copies_then n a b)
tail-copies zero a b one clean rest within = rest
tail-copies (suc n) a b one clean rest within =
    (λ some. clean (positive-copies n a b within some), one, tail-copies n a b one clean rest within)

tail-up_to : (n : ℕ) (a : Core) → IsTail a → (0 < count a → IsClean a) → IsTail (up_to n a)
tail-up_to zero a one clean = tt
tail-up_to (suc n) a one clean = ((λ some. clean (positive-up_to n a some), one, tail-up_to n a one clean), tt)

tail-repeat : (least : ℕ) (greatest : Option ℕ) (a : Core) → IsTail a → (0 < count a → IsClean a) → IsTail (repeat_of least greatest a)
tail-repeat zero None a one clean = ((clean, one), tt)
tail-repeat (suc least) None a one clean = tail-copies least a (plus a) one clean (clean, one) (λ some. some)
tail-repeat least (Some most) a one clean =
    tail-copies least a (up_to (most - least) a) one clean (tail-up_to (most - least) a one clean) (positive-up_to (most - least) a)

ends_last-rounds : (body : Tree) (least : ℕ) (greatest : Option ℕ) (after : Bool) → IsPlain body →
    IsTail (write_out body) × ((after || may_consume body) ≡ true → IsClean (write_out body)) →
    IsTail (repeat_of least greatest (write_out body)) × (after ≡ true → IsClean (repeat_of least greatest (write_out body)))
ends_last-rounds body least greatest after plain (tail, clean) = (
  tail-repeat least greatest (write_out body) tail (λ some. clean (right_of_either after (may_consume body) (positions-consume body plain some))),
  λ behind. clean-repeat least greatest (write_out body) (clean (left_of_either after (may_consume body) behind)),
)

-- Where a tree has no embedded end assertion, none stands in front of a position and, where bytes may be consumed behind
-- the tree, none at all.
mutual
  pub ends-last : (t : Tree) (after : Bool) → IsPlain t → has_embedded_end t after ≡ false → IsTail (write_out t) × (after ≡ true → IsClean (write_out t))
  ends-last tree.empty after plain h = (tt, λ _. tt)
  ends-last (tree.class set) after plain h = (tt, λ _. tt)
  ends-last (tree.points ranges) after plain h = absurd plain
  ends-last (tree.assert assertion) after plain h = (tt, λ behind. not_second after (is_end_assertion assertion) h behind)
  ends-last (tree.cat items) after plain h = ends_last-cat items empty after plain h tt (λ _. tt)
  ends-last (tree.alt items) after plain h = ends_last-alt items fail after plain h tt (λ _. tt)
  ends-last (tree.repeat body least None) after plain h =
      ends_last-rounds body least None after plain.0 (ends-last body (after || may_consume body) plain.0 h)
  ends-last (tree.repeat body zero (Some zero)) after plain h = (tt, λ _. tt)
  ends-last (tree.repeat body (suc least) (Some zero)) after plain h = absurd (let e : suc least ≤ 0 = plain.1 in omega arith)
  ends-last (tree.repeat body zero (Some (suc zero))) after plain h =
      let one : IsTail (write_out body) × (after ≡ true → IsClean (write_out body)) = ends-last body after plain.0 h in
      (((λ some. absurd (omega arith), one.0, tt), tt), λ behind. ((one.1 behind, tt), tt))
  ends-last (tree.repeat body (suc zero) (Some (suc zero))) after plain h =
      let one : IsTail (write_out body) × (after ≡ true → IsClean (write_out body)) = ends-last body after plain.0 h in
      ((λ some. absurd (omega arith), one.0, tt), λ behind. (one.1 behind, tt))
  ends-last (tree.repeat body (suc (suc least)) (Some (suc zero))) after plain h = absurd (let e : suc (suc least) ≤ 1 = plain.1 in omega arith)
  ends-last (tree.repeat body least (Some (suc (suc most)))) after plain h =
      ends_last-rounds body least (Some (suc (suc most))) after plain.0 (ends-last body (after || may_consume body) plain.0 h)

  ends_last-cat : (items : Trees) (before : Core) (after : Bool) → ArePlain items → sequence_has_embedded_end items after ≡ false → IsTail before →
      ((one_may_consume items ≡ true) ⊎ (after ≡ true) → IsClean before) → IsTail (cat_from before items) × (after ≡ true → IsClean (cat_from before items))
  ends_last-cat tree.none before after plain h tail clean = (tail, λ behind. clean (inr behind))
  ends_last-cat (tree.more item items) before after plain h tail clean =
      let no : (has_embedded_end item (after || one_may_consume items) ≡ false) × (sequence_has_embedded_end items after ≡ false) =
      neither (has_embedded_end item (after || one_may_consume items)) (sequence_has_embedded_end items after) h in
      let one : IsTail (write_out item) × ((after || one_may_consume items) ≡ true → IsClean (write_out item)) =
      ends-last item (after || one_may_consume items) plain.0 no.0 in
      ends_last-cat items (cat before (write_out item)) after plain.1 no.1
      (λ some. clean (inl (left_of_either (may_consume item) (one_may_consume items) (positions-consume item plain.0 some))), tail, one.0)
      (λ behind. elim behind [
        | inl later ↦
            (clean (inl (right_of_either (may_consume item) (one_may_consume items) later)), one.1 (right_of_either after (one_may_consume items) later))
        | inr outside ↦ (clean (inr outside), one.1 (left_of_either after (one_may_consume items) outside))
      ])

  ends_last-alt : (items : Trees) (before : Core) (after : Bool) → ArePlain items → one_has_embedded_end items after ≡ false → IsTail before →
      (after ≡ true → IsClean before) → IsTail (alt_from before items) × (after ≡ true → IsClean (alt_from before items))
  ends_last-alt tree.none before after plain h tail clean = (tail, clean)
  ends_last-alt (tree.more item items) before after plain h tail clean =
      let no : (has_embedded_end item after ≡ false) × (one_has_embedded_end items after ≡ false) =
      neither (has_embedded_end item after) (one_has_embedded_end items after) h in
      let one : IsTail (write_out item) × (after ≡ true → IsClean (write_out item)) = ends-last item after plain.0 no.0 in
      ends_last-alt items (alt before (write_out item)) after plain.1 no.1 (tail, one.0) (λ behind. (clean behind, one.1 behind))
