-- An expression has one lowered tree.
use Rattle.std.proofs.Common.{◌≡◌, ℕ, ◌+◌, ◌≤◌, Bool, true, List, [], ◌∷◌, ◌++◌, refl, sym, ap, ap₂, subst, ◌∙◌, inl, inr, true≢false, le_refl, le_trans, le_antisymm}
use Rattle.std.specs.Prelude.{encode_utf8}
use Rattle.std.proofs.lemmas.Bool.{cases_lt}
use Rattle.hs_base.specs.Trees.{Tree, Trees, empty, class, points, assert, cat, alt, repeat, none, more}
use Rattle.hs_utf8.specs.Members.{is_member}
use Rattle.hs_utf8.specs.Runs.{IsChoice, IsCodePointRun, NextRun, AreRuns, run_tree}
use Rattle.hs_utf8.specs.Lowered.{ascii_end, AreAscii, nothing, something, alternatives, IsLoweredSet, IsLowered, AreLowered}

-- places with the same choices, of which there are some, are the same
places-once : (ps qs : List (ℕ × ℕ)) → ((text : List ℕ) → IsChoice ps text → IsChoice qs text) →
    ((text : List ℕ) → IsChoice qs text → IsChoice ps text) → (text : List ℕ) → IsChoice ps text → ps ≡ qs
places-once [] [] to from text is = refl
places-once [] (q ∷ qs) to from text is = absurd (to [] tt)
places-once (p ∷ ps) [] to from text is = absurd (from [] tt)
places-once (p ∷ ps) (q ∷ qs) to from [] is = absurd is
places-once (p ∷ ps) (q ∷ qs) to from (b ∷ text) (here, rest) =
    let there = to (b ∷ text) (here, rest) in
    let p_order : p.0 ≤ p.1 = le_trans here.0 here.1 in
    let q_order : q.0 ≤ q.1 = le_trans there.0.0 there.0.1 in
    let p_first = to (p.0 ∷ text) ((le_refl p.0, p_order), rest) in
    let p_last = to (p.1 ∷ text) ((p_order, le_refl p.1), rest) in
    let q_first = from (q.0 ∷ text) ((le_refl q.0, q_order), there.1) in
    let q_last = from (q.1 ∷ text) ((q_order, le_refl q.1), there.1) in
    let first : p.0 ≡ q.0 = le_antisymm q_first.0.0 p_first.0.0 in
    let last : p.1 ≡ q.1 = le_antisymm p_last.0.1 q_last.0.1 in
    ap₂ ◌∷◌ (ap₂ (λ a b. (a, b)) first last)
    (places-once ps qs (λ bytes choice. (to (b ∷ bytes) (here, choice)).1) (λ bytes choice. (from (b ∷ bytes) (there.0, choice)).1) text rest)

-- a run has one list of places
run-once : (member : ℕ → Bool) (first last : ℕ) (ps qs : List (ℕ × ℕ)) → IsCodePointRun member first last ps →
    IsCodePointRun member first last qs → ps ≡ qs
run-once member first last ps qs one two =
    places-once ps qs
    (λ text is. let (c, low, high, same) = one.encodings.every text is in rw same (two.encodings.each c low high))
    (λ text is. let (c, low, high, same) = two.encodings.every text is in rw same (one.encodings.each c low high))
    (encode_utf8 first) (one.encodings.each first (le_refl first) one.some)

first-member : (member : ℕ → Bool) (from : ℕ) (next : NextRun member from) → member next.first ≡ true
first-member member from next = next.run.members next.first (le_refl next.first) next.run.some

firsts : (member : ℕ → Bool) (from : ℕ) (one two : NextRun member from) → one.first ≤ two.first
firsts member from one two = elim (cases_lt two.first one.first) [
  | inl before ↦ absurd (true≢false (sym (first-member member from two) ∙ one.least two.first two.above before))
  | inr order ↦ order
]

-- there is one next run
pub record AreSame (member : ℕ → Bool) (from : ℕ) (one two : NextRun member from) : Type 0 where
  pub last : one.last ≡ two.last
  pub places : one.places ≡ two.places

next-once : (member : ℕ → Bool) (from : ℕ) (one two : NextRun member from) → AreSame member from one two
next-once member from one two =
    let first : one.first ≡ two.first = le_antisymm (firsts member from one two) (firsts member from two one) in
    let here : IsCodePointRun member one.first two.last two.places =
    subst (λ n. IsCodePointRun member n two.last two.places) (sym first) two.run in
    let there : IsCodePointRun member two.first one.last one.places =
    subst (λ n. IsCodePointRun member n one.last one.places) first one.run in
    let last : one.last ≡ two.last = le_antisymm (two.longest one.last one.places there) (one.longest two.last two.places here) in
    record {
      last = last;
      places =
          run-once member one.first two.last one.places two.places
          (subst (λ n. IsCodePointRun member one.first n one.places) last one.run) here;
    }

runs-once : (member : ℕ → Bool) (from : ℕ) (xs ys : List Tree) → AreRuns member from xs → AreRuns member from ys → xs ≡ ys
runs-once member from [] [] one two = refl
runs-once member from [] (y ∷ ys) one (next, is, runs) =
    absurd (true≢false (sym (first-member member from next) ∙ one next.first next.above))
runs-once member from (x ∷ xs) [] (next, is, runs) two =
    absurd (true≢false (sym (first-member member from next) ∙ two next.first next.above))
runs-once member from (x ∷ xs) (y ∷ ys) (next, is, runs) (next', is', runs') =
    let same = next-once member from next next' in
    ap₂ ◌∷◌ (is ∙ ap run_tree same.places ∙ sym is')
    (runs-once member (next.last + 1) xs ys runs (subst (λ n. AreRuns member (n + 1) ys) (sym same.last) runs'))

ascii-once : (ranges : List (ℕ × ℕ)) (xs ys : List Tree) → AreAscii ranges xs → AreAscii ranges ys → xs ≡ ys
ascii-once ranges _ _ (nothing h) (nothing k) = refl
ascii-once ranges _ _ (nothing h) (something b k) = absurd (true≢false (sym k ∙ h b))
ascii-once ranges _ _ (something b h) (nothing k) = absurd (true≢false (sym h ∙ k b))
ascii-once ranges _ _ (something b h) (something d k) = refl

set-once : (ranges : List (ℕ × ℕ)) (u v : Tree) → IsLoweredSet ranges u → IsLoweredSet ranges v → u ≡ v
set-once ranges u v one two =
    one.is
    ∙ ap₂ (λ xs ys. alternatives (xs ++ ys)) (ascii-once ranges one.ascii two.ascii one.are_ascii two.are_ascii)
    (runs-once (is_member ranges) ascii_end one.runs two.runs one.are_runs two.are_runs)
    ∙ sym two.is

mutual
  pub lowered-once : (t u v : Tree) → IsLowered t u → IsLowered t v → u ≡ v
  lowered-once empty u v one two = one ∙ sym two
  lowered-once (class set) u v one two = one ∙ sym two
  lowered-once (points ranges) u v one two = set-once ranges u v one two
  lowered-once (assert assertion) u v one two = one ∙ sym two
  lowered-once (cat items) u v (us, one, is) (vs, two, is') = is ∙ ap cat (all-once items us vs one two) ∙ sym is'
  lowered-once (alt items) u v (us, one, is) (vs, two, is') = is ∙ ap alt (all-once items us vs one two) ∙ sym is'
  lowered-once (repeat body least greatest) u v (b, one, is) (d, two, is') =
      is ∙ ap (λ x. repeat x least greatest) (lowered-once body b d one two) ∙ sym is'

  all-once : (items us vs : Trees) → AreLowered items us → AreLowered items vs → us ≡ vs
  all-once none us vs one two = one ∙ sym two
  all-once (more item items) us vs (u, rest, here, others, is) (v, rest', here', others', is') =
      is ∙ ap₂ more (lowered-once item u v here here') (all-once items rest rest' others others') ∙ sym is'
