-- Ends that are gathered terminal by terminal, and node by node.
use Rattle.std.proofs.Common.{◌≡◌, ℕ, ◌+◌, ◌<◌, ◌≤◌, Bool, true, false, ◌||◌, ◌&&◌, eqb, ltb, List, [], ◌∷◌, length, take, get_or, refl, sym, ap, ◌∙◌, inl, inr, arith}
use Rattle.std.specs.List.{list_any}
use Rattle.std.proofs.lemmas.Bool.{cases_lt, cases_order, lt-ltb, le-ltb, eq-eqb, ne_eqb, or_from, and_right}
use Rattle.std.proofs.lemmas.List.Folds.{list_any_more}
use Rattle.hs_base.specs.Lists.{Each}
use Rattle.hs_base.proofs.ByteSetLemmas.{or-false}
use Rattle.hs_reports.specs.declared.terminal.Terminal.{Terminal}
use Rattle.hs_reports.specs.EndTables.{no_terminal, EndTable, words_of, HasNoEnds, AddsEnds}
use Rattle.hs_reports.specs.Gathering.{AreOfNode, AreEndsBelow}
use Rattle.hs_reports.specs.Terminals.{is_within_bounds, is_end_at, AreEndsOf}
use Rattle.hs_reports.specs.WordBits.{word_bit}
use Rattle.hs_reports.proofs.WordBitLemmas.{bit-zero}

-- terminal by terminal

pub adds-nothing : (table : EndTable) (terminals : List Terminal) (at before behind : ℕ) → AddsEnds table table (take 0 terminals) at before behind
adds-nothing table terminals at before behind = record {
  count = refl;
  before_is = λ p i below. sym (or-false (word_bit (words_of table p).before i));
  behind_is = λ p i below. sym (or-false (word_bit (words_of table p).behind i));
  noted = λ p noted. noted;
}

joined : (x a b : Bool) → ((x || a) || (b || false)) ≡ (x || (a || b))
joined true a b = refl
joined false true b = refl
joined false false true = refl
joined false false false = refl

pub adds-more : (old mid new : EndTable) (terminals : List Terminal) (at before behind k : ℕ) → k < length terminals → AddsEnds old mid (take k terminals) at before behind →
    AddsEnds mid new (get_or terminals k no_terminal ∷ []) at before behind → AddsEnds old new (take (k + 1) terminals) at before behind
adds-more old mid new terminals at before behind k within adds one = record {
  count = one.count ∙ adds.count;
  before_is = λ p i below.
      one.before_is p i below
      ∙ (ap (λ b. b || (is_end_at (λ node. before) p (at + i) i (get_or terminals k no_terminal) || false)) (adds.before_is p i below)
      ∙ (joined (word_bit (words_of old p).before i) (list_any (is_end_at (λ node. before) p (at + i) i) (take k terminals)) (is_end_at (λ node. before) p (at + i) i (get_or terminals k no_terminal))
      ∙ ap (λ b. word_bit (words_of old p).before i || b) (sym (list_any_more (is_end_at (λ node. before) p (at + i) i) terminals k no_terminal within))));
  behind_is = λ p i below.
      one.behind_is p i below
      ∙ (ap (λ b. b || (is_end_at (λ node. behind) p (at + i + 1) i (get_or terminals k no_terminal) || false)) (adds.behind_is p i below)
      ∙ (joined (word_bit (words_of old p).behind i) (list_any (is_end_at (λ node. behind) p (at + i + 1) i) (take k terminals)) (is_end_at (λ node. behind) p (at + i + 1) i (get_or terminals k no_terminal))
      ∙ ap (λ b. word_bit (words_of old p).behind i || b) (sym (list_any_more (is_end_at (λ node. behind) p (at + i + 1) i) terminals k no_terminal within))));
  noted = λ p noted. one.noted p (adds.noted p noted);
}

-- node by node

any-same : (f g : Terminal → Bool) (ts : List Terminal) → ((t : Terminal) → f t ≡ g t) → list_any f ts ≡ list_any g ts
any-same f g [] same = refl
any-same f g (t ∷ ts) same = ap (λ b. b || list_any f ts) (same t) ∙ ap (λ b. g t || b) (any-same f g ts same)

any-same_each : (P : Terminal → Type 0) (f g : Terminal → Bool) (ts : List Terminal) → Each P ts → ((t : Terminal) → P t → f t ≡ g t) → list_any f ts ≡ list_any g ts
any-same_each P f g [] each same = refl
any-same_each P f g (t ∷ ts) each same = ap (λ b. b || list_any f ts) (same t each.0) ∙ ap (λ b. g t || b) (any-same_each P f g ts each.1 same)

any-never : (f : Terminal → Bool) (ts : List Terminal) → ((t : Terminal) → f t ≡ false) → list_any f ts ≡ false
any-never f [] never = refl
any-never f (t ∷ ts) never = or_from (f t) (list_any f ts) (never t) (any-never f ts never)

swapped : (a b c d : Bool) → ((a || b) || (c || d)) ≡ ((a || c) || (b || d))
swapped true b c d = refl
swapped false true true d = refl
swapped false true false d = refl
swapped false false true d = refl
swapped false false false d = refl

any-either : (f g : Terminal → Bool) (ts : List Terminal) → (list_any f ts || list_any g ts) ≡ list_any (λ t. f t || g t) ts
any-either f g [] = refl
any-either f g (t ∷ ts) = swapped (f t) (list_any f ts) (g t) (list_any g ts) ∙ ap (λ b. (f t || g t) || b) (any-either f g ts)

-- the test at one more node
test-more : (words : ℕ → ℕ) (p at i node : ℕ) (t : Terminal) →
    ((ltb t.node node && is_end_at words p at i t) || (eqb t.node node && is_end_at (λ k. words node) p at i t)) ≡ (ltb t.node (node + 1) && is_end_at words p at i t)
test-more words p at i node t = elim (cases_order t.node node) [
  | inl same ↦
      ap (λ b. (b && is_end_at words p at i t) || (eqb t.node node && is_end_at (λ k. words node) p at i t)) (le-ltb t.node node (omega arith))
      ∙ (ap (λ b. b && is_end_at (λ k. words node) p at i t) (eq-eqb t.node node same)
      ∙ (ap (λ n. eqb t.identifier p && (is_within_bounds t.least t.greatest at && word_bit (words n) i)) (sym same)
      ∙ sym (ap (λ b. b && is_end_at words p at i t) (lt-ltb t.node (node + 1) (omega arith)))))
  | inr (inl below) ↦
      ap (λ b. (b && is_end_at words p at i t) || (eqb t.node node && is_end_at (λ k. words node) p at i t)) (lt-ltb t.node node below)
      ∙ (ap (λ b. is_end_at words p at i t || (b && is_end_at (λ k. words node) p at i t)) (ne_eqb t.node node (λ same. omega arith))
      ∙ (or-false (is_end_at words p at i t) ∙ sym (ap (λ b. b && is_end_at words p at i t) (lt-ltb t.node (node + 1) (omega arith)))))
  | inr (inr above) ↦
      ap (λ b. (b && is_end_at words p at i t) || (eqb t.node node && is_end_at (λ k. words node) p at i t)) (le-ltb t.node node (omega arith))
      ∙ (ap (λ b. b && is_end_at (λ k. words node) p at i t) (ne_eqb t.node node (λ same. omega arith))
      ∙ sym (ap (λ b. b && is_end_at words p at i t) (le-ltb t.node (node + 1) (omega arith))))
]

test-passed : (words : ℕ → ℕ) (p at i from to : ℕ) → from ≤ to → ((k : ℕ) → from ≤ k → k < to → words k ≡ 0) → (t : Terminal) →
    (ltb t.node from && is_end_at words p at i t) ≡ (ltb t.node to && is_end_at words p at i t)
test-passed words p at i from to order none t = elim (cases_lt t.node from) [
  | inl below ↦
      ap (λ b. b && is_end_at words p at i t) (lt-ltb t.node from below)
      ∙ sym (ap (λ b. b && is_end_at words p at i t) (lt-ltb t.node to (omega arith)))
  | inr above ↦
      ap (λ b. b && is_end_at words p at i t) (le-ltb t.node from above)
      ∙ sym (elim (cases_lt t.node to) [
        | inl inside ↦
            and_right (ltb t.node to) (is_end_at words p at i t)
            (and_right (eqb t.identifier p) (is_within_bounds t.least t.greatest at && word_bit (words t.node) i)
            (and_right (is_within_bounds t.least t.greatest at) (word_bit (words t.node) i) (ap (λ w. word_bit w i) (none t.node above inside) ∙ bit-zero i)))
        | inr past ↦ ap (λ b. b && is_end_at words p at i t) (le-ltb t.node to past)
      ])
]

pub gathering-begins : (terminals : List Terminal) (befores behinds : ℕ → ℕ) (at : ℕ) (table : EndTable) → HasNoEnds table → AreEndsBelow terminals befores behinds at 0 table
gathering-begins terminals befores behinds at table none = record {
  before_is = λ p i below.
      ap (λ w. word_bit w.before i) (none p) ∙ (bit-zero i
      ∙ sym (any-never (λ t. ltb t.node 0 && is_end_at befores p (at + i) i t) terminals (λ t. ap (λ b. b && is_end_at befores p (at + i) i t) (le-ltb t.node 0 (omega arith)))));
  behind_is = λ p i below.
      ap (λ w. word_bit w.behind i) (none p) ∙ (bit-zero i
      ∙ sym (any-never (λ t. ltb t.node 0 && is_end_at behinds p (at + i + 1) i t) terminals (λ t. ap (λ b. b && is_end_at behinds p (at + i + 1) i t) (le-ltb t.node 0 (omega arith)))));
}

pub gathering-passes : (terminals : List Terminal) (befores behinds : ℕ → ℕ) (at from to : ℕ) (table : EndTable) → from ≤ to → ((k : ℕ) → from ≤ k → k < to → (befores k ≡ 0) × (behinds k ≡ 0)) →
    AreEndsBelow terminals befores behinds at from table → AreEndsBelow terminals befores behinds at to table
gathering-passes terminals befores behinds at from to table order none are = record {
  before_is = λ p i below.
      are.before_is p i below
      ∙ any-same (λ t. ltb t.node from && is_end_at befores p (at + i) i t) (λ t. ltb t.node to && is_end_at befores p (at + i) i t) terminals
      (test-passed befores p (at + i) i from to order (λ k above inside. (none k above inside).0));
  behind_is = λ p i below.
      are.behind_is p i below
      ∙ any-same (λ t. ltb t.node from && is_end_at behinds p (at + i + 1) i t) (λ t. ltb t.node to && is_end_at behinds p (at + i + 1) i t) terminals
      (test-passed behinds p (at + i + 1) i from to order (λ k above inside. (none k above inside).1));
}

pub gathering-goes_on : (terminals own : List Terminal) (befores behinds : ℕ → ℕ) (at node : ℕ) (old new : EndTable) → AreEndsBelow terminals befores behinds at node old → AreOfNode terminals node own →
    AddsEnds old new own at (befores node) (behinds node) → AreEndsBelow terminals befores behinds at (node + 1) new
gathering-goes_on terminals own befores behinds at node old new are of adds = record {
  before_is = λ p i below.
      adds.before_is p i below ∙ step befores p (at + i) i (word_bit (words_of old p).before i) (are.before_is p i below);
  behind_is = λ p i below.
      adds.behind_is p i below ∙ step behinds p (at + i + 1) i (word_bit (words_of old p).behind i) (are.behind_is p i below);
}
  where
    step : (words : ℕ → ℕ) (p at' i : ℕ) (bit : Bool) → bit ≡ list_any (λ t. ltb t.node node && is_end_at words p at' i t) terminals →
        (bit || list_any (is_end_at (λ k. words node) p at' i) own) ≡ list_any (λ t. ltb t.node (node + 1) && is_end_at words p at' i t) terminals
    step words p at' i bit is =
        ap (λ b. b || list_any (is_end_at (λ k. words node) p at' i) own) is
        ∙ (ap (λ b. list_any (λ t. ltb t.node node && is_end_at words p at' i t) terminals || b) (of (is_end_at (λ k. words node) p at' i))
        ∙ (any-either (λ t. ltb t.node node && is_end_at words p at' i t) (λ t. eqb t.node node && is_end_at (λ k. words node) p at' i t) terminals
        ∙ any-same (λ t. (ltb t.node node && is_end_at words p at' i t) || (eqb t.node node && is_end_at (λ k. words node) p at' i t))
        (λ t. ltb t.node (node + 1) && is_end_at words p at' i t) terminals (test-more words p at' i node)))

pub gathering-ends : (terminals : List Terminal) (befores behinds : ℕ → ℕ) (at node : ℕ) (table : EndTable) → Each (λ t. t.node < node) terminals → AreEndsBelow terminals befores behinds at node table →
    (p : ℕ) → AreEndsOf terminals befores behinds at p (words_of table p).before (words_of table p).behind
gathering-ends terminals befores behinds at node table inside are p = record {
  before_is = λ i below. are.before_is p i below ∙ whole befores (at + i) i;
  behind_is = λ i below. are.behind_is p i below ∙ whole behinds (at + i + 1) i;
}
  where
    whole : (words : ℕ → ℕ) (at' i : ℕ) → list_any (λ t. ltb t.node node && is_end_at words p at' i t) terminals ≡ list_any (is_end_at words p at' i) terminals
    whole words at' i =
        any-same_each (λ t. t.node < node) (λ t. ltb t.node node && is_end_at words p at' i t) (is_end_at words p at' i) terminals inside
        (λ t below. ap (λ b. b && is_end_at words p at' i t) (lt-ltb t.node node below))
