-- The entries of a piece: one list for each history, which grows by one value for each byte.
use Rattle.std.proofs.Common.{◌≡◌, ℕ, zero, suc, ◌+◌, ◌-◌, ◌<◌, ◌≤◌, ◌⊎◌, ◌↔◌, Bool, true, false, List, [], ◌∷◌, ◌++◌, length, take, Some, slice_get, refl, sym, ap, subst, ◌∙◌, inl, inr, arith, length-append}
use Rattle.std.specs.Prelude.{slice_index}
use Rattle.std.proofs.lemmas.Bool.{cases_lt}
use Rattle.std.proofs.lemmas.Option.{slice_get_within, slice_get-get_or}
use Rattle.std.proofs.lemmas.List.{take-append-le}
use Rattle.std.proofs.Math.Seq.{take-append_seam, get_or-append_seam}
use Rattle.std.proofs.lemmas.List.{get_or_append_left}
use Rattle.hs_base.specs.declared.context.Next.{Next}
use Rattle.hs_base.specs.Lists.{OneOf}
use Rattle.hs_base.specs.Contexts.{class_of, then_bytes, then_ended}
use Rattle.hs_base.specs.Trees.{Tree}
use Rattle.hs_base.specs.Chains.{Piece, nfa, piece_tree, chains_of, ChainSpans}
use Rattle.hs_base.specs.Fields.{Leaves, entered_always}
use Rattle.hs_base.specs.Leaving.{LeavesAt, LeavesBehind, AreEntered, entered_never, IsAtMostWide}
use Rattle.hs_base.specs.LeavingLaws.{HasSpansOfChains}
use Rattle.hs_base.specs.Patterns.{Pattern}
use Rattle.hs_base.specs.Settling.{EndsHere}
use Rattle.hs_base.proofs.SpanLemmas.{byte-append}
use Rattle.hs_base.proofs.StreamContexts.{slice_get-seam}

-- members of lists of truth values by their places

flag-append : (xs ys : List Bool) (i : ℕ) → i < length xs → slice_get (xs ++ ys) i ≡ slice_get xs i
flag-append xs ys i below =
    slice_get-get_or (xs ++ ys) i false (omega (arith, length-append xs ys))
    ∙ (ap (λ b. Some b) (get_or_append_left xs ys false i below) ∙ sym (slice_get-get_or xs i false below))

flag-seam : (xs : List Bool) (x : Bool) → slice_get (xs ++ x ∷ []) (length xs) ≡ Some x
flag-seam xs x =
    slice_get-get_or (xs ++ x ∷ []) (length xs) false (omega (arith, length-append xs (x ∷ [])))
    ∙ ap (λ b. Some b) (get_or-append_seam xs x [] false)

same-flags : (xs ys : List Bool) → length xs ≡ length ys →
    ((q : ℕ) → q < length xs → (slice_get xs q ≡ Some true) ↔ (slice_get ys q ≡ Some true)) → xs ≡ ys
same-flags [] [] size each = refl
same-flags [] (y ∷ ys) size each = absurd (omega arith)
same-flags (x ∷ xs) [] size each = absurd (omega arith)
same-flags (x ∷ xs) (y ∷ ys) size each =
    let head : x ≡ y = by x y (each zero (omega arith)) in
    let tail : xs ≡ ys = same-flags xs ys (omega arith) (λ q below. each (suc q) (omega arith)) in
    cc
  where
    by : (x y : Bool) → (◌≡◌ (Some x) (Some true)) ↔ (◌≡◌ (Some y) (Some true)) → x ≡ y
    by true true both = refl
    by true false both = absurd (let e : Some false ≡ Some true = both.0 refl in cc)
    by false true both = absurd (let e : Some false ≡ Some true = both.1 refl in cc)
    by false false both = refl

pub entries-once : (pieces : List Piece) (u : List ℕ) (xs ys : List Bool) → AreEntered pieces u xs → AreEntered pieces u ys → xs ≡ ys
entries-once pieces u xs ys are are' =
    same-flags xs ys (are.count ∙ sym are'.count)
    (λ q below.
    let within : q < length u = omega (arith, are.count) in
    let there : slice_get u q ≡ Some (slice_index u q) = slice_get-get_or u q 0 within in (
      λ here. (are'.each q (slice_index u q) there).1 ((are.each q (slice_index u q) there).0 here),
      λ here. (are.each q (slice_index u q) there).1 ((are'.each q (slice_index u q) there).0 here),
    ))

module _ (pieces : List Piece) (u : List ℕ) (entered : List Bool) (b : ℕ) (enters : Bool) (are : AreEntered pieces u entered) (by : (enters ≡ true) ↔ LeavesAt pieces u (class_of b)) where
  grown-old : (q c : ℕ) → q < length u → slice_get (u ++ b ∷ []) q ≡ Some c →
      (slice_get (entered ++ enters ∷ []) q ≡ Some true) ↔ LeavesAt pieces (take q (u ++ b ∷ [])) (class_of c)
  grown-old q c below there =
      let old : slice_get u q ≡ Some c = sym (byte-append u (b ∷ []) q below) ∙ there in
      let same : take q (u ++ b ∷ []) ≡ take q u = take-append-le q u (b ∷ []) (omega arith) in
      let flag : slice_get (entered ++ enters ∷ []) q ≡ slice_get entered q = flag-append entered (enters ∷ []) q (omega (arith, are.count)) in (
        λ here. subst (λ s. LeavesAt pieces s (class_of c)) (sym same) ((are.each q c old).0 (sym flag ∙ here)),
        λ leaves. flag ∙ (are.each q c old).1 (subst (λ s. LeavesAt pieces s (class_of c)) same leaves),
      )

  some-same : (x y : Bool) → ◌≡◌ (Some x) (Some y) → x ≡ y
  some-same x y same = cc

  number-same : (x y : ℕ) → ◌≡◌ (Some x) (Some y) → x ≡ y
  number-same x y same = cc

  grown-new : (c : ℕ) → slice_get (u ++ b ∷ []) (length u) ≡ Some c →
      (slice_get (entered ++ enters ∷ []) (length u) ≡ Some true) ↔ LeavesAt pieces (take (length u) (u ++ b ∷ [])) (class_of c)
  grown-new c there =
      let byte : b ≡ c = number-same b c (sym (slice_get-seam u b []) ∙ there) in
      let same : take (length u) (u ++ b ∷ []) ≡ u = take-append_seam u (b ∷ []) in
      let flag : slice_get (entered ++ enters ∷ []) (length u) ≡ Some enters =
      subst (λ n. slice_get (entered ++ enters ∷ []) n ≡ Some enters) are.count (flag-seam entered enters) in (
        λ here.
            subst (λ s. LeavesAt pieces s (class_of c)) (sym same)
            (subst (λ x. LeavesAt pieces u (class_of x)) byte (by.0 (some-same enters true (sym flag ∙ here)))),
        λ leaves.
            flag ∙ ap (λ x. Some x) (by.1 (subst (λ x. LeavesAt pieces u (class_of x)) (sym byte)
            (subst (λ s. LeavesAt pieces s (class_of c)) same leaves))),
      )

  pub entries-grow : AreEntered pieces (u ++ b ∷ []) (entered ++ enters ∷ [])
  entries-grow = record {
    count = omega (arith, length-append entered (enters ∷ []), length-append u (b ∷ []), are.count);
    each = λ q c there. elim (cases_lt q (length u)) [
      | inl below ↦ grown-old q c below there
      | inr above ↦
          let within : q < length (u ++ b ∷ []) = slice_get_within (u ++ b ∷ []) q c there in
          let here : length u ≡ q = omega (arith, length-append u (b ∷ [])) in
          subst (λ n. (slice_get (entered ++ enters ∷ []) n ≡ Some true) ↔ LeavesAt pieces (take n (u ++ b ∷ [])) (class_of c)) here
          (grown-new c (subst (λ n. slice_get (u ++ b ∷ []) n ≡ Some c) (sym here) there))
    ];
  }

-- the first piece

always-count : (u : List ℕ) → length (entered_always u) ≡ length u
always-count [] = refl
always-count (b ∷ u) = ap (λ n. suc n) (always-count u)

always-entered : (u : List ℕ) (i : ℕ) → i < length u → slice_get (entered_always u) i ≡ Some true
always-entered [] i below = absurd (omega arith)
always-entered (b ∷ u) zero below = refl
always-entered (b ∷ u) (suc i) below = always-entered u i (omega arith)

pub first-entered : (u : List ℕ) → AreEntered [] u (entered_always u)
first-entered u = record {
  count = always-count u;
  each = λ q b there. (
    λ _. record { from = length (take q u); spans = refl },
    λ _. always-entered u q (slice_get_within u q b there),
  );
}

-- the bridge to what is left of an expression that is entered at some offsets

pub leaves-listed : (pieces : List Piece) (piece : Piece) (u : List ℕ) (entered : List Bool) (next : Next) → AreEntered pieces u entered →
    LeavesBehind pieces piece u next ↔ Leaves (piece_tree piece) u entered next
leaves-listed pieces piece u entered next are = (
  λ behind. record {
    from = behind.from;
    is_entered = (are.each behind.from behind.byte behind.there).1 behind.entered;
    before = slice_get_within u behind.from behind.byte behind.there;
    spans = behind.spans;
  },
  λ leaves.
      let there : slice_get u leaves.from ≡ Some (slice_index u leaves.from) = slice_get-get_or u leaves.from 0 leaves.before in
      record {
        from = leaves.from;
        byte = slice_index u leaves.from;
        there = there;
        entered = (are.each leaves.from (slice_index u leaves.from) there).0 leaves.is_entered;
        spans = leaves.spans;
      },
)

-- the ends of a pattern

chains-leave : (u : List ℕ) (next : Next) (i : ℕ) (chains : List (List Piece)) →
    OneOf (λ chain. ChainSpans (then_bytes u next) (then_ended next) chain i (length u)) chains → OneOf (λ chain. LeavesAt chain u next) chains
chains-leave u next i [] found = absurd found
chains-leave u next i (chain ∷ chains) (inl here) = inl (record { from = i; spans = here })
chains-leave u next i (chain ∷ chains) (inr there) = inr (chains-leave u next i chains there)

leave-chains : (u : List ℕ) (next : Next) (chains : List (List Piece)) → OneOf (λ chain. LeavesAt chain u next) chains →
    (i : ℕ) × OneOf (λ chain. ChainSpans (then_bytes u next) (then_ended next) chain i (length u)) chains
leave-chains u next [] found = absurd found
leave-chains u next (chain ∷ chains) (inl here) = (here.from, inl here.spans)
leave-chains u next (chain ∷ chains) (inr there) = let (i, found) = leave-chains u next chains there in (i, inr found)

pub ends-leaving : (x : Pattern) (u : List ℕ) (next : Next) → HasSpansOfChains x →
    EndsHere x.id u next x ↔ ((x.least ≤ length u) × (length u ≤ x.greatest) × OneOf (λ chain. LeavesAt chain u next) (chains_of x.tree))
ends-leaving x u next has = (
  λ here. (
    here.above,
    here.below,
    chains-leave u next here.from (chains_of x.tree) ((has (then_bytes u next) (then_ended next) here.from (length u)).0 here.spans),
  ),
  λ (above, below, leaves).
      let (i, found) = leave-chains u next (chains_of x.tree) leaves in
      record {
        named = refl;
        above = above;
        below = below;
        from = i;
        spans = (has (then_bytes u next) (then_ended next) i (length u)).1 found;
      },
)

-- a narrow first piece

never-count : (u : List ℕ) → length (entered_never u) ≡ length u
never-count [] = refl
never-count (b ∷ u) = ap (λ n. suc n) (never-count u)

never-entered : (front : List ℕ) (back : List Bool) (i : ℕ) → length front ≤ i → slice_get (entered_never front ++ back) i ≡ slice_get back (i - length front)
never-entered [] back i above = let e : i ≡ i - 0 = omega arith in ap (slice_get back) e
never-entered (b ∷ front) back zero above = absurd (omega arith)
never-entered (b ∷ front) back (suc i) above =
    let e : i - length front ≡ suc i - suc (length front) = omega arith in
    never-entered front back i (omega arith) ∙ ap (slice_get back) e

pub window-enough : (tree : Tree) (n : ℕ) (front back : List ℕ) (next : Next) → IsAtMostWide n tree → (n ≤ length back) ⊎ (front ≡ []) →
    Leaves tree (front ++ back) (entered_never front ++ entered_always back) next ↔ LeavesBehind [] (nfa tree) (front ++ back) next
window-enough tree n front back next narrow window = (
  λ leaves. record {
    from = leaves.from;
    byte = slice_index (front ++ back) leaves.from;
    there = slice_get-get_or (front ++ back) leaves.from 0 leaves.before;
    entered = record { from = length (take leaves.from (front ++ back)); spans = refl };
    spans = leaves.spans;
  },
  λ behind.
      let within : behind.from < length (front ++ back) = slice_get_within (front ++ back) behind.from behind.byte behind.there in
      let near : length (front ++ back) ≤ behind.from + n =
      narrow (then_bytes (front ++ back) next) (then_ended next) behind.from (length (front ++ back)) behind.spans in
      let size : length (front ++ back) ≡ length front + length back = length-append front back in
      let recent : length front ≤ behind.from = by window behind.from n near size in
      record {
        from = behind.from;
        is_entered = never-entered front (entered_always back) behind.from recent ∙ always-entered back (behind.from - length front) (omega arith);
        before = within;
        spans = behind.spans;
      },
)
  where
    by : (n ≤ length back) ⊎ (front ≡ []) → (from m : ℕ) → length (front ++ back) ≤ from + n → length (front ++ back) ≡ length front + length back → length front ≤ from
    by (inl wide) from m near size = omega arith
    by (inr none) from m near size = let e : length front ≡ 0 = ap length none in omega arith
