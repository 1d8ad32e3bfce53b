-- Literals over a block of bytes.
use Rattle.std.proofs.Common.{◌≡◌, ◌↔◌, ℕ, suc, ◌+◌, ◌-◌, ◌<◌, ◌≤◌, Bool, true, false, ◌&&◌, List, [], ◌∷◌, ◌++◌, length, map, take, drop, Some, slice_get, sym, ap, subst, ◌∙◌, inl, inr, arith, length-append, append_assoc}
use Rattle.std.specs.Prelude.{unwrap_or, slice_index}
use Rattle.std.proofs.lemmas.Bool.{cases_lt}
use Rattle.std.proofs.lemmas.List.{take-append-drop, take_at, take-append-le, take_all}
use Rattle.hs_base.specs.declared.context.Next.{Next}
use Rattle.hs_base.specs.declared.context.Next.TheVariants as after
use Rattle.hs_base.specs.Chains.{lit, piece_tree}
use Rattle.hs_base.specs.Contexts.{class_of, then_bytes, then_ended}
use Rattle.hs_base.specs.Fields.{Leaves}
use Rattle.hs_base.specs.Lists.{Each}
use Rattle.hs_base.specs.LiteralEnds.{EndsAt}
use Rattle.hs_base.specs.LiteralRows.{IsEnteredBack, TellsEntries}
use Rattle.hs_base.specs.Leaving.{IsEmptyAt}
use Rattle.hs_base.specs.Literals.{LiteralByte, literal_set}
use Rattle.hs_base.specs.Trees.{class, trees_of}
use Rattle.hs_base.specs.Spans.{Spans, CatSpans}
use Rattle.hs_base.proofs.ContextLemmas.{first_of_both, second_of_both, of_both}
use Rattle.hs_base.proofs.ListLemmas.{each-left}
use Rattle.hs_base.proofs.LiteralRowLemmas.{literals-leave, literal-spans_end}
use Rattle.hs_block.specs.declared.literal.Hits.{Hits}
use Rattle.hs_bits.specs.WordBits.{word_bit, bits_of}
use Rattle.hs_block.specs.Scans.{Scans, IsLeftBefore, IsLeftBehind}
use Rattle.hs_block.specs.LiteralBlocks.{turned, TellsCarried, was_entered, is_hit, AreHits}
use Rattle.hs_bits.proofs.BlockLemmas.{length-block, length-entered}
use Rattle.hs_block.proofs.HandingLemmas.{get-left, get-right, get-bits}
use Rattle.hs_block.proofs.LiteralWordLemmas.{was-inside, was-behind, turned-above, turned-below, entries-same}

-- Where a literal ends, by a longer text.

pub ends-longer : (literal : List LiteralByte) (w v : List ℕ) (offset : ℕ) → EndsAt literal w offset → EndsAt literal (w ++ v) offset
ends-longer literal w v offset ends = record {
  before = ends.before;
  taken = ends.taken;
  behind = ends.behind ++ v;
  split =
      ap (λ t. t ++ v) ends.split
      ∙ (append_assoc ends.before (ends.taken ++ ends.behind) v ∙ ap (λ t. ends.before ++ t) (append_assoc ends.taken ends.behind v));
  is = ends.is;
  at = ends.at;
}

pub ends-front : (literal : List LiteralByte) (w v : List ℕ) (offset : ℕ) → offset ≤ length w → EndsAt literal (w ++ v) offset → EndsAt literal w offset
ends-front literal w v offset within ends =
    let whole : w ++ v ≡ (ends.before ++ ends.taken) ++ ends.behind = ends.split ∙ sym (append_assoc ends.before ends.taken ends.behind) in
    let count : length (ends.before ++ ends.taken) ≡ offset = length-append ends.before ends.taken ∙ sym ends.at in
    let front : take offset w ≡ ends.before ++ ends.taken =
    sym (take-append-le offset w v within) ∙ (ap (take offset) whole ∙ take_at (ends.before ++ ends.taken) ends.behind offset count) in
    record {
      before = ends.before;
      taken = ends.taken;
      behind = drop offset w;
      split = sym (take-append-drop offset w) ∙ (ap (λ t. t ++ drop offset w) front ∙ append_assoc ends.before ends.taken (drop offset w));
      is = ends.is;
      at = ends.at;
    }

-- The entries behind so many bytes of a block.

entry-inside : (n i k : ℕ) (u w : List ℕ) (entered bits : List Bool) → length entered ≡ length u → length w ≡ length u + i → i ≤ k → k < n →
    IsEnteredBack n u entered (k - i) ↔ IsEnteredBack n w (entered ++ bits) k
entry-inside n i k u w entered bits count long far below = (
  λ back.
      let ends : back.from + suc (k - i) ≡ length u = back.ends in
      record {
        below = below;
        from = back.from;
        ends = omega arith;
        is_entered = get-left entered bits back.from (omega arith) ∙ back.is_entered;
      },
  λ back.
      let ends : back.from + suc k ≡ length w = back.ends in
      record {
        below = omega arith;
        from = back.from;
        ends = omega arith;
        is_entered = sym (get-left entered bits back.from (omega arith)) ∙ back.is_entered;
      },
)

entry-here : (n i k enters : ℕ) (u w : List ℕ) (entered : List Bool) → length entered ≡ length u → length w ≡ length u + i → k < i → k < n →
    (word_bit enters (i - suc k) ≡ true) ↔ IsEnteredBack n w (entered ++ bits_of enters i) k
entry-here n i k enters u w entered count long near below =
    let j : ℕ = i - suc k in
    let there : slice_get (entered ++ bits_of enters i) (length entered + j) ≡ Some (word_bit enters j) = get-right entered (bits_of enters i) j ∙ get-bits enters i j (omega arith) in (
      λ set. record {
        below = below;
        from = length entered + j;
        ends = omega arith;
        is_entered = there ∙ ap (λ b. Some b) set;
      },
      λ back.
          let ends : back.from + suc k ≡ length w = back.ends in
          let place : back.from ≡ length entered + j = omega arith in
          let same : Some (word_bit enters j) ≡ Some true = sym there ∙ subst (λ m. slice_get (entered ++ bits_of enters i) m ≡ Some true) place back.is_entered in
          ap (λ o. unwrap_or o (word_bit enters j)) same,
    )

-- the bits behind so many bytes
pub moved : (n enters carry i : ℕ) → ℕ → Bool
moved n enters carry i = turned n (λ p. was_entered n enters carry (i + p))

pub tells-moved : (n enters carry : ℕ) (u bytes : List ℕ) (entered : List Bool) (i : ℕ) → length entered ≡ length u → i ≤ length bytes → TellsCarried n carry u entered →
    TellsEntries n (moved n enters carry i) (u ++ take i bytes) (entered ++ bits_of enters i)
unfolding moved
tells-moved n enters carry u bytes entered i count within tells k =
    elim (cases_lt k n) [
      | inl below ↦
          let p : ℕ = n - suc k in
          let long : length (u ++ take i bytes) ≡ length u + i = length-block u bytes i within in
          let here : moved n enters carry i k ≡ was_entered n enters carry (i + p) = turned-below n (λ q. was_entered n enters carry (i + q)) k below in
          elim (cases_lt k i) [
            | inl near ↦
                let e : i + p - n ≡ i - suc k = omega arith in
                let same : moved n enters carry i k ≡ word_bit enters (i - suc k) = here ∙ (was-behind n enters carry (i + p) (omega arith) ∙ ap (word_bit enters) e) in
                let told = entry-here n i k enters u (u ++ take i bytes) entered count long near below in
                ((λ set. told.0 (sym same ∙ set)), (λ back. same ∙ told.1 back))
            | inr far ↦
                let e : i + p ≡ n - suc (k - i) = omega arith in
                let old : turned n (word_bit carry) (k - i) ≡ word_bit carry (n - suc (k - i)) = turned-below n (word_bit carry) (k - i) (omega arith) in
                let same : moved n enters carry i k ≡ turned n (word_bit carry) (k - i) =
                here ∙ (was-inside n enters carry (i + p) (omega arith) ∙ (ap (word_bit carry) e ∙ sym old)) in
                let told = entry-inside n i k u (u ++ take i bytes) entered (bits_of enters i) count long far below in
                ((λ set. told.0 ((tells (k - i)).0 (sym same ∙ set))), (λ back. same ∙ (tells (k - i)).1 (told.1 back)))
          ]
      | inr above ↦ (
        (λ set. absurd (let e : false ≡ true = sym (turned-above n (λ q. was_entered n enters carry (i + q)) k above) ∙ set in cc)),
        (λ back. absurd (let h : k < n = back.below in omega arith)),
      )
    ]

-- Where a literal is left in a block.

literal-left : (literal : List LiteralByte) (n enters carry : ℕ) (u bytes : List ℕ) (entered : List Bool) (i : ℕ) (next : Next) → length literal ≡ n → 1 ≤ n → length entered ≡ length u →
    Each (λ b. b < 256) (u ++ bytes) → i ≤ length bytes → TellsCarried n carry u entered →
    Leaves (piece_tree (lit literal)) (u ++ take i bytes) (entered ++ bits_of enters i) next ↔ ((was_entered n enters carry i ≡ true) × EndsAt literal (u ++ bytes) (length u + i))
unfolding moved
literal-left literal n enters carry u bytes entered i next size some count small within tells =
    let w : List ℕ = u ++ take i bytes in
    let m : ℕ = n - 1 in
    let e : n ≡ suc m = omega arith in
    let long : length w ≡ length u + i = length-block u bytes i within in
    let rest : w ++ drop i bytes ≡ u ++ bytes = append_assoc u (take i bytes) (drop i bytes) ∙ ap (λ t. u ++ t) (take-append-drop i bytes) in
    let small_w : Each (λ b. b < 256) w = each-left (λ b. b < 256) w (drop i bytes) (subst (Each (λ b. b < 256)) (sym rest) small) in
    let now : TellsEntries n (moved n enters carry i) w (entered ++ bits_of enters i) = tells-moved n enters carry u bytes entered i count within tells in
    let oldest : moved n enters carry i m ≡ was_entered n enters carry i =
    turned-below n (λ q. was_entered n enters carry (i + q)) m (omega arith) ∙ ap (was_entered n enters carry) (let f : i + (n - suc m) ≡ i = omega arith in f) in
    let leaves = literals-leave literal m (moved n enters carry i) w (entered ++ bits_of enters i) next (size ∙ e) (omega (arith, length-entered entered enters i))
    (subst (λ k. TellsEntries k (moved n enters carry i) w (entered ++ bits_of enters i)) e now) in
    let wide : moved n enters carry i m ≡ true → n ≤ length w = λ set.
    let back = (now m).0 set in
    let ends : back.from + suc m ≡ length w = back.ends in
    omega arith in
    let spans : n ≤ length w → Spans w false (piece_tree (lit literal)) (length w - suc m) (length w) ↔ EndsAt literal (u ++ bytes) (length u + i) = λ room.
    let end : length w - suc m + length literal ≡ length w = omega arith in
    let told = literal-spans_end literal w false (length w - suc m) (omega arith) small_w in (
      (λ span. subst (λ t. EndsAt literal t (length u + i)) rest (ends-longer literal w (drop i bytes) (length u + i)
          (subst (EndsAt literal w) (end ∙ long) (told.0 (subst (Spans w false (piece_tree (lit literal)) (length w - suc m)) (sym end) span))))),
      (λ ends. subst (Spans w false (piece_tree (lit literal)) (length w - suc m)) end
          (told.1 (subst (EndsAt literal w) (sym (end ∙ long)) (ends-front literal w (drop i bytes) (length u + i) (omega arith) (subst (λ t. EndsAt literal t (length u + i)) (sym rest) ends))))),
    ) in (
      (λ left. let both = leaves.0 left in (sym oldest ∙ both.0, (spans (wide both.0)).0 both.1)),
      (λ both. let set : moved n enters carry i m ≡ true = oldest ∙ both.0 in leaves.1 (set, (spans (wide set)).1 both.1)),
    )

both-told : (word hit entered : Bool) (P : Type 0) (Q : Type 0) → word ≡ (hit && entered) → (hit ≡ true) ↔ P → Q ↔ ((entered ≡ true) × P) → (word ≡ true) ↔ Q
both-told word hit entered P Q is told left = (
  (λ set. let both : (hit && entered) ≡ true = sym is ∙ set in left.1 (second_of_both hit entered both, told.0 (first_of_both hit entered both))),
  (λ q. let both = left.0 q in is ∙ of_both hit entered (told.1 both.1) both.0),
)

pub literal-scans : (literal : List LiteralByte) (n : ℕ) (hits : Hits) (enters carry before behind next : ℕ) (u bytes : List ℕ) (entered : List Bool) → length literal ≡ n → 1 ≤ n →
    length entered ≡ length u → Each (λ b. b < 256) (u ++ bytes) → TellsCarried n carry u entered → AreHits hits literal u bytes →
    ((i : ℕ) → i < length bytes → word_bit before i ≡ (is_hit hits i && was_entered n enters carry i)) → ((i : ℕ) → length bytes ≤ i → word_bit before i ≡ false) →
    ((i : ℕ) → i < length bytes → word_bit behind i ≡ (word_bit hits.behind i && was_entered n enters carry (i + 1))) → ((i : ℕ) → length bytes ≤ i → word_bit behind i ≡ false) →
    ((i : ℕ) → i < n → word_bit next i ≡ was_entered n enters carry (length bytes + i)) → Scans (TellsCarried n next) (piece_tree (lit literal)) u entered bytes enters before behind
unfolding moved
literal-scans literal n hits enters carry before behind next u bytes entered size some count small tells hit before_is before_above behind_is behind_above next_is = record {
  field =
      entries-same n (moved n enters carry (length bytes)) (turned n (word_bit next)) (u ++ bytes) (entered ++ bits_of enters (length bytes))
      (λ k below.
      turned-below n (λ q. was_entered n enters carry (length bytes + q)) k below
      ∙ (sym (next_is (n - suc k) (omega arith)) ∙ sym (turned-below n (word_bit next) k below))) (turned-above n (word_bit next))
      (subst (λ t. TellsEntries n (moved n enters carry (length bytes)) (u ++ t) (entered ++ bits_of enters (length bytes))) (take_all (length bytes) bytes (omega arith))
      (tells-moved n enters carry u bytes entered (length bytes) count (omega arith) tells));
  before_is = record {
    below = λ i low.
        both-told (word_bit before i) (is_hit hits i) (was_entered n enters carry i) (EndsAt literal (u ++ bytes) (length u + i)) (IsLeftBefore (piece_tree (lit literal)) u entered bytes enters i)
        (before_is i low) (hit i (omega arith)) (literal-left literal n enters carry u bytes entered i (class_of (slice_index bytes i)) size some count small (omega arith) tells);
    above = before_above;
  };
  behind_is = record {
    below = λ i low.
        let e : suc i ≡ i + 1 = omega arith in
        both-told (word_bit behind i) (word_bit hits.behind i) (was_entered n enters carry (i + 1)) (EndsAt literal (u ++ bytes) (length u + (i + 1))) (IsLeftBehind (piece_tree (lit literal)) u entered bytes enters i)
        (behind_is i low) (subst (λ k. (word_bit hits.behind i ≡ true) ↔ EndsAt literal (u ++ bytes) (length u + k)) e (hit (suc i) (omega arith)))
        (literal-left literal n enters carry u bytes entered (i + 1) after.Unknown size some count small (omega arith) tells);
    above = behind_above;
  };
}

pub ends-stay : (literal : List LiteralByte) (w v : List ℕ) (offset : ℕ) → offset ≤ length w → EndsAt literal w offset ↔ EndsAt literal (w ++ v) offset
ends-stay literal w v offset within = (ends-longer literal w v offset, ends-front literal w v offset within)

-- the trees of a literal have spans that don't shrink
spans-forward : (w : List ℕ) (ended : Bool) (xs : List LiteralByte) (i j : ℕ) → CatSpans w ended (trees_of (map (λ x. class (literal_set x)) xs)) i j → i ≤ j
spans-forward w ended [] i j span = omega (arith, span)
spans-forward w ended (x ∷ xs) i j (m, one, rest) =
    let e : m ≡ i + 1 = one.1 in
    omega (arith, spans-forward w ended xs m j rest)

pub never-empty : (literal : List LiteralByte) (u : List ℕ) (next : Next) → 1 ≤ length literal → IsEmptyAt (piece_tree (lit literal)) u next → ⊥
never-empty [] u next some = absurd (omega arith)
never-empty (x ∷ xs) u next some = λ (m, one, rest).
    let e : m ≡ length u + 1 = one.1 in
    absurd (let h : m ≤ length u = spans-forward (then_bytes u next) (then_ended next) xs m (length u) rest in omega arith)
