-- The rows of a block are the fields of its expression.
use Rattle.std.proofs.Common.{◌≡◌, ◌↔◌, ℕ, zero, suc, ◌+◌, ◌<◌, ◌≤◌, Bool, true, false, ◌&&◌, ◌||◌, List, [], ◌∷◌, ◌++◌, length, get_or, take, slice_get, Some, sym, ap, subst, ◌∙◌, inl, inr, arith}
use Rattle.std.proofs.lemmas.List.{append-nil}
use Rattle.hs_base.specs.declared.context.Next.{Next}
use Rattle.hs_base.specs.declared.context.Prev.{Prev}
use Rattle.hs_base.specs.Contexts.{Context, class_of, context_at, context_of, prev_at}
use Rattle.hs_base.specs.Fields.{Leaves}
use Rattle.hs_base.specs.Spans.{IsByteOf}
use Rattle.hs_base.specs.Trees.{Tree}
use Rattle.hs_base.specs.WrittenOut.{Core, IsReached, count, set_of, write_out}
use Rattle.hs_base.proofs.ContextLemmas.{first_of_both, second_of_both, of_both, of_either, left_of_either, right_of_either}
use Rattle.hs_engine.specs.declared.automaton.Automaton.{Automaton}
use Rattle.hs_engine.specs.Agreement.{IsAccepting, StepsTo, steps_in, steps_on}
use Rattle.hs_engine.specs.AnyBelow.{any_below}
use Rattle.hs_engine.specs.Automata.{in_mask}
use Rattle.hs_engine.specs.Between.{between}
use Rattle.hs_engine.specs.Tables.{IsFor, Runs}
use Rattle.hs_engine.proofs.AgreementLemmas.{accepting-leaves, leaves-accepting, reached-steps, steps-reached}
use Rattle.hs_engine.proofs.PositionLemmas.{reach-below}
use Rattle.hs_block.specs.declared.streams.Streams.{Streams}
use Rattle.hs_bits.specs.BlockContexts.{context_before, prev_before}
use Rattle.hs_block.specs.Rows.{is_next, row}
use Rattle.hs_block.specs.StreamTables.{TellsOf, comes_before, stream_rules}
use Rattle.hs_bits.specs.WordBits.{bits_of, word_bit}
use Rattle.hs_block.proofs.AnyLemmas.{any-some, some-any}
use Rattle.hs_bits.proofs.BlockLemmas.{block-more, entered-more, length-block, length-entered}
use Rattle.hs_bits.proofs.ContextLemmas.{prev-there}

-- a position that is reached is one of so many
pub reached-below : (r : Core) (u : List ℕ) (entered : List Bool) (x : ℕ) → IsReached r u entered x → x < count r
reached-below r u entered x reached = reach-below (context_at u false) (λ set i. IsByteOf set u i) r x reached.from (length u) reached.reached

module _ (s : Streams) (a : Automaton) (tells : TellsOf s a) (r : Core) (tables : IsFor a r) where
  abbrev Size : ℕ
  Size = s.size

  -- one step more
  module _ (u : List ℕ) (entered : List Bool) (len : length entered ≡ length u) (live : ℕ → Bool) (field : (x : ℕ) → x < Size → (live x ≡ true) ↔ IsReached r u entered x) (enters : ℕ) (bytes : List ℕ) (prev : Prev) (i : ℕ)
      (byte : get_or bytes i 0 < 256) (behind : prev_before prev bytes i ≡ prev_at u (length u)) where
    abbrev B : ℕ
    B = get_or bytes i 0

    abbrev Here : Context
    Here = context_of u (class_of B)

    abbrev Entered : ℕ → Bool
    Entered x = in_mask (slice_get s.enters.items x) (context_before prev bytes i)

    entered-is : (x : ℕ) → Entered x ≡ in_mask (slice_get s.enters.items x) Here
    entered-is x = ap (λ p. in_mask (slice_get s.enters.items x) (between p (class_of B))) behind

    -- whether another may come before it there
    from-is : (x y : ℕ) → comes_before s x y (context_before prev bytes i) ≡ comes_before s x y Here
    from-is x y = ap (λ p. comes_before s x y (between p (class_of B))) behind

    abbrev On : ℕ → Bool
    On x = any_below Size (λ y. live y && (stream_rules s prev enters bytes).follows i y x)

    abbrev Begins : ℕ → Bool
    Begins x = (stream_rules s prev enters bytes).begins i x

    member : (x : ℕ) → x < Size → (stream_rules s prev enters bytes).takes i x ≡ true → slice_get (set_of r x) B ≡ Some true
    member x below is = (tables.sets x B byte).0 (sym (tells.takes_are x B (omega (arith, below, tells.size_is)) byte) ∙ is)

    next-steps : (x : ℕ) → x < Size → is_next (stream_rules s prev enters bytes) i live x ≡ true → StepsTo r u entered B (word_bit enters i) x
    next-steps x below is =
        let taken = member x below (first_of_both ((stream_rules s prev enters bytes).takes i x) (Begins x || On x) is) in
        elim (of_either (Begins x) (On x) (second_of_both ((stream_rules s prev enters bytes).takes i x) (Begins x || On x) is)) [
          | inl begins ↦
              steps_in taken (first_of_both (word_bit enters i) (Entered x) begins)
              (sym (tables.enters x Here) ∙ (sym (tells.enters_are x Here) ∙ (sym (entered-is x) ∙ second_of_both (word_bit enters i) (Entered x) begins)))
          | inr on ↦
              let (y, inside, led) = any-some Size (λ y. live y && (stream_rules s prev enters bytes).follows i y x) on in
              steps_on y taken ((field y inside).0 (first_of_both (live y) ((stream_rules s prev enters bytes).follows i y x) led))
              (sym (tables.follows y x (prev_at u (length u)) B)
              ∙ (sym (tells.follows_are x y Here (omega (arith, below, tells.size_is))) ∙ (sym (from-is x y) ∙ second_of_both (live y) ((stream_rules s prev enters bytes).follows i y x) led)))
        ]

    takes-it : (x : ℕ) → x < Size → slice_get (set_of r x) B ≡ Some true → (stream_rules s prev enters bytes).takes i x ≡ true
    takes-it x below is = tells.takes_are x B (omega (arith, below, tells.size_is)) byte ∙ (tables.sets x B byte).1 is

    steps-next : (x : ℕ) → x < Size → StepsTo r u entered B (word_bit enters i) x → is_next (stream_rules s prev enters bytes) i live x ≡ true
    steps-next x below (steps_in taken entering is) =
        of_both ((stream_rules s prev enters bytes).takes i x) (Begins x || On x) (takes-it x below taken)
        (left_of_either (Begins x) (On x) (of_both (word_bit enters i) (Entered x) entering (entered-is x ∙ (tells.enters_are x Here ∙ (tables.enters x Here ∙ is)))))
    steps-next x below (steps_on y taken reached is) =
        let inside : y < Size = omega (arith, reached-below r u entered y reached, tells.size_is, tables.size) in
        of_both ((stream_rules s prev enters bytes).takes i x) (Begins x || On x) (takes-it x below taken)
        (right_of_either (Begins x) (On x)
        (some-any Size (λ y. live y && (stream_rules s prev enters bytes).follows i y x) y inside
        (of_both (live y) ((stream_rules s prev enters bytes).follows i y x) ((field y inside).1 reached)
        (from-is x y ∙ (tells.follows_are x y Here (omega (arith, below, tells.size_is)) ∙ (tables.follows y x (prev_at u (length u)) B ∙ is))))))

    pub field-next : (x : ℕ) → x < Size → (is_next (stream_rules s prev enters bytes) i live x ≡ true) ↔ IsReached r (u ++ B ∷ []) (entered ++ word_bit enters i ∷ []) x
    field-next x below = (
      λ is. steps-reached r u entered B (word_bit enters i) x len (next-steps x below is),
      λ reached. steps-next x below (reached-steps r u entered B (word_bit enters i) x len reached),
    )

  module _ (u : List ℕ) (entered : List Bool) (len : length entered ≡ length u) (start : ℕ → Bool) (field : (x : ℕ) → (start x ≡ true) ↔ IsReached r u entered x) (enters : ℕ) (bytes : List ℕ)
      (prev : Prev) (behind : prev ≡ prev_at u (length u)) (small : (i : ℕ) → i < length bytes → get_or bytes i 0 < 256) where
    pub rows-field : (i : ℕ) → i ≤ length bytes → (x : ℕ) → x < Size → (row (stream_rules s prev enters bytes) start i x ≡ true) ↔ IsReached r (u ++ take i bytes) (entered ++ bits_of enters i) x
    rows-field zero within x below = subst (λ w. (start x ≡ true) ↔ IsReached r w (entered ++ []) x) (sym (append-nil u)) (subst (λ e. (start x ≡ true) ↔ IsReached r u e x) (sym (append-nil entered)) (field x))
    rows-field (suc i) within x below =
        let e : i + 1 ≡ suc i = omega arith in
        let here : i < length bytes = omega arith in
        let count_is : length (entered ++ bits_of enters i) ≡ length (u ++ take i bytes) = omega (arith, len, length-block u bytes i (omega arith), length-entered entered enters i) in
        let live : ℕ → Bool = row (stream_rules s prev enters bytes) start i in
        let P : List ℕ → List Bool → Type 0 = λ w v. (is_next (stream_rules s prev enters bytes) i live x ≡ true) ↔ IsReached r w v x in
        subst (λ k. P (u ++ take k bytes) (entered ++ bits_of enters k)) e
        (subst (λ w. P w (entered ++ bits_of enters (i + 1))) (block-more u bytes i here)
        (subst (λ v. P ((u ++ take i bytes) ++ get_or bytes i 0 ∷ []) v) (entered-more entered enters i)
        (field-next (u ++ take i bytes) (entered ++ bits_of enters i) count_is live (rows-field i (omega arith)) enters bytes prev i (small i here) (prev-there prev u bytes i behind (omega arith)) x below)))

-- an expression is left where a position is live that accepts
pub accepts-leave : (s : Streams) (a : Automaton) → TellsOf s a → (tree : Tree) → Runs a tree → (u : List ℕ) (entered : List Bool) (live : ℕ → Bool) →
    ((x : ℕ) → x < s.size → (live x ≡ true) ↔ IsReached (write_out tree) u entered x) → (next : Next) (c : Context) → c ≡ context_of u next →
    (any_below s.size (λ x. live x && in_mask (slice_get s.accepts.items x) c) ≡ true) ↔ Leaves tree u entered next
accepts-leave s a tells tree runs u entered live field next c is_context = (
  λ any.
      let (x, below, is) = any-some s.size (λ x. live x && in_mask (slice_get s.accepts.items x) c) any in
      accepting-leaves tree u entered next runs.plain runs.ends_last (record {
        position = x;
        reached = (field x below).0 (first_of_both (live x) (in_mask (slice_get s.accepts.items x) c) is);
        accepts =
            sym (runs.tables.accepts x (context_of u next))
            ∙ (sym (tells.accepts_are x (context_of u next)) ∙ (sym (accept-is x) ∙ second_of_both (live x) (in_mask (slice_get s.accepts.items x) c) is));
      }),
  λ leaves.
      let is : IsAccepting (write_out tree) u entered next = leaves-accepting tree u entered next runs.plain runs.ends_last leaves in
      let x = is.position in
      let below : x < s.size = omega (arith, reached-below (write_out tree) u entered x is.reached, tells.size_is, runs.tables.size) in
      some-any s.size (λ x. live x && in_mask (slice_get s.accepts.items x) c) x below
      (of_both (live x) (in_mask (slice_get s.accepts.items x) c) ((field x below).1 is.reached)
      (accept-is x ∙ (tells.accepts_are x (context_of u next) ∙ (runs.tables.accepts x (context_of u next) ∙ is.accepts)))),
)
  where
    accept-is : (x : ℕ) → in_mask (slice_get s.accepts.items x) c ≡ in_mask (slice_get s.accepts.items x) (context_of u next)
    accept-is x = ap (λ c. in_mask (slice_get s.accepts.items x) c) is_context
