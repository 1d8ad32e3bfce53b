-- An engine over the last bytes, where it was at rest before.
use Rattle.std.proofs.Common.{◌≡◌, ℕ, zero, suc, ◌+◌, ◌-◌, ◌<◌, ◌≤◌, ◌⊎◌, ◌↔◌, Bool, true, false, ◌||◌, List, [], ◌∷◌, ◌++◌, length, get_or, replicate, take, drop, slice_index, eqb, Some, None, refl, sym, ap, subst, ◌∙◌, inl, inr, arith, length-append, length-drop, append_assoc}
use Rattle.std.proofs.lemmas.List.{length-map, map-append, append-nil, take_more, length-take-le, take-append-drop, length-replicate, get_or-drop, get_or-take, get_or-append-add}
use Rattle.std.proofs.lemmas.Option.{slice_get-get_or}
use Rattle.std.proofs.Math.Seq.{take-add}
use Rattle.std.proofs.Common.{Option}
use Rattle.std.specs.Option.{is_some}
use Rattle.hs_base.specs.declared.context.Mask.{Mask}
use Rattle.hs_base.specs.declared.context.Next.{Next}
use Rattle.hs_base.specs.declared.context.NextSet.{NextSet}
use Rattle.hs_base.specs.declared.context.Prev.{Prev}
use Rattle.hs_base.specs.Assertions.{line_feed, is_word_byte}
use Rattle.hs_base.specs.Chains.{Piece, nfa, IsFitChain}
use Rattle.hs_base.specs.Contexts.{class_of, prev_at, prev_behind, prev_by}
use Rattle.hs_base.specs.ContextSets.{has_context, has_next}
use Rattle.hs_base.specs.Fields.{entered_always}
use Rattle.hs_base.specs.Leaving.{IsAtMostWide, IsEmptyAt, LeavesAt, LeavesBehind, entered_never}
use Rattle.hs_base.specs.Lists.{Each}
use Rattle.hs_base.specs.Trees.{Tree}
use Rattle.hs_base.proofs.BitLemmas.{same-places}
use Rattle.hs_base.proofs.BitOnceLemmas.{each-below}
use Rattle.hs_base.proofs.ChainStreamLemmas.{last-leaves, leaves-last, leaving-begins}
use Rattle.hs_base.proofs.EntryLemmas.{window-enough}
use Rattle.hs_base.proofs.StreamContexts.{prev-append}
use Rattle.hs_bits.specs.WordBits.{AreSet, bits_of}
use Rattle.hs_block.specs.Blocks.{IsFieldOf}
use Rattle.hs_engine.specs.Engines.{Meaning, IsAsleep, IsQuiet, IsStart, TakesByte, TellsLeaves}
use Rattle.hs_nodes.specs.Blocks.{IsPast, prev_by_count}
use Rattle.hs_nodes.specs.Contexts.{IsNull}
use Rattle.hs_nodes.specs.LookBacks.{IsRunBack, IsStream}
use Rattle.hs_nodes.specs.Nodes.{window_size}
use Rattle.hs_nodes.proofs.StartingLemmas.{bits-all}

never-push : (u : List ℕ) (b : ℕ) → entered_never (u ++ b ∷ []) ≡ entered_never u ++ false ∷ []
never-push u b = map-append (λ b. false) u (b ∷ [])

always-push : (u : List ℕ) (b : ℕ) → entered_always (u ++ b ∷ []) ≡ entered_always u ++ true ∷ []
always-push u b = map-append (λ b. true) u (b ∷ [])

pub never-size : (u : List ℕ) → length (entered_never u) ≡ length u
never-size u = length-map u (λ b. false)

always-size : (u : List ℕ) → length (entered_always u) ≡ length u
always-size u = length-map u (λ b. true)

pub take-next : (v : List ℕ) (k : ℕ) → k < length v → take (suc k) v ≡ take k v ++ get_or v k 0 ∷ []
take-next v k below = let e : suc k ≡ k + 1 = omega arith in ap (λ n. take n v) e ∙ take_more v k 0 below

pub always-all : (xs : List ℕ) → entered_always xs ≡ replicate (length xs) true
always-all [] = refl
always-all (x ∷ xs) = ap (λ es. true ∷ es) (always-all xs)

drop-none : (k : ℕ) → drop {A = ℕ} k [] ≡ []
drop-none zero = refl
drop-none (suc k) = refl

dropped : (n : ℕ) (u : List ℕ) (i k : ℕ) → k ≡ n + i → drop k u ≡ drop i (drop n u)
dropped zero u i k e = let same : k ≡ i = omega (arith, e) in ap (λ j. drop j u) same
dropped (suc n) [] i k e = drop-none k ∙ sym (drop-none i)
dropped (suc n) (x ∷ u) i zero e = absurd (omega (arith, e))
dropped (suc n) (x ∷ u) i (suc k) e = dropped n u i k (omega (arith, e))

module _ (m : Meaning) (tree : Tree) (runs : m.is_for tree) (listed : m.always ≡ false) where
  -- what is at rest stays, not entered
  module _ (part : List ℕ) (start : IsStart m part) (quiet : IsQuiet m part) where
    quiet-take : (v : List ℕ) → Each (λ b. b < 256) v → (k : ℕ) → k ≤ length v → m.field part tree (take k v) (entered_never (take k v))
    quiet-take v each zero within = start tree runs
    quiet-take v each (suc k) within =
        let b : ℕ = get_or v k 0 in
        let w : List ℕ = take k v in
        let moved : m.field part tree (w ++ b ∷ []) (entered_never w ++ (m.always || false) ∷ []) =
        quiet.stays listed b (each-below v each k) tree w (entered_never w) runs (never-size w) (quiet-take v each k (omega (arith, within))) in
        let same : entered_never w ++ (m.always || false) ∷ [] ≡ entered_never (w ++ b ∷ []) = ap (λ a. entered_never w ++ (a || false) ∷ []) listed ∙ sym (never-push w b) in
        subst (λ z. m.field part tree z (entered_never z)) (sym (take-next v k (omega (arith, within))))
        (subst (λ es. m.field part tree (w ++ b ∷ []) es) same moved)

  -- Behind n + i bytes of u, of which it is entered at the last i.
  pub record IsRunTo (u : List ℕ) (n i : ℕ) (part : List ℕ) (prev : Prev) : Type 0 where
    pub field : m.field part tree (take (n + i) u) (entered_never (take n u) ++ entered_always (take i (drop n u)))
    pub stands : prev ≡ prev_at u (n + i)

  pub run-begin : (u : List ℕ) (n : ℕ) (part : List ℕ) (prev : Prev) → Each (λ b. b < 256) u → n ≤ length u → IsStart m part → IsQuiet m part → prev ≡ prev_at u n → IsRunTo u n 0 part prev
  run-begin u n part prev each within start quiet is =
      let e : n ≡ n + 0 = omega arith in
      record {
        field =
            subst (λ k. m.field part tree (take k u) (entered_never (take n u) ++ [])) e
            (subst (λ es. m.field part tree (take n u) es) (sym (append-nil (entered_never (take n u)))) (quiet-take part start quiet u each n within));
        stands = is ∙ ap (prev_at u) e;
      }

  prev-next : (u : List ℕ) (k b : ℕ) → k < length u → get_or u k 0 ≡ b → prev_by (eqb b line_feed) (is_word_byte b) ≡ prev_at u (suc k)
  unfolding prev_at
  prev-next u k b below is = ap prev_behind (ap (λ x. Some x) (sym is) ∙ sym (slice_get-get_or u k 0 below))

  -- one byte more, before which it is entered
  module _ (u : List ℕ) (n i b : ℕ) (part : List ℕ) (prev : Prev) (is : IsRunTo u n i part prev) (below : n + i < length u) (byte : get_or u (n + i) 0 ≡ b) where
    abbrev So : List ℕ
    So = take (n + i) u

    abbrev Entries : List Bool
    Entries = entered_never (take n u) ++ entered_always (take i (drop n u))

    size : length So ≡ n + i
    size = length-take-le (n + i) u (omega (arith, below))

    long : length (drop n u) ≡ length u - n
    long = length-drop n u

    count : length Entries ≡ length So
    count = omega (
      arith,
      length-append (entered_never (take n u)) (entered_always (take i (drop n u))),
      never-size (take n u),
      always-size (take i (drop n u)),
      length-take-le n u (omega (arith, below)),
      length-take-le i (drop n u) (omega (arith, below, long)),
      size,
    )

    same-prev : prev_at u (n + i) ≡ prev_at So (length So)
    same-prev =
        let whole : u ≡ So ++ drop (n + i) u = sym (take-append-drop (n + i) u) in
        ap (λ z. prev_at z (n + i)) whole ∙ (prev-append So (drop (n + i) u) (n + i) (omega (arith, size)) ∙ ap (prev_at So) (sym size))

    run-grow : (new : List ℕ) (next : Prev) (enters : Bool) → enters ≡ true → m.field new tree (So ++ b ∷ []) (Entries ++ (m.always || enters) ∷ []) → next ≡ prev_by (eqb b line_feed) (is_word_byte b) → IsRunTo u n (i + 1) new next
    run-grow new next enters every moved then =
        let front : List Bool = entered_never (take n u) in
        let rest : List ℕ = drop n u in
        let entered : Entries ++ (m.always || enters) ∷ [] ≡ front ++ entered_always (take (i + 1) rest) =
        ap (λ a. Entries ++ (a || enters) ∷ []) listed
        ∙ (ap (λ a. Entries ++ a ∷ []) every
        ∙ (append_assoc front (entered_always (take i rest)) (true ∷ [])
        ∙ ap (λ es. front ++ es) (sym (ap entered_always (take_more rest i 0 (omega (arith, below, long))) ∙ always-push (take i rest) (get_or rest i 0))))) in
        let e : n + (i + 1) ≡ suc (n + i) = omega arith in
        let longer : take (n + (i + 1)) u ≡ So ++ b ∷ [] = ap (λ k. take k u) e ∙ (take-next u (n + i) below ∙ ap (λ x. So ++ x ∷ []) byte) in
        record {
          field =
              subst (λ z. m.field new tree z (front ++ entered_always (take (i + 1) rest))) (sym longer)
              (subst (λ es. m.field new tree (So ++ b ∷ []) es) entered moved);
          stands = then ∙ (prev-next u (n + i) b below byte ∙ ap (prev_at u) (sym e));
        }

    pub run-more : (at : ℕ) (new : List ℕ) (next : Prev) (all : NextSet) → at ≡ n + i → ((c : Next) → has_next all c ≡ true) → TakesByte m part new prev at all b → next ≡ prev_by (eqb b line_feed) (is_word_byte b) → IsRunTo u n (i + 1) new next
    run-more at new next all here every takes then =
        run-grow new next (has_next all (class_of b)) (every (class_of b)) (takes tree So Entries runs count (here ∙ sym size) (is.stands ∙ same-prev) is.field) then

    -- and one that wakes nothing
    run-pass : IsAsleep m part b → IsRunTo u n (i + 1) part (prev_by (eqb b line_feed) (is_word_byte b))
    run-pass asleep = run-grow part (prev_by (eqb b line_feed) (is_word_byte b)) true refl (asleep.stays true tree So Entries runs count is.field) refl

  -- so many bytes that wake nothing
  pub run-passes : (u : List ℕ) (n k : ℕ) (part : List ℕ) (prev : Prev) → IsRunTo u n 0 part prev → n + k ≤ length u → ((i : ℕ) → i < k → IsAsleep m part (get_or u (n + i) 0)) → (then : Prev) × IsRunTo u n k part then
  run-passes u n zero part prev begun within asleep = (prev, begun)
  run-passes u n (suc k) part prev begun within asleep =
      let (before, done) = run-passes u n k part prev begun (omega arith) (λ i low. asleep i (omega arith)) in
      let next : k + 1 ≡ suc k = omega arith in
      let b : ℕ = get_or u (n + k) 0 in
      let then : Prev = prev_by (eqb b line_feed) (is_word_byte b) in
      (then, subst (λ j. IsRunTo u n j part then) next (run-pass u n k b part before done (omega arith) refl (asleep k (omega arith))))

  -- a block of bytes, before each of which it is entered
  pub run-block : (u : List ℕ) (n i k enters at : ℕ) (part new : List ℕ) (prev then : Prev) (own : List ℕ) → IsRunTo u n i part prev → n + i < length u → n + i + k ≤ length u → own ≡ take k (drop (n + i) u) → AreSet enters k → at ≡ n + i →
      ((v : List ℕ) (entered : List Bool) → IsFieldOf m part prev at tree v entered → m.field new tree (v ++ own) (entered ++ bits_of enters (length own))) → then ≡ prev_at u (n + (i + k)) → IsRunTo u n (i + k) new then
  run-block u n i k enters at part new prev then own is below within own_is all here moves stands =
      let w : List ℕ = take (n + i) u in
      let rest : List ℕ = drop n u in
      let front : List Bool = entered_never (take n u) in
      let entries : List Bool = front ++ entered_always (take i rest) in
      let size : length w ≡ n + i = size u n i (get_or u (n + i) 0) part prev is below refl in
      let counted : length entries ≡ length w = count u n i (get_or u (n + i) 0) part prev is below refl in
      let long : length (drop (n + i) u) ≡ length u - (n + i) = length-drop (n + i) u in
      let few : length own ≡ k = ap length own_is ∙ length-take-le k (drop (n + i) u) (omega (arith, within, long)) in
      let moved : m.field new tree (w ++ own) (entries ++ bits_of enters (length own)) =
      moves w entries
      (record {
        runs = runs;
        count = counted;
        offset = here ∙ sym size;
        behind = is.stands ∙ same-prev u n i (get_or u (n + i) 0) part prev is below refl;
        field = is.field;
      }) in
      let place : n + (i + k) ≡ n + i + k = omega arith in
      let longer : take (n + (i + k)) u ≡ w ++ own = ap (λ j. take j u) place ∙ (take-add (n + i) k u ∙ ap (λ z. w ++ z) (sym own_is)) in
      let tail : own ≡ take k (drop i rest) = own_is ∙ ap (take k) (dropped n u i (n + i) refl) in
      let marks : bits_of enters (length own) ≡ entered_always own = bits-all enters (length own) (subst (AreSet enters) (sym few) all) ∙ sym (always-all own) in
      let later : entered_always (take (i + k) rest) ≡ entered_always (take i rest) ++ entered_always own =
      ap entered_always (take-add i k rest ∙ ap (λ z. take i rest ++ z) (sym tail)) ∙ map-append (λ b. true) (take i rest) own in
      let entered : entries ++ bits_of enters (length own) ≡ front ++ entered_always (take (i + k) rest) =
      ap (λ es. entries ++ es) marks ∙ (append_assoc front (entered_always (take i rest)) (entered_always own) ∙ ap (λ es. front ++ es) (sym later)) in
      record {
        field =
            subst (λ z. m.field new tree z (front ++ entered_always (take (i + k) rest))) (sym longer)
            (subst (λ es. m.field new tree (w ++ own) es) entered moved);
        stands = stands;
      }

  pub run-end : (u : List ℕ) (n seen end : ℕ) (part : List ℕ) (prev : Prev) → IsRunTo u n seen part prev → end ≤ length u → n + seen ≡ end → (window_size ≤ seen) ⊎ (n ≡ 0) → IsRunBack m tree (take end u) part × (prev ≡ prev_at u end)
  run-end u n seen end part prev is within place enough =
      let cut : take (n + seen) u ≡ take n u ++ take seen (drop n u) = take-add n seen u in
      let long : length (drop n u) ≡ length u - n = length-drop n u in
      let size : length (take seen (drop n u)) ≡ seen = length-take-le seen (drop n u) (omega (arith, place, within, long)) in (
        record {
          front = take n u;
          behind = take seen (drop n u);
          whole = ap (λ k. take k u) (sym place) ∙ cut;
          enough = elim enough [
            | inl many ↦ inl (omega (arith, many, size))
            | inr none ↦ inr (ap (λ k. take k u) none)
          ];
          field = subst (λ z. m.field part tree z (entered_never (take n u) ++ entered_always (take seen (drop n u)))) cut is.field;
        },
        is.stands ∙ ap (prev_at u) place,
      )

pub prev-take : (u : List ℕ) (k : ℕ) (prev : Prev) → k ≤ length u → prev ≡ prev_at u k → prev ≡ prev_at (take k u) (length (take k u))
prev-take u k prev within is =
    let size : length (take k u) ≡ k = length-take-le k u within in
    is
    ∙ ap (λ z. prev_at z k) (sym (take-append-drop k u))
    ∙ (prev-append (take k u) (drop k u) k (omega (arith, size)) ∙ ap (prev_at (take k u)) (sym size))

either : (a b : Bool) → (a || b) ≡ true → (a ≡ true) ⊎ (b ≡ true)
either true b e = inl refl
either false b e = inr e

first-true : (a b : Bool) → a ≡ true → (a || b) ≡ true
first-true true b e = refl
first-true false b e = absurd (cc)

second-true : (a b : Bool) → b ≡ true → (a || b) ≡ true
second-true true b e = refl
second-true false b e = e

-- where the expression has the empty span
pub never-between : (tree : Tree) (u : List ℕ) (next : Next) → IsNull None tree → (false ≡ true) ↔ IsEmptyAt tree u next
never-between tree u next never = (λ set. absurd (cc), λ empty. absurd (never u next empty))

pub no-mask : (null : Option Mask) (tree : Tree) (u : List ℕ) (next : Next) → is_some null ≡ false → IsNull null tree → (false ≡ true) ↔ IsEmptyAt tree u next
no-mask None tree u next is never = never-between tree u next never
no-mask (Some mask) tree u next is null = absurd (let both : true ≡ false = is in cc)

pub mask-between : (tree : Tree) (mask : Mask) (u : List ℕ) (prev : Prev) (next : Next) (holds : Bool) → IsNull (Some mask) tree → prev ≡ prev_at u (length u) → holds ≡ has_context mask (record { prev = prev; next = next }) → (holds ≡ true) ↔ IsEmptyAt tree u next
mask-between tree mask u prev next holds null stands is =
    let law : (has_context mask (record { prev = prev; next = next }) ≡ true) ↔ IsEmptyAt tree u next =
    subst (λ (q : Prev). (has_context mask (record { prev = q; next = next }) ≡ true) ↔ IsEmptyAt tree u next) (sym stands) (null u next) in (
      λ set. law.0 (sym is ∙ set),
      λ empty. is ∙ law.1 empty,
    )

-- where a first piece that looks back is left behind v
pub back-leaves : (m : Meaning) (tree : Tree) (rest : List Piece) (v part : List ℕ) (prev : Prev) (at : ℕ) (out : NextSet) (next : Next) (empty result : Bool) → m.is_for tree → IsAtMostWide window_size tree → IsFitChain (nfa tree ∷ rest) → IsRunBack m tree v part →
    prev ≡ prev_at v (length v) → at ≡ length v → TellsLeaves m part prev at out → (empty ≡ true) ↔ IsEmptyAt tree v next → result ≡ (has_next out next || empty) → (result ≡ true) ↔ LeavesAt (nfa tree ∷ []) v next
back-leaves m tree rest v part prev at out next empty result runs narrow fit back stands here tells null is =
    let leaves : (has_next out next ≡ true) ↔ LeavesBehind [] (nfa tree) v next =
    subst (λ z. (has_next out next ≡ true) ↔ LeavesBehind [] (nfa tree) z next) (sym back.whole)
    (
    let law = tells tree (back.front ++ back.behind) (entered_never back.front ++ entered_always back.behind) runs
    (omega (
      arith,
      length-append (entered_never back.front) (entered_always back.behind),
      length-append back.front back.behind,
      never-size back.front,
      always-size back.behind,
    ))
    (here ∙ ap length back.whole) (stands ∙ ap (λ z. prev_at z (length z)) back.whole) back.field next in
    let window = window-enough tree window_size back.front back.behind next narrow back.enough in
    (λ has. window.0 (law.0 has), λ left. law.1 (window.1 left))
    ) in (
      λ set. last-leaves [] rest (nfa tree) v next fit (elim (either (has_next out next) empty (sym is ∙ set)) [
        | inl has ↦ inl (leaves.0 has)
        | inr none ↦ inr ((leaving-begins v next).0 refl, null.0 none)
      ]),
      λ left. is ∙ elim (leaves-last [] rest (nfa tree) v next fit left) [
        | inl behind ↦ first-true (has_next out next) empty (leaves.1 behind)
        | inr both ↦ second-true (has_next out next) empty (null.1 both.1)
      ],
    )

-- the bytes before a chunk and its own

drop-front : (n : ℕ) (xs ys : List ℕ) → n ≤ length xs → drop n (xs ++ ys) ≡ drop n xs ++ ys
drop-front zero xs ys low = refl
drop-front (suc n) [] ys low = absurd (omega arith)
drop-front (suc n) (x ∷ xs) ys low = drop-front n xs ys (omega arith)

pub window-byte : (u past bytes : List ℕ) (n place : ℕ) → IsPast past u → n + 64 ≡ length u + place → slice_index (past ++ bytes) place ≡ slice_index (u ++ bytes) n
window-byte u past bytes n place is at =
    let zeros : List ℕ = replicate 64 0 in
    let size : length zeros ≡ 64 = length-replicate {A = ℕ} 64 0 in
    let all : List ℕ = zeros ++ u in
    let long : length all ≡ length zeros + length u = length-append zeros u in
    let e : length u + place ≡ length zeros + n = omega (arith, size, at) in
    ap (λ xs. get_or (xs ++ bytes) place 0) is
    ∙ (ap (λ xs. get_or xs place 0) (sym (drop-front (length u) all bytes (omega (arith, long, size))))
    ∙ (get_or-drop (length u) (all ++ bytes) place 0
    ∙ (ap (λ xs. get_or xs (length u + place) 0) (append_assoc zeros u bytes)
    ∙ (ap (λ k. get_or (zeros ++ (u ++ bytes)) k 0) e ∙ get_or-append-add zeros (u ++ bytes) n 0))))

pub window-read : (u past bytes : List ℕ) (n place b : ℕ) → IsPast past u → n + 64 ≡ length u + place → b ≡ slice_index (past ++ bytes) place → slice_index (u ++ bytes) n ≡ b
window-read u past bytes n place b is at same = sym (same ∙ window-byte u past bytes n place is at)

pub window-class : (u past bytes : List ℕ) (n place b : ℕ) (next : Next) → IsPast past u → n + 64 ≡ length u + place → b ≡ slice_index (past ++ bytes) place → next ≡ class_of b → next ≡ class_of (slice_index (u ++ bytes) n)
window-class u past bytes n place b next is at same of = of ∙ ap class_of (sym (window-read u past bytes n place b is at same))

prev-some : (w : List ℕ) (n b : ℕ) → n < length w → get_or w n 0 ≡ b → prev_by_count (suc n) b ≡ prev_at w (suc n)
unfolding prev_at
prev-some w n b below is = ap prev_behind (ap (λ x. Some x) (sym is) ∙ sym (slice_get-get_or w n 0 below))

prev-none : (w : List ℕ) (b : ℕ) → prev_by_count 0 b ≡ prev_at w 0
unfolding prev_at
prev-none w b = refl

pub window-prev : (u past bytes : List ℕ) (n place last : ℕ) → IsPast past u → n ≤ length (u ++ bytes) → n + 63 ≡ length u + place → last ≡ slice_index (past ++ bytes) place → prev_by_count n last ≡ prev_at (u ++ bytes) n
window-prev u past bytes zero place last is within at same = prev-none (u ++ bytes) last
window-prev u past bytes (suc n) place last is within at same = prev-some (u ++ bytes) n last (omega (arith, within)) (sym (same ∙ window-byte u past bytes n place is (omega (arith, at))))

-- the bytes from a place on, copied
pub window-list : (u past bytes window : List ℕ) (n begin count : ℕ) → IsPast past u → n + 64 ≡ length u + begin → n + count ≤ length (u ++ bytes) → count ≤ length window →
    ((i : ℕ) → i < count → slice_index window i ≡ slice_index (past ++ bytes) (begin + i)) → take count window ≡ take count (drop n (u ++ bytes))
window-list u past bytes window n begin count is at within room same =
    let long : length (drop n (u ++ bytes)) ≡ length (u ++ bytes) - n = length-drop n (u ++ bytes) in
    let one : length (take count window) ≡ count = length-take-le count window room in
    let other : length (take count (drop n (u ++ bytes))) ≡ count = length-take-le count (drop n (u ++ bytes)) (omega (arith, within, long)) in
    same-places (take count window) (take count (drop n (u ++ bytes))) (one ∙ sym other)
    (λ i low.
    let below : i < count = omega (arith, low, one) in
    get_or-take count window i 0 below
    ∙ (same i below
    ∙ (window-byte u past bytes (n + i) (begin + i) is (omega (arith, at))
    ∙ (sym (get_or-drop n (u ++ bytes) i 0) ∙ sym (get_or-take count (drop n (u ++ bytes)) i 0 below)))))

module _ (m : Meaning) (tree : Tree) (runs : m.is_for tree) (listed : m.always ≡ false) (at : ℕ) (u past bytes : List ℕ) (is : IsStream u at past bytes) where
  -- bytes that wake nothing, of which the last one tells what stands behind them
  pub run-asleep : (n begin passed last : ℕ) (part : List ℕ) (prev : Prev) → n + 64 ≡ length u + begin → 1 ≤ begin → n + passed ≤ length (u ++ bytes) → IsStart m part → IsQuiet m part → ((i : ℕ) → i < passed → IsAsleep m part (slice_index (past ++ bytes) (begin + i))) →
      prev ≡ prev_by_count (n + passed) last → last ≡ slice_index (past ++ bytes) (begin + passed - 1) → IsRunTo m tree runs listed (u ++ bytes) n passed part prev
  run-asleep n begin passed last part prev place some within starts quiet asleep stands same =
      let begun = run-begin m tree runs listed (u ++ bytes) n part (prev_at (u ++ bytes) n) is.small (omega (arith, within)) starts quiet refl in
      let (then, done) = run-passes m tree runs listed (u ++ bytes) n passed part (prev_at (u ++ bytes) n) begun within
      (λ i low. subst (λ b. IsAsleep m part b) (window-byte u past bytes (n + i) (begin + i) is.past_is (omega (arith, place))) (asleep i low)) in
      record {
        field = done.field;
        stands = stands ∙ window-prev u past bytes (n + passed) (begin + passed - 1) last is.past_is within (omega (arith, place, some)) same;
      }

  -- and a block of others behind them
  pub run-window : (n begin passed k enters from last : ℕ) (part new window : List ℕ) (prev then : Prev) → IsRunTo m tree runs listed (u ++ bytes) n passed part prev → n + 64 ≡ length u + begin → 1 ≤ k → n + passed + k ≤ length (u ++ bytes) → k ≤ length window →
      ((i : ℕ) → i < k → slice_index window i ≡ slice_index (past ++ bytes) (begin + passed + i)) → AreSet enters k → from ≡ n + passed →
      ((v : List ℕ) (entered : List Bool) → IsFieldOf m part prev from tree v entered → m.field new tree (v ++ take k window) (entered ++ bits_of enters (length (take k window)))) →
      then ≡ prev_by_count (n + (passed + k)) last → last ≡ slice_index (past ++ bytes) (begin + (passed + k) - 1) → IsRunTo m tree runs listed (u ++ bytes) n (passed + k) new then
  run-window n begin passed k enters from last part new window prev then before place some within room same all here moves stands last_is =
      run-block m tree runs listed (u ++ bytes) n passed k enters from part new prev then (take k window) before (omega (arith, some, within)) within
      (window-list u past bytes window (n + passed) (begin + passed) k is.past_is (omega (arith, place)) within room same) all here moves
      (stands ∙ window-prev u past bytes (n + (passed + k)) (begin + (passed + k) - 1) last is.past_is (omega (arith, within)) (omega (arith, place, some)) last_is)
