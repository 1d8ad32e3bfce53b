-- An engine over the last bytes, where it was at rest before.
use Rattle.std.proofs.Common.{◌≡◌, ℕ, zero, suc, ◌+◌, ◌-◌, ◌<◌, ◌≤◌, ◌⊎◌, ◌↔◌, Bool, true, false, ◌||◌, ◌&&◌, List, [], ◌∷◌, ◌++◌, length, get_or, take, drop, eqb, Some, slice_get, refl, sym, ap, subst, ◌∙◌, inl, inr, arith, length-append, length-drop, append_assoc}
use Rattle.std.proofs.lemmas.List.{length-map, map-append, append-nil, take_more, length-take-le, take-append-drop}
use Rattle.std.proofs.lemmas.Option.{same_Some, slice_get-get_or}
use Rattle.std.proofs.Math.Seq.{take-add}
use Rattle.hs_base.specs.declared.context.Mask.{Mask}
use Rattle.hs_base.specs.declared.context.Next.{Next}
use Rattle.hs_base.specs.declared.context.NextSet.{NextSet}
use Rattle.hs_base.specs.declared.context.Prev.{Prev}
use Rattle.hs_base.specs.Assertions.{line_feed, is_word_byte}
use Rattle.hs_base.specs.Chains.{Piece, lit, nfa, IsFitChain}
use Rattle.hs_base.specs.Contexts.{class_of, prev_at, prev_behind, prev_by}
use Rattle.hs_base.specs.ContextSets.{has_context, has_next}
use Rattle.hs_base.specs.Fields.{entered_always}
use Rattle.hs_base.specs.Leaving.{IsAtMostWide, IsEmptyAt, LeavesAt, LeavesBehind, TellsLeaving, entered_never}
use Rattle.hs_base.specs.Lists.{Each}
use Rattle.hs_base.specs.Trees.{Tree}
use Rattle.hs_base.proofs.BitOnceLemmas.{each-below}
use Rattle.hs_base.specs.LiteralEnds.{EndsAt}
use Rattle.hs_base.specs.LiteralRows.{IsEnteredBefore}
use Rattle.hs_base.specs.Literals.{LiteralByte}
use Rattle.hs_base.proofs.ChainStreamLemmas.{leaves-last, last-leaves, leaving-goes_on, leaving-begins}
use Rattle.hs_base.proofs.EntryLemmas.{window-enough}
use Rattle.hs_base.proofs.StreamContexts.{prev-append}
use Rattle.hs_engine.specs.Engines.{Meaning, IsQuiet, IsStart, TakesByte, TellsLeaves}
use Rattle.hs_run.specs.Looking.{IsRunBack}
use Rattle.hs_run.specs.Pieces.{IsRoleNull}
use Rattle.hs_run.specs.Programs.{window_size}
use Rattle.hs_run.proofs.PieceLemmas.{behind-leaves, literal-not_empty}
use Rattle.hs_run.proofs.TakingLemmas.{ends-taken}
use Rattle.hs_base.specs.Regions.{last_bytes}
use Rattle.hs_run.specs.Spots.{prev_from}
use Rattle.hs_run.proofs.SpotLemmas.{history-get}

never-push : (u : List ℕ) (b : ℕ) → entered_never (u ++ b ∷ []) ≡ entered_never u ++ false ∷ []
never-push u b = map-append (λ b. false) u (b ∷ [])

always-push : (u : List ℕ) (b : ℕ) → entered_always (u ++ b ∷ []) ≡ entered_always u ++ true ∷ []
always-push u b = map-append (λ b. true) u (b ∷ [])

never-size : (u : List ℕ) → length (entered_never u) ≡ length u
never-size u = length-map u (λ b. false)

always-size : (u : List ℕ) → length (entered_always u) ≡ length u
always-size u = length-map u (λ b. true)

take-next : (v : List ℕ) (k : ℕ) → k < length v → take (suc k) v ≡ take k v ++ get_or v k 0 ∷ []
take-next v k below = let e : suc k ≡ k + 1 = omega arith in ap (λ n. take n v) e ∙ take_more v k 0 below

module _ (m : Meaning) (tree : Tree) (runs : m.is_for tree) (listed : m.always ≡ false) where
  -- what is at rest stays, not entered
  module _ (part : List ℕ) (start : IsStart m part) (quiet : IsQuiet m part) where
    quiet-take : (v : List ℕ) → Each (λ b. b < 256) v → (k : ℕ) → k ≤ length v → m.field part tree (take k v) (entered_never (take k v))
    quiet-take v each zero within = start tree runs
    quiet-take v each (suc k) within =
        let b : ℕ = get_or v k 0 in
        let w : List ℕ = take k v in
        let moved : m.field part tree (w ++ b ∷ []) (entered_never w ++ (m.always || false) ∷ []) =
        quiet.stays listed b (each-below v each k) tree w (entered_never w) runs (never-size w) (quiet-take v each k (omega (arith, within))) in
        let same : entered_never w ++ (m.always || false) ∷ [] ≡ entered_never (w ++ b ∷ []) = ap (λ a. entered_never w ++ (a || false) ∷ []) listed ∙ sym (never-push w b) in
        subst (λ z. m.field part tree z (entered_never z)) (sym (take-next v k (omega (arith, within))))
        (subst (λ es. m.field part tree (w ++ b ∷ []) es) same moved)

  -- Behind n + i bytes of u, of which it is entered at the last i.
  pub record IsRunTo (u : List ℕ) (n i : ℕ) (part : List ℕ) (prev : Prev) : Type 0 where
    pub field : m.field part tree (take (n + i) u) (entered_never (take n u) ++ entered_always (take i (drop n u)))
    pub stands : prev ≡ prev_at u (n + i)

  pub run-begin : (u : List ℕ) (n : ℕ) (part : List ℕ) (prev : Prev) → Each (λ b. b < 256) u → n ≤ length u → IsStart m part → IsQuiet m part → prev ≡ prev_at u n → IsRunTo u n 0 part prev
  run-begin u n part prev each within start quiet is =
      let e : n ≡ n + 0 = omega arith in
      record {
        field =
            subst (λ k. m.field part tree (take k u) (entered_never (take n u) ++ [])) e
            (subst (λ es. m.field part tree (take n u) es) (sym (append-nil (entered_never (take n u)))) (quiet-take part start quiet u each n within));
        stands = is ∙ ap (prev_at u) e;
      }

  prev-next : (u : List ℕ) (k b : ℕ) → k < length u → get_or u k 0 ≡ b → prev_by (eqb b line_feed) (is_word_byte b) ≡ prev_at u (suc k)
  unfolding prev_at
  prev-next u k b below is = ap prev_behind (ap (λ x. Some x) (sym is) ∙ sym (slice_get-get_or u k 0 below))

  pub run-more : (u : List ℕ) (n i at b : ℕ) (part new : List ℕ) (prev next : Prev) (all : NextSet) → IsRunTo u n i part prev → n + i < length u → get_or u (n + i) 0 ≡ b → at ≡ n + i →
      ((c : Next) → has_next all c ≡ true) → TakesByte m part new prev at all b → next ≡ prev_by (eqb b line_feed) (is_word_byte b) → IsRunTo u n (i + 1) new next
  run-more u n i at b part new prev next all is below byte here every takes then =
      let w : List ℕ = take (n + i) u in
      let size : length w ≡ n + i = length-take-le (n + i) u (omega (arith, below)) in
      let front : List Bool = entered_never (take n u) in
      let rest : List ℕ = drop n u in
      let long : length rest ≡ length u - n = length-drop n u in
      let count : length (front ++ entered_always (take i rest)) ≡ length w =
      omega (
        arith,
        length-append front (entered_always (take i rest)),
        never-size (take n u),
        always-size (take i rest),
        length-take-le n u (omega (arith, below)),
        length-take-le i rest (omega (arith, below, long)),
        size,
      ) in
      let whole : u ≡ w ++ drop (n + i) u = sym (take-append-drop (n + i) u) in
      let same_prev : prev_at u (n + i) ≡ prev_at w (length w) =
      ap (λ z. prev_at z (n + i)) whole ∙ (prev-append w (drop (n + i) u) (n + i) (omega (arith, size)) ∙ ap (prev_at w) (sym size)) in
      let moved : m.field new tree (w ++ b ∷ []) ((front ++ entered_always (take i rest)) ++ (m.always || has_next all (class_of b)) ∷ []) =
      takes tree w (front ++ entered_always (take i rest)) runs count (here ∙ sym size) (is.stands ∙ same_prev) is.field in
      let entered : (front ++ entered_always (take i rest)) ++ (m.always || has_next all (class_of b)) ∷ [] ≡ front ++ entered_always (take (i + 1) rest) =
      ap (λ a. (front ++ entered_always (take i rest)) ++ (a || has_next all (class_of b)) ∷ []) listed
      ∙ (ap (λ a. (front ++ entered_always (take i rest)) ++ a ∷ []) (every (class_of b))
      ∙ (append_assoc front (entered_always (take i rest)) (true ∷ [])
      ∙ ap (λ es. front ++ es) (sym (ap entered_always (take_more rest i 0 (omega (arith, below, long))) ∙ always-push (take i rest) (get_or rest i 0))))) in
      let e : n + (i + 1) ≡ suc (n + i) = omega arith in
      let longer : take (n + (i + 1)) u ≡ w ++ b ∷ [] = ap (λ k. take k u) e ∙ (take-next u (n + i) below ∙ ap (λ x. w ++ x ∷ []) byte) in
      record {
        field =
            subst (λ z. m.field new tree z (front ++ entered_always (take (i + 1) rest))) (sym longer)
            (subst (λ es. m.field new tree (w ++ b ∷ []) es) entered moved);
        stands = then ∙ (prev-next u (n + i) b below byte ∙ ap (prev_at u) (sym e));
      }

  pub run-end : (u : List ℕ) (n seen back : ℕ) (part : List ℕ) (prev : Prev) → IsRunTo u n seen part prev → back ≤ length u → n + seen ≡ length u - back → (window_size ≤ seen) ⊎ (n ≡ 0) →
      IsRunBack m tree (take (length u - back) u) part × (prev ≡ prev_at u (length u - back))
  run-end u n seen back part prev is short place enough =
      let cut : take (n + seen) u ≡ take n u ++ take seen (drop n u) = take-add n seen u in
      let long : length (drop n u) ≡ length u - n = length-drop n u in
      let size : length (take seen (drop n u)) ≡ seen = length-take-le seen (drop n u) (omega (arith, place, long)) in (
        record {
          front = take n u;
          behind = take seen (drop n u);
          whole = ap (λ k. take k u) (sym place) ∙ cut;
          enough = elim enough [
            | inl many ↦ inl (omega (arith, many, size))
            | inr none ↦ inr (ap (λ k. take k u) none)
          ];
          field = subst (λ z. m.field part tree z (entered_never (take n u) ++ entered_always (take seen (drop n u)))) cut is.field;
        },
        is.stands ∙ ap (prev_at u) place,
      )

and-true : (b : Bool) → (b && true) ≡ b
and-true true = refl
and-true false = refl

pub prev-take : (u : List ℕ) (k : ℕ) → k ≤ length u → prev_at u k ≡ prev_at (take k u) (length (take k u))
prev-take u k within =
    let size : length (take k u) ≡ k = length-take-le k u within in
    ap (λ z. prev_at z k) (sym (take-append-drop k u))
    ∙ (prev-append (take k u) (drop k u) k (omega (arith, size)) ∙ ap (prev_at (take k u)) (sym size))

-- where a first piece that looks back is left behind v
pub back-leaves : (m : Meaning) (tree : Tree) (rest : List Piece) (v part : List ℕ) (prev : Prev) (at : ℕ) (null : Mask) (all out result : NextSet) → m.is_for tree → IsAtMostWide window_size tree →
    IsRoleNull null tree → IsFitChain (nfa tree ∷ rest) → IsRunBack m tree v part → prev ≡ prev_at v (length v) → at ≡ length v → TellsLeaves m part prev at out → ((c : Next) → has_next all c ≡ true) →
    ((c : Next) → has_next result c ≡ (has_next out c || (has_context null (record { prev = prev; next = c }) && has_next all c))) → TellsLeaving (has_next result) (nfa tree ∷ []) v
back-leaves m tree rest v part prev at null all out result runs narrow is_null fit back stands here tells every joins c =
    let leaves : (d : Next) → (has_next out d ≡ true) ↔ LeavesBehind [] (nfa tree) v d = λ d.
    subst (λ z. (has_next out d ≡ true) ↔ LeavesBehind [] (nfa tree) z d) (sym back.whole)
    (
    let law = tells tree (back.front ++ back.behind) (entered_never back.front ++ entered_always back.behind) runs
    (omega (
      arith,
      length-append (entered_never back.front) (entered_always back.behind),
      length-append back.front back.behind,
      never-size back.front,
      always-size back.behind,
    ))
    (here ∙ ap length back.whole) (stands ∙ ap (λ z. prev_at z (length z)) back.whole) back.field d in
    let window = window-enough tree window_size back.front back.behind d narrow back.enough in
    (λ has. window.0 (law.0 has), λ left. law.1 (window.1 left))
    ) in
    let empties : (d : Next) → (has_context null (record { prev = prev; next = d }) ≡ true) ↔ IsEmptyAt tree v d = λ d.
    subst (λ (q : Prev). (has_context null (record { prev = q; next = d }) ≡ true) ↔ IsEmptyAt tree v d) (sym stands) (is_null v d) in
    let law = leaving-goes_on [] rest (nfa tree) v (λ d. true) (has_next out) (λ d. has_context null (record { prev = prev; next = d })) fit (leaving-begins v) leaves empties c in
    let same : has_next result c ≡ (has_next out c || (has_context null (record { prev = prev; next = c }) && true)) = joins c ∙ ap (λ b. has_next out c || (has_context null (record { prev = prev; next = c }) && b)) (every c) in (
      λ has. law.0 (sym same ∙ has),
      λ left. same ∙ law.1 left,
    )

-- the piece and the literal behind it
module _ (tree : Tree) (xs : List LiteralByte) (rest : List Piece) (u : List ℕ) (some : 1 ≤ length xs) (each : Each (λ b. b < 256) u) (fit : IsFitChain (nfa tree ∷ lit xs ∷ rest)) where
  pair-leaves : (next : Next) → LeavesAt (nfa tree ∷ lit xs ∷ []) u next ↔ (EndsAt xs u (length u) × IsEnteredBefore (nfa tree ∷ []) (length xs) u)
  pair-leaves next = (
    λ left. elim (leaves-last (nfa tree ∷ []) rest (lit xs) u next fit left) [
      | inl behind ↦ (behind-leaves xs u some each (nfa tree ∷ []) next).1 behind
      | inr both ↦ absurd (literal-not_empty xs u some each next both.1)
    ],
    λ both. last-leaves (nfa tree ∷ []) rest (lit xs) u next fit (inl ((behind-leaves xs u some each (nfa tree ∷ []) next).0 both)),
  )

  pub looked-none : (set : NextSet) → (EndsAt xs u (length u) → ⊥) → ((next : Next) → has_next set next ≡ false) → TellsLeaving (has_next set) (nfa tree ∷ lit xs ∷ []) u
  looked-none set never all next = (
    λ has. absurd (let e : false ≡ true = sym (all next) ∙ has in cc),
    λ left. absurd (never ((pair-leaves next).0 left).0),
  )

  pub looked-tells : (before set : NextSet) (holds : Bool) (b : ℕ) → EndsAt xs u (length u) → get_or u (length u - length xs) 0 ≡ b → TellsLeaving (has_next before) (nfa tree ∷ []) (take (length u - length xs) u) →
      holds ≡ has_next before (class_of b) → ((next : Next) → has_next set next ≡ holds) → TellsLeaving (has_next set) (nfa tree ∷ lit xs ∷ []) u
  looked-tells before set holds b ends byte tells is all next =
      let within : length xs ≤ length u = (ends-taken xs u ends).0 in
      let there : slice_get u (length u - length xs) ≡ Some b = slice_get-get_or u (length u - length xs) 0 (omega (arith, within, some)) ∙ ap (λ x. Some x) byte in (
        λ has. (pair-leaves next).1 (ends, record { byte = b; there = there; entered = (tells (class_of b)).0 (sym is ∙ (sym (all next) ∙ has)) }),
        λ left.
            let entered = ((pair-leaves next).0 left).1 in
            let same : entered.byte ≡ b = same_Some entered.byte b (sym entered.there ∙ there) in
            all next ∙ (is ∙ (tells (class_of b)).1 (subst (λ x. LeavesAt (nfa tree ∷ []) (take (length u - length xs) u) (class_of x)) same entered.entered)),
      )

-- the history, by offset

prev-by_last : (u : List ℕ) (m b : ℕ) → m < length u → get_or u m 0 ≡ b → prev_from (suc m) b ≡ prev_at u (suc m)
unfolding prev_at
prev-by_last u m b below is = ap prev_behind (ap (λ x. Some x) (sym is) ∙ sym (slice_get-get_or u m 0 below))

prev-none : (u : List ℕ) (b : ℕ) → prev_from 0 b ≡ prev_at u 0
unfolding prev_at
prev-none u b = refl

pub window-byte : (u history : List ℕ) (n place : ℕ) → history ≡ last_bytes 64 u → n < length u → place + length u ≡ 64 + n → get_or u n 0 ≡ get_or history place 0
window-byte u history n place past below at =
    let e : length u + place - 64 ≡ n = omega (arith, at) in
    sym (ap (λ xs. get_or xs place 0) past ∙ (history-get 64 place u (omega (arith, at)) ∙ ap (λ k. get_or u k 0) e))

pub window-prev : (u history : List ℕ) (n place : ℕ) → history ≡ last_bytes 64 u → n ≤ length u → place + length u ≡ 63 + n → prev_from n (get_or history place 0) ≡ prev_at u n
window-prev u history zero place past within at = prev-none u (get_or history place 0)
window-prev u history (suc m) place past within at =
    prev-by_last u m (get_or history place 0) (omega (arith, within)) (window-byte u history m place past (omega (arith, within)) (omega (arith, at)))
