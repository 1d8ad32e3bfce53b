-- An expression that looks back is left nowhere where none of its matches can end.
use Rattle.std.proofs.Common.{◌≡◌, ℕ, zero, suc, ◌+◌, ◌-◌, ◌<◌, ◌≤◌, ◌↔◌, Bool, true, false, List, [], ◌∷◌, ◌++◌, length, get_or, replicate, take, drop, slice_get, slice_index, Some, refl, sym, ap, subst, ◌∙◌, inl, inr, arith, length-drop}
use Rattle.std.proofs.lemmas.List.{length-take-le, take-append-drop, get_or-drop}
use Rattle.std.proofs.lemmas.Option.{slice_get_within}
use Rattle.hs_base.specs.declared.byte_set.ByteSet.{ByteSet}
use Rattle.hs_base.specs.declared.context.Next.{Next}
use Rattle.hs_base.specs.declared.context.Prev.{Prev}
use Rattle.hs_base.specs.declared.context.Prev.TheVariants as before
use Rattle.hs_base.specs.ByteSets.{has}
use Rattle.hs_base.specs.Chains.{Piece, nfa, IsFitChain}
use Rattle.hs_base.specs.Contexts.{prev_at, prev_by}
use Rattle.hs_base.specs.Fields.{Leaves, entered_always}
use Rattle.hs_base.specs.Leaving.{IsAtMostWide, IsEmptyAt, LeavesAt, LeavesBehind, entered_never}
use Rattle.hs_base.specs.Lists.{Each}
use Rattle.hs_base.specs.Trees.{Tree}
use Rattle.hs_base.proofs.BitOnceLemmas.{each-below}
use Rattle.hs_base.proofs.ChainStreamLemmas.{last-leaves, leaves-last, leaving-begins}
use Rattle.hs_base.proofs.EntryLemmas.{first-entered, leaves-listed, window-enough}
use Rattle.hs_engine.specs.Engines.{Meaning}
use Rattle.hs_waking.specs.declared.prev_set.PrevSet.{PrevSet}
use Rattle.hs_waking.specs.EntryRows.{entries_to}
use Rattle.hs_waking.specs.PrevSets.{has_prev}
use Rattle.hs_waking.proofs.PrevLemmas.{start-nowhere}
use Rattle.hs_nodes.specs.Edges.{HasEdges}
use Rattle.hs_nodes.specs.LookBacks.{EndsNowhere, at_start, by_last, by_start}
use Rattle.hs_nodes.specs.Nodes.{window_size}
use Rattle.hs_nodes.proofs.LookLemmas.{always-all, never-size, take-next}

-- where nothing is entered, nothing is left

none-more : (xs : List Bool) (i : ℕ) → ((j : ℕ) → slice_get xs j ≡ Some true → ⊥) → slice_get (xs ++ false ∷ []) i ≡ Some true → ⊥
none-more [] zero none e = absurd (cc)
none-more [] (suc i) none e = none i e
none-more (x ∷ xs) zero none e = none zero e
none-more (x ∷ xs) (suc i) none e = none-more xs i (λ j. none (suc j)) e

none-kept : (k i : ℕ) → slice_get (entries_to (λ n. false) k) i ≡ Some true → ⊥
none-kept zero zero e = absurd (cc)
none-kept zero (suc i) e = absurd (cc)
none-kept (suc k) i e = none-more (entries_to (λ n. false) k) i (none-kept k) e

none-set : (front : List ℕ) (k i : ℕ) → slice_get (entered_never front ++ entries_to (λ n. false) k) i ≡ Some true → ⊥
none-set [] k i e = none-kept k i e
none-set (b ∷ front) k zero e = absurd (cc)
none-set (b ∷ front) k (suc i) e = none-set front k i e

-- behind a byte stands no start

by-byte : (l x : Bool) → prev_by l x ≡ before.Start → ⊥
by-byte true x e = absurd (cc)
by-byte false true e = absurd (cc)
by-byte false false e = absurd (cc)

pub behind-byte : (front : List ℕ) (n : ℕ) → 1 ≤ n → n ≤ length front → prev_at front n ≡ before.Start → ⊥
unfolding prev_at
behind-byte front zero some within e = absurd (omega arith)
behind-byte [] (suc n) some within e = absurd (omega arith)
behind-byte (b ∷ front) (suc zero) some within e = by-byte _ _ e
behind-byte (b ∷ front) (suc (suc n)) some within e = behind-byte front (suc n) (omega arith) (omega arith) e

no-member : (set : PrevSet) (prev : Prev) → ((p : Prev) → has_prev set p ≡ true → p ≡ before.Start) → (prev ≡ before.Start → ⊥) → (b : Bool) → has_prev set prev ≡ b → has_prev set prev ≡ false
no-member set prev start apart true is = absurd (apart (start prev is))
no-member set prev start apart false is = is

take-whole : (xs : List ℕ) → take (length xs) xs ≡ xs
take-whole [] = refl
take-whole (x ∷ xs) = ap (λ ys. x ∷ ys) (take-whole xs)

module _ (m : Meaning) (tree : Tree) (behind : PrevSet) (last : ByteSet) (runs : m.is_for tree) (narrow : IsAtMostWide window_size tree) (edges : HasEdges m behind last) where
  -- no match begins behind a byte
  start-nothing : (front back : List ℕ) (next : Next) → ((p : Prev) → has_prev behind p ≡ true → p ≡ before.Start) → 1 ≤ length front → ((k : ℕ) → slice_index back k < 256) → Leaves tree (front ++ back) (entered_never front ++ entered_always back) next → ⊥
  start-nothing front back next start some small leaves =
      let (rows, tell) = edges.begins in
      let prev : Prev = prev_at front (length front) in
      let apart : has_prev behind prev ≡ false = no-member behind prev start (behind-byte front (length front) some (omega arith)) (has_prev behind prev) refl in
      let law = tell.enters (λ n. false) prev back (λ k low. small k) (λ d i row at low fits. absurd (start-nowhere behind row prev back start apart i low fits)) in
      let all : Leaves tree (front ++ take (length back) back) (entered_never front ++ replicate (length back) true) next =
      subst (λ z. Leaves tree (front ++ z) (entered_never front ++ replicate (length back) true) next) (sym (take-whole back))
      (subst (λ es. Leaves tree (front ++ back) (entered_never front ++ es) next) (always-all back) leaves) in
      let none = (law.leaves tree front (entered_never front) runs (never-size front) refl (length back) (omega arith) next).1 all in
      none-set front (length back) none.from none.is_entered

  -- and none that ends more than so many bytes behind the start begins there
  start-far : (v : List ℕ) (next : Next) → ((p : Prev) → has_prev behind p ≡ true → p ≡ before.Start) → window_size < length v → ((k : ℕ) → slice_index v k < 256) → LeavesBehind [] (nfa tree) v next → ⊥
  start-far v next start far small left =
      let n : ℕ = length v - window_size in
      let front : List ℕ = take n v in
      let back : List ℕ = drop n v in
      let whole : v ≡ front ++ back = sym (take-append-drop n v) in
      let size : length front ≡ n = length-take-le n v (omega arith) in
      let rest : length back ≡ length v - n = length-drop n v in
      start-nothing front back next start (omega (arith, size, far)) (λ k. subst (λ b. b < 256) (sym (get_or-drop n v k 0)) (small (n + k)))
      ((window-enough tree window_size front back next narrow (inl (omega (arith, rest, far)))).1 (subst (λ z. LeavesBehind [] (nfa tree) z next) whole left))

  last-apart : (v : List ℕ) (b : ℕ) (next : Next) → b < 256 → has last b ≡ false → LeavesBehind [] (nfa tree) (v ++ b ∷ []) next → ⊥
  last-apart v b next small apart left =
      let leaves = (leaves-listed [] (nfa tree) (v ++ b ∷ []) (entered_always (v ++ b ∷ [])) next (first-entered (v ++ b ∷ []))).0 left in
      let both : false ≡ true = sym apart ∙ edges.ends tree v b (entered_always (v ++ b ∷ [])) next runs small leaves in
      absurd (cc)

  -- no match ends behind so many bytes, of which that is the last one
  pub nowhere-ends : (w : List ℕ) (n byte : ℕ) (next : Next) → Each (λ b. b < 256) w → n ≤ length w → ((k : ℕ) → n ≡ suc k → slice_index w k ≡ byte) → EndsNowhere behind last n byte → LeavesBehind [] (nfa tree) (take n w) next → ⊥
  nowhere-ends w zero byte next small within is why left =
      let below : left.from < 0 = slice_get_within [] left.from left.byte left.there in
      absurd (omega (arith, below))
  nowhere-ends w (suc k) byte next small within is (at_start none) left = absurd (omega (arith, none))
  nowhere-ends w (suc k) byte next small within is (by_last apart) left =
      let same : get_or w k 0 ≡ byte = is k refl in
      last-apart (take k w) (get_or w k 0) next (each-below w small k) (ap (has last) same ∙ apart)
      (subst (λ z. LeavesBehind [] (nfa tree) z next) (take-next w k (omega (arith, within))) left)
  nowhere-ends w (suc k) byte next small within is (by_start far start) left =
      let size : length (take (suc k) w) ≡ suc k = length-take-le (suc k) w within in
      start-far (take (suc k) w) next start (omega (arith, size, far)) (each-below (take (suc k) w) (each-take w (suc k) small)) left
    where
      each-take : (xs : List ℕ) (n : ℕ) → Each (λ b. b < 256) xs → Each (λ b. b < 256) (take n xs)
      each-take xs zero all = tt
      each-take [] (suc n) all = tt
      each-take (x ∷ xs) (suc n) all = (all.0, each-take xs n all.1)

-- then a first piece that looks back is left there just where it is empty
pub empty-leaves : (tree : Tree) (rest : List Piece) (v : List ℕ) (next : Next) (empty : Bool) → IsFitChain (nfa tree ∷ rest) → (LeavesBehind [] (nfa tree) v next → ⊥) → (empty ≡ true) ↔ IsEmptyAt tree v next → (empty ≡ true) ↔ LeavesAt (nfa tree ∷ []) v next
empty-leaves tree rest v next empty fit none null = (
  λ set. last-leaves [] rest (nfa tree) v next fit (inr ((leaving-begins v next).0 refl, null.0 set)),
  λ left. elim (leaves-last [] rest (nfa tree) v next fit left) [
    | inl behind ↦ absurd (none behind)
    | inr both ↦ null.1 both.1
  ],
)
