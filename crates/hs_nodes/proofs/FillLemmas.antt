-- Tables that are filled for a chunk: contexts, and hits.
use Rattle.std.proofs.Common.{◌≡◌, ℕ, zero, suc, ◌+◌, ◌*◌, ◌<◌, ◌≤◌, List, [], ◌∷◌, ◌++◌, length, get_or, set, take, drop, Some, slice_get, refl, sym, ap, subst, ◌∙◌, inl, inr, arith}
use Rattle.std.specs.Prelude.{slice_index_or}
use Rattle.std.proofs.Math.ListN.{drop_of_length-le}
use Rattle.std.proofs.lemmas.Bool.{cases_eq}
use Rattle.std.proofs.lemmas.List.{append-nil, take_all}
use Rattle.hs_base.specs.declared.context.Prev.{Prev}
use Rattle.hs_base.specs.Contexts.{prev_at}
use Rattle.hs_base.specs.Lists.{Each}
use Rattle.hs_bits.specs.BlockContexts.{AreContexts}
use Rattle.hs_bits.specs.declared.contexts.Contexts.{Contexts}
use Rattle.hs_nodes.specs.Blocks.{EndsBehind, block, front}
use Rattle.hs_nodes.specs.Contexts.{AreChunkContexts}

pub set-same : {A : Type 0} (xs : List A) (j : ℕ) (y : A) → j < length xs → slice_get (set xs j y) j ≡ Some y
set-same [] j y below = absurd (omega arith)
set-same (z ∷ xs) zero y below = refl
set-same (z ∷ xs) (suc j) y below = set-same xs j y (omega arith)

pub set-other : {A : Type 0} (xs : List A) (i j : ℕ) (y : A) → (i ≡ j → ⊥) → slice_get (set xs j y) i ≡ slice_get xs i
set-other [] i j y apart = refl
set-other (z ∷ xs) zero zero y apart = absurd (apart refl)
set-other (z ∷ xs) (suc i) zero y apart = refl
set-other (z ∷ xs) zero (suc j) y apart = refl
set-other (z ∷ xs) (suc i) (suc j) y apart = set-other xs i j y (λ same. apart (ap suc same))

pub get-past : {A : Type 0} (xs : List A) (k : ℕ) (d : A) → length xs ≤ k → slice_index_or xs k d ≡ d
get-past [] k d past = refl
get-past (x ∷ xs) zero d past = absurd (omega arith)
get-past (x ∷ xs) (suc k) d past = get-past xs k d (omega arith)

-- contexts of a block of a chunk
abbrev pub AreContextsAt : (prev : Prev) (at : ℕ) (bytes : List ℕ) (j : ℕ) → Contexts → Type 0
AreContextsAt prev at bytes j c =
    (u : List ℕ) → EndsBehind u prev at → AreContexts c (prev_at (front u bytes j) (length (front u bytes j))) (block bytes j)

-- those of the blocks before one are there
pub record AreFilled (contexts : List Contexts) (prev : Prev) (at : ℕ) (bytes : List ℕ) (n : ℕ) : Type 0 where
  pub room : 8 ≤ length contexts
  pub each : (i : ℕ) → i < n → (c : Contexts) × (slice_get contexts i ≡ Some c) × AreContextsAt prev at bytes i c

pub filled-none : (contexts : List Contexts) (prev : Prev) (at : ℕ) (bytes : List ℕ) → 8 ≤ length contexts → AreFilled contexts prev at bytes 0
filled-none contexts prev at bytes room = record { room = room; each = λ i below. absurd (omega arith) }

pub filled-more : (contexts : List Contexts) (prev : Prev) (at : ℕ) (bytes : List ℕ) (j n : ℕ) (c : Contexts) → n ≡ j + 1 → j < 8 → length (set contexts j c) ≡ length contexts → AreContextsAt prev at bytes j c → AreFilled contexts prev at bytes j →
    AreFilled (set contexts j c) prev at bytes n
filled-more contexts prev at bytes j n c next below len own are = record {
  room = omega (arith, len, are.room);
  each = λ i low. elim (cases_eq i j) [
    | inl same ↦
        (c, subst (λ k. slice_get (set contexts j c) k ≡ Some c) (sym same) (set-same contexts j c (omega (arith, below, are.room))), subst (λ k. AreContextsAt prev at bytes k c) (sym same) own)
    | inr apart ↦ let (d, there, is) = are.each i (omega (arith, low, next, apart)) in (d, set-other contexts i j c apart ∙ there, is)
  ];
}

pub filled-all : (contexts : List Contexts) (prev : Prev) (at : ℕ) (bytes : List ℕ) (n : ℕ) → length bytes ≤ 64 * n → AreFilled contexts prev at bytes n → AreChunkContexts contexts prev at bytes
filled-all contexts prev at bytes n enough are = record { each = λ j inside. are.each j (omega (arith, enough, inside)) }

-- a table that was written as a whole
pub whole : {A : Type 0} (new old : List A) (n : ℕ) → length new ≡ length old → n ≡ length old → take n (new ++ drop (length new) old) ≡ new
whole new old n len count =
    let none : drop (length new) old ≡ [] = drop_of_length-le old (omega (arith, len)) in
    ap (λ zs. take n (new ++ zs)) none ∙ (ap (take n) (append-nil new) ∙ take_all n new (omega (arith, len, count)))

pub each-by : (bytes : List ℕ) → ((i : ℕ) → get_or bytes i 0 < 256) → Each (λ b. b < 256) bytes
each-by [] below = tt
each-by (b ∷ bytes) below = (below 0, each-by bytes (λ i. below (suc i)))
