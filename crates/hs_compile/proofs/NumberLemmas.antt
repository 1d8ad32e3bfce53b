-- The refusals of an entry: the one of least number is one alone.
use Rattle.std.proofs.Common.{◌≡◌, ℕ, ◌≤◌, ◌⊎◌, List, refl, sym, ap, subst, arith, inl, inr}
use Rattle.hs_base.specs.declared.refusal.Refusal.{Refusal}
use Rattle.hs_base.specs.declared.refusal.Refusal.TheVariants.{StateLimit}
use Rattle.hs_base.specs.declared.flags.Flags.{Flags}
use Rattle.hs_base.specs.declared.ext.Ext.{Ext}
use Rattle.hs_base.specs.Entries.{ListedEntry, flags_of}
use Rattle.hs_base.specs.Refusals.{number_of}
use Rattle.hs_base.specs.Trees.{Tree}
use Rattle.hs_parse.specs.Faults.{Fault, IsOfText, syntax_fault, unknown_escape, unsupported as unsupported_form, repeat_limit, length_limit, depth_limit}
use Rattle.hs_parse.proofs.PathLemmas.{one_fault}
use Rattle.hs_parse.proofs.NumberLemmas.{fault-number}
use Rattle.hs_support.specs.Refused.{HasFlagsFault, flag, parameter, HasRefusal as HasTreeRefusal, IsLeast}
use Rattle.hs_support.specs.Refused as tree
use Rattle.hs_support.proofs.UniqueLemmas.{fault-unique, refusal-unique}
use Rattle.hs_compile.specs.Lists.{HasPlaceFault, beyond, mixed, HasRefusal, unread, unsupported, unfit, oversized, misplaced, IsRefusalOf}
use Rattle.hs_compile.proofs.LoweredLemmas.{one_read, read_not_fault}
use Rattle.hs_compile.proofs.SizeLemmas.{passes-once}

-- ---- numbers

-- a number is one of those of texts
pub text-number : (text : List ℕ) (flags : Flags) (refusal : Refusal) → Fault text flags refusal → IsOfText (number_of refusal)
text-number text flags refusal fault = fault-number fault

low : (n : ℕ) → IsOfText n → n ≤ 11
low _ syntax_fault = omega arith
low _ unknown_escape = omega arith
low _ unsupported_form = omega arith
low _ repeat_limit = omega arith
low _ length_limit = omega arith
low _ depth_limit = omega arith

not-flags : (n : ℕ) → IsOfText n → (4 ≤ n) → (n ≤ 5) → ⊥
not-flags _ syntax_fault p q = omega arith
not-flags _ unknown_escape p q = omega arith
not-flags _ unsupported_form p q = omega arith
not-flags _ repeat_limit p q = omega arith
not-flags _ length_limit p q = omega arith
not-flags _ depth_limit p q = omega arith

pub fault_low : (text : List ℕ) (flags : Flags) (refusal : Refusal) → Fault text flags refusal → number_of refusal ≤ 11
fault_low text flags refusal fault = low (number_of refusal) (text-number text flags refusal fault)

-- the numbers of the faults of flags and parameters
pub record IsFlagNumber (n : ℕ) : Type 0 where
  pub least : 4 ≤ n
  pub greatest : n ≤ 5

pub flags-number : (flags : Flags) (ext : Ext) (refusal : Refusal) → HasFlagsFault flags ext refusal → IsFlagNumber (number_of refusal)
flags-number flags ext _ (flag bit least) = record { least = omega arith; greatest = omega arith }
flags-number flags ext _ (parameter bit least) = record { least = omega arith; greatest = omega arith }

-- the numbers of the faults of a place
pub data IsPlaceNumber : ℕ → Type 0 where
  count_limit : IsPlaceNumber 12
  mixed_single : IsPlaceNumber 14

pub place-number : (before : List ListedEntry) (entry : ListedEntry) (refusal : Refusal) → HasPlaceFault before entry refusal → IsPlaceNumber (number_of refusal)
place-number before entry _ (beyond more) = count_limit
place-number before entry _ (mixed is) = mixed_single

above : (n : ℕ) → IsPlaceNumber n → 12 ≤ n
above _ count_limit = omega arith
above _ mixed_single = omega arith

pub place-above : (before : List ListedEntry) (entry : ListedEntry) (refusal : Refusal) → HasPlaceFault before entry refusal → 12 ≤ number_of refusal
place-above before entry refusal fault = above (number_of refusal) (place-number before entry refusal fault)

-- none of them is that of a tree
pub tree-number : (flags : Flags) (ext : Ext) (t : Tree) (refusal : Refusal) → HasTreeRefusal flags ext t refusal → (number_of refusal ≤ 9) ⊎ (number_of refusal ≡ 15)
tree-number flags ext t refusal (tree.unsupported _ fault) = inl (let n = flags-number flags ext refusal fault in omega (arith, n.greatest))
tree-number flags ext t _ (tree.matches_empty none span) = inl (omega arith)
tree-number flags ext t _ (tree.embedded_end is) = inl (omega arith)
tree-number flags ext t _ (tree.position_limit more) = inl (omega arith)
tree-number flags ext t _ (tree.offset_order order) = inr refl

not-size : (n : ℕ) → n ≡ 13 → (n ≤ 9) ⊎ (n ≡ 15) → ⊥
not-size n e (inl few) = omega (arith, e, few)
not-size n e (inr same) = omega (arith, e, same)

size-place : (n : ℕ) → 13 ≡ n → IsPlaceNumber n → ⊥
size-place _ e count_limit = omega (arith, e)
size-place _ e mixed_single = omega (arith, e)

apart : (n : ℕ) → IsPlaceNumber n → (n ≤ 9) ⊎ (n ≡ 15) → ⊥
apart _ count_limit (inl few) = omega (arith, few)
apart _ count_limit (inr same) = omega (arith, same)
apart _ mixed_single (inl few) = omega (arith, few)
apart _ mixed_single (inr same) = omega (arith, same)

tree-place : (flags : Flags) (ext : Ext) (t : Tree) (before : List ListedEntry) (entry : ListedEntry) (r s : Refusal) →
    HasTreeRefusal flags ext t r → HasPlaceFault before entry s → number_of r ≡ number_of s → ⊥
tree-place flags ext t before entry r s p q e =
    apart (number_of s) (place-number before entry s q) (subst (λ n. (n ≤ 9) ⊎ (n ≡ 15)) e (tree-number flags ext t r p))

-- ---- one of each number

-- faults of flags are reasons of any tree
flag-or : (flags : Flags) (ext : Ext) (t : Tree) (r s : Refusal) → HasFlagsFault flags ext r → HasTreeRefusal flags ext t s → number_of r ≡ number_of s → r ≡ s
flag-or flags ext t r s p q e = refusal-unique flags ext t r s (tree.unsupported r p) q e

-- the reasons of a place
one-place : (before : List ListedEntry) (entry : ListedEntry) (r s : Refusal) → HasPlaceFault before entry r → HasPlaceFault before entry s → number_of r ≡ number_of s → r ≡ s
one-place before entry _ _ (beyond m) (beyond m') e = refl
one-place before entry _ _ (beyond m) (mixed i) e = absurd (omega arith)
one-place before entry _ _ (mixed i) (beyond m) e = absurd (omega arith)
one-place before entry _ _ (mixed i) (mixed i') e = refl

-- ---- of an entry

one-number : (before : List ListedEntry) (entry : ListedEntry) (r s : Refusal) → HasRefusal before entry r → HasRefusal before entry s → number_of r ≡ number_of s → r ≡ s
one-number before entry r s (unread p) (unread q) e = one_fault entry.text (flags_of entry) r s p q
one-number before entry r s (unread p) (unsupported q) e =
    let n = flags-number (flags_of entry) entry.ext s q in
    absurd (not-flags (number_of r) (text-number entry.text (flags_of entry) r p) (omega (arith, n.least)) (omega (arith, n.greatest)))
one-number before entry r s (unread p) (unfit t reads q) e = absurd (read_not_fault entry.text (flags_of entry) t r reads p)
one-number before entry r s (unread p) (misplaced q) e =
    let n = fault_low entry.text (flags_of entry) r p in let m = place-above before entry s q in absurd (omega arith)
one-number before entry r s (unsupported p) (unread q) e =
    let n = flags-number (flags_of entry) entry.ext r p in
    absurd (not-flags (number_of s) (text-number entry.text (flags_of entry) s q) (omega (arith, n.least)) (omega (arith, n.greatest)))
one-number before entry r s (unsupported p) (unsupported q) e = fault-unique (flags_of entry) entry.ext r s p q e
one-number before entry r s (unsupported p) (unfit t reads q) e = flag-or (flags_of entry) entry.ext t r s p q e
one-number before entry r s (unsupported p) (misplaced q) e =
    let n = flags-number (flags_of entry) entry.ext r p in let m = place-above before entry s q in absurd (omega (arith, n.greatest))
one-number before entry r s (unfit t reads p) (unread q) e = absurd (read_not_fault entry.text (flags_of entry) t s reads q)
one-number before entry r s (unfit t reads p) (unsupported q) e = sym (flag-or (flags_of entry) entry.ext t s r q p (sym e))
one-number before entry r s (unfit t reads p) (unfit t' reads' q) e =
    refusal-unique (flags_of entry) entry.ext t r s p
    (subst (λ x. HasTreeRefusal (flags_of entry) entry.ext x s) (one_read entry.text (flags_of entry) t' t reads' reads) q) e
one-number before entry r s (unfit t reads p) (misplaced q) e = absurd (tree-place (flags_of entry) entry.ext t before entry r s p q e)
one-number before entry r s (misplaced p) (unread q) e =
    let n = fault_low entry.text (flags_of entry) s q in let m = place-above before entry r p in absurd (omega arith)
one-number before entry r s (misplaced p) (unsupported q) e =
    let n = flags-number (flags_of entry) entry.ext s q in let m = place-above before entry r p in absurd (omega (arith, n.greatest))
one-number before entry r s (misplaced p) (unfit t reads q) e = absurd (tree-place (flags_of entry) entry.ext t before entry s r q p (sym e))
one-number before entry r s (misplaced p) (misplaced q) e = one-place before entry r s p q e
one-number before entry r _ (unread p) (oversized q) e = let n = fault_low entry.text (flags_of entry) r p in absurd (omega (arith, n, e))
one-number before entry r _ (unsupported p) (oversized q) e = let n = flags-number (flags_of entry) entry.ext r p in absurd (omega (arith, n.greatest, e))
one-number before entry r _ (unfit t reads p) (oversized q) e = absurd (not-size (number_of r) e (tree-number (flags_of entry) entry.ext t r p))
one-number before entry _ s (oversized p) (unread q) e = let n = fault_low entry.text (flags_of entry) s q in absurd (omega (arith, n, e))
one-number before entry _ s (oversized p) (unsupported q) e = let n = flags-number (flags_of entry) entry.ext s q in absurd (omega (arith, n.greatest, e))
one-number before entry _ s (oversized p) (unfit t reads q) e = absurd (not-size (number_of s) (sym e) (tree-number (flags_of entry) entry.ext t s q))
one-number before entry _ _ (oversized {bytes = m} p) (oversized {bytes = n} q) e = ap StateLimit (passes-once before entry m n p q)
one-number before entry _ s (oversized p) (misplaced q) e = absurd (size-place (number_of s) e (place-number before entry s q))
one-number before entry r _ (misplaced p) (oversized q) e = absurd (size-place (number_of r) (sym e) (place-number before entry r p))

-- an entry is refused in one way
pub refusal_once : (before : List ListedEntry) (entry : ListedEntry) (r s : Refusal) → IsRefusalOf before entry r → IsRefusalOf before entry s → r ≡ s
refusal_once before entry r s p q =
    let below : number_of r ≤ number_of s = p.least s q.has in
    let back : number_of s ≤ number_of r = q.least r p.has in
    one-number before entry r s p.has q.has (omega arith)
