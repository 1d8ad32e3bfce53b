-- The refusal of an entry, from what its parts say.
use Rattle.std.proofs.Common.{◌≡◌, ◌↔◌, ℕ, suc, ◌<◌, ◌≤◌, List, ◌∷◌, [], ◌++◌, length, Bool, true, false, Option, Some, None, MatchOption, IfNone, IsTrue, bit_and, eqb, refl, sym, subst, arith, inl, inr}
use Rattle.std.specs.List.{AllZip}
use Rattle.std.proofs.lemmas.Bool.{cases_Bool, eq-eqb, eqb-true, false≢true}
use Rattle.hs_base.specs.declared.refusal.Refusal.{Refusal}
use Rattle.hs_base.specs.declared.refusal.Refusal.TheVariants.{CountLimit, StateLimit, MixedSingle, EmbeddedEnd, OffsetOrder, PositionLimit}
use Rattle.hs_base.specs.declared.flags.Flags.{Flags}
use Rattle.hs_base.specs.declared.ext.Ext.{Ext}
use Rattle.hs_base.specs.Chains.{chains_of}
use Rattle.hs_base.specs.EndAssertions.{has_embedded_end}
use Rattle.hs_base.specs.Entries.{ListedEntry, flags_of}
use Rattle.hs_base.specs.Patterns.{Pattern}
use Rattle.hs_base.specs.Refusals.{number_of}
use Rattle.hs_base.specs.Trees.{Tree}
use Rattle.hs_expr.specs.Counts.{capped}
use Rattle.hs_parse.specs.Faults.{Fault}
use Rattle.hs_parse.proofs.PathLemmas.{one_fault}
use Rattle.hs_support.specs.PieceCounts.{first_excess_of}
use Rattle.hs_support.specs.Refused.{HasFlagsFault, HasRefusal as HasTreeRefusal, IsLeast, IsSupported}
use Rattle.hs_support.specs.Refused as tree
use Rattle.hs_compile.specs.Answers.{IsLate, IsLesser, alone, first, second}
use Rattle.hs_compile.specs.Counting.{IsSmall}
use Rattle.hs_compile.specs.Lists.{greatest_count, asks_single, IsMixed, IsReadTree, IsReadAs, HasPlaceFault, beyond, mixed, HasRefusal, unread, unsupported, unfit, oversized, misplaced, PassesSize, IsRefusalOf}
use Rattle.hs_compile.specs.Sizes.{IsSizeOf, greatest_size}
use Rattle.hs_compile.proofs.NumberLemmas.{fault_low, flags-number, place-above, tree-number}
use Rattle.hs_compile.proofs.LoweredLemmas.{one_read, read_not_fault}
use Rattle.hs_compile.proofs.SizeLemmas.{passes-size, size-once}

-- ---- an expression that isn't read

module _ (before : List ListedEntry) (entry : ListedEntry) (fault : Refusal) (is : Fault entry.text (flags_of entry) fault) where
  -- the fault of the text is the one of least number, if that of the flags has no lesser one
  fault-least : ((other : Refusal) → HasFlagsFault (flags_of entry) entry.ext other → number_of fault ≤ number_of other) → IsRefusalOf before entry fault
  fault-least flags = record { has = unread is; least = below }
    where
      below : (other : Refusal) → HasRefusal before entry other → number_of fault ≤ number_of other
      below other (unread p) = subst (λ r. number_of fault ≤ number_of r) (one_fault entry.text (flags_of entry) fault other is p) (omega arith)
      below other (unsupported p) = flags other p
      below other (unfit t reads p) = absurd (read_not_fault entry.text (flags_of entry) t fault reads is)
      below other (oversized p) = let n = fault_low entry.text (flags_of entry) fault is in omega (arith, n)
      below other (misplaced p) = let n = fault_low entry.text (flags_of entry) fault is in let m = place-above before entry other p in omega arith

  flags-least : (flag : Refusal) → IsLeast (HasFlagsFault (flags_of entry) entry.ext) flag → number_of flag < number_of fault → IsRefusalOf before entry flag
  flags-least flag least lower = record { has = unsupported least.has; least = below }
    where
      below : (other : Refusal) → HasRefusal before entry other → number_of flag ≤ number_of other
      below other (unread p) = subst (λ r. number_of flag ≤ number_of r) (one_fault entry.text (flags_of entry) fault other is p) (omega arith)
      below other (unsupported p) = least.least other p
      below other (unfit t reads p) = absurd (read_not_fault entry.text (flags_of entry) t fault reads is)
      below other (oversized p) = let n = flags-number (flags_of entry) entry.ext flag least.has in omega (arith, n.greatest)
      below other (misplaced p) = let n = flags-number (flags_of entry) entry.ext flag least.has in let m = place-above before entry other p in omega (arith, n.greatest)

  pub unread-refusal : (flag : Option Refusal) (refusal : Refusal) →
      MatchOption flag ((r : Refusal) → HasFlagsFault (flags_of entry) entry.ext r → ⊥) (IsLeast (HasFlagsFault (flags_of entry) entry.ext)) →
      IsLesser fault flag refusal → IsRefusalOf before entry refusal
  unread-refusal None _ none alone = fault-least (λ other p. absurd (none other p))
  unread-refusal (Some flag) _ least (first lower) = fault-least (λ other p. let n = least.least other p in omega (arith, lower, n))
  unread-refusal (Some flag) _ least (second lower) = flags-least flag least lower

-- ---- an expression that is read

module _ (before : List ListedEntry) (entry : ListedEntry) (t : Tree) (reads : IsReadTree entry.text (flags_of entry) t) where
  -- none of its refusals has a number below this one
  above : (n : ℕ) →
      ((r : Refusal) → HasTreeRefusal (flags_of entry) entry.ext t r → n ≤ number_of r) →
      ((bytes : ℕ) → PassesSize before entry bytes → n ≤ 13) →
      ((r : Refusal) → HasPlaceFault before entry r → n ≤ number_of r) →
      (other : Refusal) → HasRefusal before entry other → n ≤ number_of other
  above n of_tree of_size of_place other (unread p) = absurd (read_not_fault entry.text (flags_of entry) t other reads p)
  above n of_tree of_size of_place other (unsupported p) = of_tree other (tree.unsupported other p)
  above n of_tree of_size of_place other (unfit t' reads' p) =
      of_tree other (subst (λ x. HasTreeRefusal (flags_of entry) entry.ext x other) (one_read entry.text (flags_of entry) t' t reads' reads) p)
  above n of_tree of_size of_place _ (oversized {bytes = bytes} p) = of_size bytes p
  above n of_tree of_size of_place other (misplaced p) = of_place other p

  -- one of the tree, below those that go by the list
  pub tree-first : (refusal : Refusal) → IsLeast (HasTreeRefusal (flags_of entry) entry.ext t) refusal → number_of refusal < 12 → IsRefusalOf before entry refusal
  tree-first refusal least low = record {
    has = unfit t reads least.has;
    least =
        above (number_of refusal) least.least (λ bytes p. omega (arith, low))
        (λ r p. let high = place-above before entry r p in omega (arith, low, high));
  }

  module _ (late : IsLate (flags_of entry) entry.ext t) where
    -- too many before it
    pub count-first : greatest_count < suc (length before) → IsRefusalOf before entry CountLimit
    count-first more = record {
      has = misplaced (beyond more);
      least = above 12 late (λ bytes p. omega arith) (place-above before entry);
    }

    -- the tree's own is that of its bounds
    late-order : (r : Refusal) → HasTreeRefusal (flags_of entry) entry.ext t r → number_of r ≡ 15
    late-order r p = elim (tree-number (flags_of entry) entry.ext t r p) [
      | inl low ↦ absurd (let high = late r p in omega (arith, low, high))
      | inr same ↦ same
    ]

    late-bounds : (r : Refusal) → HasTreeRefusal (flags_of entry) entry.ext t r → entry.ext.max_offset < entry.ext.min_offset
    late-bounds r (tree.unsupported _ p) = absurd (let n = flags-number (flags_of entry) entry.ext r p in let high = late r (tree.unsupported r p) in omega (arith, n.greatest, high))
    late-bounds _ (tree.matches_empty none span) = absurd (let high = late _ (tree.matches_empty none span) in omega (arith, high))
    late-bounds _ (tree.embedded_end is) = absurd (let high = late _ (tree.embedded_end is) in omega (arith, high))
    late-bounds _ (tree.position_limit more) = absurd (let high = late _ (tree.position_limit more) in omega (arith, high))
    late-bounds _ (tree.offset_order order) = order

    module _ (few : suc (length before) ≤ greatest_count) (P : List Pattern) (x : Pattern) (read : AllZip IsReadAs before P) (own : IsReadAs entry x) (small : IsSmall P) (size : ℕ) (sized : IsSizeOf (P ++ x ∷ []) size) where
      place-high : (r : Refusal) → HasPlaceFault before entry r → 14 ≤ number_of r
      place-high _ (beyond more) = absurd (omega (arith, few, more))
      place-high _ (mixed is) = omega arith

      -- the list is too large with it
      pub size-first : greatest_size < size → IsRefusalOf before entry (StateLimit size)
      size-first more = record {
        has = oversized (record {
          patterns = P;
          all_read = read;
          pattern = x;
          read = own;
          bytes_before = small.bytes;
          size_before = small.size;
          within = small.within;
          size = sized;
          beyond = more;
        });
        least =
            above 13 (λ r p. let high = late-order r p in omega (arith, high)) (λ bytes p. omega arith)
            (λ r p. let high = place-high r p in omega (arith, high));
      }

      module _ (fits : size ≤ greatest_size) where
        no-size : (bytes : ℕ) → PassesSize before entry bytes → ⊥
        no-size bytes passes =
            let same = size-once (P ++ x ∷ []) bytes size (passes-size before entry bytes P x passes read own) sized in
            let more = passes.beyond in
            omega (arith, same, more, fits)

        -- an entry before it differs
        pub mixed-first : IsMixed before entry → IsRefusalOf before entry (MixedSingle (record { 0 = entry.id }))
        mixed-first is = record {
          has = misplaced (mixed is);
          least = above 14 (λ r p. let high = late-order r p in omega (arith, high)) (λ bytes p. absurd (no-size bytes p)) place-high;
        }

        module _ (alike : IsMixed before entry → ⊥) where
          no-place : (r : Refusal) → HasPlaceFault before entry r → ⊥
          no-place _ (beyond more) = omega (arith, few, more)
          no-place _ (mixed is) = alike is

          -- its bounds aren't in order
          pub order-first : entry.ext.max_offset < entry.ext.min_offset → IsRefusalOf before entry OffsetOrder
          order-first order = record {
            has = unfit t reads (tree.offset_order order);
            least = above 15 (λ r p. let high = late-order r p in omega (arith, high)) (λ bytes p. absurd (no-size bytes p)) (λ r p. absurd (no-place r p));
          }

          -- else it has none
          pub none-left : entry.ext.min_offset ≤ entry.ext.max_offset → (refusal : Refusal) → HasRefusal before entry refusal → ⊥
          none-left order refusal (unread p) = read_not_fault entry.text (flags_of entry) t refusal reads p
          none-left order refusal (unsupported p) = let below = late-bounds refusal (tree.unsupported refusal p) in omega (arith, order, below)
          none-left order refusal (unfit t' reads' p) =
              let below = late-bounds refusal (subst (λ y. HasTreeRefusal (flags_of entry) entry.ext y refusal) (one_read entry.text (flags_of entry) t' t reads' reads) p) in
              omega (arith, order, below)
          none-left order _ (oversized {bytes = bytes} p) = no-size bytes p
          none-left order refusal (misplaced p) = no-place refusal p

-- ---- what an expression has whose refusals come late

module _ (flags : Flags) (ext : Ext) (t : Tree) (late : IsLate flags ext t) where
  pub late-ends : has_embedded_end t false ≡ false
  late-ends = elim (cases_Bool (has_embedded_end t false)) [
    | inl has ↦ absurd (let high = late EmbeddedEnd (tree.embedded_end has) in omega (arith, high))
    | inr lacks ↦ lacks
  ]

  pub late-positions : first_excess_of (chains_of t) ≡ None
  late-positions = by_excess (first_excess_of (chains_of t)) refl
    where
      by_excess : (excess : Option ℕ) → first_excess_of (chains_of t) ≡ excess → first_excess_of (chains_of t) ≡ None
      by_excess None is = is
      by_excess (Some count) is = absurd (let high = late (PositionLimit (capped count)) (tree.position_limit is) in omega (arith, high))

-- what has none has none early, and what has one late has all late
pub late-none : (flags : Flags) (ext : Ext) (t : Tree) → IsSupported flags ext t → IsLate flags ext t
late-none flags ext t none r p = absurd (none r p)

pub late-least : (flags : Flags) (ext : Ext) (t : Tree) (refusal : Refusal) → IsLeast (HasTreeRefusal flags ext t) refusal → 12 ≤ number_of refusal → IsLate flags ext t
late-least flags ext t refusal least high r p = let above = least.least r p in omega (arith, high, above)

-- ---- the flag

-- whether a single report is asked for
pub single-asked : (asked : Bool) (flags : ℕ) → IsTrue asked ↔ (bit_and flags 8 ≡ 8) → asked ≡ asks_single flags
single-asked true flags tells = sym (eq-eqb (bit_and flags 8) 8 (tells.0 refl))
single-asked false flags tells = elim (cases_Bool (eqb (bit_and flags 8) 8)) [
  | inl same ↦ absurd (false≢true (tells.1 (eqb-true (bit_and flags 8) 8 same)))
  | inr apart ↦ sym apart
]

-- ---- answers of the code

pub if_none : {A : Type 0} (P : Type 0) (r : Option A) → P → IfNone r P
if_none P None is = is
if_none P (Some x) is = tt

-- the refusal of the number is that of the entry
pub counted-refusal : (before : List ListedEntry) (entry : ListedEntry) (t : Tree) (number : ℕ) (r : Option Refusal) → IsReadTree entry.text (flags_of entry) t → IsLate (flags_of entry) entry.ext t → number ≡ suc (length before) →
    MatchOption r (number ≤ greatest_count) (λ refusal. (refusal ≡ CountLimit) × (greatest_count < number)) → MatchOption r (number ≤ greatest_count) (IsRefusalOf before entry)
counted-refusal before entry t number None reads late is few = few
counted-refusal before entry t number (Some refusal) reads late is more =
    subst (IsRefusalOf before entry) (sym more.0) (count-first before entry t reads late (let above = more.1 in omega (arith, is, above)))
