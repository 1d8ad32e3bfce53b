-- An entry that is read, split and counted.
use Rattle.std.proofs.Common.{◌≡◌, ℕ, suc, ◌+◌, ◌^◌, ◌<◌, ◌≤◌, List, [], ◌∷◌, ◌++◌, length, refl, sym, ap, arith, length-append}
use Rattle.std.specs.declared.alloc.Global.{Global}
use Rattle.std.specs.declared.vec.Vec.{Vec}
use Rattle.std.specs.List.{AllZip}
use Rattle.hs_base.specs.Chains.{chains_of}
use Rattle.hs_base.specs.Entries.{ListedEntry, flags_of}
use Rattle.hs_base.specs.Patterns.{Pattern}
use Rattle.hs_base.specs.Regions.{fields_at}
use Rattle.hs_base.specs.Trees.{Tree, IsProper}
use Rattle.hs_base.specs.WrittenOut.{IsPlain}
use Rattle.hs_base.specs.declared.refusal.Refusal.{Refusal}
use Rattle.hs_pieces.specs.declared.piece.Chain.{Chain}
use Rattle.hs_rose.specs.Listing.{plain_chains}
use Rattle.hs_rose.specs.Plans.{chains_size}
use Rattle.hs_rose.specs.Runnable.{AreRunnable}
use Rattle.hs_compile.specs.Answers.{IsCompiledEntry, IsLate}
use Rattle.hs_compile.specs.Counting.{AreCounts, IsSmall, pattern_size}
use Rattle.hs_compile.specs.declared.counts.Counts.{Counts}
use Rattle.hs_compile.specs.declared.seen.Seen.{Seen}
use Rattle.hs_compile.specs.Lists.{HasRefusal, IsReadTree, IsReadAs, greatest_count, pattern_of}
use Rattle.hs_compile.specs.Remembered.{Precede, Remembers}
use Rattle.hs_compile.specs.Sizes.{IsSizeOf}
use Rattle.hs_compile.proofs.EntryLemmas.{late-ends}
use Rattle.hs_compile.proofs.ListLemmas.{zip-length}
use Rattle.hs_compile.proofs.SizeLemmas.{size-counted}

module _ (entry : ListedEntry) (t : Tree) (reads : IsReadTree entry.text (flags_of entry) t) (late : IsLate (flags_of entry) entry.ext t) (seen : Seen) (old next : Counts) (number size : ℕ) (few : number ≤ greatest_count) (chains : Vec Chain Global)
    (split : plain_chains chains ≡ chains_of t)
    (counts : (before : List ListedEntry) (P : List Pattern) (x : Pattern) → length P < 2 ^ 32 → Remembers before seen → AllZip IsReadAs before P → AreCounts P old → IsReadAs entry x → pattern_size x ≡ chains_size (plain_chains chains) → AreCounts (P ++ x ∷ []) next)
    (sizes : next.singles < 2 ^ 32 → next.identifiers < 2 ^ 32 → size ≡ fields_at next.singles next.identifiers + next.fields) where
  abbrev pub own : Pattern
  own = pattern_of entry t

  own-read : IsReadAs entry own
  own-read = record { read = reads; is = refl }

  module _ (before : List ListedEntry) (P : List Pattern) (stands : Precede before P number seen old) where
    short : length P ≡ length before
    short = sym (zip-length IsReadAs before P stands.read)

    pub now-counted : AreCounts (P ++ own ∷ []) next
    now-counted =
        counts before P own (let n = stands.count in omega (arith, short, n, few)) stands.kept stands.read stands.counts_are own-read (ap chains_size (sym split))

    pub now-sized : IsSizeOf (P ++ own ∷ []) size
    now-sized =
        let named = now-counted.named in
        let n = stands.count in
        let all = length-append P (own ∷ []) in
        size-counted (P ++ own ∷ []) next size now-counted
        (sizes (omega (arith, named.singles, named.fewer, all, short, n, few)) (omega (arith, named.identifiers, named.few, all, short, n, few)))

    few-before : suc (length before) ≤ greatest_count
    few-before = let n = stands.count in omega (arith, n, few)

    -- what a late refusal, or none, says of it
    pub late-told : (Told : List Pattern → Type 0) →
        ((x : Pattern) → Remembers before seen → AllZip IsReadAs before P → IsSmall P → IsReadAs entry x → IsSizeOf (P ++ x ∷ []) size → suc (length before) ≤ greatest_count → IsLate (flags_of entry) entry.ext x.tree → Told (P ++ x ∷ [])) →
        Told (P ++ own ∷ [])
    late-told Told tells = tells own stands.kept stands.read stands.small own-read now-sized few-before late

    pub entry-done : IsProper t → IsPlain t → AreRunnable (plain_chains chains) → ((refusal : Refusal) → HasRefusal before entry refusal → ⊥) × IsSmall (P ++ own ∷ []) → IsCompiledEntry before P entry chains next
    entry-done proper plain runnable done = record {
      pattern = own;
      accepted = record { read = reads; is = refl; free = done.0 };
      chains_are = split;
      runnable = runnable;
      fit = record { proper = proper; plain = plain; ends_last = late-ends (flags_of entry) entry.ext t late };
      counted = now-counted;
      small = done.1;
    }
