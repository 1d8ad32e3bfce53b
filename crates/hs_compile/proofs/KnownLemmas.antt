-- What is kept of the entries so far tells what is known of an identifier, and what is counted with one entry more.
use Rattle.std.proofs.Common.{◌≡◌, ℕ, ◌+◌, ◌^◌, ◌<◌, Bool, List, [], ◌∷◌, ◌++◌, length, Option, Some, None, IfSome, sym, ap, ◌∙◌, subst, inl, inr}
use Rattle.std.specs.List.{AllZip}
use Rattle.std.specs.Ordering.{nat_cmp}
use Rattle.std.specs.BTreeMap.{get}
use Rattle.hs_base.specs.Chains.{Piece}
use Rattle.hs_base.specs.Entries.{ListedEntry}
use Rattle.hs_base.specs.Lists.{Each, OneOf}
use Rattle.hs_base.specs.Patterns.{Pattern}
use Rattle.hs_rose.specs.Plans.{chains_size}
use Rattle.hs_compile.specs.declared.counts.Counts.{Counts}
use Rattle.hs_compile.specs.declared.seen.Seen.{Seen}
use Rattle.hs_compile.specs.Counting.{AreCounts, AreNamed, IsKnownName, pattern_size}
use Rattle.hs_compile.specs.Lists.{IsReadAs, asks_single}
use Rattle.hs_compile.specs.Remembered.{Asks, IsKept, Remembers}
use Rattle.hs_compile.proofs.PlanLemmas.{all-single}
use Rattle.hs_compile.proofs.SizeLemmas.{sum-push}

module _ (seen : Seen) (id : ℕ) where
  none-kept : (before : List ListedEntry) (P : List Pattern) → AllZip IsReadAs before P → Each (λ e. IsKept seen e.id (asks_single e.flags)) before → get nat_cmp seen.singles id ≡ None → OneOf (λ x. x.id ≡ id) P → ⊥
  none-kept [] [] read all none one = one
  none-kept [] (x ∷ P) read all none one = absurd read
  none-kept (e ∷ before) [] read all none one = absurd read
  none-kept (e ∷ before) (x ∷ P) read all none (inl here) =
      let same : e.id ≡ id = sym (ap (λ (y : Pattern). y.id) read.0.is) ∙ here in
      let kept : get nat_cmp seen.singles id ≡ Some (asks_single e.flags) = subst (λ n. IsKept seen n (asks_single e.flags)) same all.0 in
      absurd (cc)
  none-kept (e ∷ before) (x ∷ P) read all none (inr later) = none-kept before P read.1 all.1 none later

  one-kept : (single : Bool) (before : List ListedEntry) (P : List Pattern) → AllZip IsReadAs before P → OneOf (Asks id single) before → OneOf (λ x. x.id ≡ id) P
  one-kept single [] P read one = absurd one
  one-kept single (e ∷ before) [] read one = absurd read
  one-kept single (e ∷ before) (x ∷ P) read (inl asks) = inl (ap (λ (y : Pattern). y.id) read.0.is ∙ asks.named)
  one-kept single (e ∷ before) (x ∷ P) read (inr later) = inr (one-kept single before P read.1 later)

  each-kept : (single : Bool) (before : List ListedEntry) (P : List Pattern) → AllZip IsReadAs before P → Each (λ e. IsKept seen e.id (asks_single e.flags)) before → IsKept seen id single → Each (λ x. x.id ≡ id → x.single ≡ single) P
  each-kept single [] [] read all kept = tt
  each-kept single [] (x ∷ P) read all kept = absurd read
  each-kept single (e ∷ before) [] read all kept = absurd read
  each-kept single (e ∷ before) (x ∷ P) read all kept = (
    λ here.
        let same : e.id ≡ id = sym (ap (λ (y : Pattern). y.id) read.0.is) ∙ here in
        let own : get nat_cmp seen.singles id ≡ Some (asks_single e.flags) = subst (λ n. IsKept seen n (asks_single e.flags)) same all.0 in
        let asked : x.single ≡ asks_single e.flags = ap (λ (y : Pattern). y.single) read.0.is in
        let both : asks_single e.flags ≡ single = cc in
        asked ∙ both,
    each-kept single before P read.1 all.1 kept,
  )

  -- where nothing is kept of it
  pub known-none : (before : List ListedEntry) (P : List Pattern) → Remembers before seen → AllZip IsReadAs before P → get nat_cmp seen.singles id ≡ None → IsKnownName P id None
  known-none before P kept read none = none-kept before P read kept.all none

  -- where it is kept
  pub known-some : (single : Bool) (before : List ListedEntry) (P : List Pattern) → Remembers before seen → AllZip IsReadAs before P → IsKept seen id single → IsKnownName P id (Some single)
  known-some single before P kept read is =
      let one = one-kept single before P read (kept.only id single is) in
      (one, all-single id single P one (each-kept single before P read kept.all is))

-- the identifiers are counted alike
alike : (P : List Pattern) (a b : Counts) → b.identifiers ≡ a.identifiers → b.singles ≡ a.singles → AreNamed P a → AreNamed P b
alike P a b ids singles named = record {
  ids = named.ids;
  single_ids = named.single_ids;
  is_plan = named.is_plan;
  identifiers = ids ∙ named.identifiers;
  singles = singles ∙ named.singles;
  few = named.few;
  fewer = named.fewer;
}

-- with the fields of the entry
pub counted : (next : Option Counts) (named old : Counts) (size : ℕ) (P : List Pattern) (x : Pattern) →
    IfSome next (λ counts. (counts.identifiers ≡ named.identifiers) × (counts.singles ≡ named.singles) × (counts.fields ≡ named.fields + size)) →
    named.fields ≡ old.fields → AreCounts P old → AreNamed (P ++ x ∷ []) named → pattern_size x ≡ size →
    IfSome next (AreCounts (P ++ x ∷ []))
counted None named old size P x is same are more own = tt
counted (Some counts) named old size P x is same are more own = record {
  named = alike (P ++ x ∷ []) named counts is.0 is.1 more;
  fields = is.2 ∙ (ap (λ n. n + size) same ∙ sum-push P x old.fields size are.fields own);
}

-- whatever the entries before it are
pub counted-all : (next : Option Counts) (named old : Counts) (size : ℕ) (own : List (List Piece)) (seen : Seen) (entry : ListedEntry) (known : Option Bool) (asked : Bool) →
    IfSome next (λ counts. (counts.identifiers ≡ named.identifiers) × (counts.singles ≡ named.singles) × (counts.fields ≡ named.fields + size)) →
    named.fields ≡ old.fields →
    ((P : List Pattern) (x : Pattern) → length P < 2 ^ 32 → AreNamed P old → IsKnownName P x.id known → x.single ≡ asked → AreNamed (P ++ x ∷ []) named) →
    ((before : List ListedEntry) (P : List Pattern) → Remembers before seen → AllZip IsReadAs before P → IsKnownName P entry.id known) →
    asked ≡ asks_single entry.flags →
    size ≡ chains_size own →
    IfSome next (λ counts. (before : List ListedEntry) (P : List Pattern) (x : Pattern) → length P < 2 ^ 32 → Remembers before seen → AllZip IsReadAs before P → AreCounts P old → IsReadAs entry x → pattern_size x ≡ chains_size own → AreCounts (P ++ x ∷ []) counts)
counted-all None named old size own seen entry known asked is same names knows asks size_is = tt
counted-all (Some counts) named old size own seen entry known asked is same names knows asks size_is =
    λ before P x few kept read are reads sized.
    let id : x.id ≡ entry.id = ap (λ (y : Pattern). y.id) reads.is in
    let single : x.single ≡ asked = ap (λ (y : Pattern). y.single) reads.is ∙ sym asks in
    let more = names P x few are.named (subst (λ n. IsKnownName P n known) (sym id) (knows before P kept read)) single in
    counted (Some counts) named old size P x is same are more (sized ∙ sym size_is)
