-- What is kept of the entries before one tells whether it is mixed.
use Rattle.std.proofs.Common.{◌≡◌, ◌==◌, ℕ, Bool, true, false, not, ◌⊎◌, List, [], ◌∷◌, ◌++◌, Some, None, MatchBool, cond, nat_lt, refl, sym, ap, ◌∙◌, subst, inl, inr}
use mathlib.Core.Bool.{beq}
use Rattle.std.proofs.lemmas.Bool.{cases_eq, ne_eqb}
use Rattle.std.specs.Ordering.{nat_cmp, is_eq}
use Rattle.std.specs.declared.cmp.Ordering.TheVariants.{Less, Equal, Greater}
use Rattle.std.specs.BTreeMap.{get, is_at, Updates}
use Rattle.hs_base.proofs.ListLemmas.{each-append, one_of-left, one_of-right}
use Rattle.hs_base.specs.Lists.{OneOf, Each}
use Rattle.hs_base.specs.Entries.{ListedEntry}
use Rattle.hs_compile.specs.declared.seen.Seen.{Seen}
use Rattle.hs_compile.specs.Lists.{asks_single, Differs, IsMixed}
use Rattle.hs_compile.specs.Remembered.{IsKept, Asks, Remembers}

both : (b : Bool) → b ≡ not b → ⊥
both true e = let no : true ≡ false = e in absurd (cc)
both false e = let no : false ≡ true = e in absurd (cc)

-- a member that differs, seen by what all have and by one that is known
module _ (seen : Seen) (entry : ListedEntry) where
  -- where nothing is kept of the identifier, none differs
  unknown-alike : (before : List ListedEntry) → Each (λ e. IsKept seen e.id (asks_single e.flags)) before → get nat_cmp seen.singles entry.id ≡ None → IsMixed before entry → ⊥
  unknown-alike [] all none mixed = mixed
  unknown-alike (e ∷ before) all none (inl differs) =
      let kept : get nat_cmp seen.singles entry.id ≡ Some (asks_single e.flags) = subst (λ id. IsKept seen id (asks_single e.flags)) differs.named all.0 in
      absurd (cc)
  unknown-alike (e ∷ before) all none (inr mixed) = unknown-alike before all.1 none mixed

  -- where the same is kept, none differs
  known-alike : (before : List ListedEntry) → Each (λ e. IsKept seen e.id (asks_single e.flags)) before → IsKept seen entry.id (asks_single entry.flags) → IsMixed before entry → ⊥
  known-alike [] all same mixed = mixed
  known-alike (e ∷ before) all same (inl differs) =
      let kept : get nat_cmp seen.singles entry.id ≡ Some (asks_single e.flags) = subst (λ id. IsKept seen id (asks_single e.flags)) differs.named all.0 in
      let asked : asks_single e.flags ≡ asks_single entry.flags = cc in
      both (asks_single entry.flags) (sym asked ∙ differs.otherwise)
  known-alike (e ∷ before) all same (inr mixed) = known-alike before all.1 same mixed

  -- one that asks for the other differs
  other-mixed : (before : List ListedEntry) (single : Bool) → single ≡ not (asks_single entry.flags) → OneOf (Asks entry.id single) before → IsMixed before entry
  other-mixed [] single other one = one
  other-mixed (e ∷ before) single other (inl asks) = inl (record { named = asks.named; otherwise = asks.asked ∙ other })
  other-mixed (e ∷ before) single other (inr one) = inr (other-mixed before single other one)

  -- what is kept of the identifier tells whether the entry is mixed
  pub mixed-told : (before : List ListedEntry) (single asked : Bool) → Remembers before seen → IsKept seen entry.id single → asked ≡ asks_single entry.flags →
      MatchBool (not (beq single asked)) (IsMixed before entry) (IsMixed before entry → ⊥)
  mixed-told before true true kept is asks = known-alike before kept.all (subst (IsKept seen entry.id) asks is)
  mixed-told before true false kept is asks = other-mixed before true (ap not asks) (kept.only entry.id true is)
  mixed-told before false true kept is asks = other-mixed before false (ap not asks) (kept.only entry.id false is)
  mixed-told before false false kept is asks = known-alike before kept.all (subst (IsKept seen entry.id) asks is)

  pub alike-unknown : (before : List ListedEntry) → Remembers before seen → get nat_cmp seen.singles entry.id ≡ None → IsMixed before entry → ⊥
  alike-unknown before kept none = unknown-alike before kept.all none

-- ---- one entry more

not-equal : (b c : Bool) → c ≡ false → is_eq (cond b Less (cond c Equal Greater)) ≡ false
not-equal true c e = refl
not-equal false true e = e
not-equal false false e = refl

-- another number isn't where the key is
elsewhere : (k q : ℕ) → (k ≡ q → ⊥) → is_at (nat_cmp k) q ≡ false
elsewhere k q apart = not-equal (nat_lt k q) (k == q) (ne_eqb k q apart)

some-same : (a b : Bool) → Some a ≡ Some b → a ≡ b
some-same true true e = refl
some-same true false e = absurd (cc)
some-same false true e = absurd (cc)
some-same false false e = refl

same-or_other : (a b : Bool) → (a ≡ b) ⊎ (a ≡ not b)
same-or_other true true = inl refl
same-or_other true false = inr refl
same-or_other false true = inr refl
same-or_other false false = inl refl

module _ (seen seen' : Seen) (entry : ListedEntry) (updates : Updates nat_cmp seen.singles seen'.singles entry.id (Some (asks_single entry.flags))) where
  here_now : IsKept seen' entry.id (asks_single entry.flags)
  here_now = updates.1

  -- an entry that doesn't differ is kept as before
  stays : (e : ListedEntry) → (Differs entry e → ⊥) → IsKept seen e.id (asks_single e.flags) → IsKept seen' e.id (asks_single e.flags)
  stays e alike kept = elim (cases_eq entry.id e.id) [
    | inl same ↦ elim (same-or_other (asks_single e.flags) (asks_single entry.flags)) [
      | inl asks ↦ subst (λ id. IsKept seen' id (asks_single e.flags)) same (subst (IsKept seen' entry.id) (sym asks) here_now)
      | inr other ↦ absurd (alike (record { named = sym same; otherwise = other }))
    ]
    | inr apart ↦ updates.2 e.id (elsewhere entry.id e.id apart) ∙ kept
  ]

  all-stay : (before : List ListedEntry) → (IsMixed before entry → ⊥) → Each (λ e. IsKept seen e.id (asks_single e.flags)) before → Each (λ e. IsKept seen' e.id (asks_single e.flags)) before
  all-stay [] alike all = tt
  all-stay (e ∷ before) alike all = (stays e (λ differs. alike (inl differs)) all.0, all-stay before (λ mixed. alike (inr mixed)) all.1)

  only-those : (before : List ListedEntry) → ((id : ℕ) (single : Bool) → IsKept seen id single → OneOf (Asks id single) before) →
      (id : ℕ) (single : Bool) → IsKept seen' id single → OneOf (Asks id single) (before ++ entry ∷ [])
  only-those before only id single kept = elim (cases_eq entry.id id) [
    | inl same ↦ one_of-right (Asks id single) before (entry ∷ [])
        (inl (record { named = same; asked = some-same (asks_single entry.flags) single (sym here_now ∙ (ap (get nat_cmp seen'.singles) same ∙ kept)) }))
    | inr apart ↦ one_of-left (Asks id single) before (entry ∷ []) (only id single (sym (updates.2 id (elsewhere entry.id id apart)) ∙ kept))
  ]

  pub remember-more : (before : List ListedEntry) → Remembers before seen → (IsMixed before entry → ⊥) → Remembers (before ++ entry ∷ []) seen'
  remember-more before kept alike = record {
    all = each-append (λ e. IsKept seen' e.id (asks_single e.flags)) before (entry ∷ []) (all-stay before alike kept.all) (here_now, tt);
    only = only-those before kept.only;
  }
