-- Where matches of each identifier end, as the chains are gone through one by one.
use Rattle.std.proofs.Common.{◌≡◌, ◌↔◌, ◌⊎◌, ℕ, zero, suc, ◌+◌, ◌<◌, ◌≤◌, true, false, List, [], ◌∷◌, ◌++◌, length, map, take, set, Some, slice_get, refl, sym, ap, subst, ◌∙◌, inl, inr, arith}
use Rattle.std.specs.Prelude.{flat_map}
use Rattle.std.proofs.lemmas.Bool.{cases_eq}
use Rattle.std.proofs.lemmas.Option.{same_Some}
use Rattle.hs_base.specs.declared.context.Next.{Next}
use Rattle.hs_base.specs.declared.context.Next.TheVariants as after
use Rattle.hs_base.specs.Assertions.{line_feed}
use Rattle.hs_base.specs.Chains.{Piece, chains_of}
use Rattle.hs_base.specs.Contexts.{class_of}
use Rattle.hs_base.specs.Leaving.{LeavesAt}
use Rattle.hs_base.specs.LeavingLaws.{HasSpansOfChains}
use Rattle.hs_base.specs.Lists.{OneOf, Each}
use Rattle.hs_base.specs.Patterns.{Pattern}
use Rattle.hs_base.specs.Settling.{Ends, EndsHere, HasEndHere, AreRising}
use Rattle.hs_base.proofs.EntryLemmas.{ends-leaving}
use Rattle.hs_base.proofs.ListLemmas.{one_of-append, one_of-left, one_of-right}
use Rattle.hs_rose.specs.Identifiers.{ids_of}
use Rattle.hs_run.specs.declared.ends.Ends.{Ends as EndsAbout}
use Rattle.hs_rose.specs.declared.identifiers.Identifier.{Identifier}
use Rattle.hs_run.specs.Ends.{AreEndsAbout, AreLastEnds, AreNoEnds, HasRowEnd, NotesRow, RowEnds, ends_of, no_ends}
use Rattle.hs_run.specs.Programs.{Row, rows_of}

-- lists

pub one_of-snoc : {A : Type 0} (Q : A → Type 0) (xs : List A) (x : A) → OneOf Q (xs ++ x ∷ []) → OneOf Q xs ⊎ Q x
one_of-snoc Q [] x (inl here) = inr here
one_of-snoc Q [] x (inr never) = absurd never
one_of-snoc Q (y ∷ xs) x (inl here) = inl (inl here)
one_of-snoc Q (y ∷ xs) x (inr there) = elim (one_of-snoc Q xs x there) [ inl before ↦ inl (inr before) | inr last ↦ inr last ]

pub snoc-one_of : {A : Type 0} (Q : A → Type 0) (xs : List A) (x : A) → OneOf Q xs ⊎ Q x → OneOf Q (xs ++ x ∷ [])
snoc-one_of Q [] x (inl never) = absurd never
snoc-one_of Q [] x (inr last) = inl last
snoc-one_of Q (y ∷ xs) x (inl (inl here)) = inl here
snoc-one_of Q (y ∷ xs) x (inl (inr there)) = inr (snoc-one_of Q xs x (inl there))
snoc-one_of Q (y ∷ xs) x (inr last) = inr (snoc-one_of Q xs x (inr last))

take-suc : {A : Type 0} (xs : List A) (k : ℕ) (x : A) → slice_get xs k ≡ Some x → take (suc k) xs ≡ take k xs ++ x ∷ []
take-suc [] k x at = absurd (cc)
take-suc (y ∷ xs) zero x at = ap (λ z. z ∷ []) (same_Some y x at)
take-suc (y ∷ xs) (suc k) x at = ap (λ zs. y ∷ zs) (take-suc xs k x at)

pub take-more : {A : Type 0} (xs : List A) (k : ℕ) (x : A) → slice_get xs k ≡ Some x → take (k + 1) xs ≡ take k xs ++ x ∷ []
take-more xs k x at = let next : k + 1 ≡ suc k = omega arith in ap (λ n. take n xs) next ∙ take-suc xs k x at

pub set-same : {A : Type 0} (xs : List A) (j : ℕ) (x y : A) → slice_get xs j ≡ Some x → slice_get (set xs j y) j ≡ Some y
set-same [] j x y at = absurd (cc)
set-same (z ∷ xs) zero x y at = refl
set-same (z ∷ xs) (suc j) x y at = set-same xs j x y at

pub set-other : {A : Type 0} (xs : List A) (i j : ℕ) (y : A) → (i ≡ j → ⊥) → slice_get (set xs j y) i ≡ slice_get xs i
set-other [] i j y apart = refl
set-other (z ∷ xs) zero zero y apart = absurd (apart refl)
set-other (z ∷ xs) (suc i) zero y apart = refl
set-other (z ∷ xs) zero (suc j) y apart = refl
set-other (z ∷ xs) (suc i) (suc j) y apart = set-other xs i j y (λ same. apart (ap suc same))

-- an identifier stands once in a rising list

above : (identifiers : List Identifier) (n i : ℕ) (x : Identifier) → Each (λ m. n < m) (ids_of identifiers) → slice_get identifiers i ≡ Some x → n < x.id.0
above [] n i x each at = absurd (cc)
above (y ∷ ys) n zero x each at = subst (λ z. n < z.id.0) (same_Some y x at) each.0
above (y ∷ ys) n (suc i) x each at = above ys n i x each.1 at

pub once : (identifiers : List Identifier) → AreRising (ids_of identifiers) → (i j : ℕ) (x y : Identifier) → slice_get identifiers i ≡ Some x → slice_get identifiers j ≡ Some y → x.id.0 ≡ y.id.0 → i ≡ j
once [] rising i j x y at at' same = absurd (cc)
once (z ∷ zs) rising zero zero x y at at' same = refl
once (z ∷ zs) rising zero (suc j) x y at at' same =
    let low : z.id.0 < y.id.0 = above zs z.id.0 j y rising.0 at' in
    absurd (omega (arith, ap (λ n. n.id.0) (same_Some z x at)))
once (z ∷ zs) rising (suc i) zero x y at at' same =
    let low : z.id.0 < x.id.0 = above zs z.id.0 i x rising.0 at in
    absurd (omega (arith, ap (λ n. n.id.0) (same_Some z y at')))
once (z ∷ zs) rising (suc i) (suc j) x y at at' same = ap suc (once zs rising.1 i j x y at at' same)

-- those are the ends of the identifier about the byte, of these rows
pub record AreRowEnds (P : List Row) (u : List ℕ) (b : ℕ) (id : ℕ) (ends : Ends) : Type 0 where
  pub before : (ends.before ≡ true) ↔ HasRowEnd P id u (class_of b)
  pub before_last : (ends.before_last ≡ true) ↔ ((b ≡ line_feed) × HasRowEnd P id u after.FinalNewline)
  pub behind : (ends.behind ≡ true) ↔ HasRowEnd P id (u ++ b ∷ []) after.Unknown

-- an end of one row more

end-more : (P : List Row) (x : Row) (u : List ℕ) (next : Next) (id : ℕ) (old new : Type 0) → x.pattern.id ≡ id → old ↔ HasRowEnd P id u next → new ↔ (old ⊎ RowEnds x.pattern.id u next x) →
    new ↔ HasRowEnd (P ++ x ∷ []) id u next
end-more P x u next id old new same tells joins = (
  λ is. snoc-one_of (RowEnds id u next) P x (elim (joins.0 is) [
    | inl before ↦ inl (tells.0 before)
    | inr here ↦ inr (subst (λ n. RowEnds n u next x) same here)
  ]),
  λ has. joins.1 (elim (one_of-snoc (RowEnds id u next) P x has) [
    | inl before ↦ inl (tells.1 before)
    | inr here ↦ inr (subst (λ n. RowEnds n u next x) (sym same) here)
  ]),
)

end-other : (P : List Row) (x : Row) (u : List ℕ) (next : Next) (id : ℕ) (old : Type 0) → (x.pattern.id ≡ id → ⊥) → old ↔ HasRowEnd P id u next → old ↔ HasRowEnd (P ++ x ∷ []) id u next
end-other P x u next id old apart tells = (
  λ is. snoc-one_of (RowEnds id u next) P x (inl (tells.0 is)),
  λ has. elim (one_of-snoc (RowEnds id u next) P x has) [ inl before ↦ tells.1 before | inr here ↦ absurd (apart here.named) ],
)

-- the ends about a byte

last-more : (P : List Row) (x : Row) (u : List ℕ) (b : ℕ) (next : Next) (id : ℕ) (old new : Type 0) → x.pattern.id ≡ id → old ↔ ((b ≡ line_feed) × HasRowEnd P id u next) → new ↔ (old ⊎ ((b ≡ line_feed) × RowEnds x.pattern.id u next x)) →
    new ↔ ((b ≡ line_feed) × HasRowEnd (P ++ x ∷ []) id u next)
last-more P x u b next id old new same tells joins = (
  λ is. elim (joins.0 is) [
    | inl before ↦ let (feed, has) = tells.0 before in (feed, snoc-one_of (RowEnds id u next) P x (inl has))
    | inr both ↦ (both.0, snoc-one_of (RowEnds id u next) P x (inr (subst (λ n. RowEnds n u next x) same both.1)))
  ],
  λ (feed, has). joins.1 (elim (one_of-snoc (RowEnds id u next) P x has) [
    | inl before ↦ inl (tells.1 (feed, before))
    | inr here ↦ inr (feed, subst (λ n. RowEnds n u next x) (sym same) here)
  ]),
)

last-other : (P : List Row) (x : Row) (u : List ℕ) (b : ℕ) (next : Next) (id : ℕ) (old : Type 0) → (x.pattern.id ≡ id → ⊥) → old ↔ ((b ≡ line_feed) × HasRowEnd P id u next) →
    old ↔ ((b ≡ line_feed) × HasRowEnd (P ++ x ∷ []) id u next)
last-other P x u b next id old apart tells = (
  λ is. let (feed, has) = tells.0 is in (feed, snoc-one_of (RowEnds id u next) P x (inl has)),
  λ (feed, has). elim (one_of-snoc (RowEnds id u next) P x has) [ inl before ↦ tells.1 (feed, before) | inr here ↦ absurd (apart here.named) ],
)

pub ends-more : (P : List Row) (x : Row) (u : List ℕ) (b id : ℕ) (old new : Ends) → x.pattern.id ≡ id → AreRowEnds P u b id old → NotesRow x u b old new → AreRowEnds (P ++ x ∷ []) u b id new
ends-more P x u b id old new same are moved = record {
  before = end-more P x u (class_of b) id (old.before ≡ true) (new.before ≡ true) same are.before moved.before;
  before_last = last-more P x u b after.FinalNewline id (old.before_last ≡ true) (new.before_last ≡ true) same are.before_last moved.before_last;
  behind = end-more P x (u ++ b ∷ []) after.Unknown id (old.behind ≡ true) (new.behind ≡ true) same are.behind moved.behind;
}

pub ends-other : (P : List Row) (x : Row) (u : List ℕ) (b id : ℕ) (ends : Ends) → (x.pattern.id ≡ id → ⊥) → AreRowEnds P u b id ends → AreRowEnds (P ++ x ∷ []) u b id ends
ends-other P x u b id ends apart are = record {
  before = end-other P x u (class_of b) id (ends.before ≡ true) apart are.before;
  before_last = last-other P x u b after.FinalNewline id (ends.before_last ≡ true) apart are.before_last;
  behind = end-other P x (u ++ b ∷ []) after.Unknown id (ends.behind ≡ true) apart are.behind;
}

-- the ends of all identifiers

abbrev pub AreRowsAbout : List Row → List ℕ → ℕ → List Identifier → List EndsAbout → Type 0
AreRowsAbout rows u b identifiers ends =
    (i : ℕ) (identifier : Identifier) (e : EndsAbout) → slice_get identifiers i ≡ Some identifier → slice_get ends i ≡ Some e → AreRowEnds rows u b identifier.id.0 (ends_of e)

abbrev pub AreRowsLast : List Row → List ℕ → List Identifier → List EndsAbout → Type 0
AreRowsLast rows u identifiers ends =
    (i : ℕ) (identifier : Identifier) (e : EndsAbout) → slice_get identifiers i ≡ Some identifier → slice_get ends i ≡ Some e → (e.behind ≡ true) ↔ HasRowEnd rows identifier.id.0 u after.End

pub about-none : (u : List ℕ) (b : ℕ) (identifiers : List Identifier) (ends : List EndsAbout) → AreNoEnds ends → AreRowsAbout [] u b identifiers ends
about-none u b identifiers ends none i identifier e named at =
    let is : e ≡ no_ends = none i e at in
    subst (λ one. AreRowEnds [] u b identifier.id.0 (ends_of one)) (sym is) (record {
      before = (λ never. absurd (cc), λ has. absurd has);
      before_last = (λ never. absurd (cc), λ (feed, has). absurd has);
      behind = (λ never. absurd (cc), λ has. absurd has);
    })

pub last-none : (u : List ℕ) (identifiers : List Identifier) (ends : List EndsAbout) → AreNoEnds ends → AreRowsLast [] u identifiers ends
last-none u identifiers ends none i identifier e named at =
    let is : e ≡ no_ends = none i e at in
    (λ never. absurd (let f : false ≡ true = sym (ap (λ v. v.behind) is) ∙ never in cc), λ has. absurd has)

module _ (identifiers : List Identifier) (rising : AreRising (ids_of identifiers)) (rows : List Row) (j : ℕ) (x : Row) (row : slice_get rows j ≡ Some x) (n : ℕ) (named_x : Identifier)
    (named : slice_get identifiers n ≡ Some named_x) (id_is : named_x.id.0 ≡ x.pattern.id) (u : List ℕ) (ends : List EndsAbout) (old new : EndsAbout) (here : slice_get ends n ≡ Some old) where
  apart-ids : (i : ℕ) (identifier : Identifier) → slice_get identifiers i ≡ Some identifier → (i ≡ n → ⊥) → x.pattern.id ≡ identifier.id.0 → ⊥
  apart-ids i identifier at apart same = apart (once identifiers rising i n identifier named_x at named (sym same ∙ sym id_is))

  same-id : (i : ℕ) (identifier : Identifier) → slice_get identifiers i ≡ Some identifier → i ≡ n → x.pattern.id ≡ identifier.id.0
  same-id i identifier at same =
      let one : identifier ≡ named_x = same_Some identifier named_x (sym at ∙ (ap (slice_get identifiers) same ∙ named)) in
      sym id_is ∙ ap (λ z. z.id.0) (sym one)

  is-new : (i : ℕ) (e : EndsAbout) → slice_get (set ends n new) i ≡ Some e → i ≡ n → new ≡ e
  is-new i e at same = same_Some new e (sym (set-same ends n old new here) ∙ (ap (slice_get (set ends n new)) (sym same) ∙ at))

  pub about-more : (b : ℕ) → NotesRow x u b (ends_of old) (ends_of new) → AreRowsAbout (take j rows) u b identifiers ends → AreRowsAbout (take (j + 1) rows) u b identifiers (set ends n new)
  about-more b notes about i identifier e at at' =
      subst (λ xs. AreRowEnds xs u b identifier.id.0 (ends_of e)) (sym (take-more rows j x row))
      (elim (cases_eq i n) [
        | inl same ↦
            subst (λ v. AreRowEnds (take j rows ++ x ∷ []) u b identifier.id.0 (ends_of v)) (is-new i e at' same)
            (ends-more (take j rows) x u b identifier.id.0 (ends_of old) (ends_of new) (same-id i identifier at same)
            (about i identifier old at (ap (slice_get ends) same ∙ here)) notes)
        | inr apart ↦
            ends-other (take j rows) x u b identifier.id.0 (ends_of e) (apart-ids i identifier at apart)
            (about i identifier e at (sym (set-other ends i n new apart) ∙ at'))
      ])

  pub last-more_end : (new.behind ≡ true) ↔ ((old.behind ≡ true) ⊎ RowEnds x.pattern.id u after.End x) → AreRowsLast (take j rows) u identifiers ends → AreRowsLast (take (j + 1) rows) u identifiers (set ends n new)
  last-more_end joins about i identifier e at at' =
      subst (λ xs. (e.behind ≡ true) ↔ HasRowEnd xs identifier.id.0 u after.End) (sym (take-more rows j x row))
      (elim (cases_eq i n) [
        | inl same ↦
            subst (λ v. (v.behind ≡ true) ↔ HasRowEnd (take j rows ++ x ∷ []) identifier.id.0 u after.End) (is-new i e at' same)
            (end-more (take j rows) x u after.End identifier.id.0 (old.behind ≡ true) (new.behind ≡ true) (same-id i identifier at same)
            (about i identifier old at (ap (slice_get ends) same ∙ here)) joins)
        | inr apart ↦
            end-other (take j rows) x u after.End identifier.id.0 (e.behind ≡ true) (apart-ids i identifier at apart)
            (about i identifier e at (sym (set-other ends i n new apart) ∙ at'))
      ])

-- the rows of the patterns have together their ends

chains-rows : (x : Pattern) (id : ℕ) (u : List ℕ) (next : Next) (chains : List (List Piece)) → x.id ≡ id → x.least ≤ length u → length u ≤ x.greatest → OneOf (λ chain. LeavesAt chain u next) chains →
    OneOf (RowEnds id u next) (map (λ chain. record { pattern = x; chain = chain }) chains)
chains-rows x id u next [] named above below never = absurd never
chains-rows x id u next (chain ∷ chains) named above below (inl left) = inl (record { named = named; above = above; below = below; left = left })
chains-rows x id u next (chain ∷ chains) named above below (inr more) = inr (chains-rows x id u next chains named above below more)

rows-chains : (x : Pattern) (id : ℕ) (u : List ℕ) (next : Next) (chains : List (List Piece)) → OneOf (RowEnds id u next) (map (λ chain. record { pattern = x; chain = chain }) chains) →
    (x.id ≡ id) × (x.least ≤ length u) × (length u ≤ x.greatest) × OneOf (λ chain. LeavesAt chain u next) chains
rows-chains x id u next [] never = absurd never
rows-chains x id u next (chain ∷ chains) (inl ends) = (ends.named, ends.above, ends.below, inl ends.left)
rows-chains x id u next (chain ∷ chains) (inr more) = let (named, above, below, left) = rows-chains x id u next chains more in (named, above, below, inr left)

pattern-rows : (x : Pattern) (id : ℕ) (u : List ℕ) (next : Next) → HasSpansOfChains x → EndsHere id u next x ↔ OneOf (RowEnds id u next) (rows_of x)
pattern-rows x id u next spans = (
  λ ends.
      let (above, below, left) = (ends-leaving x u next spans).0 (subst (λ n. EndsHere n u next x) (sym ends.named) ends) in
      chains-rows x id u next (chains_of x.tree) ends.named above below left,
  λ rows.
      let (named, above, below, left) = rows-chains x id u next (chains_of x.tree) rows in
      subst (λ n. EndsHere n u next x) named ((ends-leaving x u next spans).1 (above, below, left)),
)

pub patterns-rows : (P : List Pattern) (id : ℕ) (u : List ℕ) (next : Next) → Each HasSpansOfChains P → HasEndHere P id u next ↔ HasRowEnd (flat_map rows_of P) id u next
patterns-rows [] id u next spans = (λ never. never, λ never. never)
patterns-rows (x ∷ P) id u next (spans, others) =
    let one = pattern-rows x id u next spans in
    let more = patterns-rows P id u next others in (
      λ ends. elim ends [
        | inl here ↦ one_of-left (RowEnds id u next) (rows_of x) (flat_map rows_of P) (one.0 here)
        | inr there ↦ one_of-right (RowEnds id u next) (rows_of x) (flat_map rows_of P) (more.0 there)
      ],
      λ rows. elim (one_of-append (RowEnds id u next) (rows_of x) (flat_map rows_of P) rows) [
        | inl here ↦ inl (one.1 here)
        | inr there ↦ inr (more.1 there)
      ],
    )

through : (A B C : Type 0) → A ↔ B → B ↔ C → A ↔ C
through A B C first second = (λ a. second.0 (first.0 a), λ c. first.1 (second.1 c))

pub about-patterns : (P : List Pattern) (u : List ℕ) (b : ℕ) (identifiers : List Identifier) (ends : List EndsAbout) → Each HasSpansOfChains P → AreRowsAbout (flat_map rows_of P) u b identifiers ends → AreEndsAbout P u b identifiers ends
about-patterns P u b identifiers ends spans about i identifier e at at' =
    let are = about i identifier e at at' in
    let id : ℕ = identifier.id.0 in
    let law : (v : List ℕ) (next : Next) → HasEndHere P id v next ↔ HasRowEnd (flat_map rows_of P) id v next = λ v next. patterns-rows P id v next spans in
    record {
      before = (λ is. (law u (class_of b)).1 (are.before.0 is), λ has. are.before.1 ((law u (class_of b)).0 has));
      before_last = (
        λ is. ((are.before_last.0 is).0, (law u after.FinalNewline).1 (are.before_last.0 is).1),
        λ (feed, has). are.before_last.1 (feed, (law u after.FinalNewline).0 has),
      );
      behind = (λ is. (law (u ++ b ∷ []) after.Unknown).1 (are.behind.0 is), λ has. are.behind.1 ((law (u ++ b ∷ []) after.Unknown).0 has));
    }

pub last-patterns : (P : List Pattern) (u : List ℕ) (identifiers : List Identifier) (ends : List EndsAbout) → Each HasSpansOfChains P → AreRowsLast (flat_map rows_of P) u identifiers ends → AreLastEnds P u identifiers ends
last-patterns P u identifiers ends spans about i identifier e at at' =
    let law = patterns-rows P identifier.id.0 u after.End spans in
    let are = about i identifier e at at' in
    (λ is. law.1 (are.0 is), λ has. are.1 (law.0 has))
