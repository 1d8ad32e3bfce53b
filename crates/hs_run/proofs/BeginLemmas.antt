-- Where a chain begins: with a piece that looks back and the literal behind it, or with none.
use Rattle.std.proofs.Common.{◌≡◌, ◌↔◌, ℕ, suc, ◌+◌, ◌<◌, ◌≤◌, Bool, true, false, List, length, take, Some, slice_get, refl, sym, ap, subst, ◌∙◌, inl, inr, arith}
use Rattle.std.proofs.lemmas.Bool.{cases_eq}
use Rattle.std.proofs.lemmas.Option.{same_Some, slice_get_within}
use Rattle.hs_base.specs.declared.context.Next.{Next}
use Rattle.hs_base.specs.declared.context.NextSet.{NextSet}
use Rattle.hs_base.specs.Chains.{Piece}
use Rattle.hs_base.specs.ContextSets.{has_next}
use Rattle.hs_base.specs.Leaving.{TellsLeaving}
use Rattle.hs_base.specs.Regions.{Plan}
use Rattle.hs_base.proofs.ChainStreamLemmas.{leaving-begins}
use Rattle.hs_base.specs.Literals.{LiteralByte}
use Rattle.hs_run.specs.Ways.{way_of}
use Rattle.hs_run.specs.Chains.{BeginsRow}
use Rattle.hs_run.specs.Looking.{LeavesLooked}
use Rattle.hs_run.specs.Programs.{Row, RunsRow, LooksBack, FirstLooksBack, HasNoField, HasWindow, IsChainSound, IsLookSound, looked, row_place}
use Rattle.hs_run.specs.Spots.{IsSpot}
use Rattle.hs_rose.specs.declared.info.ChainInfo.{ChainInfo}
use Rattle.hs_run.specs.declared.way.Way.TheVariants as way
use Rattle.hs_rose.specs.Programs.{Tables}
use Rattle.hs_rose.specs.declared.role.Role.{Role}
use Rattle.hs_run.specs.declared.spot.Spot.{Spot}
use Rattle.hs_run.proofs.LayoutLemmas.{there}
use Rattle.hs_run.proofs.PieceLemmas.{never-looks_back}

module _ (program : Tables) (c : ChainInfo) (sound : IsChainSound program c) (first : FirstLooksBack program c) where
  pub looks : (r : Role) × (slice_get program.roles c.first ≡ Some r) × IsLookSound program c r
  looks =
      let (r, role) = there program.roles c.first (omega (arith, first.0, sound.within)) in
      (r, role, sound.looks_back r role first.0 (first.1 r role))

  -- what the two roles name
  pub pair-window : (r : Role) → slice_get program.roles c.first ≡ Some r → HasWindow program r
  pair-window r role = (sound.looks_back r role first.0 (first.1 r role)).engine

  next-role : suc c.first ≡ c.first + 1
  next-role = omega arith

  pub pair-named : (q : Role) → slice_get program.roles (c.first + 1) ≡ Some q → q.number < length program.literals
  pair-named q role =
      let (s, there_is, look) = looks in
      let one : look.behind ≡ q = same_Some look.behind q (sym look.behind_there ∙ (ap (slice_get program.roles) next-role ∙ role)) in
      subst (λ z. z.number < length program.literals) one (slice_get_within program.literals look.behind.number look.literal look.literal_there)

  pub pair-short : (q : Role) (v : List LiteralByte) → slice_get program.roles (c.first + 1) ≡ Some q → slice_get program.literals q.number ≡ Some v → (1 ≤ length v) × (length v ≤ 32)
  pair-short q v role value =
      let (s, there_is, look) = looks in
      let one : look.behind ≡ q = same_Some look.behind q (sym look.behind_there ∙ (ap (slice_get program.roles) next-role ∙ role)) in
      let same : look.literal ≡ v = same_Some look.literal v (sym look.literal_there ∙ (ap (λ z. slice_get program.literals z.number) one ∙ value)) in
      subst (λ z. (1 ≤ length z) × (length z ≤ 32)) same (look.some, look.short)

  pub pair-bare : (k : ℕ) (r : Role) → c.first ≤ k → k < c.first + 2 → slice_get program.roles k ≡ Some r → HasNoField r
  pair-bare k r low high role = elim (cases_eq k c.first) [
    | inl same ↦ inl (first.1 r (ap (slice_get program.roles) (sym same) ∙ role))
    | inr apart ↦
        let (s, there_is, look) = looks in
        let e : k ≡ suc c.first = omega (arith, low, high, apart) in
        let one : look.behind ≡ r = same_Some look.behind r (sym look.behind_there ∙ (ap (slice_get program.roles) (sym e) ∙ role)) in
        inr (subst (λ q. way_of q ≡ way.BareLiteral) one look.behind_kind)
  ]

module _ (program : Tables) (plan : Plan) (c : ChainInfo) (x : Row) (runs : RunsRow program plan c x) where
  looked-by : (spot : Spot) (u : List ℕ) (is : IsSpot u spot) (set : NextSet) → FirstLooksBack program c → c.end ≤ length program.roles → LeavesLooked program c.first spot set → (back : Bool) → plan.looks_back x.chain ≡ back →
      (c.first + 2 ≡ c.first + looked back) × TellsLeaving (has_next set) (take (looked back) x.chain) u
  looked-by spot u is set first within leaves true same = (refl, leaves x.chain u (runs.looks_back same) runs.fit is)
  looked-by spot u is set first within leaves false same =
      let (piece, there_is) = there x.chain 0 (omega (arith, first.0, runs.end)) in
      let (r, role) = there program.roles c.first (omega (arith, first.0, within)) in
      let e : c.first ≡ c.first + 0 = omega arith in
      let low : looked (plan.looks_back x.chain) ≤ 0 = subst (λ b. looked b ≤ 0) (sym same) (omega arith) in
      let alone = runs.alone 0 piece r low there_is (ap (slice_get program.roles) (sym e) ∙ role) in
      absurd (never-looks_back program r (row_place plan x.chain 0 piece) alone.alone (first.1 r role))

  pub begins-looked : (spot : Spot) (u : List ℕ) (is : IsSpot u spot) (set : NextSet) → FirstLooksBack program c → c.end ≤ length program.roles → LeavesLooked program c.first spot set →
      BeginsRow program plan c x u (record { now = set; next = c.first + 2 })
  begins-looked spot u is set first within leaves =
      let both = looked-by spot u is set first within leaves (plan.looks_back x.chain) refl in record { next = both.0; leaves = both.1 }

  plain-by : (u : List ℕ) (all : NextSet) → ((next : Next) → has_next all next ≡ true) → (FirstLooksBack program c → ⊥) → (back : Bool) → plan.looks_back x.chain ≡ back →
      (c.first ≡ c.first + looked back) × TellsLeaving (has_next all) (take (looked back) x.chain) u
  plain-by u all every never false same =
      (omega arith, λ next. (λ has. (leaving-begins u next).0 refl, λ left. every next))
  plain-by u all every never true same =
      let looks : LooksBack program c.first x.chain = runs.looks_back same in
      absurd (never (
        omega (arith, runs.end, ap length looks.is_chain),
        λ r role. subst (λ q. way_of q ≡ way.LookBack) (same_Some looks.before r (sym looks.there ∙ role)) looks.kind,
      ))

  pub begins-plain : (u : List ℕ) (all : NextSet) → ((next : Next) → has_next all next ≡ true) → (told : Bool) → told ≡ false → ((told ≡ true) ↔ FirstLooksBack program c) →
      BeginsRow program plan c x u (record { now = all; next = c.first })
  begins-plain u all every told not law =
      let both = plain-by u all every (λ first. absurd (let e : false ≡ true = sym not ∙ law.1 first in cc)) (plan.looks_back x.chain) refl in
      record { next = both.0; leaves = both.1 }

-- the literal behind a piece that looks back is the one that the next role names
pub looked-value : (program : Tables) (first : ℕ) (chain : List Piece) (looked : LooksBack program first chain) (q : Role) (v : List LiteralByte) →
    slice_get program.roles (first + 1) ≡ Some q → slice_get program.literals q.number ≡ Some v → looked.value ≡ v
looked-value program first chain looked q v role value =
    let e : suc first ≡ first + 1 = omega arith in
    let one : looked.behind ≡ q = same_Some looked.behind q (sym looked.behind_there ∙ (ap (slice_get program.roles) e ∙ role)) in
    same_Some looked.value v (sym looked.value_there ∙ (ap (λ z. slice_get program.literals z.number) one ∙ value))
