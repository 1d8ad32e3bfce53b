-- One chain about a byte: the ends that are noted.
use Rattle.std.proofs.Common.{◌≡◌, ◌↔◌, ◌⊎◌, ℕ, ◌+◌, ◌-◌, ◌≤◌, ◌<◌, Some, slice_get, Bool, true, false, ◌||◌, ◌&&◌, List, length, eqb, refl, sym, subst, ◌∙◌, inl, inr, arith}
use Rattle.std.proofs.lemmas.Option.{same_Some, slice_get_within}
use Rattle.std.proofs.lemmas.Bool.{eqb-true, eq-eqb, cases_lt}
use Rattle.hs_base.specs.declared.context.Next.{Next}
use Rattle.hs_base.specs.declared.context.NextSet.{NextSet}
use Rattle.hs_base.specs.Assertions.{line_feed}
use Rattle.hs_base.specs.ContextSets.{has_next}
use Rattle.hs_base.specs.Leaving.{TellsLeaving}
use Rattle.hs_base.specs.KeptPieces.{IsKeptAs}
use Rattle.hs_base.specs.Regions.{Plan, place_form}
use Rattle.hs_layout.specs.Layouts.{Laid, field_bytes}
use Rattle.hs_run.specs.Chains.{AreKept, AreParts, AreWritten}
use Rattle.hs_run.specs.Ends.{IsWithinBounds, RowEnds}
use Rattle.hs_run.specs.Pieces.{IsPart}
use Rattle.hs_run.specs.Programs.{Row, RunsRow}
use Rattle.hs_rose.specs.declared.info.ChainInfo.{ChainInfo}
use Rattle.hs_rose.specs.declared.info.EntryInfo.{EntryInfo}
use Rattle.hs_rose.specs.Programs.{Tables}

or-true : (a b : Bool) → (a || b) ≡ true → (a ≡ true) ⊎ (b ≡ true)
or-true true b is = inl refl
or-true false b is = inr is

true-or : (a b : Bool) → (a ≡ true) ⊎ (b ≡ true) → (a || b) ≡ true
true-or true b is = refl
true-or false b (inl is) = absurd (cc)
true-or false b (inr is) = is

and-true : (a b : Bool) → (a && b) ≡ true → (a ≡ true) × (b ≡ true)
and-true true b is = (refl, is)
and-true false b is = absurd (cc)

true-and : (a b : Bool) → a ≡ true → b ≡ true → (a && b) ≡ true
true-and true b a-is is = is
true-and false b a-is is = absurd (cc)

-- an end that is noted beside others
pub noted : (has old new : Bool) (Q : Type 0) → (has ≡ true) ↔ Q → new ≡ (old || has) → (new ≡ true) ↔ ((old ≡ true) ⊎ Q)
noted has old new Q tells joins = (
  λ is. elim (or-true old has (sym joins ∙ is)) [ inl before ↦ inl before | inr now ↦ inr (tells.0 now) ],
  λ either. joins ∙ true-or old has (elim either [ inl before ↦ inl before | inr ends ↦ inr (tells.1 ends) ]),
)

pub noted_last : (has old new : Bool) (b : ℕ) (Q : Type 0) → (has ≡ true) ↔ Q → new ≡ (old || (eqb b line_feed && has)) → (new ≡ true) ↔ ((old ≡ true) ⊎ ((b ≡ line_feed) × Q))
noted_last has old new b Q tells joins = (
  λ is. elim (or-true old (eqb b line_feed && has) (sym joins ∙ is)) [
    | inl before ↦ inl before
    | inr now ↦ let (feed, ends) = and-true (eqb b line_feed) has now in inr (eqb-true b line_feed feed, tells.0 ends)
  ],
  λ either. joins ∙ true-or old (eqb b line_feed && has) (elim either [
    | inl before ↦ inl before
    | inr both ↦ inr (true-and (eqb b line_feed) has (eq-eqb b line_feed both.0) (tells.1 both.1))
  ]),
)

-- where the matches of a row end, by where its chain is left within the bounds
pub row-ends : (program : Tables) (plan : Plan) (c : ChainInfo) (x : Row) (u : List ℕ) (at : ℕ) (set within : NextSet) (info : EntryInfo) → RunsRow program plan c x → slice_get program.entries (c.entry - 1) ≡ Some info → at ≡ length u →
    TellsLeaving (has_next set) x.chain u → IsWithinBounds info at set within → (next : Next) → (has_next within next ≡ true) ↔ RowEnds x.pattern.id u next x
row-ends program plan c x u at set within info runs entry here tells bounds next =
    let one : runs.entry ≡ info = same_Some runs.entry info (sym runs.entry_there ∙ entry) in
    let least : info.min_offset ≡ x.pattern.least = subst (λ (e : EntryInfo). e.min_offset ≡ x.pattern.least) one runs.least in
    let greatest : info.max_offset ≡ x.pattern.greatest = subst (λ (e : EntryInfo). e.max_offset ≡ x.pattern.greatest) one runs.greatest in (
      λ has.
          let (above, below, left) = (bounds next).0 has in
          record { named = refl; above = omega (arith, above, here, least); below = omega (arith, below, here, greatest); left = (tells next).0 left },
      λ ends. (bounds next).1 (omega (arith, ends.above, here, least), omega (arith, ends.below, here, greatest), (tells next).1 ends.left),
    )

-- fields before and behind a number
pub kept-join : (plan : Plan) (l : Laid) (from mid to : ℕ) (region v : List ℕ) → AreKept plan l region from mid v → AreKept plan l region mid to v → AreKept plan l region from to v
kept-join plan l from mid to region v first second k p low high place = elim (cases_lt k mid) [
  | inl below ↦ first k p low below place
  | inr above ↦ second k p above high place
]

pub parts-join : (program : Tables) (l : Laid) (from mid to at : ℕ) (region : List ℕ) → AreParts program l region from mid at → AreParts program l region mid to at →
    AreParts program l region from to at
parts-join program l from mid to at region first second k r low high role = elim (cases_lt k mid) [
  | inl below ↦ first k r low below role
  | inr above ↦ second k r above high role
]

-- fields that are not written stay as they are
pub parts-stay : (program : Tables) (l : Laid) (from to a b at : ℕ) (mid new : List ℕ) → length l.starts ≡ length program.roles + 1 → AreWritten l from to mid new →
    (b ≤ from) ⊎ (to ≤ a) → AreParts program l mid a b at → AreParts program l new a b at
parts-stay program l from to a b at mid new count written apart parts k r low high role =
    let below : k < length program.roles = slice_get_within program.roles k r role in
    let same : field_bytes l new k ≡ field_bytes l mid k =
    written.others k (elim apart [ inl before ↦ inl (omega (arith, before, high)) | inr behind ↦ inr (omega (arith, behind, low)) ]) (omega (arith, below, count)) in
    subst (λ bytes. IsPart program r bytes at) (sym same) (parts k r low high role)

pub kept-stay : (plan : Plan) (l : Laid) (from to a b : ℕ) (mid new v : List ℕ) → b + 1 ≤ length l.starts → AreWritten l from to mid new → (b ≤ from) ⊎ (to ≤ a) → AreKept plan l mid a b v → AreKept plan l new a b v
kept-stay plan l from to a b mid new v within written apart kept k p low high place =
    let same : field_bytes l new k ≡ field_bytes l mid k =
    written.others k (elim apart [ inl before ↦ inl (omega (arith, before, high)) | inr behind ↦ inr (omega (arith, behind, low)) ]) (omega (arith, high, within)) in
    subst (λ bytes. IsKeptAs (place_form p) p.pieces bytes v) (sym same) (kept k p low high place)
