-- A chain over a byte, piece by piece.
use Rattle.std.proofs.Common.{◌≡◌, ℕ, zero, suc, ◌+◌, ◌-◌, ◌<◌, ◌≤◌, Bool, true, false, List, [], ◌∷◌, ◌++◌, length, take, drop, Some, slice_get, refl, sym, ap, subst, ◌∙◌, inl, inr, arith}
use Rattle.std.proofs.lemmas.Bool.{cases_eq}
use Rattle.std.proofs.lemmas.Option.{same_Some}
use Rattle.hs_base.specs.declared.context.NextSet.{NextSet}
use Rattle.hs_base.specs.Chains.{Piece, lit, nfa, IsFitChain}
use Rattle.hs_base.specs.ContextSets.{has_next}
use Rattle.hs_base.specs.KeptPieces.{Form, form_of, nothing, IsKeptAs}
use Rattle.hs_base.specs.Leaving.{TellsLeaving}
use Rattle.hs_base.specs.Regions.{Place, Plan, list_places, place_form}
use Rattle.hs_base.specs.Trees.{Tree}
use Rattle.hs_layout.specs.Layouts.{Laid, field_bytes}
use Rattle.hs_base.specs.Literals.{LiteralByte}
use Rattle.hs_run.specs.Chains.{AreKept, AreParts, AreWritten}
use Rattle.hs_run.specs.Pieces.{GoesOn, KeepsOn, IsPart}
use Rattle.hs_run.specs.Programs.{Row, RunsRow, RunsPlace, LooksBack, HasNoField, looked, row_place}
use Rattle.hs_run.specs.Spots.{IsSpot}
use Rattle.hs_rose.specs.declared.info.ChainInfo.{ChainInfo}
use Rattle.hs_run.specs.declared.way.Way.TheVariants as way
use Rattle.hs_rose.specs.Programs.{Tables}
use Rattle.hs_rose.specs.declared.role.Role.{Role}
use Rattle.hs_run.specs.declared.spot.Spot.{Spot}
use Rattle.hs_run.proofs.LayoutLemmas.{there}

take-suc : {A : Type 0} (xs : List A) (k : ℕ) (x : A) → slice_get xs k ≡ Some x → take (suc k) xs ≡ take k xs ++ x ∷ []
take-suc [] k x at = absurd (cc)
take-suc (y ∷ xs) zero x at = ap (λ z. z ∷ []) (same_Some y x at)
take-suc (y ∷ xs) (suc k) x at = ap (λ zs. y ∷ zs) (take-suc xs k x at)

pub cut-at : {A : Type 0} (xs : List A) (k : ℕ) (x : A) → slice_get xs k ≡ Some x → xs ≡ take k xs ++ x ∷ drop (suc k) xs
cut-at [] k x at = absurd (cc)
cut-at (y ∷ xs) zero x at = ap (λ z. z ∷ xs) (same_Some y x at)
cut-at (y ∷ xs) (suc k) x at = ap (λ zs. y ∷ zs) (cut-at xs k x at)

module _ (program : Tables) (plan : Plan) (c : ChainInfo) (x : Row) (runs : RunsRow program plan c x) where
  -- the piece of the role of that number
  pub record IsHere (k : ℕ) : Type 0 where
    pub piece : Piece
    pub there_is : slice_get x.chain (k - c.first) ≡ Some piece
    pub place : slice_get (list_places plan) k ≡ Some (row_place plan x.chain (k - c.first) piece)

  pub here : (k : ℕ) → c.first ≤ k → k < c.end → IsHere k
  here k low high =
      let (piece, is) = there x.chain (k - c.first) (omega (arith, low, high, runs.end)) in
      let e : c.first + (k - c.first) ≡ k = omega (arith, low) in
      record {
        piece = piece;
        there_is = is;
        place = subst (λ n. slice_get (list_places plan) n ≡ Some (row_place plan x.chain (k - c.first) piece)) e (runs.places (k - c.first) piece is);
      }

  runs-place : (k : ℕ) (r : Role) → (is : IsHere k) → c.first + looked (plan.looks_back x.chain) ≤ k → slice_get program.roles k ≡ Some r →
      RunsPlace program r (row_place plan x.chain (k - c.first) is.piece)
  runs-place k r is low role =
      let e : k ≡ c.first + (k - c.first) = omega (arith, low) in
      runs.alone (k - c.first) is.piece r (omega (arith, low)) is.there_is (subst (λ n. slice_get program.roles n ≡ Some r) e role)

  module _ (l : Laid) (u : List ℕ) (spot : Spot) (is : IsSpot u spot) (k : ℕ) (r : Role) (low : c.first + looked (plan.looks_back x.chain) ≤ k) (high : k < c.end)
      (role : slice_get program.roles k ≡ Some r) (now : NextSet) (tells : TellsLeaving (has_next now) (take (k - c.first) x.chain) u) where
    -- where one piece more is left
    pub leaves-next : (part : List ℕ) (then : NextSet) → ((p : Place) → slice_get (list_places plan) k ≡ Some p → IsKeptAs (place_form p) p.pieces part u) →
        GoesOn program r part spot now then →
        TellsLeaving (has_next then) (take (k + 1 - c.first) x.chain) u
    leaves-next part then kept goes =
        let at : IsHere k = here k (omega (arith, low)) high in
        let i : ℕ = k - c.first in
        let more : take (k + 1 - c.first) x.chain ≡ take i x.chain ++ at.piece ∷ [] =
        ap (λ n. take n x.chain) (let e : k + 1 - c.first ≡ suc i = omega (arith, low) in e) ∙ take-suc x.chain i at.piece at.there_is in
        subst (λ pieces. TellsLeaving (has_next then) pieces u) (sym more)
        (goes (row_place plan x.chain i at.piece) (drop (suc i) x.chain) u (runs-place k r at low role)
        (subst IsFitChain (cut-at x.chain i at.piece at.there_is) runs.fit) is (kept (row_place plan x.chain i at.piece) at.place) tells)

    -- and its field
    pub keeps-next : (old new : List ℕ) (byte : ℕ) → KeepsOn program r old new spot byte now →
        (p : Place) → slice_get (list_places plan) k ≡ Some p → IsKeptAs (place_form p) p.pieces old u → IsKeptAs (place_form p) p.pieces new (u ++ byte ∷ [])
    keeps-next old new byte keeps p place kept =
        let at : IsHere k = here k (omega (arith, low)) high in
        let one : row_place plan x.chain (k - c.first) at.piece ≡ p = same_Some (row_place plan x.chain (k - c.first) at.piece) p (sym at.place ∙ place) in
        subst (λ q. IsKeptAs (place_form q) q.pieces new (u ++ byte ∷ [])) one
        (keeps (row_place plan x.chain (k - c.first) at.piece) u (runs-place k r at low role) is
        (subst (λ q. IsKeptAs (place_form q) q.pieces old u) (sym one) kept) tells)

-- nothing is kept of the pieces that are told together

pair-form : (tree : Tree) (xs : List LiteralByte) (rest : List Piece) (back : Bool) (i : ℕ) (piece : Piece) → back ≡ true → i < 2 → slice_get (nfa tree ∷ lit xs ∷ rest) i ≡ Some piece →
    form_of back (take i (nfa tree ∷ lit xs ∷ rest)) piece ≡ nothing
pair-form tree xs rest back zero piece is below at =
    subst (λ q. form_of back [] q ≡ nothing) (same_Some (nfa tree) piece at) (subst (λ b. form_of b [] (nfa tree) ≡ nothing) (sym is) refl)
pair-form tree xs rest back (suc zero) piece is below at =
    subst (λ q. form_of back (nfa tree ∷ []) q ≡ nothing) (same_Some (lit xs) piece at) (subst (λ b. form_of b (nfa tree ∷ []) (lit xs) ≡ nothing) (sym is) refl)
pair-form tree xs rest back (suc (suc i)) piece is below at = absurd (omega (arith, below))

nothing-kept : (form : Form) (pieces : List Piece) (bytes u v : List ℕ) → form ≡ nothing → IsKeptAs form pieces bytes u → IsKeptAs form pieces bytes v
nothing-kept form pieces bytes u v is kept = subst (λ f. IsKeptAs f pieces bytes v) (sym is) (subst (λ f. IsKeptAs f pieces bytes u) is kept)

module _ (program : Tables) (plan : Plan) (c : ChainInfo) (x : Row) (runs : RunsRow program plan c x) where
  begin-by : (l : Laid) (region u v : List ℕ) (next : ℕ) (back : Bool) → plan.looks_back x.chain ≡ back → next ≡ c.first + looked back → AreKept plan l region c.first c.end u → next ≤ c.end →
      AreKept plan l region c.first next v
  begin-by l region u v next false is end kept within k p low high place = absurd (omega (arith, end, low, high))
  begin-by l region u v next true is end kept within k p low high place =
      let at : IsHere program plan c x runs k = here program plan c x runs k low (omega (arith, high, within)) in
      let i : ℕ = k - c.first in
      let looks : LooksBack program c.first x.chain = runs.looks_back is in
      let one : row_place plan x.chain i at.piece ≡ p = same_Some (row_place plan x.chain i at.piece) p (sym at.place ∙ place) in
      let form : place_form (row_place plan x.chain i at.piece) ≡ nothing =
      subst (λ chain. form_of (plan.looks_back x.chain) (take i chain) at.piece ≡ nothing) (sym looks.is_chain)
      (pair-form looks.tree looks.value looks.rest (plan.looks_back x.chain) i at.piece is (omega (arith, low, high, end))
      (subst (λ chain. slice_get chain i ≡ Some at.piece) looks.is_chain at.there_is)) in
      nothing-kept (place_form p) p.pieces (field_bytes l region k) u v (subst (λ q. place_form q ≡ nothing) one form) (kept k p low (omega (arith, high, within)) place)

  pub begin-kept : (l : Laid) (region u v : List ℕ) (next : ℕ) → next ≡ c.first + looked (plan.looks_back x.chain) → next ≤ c.end → AreKept plan l region c.first c.end u → AreKept plan l region c.first next v
  begin-kept l region u v next end within kept = begin-by l region u v next (plan.looks_back x.chain) refl end kept within

module _ (program : Tables) where
  no_field-part : (r : Role) (bytes : List ℕ) (at : ℕ) → HasNoField r → IsPart program r bytes at
  no_field-part r bytes at (inl is) = record {
    engine = λ same. absurd (let e : way.LookBack ≡ way.Engine = sym is ∙ same in cc);
    literal = λ same. absurd (let e : way.LookBack ≡ way.Literal = sym is ∙ same in cc);
  }
  no_field-part r bytes at (inr is) = record {
    engine = λ same. absurd (let e : way.BareLiteral ≡ way.Engine = sym is ∙ same in cc);
    literal = λ same. absurd (let e : way.BareLiteral ≡ way.Literal = sym is ∙ same in cc);
  }

  pub no_field-parts : (l : Laid) (region : List ℕ) (from to at : ℕ) → ((k : ℕ) (r : Role) → from ≤ k → k < to → slice_get program.roles k ≡ Some r → HasNoField r) → AreParts program l region from to at
  no_field-parts l region from to at none k r low high role = no_field-part r (field_bytes l region k) at (none k r low high role)

  pub parts-more : (l : Laid) (from k at : ℕ) (mid new : List ℕ) → k + 1 < length l.starts → AreWritten l k (k + 1) mid new → AreParts program l mid from k at →
      ((r : Role) → slice_get program.roles k ≡ Some r → IsPart program r (field_bytes l new k) at) → AreParts program l new from (k + 1) at
  parts-more l from k at mid new inside written parts here j r low high role = elim (cases_eq j k) [
    | inl same ↦
        subst (λ n. IsPart program r (field_bytes l new n) at) (sym same) (here r (ap (slice_get program.roles) (sym same) ∙ role))
    | inr apart ↦
        let below : j < k = omega (arith, high, apart) in
        subst (λ bytes. IsPart program r bytes at) (sym (written.others j (inl below) (omega (arith, below, inside)))) (parts j r low below role)
  ]

pub kept-more : (plan : Plan) (l : Laid) (from k : ℕ) (mid new v : List ℕ) → k + 1 < length l.starts → AreWritten l k (k + 1) mid new → AreKept plan l mid from k v →
    ((p : Place) → slice_get (list_places plan) k ≡ Some p → IsKeptAs (place_form p) p.pieces (field_bytes l new k) v) → AreKept plan l new from (k + 1) v
kept-more plan l from k mid new v inside written kept here' j p low high place = elim (cases_eq j k) [
  | inl same ↦ subst (λ n. IsKeptAs (place_form p) p.pieces (field_bytes l new n) v) (sym same) (here' p (ap (slice_get (list_places plan)) (sym same) ∙ place))
  | inr apart ↦
      let below : j < k = omega (arith, high, apart) in
      subst (λ bytes. IsKeptAs (place_form p) p.pieces bytes v) (sym (written.others j (inl below) (omega (arith, below, inside)))) (kept j p low below place)
]
