-- What holds of what streams keep of their regions.
use Rattle.std.proofs.Common.{◌≡◌, ℕ, zero, suc, ◌+◌, ◌-◌, ◌<◌, ◌≤◌, List, [], ◌∷◌, length, map, take, replicate, get_or, Some, slice_get, slice_range, refl, sym, ap, subst, ◌∙◌, arith}
use Rattle.std.proofs.lemmas.List.{drop-replicate, length-map, length-replicate, take-replicate}
use Rattle.std.proofs.lemmas.Option.{slice_get-get_or, slice_get_within, same_Some}
use Rattle.std.proofs.Math.Seq.{take-length}
use Rattle.hs_base.specs.AssertionTests.{has_assertion}
use Rattle.hs_base.specs.Chains.{Piece}
use Rattle.hs_base.specs.Fields.{entered_always}
use Rattle.hs_base.specs.KeptPieces.{form_size, IsFieldAt, IsKeptAs, positions}
use Rattle.hs_base.specs.Lists.{Each}
use Rattle.hs_base.specs.PositionRows.{IsField}
use Rattle.hs_base.specs.Regions.{IsPlaced, IsRegion, Place, Plan, list_places, place_form, place_size, plan_fields_at, plan_size, region_offset}
use Rattle.hs_base.specs.Trees.{Tree}
use Rattle.hs_base.specs.WrittenOut.{write_out}
use Rattle.hs_base.proofs.EntryLemmas.{entries-once, first-entered}
use Rattle.hs_base.proofs.KeptLemmas.{fields-at, fields-once}
use Rattle.hs_base.proofs.RegionLemmas.{fields-within, placed-end, size-above}
use Rattle.hs_base.proofs.RegionStartLemmas.{regions-begin}
use Rattle.hs_base.proofs.SumLemmas.{sums-first, sums-size}
use Rattle.hs_states.specs.DfaStates.{first_state, is_live, tests_of}
use Rattle.hs_states.proofs.StateLemmas.{state-start}
use Rattle.hs_kept.specs.KeptLaws.{KeptFormsOnce, KeptIsNoLarger, KeptRegionsAreWell, KeptRegionsBegin, KeptRegionsOnce, KeptSizesOnce, SameKeptSameRegion}
use Rattle.hs_kept.specs.KeptRegions.{AreKeptForms, IsHeaderOf, IsKeptByState, IsKeptForm, IsKeptPart, IsKeptPartAt, IsKeptPlaced, IsKeptRegion, IsStateByte, IsWellKept}
use Rattle.hs_kept.specs.KeptRegions.{KeptForm, field, kept_form_size, kept_size, kept_starts, state}
use Rattle.hs_kept.proofs.HeaderLemmas.{header-of_region, header_of-front, header-once, header-well, join-front}
use Rattle.hs_kept.proofs.PartLemmas.{form-of_state, kept-field, kept-state, range-as}
use Rattle.hs_kept.proofs.PlacedLemmas.{forms-same, header-within, kept-form, kept-high, kept-placed, kept-within, sums-no-larger, wide-placed, zip-count}
use Rattle.hs_kept.proofs.StatePartLemmas.{get-there, state-once, states-once}

pub forms-once : KeptFormsOnce
forms-once plan xs ys are other = forms-same (list_places plan) xs ys are other

pub sizes-once : KeptSizesOnce
sizes-once plan m n one other = one.size_is ∙ (ap (kept_size plan) (forms-once plan one.forms other.forms one.are other.are) ∙ sym other.size_is)

pub kept-no-larger : KeptIsNoLarger
kept-no-larger plan size is =
    let low : kept_size plan is.forms ≤ plan_size plan = sums-no-larger (list_places plan) is.forms (plan_fields_at plan) (plan_fields_at plan) is.are (omega arith) in
    omega (arith, is.size_is)

-- what is kept of a stream, by any forms of the plan
pub parts-by : (plan : Plan) (u region : List ℕ) (forms : List KeptForm) → AreKeptForms plan forms → IsKeptRegion plan u region →
    (k low high : ℕ) (p : Place) (form : KeptForm) → IsKeptPlaced plan forms k p form low high → IsKeptPart form p.pieces (slice_range region low high) u
parts-by plan u region forms are is =
    subst (λ fs. (k low high : ℕ) (p : Place) (form : KeptForm) → IsKeptPlaced plan fs k p form low high → IsKeptPart form p.pieces (slice_range region low high) u)
    (forms-once plan is.forms forms is.are are) is.parts

pub well-parts_by : (plan : Plan) (region : List ℕ) (forms : List KeptForm) → AreKeptForms plan forms → IsWellKept plan region →
    (k low high : ℕ) (p : Place) (form : KeptForm) → IsKeptPlaced plan forms k p form low high → IsKeptPartAt form (slice_range region low high) (region_offset region)
well-parts_by plan region forms are is =
    subst (λ fs. (k low high : ℕ) (p : Place) (form : KeptForm) → IsKeptPlaced plan fs k p form low high → IsKeptPartAt form (slice_range region low high) (region_offset region))
    (forms-once plan is.forms forms is.are are) is.parts

pub size-by : (plan : Plan) (xs ys : List KeptForm) → AreKeptForms plan xs → AreKeptForms plan ys → kept_size plan xs ≡ kept_size plan ys
size-by plan xs ys are other = ap (kept_size plan) (forms-once plan xs ys are other)

-- It is well formed.

part-well : (form : KeptForm) (pieces : List Piece) (bytes u : List ℕ) (offset : ℕ) → offset ≡ length u → IsKeptPart form pieces bytes u → IsKeptPartAt form bytes offset
part-well (field form) pieces bytes u offset is kept = subst (IsFieldAt form bytes) (sym is) (fields-at form pieces bytes u kept).1
part-well (state tree) pieces bytes u offset is kept =
    record { number = kept.number; byte = kept.byte; states = kept.states; few = kept.few; within = slice_get_within kept.states kept.number kept.own kept.at }

pub kept-well : KeptRegionsAreWell
kept-well plan u region is = record {
  forms = is.forms;
  are = is.are;
  len = is.len;
  bytes = is.bytes;
  header = header-well plan u region is.header;
  parts = λ k low high p form placed. part-well form p.pieces (slice_range region low high) u (region_offset region) is.header.offset (is.parts k low high p form placed);
}

-- It begins with no bit set.

abbrev zeros : ℕ → List ℕ
zeros n = replicate n 0

zeros-small : (n : ℕ) → Each (λ b. b < 256) (zeros n)
zeros-small zero = tt
zeros-small (suc n) = (omega arith, zeros-small n)

zeros-range : (n a b m : ℕ) → b ≡ a + m → b ≤ n → slice_range (zeros n) a b ≡ zeros m
zeros-range n a b m wide within =
    range-as (zeros n) a b m wide ∙ (ap (take m) (drop-replicate a n 0) ∙ take-replicate m (n - a) 0 (omega arith))

start-field : (plan : Plan) (k : ℕ) (p : Place) → slice_get (list_places plan) k ≡ Some p → IsKeptAs (place_form p) p.pieces (replicate (place_size p) 0) []
start-field plan k p piece =
    let there : (low : ℕ) × (high : ℕ) × IsPlaced plan k p low high = wide-placed plan k p piece in
    let wide : there.1 ≡ there.0 + place_size p = placed-end plan k there.0 there.1 p there.2 in
    subst (λ zs. IsKeptAs (place_form p) p.pieces zs [])
    (zeros-range (plan_size plan) there.0 there.1 (place_size p) wide (size-above plan (suc k) there.1 there.2.end))
    ((regions-begin plan).fields k there.0 there.1 p there.2)

start-part : (plan : Plan) (k : ℕ) (p : Place) (form : KeptForm) → slice_get (list_places plan) k ≡ Some p → IsKeptForm p form → IsKeptPart form p.pieces (replicate (kept_form_size form) 0) []
start-part plan k p (field form) piece is =
    subst (λ f. IsKeptAs f p.pieces (replicate (form_size f) 0) []) (sym (kept-field p form is)) (start-field plan k p piece)
start-part plan k p (state tree) piece is =
    let kept = kept-state p tree is in
    record {
      number = 0;
      byte = refl;
      states = kept.states;
      few = kept.few;
      own = first_state (tests_of (write_out tree)) (has_assertion tree);
      at = kept.few.all.so_far.begins;
      behind = state-start (write_out tree) (has_assertion tree);
    }

module _ (plan : Plan) (forms : List KeptForm) (are : AreKeptForms plan forms) where
  abbrev none_set : List ℕ
  none_set = replicate (kept_size plan forms) 0

  start-header : IsHeaderOf plan [] none_set
  start-header =
      let n : ℕ = plan_fields_at plan in
      let within : n ≤ plan_size plan = fields-within plan in
      let within2 : n ≤ kept_size plan forms = header-within plan forms are in
      header_of-front n (replicate (plan_size plan) 0) none_set (take-replicate n (plan_size plan) 0 within ∙ sym (take-replicate n (kept_size plan forms) 0 within2))
      plan [] (omega arith) (header-of_region plan [] (replicate (plan_size plan) 0) (regions-begin plan))

  start-kept : IsKeptRegion plan [] none_set
  start-kept = record {
    forms = forms;
    are = are;
    len = length-replicate {A = ℕ} (kept_size plan forms) 0;
    bytes = zeros-small (kept_size plan forms);
    header = start-header;
    parts = λ k low high p form placed.
        subst (λ zs. IsKeptPart form p.pieces zs [])
        (sym (zeros-range (kept_size plan forms) low high (kept_form_size form) (kept-high plan forms are k low high p form placed) (kept-within plan forms are k low high p form placed)))
        (start-part plan k p form placed.piece (kept-form plan forms are k low high p form placed));
  }

pub kept-begins : KeptRegionsBegin
kept-begins plan size is = subst (λ n. IsKeptRegion plan [] (replicate n 0)) (sym is.size_is) (start-kept plan is.forms is.are)

-- One list of bytes is kept of a history.

-- the state behind a stream has one number
byte-once : (tree : Tree) (xs ys u : List ℕ) → IsStateByte tree xs u → IsStateByte tree ys u → xs ≡ ys
byte-once tree xs ys u one other =
    let same : other.states ≡ one.states = states-once tree other.states one.states other.few.all one.few.all in
    let own : one.own ≡ other.own = state-once (write_out tree) (has_assertion tree) u one.own other.own one.behind other.behind in
    let at : slice_get one.states other.number ≡ Some one.own = ap (λ zs. slice_get zs other.number) (sym same) ∙ (other.at ∙ ap (λ s. Some s) (sym own)) in
    let number : one.number ≡ other.number = one.few.all.so_far.once one.number other.number one.own one.at at in
    one.byte ∙ (ap (λ n. n ∷ []) number ∙ sym other.byte)

part-once : (form : KeptForm) (pieces : List Piece) (xs ys u : List ℕ) → IsKeptPart form pieces xs u → IsKeptPart form pieces ys u → xs ≡ ys
part-once (field form) pieces xs ys u one other = fields-once form pieces xs ys u one other
part-once (state tree) pieces xs ys u one other = byte-once tree xs ys u one other

module _ (plan : Plan) (u xs ys : List ℕ) (is : IsKeptRegion plan u xs) (other : IsKeptRegion plan u ys) where
  same-size : length ys ≡ length xs
  same-size = other.len ∙ (size-by plan other.forms is.forms other.are is.are ∙ sym is.len)

  same-parts : (k high : ℕ) → k ≤ length (list_places plan) → slice_get (kept_starts plan is.forms) k ≡ Some high → take high xs ≡ take high ys
  same-parts zero high below begin =
      let e : plan_fields_at plan ≡ high = same_Some (plan_fields_at plan) high (sym (sums-first (plan_fields_at plan) (map kept_form_size is.forms)) ∙ begin) in
      let within : plan_fields_at plan ≤ kept_size plan is.forms = header-within plan is.forms is.are in
      subst (λ n. take n xs ≡ take n ys) e
      (header-once xs ys is.bytes other.bytes (plan_fields_at plan) (omega (arith, is.len)) (omega (arith, is.len, same-size)) plan u (omega arith) is.header other.header)
  same-parts (suc k) high below end =
      let (p, piece) = get-there (list_places plan) k (omega arith) in
      let (form, low, high2, placed) = kept-placed plan is.forms is.are k p piece in
      let e : high2 ≡ high = same_Some high2 high (sym placed.end ∙ end) in
      let wide : high2 ≡ low + kept_form_size form = kept-high plan is.forms is.are k low high2 p form placed in
      subst (λ n. take n xs ≡ take n ys) e
      (join-front xs ys low high2 (omega arith) (same-parts k low (omega arith) placed.begin)
      (part-once form p.pieces (slice_range xs low high2) (slice_range ys low high2) u (is.parts k low high2 p form placed) (parts-by plan u ys is.forms is.are other k low high2 p form placed)))

  same-bytes : xs ≡ ys
  same-bytes =
      let sizes : length (map kept_form_size is.forms) ≡ length is.forms = length-map is.forms kept_form_size in
      let count : length is.forms ≡ length (list_places plan) = zip-count (list_places plan) is.forms is.are in
      let count2 : length (kept_starts plan is.forms) ≡ suc (length (map kept_form_size is.forms)) = sums-size (plan_fields_at plan) (map kept_form_size is.forms) in
      let end : slice_get (kept_starts plan is.forms) (length (map kept_form_size is.forms)) ≡ Some (kept_size plan is.forms) =
      slice_get-get_or (kept_starts plan is.forms) (length (map kept_form_size is.forms)) 0 (omega arith) in
      let whole : take (kept_size plan is.forms) xs ≡ take (kept_size plan is.forms) ys =
      same-parts (length (map kept_form_size is.forms)) (kept_size plan is.forms) (omega arith) end in
      sym (take-length xs) ∙ (ap (λ m. take m xs) is.len ∙ (whole ∙ (ap (λ m. take m ys) (sym (same-size ∙ is.len)) ∙ take-length ys)))

pub kept-once : KeptRegionsOnce
kept-once plan u xs ys is other = same-bytes plan u xs ys is other

-- Histories of which the same is kept have the same region.

-- a field goes over from the one history to the other
state-goes : (tree : Tree) (bytes wide u v : List ℕ) → IsStateByte tree bytes u → IsStateByte tree bytes v → IsKeptAs (positions tree) [] wide u → IsKeptAs (positions tree) [] wide v
state-goes tree bytes wide u v one other kept =
    let number : one.number ≡ other.number = ap (λ zs. get_or zs 0 0) (sym one.byte ∙ other.byte) in
    let same : one.states ≡ other.states = states-once tree one.states other.states one.few.all other.few.all in
    let own : one.own ≡ other.own =
    same_Some one.own other.own (sym one.at ∙ (ap (slice_get one.states) number ∙ (ap (λ zs. slice_get zs other.number) same ∙ other.at))) in
    let says : IsField wide (write_out tree) u (entered_always u) =
    subst (IsField wide (write_out tree) u) (entries-once [] u kept.entered (entered_always u) kept.are (first-entered u)) kept.says in
    record {
      entered = entered_always v;
      are = first-entered v;
      sized = kept.sized;
      says = λ x.
          let e : is_live one.own x ≡ is_live other.own x = ap (λ s. is_live s x) own in
          (λ set. (other.behind.live x).0 (sym e ∙ (one.behind.live x).1 ((says x).0 set)), λ reached. (says x).1 ((one.behind.live x).0 (e ∙ (other.behind.live x).1 reached)));
    }

-- a first piece that is kept by state has its positions
pub as-positions : (p : Place) (tree : Tree) → IsKeptByState p tree → (bytes u : List ℕ) → IsKeptAs (place_form p) p.pieces bytes u → IsKeptAs (positions tree) [] bytes u
as-positions p tree is bytes u kept =
    subst (λ pieces. IsKeptAs (positions tree) pieces bytes u) is.first (subst (λ f. IsKeptAs f p.pieces bytes u) (form-of_state p tree is) kept)

pub as-piece : (p : Place) (tree : Tree) → IsKeptByState p tree → (bytes u : List ℕ) → IsKeptAs (positions tree) [] bytes u → IsKeptAs (place_form p) p.pieces bytes u
as-piece p tree is bytes u kept =
    subst (λ f. IsKeptAs f p.pieces bytes u) (sym (form-of_state p tree is)) (subst (λ pieces. IsKeptAs (positions tree) pieces bytes u) (sym is.first) kept)

part-goes : (p : Place) (form : KeptForm) (bytes wide u v : List ℕ) → IsKeptForm p form → IsKeptPart form p.pieces bytes u → IsKeptPart form p.pieces bytes v →
    IsKeptAs (place_form p) p.pieces wide u → IsKeptAs (place_form p) p.pieces wide v
part-goes p (field form) bytes wide u v is one other kept =
    let e : form ≡ place_form p = kept-field p form is in
    let kept2 : IsKeptAs form p.pieces wide u = subst (λ f. IsKeptAs f p.pieces wide u) (sym e) kept in
    let same : bytes ≡ wide = fields-once form p.pieces bytes wide u one kept2 in
    subst (λ f. IsKeptAs f p.pieces wide v) e (subst (λ zs. IsKeptAs form p.pieces zs v) same other)
part-goes p (state tree) bytes wide u v is one other kept =
    as-piece p tree (kept-state p tree is) wide v (state-goes tree bytes wide u v one other (as-positions p tree (kept-state p tree is) wide u kept))

module _ (plan : Plan) (u v kept region : List ℕ) (one : IsKeptRegion plan u kept) (other : IsKeptRegion plan v kept) (is : IsRegion plan u region) where
  goes-header : IsHeaderOf plan v region
  goes-header =
      let n : ℕ = plan_fields_at plan in
      let within : n ≤ kept_size plan one.forms = header-within plan one.forms one.are in
      let within2 : n ≤ plan_size plan = fields-within plan in
      header_of-front n kept region
      (header-once kept region one.bytes is.bytes n (omega (arith, one.len)) (omega (arith, is.len)) plan u (omega arith) one.header (header-of_region plan u region is))
      plan v (omega arith) other.header

  goes-field : (k low high : ℕ) (p : Place) → IsPlaced plan k p low high → IsKeptAs (place_form p) p.pieces (slice_range region low high) v
  goes-field k low high p placed =
      let (form, begin, end, there) = kept-placed plan one.forms one.are k p placed.piece in
      part-goes p form (slice_range kept begin end) (slice_range region low high) u v (kept-form plan one.forms one.are k begin end p form there)
      (one.parts k begin end p form there) (parts-by plan v kept one.forms one.are other k begin end p form there) (is.fields k low high p placed)

  goes-on : IsRegion plan v region
  goes-on = record {
    within = goes-header.within;
    len = is.len;
    bytes = is.bytes;
    offset = goes-header.offset;
    history = goes-header.history;
    told = goes-header.told;
    here = goes-header.here;
    last = goes-header.last;
    fields = goes-field;
  }

pub same-kept-same-region : SameKeptSameRegion
same-kept-same-region plan u v kept region one other is = goes-on plan u v kept region one other is
