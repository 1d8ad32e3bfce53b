-- What may be run as a region is what is well formed.
use Rattle.std.proofs.Common.{◌≡◌, ◌↔◌, ℕ, suc, ◌+◌, ◌<◌, Bool, List, length, map, Some, slice_get, refl, sym, ap, subst, ◌∙◌, arith}
use Rattle.std.specs.Prelude.{slice_index, slice_range}
use Rattle.std.specs.List.{AllZip}
use Rattle.std.proofs.lemmas.List.{length-map}
use Rattle.std.proofs.lemmas.Option.{get_or_from_slice_get, same_Some, slice_get_within}
use Rattle.hs_base.specs.Chains.{Piece, lit, nfa, rep, chains_of}
use Rattle.hs_base.specs.KeptPieces.{Form, form_of, literal_form, tree_form, repeat_form, IsFieldAt, nothing}
use Rattle.hs_base.specs.Lists.{Each}
use Rattle.hs_base.specs.Literals.{LiteralByte}
use Rattle.hs_base.specs.Patterns.{Pattern}
use Rattle.hs_base.specs.Regions.{Place, Plan, IsHeader, IsPlaced, IsWellFormed, list_places, place_form, plan_starts, region_offset}
use Rattle.hs_base.specs.RepeatRows.{IsRingAt}
use Rattle.hs_base.specs.Trees.{Tree}
use Rattle.hs_layout.specs.Layouts.{Laid, field_bytes, laid_size, layout_of}
use Rattle.hs_rose.specs.Identifiers.{singles_of}
use Rattle.hs_rose.specs.Kinds.{kind_for}
use Rattle.hs_rose.specs.declared.engine.PieceEngine.{PieceEngine}
use Rattle.hs_rose.specs.declared.role.Role.{Role}
use Rattle.hs_rose.specs.Listing.{Asked, ListedPiece}
use Rattle.hs_rose.specs.PieceEngines.{IsEngineOf, engine_form, piece_meaning}
use Rattle.hs_rose.specs.Programs.{Tables, IsProgramOf, IsRoleOf}
use Rattle.hs_rose.proofs.ListLemmas.{get-map}
use Rattle.hs_run.specs.declared.way.Way.TheVariants as way
use Rattle.hs_run.specs.Feeding.{IsWellRegion}
use Rattle.hs_rose.specs.Plans.{AsksFor, plan_of}
use Rattle.hs_run.specs.Pieces.{IsPart}
use Rattle.hs_run.specs.Programs.{FitsLayout, sizes_of}
use Rattle.hs_run.proofs.LayoutLemmas.{there}
use Rattle.hs_run.specs.Ways.{way_for, way_of}
use Rattle.hs_run.proofs.JoinLemmas.{all_pieces, has-piece, roles-count}
use Rattle.hs_run.proofs.PlanLayoutLemmas.{plan-size, plan_layout, placed}
use Rattle.hs_run.proofs.PlanLemmas.{plan-places, plan-sized}
use Rattle.hs_run.proofs.RoleLemmas.{bare-engine, bare-literal, first_one, literal-engine, literal-way, looked_one, looks, looks-engine, looks-literal, engine-literal, named-engine, never, other, place_of, repeat-way, runs, tree-way}

module _ (t : Tables) (models : List Piece) (engines : AllZip IsEngineOf t.engines models) (r : Role) (bytes : List ℕ) (at : ℕ) where
  -- nothing is kept
  bare-part : (form : Form) → form ≡ nothing → (way_of r ≡ way.Engine → ⊥) → (way_of r ≡ way.Literal → ⊥) → IsPart t r bytes at ↔ IsFieldAt form bytes at
  bare-part form same no_engine no_literal = (
    λ part. subst (λ f. IsFieldAt f bytes at) (sym same) tt,
    λ field. record { engine = λ is. absurd (no_engine is); literal = λ is. absurd (no_literal is) },
  )

  engine-part : (piece : Piece) (form : Form) → form ≡ engine_form piece → slice_get models r.number ≡ Some piece → way_of r ≡ way.Engine → IsPart t r bytes at ↔ IsFieldAt form bytes at
  engine-part piece form same named is =
      let (e, there, of) = named-engine t models engines r piece named in (
        λ part. subst (λ f. IsFieldAt f bytes at) (sym same) ((of.well bytes at).0 (part.engine is e there)),
        λ field. record {
          engine = λ so q there_q. subst (λ (x : PieceEngine). (piece_meaning x).well bytes at) (same_Some e q (sym there ∙ there_q)) ((of.well bytes at).1 (subst (λ f. IsFieldAt f bytes at) same field));
          literal = never way.Engine way.Literal is engine-literal;
        },
      )

  literal-part : (l : Bool) (pieces : List Piece) (xs : List LiteralByte) → slice_get t.literals r.number ≡ Some xs → way_of r ≡ way_for (kind_for (literal_form l pieces (length xs)) (lit xs)) →
      IsPart t r bytes at ↔ IsFieldAt (literal_form l pieces (length xs)) bytes at
  literal-part l pieces xs named kind = elim (literal-way l pieces xs) [
    | first_one is_bare form none ↦
        bare-part (literal_form l pieces (length xs)) form (never way.BareLiteral way.Engine (kind ∙ is_bare) bare-engine) (never way.BareLiteral way.Literal (kind ∙ is_bare) bare-literal)
    | looked_one is_bare form so one ↦
        bare-part (literal_form l pieces (length xs)) form (never way.BareLiteral way.Engine (kind ∙ is_bare) bare-engine) (never way.BareLiteral way.Literal (kind ∙ is_bare) bare-literal)
    | other kept form ↦ (
      λ part. subst (λ f. IsFieldAt f bytes at) (sym form) (part.literal (kind ∙ kept) xs named),
      λ field. record {
        engine = never way.Literal way.Engine (kind ∙ kept) literal-engine;
        literal = λ so ys there. subst (λ zs. IsRingAt (length zs) bytes at) (same_Some xs ys (sym named ∙ there)) (subst (λ f. IsFieldAt f bytes at) form field);
      },
    )
  ]

  tree-part : (l : Bool) (pieces : List Piece) (tree : Tree) → slice_get models r.number ≡ Some (nfa tree) → way_of r ≡ way_for (kind_for (tree_form l pieces tree) (nfa tree)) →
      IsPart t r bytes at ↔ IsFieldAt (tree_form l pieces tree) bytes at
  tree-part l pieces tree named kind = elim (tree-way l pieces tree) [
    | looks is_back form so none ↦
        bare-part (tree_form l pieces tree) form (never way.LookBack way.Engine (kind ∙ is_back) looks-engine) (never way.LookBack way.Literal (kind ∙ is_back) looks-literal)
    | runs kept form ↦ engine-part (nfa tree) (tree_form l pieces tree) form named (kind ∙ kept)
  ]

  part-by : (x : ListedPiece) (l : Bool) (pieces : List Piece) (piece : Piece) → x.place ≡ place_of l pieces piece → IsRoleOf t.literals models r x → IsPart t r bytes at ↔ IsFieldAt (form_of l pieces piece) bytes at
  part-by x l pieces (lit xs) same is =
      let own : IsRoleOf t.literals models r (record { chain = x.chain; place = place_of l pieces (lit xs) }) = subst (λ (p : Place). IsRoleOf t.literals models r (record { chain = x.chain; place = p })) same is in
      literal-part l pieces xs own.names.named (ap way_for own.kind_is)
  part-by x l pieces (nfa tree) same is =
      let own : IsRoleOf t.literals models r (record { chain = x.chain; place = place_of l pieces (nfa tree) }) = subst (λ (p : Place). IsRoleOf t.literals models r (record { chain = x.chain; place = p })) same is in
      tree-part l pieces tree own.names.named (ap way_for own.kind_is)
  part-by x l pieces (rep set least greatest) same is =
      let own : IsRoleOf t.literals models r (record { chain = x.chain; place = place_of l pieces (rep set least greatest) }) = subst (λ (p : Place). IsRoleOf t.literals models r (record { chain = x.chain; place = p })) same is in
      engine-part (rep set least greatest) (repeat_form set least greatest) refl own.names.named (ap way_for own.kind_is ∙ repeat-way set least greatest)

  pub part-exact : (x : ListedPiece) → IsRoleOf t.literals models r x → IsPart t r bytes at ↔ IsFieldAt (place_form x.place) bytes at
  part-exact x is = part-by x x.place.looks_back x.place.pieces x.place.piece refl is

module _ (t : Tables) (entries : List Asked) (P : List Pattern) (is : IsProgramOf t entries (map (λ x. chains_of x.tree) P)) (asks : AllZip AsksFor entries P) where
  abbrev chains : List (List (List Piece))
  chains = map (λ x. chains_of x.tree) P

  abbrev plan : Plan
  plan = plan_of t P

  -- the layout is that of the plan
  pub same-layout : (l : Laid) → FitsLayout t l → l ≡ plan_layout plan
  same-layout l fits =
      fits.laid
      ∙ (ap (λ n. layout_of n (length t.identifiers) (sizes_of t.roles)) (sym (length-map (singles_of t.identifiers) (λ x. x.id.0)))
      ∙ (ap (λ n. layout_of (length plan.singles) n (sizes_of t.roles)) (sym (length-map t.identifiers (λ x. x.id.0)))
      ∙ ap (λ ns. layout_of (length plan.singles) (length plan.identifiers) ns) (plan-sized t entries P is asks)))

  -- the role and the place of a number
  pub record HasPlace (k : ℕ) (p : Place) (r : Role) : Type 0 where
    pub listed_is : ListedPiece
    pub place_is : listed_is.place ≡ p
    pub role : IsRoleOf t.literals is.models r listed_is

  role-place : (k : ℕ) (r : Role) (p : Place) → slice_get t.roles k ≡ Some r → slice_get (list_places plan) k ≡ Some p → HasPlace k p r
  role-place k r p role place =
      let own = has-piece t entries chains is k r role in
      let there_is : slice_get (list_places plan) k ≡ Some own.listed_piece_is.place =
      ap (λ ps. slice_get ps k) (plan-places t entries P is asks) ∙ get-map (λ (q : ListedPiece). q.place) (all_pieces t entries chains is) k own.listed_piece_is own.there_is in
      record { listed_is = own.listed_piece_is; place_is = same_Some own.listed_piece_is.place p (sym there_is ∙ place); role = own.role }

  pub places-count : length t.roles ≡ length (list_places plan)
  places-count =
      roles-count t entries chains is
      ∙ (sym (length-map (all_pieces t entries chains is) (λ (q : ListedPiece). q.place)) ∙ ap length (sym (plan-places t entries P is asks)))

  module _ (l : Laid) (fits : FitsLayout t l) (region : List ℕ) (each : Each (λ b. b < 256) region) where
    pub part-place : (k : ℕ) (r : Role) (p : Place) → slice_get t.roles k ≡ Some r → slice_get (list_places plan) k ≡ Some p →
        IsPart t r (field_bytes l region k) (region_offset region) ↔ IsFieldAt (place_form p) (field_bytes l region k) (region_offset region)
    part-place k r p role place =
        let own = role-place k r p role place in
        subst (λ (q : Place). IsPart t r (field_bytes l region k) (region_offset region) ↔ IsFieldAt (place_form q) (field_bytes l region k) (region_offset region)) own.place_is
        (part-exact t is.models is.engines r (field_bytes l region k) (region_offset region) own.listed_is own.role)

    -- a field by where it begins is that of its number
    pub field-is : (k low high : ℕ) (p : Place) → IsPlaced plan k p low high → slice_range region low high ≡ field_bytes l region k
    field-is k low high p at =
        let e : suc k ≡ k + 1 = omega arith in
        let a : slice_index (plan_starts plan) k ≡ low = get_or_from_slice_get (plan_starts plan) k low 0 at.begin in
        let b : slice_index (plan_starts plan) (k + 1) ≡ high = sym (ap (slice_index (plan_starts plan)) e) ∙ get_or_from_slice_get (plan_starts plan) (suc k) high 0 at.end in
        ap (λ n. slice_range region n high) (sym a) ∙ (ap (λ n. slice_range region (slice_index (plan_starts plan) k) n) (sym b) ∙ ap (λ m. field_bytes m region k) (sym (same-layout l fits)))

    pub well-exact : IsWellRegion t l region ↔ IsWellFormed plan region
    well-exact = (
      λ well. record {
        len = well.fits.sized ∙ (ap laid_size (same-layout l fits) ∙ plan-size plan);
        bytes = each;
        header = subst (λ (m : Laid). IsHeader m.singles m.identifiers region) (same-layout l fits) well.header;
        fields = λ k low high p at.
            let (r, role) = there t.roles k (omega (arith, places-count, slice_get_within (list_places plan) k p at.piece)) in
            subst (λ bs. IsFieldAt (place_form p) bs (region_offset region)) (sym (field-is k low high p at))
            ((part-place k r p role at.piece).0 (well.fits.parts k r (omega arith) (slice_get_within t.roles k r role) role));
      },
      λ form. record {
        fits = record {
          sized = form.len ∙ sym (ap laid_size (same-layout l fits) ∙ plan-size plan);
          parts = λ k r low high role.
              let (p, place) = there (list_places plan) k (omega (arith, places-count, high)) in
              let at = placed plan k p place in
              (part-place k r p role place).1
              (subst (λ bs. IsFieldAt (place_form p) bs (region_offset region)) (field-is k (slice_index (plan_starts plan) k) (slice_index (plan_starts plan) (k + 1)) p at)
              (form.fields k (slice_index (plan_starts plan) k) (slice_index (plan_starts plan) (k + 1)) p at));
        };
        header = subst (λ (m : Laid). IsHeader m.singles m.identifiers region) (sym (same-layout l fits)) form.header;
      },
    )
