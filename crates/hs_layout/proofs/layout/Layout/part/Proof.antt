-- `part` asks for the two ends of the field, and hands on what `part_of` lends.
use Rattle.std.proofs.Common.{◌≡◌, ℕ, ◌+◌, ◌^◌, ◌<◌, ◌≤◌, List, [], ◌∷◌, length, slice_index, refl, ap, ◌∙◌, subst}
use Rattle.std.proofs.Common.{arith, w64, MutBor}
use Rattle.std.proofs.raw_atomic.Walks.{proved}
use Rattle.std.specs.Prelude.{slice_range}
use base.Fml.{ftrue, flft}
use base.Logic.{id⊢, emp}
use mir.Syntax.{named}
use mir.Val.{Val, vint}
use contract.Monad.{fact, fact_i}
use contract.Running.{tables}
use types.Kit.{Item, ‵, raw, ◌⊛◌, some, later, ◌$◌, ◌∵◌, !, qed, done, move, keep, drop, split, split3, join, fsplit}
use types.Kit.{use0, use1, use2, rewrite, await, pick, suffices, frame, group}
use types.Part.{whole, sub, agg}
use types.Run.{enter, stop, fld, hop, from, addr, and_then, no_more, returns}
use types.ByLocal.{alloc_all, pass_all, free_all, look_at, look_in_at, get, get_in, sets, lands_as}
use denote.Builtin.{u8, usize, RefOf}
use denote.Exit.{yes, no}
use denote.Laws.{shows}
use denote.Plain.{uint_vals, uint_Tells, uint_Makes}
use denote.RattleType.{RattleType, owns}
use denote.Ref.{ShrRef, shr_vals, shr_Tells, shr_copy}
use denote.Signature.{plain, mut_slice_of}
use denote.Slice.{MutSlice, slice_val, mut_slice_vals, mut_slice_Tells}
use denote.Steps.{nothing, heard, owned, facts, peeks, only}
use denote.Triple.Call.{calls_at}
use denote.Triple.Clauses.{Lasts, lasts}
use denote.Triple.Spec.{triple_of}
use denote.Triple.Table.{framed}
use denote.Triple.Walked.{says, Stays, stay_dropped, walk_of, ends_at, Goes-dropped, Goes-spent_slice}
use Rattle.hs_base.specs.Regions.{fields_at}
use Rattle.hs_layout.specs.Layouts.{LendsPart, laid_size}
use Rattle.hs_layout.specs.contracts.layout.Layout.{the_row as R}
use Rattle.hs_layout.proofs.layout.Layout.TheLaws.{the_row_laws}
use Rattle.hs_layout.specs.contracts.layout.Layout.part as f
use Rattle.hs_layout.proofs.layout.Layout.part.Statement.{statement}
use Rattle.hs_layout.proofs.layout.Layout.part.Code as code
use Rattle.hs_layout.specs.contracts.layout.Layout.place as g
use Rattle.hs_layout.proofs.layout.Layout.place.Met as place
use Rattle.hs_layout.specs.contracts.layout.Layout.field_end as h
use Rattle.hs_layout.proofs.layout.Layout.field_end.Met as field_end
use Rattle.hs_layout.specs.contracts.fields.part_of as p
use Rattle.hs_layout.proofs.fields.part_of.Met as part_of

abbrev stayed : Stays f.ended.signature.params f.ended.kept
stayed = (
  stay_dropped (RefOf (0 ∷ []) tt (plain (λ _. R)) (λ _. tt)) yes,
  (
    stay_dropped (mut_slice_of (1 ∷ []) tt (plain (λ _. u8))) no,
    (stay_dropped (plain (λ _. usize)) yes, tt),
  ),
)

pub part_spec : {M : Type 1} → statement M
part_spec 𝓤 𝓛 𝓜 𝓡 wired =
    let c = f.clauses 𝓛 𝓜.mem 𝓡.returns in let W = walk_of 𝓛 f.ended stayed c in
    let calls = framed 𝓤 𝓛.H 𝓜 (tables 𝓤 𝓛.H 𝓜 𝓡 𝓡.env) in
    proved 𝓛 f.ended stayed c 𝓜 𝓡 (
      Goes-dropped 𝓛 2 (RefOf (0 ∷ []) tt (plain (λ _. R)) (λ _. tt)) yes (λ κs x w. refl),
      (
        Goes-spent_slice 𝓛 2 (1 ∷ []) tt (plain (λ _. u8)),
        (Goes-dropped 𝓛 2 (plain (λ _. usize)) yes (λ κs x w. refl), tt),
      ),
    )
    f.Key.name code.function (code.unfolded 𝓤 𝓛.H 𝓜 𝓡 wired)
    (λ κs. (shr_vals, (mut_slice_vals, (uint_vals w64, tt))))
    (λ κs. (shr_Tells (named 0) κs.0 R, (mut_slice_Tells (named 1) κs.1.0 u8, (uint_Tells w64, tt))))
    (λ κs qs bounds a _ are.
    let κ = κs.0 in let q = qs.0 in let κ' = κs.1.0 in let q' = qs.1.0 in
    let region : MutBor (List ℕ) = a.1.0 in let xs : List ℕ = region.now in let k : ℕ = a.1.1.0 in
    let starts : List ℕ = a.0.now.starts in
    let low : ℕ = slice_index starts k in let high : ℕ = slice_index starts (k + 1) in
    let vss : List Val × (List Val × (List Val × Unit {0})) =
    (shr_vals a.0, (mut_slice_vals region, (vint w64 k ∷ [], tt))) in
    let y : W.Ghost = ((κs, qs, bounds, a, vss), tt) in
    let Is : Type 0 → Item 𝓤 = λ φ. raw (fact 𝓤 φ) in
    let Self : Item 𝓤 = ‵ ((ShrRef (named 0) κ R).own_val a.0 (shr_vals a.0)) in
    let Number : ℕ → Val → Item 𝓤 = λ r v. ‵ (usize.own_val r (v ∷ [])) in
    let Part : RattleType = MutSlice (named 0) κ' u8 in
    qed 𝓛 (
    ((‵ (flft κ q) ⊛ ‵ (flft κ' q') ⊛ ‵ ftrue) ⊛
    ‵ (owns (ShrRef (named 0) κ R ∷ MutSlice (named 1) κ' u8 ∷ usize ∷ []) a vss)) ∷
    (Is (length xs ≡ laid_size a.0.now) ⊛ Is (k + 1 < length starts)) ∷ []) ∵
    move ! (1 ∷ []) $ split ! $ heard ! _ (λ sized. heard ! _ (λ there.
    split ! $ split ! $ move ! (1 ∷ []) $ split ! $ move ! (3 ∷ []) $ fsplit ! $ move ! (1 ∷ []) $ fsplit ! $
    keep ! (5 ∷ 2 ∷ 3 ∷ 0 ∷ []) $
    -- [the token of self; self; the token of the region; the region]
    enter ! _ _ _ _ _ $ alloc_all ! (λ l. pass_all ! refl
    ((tt, tt), ((tt, (tt, (record { fits = are.1.0.0.1.0 }, tt))), ((tt, record { fits = are.1.1.0.1 }), tt))) $
    -- let low = self.place(k);
    let G = triple_of 𝓛 g.signature (g.spec 𝓛 𝓜.mem 𝓡.returns) in
    let z : G.Ghost = (((κ, tt), (q, tt), tt, (a.0, (k, tt)), (shr_vals a.0, (vint w64 k ∷ [], tt))), tt) in
    move ! (1 ∷ []) $
    use1 𝓛 (Self ⊛ Self) ((shr_copy 𝓛 (named 0) κ R (the_row_laws.shr_laws)).twice a.0 (shr_vals a.0)) $ split ! $
    -- [self; self; its token; ..]
    nothing ! $ owned ! usize _ (uint_Makes 𝓛 w64) k _ (refl, are.1.1.0.1) $ join ! $ move ! (1 ∷ 0 ∷ []) $ join ! $
    nothing ! $ move ! (3 ∷ 0 ∷ []) $ join ! $ join ! $
    use0 𝓛 (Is (k < length starts)) (fact_i 𝓤 _ (emp 𝓤) (omega (arith, there))) $ move ! (1 ∷ 0 ∷ []) $
    use2 𝓛 (raw (G.pre z)) (id⊢ 𝓤 _) $
    calls_at ! calls G (place.met 𝓤 𝓛 𝓜 𝓡 (code.calls-hs_layout::layout::Layout::place 𝓡.env wired)) z
    (and_then ! (get ! refl) (and_then ! (get ! refl) (no_more !))) (λ v.
    use1 𝓛 (later (some (λ (r : ℕ).
    ((‵ (flft κ q) ⊛ ‵ ftrue) ⊛ Number r v) ⊛
    some (λ (ws : Lasts g.ended z.0.0 z.0.3).
    ‵ (lasts g.ended z.0.0 z.0.3 ws) ⊛
    Is (r ≡ low) ⊛
    Is ((j : ℕ) → k ≤ j → j < length starts → r ≤ slice_index starts j) ⊛
    Is (r ≤ laid_size a.0.now) ⊛
    Is (fields_at a.0.now.singles a.0.now.identifiers ≤ r))))) (id⊢ 𝓤 _) $
    await ! tt $ pick ! (λ r. split ! $ split ! $ split ! $ move ! (2 ∷ []) $
    facts ! usize _ (shows 𝓛 usize) r (v ∷ []) (λ is_r. move ! (2 ∷ []) $ pick ! (λ ws. split ! $ drop ! $
    split ! $ heard ! _ (λ is_low. drop ! $
    let low_fits : low < 2 ^ 64 = subst (λ (n : ℕ). n < 2 ^ 64) is_low is_r.1 in
    lands_as ! (ap only is_r.0 ∙ ap (vint w64) is_low) refl (tt, record { fits = low_fits }) $
    -- [the token of self; nothing; self; ..]
    -- let high = self.field_end(k);
    let H = triple_of 𝓛 h.signature (h.spec 𝓛 𝓜.mem 𝓡.returns) in
    let z' : H.Ghost = (((κ, tt), (q, tt), tt, (a.0, (k, tt)), (shr_vals a.0, (vint w64 k ∷ [], tt))), tt) in
    nothing ! $ owned ! usize _ (uint_Makes 𝓛 w64) k _ (refl, are.1.1.0.1) $ join ! $ move ! (3 ∷ 0 ∷ []) $ join ! $
    move ! (1 ∷ 2 ∷ 0 ∷ []) $ join ! $ join ! $
    use0 𝓛 (Is (k + 1 < length starts)) (fact_i 𝓤 _ (emp 𝓤) there) $ move ! (1 ∷ 0 ∷ []) $
    use2 𝓛 (raw (H.pre z')) (id⊢ 𝓤 _) $
    calls_at ! calls H (field_end.met 𝓤 𝓛 𝓜 𝓡 (code.calls-hs_layout::layout::Layout::field_end 𝓡.env wired)) z'
    (and_then ! (get ! refl) (and_then ! (get ! refl) (no_more !))) (λ v'.
    use1 𝓛 (later (some (λ (r' : ℕ).
    ((‵ (flft κ q) ⊛ ‵ ftrue) ⊛ Number r' v') ⊛
    some (λ (ws : Lasts h.ended z'.0.0 z'.0.3).
    ‵ (lasts h.ended z'.0.0 z'.0.3 ws) ⊛ Is (r' ≡ high) ⊛ Is (low ≤ r') ⊛ Is (r' ≤ laid_size a.0.now))))) (id⊢ 𝓤 _) $
    await ! tt $ pick ! (λ r'. split ! $ split ! $ split ! $ move ! (2 ∷ []) $
    facts ! usize _ (shows 𝓛 usize) r' (v' ∷ []) (λ is_r'. move ! (2 ∷ []) $ pick ! (λ ws'. split ! $ drop ! $
    split3 ! $ heard ! _ (λ is_high. heard ! _ (λ above. heard ! _ (λ below.
    let ordered : low ≤ high = subst (λ (n : ℕ). low ≤ n) is_high above in
    let within : high ≤ length xs = omega (arith, is_high, below, sized) in
    let high_fits : high < 2 ^ 64 = subst (λ (n : ℕ). n < 2 ^ 64) is_high is_r'.1 in
    lands_as ! (ap only is_r'.0 ∙ ap (vint w64) is_high) refl (tt, record { fits = high_fits }) $
    -- [the token of self; nothing; the token of the region; the region; ..]
    -- part_of(region, low, high)
    sets ! (addr ! (from ! (fld ! refl (hop ! (look_in_at ! 2 (sub ! 0 refl (whole !))) (stop !))))) refl (tt, tt) $
    sets ! (agg ! (and_then ! (get ! refl)
    (and_then ! (get_in ! (fld ! refl (stop !)) (sub ! 1 refl (whole !))) (no_more !)))) refl
    (tt, (tt, (record { fits = are.1.0.0.1.0 }, tt))) $
    let P = triple_of 𝓛 p.signature (p.spec 𝓛 𝓜.mem 𝓡.returns) in
    let words : List Val × (List Val × (List Val × Unit {0})) =
    (mut_slice_vals region, (vint w64 low ∷ [], (vint w64 high ∷ [], tt))) in
    let x : P.Ghost = (((κ', tt), (q', tt), tt, (region, (low, (high, tt))), words), tt) in
    nothing ! $ owned ! usize _ (uint_Makes 𝓛 w64) high _ (refl, high_fits) $ join ! $
    owned ! usize _ (uint_Makes 𝓛 w64) low _ (refl, low_fits) $ join ! $ move ! (4 ∷ 0 ∷ []) $ join ! $
    nothing ! $ move ! (4 ∷ 0 ∷ []) $ join ! $ join ! $
    use0 𝓛 (Is (high ≤ length xs)) (fact_i 𝓤 _ (emp 𝓤) within) $
    use0 𝓛 (Is (low ≤ high)) (fact_i 𝓤 _ (emp 𝓤) ordered) $ join ! $ move ! (1 ∷ 0 ∷ []) $
    use2 𝓛 (raw (P.pre x)) (id⊢ 𝓤 _) $
    calls_at ! calls P (part_of.met 𝓤 𝓛 𝓜 𝓡 (code.calls-hs_layout::fields::part_of 𝓡.env wired)) x
    (and_then ! (get ! refl) (and_then ! (get ! refl) (and_then ! (get ! refl) (no_more !)))) (λ w.
    use1 𝓛 (later (some (λ (m : MutBor (List ℕ)).
    ((‵ (flft κ' q') ⊛ ‵ ftrue) ⊛ ‵ (Part.own_val m (w ∷ []))) ⊛
    some (λ (ws : Lasts p.ended x.0.0 x.0.3).
    ‵ (lasts p.ended x.0.0 x.0.3 ws) ⊛ ‵ (LendsPart region low high m) ⊛ Is (m.now ≡ slice_range xs low high)))))
    (id⊢ 𝓤 _) $
    await ! tt $ pick ! (λ m. split ! $ split ! $ split ! $ move ! (2 ∷ []) $
    peeks ! Part _ (shows 𝓛 Part) m (w ∷ []) (λ is_m. move ! (3 ∷ []) $ pick ! (λ ws''. split ! $ drop ! $
    split ! $ move ! (1 ∷ []) $ heard ! _ (λ is_field.
    let told : w ∷ [] ≡ mut_slice_vals m = mut_slice_Tells (named 0) κ' u8 m (w ∷ []) is_m in
    lands_as ! (ap only told) refl (tt, (tt, (record { fits = is_m.0.1.0 }, tt))) $
    -- [what is lent; the field; the token of the region; nothing; the token of self; nothing; ..]
    rewrite ! 1 (λ (vs : List Val). ‵ (Part.own_val m vs)) told refl $
    returns ! (look_at ! 0 refl) $ free_all ! refl $ keep ! (0 ∷ 1 ∷ 2 ∷ 4 ∷ []) $
    suffices ! _ (ends_at 𝓛 f.ended stayed c y (slice_val m.ref_ptr (length m.now)) m
    (tt, (tt, (tt, tt))) (tt, (tt, (tt, tt)))) $
    nothing ! $ move ! (3 ∷ 0 ∷ []) $ join ! $ move ! (3 ∷ 0 ∷ []) $ join ! $
    nothing ! $ nothing ! $ join ! $ nothing ! $ join ! $ nothing ! $ join ! $
    move ! (1 ∷ 0 ∷ 3 ∷ []) $ group ! 3 $ frame ! $ says ! is_field $ done !)))))))))))))))))))))
