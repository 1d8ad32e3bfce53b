-- `part_of` moves the pointer and counts, and the middle of the slice is lent on at what it makes of them.
use Rattle.std.proofs.Common.{◌≡◌, ℕ, ◌+◌, ◌-◌, ◌*◌, ◌^◌, ◌<◌, ◌≤◌, List, [], ◌∷◌, length, refl, arith, w64}
use Rattle.std.proofs.raw_atomic.Walks.{proved}
use Rattle.std.specs.Prelude.{take, drop as drop_list, slice_range}
use base.Fml.{GName, ftrue, flft}
use borrow.Table.Elements.{length-take-le}
use mir.Syntax.{named}
use mir.Val.{Val, vint}
use contract.Monad.{fact}
use types.Kit.{Item, ‵, raw, ◌⊛◌, some, later, ◌$◌, ◌∵◌, !, qed, done, move, keep, split, split3, join, fsplit, fjoin}
use types.Kit.{use2, rewrite, await, pick, suffices, frame}
use types.Part.{whole, sub, agg}
use types.Run.{enter, stop, fld, addr, bin, and_then, no_more, returns}
use types.ByLocal.{alloc_all, pass_all, free_all, look_at, get, get_in, through, sets}
use denote.Builtin.{u8, usize}
use denote.Exit.{yes, no}
use denote.Memory.{mem}
use denote.Plain.{uint_vals, uint_Tells}
use denote.RattleType.{owns}
use denote.Signature.{plain, mut_slice_of}
use denote.Slice.{MutSlice, Room, slice_val, mut_slice_vals, mut_slice_Tells}
use denote.Steps.{nothing, heard}
use denote.Triple.Walked.{says, Stays, stay_dropped, walk_of, ends_at, Goes-dropped, Goes-spent_slice}
use Rattle.hs_layout.proofs.LendingLemmas.{slice_at, middle_lent, lends_middle, parted, length-range}
use Rattle.hs_layout.specs.contracts.fields.part_of as f
use Rattle.hs_layout.proofs.fields.part_of.Statement.{statement}
use Rattle.hs_layout.proofs.fields.part_of.Code as code

abbrev stayed : Stays f.ended.signature.params f.ended.kept
stayed = (
  stay_dropped (mut_slice_of (0 ∷ []) tt (plain (λ _. u8))) no,
  (
    stay_dropped (plain (λ _. usize)) yes,
    (stay_dropped (plain (λ _. usize)) yes, tt),
  ),
)

pub part_of_spec : {M : Type 1} → statement M
part_of_spec 𝓤 𝓛 𝓜 𝓡 wired =
    let c = f.clauses 𝓛 𝓜.mem 𝓡.returns in let W = walk_of 𝓛 f.ended stayed c in
    let number = Goes-dropped 𝓛 1 (plain (λ _. usize)) yes (λ κs x w. refl) in
    proved 𝓛 f.ended stayed c 𝓜 𝓡 (Goes-spent_slice 𝓛 1 (0 ∷ []) tt (plain (λ _. u8)), (number, (number, tt)))
    f.Key.name code.function (code.unfolded 𝓤 𝓛.H 𝓜 𝓡 wired)
    (λ κs. (mut_slice_vals, (uint_vals w64, (uint_vals w64, tt))))
    (λ κs. (mut_slice_Tells (named 0) κs.0 u8, (uint_Tells w64, (uint_Tells w64, tt))))
    (λ κs qs bounds a _ are.
    let κ = κs.0 in let q = qs.0 in let b = a.0.ref_ptr.0 in let o = a.0.ref_ptr.1 in let γ = a.0.ghost_name in
    let xs : List ℕ = a.0.now in let low : ℕ = a.1.0 in let high : ℕ = a.1.1.0 in
    let front : List ℕ = take low xs in
    let mid : List ℕ = slice_range xs low high in
    let back : List ℕ = drop_list high xs in
    let vss : List Val × (List Val × (List Val × Unit {0})) =
    (mut_slice_vals a.0, (vint w64 low ∷ [], (vint w64 high ∷ [], tt))) in
    let y : W.Ghost = ((κs, qs, bounds, a, vss), tt) in
    let Middle : ℕ → ℕ → GName → Item 𝓤 = λ p n δ.
    ‵ ((MutSlice (named 0) κ u8).own_val (slice_at b p δ mid) (slice_val (b, p) n ∷ [])) in
    qed 𝓛 (
    ((‵ (flft κ q) ⊛ ‵ ftrue) ⊛ ‵ (owns (MutSlice (named 0) κ u8 ∷ usize ∷ usize ∷ []) a vss)) ∷
    (raw (fact 𝓤 (low ≤ high)) ⊛ raw (fact 𝓤 (high ≤ length xs))) ∷ []) ∵
    move ! (1 ∷ []) $ split ! $ heard ! _ (λ ordered. heard ! _ (λ within.
    let short : length front ≡ low = length-take-le low xs (omega (arith, ordered, within)) in
    let long : length mid ≡ high - low = length-range xs low high ordered within in
    let bytes : length xs * (mem u8).size < 2 ^ 63 = are.0.0.1.1 in
    let room : Room u8 (length mid) = (omega (arith, long, within, are.0.0.1.0), omega (arith, long, within, bytes)) in
    let fits : high - low < 2 ^ 64 = omega (arith, are.1.1.0.1) in
    enter ! _ _ _ _ _ $ alloc_all ! (λ l. pass_all ! refl (
      (tt, (tt, (record { fits = are.0.0.1.0 }, tt))),
      (
        (tt, record { fits = are.1.0.1 }),
        ((tt, record { fits = are.1.1.0.1 }), tt),
      ),
    ) $
    sets ! (bin ! (get_in ! (fld ! refl (stop !)) (sub ! 0 refl (whole !))) (get ! refl) tt) refl (tt, tt) $
    sets ! (bin ! (get ! refl) (get ! refl) ordered) refl (tt, record { fits = fits }) $
    sets ! (addr ! (through ! refl (stop !))) refl (tt, tt) $
    sets ! (agg ! (and_then ! (get ! refl) (and_then ! (get ! refl) (no_more !)))) refl
    (tt, (tt, (record { fits = fits }, tt))) $
    split ! $ split ! $ move ! (2 ∷ []) $ fsplit ! $ move ! (0 ∷ 2 ∷ []) $
    -- [the slice; the token]
    use2 𝓛 (later (some (middle_lent 𝓛 (named 0) κ q b o γ front mid back)))
    (lends_middle 𝓛 (named 0) κ q b o γ front mid back xs (parted xs low high ordered) room (mut_slice_vals a.0)) $
    await ! tt $ pick ! (λ δ. split3 ! $
    -- [the middle; the token; what the slice ends as]
    rewrite ! 0 (λ (n : ℕ). Middle (n + o) (length mid) δ) short refl $
    rewrite ! 0 (λ (n : ℕ). Middle (low + o) n δ) long refl $
    returns ! (look_at ! 0 refl) $ free_all ! refl $ keep ! (0 ∷ 1 ∷ 2 ∷ []) $
    suffices ! _ (ends_at 𝓛 f.ended stayed c y (slice_val (b, low + o) (high - low)) (slice_at b (low + o) δ mid)
    (tt, (tt, (tt, tt))) (tt, (tt, (tt, tt)))) $
    nothing ! $ nothing ! $ fjoin ! $ nothing ! $ fjoin ! $ nothing ! $ fjoin ! $ join ! $
    nothing ! $ move ! (2 ∷ 0 ∷ []) $ join ! $ join ! $ frame ! $ says ! refl $ done !)))))
