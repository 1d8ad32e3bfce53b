-- The bytes in the middle of a slice are lent on as a slice of their own. Assumes `Logic`.
--     divided        the slice's bytes are those in front, those in the middle and those behind
--     united         and with any others in the middle, as many, they are the slice's again
--     lends_middle   so a `&mut` to the whole lends one to the middle, and the whole ends as `around` what is last there
use Rattle.std.proofs.Common.{◌≡◌, refl, sym, ap, ◌∙◌, arith, ℕ, ◌+◌, ◌-◌, ◌≤◌, List, [], ◌∷◌, ◌++◌, length}
use Rattle.std.proofs.lemmas.List.{take-append-drop, drop-drop, length-drop}
use Rattle.std.specs.Prelude.{slice_range, take, drop as drop_list}
use lib.ListN.{length-append}
use seplogic.Ra.Ura.{Ura}
use mir.Syntax.{Lifetime}
use mir.Val.{Val}
use base.Logic.{SProp, ent, sep, ex}
use base.Stored.{Gv, coded_list}
use base.Fml.{Fml, Lft, GName, Share, flft, fobs, fbor}
use types.Logic.{Logic, sem}
use types.Kit.{Item, ‵, ◌⊛◌, raw, later, some, ◌$◌, ◌∵◌, !, qed, move, drop, split, split3, fsplit, fsplit3, fjoin}
use types.Kit.{feq_l, feq_i, use1, use2, rewrite, updating, await, pick, group, now, show, done}
use types.SemTy.{cells, Arr, Body}
use types.Follow.{takes_part}
use types.Mut.{open_ref}
use denote.Array.{Array}
use denote.Builtin.{u8}
use denote.Follow.{follows}
use denote.FollowSlice.{heres_id, slice_of}
use denote.Memory.{mem}
use denote.Ref.{MutBor}
use denote.Slice.{MutSlice, Room, slice_val}
use borrow.Table.Elements.{at, at_byte, cut_app, join_app, length-take-le}

-- the list with these bytes between two others
abbrev pub around : (front back bytes : List ℕ) → List ℕ
around front back bytes = front ++ (bytes ++ back)

-- a list is what lies around a range of it, with the range between
pub parted : (xs : List ℕ) (low high : ℕ) →
    low ≤ high →
    xs ≡ around (take low xs) (drop_list high xs) (slice_range xs low high)
parted xs low high ordered =
    let range : List ℕ = slice_range xs low high in
    let rest : range ++ drop_list high xs ≡ drop_list low xs =
    ap (λ (n : ℕ). range ++ drop_list n xs) (omega (arith, ordered)) ∙
    ap (λ (l : List ℕ). range ++ l) (sym (drop-drop (high - low) low xs)) ∙
    take-append-drop (high - low) (drop_list low xs) in
    sym (take-append-drop low xs) ∙ ap (λ (l : List ℕ). take low xs ++ l) (sym rest)

pub length-range : (xs : List ℕ) (low high : ℕ) →
    low ≤ high →
    high ≤ length xs →
    length (slice_range xs low high) ≡ high - low
length-range xs low high ordered within =
    let rest : length (drop_list low xs) ≡ length xs - low = length-drop low xs in
    length-take-le (high - low) (drop_list low xs) (omega (arith, rest, ordered, within))

module _ {M : Type 1} {𝓤 : Ura M} (𝓛 : Logic 𝓤) (b o : ℕ) (front mid back : List ℕ) where
  -- where the middle begins
  abbrev p : ℕ
  p = length front + o

  -- bytes at an offset of the block
  abbrev Lie : List ℕ → ℕ → Item 𝓤
  Lie bytes k = ‵ (cells (mem u8) bytes b k)

  abbrev pub Sides : SProp 𝓤
  Sides = sep 𝓤 (sem 𝓛 (cells (mem u8) front b o)) (sem 𝓛 (cells (mem u8) back b (length mid + p)))

  pub divided :
      ent 𝓤 (sem 𝓛 (cells (mem u8) (around front back mid) b o)) (sep 𝓤 (sem 𝓛 (cells (mem u8) mid b p)) Sides)
  divided = qed 𝓛 (Lie (around front back mid) o ∷ []) ∵
      use1 𝓛 (Lie front o ⊛ Lie (mid ++ back) (at o (mem u8).size (length front)))
      (cut_app 𝓛 (mem u8) front (mid ++ back) b o) $
      split ! $ move ! (1 ∷ []) $ rewrite ! 0 (Lie (mid ++ back)) (at_byte o (length front)) refl $
      use1 𝓛 (Lie mid p ⊛ Lie back (at p (mem u8).size (length mid))) (cut_app 𝓛 (mem u8) mid back b p) $
      split ! $ rewrite ! 1 (Lie back) (at_byte p (length mid)) refl $
      move ! (0 ∷ 2 ∷ 1 ∷ []) $ done !

  pub united : (bytes : List ℕ) → ent 𝓤 (sep 𝓤 (sem 𝓛 ((Arr (mem u8) (length mid)).own_at bytes b p)) Sides)
      (sem 𝓛 ((Arr (mem u8) (length (around front back mid))).own_at (around front back bytes) b o))
  united bytes =
      let long : (part : List ℕ) → length (around front back part) ≡ length front + (length part + length back) =
      λ part. length-append front (part ++ back) ∙ ap (λ (n : ℕ). length front + n) (length-append part back) in
      qed 𝓛 (‵ ((Arr (mem u8) (length mid)).own_at bytes b p) ∷ Lie front o ∷ Lie back (length mid + p) ∷ []) ∵
      fsplit ! $ feq_l ! (λ same.
      rewrite ! 2 (λ (n : ℕ). Lie back (n + p)) (sym same) refl $
      rewrite ! 2 (Lie back) (sym (at_byte p (length bytes))) refl $ move ! (0 ∷ 2 ∷ []) $
      use2 𝓛 (Lie (bytes ++ back) p) (join_app 𝓛 (mem u8) bytes back b p) $
      rewrite ! 0 (Lie (bytes ++ back)) (sym (at_byte o (length front))) refl $ move ! (1 ∷ 0 ∷ []) $
      use2 𝓛 (Lie (around front back bytes) o) (join_app 𝓛 (mem u8) front (bytes ++ back) b o) $
      feq_i ! ℕ (length (around front back bytes)) (length (around front back mid))
      (long bytes ∙ ap (λ (n : ℕ). length front + (n + length back)) same ∙ sym (long mid)) $
      fjoin ! $ done !)

-- a slice's reference: where it points, its name and what is behind it
abbrev pub slice_at : (b o : ℕ) (γ : GName) → List ℕ → MutBor (List ℕ)
slice_at b o γ bytes = record { ref_ptr = (b, o); ghost_name = γ; now = bytes }

module _ {M : Type 1} {𝓤 : Ura M} (𝓛 : Logic 𝓤) (ℓ : Lifetime) (κ : Lft) (q : Share) (b o : ℕ) (γ : GName)
    (front mid back : List ℕ) where
  open 𝓛 use {H, A}

  abbrev from : ℕ
  from = length front + o

  -- the reference to the middle, under a name
  abbrev middle : GName → Fml
  middle δ = (MutSlice ℓ κ u8).own_val (slice_at b from δ mid) (slice_val (b, from) (length mid) ∷ [])

  -- whoever learns the middle's last bytes learns the slice's
  abbrev ends : GName → Fml
  ends δ = follows (Array u8 0) (Array u8 0) γ δ (around front back)

  -- the reference to the middle, the token, and what the slice ends as
  abbrev pub middle_lent : GName → Item 𝓤
  middle_lent δ = ‵ (middle δ) ⊛ ‵ (flft κ q) ⊛ ‵ (ends δ)

  abbrev pub MiddleLent : GName → SProp 𝓤
  MiddleLent δ = sep 𝓤 (sem 𝓛 (middle δ)) (sep 𝓤 (A.lft κ q) (sem 𝓛 (ends δ)))

  pub lends_middle : (xs : List ℕ) →
      xs ≡ around front back mid →
      Room u8 (length mid) →
      (vs : List Val) →
      ent 𝓤 (sep 𝓤 (sem 𝓛 ((MutSlice ℓ κ u8).own_val (slice_at b o γ xs) vs)) (A.lft κ q)) (H.⇛ (ex 𝓤 MiddleLent))
  lends_middle xs is room vs =
      let code : List ℕ → Gv = (coded_list u8.coded).code in
      let whole : List ℕ = around front back mid in
      let Slice : List ℕ → Item 𝓤 = λ l. ‵ ((MutSlice ℓ κ u8).own_val (slice_at b o γ l) vs) in
      let Lies : GName → Fml = Body (Arr (mem u8) (length mid)) b from in
      qed 𝓛 (Slice xs ∷ ‵ (flft κ q) ∷ []) ∵ updating ! $ rewrite ! 0 Slice is refl $ fsplit3 ! $ drop ! $
      rewrite ! 0 (λ (l : List ℕ). ‵ (fobs γ (code l))) (heres_id u8 whole) refl $
      open_ref ! tt (Arr (mem u8) (length whole)) {b = b} {o = o} $ fsplit ! $ drop ! $
      -- [the slice's bytes; three entries of the open borrow]
      use1 𝓛 (‵ (cells (mem u8) mid b from) ⊛ raw (Sides 𝓛 b o front mid back)) (divided 𝓛 b o front mid back) $
      split ! $ feq_i ! ℕ (length mid) (length mid) refl $ fjoin ! $ move ! (2 ∷ 3 ∷ 4 ∷ 0 ∷ 1 ∷ []) $ group ! 5 $
      use1 𝓛 (later (some (λ (δ : GName). ‵ (fobs δ (code mid)) ⊛ ‵ (fbor κ (Lies δ)) ⊛ ‵ (flft κ q) ⊛ ‵ (ends δ))))
      (takes_part 𝓛 (Arr (mem u8) (length whole)) (Arr (mem u8) (length mid)) (around front back) κ q b o b from γ
      (Sides 𝓛 b o front mid back) (united 𝓛 b o front mid back) (code whole) (code whole) mid) $
      await ! tt $ pick ! (λ δ. split3 ! $ use2 𝓛 (‵ (middle δ)) (slice_of 𝓛 u8 ℓ κ b from δ mid room) $
      now ! $ show ! MiddleLent δ $ done !)
