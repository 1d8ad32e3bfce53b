-- The steps of the scan of a block.
use Rattle.std.proofs.Common.{◌≡◌, ℕ, zero, suc, ◌+◌, ◌-◌, ◌<◌, ◌≤◌, false, List, ◌∷◌, ◌++◌, Option, cond, map, length, leb, ltb, get_or, drop, bit_or, refl, sym, ap, ◌∙◌, subst, inl, inr, arith}
use Rattle.std.specs.List.{range_with_len}
use Rattle.std.specs.Int.Bits.{or_zero_r}
use Rattle.std.proofs.lemmas.Bool.{le-leb, lt-ltb, le-ltb, cases_lt}
use Rattle.std.proofs.lemmas.List.{get_or-append_right, get_or_append_left, get_or_default, get_or_past, get_or-drop, get_or-map, ext_get_or, length-map}
use Rattle.std.proofs.lemmas.Nat.{or_comm}
use Rattle.std.proofs.lemmas.List.FromFn.{length-range_with_len, get_or-range_with_len}
use Rattle.hs_fdr.specs.declared.tables.Tables.{Tables}
use Rattle.hs_fdr.specs.Masks.{mask_of, width_of, IsRow}
use Rattle.hs_fdr.specs.Blocks.{super_character, super_at, mask_at, byte_or_zero, block_masks}
use Rattle.hs_fdr.specs.Lanes.{HasLanes, IsStored}
use Rattle.hs_fdr.specs.Adding.{cell, added, added_by, rows_of, text_rows}
use Rattle.hs_fdr.proofs.AddingLemmas.{SayAlike, cell_far, added_far, added_here, added_later, added_both, added_by-alike, added_is_mask}

-- a list of 64 that is known at each place
pub at_each_place : (out : List ℕ) (f : ℕ → ℕ) → length out ≡ 64 → ((i : ℕ) → i < 64 → get_or out i 0 ≡ f i) → out ≡ map f (range_with_len 0 64)
at_each_place out f long is =
    let n = length-range_with_len 0 64 in
    ext_get_or 0 out (map f (range_with_len 0 64)) (long ∙ sym (length-map (range_with_len 0 64) f ∙ n)) (λ i h.
    let l : i < 64 = omega arith in
    let z : 0 + i ≡ i = omega arith in
    is i l ∙ sym (get_or-map f (range_with_len 0 64) i 0 0 (omega arith) ∙ ap f (get_or-range_with_len 0 64 i 0 l ∙ z)))

-- one place more, from behind
pub group_step : (rows : ℕ → ℕ → ℕ) (p count : ℕ) (sum later row new : List ℕ) → HasLanes sum (λ k. added_by rows (p + 1) count k) → HasLanes later (λ k. get_or (0 ∷ sum) k 0) → HasLanes row (λ k. cell rows p k)
    → HasLanes new (λ k. bit_or (get_or row k 0) (get_or later k 0)) → HasLanes new (λ k. added_by rows p (suc count) k)
group_step rows p count sum later row new s l r n = record { long = n.long; each = at }
  where
    at : (k : ℕ) → k < 16 → get_or new k 0 ≡ added_by rows p (suc count) k
    at zero h = n.each 0 h ∙ (λ i. bit_or (r.each 0 h i) (l.each 0 h i)) ∙ or_zero_r (cell rows p 0)
    at (suc k) h = n.each (suc k) h ∙ (λ i. bit_or (r.each (suc k) h i) ((l.each (suc k) h ∙ s.each k (omega arith)) i))

-- places that are written
pub stored : (f : ℕ → ℕ) (at count : ℕ) (total old new : List ℕ) → ((i : ℕ) → i < 64 → get_or old i 0 ≡ cond (ltb i at) (f i) 255) → IsStored total count at old new → ((k : ℕ) → k < count → get_or total k 0 ≡ f (at + k))
    → (i : ℕ) → i < 64 → get_or new i 0 ≡ cond (ltb i (at + count)) (f i) 255
stored f at count total old new before store is i h =
    elim (cases_lt i at) [
      | inl l ↦ store i h ∙ rw (leb-false at i l, before i h, lt-ltb i at l, lt-ltb i (at + count) (omega arith)) refl
      | inr g ↦
          elim (cases_lt i (at + count)) [
            | inl l ↦ let e : at + (i - at) ≡ i = omega arith in store i h ∙ rw (le-leb at i g, lt-ltb i (at + count) l) (is (i - at) (omega arith) ∙ ap f e)
            | inr g' ↦ store i h ∙ rw (le-leb at i g, le-ltb i (at + count) g', before i h, le-ltb i at g) refl
          ]
    ]
  where
    leb-false : (a b : ℕ) → b < a → leb a b ≡ false
    leb-false a b l = grind arith

module _ (tables : Tables) (before block : List ℕ) (next : ℕ) where
  abbrev text : List ℕ
  text = before ++ block

  abbrev says : ℕ → ℕ → ℕ
  says = text_rows tables text next

  text_at : (i d : ℕ) → get_or text (length before + i) d ≡ get_or block i d
  text_at i d = let e : length before + i - length before ≡ i = omega arith in get_or-append_right before block (length before) (length before + i) d refl (omega arith) ∙ ap (λ n. get_or block n d) e

  rows_alike : (bytes : List ℕ) (a b j : ℕ) → get_or bytes a 0 ≡ get_or text b 0 → get_or bytes (a + 1) 0 ≡ get_or text (b + 1) next → rows_of tables bytes a j ≡ says b j
  rows_alike bytes a b j e f i = mask_of tables j (super_character (width_of tables) (e i) (f i))

  -- within the block
  pub block_says : (at k : ℕ) → at + 8 < length block → SayAlike (rows_of tables block) says at (length before + at) 8 k
  block_says at k room t lt le a b ea eb j hj =
      let e : length before + a ≡ b = omega arith in
      let f : length before + (a + 1) ≡ b + 1 = omega arith in
      rows_alike block a b j
      (sym (text_at a 0) ∙ ap (λ n. get_or text n 0) e)
      (get_or_default block (a + 1) 0 next (omega arith) ∙ sym (text_at (a + 1) next) ∙ ap (λ n. get_or text n next) f)

  -- at the end of the block
  pub rest_says : (at k : ℕ) (bytes : List ℕ) → at + k < length block → ((i : ℕ) → i ≤ length block - at → get_or bytes i 0 ≡ get_or (drop at block) i next) → SayAlike (rows_of tables bytes) says 0 (length before + at) 8 k
  rest_says at k bytes room is t lt le a b ea eb j hj =
      let e : length before + (at + a) ≡ b = omega arith in
      let f : length before + (at + (a + 1)) ≡ b + 1 = omega arith in
      rows_alike bytes a b j
      (is a (omega arith) ∙ get_or-drop at block a next ∙ get_or_default block (at + a) next 0 (omega arith) ∙ sym (text_at (at + a) 0) ∙ ap (λ n. get_or text n 0) e)
      (is (a + 1) (omega arith) ∙ get_or-drop at block (a + 1) next ∙ sym (text_at (at + (a + 1)) next) ∙ ap (λ n. get_or text n next) f)

  module _ (n p : ℕ) (bytes ahead sum total : List ℕ) (h : HasLanes ahead (λ k. added says n (n + k))) (g : HasLanes sum (λ k. added_by (rows_of tables bytes) p 8 k)) (t : HasLanes total (λ k. bit_or (get_or ahead k 0) (get_or sum k 0))) where
    total_at : (k : ℕ) → k < 16 → SayAlike (rows_of tables bytes) says p n 8 k → get_or total k 0 ≡ added says (n + 8) (n + k)
    total_at k l say = t.each k l ∙ (λ i. bit_or (h.each k l i) ((g.each k l ∙ added_by-alike (rows_of tables bytes) says p n 8 k say) i)) ∙ sym (added_both says n 8 k)

    -- the masks of the eight
    pub mask_in_total : (k : ℕ) → k < 8 → SayAlike (rows_of tables bytes) says p n 8 k → get_or total k 0 ≡ mask_at (mask_of tables) (width_of tables) text next (n + k)
    mask_in_total k l say = total_at k (omega arith) say ∙ added_later says (n + 8) (n + k) (omega arith) ∙ added_is_mask (mask_of tables) (width_of tables) text next (n + k)

    -- what they add to places behind them
    pub ahead_of_next : (new : List ℕ) → ((k : ℕ) → SayAlike (rows_of tables bytes) says p n 8 k) → HasLanes new (λ k. get_or total (8 + k) 0) → HasLanes new (λ k. added says (n + 8) (n + 8 + k))
    ahead_of_next new say new_is = record {
      long = new_is.long;
      each = λ k l.
          let e : n + (8 + k) ≡ n + 8 + k = omega arith in
          new_is.each k l
          ∙ elim (cases_lt (8 + k) 16) [
            | inl within ↦ total_at (8 + k) within (say (8 + k)) ∙ ap (added says (n + 8)) e
            | inr past ↦ get_or_past total (8 + k) 0 (omega (arith, t.long)) ∙ sym (added_far says (n + 8) (n + 8 + k) (omega arith))
          ];
    }

  -- one place of the bytes before
  pub ahead_step : (p : ℕ) (ahead row total new : List ℕ) → HasLanes ahead (λ k. added says p (p + k)) → IsRow tables (super_at (width_of tables) text next p) row → HasLanes total (λ k. bit_or (get_or ahead k 0) (get_or row k 0))
      → HasLanes new (λ k. get_or total (1 + k) 0) → HasLanes new (λ k. added says (p + 1) (p + 1 + k))
  ahead_step p ahead row total new h r t new_is = record {
    long = new_is.long;
    each = λ k l.
        let e : p + (1 + k) ≡ p + 1 + k = omega arith in
        let s : suc p ≡ p + 1 = omega arith in
        new_is.each k l
        ∙ elim (cases_lt (1 + k) 16) [
          | inl within ↦ t.each (1 + k) within ∙ (λ i. bit_or (h.each (1 + k) within i) (r.each (1 + k) within i)) ∙ sym (added_here says p (1 + k)) ∙ (λ i. added says (s i) (e i))
          | inr past ↦ get_or_past total (1 + k) 0 (omega (arith, t.long)) ∙ sym (added_far says (p + 1) (p + 1 + k) (omega arith))
        ];
  }

  -- a block whose places are known
  pub block_masks-is : (given : Option ℕ) (out : List ℕ) → next ≡ byte_or_zero given → length out ≡ 64
      → ((i : ℕ) → i < 64 → get_or out i 0 ≡ cond (ltb i (length block)) (mask_at (mask_of tables) (width_of tables) text next (length before + i)) 255)
      → out ≡ block_masks (mask_of tables) (width_of tables) before block given
  unfolding block_masks
  block_masks-is given out e long is =
      subst (λ b. out ≡ map (λ i. cond (ltb i (length block)) (mask_at (mask_of tables) (width_of tables) text b (length before + i)) 255) (range_with_len 0 64)) e
      (at_each_place out (λ i. cond (ltb i (length block)) (mask_at (mask_of tables) (width_of tables) text next (length before + i)) 255) long is)

  -- seven bytes before a block, as the last seven of eight places
  pub ahead_of_seven : (bytes sum on : List ℕ) → length before ≡ 7 → ((k : ℕ) → k < 7 → get_or bytes (k + 1) 0 ≡ get_or before k 0) → get_or bytes 8 0 ≡ get_or text 7 next
      → HasLanes sum (λ k. added_by (rows_of tables bytes) 0 8 k) → HasLanes on (λ k. get_or sum (8 + k) 0) → HasLanes on (λ k. added says (length before) (length before + k))
  ahead_of_seven bytes sum on seven same last s o = record { long = o.long; each = at }
    where
      byte_at : (t : ℕ) → t < 7 → get_or bytes (1 + t) 0 ≡ get_or text t 0
      byte_at t l =
          let e : 1 + t ≡ t + 1 = omega arith in
          ap (λ n. get_or bytes n 0) e ∙ same t l ∙ sym (get_or_append_left before block 0 t (omega arith))

      behind_at : (t : ℕ) → t < 7 → get_or bytes (1 + t + 1) 0 ≡ get_or text (t + 1) next
      behind_at t l =
          elim (cases_lt (t + 1) 7) [
            | inl less ↦
                let e : 1 + t + 1 ≡ t + 1 + 1 = omega arith in
                ap (λ n. get_or bytes n 0) e ∙ same (t + 1) less ∙ get_or_default before (t + 1) 0 next (omega arith) ∙ sym (get_or_append_left before block next (t + 1) (omega arith))
            | inr more ↦
                let e : 1 + t + 1 ≡ 8 = omega arith in
                let f : 7 ≡ t + 1 = omega arith in
                ap (λ n. get_or bytes n 0) e ∙ last ∙ ap (λ n. get_or text n next) f
          ]

      alike : (k : ℕ) → SayAlike (rows_of tables bytes) says 1 0 7 k
      alike k = λ t l within a b p q j small.
          let d : a ≡ 1 + t = p in
          let e : b ≡ t = omega arith in
          subst (λ n. rows_of tables bytes n j ≡ says b j) (sym d) (subst (λ n. rows_of tables bytes (1 + t) j ≡ says n j) (sym e) (rows_alike bytes (1 + t) t j (byte_at t l) (behind_at t l)))

      first_eight : (k : ℕ) → added_by (rows_of tables bytes) 0 8 (8 + k) ≡ added says 7 (7 + k)
      first_eight k =
          let rows = rows_of tables bytes in
          let rest = added_by says 0 7 (7 + k) in
          let more : 8 + k ≡ suc (7 + k) = omega arith in
          let here : 7 + k ≡ 0 + (7 + k) = omega arith in
          ap (added_by rows 0 8) more
          ∙ ap (λ x. bit_or x (added_by rows 1 7 (7 + k))) (cell_far rows 0 (suc (7 + k)) (omega arith))
          ∙ or_comm 0 (added_by rows 1 7 (7 + k)) ∙ or_zero_r (added_by rows 1 7 (7 + k))
          ∙ added_by-alike rows says 1 0 7 (7 + k) (alike (7 + k))
          ∙ sym (ap (added says 7) here ∙ added_both says 0 7 (7 + k) ∙ or_comm 0 rest ∙ or_zero_r rest)

      at_seven : (k : ℕ) → k < 16 → get_or on k 0 ≡ added says 7 (7 + k)
      at_seven k h =
          elim (cases_lt k 8) [
            | inl less ↦ o.each k h ∙ s.each (8 + k) (omega arith) ∙ first_eight k
            | inr more ↦ o.each k h ∙ get_or_past sum (8 + k) 0 (omega (arith, s.long)) ∙ sym (added_far says 7 (7 + k) (omega arith))
          ]

      at : (k : ℕ) → k < 16 → get_or on k 0 ≡ added says (length before) (length before + k)
      at k h = subst (λ n. get_or on k 0 ≡ added says n (n + k)) (sym seven) (at_seven k h)
