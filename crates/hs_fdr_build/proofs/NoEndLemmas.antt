-- No literal end is masked out.
use Rattle.std.proofs.Common.{◌≡◌, ℕ, zero, suc, ◌+◌, ◌-◌, ◌*◌, ◌/◌, ◌%◌, ◌^◌, ◌<◌, ◌≤◌, List, ◌++◌, All, length, map, get_or, cond, ltb, refl, sym, ap, subst, ◌∙◌, inl, inr, arith, max, length-append}
use Rattle.std.specs.List.{range_with_len}
use Rattle.std.specs.Int.{bit_at}
use Rattle.std.proofs.lemmas.Bool.{cases_lt, le-leb, lt-leb, lt-ltb}
use Rattle.std.proofs.lemmas.List.{get_or_default, get_or-map, get_or-append-add, get_or_append_left, append_assoc}
use Rattle.std.proofs.lemmas.List.Elements.{All-get_or}
use Rattle.std.proofs.lemmas.List.FromFn.{length-range_with_len, get_or-range_with_len}
use Rattle.std.proofs.lemmas.Nat.Bits.{bit_at_or, bit_at-zero}
use Rattle.hs_base.specs.Literals.{LiteralByte}
use Rattle.hs_fdr.specs.declared.tables.Tables.{Tables}
use Rattle.hs_fdr.specs.Masks.{mask_of, width_of}
use Rattle.hs_fdr.specs.Blocks.{super_at, or_all, term, mask_at, byte_or_zero, block_masks}
use Rattle.hs_fdr_build.specs.Asking.{TakesBefore, MayStand, beyond, last, inner, StandsIn, AreTablesOf}
use Rattle.hs_fdr_build.specs.NoEndMasked.{NoEndIsMasked, NoEndIsMaskedInBlocks}
use Rattle.hs_fdr_build.proofs.EndLemmas.{ends-take, ends-within}
use Rattle.hs_fdr_build.proofs.WidthLemmas.{spread-top}

-- a bit that is 0 in all is 0 in their OR
or-clear : (f : ℕ → ℕ) (b j n : ℕ) → ((k : ℕ) → k < j + n → bit_at (f k) b ≡ 0) → bit_at (or_all (map f (range_with_len j n))) b ≡ 0
or-clear f b j zero each = bit_at-zero b
or-clear f b j (suc n) each =
    let rest = or_all (map f (range_with_len (j + 1) n)) in
    let here : bit_at (f j) b ≡ 0 = each j (omega arith) in
    let there : bit_at rest b ≡ 0 = or-clear f b (j + 1) n (λ k h. each k (omega arith)) in
    bit_at_or (f j) rest b ∙ (λ i. max (here i) (there i))

module _ (literals : List (List LiteralByte)) (buckets : List ℕ) (tables : Tables) (are : AreTablesOf literals buckets tables) (bucket : ℕ) (literal : List LiteralByte) (small : bucket < 8) (stands : StandsIn literals buckets bucket literal)
    (text : List ℕ) (bytes : All (λ b. b < 256) text) (next place : ℕ) (within : place < length text)
    (taken : (j : ℕ) → j < length literal → j ≤ place → TakesBefore literal j (get_or text (place - j) 0)) where
  abbrev byte : ℕ → ℕ
  byte j = get_or text (place - j) 0

  abbrev further : ℕ → ℕ
  further j = get_or text (place - j + 1) next % 2 ^ (width_of tables - 8)

  byte-fits : (j : ℕ) → byte j < 256
  byte-fits j = All-get_or (λ b. b < 256) text (place - j) 0 (omega arith) bytes

  low-is : (j : ℕ) → super_at (width_of tables) text next (place - j) % 256 ≡ byte j
  low-is j = let h = byte-fits j in omega arith

  high-is : (j : ℕ) → super_at (width_of tables) text next (place - j) / 256 ≡ further j
  high-is j = let h = byte-fits j in omega arith

  here : (j : ℕ) → j < length literal → j ≤ place → TakesBefore literal j (super_at (width_of tables) text next (place - j) % 256)
  here j reaches room = subst (TakesBefore literal j) (sym (low-is j)) (taken j reaches room)

  -- the super-character there is one of those that the literal asks for
  asked : (j : ℕ) → j ≤ place → MayStand (width_of tables) literal j (super_at (width_of tables) text next (place - j))
  asked j room = elim (cases_lt j (length literal)) [
    | inr past ↦ beyond past
    | inl reaches ↦ elim (cases_lt 0 j) [
      | inr first ↦ last (omega arith) (here j reaches room)
      | inl above ↦
          let at : place - j + 1 ≡ place - (j - 1) = omega arith in
          let after : get_or text (place - j + 1) next ≡ get_or text (place - (j - 1)) 0 =
          get_or_default text (place - j + 1) next 0 (omega arith) ∙ ap (λ k. get_or text k 0) at in
          inner above (here j reaches room) (get_or text (place - (j - 1)) 0) (taken (j - 1) (omega arith) (omega arith)) (high-is j ∙ ap (λ a. a % 2 ^ (width_of tables - 8)) after)
    ]
  ]

  below : (j : ℕ) → super_at (width_of tables) text next (place - j) < 2 ^ width_of tables
  below j = under (2 ^ (width_of tables - 8)) (2 ^ width_of tables) (get_or text (place - j + 1) next) (byte j) (spread-top (width_of tables) tables.width_fits.0 tables.width_fits.1).0
      (spread-top (width_of tables) tables.width_fits.0 tables.width_fits.1).1 (byte-fits j)
    where
      under : (spread top after b : ℕ) → 256 * spread ≡ top → 0 < spread → b < 256 → b + 256 * (after % spread) < top
      under spread top after b e h k = let r : after % spread < spread = omega arith in omega arith

  term-clear : (j : ℕ) → j < 8 → bit_at (term (mask_of tables) (width_of tables) text next place j) bucket ≡ 0
  term-clear j h = elim (cases_lt place j) [
    | inl before ↦ rw (lt-leb j place before) (bit_at-zero bucket)
    | inr room ↦ rw (le-leb j place room) ((are.each bucket j (super_at (width_of tables) text next (place - j)) small h (below j)).1 (record { literal = literal; stands = stands; may = asked j room }))
  ]

  pub place-clear : bit_at (mask_at (mask_of tables) (width_of tables) text next place) bucket ≡ 0
  unfolding mask_at
  place-clear = or-clear (term (mask_of tables) (width_of tables) text next place) bucket 0 8 (λ k h. term-clear k (omega arith))

pub no-end-is-masked : NoEndIsMasked
no-end-is-masked literals buckets tables are bucket literal small stands text next place bytes ends =
    place-clear literals buckets tables are bucket literal small stands text bytes next place (omega (arith, ends-within literal text (place + 1) ends))
    (λ j reaches room. ends-take literal text (place + 1) j (place - j) ends reaches (omega arith))

pub no-end-is-masked-in-blocks : NoEndIsMaskedInBlocks
unfolding block_masks
no-end-is-masked-in-blocks literals buckets tables are bucket literal small stands earlier before block later next i bytes h l ends =
    let masked = λ (k : ℕ). cond (ltb k (length block)) (mask_at (mask_of tables) (width_of tables) (before ++ block) (byte_or_zero next) (length before + k)) 255 in
    let z : 0 + i ≡ i = omega arith in
    let read : get_or (map masked (range_with_len 0 64)) i 0 ≡ masked i =
    get_or-map masked (range_with_len 0 64) i 0 0 (omega (arith, length-range_with_len 0 64)) ∙ ap masked (get_or-range_with_len 0 64 i 0 h ∙ z) in
    let inside : masked i ≡ mask_at (mask_of tables) (width_of tables) (before ++ block) (byte_or_zero next) (length before + i) = rw (lt-ltb i (length block) l) refl in
    let room : length before + i < length (before ++ block) = omega (arith, length-append before block) in
    ap (λ m. bit_at m bucket) (read ∙ inside)
    ∙ place-clear literals buckets tables are bucket literal small stands (before ++ block) bytes (byte_or_zero next) (length before + i) room (λ j reaches back.
    let at = length before + i - j in
    let same : get_or (earlier ++ (before ++ (block ++ later))) (length earlier + at) 0 ≡ get_or (before ++ block) at 0 =
    get_or-append-add earlier (before ++ (block ++ later)) at 0
    ∙ ap (λ t. get_or t at 0) (sym (append_assoc before block later))
    ∙ get_or_append_left (before ++ block) later 0 at (omega arith) in
    subst (TakesBefore literal j) same (ends-take literal (earlier ++ (before ++ (block ++ later))) (length earlier + (length before + (i + 1))) j (length earlier + at) ends reaches (omega arith)))
