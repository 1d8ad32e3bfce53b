-- A source over memory as it goes through its bytes and its pieces.
use Rattle.std.proofs.Common.{◌≡◌, ℕ, zero, suc, ◌<◌, ◌≤◌, ◌+◌, List, [], ◌∷◌, ◌++◌, length, take, drop, false, Some, length-append, length-drop, sym, ◌∙◌, ap, refl, arith, add-one}
use Rattle.std.proofs.lemmas.List.{drop-drop, take-append-drop, take_at, drop_at, length-take-le}
use Rattle.std.proofs.Math.ListN.{drop_of_length-le}
use Rattle.hs_outside.specs.FaultPlan.{Plan, is_listed, called}
use Rattle.hs_outside.specs.Source.{Reads}
use Rattle.hs_outside.specs.MemSource.{SourceState, piece_len, given_len, later_pieces, after_read}

-- the next piece is dropped while another stands behind it
pub later_pieces-drop : (pieces : List ℕ) (read : ℕ) → read + 1 < length pieces → drop (read + 1) pieces ≡ later_pieces (drop read pieces)
later_pieces-drop [] read h = absurd (omega arith)
later_pieces-drop (last ∷ []) read h = absurd (omega arith)
later_pieces-drop (piece ∷ next ∷ later) zero h = refl
later_pieces-drop (piece ∷ next ∷ later) (suc read) h = rw (add-one, ← add-one read) (later_pieces-drop (next ∷ later) read (omega arith))

-- the last piece stays
pub later_pieces-last : (pieces : List ℕ) (read : ℕ) → length pieces ≤ read + 1 → drop read pieces ≡ later_pieces (drop read pieces)
later_pieces-last [] zero h = refl
later_pieces-last [] (suc read) h = refl
later_pieces-last (last ∷ []) zero h = refl
later_pieces-last (last ∷ []) (suc read) h = later_pieces-last [] read (omega arith)
later_pieces-last (piece ∷ next ∷ later) zero h = absurd (omega arith)
later_pieces-last (piece ∷ next ∷ later) (suc read) h = later_pieces-last (next ∷ later) read (omega arith)

-- what a read that gives bytes leaves
pub after_read-given : (bytes : List ℕ) (taken n room : ℕ) (pieces later : List ℕ) (plan now : Plan) →
    is_listed plan ≡ false →
    n ≡ given_len (record { left = drop taken bytes; pieces = pieces; plan = plan }) room →
    later ≡ later_pieces pieces → now ≡ called plan →
    (let after : SourceState = record { left = drop (taken + n) bytes; pieces = later; plan = now } in after)
    ≡ after_read (record { left = drop taken bytes; pieces = pieces; plan = plan }) room
after_read-given bytes taken n room pieces later plan now not_listed gives moves counts =
    rw (not_listed, ← gives, drop-drop n taken bytes, ← moves, ← counts) refl

-- a read into a buffer with room gives nothing only where nothing is left
pub given_len-none : (source : SourceState) (room : ℕ) → given_len source room ≡ 0 → 0 < room → source.left ≡ []
given_len-none source room none some_room =
    let most : 0 < piece_len source.pieces room = piece_len-some source.pieces room some_room in
    empty_of source.left (omega arith)
  where
    piece_len-some : (pieces : List ℕ) (room : ℕ) → 0 < room → 0 < piece_len pieces room
    piece_len-some [] room h = h
    piece_len-some (piece ∷ later) room h = omega arith

    empty_of : (xs : List ℕ) → length xs ≡ 0 → xs ≡ []
    empty_of [] h = refl
    empty_of (x ∷ xs) h = absurd (omega arith)

-- a buffer whose front was overwritten by the first of what was left
pub Reads-copied : (left now old front : List ℕ) (n : ℕ) → front ≡ take n left → now ≡ drop n left → n ≤ length left → n ≤ length old → (n ≡ 0 → 0 < length old → left ≡ []) → Reads (Some left) (Some now) old (front ++ drop n old) n
Reads-copied left now old front n copied moved there fits only_at_end =
    let len : length front ≡ n = omega (arith, ap length copied, length-take-le n left there) in
    record {
      within = omega (arith, length-append front (drop n old));
      given = rw (take_at front (drop n old) n len, copied, moved) (sym (take-append-drop n left));
      rest = drop_at front (drop n old) n len;
      end = λ none some. moved ∙ drop_of_length-le left (omega (arith, ap length (only_at_end none (omega (arith, length-append front (drop n old), length-drop n old)))));
    }

-- no read gives more than there is room for
pub given_len-fits : (source : SourceState) (room : ℕ) → given_len source room ≤ room
given_len-fits source room = let fits : piece_len source.pieces room ≤ room = piece_len-fits source.pieces room in omega arith
  where
    piece_len-fits : (pieces : List ℕ) (room : ℕ) → piece_len pieces room ≤ room
    piece_len-fits [] room = omega arith
    piece_len-fits (piece ∷ later) room = omega arith
