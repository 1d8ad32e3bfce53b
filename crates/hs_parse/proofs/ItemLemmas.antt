-- Where the items of a class end.
use Rattle.std.proofs.Common.{◌≡◌, ℕ, ◌+◌, ◌-◌, ◌<◌, ◌≤◌, Bool, List, length, take, drop, ap, subst, arith}
use Rattle.std.specs.Prelude.{◌==◌, nat_lt}
use Rattle.std.specs.List.{slice_get}
use Rattle.std.proofs.Math.Seq.{take-length}
use Rattle.std.proofs.lemmas.List.{length-drop}
use Rattle.hs_syntax.specs.declared.mode.Mode.{Mode}
use Rattle.hs_syntax.specs.declared.piece.Piece.{Piece}
use Rattle.hs_syntax.specs.declared.piece.Piece.TheVariants as piece
use Rattle.hs_syntax.specs.Bytes.{is_byte}
use Rattle.hs_syntax.specs.declared.wrong.Wrong.{Wrong}
use Rattle.hs_syntax.specs.declared.wrong.Wrong.TheVariants as wrong
use Rattle.hs_syntax.specs.declared.form.Form.{Form}
use Rattle.hs_syntax.specs.declared.form.Form.TheVariants as form
use Rattle.hs_syntax.specs.Lengths.{WrongFits, FormFits, PieceFits}
use Rattle.hs_syntax.proofs.FitLemmas.{either, byte_within}
use Rattle.hs_syntax.proofs.EscapeFits.{piece_fits}
use Rattle.hs_parse.specs.declared.item.Item.{Item}
use Rattle.hs_parse.specs.declared.item.Item.TheVariants as item
use Rattle.hs_parse.specs.Classes.{hyphen, class_piece, range_of, item_of, item_at}

-- a piece at a place takes some of the bytes that are left
pub piece_left : (text : List ℕ) (mode : Mode) (start at : ℕ) → PieceFits (length text - at) (class_piece text mode start at)
piece_left text mode start at =
    subst (λ n. PieceFits n (class_piece text mode start at)) (length-drop at text) (piece_fits mode (at == start) (drop at text))

-- how far an item at a place goes, in so many bytes
abbrev pub ItemFits : (bytes at : ℕ) → Item → Type 0
ItemFits bytes at item.End = bytes ≤ at
ItemFits bytes at item.Close = at < bytes
ItemFits bytes at (item.Bytes test end) = (at < end) × (end ≤ bytes)
ItemFits bytes at (item.Refused refusal) = Unit {0}

range_fits :
    (bytes at code middle : ℕ) (caseless : Bool) (p : Piece) → at < middle → middle < bytes → PieceFits (bytes - (middle + 1)) p →
    ItemFits bytes at (range_of caseless at code middle p)
range_fits bytes at code middle caseless piece.End h k fits = (h, omega arith)
range_fits bytes at code middle caseless piece.Close h k fits = (h, omega arith)
range_fits bytes at code middle caseless (piece.Character last length) h k fits =
    either (ItemFits bytes at) (nat_lt last code) _ _ (λ _. tt)
    (λ _. (omega arith, omega (arith, fits.within, k)))
range_fits bytes at code middle caseless (piece.Class class negated length) h k fits = (h, omega arith)
range_fits bytes at code middle caseless (piece.Refused reason) h k fits = tt

item_of_fits :
    (text : List ℕ) (mode : Mode) (start at : ℕ) (p : Piece) → at ≤ length text → PieceFits (length text - at) p →
    ItemFits (length text) at
    (item_of mode.caseless at (λ place. is_byte hyphen (slice_get text place)) (λ place. class_piece text mode start place) p)
item_of_fits text mode start at piece.End h fits = omega (arith, fits)
item_of_fits text mode start at piece.Close h fits = omega (arith, fits.within)
item_of_fits text mode start at (piece.Character code n) h fits =
    either (ItemFits (length text) at) (is_byte hyphen (slice_get text (at + n))) _ _
    (λ e.
    let there = byte_within text (at + n) hyphen e in
    range_fits (length text) at code (at + n) mode.caseless (class_piece text mode start (at + n + 1)) (omega (arith, fits.some)) there
    (piece_left text mode start (at + n + 1)))
    (λ _. (omega (arith, fits.some), omega (arith, h, fits.within)))
item_of_fits text mode start at (piece.Class class negated n) h fits = (omega (arith, fits.some), omega (arith, h, fits.within))
item_of_fits text mode start at (piece.Refused reason) h fits = tt

pub item_fits : (text : List ℕ) (mode : Mode) (start at : ℕ) → at ≤ length text → ItemFits (length text) at (item_at text mode start at)
unfolding item_at
item_fits text mode start at h =
    item_of_fits text mode start at (class_piece text mode start at) h (piece_left text mode start at)

-- the bytes that an item takes
pub item_end :
    (text : List ℕ) (mode : Mode) (start at : ℕ) (i : Item) → at ≤ length text → item_at text mode start at ≡ i →
    ItemFits (length text) at i
item_end text mode start at i h e =
    subst (ItemFits (length text) at) e (item_fits text mode start at h)

-- so many bytes are left
pub left_length : (text : List ℕ) (at : ℕ) → length (take (length text - at) (drop at text)) ≡ length text - at
left_length text at =
    subst (λ n. length (take n (drop at text)) ≡ n) (length-drop at text) (ap length (take-length (drop at text)))

wrong_more : (m n : ℕ) (w : Wrong) → WrongFits m w → m ≤ n → WrongFits n w
wrong_more m n wrong.Syntax h k = tt
wrong_more m n wrong.UnknownEscape h k = tt
wrong_more m n (wrong.IllFormed place) h k = omega (arith, h, k)
wrong_more m n (wrong.Unsupported construct) h k = tt

-- why a piece is refused, in a longer text
pub piece_wrong : (m n : ℕ) (p : Piece) (w : Wrong) → PieceFits m p → p ≡ piece.Refused w → m ≤ n → WrongFits n w
piece_wrong m n p w h e k = wrong_more m n w (subst (PieceFits m) e h) k

-- and a form
pub form_wrong : (m n : ℕ) (f : Form) (w : Wrong) → FormFits m f → f ≡ form.Refused w → m ≤ n → WrongFits n w
form_wrong m n f w h e k = wrong_more m n w (subst (FormFits m) e h) k
