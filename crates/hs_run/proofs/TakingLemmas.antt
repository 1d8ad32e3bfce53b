-- Bytes that a literal takes, and where it ends.
use Rattle.std.proofs.Common.{◌≡◌, ℕ, ◌+◌, ◌-◌, ◌<◌, ◌≤◌, Bool, true, ◌&&◌, List, [], ◌∷◌, ◌++◌, length, get_or, map, take, drop, suc, refl, sym, ap, ◌∙◌, arith, length-drop, length-append}
use Rattle.std.proofs.lemmas.List.{drop_more, drop_at, take-append-drop, drop_all, length-take-le, append-nil}
use Rattle.std.proofs.lemmas.Bool.{false≢true, and_from, and_parts}
use Rattle.hs_base.specs.declared.literal.LitByte.{LitByte}
use Rattle.hs_base.specs.Literals.{LiteralByte, takes}
use Rattle.hs_base.specs.LiteralView.{literal_byte}
use Rattle.hs_base.specs.LiteralEnds.{IsTaken, EndsAt}
use Rattle.hs_run.specs.Pieces.{takes_all}

-- one place further
pub takes_all-more : (literal : List LitByte) (bytes : List ℕ) (at : ℕ) (x : LitByte) (t : Bool) → at < length literal → at < length bytes → x ≡ get_or literal at x → takes (literal_byte x) (get_or bytes at 0) ≡ t
    → takes_all (map literal_byte (drop at literal)) (drop at bytes) ≡ (t && takes_all (map literal_byte (drop (at + 1) literal)) (drop (at + 1) bytes))
takes_all-more literal bytes at x t within within' is says =
    let front : takes (literal_byte (get_or literal at x)) (get_or bytes at 0) ≡ t = ap (λ y. takes (literal_byte y) (get_or bytes at 0)) (sym is) ∙ says in
    ap (λ xs. takes_all (map literal_byte xs) (drop at bytes)) (drop_more literal at x within)
    ∙ ap (λ ys. takes_all (map literal_byte (get_or literal at x ∷ drop (at + 1) literal)) ys) (drop_more bytes at 0 within')
    ∙ ap (λ b. b && takes_all (map literal_byte (drop (at + 1) literal)) (drop (at + 1) bytes)) front

-- nothing is left
pub takes_all-end : (literal : List LitByte) (bytes : List ℕ) (at : ℕ) → length literal ≡ length bytes → length literal ≤ at → takes_all (map literal_byte (drop at literal)) (drop at bytes) ≡ true
takes_all-end literal bytes at same past =
    ap (λ xs. takes_all (map literal_byte xs) (drop at bytes)) (drop_all at literal past)
    ∙ ap (λ ys. takes_all [] ys) (drop_all at bytes (omega arith))

takes_all-taken : (literal : List LiteralByte) (bytes : List ℕ) → takes_all literal bytes ≡ true → IsTaken literal bytes
takes_all-taken [] [] says = IsTaken.none
takes_all-taken [] (b ∷ bytes) says = absurd (false≢true says)
takes_all-taken (x ∷ literal) [] says = absurd (false≢true says)
takes_all-taken (x ∷ literal) (b ∷ bytes) says =
    let both = and_parts (takes x b) (takes_all literal bytes) says in IsTaken.next both.0 (takes_all-taken literal bytes both.1)

taken-takes_all : {literal : List LiteralByte} {bytes : List ℕ} → IsTaken literal bytes → takes_all literal bytes ≡ true
taken-takes_all IsTaken.none = refl
taken-takes_all (IsTaken.next {x = x} {b = b} {literal = literal} {bytes = bytes} here others) = and_from (takes x b) (takes_all literal bytes) here (taken-takes_all others)

taken-length : {literal : List LiteralByte} {bytes : List ℕ} → IsTaken literal bytes → length literal ≡ length bytes
taken-length IsTaken.none = refl
taken-length (IsTaken.next here others) = ap suc (taken-length others)

none-behind : (before taken behind : List ℕ) → length (before ++ (taken ++ behind)) ≡ length before + length taken → behind ≡ []
none-behind before taken [] size = refl
none-behind before taken (b ∷ behind) size = absurd (omega (arith, size, length-append before (taken ++ b ∷ behind), length-append taken (b ∷ behind)))

-- a literal ends at the end of bytes where it takes the last ones
pub ends-taken : (literal : List LiteralByte) (u : List ℕ) → EndsAt literal u (length u) → (length literal ≤ length u) × (takes_all literal (drop (length u - length literal) u) ≡ true)
ends-taken literal u ends =
    let size : length u ≡ length (ends.before ++ (ends.taken ++ ends.behind)) = ap length ends.split in
    let none : ends.behind ≡ [] = none-behind ends.before ends.taken ends.behind (sym size ∙ ends.at) in
    let same : length literal ≡ length ends.taken = taken-length ends.is in
    let whole : u ≡ ends.before ++ ends.taken = ends.split ∙ ap (λ xs. ends.before ++ xs) (ap (λ xs. ends.taken ++ xs) none ∙ append-nil ends.taken) in
    let place : length ends.before ≡ length u - length literal = omega (arith, ends.at, same) in
    let rest : drop (length u - length literal) u ≡ ends.taken = ap (drop (length u - length literal)) whole ∙ drop_at ends.before ends.taken (length u - length literal) place in
    (omega (arith, ends.at, same), ap (takes_all literal) rest ∙ taken-takes_all ends.is)

pub taken-ends : (literal : List LiteralByte) (u : List ℕ) → length literal ≤ length u → takes_all literal (drop (length u - length literal) u) ≡ true → EndsAt literal u (length u)
taken-ends literal u within says =
    let n = length u - length literal in
    record {
      before = take n u;
      taken = drop n u;
      behind = [];
      split = sym (ap (λ xs. take n u ++ xs) (append-nil (drop n u)) ∙ take-append-drop n u);
      is = takes_all-taken literal (drop n u) says;
      at = omega (arith, length-take-le n u (omega arith), length-drop n u, within);
    }
