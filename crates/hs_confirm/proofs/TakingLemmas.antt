-- Bytes that a literal takes, and where it ends.
use Rattle.std.proofs.Common.{◌≡◌, ℕ, ◌+◌, ◌-◌, ◌<◌, ◌≤◌, Bool, true, false, ◌&&◌, List, [], ◌∷◌, ◌++◌, length, get_or, map, take, drop, suc, refl, sym, ap, ◌∙◌, subst, arith, length-drop}
use Rattle.std.proofs.lemmas.List.{drop_more, drop-drop, drop_at, take_at, take-append-drop, drop_all, drop-append-le, length-take-le, length-map, drop-map, take-map, take_rest}
use Rattle.std.proofs.lemmas.Bool.{false≢true, and_from, and_left, and_parts, le-leb, lt-leb, leb-true}
use Rattle.hs_base.specs.declared.literal.LitByte.{LitByte}
use Rattle.hs_base.specs.Literals.{LiteralByte, takes}
use Rattle.hs_base.specs.LiteralView.{literal_byte}
use Rattle.hs_base.specs.LiteralEnds.{IsTaken, EndsAt}
use Rattle.hs_confirm.specs.Taking.{takes_all, ends_there}

-- one place further
pub takes_all-more : (literal : List LitByte) (bytes : List ℕ) (at : ℕ) (x : LitByte) (t : Bool) → at < length literal → at < length bytes → x ≡ get_or literal at x → takes (literal_byte x) (get_or bytes at 0) ≡ t
    → takes_all (map literal_byte (drop at literal)) (drop at bytes) ≡ (t && takes_all (map literal_byte (drop (at + 1) literal)) (drop (at + 1) bytes))
takes_all-more literal bytes at x t within within' is says =
    let front : takes (literal_byte (get_or literal at x)) (get_or bytes at 0) ≡ t = ap (λ y. takes (literal_byte y) (get_or bytes at 0)) (sym is) ∙ says in
    ap (λ xs. takes_all (map literal_byte xs) (drop at bytes)) (drop_more literal at x within)
    ∙ ap (λ ys. takes_all (map literal_byte (get_or literal at x ∷ drop (at + 1) literal)) ys) (drop_more bytes at 0 within')
    ∙ ap (λ b. b && takes_all (map literal_byte (drop (at + 1) literal)) (drop (at + 1) bytes)) front

-- nothing is left
pub takes_all-end : (literal : List LitByte) (bytes : List ℕ) (at : ℕ) → length literal ≡ length bytes → length literal ≤ at → takes_all (map literal_byte (drop at literal)) (drop at bytes) ≡ true
takes_all-end literal bytes at same past =
    ap (λ xs. takes_all (map literal_byte xs) (drop at bytes)) (drop_all at literal past)
    ∙ ap (λ ys. takes_all [] ys) (drop_all at bytes (omega arith))

and_comm : (x y : Bool) → (x && y) ≡ (y && x)
and_comm true true = refl
and_comm true false = refl
and_comm false true = refl
and_comm false false = refl

and_assoc : (x y z : Bool) → ((x && y) && z) ≡ (x && (y && z))
and_assoc true y z = refl
and_assoc false y z = refl

takes_all-append : (front back : List LiteralByte) (bytes others : List ℕ) → length front ≡ length bytes → takes_all (front ++ back) (bytes ++ others) ≡ (takes_all front bytes && takes_all back others)
takes_all-append [] back [] others same = refl
takes_all-append [] back (b ∷ bytes) others same = absurd (omega arith)
takes_all-append (x ∷ front) back [] others same = absurd (omega arith)
takes_all-append (x ∷ front) back (b ∷ bytes) others same =
    ap (λ r. takes x b && r) (takes_all-append front back bytes others (omega arith))
    ∙ sym (and_assoc (takes x b) (takes_all front bytes) (takes_all back others))

drop_behind : (history bytes : List ℕ) (n : ℕ) → drop (length history + n) (history ++ bytes) ≡ drop n bytes
drop_behind history bytes n = sym (drop-drop n (length history) (history ++ bytes)) ∙ ap (drop n) (drop_at history bytes (length history) refl)

-- a literal that begins behind the history
pub ends_there-late : (literal : List LiteralByte) (history bytes : List ℕ) (at from count : ℕ) → from + length literal ≡ at → count ≡ length literal → ends_there literal (history ++ bytes) (length history + at) ≡ takes_all literal (take count (drop from bytes))
unfolding ends_there
ends_there-late literal history bytes at from count late same =
    let n = length literal in
    let h = length history in
    let e : h + at - n ≡ h + from = omega arith in
    ap (λ b. b && takes_all literal (take n (drop (h + at - n) (history ++ bytes)))) (le-leb n (h + at) (omega arith))
    ∙ ap (λ m. takes_all literal (take n (drop m (history ++ bytes)))) e
    ∙ ap (λ xs. takes_all literal (take n xs)) (drop_behind history bytes from)
    ∙ ap (λ m. takes_all literal (take m (drop from bytes))) (sym same)

-- a literal that is longer than what stands there
pub ends_there-long : (literal : List LiteralByte) (text : List ℕ) (offset : ℕ) → offset < length literal → ends_there literal text offset ≡ false
unfolding ends_there
ends_there-long literal text offset long = and_left _ _ (lt-leb (length literal) offset long)

take-join : (xs ys : List ℕ) (n m : ℕ) → length xs + m ≡ n → take n (xs ++ ys) ≡ xs ++ take m ys
take-join [] ys n m e = let f : n ≡ m = omega arith in ap (λ k. take k ys) f
take-join (x ∷ xs) ys n m e = let f : n ≡ suc (length xs + m) = omega arith in rw f (ap (λ zs. x ∷ zs) (take-join xs ys (length xs + m) m refl))

begins_early : (literal : List LiteralByte) (history bytes : List ℕ) (at early : ℕ) → early + at ≡ length literal → early ≤ length history → at ≤ length bytes
    → ends_there literal (history ++ bytes) (length history + at) ≡ (takes_all (drop early literal) (take at bytes) && takes_all (take early literal) (drop (length history - early) history))
unfolding ends_there
begins_early literal history bytes at early whole low within =
    let n = length literal in
    let h = length history in
    let e : h + at - n ≡ h - early = omega arith in
    let front = drop (h - early) history in
    let long : length front ≡ early = omega (arith, length-drop (h - early) history) in
    let begins : length (take early literal) ≡ early = length-take-le early literal (omega arith) in
    ap (λ b. b && takes_all literal (take n (drop (h + at - n) (history ++ bytes)))) (le-leb n (h + at) (omega arith))
    ∙ ap (λ m. takes_all literal (take n (drop m (history ++ bytes)))) e
    ∙ ap (λ xs. takes_all literal (take n xs)) (drop-append-le (h - early) history bytes (omega arith))
    ∙ ap (λ xs. takes_all literal xs) (take-join front bytes n at (omega arith))
    ∙ ap (λ xs. takes_all xs (front ++ take at bytes)) (sym (take-append-drop early literal))
    ∙ takes_all-append (take early literal) (drop early literal) front (take at bytes) (begins ∙ sym long)
    ∙ and_comm (takes_all (take early literal) front) (takes_all (drop early literal) (take at bytes))

-- a literal that begins in the history, in the two parts that are looked at
pub ends_there-early : (literal : List LitByte) (history bytes : List ℕ) (at early : ℕ) → early + at ≡ length literal → early ≤ length history → at ≤ length bytes
    → ends_there (map literal_byte literal) (history ++ bytes) (length history + at)
    ≡ (takes_all (map literal_byte (take (length literal - early) (drop early literal))) (take at bytes) && takes_all (map literal_byte (take early literal)) (take (length history - (length history - early)) (drop (length history - early) history)))
ends_there-early literal history bytes at early whole low within =
    let plain = map literal_byte literal in
    let late = take at bytes in
    let begin = drop (length history - early) history in
    begins_early plain history bytes at early (whole ∙ sym (length-map literal literal_byte)) low within
    ∙ ap (λ xs. takes_all xs late && takes_all (take early plain) begin) (drop-map literal_byte early literal ∙ ap (map literal_byte) (sym (take_rest literal early)))
    ∙ ap (λ xs. takes_all (map literal_byte (take (length literal - early) (drop early literal))) late && takes_all xs begin) (take-map literal_byte early literal)
    ∙ ap (λ ys. takes_all (map literal_byte (take (length literal - early) (drop early literal))) late && takes_all (map literal_byte (take early literal)) ys) (sym (take_rest history (length history - early)))

pub and_true : (a b r : Bool) → a ≡ true → r ≡ b → r ≡ (a && b)
and_true true b r is same = same
and_true false b r is same = absurd (false≢true is)

pub and_false : (a b r : Bool) → a ≡ false → r ≡ a → r ≡ (a && b)
and_false true b r is same = absurd (false≢true (sym is))
and_false false b r is same = same

takes_all-taken : (literal : List LiteralByte) (bytes : List ℕ) → takes_all literal bytes ≡ true → IsTaken literal bytes
takes_all-taken [] [] says = IsTaken.none
takes_all-taken [] (b ∷ bytes) says = absurd (false≢true says)
takes_all-taken (x ∷ literal) [] says = absurd (false≢true says)
takes_all-taken (x ∷ literal) (b ∷ bytes) says =
    let both = and_parts (takes x b) (takes_all literal bytes) says in IsTaken.next both.0 (takes_all-taken literal bytes both.1)

taken-takes_all : {literal : List LiteralByte} {bytes : List ℕ} → IsTaken literal bytes → takes_all literal bytes ≡ true
taken-takes_all IsTaken.none = refl
taken-takes_all (IsTaken.next {x = x} {b = b} {literal = literal} {bytes = bytes} here others) = and_from (takes x b) (takes_all literal bytes) here (taken-takes_all others)

taken-length : {literal : List LiteralByte} {bytes : List ℕ} → IsTaken literal bytes → length literal ≡ length bytes
taken-length IsTaken.none = refl
taken-length (IsTaken.next here others) = ap suc (taken-length others)

pub ends_from_there : (literal : List LiteralByte) (text : List ℕ) (offset : ℕ) → offset ≤ length text → ends_there literal text offset ≡ true → EndsAt literal text offset
unfolding ends_there
ends_from_there literal text offset within says =
    let n = length literal in
    let both = and_parts _ _ says in
    let short : n ≤ offset = leb-true n offset both.0 in
    let rest = drop (offset - n) text in
    let long : length rest ≡ length text - (offset - n) = length-drop (offset - n) text in
    record {
      before = take (offset - n) text;
      taken = take n rest;
      behind = drop n rest;
      split = sym (ap (λ xs. take (offset - n) text ++ xs) (take-append-drop n rest) ∙ take-append-drop (offset - n) text);
      is = takes_all-taken literal (take n rest) both.1;
      at = omega (arith, length-take-le n rest (omega arith), length-take-le (offset - n) text (omega arith));
    }

ends_there_split : (literal : List LiteralByte) (before taken behind : List ℕ) (offset : ℕ) → IsTaken literal taken → offset ≡ length before + length taken → ends_there literal (before ++ (taken ++ behind)) offset ≡ true
unfolding ends_there
ends_there_split literal before taken behind offset is at =
    let same : length literal ≡ length taken = taken-length is in
    let e : length before ≡ offset - length literal = omega arith in
    and_from _ _ (le-leb (length literal) offset (omega arith))
    (ap (λ xs. takes_all literal (take (length literal) xs)) (drop_at before (taken ++ behind) (offset - length literal) e)
    ∙ ap (λ xs. takes_all literal xs) (take_at taken behind (length literal) (sym same))
    ∙ taken-takes_all is)

pub there_from_ends : (literal : List LiteralByte) (text : List ℕ) (offset : ℕ) → EndsAt literal text offset → ends_there literal text offset ≡ true
there_from_ends literal text offset ends =
    subst (λ xs. ends_there literal xs offset ≡ true) (sym ends.split) (ends_there_split literal ends.before ends.taken ends.behind offset ends.is ends.at)
