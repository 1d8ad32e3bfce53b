-- Keys: places of literals and of texts, and that both have one key where a literal ends.
use Rattle.std.proofs.Common.{◌≡◌, ℕ, zero, suc, ◌+◌, ◌*◌, ◌-◌, ◌/◌, ◌%◌, ◌^◌, ◌<◌, ◌≤◌, true, ◌&&◌, List, [], ◌∷◌, ◌++◌, length, get_or, map, take, drop, replicate, bit_and, bit_or, eqb, leb, refl, sym, ap, ◌∙◌, subst, arith, inl, inr, length-drop}
use Rattle.std.proofs.lemmas.List.{get_or-map, length-map, get_or-append-add, get_or_append_left, get_or-take, get_or-drop}
use Rattle.std.proofs.lemmas.Bool.{false≢true, and_parts, or_cases, lt-ltb, le-ltb, leb-true, eqb-true, cond-true, cond-false}
use Rattle.std.specs.Simd.Lanes.{zip2, pick_l, number_l}
use Rattle.std.proofs.lemmas.Nat.{and_mask, one_shl, or_of_8}
use Rattle.std.proofs.Math.Nat.{pow-le-pow_right, mod-eq_of_lt}
use Rattle.std.proofs.lemmas.Nat.Bits.{and_pow}
use Rattle.std.specs.Int.Bits.{or_add_and}
use Rattle.hs_base.specs.declared.literal.LitByte.{LitByte}
use Rattle.hs_base.specs.Literals.{LiteralByte, takes, is_small_letter}
use Rattle.hs_base.specs.LiteralView.{literal_byte}
use Rattle.hs_confirm.specs.Taking.{takes_all, ends_there}
use Rattle.hs_confirm.specs.Keys.{IsMask, folded, literal_place, text_place, eight_places, full_literal_key, full_text_key, key_at, literal_key, text_key}

literal_place-within : (literal : List LiteralByte) (back : ℕ) → back < length literal → literal_place literal back ≡ folded (get_or (map (λ x. x.byte) literal) (length literal - 1 - back) 0)
unfolding literal_place
literal_place-within literal back h = cond-true _ _ _ (lt-ltb back (length literal) h)

pub literal_place-past : (literal : List LitByte) (back : ℕ) → length literal ≤ back → literal_place (map literal_byte literal) back ≡ 0
unfolding literal_place
literal_place-past literal back h = cond-false _ _ _ (le-ltb back (length (map literal_byte literal)) (omega (arith, length-map literal literal_byte)))

-- the place of a literal that was read
pub literal_place-at : (literal : List LitByte) (back place : ℕ) (x : LitByte) → back < length literal → place ≡ length literal - 1 - back → x ≡ get_or literal place x → folded x.byte ≡ literal_place (map literal_byte literal) back
literal_place-at literal back place x h e is =
    let plain = map literal_byte literal in
    let same : length plain ≡ length literal = length-map literal literal_byte in
    let there : length plain - 1 - back ≡ place = omega arith in
    let read : get_or (map (λ y. y.byte) plain) place 0 ≡ x.byte =
    get_or-map (λ y. y.byte) plain place (literal_byte x) 0 (omega arith)
    ∙ ap (λ y. y.byte) (get_or-map literal_byte literal place x (literal_byte x) (omega arith))
    ∙ ap (λ y. y.byte) (sym is) in
    sym (literal_place-within plain back (omega arith) ∙ ap (λ n. folded (get_or (map (λ y. y.byte) plain) n 0)) there ∙ ap folded read)

text_place-within : (text : List ℕ) (offset back : ℕ) → back < offset → text_place text offset back ≡ folded (get_or text (offset - 1 - back) 0)
unfolding text_place
text_place-within text offset back h = cond-true _ _ _ (lt-ltb back offset h)

pub text_place-before : (text : List ℕ) (offset back : ℕ) → offset ≤ back → text_place text offset back ≡ 0
unfolding text_place
text_place-before text offset back h = cond-false _ _ _ (le-ltb back offset h)

pub text_place-bytes : (history bytes : List ℕ) (at back : ℕ) → back < at → text_place (history ++ bytes) (length history + at) back ≡ folded (get_or bytes (at - 1 - back) 0)
text_place-bytes history bytes at back h =
    let e : length history + at - 1 - back ≡ length history + (at - 1 - back) = omega arith in
    text_place-within (history ++ bytes) (length history + at) back (omega arith)
    ∙ ap folded (ap (λ n. get_or (history ++ bytes) n 0) e ∙ get_or-append-add history bytes (at - 1 - back) 0)

pub text_place-history : (history bytes : List ℕ) (at back : ℕ) → at ≤ back → back - at < length history → text_place (history ++ bytes) (length history + at) back ≡ folded (get_or history (length history - 1 - (back - at)) 0)
text_place-history history bytes at back low h =
    let e : length history + at - 1 - back ≡ length history - 1 - (back - at) = omega arith in
    text_place-within (history ++ bytes) (length history + at) back (omega arith)
    ∙ ap folded (ap (λ n. get_or (history ++ bytes) n 0) e ∙ get_or_append_left history bytes 0 (length history - 1 - (back - at)) (omega arith))

-- both cases stand only for small letters
abbrev pub AreSmall : List LiteralByte → Type 0
AreSmall [] = Unit {0}
AreSmall (x ∷ literal) = (x.both_cases ≡ true → is_small_letter x.byte ≡ true) × AreSmall literal

pub are_small : (literal : List LitByte) → AreSmall (map literal_byte literal)
are_small [] = tt
are_small (x ∷ literal) = (x.small, are_small literal)

-- the bit is added where it is 0
folded-is : (b : ℕ) → folded b ≡ b + 32 - b / 32 % 2 * 32
folded-is b = let and : bit_and b 32 ≡ b / 32 % 2 * 32 = and_pow b 5 in omega (arith, or_add_and b 32, and)

folded-cases : (x b : ℕ) → is_small_letter x ≡ true → b + 32 ≡ x → folded x ≡ folded b
folded-cases x b small e =
    let both = and_parts (leb 97 x) (leb x 122) small in
    let low : 97 ≤ x = leb-true 97 x both.0 in
    let high : x ≤ 122 = leb-true x 122 both.1 in
    folded-is x ∙ omega arith ∙ sym (folded-is b)

takes-folded : (x : LiteralByte) (b : ℕ) → (x.both_cases ≡ true → is_small_letter x.byte ≡ true) → takes x b ≡ true → folded x.byte ≡ folded b
takes-folded x b small says =
    elim (or_cases (eqb b x.byte) (x.both_cases && eqb (b + 32) x.byte) says) [
      | inl same ↦ ap folded (sym (eqb-true b x.byte same))
      | inr case ↦
          let both = and_parts x.both_cases (eqb (b + 32) x.byte) case in
          folded-cases x.byte b (small both.0) (eqb-true (b + 32) x.byte both.1)
    ]

takes_all-folded : (literal : List LiteralByte) (bytes : List ℕ) (k : ℕ) → AreSmall literal → takes_all literal bytes ≡ true → k < length literal → folded (get_or (map (λ x. x.byte) literal) k 0) ≡ folded (get_or bytes k 0)
takes_all-folded [] bytes k small says within = absurd (omega arith)
takes_all-folded (x ∷ literal) [] k small says within = absurd (false≢true says)
takes_all-folded (x ∷ literal) (b ∷ bytes) zero small says within = takes-folded x b small.0 (and_parts (takes x b) (takes_all literal bytes) says).0
takes_all-folded (x ∷ literal) (b ∷ bytes) (suc k) small says within =
    takes_all-folded literal bytes k small.1 (and_parts (takes x b) (takes_all literal bytes) says).1 (omega arith)

-- where a literal ends, it and the text have the same byte at each of its places
places-same : (literal : List LiteralByte) (text : List ℕ) (offset back : ℕ) → AreSmall literal → ends_there literal text offset ≡ true → back < length literal → literal_place literal back ≡ text_place text offset back
unfolding ends_there
places-same literal text offset back small says h =
    let both = and_parts _ _ says in
    let long : length literal ≤ offset = leb-true (length literal) offset both.0 in
    let n = length literal in
    let k = n - 1 - back in
    let e : offset - n + k ≡ offset - 1 - back = omega arith in
    literal_place-within literal back h
    ∙ takes_all-folded literal (take n (drop (offset - n) text)) k small both.1 (omega arith)
    ∙ ap folded (get_or-take n (drop (offset - n) text) k 0 (omega arith) ∙ get_or-drop (offset - n) text k 0 ∙ ap (λ m. get_or text m 0) e)
    ∙ sym (text_place-within text offset back (omega arith))

-- places that agree give one number
pub eight_places-same : (f g : ℕ → ℕ) → ((k : ℕ) → k < 8 → f k ≡ g k) → eight_places f ≡ eight_places g
eight_places-same f g same =
    rw (same 0 (omega arith), same 1 (omega arith), same 2 (omega arith), same 3 (omega arith), same 4 (omega arith), same 5 (omega arith), same 6 (omega arith), same 7 (omega arith)) refl

-- only the last bytes count, as many as the width
key_at-same : (width : ℕ) (f g : ℕ → ℕ) → ((k : ℕ) → k < width → f k ≡ g k) → key_at width (eight_places f) ≡ key_at width (eight_places g)
unfolding key_at
key_at-same zero f g same =
    omega arith
key_at-same (suc zero) f g same =
    let e0 = same 0 (omega arith) in
    omega arith
key_at-same (suc (suc zero)) f g same =
    let e0 = same 0 (omega arith) in
    let e1 = same 1 (omega arith) in
    omega arith
key_at-same (suc (suc (suc zero))) f g same =
    let e0 = same 0 (omega arith) in
    let e1 = same 1 (omega arith) in
    let e2 = same 2 (omega arith) in
    omega arith
key_at-same (suc (suc (suc (suc zero)))) f g same =
    let e0 = same 0 (omega arith) in
    let e1 = same 1 (omega arith) in
    let e2 = same 2 (omega arith) in
    let e3 = same 3 (omega arith) in
    omega arith
key_at-same (suc (suc (suc (suc (suc zero))))) f g same =
    let e0 = same 0 (omega arith) in
    let e1 = same 1 (omega arith) in
    let e2 = same 2 (omega arith) in
    let e3 = same 3 (omega arith) in
    let e4 = same 4 (omega arith) in
    omega arith
key_at-same (suc (suc (suc (suc (suc (suc zero)))))) f g same =
    let e0 = same 0 (omega arith) in
    let e1 = same 1 (omega arith) in
    let e2 = same 2 (omega arith) in
    let e3 = same 3 (omega arith) in
    let e4 = same 4 (omega arith) in
    let e5 = same 5 (omega arith) in
    omega arith
key_at-same (suc (suc (suc (suc (suc (suc (suc zero))))))) f g same =
    let e0 = same 0 (omega arith) in
    let e1 = same 1 (omega arith) in
    let e2 = same 2 (omega arith) in
    let e3 = same 3 (omega arith) in
    let e4 = same 4 (omega arith) in
    let e5 = same 5 (omega arith) in
    let e6 = same 6 (omega arith) in
    omega arith
key_at-same (suc (suc (suc (suc (suc (suc (suc (suc zero)))))))) f g same =
    let e0 = same 0 (omega arith) in
    let e1 = same 1 (omega arith) in
    let e2 = same 2 (omega arith) in
    let e3 = same 3 (omega arith) in
    let e4 = same 4 (omega arith) in
    let e5 = same 5 (omega arith) in
    let e6 = same 6 (omega arith) in
    let e7 = same 7 (omega arith) in
    omega arith
key_at-same (suc (suc (suc (suc (suc (suc (suc (suc (suc n))))))))) f g same =
    ap (λ full. key_at (suc (suc (suc (suc (suc (suc (suc (suc (suc n))))))))) full) (eight_places-same f g (λ k h. same k (omega arith)))

-- eight bytes as a list
eight : (xs : List ℕ) → 8 ≤ length xs → take 8 xs ≡ get_or xs 0 0 ∷ get_or xs 1 0 ∷ get_or xs 2 0 ∷ get_or xs 3 0 ∷ get_or xs 4 0 ∷ get_or xs 5 0 ∷ get_or xs 6 0 ∷ get_or xs 7 0 ∷ []
eight [] long = absurd (omega arith)
eight (a ∷ []) long = absurd (omega arith)
eight (a ∷ b ∷ []) long = absurd (omega arith)
eight (a ∷ b ∷ c ∷ []) long = absurd (omega arith)
eight (a ∷ b ∷ c ∷ d ∷ []) long = absurd (omega arith)
eight (a ∷ b ∷ c ∷ d ∷ e ∷ []) long = absurd (omega arith)
eight (a ∷ b ∷ c ∷ d ∷ e ∷ f ∷ []) long = absurd (omega arith)
eight (a ∷ b ∷ c ∷ d ∷ e ∷ f ∷ g ∷ []) long = absurd (omega arith)
eight (a ∷ b ∷ c ∷ d ∷ e ∷ f ∷ g ∷ h ∷ xs) long = refl

-- eight lanes as one number
eight-value : (f : ℕ → ℕ) → ((k : ℕ) → f k < 256) → number_l 256 (f 0 ∷ f 1 ∷ f 2 ∷ f 3 ∷ f 4 ∷ f 5 ∷ f 6 ∷ f 7 ∷ []) % 2 ^ 64 ≡ eight_places f
eight-value f small = omega (arith, small 0, small 1, small 2, small 3, small 4, small 5, small 6, small 7)

-- eight bytes of a list, folded, in reverse and as one number
pub eight-reversed : (bytes : List ℕ) (from : ℕ) → from + 8 ≤ length bytes → ((k : ℕ) → get_or bytes k 0 < 256)
    → number_l 256 (pick_l 0 (zip2 bit_or (take 8 (drop from bytes)) (replicate 8 32) ++ zip2 bit_or (take 8 (drop from bytes)) (replicate 8 32)) (7 ∷ 6 ∷ 5 ∷ 4 ∷ 3 ∷ 2 ∷ 1 ∷ 0 ∷ [])) % 2 ^ 64
    ≡ eight_places (λ back. folded (get_or bytes (from + 7 - back) 0))
eight-reversed bytes from room small =
    let rest = drop from bytes in
    let read : (k : ℕ) → get_or rest k 0 ≡ get_or bytes (from + k) 0 = λ k. get_or-drop from bytes k 0 in
    ap (λ xs. number_l 256 (pick_l 0 (zip2 bit_or xs (replicate 8 32) ++ zip2 bit_or xs (replicate 8 32)) (7 ∷ 6 ∷ 5 ∷ 4 ∷ 3 ∷ 2 ∷ 1 ∷ 0 ∷ [])) % 2 ^ 64) (eight rest (omega (arith, length-drop from bytes)))
    ∙ eight-value (λ back. folded (get_or rest (7 - back) 0)) (λ k. or_of_8 (get_or rest (7 - k) 0) 32 (subst (λ b. b < 256) (sym (read (7 - k))) (small (from + (7 - k)))) (omega arith))
    ∙ eight_places-same (λ back. folded (get_or rest (7 - back) 0)) (λ back. folded (get_or bytes (from + 7 - back) 0)) (λ k h.
    let e : from + (7 - k) ≡ from + 7 - k = omega arith in
    ap folded (read (7 - k) ∙ ap (λ n. get_or bytes n 0) e))

-- eight bytes in front of a place
pub eight-behind : (history bytes : List ℕ) (at from full : ℕ) → 8 ≤ at → from ≡ at - 8 → full ≡ eight_places (λ back. folded (get_or bytes (from + 7 - back) 0)) → full ≡ full_text_key (history ++ bytes) (length history + at)
unfolding full_text_key
eight-behind history bytes at from full late e is =
    is
    ∙ eight_places-same (λ back. folded (get_or bytes (from + 7 - back) 0)) (text_place (history ++ bytes) (length history + at)) (λ k h.
    let there : from + 7 - k ≡ at - 1 - k = omega arith in
    ap (λ n. folded (get_or bytes n 0)) there ∙ sym (text_place-bytes history bytes at k (omega arith)))

-- the bits that count
pub mask-all : (width full : ℕ) → 8 ≤ width → full < 2 ^ 64 → bit_and full (2 ^ 64 - 1) ≡ key_at width full
unfolding key_at
mask-all width full wide fits =
    let wider : 64 ≤ 8 * width = omega arith in
    let positive : 0 < 2 = omega arith in
    let more : 2 ^ 64 ≤ 2 ^ (8 * width) = pow-le-pow_right positive wider in
    let below : full < 2 ^ (8 * width) = omega arith in
    and_mask full 64 ∙ mod-eq_of_lt fits ∙ sym (mod-eq_of_lt below)

pub mask-some : (width full : ℕ) → width < 8 → bit_and full (1 * 2 ^ (width * 8) % 2 ^ 64 - 1) ≡ key_at width full
unfolding key_at
mask-some width full narrow =
    let e : width * 8 ≡ 8 * width = omega arith in
    ap (λ m. bit_and full (m - 1)) (one_shl (width * 8) 64 (omega arith) ∙ ap (λ n. 2 ^ n) e) ∙ and_mask full (8 * width)

-- where a literal ends, the text has its key
pub keys-same : (width : ℕ) (literal : List LiteralByte) (text : List ℕ) (offset : ℕ) → AreSmall literal → width ≤ length literal → ends_there literal text offset ≡ true → literal_key width literal ≡ text_key width text offset
unfolding full_literal_key full_text_key
keys-same width literal text offset small short says = key_at-same width (literal_place literal) (text_place text offset) (λ back h. places-same literal text offset back small says (omega arith))

-- the key of a literal at a width that it isn't shorter than is that of each text where it ends
pub keys-own : (width mask own : ℕ) (literal : List LiteralByte) (text : List ℕ) (offset full : ℕ) → AreSmall literal → width ≤ length literal → own ≡ literal_key width literal → IsMask width mask → full ≡ full_text_key text offset → full < 2 ^ 64
    → ends_there literal text offset ≡ true → bit_and full mask ≡ own
keys-own width mask own literal text offset full small short key masked is fits ends =
    masked full fits
    ∙ ap (key_at width) is
    ∙ sym (keys-same width literal text offset small short ends)
    ∙ sym key
