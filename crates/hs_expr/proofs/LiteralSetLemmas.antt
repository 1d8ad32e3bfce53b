-- Sets of one byte, and of the two cases of one letter.
use Rattle.std.proofs.Common.{◌≡◌, ℕ, zero, suc, ◌+◌, ◌-◌, ◌<◌, ◌≤◌, Bool, true, false, ◌||◌, ◌&&◌, ◌==◌, List, [], ◌∷◌, length, Some, nat_eq, slice_get, zero-add, refl, sym, ap, ◌∙◌, arith}
use Rattle.std.specs.Cmp.Lexicographic.{pointwise, same_text}
use Rattle.std.specs.List.{range_with_len}
use Rattle.std.specs.Option.{option_map}
use Rattle.std.proofs.lemmas.Bool.Decides.{nat_tests}
use Rattle.std.proofs.lemmas.List.FromFn.{length-range_with_len, get_or-range_with_len}
use Rattle.std.proofs.lemmas.Option.{slice_get-map, slice_get-get_or}
use Rattle.hs_base.specs.declared.literal.LitByte.{LitByte}
use Rattle.hs_base.specs.declared.byte_set.ByteSet.{ByteSet}
use Rattle.hs_base.specs.ByteSets.{has, members, members_from, bytes_where}
use Rattle.hs_base.specs.Literals.{LiteralByte, is_small_letter, literal_of, literal_set, takes}
use Rattle.hs_base.specs.LiteralView.{literal_byte}
use Rattle.hs_base.proofs.ByteSetLemmas.{members-at, members_from-in, members_from-out, members_from-end}
use Rattle.hs_base.proofs.LiteralLemmas.{literal-members}

-- what isn't a member is passed over
skip : (s : ByteSet) (n d : ℕ) → n + d ≤ 256 → ((b : ℕ) → n ≤ b → b < n + d → has s b ≡ false) → members_from s n ≡ members_from s (n + d)
skip s n zero within none = let e : n ≡ n + 0 = omega arith in ap (members_from s) e
skip s n (suc d) within none =
    let e : n + 1 + d ≡ n + suc d = omega arith in
    members_from-out s n (omega arith) (none n (omega arith) (omega arith))
    ∙ (skip s (n + 1) d (omega arith) (λ b low high. none b (omega arith) (omega arith)) ∙ ap (members_from s) e)

-- behind the last member
rest : (s : ByteSet) (n : ℕ) → n ≤ 256 → ((b : ℕ) → n ≤ b → b < 256 → has s b ≡ false) → members_from s n ≡ []
rest s n within none =
    let e : n + (256 - n) ≡ 256 = omega arith in
    skip s n (256 - n) (omega arith) (λ b low high. none b low (omega arith)) ∙ (ap (members_from s) e ∙ members_from-end s 256 (omega arith))

-- the set of one byte
pub one-byte : (s : ByteSet) (n : ℕ) → n < 256 → ((b : ℕ) → b < 256 → has s b ≡ (b == n)) → Some (record { byte = n; both_cases = false }) ≡ literal_of (members s)
one-byte s n below is =
    let own : has s n ≡ true = is n below ∙ (grind (arith, nat_tests)) in
    literal-members s (n ∷ [])
    (skip s 0 n (omega arith) (λ b low high. is b (omega arith) ∙ (grind (arith, nat_tests)))
    ∙ ap (members_from s) (let e : 0 + n ≡ n = omega arith in e)
    ∙ (members_from-in s n below own
    ∙ ap (λ xs. n ∷ xs) (rest s (n + 1) (omega arith) (λ b low high. is b high ∙ (grind (arith, nat_tests))))))

-- the set of both cases of a letter
pub both-cases : (s : ByteSet) (n : ℕ) → n < 256 → is_small_letter n ≡ true → ((b : ℕ) → b < 256 → has s b ≡ ((b == n) || (b + 32 == n))) → Some (record { byte = n; both_cases = true }) ≡ literal_of (members s)
both-cases s n below small is =
    let above : 97 ≤ n = grind (arith, nat_tests) in
    let capital : has s (n - 32) ≡ true = is (n - 32) (omega arith) ∙ (let e : n - 32 + 32 ≡ n = omega arith in grind (arith, nat_tests)) in
    let own : has s n ≡ true = is n below ∙ (grind (arith, nat_tests)) in
    let letter : (is_small_letter n && (n - 32 + 32 == n)) ≡ true = (let e : n - 32 + 32 ≡ n = omega arith in grind (arith, nat_tests)) in
    let next : n - 32 + 1 + 31 ≡ n = omega arith in
    let begins : 0 + (n - 32) ≡ n - 32 = omega arith in
    (rw letter refl)
    ∙ literal-members s ((n - 32) ∷ n ∷ [])
    (skip s 0 (n - 32) (omega arith) (λ b low high. is b (omega arith) ∙ (grind (arith, nat_tests)))
    ∙ (ap (members_from s) begins
    ∙ (members_from-in s (n - 32) (omega arith) capital
    ∙ ap (λ xs. (n - 32) ∷ xs)
    (skip s (n - 32 + 1) 31 (omega arith) (λ b low high. is b (omega arith) ∙ (grind (arith, nat_tests)))
    ∙ (ap (members_from s) next
    ∙ (members_from-in s n below own
    ∙ ap (λ xs. n ∷ xs) (rest s (n + 1) (omega arith) (λ b low high. is b high ∙ (grind (arith, nat_tests))))))))))

-- sets with equal words are the same
same-words : (s t : ByteSet) (r : Bool) → r ≡ pointwise nat_eq s.words t.words → r ≡ true → s ≡ t
same-words s t r is equal =
    let one : s.words ≡ t.words = same_text s.words t.words (sym (sym is ∙ equal)) in
    (λ i. record { words = one i })

-- the bytes that pass a test, read at a byte
where-at : (test : ℕ → Bool) (b : ℕ) → b < 256 → slice_get (bytes_where test) b ≡ Some (test b)
where-at test b below =
    let bytes : List ℕ = range_with_len 0 256 in
    let within : b < length bytes = omega (arith, length-range_with_len 0 256) in
    slice_get-map test bytes b
    ∙ ap (option_map test) (slice_get-get_or bytes b 0 within ∙ ap (λ x. Some x) (get_or-range_with_len 0 256 b 0 below ∙ zero-add b))

-- what stands in a set that is that of a literal byte
taken : (t : ByteSet) (x : LiteralByte) (b : ℕ) → b < 256 → members t ≡ literal_set x → has t b ≡ takes x b
taken t x b below is =
    let e : Some (has t b) ≡ Some (takes x b) = sym (members-at t b below) ∙ (ap (λ ms. slice_get ms b) is ∙ where-at (takes x) b below) in
    cc

-- the literal byte of a set that is that of one byte
pub one-is : (s t : ByteSet) (r : Bool) (x : LitByte) (n : ℕ) → n < 256 → r ≡ pointwise nat_eq s.words t.words → r ≡ true → ((b : ℕ) → b < 256 → has t b ≡ (b == n)) →
    x.byte ≡ n → x.both_cases ≡ false → Some (literal_byte x) ≡ literal_of (members s)
one-is s t r x n below is equal of byte case =
    let same = same-words s t r is equal in
    let plain : Some (literal_byte x) ≡ Some (record { byte = n; both_cases = false }) = rw (byte, case) refl in
    plain ∙ one-byte s n below (λ b h. ap (λ (z : ByteSet). has z b) same ∙ of b h)

-- and of one that is that of a letter
pub letter-is : (s t : ByteSet) (r : Bool) (x : LitByte) → r ≡ pointwise nat_eq s.words t.words → r ≡ true → members t ≡ literal_set (literal_byte x) →
    x.both_cases ≡ true → is_small_letter x.byte ≡ true → Some (literal_byte x) ≡ literal_of (members s)
letter-is s t r x is equal of case small =
    let same = same-words s t r is equal in
    let below : x.byte < 256 = grind (arith, nat_tests) in
    let plain : Some (literal_byte x) ≡ Some (record { byte = x.byte; both_cases = true }) = rw case refl in
    let at : (b : ℕ) → b < 256 → has t b ≡ ((b == x.byte) || (b + 32 == x.byte)) = λ b h. taken t (literal_byte x) b h of ∙ (rw case refl) in
    plain ∙ both-cases s x.byte below small (λ b h. ap (λ (z : ByteSet). has z b) same ∙ at b h)
