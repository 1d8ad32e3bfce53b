-- Numbers of some bytes, the lowest first.
use Rattle.std.proofs.Common.{◌≡◌, ℕ, zero, suc, ◌-◌, ◌<◌, ◌≤◌, ◌^◌, List, [], ◌∷◌, ◌++◌, length, get_or, take, drop, refl, sym, ap, ◌∙◌, subst, append-nil, arith, inl, inr}
use Rattle.std.specs.Prelude.{replicate}
use Rattle.std.specs.Int.{w16, w32, w64, to_le_bytes, from_le_bytes}
use Rattle.std.proofs.lemmas.Nat.{le_bytes_2, le_bytes_4, le_bytes_8, from_le_bytes-to_le_bytes_2, from_le_bytes-to_le_bytes_4, from_le_bytes-to_le_bytes_8}
use Rattle.std.proofs.lemmas.List.{length-append, length-take, get_or-take, get_or_past, take-append-drop}
use Rattle.std.proofs.lemmas.Bool.{cases_lt}
use Rattle.hs_dbfile.specs.Reading.{IsRead, SameFirst, neither, Stops}
use Rattle.hs_dbfile.proofs.CodeLemmas.{Once, cut_same}

-- each item is a byte
abbrev pub AreBytes : List ℕ → Type 0
AreBytes xs = (i : ℕ) → get_or xs i 0 < 256

-- a code of numbers below the limit, by so many bytes, and the number that bytes are
pub record IsNumberCode (code : ℕ → List ℕ) (value : List ℕ → ℕ) (size limit : ℕ) : Type 0 where
  pub sized : (n : ℕ) → length (code n) ≡ size
  pub small : (bytes : List ℕ) → length bytes ≡ size → AreBytes bytes → value bytes < limit
  pub spelled : (bytes : List ℕ) (n : ℕ) → length bytes ≡ size → AreBytes bytes → n ≡ value bytes → code n ≡ bytes
  pub again : (n : ℕ) → n < limit → value (code n) ≡ n

pub code_16 : IsNumberCode (to_le_bytes w16) (from_le_bytes w16) 2 (2 ^ 16)
code_16 = record {
  sized = λ n. refl;
  small = λ bytes sized fits. omega (arith, fits 0, fits 1);
  spelled = λ bytes n sized fits is. le_bytes_2 bytes n sized fits is;
  again = λ n below. from_le_bytes-to_le_bytes_2 n below;
}

pub code_32 : IsNumberCode (to_le_bytes w32) (from_le_bytes w32) 4 (2 ^ 32)
code_32 = record {
  sized = λ n. refl;
  small = λ bytes sized fits. omega (arith, fits 0, fits 1, fits 2, fits 3);
  spelled = λ bytes n sized fits is. le_bytes_4 bytes n sized fits is;
  again = λ n below. from_le_bytes-to_le_bytes_4 n below;
}

pub code_64 : IsNumberCode (to_le_bytes w64) (from_le_bytes w64) 8 (2 ^ 64)
code_64 = record {
  sized = λ n. refl;
  small = λ bytes sized fits. omega (arith, fits 0, fits 1, fits 2, fits 3, fits 4, fits 5, fits 6, fits 7);
  spelled = λ bytes n sized fits is. le_bytes_8 bytes n sized fits is;
  again = λ n below. from_le_bytes-to_le_bytes_8 n below;
}

-- numbers below the limit
abbrev pub IsBelow : ℕ → ℕ → Type 0
IsBelow limit n = n < limit

pub number_once : (code : ℕ → List ℕ) (value : List ℕ → ℕ) (size limit : ℕ) → IsNumberCode code value size limit → Once code (IsBelow limit)
number_once code value size limit is a b x y p q e =
    let both = cut_same (code a) (code b) x y (is.sized a ∙ sym (is.sized b)) e in
    record { value = sym (is.again a p) ∙ ap value both.0 ∙ is.again b q; rest = both.1 }

abbrev pub zeros : ℕ → List ℕ
zeros n = replicate n 0

pub length_zeros : (n : ℕ) → length (zeros n) ≡ n
length_zeros zero = refl
length_zeros (suc n) = let e = length_zeros n in omega (arith, e)

pub bytes_left : (xs ys : List ℕ) → AreBytes (xs ++ ys) → AreBytes ys
bytes_left [] ys fits = fits
bytes_left (x ∷ xs) ys fits = bytes_left xs ys (λ i. fits (suc i))

pub zeros_behind : (xs : List ℕ) (n : ℕ) → AreBytes xs → AreBytes (xs ++ zeros n)
zeros_behind [] zero fits i = fits i
zeros_behind [] (suc n) fits zero = omega arith
zeros_behind [] (suc n) fits (suc i) = zeros_behind [] n fits i
zeros_behind (x ∷ xs) n fits zero = fits 0
zeros_behind (x ∷ xs) n fits (suc i) = zeros_behind xs n (λ k. fits (suc k)) i

-- with so many zeros behind it, a list has this length
pub padded_length : (xs : List ℕ) (size : ℕ) → length xs < size → length (xs ++ zeros (size - length xs)) ≡ size
padded_length xs size short =
    let both = length-append xs (zeros (size - length xs)) in
    let behind = length_zeros (size - length xs) in
    omega (arith, both, behind, short)

-- a longer code doesn't stand where too few bytes are
pub too_short : (bytes code others behind : List ℕ) → length bytes < length code → SameFirst [] others → bytes ++ others ≡ code ++ behind → ⊥
too_short bytes code others behind short neither e =
    let l = ap length e in
    let left = length-append bytes [] in
    let right = length-append code behind in
    omega (arith, l, left, right, short)

-- too few bytes begin a number
pub number_cut : (code : ℕ → List ℕ) (value : List ℕ → ℕ) (size limit : ℕ) (bytes rest : List ℕ) → IsNumberCode code value size limit → AreBytes bytes → length bytes < size → rest ≡ [] → Stops code (IsBelow limit) bytes rest
number_cut code value size limit bytes rest is fits short none =
    let long = padded_length bytes size short in
    let fits-too = zeros_behind bytes (size - length bytes) fits in
    let padded : List ℕ = bytes ++ zeros (size - length bytes) in
    subst (λ r. Stops code (IsBelow limit) bytes r) (sym none) (record {
      front = bytes;
      parts = sym (append-nil bytes);
      value = value padded;
      more = zeros (size - length bytes);
      allowed = is.small padded long fits-too;
      begins = is.spelled padded (value padded) long fits-too refl;
      refused = λ others other behind first p e. too_short bytes (code other) others behind (let l = is.sized other in omega (arith, l, short)) first e;
    })

pub bytes_taken : (n : ℕ) (xs : List ℕ) → AreBytes xs → AreBytes (take n xs)
bytes_taken n xs fits i =
    elim (cases_lt i n) [
      | inl lt ↦ rw (get_or-take n xs i 0 lt) (fits i)
      | inr le ↦ rw (get_or_past (take n xs) i 0 (let l = length-take n xs in omega (arith, l))) (omega arith)
    ]

-- as many bytes are one
pub number_read : (code : ℕ → List ℕ) (value : List ℕ → ℕ) (size limit : ℕ) (bytes front rest : List ℕ) (n : ℕ) → IsNumberCode code value size limit → AreBytes bytes → size ≤ length bytes → front ≡ take size bytes → rest ≡ drop size bytes → n ≡ value front → IsRead code (IsBelow limit) bytes n rest
number_read code value size limit bytes front rest n is fits long f r e =
    let sized : length (take size bytes) ≡ size = let l = length-take size bytes in omega (arith, l, long) in
    let taken = bytes_taken size bytes fits in
    let same-number : n ≡ value (take size bytes) = e ∙ ap value f in
    let spelled = is.spelled (take size bytes) n sized taken same-number in
    record {
      parts = sym (take-append-drop size bytes) ∙ ap (λ xs. xs ++ drop size bytes) (sym spelled) ∙ ap (λ xs. code n ++ xs) (sym r);
      allowed = subst (λ k. k < limit) (sym same-number) (is.small (take size bytes) sized taken);
    }
