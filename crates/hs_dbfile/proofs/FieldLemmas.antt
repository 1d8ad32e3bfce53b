-- Where the fields of an entry are read, and where reading them stops.
use Rattle.std.proofs.Common.{◌≡◌, ℕ, zero, suc, ◌-◌, ◌<◌, ◌≤◌, List, [], ◌∷◌, ◌++◌, length, get_or, take, drop, ◌/◌, ◌%◌, refl, sym, ap, ◌∙◌, subst, append_assoc, append-nil, arith}
use Rattle.std.specs.Int.{w16, w64, to_le_bytes, from_le_bytes}
use Rattle.std.proofs.lemmas.Nat.{le_bytes_2}
use Rattle.std.proofs.lemmas.List.{take-append-drop, append_cancel_left}
use Rattle.std.proofs.Math.Seq.{take-length}
use Rattle.std.proofs.Math.Seq.{drop-cons}
use Rattle.hs_base.specs.Lists.{Each}
use Rattle.hs_dbfile.specs.Files.{text_bytes}
use Rattle.hs_dbfile.specs.Reading.{IsRead, SameFirst, neither, same, Stops, always, Always, one_byte, itself, IsBound, IsText}
use Rattle.hs_dbfile.proofs.CodeLemmas.{Once, cut_same, pair_bytes, ArePair, pair_once, stops_first, stops_second, reads_pair, IsSameCode, stops_as, once_as, reads_as, once_weaken}
use Rattle.hs_dbfile.proofs.NumberLemmas.{AreBytes, IsBelow, code_16, code_64, number_once, zeros, length_zeros, zeros_behind, padded_length, too_short, bytes_left, bytes_taken}

-- ---- flags

flags_other : (b : ℕ) (rest others : List ℕ) (other : ℕ) (behind : List ℕ) → (1 ≤ length rest → 8 ≤ get_or rest 0 0) → SameFirst rest others → other < 2048 → b ∷ others ≡ to_le_bytes w16 other ++ behind → ⊥
flags_other b [] [] other behind high neither small e = let l = ap length e in omega (arith, l)
flags_other b [] (c' ∷ others) other behind high first small e = elim first [ ]
flags_other b (c ∷ rest) [] other behind high first small e = elim first [ ]
flags_other b (c ∷ rest) (c' ∷ others) other behind high same small e =
    let big = high (omega arith) in
    let second : c ≡ other / 256 % 256 = ap (λ xs. get_or xs 1 0) e in
    omega (arith, big, second, small)

one_fits : (b : ℕ) → b < 256 → AreBytes (b ∷ [])
one_fits b small zero = small
one_fits b small (suc i) = omega arith

all_but_first : (b : ℕ) (rest : List ℕ) → take (length (b ∷ rest) - 1) (drop 1 (b ∷ rest)) ≡ rest
all_but_first b rest = let e : length (b ∷ rest) - 1 ≡ length rest = omega arith in ap (λ k. take k rest) e ∙ take-length rest

-- the low byte of flags begins some, and a high byte from 8 on goes with none
pub flags_stop : (bytes : List ℕ) → AreBytes bytes → 1 ≤ length bytes → (2 ≤ length bytes → 8 ≤ get_or bytes 1 0) → Stops (to_le_bytes w16) (IsBelow 2048) bytes (take (length bytes - 1) (drop 1 bytes))
flags_stop [] fits some high = absurd (omega (arith, some))
flags_stop (b ∷ rest) fits some high =
    let low = fits 0 in
    let padded : AreBytes (b ∷ 0 ∷ []) = zeros_behind (b ∷ []) 1 (one_fits b low) in
    subst (λ r. Stops (to_le_bytes w16) (IsBelow 2048) (b ∷ rest) r) (sym (all_but_first b rest)) (record {
      front = b ∷ [];
      parts = refl;
      value = b;
      more = 0 ∷ [];
      allowed = omega (arith, low);
      begins = le_bytes_2 (b ∷ 0 ∷ []) b refl padded (omega arith);
      refused = λ others other behind first small e. flags_other b rest others other behind (λ long. high (omega (arith, long))) first small e;
    })

-- ---- the bits of the parameters

parameters_other : (bytes others : List ℕ) (other : ℕ) (behind : List ℕ) → (1 ≤ length bytes → 32 ≤ get_or bytes 0 0) → SameFirst bytes others → other < 32 → others ≡ one_byte other ++ behind → ⊥
parameters_other [] [] other behind big neither small e = let l = ap length e in omega (arith, l)
parameters_other [] (b' ∷ others) other behind big first small e = elim first [ ]
parameters_other (b ∷ bytes) [] other behind big first small e = elim first [ ]
parameters_other (b ∷ bytes) (b' ∷ others) other behind big same small e =
    let large = big (omega arith) in
    let first : b ≡ other = ap (λ xs. get_or xs 0 0) e in
    omega (arith, large, first, small)

pub parameters_stop : (bytes : List ℕ) → (1 ≤ length bytes → 32 ≤ get_or bytes 0 0) → Stops one_byte (IsBelow 32) bytes bytes
parameters_stop bytes big = record {
  front = [];
  parts = refl;
  value = 0;
  more = 0 ∷ [];
  allowed = omega arith;
  begins = refl;
  refused = λ others other behind first small e. parameters_other bytes others other behind big first small e;
}

pub one_byte_once : (limit : ℕ) → Once one_byte (IsBelow limit)
one_byte_once limit a b x y p q e = record { value = ap (λ xs. get_or xs 0 0) e; rest = ap (λ xs. drop 1 xs) e }

-- ---- fixed bytes

fixed_other : (c : ℕ) (left rest others behind : List ℕ) → (1 ≤ length rest → get_or rest 0 0 ≡ c → ⊥) → SameFirst rest others → others ≡ (c ∷ left) ++ behind → ⊥
fixed_other c left [] [] behind differs neither e = let l = ap length e in omega (arith, l)
fixed_other c left [] (b' ∷ others) behind differs first e = elim first [ ]
fixed_other c left (b ∷ rest) [] behind differs first e = elim first [ ]
fixed_other c left (b ∷ rest) (b' ∷ others) behind differs same e = differs (omega arith) (ap (λ xs. get_or xs 0 0) e)

pub fixed_stop : (fixed bytes rest : List ℕ) (i : ℕ) → i < length fixed → bytes ≡ take i fixed ++ rest → (1 ≤ length rest → get_or rest 0 0 ≡ get_or fixed i 0 → ⊥) → Stops (always fixed) Always bytes rest
fixed_stop fixed bytes rest i below parts differs =
    let left = drop (suc i) fixed in
    let behind-is : drop i fixed ≡ get_or fixed i 0 ∷ left = drop-cons fixed i 0 below in
    record {
      front = take i fixed;
      parts = parts;
      value = tt;
      more = drop i fixed;
      allowed = tt;
      begins = sym (take-append-drop i fixed);
      refused = λ others other behind first p e.
          let whole : take i fixed ++ others ≡ take i fixed ++ (drop i fixed ++ behind) = e ∙ ap (λ xs. xs ++ behind) (sym (take-append-drop i fixed)) ∙ append_assoc (take i fixed) (drop i fixed) behind in
          let rest-is : others ≡ (get_or fixed i 0 ∷ left) ++ behind = append_cancel_left (take i fixed) others (drop i fixed ++ behind) whole ∙ ap (λ xs. xs ++ behind) behind-is in
          fixed_other (get_or fixed i 0) left rest others behind differs first rest-is;
    }

-- ---- bounds

given_same : (given missing : ℕ) → (given ≡ 0 → ⊥) → IsSameCode (to_le_bytes w64) (IsBelow 18446744073709551616) (to_le_bytes w64) (IsBound given missing)
given_same given missing is-given = record {
  to = λ n. n;
  from = λ n. n;
  to_allowed = λ n p. record { fits = p; absent = λ none. absurd (is-given none) };
  from_allowed = λ n q. q.fits;
  to_bytes = λ n p. refl;
  from_bytes = λ n q. refl;
  back = λ n q. refl;
}

pub given_stop : (given missing : ℕ) (bytes rest : List ℕ) → (given ≡ 0 → ⊥) → Stops (to_le_bytes w64) (IsBelow 18446744073709551616) bytes rest → Stops (to_le_bytes w64) (IsBound given missing) bytes rest
given_stop given missing bytes rest is-given s = stops_as _ _ _ _ bytes rest (given_same given missing is-given) s

pub given_read : (given missing : ℕ) (bytes : List ℕ) (n : ℕ) (rest : List ℕ) → (given ≡ 0 → ⊥) → IsRead (to_le_bytes w64) (IsBelow 18446744073709551616) bytes n rest → IsRead (to_le_bytes w64) (IsBound given missing) bytes n rest
given_read given missing bytes n rest is-given read = record {
  parts = read.parts;
  allowed = record { fits = read.allowed; absent = λ none. absurd (is-given none) };
}

missing_same : (given missing : ℕ) (fixed : List ℕ) → given ≡ 0 → missing < 18446744073709551616 → fixed ≡ to_le_bytes w64 missing → IsSameCode (always fixed) Always (to_le_bytes w64) (IsBound given missing)
missing_same given missing fixed none small spelled = record {
  to = λ one. missing;
  from = λ n. tt;
  to_allowed = λ one p. record { fits = small; absent = λ e. refl };
  from_allowed = λ n q. tt;
  to_bytes = λ one p. sym spelled;
  from_bytes = λ n q. spelled ∙ ap (to_le_bytes w64) (sym (q.absent none));
  back = λ n q. sym (q.absent none);
}

pub missing_stop : (given missing : ℕ) (fixed bytes rest : List ℕ) → given ≡ 0 → missing < 18446744073709551616 → fixed ≡ to_le_bytes w64 missing → Stops (always fixed) Always bytes rest → Stops (to_le_bytes w64) (IsBound given missing) bytes rest
missing_stop given missing fixed bytes rest none small spelled s = stops_as _ _ _ _ bytes rest (missing_same given missing fixed none small spelled) s

pub missing_read : (given missing : ℕ) (fixed bytes rest : List ℕ) → missing < 18446744073709551616 → fixed ≡ to_le_bytes w64 missing → bytes ≡ fixed ++ rest → IsRead (to_le_bytes w64) (IsBound given missing) bytes missing rest
missing_read given missing fixed bytes rest small spelled parts = record {
  parts = parts ∙ ap (λ xs. xs ++ rest) spelled;
  allowed = record { fits = small; absent = λ e. refl };
}

pub bound_once : (given missing : ℕ) → Once (to_le_bytes w64) (IsBound given missing)
bound_once given missing =
    once_weaken (to_le_bytes w64) (IsBelow 18446744073709551616) (IsBound given missing) (λ n q. q.fits) (number_once (to_le_bytes w64) (from_le_bytes w64) 8 18446744073709551616 code_64)

-- ---- texts

-- a text of this length
pub record HasLength (n : ℕ) (text : List ℕ) : Type 0 where
  pub sized : length text ≡ n
  pub bytes : Each (λ b. b < 256) text

pub each_byte : (xs : List ℕ) → AreBytes xs → Each (λ b. b < 256) xs
each_byte [] fits = tt
each_byte (x ∷ xs) fits = (fits 0, each_byte xs (λ i. fits (suc i)))

no_bytes : AreBytes []
no_bytes i = omega arith

pub zeros_text : (n : ℕ) → HasLength n (zeros n)
zeros_text n = record { sized = length_zeros n; bytes = each_byte (zeros n) (zeros_behind [] n no_bytes) }

text_same : IsSameCode (pair_bytes (to_le_bytes w16) itself) (ArePair (IsBelow 65536) HasLength) text_bytes IsText
text_same = record {
  to = λ p. p.1;
  from = λ text. (length text, text);
  to_allowed = λ p h. record { short = subst (λ k. k < 65536) (sym h.second.sized) h.first; bytes = h.second.bytes };
  from_allowed = λ text h. record { first = h.short; second = record { sized = refl; bytes = h.bytes } };
  to_bytes = λ p h. ap (λ k. to_le_bytes w16 k ++ p.1) h.second.sized;
  from_bytes = λ text h. refl;
  back = λ text h. refl;
}

pub length_once : (n : ℕ) → Once itself (HasLength n)
length_once n a b x y p q e =
    let both = cut_same a b x y (p.sized ∙ sym q.sized) e in
    record { value = both.0; rest = both.1 }

pub text_once : Once text_bytes IsText
text_once = once_as _ _ _ _ text_same (pair_once (to_le_bytes w16) (IsBelow 65536) itself HasLength (number_once (to_le_bytes w16) (from_le_bytes w16) 2 65536 code_16) (λ n p. length_once n))

-- a cut length
pub text_stop_length : (bytes rest : List ℕ) → Stops (to_le_bytes w16) (IsBelow 65536) bytes rest → Stops text_bytes IsText bytes rest
text_stop_length bytes rest s =
    stops_as _ _ _ _ bytes rest text_same (stops_first (to_le_bytes w16) (IsBelow 65536) itself HasLength zeros bytes rest (λ n p. zeros_text n) s)

bytes_behind : (bytes behind : List ℕ) (n : ℕ) → IsRead (to_le_bytes w16) (IsBelow 65536) bytes n behind → AreBytes bytes → AreBytes behind
bytes_behind bytes behind n read fits = bytes_left (to_le_bytes w16 n) behind (subst AreBytes read.parts fits)

-- a cut text
pub text_stop_cut : (bytes behind rest : List ℕ) (n : ℕ) → IsRead (to_le_bytes w16) (IsBelow 65536) bytes n behind → AreBytes bytes → length behind < n → rest ≡ [] → Stops text_bytes IsText bytes rest
text_stop_cut bytes behind rest n read fits short none =
    let fits-behind = bytes_behind bytes behind n read fits in
    let long = padded_length behind n short in
    let padded : List ℕ = behind ++ zeros (n - length behind) in
    let cut : Stops itself (HasLength n) behind [] = record {
      front = behind;
      parts = sym (append-nil behind);
      value = padded;
      more = zeros (n - length behind);
      allowed = record { sized = long; bytes = each_byte padded (zeros_behind behind (n - length behind) fits-behind) };
      begins = refl;
      refused = λ others other after first p e. too_short behind other others after (let l = p.sized in omega (arith, l, short)) first e;
    } in
    let whole = stops_second (to_le_bytes w16) (IsBelow 65536) itself HasLength n bytes behind [] (number_once (to_le_bytes w16) (from_le_bytes w16) 2 65536 code_16) read cut in
    subst (λ r. Stops text_bytes IsText bytes r) (sym none) (stops_as _ _ _ _ bytes [] text_same whole)

-- a text that is there
pub text_read : (bytes behind text rest : List ℕ) (n : ℕ) → IsRead (to_le_bytes w16) (IsBelow 65536) bytes n behind → AreBytes bytes → text ≡ take n behind → rest ≡ drop n behind → length text ≡ n → IsRead text_bytes IsText bytes text rest
unfolding text_same
text_read bytes behind text rest n read fits t r sized =
    let parts : behind ≡ text ++ rest = sym (take-append-drop n behind) ∙ ap (λ xs. xs ++ drop n behind) (sym t) ∙ ap (λ xs. text ++ xs) (sym r) in
    let fits-text : AreBytes text = subst AreBytes (sym t) (bytes_taken n behind (bytes_behind bytes behind n read fits)) in
    let second : IsRead itself (HasLength n) behind text rest = record { parts = parts; allowed = record { sized = sized; bytes = each_byte text fits-text } } in
    reads_as _ _ _ _ bytes rest (n, text) text_same (reads_pair _ _ _ _ n text bytes behind rest read second)

-- no bytes begin flags
pub flags_none : (bytes : List ℕ) → length bytes < 1 → Stops (to_le_bytes w16) (IsBelow 2048) bytes bytes
flags_none [] none = record {
  front = [];
  parts = refl;
  value = 0;
  more = 0 ∷ 0 ∷ [];
  allowed = omega arith;
  begins = refl;
  refused = λ others other behind first small e. too_short [] (to_le_bytes w16 other) others behind (omega arith) first e;
}
flags_none (b ∷ bytes) none = absurd (omega (arith, none))
