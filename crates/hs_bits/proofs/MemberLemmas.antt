-- The places of the members of a set, by the bits of masks of lanes.
use Rattle.std.proofs.Common.{◌≡◌, ◌≢◌, ℕ, zero, suc, ◌+◌, ◌-◌, ◌*◌, ◌/◌, ◌%◌, ◌^◌, ◌<◌, ◌≤◌, Bool, true, false, not, nat_lt, ◌&&◌, ◌||◌, List, [], ◌∷◌, ◌++◌, length, get_or, map, cond, eqb, ltb, bit_or, bit_and, replicate, refl, sym, ap, ◌∙◌, inl, inr, arith, w8, w64, Fits}
use Rattle.std.specs.Prelude.{nat_le}
use Rattle.std.specs.Int.{bit_at, to_le_bytes}
use Rattle.std.specs.Simd.Lanes.{chunk, mask_l, top, Each1, zip2, sel_l}
use Rattle.std.proofs.lemmas.Bool.{cases_eq, cases_lt, lt-leb, le-leb, lt-ltb, le-ltb, eq-eqb, ne_eqb}
use Rattle.std.proofs.lemmas.List.{length-map, get_or-map, get_or_past, ext_get_or}
use Rattle.std.proofs.lemmas.Nat.{and_mask, pow_pos}
use Rattle.std.proofs.lemmas.Nat.Bits.{and_pow, bit_at-lt, bit_at_above, bit_at-zero, bit_at_set_same, bit_at_set_other}
use Rattle.std.proofs.lemmas.Simd.{map-map, bit_mask_l, get_or-chunk, tops_compared, zip2_splat, zip2_of_maps, bitmask_splat, swz_l, SwzOk, SwzOk-from_below, length-swz_l, get_or-swz_l_below, Each1-from_get_or}
use Rattle.hs_base.specs.Bits.{has_bit, has_word_bit}
use Rattle.hs_base.proofs.ByteSetLemmas.{bit-or}
use Rattle.hs_bits.proofs.WordLemmas.{or-none, shl-bit}
use Rattle.std.proofs.Math.Nat.{zero-mul}
use mir.Val.{bool_byte}
use Rattle.hs_bits.specs.MemberPlaces.{ArePlacesOf, in_tables}

map-alike : {A B : Type 0} (f g : A → B) → ((x : A) → f x ≡ g x) → (xs : List A) → map f xs ≡ map g xs
map-alike f g e [] = refl
map-alike f g e (x ∷ xs) = (λ i. e x i ∷ map-alike f g e xs i)

alike-on_bytes : {B : Type 0} (f g : ℕ → B) → ((b : ℕ) → b < 256 → f b ≡ g b) → (xs : List ℕ) → Each1 (Fits w8) xs → map f xs ≡ map g xs
alike-on_bytes f g e [] h = refl
alike-on_bytes f g e (x ∷ xs) h = (λ i. e x h.0.fits i ∷ alike-on_bytes f g e xs h.1 i)

-- the entries of bytes, and their low bits

pub low-lanes : (lanes : List ℕ) (n : ℕ) → length lanes ≡ n → zip2 bit_and lanes (replicate n 7) ≡ map (λ b. b % 8) lanes
low-lanes lanes n long = zip2_splat bit_and lanes n 7 long ∙ map-alike (λ b. bit_and b 7) (λ b. b % 8) (λ b. and_mask b 3) lanes

pub entry-lanes : (lanes : List ℕ) (n : ℕ) → length lanes ≡ n →
    zip2 bit_and (zip2 (λ a b. a / 2 ^ b) lanes (replicate n 3)) (replicate n 15) ≡ map (λ b. b / 8 % 16) lanes
entry-lanes lanes n long =
    let moved : zip2 (λ a b. a / 2 ^ b) lanes (replicate n 3) ≡ map (λ b. b / 8) lanes = zip2_splat (λ a b. a / 2 ^ b) lanes n 3 long in
    ap (λ l. zip2 bit_and l (replicate n 15)) moved
    ∙ (zip2_splat bit_and (map (λ b. b / 8) lanes) n 15 (length-map lanes (λ b. b / 8) ∙ long)
    ∙ (map-map (λ b. bit_and b 15) (λ b. b / 8) lanes ∙ map-alike (λ b. bit_and (b / 8) 15) (λ b. b / 8 % 16) (λ b. and_mask (b / 8) 4) lanes))

map-at : (f : ℕ → ℕ) (xs : List ℕ) (k : ℕ) → f 0 ≡ 0 → get_or (map f xs) k 0 ≡ f (get_or xs k 0)
map-at f [] k z = sym z
map-at f (x ∷ xs) zero z = refl
map-at f (x ∷ xs) (suc k) z = map-at f xs k z

pub entry-small : (lanes entries : List ℕ) (k : ℕ) → entries ≡ map (λ b. b / 8 % 16) lanes → get_or entries k 0 < 16
entry-small lanes entries k e = omega (arith, ap (λ xs. get_or xs k 0) e ∙ map-at (λ b. b / 8 % 16) lanes k refl)

pub low-small : (lanes low : List ℕ) (k : ℕ) → low ≡ map (λ b. b % 8) lanes → get_or low k 0 < 16
low-small lanes low k e = omega (arith, ap (λ xs. get_or xs k 0) e ∙ map-at (λ b. b % 8) lanes k refl)

-- tables, looked up

pub places-fit : (js : List ℕ) → length js ≡ 16 → ((k : ℕ) → get_or js k 0 < 16) → SwzOk w8 16 16 0 js
places-fit js long small = SwzOk-from_below w8 16 1 16 0 js refl (omega arith) (Each1-from_get_or (λ j. j < 16) js 0 (λ k _. small k))

pub looked-lanes : (table js : List ℕ) → length js ≡ 16 → ((k : ℕ) → get_or js k 0 < 16) → swz_l w8 16 table 0 js ≡ map (λ j. get_or table j 0) js
looked-lanes table js long small =
    ext_get_or 0 _ _ (length-swz_l w8 16 table 0 js ∙ sym (length-map js (λ j. get_or table j 0))) (λ i h.
    let within : i < length js = omega (arith, length-swz_l w8 16 table 0 js) in
    let place : 16 * ((0 + i) / 16) + get_or js i 0 ≡ get_or js i 0 = omega arith in
    get_or-swz_l_below w8 16 table 0 js i within (small i) ∙ ap (λ n. get_or table n 0) place ∙ sym (get_or-map (λ j. get_or table j 0) js i 0 0 within))

pub half-lanes : (lanes first second : List ℕ) (n : ℕ) → length lanes ≡ n → sel_l (map (top 7) (zip2 (λ a b. cond (ltb a b) 255 0) lanes (replicate n 128))) first second ≡ sel_l (map (λ b. ltb b 128) lanes) first second
half-lanes lanes first second n long = ap (λ ms. sel_l ms first second) (tops_compared w8 ltb lanes (replicate n 128) ∙ zip2_splat ltb lanes n 128 long)

choose : (p : ℕ → Bool) (f g : ℕ → ℕ) (xs : List ℕ) → sel_l (map p xs) (map f xs) (map g xs) ≡ map (λ x. cond (p x) (f x) (g x)) xs
choose p f g [] = refl
choose p f g (x ∷ xs) = ap (λ ys. cond (p x) (f x) (g x) ∷ ys) (choose p f g xs)

abbrev pub bits : List ℕ
bits = 1 ∷ 2 ∷ 4 ∷ 8 ∷ 16 ∷ 32 ∷ 64 ∷ 128 ∷ 1 ∷ 2 ∷ 4 ∷ 8 ∷ 16 ∷ 32 ∷ 64 ∷ 128 ∷ []

bit-of : (h : ℕ) → h < 8 → get_or bits h 0 ≡ 2 ^ h
bit-of zero l = refl
bit-of (suc zero) l = refl
bit-of (suc (suc zero)) l = refl
bit-of (suc (suc (suc zero))) l = refl
bit-of (suc (suc (suc (suc zero)))) l = refl
bit-of (suc (suc (suc (suc (suc zero))))) l = refl
bit-of (suc (suc (suc (suc (suc (suc zero)))))) l = refl
bit-of (suc (suc (suc (suc (suc (suc (suc zero))))))) l = refl
bit-of (suc (suc (suc (suc (suc (suc (suc (suc h)))))))) l = absurd (omega arith)

is-bit : (x p : ℕ) → x < 2 → 0 < p → not (eqb (x * p) 0) ≡ eqb x 1
is-bit zero p h q = let e : 0 * p ≡ 0 = omega arith in rw e refl
is-bit (suc zero) p h q = let e : suc zero * p ≡ p = omega arith in rw (e, ne_eqb p 0 (λ z. omega arith)) refl
is-bit (suc (suc x)) p h q = absurd (omega arith)

tested : (x b : ℕ) → not (eqb (bit_and x (get_or bits (b % 8) 0)) 0) ≡ eqb (bit_at x (b % 8)) 1
tested x b =
    let k = b % 8 in
    ap (λ n. not (eqb (bit_and x n) 0)) (bit-of k (omega arith)) ∙ ap (λ n. not (eqb n 0)) (and_pow x k) ∙ is-bit (bit_at x k) (2 ^ k) (bit_at-lt x k) (pow_pos k)

in-table : (table : List ℕ) (b : ℕ) → b < 256 → eqb (bit_at (get_or table (b / 8 % 16) 0) (b % 8)) 1 ≡ has_bit table (b % 128)
unfolding has_bit
in-table table b h =
    let entry : b / 8 % 16 ≡ b % 128 / 8 = omega arith in
    let bit : b % 8 ≡ b % 128 % 8 = omega arith in
    ap (λ n. eqb (bit_at (get_or table n 0) (b % 8)) 1) entry ∙ ap (λ n. eqb (bit_at (get_or table (b % 128 / 8) 0) n) 1) bit

at-byte : (first second : List ℕ) (b : ℕ) → b < 256 →
    not (eqb (bit_and (cond (ltb b 128) (get_or first (b / 8 % 16) 0) (get_or second (b / 8 % 16) 0)) (get_or bits (b % 8) 0)) 0) ≡ in_tables first second b
at-byte first second b h =
    elim (cases_lt b 128) [
      | inl l ↦ rw (lt-ltb b 128 l) (tested (get_or first (b / 8 % 16) 0) b ∙ in-table first b h)
      | inr g ↦ rw (le-ltb b 128 g) (tested (get_or second (b / 8 % 16) 0) b ∙ in-table second b h)
    ]

abbrev pub differs : ℕ → ℕ → ℕ
differs a b = cond (not (eqb a b)) 255 0

bit-of-truth : (b : Bool) → eqb (cond b 1 0) 1 ≡ b
bit-of-truth true = refl
bit-of-truth false = refl

pub less-is : (i n : ℕ) → i < n → nat_lt i n ≡ true
less-is i n l = lt-ltb i n l

pub not-less : (i n : ℕ) → n ≤ i → nat_lt i n ≡ false
not-less i n l = le-ltb i n l

mask-places : (test : ℕ → Bool) (lanes : List ℕ) → length lanes ≡ 16 → ArePlacesOf test lanes 16 (mask_l (map test lanes))
mask-places test lanes long i =
    let bit : eqb (bit_at (mask_l (map test lanes)) i) 1 ≡ get_or (map test lanes) i false =
    ap (λ n. eqb n 1) (bit_mask_l (map test lanes) i) ∙ bit-of-truth (get_or (map test lanes) i false) in
    elim (cases_lt i 16) [
      | inl below ↦
          bit ∙ (get_or-map test lanes i 0 false (omega (arith, long)) ∙ sym (ap (λ t. t && test (get_or lanes i 0)) (less-is i 16 below)))
      | inr above ↦
          bit ∙ (get_or_past (map test lanes) i false (omega (arith, length-map lanes test, long)) ∙ sym (ap (λ t. t && test (get_or lanes i 0)) (not-less i 16 above)))
    ]

-- the bits of the lanes whose bytes are in the set
pub lane-places : (first second lanes entries a b members low bs : List ℕ) → length lanes ≡ 16 → Each1 (Fits w8) lanes
    → entries ≡ map (λ x. x / 8 % 16) lanes → a ≡ map (λ j. get_or first j 0) entries → b ≡ map (λ j. get_or second j 0) entries → members ≡ sel_l (map (λ x. ltb x 128) lanes) a b
    → low ≡ map (λ x. x % 8) lanes → bs ≡ map (λ j. get_or bits j 0) low
    → ArePlacesOf (in_tables first second) lanes 16 (mask_l (map (top 7) (zip2 differs (zip2 bit_and members bs) (replicate 16 0))) % 2 ^ 64)
lane-places first second lanes entries a b members low bs long fits en ea eb em el es i =
    let a_is = ea ∙ ap (map (λ j. get_or first j 0)) en ∙ map-map (λ j. get_or first j 0) (λ x. x / 8 % 16) lanes in
    let b_is = eb ∙ ap (map (λ j. get_or second j 0)) en ∙ map-map (λ j. get_or second j 0) (λ x. x / 8 % 16) lanes in
    let s_is = es ∙ ap (map (λ j. get_or bits j 0)) el ∙ map-map (λ j. get_or bits j 0) (λ x. x % 8) lanes in
    let picked = λ (x : ℕ). cond (ltb x 128) (get_or first (x / 8 % 16) 0) (get_or second (x / 8 % 16) 0) in
    let m_is = em ∙ (λ k. sel_l (map (λ x. ltb x 128) lanes) (a_is k) (b_is k)) ∙ choose (λ x. ltb x 128) (λ x. get_or first (x / 8 % 16) 0) (λ x. get_or second (x / 8 % 16) 0) lanes in
    let hits = zip2 bit_and members bs in
    let hit = λ (x : ℕ). bit_and (picked x) (get_or bits (x % 8) 0) in
    let h_is : hits ≡ map hit lanes = zip2_of_maps bit_and picked (λ x. get_or bits (x % 8) 0) lanes m_is s_is in
    let mask : mask_l (map (top 7) (zip2 differs hits (replicate 16 0))) % 2 ^ 64 ≡ mask_l (map (in_tables first second) lanes) =
    bitmask_splat w8 (λ x y. not (eqb x y)) hits 16 0 (ap length h_is ∙ length-map lanes hit ∙ long) (omega arith)
    ∙ ap mask_l (ap (map (λ x. not (eqb x 0))) h_is ∙ map-map (λ x. not (eqb x 0)) hit lanes ∙ alike-on_bytes (λ x. not (eqb (hit x) 0)) (in_tables first second) (at-byte first second) lanes fits) in
    ap (λ n. eqb (bit_at n i) 1) mask ∙ mask-places (in_tables first second) lanes long i

-- tables of a set

pub tables-tell : (words first second : List ℕ) (b : ℕ) → b < 256 →
    ((k : ℕ) → k < 64 → has_bit first k ≡ eqb (bit_at (get_or words 0 0) k) 1) → ((k : ℕ) → k < 64 → has_bit first (64 + k) ≡ eqb (bit_at (get_or words 1 0) k) 1) →
    ((k : ℕ) → k < 64 → has_bit second k ≡ eqb (bit_at (get_or words 2 0) k) 1) → ((k : ℕ) → k < 64 → has_bit second (64 + k) ≡ eqb (bit_at (get_or words 3 0) k) 1) →
    in_tables first second b ≡ has_word_bit words b
unfolding has_word_bit
tables-tell words first second b h t0 t1 t2 t3 =
    let at : (j : ℕ) → b / 64 ≡ j → eqb (bit_at (get_or words j 0) (b % 64)) 1 ≡ eqb (bit_at (get_or words (b / 64) 0) (b % 64)) 1 = λ j e. ap (λ n. eqb (bit_at (get_or words n 0) (b % 64)) 1) (sym e) in
    elim (cases_lt b 128) [
      | inl l ↦ ap (λ t. has_bit (cond t first second) (b % 128)) (lt-ltb b 128 l) ∙ elim (cases_lt b 64) [
        | inl low ↦ let e : b % 128 ≡ b % 64 = omega arith in ap (has_bit first) e ∙ (t0 (b % 64) (omega arith) ∙ at 0 (omega arith))
        | inr high ↦ let e : b % 128 ≡ 64 + b % 64 = omega arith in ap (has_bit first) e ∙ (t1 (b % 64) (omega arith) ∙ at 1 (omega arith))
      ]
      | inr g ↦ ap (λ t. has_bit (cond t first second) (b % 128)) (le-ltb b 128 g) ∙ elim (cases_lt b 192) [
        | inl low ↦ let e : b % 128 ≡ b % 64 = omega arith in ap (has_bit second) e ∙ (t2 (b % 64) (omega arith) ∙ at 2 (omega arith))
        | inr high ↦ let e : b % 128 ≡ 64 + b % 64 = omega arith in ap (has_bit second) e ∙ (t3 (b % 64) (omega arith) ∙ at 3 (omega arith))
      ]
    ]

-- sixteen places more

first-part : (a b x y : Bool) → a ≡ x → b ≡ false → x ≡ y → (a || b) ≡ y
first-part a b x y is none same = ap (λ t. t || b) is ∙ (ap (λ t. x || t) none ∙ (or-none x ∙ same))

second-part : (a b y : Bool) → a ≡ false → b ≡ y → (a || b) ≡ y
second-part a b y none is = ap (λ t. t || b) none ∙ is

bit-past : (n i : ℕ) → 64 ≤ i → eqb (bit_at (n % 2 ^ 64) i) 1 ≡ false
bit-past n i above = ap (λ b. eqb b 1) (bit_at_above (n % 2 ^ 64) 64 i (omega arith) above)

none-there : (d i : ℕ) (b : Bool) → i < d → (nat_le d i && b) ≡ false
none-there d i b low = ap (λ t. t && b) (lt-leb d i low)

test-alike : (f g : ℕ → Bool) → ((b : ℕ) → b < 256 → f b ≡ g b) → (bytes : List ℕ) (i : ℕ) → ((k : ℕ) → Fits w8 (get_or bytes k 0)) → f (get_or bytes i 0) ≡ g (get_or bytes i 0)
test-alike f g same bytes i fits = same (get_or bytes i 0) (fits i).fits

moved : (f test : ℕ → Bool) (bytes : List ℕ) (place more i : ℕ) → ((b : ℕ) → b < 256 → f b ≡ test b) → ((k : ℕ) → Fits w8 (get_or bytes k 0)) → place + 16 ≤ length bytes → length bytes ≤ 64 →
    ArePlacesOf f (chunk place 16 bytes) 16 more → place ≤ i →
    eqb (bit_at (more * 2 ^ place % 2 ^ 64) i) 1 ≡ (nat_lt i (place + 16) && test (get_or bytes i 0))
moved f test bytes place more i same fits room few lanes high =
    let x : Bool = test (get_or bytes i 0) in
    elim (cases_lt i 64) [
      | inl below ↦
          shl-bit more place i below
          ∙ (ap (λ t. t && eqb (bit_at more (i - place)) 1) (le-leb place i high)
          ∙ (lanes (i - place)
          ∙ elim (cases_lt i (place + 16)) [
            | inl inside ↦
                let at : place + (i - place) ≡ i = omega arith in
                let byte : get_or (chunk place 16 bytes) (i - place) 0 ≡ get_or bytes i 0 = get_or-chunk place 16 bytes (i - place) 0 (omega arith) ∙ ap (λ j. get_or bytes j 0) at in
                ap (λ t. t && f (get_or (chunk place 16 bytes) (i - place) 0)) (less-is (i - place) 16 (omega arith))
                ∙ (ap f byte ∙ (test-alike f test same bytes i fits ∙ sym (ap (λ t. t && x) (less-is i (place + 16) inside))))
            | inr past ↦
                ap (λ t. t && f (get_or (chunk place 16 bytes) (i - place) 0)) (not-less (i - place) 16 (omega arith)) ∙ sym (ap (λ t. t && x) (not-less i (place + 16) past))
          ]))
      | inr above ↦ bit-past (more * 2 ^ place) i above ∙ sym (ap (λ t. t && x) (not-less i (place + 16) (omega arith)))
    ]

pub more-places : (f test : ℕ → Bool) (bytes : List ℕ) (place old more : ℕ) → ((b : ℕ) → b < 256 → f b ≡ test b) → ((k : ℕ) → Fits w8 (get_or bytes k 0)) → place + 16 ≤ length bytes → length bytes ≤ 64 →
    ArePlacesOf test bytes place old → ArePlacesOf f (chunk place 16 bytes) 16 more → ArePlacesOf test bytes (place + 16) (bit_or old (more * 2 ^ place % 2 ^ 64))
more-places f test bytes place old more same fits room few before lanes i =
    let up : ℕ = more * 2 ^ place % 2 ^ 64 in
    let x : Bool = test (get_or bytes i 0) in
    bit-or old up i
    ∙ elim (cases_lt i place) [
      | inl low ↦
          first-part (eqb (bit_at old i) 1) (eqb (bit_at up i) 1) (nat_lt i place && x) (nat_lt i (place + 16) && x) (before i)
          (shl-bit more place i (omega arith) ∙ none-there place i (eqb (bit_at more (i - place)) 1) low)
          (ap (λ t. t && x) (less-is i place low ∙ sym (less-is i (place + 16) (omega arith))))
      | inr high ↦
          second-part (eqb (bit_at old i) 1) (eqb (bit_at up i) 1) (nat_lt i (place + 16) && x) (before i ∙ ap (λ t. t && x) (not-less i place high)) (moved f test bytes place more i same fits room few lanes high)
    ]

-- one place more

or-unset : (a b : Bool) → ((a && false) || b) ≡ b
or-unset true b = refl
or-unset false b = refl

bit-placed : (word place : ℕ) (value : Bool) → place < 64 → (i : ℕ) →
    eqb (bit_at (bit_or word (bool_byte value * 2 ^ place % 2 ^ 64)) i) 1 ≡ ((eqb i place && value) || eqb (bit_at word i) 1)
bit-placed word place false below i =
    ap (λ n. eqb (bit_at (bit_or word n) i) 1) (ap (λ n. n % 2 ^ 64) (zero-mul (2 ^ place))) ∙ bit-or word 0 i ∙ (ap (λ n. (eqb (bit_at word i) 1 || eqb n 1)) (bit_at-zero i) ∙ (or-none (eqb (bit_at word i) 1) ∙ sym (or-unset (eqb i place) (eqb (bit_at word i) 1))))
bit-placed word place true below i =
    elim (cases_eq i place) [
      | inl same ↦ rw (same, bit_at_set_same w64 word place below, eq-eqb place place refl) refl
      | inr apart ↦ rw (bit_at_set_other w64 word place below i apart, ne_eqb i place apart) refl
    ]

pub one-place : (test : ℕ → Bool) (bytes : List ℕ) (place old : ℕ) (value : Bool) → place < 64 → value ≡ test (get_or bytes place 0) →
    ArePlacesOf test bytes place old → ArePlacesOf test bytes (place + 1) (bit_or old (bool_byte value * 2 ^ place % 2 ^ 64))
one-place test bytes place old value below is before i =
    bit-placed old place value below i
    ∙ elim (cases_eq i place) [
      | inl same ↦
          let x : Bool = test (get_or bytes i 0) in
          let e : value ≡ x = is ∙ ap (λ k. test (get_or bytes k 0)) (sym same) in
          ap (λ t. (t && value) || eqb (bit_at old i) 1) (eq-eqb i place same)
          ∙ (ap (λ t. value || t) (before i ∙ ap (λ t. t && x) (not-less i place (omega arith)))
          ∙ (or-none value ∙ (e ∙ sym (ap (λ t. t && x) (less-is i (place + 1) (omega arith))))))
      | inr apart ↦
          ap (λ t. (t && value) || eqb (bit_at old i) 1) (ne_eqb i place apart)
          ∙ (before i ∙ ap (λ t. t && test (get_or bytes i 0)) (elim (cases_lt i place) [
            | inl low ↦ less-is i place low ∙ sym (less-is i (place + 1) (omega arith))
            | inr high ↦ not-less i place high ∙ sym (not-less i (place + 1) (let d : i ≢ place = apart in omega arith))
          ]))
    ]

pub none-placed : (test : ℕ → Bool) (bytes : List ℕ) → ArePlacesOf test bytes 0 0
none-placed test bytes i = ap (λ n. eqb n 1) (bit_at-zero i) ∙ sym (ap (λ t. t && test (get_or bytes i 0)) (not-less i 0 (omega arith)))

-- the bytes of two words, read one by one
pub table-read : (xs ys : List ℕ) (low high k : ℕ) → xs ≡ to_le_bytes w64 low → ys ≡ to_le_bytes w64 high →
    has_bit (get_or xs 0 0 ∷ get_or xs 1 0 ∷ get_or xs 2 0 ∷ get_or xs 3 0 ∷ get_or xs 4 0 ∷ get_or xs 5 0 ∷ get_or xs 6 0 ∷ get_or xs 7 0 ∷ get_or ys 0 0 ∷ get_or ys 1 0 ∷ get_or ys 2 0 ∷ get_or ys 3 0 ∷ get_or ys 4 0 ∷ get_or ys 5 0 ∷ get_or ys 6 0 ∷ get_or ys 7 0 ∷ []) k
    ≡ has_bit (to_le_bytes w64 low ++ to_le_bytes w64 high) k
table-read xs ys low high k one other = rw (one, other) refl
