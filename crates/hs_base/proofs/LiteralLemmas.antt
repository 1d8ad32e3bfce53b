-- Sets of bytes, and the bytes of literals that stand for them.
use Rattle.std.proofs.Common.{◌≡◌, ℕ, zero, suc, ◌+◌, ◌-◌, ◌<◌, ◌≤◌, Bool, true, false, ◌||◌, ◌==◌, List, [], ◌∷◌, map, Some, refl, sym, ap, ◌∙◌, arith}
use Rattle.std.specs.List.{range_with_len, filter}
use Rattle.std.proofs.lemmas.Bool.Decides.{nat_tests}
use Rattle.hs_base.specs.declared.byte_set.ByteSet.{ByteSet}
use Rattle.hs_base.specs.ByteSets.{has, members, members_from, bytes_where}
use Rattle.hs_base.specs.Literals.{is_small_letter, places_from, literal_of, literal_of_places}

-- tests that agree give the same list
map-range : (f g : ℕ → Bool) (n k : ℕ) → ((b : ℕ) → b < n + k → f b ≡ g b) → map f (range_with_len n k) ≡ map g (range_with_len n k)
map-range f g n zero same = refl
map-range f g n (suc k) same =
    ap (λ b. b ∷ map f (range_with_len (n + 1) k)) (same n (omega arith))
    ∙ ap (λ xs. g n ∷ xs) (map-range f g (n + 1) k (λ b h. same b (omega arith)))

-- the members of a set, by a test of bytes that agrees with it
pub members-where : (s : ByteSet) (f : ℕ → Bool) → ((b : ℕ) → b < 256 → has s b ≡ f b) → members s ≡ bytes_where f
unfolding members
members-where s f same = map-range (has s) f 0 256 (λ b h. same b h)

places-cons : (f : ℕ → Bool) (n : ℕ) (rest : List Bool) (others : List ℕ) (b : Bool) → f n ≡ b →
    places_from (n + 1) rest ≡ filter f others → places_from n (f n ∷ rest) ≡ filter f (n ∷ others)
places-cons f n rest others true is same = rw is (ap (λ xs. n ∷ xs) same)
places-cons f n rest others false is same = rw is same

places-map : (f : ℕ → Bool) (n k : ℕ) → places_from n (map f (range_with_len n k)) ≡ filter f (range_with_len n k)
places-map f n zero = refl
places-map f n (suc k) =
    places-cons f n (map f (range_with_len (n + 1) k)) (range_with_len (n + 1) k) (f n) refl (places-map f (n + 1) k)

-- the members of a set, rising
pub places-members : (s : ByteSet) → places_from 0 (members s) ≡ members_from s 0
unfolding members members_from
places-members s = places-map (has s) 0 256

-- the literal byte of a set, by its members
pub literal-members : (s : ByteSet) (left : List ℕ) → members_from s 0 ≡ left → literal_of_places left ≡ literal_of (members s)
literal-members s left is = ap literal_of_places (sym is ∙ sym (places-members s))

-- a letter and its capital
pub either_case : (b x : ℕ) → 32 ≤ x → ((b == (x - 32)) || (b == x)) ≡ ((b == x) || (b + 32 == x))
either_case b x h = grind (arith, nat_tests)

pub small-above : (b : ℕ) → is_small_letter b ≡ true → 32 ≤ b
small-above b h = let e : 97 ≤ b = grind (arith, nat_tests) in omega arith

pub one-literal : (b n : ℕ) (both : Bool) → b ≡ n → both ≡ false →
    Some (record { byte = b; both_cases = both }) ≡ literal_of_places (n ∷ [])
one-literal b n both same case = rw (same, case) refl
