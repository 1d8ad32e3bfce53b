-- A set is that of the literal byte that stands for it.
use Rattle.std.proofs.Common.{◌≡◌, ℕ, ◌+◌, ◌≤◌, ◌⊎◌, Bool, true, false, ◌&&◌, ◌==◌, List, [], ◌∷◌, length, map, Some, None, if◌then◌else◌, refl, sym, ap, ◌∙◌, subst, inl, inr, arith}
use Rattle.std.specs.List.{range_with_len}
use Rattle.std.proofs.lemmas.Bool.Decides.{nat_tests}
use Rattle.hs_base.specs.Lists.{IsMember}
use Rattle.hs_base.specs.Literals.{LiteralByte, is_small_letter, takes, literal_set, places_from, literal_of_places, literal_of}

-- the members that are counted from n on are not below n
places-above : (n : ℕ) (set : List Bool) (b : ℕ) → IsMember b (places_from n set) → n ≤ b
places-above n [] b member = absurd member
places-above n (true ∷ set) b (inl same) = omega (arith, same)
places-above n (true ∷ set) b (inr later) = let h = places-above (n + 1) set b later in omega arith
places-above n (false ∷ set) b member = let h = places-above (n + 1) set b member in omega arith

later-member : (n b : ℕ) (others : List ℕ) → n + 1 ≤ b → IsMember b (n ∷ others) → IsMember b others
later-member n b others above (inl same) = absurd (omega (arith, same))
later-member n b others above (inr later) = later

-- a test that isn't passed by a byte that is no member
not-passed : (value : Bool) (P : Type 0) → (value ≡ true → P) → (P → ⊥) → value ≡ false
not-passed true P gives none = absurd (none (gives refl))
not-passed false P gives none = refl

-- a set is the list of a test that exactly its members pass
set-by_members : (f : ℕ → Bool) (n : ℕ) (set : List Bool) →
    ((b : ℕ) → n ≤ b → f b ≡ true → IsMember b (places_from n set)) →
    ((b : ℕ) → IsMember b (places_from n set) → f b ≡ true) → set ≡ map f (range_with_len n (length set))
set-by_members f n [] member passed = refl
set-by_members f n (true ∷ set) member passed =
    ap (λ first. first ∷ set) (sym (passed n (inl refl)))
    ∙ ap (λ rest. f n ∷ rest) (set-by_members f (n + 1) set
    (λ b above h. later-member n b (places_from (n + 1) set) above (member b (omega arith) h))
    (λ b h. passed b (inr h)))
set-by_members f n (false ∷ set) member passed =
    let out : f n ≡ false = not-passed (f n) (IsMember n (places_from (n + 1) set)) (λ h. member n (omega arith) h)
    (λ h. let above = places-above (n + 1) set n h in absurd (omega arith)) in
    ap (λ first. first ∷ set) (sym out)
    ∙ ap (λ rest. f n ∷ rest) (set-by_members f (n + 1) set (λ b above h. member b (omega arith) h) passed)

one_passed : (b c : ℕ) → takes (record { byte = b; both_cases = false }) c ≡ true → c ≡ b
one_passed b c h = grind (arith, nat_tests)

one_passes : (b c : ℕ) → c ≡ b → takes (record { byte = b; both_cases = false }) c ≡ true
one_passes b c h = grind (arith, nat_tests)

case_passed : (a b c : ℕ) → a + 32 ≡ b → takes (record { byte = b; both_cases = true }) c ≡ true → (c ≡ a) ⊎ (c ≡ b)
case_passed a b c apart h = grind (arith, nat_tests)

case_passes : (a b c : ℕ) → a + 32 ≡ b → (c ≡ a) ⊎ (c ≡ b) → takes (record { byte = b; both_cases = true }) c ≡ true
case_passes a b c apart (inl h) = grind (arith, nat_tests)
case_passes a b c apart (inr h) = grind (arith, nat_tests)

-- those tests, over sets of 256 bytes
set-of : (f : ℕ → Bool) (set : List Bool) (places : List ℕ) → length set ≡ 256 → places_from 0 set ≡ places →
    ((b : ℕ) → f b ≡ true → IsMember b places) → ((b : ℕ) → IsMember b places → f b ≡ true) → set ≡ map f (range_with_len 0 256)
set-of f set places size is member passed =
    set-by_members f 0 set (λ b above h. subst (IsMember b) (sym is) (member b h)) (λ b h. passed b (subst (IsMember b) is h))
    ∙ ap (λ n. map f (range_with_len 0 n)) size

some-same : {A : Type 0} (x y : A) → Some x ≡ Some y → x ≡ y
some-same x y h = cc

one_case : (test : Bool) (x y : LiteralByte) → (if test then Some y else None) ≡ Some x → (test ≡ true) × (y ≡ x)
one_case true x y h = (refl, some-same y x h)
one_case false x y h = absurd (cc)

letter_apart : (a b : ℕ) → (is_small_letter b && (a + 32 == b)) ≡ true → a + 32 ≡ b
letter_apart a b h = grind (arith, nat_tests)

exact-by_places : (set : List Bool) (x : LiteralByte) (places : List ℕ) → length set ≡ 256 → places_from 0 set ≡ places →
    literal_of_places places ≡ Some x → set ≡ literal_set x
exact-by_places set x [] size is h = absurd (cc)
exact-by_places set x (b ∷ []) size is h =
    set-of (takes (record { byte = b; both_cases = false })) set (b ∷ []) size is
    (λ c passed. inl (one_passed b c passed)) (λ c member. elim member [ inl same ↦ one_passes b c same | inr never ↦ absurd never ])
    ∙ ap literal_set (some-same (record { byte = b; both_cases = false }) x h)
exact-by_places set x (a ∷ b ∷ []) size is h =
    let case = one_case (is_small_letter b && (a + 32 == b)) x (record { byte = b; both_cases = true }) h in
    let apart = letter_apart a b case.0 in
    set-of (takes (record { byte = b; both_cases = true })) set (a ∷ b ∷ []) size is
    (λ c passed. elim (case_passed a b c apart passed) [ inl first ↦ inl first | inr second ↦ inr (inl second) ])
    (λ c member. elim member [
      | inl first ↦ case_passes a b c apart (inl first)
      | inr other ↦ elim other [ inl second ↦ case_passes a b c apart (inr second) | inr never ↦ absurd never ]
    ])
    ∙ ap literal_set case.1
exact-by_places set x (a ∷ b ∷ c ∷ others) size is h = absurd (cc)

-- the set for which a literal byte stands is its set
pub literal-exact : (set : List Bool) (x : LiteralByte) → length set ≡ 256 → literal_of set ≡ Some x → set ≡ literal_set x
literal-exact set x size h = exact-by_places set x (places_from 0 set) size refl h
