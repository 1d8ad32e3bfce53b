-- Choices of one byte from one range per place, taken apart and put together at the last place.
use Rattle.std.proofs.Common.{◌≡◌, ℕ, suc, ◌≤◌, List, [], ◌∷◌, ◌++◌, length, refl, ap, ap₂, ◌∙◌, arith}
use Rattle.std.specs.List.{zip}
use Rattle.hs_base.specs.Spans.{IsInRange}
use Rattle.hs_utf8.specs.Runs.{IsChoice, AreChoices}

-- lists of the same with one more behind have the same in front, and the same one behind
pub snoc-same : (xs ys : List ℕ) (x y : ℕ) → xs ++ x ∷ [] ≡ ys ++ y ∷ [] → (xs ≡ ys) × (x ≡ y)
snoc-same [] [] x y same = let e : x ≡ y = cc in (refl, e)
snoc-same [] (b ∷ []) x y same = absurd (let e : [] ≡ y ∷ [] = cc in let no : ⊥ = cc in no)
snoc-same [] (b ∷ c ∷ ys) x y same = absurd (let e : [] ≡ c ∷ (ys ++ y ∷ []) = cc in let no : ⊥ = cc in no)
snoc-same (a ∷ []) [] x y same = absurd (let e : x ∷ [] ≡ [] = cc in let no : ⊥ = cc in no)
snoc-same (a ∷ c ∷ xs) [] x y same = absurd (let e : c ∷ (xs ++ x ∷ []) ≡ [] = cc in let no : ⊥ = cc in no)
snoc-same (a ∷ xs) (b ∷ ys) x y same =
    let first : a ≡ b = cc in
    let rest : xs ++ x ∷ [] ≡ ys ++ y ∷ [] = cc in
    let parts = snoc-same xs ys x y rest in
    (ap₂ ◌∷◌ first parts.0, parts.1)

pub choice-snoc : (ranges : List (ℕ × ℕ)) (range : ℕ × ℕ) (bytes : List ℕ) (byte : ℕ) →
    IsChoice ranges bytes → IsInRange byte range → IsChoice (ranges ++ range ∷ []) (bytes ++ byte ∷ [])
choice-snoc [] range [] byte front last = (last, tt)
choice-snoc [] range (b ∷ bytes) byte front last = absurd front
choice-snoc (r ∷ ranges) range [] byte front last = absurd front
choice-snoc (r ∷ ranges) range (b ∷ bytes) byte front last = (front.0, choice-snoc ranges range bytes byte front.1 last)

pub choice-parts : (ranges : List (ℕ × ℕ)) (range : ℕ × ℕ) (bytes : List ℕ) (byte : ℕ) →
    IsChoice (ranges ++ range ∷ []) (bytes ++ byte ∷ []) → IsChoice ranges bytes × IsInRange byte range
choice-parts [] range [] byte whole = (tt, whole.0)
choice-parts [] range (b ∷ []) byte whole = absurd whole.1
choice-parts [] range (b ∷ d ∷ bytes) byte whole = absurd whole.1
choice-parts (r ∷ []) range [] byte whole = absurd whole.1
choice-parts (r ∷ s ∷ ranges) range [] byte whole = absurd whole.1
choice-parts (r ∷ ranges) range (b ∷ bytes) byte whole =
    let parts = choice-parts ranges range bytes byte whole.1 in ((whole.0, parts.0), parts.1)

-- the places of a text of some bytes and one more are some places and one more
pub choice-places : (places : List (ℕ × ℕ)) (bytes : List ℕ) (byte : ℕ) → IsChoice places (bytes ++ byte ∷ []) →
    (ranges : List (ℕ × ℕ)) × (range : ℕ × ℕ) × (places ≡ ranges ++ range ∷ [])
choice-places [] [] byte whole = absurd whole
choice-places [] (b ∷ bytes) byte whole = absurd whole
choice-places (r ∷ []) [] byte whole = ([], r, refl)
choice-places (r ∷ s ∷ places) [] byte whole = absurd whole.1
choice-places (r ∷ places) (b ∷ bytes) byte whole =
    let (ranges, range, is) = choice-places places bytes byte whole.1 in (r ∷ ranges, range, ap (λ rest. r ∷ rest) is)

-- a text of some places and one more is some bytes and one more
pub record HasLast (ranges : List (ℕ × ℕ)) (range : ℕ × ℕ) (text : List ℕ) : Type 0 where
  pub bytes : List ℕ
  pub byte : ℕ
  pub is : text ≡ bytes ++ byte ∷ []
  pub front : IsChoice ranges bytes
  pub last : IsInRange byte range

pub choice-last : (ranges : List (ℕ × ℕ)) (range : ℕ × ℕ) (text : List ℕ) →
    IsChoice (ranges ++ range ∷ []) text → HasLast ranges range text
choice-last [] range [] whole = absurd whole
choice-last [] range (b ∷ []) whole = record { bytes = []; byte = b; is = refl; front = tt; last = whole.0 }
choice-last [] range (b ∷ c ∷ text) whole = absurd whole.1
choice-last (r ∷ ranges) range [] whole = absurd whole
choice-last (r ∷ ranges) range (b ∷ text) whole =
    let rest = choice-last ranges range text whole.1 in
    record {
      bytes = b ∷ rest.bytes;
      byte = rest.byte;
      is = ap (λ bs. b ∷ bs) rest.is;
      front = (whole.0, rest.front);
      last = rest.last;
    }

pub choice-length : (places : List (ℕ × ℕ)) (text : List ℕ) → IsChoice places text → length text ≡ length places
choice-length [] [] is = refl
choice-length [] (b ∷ text) is = absurd is
choice-length (r ∷ places) [] is = absurd is
choice-length (r ∷ places) (b ∷ text) is = ap (λ n. suc n) (choice-length places text is.1)

-- one more on both sides
pub zip-snoc : (xs ys : List ℕ) (x y : ℕ) → length xs ≡ length ys →
    zip (xs ++ x ∷ []) (ys ++ y ∷ []) ≡ zip xs ys ++ (x, y) ∷ []
zip-snoc [] [] x y same = refl
zip-snoc [] (b ∷ ys) x y same = absurd (omega arith)
zip-snoc (a ∷ xs) [] x y same = absurd (omega arith)
zip-snoc (a ∷ xs) (b ∷ ys) x y same = ap (λ rest. (a, b) ∷ rest) (zip-snoc xs ys x y (omega arith))

-- texts that agree on the numbers from the first to the last
pub choices-same : (f g : ℕ → List ℕ) (first last : ℕ) (places : List (ℕ × ℕ)) →
    ((c : ℕ) → first ≤ c → c ≤ last → f c ≡ g c) → AreChoices f first last places → AreChoices g first last places
choices-same f g first last places same choices = record {
  each = λ c low high. let is = choices.each c low high in rw (same c low high) at is;
  every = λ text is.
      let (c, low, high, here) = choices.every text is in (c, low, high, here ∙ same c low high);
}
