-- The place where bytes stop being a code.
use Rattle.std.proofs.Common.{◌≡◌, ℕ, ◌-◌, ◌<◌, ◌≤◌, List, [], ◌∷◌, ◌++◌, length, refl, sym, ap, ◌∙◌, subst, append_assoc, append-nil, arith, inl, inr}
use Rattle.std.proofs.lemmas.List.{length-append}
use Rattle.std.proofs.lemmas.Bool.{cases_lt}
use Rattle.hs_dbfile.specs.Reading.{IsRead, SameFirst, same, Stops, BeginsCode, IsPlace}
use Rattle.hs_dbfile.proofs.CodeLemmas.{Once, same_first}

-- what is longer than a beginning goes on with the first byte behind it
record GoesOn (front rest longer behind : List ℕ) : Type 0 where
  next : ℕ
  more : List ℕ
  longer_is : longer ≡ front ++ next ∷ more
  rest_is : rest ≡ next ∷ (more ++ behind)

goes_on : (front rest longer behind : List ℕ) → front ++ rest ≡ longer ++ behind → length front < length longer → GoesOn front rest longer behind
goes_on [] rest [] behind e long = absurd (omega (arith, long))
goes_on [] rest (c ∷ more) behind e long = record { next = c; more = more; longer_is = refl; rest_is = e }
goes_on (b ∷ front) rest [] behind e long = absurd (omega (arith, long))
goes_on (b ∷ front) rest (c ∷ longer) behind e long =
    let tails : front ++ rest ≡ longer ++ behind = cc in
    let heads : c ≡ b = cc in
    let inner = goes_on front rest longer behind tails (omega (arith, long)) in
    record {
      next = inner.next;
      more = inner.more;
      longer_is = ap (λ x. x ∷ longer) heads ∙ ap (λ xs. b ∷ xs) inner.longer_is;
      rest_is = inner.rest_is;
    }

not_longer : (front longer : List ℕ) (at : ℕ) → length front ≡ at → (length front < length longer → ⊥) → length longer ≤ at
not_longer front longer at place short =
    elim (cases_lt (length front) (length longer)) [
      | inl long ↦ absurd (short long)
      | inr le ↦ omega (arith, place, le)
    ]

place_is : (bytes front rest : List ℕ) → bytes ≡ front ++ rest → length front ≡ length bytes - length rest
place_is bytes front rest parts = let l = ap length parts in let both = length-append front rest in omega (arith, l, both)

-- a longer beginning of a code has the first byte behind the front, and goes on to the code
whole_is : {A : Type 0} (code : A → List ℕ) (Allowed : A → Type 0) (front rest longer behind : List ℕ) (on : GoesOn front rest longer behind) (begun : BeginsCode code Allowed longer) → front ++ (on.next ∷ (on.more ++ begun.rest)) ≡ code begun.value ++ []
whole_is code Allowed front rest longer behind on begun =
    sym (append_assoc front (on.next ∷ on.more) begun.rest) ∙ ap (λ xs. xs ++ begun.rest) (sym on.longer_is) ∙ begun.whole ∙ sym (append-nil (code begun.value))

-- where reading stops
pub place_stop : {A : Type 0} (code : A → List ℕ) (Allowed : A → Type 0) (bytes rest : List ℕ) → Stops code Allowed bytes rest → IsPlace code Allowed bytes (length bytes - length rest)
place_stop code Allowed bytes rest s = record {
  no_code = λ other allowed whole. s.refused rest other [] (same_first rest) allowed (sym s.parts ∙ whole ∙ sym (append-nil (code other)));
  front = s.front;
  rest = rest;
  parts = s.parts;
  place = place_is bytes s.front rest s.parts;
  begins = record { value = s.value; rest = s.more; allowed = s.allowed; whole = sym s.begins };
  longest = λ longer behind parts begun.
      not_longer s.front longer (length bytes - length rest) (place_is bytes s.front rest s.parts) (λ long.
      let on = goes_on s.front rest longer behind (sym s.parts ∙ parts) long in
      s.refused (on.next ∷ (on.more ++ begun.rest)) begun.value [] (subst (λ r. SameFirst r (on.next ∷ (on.more ++ begun.rest))) (sym on.rest_is) same) begun.allowed (whole_is code Allowed s.front rest longer behind on begun));
}

pub not_empty : (c : ℕ) (xs : List ℕ) → c ∷ xs ≡ [] → ⊥
not_empty c xs e = let l = ap length e in omega (arith, l)

-- where bytes stand behind a code
pub place_extra : {A : Type 0} (code : A → List ℕ) (Allowed : A → Type 0) (bytes rest : List ℕ) (value : A) → Once code Allowed → IsRead code Allowed bytes value rest → (rest ≡ [] → ⊥) → IsPlace code Allowed bytes (length bytes - length rest)
place_extra code Allowed bytes rest value once read some = record {
  no_code = λ other allowed whole.
      let both = once other value [] rest allowed read.allowed (append-nil (code other) ∙ sym whole ∙ read.parts) in
      some (sym both.rest);
  front = code value;
  rest = rest;
  parts = read.parts;
  place = place_is bytes (code value) rest read.parts;
  begins = record { value = value; rest = []; allowed = read.allowed; whole = append-nil (code value) };
  longest = λ longer behind parts begun.
      not_longer (code value) longer (length bytes - length rest) (place_is bytes (code value) rest read.parts) (λ long.
      let on = goes_on (code value) rest longer behind (sym read.parts ∙ parts) long in
      let both = once value begun.value (on.next ∷ (on.more ++ begun.rest)) [] read.allowed begun.allowed (whole_is code Allowed (code value) rest longer behind on begun) in
      not_empty on.next (on.more ++ begun.rest) both.rest);
}

place_below : {A : Type 0} (code : A → List ℕ) (Allowed : A → Type 0) (bytes : List ℕ) (m n : ℕ) → IsPlace code Allowed bytes m → IsPlace code Allowed bytes n → n ≤ m
place_below code Allowed bytes m n p q = subst (λ k. k ≤ m) q.place (p.longest q.front q.rest q.parts q.begins)

-- bytes stop being a code at one place at most
pub place_once : {A : Type 0} (code : A → List ℕ) (Allowed : A → Type 0) (bytes : List ℕ) (m n : ℕ) → IsPlace code Allowed bytes m → IsPlace code Allowed bytes n → m ≡ n
place_once code Allowed bytes m n p q =
    let least = place_below code Allowed bytes m n p q in
    let most = place_below code Allowed bytes n m q p in
    omega (arith, least, most)
