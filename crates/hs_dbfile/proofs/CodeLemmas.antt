-- Codes: what is read once, codes of pairs, and where reading a pair stops.
use Rattle.std.proofs.Common.{◌≡◌, ℕ, List, [], ◌∷◌, ◌++◌, length, refl, sym, ap, ◌∙◌, subst, append_assoc, arith, Result, Ok, Err, MatchResult}
use Rattle.std.specs.Result.{IsErrAnd}
use Rattle.std.proofs.lemmas.List.{append_cancel_left}
use Rattle.hs_dbfile.specs.Reading.{IsRead, SameFirst, neither, same, Stops, always, Always}

-- two pairs of equal parts
pub record AreSame {A : Type 0} (a b : A) (x y : List ℕ) : Type 0 where
  pub value : a ≡ b
  pub rest : x ≡ y

-- no code of an allowed value begins that of another one
abbrev pub Once : {A : Type 0} → (A → List ℕ) → (A → Type 0) → Type 0
Once {A = A} code Allowed = (a b : A) (x y : List ℕ) → Allowed a → Allowed b → code a ++ x ≡ code b ++ y → AreSame a b x y

-- a code of pairs, of which the first value says what is allowed as the second
abbrev pub pair_bytes : {A B : Type 0} → (A → List ℕ) → (B → List ℕ) → A × B → List ℕ
pair_bytes f g p = f p.0 ++ g p.1

pub record ArePair {A B : Type 0} (P : A → Type 0) (Q : A → B → Type 0) (p : A × B) : Type 0 where
  pub first : P p.0
  pub second : Q p.0 p.1

-- lists of one length that begin equal lists
pub cut_same : {A : Type 0} (xs ys u v : List A) → length xs ≡ length ys → xs ++ u ≡ ys ++ v → (xs ≡ ys) × (u ≡ v)
cut_same [] [] u v l e = (refl, e)
cut_same [] (y ∷ ys) u v l e = absurd (omega (arith, l))
cut_same (x ∷ xs) [] u v l e = absurd (omega (arith, l))
cut_same (x ∷ xs) (y ∷ ys) u v l e =
    let rest : xs ++ u ≡ ys ++ v = cc in
    let head : x ≡ y = cc in
    let both = cut_same xs ys u v (omega (arith, l)) rest in
    let tails : xs ≡ ys = both.0 in
    (cc, both.1)

pub pair_once : {A B : Type 0} (f : A → List ℕ) (P : A → Type 0) (g : B → List ℕ) (Q : A → B → Type 0) → Once f P → ((a : A) → P a → Once g (Q a)) → Once (pair_bytes f g) (ArePair P Q)
pair_once {A = A} {B = B} f P g Q once then a b x y p q e =
    let whole : f a.0 ++ (g a.1 ++ x) ≡ f b.0 ++ (g b.1 ++ y) = sym (append_assoc (f a.0) (g a.1) x) ∙ e ∙ append_assoc (f b.0) (g b.1) y in
    let first = once a.0 b.0 (g a.1 ++ x) (g b.1 ++ y) p.first q.first whole in
    let second = then a.0 p.first a.1 b.1 x y p.second (subst (λ k. Q k b.1) (sym first.value) q.second) first.rest in
    record {
      value = ap (λ k. (k, a.1)) first.value ∙ ap (λ k. (b.0, k)) second.value;
      rest = second.rest;
    }

-- where no first value stands, no pair does
pub stops_first : {A B : Type 0} (f : A → List ℕ) (P : A → Type 0) (g : B → List ℕ) (Q : A → B → Type 0) (fill : A → B) (bytes rest : List ℕ) → ((a : A) → P a → Q a (fill a)) → Stops f P bytes rest → Stops (pair_bytes f g) (ArePair P Q) bytes rest
stops_first f P g Q fill bytes rest filled s = record {
  front = s.front;
  parts = s.parts;
  value = (s.value, fill s.value);
  more = s.more ++ g (fill s.value);
  allowed = record { first = s.allowed; second = filled s.value s.allowed };
  begins = ap (λ xs. xs ++ g (fill s.value)) s.begins ∙ append_assoc s.front s.more (g (fill s.value));
  refused = λ others other behind first p e. s.refused others other.0 (g other.1 ++ behind) first p.first (e ∙ append_assoc (f other.0) (g other.1) behind);
}

-- where a first value stands and no second one behind it, no pair does
pub stops_second : {A B : Type 0} (f : A → List ℕ) (P : A → Type 0) (g : B → List ℕ) (Q : A → B → Type 0) (a : A) (bytes between rest : List ℕ) → Once f P → IsRead f P bytes a between → Stops g (Q a) between rest → Stops (pair_bytes f g) (ArePair P Q) bytes rest
stops_second f P g Q a bytes between rest once read s = record {
  front = f a ++ s.front;
  parts = read.parts ∙ ap (λ xs. f a ++ xs) s.parts ∙ sym (append_assoc (f a) s.front rest);
  value = (a, s.value);
  more = s.more;
  allowed = record { first = read.allowed; second = s.allowed };
  begins = ap (λ xs. f a ++ xs) s.begins ∙ sym (append_assoc (f a) s.front s.more);
  refused = λ others other behind first p e.
      let whole : f a ++ (s.front ++ others) ≡ f other.0 ++ (g other.1 ++ behind) = sym (append_assoc (f a) s.front others) ∙ e ∙ append_assoc (f other.0) (g other.1) behind in
      let both = once a other.0 (s.front ++ others) (g other.1 ++ behind) read.allowed p.first whole in
      s.refused others other.1 behind first (subst (λ k. Q k other.1) (sym both.value) p.second) both.rest;
}

-- a pair is read in two steps
pub reads_pair : {A B : Type 0} (f : A → List ℕ) (P : A → Type 0) (g : B → List ℕ) (Q : A → B → Type 0) (a : A) (b : B) (bytes between rest : List ℕ) → IsRead f P bytes a between → IsRead g (Q a) between b rest → IsRead (pair_bytes f g) (ArePair P Q) bytes (a, b) rest
reads_pair f P g Q a b bytes between rest first second = record {
  parts = first.parts ∙ ap (λ xs. f a ++ xs) second.parts ∙ sym (append_assoc (f a) (g b) rest);
  allowed = record { first = first.allowed; second = second.allowed };
}

-- the same code of values of another type
pub record IsSameCode {A B : Type 0} (f : A → List ℕ) (P : A → Type 0) (g : B → List ℕ) (Q : B → Type 0) : Type 0 where
  pub to : A → B
  pub from : B → A
  pub to_allowed : (a : A) → P a → Q (to a)
  pub from_allowed : (b : B) → Q b → P (from b)
  pub to_bytes : (a : A) → P a → g (to a) ≡ f a
  pub from_bytes : (b : B) → Q b → f (from b) ≡ g b
  pub back : (b : B) → Q b → to (from b) ≡ b

pub stops_as : {A B : Type 0} (f : A → List ℕ) (P : A → Type 0) (g : B → List ℕ) (Q : B → Type 0) (bytes rest : List ℕ) → IsSameCode f P g Q → Stops f P bytes rest → Stops g Q bytes rest
stops_as f P g Q bytes rest is s = record {
  front = s.front;
  parts = s.parts;
  value = is.to s.value;
  more = s.more;
  allowed = is.to_allowed s.value s.allowed;
  begins = is.to_bytes s.value s.allowed ∙ s.begins;
  refused = λ others other behind first q e.
      s.refused others (is.from other) behind first (is.from_allowed other q) (e ∙ ap (λ xs. xs ++ behind) (sym (is.from_bytes other q)));
}

pub once_as : {A B : Type 0} (f : A → List ℕ) (P : A → Type 0) (g : B → List ℕ) (Q : B → Type 0) → IsSameCode f P g Q → Once f P → Once g Q
once_as f P g Q is once a b x y p q e =
    let whole : f (is.from a) ++ x ≡ f (is.from b) ++ y = ap (λ xs. xs ++ x) (is.from_bytes a p) ∙ e ∙ ap (λ xs. xs ++ y) (sym (is.from_bytes b q)) in
    let both = once (is.from a) (is.from b) x y (is.from_allowed a p) (is.from_allowed b q) whole in
    record {
      value = sym (is.back a p) ∙ ap is.to both.value ∙ is.back b q;
      rest = both.rest;
    }

pub reads_as : {A B : Type 0} (f : A → List ℕ) (P : A → Type 0) (g : B → List ℕ) (Q : B → Type 0) (bytes rest : List ℕ) (a : A) (is : IsSameCode f P g Q) → IsRead f P bytes a rest → IsRead g Q bytes (is.to a) rest
reads_as f P g Q bytes rest a is read = record {
  parts = read.parts ∙ ap (λ xs. xs ++ rest) (sym (is.to_bytes a read.allowed));
  allowed = is.to_allowed a read.allowed;
}

-- fewer values of a code are read once too
pub once_weaken : {A : Type 0} (f : A → List ℕ) (P Q : A → Type 0) → ((a : A) → Q a → P a) → Once f P → Once f Q
once_weaken f P Q allowed once a b x y p q e = once a b x y (allowed a p) (allowed b q) e

pub always_once : (bytes : List ℕ) → Once (always bytes) Always
always_once bytes a b x y p q e = record { value = refl; rest = append_cancel_left bytes x y e }

-- both sides of a result, weakened
pub match_weaken : {T E : Type 0} (r : Result T E) (P P' : T → Type 0) (Q Q' : E → Type 0) → ((x : T) → P x → P' x) → ((e : E) → Q e → Q' e) → MatchResult r P Q → MatchResult r P' Q'
match_weaken (Ok x) P P' Q Q' p q h = p x h
match_weaken (Err e) P P' Q Q' p q h = q e h

-- what the exit of a `?` gives, where the error stays as it is
pub when_err : {T E : Type 0} (r : Result T E) (e : E) (P : T → Type 0) (Q : E → Type 0) → IsErrAnd r (λ y. y ≡ e) → Q e → MatchResult r P Q
when_err (Ok x) e P Q h q = absurd h
when_err (Err y) e P Q h q = subst Q (sym h) q

pub same_first : (xs : List ℕ) → SameFirst xs xs
same_first [] = neither
same_first (x ∷ xs) = same
