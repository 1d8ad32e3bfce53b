-- Members of lists, and lists in strict order: unique by their members, cut at a bound, joined.
use Rattle.std.proofs.Common.{◌≡◌, ℕ, zero, suc, ◌<◌, ◌≤◌, ◌⊎◌, List, [], ◌∷◌, ◌++◌, map, Some, slice_get, refl, sym, ap, subst, ◌∙◌, inl, inr, arith}
use Rattle.std.proofs.lemmas.Bool.{cases_lt}
use Rattle.hs_base.specs.Lists.{OneOf, Each, IsMember, IsRising}

pub each-member : {A : Type 0} (P : A → Type 0) (xs : List A) (x : A) → Each P xs → IsMember x xs → P x
each-member P [] x each member = absurd member
each-member P (y ∷ ys) x each (inl same) = subst P (sym same) each.0
each-member P (y ∷ ys) x each (inr member) = each-member P ys x each.1 member

pub each-of_members : {A : Type 0} (P : A → Type 0) (xs : List A) → ((x : A) → IsMember x xs → P x) → Each P xs
each-of_members P [] holds = tt
each-of_members P (y ∷ ys) holds = (holds y (inl refl), each-of_members P ys (λ x member. holds x (inr member)))

pub each-append : {A : Type 0} (P : A → Type 0) (xs ys : List A) → Each P xs → Each P ys → Each P (xs ++ ys)
each-append P [] ys left right = right
each-append P (x ∷ xs) ys left right = (left.0, each-append P xs ys left.1 right)

pub each-left : {A : Type 0} (P : A → Type 0) (xs ys : List A) → Each P (xs ++ ys) → Each P xs
each-left P [] ys each = tt
each-left P (x ∷ xs) ys each = (each.0, each-left P xs ys each.1)

-- what one member has, it has by a weaker property too, if each member has what that wants
pub one_of-each : {A : Type 0} (Q P R : A → Type 0) (xs : List A) → Each Q xs → ((x : A) → Q x → P x → R x) → OneOf P xs → OneOf R xs
one_of-each Q P R [] each weaker found = absurd found
one_of-each Q P R (x ∷ xs) each weaker (inl here) = inl (weaker x each.0 here)
one_of-each Q P R (x ∷ xs) each weaker (inr there) = inr (one_of-each Q P R xs each.1 weaker there)

pub one_of-map : {A : Type 0} (P R : A → Type 0) (xs : List A) → ((x : A) → P x → R x) → OneOf P xs → OneOf R xs
one_of-map P R [] weaker found = absurd found
one_of-map P R (x ∷ xs) weaker (inl here) = inl (weaker x here)
one_of-map P R (x ∷ xs) weaker (inr there) = inr (one_of-map P R xs weaker there)

pub one_of-left : {A : Type 0} (P : A → Type 0) (xs ys : List A) → OneOf P xs → OneOf P (xs ++ ys)
one_of-left P [] ys found = absurd found
one_of-left P (x ∷ xs) ys (inl here) = inl here
one_of-left P (x ∷ xs) ys (inr there) = inr (one_of-left P xs ys there)

pub one_of-right : {A : Type 0} (P : A → Type 0) (xs ys : List A) → OneOf P ys → OneOf P (xs ++ ys)
one_of-right P [] ys found = found
one_of-right P (x ∷ xs) ys found = inr (one_of-right P xs ys found)

pub one_of-append : {A : Type 0} (P : A → Type 0) (xs ys : List A) → OneOf P (xs ++ ys) → OneOf P xs ⊎ OneOf P ys
one_of-append P [] ys found = inr found
one_of-append P (x ∷ xs) ys (inl here) = inl (inl here)
one_of-append P (x ∷ xs) ys (inr there) = elim (one_of-append P xs ys there) [ inl left ↦ inl (inr left) | inr right ↦ inr right ]

pub member-left : {A : Type 0} (xs ys : List A) (x : A) → IsMember x xs → IsMember x (xs ++ ys)
member-left xs ys x member = one_of-left (λ y. x ≡ y) xs ys member

pub member-right : {A : Type 0} (xs ys : List A) (x : A) → IsMember x ys → IsMember x (xs ++ ys)
member-right xs ys x member = one_of-right (λ y. x ≡ y) xs ys member

pub member-append : {A : Type 0} (xs ys : List A) (x : A) → IsMember x (xs ++ ys) → IsMember x xs ⊎ IsMember x ys
member-append xs ys x member = one_of-append (λ y. x ≡ y) xs ys member

pub member-map : {A B : Type 0} (f : A → B) (xs : List A) (x : A) → IsMember x xs → IsMember (f x) (map f xs)
member-map f [] x member = absurd member
member-map f (y ∷ ys) x (inl same) = inl (ap f same)
member-map f (y ∷ ys) x (inr member) = inr (member-map f ys x member)

pub map-member : {A B : Type 0} (f : A → B) (xs : List A) (y : B) → IsMember y (map f xs) → (x : A) × IsMember x xs × (y ≡ f x)
map-member f [] y member = absurd member
map-member f (x ∷ xs) y (inl same) = (x, inl refl, same)
map-member f (x ∷ xs) y (inr member) = let (z, below, same) = map-member f xs y member in (z, inr below, same)

-- a member has a place, and what has a place is a member
pub member-place : {A : Type 0} (xs : List A) (x : A) → IsMember x xs → (k : ℕ) × (slice_get xs k ≡ Some x)
member-place [] x member = absurd member
member-place (y ∷ xs) x (inl same) = (zero, ap (λ z. Some z) (sym same))
member-place (y ∷ xs) x (inr member) = let (k, at) = member-place xs x member in (suc k, at)

pub place-member : {A : Type 0} (xs : List A) (x : A) (k : ℕ) → slice_get xs k ≡ Some x → IsMember x xs
place-member [] x k at = absurd (cc)
place-member (y ∷ xs) x zero at = inl (cc)
place-member (y ∷ xs) x (suc k) at = inr (place-member xs x k at)

-- a strict order
pub record IsOrder {A : Type 0} (R : A → A → Type 0) : Type 0 where
  pub irreflexive : (x : A) → R x x → ⊥
  pub transitive : (x y z : A) → R x y → R y z → R x z

same-head : {A : Type 0} (R : A → A → Type 0) → IsOrder R → (x y : A) (xs ys : List A) → Each (R x) xs → Each (R y) ys → IsMember x (y ∷ ys) → IsMember y (x ∷ xs) → x ≡ y
same-head R order x y xs ys above above' (inl same) other = same
same-head R order x y xs ys above above' (inr member) (inl same) = sym same
same-head R order x y xs ys above above' (inr member) (inr other) =
    absurd (order.irreflexive x (order.transitive x y x (each-member (R x) xs y above other) (each-member (R y) ys x above' member)))

tail-member : {A : Type 0} (R : A → A → Type 0) → IsOrder R → (x y z : A) (ys : List A) → x ≡ y → R x z → IsMember z (y ∷ ys) → IsMember z ys
tail-member R order x y z ys same above (inl here) =
    absurd (order.irreflexive z (subst (λ a. R a z) (same ∙ sym here) above))
tail-member R order x y z ys same above (inr there) = there

-- two rising lists with the same members are one
pub rising-unique : {A : Type 0} (R : A → A → Type 0) → IsOrder R → (xs ys : List A) → IsRising R xs → IsRising R ys →
    ((x : A) → IsMember x xs → IsMember x ys) → ((x : A) → IsMember x ys → IsMember x xs) → xs ≡ ys
rising-unique R order [] [] rising rising' to from = refl
rising-unique R order [] (y ∷ ys) rising rising' to from = absurd (from y (inl refl))
rising-unique R order (x ∷ xs) [] rising rising' to from = absurd (to x (inl refl))
rising-unique R order (x ∷ xs) (y ∷ ys) rising rising' to from =
    let head : x ≡ y = same-head R order x y xs ys rising.0 rising'.0 (to x (inl refl)) (from y (inl refl)) in
    let tail : xs ≡ ys =
    rising-unique R order xs ys rising.1 rising'.1
    (λ z member. tail-member R order x y z ys head (each-member (R x) xs z rising.0 member) (to z (inr member)))
    (λ z member. tail-member R order y x z xs (sym head) (each-member (R y) ys z rising'.0 member) (from z (inr member))) in
    cc

pub rising-append : {A : Type 0} (R : A → A → Type 0) (xs ys : List A) → IsRising R xs → IsRising R ys → Each (λ x. Each (R x) ys) xs → IsRising R (xs ++ ys)
rising-append R [] ys left right across = right
rising-append R (x ∷ xs) ys left right across =
    (each-append (R x) xs ys left.0 across.0, rising-append R xs ys left.1 right across.1)

pub rising-left : {A : Type 0} (R : A → A → Type 0) (xs ys : List A) → IsRising R (xs ++ ys) → IsRising R xs
rising-left R [] ys rising = tt
rising-left R (x ∷ xs) ys rising = (each-left (R x) xs ys rising.0, rising-left R xs ys rising.1)

each-map : {A B : Type 0} (P : A → Type 0) (Q : B → Type 0) (f : A → B) (xs : List A) → ((x : A) → P x → Q (f x)) → Each P xs → Each Q (map f xs)
each-map P Q f [] keeps each = tt
each-map P Q f (x ∷ xs) keeps each = (keeps x each.0, each-map P Q f xs keeps each.1)

pub rising-map : {A B : Type 0} (R : A → A → Type 0) (S : B → B → Type 0) (f : A → B) (xs : List A) → ((x y : A) → R x y → S (f x) (f y)) → IsRising R xs → IsRising S (map f xs)
rising-map R S f [] keeps rising = tt
rising-map R S f (x ∷ xs) keeps rising =
    (each-map (R x) (S (f x)) f xs (keeps x) rising.0, rising-map R S f xs keeps rising.1)

-- a list in two parts: the keys of the first are at most a bound, those of the second above it
pub record IsCut {A : Type 0} (key : A → ℕ) (n : ℕ) (xs : List A) : Type 0 where
  pub front : List A
  pub back : List A
  pub whole : xs ≡ front ++ back
  pub low : Each (λ x. key x ≤ n) front
  pub high : Each (λ x. n < key x) back

-- a list whose keys rise or stay is cut at any bound
pub rising-cut : {A : Type 0} (R : A → A → Type 0) (key : A → ℕ) → ((x y : A) → R x y → key x ≤ key y) → (n : ℕ) (xs : List A) → IsRising R xs → IsCut key n xs
rising-cut R key keys n [] rising = record { front = []; back = []; whole = refl; low = tt; high = tt }
rising-cut R key keys n (x ∷ xs) rising = elim (cases_lt n (key x)) [
  | inl above ↦ record {
    front = [];
    back = x ∷ xs;
    whole = refl;
    low = tt;
    high = (
      above,
      each-of_members (λ y. n < key y) xs (λ y member.
          let later : key x ≤ key y = keys x y (each-member (R x) xs y rising.0 member) in omega arith),
    );
  }
  | inr below ↦
      let rest : IsCut key n xs = rising-cut R key keys n xs rising.1 in
      record {
        front = x ∷ rest.front;
        back = rest.back;
        whole = ap (λ ys. x ∷ ys) rest.whole;
        low = (below, rest.low);
        high = rest.high;
      }
]

pub each-right : {A : Type 0} (P : A → Type 0) (xs ys : List A) → Each P (xs ++ ys) → Each P ys
each-right P [] ys all = all
each-right P (x ∷ xs) ys all = each-right P xs ys all.1

pub rising-right : {A : Type 0} (R : A → A → Type 0) (xs ys : List A) → IsRising R (xs ++ ys) → IsRising R ys
rising-right R [] ys rising = rising
rising-right R (x ∷ xs) ys rising = rising-right R xs ys rising.1

-- each member of the first part is before each of the second
pub rising-across : {A : Type 0} (R : A → A → Type 0) (xs ys : List A) → IsRising R (xs ++ ys) → Each (λ x. Each (R x) ys) xs
rising-across R [] ys rising = tt
rising-across R (x ∷ xs) ys rising = (each-right (R x) xs ys rising.0, rising-across R xs ys rising.1)
