-- Single identifiers among all.
use Rattle.std.proofs.Common.{◌≡◌, ◌⊎◌, ℕ, zero, suc, ◌+◌, ◌*◌, ◌<◌, ◌≤◌, Bool, true, false, List, [], ◌∷◌, ◌++◌, length, take, Some, slice_get, refl, sym, ap, subst, ◌∙◌, inl, inr, arith, length-append}
use Rattle.std.proofs.lemmas.Bool.{cases_eq}
use Rattle.std.proofs.lemmas.List.{length-take-le}
use Rattle.std.proofs.lemmas.Option.{same_Some, slice_get_within}
use Rattle.hs_base.specs.Bits.{has_bit, has_word_bit}
use Rattle.hs_base.specs.Regions.{fields_at, here_at, last_at, row_size, told_at}
use Rattle.hs_reports.specs.Identifiers.{numbers_of}
use Rattle.hs_reports.specs.declared.identifier.Identifier.{Identifier}
use Rattle.hs_layout.specs.Layouts.{Laid}
use Rattle.hs_layout.specs.Rows.{IsRowRead, IsRowWritten}
use Rattle.hs_keeping.specs.Keeping.{AreBitsWritten, AreEndsWritten, AreLast, AreRead, HasBits, IsOneWritten, IsSpareBit, AreBitsRead, singles_before}
use Rattle.hs_reports.specs.Identifiers.{singles_of, with_single}

pub number-at : (xs : List Identifier) (p : ℕ) (x : Identifier) → slice_get xs p ≡ Some x → slice_get (numbers_of xs) p ≡ Some x.id.0
number-at [] p x at = absurd (cc)
number-at (y ∷ xs) zero x at = ap (λ z. Some z) (ap (λ o. o.id.0) (same_Some y x at))
number-at (y ∷ xs) (suc p) x at = number-at xs p x at

with-behind : (s : Bool) (y : Identifier) (xs ys : List Identifier) (x : Identifier) → slice_get xs (length ys) ≡ Some x → slice_get (with_single s y xs) (length (with_single s y ys)) ≡ Some x
with-behind true y xs ys x at = at
with-behind false y xs ys x at = at

pub single-at : (xs : List Identifier) (p : ℕ) (x : Identifier) → slice_get xs p ≡ Some x → x.single ≡ true → slice_get (singles_of xs) (singles_before xs p) ≡ Some x
single-at [] p x at is = absurd (cc)
single-at (y ∷ xs) zero x at is =
    let one : y ≡ x = same_Some y x at in
    ap (λ s. slice_get (with_single s y (singles_of xs)) 0) (ap (λ z. z.single) one ∙ is) ∙ ap (λ z. Some z) one
single-at (y ∷ xs) (suc p) x at is = with-behind y.single y (singles_of xs) (singles_of (take p xs)) x (single-at xs p x at is)

-- the single identifier of that number
pub record IsSingleAt (xs : List Identifier) (n : ℕ) (x : Identifier) : Type 0 where
  pub place : ℕ
  pub there : slice_get xs place ≡ Some x
  pub is : x.single ≡ true
  pub number : singles_before xs place ≡ n

single-later : (y : Identifier) (xs : List Identifier) (m n : ℕ) (x : Identifier) → (s : Bool) → y.single ≡ s → length (with_single s y []) + m ≡ n → IsSingleAt xs m x → IsSingleAt (y ∷ xs) n x
single-later y xs m n x s same count is = record {
  place = suc is.place;
  there = is.there;
  is = is.is;
  number =
      ap (λ z. length (with_single z y (singles_of (take is.place xs)))) same ∙ (with-length s y (singles_of (take is.place xs)) ∙ omega (arith, is.number, count));
}
  where
    with-length : (z : Bool) (w : Identifier) (ws : List Identifier) → length (with_single z w ws) ≡ length (with_single z w []) + length ws
    with-length true w ws = omega arith
    with-length false w ws = omega arith

single-by : (y : Identifier) (xs : List Identifier) (n : ℕ) (x : Identifier) (s : Bool) → y.single ≡ s → ((m : ℕ) → slice_get (singles_of xs) m ≡ Some x → IsSingleAt xs m x) →
    slice_get (with_single s y (singles_of xs)) n ≡ Some x → IsSingleAt (y ∷ xs) n x
single-by y xs n x false same more at = single-later y xs n n x false same (omega arith) (more n at)
single-by y xs zero x true same more at =
    let one : y ≡ x = same_Some y x at in
    record { place = 0; there = at; is = sym (ap (λ z. z.single) one) ∙ same; number = refl }
single-by y xs (suc n) x true same more at = single-later y xs n (suc n) x true same (omega arith) (more n at)

pub single-of : (xs : List Identifier) (n : ℕ) (x : Identifier) → slice_get (singles_of xs) n ≡ Some x → IsSingleAt xs n x
single-of [] n x at = absurd (cc)
single-of (y ∷ xs) n x at = single-by y xs n x y.single refl (λ m found. single-of xs m x found) at

-- how many there are

with-append : (s : Bool) (x : Identifier) (xs ys : List Identifier) → with_single s x (xs ++ ys) ≡ with_single s x xs ++ ys
with-append true x xs ys = refl
with-append false x xs ys = refl

singles-push : (xs : List Identifier) (x : Identifier) → singles_of (xs ++ x ∷ []) ≡ singles_of xs ++ with_single x.single x []
singles-push [] x = refl
singles-push (y ∷ xs) x = ap (with_single y.single y) (singles-push xs x) ∙ with-append y.single y (singles_of xs) (with_single x.single x [])

take-more : {A : Type 0} (xs : List A) (j : ℕ) (x : A) → slice_get xs j ≡ Some x → take (j + 1) xs ≡ take j xs ++ x ∷ []
take-more xs j x at = ap (λ n. take n xs) (let e : j + 1 ≡ suc j = omega arith in e) ∙ more xs j x at
  where
    more : {A : Type 0} (xs : List A) (j : ℕ) (x : A) → slice_get xs j ≡ Some x → take (suc j) xs ≡ take j xs ++ x ∷ []
    more [] j x at = absurd (cc)
    more (y ∷ xs) zero x at = ap (λ z. z ∷ []) (same_Some y x at)
    more (y ∷ xs) (suc j) x at = ap (λ zs. y ∷ zs) (more xs j x at)

pub singles-next : (xs : List Identifier) (p : ℕ) (x : Identifier) → slice_get xs p ≡ Some x → singles_before xs (p + 1) ≡ singles_before xs p + length (with_single x.single x [])
singles-next xs p x at =
    ap (λ ys. length (singles_of ys)) (take-more xs p x at)
    ∙ (ap length (singles-push (take p xs) x) ∙ length-append (singles_of (take p xs)) (with_single x.single x []))

pub single-below : (xs : List Identifier) (p : ℕ) (x : Identifier) → slice_get xs p ≡ Some x → x.single ≡ true → singles_before xs p < length (singles_of xs)
single-below xs p x at is = slice_get_within (singles_of xs) (singles_before xs p) x (single-at xs p x at is)

with-longer : (s : Bool) (y : Identifier) (xs ys : List Identifier) → length xs < length ys → length (with_single s y xs) < length (with_single s y ys)
with-longer true y xs ys less = omega (arith, less)
with-longer false y xs ys less = less

pub singles-rise : (xs : List Identifier) (j p : ℕ) (x : Identifier) → slice_get xs j ≡ Some x → x.single ≡ true → j < p → singles_before xs j < singles_before xs p
singles-rise [] j p x at is less = absurd (cc)
singles-rise (y ∷ xs) zero zero x at is less = absurd (omega (arith, less))
singles-rise (y ∷ xs) zero (suc p) x at is less =
    subst (λ s. 0 < length (with_single s y (singles_of (take p xs)))) (sym (ap (λ z. z.single) (same_Some y x at) ∙ is)) (omega arith)
singles-rise (y ∷ xs) (suc j) zero x at is less = absurd (omega (arith, less))
singles-rise (y ∷ xs) (suc j) (suc p) x at is less = with-longer y.single y (singles_of (take j xs)) (singles_of (take p xs)) (singles-rise xs j p x at is (omega (arith, less)))

with-count : (s : Bool) (y : Identifier) (xs : List Identifier) (n : ℕ) → length xs ≤ n → length (with_single s y xs) ≤ suc n
with-count true y xs n few = omega (arith, few)
with-count false y xs n few = omega (arith, few)

singles-count : (xs : List Identifier) → length (singles_of xs) ≤ length xs
singles-count [] = omega arith
singles-count (y ∷ xs) = with-count y.single y (singles_of xs) (length xs) (singles-count xs)

pub singles-few : (xs : List Identifier) (p : ℕ) → p ≤ length xs → singles_before xs p ≤ p
singles-few xs p within = omega (arith, singles-count (take p xs), length-take-le p xs within)

-- what is read and written, one by one

abbrev pub AreReadTo : Laid → (region : List ℕ) → List Identifier → (told here : List ℕ) → ℕ → Type 0
AreReadTo l region xs told here p =
    (j : ℕ) (y : Identifier) → j < p → slice_get xs j ≡ Some y → AreBitsRead l region y j (singles_before xs j) (has_word_bit told j) (has_word_bit here j)

pub read-more : (l : Laid) (region : List ℕ) (xs : List Identifier) (told here told' here' : List ℕ) (p n : ℕ) (x : Identifier) → slice_get xs p ≡ Some x → n ≡ singles_before xs p →
    AreBitsRead l region x p n (has_word_bit told' p) (has_word_bit here' p) → ((k : ℕ) → (k ≡ p → ⊥) → has_word_bit told' k ≡ has_word_bit told k) → ((k : ℕ) → (k ≡ p → ⊥) → has_word_bit here' k ≡ has_word_bit here k) →
    AreReadTo l region xs told here p → AreReadTo l region xs told' here' (p + 1)
read-more l region xs told here told' here' p n x named number is told_stays here_stays before j y below at = elim (cases_eq j p) [
  | inl same ↦
      let one : x ≡ y = same_Some x y (sym named ∙ (ap (slice_get xs) (sym same) ∙ at)) in
      subst (λ m. AreBitsRead l region y m (singles_before xs m) (has_word_bit told' m) (has_word_bit here' m)) (sym same)
      (subst (λ w. AreBitsRead l region y p w (has_word_bit told' p) (has_word_bit here' p)) number (subst (λ z. AreBitsRead l region z p n (has_word_bit told' p) (has_word_bit here' p)) one is))
  | inr apart ↦
      let was = before j y (omega (arith, below, apart)) at in
      record { told_is = λ single. told_stays j apart ∙ was.told_is single; here_is = here_stays j apart ∙ was.here_is }
]

pub bits-join : (l : Laid) (old mid new : List ℕ) → AreBitsWritten l old mid → AreBitsWritten l mid new → AreBitsWritten l old new
bits-join l old mid new first second = record {
  len = second.len ∙ first.len;
  bytes = λ i outside. second.bytes i outside ∙ first.bytes i outside;
  spare = λ k is. second.spare k is ∙ first.spare k is;
}

pub bits-none : (l : Laid) (region : List ℕ) → AreBitsWritten l region region
bits-none l region = record { len = refl; bytes = λ i outside. refl; spare = λ k is. refl }

pub write-more : (l : Laid) (mid new : List ℕ) (xs : List Identifier) (told here : List ℕ) (p n : ℕ) (x : Identifier) → HasBits l xs → slice_get xs p ≡ Some x → n ≡ singles_before xs p →
    AreBitsRead l new x p n (has_word_bit told p) (has_word_bit here p) → IsOneWritten l x p n mid new → AreReadTo l mid xs told here p → AreReadTo l new xs told here (p + 1)
write-more l mid new xs told here p n x has named number is written before j y below at = elim (cases_eq j p) [
  | inl same ↦
      let one : x ≡ y = same_Some x y (sym named ∙ (ap (slice_get xs) (sym same) ∙ at)) in
      subst (λ m. AreBitsRead l new y m (singles_before xs m) (has_word_bit told m) (has_word_bit here m)) (sym same)
      (subst (λ w. AreBitsRead l new y p w (has_word_bit told p) (has_word_bit here p)) number (subst (λ z. AreBitsRead l new z p n (has_word_bit told p) (has_word_bit here p)) one is))
  | inr apart ↦
      let less : j < p = omega (arith, below, apart) in
      let was = before j y less at in
      let inside : j < l.identifiers = omega (arith, slice_get_within xs j y at, has.all) in
      record {
        told_is = λ single.
            let low : singles_before xs j < l.singles = omega (arith, single-below xs j y at single, has.singles) in
            was.told_is single ∙ sym (written.told (singles_before xs j) low (λ also same. omega (arith, singles-rise xs j p y at single less, same, number)));
        here_is = was.here_is ∙ sym (written.here j inside apart);
      }
]

abbrev pub AreLastTo : Laid → (region : List ℕ) → List Identifier → (last : List ℕ) → ℕ → Type 0
AreLastTo l region xs last p =
    (j : ℕ) (y : Identifier) → j < p → slice_get xs j ≡ Some y → has_word_bit last j ≡ has_bit region (8 * last_at l.singles l.identifiers + j)

pub last-more : (l : Laid) (mid new : List ℕ) (xs : List Identifier) (last : List ℕ) (p n : ℕ) (x : Identifier) → HasBits l xs → has_word_bit last p ≡ has_bit new (8 * last_at l.singles l.identifiers + p) → IsOneWritten l x p n mid new →
    AreLastTo l mid xs last p → AreLastTo l new xs last (p + 1)
last-more l mid new xs last p n x has is written before j y below at = elim (cases_eq j p) [
  | inl same ↦ subst (λ m. has_word_bit last m ≡ has_bit new (8 * last_at l.singles l.identifiers + m)) (sym same) is
  | inr apart ↦
      let inside : j < l.identifiers = omega (arith, slice_get_within xs j y at, has.all) in
      before j y (omega (arith, below, apart)) at ∙ sym (written.last j inside apart)
]

-- rows by words

-- where all are single, each comes as that one among the single ones
all-step : (y : Identifier) (xs : List Identifier) (p : ℕ) (s : Bool) → (length (singles_of xs) ≡ length xs → singles_before xs p ≡ p) → length (with_single s y (singles_of xs)) ≡ suc (length xs) →
    length (with_single s y (singles_of (take p xs))) ≡ suc p
all-step y xs p true rest e = ap suc (rest (omega (arith, e)))
all-step y xs p false rest e = absurd (omega (arith, e, singles-count xs))

all-before : (xs : List Identifier) (p : ℕ) → p ≤ length xs → length (singles_of xs) ≡ length xs → singles_before xs p ≡ p
all-before xs zero within all = refl
all-before [] (suc p) within all = absurd (omega (arith, within))
all-before (y ∷ xs) (suc p) within all = all-step y xs p y.single (all-before xs p (omega (arith, within))) all

below-count : (l : Laid) (xs : List Identifier) (p : ℕ) (x : Identifier) → HasBits l xs → slice_get xs p ≡ Some x → p < l.identifiers
below-count l xs p x has at = omega (arith, slice_get_within xs p x at, has.all)

all-singles : (l : Laid) (xs : List Identifier) (p : ℕ) (x : Identifier) → HasBits l xs → l.singles ≡ length xs → slice_get xs p ≡ Some x → singles_before xs p ≡ p
all-singles l xs p x has all at = all-before xs p (omega (arith, slice_get_within xs p x at)) (sym has.singles ∙ all)

no-single : (l : Laid) (xs : List Identifier) (p : ℕ) (x : Identifier) → HasBits l xs → l.singles ≡ 0 → slice_get xs p ≡ Some x → x.single ≡ true → ⊥
no-single l xs p x has none at is = omega (arith, single-below xs p x at is, has.singles, none)

pub read-all : (l : Laid) (region : List ℕ) (xs : List Identifier) (told' here' told here : List ℕ) → HasBits l xs → l.singles ≡ length xs → IsRowRead told_at l.singles region told' told → IsRowRead (here_at l.singles) l.identifiers region here' here → AreRead l region xs told here
read-all l region xs told' here' told here has all tolds heres p x at = record {
  told_is = λ is. tolds.row_is p (omega (arith, all, slice_get_within xs p x at)) ∙ ap (λ n. has_bit region (8 * told_at + n)) (sym (all-singles l xs p x has all at));
  here_is = heres.row_is p (below-count l xs p x has at);
}

pub read-none : (l : Laid) (region : List ℕ) (xs : List Identifier) (here' told here : List ℕ) → HasBits l xs → l.singles ≡ 0 → IsRowRead (here_at l.singles) l.identifiers region here' here → AreRead l region xs told here
read-none l region xs here' told here has none heres p x at = record {
  told_is = λ is. absurd (no-single l xs p x has none at is);
  here_is = heres.row_is p (below-count l xs p x has at);
}

-- a row that is written leaves the bits outside of it
told-bits : (l : Laid) (row old new : List ℕ) → IsRowWritten told_at l.singles row old new → AreBitsWritten l old new
told-bits l row old new is = record { len = is.len; bytes = λ i out. is.bytes i (by i out); spare = λ k spare. is.others k (spares k spare) }
  where
    by : (i : ℕ) → (i < told_at) ⊎ (fields_at l.singles l.identifiers ≤ i) → (i < told_at) ⊎ (told_at + row_size l.singles ≤ i)
    by i (inl before) = inl before
    by i (inr behind) = inr (omega (arith, behind))

    spares : (k : ℕ) → IsSpareBit l k → (k < 8 * told_at) ⊎ (8 * told_at + l.singles ≤ k)
    spares k (inl told) = inr told.0
    spares k (inr (inl here)) = inr (omega (arith, here.0))
    spares k (inr (inr last)) = inr (omega (arith, last.0))

here-bits : (l : Laid) (row old new : List ℕ) → IsRowWritten (here_at l.singles) l.identifiers row old new → AreBitsWritten l old new
here-bits l row old new is = record { len = is.len; bytes = λ i out. is.bytes i (by i out); spare = λ k spare. is.others k (spares k spare) }
  where
    by : (i : ℕ) → (i < told_at) ⊎ (fields_at l.singles l.identifiers ≤ i) → (i < here_at l.singles) ⊎ (here_at l.singles + row_size l.identifiers ≤ i)
    by i (inl before) = inl (omega (arith, before))
    by i (inr behind) = inr (omega (arith, behind))

    spares : (k : ℕ) → IsSpareBit l k → (k < 8 * here_at l.singles) ⊎ (8 * here_at l.singles + l.identifiers ≤ k)
    spares k (inl told) = inl told.1
    spares k (inr (inl here)) = inr here.0
    spares k (inr (inr last)) = inr (omega (arith, last.0))

last-bits : (l : Laid) (row old new : List ℕ) → IsRowWritten (last_at l.singles l.identifiers) l.identifiers row old new → AreBitsWritten l old new
last-bits l row old new is = record { len = is.len; bytes = λ i out. is.bytes i (by i out); spare = λ k spare. is.others k (spares k spare) }
  where
    by : (i : ℕ) → (i < told_at) ⊎ (fields_at l.singles l.identifiers ≤ i) → (i < last_at l.singles l.identifiers) ⊎ (last_at l.singles l.identifiers + row_size l.identifiers ≤ i)
    by i (inl before) = inl (omega (arith, before))
    by i (inr behind) = inr (omega (arith, behind))

    spares : (k : ℕ) → IsSpareBit l k → (k < 8 * last_at l.singles l.identifiers) ⊎ (8 * last_at l.singles l.identifiers + l.identifiers ≤ k)
    spares k (inl told) = inl (omega (arith, told.1))
    spares k (inr (inl here)) = inl here.1
    spares k (inr (inr last)) = inr last.0

pub ends-written : (l : Laid) (here last old mid new : List ℕ) → IsRowWritten (here_at l.singles) l.identifiers here old mid → IsRowWritten (last_at l.singles l.identifiers) l.identifiers last mid new → AreEndsWritten l here last old new
ends-written l here last old mid new heres lasts = record {
  written = bits-join l old mid new (here-bits l here old mid heres) (last-bits l last mid new lasts);
  here_is = λ p below. lasts.others (8 * here_at l.singles + p) (inl (omega (arith, below))) ∙ heres.row_is p below;
  last_is = λ p below. lasts.row_is p below;
  told = λ k below. lasts.others (8 * told_at + k) (inl (omega (arith, below))) ∙ heres.others (8 * told_at + k) (inl (omega (arith, below)));
}

-- all are written
module _ (l : Laid) (xs : List Identifier) (told here last old mid new : List ℕ) (has : HasBits l xs) (ends : AreEndsWritten l here last mid new) where
  pub all-last : AreLast l new xs last
  all-last p x at = sym (ends.last_is p (below-count l xs p x has at))

  pub all-written : IsRowWritten told_at l.singles told old mid → AreBitsWritten l old new
  all-written is = bits-join l old mid new (told-bits l told old mid is) ends.written

  pub all-read : l.singles ≡ length xs → IsRowWritten told_at l.singles told old mid → AreRead l new xs told here
  all-read all is p x at = record {
    told_is = λ single.
        let low : p < l.singles = omega (arith, all, slice_get_within xs p x at) in
        sym (ap (λ n. has_bit new (8 * told_at + n)) (all-singles l xs p x has all at) ∙ (ends.told p low ∙ is.row_is p low));
    here_is = sym (ends.here_is p (below-count l xs p x has at));
  }

  pub none-read : l.singles ≡ 0 → AreRead l new xs told here
  none-read none p x at = record {
    told_is = λ single. absurd (no-single l xs p x has none at single);
    here_is = sym (ends.here_is p (below-count l xs p x has at));
  }
