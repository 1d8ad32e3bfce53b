-- Values are discovered in one order.
use Rattle.std.proofs.Common.{◌≡◌, ℕ, zero, suc, ◌+◌, ◌<◌, ◌≤◌, List, [], ◌∷◌, length, get_or, Some, slice_get, refl, sym, ap, subst, ◌∙◌, inl, inr, arith}
use Rattle.std.proofs.lemmas.Bool.{cases_lt}
use Rattle.std.proofs.lemmas.Option.{slice_get_within, slice_get_past, slice_get-get_or, same_Some, none-some}
use Rattle.hs_states.specs.Discovery.{IsMove, LeadsBelow, IsTakenBefore, earlier_value, lesser_byte, IsDiscovered, AreDiscovered, AreAllDiscovered}

-- which of two pairs is taken first
pub data Order (i b j c : ℕ) : Type 0 where
  before : IsTakenBefore j c i b → Order i b j c
  behind : IsTakenBefore i b j c → Order i b j c
  equal : i ≡ j → b ≡ c → Order i b j c

pub order-of : (i b j c : ℕ) → Order i b j c
order-of i b j c =
    elim (cases_lt i j) [
      | inl less ↦ before (earlier_value less)
      | inr above ↦ elim (cases_lt j i) [
        | inl more ↦ behind (earlier_value more)
        | inr below ↦
            let same : i ≡ j = omega arith in
            elim (cases_lt b c) [
              | inl less ↦ before (lesser_byte same less)
              | inr high ↦ elim (cases_lt c b) [
                | inl more ↦ behind (lesser_byte (sym same) more)
                | inr low ↦ equal same (omega arith)
              ]
            ]
      ]
    ]

module _ {S : Type 0} (first : S) (move : S → ℕ → S) (xs ys : List S) (some : AreDiscovered first move xs) (all : AreAllDiscovered first move ys) where
  -- both have the same values below that number
  abbrev Agree : ℕ → Type 0
  Agree n = (j : ℕ) → j < n → j < length xs → slice_get xs j ≡ slice_get ys j

  -- the values of a move are the same in both
  same-source : (n : ℕ) → Agree n → (i : ℕ) → i < n → i < length xs → (s t : S) → slice_get xs i ≡ Some s → slice_get ys i ≡ Some t → s ≡ t
  same-source n agree i below within s t one other = same_Some s t (sym one ∙ (agree i below within ∙ other))

  -- a value of an earlier number that is the same as the next one of the first list
  not-earlier : (n : ℕ) → Agree n → n < length xs → (value : S) → slice_get xs n ≡ Some value → (k : ℕ) → k < n → slice_get ys k ≡ Some value → ⊥
  not-earlier n agree within value is k below there =
      let same : k ≡ n = some.once k n value (agree k below (omega arith) ∙ there) is in
      absurd (omega arith)

  by-order : (n : ℕ) → Agree n → n < length xs → n < length ys → (d : IsDiscovered move xs n) → (e : IsDiscovered move ys n) →
      Order d.source d.byte e.source e.byte → slice_get xs n ≡ slice_get ys n
  by-order n agree within within' d e (before taken) =
      let known = e.first d.source d.byte d.small taken in
      let s = d.is.source in
      let same : s ≡ known.is.source = same-source n agree d.source d.earlier (omega (arith, d.earlier)) s known.is.source d.is.at known.is.at in
      absurd (not-earlier n agree within (move s d.byte) d.is.leads known.to known.below (known.is.leads ∙ ap (λ z. Some (move z d.byte)) (sym same)))
  by-order n agree within within' d e (behind taken) =
      let known = d.first e.source e.byte e.small taken in
      let t = e.is.source in
      let same : known.is.source ≡ t = same-source n agree e.source e.earlier (omega (arith, e.earlier)) known.is.source t known.is.at e.is.at in
      let there : slice_get ys known.to ≡ Some (move t e.byte) =
      sym (agree known.to known.below (omega (arith, known.below))) ∙ (known.is.leads ∙ ap (λ z. Some (move z e.byte)) same) in
      let place : known.to ≡ n = all.so_far.once known.to n (move t e.byte) there e.is.leads in
      absurd (omega (arith, known.below))
  by-order n agree within within' d e (equal values bytes) =
      let s = d.is.source in
      let t = e.is.source in
      let at : slice_get ys d.source ≡ Some t = ap (slice_get ys) values ∙ e.is.at in
      let same : s ≡ t = same-source n agree d.source d.earlier (omega (arith, d.earlier)) s t d.is.at at in
      d.is.leads ∙ (ap (λ z. Some (move z d.byte)) same ∙ (ap (λ c. Some (move t c)) bytes ∙ sym e.is.leads))

  -- the second list has a value of the next number
  next-within : (n : ℕ) → Agree n → n < length xs → IsDiscovered move xs n → n < length ys
  next-within n agree within d =
      let s = d.is.source in
      let at : slice_get ys d.source ≡ Some s = sym (agree d.source d.earlier (omega (arith, d.earlier))) ∙ d.is.at in
      let known = all.closed d.source d.byte (slice_get_within ys d.source s at) d.small in
      let same : s ≡ known.is.source = same_Some s known.is.source (sym at ∙ known.is.at) in
      elim (cases_lt known.to n) [
        | inl earlier ↦ absurd (not-earlier n agree within (move s d.byte) d.is.leads known.to earlier (known.is.leads ∙ ap (λ z. Some (move z d.byte)) (sym same)))
        | inr above ↦ omega (arith, known.below)
      ]

  next-agrees : (n : ℕ) → Agree n → n < length xs → slice_get xs n ≡ slice_get ys n
  next-agrees n agree within =
      elim (cases_lt 0 n) [
        | inl positive ↦
            let d = some.discovered n positive within in
            let within' : n < length ys = next-within n agree within d in
            let e = all.so_far.discovered n positive within' in
            by-order n agree within within' d e (order-of d.source d.byte e.source e.byte)
        | inr none_before ↦
            let same : n ≡ 0 = omega arith in
            ap (slice_get xs) same ∙ (some.begins ∙ (sym all.so_far.begins ∙ ap (slice_get ys) (sym same)))
      ]

  agree-below : (n : ℕ) → Agree n
  agree-below zero j below within = absurd (omega arith)
  agree-below (suc n) j below within =
      elim (cases_lt j n) [
        | inl less ↦ agree-below n j less within
        | inr above ↦
            let same : j ≡ n = omega arith in
            next-agrees j (subst Agree (sym same) (agree-below n)) within
      ]

  -- what is discovered so far are the first ones of all
  pub values-agree : (j : ℕ) → j < length xs → slice_get xs j ≡ slice_get ys j
  values-agree j within = agree-below (j + 1) j (omega arith) within

  pub no-longer : length xs ≤ length ys
  no-longer =
      elim (cases_lt (length ys) (length xs)) [
        | inl less ↦
            let n : ℕ = length ys in
            let is : slice_get xs n ≡ Some (get_or xs n first) = slice_get-get_or xs n first less in
            absurd (none-some (get_or xs n first) (sym (slice_get_past ys n (omega arith)) ∙ (sym (values-agree n less) ∙ is)))
        | inr above ↦ omega arith
      ]

pub same-lists : {S : Type 0} (xs ys : List S) → length xs ≡ length ys → ((j : ℕ) → j < length xs → slice_get xs j ≡ slice_get ys j) → xs ≡ ys
same-lists [] [] len same = refl
same-lists [] (y ∷ ys) len same = absurd (omega arith)
same-lists (x ∷ xs) [] len same = absurd (omega arith)
same-lists (x ∷ xs) (y ∷ ys) len same =
    let heads : x ≡ y = same_Some x y (same 0 (omega arith)) in
    let tails : xs ≡ ys = same-lists xs ys (omega arith) (λ i below. same (suc i) (omega arith)) in
    ap (λ z. z ∷ xs) heads ∙ ap (λ zs. y ∷ zs) tails

pub one-order : {S : Type 0} (first : S) (move : S → ℕ → S) (xs ys : List S) → AreAllDiscovered first move xs → AreAllDiscovered first move ys → xs ≡ ys
one-order first move xs ys one other =
    let shorter : length xs ≤ length ys = no-longer first move xs ys one.so_far other in
    let longer : length ys ≤ length xs = no-longer first move ys xs other.so_far one in
    same-lists xs ys (omega arith) (values-agree first move xs ys one.so_far other)

-- moves that are the same for each byte have the same order

module _ {S : Type 0} (move other : S → ℕ → S) (same : (s : S) (b : ℕ) → b < 256 → move s b ≡ other s b) (values : List S) where
  pub move-as : (from byte to : ℕ) → byte < 256 → IsMove move values from byte to → IsMove other values from byte to
  move-as from byte to small is = record { source = is.source; at = is.at; leads = is.leads ∙ ap (λ z. Some z) (same is.source byte small) }

  below-as : (bound from byte : ℕ) → byte < 256 → LeadsBelow move values bound from byte → LeadsBelow other values bound from byte
  below-as bound from byte small leads = record { to = leads.to; below = leads.below; is = move-as from byte leads.to small leads.is }

  discovered-as : (number : ℕ) → IsDiscovered move values number → IsDiscovered other values number
  discovered-as number d =
      record {
        source = d.source;
        byte = d.byte;
        earlier = d.earlier;
        small = d.small;
        is = move-as d.source d.byte number d.small d.is;
        first = λ i b small taken. below-as number i b small (d.first i b small taken);
      }

  pub so_far-as : (first : S) → AreDiscovered first move values → AreDiscovered first other values
  so_far-as first so_far = record { begins = so_far.begins; once = so_far.once; discovered = λ n positive within. discovered-as n (so_far.discovered n positive within) }

  pub all-as : (first : S) → AreAllDiscovered first move values → AreAllDiscovered first other values
  all-as first all = record { so_far = so_far-as first all.so_far; closed = λ i b within small. below-as (length values) i b small (all.closed i b within small) }
