-- Bits of a field as they move over a byte.
use Rattle.std.proofs.Common.{◌≡◌, ℕ, zero, suc, ◌+◌, ◌*◌, ◌/◌, ◌%◌, ◌<◌, ◌≤◌, Bool, true, false, ◌&&◌, ◌||◌, List, [], ◌∷◌, ◌++◌, length, get_or, replicate, Some, None, slice_get, eqb, refl, sym, ap, subst, ◌∙◌, inl, inr, arith, vec_len}
use Rattle.std.specs.Prelude.{nat_lt}
use Rattle.std.specs.Int.{bit_at}
use Rattle.std.proofs.lemmas.Bool.{cases_eq, cases_lt, eq-eqb, ne_eqb, lt-ltb, le-ltb}
use Rattle.std.proofs.lemmas.Nat.Bits.{bit_at-zero}
use Rattle.std.proofs.lemmas.Option.{slice_get_past}
use Rattle.std.proofs.lemmas.List.{get_or-replicate, length-replicate}
use Rattle.hs_base.specs.declared.byte_set.ByteSet.{ByteSet}
use Rattle.hs_base.specs.declared.context.Next.{Next}
use Rattle.hs_base.specs.ByteSets.{has}
use Rattle.hs_base.specs.Contexts.{Context, class_of, context_of, prev_at}
use Rattle.hs_base.specs.Trees.{Tree}
use Rattle.hs_base.specs.Fields.{Leaves}
use Rattle.hs_base.specs.WrittenOut.{Core, write_out, set_of}
use Rattle.hs_base.proofs.ContextLemmas.{first_of_both, second_of_both, of_both, of_either, left_of_either, right_of_either}
use Rattle.hs_engine.specs.declared.automaton.Automaton.{Automaton}
use Rattle.hs_engine.specs.declared.follow_rows.FollowRows.{FollowRows}
use Rattle.hs_engine.specs.Automata.{in_set, takes, enters, accepts, follows}
use Rattle.hs_base.specs.Bits.{AreZero, has_bit}
use Rattle.hs_engine.specs.Engines.{AreWakers, IsQuiet}
use Rattle.hs_limex.specs.AutomatonMeanings.{automaton_meaning}
use Rattle.hs_engine.proofs.AutomatonLemmas.{start-clear}
use Rattle.hs_base.proofs.BitLemmas.{bits-past, zero-bits}
use Rattle.hs_engine.specs.Rows.{in_row}
use Rattle.hs_engine.specs.AnyBelow.{any_below}
use Rattle.hs_engine.specs.Agreement.{StepsTo, steps_in, steps_on, IsAccepting}
use Rattle.hs_engine.specs.Tables.{AreFirst, IsClearFrom, IsFor, Runs, leads_to, is_moved}
use Rattle.hs_base.specs.PositionRows.{IsField}
use Rattle.hs_engine.proofs.AgreementLemmas.{reached-steps, steps-reached, leaves-accepting, accepting-leaves}

pub not-true : (b : Bool) → (b ≡ true → ⊥) → b ≡ false
not-true true h = absurd (h refl)
not-true false h = refl

pub true-false : {A : Type 0} (b : Bool) → b ≡ true → b ≡ false → A
true-false b is isnt = absurd (let e : true ≡ false = sym is ∙ isnt in cc)

pub same-truth : (a b : Bool) → (a ≡ true → b ≡ true) → (b ≡ true → a ≡ true) → a ≡ b
same-truth true b there back = sym (there refl)
same-truth false true there back = back refl
same-truth false false there back = refl

-- one of the numbers below passes the test

pub any-some : (n : ℕ) (test : ℕ → Bool) → any_below n test ≡ true → (x : ℕ) × (test x ≡ true)
any-some zero test any = absurd (let e : false ≡ true = any in cc)
any-some (suc n) test any =
    elim (of_either (test n) (any_below n test) any) [
      | inl here ↦ (n, here)
      | inr before ↦ any-some n test before
    ]

pub some-any : (n : ℕ) (test : ℕ → Bool) (x : ℕ) → x < n → test x ≡ true → any_below n test ≡ true
some-any zero test x below is = absurd (omega arith)
some-any (suc n) test x below is =
    elim (cases_eq x n) [
      | inl same ↦ left_of_either (test n) (any_below n test) (subst (λ z. test z ≡ true) same is)
      | inr apart ↦ right_of_either (test n) (any_below n test) (some-any n test x (omega arith) is)
    ]

or-grouped : (a b c : Bool) → (a || (b || c)) ≡ ((a || b) || c)
or-grouped true b c = refl
or-grouped false b c = refl

any-suc : (n : ℕ) (test : ℕ → Bool) → any_below (n + 1) test ≡ (test n || any_below n test)
any-suc n test = let e : n + 1 ≡ suc n = omega arith in ap (λ m. any_below m test) e

-- one more number
pub any-more : (n : ℕ) (test : ℕ → Bool) (before now first : Bool) → before ≡ (any_below n test || first) → now ≡ (test n || before) → now ≡ (any_below (n + 1) test || first)
any-more n test before now first known step =
    step ∙ (ap (λ b. test n || b) known ∙ (or-grouped (test n) (any_below n test) first ∙ ap (λ b. b || first) (sym (any-suc n test))))

-- numbers that don't pass
pub any-skipped : (n m : ℕ) (test : ℕ → Bool) → ((x : ℕ) → n ≤ x → x < n + m → test x ≡ false) → any_below (n + m) test ≡ any_below n test
any-skipped n zero test none = ap (λ k. any_below k test) (let e : n + 0 ≡ n = omega arith in e)
any-skipped n (suc m) test none =
    let e : n + suc m ≡ suc (n + m) = omega arith in
    ap (λ k. any_below k test) e
    ∙ (ap (λ b. b || any_below (n + m) test) (none (n + m) (omega arith) (omega arith)) ∙ any-skipped n m test (λ x above below. none x above (omega arith)))

seam : (a b : Bool) → a ≡ b → ((true && a) || (false && b)) ≡ (true && b)
seam true b same = same
seam false b same = same

-- one more position
pub moved-more : (f : ℕ → Bool) (p k : ℕ) → ((eqb k p && f p) || (nat_lt k p && f k)) ≡ (nat_lt k (p + 1) && f k)
moved-more f p k =
    elim (cases_eq k p) [
      | inl same ↦
          let below : k < p + 1 = omega arith in
          let above : p ≤ k = omega arith in
          rw (eq-eqb k p same, le-ltb k p above, lt-ltb k (p + 1) below) (seam (f p) (f k) (ap f (sym same)))
      | inr apart ↦
          elim (cases_lt k p) [
            | inl under ↦
                let below : k < p + 1 = omega arith in
                rw (ne_eqb k p apart, lt-ltb k p under, lt-ltb k (p + 1) below) refl
            | inr over ↦
                let above : p + 1 ≤ k = omega arith in
                rw (ne_eqb k p apart, le-ltb k p over, le-ltb k (p + 1) above) refl
          ]
    ]

-- a position follows one whose bit is set

module _ (a : Automaton) (bytes : List ℕ) (c : Context) (k : ℕ) where
  pub led-follows : any_below (8 * length bytes) (leads_to a.follows bytes c k) ≡ true → (x : ℕ) × (has_bit bytes x ≡ true) × (follows a x k c ≡ true)
  led-follows led =
      let (x, is) = any-some (8 * length bytes) (leads_to a.follows bytes c k) led in
      (x, first_of_both (has_bit bytes x) (in_row a.follows x k c) is, second_of_both (has_bit bytes x) (in_row a.follows x k c) is)

  pub follows-led : (x : ℕ) → has_bit bytes x ≡ true → follows a x k c ≡ true → any_below (8 * length bytes) (leads_to a.follows bytes c k) ≡ true
  follows-led x set is =
      elim (cases_lt x (8 * length bytes)) [
        | inl below ↦ some-any (8 * length bytes) (leads_to a.follows bytes c k) x below (of_both (has_bit bytes x) (in_row a.follows x k c) set is)
        | inr past ↦ true-false (has_bit bytes x) set (bits-past bytes x past)
      ]

-- a byte of the region in which no bit is set leads nowhere

byte-zero : (bytes : List ℕ) (place x : ℕ) → get_or bytes place 0 ≡ 0 → 8 * place ≤ x → x < 8 * place + 8 → has_bit bytes x ≡ false
unfolding has_bit
byte-zero bytes place x zeros above below =
    let same : x / 8 ≡ place = omega arith in
    ap (λ i. eqb (bit_at (get_or bytes i 0) (x % 8)) 1) same ∙ (ap (λ n. eqb (bit_at n (x % 8)) 1) zeros ∙ ap (λ n. eqb n 1) (bit_at-zero (x % 8)))

pub byte-skipped : (rows : FollowRows) (bytes : List ℕ) (c : Context) (place k : ℕ) (led first : Bool) → get_or bytes place 0 ≡ 0 → led ≡ (any_below (8 * place) (leads_to rows bytes c k) || first) →
    led ≡ (any_below (8 * place + 8) (leads_to rows bytes c k) || first)
byte-skipped rows bytes c place k led first zeros known =
    known
    ∙ ap (λ b. b || first) (sym (any-skipped (8 * place) 8 (leads_to rows bytes c k) (λ x above below. ap (λ b. b && in_row rows x k c) (byte-zero bytes place x zeros above below))))

-- a bit is set only of a position
pub set-below : (bytes : List ℕ) (n x : ℕ) → IsClearFrom bytes n → has_bit bytes x ≡ true → x < n
set-below bytes n x clear set =
    elim (cases_lt x n) [
      | inl below ↦ below
      | inr above ↦ true-false (has_bit bytes x) set (clear x above)
    ]

-- beyond its positions an automaton takes no byte
no-set : (a : Automaton) (b k : ℕ) → vec_len a.sets ≤ k → takes a k b ≡ false
no-set a b k above =
    let past : length a.sets.items ≤ k = omega (arith, a.sets.ok.0) in
    ap (λ o. in_set o b) (slice_get_past a.sets.items k past)

-- the field over one more byte

module _ (a : Automaton) (r : Core) (tables : IsFor a r) (u : List ℕ) (entered : List Bool) (len : length entered ≡ length u) (old : List ℕ) (field : IsField old r u entered)
    (b : ℕ) (byte : b < 256) (entering : Bool) (led : List ℕ) (all_led : (k : ℕ) → has_bit led k ≡ any_below (8 * length old) (leads_to a.follows old (context_of u (class_of b)) k)) where
  abbrev Here : Context
  Here = context_of u (class_of b)

  moved-steps : (k : ℕ) → is_moved a led Here entering b k ≡ true → StepsTo r u entered b entering k
  moved-steps k moved =
      let lead : Bool = has_bit led k || (entering && enters a k Here) in
      let member : slice_get (set_of r k) b ≡ Some true = (tables.sets k b byte).0 (second_of_both lead (takes a k b) moved) in
      elim (of_either (has_bit led k) (entering && enters a k Here) (first_of_both lead (takes a k b) moved)) [
        | inl on ↦
            let (x, set, edge) = led-follows a old Here k (sym (all_led k) ∙ on) in
            steps_on x member ((field x).0 set) (sym (tables.follows x k (prev_at u (length u)) b) ∙ edge)
        | inr begin ↦
            steps_in member (first_of_both entering (enters a k Here) begin) (sym (tables.enters k Here) ∙ second_of_both entering (enters a k Here) begin)
      ]

  steps-moved : (k : ℕ) → StepsTo r u entered b entering k → is_moved a led Here entering b k ≡ true
  steps-moved k (steps_in member enters_now is) =
      of_both (has_bit led k || (entering && enters a k Here)) (takes a k b)
      (right_of_either (has_bit led k) (entering && enters a k Here) (of_both entering (enters a k Here) enters_now (tables.enters k Here ∙ is)))
      ((tables.sets k b byte).1 member)
  steps-moved k (steps_on x member reached is) =
      of_both (has_bit led k || (entering && enters a k Here)) (takes a k b)
      (left_of_either (has_bit led k) (entering && enters a k Here) (all_led k ∙ follows-led a old Here k x ((field x).1 reached) (tables.follows x k (prev_at u (length u)) b ∙ is)))
      ((tables.sets k b byte).1 member)

  takes-below : (k : ℕ) → takes a k b ≡ true → k < vec_len a.sets
  takes-below k is =
      elim (cases_lt k (vec_len a.sets)) [
        | inl below ↦ below
        | inr above ↦ true-false (takes a k b) is (no-set a b k above)
      ]

  pub field-step : (new : List ℕ) → ((k : ℕ) → has_bit new k ≡ (nat_lt k (vec_len a.sets) && is_moved a led Here entering b k)) → IsField new r (u ++ b ∷ []) (entered ++ entering ∷ [])
  field-step new bits k = (
    λ set.
        let both : (nat_lt k (vec_len a.sets) && is_moved a led Here entering b k) ≡ true = sym (bits k) ∙ set in
        steps-reached r u entered b entering k len (moved-steps k (second_of_both (nat_lt k (vec_len a.sets)) (is_moved a led Here entering b k) both)),
    λ reached.
        let moved : is_moved a led Here entering b k ≡ true = steps-moved k (reached-steps r u entered b entering k len reached) in
        let below : k < vec_len a.sets = takes-below k (second_of_both (has_bit led k || (entering && enters a k Here)) (takes a k b) moved) in
        bits k ∙ of_both (nat_lt k (vec_len a.sets)) (is_moved a led Here entering b k) (lt-ltb k (vec_len a.sets) below) moved,
  )

-- the same, where the context has another name
pub field-step_in : (a : Automaton) (r : Core) (tables : IsFor a r) (u : List ℕ) (entered : List Bool) (len : length entered ≡ length u) (old : List ℕ) (field : IsField old r u entered) →
    (b : ℕ) (byte : b < 256) (entering : Bool) (led : List ℕ) (here : Context) → context_of u (class_of b) ≡ here →
    ((k : ℕ) → has_bit led k ≡ any_below (8 * length old) (leads_to a.follows old here k)) → (new : List ℕ) →
    ((k : ℕ) → has_bit new k ≡ (nat_lt k (vec_len a.sets) && is_moved a led here entering b k)) → IsField new r (u ++ b ∷ []) (entered ++ entering ∷ [])
field-step_in a r tables u entered len old field b byte entering led here same =
    let P : Context → Type 0 = λ h. ((k : ℕ) → has_bit led k ≡ any_below (8 * length old) (leads_to a.follows old h k)) → (new : List ℕ) →
    ((k : ℕ) → has_bit new k ≡ (nat_lt k (vec_len a.sets) && is_moved a led h entering b k)) → IsField new r (u ++ b ∷ []) (entered ++ entering ∷ []) in
    subst P same (field-step a r tables u entered len old field b byte entering led)

-- a step from a region at rest, without being entered, moves no position
pub none-moved : (a : Automaton) (old : List ℕ) → AreZero old → (led : List ℕ) (here : Context) (b : ℕ) → ((k : ℕ) → has_bit led k ≡ any_below (8 * length old) (leads_to a.follows old here k)) →
    (k : ℕ) → is_moved a led here false b k ≡ false
none-moved a old zeros led here b all_led k =
    not-true (is_moved a led here false b k)
    (λ moved.
    elim (of_either (has_bit led k) (false && enters a k here) (first_of_both (has_bit led k || (false && enters a k here)) (takes a k b) moved)) [
      | inl on ↦
          let (x, set, edge) = led-follows a old here k (sym (all_led k) ∙ on) in
          true-false (has_bit old x) set (zero-bits old zeros x)
      | inr begin ↦ let e : false ≡ true = begin in cc
    ])

-- a byte with which no match begins, or before which the expression isn't entered, leads nowhere from a region without a bit
module _ (a : Automaton) (r : Core) (first : ByteSet) (tables : IsFor a r) (begins : AreFirst a first) (u : List ℕ) (entered : List Bool) (len : length entered ≡ length u) (region : List ℕ) (field : IsField region r u entered)
    (none : (k : ℕ) → has_bit region k ≡ false) (b : ℕ) (byte : b < 256) (entering : Bool) (outside : (entering && has first b) ≡ false) where
  no-step : (y : ℕ) → StepsTo r u entered b entering y → ⊥
  no-step y (steps_in member enters_now is) =
      let begin : has first b ≡ true = begins y b (context_of u (class_of b)) byte (tables.enters y (context_of u (class_of b)) ∙ is) ((tables.sets y b byte).1 member) in
      true-false (entering && has first b) (of_both entering (has first b) enters_now begin) outside
  no-step y (steps_on x member reached is) = true-false (has_bit region x) ((field x).1 reached) (none x)

  pub field-rests : IsField region r (u ++ b ∷ []) (entered ++ entering ∷ [])
  field-rests y = (
    λ set. true-false (has_bit region y) set (none y),
    λ reached. absurd (no-step y (reached-steps r u entered b entering y len reached)),
  )

-- where the expression is left

module _ (a : Automaton) (tree : Tree) (runs : Runs a tree) (u : List ℕ) (entered : List Bool) (region : List ℕ) (field : IsField region (write_out tree) u entered) (next : Next) where
  pub bit-leaves : (x : ℕ) → has_bit region x ≡ true → accepts a x (context_of u next) ≡ true → Leaves tree u entered next
  bit-leaves x set is =
      accepting-leaves tree u entered next runs.plain runs.ends_last
      (record { position = x; reached = (field x).0 set; accepts = sym (runs.tables.accepts x (context_of u next)) ∙ is })

  pub leaves-bit : Leaves tree u entered next → (x : ℕ) × (has_bit region x ≡ true) × (accepts a x (context_of u next) ≡ true)
  leaves-bit leaves =
      let at : IsAccepting (write_out tree) u entered next = leaves-accepting tree u entered next runs.plain runs.ends_last leaves in
      (at.position, (field at.position).1 at.reached, runs.tables.accepts at.position (context_of u next) ∙ at.accepts)

-- a field without a bit is left nowhere
pub leaves-none : (a : Automaton) (tree : Tree) → Runs a tree → (u : List ℕ) (entered : List Bool) (region : List ℕ) → IsField region (write_out tree) u entered → ((k : ℕ) → has_bit region k ≡ false) →
    (next : Next) → Leaves tree u entered next → ⊥
leaves-none a tree runs u entered region field none next leaves =
    let (x, set, is) = leaves-bit a tree runs u entered region field next leaves in
    true-false (has_bit region x) set (none x)

no-bits_steps : (r : Core) (u : List ℕ) (entered : List Bool) (region : List ℕ) → IsField region r u entered → ((k : ℕ) → has_bit region k ≡ false) → (b y : ℕ) → StepsTo r u entered b false y → ⊥
no-bits_steps r u entered region field none b y (steps_in member enters_now is) = let e : false ≡ true = enters_now in cc
no-bits_steps r u entered region field none b y (steps_on x member reached is) = true-false (has_bit region x) ((field x).1 reached) (none x)

-- and stays where the expression isn't entered
pub field-still : (r : Core) (u : List ℕ) (entered : List Bool) (region : List ℕ) → length entered ≡ length u → IsField region r u entered → ((k : ℕ) → has_bit region k ≡ false) → (b : ℕ) →
    IsField region r (u ++ b ∷ []) (entered ++ false ∷ [])
field-still r u entered region len field none b k = (
  λ set. true-false (has_bit region k) set (none k),
  λ reached. absurd (no-bits_steps r u entered region field none b k (reached-steps r u entered b false k len reached)),
)

pub both-false : (a b : Bool) → b ≡ false → (a && b) ≡ false
both-false true b isnt = isnt
both-false false b isnt = refl

pub field-quiet : (a : Automaton) (region : List ℕ) → AreZero region → IsQuiet (automaton_meaning a) region
field-quiet a region zeros = record {
  stays = λ never b byte tree u entered runs len field. field-still (write_out tree) u entered region len field (zero-bits region zeros) b;
  leaves_nothing = λ tree u entered runs len field. leaves-none a tree runs u entered region field (zero-bits region zeros);
}

-- the field of the empty stream sleeps over each byte with which no match begins
pub field-asleep : (a : Automaton) (first : ByteSet) → AreFirst a first → AreWakers (automaton_meaning a) first
field-asleep a first begins region b start byte outside = record {
  stays = λ enters tree u entered runs len field.
      field-rests a (write_out tree) first runs.tables begins u entered len region field (start-clear (write_out tree) region (start tree runs)) b byte enters (both-false enters (has first b) outside);
  leaves_nothing = λ tree u entered runs len field. leaves-none a tree runs u entered region field (start-clear (write_out tree) region (start tree runs));
}

-- no position is reached in the empty stream
pub field-empty : (region : List ℕ) (r : Core) → AreZero region → IsField region r [] []
field-empty region r zeros x =
    (λ set. true-false (has_bit region x) set (zero-bits region zeros x), λ reached. absurd (let none : None ≡ Some true = reached.is_entered in cc))

zeros-replicate : (n : ℕ) → AreZero (replicate n 0)
zeros-replicate n i below = get_or-replicate n i 0 0 (omega (arith, length-replicate {A = ℕ} n 0))

or-dropped : (x any z : Bool) → x ≡ (any || z) → z ≡ false → x ≡ any
or-dropped x true z both none = both
or-dropped x false z both none = both ∙ none

-- where no bit was set before, those to which others lead are set
pub led-from_zeros : (led : List ℕ) (n k : ℕ) (any : Bool) → has_bit led k ≡ (any || has_bit (replicate n 0) k) → has_bit led k ≡ any
led-from_zeros led n k any bits = or-dropped (has_bit led k) any (has_bit (replicate n 0) k) bits (zero-bits (replicate n 0) (zeros-replicate n) k)
