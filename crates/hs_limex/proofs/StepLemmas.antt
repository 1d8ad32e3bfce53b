-- The step by words: which positions it leads to, and what field it makes.
use Rattle.std.proofs.Common.{◌≡◌, ℕ, zero, suc, ◌+◌, ◌-◌, ◌*◌, ◌%◌, ◌<◌, ◌≤◌, Bool, true, false, ◌&&◌, ◌||◌, List, [], ◌∷◌, ◌++◌, length, refl, sym, ap, subst, ◌∙◌, ◌⊎◌, inl, inr, arith, vec_len}
use Rattle.std.specs.Prelude.{nat_lt, nat_le}
use Rattle.std.proofs.lemmas.Bool.{cases_lt, lt-ltb, le-leb, leb-true}
use Rattle.std.proofs.lemmas.Option.{slice_get_past}
use Rattle.hs_base.specs.Contexts.{Context, class_of, context_of, context_number, prev_at}
use Rattle.hs_base.specs.WrittenOut.{Core}
use Rattle.hs_base.proofs.ContextLemmas.{first_of_both, second_of_both, of_both, of_either, left_of_either, right_of_either}
use Rattle.hs_base.proofs.ContextSetLemmas.{context_number-lt}
use Rattle.hs_engine.specs.declared.automaton.Automaton.{Automaton}
use Rattle.hs_engine.specs.Automata.{in_set, takes}
use Rattle.hs_base.specs.Bits.{has_bit}
use Rattle.hs_engine.specs.Rows.{in_row}
use Rattle.hs_engine.specs.AnyBelow.{any_below}
use Rattle.hs_engine.specs.Agreement.{StepsTo, steps_in, steps_on}
use Rattle.hs_engine.specs.Tables.{IsFor}
use Rattle.hs_base.specs.PositionRows.{IsField}
use Rattle.hs_engine.proofs.AgreementLemmas.{reached-steps, steps-reached}
use Rattle.hs_limex.proofs.PlainLemmas.{any-some, some-any, true-false}
use Rattle.hs_limex.specs.declared.tables.Tables.{Tables}
use Rattle.hs_base.specs.Bits.{has_word_bit}
use Rattle.hs_limex.specs.WordTables.{in_table}
use Rattle.hs_limex.specs.Near.{IsNearFrom}
use Rattle.hs_limex.specs.PositionMoves.{PositionMoves}
use Rattle.hs_limex.specs.TableMoves.{moves_of_tables}
use Rattle.hs_limex.specs.Leading.{far_leads, near_leads}
use Rattle.hs_limex.specs.Fitting.{Fits, IsLed, led_in, led_on}
use Rattle.hs_bits.proofs.WordLemmas.{or-none}

pub true-or-false : (b : Bool) → (b ≡ true) ⊎ (b ≡ false)
true-or-false true = inl refl
true-or-false false = inr refl

-- one of the numbers below passes the test
pub any-some_below : (n : ℕ) (test : ℕ → Bool) → any_below n test ≡ true → (x : ℕ) × (x < n) × (test x ≡ true)
any-some_below zero test any = absurd (let e : false ≡ true = any in cc)
any-some_below (suc n) test any =
    elim (of_either (test n) (any_below n test) any) [
      | inl here ↦ (n, omega arith, here)
      | inr before ↦ let (x, below, is) = any-some_below n test before in (x, omega arith, is)
    ]

module _ (t : Tables) (live row : List ℕ) (c : Context) (entering : Bool) (row_is : (x : ℕ) → has_word_bit row x ≡ in_table t.far 0 x) (k : ℕ) where
  abbrev On : Bool
  On = any_below (64 * length row) (far_leads t.follows live row c k) || any_below t.span (near_leads t.near live (context_number c) k)

  abbrev Lead : Bool
  Lead = (entering && in_table t.enters (context_number c) k) || On

  near-led : (d : ℕ) → d < 8 → near_leads t.near live (context_number c) k d ≡ true → IsLed (moves_of_tables t) (has_word_bit live) c entering k
  near-led d small is =
      let reaches : Bool = has_word_bit live (k - d) && in_table t.near (8 * context_number c + d) (k - d) in
      let inside : (nat_le d k && reaches) ≡ true = second_of_both (nat_lt k (64 * t.near.width)) (nat_le d k && reaches) is in
      let both : reaches ≡ true = second_of_both (nat_le d k) reaches inside in
      let above : d ≤ k = leb-true d k (first_of_both (nat_le d k) reaches inside) in
      let back : k - d + d ≡ k = omega arith in
      led_on (k - d) (first_of_both (has_word_bit live (k - d)) (in_table t.near (8 * context_number c + d) (k - d)) both)
      (ap (λ y. in_row t.follows (k - d) y c) (sym back) ∙ (sym (t.near_bits c d (k - d) small) ∙ second_of_both (has_word_bit live (k - d)) (in_table t.near (8 * context_number c + d) (k - d)) both))

  pub lead-sound : Lead ≡ true → IsLed (moves_of_tables t) (has_word_bit live) c entering k
  lead-sound is =
      elim (of_either (entering && in_table t.enters (context_number c) k) On is) [
        | inl begin ↦ led_in (first_of_both entering (in_table t.enters (context_number c) k) begin) (second_of_both entering (in_table t.enters (context_number c) k) begin)
        | inr on ↦ elim (of_either (any_below (64 * length row) (far_leads t.follows live row c k)) (any_below t.span (near_leads t.near live (context_number c) k)) on) [
          | inl some ↦
              let (x, leads) = any-some (64 * length row) (far_leads t.follows live row c k) some in
              led_on x (first_of_both (has_word_bit live x) (has_word_bit row x && in_row t.follows x k c) leads)
              (second_of_both (has_word_bit row x) (in_row t.follows x k c) (second_of_both (has_word_bit live x) (has_word_bit row x && in_row t.follows x k c) leads))
          | inr some ↦
              let (d, below, leads) = any-some_below t.span (near_leads t.near live (context_number c) k) some in
              near-led d (omega (arith, below, t.short)) leads
        ]
      ]

  on-far : (x : ℕ) → length row ≡ t.reach.width → has_word_bit live x ≡ true → in_row t.follows x k c ≡ true → in_table t.far 0 x ≡ true → On ≡ true
  on-far x wide set is apart =
      left_of_either (any_below (64 * length row) (far_leads t.follows live row c k)) (any_below t.span (near_leads t.near live (context_number c) k))
      (some-any (64 * length row) (far_leads t.follows live row c k) x (omega (arith, wide, t.wide, t.far_few x apart))
      (of_both (has_word_bit live x) (has_word_bit row x && in_row t.follows x k c) set (of_both (has_word_bit row x) (in_row t.follows x k c) (row_is x ∙ apart) is)))

  on-near : (x : ℕ) → k < 64 * t.reach.width → has_word_bit live x ≡ true → in_row t.follows x k c ≡ true → x ≤ k → k < x + 8 → On ≡ true
  on-near x inside set is least most =
      let d : ℕ = k - x in
      let n : ℕ = 8 * context_number c + d in
      let small : d < 8 = omega arith in
      let above : d ≤ k = omega arith in
      let from : k - d ≡ x = omega arith in
      let to : x + d ≡ k = omega arith in
      let bit : in_table t.near n x ≡ true = t.near_bits c d x small ∙ (ap (λ y. in_row t.follows x y c) to ∙ is) in
      let place : n % 8 ≡ d = omega arith in
      let below : d < t.span = omega (arith, place, t.used n x (omega (arith, small, context_number-lt c)) bit) in
      let reaches : (has_word_bit live (k - d) && in_table t.near n (k - d)) ≡ true =
      of_both (has_word_bit live (k - d)) (in_table t.near n (k - d)) (ap (has_word_bit live) from ∙ set) (ap (in_table t.near n) from ∙ bit) in
      right_of_either (any_below (64 * length row) (far_leads t.follows live row c k)) (any_below t.span (near_leads t.near live (context_number c) k))
      (some-any t.span (near_leads t.near live (context_number c) k) d below
      (of_both (nat_lt k (64 * t.near.width)) (nat_le d k && (has_word_bit live (k - d) && in_table t.near n (k - d))) (lt-ltb k (64 * t.near.width) (omega (arith, inside, t.near_width)))
      (of_both (nat_le d k) (has_word_bit live (k - d) && in_table t.near n (k - d)) (le-leb d k above) reaches)))

  on-led : (x : ℕ) → length row ≡ t.reach.width → k < 64 * t.reach.width → has_word_bit live x ≡ true → in_row t.follows x k c ≡ true → On ≡ true
  on-led x wide inside set is =
      elim (true-or-false (in_table t.far 0 x)) [
        | inl apart ↦ on-far x wide set is apart
        | inr beside ↦
            let place : IsNearFrom x k = t.rest c x k is beside in
            on-near x inside set is place.least place.most
      ]

  pub lead-whole : length row ≡ t.reach.width → k < 64 * t.reach.width → IsLed (moves_of_tables t) (has_word_bit live) c entering k → Lead ≡ true
  lead-whole wide inside (led_in enters_now is) = left_of_either (entering && in_table t.enters (context_number c) k) On (of_both entering (in_table t.enters (context_number c) k) enters_now is)
  lead-whole wide inside (led_on x set is) = right_of_either (entering && in_table t.enters (context_number c) k) On (on-led x wide inside set is)

chained : (e f n old near far now : Bool) → old ≡ false → near ≡ (n || old) → far ≡ (f || near) → now ≡ (e || far) → now ≡ (e || (f || n))
chained e f n old near far now none a b d = d ∙ ap (λ x. e || x) (b ∙ ap (λ x. f || x) (a ∙ (ap (λ x. n || x) none ∙ or-none n)))

-- the bits that a step sets, one call after the other
pub lead-chain : (t : Tables) (live row : List ℕ) (c : Context) (entering : Bool) (k number : ℕ) → number ≡ context_number c → (old near_now far_now now : Bool) → old ≡ false →
    near_now ≡ (any_below t.span (near_leads t.near live number k) || old) → far_now ≡ (any_below (64 * length row) (far_leads t.follows live row c k) || near_now) →
    now ≡ ((entering && in_table t.enters number k) || far_now) →
    now ≡ ((entering && in_table t.enters (context_number c) k) || (any_below (64 * length row) (far_leads t.follows live row c k) || any_below t.span (near_leads t.near live (context_number c) k)))
lead-chain t live row c entering k number same old near_now far_now now none a b d =
    chained (entering && in_table t.enters number k) (any_below (64 * length row) (far_leads t.follows live row c k)) (any_below t.span (near_leads t.near live number k)) old near_now far_now now none a b d
    ∙ ap (λ m. (entering && in_table t.enters m k) || (any_below (64 * length row) (far_leads t.follows live row c k) || any_below t.span (near_leads t.near live m k))) same

-- what is live, read from a region
pub read-bits : (b zero_bit now : Bool) → zero_bit ≡ false → now ≡ (b || zero_bit) → now ≡ b
read-bits b zero_bit now none is = is ∙ (ap (λ x. b || x) none ∙ or-none b)

-- the same, where what is live has another name
pub led-as : (t : PositionMoves) (live other : ℕ → Bool) (c : Context) (entering : Bool) (k : ℕ) → ((x : ℕ) → live x ≡ other x) → IsLed t live c entering k → IsLed t other c entering k
led-as t live other c entering k same (led_in enters_now is) = led_in enters_now is
led-as t live other c entering k same (led_on x set is) = led_on x (sym (same x) ∙ set) is

-- beyond its positions an automaton takes no byte
pub takes-below : (a : Automaton) (b k : ℕ) → takes a k b ≡ true → k < vec_len a.sets
takes-below a b k is =
    elim (cases_lt k (vec_len a.sets)) [
      | inl below ↦ below
      | inr above ↦
          let past : length a.sets.items ≤ k = omega (arith, a.sets.ok.0) in
          true-false (takes a k b) is (ap (λ o. in_set o b) (slice_get_past a.sets.items k past))
    ]

-- the field over one more byte

module _ (t : PositionMoves) (a : Automaton) (fits : Fits t a) (r : Core) (tables : IsFor a r) (u : List ℕ) (entered : List Bool) (len : length entered ≡ length u) (old : List ℕ) (field : IsField old r u entered)
    (b : ℕ) (byte : b < 256) (entering : Bool) where
  abbrev Here : Context
  Here = context_of u (class_of b)

  led-steps : (k : ℕ) → t.reach b k ≡ true → IsLed t (has_bit old) Here entering k → StepsTo r u entered b entering k
  led-steps k reach (led_in enters_now is) =
      steps_in ((tables.sets k b byte).0 (sym (fits.reach b k byte) ∙ reach)) enters_now (sym (tables.enters k Here) ∙ (sym (fits.enters Here k) ∙ is))
  led-steps k reach (led_on x set is) =
      steps_on x ((tables.sets k b byte).0 (sym (fits.reach b k byte) ∙ reach)) ((field x).0 set) (sym (tables.follows x k (prev_at u (length u)) b) ∙ (sym (fits.follows x k Here) ∙ is))

  steps-led : (k : ℕ) → StepsTo r u entered b entering k → IsLed t (has_bit old) Here entering k
  steps-led k (steps_in member enters_now is) = led_in enters_now (fits.enters Here k ∙ (tables.enters k Here ∙ is))
  steps-led k (steps_on x member reached is) = led_on x ((field x).1 reached) (fits.follows x k Here ∙ (tables.follows x k (prev_at u (length u)) b ∙ is))

  steps-takes : (k : ℕ) → StepsTo r u entered b entering k → takes a k b ≡ true
  steps-takes k (steps_in member enters_now is) = (tables.sets k b byte).1 member
  steps-takes k (steps_on x member reached is) = (tables.sets k b byte).1 member

  pub field-step : (new : List ℕ) → vec_len a.sets ≤ 8 * length old → ((k : ℕ) → has_bit new k ≡ true → (t.reach b k ≡ true) × IsLed t (has_bit old) Here entering k) →
      ((k : ℕ) → k < 8 * length old → t.reach b k ≡ true → IsLed t (has_bit old) Here entering k → has_bit new k ≡ true) → IsField new r (u ++ b ∷ []) (entered ++ entering ∷ [])
  field-step new room sound whole k = (
    λ set. let (reach, led) = sound k set in steps-reached r u entered b entering k len (led-steps k reach led),
    λ reached.
        let step : StepsTo r u entered b entering k = reached-steps r u entered b entering k len reached in
        let member : takes a k b ≡ true = steps-takes k step in
        whole k (omega (arith, room, takes-below a b k member)) (fits.reach b k byte ∙ member) (steps-led k step),
  )

-- the same, where the context has another name
pub field-step_in : (t : PositionMoves) (a : Automaton) → Fits t a → (r : Core) → IsFor a r → (u : List ℕ) (entered : List Bool) → length entered ≡ length u → (old : List ℕ) → IsField old r u entered →
    (b : ℕ) → b < 256 → (entering : Bool) (here : Context) → context_of u (class_of b) ≡ here → (new : List ℕ) → vec_len a.sets ≤ 8 * length old →
    ((k : ℕ) → has_bit new k ≡ true → (t.reach b k ≡ true) × IsLed t (has_bit old) here entering k) →
    ((k : ℕ) → k < 8 * length old → t.reach b k ≡ true → IsLed t (has_bit old) here entering k → has_bit new k ≡ true) → IsField new r (u ++ b ∷ []) (entered ++ entering ∷ [])
field-step_in t a fits r tables u entered len old field b byte entering here same new room =
    let P : Context → Type 0 = λ h. ((k : ℕ) → has_bit new k ≡ true → (t.reach b k ≡ true) × IsLed t (has_bit old) h entering k) →
    ((k : ℕ) → k < 8 * length old → t.reach b k ≡ true → IsLed t (has_bit old) h entering k → has_bit new k ≡ true) → IsField new r (u ++ b ∷ []) (entered ++ entering ∷ []) in
    subst P same (field-step t a fits r tables u entered len old field b byte entering new room)
