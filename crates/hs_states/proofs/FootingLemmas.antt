-- Footings as states: by their bits, and where bytes lead.
use Rattle.std.proofs.Common.{◌≡◌, ℕ, zero, suc, ◌+◌, ◌*◌, ◌/◌, ◌%◌, ◌^◌, ◌<◌, ◌≤◌, Bool, true, false, ◌&&◌, ◌||◌, List, [], ◌∷◌, map, length, get_or, eqb, Option, Some, None, slice_get, refl, sym, ap, ◌∙◌, inl, inr, arith, replicate, vec_len}
use Rattle.std.specs.Int.{bit_at}
use Rattle.std.specs.Option.{option_map}
use Rattle.std.proofs.lemmas.Bool.{cases_lt}
use Rattle.std.proofs.lemmas.List.{get_or_past, get_or-replicate}
use Rattle.std.proofs.lemmas.Nat.Bits.{bit_at-lt, same_from_bits_below}
use Rattle.std.proofs.lemmas.Option.{slice_get-map, slice_get_past, same_Some, none-some}
use Rattle.hs_base.specs.declared.context.Next.{Next}
use Rattle.hs_base.specs.Assertions.{line_feed, is_word_byte}
use Rattle.hs_base.specs.Bits.{has_word_bit}
use Rattle.hs_base.specs.Contexts.{Context, class_of, next_by, prev_by}
use Rattle.hs_base.proofs.ContextLemmas.{first_of_both}
use Rattle.std.specs.Slice.Scan.{HoldsNowhere}
use Rattle.hs_bits.specs.NextBits.{IsNextBit}
use Rattle.hs_bits.proofs.WordLemmas.{or-turned, words-past, words-zero}
use Rattle.hs_engine.specs.declared.automaton.Automaton.{Automaton}
use Rattle.hs_engine.specs.AnyBelow.{any_below}
use Rattle.hs_base.specs.declared.context.Mask.{Mask}
use Rattle.hs_engine.specs.Automata.{enters, follows, in_mask, in_set, takes}
use Rattle.hs_engine.specs.Rows.{in_row}
use Rattle.hs_engine.specs.declared.follow_rows.FollowRows.{FollowRows}
use Rattle.hs_engine.specs.Between.{between}
use Rattle.hs_states.specs.AutomatonStates.{IsFootingOf, state_of, tests_by}
use Rattle.hs_states.specs.DfaStates.{DfaState, is_led_to, is_live, kept_prev, move_by}
use Rattle.hs_states.specs.Footings.{HasPositionsBelow, IsAlike, IsNewTo, is_led_on, is_moved_to}
use Rattle.hs_states.specs.NextBehind.{next_behind}
use Rattle.hs_states.specs.declared.footing.Footing.{Footing}
use Rattle.hs_states.proofs.StateLemmas.{any-same, live-where, not-true, same-where, true-false}

-- words with the same bits

or-grouped : (a b c : Bool) → ((a || b) || c) ≡ (a || (b || c))
or-grouped true b c = refl
or-grouped false b c = refl

same-number : (n m : ℕ) → n < 2 → m < 2 → eqb n 1 ≡ eqb m 1 → n ≡ m
same-number zero zero below above same = refl
same-number zero (suc zero) below above same = absurd (let e : false ≡ true = same in cc)
same-number (suc zero) zero below above same = absurd (let e : true ≡ false = same in cc)
same-number (suc zero) (suc zero) below above same = refl
same-number (suc (suc n)) m below above same = absurd (omega arith)
same-number n (suc (suc m)) below above same = absurd (omega arith)

pub same-word : (xs ys : List ℕ) (i : ℕ) → get_or xs i 0 < 2 ^ 64 → get_or ys i 0 < 2 ^ 64 → ((k : ℕ) → has_word_bit xs k ≡ has_word_bit ys k) → get_or xs i 0 ≡ get_or ys i 0
unfolding has_word_bit
same-word xs ys i small small' same =
    same_from_bits_below 64 (get_or xs i 0) (get_or ys i 0) small small' (λ j below.
    let place : (64 * i + j) / 64 ≡ i = omega arith in
    let bit : (64 * i + j) % 64 ≡ j = omega arith in
    let here : eqb (bit_at (get_or xs i 0) j) 1 ≡ eqb (bit_at (get_or ys i 0) j) 1 =
    sym (ap (λ p. eqb (bit_at (get_or xs p 0) ((64 * i + j) % 64)) 1) place ∙ ap (λ q. eqb (bit_at (get_or xs i 0) q) 1) bit)
    ∙ (same (64 * i + j)
    ∙ (ap (λ p. eqb (bit_at (get_or ys p 0) ((64 * i + j) % 64)) 1) place ∙ ap (λ q. eqb (bit_at (get_or ys i 0) q) 1) bit)) in
    same-number (bit_at (get_or xs i 0) j) (bit_at (get_or ys i 0) j) (bit_at-lt (get_or xs i 0) j) (bit_at-lt (get_or ys i 0) j) here)

pub words-same : (xs ys : List ℕ) (n : ℕ) → length xs ≡ n → length ys ≡ n → ((i : ℕ) → i < n → get_or xs i 0 ≡ get_or ys i 0) → (k : ℕ) → has_word_bit xs k ≡ has_word_bit ys k
unfolding has_word_bit
words-same xs ys n len len' same k =
    elim (cases_lt (k / 64) n) [
      | inl below ↦ ap (λ w. eqb (bit_at w (k % 64)) 1) (same (k / 64) below)
      | inr above ↦ ap (λ w. eqb (bit_at w (k % 64)) 1) (get_or_past xs (k / 64) 0 (omega arith) ∙ sym (get_or_past ys (k / 64) 0 (omega arith)))
    ]

pub blank-bits : (k : ℕ) → has_word_bit (0 ∷ 0 ∷ 0 ∷ 0 ∷ 0 ∷ 0 ∷ 0 ∷ 0 ∷ []) k ≡ false
blank-bits = words-zero (replicate 8 0) (λ i.
    elim (cases_lt i 8) [
      | inl below ↦ get_or-replicate 8 i 0 0 below
      | inr above ↦ get_or_past (replicate 8 0) i 0 above
    ])

-- the bits of one row that another has, over all words
pub kept-bits : (words row now : List ℕ) → length words ≡ 8 → length row ≡ 8 → length now ≡ length words → ((k : ℕ) → k < 64 * length row → has_word_bit now k ≡ (has_word_bit row k && has_word_bit words k)) →
    (k : ℕ) → has_word_bit now k ≡ (has_word_bit row k && has_word_bit words k)
kept-bits words row now len len' same kept k =
    elim (cases_lt k 512) [
      | inl below ↦ kept k (omega arith)
      | inr above ↦ words-past now k (omega arith) ∙ sym (ap (λ t. t && has_word_bit words k) (words-past row k (omega arith)))
    ]

-- numbers of which the test holds for none add nothing
any-skipped : (test : ℕ → Bool) (from n : ℕ) → from ≤ n → ((i : ℕ) → from ≤ i → i < n → test i ≡ false) → any_below n test ≡ any_below from test
any-skipped test from zero above none = let e : 0 ≡ from = omega arith in ap (λ m. any_below m test) e
any-skipped test from (suc n) above none =
    elim (cases_lt n from) [
      | inl all ↦ let e : suc n ≡ from = omega arith in ap (λ m. any_below m test) e
      | inr more ↦
          ap (λ t. t || any_below n test) (none n more (omega arith)) ∙ any-skipped test from n more (λ i low high. none i low (omega arith))
    ]

abbrev IsFollowed : FollowRows → List ℕ → Context → ℕ → ℕ → Bool
IsFollowed rows live c k x = has_word_bit live x && in_row rows x k c

followed-skipped : (rows : FollowRows) (live : List ℕ) (c : Context) (from n k : ℕ) → from ≤ n → HoldsNowhere (has_word_bit live) from n →
    any_below n (IsFollowed rows live c k) ≡ any_below from (IsFollowed rows live c k)
followed-skipped rows live c from n k above none =
    any-skipped (IsFollowed rows live c k) from n above (λ i low high. ap (λ t. t && in_row rows i k c) (none i low high))

-- the followers of one live position more
pub followed-more : (rows : FollowRows) (live : List ℕ) (c : Context) (from end position k : ℕ) (row now before first : Bool) → IsNextBit (has_word_bit live) from end position →
    row ≡ in_row rows position k c → now ≡ (row || before) → before ≡ (any_below from (IsFollowed rows live c k) || first) →
    now ≡ (any_below (position + 1) (IsFollowed rows live c k) || first)
followed-more rows live c from end position k row now before first next row_is now_is so =
    let after : suc position ≡ position + 1 = omega arith in
    let one : row ≡ IsFollowed rows live c k position = row_is ∙ sym (ap (λ t. t && in_row rows position k c) next.is) in
    let same : any_below from (IsFollowed rows live c k) ≡ any_below position (IsFollowed rows live c k) =
    sym (followed-skipped rows live c from position k next.low next.least) in
    now_is
    ∙ (ap (λ t. t || before) one
    ∙ (ap (λ t. IsFollowed rows live c k position || t) (so ∙ ap (λ t. t || first) same)
    ∙ (sym (or-grouped (IsFollowed rows live c k position) (any_below position (IsFollowed rows live c k)) first)
    ∙ ap (λ m. any_below m (IsFollowed rows live c k) || first) after)))

pub followed-all : (rows : FollowRows) (live : List ℕ) (c : Context) (from n k : ℕ) (now first : Bool) → from ≤ n → HoldsNowhere (has_word_bit live) from n →
    now ≡ (any_below from (IsFollowed rows live c k) || first) → now ≡ (any_below n (IsFollowed rows live c k) || first)
followed-all rows live c from n k now first above none so = so ∙ ap (λ t. t || first) (sym (followed-skipped rows live c from n k above none))

-- where a state leads, by the rows of what follows and the masks
pub led-bits : (a : Automaton) (f : Footing) (next : Next) (k : ℕ) (rows : FollowRows) (masks : List Mask) (led entered : List ℕ) → rows ≡ a.follows → masks ≡ a.enters.items →
    has_word_bit entered k ≡ in_mask (slice_get masks k) (between f.prev next) →
    has_word_bit led k ≡ (any_below rows.size (λ x. has_word_bit f.positions x && in_row rows x k (between f.prev next)) || has_word_bit entered k) →
    has_word_bit led k ≡ is_led_on a f next k
led-bits a f next k rows masks led entered same_rows same_masks begins follow =
    let any : Bool = any_below rows.size (λ x. has_word_bit f.positions x && in_row rows x k (between f.prev next)) in
    let into : has_word_bit entered k ≡ enters a k (between f.prev next) = begins ∙ ap (λ m. in_mask (slice_get m k) (between f.prev next)) same_masks in
    let on : any ≡ any_below (vec_len a.sets) (λ x. has_word_bit f.positions x && follows a x k (between f.prev next)) =
    ap (λ (q : FollowRows). any_below q.size (λ x. has_word_bit f.positions x && in_row q x k (between f.prev next))) same_rows
    ∙ ap (λ n. any_below n (λ x. has_word_bit f.positions x && follows a x k (between f.prev next))) a.follows_whole in
    follow
    ∙ (or-turned any (has_word_bit entered k) ∙ (ap (λ t. t || any) into ∙ ap (λ t. enters a k (between f.prev next) || t) on))

-- alike footings are the same state

pub alike-state : (n : ℕ) (f g : Footing) → IsAlike f g → state_of n f ≡ state_of n g
alike-state n f g alike = same-where n (has_word_bit f.positions) (has_word_bit g.positions) f.prev g.prev (λ x below. alike.positions x) alike.prev

past-none : (n : ℕ) (f : Footing) → HasPositionsBelow n f → (k : ℕ) → n ≤ k → has_word_bit f.positions k ≡ false
past-none n f below k above = not-true (has_word_bit f.positions k) (λ is. absurd (omega (arith, below k is)))

pub state-alike : (n : ℕ) (f g : Footing) → HasPositionsBelow n f → HasPositionsBelow n g → state_of n f ≡ state_of n g → IsAlike f g
state-alike n f g below below' same = record {
  positions = λ k.
      elim (cases_lt k n) [
        | inl less ↦
            sym (live-where n (has_word_bit f.positions) f.prev k less)
            ∙ (ap (λ s. is_live s k) same ∙ live-where n (has_word_bit g.positions) g.prev k less)
        | inr above ↦ past-none n f below k above ∙ sym (past-none n g below' k above)
      ];
  prev = ap (λ (s : DfaState). s.prev) same;
}

-- a state among those of some footings
pub record IsStateAt (n : ℕ) (known : List Footing) (k : ℕ) (s : DfaState) : Type 0 where
  pub footing : Footing
  pub at : slice_get known k ≡ Some footing
  pub is : state_of n footing ≡ s

from-option : (n : ℕ) (known : List Footing) (k : ℕ) (s : DfaState) (o : Option Footing) → slice_get known k ≡ o → option_map (state_of n) o ≡ Some s → IsStateAt n known k s
from-option n known k s None at is = absurd (none-some s is)
from-option n known k s (Some f) at is = record { footing = f; at = at; is = same_Some (state_of n f) s is }

pub state-at : (n : ℕ) (known : List Footing) (k : ℕ) (s : DfaState) → slice_get (map (state_of n) known) k ≡ Some s → IsStateAt n known k s
state-at n known k s is = from-option n known k s (slice_get known k) refl (sym (slice_get-map (state_of n) known k) ∙ is)

pub footing-at : (n : ℕ) (known : List Footing) (k : ℕ) (f : Footing) → slice_get known k ≡ Some f → slice_get (map (state_of n) known) k ≡ Some (state_of n f)
footing-at n known k f at = slice_get-map (state_of n) known k ∙ ap (option_map (state_of n)) at

pub new-state : (n : ℕ) (known : List Footing) (one : Footing) → ((k : ℕ) (f : Footing) → slice_get known k ≡ Some f → HasPositionsBelow n f) → HasPositionsBelow n one → IsNewTo known one →
    (k : ℕ) → slice_get (map (state_of n) known) k ≡ Some (state_of n one) → ⊥
new-state n known one below below' new k is =
    let there = state-at n known k (state_of n one) is in
    new k there.footing there.at (state-alike n there.footing one (below k there.footing there.at) below' there.is)

-- where a byte leads

behind-class : (feed word : Bool) → next_behind (prev_by feed word) ≡ next_by feed word false
behind-class true true = refl
behind-class true false = refl
behind-class false true = refl
behind-class false false = refl

pub takes-below : (a : Automaton) (b k : ℕ) → takes a k b ≡ true → k < vec_len a.sets
takes-below a b k is =
    elim (cases_lt k (vec_len a.sets)) [
      | inl below ↦ below
      | inr above ↦
          let past : length a.sets.items ≤ k = omega (arith, a.sets.ok.0) in
          true-false (takes a k b) is (ap (λ o. in_set o b) (slice_get_past a.sets.items k past))
    ]

module _ (a : Automaton) (f g one : Footing) (b : ℕ) (is : IsFootingOf a b g) (positions : (k : ℕ) → has_word_bit one.positions k ≡ is_moved_to a f g k) (prev : one.prev ≡ kept_prev a.has_assertion g.prev) where
  abbrev Size : ℕ
  Size = vec_len a.sets

  abbrev From : DfaState
  From = state_of (vec_len a.sets) f

  class-is : next_behind g.prev ≡ class_of b
  class-is = ap next_behind is.prev ∙ behind-class (eqb b line_feed) (is_word_byte b)

  led-is : (k : ℕ) → has_word_bit one.positions k ≡ is_led_to (tests_by a) From b k
  led-is k =
      positions k
      ∙ (ap (λ t. t && (enters a k (between f.prev (next_behind g.prev)) || any_below Size (λ x. has_word_bit f.positions x && follows a x k (between f.prev (next_behind g.prev))))) (is.positions k)
      ∙ (ap (λ c. takes a k b && (enters a k (between f.prev c) || any_below Size (λ x. has_word_bit f.positions x && follows a x k (between f.prev c)))) class-is
      ∙ ap (λ t. takes a k b && (enters a k (between f.prev (class_of b)) || t))
      (any-same Size (λ x. has_word_bit f.positions x && follows a x k (between f.prev (class_of b))) (λ x. is_live From x && follows a x k (between f.prev (class_of b)))
      (λ x below. ap (λ t. t && follows a x k (between f.prev (class_of b))) (sym (live-where Size (has_word_bit f.positions) f.prev x below))))))

  pub moved-state : state_of (vec_len a.sets) one ≡ move_by (tests_by a) a.has_assertion From b
  moved-state =
      same-where Size (has_word_bit one.positions) (is_led_to (tests_by a) From b) one.prev (kept_prev a.has_assertion (prev_by (eqb b line_feed) (is_word_byte b)))
      (λ x below. led-is x) (prev ∙ ap (kept_prev a.has_assertion) is.prev)

  pub moved-below : HasPositionsBelow (vec_len a.sets) one
  moved-below k set = takes-below a b k (sym (is.positions k) ∙ first_of_both (has_word_bit g.positions k) _ (sym (positions k) ∙ set))
