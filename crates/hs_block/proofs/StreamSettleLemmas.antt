-- The words of positions, made one at a time until they come to rest.
use Rattle.std.proofs.Common.{◌≡◌, ◌≢◌, ℕ, zero, suc, ◌+◌, ◌-◌, ◌*◌, ◌<◌, ◌≤◌, Bool, true, false, not, nat_lt, ◌&&◌, ◌||◌, List, length, get_or, set, slice_get, Option, Some, None, IfSome, eqb, bit_and, bit_or, refl, sym, ap, subst, ◌∙◌, inl, inr, arith}
use Rattle.std.specs.Prelude.{nat_le}
use Rattle.std.proofs.lemmas.Bool.{cases_eq, cases_lt, eq-eqb, ne_eqb, le-leb}
use Rattle.std.proofs.lemmas.List.{get_or-set_same, get_or-set_other}
use Rattle.hs_base.specs.declared.context.Mask.{Mask}
use Rattle.hs_base.specs.declared.context.Prev.{Prev}
use Rattle.hs_base.specs.Bits.{has_word_bit}
use Rattle.hs_base.specs.Contexts.{Context}
use Rattle.hs_base.specs.ContextSets.{has_context}
use Rattle.hs_base.proofs.ContextLemmas.{first_of_both, second_of_both, of_both, of_either, left_of_either, right_of_either}
use Rattle.hs_bits.proofs.WordLemmas.{and-none, and-true, or-none, or-turned}
use Rattle.hs_engine.specs.AnyBelow.{any_below}
use Rattle.hs_engine.specs.Automata.{in_mask, in_set}
use Rattle.hs_engine.specs.Rows.{square_number}
use Rattle.hs_block.specs.declared.streams.Streams.{Streams}
use Rattle.hs_bits.specs.BlockContexts.{context_before, context_behind}
use Rattle.hs_block.specs.Rows.{Rules, is_next, live_at}
use Rattle.hs_block.specs.Settling.{Holds, IsSettled}
use Rattle.hs_block.specs.StreamSets.{in_rows, takes_byte}
use Rattle.hs_block.specs.StreamTables.{comes_before, stream_rules}
use Rattle.hs_bits.specs.LowestBits.{IsLowestBit, AreBitsBehind}
use Rattle.hs_bits.specs.WordBits.{one_later, word_bit}
use Rattle.hs_block.proofs.AnyLemmas.{any-none, any-or, any-same, any-skip, any-some, same-truth, some-any, true-false, true-or-false}
use Rattle.hs_bits.proofs.PlaceLemmas.{bit-both, bit-either, bit-none, less-is, not-less}
use Rattle.hs_block.proofs.PositionWordLemmas.{gone, is-left, stays}
use Rattle.hs_block.proofs.TableLemmas.{square-few}

-- the words of those that aren't live are 0
dark-bit : (words live : List ℕ) (y i : ℕ) → ((y : ℕ) → has_word_bit live y ≡ false → get_or words y 0 ≡ 0) → (other : Bool) →
    (word_bit (get_or words y 0) i && (other && has_word_bit live y)) ≡ (word_bit (get_or words y 0) i && other)
dark-bit words live y i dark other =
    elim (true-or-false (has_word_bit live y)) [
      | inl on ↦ ap (λ b. word_bit (get_or words y 0) i && (other && b)) on ∙ ap (λ b. word_bit (get_or words y 0) i && b) (and-true other)
      | inr off ↦
          let unset : word_bit (get_or words y 0) i ≡ false = ap (λ w. word_bit w i) (dark y off) ∙ bit-none i in
          ap (λ b. b && (other && has_word_bit live y)) unset ∙ sym (ap (λ b. b && other) unset)
    ]

-- the words of those that may come before a position, united
pub live-bits : (words row live : List ℕ) (n size word j : ℕ) → size ≤ n → ((y : ℕ) → size ≤ y → has_word_bit live y ≡ false) → ((y : ℕ) → has_word_bit live y ≡ false → get_or words y 0 ≡ 0) →
    word_bit word j ≡ any_below n (λ y. word_bit (get_or words y 0) j && (has_word_bit row y && has_word_bit live y)) → word_bit word j ≡ any_below size (λ y. word_bit (get_or words y 0) j && has_word_bit row y)
live-bits words row live n size word j room few dark is =
    let F : ℕ → Bool = λ y. word_bit (get_or words y 0) j && (has_word_bit row y && has_word_bit live y) in
    is
    ∙ (any-skip size n F room
    (λ y past inside.
    ap (λ b. word_bit (get_or words y 0) j && (has_word_bit row y && b)) (few y past) ∙ (ap (λ b. word_bit (get_or words y 0) j && b) (and-none (has_word_bit row y)) ∙ and-none (word_bit (get_or words y 0) j)))
    ∙ any-same size F (λ y. word_bit (get_or words y 0) j && has_word_bit row y) (λ y below. dark-bit words live y j dark (has_word_bit row y)))

-- the words of all positions, united
pub busy-word : (s : Streams) (words live row : List ℕ) (word j : ℕ) → length row ≡ s.width → ((y : ℕ) → y < 64 * s.width → has_word_bit row y ≡ in_rows live s.width 0 y) →
    ((y : ℕ) → s.size ≤ y → has_word_bit live y ≡ false) → ((y : ℕ) → has_word_bit live y ≡ false → get_or words y 0 ≡ 0) →
    word_bit word j ≡ any_below (64 * length row) (λ y. word_bit (get_or words y 0) j && (has_word_bit row y && has_word_bit live y)) → word_bit word j ≡ any_below s.size (λ y. word_bit (get_or words y 0) j)
busy-word s words live row word j long bits few dark is =
    live-bits words row live (64 * length row) s.size word j (omega (arith, long, s.wide)) few dark is
    ∙ any-same s.size (λ y. word_bit (get_or words y 0) j && has_word_bit row y) (λ y. word_bit (get_or words y 0) j)
    (λ y below.
    let at : 64 * (s.width * 0) + y ≡ y = omega arith in
    ap (λ b. word_bit (get_or words y 0) j && b) (bits y (omega (arith, below, s.wide)) ∙ ap (has_word_bit live) at)
    ∙ (dark-bit words live y j dark true ∙ and-true (word_bit (get_or words y 0) j)))

-- where those lead, with those that are live before the block
pub arrived : (words row state live : List ℕ) (n size led later : ℕ) (met : Bool) → size ≤ n → ((y : ℕ) → size ≤ y → has_word_bit live y ≡ false) → ((y : ℕ) → has_word_bit live y ≡ false → get_or words y 0 ≡ 0) →
    met ≡ any_below size (λ y. has_word_bit state y && has_word_bit row y) →
    ((i : ℕ) → word_bit led i ≡ any_below n (λ y. word_bit (get_or words y 0) i && (has_word_bit row y && has_word_bit live y))) → ((i : ℕ) → i < 64 → word_bit later i ≡ one_later met (word_bit led) i) →
    (i : ℕ) → i < 64 → word_bit later i ≡ any_below size (λ y. live_at (has_word_bit state) words i y && has_word_bit row y)
arrived words row state live n size led later met room few dark met_is led_is later_is zero small = later_is 0 small ∙ met_is
arrived words row state live n size led later met room few dark met_is led_is later_is (suc j) small = later_is (suc j) small ∙ live-bits words row live n size led j room few dark (led_is j)

-- which may come before a position, by the two tables
module _ (s : Streams) (x y : ℕ) (c : Context) (below : x < s.size) (inside : y < s.size) where
  abbrev Always : Bool
  Always = in_rows s.froms.items s.width x y

  abbrev Rest : Bool
  Rest = in_rows s.rests.items s.width (12 * x + square_number true c) y

  pub from-either : comes_before s x y c ≡ (Always || Rest)
  from-either = ap (λ b. b && (Always || Rest)) (less-is y s.size inside)

  pub from-always : get_or s.asks.items x 0 ≡ 0 → comes_before s x y c ≡ Always
  from-always unset = from-either ∙ (ap (λ b. Always || b) (s.unasked x (square_number true c) y below (square-few c) inside (ap (λ w. word_bit w (square_number true c)) unset ∙ bit-none (square_number true c))) ∙ or-none Always)

-- where one position asks, contexts matter
pub asking-then : (s : Streams) (x : ℕ) → get_or s.asks.items x 0 ≢ 0 → s.asking ≡ true
asking-then s x some =
    elim (true-or-false s.asking) [
      | inl on ↦ on
      | inr off ↦ absurd (some (s.still off x))
    ]

-- the bits of a row that is read
pub read-row : (s : Streams) (state words row : List ℕ) (x i : ℕ) → ((y : ℕ) → y < 64 * s.width → has_word_bit row y ≡ in_rows s.froms.items s.width x y) →
    any_below s.size (λ y. live_at (has_word_bit state) words i y && has_word_bit row y) ≡ any_below s.size (λ y. live_at (has_word_bit state) words i y && in_rows s.froms.items s.width x y)
read-row s state words row x i bits =
    any-same s.size (λ y. live_at (has_word_bit state) words i y && has_word_bit row y) (λ y. live_at (has_word_bit state) words i y && in_rows s.froms.items s.width x y)
    (λ y inside. ap (λ b. live_at (has_word_bit state) words i y && b) (bits y (omega (arith, inside, s.wide))))

pub read-rest : (s : Streams) (state words row : List ℕ) (r i : ℕ) → ((y : ℕ) → y < 64 * s.width → has_word_bit row y ≡ in_rows s.rests.items s.width r y) →
    any_below s.size (λ y. live_at (has_word_bit state) words i y && has_word_bit row y) ≡ any_below s.size (λ y. live_at (has_word_bit state) words i y && in_rows s.rests.items s.width r y)
read-rest s state words row r i bits =
    any-same s.size (λ y. live_at (has_word_bit state) words i y && has_word_bit row y) (λ y. live_at (has_word_bit state) words i y && in_rows s.rests.items s.width r y)
    (λ y inside. ap (λ b. live_at (has_word_bit state) words i y && b) (bits y (omega (arith, inside, s.wide))))

-- those that come by every context
pub led-always : (s : Streams) (state words : List ℕ) (x i : ℕ) (c : Context) → x < s.size → get_or s.asks.items x 0 ≡ 0 →
    any_below s.size (λ y. live_at (has_word_bit state) words i y && in_rows s.froms.items s.width x y) ≡ any_below s.size (λ y. live_at (has_word_bit state) words i y && comes_before s x y c)
led-always s state words x i c below unset =
    any-same s.size (λ y. live_at (has_word_bit state) words i y && in_rows s.froms.items s.width x y) (λ y. live_at (has_word_bit state) words i y && comes_before s x y c)
    (λ y inside. ap (λ b. live_at (has_word_bit state) words i y && b) (sym (from-always s x y c below inside unset)))

-- those that come by some contexts, square by square
abbrev pub LedBy : Streams → (state words : List ℕ) (x i q : ℕ) → Bool
LedBy s state words x i q = any_below s.size (λ y. live_at (has_word_bit state) words i y && in_rows s.rests.items s.width (12 * x + q) y)

-- none comes by a row that is 0
pub led-none : (s : Streams) (state words : List ℕ) (x i q : ℕ) → ((y : ℕ) → y < s.size → in_rows s.rests.items s.width (12 * x + q) y ≡ false) → LedBy s state words x i q ≡ false
led-none s state words x i q unset =
    any-none s.size (λ y. live_at (has_word_bit state) words i y && in_rows s.rests.items s.width (12 * x + q) y)
    (λ y inside. ap (λ b. live_at (has_word_bit state) words i y && b) (unset y inside) ∙ and-none (live_at (has_word_bit state) words i y))

-- the squares that are left: one of them is taken
pub squares-more : (i square here left rest : ℕ) (test : ℕ → Bool) (told : Bool) (all more places : ℕ) → IsLowestBit left square → AreBitsBehind left square rest → word_bit more i ≡ test square → word_bit places i ≡ eqb here square →
    (word_bit all i || (word_bit left here && test here)) ≡ told → (word_bit (bit_or all (bit_and more places)) i || (word_bit rest here && test here)) ≡ told
squares-more i square here left rest test told all more places low behind more_is places_is is =
    elim (cases_eq here square) [
      | inl same ↦
          let at : eqb here square ≡ true = eq-eqb here square same in
          let gone : word_bit rest here ≡ false = ap (λ k. word_bit rest k) same ∙ gone (square + 1) left square rest low behind (omega arith) test in
          let there : word_bit left here ≡ true = ap (λ k. word_bit left k) same ∙ is-left (square + 1) left square rest low behind (omega arith) test in
          let new : word_bit (bit_or all (bit_and more places)) i ≡ (word_bit all i || test here) =
          bit-either all (bit_and more places) i
          ∙ ap (λ b. word_bit all i || b) (bit-both more places i ∙ (ap (λ b. b && word_bit places i) more_is ∙ (ap (λ b. test square && b) (places_is ∙ at) ∙ (and-true (test square) ∙ ap test (sym same))))) in
          ap (λ b. b || (word_bit rest here && test here)) new
          ∙ (ap (λ b. (word_bit all i || test here) || (b && test here)) gone
          ∙ (or-none (word_bit all i || test here) ∙ (sym (ap (λ b. word_bit all i || (b && test here)) there) ∙ is)))
      | inr apart ↦
          let off : eqb here square ≡ false = ne_eqb here square apart in
          let new : word_bit (bit_or all (bit_and more places)) i ≡ word_bit all i =
          bit-either all (bit_and more places) i ∙ (ap (λ b. word_bit all i || b) (bit-both more places i ∙ (ap (λ b. word_bit more i && b) (places_is ∙ off) ∙ and-none (word_bit more i))) ∙ or-none (word_bit all i)) in
          ap (λ b. b || (word_bit rest here && test here)) new ∙ (ap (λ b. word_bit all i || (b && test here)) (stays (square + 1) left square rest low behind (omega arith) test here apart) ∙ is)
    ]

-- and one whose context no place has
pub squares-passed : (i square here left rest : ℕ) (test : ℕ → Bool) (told now : Bool) (places : ℕ) → IsLowestBit left square → AreBitsBehind left square rest → places ≡ 0 → word_bit places i ≡ eqb here square →
    (now || (word_bit left here && test here)) ≡ told → (now || (word_bit rest here && test here)) ≡ told
squares-passed i square here left rest test told now places low behind none_ places_is is =
    let apart : here ≢ square = λ same. true-false (eqb here square) (eq-eqb here square same) (sym places_is ∙ (ap (λ w. word_bit w i) none_ ∙ bit-none i)) in
    ap (λ b. now || (b && test here)) (stays (square + 1) left square rest low behind (omega arith) test here apart) ∙ is

-- none is left
pub squares-all : (here left asks : ℕ) (test : ℕ → Bool) (first now : Bool) → left ≡ 0 → (word_bit asks here ≡ false → test here ≡ false) → (now || (word_bit left here && test here)) ≡ ((word_bit asks here && test here) || first) →
    now ≡ (first || test here)
squares-all here left asks test first now none_ unasked is =
    sym (ap (λ w. now || (word_bit w here && test here)) none_ ∙ (ap (λ b. now || (b && test here)) (bit-none here) ∙ or-none now))
    ∙ (is
    ∙ (ap (λ b. b || first)
    (elim (true-or-false (word_bit asks here)) [
      | inl on ↦ ap (λ b. b && test here) on
      | inr off ↦ ap (λ b. b && test here) off ∙ sym (unasked off)
    ])
    ∙ or-turned (test here) first))

pub led-all : (s : Streams) (state words : List ℕ) (x i : ℕ) (c : Context) (word : ℕ) (first : Bool) → x < s.size →
    first ≡ any_below s.size (λ y. live_at (has_word_bit state) words i y && in_rows s.froms.items s.width x y) → word_bit word i ≡ (first || LedBy s state words x i (square_number true c)) →
    word_bit word i ≡ any_below s.size (λ y. live_at (has_word_bit state) words i y && comes_before s x y c)
led-all s state words x i c word first below first_is is =
    let live : ℕ → Bool = live_at (has_word_bit state) words i in
    is
    ∙ (ap (λ b. b || LedBy s state words x i (square_number true c)) first_is
    ∙ (any-or s.size live (λ y. in_rows s.froms.items s.width x y) (λ y. in_rows s.rests.items s.width (12 * x + square_number true c) y)
    ∙ any-same s.size (λ y. live y && (in_rows s.froms.items s.width x y || in_rows s.rests.items s.width (12 * x + square_number true c) y)) (λ y. live y && comes_before s x y c)
    (λ y inside. ap (λ b. live y && b) (sym (from-either s x y c below inside)))))

-- a word more, where the position's own was 0
pub any-set : (n x word i : ℕ) (words : List ℕ) (b : ℕ → Bool) → x < n → x < length words → get_or words x 0 ≡ 0 →
    (any_below n (λ y. word_bit (get_or words y 0) i && b y) || (word_bit word i && b x)) ≡ any_below n (λ y. word_bit (get_or (set words x word) y 0) i && b y)
any-set n x word i words b below room none_ =
    same-truth (any_below n F || (word_bit word i && b x)) (any_below n G)
    (λ either.
    elim (of_either (any_below n F) (word_bit word i && b x) either) [
      | inl any ↦
          let (y, inside, led) = any-some n F any in
          elim (cases_eq y x) [
            | inl same ↦ true-false (word_bit (get_or words y 0) i) (first_of_both (word_bit (get_or words y 0) i) (b y) led) (ap (λ k. word_bit (get_or words k 0) i) same ∙ (ap (λ w. word_bit w i) none_ ∙ bit-none i))
            | inr apart ↦ some-any n G y inside (ap (λ w. word_bit w i && b y) (get_or-set_other words x y word 0 apart) ∙ led)
          ]
      | inr here ↦ some-any n G x below (ap (λ w. word_bit w i && b x) (get_or-set_same words x word 0 room) ∙ here)
    ])
    (λ any.
    let (y, inside, led) = any-some n G any in
    elim (cases_eq y x) [
      | inl same ↦
          right_of_either (any_below n F) (word_bit word i && b x)
          (sym (ap (λ w. word_bit w i && b x) (get_or-set_same words x word 0 room)) ∙ (ap (λ k. word_bit (get_or (set words x word) k 0) i && b k) (sym same) ∙ led))
      | inr apart ↦ left_of_either (any_below n F) (word_bit word i && b x) (some-any n F y inside (sym (ap (λ w. word_bit w i && b y) (get_or-set_other words x y word 0 apart)) ∙ led))
    ])
  where
    F : ℕ → Bool
    F y = word_bit (get_or words y 0) i && b y

    G : ℕ → Bool
    G y = word_bit (get_or (set words x word) y 0) i && b y

-- the new word of a position, at each place
module _ (s : Streams) (prev : Prev) (state : List ℕ) (enters : ℕ) (whole words : List ℕ) (x word reached again : ℕ) (below : x < s.size) (room : x < length words) (none_ : get_or words x 0 ≡ 0)
    (reached_is : (i : ℕ) → i < 64 → word_bit reached i
    ≡ ((word_bit enters i && in_mask (slice_get s.enters.items x) (context_before prev whole i))
    || any_below s.size (λ y. live_at (has_word_bit state) words i y && comes_before s x y (context_before prev whole i))))
    (again_is : (i : ℕ) → i < 64 → word_bit again i ≡ comes_before s x x (context_before prev whole i))
    (look : (i : ℕ) → i < 64 → word_bit word i
    ≡ (takes_byte s.sets.items s.numbers.items x (get_or whole i 0) && (word_bit reached i || (nat_le 1 i && (word_bit word (i - 1) && word_bit again i))))) where
  abbrev Takes : ℕ → Bool
  Takes i = takes_byte s.sets.items s.numbers.items x (get_or whole i 0)

  abbrev Begun : ℕ → Bool
  Begun i = word_bit enters i && in_mask (slice_get s.enters.items x) (context_before prev whole i)

  abbrev From : ℕ → ℕ → Bool
  From i y = comes_before s x y (context_before prev whole i)

  pub word-holds : (i : ℕ) → i < 64 → word_bit word i ≡ is_next (stream_rules s prev enters whole) i (live_at (has_word_bit state) (set words x word) i) x
  word-holds zero small = look 0 small ∙ ap (λ b. Takes 0 && b) (or-none (word_bit reached 0) ∙ reached_is 0 small)
  word-holds (suc i) small =
      let e : suc i - 1 ≡ i = omega arith in
      let led : Bool = any_below s.size (λ y. word_bit (get_or words y 0) i && From (suc i) y) in
      look (suc i) small
      ∙ ap (λ b. Takes (suc i) && b)
      (ap (λ b. word_bit reached (suc i) || (b && (word_bit word (suc i - 1) && word_bit again (suc i)))) (le-leb 1 (suc i) (omega arith))
      ∙ (ap (λ k. word_bit reached (suc i) || (word_bit word k && word_bit again (suc i))) e
      ∙ (ap (λ b. word_bit reached (suc i) || (word_bit word i && b)) (again_is (suc i) small)
      ∙ (ap (λ b. b || (word_bit word i && From (suc i) x)) (reached_is (suc i) small)
      ∙ (or-grouped (Begun (suc i)) led (word_bit word i && From (suc i) x) ∙ ap (λ b. Begun (suc i) || b) (any-set s.size x word i words (From (suc i)) below room none_))))))
    where
      or-grouped : (a b c : Bool) → ((a || b) || c) ≡ (a || (b || c))
      or-grouped true b c = refl
      or-grouped false b c = refl

-- a word without a bit, where no place is reached
pub look-none : (reached again i : ℕ) (takes : Bool) → reached ≡ 0 → word_bit 0 i ≡ (takes && (word_bit reached i || (nat_le 1 i && (word_bit 0 (i - 1) && word_bit again i))))
look-none reached again i takes none_ =
    bit-none i
    ∙ sym (ap (λ r. takes && (word_bit r i || (nat_le 1 i && (word_bit 0 (i - 1) && word_bit again i)))) none_
    ∙ (ap (λ b. takes && (b || (nat_le 1 i && (word_bit 0 (i - 1) && word_bit again i)))) (bit-none i)
    ∙ (ap (λ b. takes && (nat_le 1 i && (b && word_bit again i))) (bit-none (i - 1)) ∙ (ap (λ b. takes && b) (and-none (nat_le 1 i)) ∙ and-none takes))))

pub some-map : {P Q : ℕ → Type 0} (found : Option ℕ) → ((word : ℕ) → P word → Q word) → IfSome found P → IfSome found Q
some-map None onward is = is
some-map (Some word) onward is = onward word is

-- the places at which it is entered in a context of a mask; where it is entered nowhere, none
pub entered-bit : (enters : ℕ) (allowed : ℕ) (In : ℕ → Bool) → ((i : ℕ) → i < 64 → word_bit allowed i ≡ In i) → (i : ℕ) → i < 64 → word_bit (bit_and enters allowed) i ≡ (word_bit enters i && In i)
entered-bit enters allowed In is i small = bit-both enters allowed i ∙ ap (λ b. word_bit enters i && b) (is i small)

pub entered-nowhere : (enters : ℕ) (In : ℕ → Bool) → enters ≡ 0 → (i : ℕ) → word_bit 0 i ≡ (word_bit enters i && In i)
entered-nowhere enters In none i = subst (λ w. word_bit 0 i ≡ (word_bit w i && In i)) (sym none) (bit-none i ∙ sym (ap (λ b. b && In i) (bit-none i)))

-- where a position is reached
pub reached-bit : (s : Streams) (prev : Prev) (state : List ℕ) (enters : ℕ) (whole words : List ℕ) (x : ℕ) (mask : Mask) (entered led : ℕ) → slice_get s.enters.items x ≡ Some mask →
    ((i : ℕ) → i < 64 → word_bit entered i ≡ (word_bit enters i && has_context mask (context_before prev whole i))) →
    ((i : ℕ) → i < 64 → word_bit led i ≡ any_below s.size (λ y. live_at (has_word_bit state) words i y && comes_before s x y (context_before prev whole i))) → (i : ℕ) → i < 64 →
    word_bit (bit_or entered led) i
    ≡ ((word_bit enters i && in_mask (slice_get s.enters.items x) (context_before prev whole i))
    || any_below s.size (λ y. live_at (has_word_bit state) words i y && comes_before s x y (context_before prev whole i)))
reached-bit s prev state enters whole words x mask entered led at entered_is led_is i small =
    bit-either entered led i
    ∙ (ap (λ b. word_bit entered i || b) (led_is i small)
    ∙ ap (λ b. b || any_below s.size (λ y. live_at (has_word_bit state) words i y && comes_before s x y (context_before prev whole i)))
    (entered_is i small ∙ ap (λ b. word_bit enters i && b) (sym (ap (λ o. in_mask o (context_before prev whole i)) at))))

-- where a position accepts
abbrev pub Accepts : Streams → (state : List ℕ) (words : List ℕ) (place : ℕ) → Context → (position : ℕ) → Bool
Accepts s state words i c y = live_at (has_word_bit state) words i y && in_mask (slice_get s.accepts.items y) c

pub end-before : (s : Streams) (prev : Prev) (state : List ℕ) (whole words : List ℕ) (x : ℕ) (mask : Mask) (first : Bool) (later allowed : ℕ) → slice_get s.accepts.items x ≡ Some mask → first ≡ has_word_bit state x →
    ((i : ℕ) → i < 64 → word_bit later i ≡ one_later first (word_bit (get_or words x 0)) i) → ((i : ℕ) → i < 64 → word_bit allowed i ≡ has_context mask (context_before prev whole i)) → (i : ℕ) → i < 64 →
    word_bit (bit_and later allowed) i ≡ Accepts s state words i (context_before prev whole i) x
end-before s prev state whole words x mask first later allowed at first_is later_is allowed_is i small =
    bit-both later allowed i
    ∙ (ap (λ b. b && word_bit allowed i) (later_is i small ∙ live i)
    ∙ ap (λ b. live_at (has_word_bit state) words i x && b) (allowed_is i small ∙ sym (ap (λ o. in_mask o (context_before prev whole i)) at)))
  where
    live : (i : ℕ) → one_later first (word_bit (get_or words x 0)) i ≡ live_at (has_word_bit state) words i x
    live zero = first_is
    live (suc i) = refl

pub end-behind : (s : Streams) (prev : Prev) (whole words : List ℕ) (x : ℕ) (mask : Mask) (allowed : ℕ) → slice_get s.accepts.items x ≡ Some mask →
    ((i : ℕ) → i < 64 → word_bit allowed i ≡ has_context mask (context_behind prev whole i)) → (i : ℕ) → i < 64 →
    word_bit (bit_and (get_or words x 0) allowed) i ≡ (word_bit (get_or words x 0) i && in_mask (slice_get s.accepts.items x) (context_behind prev whole i))
end-behind s prev whole words x mask allowed at allowed_is i small =
    bit-both (get_or words x 0) allowed i
    ∙ ap (λ b. word_bit (get_or words x 0) i && b) (allowed_is i small ∙ sym (ap (λ o. in_mask o (context_behind prev whole i)) at))

-- words of which one is written again
pub set-there : (words : List ℕ) (x word y : ℕ) → y ≢ x → get_or (set (set words x 0) x word) y 0 ≡ get_or words y 0
set-there words x word y apart = get_or-set_other (set words x 0) x y word 0 apart ∙ get_or-set_other words x y 0 0 apart

pub set-none : (words live : List ℕ) (x : ℕ) → x < length words → ((y : ℕ) → has_word_bit live y ≡ false → get_or words y 0 ≡ 0) → (y : ℕ) → has_word_bit live y ≡ false → get_or (set words x 0) y 0 ≡ 0
set-none words live x room dark y unset =
    elim (cases_eq y x) [
      | inl same ↦ ap (λ k. get_or (set words x 0) k 0) same ∙ get_or-set_same words x 0 0 room
      | inr apart ↦ get_or-set_other words x y 0 0 apart ∙ dark y unset
    ]

-- one position more has its word
module _ (s : Streams) (prev : Prev) (state : List ℕ) (enters : ℕ) (whole words new todo live after behind : List ℕ) (x word : ℕ) (settled : IsSettled (stream_rules s prev enters whole) (has_word_bit state) words todo live)
    (below : x < s.size) (len : length new ≡ length words) (new_here : get_or new x 0 ≡ word) (new_there : (y : ℕ) → y ≢ x → get_or new y 0 ≡ get_or words y 0)
    (here : (i : ℕ) → i < 64 → word_bit word i ≡ is_next (stream_rules s prev enters whole) i (live_at (has_word_bit state) new i) x)
    (unset_todo : (y : ℕ) → y ≢ x → has_word_bit after y ≡ false → has_word_bit todo y ≡ false)
    (unled : (y : ℕ) → y < s.size → y ≢ x → has_word_bit after y ≡ false → word ≢ get_or words x 0 → in_rows s.successors.items s.width x y ≡ false)
    (live_here : has_word_bit behind x ≡ not (eqb word 0)) (live_there : (y : ℕ) → y ≢ x → has_word_bit behind y ≡ has_word_bit live y) where
  abbrev Rule : Rules
  Rule = stream_rules s prev enters whole

  live-few : (y : ℕ) → s.size ≤ y → has_word_bit behind y ≡ false
  live-few y past = live_there y (λ same. absurd (omega (arith, same, below, past))) ∙ settled.live_few y past

  zero-word : not (eqb word 0) ≡ false → word ≡ 0
  zero-word is = elim (cases_eq word 0) [
    | inl same ↦ same
    | inr apart ↦ absurd (let e : true ≡ false = sym (ap not (ne_eqb word 0 apart)) ∙ is in cc)
  ]

  dark-now : (y : ℕ) → has_word_bit behind y ≡ false → get_or new y 0 ≡ 0
  dark-now y unset =
      elim (cases_eq y x) [
        | inl same ↦ ap (λ k. get_or new k 0) same ∙ (new_here ∙ zero-word (sym live_here ∙ (ap (has_word_bit behind) (sym same) ∙ unset)))
        | inr apart ↦ new_there y apart ∙ settled.dark y (sym (live_there y apart) ∙ unset)
      ]

  -- a word that has changed leads to none of which nothing is to be done
  kept : (z : ℕ) → z < s.size → z ≢ x → has_word_bit after z ≡ false → (i y : ℕ) → y < s.size →
      (live_at (has_word_bit state) words i y && comes_before s z y (context_before prev whole i)) ≡ (live_at (has_word_bit state) new i y && comes_before s z y (context_before prev whole i))
  kept z low' apart unset zero y inside = refl
  kept z low' apart unset (suc i) y inside =
      let c : Context = context_before prev whole (suc i) in
      let led : Bool = comes_before s z y c in
      elim (cases_eq y x) [
        | inr other ↦ ap (λ v. word_bit v i && led) (sym (new_there y other))
        | inl same ↦ elim (cases_eq word (get_or words x 0)) [
          | inl stays ↦ ap (λ v. word_bit v i && led) (ap (λ k. get_or words k 0) same ∙ (sym stays ∙ (sym new_here ∙ ap (λ k. get_or new k 0) (sym same))))
          | inr changed ↦
              let off : led ≡ false =
              elim (true-or-false led) [
                | inr unled' ↦ unled'
                | inl on ↦
                    true-false (in_rows s.successors.items s.width x z)
                    (s.successors_have x z c below low' (subst (λ k. comes_before s z k c ≡ true) same on) apart) (unled z low' apart unset changed)
              ] in
              ap (λ b. word_bit (get_or words y 0) i && b) off
              ∙ (and-none (word_bit (get_or words y 0) i) ∙ sym (ap (λ b. word_bit (get_or new y 0) i && b) off ∙ and-none (word_bit (get_or new y 0) i)))
        ]
      ]

  holds-now : (z : ℕ) → z < s.size → has_word_bit after z ≡ false → Holds Rule (has_word_bit state) new z
  holds-now z low' unset i small =
      elim (cases_eq z x) [
        | inl same ↦ subst (λ k. word_bit (get_or new k 0) i ≡ is_next Rule i (live_at (has_word_bit state) new i) k) (sym same) (ap (λ v. word_bit v i) new_here ∙ here i small)
        | inr apart ↦
            ap (λ v. word_bit v i) (new_there z apart)
            ∙ (settled.holds z low' (unset_todo z apart unset) i small
            ∙ ap (λ b. Rule.takes i z && (Rule.begins i z || b))
            (any-same s.size (λ y. live_at (has_word_bit state) words i y && comes_before s z y (context_before prev whole i)) (λ y. live_at (has_word_bit state) new i y && comes_before s z y (context_before prev whole i))
            (λ y within. kept z low' apart unset i y within)))
      ]

  pub settle-more : IsSettled (stream_rules s prev enters whole) (has_word_bit state) new after behind
  settle-more = record {
    room = omega (arith, len, settled.room);
    live_few = live-few;
    dark = dark-now;
    holds = holds-now;
  }

-- at first all words are 0
pub settle-first : (s : Streams) (prev : Prev) (state : List ℕ) (enters first : ℕ) (whole words todo live : List ℕ) → s.size ≤ length words → ((x : ℕ) → get_or words x 0 ≡ 0) →
    ((i : ℕ) → get_or whole i 0 < 256) → ((i : ℕ) → i < 64 → word_bit first i ≡ in_set (slice_get s.sets.items 0) (get_or whole i 0)) → ((k : ℕ) → has_word_bit live k ≡ false) →
    ((x : ℕ) → x < s.size → has_word_bit todo x ≡ false → has_word_bit s.entered x ≡ true → (i : ℕ) → (word_bit first i && word_bit enters i) ≡ false) →
    ((x y : ℕ) (c : Context) → x < s.size → y < s.size → has_word_bit todo x ≡ false → has_word_bit state y ≡ true → comes_before s x y c ≡ false) →
    IsSettled (stream_rules s prev enters whole) (has_word_bit state) words todo live
settle-first s prev state enters first whole words todo live room dark bytes first_is unlive entered led = record {
  room = room;
  live_few = λ y past. unlive y;
  dark = λ y unset. dark y;
  holds = λ x low unset i small.
      let takes : Bool = takes_byte s.sets.items s.numbers.items x (get_or whole i 0) in
      let begins : Bool = word_bit enters i && in_mask (slice_get s.enters.items x) (context_before prev whole i) in
      ap (λ w. word_bit w i) (dark x)
      ∙ (bit-none i
      ∙ sym (ap (λ b. takes && (begins || b)) (unled x low unset i)
      ∙ (ap (λ b. takes && b) (or-none begins) ∙ unbegun x low unset i small)));
}
  where
    unbegun : (x : ℕ) → x < s.size → has_word_bit todo x ≡ false → (i : ℕ) → i < 64 →
        (takes_byte s.sets.items s.numbers.items x (get_or whole i 0) && (word_bit enters i && in_mask (slice_get s.enters.items x) (context_before prev whole i))) ≡ false
    unbegun x low unset i small =
        let t : Bool = takes_byte s.sets.items s.numbers.items x (get_or whole i 0) in
        let m : Bool = in_mask (slice_get s.enters.items x) (context_before prev whole i) in
        elim (true-or-false (t && (word_bit enters i && m))) [
          | inr off ↦ off
          | inl on ↦
              let both : (word_bit enters i && m) ≡ true = second_of_both t (word_bit enters i && m) on in
              let may : m ≡ true = second_of_both (word_bit enters i) m both in
              let member : word_bit first i ≡ true =
              first_is i small ∙ s.firsts x (get_or whole i 0) (context_before prev whole i) low (bytes i) may (first_of_both t (word_bit enters i && m) on) in
              true-false (word_bit first i && word_bit enters i) (of_both (word_bit first i) (word_bit enters i) member (first_of_both (word_bit enters i) m both))
              (entered x low unset (s.entered_some x (context_before prev whole i) may) i)
        ]

    unled : (x : ℕ) → x < s.size → has_word_bit todo x ≡ false → (i : ℕ) → any_below s.size (λ y. live_at (has_word_bit state) words i y && comes_before s x y (context_before prev whole i)) ≡ false
    unled x low unset zero =
        any-none s.size (λ y. has_word_bit state y && comes_before s x y (context_before prev whole 0)) (λ y inside.
        elim (true-or-false (has_word_bit state y)) [
          | inl on ↦ ap (λ b. has_word_bit state y && b) (led x y (context_before prev whole 0) low inside unset on) ∙ and-none (has_word_bit state y)
          | inr off ↦ ap (λ b. b && comes_before s x y (context_before prev whole 0)) off
        ])
    unled x low unset (suc i) = any-none s.size (λ y. word_bit (get_or words y 0) i && comes_before s x y (context_before prev whole (suc i))) (λ y below.
        ap (λ w. word_bit w i && comes_before s x y (context_before prev whole (suc i))) (dark y) ∙ ap (λ b. b && comes_before s x y (context_before prev whole (suc i))) (bit-none i))

-- the first positions that are to be made: entered ones, live ones, and those to which these lead

-- one position more has led on
pub led-more : (s : Streams) (state todo row new : List ℕ) (from x : ℕ) → x < s.size → ((k : ℕ) → has_word_bit new k ≡ (has_word_bit row k || has_word_bit todo k)) →
    ((y : ℕ) → y < 64 * s.width → has_word_bit row y ≡ in_rows s.successors.items s.width x y) → ((y : ℕ) → from ≤ y → y < x → has_word_bit state y ≡ false) → has_word_bit state x ≡ true →
    ((y : ℕ) → has_word_bit state y ≡ true → has_word_bit todo y ≡ true) →
    ((z y : ℕ) (c : Context) → z < s.size → y < from → has_word_bit todo z ≡ false → has_word_bit state y ≡ true → comes_before s z y c ≡ false) →
    (z y : ℕ) (c : Context) → z < s.size → y < x + 1 → has_word_bit new z ≡ false → has_word_bit state y ≡ true → comes_before s z y c ≡ false
led-more s state todo row new from x below new_is row_is none_ is kept led z y c low near unset live =
    let both : (has_word_bit row z || has_word_bit todo z) ≡ false = sym (new_is z) ∙ unset in
    elim (cases_lt y from) [
      | inl before ↦ led z y c low before (right-off (has_word_bit row z) (has_word_bit todo z) both) live
      | inr past ↦ elim (cases_lt y x) [
        | inl between ↦ true-false (has_word_bit state y) live (none_ y past between)
        | inr above ↦
            let same : y ≡ x = omega arith in
            elim (true-or-false (comes_before s z y c)) [
              | inr off ↦ off
              | inl on ↦ elim (cases_eq z x) [
                | inl itself ↦ true-false (has_word_bit todo z) (ap (has_word_bit todo) itself ∙ kept x is) (right-off (has_word_bit row z) (has_word_bit todo z) both)
                | inr apart ↦
                    true-false (has_word_bit row z)
                    (row_is z (omega (arith, low, s.wide)) ∙ s.successors_have x z c below low (subst (λ k. comes_before s z k c ≡ true) same on) apart)
                    (left-off (has_word_bit row z) (has_word_bit todo z) both)
              ]
            ]
      ]
    ]
  where
    right-off : (a b : Bool) → (a || b) ≡ false → b ≡ false
    right-off true b off = absurd (let e : true ≡ false = off in cc)
    right-off false b off = off

    left-off : (a b : Bool) → (a || b) ≡ false → a ≡ false
    left-off true b off = absurd (let e : true ≡ false = off in cc)
    left-off false b off = refl

pub led-out : (s : Streams) (state todo : List ℕ) (from : ℕ) → ((y : ℕ) → from ≤ y → y < s.size → has_word_bit state y ≡ false) →
    ((z y : ℕ) (c : Context) → z < s.size → y < from → has_word_bit todo z ≡ false → has_word_bit state y ≡ true → comes_before s z y c ≡ false) →
    (z y : ℕ) (c : Context) → z < s.size → y < s.size → has_word_bit todo z ≡ false → has_word_bit state y ≡ true → comes_before s z y c ≡ false
led-out s state todo from none_ led z y c low inside unset live =
    elim (cases_lt y from) [
      | inl before ↦ led z y c low before unset live
      | inr past ↦ true-false (has_word_bit state y) live (none_ y past inside)
    ]

pub still-set : (state todo row new : List ℕ) → ((k : ℕ) → has_word_bit new k ≡ (has_word_bit row k || has_word_bit todo k)) → ((y : ℕ) → has_word_bit state y ≡ true → has_word_bit todo y ≡ true) →
    (y : ℕ) → has_word_bit state y ≡ true → has_word_bit new y ≡ true
still-set state todo row new new_is kept y is = new_is y ∙ right_of_either (has_word_bit row y) (has_word_bit todo y) (kept y is)

pub still-unset : (todo row new : List ℕ) (y : ℕ) → ((k : ℕ) → has_word_bit new k ≡ (has_word_bit row k || has_word_bit todo k)) → has_word_bit new y ≡ false → has_word_bit todo y ≡ false
still-unset todo row new y new_is unset = elim (true-or-false (has_word_bit todo y)) [
  | inl on ↦ true-false (has_word_bit new y) (new_is y ∙ right_of_either (has_word_bit row y) (has_word_bit todo y) on) unset
  | inr off ↦ off
]

pub row-unset : (todo row new : List ℕ) (y : ℕ) → ((k : ℕ) → has_word_bit new k ≡ (has_word_bit row k || has_word_bit todo k)) → has_word_bit new y ≡ false → has_word_bit row y ≡ false
row-unset todo row new y new_is unset = elim (true-or-false (has_word_bit row y)) [
  | inl on ↦ true-false (has_word_bit new y) (new_is y ∙ left_of_either (has_word_bit row y) (has_word_bit todo y) on) unset
  | inr off ↦ off
]

pub none-entered : (first enters i : ℕ) → bit_and first enters ≡ 0 → (word_bit first i && word_bit enters i) ≡ false
none-entered first enters i none_ = sym (bit-both first enters i) ∙ (ap (λ w. word_bit w i) none_ ∙ bit-none i)

-- what is read from the words

-- a word below so many places
pub masked : (low word count i : ℕ) (b : Bool) → ((k : ℕ) → word_bit low k ≡ nat_lt k count) → (i < count → word_bit word i ≡ b) → word_bit (bit_and low word) i ≡ (nat_lt i count && b)
masked low word count i b low_is is =
    bit-both low word i
    ∙ (ap (λ t. t && word_bit word i) (low_is i)
    ∙ elim (cases_lt i count) [
      | inl below ↦ ap (λ t. nat_lt i count && t) (is below)
      | inr past ↦ ap (λ t. t && word_bit word i) (not-less i count past) ∙ sym (ap (λ t. t && b) (not-less i count past))
    ])

pub later-same : (first : Bool) (f g : ℕ → Bool) → ((j : ℕ) → f j ≡ g j) → (i : ℕ) → one_later first f i ≡ one_later first g i
later-same first f g same zero = refl
later-same first f g same (suc j) = same j

-- where a position accepts: the ones that can are those that accept somewhere and are live

module _ (s : Streams) (state live words ending : List ℕ) (dark : (y : ℕ) → has_word_bit live y ≡ false → get_or words y 0 ≡ 0)
    (ending_is : (k : ℕ) → k < s.size → has_word_bit ending k ≡ (has_word_bit s.accepting k && (has_word_bit live k || has_word_bit state k))) where
  live-off : (y : ℕ) → (has_word_bit live y || has_word_bit state y) ≡ false → (i : ℕ) → live_at (has_word_bit state) words i y ≡ false
  live-off y unset zero = elim (true-or-false (has_word_bit state y)) [
    | inl on ↦ true-false (has_word_bit live y || has_word_bit state y) (right_of_either (has_word_bit live y) (has_word_bit state y) on) unset
    | inr off ↦ off
  ]
  live-off y unset (suc i) = elim (true-or-false (has_word_bit live y)) [
    | inl on ↦ true-false (has_word_bit live y || has_word_bit state y) (left_of_either (has_word_bit live y) (has_word_bit state y) on) unset
    | inr off ↦ ap (λ w. word_bit w i) (dark y off) ∙ bit-none i
  ]

  -- those that aren't looked at don't accept
  pub no-end : (i : ℕ) (c : Context) (y : ℕ) → y < s.size → has_word_bit ending y ≡ false → Accepts s state words i c y ≡ false
  no-end i c y below unset =
      let l : Bool = live_at (has_word_bit state) words i y in
      let m : Bool = in_mask (slice_get s.accepts.items y) c in
      elim (true-or-false (l && m)) [
        | inr off ↦ off
        | inl on ↦
            let seen : (has_word_bit live y || has_word_bit state y) ≡ true =
            elim (true-or-false (has_word_bit live y || has_word_bit state y)) [
              | inl set ↦ set
              | inr none_ ↦ true-false l (first_of_both l m on) (live-off y none_ i)
            ] in
            true-false (has_word_bit ending y)
            (ending_is y below ∙ of_both (has_word_bit s.accepting y) (has_word_bit live y || has_word_bit state y) (s.accepting_some y c (second_of_both l m on)) seen) unset
      ]

  pub ends-more : (i at : ℕ) (c : Context) (from x old more : ℕ) → x < s.size → ((y : ℕ) → from ≤ y → y < x → has_word_bit ending y ≡ false) → from ≤ x → word_bit more i ≡ Accepts s state words at c x →
      word_bit old i ≡ any_below from (Accepts s state words at c) → word_bit (bit_or old more) i ≡ any_below (x + 1) (Accepts s state words at c)
  ends-more i at c from x old more below none_ low more_is old_is =
      let e : suc x ≡ x + 1 = omega arith in
      let F : ℕ → Bool = Accepts s state words at c in
      bit-either old more i
      ∙ (or-turned (word_bit old i) (word_bit more i)
      ∙ (ap (λ b. b || word_bit old i) more_is
      ∙ (ap (λ b. F x || b) (old_is ∙ sym (any-skip from x F low (λ y past near. no-end at c y (omega (arith, near, below)) (none_ y past near)))) ∙ ap (λ n. any_below n F) e)))

  pub ends-all : (i at : ℕ) (c : Context) (from old : ℕ) → from ≤ s.size → ((y : ℕ) → from ≤ y → y < s.size → has_word_bit ending y ≡ false) →
      word_bit old i ≡ any_below from (Accepts s state words at c) → word_bit old i ≡ any_below s.size (Accepts s state words at c)
  ends-all i at c from old within none_ old_is = old_is ∙ sym (any-skip from s.size (Accepts s state words at c) within (λ y past near. no-end at c y near (none_ y past near)))
