-- Contexts against assertions: an assertion holds at an offset exactly where it allows the context there.
use Rattle.std.proofs.Common.{◌≡◌, ◌≢◌, ℕ, zero, suc, ◌+◌, ◌<◌, ◌≤◌, ◌⊎◌, Bool, true, false, not, ◌||◌, ◌&&◌, List, length, Option, Some, None, slice_get, eqb, refl, sym, ap, ◌∙◌, inl, inr, arith}
use Rattle.std.proofs.lemmas.Bool.{eqb-true, eq-eqb, ne_eqb, cases_eq, cases_lt}
use Rattle.std.proofs.lemmas.Option.{slice_get_past, slice_get-get_or}
use Rattle.std.specs.Prelude.{slice_index}
use Rattle.hs_base.specs.declared.assertion.Assertion.{Assertion}
use Rattle.hs_base.specs.declared.assertion.Assertion.TheVariants.{StreamStart, LineStart, LineEnd, EndOrFinalNewline, StreamEnd, WordBoundary, NotWordBoundary}
use Rattle.hs_base.specs.Assertions.{line_feed, is_word_byte, is_word, byte_before, byte_after, IsEnd, IsKnown, Holds}
use Rattle.hs_base.specs.Contexts.{prev_by, next_by, prev_behind, next_before, prev_at, next_at, context_at, is_start, is_newline, is_word_before, is_word_next, is_byte, is_known, is_line_end, is_end, is_final, differ, is_boundary, allows}

-- Booleans

pub first_of_both : (a b : Bool) → (a && b) ≡ true → a ≡ true
first_of_both true b h = refl
first_of_both false b h = h

pub second_of_both : (a b : Bool) → (a && b) ≡ true → b ≡ true
second_of_both true b h = h
second_of_both false b h = absurd (cc)

pub of_both : (a b : Bool) → a ≡ true → b ≡ true → (a && b) ≡ true
of_both true b h k = k
of_both false b h k = h

pub of_either : (a b : Bool) → (a || b) ≡ true → (a ≡ true) ⊎ (b ≡ true)
of_either true b h = inl refl
of_either false b h = inr h

pub left_of_either : (a b : Bool) → a ≡ true → (a || b) ≡ true
left_of_either true b h = refl
left_of_either false b h = absurd (cc)

pub right_of_either : (a b : Bool) → b ≡ true → (a || b) ≡ true
right_of_either true b h = refl
right_of_either false b h = h

differ-apart : (a b : Bool) → differ a b ≡ true → a ≢ b
differ-apart true true h same = cc
differ-apart true false h same = cc
differ-apart false true h same = cc
differ-apart false false h same = cc

apart-differ : (a b : Bool) → a ≢ b → differ a b ≡ true
apart-differ true true apart = absurd (apart refl)
apart-differ true false apart = refl
apart-differ false true apart = refl
apart-differ false false apart = absurd (apart refl)

alike-same : (a b : Bool) → not (differ a b) ≡ true → a ≡ b
alike-same true true h = refl
alike-same true false h = sym h
alike-same false true h = h
alike-same false false h = refl

same-alike : (a b : Bool) → a ≡ b → not (differ a b) ≡ true
same-alike true true same = refl
same-alike true false same = sym same
same-alike false true same = same
same-alike false false same = refl

-- what stands before

start-by : (l x : Bool) → is_start (prev_by l x) ≡ false
start-by true x = refl
start-by false true = refl
start-by false false = refl

newline-by : (l x : Bool) → is_newline (prev_by l x) ≡ l
newline-by true x = refl
newline-by false true = refl
newline-by false false = refl

word-by : (l x : Bool) → is_word_before (prev_by l x) ≡ (not l && x)
word-by true x = refl
word-by false true = refl
word-by false false = refl

-- a word byte is no line feed
word-no_line_feed : (b : ℕ) → (not (eqb b line_feed) && is_word_byte b) ≡ is_word_byte b
word-no_line_feed b =
    elim (cases_eq b line_feed) [
      | inl same ↦ rw (eq-eqb b line_feed same) (sym (ap is_word_byte same))
      | inr apart ↦ rw (ne_eqb b line_feed apart) refl
    ]

start-behind : (o : Option ℕ) → is_start (prev_behind o) ≡ false
start-behind None = refl
start-behind (Some b) = start-by (eqb b line_feed) (is_word_byte b)

word-behind : (o : Option ℕ) → is_word_before (prev_behind o) ≡ is_word o
word-behind None = refl
word-behind (Some b) = word-by (eqb b line_feed) (is_word_byte b) ∙ word-no_line_feed b

newline-behind : (o : Option ℕ) → is_newline (prev_behind o) ≡ true → o ≡ Some line_feed
newline-behind None h = absurd (cc)
newline-behind (Some b) h = ap (λ x. Some x) (eqb-true b line_feed (sym (newline-by (eqb b line_feed) (is_word_byte b)) ∙ h))

behind-newline : (o : Option ℕ) → o ≡ Some line_feed → is_newline (prev_behind o) ≡ true
behind-newline o same = ap (λ x. is_newline (prev_behind x)) same

start-zero : (w : List ℕ) (p : ℕ) → is_start (prev_at w p) ≡ true → p ≡ 0
unfolding prev_at
start-zero w zero h = refl
start-zero w (suc p) h = absurd (let e : false ≡ true = sym (start-behind (slice_get w p)) ∙ h in cc)

zero-start : (w : List ℕ) (p : ℕ) → p ≡ 0 → is_start (prev_at w p) ≡ true
unfolding prev_at
zero-start w zero same = refl
zero-start w (suc p) same = absurd (omega arith)

newline-before : (w : List ℕ) (p : ℕ) → is_newline (prev_at w p) ≡ true → byte_before w p ≡ Some line_feed
unfolding prev_at
newline-before w zero h = absurd (cc)
newline-before w (suc p) h = newline-behind (slice_get w p) h

before-newline : (w : List ℕ) (p : ℕ) → byte_before w p ≡ Some line_feed → is_newline (prev_at w p) ≡ true
unfolding prev_at
before-newline w zero h = absurd (cc)
before-newline w (suc p) h = behind-newline (slice_get w p) h

word-before : (w : List ℕ) (p : ℕ) → is_word_before (prev_at w p) ≡ is_word (byte_before w p)
unfolding prev_at
word-before w zero = refl
word-before w (suc p) = word-behind (slice_get w p)

-- what comes next

pub word-next_by : (l x last : Bool) → is_word_next (next_by l x last) ≡ (not l && x)
word-next_by true x true = refl
word-next_by true x false = refl
word-next_by false true last = refl
word-next_by false false last = refl

pub byte-next_by : (l x last : Bool) → is_byte (next_by l x last) ≡ true
byte-next_by true x true = refl
byte-next_by true x false = refl
byte-next_by false true last = refl
byte-next_by false false last = refl

pub known-next_by : (l x last : Bool) → is_known (next_by l x last) ≡ true
known-next_by true x true = refl
known-next_by true x false = refl
known-next_by false true last = refl
known-next_by false false last = refl

pub line_end-next_by : (l x last : Bool) → is_line_end (next_by l x last) ≡ l
line_end-next_by true x true = refl
line_end-next_by true x false = refl
line_end-next_by false true last = refl
line_end-next_by false false last = refl

end-next_by : (l x last : Bool) → is_end (next_by l x last) ≡ false
end-next_by true x true = refl
end-next_by true x false = refl
end-next_by false true last = refl
end-next_by false false last = refl

final-next_by : (l x last : Bool) → is_final (next_by l x last) ≡ (l && last)
final-next_by true x true = refl
final-next_by true x false = refl
final-next_by false true last = refl
final-next_by false false last = refl

word-next_before : (o : Option ℕ) (end last : Bool) → is_word_next (next_before o end last) ≡ is_word o
word-next_before None true last = refl
word-next_before None false last = refl
word-next_before (Some b) end last = word-next_by (eqb b line_feed) (is_word_byte b) last ∙ word-no_line_feed b

-- What is at the offset p: a byte, or none.
pub data Around (w : List ℕ) (ended : Bool) (p : ℕ) : Type 0 where
  byte : (b : ℕ) → slice_get w p ≡ Some b → p < length w → next_at w ended p ≡ next_by (eqb b line_feed) (is_word_byte b) (ended && eqb (p + 1) (length w)) → Around w ended p
  no_byte : slice_get w p ≡ None → length w ≤ p → next_at w ended p ≡ next_before None (ended && eqb p (length w)) false → Around w ended p

around-none : (end last : Bool) → next_before None end last ≡ next_before None end false
around-none true last = refl
around-none false last = refl

around : (w : List ℕ) (ended : Bool) (p : ℕ) → Around w ended p
unfolding next_at
around w ended p =
    let end : Bool = ended && eqb p (length w) in
    let last : Bool = ended && eqb (p + 1) (length w) in
    elim (cases_lt p (length w)) [
      | inl below ↦
          let e : slice_get w p ≡ Some (slice_index w p) = slice_get-get_or w p 0 below in
          byte (slice_index w p) e below (ap (λ o. next_before o end last) e)
      | inr above ↦
          let e : slice_get w p ≡ None = slice_get_past w p above in
          no_byte e above (ap (λ o. next_before o end last) e ∙ around-none end last)
    ]

-- each test of what comes next, at an end or not

none-line_end : (end : Bool) → is_line_end (next_before None end false) ≡ end
none-line_end true = refl
none-line_end false = refl

none-end : (end : Bool) → is_end (next_before None end false) ≡ end
none-end true = refl
none-end false = refl

none-final : (end : Bool) → is_final (next_before None end false) ≡ end
none-final true = refl
none-final false = refl

none-known : (end : Bool) → is_known (next_before None end false) ≡ end
none-known true = refl
none-known false = refl

none-byte : (end : Bool) → is_byte (next_before None end false) ≡ false
none-byte true = refl
none-byte false = refl

test-end : (w : List ℕ) (ended : Bool) (p : ℕ) → (ended && eqb p (length w)) ≡ true → IsEnd w ended p
test-end w ended p h =
    (first_of_both ended (eqb p (length w)) h, eqb-true p (length w) (second_of_both ended (eqb p (length w)) h))

end-test : (w : List ℕ) (ended : Bool) (p : ℕ) → IsEnd w ended p → (ended && eqb p (length w)) ≡ true
end-test w ended p end = of_both ended (eqb p (length w)) end.0 (eq-eqb p (length w) end.1)

word-next : (w : List ℕ) (ended : Bool) (p : ℕ) → is_word_next (next_at w ended p) ≡ is_word (byte_after w p)
unfolding next_at
word-next w ended p = word-next_before (slice_get w p) (ended && eqb p (length w)) (ended && eqb (p + 1) (length w))

module _ (w : List ℕ) (ended : Bool) (p : ℕ) where
  next-byte : is_byte (next_at w ended p) ≡ true → p < length w
  next-byte h =
      elim (around w ended p) [
        | byte b e below is ↦ below
        | no_byte e above is ↦ absurd (let e : false ≡ true = sym (ap is_byte is ∙ none-byte (ended && eqb p (length w))) ∙ h in cc)
      ]

  byte-next : p < length w → is_byte (next_at w ended p) ≡ true
  byte-next below =
      elim (around w ended p) [
        | byte b e _ is ↦ ap is_byte is ∙ byte-next_by (eqb b line_feed) (is_word_byte b) (ended && eqb (p + 1) (length w))
        | no_byte e above is ↦ absurd (omega arith)
      ]

  next-known : is_known (next_at w ended p) ≡ true → IsKnown w ended p
  next-known h =
      elim (around w ended p) [
        | byte b e below is ↦ inl below
        | no_byte e above is ↦ inr (test-end w ended p (sym (ap is_known is ∙ none-known (ended && eqb p (length w))) ∙ h))
      ]

  known-next : IsKnown w ended p → is_known (next_at w ended p) ≡ true
  known-next known =
      elim (around w ended p) [
        | byte b e _ is ↦ ap is_known is ∙ known-next_by (eqb b line_feed) (is_word_byte b) (ended && eqb (p + 1) (length w))
        | no_byte e above is ↦
            elim known [
              | inl below ↦ absurd (omega arith)
              | inr end ↦ ap is_known is ∙ (none-known (ended && eqb p (length w)) ∙ end-test w ended p end)
            ]
      ]

  next-line_end : is_line_end (next_at w ended p) ≡ true → (byte_after w p ≡ Some line_feed) ⊎ IsEnd w ended p
  next-line_end h =
      elim (around w ended p) [
        | byte b e below is ↦
            let l : eqb b line_feed ≡ true = sym (ap is_line_end is ∙ line_end-next_by (eqb b line_feed) (is_word_byte b) (ended && eqb (p + 1) (length w))) ∙ h in
            inl (e ∙ ap (λ x. Some x) (eqb-true b line_feed l))
        | no_byte e above is ↦ inr (test-end w ended p (sym (ap is_line_end is ∙ none-line_end (ended && eqb p (length w))) ∙ h))
      ]

  line_end-next : (byte_after w p ≡ Some line_feed) ⊎ IsEnd w ended p → is_line_end (next_at w ended p) ≡ true
  line_end-next ends =
      elim (around w ended p) [
        | byte b e below is ↦
            elim ends [
              | inl feed ↦
                  let same : b ≡ line_feed = (cc) in
                  ap is_line_end is ∙ (line_end-next_by (eqb b line_feed) (is_word_byte b) (ended && eqb (p + 1) (length w)) ∙ eq-eqb b line_feed same)
              | inr end ↦ absurd (omega (arith, end.1))
            ]
        | no_byte e above is ↦
            elim ends [
              | inl feed ↦ absurd (cc)
              | inr end ↦ ap is_line_end is ∙ (none-line_end (ended && eqb p (length w)) ∙ end-test w ended p end)
            ]
      ]

  next-end : is_end (next_at w ended p) ≡ true → IsEnd w ended p
  next-end h =
      elim (around w ended p) [
        | byte b e below is ↦
            absurd (let e : false ≡ true = sym (ap is_end is ∙ end-next_by (eqb b line_feed) (is_word_byte b) (ended && eqb (p + 1) (length w))) ∙ h in cc)
        | no_byte e above is ↦ test-end w ended p (sym (ap is_end is ∙ none-end (ended && eqb p (length w))) ∙ h)
      ]

  end-next : IsEnd w ended p → is_end (next_at w ended p) ≡ true
  end-next end =
      elim (around w ended p) [
        | byte b e below is ↦ absurd (omega (arith, end.1))
        | no_byte e above is ↦ ap is_end is ∙ (none-end (ended && eqb p (length w)) ∙ end-test w ended p end)
      ]

  next-final : is_final (next_at w ended p) ≡ true → Holds w ended EndOrFinalNewline p
  next-final h =
      elim (around w ended p) [
        | byte b e below is ↦
            let last : Bool = ended && eqb (p + 1) (length w) in
            let l : (eqb b line_feed && last) ≡ true = sym (ap is_final is ∙ final-next_by (eqb b line_feed) (is_word_byte b) last) ∙ h in
            let m : last ≡ true = second_of_both (eqb b line_feed) last l in
            inr (
              first_of_both ended (eqb (p + 1) (length w)) m,
              e ∙ ap (λ x. Some x) (eqb-true b line_feed (first_of_both (eqb b line_feed) last l)),
              eqb-true (p + 1) (length w) (second_of_both ended (eqb (p + 1) (length w)) m),
            )
        | no_byte e above is ↦ inl (test-end w ended p (sym (ap is_final is ∙ none-final (ended && eqb p (length w))) ∙ h))
      ]

  final-next : Holds w ended EndOrFinalNewline p → is_final (next_at w ended p) ≡ true
  final-next holds =
      elim (around w ended p) [
        | byte b e below is ↦
            elim holds [
              | inl end ↦ absurd (omega (arith, end.1))
              | inr feed ↦
                  let same : b ≡ line_feed = (cc (feed.1)) in
                  let last : (ended && eqb (p + 1) (length w)) ≡ true = of_both ended (eqb (p + 1) (length w)) feed.0 (eq-eqb (p + 1) (length w) feed.2) in
                  ap is_final is
                  ∙ (final-next_by (eqb b line_feed) (is_word_byte b) (ended && eqb (p + 1) (length w))
                  ∙ of_both (eqb b line_feed) (ended && eqb (p + 1) (length w)) (eq-eqb b line_feed same) last)
            ]
        | no_byte e above is ↦
            elim holds [
              | inl end ↦ ap is_final is ∙ (none-final (ended && eqb p (length w)) ∙ end-test w ended p end)
              | inr feed ↦ absurd (cc (feed.1))
            ]
      ]

  -- an assertion that holds at an offset allows its context
  pub holds-allows : (a : Assertion) → Holds w ended a p → allows a (context_at w ended p) ≡ true
  holds-allows StreamStart holds = zero-start w p holds
  holds-allows LineStart (inl start) = left_of_either (is_start (prev_at w p)) (is_newline (prev_at w p) && is_byte (next_at w ended p)) (zero-start w p start)
  holds-allows LineStart (inr (feed, below)) =
      right_of_either (is_start (prev_at w p)) (is_newline (prev_at w p) && is_byte (next_at w ended p))
      (of_both (is_newline (prev_at w p)) (is_byte (next_at w ended p)) (before-newline w p feed) (byte-next below))
  holds-allows LineEnd holds = line_end-next holds
  holds-allows EndOrFinalNewline holds = final-next holds
  holds-allows StreamEnd holds = end-next holds
  holds-allows WordBoundary (known, apart) =
      of_both (is_known (next_at w ended p)) (is_boundary (context_at w ended p)) (known-next known)
      (apart-differ (is_word_before (prev_at w p)) (is_word_next (next_at w ended p)) (λ same. apart (sym (word-before w p) ∙ (same ∙ word-next w ended p))))
  holds-allows NotWordBoundary (known, same) =
      of_both (is_known (next_at w ended p)) (not (is_boundary (context_at w ended p))) (known-next known)
      (same-alike (is_word_before (prev_at w p)) (is_word_next (next_at w ended p)) (word-before w p ∙ (same ∙ sym (word-next w ended p))))

  -- one that allows the context of an offset holds there
  pub allows-holds : (a : Assertion) → allows a (context_at w ended p) ≡ true → Holds w ended a p
  allows-holds StreamStart h = start-zero w p h
  allows-holds LineStart h =
      elim (of_either (is_start (prev_at w p)) (is_newline (prev_at w p) && is_byte (next_at w ended p)) h) [
        | inl start ↦ inl (start-zero w p start)
        | inr feed ↦
            inr (
              newline-before w p (first_of_both (is_newline (prev_at w p)) (is_byte (next_at w ended p)) feed),
              next-byte (second_of_both (is_newline (prev_at w p)) (is_byte (next_at w ended p)) feed),
            )
      ]
  allows-holds LineEnd h = next-line_end h
  allows-holds EndOrFinalNewline h = next-final h
  allows-holds StreamEnd h = next-end h
  allows-holds WordBoundary h =
      let known : is_known (next_at w ended p) ≡ true = first_of_both (is_known (next_at w ended p)) (is_boundary (context_at w ended p)) h in
      let apart : is_boundary (context_at w ended p) ≡ true = second_of_both (is_known (next_at w ended p)) (is_boundary (context_at w ended p)) h in (
        next-known known,
        λ same. differ-apart (is_word_before (prev_at w p)) (is_word_next (next_at w ended p)) apart (word-before w p ∙ (same ∙ sym (word-next w ended p))),
      )
  allows-holds NotWordBoundary h =
      let known : is_known (next_at w ended p) ≡ true = first_of_both (is_known (next_at w ended p)) (not (is_boundary (context_at w ended p))) h in
      let same : not (is_boundary (context_at w ended p)) ≡ true = second_of_both (is_known (next_at w ended p)) (not (is_boundary (context_at w ended p))) h in (
        next-known known,
        sym (word-before w p) ∙ (alike-same (is_word_before (prev_at w p)) (is_word_next (next_at w ended p)) same ∙ word-next w ended p),
      )
