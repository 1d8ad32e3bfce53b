-- At every place begins one token.
use Rattle.std.proofs.Common.{◌≡◌, ℕ, zero, suc, ◌+◌, ◌-◌, ◌<◌, ◌≤◌, Bool, List, length, drop, refl, sym, ap, subst, ◌∙◌, arith}
use Rattle.std.proofs.lemmas.List.{length-drop}
use Rattle.hs_syntax.specs.declared.mode.Mode.{Mode}
use Rattle.hs_syntax.specs.declared.form.Form.{Form}
use Rattle.hs_syntax.specs.declared.form.Form.TheVariants as form
use Rattle.hs_syntax.specs.Lengths.{IsLength, FormFits}
use Rattle.hs_syntax.proofs.FitLemmas.{either}
use Rattle.hs_syntax.proofs.FormLengths.{form_fits}
use Rattle.hs_parse.specs.declared.spot.Spot.{Spot}
use Rattle.hs_parse.specs.declared.set.Test.TheVariants.{Range, Class}
use Rattle.hs_parse.specs.Spots.{spot, form_of}
use Rattle.hs_parse.specs.Classes.{bytes_of, is_negated, class_of}
use Rattle.hs_parse.specs.Tokens.{Token, ending, single, code_point, assertion, opening, closing, bar, quantifier, setting, faulty, Made, token, skips, bracket, any_byte, one_of, made_by, made_at, ClassToken, closed, unclosed, refused, TokenAt, formed, bracketed, Next, now, skipped}
use Rattle.hs_parse.specs.Reading.{goes_on}
use Rattle.hs_parse.proofs.ClassLemmas.{one_class, class_read, closed_within}

-- the token and what is behind it are the same in two readings
pub record AreSameTokens (a b : Token) (t u : Spot) : Type 0 where
  pub token : a ≡ b
  pub behind : t ≡ u

-- one form is made in one way
record AreSameMade (a b : Token) (m n : Mode) (j k : ℕ) : Type 0 where
  pub token : a ≡ b
  pub mode : m ≡ n
  pub length : j ≡ k

same_made : {x : Made} {a b : Token} {m n : Mode} {j k : ℕ} → x ≡ token a m j → x ≡ token b n k → AreSameMade a b m n j k
same_made e f = record { token = cc; mode = cc; length = cc }

same_spots : (place : ℕ) {m n : Mode} {j k : ℕ} → m ≡ n → j ≡ k → spot (place + j) m ≡ spot (place + k) n
same_spots place {m = m} {n = n} {j = j} {k = k} e f = ap (λ x. spot (place + x) m) f ∙ ap (λ (x : Mode). spot (place + k) x) e

token_no_bracket : {x : Made} {a : Token} {m : Mode} {j : ℕ} → x ≡ token a m j → x ≡ bracket → ⊥
token_no_bracket e f = cc

token_no_skip : {x : Made} {a : Token} {m n : Mode} {j k : ℕ} → x ≡ token a m j → x ≡ skips n k → ⊥
token_no_skip e f = cc

bracket_no_skip : {x : Made} {n : Mode} {k : ℕ} → x ≡ bracket → x ≡ skips n k → ⊥
bracket_no_skip e f = cc

-- one token begins at a place
pub one_token :
    {text : List ℕ} {s t u : Spot} {a b : Token} →
    TokenAt text s a t → TokenAt text s b u → AreSameTokens a b t u
one_token {s = s} (formed e) (formed f) =
    let same = same_made e f in record { token = same.token; behind = same_spots s.place same.mode same.length }
one_token (formed e) (bracketed f there) = absurd (token_no_bracket e f)
one_token (bracketed f there) (formed e) = absurd (token_no_bracket e f)
one_token {s = s} (bracketed e here) (bracketed f there) =
    let same = one_class here there in record { token = same.token; behind = ap (λ x. spot x s.mode) same.end }

-- what is skipped is no token
pub token_stays : {text : List ℕ} {s t : Spot} {a : Token} {mode : Mode} {k : ℕ} → TokenAt text s a t → made_at text s ≡ skips mode k → ⊥
token_stays (formed e) f = token_no_skip e f
token_stays (bracketed e there) f = bracket_no_skip e f

-- the next token, where it begins and what is behind it are the same in two readings
pub record AreSameNext (i j : Spot) (a b : Token) (t u : Spot) : Type 0 where
  pub start : i ≡ j
  pub token : a ≡ b
  pub behind : t ≡ u

same_skips : {x : Made} {m n : Mode} {j k : ℕ} (place : ℕ) → x ≡ skips m j → x ≡ skips n k → spot (place + j) m ≡ spot (place + k) n
same_skips {m = m} {n = n} {j = j} {k = k} place e f =
    let mode : m ≡ n = cc in
    let length : j ≡ k = cc in
    same_spots place mode length

pub moved_next : {text : List ℕ} {s r start t : Spot} {a : Token} → s ≡ r → Next text r start a t → Next text s start a t
moved_next {text = text} {start = start} {t = t} {a = a} e there = subst (λ (x : Spot). Next text x start a t) (sym e) there

-- one token is next
pub one_next :
    {text : List ℕ} {s i j t u : Spot} {a b : Token} →
    Next text s i a t → Next text s j b u → AreSameNext i j a b t u
one_next (now p) (now q) = let same = one_token p q in record { start = refl; token = same.token; behind = same.behind }
one_next (now p) (skipped e there) = absurd (token_stays p e)
one_next (skipped e there) (now p) = absurd (token_stays p e)
one_next {s = s} (skipped e there) (skipped f other) = one_next there (moved_next (same_skips s.place e f) other)

-- how far what is made goes, in so many bytes
abbrev pub MadeFits : (bytes : ℕ) → Made → Type 0
MadeFits bytes (token ending mode length) = (bytes ≡ 0) × (length ≡ 0)
MadeFits bytes (token (single set) mode length) = IsLength bytes length
MadeFits bytes (token code_point mode length) = IsLength bytes length
MadeFits bytes (token (assertion here) mode length) = IsLength bytes length
MadeFits bytes (token opening mode length) = IsLength bytes length
MadeFits bytes (token closing mode length) = IsLength bytes length
MadeFits bytes (token bar mode length) = IsLength bytes length
MadeFits bytes (token (quantifier least greatest possessive) mode length) = IsLength bytes length
MadeFits bytes (token setting mode length) = IsLength bytes length
MadeFits bytes (token (faulty refusal) mode length) = length ≡ 0
MadeFits bytes (skips mode length) = IsLength bytes length
MadeFits bytes bracket = IsLength bytes 1

one_of_fits : (bytes : ℕ) (mode behind : Mode) (set : List Bool) (n : ℕ) → IsLength bytes n → MadeFits bytes (token (one_of mode set) behind n)
one_of_fits bytes mode behind set n h = either (λ (made : Token). MadeFits bytes (token made behind n)) mode.utf8 _ _ (λ _. h) (λ _. h)

made_by_fits : (bytes : ℕ) (mode : Mode) (at : ℕ) (f : Form) → FormFits bytes f → MadeFits bytes (made_by mode at f)
made_by_fits bytes mode at form.End h = (h, refl)
made_by_fits bytes mode at (form.Skipped behind length) h = h
made_by_fits bytes mode at (form.Setting behind length) h = h
made_by_fits bytes mode at (form.Opening inside length) h = h
made_by_fits bytes mode at form.Closing h = h
made_by_fits bytes mode at form.Bar h = h
made_by_fits bytes mode at form.Any h = one_of_fits bytes mode mode (any_byte mode.dotall) 1 h
made_by_fits bytes mode at (form.Character code length) h = one_of_fits bytes mode mode (bytes_of (Range mode.caseless code code)) length h
made_by_fits bytes mode at (form.Class named negated length) h = one_of_fits bytes mode mode (bytes_of (Class named negated)) length h
made_by_fits bytes mode at form.Bracket h = h
made_by_fits bytes mode at (form.Assert here length) h = h
made_by_fits bytes mode at (form.Quantifier least greatest possessive length) h = h
made_by_fits bytes mode at (form.Refused reason) h = refl

made_at_fits : (text : List ℕ) (s : Spot) → MadeFits (length text - s.place) (made_at text s)
unfolding made_at
made_at_fits text s =
    subst (λ n. MadeFits n (made_by s.mode s.place (form_of text s))) (length-drop s.place text)
    (made_by_fits (length (drop s.place text)) s.mode s.place (form_of text s) (form_fits s.mode (drop s.place text)))

pub made_fits : (text : List ℕ) (s : Spot) (m : Made) → made_at text s ≡ m → MadeFits (length text - s.place) m
made_fits text s m e = subst (MadeFits (length text - s.place)) e (made_at_fits text s)

-- a token is some bytes of the text
pub record Takes (text : List ℕ) (made : Token) (start behind : ℕ) : Type 0 where
  pub rises : goes_on made start behind
  pub forward : start ≤ behind
  pub within : behind ≤ length text

plain_takes :
    (text : List ℕ) (s : Spot) (made : Token) (mode : Mode) (n : ℕ) →
    s.place ≤ length text → MadeFits (length text - s.place) (token made mode n) → Takes text made s.place (s.place + n)
plain_takes text s ending mode n h fits = record { rises = tt; forward = omega arith; within = omega (arith, fits.1, h) }
plain_takes text s (single set) mode n h fits = record { rises = omega (arith, fits.some); forward = omega arith; within = omega (arith, fits.within, h) }
plain_takes text s code_point mode n h fits = record { rises = omega (arith, fits.some); forward = omega arith; within = omega (arith, fits.within, h) }
plain_takes text s (assertion here) mode n h fits = record { rises = omega (arith, fits.some); forward = omega arith; within = omega (arith, fits.within, h) }
plain_takes text s opening mode n h fits = record { rises = omega (arith, fits.some); forward = omega arith; within = omega (arith, fits.within, h) }
plain_takes text s closing mode n h fits = record { rises = omega (arith, fits.some); forward = omega arith; within = omega (arith, fits.within, h) }
plain_takes text s bar mode n h fits = record { rises = omega (arith, fits.some); forward = omega arith; within = omega (arith, fits.within, h) }
plain_takes text s (quantifier least greatest possessive) mode n h fits =
    record { rises = omega (arith, fits.some); forward = omega arith; within = omega (arith, fits.within, h) }
plain_takes text s setting mode n h fits = record { rises = omega (arith, fits.some); forward = omega arith; within = omega (arith, fits.within, h) }
plain_takes text s (faulty refusal) mode n h fits = record { rises = tt; forward = omega arith; within = omega (arith, fits, h) }

pub class_takes :
    {text : List ℕ} {mode : Mode} {at end : ℕ} {made : Token} →
    at < length text → ClassToken text mode at made end → Takes text made at end
class_takes {text = text} {mode = mode} {at = at} h (closed {tests = tests} {close = close} items e) =
    let far = closed_within h items e in
    let set = class_of (is_negated text at) tests in
    record {
      rises = either (λ (made : Token). goes_on made at (close + 1)) mode.utf8 code_point (single set) (λ _. far.0) (λ _. far.0);
      forward = omega (arith, far.0);
      within = far.1;
    }
class_takes h (unclosed items e) = record { rises = tt; forward = omega arith; within = omega (arith, h) }
class_takes h (refused items e) = record { rises = tt; forward = omega arith; within = omega (arith, h) }

-- where a class begins, a byte is
pub bracket_within : (text : List ℕ) (s : Spot) → made_at text s ≡ bracket → s.place < length text
bracket_within text s e = let fits : IsLength (length text - s.place) 1 = made_fits text s bracket e in omega (arith, fits.within)

pub token_takes : {text : List ℕ} {s t : Spot} {made : Token} → s.place ≤ length text → TokenAt text s made t → Takes text made s.place t.place
token_takes {text = text} {s = s} h (formed {made = made} {mode = mode} {length = n} e) =
    plain_takes text s made mode n h (made_fits text s (token made mode n) e)
token_takes {text = text} {s = s} h (bracketed e there) = class_takes (bracket_within text s e) there

-- the next token is some bytes of the text, and so is what is skipped
pub record NextTakes (text : List ℕ) (made : Token) (at start behind : ℕ) : Type 0 where
  pub reached : at ≤ start
  pub rises : goes_on made start behind
  pub forward : start ≤ behind
  pub within : behind ≤ length text

-- what is skipped is some bytes of the text
pub record Skips (text : List ℕ) (at behind : ℕ) : Type 0 where
  pub rises : at < behind
  pub within : behind ≤ length text

pub skip_takes : (text : List ℕ) (s : Spot) (mode : Mode) (n : ℕ) → s.place ≤ length text → made_at text s ≡ skips mode n → Skips text s.place (s.place + n)
skip_takes text s mode n h e =
    let fits : IsLength (length text - s.place) n = made_fits text s (skips mode n) e in
    record { rises = omega (arith, fits.some); within = omega (arith, fits.within, h) }

pub next_takes : {text : List ℕ} {s start t : Spot} {made : Token} → s.place ≤ length text → Next text s start made t → NextTakes text made s.place start.place t.place
next_takes h (now p) =
    let far = token_takes h p in record { reached = omega arith; rises = far.rises; forward = far.forward; within = far.within }
next_takes {text = text} {s = s} h (skipped {mode = mode} {length = n} e there) =
    let skip = skip_takes text s mode n h e in
    let far = next_takes skip.within there in
    record { reached = omega (arith, skip.rises, far.reached); rises = far.rises; forward = far.forward; within = far.within }

-- one character is no end of the text
no_ending : (mode : Mode) (set : List Bool) → one_of mode set ≡ ending → ⊥
no_ending mode set = either (λ (made : Token). made ≡ ending → ⊥) mode.utf8 code_point (single set) (λ _ e. cc) (λ _ e. cc)

-- the end of the text is behind all bytes
ending_fits : (bytes n : ℕ) (mode : Mode) → MadeFits bytes (token ending mode n) → bytes ≡ 0
ending_fits bytes n mode fits = fits.0

pub ending_place : {text : List ℕ} {s t : Spot} {made : Token} → made ≡ ending → s.place ≤ length text → TokenAt text s made t → s.place ≡ length text
ending_place {text = text} {s = s} same h (formed {made = made} {mode = mode} {length = n} e) =
    let fits = made_fits text s (token ending mode n) (e ∙ ap (λ (x : Token). token x mode n) same) in omega (arith, fits.0, h)
ending_place {s = s} same h (bracketed e (closed items f)) = absurd (no_ending s.mode _ same)
ending_place same h (bracketed e (unclosed items f)) = absurd cc
ending_place same h (bracketed e (refused items f)) = absurd cc

pub next_ending : {text : List ℕ} {s start t : Spot} {made : Token} → made ≡ ending → s.place ≤ length text → Next text s start made t → start.place ≡ length text
next_ending same h (now p) = ending_place same h p
next_ending {text = text} {s = s} same h (skipped {mode = mode} {length = n} e there) =
    next_ending same (skip_takes text s mode n h e).within there

-- a token is next
pub record NextRead (text : List ℕ) (s : Spot) : Type 0 where
  pub start : Spot
  pub made : Token
  pub behind : Spot
  pub there : Next text s start made behind

next_made :
    (text : List ℕ) (s : Spot) (m : Made) → made_at text s ≡ m →
    ((mode : Mode) (n : ℕ) → made_at text s ≡ skips mode n → NextRead text (spot (s.place + n) mode)) → NextRead text s
next_made text s (token made mode n) e more = record { start = _; made = _; behind = _; there = now (formed e) }
next_made text s (skips mode n) e more =
    let rest = more mode n e in record { start = _; made = _; behind = _; there = skipped e rest.there }
next_made text s bracket e more =
    let there = class_read text s.mode s.place (bracket_within text s e) in
    record { start = _; made = _; behind = _; there = now (bracketed e there.there) }

next_fuel : (fuel : ℕ) (text : List ℕ) (s : Spot) → s.place ≤ length text → length text ≤ s.place + fuel → NextRead text s
next_fuel zero text s h k =
    next_made text s (made_at text s) refl
    (λ mode n e. let skip = skip_takes text s mode n h e in absurd (omega (arith, skip.rises, skip.within, k)))
next_fuel (suc fuel) text s h k =
    next_made text s (made_at text s) refl
    (λ mode n e.
    let skip = skip_takes text s mode n h e in
    next_fuel fuel text (spot (s.place + n) mode) skip.within (omega (arith, skip.rises, k)))

pub next_read : (text : List ℕ) (s : Spot) → s.place ≤ length text → NextRead text s
next_read text s h = next_fuel (length text) text s h (omega arith)
