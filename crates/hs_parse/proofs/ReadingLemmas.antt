-- What the functions that read tokens find out, in the words of the grammar.
use Rattle.std.proofs.Common.{◌≡◌, ℕ, ◌+◌, ◌<◌, ◌≤◌, not, List, length, Option, Some, None, Result, Ok, Err, MatchResult, sym, subst, arith}
use Rattle.std.specs.Prelude.{if◌then◌else◌}
use Rattle.std.specs.Result.{IsErr, IsErrAnd}
use Rattle.std.proofs.lemmas.Bool.{false≢true}
use Rattle.hs_base.specs.declared.byte_set.ByteSet.{ByteSet}
use Rattle.hs_base.specs.declared.refusal.Refusal.{Refusal}
use Rattle.hs_base.specs.declared.refusal.Refusal.TheVariants.{Syntax}
use Rattle.hs_base.specs.ByteSets.{has, members}
use Rattle.hs_syntax.specs.declared.mode.Mode.{Mode}
use Rattle.hs_parse.specs.declared.item.Item.TheVariants as item
use Rattle.hs_parse.specs.declared.spot.Spot.{Spot}
use Rattle.hs_parse.specs.declared.token.Found.{Found}
use Rattle.hs_parse.specs.declared.token.Token.{Token as Seen}
use Rattle.hs_parse.specs.Spots.{spot}
use Rattle.hs_parse.specs.Classes.{item_at, is_negated, items_start}
use Rattle.hs_parse.specs.Tokens.{Token, one_of, faulty, token, skips, bracket, made_at, ClassToken, closed, unclosed, refused, formed, bracketed, Next, now, skipped}
use Rattle.hs_parse.specs.Reading.{HasItems, EndsItems, AreItemsOf, plain_token, IsNext}
use Rattle.hs_parse.proofs.SetLemmas.{members-class}
use Rattle.hs_parse.proofs.TokenLemmas.{class_takes, token_takes, skip_takes}

-- what the items of a class are, at the start that the parser has
pub as_closed :
    (text : List ℕ) (mode : Mode) (at start close : ℕ) (set : ByteSet) (o : Option (ByteSet × ℕ)) →
    start ≡ items_start text at → o ≡ Some (set, close) → AreItemsOf text mode start (Ok o) →
    HasItems text mode (items_start text at) set close × (item_at text mode (items_start text at) close ≡ item.Close)
as_closed text mode at start close set o same e there =
    let here = subst (λ x. AreItemsOf text mode start (Ok x)) e there in
    subst (λ x. AreItemsOf text mode x (Ok (Some (set, close)))) same here

pub as_unclosed :
    (text : List ℕ) (mode : Mode) (at start : ℕ) (o : Option (ByteSet × ℕ)) →
    start ≡ items_start text at → o ≡ None → AreItemsOf text mode start (Ok o) →
    EndsItems text mode (items_start text at) item.End
as_unclosed text mode at start o same e there =
    let here = subst (λ x. AreItemsOf text mode start (Ok x)) e there in
    subst (λ x. AreItemsOf text mode x (Ok None)) same here

pub as_refused :
    (text : List ℕ) (mode : Mode) (at start : ℕ) (refusal : Refusal) →
    start ≡ items_start text at → EndsItems text mode start (item.Refused refusal) →
    EndsItems text mode (items_start text at) (item.Refused refusal)
as_refused text mode at start refusal same there = subst (λ x. EndsItems text mode x (item.Refused refusal)) same there

-- a class that is closed
pub closed_at :
    (text : List ℕ) (mode : Mode) (at close : ℕ) (set whole : ByteSet) →
    HasItems text mode (items_start text at) set close →
    item_at text mode (items_start text at) close ≡ item.Close →
    ((b : ℕ) → b < 256 → has whole b ≡ (if is_negated text at then not (has set b) else has set b)) →
    ClassToken text mode at (one_of mode (members whole)) (close + 1)
closed_at text mode at close set whole items e same =
    subst (λ bytes. ClassToken text mode at (one_of mode bytes) (close + 1))
    (sym (members-class set whole (is_negated text at) items.tests items.same same))
    (closed items.items e)

-- one that isn't
pub unclosed_at :
    (text : List ℕ) (mode : Mode) (at : ℕ) →
    EndsItems text mode (items_start text at) item.End → ClassToken text mode at (faulty (Syntax at)) at
unclosed_at text mode at ends = unclosed ends.items ends.there

-- one with an item that is refused
pub refused_at :
    (text : List ℕ) (mode : Mode) (at : ℕ) (refusal : Refusal) →
    EndsItems text mode (items_start text at) (item.Refused refusal) → ClassToken text mode at (faulty refusal) at
refused_at text mode at refusal ends = refused ends.items ends.there

abbrev pub found : Seen → (start behind : Spot) → Found
found here start behind = record { token = here; start = start; behind = behind }

-- a class that is next
pub class_next :
    (text : List ℕ) (s : Spot) (end : ℕ) (here : Seen) →
    made_at text s ≡ bracket → s.place < length text → ClassToken text s.mode s.place (plain_token here) end →
    IsNext text s (found here s (spot end s.mode))
class_next text s end here e h there =
    let far = class_takes h there in
    record { there = now (bracketed e there); reached = omega arith; rises = far.rises; forward = far.forward; within = far.within }

-- bytes are skipped from one spot to another
pub record IsSkipped (text : List ℕ) (from to : Spot) : Type 0 where
  pub more : {start t : Spot} {made : Token} → Next text to start made t → Next text from start made t
  pub reached : from.place ≤ to.place
  pub within : to.place ≤ length text

pub none_skipped : (text : List ℕ) (s : Spot) → s.place ≤ length text → IsSkipped text s s
none_skipped text s h = record { more = λ there. there; reached = omega arith; within = h }

pub more_skipped :
    (text : List ℕ) (from to : Spot) (mode : Mode) (n : ℕ) →
    IsSkipped text from to → made_at text to ≡ skips mode n → IsSkipped text from (spot (to.place + n) mode)
more_skipped text from to mode n before e =
    let skip = skip_takes text to mode n before.within e in
    record {
      more = λ there. before.more (skipped e there);
      reached = omega (arith, before.reached, skip.rises);
      within = skip.within;
    }

-- what is next behind what is skipped
pub next_behind : (text : List ℕ) (from to : Spot) (f : Found) → IsSkipped text from to → IsNext text to f → IsNext text from f
next_behind text from to f before next = record {
  there = before.more next.there;
  reached = omega (arith, before.reached, next.reached);
  rises = next.rises;
  forward = next.forward;
  within = next.within;
}

-- a token that is next
pub token_next :
    (text : List ℕ) (s : Spot) (here : Seen) (mode : Mode) (n : ℕ) →
    s.place ≤ length text → made_at text s ≡ token (plain_token here) mode n → IsNext text s (found here s (spot (s.place + n) mode))
token_next text s here mode n h e =
    let far = token_takes h (formed e) in
    record { there = now (formed e); reached = omega arith; rises = far.rises; forward = far.forward; within = far.within }

-- a refusal that is handed on
pub fault_on :
    {A E : Type 0} (P : A → Type 0) (Q : E → Type 0) (result : Result A E) (e : E) →
    IsErr result × IsErrAnd result (λ x. x ≡ e) → Q e → MatchResult result P Q
fault_on P Q (Ok x) e (told, same) h = absurd (false≢true told)
fault_on P Q (Err x) e (told, same) h = subst Q (sym same) h
