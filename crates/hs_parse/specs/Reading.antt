-- What the functions of the parser find out on their way.
use Rattle.std.specs.Prelude.{◌≡◌, ℕ, ◌<◌, ◌≤◌, ◌⊎◌, Bool, true, false, Option, Some, None, List, [], ◌∷◌, length}
use Rattle.std.specs.Prelude.{Result, Ok, Err}
use Rattle.std.specs.List.{list_any}
use Rattle.hs_base.specs.declared.byte_set.ByteSet.{ByteSet}
use Rattle.hs_base.specs.declared.flags.Flags.{Flags}
use Rattle.hs_base.specs.declared.refusal.Refusal.{Refusal}
use Rattle.hs_base.specs.ByteSets.{has, members}
use Rattle.hs_base.specs.Refusals.{number_of}
use Rattle.hs_base.specs.Trees.{Tree}
use Rattle.hs_syntax.specs.declared.mode.Mode.{Mode}
use Rattle.hs_parse.specs.declared.fault.ParseFault.{ParseFault}
use Rattle.hs_parse.specs.declared.fault.ParseFault.TheVariants as fault
use Rattle.hs_parse.specs.declared.item.Item.{Item as ClassItem}
use Rattle.hs_parse.specs.declared.item.Item.TheVariants as item
use Rattle.hs_parse.specs.declared.token.Token.{Token as Seen}
use Rattle.hs_parse.specs.declared.token.Token.TheVariants as seen
use Rattle.hs_parse.specs.declared.token.Made.{Made as SeenMade}
use Rattle.hs_parse.specs.declared.token.Made.TheVariants as seenmade
use Rattle.hs_parse.specs.declared.token.Found.{Found}
use Rattle.hs_parse.specs.declared.spot.Spot.{Spot}
use Rattle.hs_parse.specs.declared.set.Test.{Test}
use Rattle.hs_parse.specs.Classes.{passes, item_at, Items}
use Rattle.hs_parse.specs.Tokens.{Token, ending, single, code_point, assertion, opening, closing, bar, quantifier}
use Rattle.hs_parse.specs.Tokens.{setting, faulty}
use Rattle.hs_parse.specs.Tokens.{Made, token, skips, bracket, Next}
use Rattle.hs_parse.specs.Grammar.{NoQuantifier, Atom, Item, Sequence, sequence_tree, Alternation, alternation_tree}
use Rattle.hs_parse.specs.Faults.{Before, beginning, state, start_state, Run, StopsAt, IsOneOf}

-- the set has the bytes of the items of a class, read up to a place
pub record HasItems (text : List ℕ) (mode : Mode) (start : ℕ) (set : ByteSet) (here : ℕ) : Type 0 where
  pub tests : List Test
  pub items : Items text mode start start tests here
  pub same : (b : ℕ) → b < 256 → has set b ≡ list_any (λ test. passes test b) tests

-- the items of a class are read up to a place, and there stands that
pub record EndsItems (text : List ℕ) (mode : Mode) (start : ℕ) (last : ClassItem) : Type 0 where
  pub tests : List Test
  pub here : ℕ
  pub items : Items text mode start start tests here
  pub there : item_at text mode start here ≡ last

-- What the items of a class are, and where it is closed; none where it isn't, or a refusal.
abbrev pub AreItemsOf : List ℕ → Mode → ℕ → Result (Option (ByteSet × ℕ)) Refusal → Type 0
AreItemsOf text mode start (Ok (Some (set, close))) =
    HasItems text mode start set close × (item_at text mode start close ≡ item.Close)
AreItemsOf text mode start (Ok None) = EndsItems text mode start item.End
AreItemsOf text mode start (Err refusal) = EndsItems text mode start (item.Refused refusal)

-- the token that the parser sees
abbrev pub plain_token : Seen → Token
plain_token seen.End = ending
plain_token (seen.Single set) = single (members set)
plain_token seen.Point = code_point
plain_token (seen.Assert here) = assertion here
plain_token seen.Opening = opening
plain_token seen.Closing = closing
plain_token seen.Bar = bar
plain_token (seen.Quantifier least greatest possessive) = quantifier least greatest possessive
plain_token seen.Setting = setting
plain_token (seen.Refused refusal) = faulty refusal

-- whether the parser sees a quantifier
abbrev pub sees_quantifier : Seen → Bool
sees_quantifier seen.End = false
sees_quantifier (seen.Single set) = false
sees_quantifier seen.Point = false
sees_quantifier (seen.Assert here) = false
sees_quantifier seen.Opening = false
sees_quantifier seen.Closing = false
sees_quantifier seen.Bar = false
sees_quantifier (seen.Quantifier least greatest possessive) = true
sees_quantifier seen.Setting = false
sees_quantifier (seen.Refused refusal) = false

-- what a form makes, as the parser sees it
abbrev pub plain_made : SeenMade → Made
plain_made (seenmade.Token here mode length) = token (plain_token here) mode length
plain_made (seenmade.Skips mode length) = skips mode length
plain_made seenmade.Bracket = bracket

-- how far a token goes: only the end of the text and a form that is refused take no byte
abbrev pub goes_on : Token → (start behind : ℕ) → Type 0
goes_on ending start behind = Unit {0}
goes_on (single set) start behind = start < behind
goes_on code_point start behind = start < behind
goes_on (assertion here) start behind = start < behind
goes_on opening start behind = start < behind
goes_on closing start behind = start < behind
goes_on bar start behind = start < behind
goes_on (quantifier least greatest possessive) start behind = start < behind
goes_on setting start behind = start < behind
goes_on (faulty refusal) start behind = Unit {0}

-- the next token from a spot on, within the text
pub record IsNext (text : List ℕ) (s : Spot) (found : Found) : Type 0 where
  pub there : Next text s found.start (plain_token found.token) found.behind
  pub reached : s.place ≤ found.start.place
  pub rises : goes_on (plain_token found.token) found.start.place found.behind.place
  pub forward : found.start.place ≤ found.behind.place
  pub within : found.behind.place ≤ length text

-- the token is the next one from some spot on
pub record IsToken (text : List ℕ) (found : Found) : Type 0 where
  pub from : Spot
  pub next : IsNext text from found

-- it is so of each spot from which the token is the next one
abbrev pub FromEach : List ℕ → Found → (Spot → Type 0) → Type 0
FromEach text found P = (at : Spot) → IsNext text at found → P at

-- a group ends with the next token: with its `)`, or with the text
pub data EndsGroup (text : List ℕ) (s : Spot) : Type 0 where
  at_closing : {start t : Spot} → Next text s start closing t → EndsGroup text s
  at_ending : {start t : Spot} → Next text s start ending t → EndsGroup text s

-- a sequence ends with the next token: with its group, or with a `|`
pub data EndsSequence (text : List ℕ) (s : Spot) : Type 0 where
  with_group : EndsGroup text s → EndsSequence text s
  at_bar : {start t : Spot} → Next text s start bar t → EndsSequence text s

-- what stands before a spot leaves no room for a quantifier that is read: a sequence begins there, or none comes next
abbrev pub IsReady : List ℕ → Spot → Before → Type 0
IsReady text s before = (before ≡ beginning) ⊎ NoQuantifier text s

-- Wherever the reading comes to the first spot, within so many groups, it comes to the second.
abbrev pub ReadsOn : List ℕ → ℕ → Spot → Spot → Type 0
ReadsOn text depth s t =
    (outside : List Mode) (before : Before) → length outside ≡ depth → IsReady text s before →
    (after : Before) × IsReady text t after × Run text (state s outside before) (state t outside after)

-- of some refusals the one of least number
pub record IsLeastOf (refusal : Refusal) (refusals : List Refusal) : Type 0 where
  pub has : IsOneOf refusal refusals
  pub least : (other : Refusal) → IsOneOf other refusals → number_of refusal ≤ number_of other

-- no refusal, or one
abbrev pub bounds_list : Option Refusal → List Refusal
bounds_list None = []
bounds_list (Some refusal) = refusal ∷ []

-- the reading stops, and of the reasons that is the one of least number
pub record StopsWith (text : List ℕ) (flags : Flags) (refusal : Refusal) : Type 0 where
  pub at : ℕ
  pub refusals : List Refusal
  pub stop : StopsAt text flags at refusals
  pub is : IsLeastOf refusal refusals

-- Wherever the reading comes to the spot, within so many groups, it stops with the refusal later.
abbrev pub StopsFrom : List ℕ → ℕ → Spot → ParseFault → Type 0
StopsFrom text depth s (fault.Refused refusal) =
    (flags : Flags) (outside : List Mode) (before : Before) → length outside ≡ depth → IsReady text s before →
    Run text (start_state flags) (state s outside before) →
    StopsWith text flags refusal
StopsFrom text depth s fault.Memory = Unit {0}

-- an atom is read
pub record ReadsAtom (text : List ℕ) (depth : ℕ) (s : Spot) (tree : Tree) (t : Spot) : Type 0 where
  pub whole : Atom text depth s tree t
  pub rises : s.place < t.place
  pub within : t.place ≤ length text

-- an item is read, and no quantifier follows it
pub record ReadsItem (text : List ℕ) (depth : ℕ) (s : Spot) (tree : Tree) (t : Spot) : Type 0 where
  pub whole : Item text depth s tree t
  pub bare : NoQuantifier text t
  pub rises : s.place < t.place
  pub within : t.place ≤ length text

-- a sequence is read to its end
pub record ReadsSequence (text : List ℕ) (depth : ℕ) (s : Spot) (tree : Tree) (t : Spot) : Type 0 where
  pub trees : List Tree
  pub whole : Sequence text depth s trees t
  pub is : tree ≡ sequence_tree trees
  pub ended : EndsSequence text t
  pub rises : s.place ≤ t.place
  pub within : t.place ≤ length text

-- alternatives are read to their end
pub record ReadsGroup (text : List ℕ) (depth : ℕ) (s : Spot) (tree : Tree) (t : Spot) : Type 0 where
  pub trees : List Tree
  pub whole : Alternation text depth s trees t
  pub is : tree ≡ alternation_tree trees
  pub ended : EndsGroup text t
  pub rises : s.place ≤ t.place
  pub within : t.place ≤ length text
