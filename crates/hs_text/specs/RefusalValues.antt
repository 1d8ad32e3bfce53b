-- The name of a refusal and its values, as they stand in its line.
use Rattle.std.specs.Prelude.{ℕ, List, [], ◌∷◌, codes, decimal}
use Rattle.hs_base.specs.declared.refusal.Refusal.{Refusal}
use Rattle.hs_base.specs.declared.refusal.Refusal.TheVariants.{Syntax, UnknownEscape, Unsupported, UnsupportedFlag}
use Rattle.hs_base.specs.declared.refusal.Refusal.TheVariants.{UnsupportedParameter, MatchesEmpty, EmbeddedEnd}
use Rattle.hs_base.specs.declared.refusal.Refusal.TheVariants.{RepeatLimit, PositionLimit, LengthLimit, DepthLimit}
use Rattle.hs_base.specs.declared.refusal.Refusal.TheVariants.{CountLimit, StateLimit, MixedSingle, OffsetOrder}
use Rattle.hs_base.specs.declared.refusal.Refusal.TheVariants.{ListLine}
use Rattle.hs_base.specs.declared.construct.Construct.{Construct}
use Rattle.hs_base.specs.declared.construct.Construct.TheVariants as construct

-- the word of a construct
abbrev pub word_of : Construct → List ℕ
word_of construct.Backreference = codes "backreference"
word_of construct.Property = codes "property"
word_of construct.NewlineSequence = codes "newline_sequence"
word_of construct.AnyByte = codes "any_byte"
word_of construct.Keep = codes "keep"
word_of construct.NotNewline = codes "not_newline"
word_of construct.Grapheme = codes "grapheme"
word_of construct.MatchStart = codes "match_start"
word_of construct.Possessive = codes "possessive"
word_of construct.Collating = codes "collating"
word_of construct.Verb = codes "verb"
word_of construct.Lookaround = codes "lookaround"
word_of construct.Atomic = codes "atomic"
word_of construct.Conditional = codes "conditional"
word_of construct.Callout = codes "callout"
word_of construct.Recursion = codes "recursion"
word_of construct.Option = codes "option"

-- the name of a refusal
abbrev pub name_of : Refusal → List ℕ
name_of (Syntax at) = codes "Syntax"
name_of (UnknownEscape at) = codes "UnknownEscape"
name_of (Unsupported construct at) = codes "Unsupported"
name_of (UnsupportedFlag bit) = codes "UnsupportedFlag"
name_of (UnsupportedParameter bit) = codes "UnsupportedParameter"
name_of MatchesEmpty = codes "MatchesEmpty"
name_of EmbeddedEnd = codes "EmbeddedEnd"
name_of (RepeatLimit bound) = codes "RepeatLimit"
name_of (PositionLimit count) = codes "PositionLimit"
name_of LengthLimit = codes "LengthLimit"
name_of DepthLimit = codes "DepthLimit"
name_of CountLimit = codes "CountLimit"
name_of (StateLimit bytes) = codes "StateLimit"
name_of (MixedSingle id) = codes "MixedSingle"
name_of OffsetOrder = codes "OffsetOrder"
name_of (ListLine line) = codes "ListLine"

-- the values of a refusal, in order: numbers in decimal digits, and the word of a construct
abbrev pub values_of : Refusal → List (List ℕ)
values_of (Syntax at) = decimal at ∷ []
values_of (UnknownEscape at) = decimal at ∷ []
values_of (Unsupported construct at) = word_of construct ∷ decimal at ∷ []
values_of (UnsupportedFlag bit) = decimal bit ∷ []
values_of (UnsupportedParameter bit) = decimal bit ∷ []
values_of MatchesEmpty = []
values_of EmbeddedEnd = []
values_of (RepeatLimit bound) = decimal bound ∷ []
values_of (PositionLimit count) = decimal count ∷ []
values_of LengthLimit = []
values_of DepthLimit = []
values_of CountLimit = []
values_of (StateLimit bytes) = decimal bytes ∷ []
values_of (MixedSingle id) = decimal id.0 ∷ []
values_of OffsetOrder = []
values_of (ListLine line) = decimal line ∷ []
