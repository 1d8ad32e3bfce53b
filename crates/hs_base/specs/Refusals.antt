-- The numbers of refusals.
use Rattle.std.specs.Prelude.{ℕ}
use Rattle.hs_base.specs.declared.refusal.Refusal.{Refusal}
use Rattle.hs_base.specs.declared.refusal.Refusal.TheVariants.{Syntax, UnknownEscape, Unsupported, UnsupportedFlag}
use Rattle.hs_base.specs.declared.refusal.Refusal.TheVariants.{UnsupportedParameter, MatchesEmpty, EmbeddedEnd}
use Rattle.hs_base.specs.declared.refusal.Refusal.TheVariants.{RepeatLimit, PositionLimit, LengthLimit, DepthLimit}
use Rattle.hs_base.specs.declared.refusal.Refusal.TheVariants.{CountLimit, StateLimit, MixedSingle, OffsetOrder}
use Rattle.hs_base.specs.declared.refusal.Refusal.TheVariants.{ListLine}

-- Of several refusals of one expression the one of least number is answered.
abbrev pub number_of : Refusal → ℕ
number_of (Syntax at) = 1
number_of (UnknownEscape at) = 2
number_of (Unsupported construct at) = 3
number_of (UnsupportedFlag bit) = 4
number_of (UnsupportedParameter bit) = 5
number_of MatchesEmpty = 6
number_of EmbeddedEnd = 7
number_of (RepeatLimit bound) = 8
number_of (PositionLimit count) = 9
number_of LengthLimit = 10
number_of DepthLimit = 11
number_of CountLimit = 12
number_of (StateLimit bytes) = 13
number_of (MixedSingle id) = 14
number_of OffsetOrder = 15
number_of (ListLine line) = 16
