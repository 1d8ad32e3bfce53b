use Rattle.std.proofs.Common.{◌≡◌, ℕ, Bool, true, false, not, MatchBool}
use Rattle.std.specs.Char.{IsAsciiDigit, IsNotAsciiDigit}
use Rattle.std.proofs.lemmas.Bool.{false≢true}
use Rattle.hs_lists.proofs.SettledLemmas.{begins_bad-line}
use Rattle.hs_lists.proofs.early.begins_bad_line.Goals as goal

-- the test says that the byte is no digit
no_digit : (byte : ℕ) (digit : Bool) → MatchBool digit (IsAsciiDigit byte) (IsNotAsciiDigit byte) → not digit ≡ true → IsNotAsciiDigit byte
no_digit byte true is other = absurd (false≢true other)
no_digit byte false is other = is

pub returns-then-first-ne35 : goal.returns-then-first-ne35
returns-then-first-ne35 c other =
    begins_bad-line c.args.line.now c.requires c.in-len2-up.len_at_least c.if-first-ne35.true (no_digit _ c.is_ascii_digit.result c.is_ascii_digit.ensures.cases other)
