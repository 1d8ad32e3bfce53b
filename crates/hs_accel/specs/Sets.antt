-- A set of bytes by the names of its members.
use Rattle.std.specs.Prelude.{◌≡◌, ℕ, ◌<◌, Bool, false}
use Rattle.memchr.specs.Find.{is_byte, is_byte2, is_byte3}
use Rattle.hs_accel.specs.declared.few.Few.{Few}
use Rattle.hs_accel.specs.declared.few.Few.TheVariants as few

-- two tests tell the same of each byte
abbrev pub AreAlike : (ℕ → Bool) → (ℕ → Bool) → Type 0
AreAlike p q = (b : ℕ) → b < 256 → p b ≡ q b

-- the bytes that pass are those named; of four bytes or more nothing is said
abbrev pub IsFewOf : (ℕ → Bool) → Few → Type 0
IsFewOf test few.Never = AreAlike test (λ _. false)
IsFewOf test (few.One a) = AreAlike test (is_byte a)
IsFewOf test (few.Two a b) = AreAlike test (is_byte2 a b)
IsFewOf test (few.Three a b c) = AreAlike test (is_byte3 a b c)
IsFewOf test few.Many = Unit {0}
