-- Where a literal ends in a text.
use Rattle.std.specs.Prelude.{◌≡◌, ℕ, ◌+◌, IsTrue, List, [], ◌∷◌, ◌++◌, length}
use Rattle.hs_base.specs.Literals.{LiteralByte, takes}

-- the bytes are ones that the literal takes
pub data IsTaken : List LiteralByte → List ℕ → Type 0 where
  none : IsTaken [] []
  next : {x : LiteralByte} {b : ℕ} {literal : List LiteralByte} {bytes : List ℕ} →
      IsTrue (takes x b) →
      IsTaken literal bytes →
      IsTaken (x ∷ literal) (b ∷ bytes)

-- the literal ends at that offset of the text, behind its last byte
pub record EndsAt (literal : List LiteralByte) (text : List ℕ) (offset : ℕ) : Type 0 where
  pub before : List ℕ
  pub taken : List ℕ
  pub behind : List ℕ
  pub split : text ≡ before ++ (taken ++ behind)
  pub is : IsTaken literal taken
  pub at : offset ≡ length before + length taken
