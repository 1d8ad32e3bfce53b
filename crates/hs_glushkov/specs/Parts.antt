-- Tables under construction: parts of one table, each for an expression, and what joins them.
use Rattle.std.specs.Prelude.{◌≡◌, ℕ, zero, suc, ◌+◌, ◌*◌, ◌<◌, ◌≤◌, ◌⊎◌, Bool, true, false, not, ◌&&◌, ◌||◌, Option}
use Rattle.std.specs.Prelude.{Some, None, slice_get}
use Rattle.hs_base.specs.Contexts.{Context}
use Rattle.hs_base.specs.WrittenOut.{Core, count, set_of}
use Rattle.hs_glushkov.specs.Ranges.{is_within}
use Rattle.hs_engine.specs.Positions.{null, enter, accept, follow}

-- what the tables say of each position: the bytes that it takes, and where it is entered, accepts and is followed
pub record Table : Type 0 where
  pub takes : ℕ → ℕ → Bool
  pub enters : ℕ → Context → Bool
  pub accepts : ℕ → Context → Bool
  pub follows : ℕ → ℕ → Context → Bool

-- the truth value that is there, and false where there is none
abbrev pub is_set : Option Bool → Bool
is_set None = false
is_set (Some b) = b

-- the positions from `base` on are those of the expression
pub record IsPart (t : Table) (r : Core) (base : ℕ) : Type 0 where
  pub takes : (x b : ℕ) → x < count r → b < 256 → t.takes (base + x) b ≡ is_set (slice_get (set_of r x) b)
  pub enters : (x : ℕ) (c : Context) → x < count r → t.enters (base + x) c ≡ enter r x c
  pub accepts : (x : ℕ) (c : Context) → x < count r → t.accepts (base + x) c ≡ accept r x c
  pub follows : (x y : ℕ) (c : Context) → x < count r → y < count r → t.follows (base + x) (base + y) c ≡ follow r x y c

-- the empty text matches in exactly those contexts
abbrev pub IsNull : (Context → Bool) → Core → Type 0
IsNull f r = (c : Context) → f c ≡ null r c

-- what the tables say of the positions before n is as it was
pub record Keeps (old new : Table) (n : ℕ) : Type 0 where
  pub takes : (x b : ℕ) → x < n → new.takes x b ≡ old.takes x b
  pub enters : (x : ℕ) (c : Context) → x < n → new.enters x c ≡ old.enters x c
  pub accepts : (x : ℕ) (c : Context) → x < n → new.accepts x c ≡ old.accepts x c
  pub follows : (x y : ℕ) (c : Context) → (x < n) ⊎ (y < n) → new.follows x y c ≡ old.follows x y c

-- no position from n on follows another or is followed
abbrev pub IsClear : Table → ℕ → Type 0
IsClear t n = (x y : ℕ) (c : Context) → (n ≤ x) ⊎ (n ≤ y) → t.follows x y c ≡ false

-- no position from n on follows one before it, or is followed by one
pub record IsSeparate (t : Table) (n : ℕ) : Type 0 where
  pub onward : (x y : ℕ) (c : Context) → x < n → n ≤ y → t.follows x y c ≡ false
  pub back : (x y : ℕ) (c : Context) → n ≤ x → y < n → t.follows x y c ≡ false

-- the positions of the expression are behind the first n; the empty text matches in the contexts that `none` tells
pub record IsAdded (old new : Table) (n : ℕ) (r : Core) (none : Context → Bool) : Type 0 where
  pub part : IsPart new r n
  pub null : IsNull none r
  pub keeps : Keeps old new n
  pub clear : IsClear new (n + count r)

-- b, and where `within` says so only if `allowed`
abbrev pub narrowed : (within allowed b : Bool) → Bool
narrowed within allowed b = (not within || allowed) && b

-- Each position from `middle` to `end` follows those from `start` to `middle`, where these accept and it is entered. It
-- is then entered only where the empty text matches before it, and these accept only where it matches behind them.
pub record IsJoined (old new : Table) (start middle end : ℕ) (first last : Context → Bool) : Type 0 where
  pub takes : (x b : ℕ) → new.takes x b ≡ old.takes x b
  pub enters : (x : ℕ) (c : Context) → new.enters x c ≡ narrowed (is_within middle end x) (first c) (old.enters x c)
  pub accepts : (x : ℕ) (c : Context) → new.accepts x c ≡ narrowed (is_within start middle x) (last c) (old.accepts x c)
  pub follows : (x y : ℕ) (c : Context) →
      new.follows x y c
      ≡ ((is_within start middle x && (is_within middle end y && (old.accepts x c && old.enters y c)))
      || old.follows x y c)

-- Each position from `start` to `end` follows each of them, where that one accepts and it is entered.
pub record IsLooped (old new : Table) (start end : ℕ) : Type 0 where
  pub takes : (x b : ℕ) → new.takes x b ≡ old.takes x b
  pub enters : (x : ℕ) (c : Context) → new.enters x c ≡ old.enters x c
  pub accepts : (x : ℕ) (c : Context) → new.accepts x c ≡ old.accepts x c
  pub follows : (x y : ℕ) (c : Context) →
      new.follows x y c
      ≡ ((is_within start end x && (is_within start end y && (old.accepts x c && old.enters y c)))
      || old.follows x y c)

-- Behind the first n positions stand so many copies of the one expression in a row, not joined, and then the other, up
-- to position e.
pub record IsRow (old new : Table) (n : ℕ) (a : Core) (copies : ℕ) (r : Core) (e : ℕ) : Type 0 where
  pub parts : (i : ℕ) → i < copies → IsPart new a (n + i * count a)
  pub separate : (i : ℕ) → i ≤ copies → IsSeparate new (n + i * count a)
  pub rest : IsPart new r (n + copies * count a)
  pub end : e ≡ n + copies * count a + count r
  pub keeps : Keeps old new n
  pub clear : IsClear new e

-- whether the empty text matches so many copies of a body, or more, where it matches one of them if `one` says so
abbrev pub null_in_copies : ℕ → (one : Bool) → Bool
null_in_copies zero one = true
null_in_copies (suc n) one = one
