-- The position automaton of an expression that is written out. A test of a context says where a transition is allowed.
use Rattle.std.specs.Prelude.{◌≡◌, ℕ, zero, suc, ◌+◌, Bool, true, false, ◌&&◌, ◌||◌, List}
use Rattle.hs_base.specs.Contexts.{Context, allows}
use Rattle.hs_base.specs.WrittenOut.{Core, fail, empty, class, assert, cat, alt, plus, count, pick, set_of}

-- the empty text matches in that context
abbrev pub null : Core → Context → Bool
null fail c = false
null empty c = true
null (class set) c = false
null (assert assertion) c = allows assertion c
null (cat a b) c = null a c && null b c
null (alt a b) c = null a c || null b c
null (plus a) c = null a c

-- a match may begin with the byte of position x, in that context before the byte
abbrev pub enter : Core → ℕ → Context → Bool
enter fail x c = false
enter empty x c = false
enter (class set) zero c = true
enter (class set) (suc x) c = false
enter (assert assertion) x c = false
enter (cat a b) x c = pick (count a) (λ y. enter a y c) (λ y. null a c && enter b y c) x
enter (alt a b) x c = pick (count a) (λ y. enter a y c) (λ y. enter b y c) x
enter (plus a) x c = enter a x c

-- a match may end behind the byte of position x, in that context
abbrev pub accept : Core → ℕ → Context → Bool
accept fail x c = false
accept empty x c = false
accept (class set) zero c = true
accept (class set) (suc x) c = false
accept (assert assertion) x c = false
accept (cat a b) x c = pick (count a) (λ y. accept a y c && null b c) (λ y. accept b y c) x
accept (alt a b) x c = pick (count a) (λ y. accept a y c) (λ y. accept b y c) x
accept (plus a) x c = accept a x c

-- behind the byte of position x may come that of position y, in that context between them
abbrev pub follow : Core → ℕ → ℕ → Context → Bool
follow fail x y c = false
follow empty x y c = false
follow (class set) x y c = false
follow (assert assertion) x y c = false
follow (cat a b) x y c =
    pick (count a)
    (λ k. pick (count a) (λ l. follow a k l c) (λ l. accept a k c && enter b l c) y)
    (λ k. pick (count a) (λ l. false) (λ l. follow b k l c) y)
    x
follow (alt a b) x y c =
    pick (count a)
    (λ k. pick (count a) (λ l. follow a k l c) (λ l. false) y)
    (λ k. pick (count a) (λ l. false) (λ l. follow b k l c) y)
    x
follow (plus a) x y c = follow a x y c || (accept a x c && enter a y c)

-- A path over bytes from the offset q that ends in a position, where each offset has its context: it enters a position,
-- and goes on from one that follows to the next, each over a byte of the position's set.
pub data Path (context : ℕ → Context) (Byte : List Bool → ℕ → Type 0) (r : Core) (q : ℕ) : ℕ → ℕ → Type 0 where
  path_enter : (y e : ℕ) → e ≡ q + 1 → enter r y (context q) ≡ true → Byte (set_of r y) q → Path context Byte r q y e
  path_step : (x y p e : ℕ) → e ≡ p + 1 → Path context Byte r q x p → follow r x y (context p) ≡ true →
      Byte (set_of r y) p → Path context Byte r q y e
