-- Tables that are those of an automaton, and where a step leads.
use Rattle.std.specs.Prelude.{◌≡◌, ℕ, ◌<◌, Bool, true, vec_len}
use Rattle.std.proofs.Common.{◌∙◌}
use Rattle.hs_base.specs.Trees.{Tree}
use Rattle.hs_base.specs.Contexts.{Context}
use Rattle.hs_engine.specs.declared.automaton.Automaton.{Automaton}
use Rattle.hs_engine.specs.Automata.{takes, enters, accepts, follows}
use Rattle.hs_engine.specs.Engines.{Meaning}
use Rattle.hs_engine.specs.Tables.{AreFirst, Runs}
use Rattle.hs_limex.specs.AutomatonMeanings.{positions_meaning}
use Rattle.hs_limex.specs.PositionMoves.{PositionMoves}

-- the tables say of each position what the automaton does
pub record Fits (m : PositionMoves) (a : Automaton) : Type 0 where
  pub size : m.size ≡ vec_len a.sets
  pub reach : (b k : ℕ) → b < 256 → m.reach b k ≡ takes a k b
  pub enters : (c : Context) (k : ℕ) → m.enters c k ≡ enters a k c
  pub first : AreFirst a m.first
  pub accepts : (c : Context) (k : ℕ) → m.accepts c k ≡ accepts a k c
  pub follows : (x y : ℕ) (c : Context) → m.follows x y c ≡ follows a x y c

-- the position k is entered in the context, or follows one that is live
pub data IsLed (m : PositionMoves) (live : ℕ → Bool) (c : Context) (entering : Bool) (k : ℕ) : Type 0 where
  led_in : entering ≡ true → m.enters c k ≡ true → IsLed m live c entering k
  led_on : (x : ℕ) → live x ≡ true → m.follows x k c ≡ true → IsLed m live c entering k

-- a position that is live accepts in the context
pub record AcceptsIn (m : PositionMoves) (live : ℕ → Bool) (c : Context) : Type 0 where
  pub position : ℕ
  pub is_live : live position ≡ true
  pub accepts : m.accepts c position ≡ true

-- the tables are those of an automaton of the expression
pub record AreTablesFor (m : PositionMoves) (tree : Tree) : Type 0 where
  pub automaton : Automaton
  pub fits : Fits m automaton
  pub runs : Runs automaton tree

-- the engine that goes by the tables
abbrev pub tables_meaning : PositionMoves → Meaning
tables_meaning m = positions_meaning m.size (AreTablesFor m) (λ tree is. is.fits.size ∙ is.runs.tables.size)
