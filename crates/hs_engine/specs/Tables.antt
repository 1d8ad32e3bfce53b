-- Tables that are the position automaton of an expression, and how its bits move.
use Rattle.std.specs.Prelude.{◌≡◌, ◌↔◌, ℕ, ◌<◌, ◌≤◌, Bool, true, false, ◌&&◌, ◌||◌, List, Some, slice_get, vec_len}
use Rattle.hs_base.specs.ByteSets.{has}
use Rattle.hs_base.specs.declared.context.Prev.{Prev}
use Rattle.hs_base.specs.Contexts.{Context, class_of}
use Rattle.hs_base.specs.ContextSets.{has_context}
use Rattle.hs_base.specs.Trees.{Tree}
use Rattle.hs_base.specs.EndAssertions.{has_embedded_end}
use Rattle.hs_base.specs.WrittenOut.{Core, write_out, IsPlain, set_of, count}
use Rattle.hs_base.specs.declared.byte_set.ByteSet.{ByteSet}
use Rattle.hs_engine.specs.declared.automaton.Automaton.{Automaton}
use Rattle.hs_engine.specs.declared.follow_rows.FollowRows.{FollowRows}
use Rattle.hs_engine.specs.Automata.{takes, enters, accepts, follows}
use Rattle.hs_base.specs.Bits.{has_bit}
use Rattle.hs_engine.specs.Rows.{in_row}
use Rattle.hs_engine.specs.Positions.{null, enter, accept, follow}

-- the tables say of each position what the expression does
pub record IsFor (a : Automaton) (r : Core) : Type 0 where
  pub size : vec_len a.sets ≡ count r
  pub sets : (x b : ℕ) → b < 256 → (takes a x b ≡ true) ↔ (slice_get (set_of r x) b ≡ Some true)
  pub enters : (x : ℕ) (c : Context) → enters a x c ≡ enter r x c
  pub accepts : (x : ℕ) (c : Context) → accepts a x c ≡ accept r x c
  -- where a byte comes next: nothing else is asked of following
  pub follows : (x y : ℕ) (prev : Prev) (b : ℕ) →
      follows a x y (record { prev = prev; next = class_of b })
      ≡ follow r x y (record { prev = prev; next = class_of b })
  pub null : (c : Context) → has_context a.null c ≡ null r c

-- the tables are those of an expression in which no end assertion is followed by consumption
pub record Runs (a : Automaton) (tree : Tree) : Type 0 where
  pub plain : IsPlain tree
  pub ends_last : has_embedded_end tree false ≡ false
  pub tables : IsFor a (write_out tree)

-- no bit from that one on is set
abbrev pub IsClearFrom : List ℕ → ℕ → Type 0
IsClearFrom bytes n = (k : ℕ) → n ≤ k → has_bit bytes k ≡ false

-- the position x, if its bit is set, is followed by the position k in that context
abbrev pub leads_to : FollowRows → List ℕ → Context → ℕ → ℕ → Bool
leads_to rows bytes c k x = has_bit bytes x && in_row rows x k c

-- the byte b leads to the position k, to which another has led or which is entered
abbrev pub is_moved : Automaton → List ℕ → Context → Bool → ℕ → ℕ → Bool
is_moved a led c entering b k = (has_bit led k || (entering && enters a k c)) && takes a k b

-- each byte that a position takes which is entered in some context is in the set
abbrev pub AreFirst : Automaton → ByteSet → Type 0
AreFirst a first = (x b : ℕ) (c : Context) → b < 256 → enters a x c ≡ true → takes a x b ≡ true → has first b ≡ true

-- the same tables, in memory of their own
pub record IsCopy (copy original : Automaton) : Type 0 where
  pub sets : copy.sets.items ≡ original.sets.items
  pub enters : copy.enters.items ≡ original.enters.items
  pub accepts : copy.accepts.items ≡ original.accepts.items
  pub follows : copy.follows.bits.items ≡ original.follows.bits.items
  pub size : copy.follows.size ≡ original.follows.size
  pub by_context : copy.follows.by_context ≡ original.follows.by_context
  pub null : copy.null ≡ original.null
  pub has_assertion : copy.has_assertion ≡ original.has_assertion
