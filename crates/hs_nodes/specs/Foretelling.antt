-- Of which nodes it is known before they are run that they are passed over, or that it plays no part where they are
-- left.
use Rattle.std.specs.Prelude.{ℕ, Bool}
use Rattle.hs_nodes.specs.Lone.{is_spent_node}
use Rattle.hs_nodes.specs.Openings.{is_passed}
use Rattle.hs_nodes.specs.declared.foretold.Foretold.{Foretold}

-- the node of that number belongs to a chain that is over
abbrev pub passes : Foretold → ℕ → Bool
passes foretold = is_passed foretold.are_over foretold.openings.now

-- the node of that number is spent
abbrev pub spends : Foretold → ℕ → Bool
spends foretold = is_spent_node foretold.spent.lone.now foretold.spent.told.now
