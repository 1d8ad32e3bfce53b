-- What a role names by its number.
use Rattle.std.specs.Prelude.{ℕ, Option}
use Rattle.hs_rose.specs.declared.role.Role.{Role}
use Rattle.hs_rose.specs.Kinds.{number_if_literal, number_if_run}

-- the number of the role's literal
abbrev pub literal_of : Role → Option ℕ
literal_of r = number_if_literal r.kind r.number

-- the number of the role's engine
abbrev pub engine_of : Role → Option ℕ
engine_of r = number_if_run r.kind r.number
