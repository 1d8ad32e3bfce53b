-- A walk through the items of a chain: what is found, and what waits for the items to come.
use Rattle.std.specs.Prelude.{◌≡◌, ℕ, List, length, map, Option}
use Rattle.std.specs.Option.{option_map, option_or}
use Rattle.hs_base.specs.Chains.{Part, ordinary_joined, piece_of}
use Rattle.hs_base.specs.Literals.{LiteralByte}
use Rattle.hs_base.specs.Trees.{Tree}
use Rattle.hs_expr.specs.Counts.{capped}
use Rattle.hs_expr.specs.Waiting.{with_items, cut_from, row}
use Rattle.hs_support.specs.PieceCounts.{first_excess}

-- the first excess of ordinary items that wait and of parts whose runs are cut
abbrev pub excess_behind : List Tree → List Part → Option ℕ
excess_behind items cut = option_map capped (first_excess (map piece_of (with_items items (ordinary_joined cut))))

-- That is the first excess of all, where this one is found, ordinary items of so many positions wait and parts come
-- whose runs are cut.
abbrev pub LeadsCut : (found : Option ℕ) (count : ℕ) → List Part → Option ℕ → Type 0
LeadsCut found count cut answer =
    (items : List Tree) → capped (row items) ≡ count → option_or found (excess_behind items cut) ≡ answer

-- And where a run of so many bytes waits behind the ordinary items, and any parts come.
abbrev pub LeadsFrom : (found : Option ℕ) (count run : ℕ) → List Part → Option ℕ → Type 0
LeadsFrom found count run parts answer =
    (xs : List LiteralByte) → length xs ≡ run → LeadsCut found count (cut_from xs parts) answer
