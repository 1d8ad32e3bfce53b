-- No excess is found exactly where no piece has too many positions.
use Rattle.std.proofs.Common.{◌≡◌, ℕ, ◌≤◌, Bool, true, false, nat_lt, List, [], ◌∷◌, Option, Some, None, refl, ◌∙◌, ap, if◌then◌else◌, arith}
use Rattle.std.specs.Option.{option_or}
use Rattle.std.proofs.lemmas.Bool.Decides.{nat_tests}
use Rattle.hs_base.specs.Chains.{Piece, lit, nfa, rep}
use Rattle.hs_base.specs.Lists.{Each}
use Rattle.hs_expr.specs.Counts.{positions}
use Rattle.hs_support.specs.PieceCounts.{too_many, first_excess, first_excess_of, HasFewPositions}

none-both : (a b : Option ℕ) → option_or a b ≡ None → (a ≡ None) × (b ≡ None)
none-both None b is = (refl, is)
none-both (Some n) b is = cc

both-none : (a b : Option ℕ) → a ≡ None → b ≡ None → option_or a b ≡ None
both-none a b first second = ap (λ x. option_or x b) first ∙ second

few-tested : (n : ℕ) (b : Bool) → nat_lt 512 n ≡ b → (if b then Some n else None) ≡ None → n ≤ 512
few-tested n true test is = cc
few-tested n false test is = grind (arith, nat_tests)

none-tested : (n : ℕ) (b : Bool) → nat_lt 512 n ≡ b → n ≤ 512 → (if b then Some n else None) ≡ None
none-tested n true test few = absurd (grind (arith, nat_tests))
none-tested n false test few = refl

pieces-few : (pieces : List Piece) → first_excess pieces ≡ None → Each HasFewPositions pieces
pieces-few [] none = tt
pieces-few (lit xs ∷ pieces) none = (tt, pieces-few pieces none)
pieces-few (nfa t ∷ pieces) none =
    let both = none-both (too_many (positions t)) (first_excess pieces) none in
    (few-tested (positions t) (nat_lt 512 (positions t)) refl both.0, pieces-few pieces both.1)
pieces-few (rep set least greatest ∷ pieces) none = (tt, pieces-few pieces none)

few-pieces : (pieces : List Piece) → Each HasFewPositions pieces → first_excess pieces ≡ None
few-pieces [] few = refl
few-pieces (lit xs ∷ pieces) few = few-pieces pieces few.1
few-pieces (nfa t ∷ pieces) few =
    both-none (too_many (positions t)) (first_excess pieces)
    (none-tested (positions t) (nat_lt 512 (positions t)) refl few.0) (few-pieces pieces few.1)
few-pieces (rep set least greatest ∷ pieces) few = few-pieces pieces few.1

pub chains-few : (chains : List (List Piece)) → first_excess_of chains ≡ None → Each (Each HasFewPositions) chains
chains-few [] none = tt
chains-few (chain ∷ chains) none =
    let both = none-both (first_excess chain) (first_excess_of chains) none in
    (pieces-few chain both.0, chains-few chains both.1)

pub few-chains : (chains : List (List Piece)) → Each (Each HasFewPositions) chains → first_excess_of chains ≡ None
few-chains [] few = refl
few-chains (chain ∷ chains) few =
    both-none (first_excess chain) (first_excess_of chains) (few-pieces chain few.0) (few-chains chains few.1)
