-- Whether a piece is kept by the number of a state.
use Rattle.std.proofs.Common.{◌≡◌, ℕ, ◌<◌, Bool, true, false, true≢false, List, [], ◌∷◌, Option, Some, None, IfSome, refl, sym, ap, ◌∙◌, subst, arith}
use Rattle.std.specs.Prelude.{Result, Ok, Err, IfOk}
use Rattle.std.specs.declared.alloc.AllocError.{AllocError}
use Rattle.hs_base.specs.AssertionTests.{has_assertion}
use Rattle.hs_engine.specs.declared.automaton.Automaton.{Automaton}
use Rattle.hs_engine.specs.Tables.{Runs}
use Rattle.hs_base.specs.Chains.{Piece, lit, nfa, rep, piece_tree}
use Rattle.hs_base.specs.Literals.{LiteralByte}
use Rattle.hs_base.specs.Trees.{Tree}
use Rattle.hs_base.specs.WrittenOut.{count, write_out}
use Rattle.hs_pieces.specs.LookBack.{begins_with_look_back}
use Rattle.hs_states.specs.StateCounts.{HasMoreStates}
use Rattle.hs_states.specs.StateSets.{AreSetsOf}
use Rattle.hs_states.specs.declared.state_sets.StateSets.{StateSets}
use Rattle.hs_kept.specs.KeptRegions.{IsKeptByState}
use Rattle.hs_kept.specs.Builders.{IsFirstTold, IsPieceTold, by_field, by_state, first_place}

-- the expression of the piece is the one
same-tree : (tree t : Tree) → IsKeptByState (first_place (nfa tree)) t → tree ≡ t
same-tree tree t is = ap piece_tree is.expression

-- one without a position
pub told-empty : (tree : Tree) → count (write_out tree) ≡ 0 → IsPieceTold (first_place (nfa tree)) None
told-empty tree none = by_field (λ t is.
    let some = subst (λ x. 0 < count (write_out x)) (sym (same-tree tree t is)) is.some in
    absurd (omega (arith, none, some)))

-- one with positions
pub told-found : (tree : Tree) (found : Option StateSets) → 0 < count (write_out tree) →
    IfSome found (λ sets. AreSetsOf sets tree) → (found ≡ None → HasMoreStates tree) → IsPieceTold (first_place (nfa tree)) found
told-found tree None some are more = by_field (λ t is. subst HasMoreStates (same-tree tree t is) (more refl) is.states is.few.all is.few.few)
told-found tree (Some sets) some are more =
    by_state tree
    (record { ahead = refl; first = refl; expression = refl; some = some; states = are.states; few = record { all = are.all; few = let few = sets.few in let size = are.count in omega (arith, few, size) } })
    are

-- a chain that begins with a piece that looks back
pub told-behind : (chain : List Piece) → begins_with_look_back chain ≡ true → IsFirstTold chain None
told-behind [] looks = refl
told-behind (piece ∷ pieces) looks = by_field (λ t is. true≢false (sym looks ∙ is.ahead))

abbrev is_expression : Piece → Bool
is_expression (lit xs) = false
is_expression (nfa tree) = true
is_expression (rep set least greatest) = false

-- a piece that isn't an expression
told-other : (piece : Piece) → is_expression piece ≡ false → IsPieceTold (first_place piece) None
told-other piece other = by_field (λ t is. true≢false (sym (ap is_expression is.expression) ∙ other))

pub told-literal : (xs : List LiteralByte) → IsPieceTold (first_place (lit xs)) None
told-literal xs = told-other (lit xs) refl

pub told-repeat : (set : List Bool) (least : ℕ) (greatest : Option ℕ) → IsPieceTold (first_place (rep set least greatest)) None
told-repeat set least greatest = told-other (rep set least greatest) refl

-- a chain that begins with one that is told of
pub told-first : (piece : Piece) (pieces : List Piece) (found : Option StateSets) → begins_with_look_back (piece ∷ pieces) ≡ false →
    IsPieceTold (first_place piece) found → IsFirstTold (piece ∷ pieces) found
told-first piece pieces found not_behind told =
    subst (λ looks. IsPieceTold (record { looks_back = looks; pieces = []; piece = piece }) found) (sym not_behind) told

-- so it is told of what an automaton has
pub sets-told : (tree : Tree) (a : Automaton) (built : Result (Option StateSets) AllocError) → 0 < count (write_out tree) → Runs a tree → a.has_assertion ≡ has_assertion tree →
    IfOk built (λ found. IfSome found (λ sets. (t : Tree) → Runs a t → a.has_assertion ≡ has_assertion t → AreSetsOf sets t)) →
    IfOk built (λ found. found ≡ None → (t : Tree) → Runs a t → a.has_assertion ≡ has_assertion t → HasMoreStates t) →
    IfOk built (IsPieceTold (first_place (nfa tree)))
sets-told tree a (Err e) some runs same are more = tt
sets-told tree a (Ok None) some runs same are more = told-found tree None some tt (λ none. more none tree runs same)
sets-told tree a (Ok (Some sets)) some runs same are more = told-found tree (Some sets) some (are tree runs same) (λ none. more none tree runs same)
