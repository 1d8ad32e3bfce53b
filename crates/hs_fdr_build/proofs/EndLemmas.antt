-- The bytes before a literal's end are ones that it takes.
use Rattle.std.proofs.Common.{◌≡◌, ℕ, zero, suc, ◌+◌, ◌-◌, ◌<◌, ◌≤◌, List, [], ◌∷◌, ◌++◌, IsTrue, length, get_or, Some, refl, sym, ap, subst, ◌∙◌, arith, length-append}
use Rattle.std.specs.List.{slice_get}
use Rattle.std.proofs.lemmas.List.{get_or_append_left, get_or-append-add}
use Rattle.hs_base.specs.Literals.{LiteralByte, takes}
use Rattle.hs_fdr_build.specs.Asking.{TakesBefore}
use Rattle.hs_base.specs.LiteralEnds.{IsTaken, none, next, EndsAt}

pub taken-length : (literal : List LiteralByte) (bytes : List ℕ) → IsTaken literal bytes → length bytes ≡ length literal
taken-length [] [] none = refl
taken-length [] (b ∷ bytes) is = elim is [ ]
taken-length (x ∷ literal) [] is = elim is [ ]
taken-length (x ∷ literal) (b ∷ bytes) (next _ rest) = ap suc (taken-length literal bytes rest)

-- the byte at each place is one that the literal takes there
taken-at : (literal : List LiteralByte) (bytes : List ℕ) → IsTaken literal bytes → (k : ℕ) → k < length literal → (x : LiteralByte) × (slice_get literal k ≡ Some x) × IsTrue (takes x (get_or bytes k 0))
taken-at [] [] none k h = absurd (omega arith)
taken-at [] (b ∷ bytes) is k h = elim is [ ]
taken-at (x ∷ literal) [] is k h = elim is [ ]
taken-at (x ∷ literal) (b ∷ bytes) (next here rest) zero h = (x, refl, here)
taken-at (x ∷ literal) (b ∷ bytes) (next here rest) (suc k) h = taken-at literal bytes rest k (omega arith)

-- the byte j places before the end
pub ends-take : (literal : List LiteralByte) (text : List ℕ) (offset j at : ℕ) → EndsAt literal text offset → j < length literal → at + (j + 1) ≡ offset → TakesBefore literal j (get_or text at 0)
ends-take literal text offset j at ends reaches e =
    let k = length literal - 1 - j in
    let n = taken-length literal ends.taken ends.is in
    let there = taken-at literal ends.taken ends.is k (omega arith) in
    let o : offset ≡ length ends.before + length ends.taken = ends.at in
    let place : at ≡ length ends.before + k = omega arith in
    let read : get_or text at 0 ≡ get_or ends.taken k 0 =
    ap (λ t. get_or t at 0) ends.split ∙ ap (λ i. get_or (ends.before ++ (ends.taken ++ ends.behind)) i 0) place
    ∙ get_or-append-add ends.before (ends.taken ++ ends.behind) k 0 ∙ get_or_append_left ends.taken ends.behind 0 k (omega arith) in
    record { place = there.0; stands = there.1; within = reaches; taken = subst (λ b. IsTrue (takes there.0 b)) (sym read) there.2 }

-- the literal begins within the text
pub ends-within : (literal : List LiteralByte) (text : List ℕ) (offset : ℕ) → EndsAt literal text offset → offset ≤ length text
ends-within literal text offset ends =
    let e : length text ≡ length (ends.before ++ (ends.taken ++ ends.behind)) = ap length ends.split in
    let o : offset ≡ length ends.before + length ends.taken = ends.at in
    omega (arith, length-append ends.before (ends.taken ++ ends.behind), length-append ends.taken ends.behind)
