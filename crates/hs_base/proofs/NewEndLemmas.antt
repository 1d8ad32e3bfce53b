-- Where the new reports of a byte, and the last ones of a stream, end.
use Rattle.std.proofs.Common.{◌≡◌, ◌≢◌, ℕ, ◌+◌, ◌⊎◌, false, List, [], ◌∷◌, ◌++◌, length, refl, inl, inr, arith}
use Rattle.hs_base.specs.Lists.{Each, IsMember}
use Rattle.hs_base.specs.Patterns.{Pattern}
use Rattle.hs_base.specs.Reports.{IsReport}
use Rattle.hs_base.specs.Told.{Pair, IsNew, IsLast}
use Rattle.hs_base.proofs.ListLemmas.{each-member, member-right, rising-across}
use Rattle.hs_base.proofs.ExactLemmas.{told-exact, told-apart}
use Rattle.hs_base.proofs.SettlingLemmas.{only-two, only-last-two}

-- what is new is reported behind the byte, and not before
new-after : (P : List Pattern) (u : List ℕ) (b : ℕ) (new : List Pair) → IsNew P u (b ∷ []) new →
    (p : Pair) → IsMember p new → IsReport P (u ++ b ∷ []) false p.id p.to
new-after P u b new is p member =
    (told-exact P (u ++ b ∷ []) (is.told ++ new) is.after p).0 (member-right is.told new p member)

new-before : (P : List Pattern) (u : List ℕ) (b : ℕ) (new : List Pair) → IsNew P u (b ∷ []) new →
    (p : Pair) → IsMember p new → IsReport P u false p.id p.to → ⊥
new-before P u b new is p member before =
    let earlier : IsMember p is.told = (told-exact P u is.told is.before p).1 before in
    let across : Each (λ x. Each (λ y. x ≢ y) new) is.told =
    rising-across (λ x y. x ≢ y) is.told new (told-apart P (u ++ b ∷ []) (is.told ++ new) is.after) in
    let apart : Each (λ y. p ≢ y) new = each-member (λ x. Each (λ y. x ≢ y) new) is.told p across earlier in
    each-member (λ y. p ≢ y) new p apart member refl

pub new-ends : (P : List Pattern) (u : List ℕ) (b : ℕ) (new : List Pair) → IsNew P u (b ∷ []) new →
    (p : Pair) → IsMember p new → (p.to ≡ length u) ⊎ (p.to ≡ length u + 1)
new-ends P u b new is p member =
    only-two P u b p.id p.to (new-after P u b new is p member) (new-before P u b new is p member)

pub last-ends : (P : List Pattern) (w : List ℕ) (last : List Pair) → IsLast P w last →
    (p : Pair) → IsMember p last → (p.to ≡ length w) ⊎ (p.to + 1 ≡ length w)
last-ends P w last is p member =
    let (after, before) = (is.each p).0 member in
    elim (only-last-two P w p.id p.to after before) [
      | inl earlier ↦ inr (omega arith)
      | inr here ↦ inl here
    ]
