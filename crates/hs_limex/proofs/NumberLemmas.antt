-- Contexts by their numbers, and what follows in rows of bits.
use Rattle.std.proofs.Common.{◌≡◌, ℕ, ◌+◌, ◌*◌, ◌/◌, ◌%◌, ◌<◌, ◌≤◌, true, false, ◌&&◌, refl, ap, ◌∙◌, inl, inr, arith}
use Rattle.std.specs.Prelude.{nat_lt}
use Rattle.std.proofs.lemmas.Bool.{cases_lt, le-ltb}
use Rattle.hs_base.specs.declared.context.Prev.{Prev}
use Rattle.hs_base.specs.declared.context.Prev.TheVariants as before
use Rattle.hs_base.specs.declared.context.Next.{Next}
use Rattle.hs_base.specs.declared.context.Next.TheVariants as after
use Rattle.hs_base.specs.Contexts.{Context, context_number, next_number, prev_number}
use Rattle.hs_base.proofs.ContextSetLemmas.{next_number-lt}
use Rattle.hs_base.proofs.StreamContexts.{same-context}
use Rattle.hs_engine.specs.declared.follow_rows.FollowRows.{FollowRows}
use Rattle.hs_engine.specs.Rows.{in_row, in_square, row_start, square_number}
use Rattle.hs_engine.specs.RowSizes.{row_len}
use Rattle.hs_base.specs.Bits.{has_bit}
use Rattle.hs_limex.proofs.PlainLemmas.{true-false}
use Rattle.hs_limex.specs.Numbers.{next_numbered, prev_numbered}

prev-back : (prev : Prev) → prev_numbered (prev_number prev) ≡ prev
prev-back before.Start = refl
prev-back before.Word = refl
prev-back before.Newline = refl
prev-back before.Other = refl

next-back : (next : Next) → next_numbered (next_number next) ≡ next
next-back after.Word = refl
next-back after.Newline = refl
next-back after.Other = refl
next-back after.End = refl
next-back after.FinalNewline = refl
next-back after.Unknown = refl

-- what stands before and comes next by the number of a context is that context
pub context-named : (c : Context) (prev : Prev) (next : Next) (n : ℕ) → context_number c ≡ n → prev ≡ prev_numbered (n / 6) → next ≡ next_numbered (n % 6) → ◌≡◌ {A = Context} (record { prev = prev; next = next }) c
context-named c prev next n number p q =
    let small : next_number c.next < 6 = next_number-lt c.next in
    let high : n / 6 ≡ prev_number c.prev = omega arith in
    let low : n % 6 ≡ next_number c.next = omega arith in
    same-context prev c.prev next c.next (p ∙ (ap prev_numbered high ∙ prev-back c.prev)) (q ∙ (ap next_numbered low ∙ next-back c.next))

-- only positions are followed
pub in_row-past : (rows : FollowRows) (x y : ℕ) (c : Context) → rows.size ≤ x → in_row rows x y c ≡ false
unfolding in_square
in_row-past rows x y c past =
    ap (λ b. b && (nat_lt y (8 * row_len rows.size) && has_bit rows.bits.items (8 * row_start rows.size (square_number rows.by_context c) x + y))) (le-ltb x rows.size past)

pub in_row-from : (rows : FollowRows) (x y : ℕ) (c : Context) → in_row rows x y c ≡ true → x < rows.size
in_row-from rows x y c is =
    elim (cases_lt x rows.size) [
      | inl below ↦ below
      | inr past ↦ true-false (in_row rows x y c) is (in_row-past rows x y c past)
    ]
