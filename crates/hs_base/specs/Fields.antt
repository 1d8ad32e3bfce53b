-- What a piece that is scanned byte by byte has to tell: where it may be left.
use Rattle.std.specs.Prelude.{◌≡◌, ℕ, ◌<◌, Bool, true, List, length, map, Some, slice_get}
use Rattle.hs_base.specs.declared.context.Next.{Next}
use Rattle.hs_base.specs.Contexts.{then_bytes, then_ended}
use Rattle.hs_base.specs.Trees.{Tree}
use Rattle.hs_base.specs.Spans.{Spans}

-- The expression is left at the end of the bytes u, where `next` comes next: it has a span of at least one byte that
-- ends there, from an offset where it was entered.
pub record Leaves (tree : Tree) (u : List ℕ) (entered : List Bool) (next : Next) : Type 0 where
  pub from : ℕ
  pub is_entered : slice_get entered from ≡ Some true
  pub before : from < length u
  pub spans : Spans (then_bytes u next) (then_ended next) tree from (length u)

-- the expression is entered at each offset behind which a byte of u stands
abbrev pub entered_always : List ℕ → List Bool
entered_always u = map (λ b. true) u
