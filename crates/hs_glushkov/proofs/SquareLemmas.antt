-- From the table of masks to its squares of rows.
use Rattle.std.proofs.Common.{◌≡◌, ℕ, Bool, true, false, not, ◌&&◌, nat_lt, refl, ap, ◌∙◌}
use Rattle.hs_base.specs.declared.context.Prev.{Prev}
use Rattle.hs_base.specs.declared.context.Prev.TheVariants as before
use Rattle.hs_base.specs.Assertions.{line_feed, is_word_byte}
use Rattle.std.specs.Prelude.{◌==◌}
use Rattle.hs_base.specs.Contexts.{Context, class_of, next_by}
use Rattle.hs_engine.specs.declared.follow_rows.FollowRows.{FollowRows}
use Rattle.hs_engine.specs.RowSizes.{square_count}
use Rattle.hs_engine.specs.Rows.{in_row, in_square, square_number}
use Rattle.hs_glushkov.specs.declared.follow_masks.FollowMasks.{FollowMasks}
use Rattle.hs_glushkov.specs.FollowTables.{is_followed}
use Rattle.hs_glushkov.specs.Squares.{context_numbered}

-- a context in which a byte comes next is that of its number

numbered-by : (prev : Prev) (is_line_feed is_word : Bool) → context_numbered (square_number true (record { prev = prev; next = next_by is_line_feed is_word false })) ≡ record { prev = prev; next = next_by is_line_feed is_word false }
numbered-by before.Start true is_word = refl
numbered-by before.Start false true = refl
numbered-by before.Start false false = refl
numbered-by before.Word true is_word = refl
numbered-by before.Word false true = refl
numbered-by before.Word false false = refl
numbered-by before.Newline true is_word = refl
numbered-by before.Newline false true = refl
numbered-by before.Newline false false = refl
numbered-by before.Other true is_word = refl
numbered-by before.Other false true = refl
numbered-by before.Other false false = refl

below-by : (prev : Prev) (is_line_feed is_word : Bool) → nat_lt (square_number true (record { prev = prev; next = next_by is_line_feed is_word false })) 12 ≡ true
below-by before.Start true is_word = refl
below-by before.Start false true = refl
below-by before.Start false false = refl
below-by before.Word true is_word = refl
below-by before.Word false true = refl
below-by before.Word false false = refl
below-by before.Newline true is_word = refl
below-by before.Newline false true = refl
below-by before.Newline false false = refl
below-by before.Other true is_word = refl
below-by before.Other false true = refl
below-by before.Other false false = refl

double : (b : Bool) → false ≡ not b → b ≡ true
double true other = refl
double false other = absurd (let e : false ≡ true = other in cc)

module _ (rows : FollowRows) (table : FollowMasks) (n : ℕ) (alike : Bool) (filled : (k x y : ℕ) → in_square rows k x y ≡ (nat_lt k n && is_followed table x y (context_numbered k)))
    (same : alike ≡ true → (x y : ℕ) (c d : Context) → is_followed table x y c ≡ is_followed table x y d) (x y : ℕ) (prev : Prev) (b : ℕ) where
  abbrev Here : Context
  Here = record { prev = prev; next = class_of b }

  by-square : (by_context : Bool) → by_context ≡ not alike → n ≡ square_count by_context → in_square rows (square_number by_context Here) x y ≡ is_followed table x y Here
  by-square false other count =
      filled 0 x y
      ∙ (ap (λ m. nat_lt 0 m && is_followed table x y (context_numbered 0)) count
      ∙ same (double alike other) x y (context_numbered 0) Here)
  by-square true other count =
      filled (square_number true Here) x y
      ∙ (ap (λ m. nat_lt (square_number true Here) m && is_followed table x y (context_numbered (square_number true Here))) count
      ∙ (ap (λ t. t && is_followed table x y (context_numbered (square_number true Here))) (below-by prev (b == line_feed) (is_word_byte b))
      ∙ ap (is_followed table x y) (numbered-by prev (b == line_feed) (is_word_byte b))))

  pub rows-filled : rows.by_context ≡ not alike → n ≡ square_count rows.by_context → in_row rows x y Here ≡ is_followed table x y Here
  rows-filled other count = by-square rows.by_context other count
