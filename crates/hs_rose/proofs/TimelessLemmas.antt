-- What the tables for blocks tell, and that a byte is taken wherever the stream stands.
use Rattle.std.proofs.Common.{◌≡◌, ◌↔◌, ℕ, Bool, true, List, [], ◌∷◌, ◌++◌, length, Some, sym, subst, ◌∙◌, arith, length-append}
use Rattle.std.specs.Prelude.{eqb}
use Rattle.hs_base.specs.declared.context.Prev.{Prev}
use Rattle.hs_base.specs.declared.context.Next.TheVariants as after
use Rattle.hs_base.specs.declared.context.NextSet.{NextSet}
use Rattle.hs_base.specs.Assertions.{line_feed, is_word_byte}
use Rattle.hs_base.specs.Contexts.{class_of, prev_by}
use Rattle.hs_base.specs.ContextSets.{has_next}
use Rattle.hs_base.specs.Fields.{Leaves}
use Rattle.hs_bits.proofs.BlockLemmas.{prev-push}
use Rattle.hs_block.specs.declared.streams.Streams.{Streams}
use Rattle.hs_engine.specs.Engines.{Meaning}
use Rattle.hs_engine.specs.declared.ends.ByteEnds.{ByteEnds}
use Rattle.hs_limex.specs.Anywhere.{TakesAnywhere, TellsAnywhere}
use Rattle.hs_limex.specs.LimexEngines.{moves_of_limex}
use Rattle.hs_engine.specs.declared.ends.ByteEnds.{ByteEnds}
use Rattle.hs_engine.specs.Timeless.{TakesStep}
use Rattle.hs_rose.specs.declared.positions.PositionEngine.{PositionEngine}
use Rattle.hs_rose.specs.Streaming.{TellsMoves}

-- the tables of an engine, if it has some, tell what it does
pub engine-tells : (e : PositionEngine) (s : Streams) → e.streams ≡ Some s → TellsMoves s (moves_of_limex e.limex)
engine-tells e s is = record {
  size_is = e.size_is s is;
  takes_are = e.takes_are s is;
  enters_are = e.enters_are s is;
  accepts_are = e.accepts_are s is;
  follows_are = e.follows_are s is;
}

-- A byte is taken, before which the expression is entered or not, with what is told before it and behind it.
pub step-taken : (m : Meaning) (old new : List ℕ) (prev behind : Prev) (enters : Bool) (byte : ℕ) (before_set behind_set : NextSet) (ends : ByteEnds) → TellsAnywhere m old prev before_set →
    ((at : ℕ) → m.well new at) → TakesAnywhere m old new prev enters byte → TellsAnywhere m new behind behind_set → behind ≡ prev_by (eqb byte line_feed) (is_word_byte byte) →
    ends.before ≡ has_next before_set (class_of byte) → ends.behind ≡ has_next behind_set after.Unknown → TakesStep m old new prev enters byte ends
step-taken m old new prev behind enters byte before_set behind_set ends tells well takes tells' behind_is before_told behind_told =
    record {
      well = well;
      takes = λ tree u entered is count prev_is field.
          let field' = takes tree u entered is count prev_is field in
          let count' : length (entered ++ enters ∷ []) ≡ length (u ++ byte ∷ []) = omega (arith, count, length-append entered (enters ∷ []), length-append u (byte ∷ [])) in
          let left = tells tree u entered is count prev_is field (class_of byte) in
          let left' = tells' tree (u ++ byte ∷ []) (entered ++ enters ∷ []) is count' (behind_is ∙ sym (prev-push u byte)) field' after.Unknown in
          record {
            field = field';
            before_is = subst (λ b. (b ≡ true) ↔ Leaves tree u entered (class_of byte)) (sym before_told) left;
            behind_is = subst (λ b. (b ≡ true) ↔ Leaves tree (u ++ byte ∷ []) (entered ++ enters ∷ []) after.Unknown) (sym behind_told) left';
          };
    }
