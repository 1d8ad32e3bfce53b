-- The tables for blocks go with the engine that takes bytes.
use Rattle.std.proofs.Common.{◌≡◌, ℕ, ◌+◌, ◌/◌, ◌<◌, List, length, get_or, Option, Some, None, IfSome, MatchOption, refl, sym, ap, subst, ◌∙◌, arith}
use Rattle.hs_base.specs.declared.context.Prev.{Prev}
use Rattle.hs_engine.specs.declared.automaton.Automaton.{Automaton}
use Rattle.hs_engine.specs.Engines.{Meaning}
use Rattle.hs_engine.specs.Tables.{IsClearFrom}
use Rattle.hs_block.specs.declared.streams.Streams.{Streams}
use Rattle.hs_engine.specs.declared.ends.BlockEnds.{BlockEnds}
use Rattle.hs_block.specs.Blocks.{TakesBlock}
use Rattle.hs_block.specs.StreamRuns.{IsTried, RunsStreams}
use Rattle.hs_block.specs.StreamTables.{TellsOf}
use Rattle.hs_block.proofs.StreamTakesLemmas.{stream-takes}
use Rattle.hs_limex.specs.Fitting.{Fits, tables_meaning}
use Rattle.hs_limex.specs.PositionMoves.{PositionMoves}
use Rattle.hs_rose.specs.Streaming.{TellsMoves}

-- tables that tell what the engine's do tell what an automaton does that these fit
moves-tell : (s : Streams) (m : PositionMoves) (a : Automaton) → Fits m a → TellsMoves s m → TellsOf s a
moves-tell s m a fits tells = record {
  size_is = tells.size_is ∙ fits.size;
  takes_are = λ x b below byte. tells.takes_are x b (omega (arith, below, fits.size)) byte ∙ fits.reach b x byte;
  enters_are = λ x c. tells.enters_are x c ∙ fits.enters c x;
  accepts_are = λ x c. tells.accepts_are x c ∙ fits.accepts c x;
  follows_are = λ x y c below. tells.follows_are x y c (omega (arith, below, fits.size)) ∙ fits.follows y x c;
}

-- and the other way round
pub told-moves : (s : Streams) (m : PositionMoves) (a : Automaton) → Fits m a → TellsOf s a → TellsMoves s m
told-moves s m a fits tells = record {
  size_is = tells.size_is ∙ sym fits.size;
  takes_are = λ x b below byte. tells.takes_are x b (omega (arith, below, fits.size)) byte ∙ sym (fits.reach b x byte);
  enters_are = λ x c. tells.enters_are x c ∙ sym (fits.enters c x);
  accepts_are = λ x c. tells.accepts_are x c ∙ sym (fits.accepts c x);
  follows_are = λ x y c below. tells.follows_are x y c (omega (arith, below, fits.size)) ∙ sym (fits.follows y x c);
}

-- what is told of the tables, if there are some, is told of those that are there
pub told-some : (found : Option Streams) (s : Streams) (a : Automaton) → IfSome found (λ streams. TellsOf streams a) → found ≡ Some s → TellsOf s a
told-some found s a told is = subst (λ o. IfSome o (λ streams. TellsOf streams a)) is told

pub runs-streams : (s : Streams) (m : PositionMoves) → TellsMoves s m → RunsStreams (tables_meaning m) s
runs-streams s m tells = record {
  width = ap (λ n. (n + 7) / 8) (sym tells.size_is);
  always = refl;
  clear = λ region at. (λ is. subst (IsClearFrom region) (sym tells.size_is) is, λ is. subst (IsClearFrom region) tells.size_is is);
  told = λ tree is. (is.automaton, moves-tell s m is.automaton is.fits tells, is.runs);
  field = λ region tree u entered. (λ is. is, λ is. is);
}

-- what is tried by the tables is what the engine does, or nothing
pub tried-takes : (m : Meaning) (s : Streams) (old new : List ℕ) (prev : Prev) (at enters : ℕ) (bytes : List ℕ) (result : Option BlockEnds) (before after : ℕ) → RunsStreams m s → length old ≡ m.width → m.well old at →
    ((i : ℕ) → get_or bytes i 0 < 256) → IsTried s prev old new enters bytes (length bytes) result before after →
    MatchOption result ((new ≡ old) × (after ≡ before)) (λ ends. TakesBlock m old new prev at enters bytes ends before after)
tried-takes m s old new prev at enters bytes None before after streams len well small tried = tried
tried-takes m s old new prev at enters bytes (Some ends) before after streams len well small tried =
    let (ticks, counted, run) = tried in
    stream-takes m s old new prev at enters bytes ends ticks before after streams len well small counted run
