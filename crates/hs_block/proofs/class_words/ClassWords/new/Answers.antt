use Rattle.std.proofs.Common.{replicate, get_or, slice_get, arith}
use Rattle.hs_engine.specs.Automata.{in_set}
use Rattle.hs_block.proofs.ClassWordLemmas.{known-first}
use Rattle.hs_block.proofs.class_words.ClassWords.new.Goals as goal

pub returns : goal.returns
returns c sets bytes first_is k i set small =
    known-first (replicate 16 0) c.args.first k i (λ n. in_set (slice_get sets n) (get_or bytes i 0)) (omega arith) set (first_is i small)
