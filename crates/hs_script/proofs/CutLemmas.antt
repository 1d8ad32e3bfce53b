-- A write may be cut anywhere.
use Rattle.std.proofs.Common.{ℕ, ◌+◌, ◌≤◌, List, ◌++◌, length, Option, Some, ap, append_assoc, arith}
use Rattle.std.proofs.lemmas.List.{length-append}
use Rattle.hs_base.specs.Offsets.{greatest_offset}
use Rattle.hs_base.proofs.ToldLemmas.{new-once, new-joins}
use Rattle.hs_script.specs.Actions.{Write}
use Rattle.hs_script.specs.Bases.{Basis, Stream, Of, File, patterns_of}
use Rattle.hs_script.specs.Machine.{Answer, Moves, too_long, written, takes_new}
use Rattle.hs_script.specs.Laws.{IsInTwo}

pub cut_anywhere : {basis : Basis} {c d e : ℕ} {p q r : File} {name h v w : List ℕ} {x y z : Answer} {i j k : Option Stream} → length h + length (v ++ w) ≤ greatest_offset → Moves basis c p (Some (Of h)) (Write name v) x i → Moves basis d q i (Write name w) y j → Moves basis e r (Some (Of h)) (Write name (v ++ w)) z k → IsInTwo x y z j k
cut_anywhere {v = v} {w = w} short (too_long p) second third = absurd (omega (arith, short, p, length-append v w))
cut_anywhere {h = h} {v = v} {w = w} short (written p (takes_new n)) (too_long q) third =
    absurd (omega (arith, short, q, length-append v w, length-append h v))
cut_anywhere short (written p (takes_new n)) (written q (takes_new n')) (too_long r) = absurd (omega (arith, short, r))
cut_anywhere {basis} {h = h} {v = v} {w = w} short (written p (takes_new {new = new} n)) (written q (takes_new {new = new'} n')) (written r (takes_new {new = new''} n'')) =
    record {
      reports = new-once (patterns_of basis) h (v ++ w) new'' (new ++ new') n'' (new-joins (patterns_of basis) h v w new new' n n');
      streams = ap (λ l. Some (Of l)) (append_assoc h v w);
    }
