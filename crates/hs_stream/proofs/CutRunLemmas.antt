-- A run, from its open to its close.
use Rattle.std.proofs.Common.{◌≡◌, ◌∙◌, ℕ, zero, suc, ◌+◌, ◌<◌, ◌≤◌, ◌==◌, min, true, false, List, [], ◌++◌, length, take, drop, ap₂, arith, refl, sym, ap, subst, append_assoc, append-nil}
use Rattle.std.proofs.lemmas.Bool.{eqb-true, eqb-false}
use Rattle.std.proofs.lemmas.List.{nil_from_length, take-append-drop}
use Rattle.hs_base.specs.Patterns.{Pattern}
use Rattle.hs_compile.specs.Databases.{Compiled}
use Rattle.hs_stream.specs.declared.stream.Stream.{Stream}
use Rattle.hs_stream.specs.Leading.{LeadsTo}
use Rattle.hs_stream.specs.Standing.{RunsPatterns}
use Rattle.hs_stream.specs.Streams.{Closes, IsFresh, IsStreamOf, Writes, region_of}
use Rattle.hs_stream.proofs.JoinLemmas.{writes-none, writes-more}
use Rattle.hs_stream.proofs.SavingLemmas.{saved-taken}
use Rattle.hs_stream.proofs.StandLemmas.{fresh-stands, write-moves, end-last}
use Rattle.hs_stream.specs.declared.tally.Tally.{Tally}
use Rattle.hs_stream.specs.CutRuns.{IsAdded, IsCutRun, IsSummary, IsSwapped}
use Rattle.hs_stream.specs.Tallies.{with_pairs}
use Rattle.hs_stream.proofs.TallyLemmas.{tally-join}

-- what is swapped has the same region
pub swapped-region : (db : Compiled) (before now : Stream) → IsStreamOf db before → IsSwapped db before now → region_of now ≡ region_of before
swapped-region db before now fits swapped = (saved-taken db swapped.bytes (region_of before) fits.region swapped.saved).same now swapped.expanded

-- Of the bytes these are left, and the others were written.
pub record IsRunTo (db : Compiled) (bytes rest : List ℕ) (stream : Stream) (tally : Tally) : Type 0 where
  pub written : List ℕ
  pub split : written ++ rest ≡ bytes
  pub run : IsCutRun db written stream tally

pub run-start : (db : Compiled) (bytes : List ℕ) (stream : Stream) → IsFresh db stream → IsRunTo db bytes bytes stream (record { count = 0; sum = 0 })
run-start db bytes stream fresh = record {
  written = [];
  split = refl;
  run = record { start = stream; fresh = fresh; pairs = []; writes = writes-none db stream; counted = refl };
}

pub piece-split : (n : ℕ) (rest piece behind : List ℕ) → piece ≡ take n rest → behind ≡ drop n rest → piece ++ behind ≡ rest
piece-split n rest piece behind front back = ap₂ (λ (l r : List ℕ). l ++ r) front back ∙ take-append-drop n rest

-- a piece isn't empty
least : (a b : ℕ) → 0 < a → 0 < b → 0 < min a b
least zero b some other = absurd (omega (arith, some))
least (suc a) zero some other = absurd (omega (arith, other))
least (suc a) (suc b) some other = omega arith

pub count-more : (pieces n next rest behind bytes : ℕ) → n ≡ min next rest → 0 < next → 0 < rest → behind + n ≡ rest → pieces + rest ≤ bytes → pieces + 1 + behind ≤ bytes
count-more pieces n next rest behind bytes is some left split within =
    let more : 0 < min next rest = least next rest some left in
    omega (arith, more, is, split, within)

-- a piece more
pub run-more : (db : Compiled) (bytes rest piece behind : List ℕ) (old between new : Stream) (before now : Tally) → IsRunTo db bytes rest old before → piece ++ behind ≡ rest → IsAdded before now (Writes db old between piece) → region_of new ≡ region_of between →
    IsRunTo db bytes behind new now
run-more db bytes rest piece behind old between new before now to split added same =
    let run = to.run in
    record {
      written = to.written ++ piece;
      split = append_assoc to.written piece behind ∙ (ap (λ l. to.written ++ l) split ∙ to.split);
      run = record {
        start = run.start;
        fresh = run.fresh;
        pairs = run.pairs ++ added.pairs;
        writes =
            subst (λ r. LeadsTo db (region_of run.start) r (to.written ++ piece) (run.pairs ++ added.pairs)) (sym same)
            (writes-more db run.start old between to.written piece run.pairs added.pairs run.writes added.holds);
        counted = added.added ∙ (ap (λ t. with_pairs t added.pairs) run.counted ∙ tally-join run.pairs added.pairs);
      };
    }

-- the close
pub run-closed : (db : Compiled) (bytes rest : List ℕ) (stream : Stream) (before now : Tally) → IsRunTo db bytes rest stream before → rest ≡ [] → IsAdded before now (Closes db stream) → (P : List Pattern) → RunsPatterns db P → IsSummary P bytes now
run-closed db bytes rest stream before now to none added P runs =
    let run = to.run in
    let all : to.written ≡ bytes = sym (append-nil to.written) ∙ (ap (λ l. to.written ++ l) (sym none) ∙ to.split) in
    let moves = write-moves db P [] to.written run.start stream run.pairs (fresh-stands db P run.start runs run.fresh) run.writes in
    subst (λ w. IsSummary P w now) all (record {
      new = run.pairs;
      last = added.pairs;
      by_bytes = moves.reports;
      by_end = end-last db P to.written stream added.pairs moves.stands added.holds;
      counted = added.added ∙ (ap (λ t. with_pairs t added.pairs) run.counted ∙ tally-join run.pairs added.pairs);
    })

pub none-left : (rest : List ℕ) → (length rest == 0) ≡ true → rest ≡ []
none-left rest e = nil_from_length rest (eqb-true (length rest) 0 e)

pub some-left : (rest : List ℕ) → (length rest == 0) ≡ false → 0 < length rest
some-left rest e = let apart = eqb-false (length rest) 0 e in positive (length rest) apart
  where
    positive : (n : ℕ) → (n ≡ 0 → ⊥) → 0 < n
    positive zero unequal = absurd (unequal refl)
    positive (suc n) unequal = omega arith
