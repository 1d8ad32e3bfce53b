-- Reports that are counted.
use Rattle.std.proofs.Common.{◌≡◌, ℕ, ◌+◌, ◌-◌, ◌^◌, ◌≤◌, List, [], ◌∷◌, ◌++◌, length, refl, sym, ap, subst, ◌∙◌, arith, length-append, append_assoc}
use Rattle.std.proofs.lemmas.List.{append-nil}
use Rattle.hs_base.specs.Told.{Pair}
use Rattle.hs_bench.specs.Streaming.{AddsReports, Counts, counted}
use Rattle.hs_bench.specs.declared.stream.Reports.{Reports}
use Rattle.hs_compile.specs.Databases.{Compiled}
use Rattle.hs_reports.specs.Events.{Takes, Through, still, onward}
use Rattle.hs_stream.specs.Streams.{Writes}
use Rattle.hs_stream.specs.declared.stream.Stream.{Stream}
use Rattle.hs_stream.proofs.JoinLemmas.{writes-more, writes-none}

pub through-counts : (start end : Reports) (pairs : List Pair) → start.count ≤ 2 ^ 64 - 1 → Through Counts start pairs end → end.count ≡ counted (start.count + length pairs)
through-counts start end pairs small still = omega (arith, small)
through-counts start end pairs small (onward {pairs = before} {between} p through tells) =
    let so_far = through-counts start between before small through in
    omega (arith, so_far, tells, length-append before (p ∷ []))

pub adds-none : (db : Compiled) (stream : Stream) (count : ℕ) → count ≤ 2 ^ 64 - 1 → AddsReports db stream stream [] count count
adds-none db stream count small = record { pairs = []; writes = writes-none db stream; adds = omega (arith, small) }

pub adds-more : (db : Compiled) (a b c : Stream) (x y : List ℕ) (m n o : ℕ) → AddsReports db a b x m n → AddsReports db b c y n o → AddsReports db a c (x ++ y) m o
adds-more db a b c x y m n o first second = record {
  pairs = first.pairs ++ second.pairs;
  writes = writes-more db a b c x y first.pairs second.pairs first.writes second.writes;
  adds = omega (arith, first.adds, second.adds, length-append first.pairs second.pairs);
}

-- what was written of the text, and what is left of it
pub record IsPartly (db : Compiled) (old new : Stream) (text rest : List ℕ) (count : ℕ) : Type 0 where
  pub done : List ℕ
  pub whole : done ++ rest ≡ text
  pub adds : AddsReports db old new done 0 count

pub partly-none : (db : Compiled) (stream : Stream) (text : List ℕ) (count : ℕ) → count ≡ 0 → IsPartly db stream stream text text count
partly-none db stream text count is = record { done = []; whole = refl; adds = subst (AddsReports db stream stream [] 0) (sym is) (adds-none db stream 0 (omega arith)) }

pub partly-more : (db : Compiled) (old mid new : Stream) (text rest bytes behind : List ℕ) (before after : Reports) → bytes ++ behind ≡ rest → IsPartly db old mid text rest before.count → Takes Counts before after (Writes db mid new bytes) →
    IsPartly db old new text behind after.count
partly-more db old mid new text rest bytes behind before after split partly took = record {
  done = partly.done ++ bytes;
  whole = append_assoc partly.done bytes behind ∙ (ap (λ xs. partly.done ++ xs) split ∙ partly.whole);
  adds =
      adds-more db old mid new partly.done bytes 0 before.count after.count partly.adds
      (record { pairs = took.pairs; writes = took.holds; adds = through-counts before after took.pairs (omega (arith, partly.adds.adds)) took.through });
}

pub partly-all : (db : Compiled) (old new : Stream) (text rest : List ℕ) (count : ℕ) → length rest ≡ 0 → IsPartly db old new text rest count → AddsReports db old new text 0 count
partly-all db old new text [] count none partly =
    subst (λ xs. AddsReports db old new xs 0 count) (sym (append-nil partly.done) ∙ partly.whole) partly.adds
partly-all db old new text (b ∷ rest) count none partly = absurd (omega (arith, none))
