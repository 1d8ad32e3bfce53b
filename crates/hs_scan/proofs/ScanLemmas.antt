-- Scans join, and lead from the region of a stream to that of the longer one.
use Rattle.std.proofs.Common.{◌≡◌, ℕ, ◌+◌, ◌-◌, ◌<◌, ◌≤◌, Bool, List, [], ◌++◌, length, take, drop, sym, ap, subst, ◌∙◌, arith, append_assoc, length-append}
use Rattle.std.specs.Prelude.{slice_range}
use Rattle.std.proofs.Math.Seq.{take-add}
use Rattle.std.proofs.lemmas.List.{append-nil}
use Rattle.hs_base.specs.declared.context.Prev.{Prev}
use Rattle.hs_base.specs.Bits.{has_bit}
use Rattle.hs_base.specs.Lists.{Each}
use Rattle.hs_base.specs.Literals.{LiteralByte}
use Rattle.hs_base.specs.Offsets.{greatest_offset}
use Rattle.hs_base.specs.Regions.{Plan, IsRegion, last_bytes, region_offset}
use Rattle.hs_base.specs.Told.{Pair, IsTold}
use Rattle.hs_base.proofs.ListLemmas.{each-append}
use Rattle.hs_base.proofs.NewLemmas.{new_nothing, told_more}
use Rattle.hs_base.proofs.RegionLemmas.{last_bytes-follow}
use Rattle.hs_base.proofs.ToldLemmas.{new-joins}
use Rattle.hs_engine.specs.Engines.{Meaning}
use Rattle.hs_layout.specs.Layouts.{Laid}
use Rattle.hs_nodes.specs.Blocks.{EndsBehind}
use Rattle.hs_nodes.specs.Left.{AreLeftIn}
use Rattle.hs_nodes.specs.Walks.{TakesNodes}
use Rattle.hs_nodes.specs.declared.ends.ChunkEnds.{ChunkEnds}
use Rattle.hs_nodes.specs.declared.hits.ChunkHits.{ChunkHits}
use Rattle.hs_reports.specs.Identifiers.{numbers_of}
use Rattle.hs_reports.specs.Pairs.{ArePairsOf}
use Rattle.hs_reports.proofs.PairsLemmas.{pairs-join, pairs-none}
use Rattle.hs_scan.specs.Feeding.{Feeds}
use Rattle.hs_keeping.specs.Keeping.{AreRead, IsSpareBit}
use Rattle.hs_nodes.specs.Graphs.{RunsPlan, plan_layout}
use Rattle.hs_scan.specs.Scans.{AreHitsBehind, AreLeftToEnd, IsReached, IsWritten, Scans, ScansChunk, Stand, stand}
use Rattle.hs_scan.specs.Telling.{AreOfSpent, TellsChunk}
use Rattle.hs_nodes.specs.declared.graph.Graph.{Graph}
use Rattle.hs_scan.proofs.RegionLemmas.{reached-begin, region-end, spares-unset}

-- What stands before the next byte is known of a stream by its offset and its last bytes.
abbrev pub Stands : (at : ℕ) (past : List ℕ) (prev : Prev) → Type 0
Stands at past prev = (u : List ℕ) → at ≡ length u → past ≡ last_bytes 64 u → EndsBehind u prev at

module _ {E : Type 0} (meaning : E → Meaning) (graph : Graph E) where
  -- A chunk, by the nodes and then by what it tells.
  pub chunk-takes : (at : ℕ) (old new told here told' here' : List ℕ) (prev : Prev) (past bytes : List ℕ) (hits : List ChunkHits) (ends : List ChunkEnds) (all : ChunkEnds) (pairs : List Pair) (spent : ℕ → Bool) → AreOfSpent graph told spent →
      length ends ≡ length graph.table.nodes.items → ((u : List ℕ) → AreLeftIn [] u bytes all) → TakesNodes meaning graph.table spent old new prev at past bytes hits ends → TellsChunk meaning graph bytes at ends all told here told' here' pairs →
      ScansChunk meaning graph old new prev at past bytes hits told here told' here' pairs
  chunk-takes at old new told here told' here' prev past bytes hits ends all pairs spent of count everywhere takes chunk = record {
    pairs_are = chunk.pairs_are;
    scans = λ literals plan runs u list stands past_is small are before known told_is.
        let run = takes literals runs.pieces u runs.nodes stands past_is small are before in
        let telling = chunk.tells literals plan runs u list spent stands.offset of (record { count = count; left = run.left; everywhere = everywhere u }) known told_is in
        record { held = run.held; known = telling.known; new_are = telling.new };
  }

module _ {E : Type 0} (meaning : E → Meaning) (graph : Graph E) (literals : List (List LiteralByte)) where
  pub scans-none : (s : Stand) → Scans meaning graph literals s s [] []
  scans-none s = record {
    pairs_are = pairs-none (numbers_of graph.identifiers.items) s.at s.at;
    scans = λ plan runs u list is told.
        record {
          reached = subst (λ v. IsReached meaning graph literals plan runs v s) (sym (append-nil u)) is;
          new = new_nothing plan.patterns u list told;
        };
  }

  pub scans-join : (a b c : Stand) (xs ys : List ℕ) (ps qs : List Pair) → a.at ≤ b.at → b.at ≤ c.at → Scans meaning graph literals a b xs ps → Scans meaning graph literals b c ys qs → Scans meaning graph literals a c (xs ++ ys) (ps ++ qs)
  scans-join a b c xs ys ps qs up on first second = record {
    pairs_are = pairs-join (numbers_of graph.identifiers.items) a.at b.at c.at ps qs up on first.pairs_are second.pairs_are;
    scans = λ plan runs u list is told.
        let one = first.scans plan runs u list is told in
        let two = second.scans plan runs (u ++ xs) (list ++ ps) one.reached (told_more plan.patterns u xs list ps told one.new) in
        record {
          reached = subst (λ v. IsReached meaning graph literals plan runs v c) (append_assoc u xs ys) two.reached;
          new = new-joins plan.patterns u xs ys ps qs one.new two.new;
        };
  }

  pub chunk-scans : (at : ℕ) (past past' old new told here told' here' : List ℕ) (prev : Prev) (bytes : List ℕ) (hits : List ChunkHits) (pairs : List Pair) → Each (λ b. b < 256) bytes →
      Stands at past prev → AreHitsBehind literals at past hits bytes → past' ≡ drop (length bytes) (past ++ bytes) → ScansChunk meaning graph old new prev at past bytes hits told here told' here' pairs →
      Scans meaning graph literals (stand at past old told here) (stand (at + length bytes) past' new told' here') bytes pairs
  chunk-scans at past past' old new told here told' here' prev bytes hits pairs small stands are past_is chunk = record {
    pairs_are = chunk.pairs_are;
    scans = λ plan runs u list is told_is.
        let small_all : Each (λ b. b < 256) (u ++ bytes) = each-append (λ b. b < 256) u bytes is.bytes small in
        let end = chunk.scans literals plan runs u list (stands u is.offset is.past) is.past small_all (are u is.offset is.past) is.held is.known told_is in
        record {
          reached = record {
            offset = omega (arith, is.offset, length-append u bytes);
            past = past_is ∙ (ap (λ xs. drop (length bytes) (xs ++ bytes)) is.past ∙ sym (last_bytes-follow 64 u bytes));
            bytes = small_all;
            held = end.held;
            known = end.known;
          };
          new = end.new_are;
        };
  }

  -- From the region of a stream to that of the longer one.
  pub scan-feeds : (l : Laid) (old new bytes : List ℕ) (s t : Stand) (last : List ℕ) (pairs : List Pair) → s.region ≡ old → s.at ≡ region_offset old → s.past ≡ slice_range old 8 72 → AreRead l old graph.identifiers.items s.told s.here →
      t.at ≤ greatest_offset → Scans meaning graph literals s t bytes pairs → IsWritten graph l t last new → ((k : ℕ) → IsSpareBit l k → has_bit t.region k ≡ has_bit old k) →
      ((plan : Plan) (runs : RunsPlan meaning graph literals plan) (u : List ℕ) (list : List Pair) → IsReached meaning graph literals plan runs u s → IsTold plan.patterns u list → AreLeftToEnd graph plan.patterns (u ++ bytes) last) →
      Feeds meaning graph literals l old new bytes pairs
  scan-feeds l old new bytes s t last pairs same at past read room scans written spare left = record {
    pairs_are =
        let ids = numbers_of graph.identifiers.items in
        subst (λ n. ArePairsOf ids n (region_offset new) pairs) at (subst (λ n. ArePairsOf ids s.at n pairs) (sym written.offset) scans.pairs_are);
    feeds = λ plan u list runs_laid each is told.
        let runs = runs_laid.runs in
        let laid = runs_laid.laid in
        let begun : IsReached meaning graph literals plan runs u s =
        reached-begin meaning graph literals plan runs u s each (subst (IsRegion plan u) (sym same) is) (at ∙ ap region_offset (sym same)) (past ∙ ap (λ r. slice_range r 8 72) (sym same))
        (subst (λ r. AreRead (plan_layout plan) r graph.identifiers.items s.told s.here) (sym same) (subst (λ m. AreRead m old graph.identifiers.items s.told s.here) laid read)) in
        let end = scans.scans plan runs u list begun told in
        record {
          region =
              region-end meaning graph literals plan runs (u ++ bytes) t last new end.reached (subst (λ m. IsWritten graph m t last new) laid written) (left plan runs u list begun told)
              (λ k is_spare.
              let here : IsSpareBit l k = subst (λ m. IsSpareBit m k) (sym laid) is_spare in
              written.spare k here ∙ (spare k here ∙ spares-unset plan u old is k is_spare))
              (omega (arith, room, end.reached.offset));
          new = end.new;
        };
  }

  -- A piece of the bytes more.
  pub scans-more : (a b c : Stand) (bytes : List ℕ) (from end : ℕ) (ps qs : List Pair) → from ≤ end → a.at ≤ b.at → b.at ≤ c.at → Scans meaning graph literals a b (take from bytes) ps → Scans meaning graph literals b c (take (end - from) (drop from bytes)) qs → Scans meaning graph literals a c (take end bytes) (ps ++ qs)
  scans-more a b c bytes from end ps qs order up on first second =
      let e : end ≡ from + (end - from) = omega arith in
      subst (λ xs. Scans meaning graph literals a c xs (ps ++ qs)) (sym (ap (λ n. take n bytes) e ∙ take-add from (end - from) bytes)) (scans-join a b c (take from bytes) (take (end - from) (drop from bytes)) ps qs up on first second)
