-- A scratch between writes, and within one.
use Rattle.std.proofs.Common.{◌≡◌, ℕ, zero, suc, length, replicate, refl, sym, ap, subst, ◌∙◌}
use Rattle.std.specs.Prelude.{slice_index_or}
use Rattle.std.proofs.lemmas.List.{length-replicate}
use Rattle.hs_base.specs.Bits.{word_count}
use Rattle.hs_base.specs.Regions.{history_size}
use Rattle.hs_nodes.specs.Left.{nowhere}
use Rattle.hs_nodes.specs.declared.graph.Graph.{Graph}
use Rattle.hs_reports.specs.EndTables.{HasNoEnds, IsBlank}
use Rattle.hs_scan.specs.Hits.{no_hits}
use Rattle.hs_scan.specs.Scratches.{FitsGraph, FitsRoom, HasNoHits, HasRoom, IsFresh, IsIdle, ServesGraph}
use Rattle.hs_scan.specs.declared.scratch.Scratch.{Scratch}

pub same-all : {A : Type 0} (n k : ℕ) (d : A) → slice_index_or (replicate n d) k d ≡ d
same-all zero k d = refl
same-all (suc n) zero d = refl
same-all (suc n) (suc k) d = same-all n k d

module _ {E : Type 0} (graph : Graph E) (literals : ℕ) (s : Scratch) where
  pub graph-room : IsIdle s → ServesGraph graph literals s → FitsGraph graph s
  graph-room idle serves =
      subst (λ n. HasRoom n (length graph.identifiers.items) s) serves.nodes (subst (λ n. HasRoom (length s.ends.items) n s) serves.identifiers idle.room)

  pub hit-rows : IsIdle s → ServesGraph graph literals s → s.rows.count ≡ literals
  hit-rows idle serves = sym idle.room.hits ∙ serves.hits

  pub idle-again : FitsGraph graph s → HasNoHits s → HasNoEnds s.course.known.ends → HasNoEnds s.finals → IsIdle s
  idle-again room none no_ends no_finals = record {
    room =
        subst (λ n. HasRoom n (length s.course.known.ends.words) s) (sym room.room.count)
        (subst (λ n. HasRoom (length graph.table.nodes.items) n s) (sym room.known.ends) room);
    none = none;
    no_ends = no_ends;
    no_finals = no_finals;
  }

  pub serves-again : FitsGraph graph s → s.rows.count ≡ literals → ServesGraph graph literals s
  serves-again room rows = record { nodes = room.room.count; identifiers = room.known.ends; hits = room.hits ∙ rows }

-- One that is new: no node is left anywhere, and no literal ends.
pub new-idle : (s : Scratch) (nodes identifiers literals : ℕ) →
    s.ends.items ≡ replicate nodes nowhere →
    s.hits.items ≡ replicate literals no_hits →
    s.rows.count ≡ literals →
    IsFresh nodes identifiers s.course →
    IsBlank s.finals identifiers →
    length s.last.items ≡ word_count identifiers →
    length s.past ≡ history_size →
    IsIdle s
new-idle s nodes identifiers literals ends hits rows fresh finals last past =
    let count : length s.ends.items ≡ nodes = ap length ends ∙ length-replicate nodes nowhere in
    let known : length s.course.known.ends.words ≡ identifiers = fresh.known.ends in
    let same : length s.hits.items ≡ literals = ap length hits ∙ length-replicate literals no_hits in
    let room : FitsRoom nodes s.ends.items s.course.marks = record {
      count = count;
      clear = λ k. ap (λ xs. slice_index_or xs k nowhere) ends ∙ same-all nodes k nowhere;
      room = fresh.room;
      below = fresh.below;
    } in
    let has : HasRoom nodes identifiers s = record {
      room = room;
      hits = same ∙ sym rows;
      known = fresh.known;
      finals = finals.count_is;
      last = last;
      past = past;
    } in
    record {
      room = subst (λ n. HasRoom n (length s.course.known.ends.words) s) (sym count) (subst (λ n. HasRoom nodes n s) (sym known) has);
      none = λ k. ap (λ xs. slice_index_or xs k no_hits) hits ∙ same-all literals k no_hits;
      no_ends = fresh.no_ends;
      no_finals = finals.words;
    }
