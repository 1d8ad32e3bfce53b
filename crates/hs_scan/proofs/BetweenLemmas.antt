-- A scan between two chunks stays there while only the hits, and what is noted for the end, are worked on.
use Rattle.std.proofs.Common.{◌≡◌, ◌++◌, ℕ, List, length, drop, sym, ap, subst, ◌∙◌, arith, length-append, length-drop}
use Rattle.hs_base.specs.Literals.{LiteralByte}
use Rattle.hs_engine.specs.Engines.{Meaning}
use Rattle.hs_nodes.specs.Resting.{AreNodesResting}
use Rattle.hs_nodes.specs.Walks.{AreNodesWell}
use Rattle.hs_nodes.specs.declared.graph.Graph.{Graph}
use Rattle.hs_keeping.specs.Knowing.{FitsKnown, IsPending}
use Rattle.hs_scan.specs.Scratches.{FindsHits, FitsRoom, IsBetweenChunks}
use Rattle.hs_scan.specs.declared.course.Course.{Course}
use Rattle.hs_scan.specs.declared.node_cache.NodeCache.{NodeCache}
use Rattle.hs_scan.specs.declared.scratch.Scratch.{Scratch}

-- What goes from chunk to chunk is the same, and there is room for as much.
pub record KeepsCourse (old new : Scratch) : Type 0 where
  pub ends : new.ends ≡ old.ends
  pub course : new.course ≡ old.course
  pub hits : length new.hits.items ≡ length old.hits.items
  pub rows : new.rows.count ≡ old.rows.count
  pub finals : length new.finals.words ≡ length old.finals.words
  pub last : length new.last.items ≡ length old.last.items
  pub past : length new.past ≡ length old.past

pub between-kept : {E : Type 0} (meaning : E → Meaning) (graph : Graph E) (region : List ℕ) (cache : NodeCache) {s t : Scratch} {at then : ℕ} → then ≡ at → KeepsCourse s t → IsBetweenChunks meaning graph at region cache s →
    IsBetweenChunks meaning graph then region cache t
between-kept meaning graph region cache {s} {t} same kept before = record {
  well = subst (AreNodesWell meaning graph.table region) (sym same) before.well;
  room = record {
    room =
        subst (λ v. FitsRoom (length graph.table.nodes.items) v.items t.course.marks) (sym kept.ends)
        (subst (λ (k : Course). FitsRoom (length graph.table.nodes.items) s.ends.items k.marks) (sym kept.course) before.room.room);
    hits = kept.hits ∙ (before.room.hits ∙ sym kept.rows);
    known = subst (λ (k : Course). FitsKnown (length graph.identifiers.items) k.known) (sym kept.course) before.room.known;
    finals = kept.finals ∙ before.room.finals;
    last = kept.last ∙ before.room.last;
    past = kept.past ∙ before.room.past;
  };
  pending = subst (λ (k : Course). IsPending k.known) (sym kept.course) before.pending;
  resting = subst (λ (k : Course). AreNodesResting meaning graph.table k.marks region) (sym kept.course) before.resting;
  cached = before.cached;
}

pub found-keeps : {literals : List (List LiteralByte)} {bytes : List ℕ} {s t : Scratch} → FindsHits literals bytes s t → KeepsCourse s t
found-keeps found = record {
  ends = found.ends;
  course = found.course;
  hits = found.count;
  rows = found.rows;
  finals = ap (λ f. length f.words) found.finals;
  last = ap (λ v. length v.items) found.last;
  past = ap length found.past;
}

pub pushed-length : (past bytes now : List ℕ) → length past ≡ 64 → now ≡ drop (length bytes) (past ++ bytes) → length now ≡ 64
pushed-length past bytes now size same = omega (arith, ap length same, length-drop (length bytes) (past ++ bytes), length-append past bytes, size)
