-- Nodes that are spent in a chunk: matches of spent identifiers alone end there.
use Rattle.std.proofs.Common.{◌≡◌, ℕ, ◌%◌, ◌≤◌, Bool, true, false, ◌&&◌, List, [], length, eqb, slice_get, Option, Some, None, refl, sym, ap, ◌∙◌, arith}
use Rattle.std.proofs.lemmas.Bool.Decides.{nat_tests}
use Rattle.std.proofs.lemmas.Nat.Bits.{bit_at-zero}
use Rattle.std.specs.Prelude.{nat_le}
use Rattle.hs_base.specs.declared.context.Prev.{Prev}
use Rattle.hs_base.specs.Bits.{has_word_bit}
use Rattle.hs_base.specs.Lists.{IsMember}
use Rattle.hs_base.proofs.ListLemmas.{each-member, each-of_members}
use Rattle.hs_engine.specs.Engines.{Meaning}
use Rattle.hs_nodes.specs.Lone.{AreLoneNodes, is_spent_node, is_told_of}
use Rattle.hs_nodes.specs.Walks.{TakesNodes}
use Rattle.hs_nodes.specs.declared.ends.ChunkEnds.{ChunkEnds}
use Rattle.hs_nodes.specs.declared.graph.Graph.{Graph}
use Rattle.hs_nodes.specs.declared.hits.ChunkHits.{ChunkHits}
use Rattle.hs_nodes.specs.declared.lone.LoneNodes.{LoneNodes}
use Rattle.hs_nodes.specs.declared.table.NodeTable.{NodeTable}
use Rattle.hs_reports.specs.Settlement.{is_spent}
use Rattle.hs_reports.specs.declared.identifier.Identifier.{Identifier}
use Rattle.hs_reports.specs.declared.terminal.Terminal.{Terminal}
use Rattle.hs_scan.specs.Spending.{spent_in}
use Rattle.hs_scan.specs.Telling.{AreOfSpent}

-- where fewer nodes are told of
pub takes-fewer : {E : Type 0} (meaning : E → Meaning) (table : NodeTable E) (spent fewer : ℕ → Bool) (at : ℕ) (old new : List ℕ) (prev : Prev) (past bytes : List ℕ) (hits : List ChunkHits) (ends : List ChunkEnds) → ((k : ℕ) → fewer k ≡ false → spent k ≡ false) →
    TakesNodes meaning table spent old new prev at past bytes hits ends → TakesNodes meaning table fewer old new prev at past bytes hits ends
takes-fewer meaning table spent fewer at old new prev past bytes hits ends asked_for takes literals pieces u of stands past_is small hits_are held =
    let run = takes literals pieces u of stands past_is small hits_are held in
    record { held = run.held; left = λ k below asked. run.left k below (asked_for k asked) }

-- no identifier is told by no words
none-told : (p : ℕ) → has_word_bit [] p ≡ false
unfolding has_word_bit
none-told p = ap (λ n. eqb n 1) (bit_at-zero (p % 64))

pub none-spent : (lone : LoneNodes) (k : ℕ) → is_spent_node lone [] k ≡ false
none-spent lone k = by (slice_get lone.identifiers.items k) where
  by : (i : Option (Option ℕ)) → is_told_of [] i ≡ false
  by None = refl
  by (Some None) = refl
  by (Some (Some p)) = none-told p

-- and so where a chunk is long
pub open-long : (n : ℕ) (b : Bool) → 64 ≤ n → (nat_le 64 n && b) ≡ false → b ≡ false
open-long n b long asked_for = let low : nat_le 64 n ≡ true = grind (arith, nat_tests) in sym (ap (λ x. x && b) low) ∙ asked_for

second : (a b : Bool) → (a && b) ≡ true → b ≡ true
second true b is = is
second false b is = let no : false ≡ true = is in absurd (cc)

both-hold : (a b : Bool) → a ≡ true → b ≡ true → (a && b) ≡ true
both-hold a b first then = ap (λ x. x && b) first ∙ then

-- at a spent node ends an identifier that is spent
pub spent-told : {E : Type 0} (meaning : E → Meaning) (graph : Graph E) (lone : LoneNodes) (told bytes : List ℕ) → AreLoneNodes meaning graph lone → AreOfSpent graph told (spent_in lone told bytes)
spent-told meaning graph lone told bytes are =
    each-of_members _ graph.terminals.items (λ t member set x there.
    by t member x there (slice_get lone.identifiers.items t.node) refl (second (nat_le 64 (length bytes)) (is_spent_node lone told t.node) set))
  where
    by : (t : Terminal) → IsMember t graph.terminals.items → (x : Identifier) → slice_get graph.identifiers.items t.identifier ≡ Some x → (i : Option (Option ℕ)) → slice_get lone.identifiers.items t.node ≡ i → is_told_of told i ≡ true → is_spent x told t.identifier ≡ true
    by t member x there None at set = let no : false ≡ true = set in absurd (cc)
    by t member x there (Some None) at set = let no : false ≡ true = set in absurd (cc)
    by t member x there (Some (Some p)) at set =
        let own = are.owned t.node p at in
        let same : t.identifier ≡ p = each-member (λ s. s.node ≡ t.node → s.identifier ≡ p) graph.terminals.items t own.named member refl in
        both-hold x.single (has_word_bit told t.identifier) (own.single x (ap (slice_get graph.identifiers.items) (sym same) ∙ there)) (ap (has_word_bit told) same ∙ set)
