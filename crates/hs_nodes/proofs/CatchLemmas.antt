-- An engine over a chunk in which nobody asks where it is left.
use Rattle.std.proofs.Common.{◌≡◌, ℕ, zero, suc, ◌+◌, ◌-◌, ◌<◌, ◌≤◌, Bool, true, false, List, [], ◌∷◌, ◌++◌, length, take, drop, replicate, slice_get, slice_index, eqb, Option, Some, refl, sym, ap, subst, ◌∙◌, arith, length-append}
use Rattle.std.specs.Prelude.{slice_range}
use Rattle.std.proofs.Math.Seq.{take-add}
use Rattle.std.proofs.lemmas.List.{append-nil, append_assoc, length-replicate, replicate-append-replicate, take_all}
use Rattle.std.proofs.lemmas.Nat.Bits.{bit_at_ones}
use Rattle.std.proofs.lemmas.Option.{slice_get_within}
use Rattle.hs_base.specs.declared.byte_set.ByteSet.{ByteSet}
use Rattle.hs_base.specs.declared.context.Prev.{Prev}
use Rattle.hs_base.specs.Assertions.{line_feed, is_word_byte}
use Rattle.hs_base.specs.Bits.{AreZero}
use Rattle.hs_base.specs.ByteSets.{has}
use Rattle.hs_base.specs.Chains.{Piece, piece_tree}
use Rattle.hs_base.specs.Contexts.{class_of, prev_at, prev_by}
use Rattle.hs_base.specs.Leaving.{AreEntered}
use Rattle.hs_base.specs.Literals.{LiteralByte}
use Rattle.hs_base.specs.Trees.{Tree}
use Rattle.hs_base.specs.declared.context.Mask.{Mask}
use Rattle.hs_base.proofs.ChainStreamLemmas.{leaving-begins}
use Rattle.hs_bits.specs.WordBits.{AreSet, word_bit}
use Rattle.hs_bits.proofs.BlockLemmas.{block-more, length-block, prev-next}
use Rattle.hs_block.specs.Blocks.{IsFieldOf}
use Rattle.hs_engine.specs.Engines.{Meaning}
use Rattle.hs_engine.specs.declared.ends.BlockEnds.{BlockEnds}
use Rattle.hs_nodes.specs.Blocks.{EndsBehind}
use Rattle.hs_nodes.specs.Lone.{CatchesUp, IsClearBehindOthers}
use Rattle.hs_nodes.specs.Nodes.{HoldsPiece, IsEngineSound, IsKindSound, IsWellPart, RunsPiece}
use Rattle.hs_nodes.specs.Pieces.{IsHeld}
use Rattle.hs_nodes.specs.Starting.{ScansBlock}
use Rattle.hs_nodes.specs.Walks.{IsNodeCaughtUp, IsTableSound, node_part}
use Rattle.hs_nodes.specs.declared.table.Node.{Node}
use Rattle.hs_nodes.specs.declared.table.NodeKind.{NodeKind}
use Rattle.hs_nodes.specs.declared.table.NodeKind.TheVariants.{Engine}
use Rattle.hs_nodes.specs.declared.table.NodeTable.{NodeTable}
use Rattle.hs_nodes.proofs.KindLemmas.{one-value}
use Rattle.hs_nodes.proofs.NodeLemmas.{beside-own, there}
use Rattle.hs_nodes.proofs.RangeLemmas.{range-length, written-beside, written-here, written-outside}
use Rattle.hs_nodes.proofs.StartingLemmas.{bits-all}

-- what stands before a place of a chunk
pub place-first : (u bytes : List ℕ) (place : ℕ) → place ≡ 0 → prev_at u (length u) ≡ prev_at (u ++ take place bytes) (length u + place)
place-first u bytes place none =
    let count : length u + place ≡ length u = omega arith in
    let same : u ++ take place bytes ≡ u = ap (λ n. u ++ take n bytes) none ∙ append-nil u in
    ap (prev_at u) (sym count) ∙ ap (λ v. prev_at v (length u + place)) (sym same)

pub place-later : (u bytes : List ℕ) (place : ℕ) (behind : Prev) → (place ≡ 0 → ⊥) → place ≤ length bytes → behind ≡ prev_by (eqb (slice_index bytes (place - 1)) line_feed) (is_word_byte (slice_index bytes (place - 1))) → behind ≡ prev_at (u ++ take place bytes) (length u + place)
place-later u bytes place behind some within is =
    let next : place - 1 + 1 ≡ place = omega arith in
    prev-next bytes u (place - 1) behind (omega arith) is
    ∙ (ap (λ n. prev_at (u ++ take n bytes) (length (u ++ take n bytes))) next ∙ ap (prev_at (u ++ take place bytes)) (length-block u bytes place within))

-- each bit of the greatest word is set
pub all-set : (n : ℕ) → n ≤ 64 → AreSet 18446744073709551615 n
unfolding word_bit
all-set n few i low = ap (λ b. eqb b 1) (bit_at_ones 64 i (omega (arith, few, low)))

-- a block in which the engine is entered before each byte
pub scan-catches : (m : Meaning) (old new : List ℕ) (prev : Prev) (at enters : ℕ) (bytes : List ℕ) (ends : BlockEnds) → enters ≡ 18446744073709551615 → length bytes ≤ 64 → ScansBlock m old new prev at enters bytes ends → CatchesUp m old new prev at bytes
scan-catches m old new prev at enters bytes ends all few scans tree u entered of =
    let set : AreSet enters (length bytes) = subst (λ w. AreSet w (length bytes)) (sym all) (all-set (length bytes) few) in
    subst (λ es. m.field new tree (u ++ bytes) (entered ++ es)) (bits-all enters (length bytes) set) (scans tree u entered of).field

-- the engine has taken so many bytes of a chunk
abbrev pub CatchesTo : Meaning → (old new : List ℕ) → Prev → (at : ℕ) (bytes : List ℕ) (n : ℕ) → Type 0
CatchesTo m old new prev at bytes n =
    (tree : Tree) (u : List ℕ) (entered : List Bool) → IsFieldOf m old prev at tree u entered → m.field new tree (u ++ take n bytes) (entered ++ replicate n true)

module _ (m : Meaning) (old : List ℕ) (prev : Prev) (at : ℕ) (bytes : List ℕ) where
  pub catches-none : (n : ℕ) → n ≡ 0 → CatchesTo m old old prev at bytes n
  catches-none n none = subst (CatchesTo m old old prev at bytes) (sym none) (λ tree u entered of. subst (λ v. m.field old tree v (entered ++ [])) (sym (append-nil u)) (subst (m.field old tree u) (sym (append-nil entered)) of.field))

  -- nothing is live behind the last one of them
  pub catches-clear : (new : List ℕ) (living : ByteSet) (n : ℕ) → IsClearBehindOthers m living → length new ≡ m.width → AreZero new → 0 < n → n ≤ length bytes → slice_index bytes (n - 1) < 256 → has living (slice_index bytes (n - 1)) ≡ false →
      CatchesTo m old new prev at bytes n
  catches-clear new living n clears sized zeros some within small other tree u entered of =
      let last = n - 1 in
      let next : last + 1 ≡ n = omega arith in
      let count : length (entered ++ replicate n true) ≡ length (u ++ take last bytes) + 1 = omega (arith, of.count, length-append entered (replicate n true), length-replicate n true, length-block u bytes last (omega arith)) in
      subst (λ v. m.field new tree v (entered ++ replicate n true)) (block-more u bytes last (omega arith) ∙ ap (λ k. u ++ take k bytes) next)
      (clears new tree (u ++ take last bytes) (slice_index bytes last) (entered ++ replicate n true) of.runs count small other sized zeros)

  -- some bytes more
  pub catches-more : (mid new : List ℕ) (from end : ℕ) → from ≤ end → end ≤ length bytes →
      ((u : List ℕ) → prev ≡ prev_at u (length u) → CatchesUp m mid new (prev_at (u ++ take from bytes) (length u + from)) (at + from) (slice_range bytes from end)) → CatchesTo m old mid prev at bytes from → CatchesTo m old new prev at bytes end
  catches-more mid new from end order within takes so_far tree u entered of =
      let own = slice_range bytes from end in
      let reach : length (u ++ take from bytes) ≡ length u + from = length-block u bytes from (omega arith) in
      let here = takes u of.behind tree (u ++ take from bytes) (entered ++ replicate from true) (record {
        runs = of.runs;
        count = omega (arith, of.count, reach, length-append entered (replicate from true), length-replicate from true);
        offset = omega (arith, of.offset, reach);
        behind = ap (prev_at (u ++ take from bytes)) (sym reach);
        field = so_far tree u entered of;
      }) in
      let whole : from + (end - from) ≡ end = omega arith in
      let bytes_are : (u ++ take from bytes) ++ own ≡ u ++ take end bytes = append_assoc u (take from bytes) own ∙ ap (λ v. u ++ v) (sym (take-add from (end - from) bytes) ∙ ap (λ n. take n bytes) whole) in
      let size : from + length own ≡ end = omega (arith, range-length bytes from end order within) in
      let entries_are : (entered ++ replicate from true) ++ replicate (length own) true ≡ entered ++ replicate end true =
      append_assoc entered (replicate from true) (replicate (length own) true) ∙ ap (λ es. entered ++ es) (replicate-append-replicate from (length own) true ∙ ap (λ n. replicate n true) size) in
      subst (λ v. m.field new tree v (entered ++ replicate end true)) bytes_are (subst (m.field new tree ((u ++ take from bytes) ++ own)) entries_are here)

  -- all of them
  pub catches-all : (new : List ℕ) (n : ℕ) → n ≡ length bytes → CatchesTo m old new prev at bytes n → CatchesUp m old new prev at bytes
  catches-all new n all to tree u entered of =
      let last = subst (λ k. CatchesTo m old new prev at bytes k) all to tree u entered of in
      subst (λ v. m.field new tree (u ++ v) (entered ++ replicate (length bytes) true)) (take_all (length bytes) bytes (omega arith)) last

-- entries that are all true
replicate-true : (n q : ℕ) → q < n → slice_get (replicate n true) q ≡ Some true
replicate-true zero q low = absurd (omega arith)
replicate-true (suc n) zero low = refl
replicate-true (suc n) (suc q) low = replicate-true n q (omega arith)

append-true : (es : List Bool) (n q : ℕ) → ((i : ℕ) → i < length es → slice_get es i ≡ Some true) → q < length es + n → slice_get (es ++ replicate n true) q ≡ Some true
append-true [] n q all low = replicate-true n q (omega arith)
append-true (e ∷ es) n zero all low = all zero (omega arith)
append-true (e ∷ es) n (suc q) all low = append-true es n q (λ i below. all (suc i) (omega arith)) (omega arith)

pub entered-goes_on : (u bytes : List ℕ) (entered : List Bool) → AreEntered [] u entered → AreEntered [] (u ++ bytes) (entered ++ replicate (length bytes) true)
entered-goes_on u bytes entered are = record {
  count = omega (arith, are.count, length-append entered (replicate (length bytes) true), length-append u bytes, length-replicate (length bytes) true);
  each = λ q b at.
      let within = slice_get_within (u ++ bytes) q b at in
      ((λ set. (leaving-begins (take q (u ++ bytes)) (class_of b)).0 refl), (λ leaves. append-true entered (length bytes) q all (omega (arith, within, length-append u bytes, are.count))));
} where
  all : (i : ℕ) → i < length entered → slice_get entered i ≡ Some true
  all i low = let own = there u i (omega (arith, low, are.count)) in (are.each i own.0 own.1).1 ((leaving-begins (take i u) (class_of own.0)).0 refl)

-- a first piece that is kept of is still kept of behind the chunk
pub held-catches : (m : Meaning) (old new : List ℕ) (prev : Prev) (at : ℕ) (bytes : List ℕ) → CatchesUp m old new prev at bytes → (piece : Piece) (u : List ℕ) → m.is_for (piece_tree piece) → EndsBehind u prev at → IsHeld m [] piece old u → IsHeld m [] piece new (u ++ bytes)
held-catches m old new prev at bytes catches piece u runs stands held = record {
  entered = held.entered ++ replicate (length bytes) true;
  are = entered-goes_on u bytes held.entered held.are;
  field = catches (piece_tree piece) u held.entered (record { runs = runs; count = held.are.count; offset = stands.offset; behind = stands.behind; field = held.field });
}

-- the node of an engine
module _ {E : Type 0} (meaning : E → Meaning) (table : NodeTable E) (k literals size : ℕ) (own : Node) (region part : List ℕ) (prev : Prev) (at : ℕ) (bytes : List ℕ) (number : ℕ) (null : Option Mask) (e : E) (engines : List E)
    (sound : IsTableSound meaning table literals size) (sized : length region ≡ size) (there_own : slice_get table.nodes.items k ≡ Some own) (kind_is : own.kind ≡ Engine number null) (engines_are : engines ≡ table.engines.items) (at_e : slice_get engines number ≡ Some e)
    (wide : length part ≡ length (node_part region own)) (well : (meaning e).well part (at + length bytes)) (catches : CatchesUp (meaning e) (node_part region own) part prev at bytes) where
  order : own.start ≤ own.end
  order = sound.order k own there_own

  within : own.end ≤ length region
  within = omega (arith, sound.within k own there_own)

  range : length part ≡ own.end - own.start
  range = wide ∙ range-length region own.start own.end order within

  here : node_part (take own.start region ++ (part ++ drop (own.end - own.start) (drop own.start region))) own ≡ part
  here = written-here region part own.start own.end order within range

  at_own : slice_get table.engines.items number ≡ Some e
  at_own = ap (λ es. slice_get es number) (sym engines_are) ∙ at_e

  engine_carries : (literals : List (List LiteralByte)) (piece : Piece) (u : List ℕ) → RunsPiece meaning table.engines.items literals (Engine number null) [] piece → EndsBehind u prev at →
      HoldsPiece meaning table.engines.items (Engine number null) [] piece (node_part region own) u → HoldsPiece meaning table.engines.items (Engine number null) [] piece part (u ++ bytes)
  engine_carries literals piece u of stands held other at_other =
      let same : of.value ≡ e = one-value of.value e (slice_get table.engines.items number) of.there at_own in
      let runs : (meaning e).is_for (piece_tree piece) = subst (λ v. (meaning v).is_for (piece_tree piece)) same of.runs in
      subst (λ v. IsHeld (meaning v) [] piece part (u ++ bytes)) (one-value e other (slice_get table.engines.items number) at_own at_other)
      (held-catches (meaning e) (node_part region own) part prev at bytes catches piece u runs stands (held e at_own))

  own-caught : IsNodeCaughtUp meaning table k own region (take own.start region ++ (part ++ drop (own.end - own.start) (drop own.start region))) prev at bytes
  own-caught = record {
    well =
        subst (λ ps. IsWellPart meaning table.engines.items own.kind ps (at + length bytes)) (sym here)
        (subst (λ (kd : NodeKind). IsWellPart meaning table.engines.items kd part (at + length bytes)) (sym kind_is) (λ other at_other. subst (λ v. (meaning v).well part (at + length bytes)) (one-value e other (slice_get table.engines.items number) at_own at_other) well));
    carries = λ literals piece u runs stands held.
        subst (λ ps. HoldsPiece meaning table.engines.items own.kind [] piece ps (u ++ bytes)) (sym here)
        (subst (λ (kd : NodeKind). HoldsPiece meaning table.engines.items kd [] piece part (u ++ bytes)) (sym kind_is)
        (engine_carries literals piece u (subst (λ (kd : NodeKind). RunsPiece meaning table.engines.items literals kd [] piece) kind_is runs) stands (subst (λ (kd : NodeKind). HoldsPiece meaning table.engines.items kd [] piece (node_part region own) u) kind_is held)));
    parts_stay = λ j other apart at'. written-beside region part own.start own.end order within range other.start other.end (sound.order j other at') (omega (arith, sound.within j other at')) (beside-own meaning table k literals size own sound there_own j other apart at');
    outside = λ i out. written-outside region part own.start own.end order within range i out;
  }

  pub node-caught : (node : Node) → slice_get table.nodes.items k ≡ Some node → IsNodeCaughtUp meaning table k node region (take own.start region ++ (part ++ drop (own.end - own.start) (drop own.start region))) prev at bytes
  node-caught node at' = subst (λ (n : Node). IsNodeCaughtUp meaning table k n region (take own.start region ++ (part ++ drop (own.end - own.start) (drop own.start region))) prev at bytes) (one-value own node (slice_get table.nodes.items k) there_own at') own-caught

-- what is known of the engine that a node of a table names
pub engine-sound : {E : Type 0} (meaning : E → Meaning) (table : NodeTable E) (literals size k number : ℕ) (node : Node) (null : Option Mask) → IsTableSound meaning table literals size → slice_get table.nodes.items k ≡ Some node → node.kind ≡ Engine number null →
    IsEngineSound meaning table.engines.items number (node.end - node.start)
engine-sound meaning table literals size k number node null sound at kind_is = subst (λ (kd : NodeKind). IsKindSound meaning table.engines.items literals kd (node.end - node.start)) kind_is (sound.kinds k node at)

-- what is kept of it has its size, and may be so
pub engine-part : {E : Type 0} (meaning : E → Meaning) (table : NodeTable E) (literals k number : ℕ) (node : Node) (null : Option Mask) (e : E) (region : List ℕ) → IsTableSound meaning table literals (length region) → slice_get table.nodes.items k ≡ Some node → node.kind ≡ Engine number null → slice_get table.engines.items number ≡ Some e →
    length (node_part region node) ≡ (meaning e).width
engine-part meaning table literals k number node null e region sound at kind_is at_e =
    range-length region node.start node.end (sound.order k node at) (sound.within k node at) ∙ sym ((engine-sound meaning table literals (length region) k number node null sound at kind_is).each e at_e).0
