-- Where nodes are left behind all bytes so far.
use Rattle.std.proofs.Common.{◌≡◌, ◌⊎◌, ◌↔◌, ℕ, suc, ◌+◌, ◌-◌, ◌/◌, ◌^◌, ◌<◌, ◌≤◌, Bool, true, false, ◌&&◌, ◌||◌, List, [], ◌∷◌, ◌++◌, length, map, take, Option, Some, None, slice_get, nat_eq, bit_and, refl, sym, ap, subst, ◌∙◌, inl, inr, arith}
use Rattle.std.specs.Prelude.{slice_index}
use mir.Val.{bool_byte}
use Rattle.std.proofs.lemmas.Bool.{cases_eq}
use Rattle.std.proofs.lemmas.List.{append-nil}
use Rattle.hs_base.specs.declared.context.Mask.{Mask}
use Rattle.hs_base.specs.declared.context.Next.{Next}
use Rattle.hs_base.specs.declared.context.NextSet.{NextSet}
use Rattle.hs_base.specs.declared.context.Prev.{Prev}
use Rattle.hs_base.specs.Bits.{has_bit}
use Rattle.hs_base.specs.Chains.{Piece, lit, nfa, piece_tree, IsFitChain}
use Rattle.hs_base.specs.Contexts.{class_of, prev_at, then_bytes, then_ended}
use Rattle.hs_base.specs.ContextSets.{has_next}
use Rattle.hs_base.specs.Leaving.{LeavesAt, LeavesBehind, IsEmptyAt}
use Rattle.hs_base.specs.Lists.{Each}
use Rattle.hs_base.specs.LiteralEnds.{EndsAt, IsTaken}
use Rattle.hs_base.specs.LiteralEnds as taking
use Rattle.hs_base.specs.LiteralRows.{IsEnteredBack, TellsEntries}
use Rattle.hs_base.specs.Literals.{LiteralByte, literal_set}
use Rattle.hs_base.specs.Spans.{CatSpans, Spans}
use Rattle.hs_base.specs.Trees as tree
use Rattle.hs_base.specs.Trees.{Tree, Trees, trees_of}
use Rattle.hs_base.proofs.ChainStreamLemmas.{last-leaves, leaves-last, leaving-begins}
use Rattle.hs_base.proofs.ContextLemmas.{first_of_both, of_both, second_of_both}
use Rattle.hs_base.proofs.EntryLemmas.{leaves-listed}
use Rattle.hs_base.proofs.LiteralRowLemmas.{literal-spans_end, literals-leave, literals-leave_behind}
use Rattle.hs_block.proofs.LiteralBlockLemmas.{never-empty}
use Rattle.hs_engine.specs.Engines.{Meaning, TellsLeaves}
use Rattle.hs_nodes.proofs.NodeLemmas.{there}
use Rattle.hs_nodes.specs.Contexts.{IsNull}
use Rattle.hs_nodes.specs.Hits.{AreChunkHits, KeepsEntries}
use Rattle.hs_nodes.specs.LookBacks.{TellsPair}
use Rattle.hs_nodes.specs.Pieces.{IsHeldBy}
use Rattle.hs_nodes.specs.Walks.{StandsBehind, node_ends, node_part, parent_pieces}
use Rattle.hs_nodes.specs.declared.ends.ChunkEnds.{ChunkEnds}
use Rattle.hs_nodes.specs.declared.hits.ChunkHits.{ChunkHits}
use Rattle.hs_nodes.specs.declared.table.Node.{Node}
use Rattle.hs_nodes.specs.declared.table.LookBackPair.{LookBackPair}
use Rattle.hs_nodes.specs.declared.table.NodeKind.{NodeKind}
use Rattle.hs_nodes.specs.declared.table.NodeKind.TheVariants.{Engine, Literal, FirstLiteral, LookBack}
use Rattle.hs_nodes.specs.declared.table.NodeTable.{NodeTable}
use Rattle.hs_nodes.proofs.KindLemmas.{one-value, stands-held}
use Rattle.hs_nodes.proofs.PieceLemmas.{left-through}
use Rattle.hs_reports.specs.WordBits.{word_bit}
use Rattle.hs_reports.proofs.WordBitLemmas.{bit-asked}
use Rattle.hs_nodes.specs.Leaving.{LeavesEngine, LeavesFirst, LeavesLiteral, LeavesNodes, LeavesPiece, TellsEntered, TellsLeft, is_entered, is_left}

-- the first bit of a word

pub first-bit : (left : Bool) → word_bit (bool_byte left) 0 ≡ left
unfolding word_bit
first-bit true = refl
first-bit false = refl

pub asked-first : (word : ℕ) → nat_eq (bit_and word 1) 1 ≡ word_bit word 0
asked-first word = let same : word ≡ word / 2 ^ 0 = omega arith in ap (λ n. nat_eq (bit_and n 1) 1) same ∙ bit-asked word 0

pub entered-first : (ends : List ChunkEnds) (parent : Option ℕ) (p : ℕ) (own : ChunkEnds) (word : ℕ) → parent ≡ Some p → node_ends ends p ≡ own → slice_index own.before 0 ≡ word → nat_eq (bit_and word 1) 1 ≡ is_entered ends parent
entered-first ends parent p own word is own_is word_is =
    subst (λ (o : Option ℕ). nat_eq (bit_and word 1) 1 ≡ is_entered ends o) (sym is)
    (asked-first word ∙ ap (λ n. word_bit n 0) (sym word_is) ∙ ap (λ (e : ChunkEnds). is_left e) (sym own_is))

both-ways : {A B C : Type 0} → A ↔ B → B ↔ C → A ↔ C
both-ways f g = (λ a. g.0 (f.0 a), λ c. f.1 (g.1 c))

back : {A B : Type 0} → A ↔ B → B ↔ A
back f = (f.1, f.0)

-- an expression that is empty nowhere, or in the contexts of a mask
pub null-nowhere : (tree : Tree) (u : List ℕ) (next : Next) → IsNull None tree → (false ≡ true) ↔ IsEmptyAt tree u next
null-nowhere tree u next null = (λ set. absurd (cc), λ empty. absurd (null u next empty))

-- an engine
pub engine-leaves : (m : Meaning) (null : Option Mask) (part : List ℕ) (prev : Prev) (at : ℕ) (next : Next) (contexts : NextSet) (entered empty : Bool) → TellsLeaves m part prev at contexts →
    ((tree : Tree) (u : List ℕ) → IsNull null tree → prev ≡ prev_at u (length u) → (empty ≡ true) ↔ IsEmptyAt tree u next) → LeavesEngine m null part prev at next entered (has_next contexts next || (entered && empty))
engine-leaves m null part prev at next contexts entered empty tells empties pieces rest piece u fit runs null_is stands held enters =
    left-through pieces rest piece u next fit (has_next contexts next) entered empty
    (both-ways (tells (piece_tree piece) u held.entered runs held.are.count stands.offset stands.behind held.field next) (back (leaves-listed pieces piece u held.entered next held.are)))
    enters
    (λ set. empties (piece_tree piece) u null_is stands.behind)

-- a literal

taken-long : (xs : List LiteralByte) (bytes : List ℕ) → IsTaken xs bytes → length bytes ≡ length xs
taken-long [] [] taking.none = refl
taken-long [] (b ∷ bytes) is = elim is [ ]
taken-long (x ∷ xs) [] is = elim is [ ]
taken-long (x ∷ xs) (b ∷ bytes) (taking.next is rest) = ap (λ n. suc n) (taken-long xs bytes rest)

ends-within : (literal : List LiteralByte) (u : List ℕ) → EndsAt literal u (length u) → length literal ≤ length u
ends-within literal u ends = omega (arith, ends.at, taken-long literal ends.taken ends.is)

ends-spans : (literal : List LiteralByte) (u : List ℕ) (m : ℕ) → length literal ≡ suc m → Each (λ b. b < 256) u → suc m ≤ length u → EndsAt literal u (length u) ↔ Spans u false (piece_tree (lit literal)) (length u - suc m) (length u)
ends-spans literal u m size small wide =
    let i : ℕ = length u - suc m in
    let end : i + length literal ≡ length u = omega (arith, size, wide) in
    let law = literal-spans_end literal u false i (omega (arith, size)) small in (
      λ ends. subst (λ j. Spans u false (piece_tree (lit literal)) i j) end (law.1 (subst (λ j. EndsAt literal u j) (sym end) ends)),
      λ spans. subst (λ j. EndsAt literal u j) end (law.0 (subst (λ j. Spans u false (piece_tree (lit literal)) i j) (sym end) spans)),
    )

hit-tells : (hits : ChunkHits) (literal : List LiteralByte) (u : List ℕ) → AreChunkHits hits literal u [] → (hits.at_start ≡ true) ↔ EndsAt literal u (length u)
hit-tells hits literal u are =
    let here = are 0 (omega arith) in
    let same : u ++ [] ≡ u = append-nil u in
    let none : length u + 0 ≡ length u = omega arith in (
      λ set. subst (λ v. EndsAt literal v (length u)) same (subst (λ n. EndsAt literal (u ++ []) n) none (here.0 set)),
      λ ends. here.1 (subst (λ n. EndsAt literal (u ++ []) n) (sym none) (subst (λ v. EndsAt literal v (length u)) (sym same) ends)),
    )

never : (pieces : List Piece) (literal : List LiteralByte) (u : List ℕ) (next : Next) → 1 ≤ length literal → LeavesBehind pieces (lit literal) u next ⊎ (LeavesAt pieces u next × IsEmptyAt (piece_tree (lit literal)) u next) → LeavesBehind pieces (lit literal) u next
never pieces literal u next some (inl leaves) = leaves
never pieces literal u next some (inr both) = absurd (never-empty literal u next some both.1)

-- a literal is left with the pieces before it where it is left behind them
literal-alone : (left : Bool) (pieces rest : List Piece) (literal : List LiteralByte) (u : List ℕ) (next : Next) → IsFitChain (pieces ++ lit literal ∷ rest) → 1 ≤ length literal → (left ≡ true) ↔ LeavesBehind pieces (lit literal) u next →
    TellsLeft left (pieces ++ lit literal ∷ []) u next
literal-alone left pieces rest literal u next fit some behind = (
  λ set. last-leaves pieces rest (lit literal) u next fit (inl (behind.0 set)),
  λ leaves. behind.1 (never pieces literal u next some (leaves-last pieces rest (lit literal) u next fit leaves)),
)

pub literal-leaves : (len : ℕ) (part : List ℕ) (hits : ChunkHits) → 1 ≤ len → LeavesLiteral len part hits (hits.at_start && has_bit part (len - 1))
literal-leaves len part hits some pieces rest literal u next fit count small are held =
    let m : ℕ = len - 1 in
    let next_is : len ≡ suc m = omega (arith, some) in
    let size : length literal ≡ suc m = count ∙ next_is in
    let tells : TellsEntries (suc m) (has_bit part) u held.entered = subst (λ n. TellsEntries n (has_bit part) u held.entered) next_is held.field in
    let law = literals-leave literal m (has_bit part) u held.entered next size held.are.count tells in
    let listed = leaves-listed pieces (lit literal) u held.entered next held.are in
    let hit = hit-tells hits literal u are in
    literal-alone (hits.at_start && has_bit part m) pieces rest literal u next fit (omega (arith, count, some)) (
      λ set.
          let ends = hit.0 (first_of_both hits.at_start (has_bit part m) set) in
          let wide : suc m ≤ length u = omega (arith, ends-within literal u ends, size) in
          listed.1 (law.1 (second_of_both hits.at_start (has_bit part m) set, (ends-spans literal u m size small wide).0 ends)),
      λ leaves.
          let both = law.0 (listed.0 leaves) in
          let entry : IsEnteredBack (suc m) u held.entered m = (tells m).0 both.0 in
          let wide : suc m ≤ length u = omega (arith, entry.ends) in
          of_both hits.at_start (has_bit part m) (hit.1 ((ends-spans literal u m size small wide).1 both.1)) both.0,
    )

lit-wide : (w : List ℕ) (ended : Bool) (xs : List LiteralByte) (i j : ℕ) → CatSpans w ended (trees_of (map (λ x. tree.class (literal_set x)) xs)) i j → i + length xs ≡ j
lit-wide w ended [] i j span = omega (arith, span)
lit-wide w ended (x ∷ xs) i j (m, one, rest) =
    let e : m ≡ i + 1 = one.1 in
    let e' : m + length xs ≡ j = lit-wide w ended xs m j rest in
    omega arith

pub first-leaves : (len : ℕ) (hits : ChunkHits) → 1 ≤ len → LeavesFirst len hits hits.at_start
first-leaves len hits some rest literal u next fit count small are =
    let m : ℕ = len - 1 in
    let size : length literal ≡ suc m = omega (arith, count, some) in
    let long : 1 ≤ length literal = omega (arith, count, some) in
    let hit = hit-tells hits literal u are in
    literal-alone hits.at_start [] rest literal u next fit long (
      λ set.
          let ends = hit.0 set in
          let within = ends-within literal u ends in
          let (byte, at) = there u (length u - length literal) (omega (arith, within, long)) in
          let wide : suc m ≤ length u = omega (arith, within, size) in
          (literals-leave_behind [] literal u next long within).1 (
            record { byte = byte; there = at; entered = (leaving-begins (take (length u - length literal) u) (class_of byte)).0 refl },
            subst (λ n. Spans u false (piece_tree (lit literal)) (length u - n) (length u)) (sym size) ((ends-spans literal u m size small wide).0 ends),
          ),
      λ leaves.
          let wide : leaves.from + length literal ≡ length u = lit-wide (then_bytes u next) (then_ended next) literal leaves.from (length u) leaves.spans in
          let within : length literal ≤ length u = omega (arith, wide) in
          let law = literals-leave_behind [] literal u next long within in
          hit.1 ((ends-spans literal u m size small (omega (arith, within, size))).1 (subst (λ n. Spans u false (piece_tree (lit literal)) (length u - n) (length u)) size (law.0 leaves).1)),
    )

-- a node by its kind

module _ {E : Type 0} (meaning : E → Meaning) (engines : List E) (part : List ℕ) (prev : Prev) (at : ℕ) (past : List ℕ) (next : Next) (hits : List ChunkHits) (entered left : Bool) where
  pub engine-piece : (number : ℕ) (null : Option Mask) (e : E) → slice_get engines number ≡ Some e → LeavesEngine (meaning e) null part prev at next entered left → LeavesPiece meaning engines (Engine number null) part prev at past next hits entered left
  engine-piece number null e at_e leaves literals pieces rest piece u of fit stands past_is small are held enters =
      leaves pieces rest piece u fit (subst (λ v. (meaning v).is_for (piece_tree piece)) (one-value of.value e (slice_get engines number) of.there at_e) of.runs) of.null_is stands (held e at_e) enters

  pub literal-piece : (number len : ℕ) (own : ChunkHits) → slice_get hits number ≡ Some own → LeavesLiteral len part own left → LeavesPiece meaning engines (Literal number len) part prev at past next hits entered left
  literal-piece number len own at_own leaves literals pieces rest piece u of fit stands past_is small are held enters =
      subst (λ p. TellsLeft left (pieces ++ p ∷ []) u next) (sym of.is)
      (leaves pieces rest of.value u next (subst (λ p. IsFitChain (pieces ++ p ∷ rest)) of.is fit) of.count small (are number of.value own of.there at_own) (subst (λ p. IsHeldBy (KeepsEntries len part) pieces p u) of.is held))

  pub first-piece : (number len : ℕ) (own : ChunkHits) → slice_get hits number ≡ Some own → LeavesFirst len own left → LeavesPiece meaning engines (FirstLiteral number len) part prev at past next hits entered left
  first-piece number len own at_own leaves literals pieces rest piece u of fit stands past_is small are held enters =
      let is = of.1.is in
      subst (λ ps. TellsLeft left (ps ++ piece ∷ []) u next) (sym of.0)
      (subst (λ p. TellsLeft left (p ∷ []) u next) (sym is)
      (leaves rest of.1.value u next (subst (λ p. IsFitChain (p ∷ rest)) is (subst (λ ps. IsFitChain (ps ++ piece ∷ rest)) of.0 fit)) of.1.count small (are number of.1.value own of.1.there at_own)))

  pub look_back-piece : (pair : LookBackPair) (e : E) (own : ChunkHits) → slice_get engines pair.engine ≡ Some e → slice_get hits pair.literal ≡ Some own → TellsPair (meaning e) pair.null pair.len at past [] own 0 left → LeavesPiece meaning engines (LookBack pair) part prev at past next hits entered left
  look_back-piece pair e own at_e at_own tells literals pieces rest piece u of fit stands past_is small are held enters =
      let is = of.literal.is in
      let literal = of.literal.value in
      let fit' : IsFitChain (nfa of.tree ∷ lit literal ∷ rest) = subst (λ p. IsFitChain (nfa of.tree ∷ p ∷ rest)) is (subst (λ ps. IsFitChain (ps ++ piece ∷ rest)) of.before fit) in
      subst (λ ps. TellsLeft left (ps ++ piece ∷ []) u next) (sym of.before)
      (subst (λ p. TellsLeft left (nfa of.tree ∷ p ∷ []) u next) (sym is)
      (subst (λ v. TellsLeft left (nfa of.tree ∷ lit literal ∷ []) v next) (append-nil u)
      (tells of.tree literal u next (record {
        runs = subst (λ v. (meaning v).is_for (piece_tree (nfa of.tree))) (one-value of.engine.value e (slice_get engines pair.engine) of.engine.there at_e) of.engine.runs;
        null_is = of.engine.null_is;
        narrow = of.narrow;
        count = of.literal.count;
        rest = rest;
        fit = fit';
        stream = record { offset = stands.offset; past_is = past_is; small = subst (Each (λ b. b < 256)) (sym (append-nil u)) small };
        ends = are pair.literal literal own of.literal.there at_own;
      }))))

-- where the pieces before a node's own are left
stands-entered : (kind : NodeKind) (parent : Option ℕ) (pieces before : List Piece) (entered : Bool) (u : List ℕ) (next : Next) → StandsBehind kind parent pieces before → TellsLeft entered pieces u next → TellsEntered kind entered before u next
stands-entered (Engine number null) parent pieces before entered u next same left = subst (λ ps. TellsLeft entered ps u next) (sym same) left
stands-entered (Literal number len) parent pieces before entered u next same left = subst (λ ps. TellsLeft entered ps u next) (sym same) left
stands-entered (FirstLiteral number len) parent pieces before entered u next same left = subst (λ ps. TellsLeft entered ps u next) (sym same) left
stands-entered (LookBack pair) parent pieces before entered u next alone left = tt

-- what was answered of a node, by the list of engines and the entry that it was asked with
pub node-leaves : {E : Type 0} (meaning : E → Meaning) (engines : List E) (region : List ℕ) (prev : Prev) (at : ℕ) (past : List ℕ) (next : Next) (hits : List ChunkHits) (ends : List ChunkEnds) (own : List E) (entered left : Bool) (node node' : Node) →
    own ≡ engines → entered ≡ is_entered ends node.parent → node ≡ node' → LeavesPiece meaning own node.kind (node_part region node) prev at past next hits entered left → LeavesPiece meaning engines node'.kind (node_part region node') prev at past next hits (is_entered ends node'.parent) left
node-leaves meaning engines region prev at past next hits ends own entered left node node' own_is entered_is same leaves =
    subst (λ (n : Node). LeavesPiece meaning engines n.kind (node_part region n) prev at past next hits (is_entered ends n.parent) left) same
    (subst (λ b. LeavesPiece meaning engines node.kind (node_part region node) prev at past next hits b left) entered_is
    (subst (λ es. LeavesPiece meaning es node.kind (node_part region node) prev at past next hits entered left) own_is leaves))

pub loop-done : (k end count : ℕ) → end ≤ k → k ≤ end → end ≡ count → k ≡ count
loop-done k end count done low is = omega (arith, done, low, is)

pub none-either : (a b : Bool) → (a || b) ≡ false → (a ≡ false) × (b ≡ false)
none-either false false none = (refl, refl)
none-either false true none = absurd (let e : true ≡ false = none in cc)
none-either true b none = absurd (let e : true ≡ false = none in cc)

-- all nodes, one after the other

module _ {E : Type 0} (meaning : E → Meaning) (table : NodeTable E) (region : List ℕ) (prev : Prev) (at : ℕ) (past : List ℕ) (next : Next) (hits : List ChunkHits) where
  pub leaves-none : (ends : List ChunkEnds) → LeavesNodes meaning table region prev at past next hits ends 0
  leaves-none ends literals pieces u are stands past_is small hits_are held k below = absurd (omega arith)

  -- the pieces before those of a node
  entered-tells : (ends : List ChunkEnds) (count : ℕ) (pieces : ℕ → List Piece) (u : List ℕ) (parent : Option ℕ) → ((p : ℕ) → parent ≡ Some p → p < count) → ((k : ℕ) → k < count → TellsLeft (is_left (node_ends ends k)) (pieces k) u next) → TellsLeft (is_entered ends parent) (parent_pieces pieces parent) u next
  entered-tells ends count pieces u None below tells = leaving-begins u next
  entered-tells ends count pieces u (Some p) below tells = tells p (below p refl)

  pub leaves-more : (ends ends' : List ChunkEnds) (k : ℕ) (node : Node) (left : Bool) → slice_get table.nodes.items k ≡ Some node → ((p : ℕ) → node.parent ≡ Some p → p < k) → ((j : ℕ) → (j ≡ k → ⊥) → node_ends ends' j ≡ node_ends ends j) → is_left (node_ends ends' k) ≡ left →
      LeavesPiece meaning table.engines.items node.kind (node_part region node) prev at past next hits (is_entered ends node.parent) left → LeavesNodes meaning table region prev at past next hits ends k → LeavesNodes meaning table region prev at past next hits ends' (k + 1)
  leaves-more ends ends' k node left there_node earlier others own_is leaves before literals pieces u are stands past_is small hits_are held j below = elim (cases_eq j k) [
    | inr apart ↦ subst (λ (e : ChunkEnds). TellsLeft (is_left e) (pieces j) u next) (sym (others j apart)) (before literals pieces u are stands past_is small hits_are held j (omega (arith, below, apart)))
    | inl same ↦
        let of = are k node there_node in
        let enters = entered-tells ends k pieces u node.parent earlier (before literals pieces u are stands past_is small hits_are held) in
        let holds = stands-held meaning table.engines.items node.kind node.parent (pieces k) (parent_pieces pieces node.parent) of.before of.piece (node_part region node) u of.behind of.own (held k node there_node) in
        let now = leaves literals of.before of.rest of.piece u of.runs of.fit stands past_is small hits_are holds (stands-entered node.kind node.parent (parent_pieces pieces node.parent) of.before (is_entered ends node.parent) u next of.behind enters) in
        subst (λ n. TellsLeft (is_left (node_ends ends' n)) (pieces n) u next) (sym same)
        (subst (λ b. TellsLeft b (pieces k) u next) (sym own_is) (subst (λ ps. TellsLeft left ps u next) (sym of.own) now))
  ]
