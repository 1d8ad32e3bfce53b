-- One node of a table over a chunk: what it changes.
use Rattle.std.proofs.Common.{◌≡◌, ◌⊎◌, ℕ, zero, suc, ◌+◌, ◌-◌, ◌<◌, ◌≤◌, Bool, true, false, List, [], ◌∷◌, ◌++◌, length, take, drop, slice_get, slice_set, Some, refl, sym, ap, subst, ◌∙◌, inl, inr, arith}
use Rattle.std.proofs.lemmas.Bool.{cases_eq, cases_lt}
use Rattle.std.proofs.lemmas.List.{get_or-set_same, get_or-set_other}
use Rattle.std.proofs.lemmas.Option.{slice_get_within}
use Rattle.hs_base.specs.declared.context.Prev.{Prev}
use Rattle.hs_engine.specs.Engines.{Meaning}
use Rattle.hs_nodes.specs.declared.ends.ChunkEnds.{ChunkEnds}
use Rattle.hs_nodes.specs.declared.hits.ChunkHits.{ChunkHits}
use Rattle.hs_nodes.specs.declared.table.Node.{Node}
use Rattle.hs_nodes.specs.declared.table.NodeTable.{NodeTable}
use Rattle.hs_nodes.specs.Left.{nowhere}
use Rattle.hs_bits.specs.Marks.{is_marked}
use Rattle.hs_nodes.specs.Nodes.{IsWellPart, TakesPiece}
use Rattle.hs_nodes.specs.Walks.{AreMoreMarks, IsNodeRun, IsTableSound, node_ends, entering_ends, node_part}
use Rattle.hs_nodes.proofs.KindLemmas.{one-value}
use Rattle.hs_nodes.proofs.RangeLemmas.{range-length, written-beside, written-here, written-outside}

-- another node's range lies beside
pub beside-own : {E : Type 0} (meaning : E → Meaning) (table : NodeTable E) (k literals size : ℕ) (own : Node) → IsTableSound meaning table literals size → slice_get table.nodes.items k ≡ Some own → (j : ℕ) (other : Node) → (j ≡ k → ⊥) → slice_get table.nodes.items j ≡ Some other → (other.end ≤ own.start) ⊎ (own.end ≤ other.start)
beside-own meaning table k literals size own sound there j other apart at' = elim (cases_lt j k) [
  | inl low ↦ inl (sound.apart j k other own low at' there)
  | inr high ↦ inr (sound.apart k j own other (let more : (j ≡ k → ⊥) → k < j = λ ne. elim (cases_eq j k) [ inl same ↦ absurd (ne same) | inr ne' ↦ omega arith ] in more apart) there at')
]

module _ {E : Type 0} (meaning : E → Meaning) (table : NodeTable E) (k literals size : ℕ) (own : Node) (region part : List ℕ) (prev : Prev) (at : ℕ) (past bytes : List ℕ) (hits : List ChunkHits) (all enters result : ChunkEnds) (ends : List ChunkEnds) (engines : List E)
    (sound : IsTableSound meaning table literals size) (sized : length region ≡ size) (there : slice_get table.nodes.items k ≡ Some own) (wide : length part ≡ length (node_part region own)) (counts : length ends ≡ length table.nodes.items)
    (enters_is : enters ≡ entering_ends own.parent all ends) (engines_are : engines ≡ table.engines.items) (well : IsWellPart meaning engines own.kind part (at + length bytes)) (takes : TakesPiece meaning engines own.kind (node_part region own) part prev at past bytes hits enters result) where
  order : own.start ≤ own.end
  order = sound.order k own there

  within : own.end ≤ length region
  within = omega (arith, sound.within k own there)

  range : length part ≡ own.end - own.start
  range = wide ∙ range-length region own.start own.end order within

  abbrev now : List ℕ
  now = take own.start region ++ (part ++ drop (own.end - own.start) (drop own.start region))

  here : node_part (take own.start region ++ (part ++ drop (own.end - own.start) (drop own.start region))) own ≡ part
  here = written-here region part own.start own.end order within range

  own-run : IsNodeRun meaning table k own region (take own.start region ++ (part ++ drop (own.end - own.start) (drop own.start region))) prev at past bytes hits all ends (slice_set ends k result)
  own-run = record {
    well = subst (λ ps. IsWellPart meaning table.engines.items own.kind ps (at + length bytes)) (sym here) (subst (λ es. IsWellPart meaning es own.kind part (at + length bytes)) engines_are well);
    takes =
        subst (λ ps. TakesPiece meaning table.engines.items own.kind (node_part region own) ps prev at past bytes hits (entering_ends own.parent all ends) (node_ends (slice_set ends k result) k)) (sym here)
        (subst (λ (e : ChunkEnds). TakesPiece meaning table.engines.items own.kind (node_part region own) part prev at past bytes hits (entering_ends own.parent all ends) e) (sym (get_or-set_same ends k result nowhere (omega (arith, counts, slice_get_within table.nodes.items k own there))))
        (subst (λ (e : ChunkEnds). TakesPiece meaning table.engines.items own.kind (node_part region own) part prev at past bytes hits e result) enters_is (subst (λ es. TakesPiece meaning es own.kind (node_part region own) part prev at past bytes hits enters result) engines_are takes)));
    ends_stay = λ j apart. get_or-set_other ends k j result nowhere apart;
    parts_stay = λ j other apart at'. written-beside region part own.start own.end order within range other.start other.end (sound.order j other at') (omega (arith, sound.within j other at')) (beside-own meaning table k literals size own sound there j other apart at');
    outside = λ i out. written-outside region part own.start own.end order within range i out;
  }

  pub node-run : (node : Node) → slice_get table.nodes.items k ≡ Some node → IsNodeRun meaning table k node region (take own.start region ++ (part ++ drop (own.end - own.start) (drop own.start region))) prev at past bytes hits all ends (slice_set ends k result)
  node-run node at' = subst (λ (n : Node). IsNodeRun meaning table k n region (take own.start region ++ (part ++ drop (own.end - own.start) (drop own.start region))) prev at past bytes hits all ends (slice_set ends k result)) (one-value own node (slice_get table.nodes.items k) there at') own-run

-- one more mark
pub marks-more : (count : ℕ) (first old new : List ℕ) (n : ℕ) → AreMoreMarks count first old → length new ≡ length old → n < count → is_marked new n ≡ true → ((k : ℕ) → (k ≡ n → ⊥) → is_marked new k ≡ is_marked old k) → AreMoreMarks count first new
marks-more count first old new n more len below put others = record {
  room = len ∙ more.room;
  kept = λ k set. elim (cases_eq k n) [ inl same ↦ ap (λ i. is_marked new i) same ∙ put | inr apart ↦ others k apart ∙ more.kept k set ];
  below = λ k set. elim (cases_eq k n) [ inl same ↦ omega arith | inr apart ↦ more.below k (sym (others k apart) ∙ set) ];
}

pub marks-none : (count : ℕ) (marks : List ℕ) → ((k : ℕ) → is_marked marks k ≡ true → k < count) → AreMoreMarks count marks marks
marks-none count marks below = record { room = refl; kept = λ k set. set; below = below }

-- a mark that stays
pub mark-stays : (old new : List ℕ) (n k : ℕ) → is_marked new n ≡ true → ((j : ℕ) → (j ≡ n → ⊥) → is_marked new j ≡ is_marked old j) → is_marked old k ≡ true → is_marked new k ≡ true
mark-stays old new n k put others set = elim (cases_eq k n) [ inl same ↦ ap (λ i. is_marked new i) same ∙ put | inr apart ↦ others k apart ∙ set ]

-- what wasn't marked before
pub unmarked-before : (old new : List ℕ) (k : ℕ) → ((j : ℕ) → is_marked old j ≡ true → is_marked new j ≡ true) → is_marked new k ≡ false → is_marked old k ≡ false
unmarked-before old new k kept none = by (is_marked old k) refl where
  by : (b : Bool) → is_marked old k ≡ b → is_marked old k ≡ false
  by true e = absurd (let both : true ≡ false = sym (kept k e) ∙ none in cc)
  by false e = e

-- the member of a number
pub there : {A : Type 0} (xs : List A) (k : ℕ) → k < length xs → (x : A) × (slice_get xs k ≡ Some x)
there [] k below = absurd (omega arith)
there (x ∷ xs) zero below = (x, refl)
there (x ∷ xs) (suc k) below = there xs k (omega arith)
