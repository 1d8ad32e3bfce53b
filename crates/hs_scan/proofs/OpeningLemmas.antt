-- What is looked for where the chains are over that begin where the stream does.
use Rattle.std.proofs.Common.{◌≡◌, ℕ, zero, suc, ◌-◌, ◌<◌, ◌≤◌, Bool, true, false, List, [], ◌∷◌, length, take, slice_get, Option, Some, None, refl, sym, ap, subst, arith}
use Rattle.std.specs.Prelude.{slice_index_or}
use Rattle.hs_base.specs.Literals.{LiteralByte}
use Rattle.hs_base.proofs.BitLemmas.{zero-bits}
use Rattle.hs_engine.specs.Engines.{Meaning}
use Rattle.hs_nodes.specs.declared.hits.ChunkHits.{ChunkHits}
use Rattle.hs_nodes.specs.declared.openings.Openings.{Openings}
use Rattle.hs_nodes.specs.declared.table.NodeKind.{NodeKind}
use Rattle.hs_nodes.specs.declared.table.NodeKind.TheVariants.{Engine, Literal, FirstLiteral, LookBack}
use Rattle.hs_nodes.specs.declared.table.NodeTable.{NodeTable}
use Rattle.hs_nodes.specs.Nodes.{IsKindSound}
use Rattle.hs_nodes.specs.Openings.{AreOpenings, AreOthersSound, AreOver, IsOpeningKind, MayBePassed, MayNodesBePassed, is_passed, named_literal}
use Rattle.hs_nodes.specs.Resting.{AreNodesResting, IsResting}
use Rattle.hs_nodes.specs.Walks.{IsTableSound, node_part}
use Rattle.hs_scan.specs.Hits.{HasNowhere, no_hits, sought}
use Rattle.hs_scan.specs.Scans.{AreHitsBehind}

-- members of the first so many
taken-get : {A : Type 0} (n : ℕ) (xs : List A) (k : ℕ) (x : A) → slice_get (take n xs) k ≡ Some x → (k < n) × (slice_get xs k ≡ Some x)
taken-get zero [] k x at = absurd (cc)
taken-get zero (y ∷ xs) k x at = absurd (cc)
taken-get (suc n) [] k x at = absurd (cc)
taken-get (suc n) (y ∷ xs) zero x at = (omega arith, at)
taken-get (suc n) (y ∷ xs) (suc k) x at = let more = taken-get n xs k x at in (omega (arith, more.0), more.1)

get-taken : {A : Type 0} (n : ℕ) (xs : List A) (k : ℕ) (x : A) → k < n → slice_get xs k ≡ Some x → slice_get (take n xs) k ≡ Some x
get-taken zero xs k x low at = absurd (omega arith)
get-taken (suc n) [] k x low at = absurd (cc)
get-taken (suc n) (y ∷ xs) zero x low at = at
get-taken (suc n) (y ∷ xs) (suc k) x low at = get-taken n xs k x (omega arith) at

nowhere-taken : (n : ℕ) (hits : List ChunkHits) (k : ℕ) → slice_index_or hits k no_hits ≡ no_hits → slice_index_or (take n hits) k no_hits ≡ no_hits
nowhere-taken zero [] k none = refl
nowhere-taken zero (h ∷ hits) k none = refl
nowhere-taken (suc n) [] k none = refl
nowhere-taken (suc n) (h ∷ hits) zero none = none
nowhere-taken (suc n) (h ∷ hits) (suc k) none = nowhere-taken n hits k none

length-taken : {A : Type 0} (n : ℕ) (xs : List A) → n ≤ length xs → length (take n xs) ≡ n
length-taken zero [] few = refl
length-taken zero (x ∷ xs) few = refl
length-taken (suc n) [] few = absurd (omega arith)
length-taken (suc n) (x ∷ xs) few = ap suc (length-taken n xs (omega arith))

-- what is looked for
pub sought-get : {A : Type 0} (over : Bool) (openings : Openings) (xs : List A) (k : ℕ) (x : A) → slice_get (sought over openings xs) k ≡ Some x → slice_get xs k ≡ Some x
sought-get true openings xs k x at = (taken-get openings.others xs k x at).1
sought-get false openings xs k x at = at

pub sought-nowhere : (over : Bool) (openings : Openings) (hits : List ChunkHits) (k : ℕ) → HasNowhere hits k → HasNowhere (sought over openings hits) k
sought-nowhere true openings hits k none = nowhere-taken openings.others hits k none
sought-nowhere false openings hits k none = none

pub hits-sought : (over : Bool) (openings : Openings) (literals : List (List LiteralByte)) (at : ℕ) (past : List ℕ) (hits : List ChunkHits) (bytes : List ℕ) → AreHitsBehind (sought over openings literals) at past hits bytes → AreHitsBehind literals at past (sought over openings hits) bytes
hits-sought true openings literals at past hits bytes are u here past_is number literal own there own_there =
    let both = taken-get openings.others hits number own own_there in
    are u here past_is number literal own (get-taken openings.others literals number literal both.0 there) both.1
hits-sought false openings literals at past hits bytes are u here past_is number literal own there own_there = are u here past_is number literal own there own_there

module _ {E : Type 0} (meaning : E → Meaning) where
  kind-named : (engines : List E) (kind : NodeKind) (literals few size : ℕ) → ((number : ℕ) → named_literal kind ≡ Some number → number < few) → IsKindSound meaning engines literals kind size → IsKindSound meaning engines few kind size
  kind-named engines (Engine number null) literals few size named sound = sound
  kind-named engines (Literal number len) literals few size named sound = (named number refl, sound.1, sound.2, sound.3)
  kind-named engines (FirstLiteral number len) literals few size named sound = (named number refl, sound.1, sound.2)
  kind-named engines (LookBack pair) literals few size named sound = (sound.0, named pair.literal refl, sound.2, sound.3)

  resting-passed : (engines : List E) (kind : NodeKind) (parent : Option ℕ) (part : List ℕ) (at : ℕ) → (parent ≡ None → IsOpeningKind kind) → 48 < at → IsResting meaning engines kind part → MayBePassed meaning engines kind parent part at
  resting-passed engines (Engine number null) parent part at first far rests = (first, λ e there. (rests e there).rests)
  resting-passed engines (Literal number len) parent part at first far rests = (first, zero-bits part rests)
  resting-passed engines (FirstLiteral number len) parent part at first far rests = first
  resting-passed engines (LookBack pair) parent part at first far rests = λ no_parent. (first no_parent, far)

  module _ (table : NodeTable E) (literals size : ℕ) (sound : IsTableSound meaning table literals size) (openings : Openings) (are : AreOpenings table.nodes.items literals openings) where
    pub others-sound : (over : Bool) (hits : List ChunkHits) → length hits ≡ literals → AreOthersSound meaning table (is_passed over openings) (length (sought over openings hits))
    others-sound true hits count k node there other =
        subst (λ n. IsKindSound meaning table.engines.items n node.kind (node.end - node.start)) (sym (length-taken openings.others hits (omega (arith, are.few, count))))
        (kind-named table.engines.items node.kind literals openings.others (node.end - node.start) (λ number is. are.named k number node there other is) (sound.kinds k node there))
    others-sound false hits count k node there other = subst (λ n. IsKindSound meaning table.engines.items n node.kind (node.end - node.start)) (sym count) (sound.kinds k node there)

    pub may-pass : (over : Bool) (marks region : List ℕ) (at : ℕ) → (over ≡ true → AreOver openings at marks) → AreNodesResting meaning table marks region → MayNodesBePassed meaning table (is_passed over openings) region at
    may-pass true marks region at told rests =
        let ends = told refl in record {
          each = λ k node there set. resting-passed table.engines.items node.kind node.parent (node_part region node) at (are.first k node there set) ends.far (rests k node there (ends.unmarked k set));
          behind = λ k p node there set of. are.behind k p node there set of;
        }
    may-pass false marks region at told rests = record { each = λ k node there set. absurd (cc); behind = λ k p node there set of. absurd (cc) }
