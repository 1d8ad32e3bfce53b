-- Nodes that name the same texts by other numbers.
use Rattle.std.proofs.Common.{◌≡◌, ℕ, ◌<◌, List, Option, Some, slice_get, refl, sym, ap, subst, ◌∙◌, arith}
use Rattle.std.proofs.lemmas.Option.{same_Some, slice_get_within}
use Rattle.hs_base.specs.Chains.{Piece}
use Rattle.hs_base.specs.declared.context.Mask.{Mask}
use Rattle.hs_base.specs.Literals.{LiteralByte}
use Rattle.hs_engine.specs.Engines.{Meaning}
use Rattle.hs_nodes.specs.Graphs.{keeps_field}
use Rattle.hs_nodes.specs.Nodes.{IsKindSound, IsLiteralOf, RunsPiece}
use Rattle.hs_nodes.specs.Openings.{IsOpeningKind, named_literal}
use Rattle.hs_nodes.specs.Waking.{waking_literal}
use Rattle.hs_nodes.specs.Walks.{StandsBehind}
use Rattle.hs_nodes.specs.declared.table.Node.{Node}
use Rattle.hs_nodes.specs.declared.table.NodeKind.{NodeKind}
use Rattle.hs_nodes.specs.declared.table.NodeKind.TheVariants.{Engine, Literal, FirstLiteral, LookBack}
use Rattle.hs_compile.specs.Arranging.{AreRenamed, IsSameText, with_literal}
use Rattle.hs_compile.proofs.GraphListLemmas.{get-read}

module _ {E : Type 0} (meaning : E → Meaning) (engines : List E) where
  -- what a kind names is there
  pub kind-names : (literals : ℕ) (kind : NodeKind) (size number : ℕ) → IsKindSound meaning engines literals kind size → named_literal kind ≡ Some number → number < literals
  kind-names literals (Engine own null) size number sound names = absurd (cc)
  kind-names literals (Literal own len) size number (within, some, short, wide) names = subst (λ n. n < literals) (same_Some own number names) within
  kind-names literals (FirstLiteral own len) size number (within, some, short) names = subst (λ n. n < literals) (same_Some own number names) within
  kind-names literals (LookBack pair) size number (window, within, some, short) names = subst (λ n. n < literals) (same_Some pair.literal number names) within

  pub sound-as : (olds news : ℕ) (kind : NodeKind) (new size : ℕ) → ((old : ℕ) → named_literal kind ≡ Some old → new < news) → IsKindSound meaning engines olds kind size → IsKindSound meaning engines news (with_literal kind new) size
  sound-as olds news (Engine own null) new size within sound = sound
  sound-as olds news (Literal own len) new size within (low, some, short, wide) = (within own refl, some, short, wide)
  sound-as olds news (FirstLiteral own len) new size within (low, some, short) = (within own refl, some, short)
  sound-as olds news (LookBack pair) new size within (window, low, some, short) = (record { there = window.there; each = window.each; edges = window.edges }, within pair.literal refl, some, short)

  literal-of : (olds news : List (List LiteralByte)) (old new len : ℕ) (piece : Piece) → IsSameText olds news old new → IsLiteralOf olds old len piece → IsLiteralOf news new len piece
  literal-of olds news old new len piece same own = record { value = own.value; there = same.is ∙ (sym same.was ∙ own.there); is = own.is; count = own.count }

  pub runs-as : (olds news : List (List LiteralByte)) (kind : NodeKind) (new : ℕ) (before : List Piece) (piece : Piece) → ((old : ℕ) → named_literal kind ≡ Some old → IsSameText olds news old new) → RunsPiece meaning engines olds kind before piece → RunsPiece meaning engines news (with_literal kind new) before piece
  runs-as olds news (Engine own null) new before piece same runs = runs
  runs-as olds news (Literal own len) new before piece same runs = literal-of olds news own new len piece (same own refl) runs
  runs-as olds news (FirstLiteral own len) new before piece same runs = (runs.0, literal-of olds news own new len piece (same own refl) runs.1)
  runs-as olds news (LookBack pair) new before piece same runs = record {
    tree = runs.tree;
    before = runs.before;
    engine = runs.engine;
    narrow = runs.narrow;
    literal = literal-of olds news pair.literal new pair.len piece (same pair.literal refl) runs.literal;
  }

pub stands-as : (kind : NodeKind) (new : ℕ) (parent : Option ℕ) (pieces before : List Piece) → StandsBehind kind parent pieces before → StandsBehind (with_literal kind new) parent pieces before
stands-as (Engine own null) new parent pieces before stands = stands
stands-as (Literal own len) new parent pieces before stands = stands
stands-as (FirstLiteral own len) new parent pieces before stands = stands
stands-as (LookBack pair) new parent pieces before stands = stands

pub keeps-as : (kind : NodeKind) (new : ℕ) → keeps_field (with_literal kind new) ≡ keeps_field kind
keeps-as (Engine own null) new = refl
keeps-as (Literal own len) new = refl
keeps-as (FirstLiteral own len) new = refl
keeps-as (LookBack pair) new = refl

-- what it names
pub named-as : (kind : NodeKind) (new number : ℕ) → named_literal (with_literal kind new) ≡ Some number → (old : ℕ) × (named_literal kind ≡ Some old) × (new ≡ number)
named-as (Engine own null) new number names = absurd (cc)
named-as (Literal own len) new number names = (own, refl, same_Some new number names)
named-as (FirstLiteral own len) new number names = (own, refl, same_Some new number names)
named-as (LookBack pair) new number names = (pair.literal, refl, same_Some new number names)

-- what wakes it is what it names
pub waking-named : (kind : NodeKind) (number : ℕ) → waking_literal kind ≡ Some number → named_literal kind ≡ Some number
waking-named (Engine own null) number wakes = absurd (cc)
waking-named (Literal own len) number wakes = absurd (cc)
waking-named (FirstLiteral own len) number wakes = wakes
waking-named (LookBack pair) number wakes = wakes

pub engine-as : (kind : NodeKind) (new number : ℕ) (null : Option Mask) → with_literal kind new ≡ Engine number null → kind ≡ Engine number null
engine-as (Engine own other) new number null is = is
engine-as (Literal own len) new number null is = absurd (cc)
engine-as (FirstLiteral own len) new number null is = absurd (cc)
engine-as (LookBack pair) new number null is = absurd (cc)

pub literal-as : (kind : NodeKind) (new number len : ℕ) → with_literal kind new ≡ Literal number len → (old : ℕ) × (kind ≡ Literal old len)
literal-as (Engine own null) new number len is = absurd (cc)
literal-as (Literal own other) new number len is = (own, let e : other ≡ len = cc in ap (λ n. Literal own n) e)
literal-as (FirstLiteral own other) new number len is = absurd (cc)
literal-as (LookBack pair) new number len is = absurd (cc)

pub opening-as : (kind : NodeKind) (new : ℕ) → IsOpeningKind kind → IsOpeningKind (with_literal kind new)
opening-as (Engine own null) new opens = opens
opening-as (Literal own len) new opens = opens
opening-as (FirstLiteral own len) new opens = opens
opening-as (LookBack pair) new opens = record { matches = opens.matches; empty = opens.empty }

-- each node has its own one on the other side
module _ {olds news : List (List LiteralByte)} {nodes owns : List Node} (are : AreRenamed olds news nodes owns) where
  pub old-node : (k : ℕ) (own : Node) → slice_get owns k ≡ Some own → (node : Node) × (slice_get nodes k ≡ Some node)
  old-node k own at = get-read nodes k (omega (arith, slice_get_within owns k own at, are.count))

  pub new-node : (k : ℕ) (node : Node) → slice_get nodes k ≡ Some node → (own : Node) × (slice_get owns k ≡ Some own)
  new-node k node at = get-read owns k (omega (arith, slice_get_within nodes k node at, are.count))
