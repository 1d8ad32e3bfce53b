-- The literals of a graph by other numbers, those of chains that begin where the stream does behind all others.
use Rattle.std.specs.Prelude.{◌≡◌, ℕ, ◌<◌, ◌≤◌, ◌^◌, Bool, true, false, List, length, Option, Some, None, slice_get}
use Rattle.hs_base.specs.Literals.{LiteralByte}
use Rattle.hs_bits.specs.Marks.{is_marked, mark_room}
use Rattle.hs_nodes.specs.Openings.{IsOpeningKind, named_literal}
use Rattle.hs_nodes.specs.declared.table.Node.{Node}
use Rattle.hs_nodes.specs.declared.table.NodeKind.{NodeKind}
use Rattle.hs_nodes.specs.declared.table.NodeKind.TheVariants.{Engine, Literal, FirstLiteral, LookBack}

-- The new number has among the new literals the very text that the old one had among the old ones.
pub record IsSameText (olds news : List (List LiteralByte)) (old new : ℕ) : Type 0 where
  pub text : List LiteralByte
  pub was : slice_get olds old ≡ Some text
  pub is : slice_get news new ≡ Some text

-- the kind with another number for its literal, if it names one
abbrev pub with_literal : NodeKind → ℕ → NodeKind
with_literal (Engine number null) new = Engine number null
with_literal (Literal number len) new = Literal new len
with_literal (FirstLiteral number len) new = FirstLiteral new len
with_literal (LookBack pair) new = LookBack (record {
  engine = pair.engine;
  null = pair.null;
  behind = pair.behind;
  last = pair.last;
  literal = new;
  len = pair.len;
})

-- The kind is the same, but that it names its literal by the new number of the same text.
pub record IsRenamed (olds news : List (List LiteralByte)) (kind own : NodeKind) : Type 0 where
  pub new : ℕ
  pub is : own ≡ with_literal kind new
  pub same : (old : ℕ) → named_literal kind ≡ Some old → IsSameText olds news old new

-- So is the node.
pub record IsRenamedNode (olds news : List (List LiteralByte)) (node own : Node) : Type 0 where
  pub parent : own.parent ≡ node.parent
  pub start : own.start ≡ node.start
  pub end : own.end ≡ node.end
  pub kind : IsRenamed olds news node.kind own.kind

-- And so is each of the nodes.
pub record AreRenamed (olds news : List (List LiteralByte)) (nodes owns : List Node) : Type 0 where
  pub count : length owns ≡ length nodes
  pub each : (k : ℕ) (node own : Node) → slice_get nodes k ≡ Some node → slice_get owns k ≡ Some own →
      IsRenamedNode olds news node own

-- Members keep their numbers where more come behind.
pub record IsMore {A : Type 0} (before after : List A) : Type 0 where
  pub kept : (k : ℕ) (x : A) → slice_get before k ≡ Some x → slice_get after k ≡ Some x
  pub longer : length before ≤ length after

-- Each of the literals is an old one.
abbrev pub AreOldTexts : (olds news : List (List LiteralByte)) → Type 0
AreOldTexts olds news =
    (new : ℕ) (text : List LiteralByte) →
    slice_get news new ≡ Some text →
    (old : ℕ) × (slice_get olds old ≡ Some text)

-- The numbers that old literals were given are those of the same texts.
pub record AreGiven (olds news : List (List LiteralByte)) (numbers : List (Option ℕ)) : Type 0 where
  pub count : length numbers ≡ length olds
  pub given : (old new : ℕ) → slice_get numbers old ≡ Some (Some new) → IsSameText olds news old new
  pub texts : AreOldTexts olds news

-- Numbers were given, so that literals came behind those before, and the kind has its new one.
pub record GivesKind (olds before after : List (List LiteralByte)) (numbers : List (Option ℕ)) (kind own : NodeKind) :
    Type 0 where
  pub given : AreGiven olds after numbers
  pub more : IsMore before after
  pub renamed : IsRenamed olds after kind own

-- So the number has its new one.
pub record GivesNumber (olds before after : List (List LiteralByte)) (numbers : List (Option ℕ)) (old new : ℕ) :
    Type 0 where
  pub given : AreGiven olds after numbers
  pub more : IsMore before after
  pub same : IsSameText olds after old new

-- the literals that nodes of that mark name are among so many
abbrev pub AreNamed : (marks : List ℕ) (wanted : Bool) (literals : ℕ) → List Node → Type 0
AreNamed marks wanted literals nodes =
    (k old : ℕ) (node : Node) →
    slice_get nodes k ≡ Some node →
    is_marked marks k ≡ wanted →
    named_literal node.kind ≡ Some old →
    old < literals

-- Of the first so many nodes those with that mark have new numbers, and all others are as they were.
pub record AreTaken (olds news : List (List LiteralByte)) (marks : List ℕ) (wanted : Bool) (n : ℕ)
    (nodes owns : List Node) : Type 0 where
  pub count : length owns ≡ length nodes
  pub taken : (k : ℕ) (node own : Node) → k < n → is_marked marks k ≡ wanted → slice_get nodes k ≡ Some node →
      slice_get owns k ≡ Some own → IsRenamedNode olds news node own
  pub passed : (k : ℕ) → (is_marked marks k ≡ wanted → ⊥) → slice_get owns k ≡ slice_get nodes k
  pub ahead : (k : ℕ) → n ≤ k → slice_get owns k ≡ slice_get nodes k

-- And numbers were given, so that literals came behind those before.
pub record GivesNodes (olds before after : List (List LiteralByte)) (numbers : List (Option ℕ)) (marks : List ℕ)
    (wanted : Bool) (n : ℕ) (nodes owns : List Node) : Type 0 where
  pub given : AreGiven olds after numbers
  pub more : IsMore before after
  pub nodes_are : AreTaken olds after marks wanted n nodes owns

-- The node begins where the stream does, or is behind one that is marked.
pub record IsOpening (marks : List ℕ) (node : Node) : Type 0 where
  pub first : node.parent ≡ None → IsOpeningKind node.kind
  pub behind : (p : ℕ) → node.parent ≡ Some p → is_marked marks p ≡ true

-- Those of the first so many nodes that are marked are such.
pub record AreMarkedTo (nodes : List Node) (n : ℕ) (marks : List ℕ) : Type 0 where
  pub room : length nodes ≤ mark_room marks
  pub each : (k : ℕ) (node : Node) → k < n → slice_get nodes k ≡ Some node → is_marked marks k ≡ true →
      IsOpening marks node

-- parents come first
abbrev pub AreParentsFirst : List Node → Type 0
AreParentsFirst nodes =
    (k p : ℕ) (node : Node) →
    slice_get nodes k ≡ Some node →
    node.parent ≡ Some p →
    p < k

-- Nodes without that mark name literals below `others`.
abbrev pub NameOthers : (marks : List ℕ) (others : ℕ) → List Node → Type 0
NameOthers marks others nodes =
    (k number : ℕ) (node : Node) →
    slice_get nodes k ≡ Some node →
    is_marked marks k ≡ false →
    named_literal node.kind ≡ Some number →
    number < others

-- All nodes name the same texts by other numbers, those without a mark by such below `others`.
pub record AreRenumbered (olds news : List (List LiteralByte)) (marks : List ℕ) (others : ℕ) (nodes owns : List Node) :
    Type 0 where
  pub renamed : AreRenamed olds news nodes owns
  pub texts : AreOldTexts olds news
  pub few : length news < 2 ^ 32
  pub within : others ≤ length news
  pub named : NameOthers marks others owns

-- The nodes can be arranged, where there are so many literals: parents come first, what is named is there, and no
-- literal but first ones lacks a parent.
pub record MayBeArranged (nodes : List Node) (literals : ℕ) : Type 0 where
  pub few : length nodes < 2 ^ 32
  pub earlier : AreParentsFirst nodes
  pub named : (k old : ℕ) (node : Node) → slice_get nodes k ≡ Some node → named_literal node.kind ≡ Some old →
      old < literals
  pub behind : (k number len : ℕ) (node : Node) → slice_get nodes k ≡ Some node → node.kind ≡ Literal number len →
      node.parent ≡ None → ⊥
