-- From where nodes are left to what the blocks of a chunk tell.
use Rattle.std.proofs.Common.{◌≡◌, ◌↔◌, ℕ, zero, suc, ◌+◌, ◌*◌, ◌<◌, ◌≤◌, Bool, true, false, not, ◌&&◌, Option, None, List, [], ◌∷◌, ◌++◌, length, take, Some, slice_get, refl, sym, ap, subst, ◌∙◌, inl, inr, arith, length-append}
use Rattle.std.specs.Prelude.{slice_index}
use Rattle.std.proofs.Math.Seq.{take-add}
use Rattle.std.proofs.lemmas.List.{append-nil, length-take-le, take_all}
use Rattle.std.proofs.lemmas.Bool.{cases_lt, false_from_ne_true}
use Rattle.hs_base.specs.declared.context.Next.TheVariants as after
use Rattle.hs_base.specs.Chains.{Piece}
use Rattle.hs_base.specs.Bits.{has_word_bit}
use Rattle.hs_base.specs.Contexts.{class_of}
use Rattle.hs_base.specs.Leaving.{LeavesAt}
use Rattle.hs_base.specs.Lists.{Each, IsMember}
use Rattle.hs_base.specs.Literals.{LiteralByte}
use Rattle.hs_base.specs.Regions.{Plan}
use Rattle.hs_base.specs.Settling.{AreIdentifiers, AreRising}
use Rattle.hs_base.specs.Told.{Pair, IsNew}
use Rattle.hs_base.proofs.ListLemmas.{each-of_members, one_of-map}
use Rattle.hs_base.proofs.NewLemmas.{new_nothing, told_more}
use Rattle.hs_base.proofs.ToldLemmas.{new-joins}
use Rattle.hs_bits.specs.WordBits.{word_bit as block_bit}
use Rattle.hs_engine.specs.Engines.{Meaning}
use Rattle.hs_nodes.specs.Blocks.{block, front}
use Rattle.hs_nodes.specs.Left.{AreLeft, AreLeftIn, nowhere}
use Rattle.hs_nodes.specs.declared.ends.ChunkEnds.{ChunkEnds}
use Rattle.hs_nodes.proofs.GatherLemmas.{ends-at, ends-past}
use Rattle.hs_nodes.proofs.ChunkLemmas.{front-more, length-front}
use Rattle.hs_reports.specs.EndTables.{EndTable, words_of}
use Rattle.hs_reports.specs.Events.{Takes, still}
use Rattle.hs_reports.specs.Identifiers.{id_numbers, numbers_of}
use Rattle.hs_reports.specs.Pairs.{ArePairsOf}
use Rattle.hs_reports.specs.Chunks.{AreChunkEnds as AreEndsAbout}
use Rattle.hs_reports.specs.Settlement.{AreBlockEnds, AreKnown, ArePending, SettlesBlock, is_spent}
use Rattle.hs_reports.specs.Tellings.{TellingTable, pairs_of_tellings}
use Rattle.hs_reports.specs.TerminalLaws.{AreLeftTerminals}
use Rattle.hs_reports.specs.Terminals.{AreLeftBy, AreEndsOf, ends_by_words}
use Rattle.hs_reports.specs.WordBits.{row_bit, word_bit}
use Rattle.hs_reports.specs.declared.identifier.Identifier.{Identifier}
use Rattle.hs_reports.proofs.EventLemmas.{through-join}
use Rattle.hs_reports.proofs.PairsLemmas.{pairs-chunk, pairs-join, pairs-none}
use Rattle.hs_reports.proofs.GatheringLemmas.{gathering-ends}
use Rattle.hs_reports.proofs.TerminalLemmas.{terminals-end, ends-within}
use Rattle.hs_nodes.specs.Graphs.{AreTerminalsSound, RunsPlan}
use Rattle.hs_scan.specs.Telling.{AreChunkEnds, AreOfSpent, IsTelling, KeepsTold, TellsBlock, TellsBlocks, TellsChunk}
use Rattle.hs_nodes.specs.Gathering.{AreGathered, left_before, left_behind, ends_or_all}
use Rattle.hs_nodes.specs.declared.graph.Graph.{Graph}

pub each-map : {A : Type 0} (P Q : A → Type 0) (xs : List A) → ((x : A) → P x → Q x) → Each P xs → Each Q xs
each-map P Q [] then each = tt
each-map P Q (x ∷ xs) then each = (then x each.0, each-map P Q xs then each.1)

-- of what holds of each both ways
pub each-both : {A : Type 0} (P Q R : A → Type 0) (xs : List A) → ((x : A) → P x → Q x → R x) → Each P xs → Each Q xs → Each R xs
each-both P Q R [] then one two = tt
each-both P Q R (x ∷ xs) then one two = (then x one.0 two.0, each-both P Q R xs then one.1 two.1)

-- a value that is another tells what that tells
pub value-tells : (value other : Bool) (Q : Type 0) → value ≡ other → (other ≡ true) ↔ Q → (value ≡ true) ↔ Q
value-tells value other Q same law = (λ is. law.0 (sym same ∙ is), λ holds. same ∙ law.1 holds)

-- the same bit in the words of both crates
same-bit : (word i : ℕ) → word_bit word i ≡ block_bit word i
unfolding word_bit block_bit
same-bit word i = refl

pub left-by : (pieces : List Piece) (u bytes : List ℕ) (before behind : ℕ) → AreLeft pieces u bytes before behind → AreLeftBy pieces u bytes before behind
left-by pieces u bytes before behind are = record {
  before_is = λ i below.
      value-tells (word_bit before i) (block_bit before i) (LeavesAt pieces (u ++ take i bytes) (class_of (slice_index bytes i))) (same-bit before i) (are.before_is.below i below);
  behind_is = λ i below.
      value-tells (word_bit behind i) (block_bit behind i) (LeavesAt pieces (u ++ take (i + 1) bytes) after.Unknown) (same-bit behind i) (are.behind_is.below i below);
  within = λ i past below. (same-bit before i ∙ are.before_is.above i past, same-bit behind i ∙ are.behind_is.above i past);
}

module _ {E : Type 0} (meaning : E → Meaning) (graph : Graph E) (sound : AreTerminalsSound graph) (literals : List (List LiteralByte)) (plan : Plan) (runs : RunsPlan meaning graph literals plan)
    (u bytes : List ℕ) (ends : List ChunkEnds) (all : ChunkEnds) (spent : ℕ → Bool) (are : AreChunkEnds meaning graph spent runs.pieces u bytes ends all) where
  abbrev nodes : ℕ
  nodes = length graph.table.nodes.items

  node-left : (k : ℕ) → k < nodes + 1 → spent k ≡ false → AreLeftIn (runs.pieces k) u bytes (ends_or_all ends all k)
  node-left k below unspent = elim (cases_lt k nodes) [
    | inl inner ↦ subst (AreLeftIn (runs.pieces k) u bytes) (ends-at ends nowhere all k (omega (arith, are.count))) (are.left k inner unspent)
    | inr past ↦
        let last : k ≡ nodes = omega arith in
        subst (λ xs. AreLeftIn xs u bytes (ends_or_all ends all k)) (sym (ap runs.pieces last ∙ runs.no_pieces))
        (subst (AreLeftIn [] u bytes) (sym (ends-past ends all k (omega (arith, are.count)))) are.everywhere)
  ]

  ids-rise : AreRising plan.identifiers
  ids-rise = runs.is_plan.identifiers

  are-identifiers : AreIdentifiers plan.patterns (numbers_of graph.identifiers.items)
  are-identifiers = record {
    rising = subst AreRising (sym runs.ids) ids-rise;
    each = each-of_members (λ x. IsMember x.id (numbers_of graph.identifiers.items)) plan.patterns (λ x member.
        subst (λ ys. IsMember x.id ys) (sym runs.ids)
        ((runs.is_plan.named x.id).1 (one_of-map (λ y. x ≡ y) (λ y. y.id ≡ x.id) plan.patterns (λ y same. sym (ap (λ z. z.id) same)) member)));
  }

  module _ (j : ℕ) (below : j < 8) (few : length (block bytes j) ≤ 64) (asked : ℕ → Bool) (asks : Each (λ t. asked t.identifier ≡ true → spent t.node ≡ false) graph.terminals.items) where
    abbrev befores : ℕ → ℕ
    befores = left_before ends all j

    abbrev behinds : ℕ → ℕ
    behinds = left_behind ends all j

    terminals-left : AreLeftTerminals runs.pieces plan.identifiers plan.patterns graph.terminals.items (front u bytes j) (block bytes j) befores behinds asked
    terminals-left = record {
      rising = ids-rise;
      are = runs.terminals;
      spans = runs.spans;
      few = few;
      left =
          each-both (λ t. (t.identifier < length graph.identifiers.items) × (t.node < nodes + 1)) (λ t. asked t.identifier ≡ true → spent t.node ≡ false)
          (λ t. asked t.identifier ≡ true → AreLeftBy (runs.pieces t.node) (front u bytes j) (block bytes j) (befores t.node) (behinds t.node)) graph.terminals.items
          (λ t known unspent asked_for. left-by (runs.pieces t.node) (front u bytes j) (block bytes j) (befores t.node) (behinds t.node) ((node-left t.node known.1 (unspent asked_for)).each j below)) sound.known asks;
    }

    named : (p : ℕ) (x : Identifier) → slice_get graph.identifiers.items p ≡ Some x → slice_get plan.identifiers p ≡ Some x.id.0
    named p x at = subst (λ ys. slice_get ys p ≡ Some x.id.0) runs.ids (numbered graph.identifiers.items p x at)
      where
        numbered : (xs : List Identifier) (p : ℕ) (x : Identifier) → slice_get xs p ≡ Some x → slice_get (numbers_of xs) p ≡ Some x.id.0
        numbered [] p x at = absurd (cc)
        numbered (y ∷ xs) zero x at = ap (λ z. Some z) (ap (λ o. o.id.0) (same y x at))
          where
            same : (y x : Identifier) → Some y ≡ Some x → y ≡ x
            same y x e = cc
        numbered (y ∷ xs) (suc p) x at = numbered xs p x at

    module _ (at : ℕ) (table : EndTable) (offset : at ≡ length u) (within : 64 * j ≤ length bytes) (gathered : AreGathered meaning graph ends all at j (nodes + 1) table) where
      gathered-of : (p : ℕ) → AreEndsOf graph.terminals.items befores behinds (length (front u bytes j)) p (words_of table p).before (words_of table p).behind
      gathered-of p =
          let here : at + 64 * j ≡ length (front u bytes j) = omega (arith, length-front u bytes j within) in
          subst (λ n. AreEndsOf graph.terminals.items befores behinds n p (words_of table p).before (words_of table p).behind) here
          (gathering-ends graph.terminals.items befores behinds (at + 64 * j) (nodes + 1) table
          (each-map (λ t. (t.identifier < length graph.identifiers.items) × (t.node < nodes + 1)) (λ t. t.node < nodes + 1) graph.terminals.items (λ t known. known.1) sound.known) gathered p)

      -- what is gathered are the ends of the identifiers that are asked for
      pub ends-of : (p : ℕ) (x : Identifier) → slice_get graph.identifiers.items p ≡ Some x → asked p ≡ true → AreEndsAbout plan.patterns (front u bytes j) (block bytes j) x.id.0 (ends_by_words (words_of table p).before (words_of table p).behind)
      ends-of p x at' asked_for =
          terminals-end runs.pieces plan.identifiers plan.patterns graph.terminals.items (front u bytes j) (block bytes j) befores behinds asked terminals-left p x.id.0 (words_of table p).before (words_of table p).behind asked_for (named p x at') (gathered-of p)

      pub within-of : (p i : ℕ) → asked p ≡ true → length (block bytes j) ≤ i → i < 64 → (word_bit (words_of table p).before i ≡ false) × (word_bit (words_of table p).behind i ≡ false)
      within-of p i asked_for past small =
          ends-within runs.pieces plan.identifiers plan.patterns graph.terminals.items (front u bytes j) (block bytes j) befores behinds asked terminals-left p (words_of table p).before (words_of table p).behind asked_for (gathered-of p) i past small

-- the identifier of that number, if there is one, is spent
spent-of : (told : List ℕ) (p : ℕ) → Option Identifier → Bool
spent-of told p None = false
spent-of told p (Some x) = is_spent x told p

not-spent : (told : List ℕ) (p : ℕ) (x : Identifier) (xs : List Identifier) → slice_get xs p ≡ Some x → is_spent x told p ≡ false → not (spent-of told p (slice_get xs p)) ≡ true
unfolding spent-of
not-spent told p x xs at unspent = ap (λ y. not (spent-of told p y)) at ∙ ap not unspent

asks-open : {E : Type 0} (graph : Graph E) (told : List ℕ) (spent : ℕ → Bool) → AreTerminalsSound graph → AreOfSpent graph told spent → Each (λ t. not (spent-of told t.identifier (slice_get graph.identifiers.items t.identifier)) ≡ true → spent t.node ≡ false) graph.terminals.items
unfolding spent-of
asks-open graph told spent sound of =
    each-both (λ t. (t.identifier < length graph.identifiers.items) × (t.node < length graph.table.nodes.items + 1)) _ _ graph.terminals.items
    (λ t known closed asked.
    let (x, there) = member-at graph.identifiers.items t.identifier known.0 in
    false_from_ne_true (spent t.node) (λ set.
    let over : is_spent x told t.identifier ≡ true = closed set x there in
    let said : not (is_spent x told t.identifier) ≡ true = ap (λ y. not (spent-of told t.identifier y)) (sym there) ∙ asked in
    let both : false ≡ true = ap not (sym over) ∙ said in absurd (cc))) sound.known of
  where
    member-at : {A : Type 0} (xs : List A) (k : ℕ) → k < length xs → (x : A) × (slice_get xs k ≡ Some x)
    member-at [] k below = absurd (omega arith)
    member-at (x ∷ xs) zero below = (x, refl)
    member-at (x ∷ xs) (suc k) below = member-at xs k (omega arith)

-- what is gathered are the ends of the block
pub block-ends : {E : Type 0} (meaning : E → Meaning) (graph : Graph E) (sound : AreTerminalsSound graph) (literals : List (List LiteralByte)) (plan : Plan) (runs : RunsPlan meaning graph literals plan) (u bytes : List ℕ) (ends : List ChunkEnds) (all : ChunkEnds) (spent : ℕ → Bool) (told : List ℕ) (j at : ℕ) (table : EndTable) →
    AreChunkEnds meaning graph spent runs.pieces u bytes ends all → AreOfSpent graph told spent → j < 8 → length (block bytes j) ≤ 64 → at ≡ length u → 64 * j ≤ length bytes → AreGathered meaning graph ends all at j (length graph.table.nodes.items + 1) table →
    AreBlockEnds plan.patterns (front u bytes j) (block bytes j) graph.identifiers.items told table
block-ends meaning graph sound literals plan runs u bytes ends all spent told j at table are of below few offset within gathered =
    let asked : ℕ → Bool = λ p. not (spent-of told p (slice_get graph.identifiers.items p)) in
    let asks = asks-open graph told spent sound of in
    record {
      identifiers_are = are-identifiers meaning graph sound literals plan runs u bytes ends all spent are;
      ends = λ p x there unspent. ends-of meaning graph sound literals plan runs u bytes ends all spent are j below few asked asks at table offset within gathered p x there (not-spent told p x graph.identifiers.items there unspent);
      within = λ p i x there unspent past small. within-of meaning graph sound literals plan runs u bytes ends all spent are j below few asked asks at table offset within gathered p i (not-spent told p x graph.identifiers.items there unspent) past small;
    }

-- what is told stays so, and with it which nodes are spent
and-more : (a b c : Bool) → (b ≡ true → c ≡ true) → (a && b) ≡ true → (a && c) ≡ true
and-more true b c more is = more is
and-more false b c more is = is

pub of-more : {E : Type 0} (graph : Graph E) (told told' : List ℕ) (spent : ℕ → Bool) → KeepsTold told told' → AreOfSpent graph told spent → AreOfSpent graph told' spent
of-more graph told told' spent keeps of = each-map _ _ graph.terminals.items (λ t closed set x there. and-more x.single (has_word_bit told t.identifier) (has_word_bit told' t.identifier) (keeps t.identifier) (closed set x there)) of

-- Blocks tell one after the other.

module _ {E : Type 0} (meaning : E → Meaning) (graph : Graph E) (sound : AreTerminalsSound graph) (bytes : List ℕ) (at : ℕ) (ends : List ChunkEnds) (all : ChunkEnds) where
  pub tells-none : (told here : List ℕ) → TellsBlocks meaning graph bytes at ends all told here told here 0 []
  tells-none told here = record {
    pairs_are = pairs-none (numbers_of graph.identifiers.items) at (at + length (take (64 * 0) bytes));
    keeps = λ p set. set;
    tells = λ literals plan runs u list spent offset of are known is.
        record {
          known = subst (λ v. AreKnown plan.patterns v graph.identifiers.items told here) (sym (append-nil u)) known;
          new = new_nothing plan.patterns u list is;
        };
  }

  -- what one block tells
  pub block-tells : (told here told' here' : List ℕ) (j : ℕ) (table : EndTable) (tellings : TellingTable) (count : ℕ) → j < 8 → 64 * j < length bytes → length (block bytes j) ≡ count → length (block bytes j) ≤ 64 →
      AreGathered meaning graph ends all at j (length graph.table.nodes.items + 1) table → SettlesBlock graph.identifiers.items count table told here told' here' tellings →
      Each (λ id. IsMember id (numbers_of graph.identifiers.items)) (id_numbers tellings.ids) → ArePending here table → KeepsTold told told' →
      TellsBlock meaning graph bytes at ends all j told here told' here' (pairs_of_tellings tellings (at + 64 * j) count)
  block-tells told here told' here' j table tellings count below inside counted few gathered settles named pending keeps = record {
    pairs_are =
        let whole = numbers_of graph.identifiers.items in
        subst (λ n. ArePairsOf whole (at + 64 * j) (at + 64 * j + n) (pairs_of_tellings tellings (at + 64 * j) count)) (sym counted)
        (pairs-chunk (id_numbers tellings.ids) whole (row_bit tellings.lates) (row_bit tellings.earlies) (at + 64 * j) count named);
    keeps = keeps;
    tells = λ literals plan runs u list spent offset of are known is.
        let v : List ℕ = front u bytes j in
        let own : List ℕ = block bytes j in
        let block_is = block-ends meaning graph sound literals plan runs u bytes ends all spent told j at table are of below few offset (omega (arith, inside)) gathered in
        let (known', new') = settles plan.patterns v own counted block_is known pending in
        let here_is : at + 64 * j ≡ length v = omega (arith, length-front u bytes j (omega (arith, inside))) in
        record { known = known'; new = subst (λ m. IsNew plan.patterns v own (pairs_of_tellings tellings m count)) (sym here_is) (new' list is) };
  }

  -- and then one more
  pub tells-more : (told0 here0 told here told' here' : List ℕ) (j n : ℕ) (ps qs : List Pair) → n ≡ j + 1 → 64 * j ≤ length bytes → TellsBlocks meaning graph bytes at ends all told0 here0 told here j ps → TellsBlock meaning graph bytes at ends all j told here told' here' qs →
      TellsBlocks meaning graph bytes at ends all told0 here0 told' here' n (ps ++ qs)
  unfolding front block
  tells-more told0 here0 told here told' here' j n ps qs next within first then =
      let ids = numbers_of graph.identifiers.items in
      let more : take (64 * n) bytes ≡ take (64 * j) bytes ++ block bytes j = (let e : 64 * n ≡ 64 * j + 64 = omega arith in ap (λ k. take k bytes) e) ∙ take-add (64 * j) 64 bytes in
      let size : length (take (64 * j) bytes) ≡ 64 * j = length-take-le (64 * j) bytes within in
      let both : at + 64 * j + length (block bytes j) ≡ at + length (take (64 * n) bytes) = omega (arith, size, ap length more, length-append (take (64 * j) bytes) (block bytes j)) in
      let early : ArePairsOf ids at (at + 64 * j) ps = subst (λ k. ArePairsOf ids at (at + k) ps) size first.pairs_are in
      record {
        pairs_are =
            subst (λ k. ArePairsOf ids at k (ps ++ qs)) both
            (pairs-join ids at (at + 64 * j) (at + 64 * j + length (block bytes j)) ps qs (omega arith) (omega arith) early then.pairs_are);
        keeps = λ p set. then.keeps p (first.keeps p set);
        tells = λ literals plan runs u list spent offset of are known is.
            let one = first.tells literals plan runs u list spent offset of are known is in
            let two = then.tells literals plan runs u (list ++ ps) spent offset (of-more graph told0 told spent first.keeps of) are one.known (told_more plan.patterns u (take (64 * j) bytes) list ps is one.new) in
            record {
              known = subst (λ w. AreKnown plan.patterns w graph.identifiers.items told' here') (sym (front-more u bytes j n next)) two.known;
              new = subst (λ xs. IsNew plan.patterns u xs (ps ++ qs)) (sym more) (new-joins plan.patterns u (take (64 * j) bytes) (block bytes j) ps qs one.new two.new);
            };
      }

  pub tells-all : (told here told' here' : List ℕ) (n : ℕ) (pairs : List Pair) → length bytes ≤ 64 * n → TellsBlocks meaning graph bytes at ends all told here told' here' n pairs → TellsChunk meaning graph bytes at ends all told here told' here' pairs
  tells-all told here told' here' n pairs enough first = record {
    pairs_are = subst (λ xs. ArePairsOf (numbers_of graph.identifiers.items) at (at + length xs) pairs) (take_all (64 * n) bytes enough) first.pairs_are;
    tells = λ literals plan runs u list spent offset of are known is.
        subst (λ xs. IsTelling plan.patterns u xs pairs (λ v. AreKnown plan.patterns v graph.identifiers.items told' here')) (take_all (64 * n) bytes enough) (first.tells literals plan runs u list spent offset of are known is);
  }

-- Reports follow each other.
module _ {V : Type 0} (Tells : V → ℕ → ℕ → V → Type 0) where
  pub takes-then : (start between end : V) (P Q R : List Pair → Type 0) → ((ps qs : List Pair) → P ps → Q qs → R (ps ++ qs)) → Takes Tells start between P → Takes Tells between end Q → Takes Tells start end R
  takes-then start between end P Q R join first second =
      record { pairs = first.pairs ++ second.pairs; through = through-join Tells first.through second.through; holds = join first.pairs second.pairs first.holds second.holds }

  pub takes-as : (start end : V) (P Q : List Pair → Type 0) → ((ps : List Pair) → P ps → Q ps) → Takes Tells start end P → Takes Tells start end Q
  takes-as start end P Q then taken = record { pairs = taken.pairs; through = taken.through; holds = then taken.pairs taken.holds }

  pub takes-none : (start : V) (P : List Pair → Type 0) → P [] → Takes Tells start start P
  takes-none start P none = record { pairs = []; through = still; holds = none }
