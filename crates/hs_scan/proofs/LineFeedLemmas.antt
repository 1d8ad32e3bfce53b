-- A chunk of one line feed, and what it leaves to the end.
use Rattle.std.proofs.Common.{◌≡◌, ℕ, ◌+◌, ◌*◌, ◌<◌, ◌≤◌, true, false, get_or, Some, slice_get, refl, List, [], ◌∷◌, ◌++◌, length, take, sym, ap, subst, ◌∙◌, arith, append_assoc}
use Rattle.std.proofs.lemmas.List.{take_all, take_more}
use Rattle.hs_base.specs.declared.context.Next.TheVariants as after
use Rattle.hs_base.specs.declared.context.Prev.{Prev}
use Rattle.hs_base.specs.Assertions.{line_feed}
use Rattle.hs_base.specs.Bits.{has_word_bit}
use Rattle.hs_base.specs.Lists.{Each}
use Rattle.hs_base.specs.Literals.{LiteralByte}
use Rattle.hs_base.specs.Told.{Pair, IsTold}
use Rattle.hs_base.proofs.ListLemmas.{each-append}
use Rattle.hs_base.proofs.NewLemmas.{told_more}
use Rattle.hs_engine.specs.Engines.{Meaning}
use Rattle.hs_nodes.specs.Blocks.{block, front}
use Rattle.hs_nodes.specs.Graphs.{AreTerminalsSound}
use Rattle.hs_nodes.specs.Left.{AreLeftIn}
use Rattle.hs_nodes.specs.Walks.{TakesNodes}
use Rattle.hs_nodes.specs.declared.ends.ChunkEnds.{ChunkEnds}
use Rattle.hs_nodes.specs.declared.graph.Graph.{Graph}
use Rattle.hs_nodes.specs.declared.hits.ChunkHits.{ChunkHits}
use Rattle.hs_nodes.proofs.ChunkLemmas.{front-none}
use Rattle.hs_reports.specs.EndTables.{EndTable, words_of}
use Rattle.hs_reports.specs.Identifiers.{numbers_of}
use Rattle.hs_reports.specs.Pairs.{ArePairsOf}
use Rattle.hs_reports.specs.Chunks.{AreChunkEnds as AreEndsAbout}
use Rattle.hs_reports.specs.Settlement.{AreKnown}
use Rattle.hs_reports.specs.Terminals.{ends_by_words}
use Rattle.hs_reports.specs.declared.identifier.Identifier.{Identifier}
use Rattle.hs_reports.specs.declared.terminal.Terminal.{Terminal}
use Rattle.hs_scan.specs.Asking.{AsksEnds}
use Rattle.hs_scan.specs.Scans.{AreHitsBehind, AreLeftToEnd, Scans, Stand, stand}
use Rattle.hs_scan.specs.Telling.{IsTelling, TellsBlock, TellsChunk}
use Rattle.hs_nodes.specs.Gathering.{AreGathered}
use Rattle.hs_keeping.specs.Leaving.{AreLeftByLineFeed}
use Rattle.hs_scan.specs.Writing.{LeavesLineFeed, LeavesLineFeedChunk, LeavesToEnd}
use Rattle.hs_scan.proofs.BlockLemmas.{ends-of}
use Rattle.hs_scan.proofs.EndingLemmas.{line_feed-left, other-left}
use Rattle.hs_scan.proofs.ScanLemmas.{Stands, scans-join}

pub block-first : (bytes : List ℕ) → length bytes ≤ 64 → block bytes 0 ≡ bytes
unfolding block
block-first bytes few = take_all 64 bytes few

each-always : (ts : List Terminal) → Each (λ t. true ≡ true → false ≡ false) ts
each-always [] = tt
each-always (t ∷ ts) = (λ same. refl, each-always ts)

module _ {E : Type 0} (meaning : E → Meaning) (graph : Graph E) where
  -- by the ends that the nodes give
  pub line_feed-leaves : (sound : AreTerminalsSound graph) (bytes : List ℕ) (at : ℕ) (ends : List ChunkEnds) (all : ChunkEnds) (told here : List ℕ) (table finals : EndTable) (last : List ℕ) → bytes ≡ line_feed ∷ [] → AreGathered meaning graph ends all at 0 (length graph.table.nodes.items + 1) table →
      AreLeftByLineFeed graph.identifiers.items told here table finals last → LeavesLineFeed meaning graph bytes at ends all told here finals last
  line_feed-leaves sound bytes at ends all told here table finals last is gathered row literals plan runs u offset are known final =
      let few : length bytes ≤ 64 = omega (arith, ap length is) in
      let own : block bytes 0 ≡ line_feed ∷ [] = block-first bytes few ∙ is in
      let about : (p : ℕ) (x : Identifier) → slice_get graph.identifiers.items p ≡ Some x → AreEndsAbout plan.patterns u (line_feed ∷ []) x.id.0 (ends_by_words (words_of table p).before (words_of table p).behind) =
      λ p x there. subst (λ v. AreEndsAbout plan.patterns v (line_feed ∷ []) x.id.0 (ends_by_words (words_of table p).before (words_of table p).behind)) (front-none u bytes)
      (subst (λ bs. AreEndsAbout plan.patterns (front u bytes 0) bs x.id.0 (ends_by_words (words_of table p).before (words_of table p).behind)) own
      (ends-of meaning graph sound literals plan runs u bytes ends all (λ k. false) are 0 (omega arith) (omega (arith, ap length own)) (λ q. true) (each-always graph.terminals.items) at table offset (omega arith) gathered p x there refl)) in
      subst (λ bs. AreLeftToEnd graph plan.patterns (u ++ bs) last) (sym is) (line_feed-left meaning graph sound literals plan runs u told here last table finals known about final row)

  -- by what is kept of the nodes
  pub line_feed-chunk : (at : ℕ) (old new told here : List ℕ) (prev : Prev) (past bytes : List ℕ) (hits : List ChunkHits) (ends : List ChunkEnds) (all : ChunkEnds) (finals : EndTable) (last : List ℕ) → length ends ≡ length graph.table.nodes.items → ((u : List ℕ) → AreLeftIn [] u bytes all) →
      TakesNodes meaning graph.table (λ k. false) old new prev at past bytes hits ends → LeavesLineFeed meaning graph bytes at ends all told here finals last → LeavesLineFeedChunk meaning graph old prev at past bytes hits told here finals last
  line_feed-chunk at old new told here prev past bytes hits ends all finals last count everywhere takes leaves literals plan runs u stands past_is small are before known final =
      let run = takes literals runs.pieces u runs.nodes stands past_is small are before in
      leaves literals plan runs u stands.offset (record { count = count; left = run.left; everywhere = everywhere u }) known final

module _ {E : Type 0} (meaning : E → Meaning) (graph : Graph E) (literals : List (List LiteralByte)) where
  -- behind the stream at which the scan is
  pub line_feed-ends : (at : ℕ) (past region told here : List ℕ) (prev : Prev) (hits : List ChunkHits) (finals : EndTable) (last : List ℕ) → Stands at past prev → AreHitsBehind literals at past hits (line_feed ∷ []) → AsksEnds meaning graph literals at past region after.FinalNewline finals →
      LeavesLineFeedChunk meaning graph region prev at past (line_feed ∷ []) hits told here finals last → LeavesToEnd meaning graph literals (stand at past region told here) (line_feed ∷ []) last
  line_feed-ends at past region told here prev hits finals last stands are asks leaves plan runs u list is told_is =
      leaves literals plan runs u (stands u is.offset is.past) is.past (each-append (λ b. b < 256) u (line_feed ∷ []) is.bytes (omega arith, tt)) (are u is.offset is.past) is.held is.known (asks plan runs u is.offset is.past is.bytes is.held)

  -- behind more bytes
  pub left-behind : (a b : Stand) (xs ys : List ℕ) (ps : List Pair) (last : List ℕ) → Scans meaning graph literals a b xs ps → LeavesToEnd meaning graph literals b ys last → LeavesToEnd meaning graph literals a (xs ++ ys) last
  left-behind a b xs ys ps last scans leaves plan runs u list is told_is =
      let one = scans.scans plan runs u list is told_is in
      subst (λ v. AreLeftToEnd graph plan.patterns v last) (append_assoc u xs ys) (leaves plan runs (u ++ xs) (list ++ ps) one.reached (told_more plan.patterns u xs list ps told_is one.new))

-- the one block is the whole chunk
pub first-tells : {E : Type 0} (meaning : E → Meaning) (graph : Graph E) (bytes : List ℕ) (at : ℕ) (ends : List ChunkEnds) (all : ChunkEnds) (told here told' here' : List ℕ) (pairs : List Pair) → bytes ≡ line_feed ∷ [] → TellsBlock meaning graph bytes at ends all 0 told here told' here' pairs →
    TellsChunk meaning graph bytes at ends all told here told' here' pairs
first-tells meaning graph bytes at ends all told here told' here' pairs is first =
    let few : length bytes ≤ 64 = omega (arith, ap length is) in
    let ids = numbers_of graph.identifiers.items in
    let at_is : at + 64 * 0 ≡ at = omega arith in
    record {
      pairs_are =
          subst (λ bs. ArePairsOf ids at (at + length bs) pairs) (block-first bytes few)
          (subst (λ n. ArePairsOf ids n (n + length (block bytes 0)) pairs) at_is first.pairs_are);
      tells = λ literals plan runs u list spent offset of are known told_is.
          let front_is : front u bytes 0 ≡ u = front-none u bytes in
          let one = first.tells literals plan runs u list spent offset of are (subst (λ v. AreKnown plan.patterns v graph.identifiers.items told here) (sym front_is) known) (subst (λ v. IsTold plan.patterns v list) (sym front_is) told_is) in
          subst (λ bs. IsTelling plan.patterns u bs pairs (λ v. AreKnown plan.patterns v graph.identifiers.items told' here')) (block-first bytes few)
          (subst (λ v. IsTelling plan.patterns v (block bytes 0) pairs (λ w. AreKnown plan.patterns w graph.identifiers.items told' here')) front_is one);
    }

-- the last byte apart
pub last-apart : (bytes : List ℕ) (n : ℕ) → length bytes ≡ n + 1 → take n bytes ++ get_or bytes n 0 ∷ [] ≡ bytes
last-apart bytes n count = sym (take_more bytes n 0 (omega (arith, count))) ∙ take_all (n + 1) bytes (omega (arith, count))

module _ {E : Type 0} (meaning : E → Meaning) (graph : Graph E) (literals : List (List LiteralByte)) where
  -- bytes and a line feed are scanned
  pub line_feed-scans : (a b c : Stand) (bytes : List ℕ) (n : ℕ) (ps qs : List Pair) → a.at ≤ b.at → b.at ≤ c.at → length bytes ≡ n + 1 → get_or bytes n 0 ≡ line_feed → Scans meaning graph literals a b (take n bytes) ps → Scans meaning graph literals b c (line_feed ∷ []) qs → Scans meaning graph literals a c bytes (ps ++ qs)
  line_feed-scans a b c bytes n ps qs up on count is first second =
      subst (λ bs. Scans meaning graph literals a c bs (ps ++ qs)) (ap (λ x. take n bytes ++ x ∷ []) (sym is) ∙ last-apart bytes n count) (scans-join meaning graph literals a b c (take n bytes) (line_feed ∷ []) ps qs up on first second)

  -- and what they leave to the end
  pub line_feed-left_behind : (a b : Stand) (bytes : List ℕ) (n : ℕ) (ps : List Pair) (last : List ℕ) → length bytes ≡ n + 1 → get_or bytes n 0 ≡ line_feed → Scans meaning graph literals a b (take n bytes) ps → LeavesToEnd meaning graph literals b (line_feed ∷ []) last → LeavesToEnd meaning graph literals a bytes last
  line_feed-left_behind a b bytes n ps last count is scans leaves =
      subst (λ bs. LeavesToEnd meaning graph literals a bs last) (ap (λ x. take n bytes ++ x ∷ []) (sym is) ∙ last-apart bytes n count) (left-behind meaning graph literals a b (take n bytes) (line_feed ∷ []) ps last scans leaves)

  -- bytes that end with another one leave nothing
  pub none-left_behind : (sound : AreTerminalsSound graph) (a : Stand) (bytes last : List ℕ) (n : ℕ) → length bytes ≡ n + 1 → (get_or bytes n 0 ≡ line_feed → ⊥) → ((p : ℕ) → has_word_bit last p ≡ false) → LeavesToEnd meaning graph literals a bytes last
  none-left_behind sound a bytes last n count other none plan runs u list is told_is =
      subst (λ bs. AreLeftToEnd graph plan.patterns (u ++ bs) last) (last-apart bytes n count) (other-left meaning graph sound literals plan runs u (take n bytes) last (get_or bytes n 0) other none)
