-- A literal over a chunk.
use Rattle.std.proofs.Common.{◌≡◌, ◌↔◌, ℕ, zero, suc, ◌+◌, ◌*◌, ◌/◌, ◌%◌, ◌-◌, ◌<◌, ◌≤◌, Bool, true, false, ◌&&◌, ◌||◌, List, ◌∷◌, ◌++◌, length, take, drop, slice_index, refl, sym, ap, subst, ◌∙◌, inl, inr, arith, append_assoc, length-append}
use Rattle.std.specs.Prelude.{nat_lt, if◌then◌else◌}
use Rattle.std.proofs.lemmas.Bool.{cases_lt, lt-ltb, le-ltb}
use Rattle.std.proofs.lemmas.List.{take-append-drop}
use Rattle.hs_base.specs.Chains.{Piece, lit, piece_tree, IsFitChain}
use Rattle.hs_base.specs.declared.context.Next.TheVariants as after
use Rattle.hs_base.specs.Contexts.{class_of}
use Rattle.hs_base.specs.Bits.{has_bit}
use Rattle.hs_base.specs.LiteralRows.{TellsEntries}
use Rattle.hs_base.specs.Lists.{Each}
use Rattle.hs_base.specs.LiteralEnds.{EndsAt}
use Rattle.hs_base.specs.Literals.{LiteralByte}
use Rattle.hs_base.proofs.ListLemmas.{each-left}
use Rattle.hs_block.specs.declared.literal.Hits.{Hits}
use Rattle.hs_block.specs.declared.literal.LiteralRun.{LiteralRun}
use Rattle.hs_block.specs.LiteralBlocks.{AreHits, RunsLiteral, TellsCarried, is_hit, was_entered}
use Rattle.hs_bits.specs.WordBits.{word_bit}
use Rattle.hs_block.proofs.LiteralBlockLemmas.{ends-stay, never-empty}
use Rattle.hs_bits.proofs.PlaceLemmas.{bit-none}
use Rattle.hs_nodes.specs.declared.ends.ChunkEnds.{ChunkEnds}
use Rattle.hs_nodes.specs.declared.hits.ChunkHits.{ChunkHits}
use Rattle.hs_nodes.specs.Blocks.{block, front}
use Rattle.hs_nodes.specs.Hits.{AreChunkHits, CarriesEntries, IsCarryAt, TakesLiteral, TakesLiteralPart, is_hit_at}
use Rattle.hs_nodes.specs.Left.{AreLeftIn, nowhere}
use Rattle.hs_nodes.specs.Pieces.{AreEmptyIn, IsHeldBy}
use Rattle.hs_nodes.proofs.ChunkLemmas.{front-more, length-front}
use Rattle.hs_nodes.proofs.PieceLemmas.{IsThrough}
use Rattle.hs_nodes.proofs.RunLemmas.{AreMoreEnds, AreNowhereFrom, IsRunTo, nowhere-none, run-all, run-more, run-none}

-- a literal has no empty span
pub literal-empty : (literal : List LiteralByte) (u bytes : List ℕ) → 1 ≤ length literal → (enters null : ChunkEnds) → AreNowhereFrom 0 null → AreEmptyIn (piece_tree (lit literal)) u bytes enters null
literal-empty literal u bytes some enters null none = record {
  each = λ j small. record {
    before_is = λ i low asked. ((λ set. absurd (let both : true ≡ false = sym set ∙ (ap (λ w. word_bit w i) (none.before j (omega arith)) ∙ bit-none i) in cc)), (λ empty. absurd (never-empty literal (front u bytes j ++ take i (block bytes j)) (class_of (slice_index (block bytes j) i)) some empty)));
    behind_is = λ i low asked. ((λ set. absurd (let both : true ≡ false = sym set ∙ (ap (λ w. word_bit w i) (none.behind j (omega arith)) ∙ bit-none i) in cc)), (λ empty. absurd (never-empty literal (front u bytes j ++ take (i + 1) (block bytes j)) after.Unknown some empty)));
  };
}

-- a word goes through where nothing is empty
pub through-alone : (out enters null : ℕ) → null ≡ 0 → IsThrough out out enters null
through-alone out enters null none i = alone (word_bit out i) (word_bit enters i) (word_bit null i) (ap (λ w. word_bit w i) none ∙ bit-none i) where
  alone : (a b c : Bool) → c ≡ false → a ≡ (a || (b && c))
  alone true b c e = refl
  alone false true c e = sym e
  alone false false c e = refl

-- the stream goes on behind a block
rest-of : (u bytes : List ℕ) (j : ℕ) → u ++ bytes ≡ front u bytes j ++ drop (64 * j) bytes
unfolding front
rest-of u bytes j = ap (λ v. u ++ v) (sym (take-append-drop (64 * j) bytes)) ∙ sym (append_assoc u (take (64 * j) bytes) (drop (64 * j) bytes))

both-ways : {A B C : Type 0} → A ↔ B → B ↔ C → A ↔ C
both-ways f g = (λ a. g.0 (f.0 a), λ c. f.1 (g.1 c))

-- the hits of a block
block-hits : (hits : ChunkHits) (own : Hits) (literal : List LiteralByte) (u bytes : List ℕ) (j : ℕ) → ((i : ℕ) → i ≤ 64 → is_hit own i ≡ is_hit_at hits (64 * j + i)) → 64 * j < length bytes → length (block bytes j) ≤ 64 → 64 * j + length (block bytes j) ≤ length bytes →
    AreChunkHits hits literal u bytes → AreHits own literal (front u bytes j) (block bytes j)
block-hits hits own literal u bytes j same below few within are i low =
    let next : suc j ≡ j + 1 = omega arith in
    let more : front u bytes (suc j) ≡ front u bytes j ++ block bytes j = front-more u bytes j (suc j) next in
    let count : length (front u bytes j) ≡ length u + 64 * j = length-front u bytes j (omega arith) in
    let all : length (front u bytes j ++ block bytes j) ≡ length (front u bytes j) + length (block bytes j) = length-append (front u bytes j) (block bytes j) in
    let there : length u + (64 * j + i) ≡ length (front u bytes j) + i = omega (arith, count) in
    let chunk : (is_hit_at hits (64 * j + i) ≡ true) ↔ EndsAt literal (u ++ bytes) (length u + (64 * j + i)) = are (64 * j + i) (omega arith) in
    let whole : u ++ bytes ≡ (front u bytes j ++ block bytes j) ++ drop (64 * suc j) bytes = rest-of u bytes (suc j) ∙ ap (λ v. v ++ drop (64 * suc j) bytes) more in
    let stays = ends-stay literal (front u bytes j ++ block bytes j) (drop (64 * suc j) bytes) (length (front u bytes j) + i) (omega (arith, all)) in
    both-ways ((λ set. sym (same i (omega arith)) ∙ set), (λ set. same i (omega arith) ∙ set))
    (both-ways chunk
    (both-ways ((λ ends. subst (λ v. EndsAt literal v (length (front u bytes j) + i)) whole (subst (λ n. EndsAt literal (u ++ bytes) n) there ends)), (λ ends. subst (λ n. EndsAt literal (u ++ bytes) n) (sym there) (subst (λ v. EndsAt literal v (length (front u bytes j) + i)) (sym whole) ends)))
    (stays.1, stays.0)))

-- the literal has taken so many blocks
abbrev pub TakesLiteralTo : (len old new : ℕ) (bytes : List ℕ) (hits : ChunkHits) (enters ends : ChunkEnds) (n : ℕ) → Type 0
TakesLiteralTo len old new bytes hits enters ends n =
    (pieces rest : List Piece) (literal : List LiteralByte) (u : List ℕ) →
    IsFitChain (pieces ++ lit literal ∷ rest) →
    length literal ≡ len →
    Each (λ b. b < 256) (u ++ bytes) →
    AreChunkHits hits literal u bytes →
    AreLeftIn pieces u bytes enters →
    IsHeldBy (CarriesEntries len old) pieces (lit literal) u →
    IsRunTo (CarriesEntries len new) pieces (lit literal) u bytes ends n

pub literal-none : (len carry : ℕ) (bytes : List ℕ) (hits : ChunkHits) (enters ends : ChunkEnds) → TakesLiteralTo len carry carry bytes hits enters ends 0
literal-none len carry bytes hits enters ends pieces rest literal u fit count bytes_are are left held = run-none (CarriesEntries len carry) pieces (lit literal) u bytes ends held

module _ (len old carry : ℕ) (bytes own : List ℕ) (hits : ChunkHits) (own_hits : Hits) (enters ends ends' : ChunkEnds) (j n : ℕ) (run : LiteralRun) (some : 1 ≤ len) (below : 64 * j < length bytes) (small : j < 8) (next : n ≡ j + 1) (own_is : own ≡ block bytes j)
    (few : length own ≤ 64) (within : 64 * j + length own ≤ length bytes) (hits_are : (i : ℕ) → i ≤ 64 → is_hit own_hits i ≡ is_hit_at hits (64 * j + i)) (runs : RunsLiteral len own_hits (slice_index enters.before j) carry (length own) run) (more : AreMoreEnds ends ends' j run.ends.before run.ends.behind) where
  -- one more block
  pub literal-more : TakesLiteralTo len old carry bytes hits enters ends j → TakesLiteralTo len old run.carry bytes hits enters ends' n
  literal-more before_now pieces rest literal u fit count bytes_are are left held =
      let so_far = before_now pieces rest literal u fit count bytes_are are left held in
      let sized : length (block bytes j) ≡ length own = ap length (sym own_is) in
      let last : suc j ≡ j + 1 = omega arith in
      let upto : u ++ bytes ≡ (front u bytes j ++ block bytes j) ++ drop (64 * suc j) bytes = rest-of u bytes (suc j) ∙ ap (λ v. v ++ drop (64 * suc j) bytes) (front-more u bytes j (suc j) last) in
      run-more (CarriesEntries len carry) (CarriesEntries len run.carry) pieces rest (lit literal) u bytes enters nowhere ends ends' j n run.ends.before run.ends.behind run.ends.before run.ends.behind fit left
      (literal-empty literal u bytes (omega (arith, count)) enters nowhere nowhere-none)
      (λ entered len_entered field.
      runs literal (front u bytes j) (block bytes j) entered count sized len_entered (each-left (λ b. b < 256) (front u bytes j ++ block bytes j) (drop (64 * suc j) bytes) (subst (λ v. Each (λ b. b < 256) v) upto bytes_are)) field
      (block-hits hits own_hits literal u bytes j hits_are below (omega (arith, sized)) (omega (arith, sized)) are))
      (through-alone run.ends.before (slice_index enters.before j) (slice_index nowhere.before j) (nowhere-none.before j (omega arith))) (through-alone run.ends.behind (slice_index enters.behind j) (slice_index nowhere.behind j) (nowhere-none.behind j (omega arith))) more next small so_far

-- all blocks
pub literal-all : (len old new : ℕ) (bytes : List ℕ) (hits : ChunkHits) (enters ends : ChunkEnds) (n : ℕ) → length bytes ≤ 64 * n → AreNowhereFrom n ends → TakesLiteralTo len old new bytes hits enters ends n → TakesLiteral len old new bytes hits enters ends
literal-all len old new bytes hits enters ends n all none takes pieces rest literal u fit count bytes_are are left held =
    run-all (CarriesEntries len new) pieces (lit literal) u bytes ends n all none (takes pieces rest literal u fit count bytes_are are left held)

turn-cases : (k len : ℕ) (a : Bool) → (k < len → a ≡ false) → (nat_lt k len && a) ≡ false
turn-cases k len a none = elim (cases_lt k len) [
  | inl low ↦ ap (λ b. b && a) (lt-ltb k len low) ∙ none low
  | inr high ↦ ap (λ b. b && a) (le-ltb k len high)
]

turned-out : (k len : ℕ) (a : Bool) → k < len → (nat_lt k len && a) ≡ false → a ≡ false
turned-out k len a low none = sym (ap (λ b. b && a) (lt-ltb k len low)) ∙ none

-- the word may stand behind the block
pub carry-on : (len carry new enters at count end : ℕ) → IsCarryAt len carry at → end ≡ at + count → ((i : ℕ) → i < len → word_bit new i ≡ was_entered len enters carry (count + i)) → IsCarryAt len new end
carry-on len carry new enters at count end well end_is bits k high =
    turn-cases k len (word_bit new (len - suc k)) (λ low.
    let i = len - suc k in
    let early : count + i < len = omega arith in
    let back = k - count in
    let there : len - suc back ≡ count + i = omega arith in
    let old : word_bit carry (count + i) ≡ false = ap (λ n. word_bit carry n) (sym there) ∙ turned-out back len (word_bit carry (len - suc back)) (omega arith) (well back (omega arith)) in
    bits i (omega arith) ∙ ap (λ (b : Bool). if b then word_bit carry (count + i) else word_bit enters (count + i - len)) (lt-ltb (count + i) len early) ∙ old)

-- the hits of a block by those of the chunk
pub hit-later : (hits : ChunkHits) (n i : ℕ) → i < 64 → word_bit (slice_index hits.behind n) i ≡ is_hit_at hits (64 * n + suc i)
hit-later hits n i small =
    let next : 64 * n + suc i ≡ suc (64 * n + i) = omega arith in
    let word : n ≡ (64 * n + i) / 64 = omega arith in
    let bit : i ≡ (64 * n + i) % 64 = omega arith in
    ap (λ w. word_bit (slice_index hits.behind w) i) word ∙ ap (λ b. word_bit (slice_index hits.behind ((64 * n + i) / 64)) b) bit ∙ ap (λ m. is_hit_at hits m) (sym next)

pub hit-first : (hits : ChunkHits) (n : ℕ) → (n ≡ 0 → ⊥) → word_bit (slice_index hits.behind (n - 1)) 63 ≡ is_hit_at hits (64 * n)
hit-first hits n some =
    let here : 64 * (n - 1) + suc 63 ≡ 64 * n = omega arith in
    hit-later hits (n - 1) 63 (omega arith) ∙ ap (λ m. is_hit_at hits m) here

pub hits-of : (hits : ChunkHits) (own : Hits) (n : ℕ) → own.at_start ≡ is_hit_at hits (64 * n) → own.behind ≡ slice_index hits.behind n → (i : ℕ) → i ≤ 64 → is_hit own i ≡ is_hit_at hits (64 * n + i)
hits-of hits own n start word zero low = let same : 64 * n ≡ 64 * n + 0 = omega arith in start ∙ ap (λ m. is_hit_at hits m) same
hits-of hits own n start word (suc i) low = ap (λ w. word_bit w i) word ∙ hit-later hits n i (omega arith)

-- bytes that tell of the entries
pub literal-part : (len old new : ℕ) (part now bytes : List ℕ) (hits : ChunkHits) (enters ends : ChunkEnds) → ((u : List ℕ) (entered : List Bool) → TellsEntries len (has_bit part) u entered → TellsCarried len old u entered) →
    ((u : List ℕ) (entered : List Bool) → TellsCarried len new u entered → TellsEntries len (has_bit now) u entered) → TakesLiteral len old new bytes hits enters ends → TakesLiteralPart len part now bytes hits enters ends
literal-part len old new part now bytes hits enters ends to from takes pieces rest literal u fit count bytes_are are left held =
    let run = takes pieces rest literal u fit count bytes_are are left (record { entered = held.entered; are = held.are; field = to u held.entered held.field }) in record {
      held = record { entered = run.held.entered; are = run.held.are; field = from (u ++ bytes) run.held.entered run.held.field };
      left = run.left;
    }
