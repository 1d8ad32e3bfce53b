-- Engines without a parent: where they need to be entered.
use Rattle.std.proofs.Common.{◌≡◌, ◌↔◌, ℕ, zero, suc, ◌+◌, ◌/◌, ◌%◌, ◌<◌, ◌≤◌, Bool, true, false, ◌||◌, List, [], ◌∷◌, ◌++◌, length, take, replicate, slice_get, slice_index, eqb, None, Some, refl, sym, ap, subst, ◌∙◌, inl, inr, arith}
use Rattle.std.specs.Prelude.{EachIndex}
use Rattle.std.specs.Int.{bit_at}
use Rattle.std.proofs.lemmas.Nat.Bits.{bit_at-zero}
use Rattle.std.proofs.lemmas.Bool.{cases_eq}
use Rattle.std.proofs.lemmas.List.{get_or-replicate, append-nil, replicate_more, take_all}
use Rattle.hs_base.specs.declared.context.Next.{Next}
use Rattle.hs_base.specs.declared.context.Next.TheVariants as after
use Rattle.hs_base.specs.declared.context.Prev.{Prev}
use Rattle.hs_base.specs.Bits.{has_word_bit}
use Rattle.hs_base.specs.Contexts.{class_of}
use Rattle.hs_base.specs.Fields.{Leaves}
use Rattle.hs_base.specs.Trees.{Tree}
use Rattle.hs_base.proofs.ChainStreamLemmas.{leaving-begins}
use Rattle.hs_bits.specs.WordBits.{AreSet, bits_of, word_bit}
use Rattle.hs_bits.proofs.BlockLemmas.{block-more, entered-more, length-block, length-entered}
use Rattle.hs_bits.proofs.PlaceLemmas.{bit-none}
use Rattle.hs_block.specs.Blocks.{IsFieldOf}
use Rattle.hs_engine.specs.Engines.{IsQuiet, Meaning}
use Rattle.hs_lazy.specs.Caches.{told}
use Rattle.hs_lazy.specs.declared.cache.Cache.{Cache}
use Rattle.hs_nodes.specs.Left.{AreLeftIn}
use Rattle.hs_nodes.specs.Starting.{AreStartsEnough, DoStartsSuffice, IsEnteredThroughout, ScansBlock}
use Rattle.hs_nodes.specs.Waking.{AreRowsSound, AreStartsBy, AreWakesSound, HavePlaces, IsKindAsleep, IsListed, is_never_empty, no_places}
use Rattle.hs_nodes.specs.declared.ends.ChunkEnds.{ChunkEnds}
use Rattle.hs_nodes.specs.declared.table.Node.{Node}
use Rattle.hs_nodes.specs.declared.table.NodeTable.{NodeTable}
use Rattle.hs_nodes.specs.declared.wake_table.WakeTable.{WakeTable}
use Rattle.hs_waking.specs.Fits.{FitsAt, FitsNowhere, IsRowBy, row_numbers}
use Rattle.hs_waking.specs.declared.wake_row.WakeRow.{WakeRow}
use Rattle.hs_base.specs.declared.byte_set.ByteSet.{ByteSet}
use Rattle.hs_waking.specs.EntryRows.{DoEntriesSuffice, entries_to}
use Rattle.hs_waking.specs.Starts.{start_word, starts_at}
use Rattle.hs_waking.specs.declared.starts.Starts.{Starts}
use Rattle.hs_nodes.proofs.KindLemmas.{one-value}
use Rattle.hs_nodes.proofs.WakeLemmas.{row-asleep}
use Rattle.hs_waking.proofs.StartLemmas.{told-starts}
use Rattle.hs_waking.proofs.WordLemmas.{all-ones}
use Rattle.std.proofs.lemmas.Bool.{lt-ltb}

-- a block that an engine at rest isn't entered in
module _ (m : Meaning) (region : List ℕ) (prev : Prev) (at enters : ℕ) (bytes : List ℕ) (never : m.always ≡ false) (quiet : IsQuiet m region) (small : EachIndex bytes (λ i. slice_index bytes i < 256)) (none : enters ≡ 0) where
  unset : (i : ℕ) → word_bit enters i ≡ false
  unset i = ap (λ w. word_bit w i) none ∙ bit-none i

  module _ (tree : Tree) (u : List ℕ) (entered : List Bool) (of : IsFieldOf m region prev at tree u entered) where
    counted : (i : ℕ) → i ≤ length bytes → length (entered ++ bits_of enters i) ≡ length (u ++ take i bytes)
    counted i within = omega (arith, of.count, length-entered entered enters i, length-block u bytes i within)

    quiet-to : (i : ℕ) → i ≤ length bytes → m.field region tree (u ++ take i bytes) (entered ++ bits_of enters i)
    quiet-to zero within = subst (λ v. m.field region tree v (entered ++ [])) (sym (append-nil u)) (subst (m.field region tree u) (sym (append-nil entered)) of.field)
    quiet-to (suc i) within =
        let next : i + 1 ≡ suc i = omega arith in
        let same : (m.always || false) ≡ word_bit enters i = ap (λ b. b || false) never ∙ sym (unset i) in
        subst (λ n. m.field region tree (u ++ take n bytes) (entered ++ bits_of enters n)) next
        (subst (λ es. m.field region tree (u ++ take (i + 1) bytes) es) (entered-more entered enters i)
        (subst (λ v. m.field region tree v ((entered ++ bits_of enters i) ++ word_bit enters i ∷ [])) (block-more u bytes i (omega arith))
        (subst (λ b. m.field region tree ((u ++ take i bytes) ++ slice_index bytes i ∷ []) ((entered ++ bits_of enters i) ++ b ∷ [])) same
        (quiet.stays never (slice_index bytes i) (small i (omega arith)) tree (u ++ take i bytes) (entered ++ bits_of enters i) of.runs (counted i (omega arith)) (quiet-to i (omega arith))))))

    not-left : (i : ℕ) → i ≤ length bytes → (next : Next) → Leaves tree (u ++ take i bytes) (entered ++ bits_of enters i) next → ⊥
    not-left i within next = quiet.leaves_nothing tree (u ++ take i bytes) (entered ++ bits_of enters i) of.runs (counted i within) (quiet-to i within) next

  nothing-there : (i : ℕ) {A : Type 0} → (A → ⊥) → (word_bit 0 i ≡ true) ↔ A
  nothing-there i not = (λ set. let both : true ≡ false = sym set ∙ bit-none i in absurd (cc), λ a. absurd (not a))

  pub quiet-scans : ScansBlock m region region prev at enters bytes (record { before = 0; behind = 0 })
  quiet-scans tree u entered of = record {
    field = subst (λ v. m.field region tree (u ++ v) (entered ++ bits_of enters (length bytes))) (take_all (length bytes) bytes (omega arith)) (quiet-to tree u entered of (length bytes) (omega arith));
    before_is = record { below = λ i low. nothing-there i (not-left tree u entered of i (omega (arith, low)) (class_of (slice_index bytes i))); above = λ i high. bit-none i };
    behind_is = record { below = λ i low. nothing-there i (not-left tree u entered of (i + 1) (omega (arith, low)) after.Unknown); above = λ i high. bit-none i };
  }

-- the entries of a block before each byte of which the engine is entered
pub bits-all : (enters n : ℕ) → AreSet enters n → bits_of enters n ≡ replicate n true
bits-all enters zero set = refl
bits-all enters (suc n) set =
    let one : n + 1 ≡ suc n = omega arith in
    ap (λ b. bits_of enters n ++ b ∷ []) (set n (omega arith)) ∙ (ap (λ bs. bs ++ true ∷ []) (bits-all enters n (λ i low. set i (omega arith))) ∙ (replicate_more n true ∙ ap (λ k. replicate k true) one))

-- where no pieces are left is everywhere
pub everywhere-set : (bytes : List ℕ) (all : ChunkEnds) → ((u : List ℕ) → AreLeftIn [] u bytes all) → IsEnteredThroughout all bytes
everywhere-set bytes all left j small i low = (((left []).each j small).before_is.below i low).1 ((leaving-begins _ _).0 refl)

-- entries that are the same as far as they are asked

entries-same : (kept kept' : ℕ → Bool) (n : ℕ) → ((p : ℕ) → p < n → kept p ≡ kept' p) → entries_to kept n ≡ entries_to kept' n
entries-same kept kept' zero same = refl
entries-same kept kept' (suc n) same = ap (λ es. es ++ kept n ∷ []) (entries-same kept kept' n (λ p low. same p (omega arith))) ∙ ap (λ b. entries_to kept' n ++ b ∷ []) (same n (omega arith))

entries-all : (kept : ℕ → Bool) (n : ℕ) → ((p : ℕ) → p < n → kept p ≡ true) → entries_to kept n ≡ replicate n true
entries-all kept zero all = refl
entries-all kept (suc n) all =
    let one : n + 1 ≡ suc n = omega arith in
    ap (λ es. es ++ kept n ∷ []) (entries-all kept n (λ p low. all p (omega arith))) ∙ (ap (λ b. replicate n true ++ b ∷ []) (all n (omega arith)) ∙ (replicate_more n true ∙ ap (λ k. replicate k true) one))

pub suffice-same : (m : Meaning) (kept kept' : ℕ → Bool) (prev : Prev) (bytes : List ℕ) → ((p : ℕ) → p < length bytes → kept p ≡ kept' p) → DoEntriesSuffice m kept prev bytes → DoEntriesSuffice m kept' prev bytes
suffice-same m kept kept' prev bytes same suffice = record {
  field = λ tree u region entered runs count last held.
      suffice.field tree u region entered runs count last (subst (λ es. m.field region tree (u ++ bytes) (entered ++ es)) (sym (entries-same kept kept' (length bytes) same)) held);
  leaves = λ tree u entered runs count last i within next.
      subst (λ es. Leaves tree (u ++ take i bytes) (entered ++ es) next ↔ Leaves tree (u ++ take i bytes) (entered ++ replicate i true) next) (entries-same kept kept' i (λ p low. same p (omega (arith, low, within))))
      (suffice.leaves tree u entered runs count last i within next);
}

pub suffice-all : (m : Meaning) (kept : ℕ → Bool) (prev : Prev) (bytes : List ℕ) → ((p : ℕ) → p < length bytes → kept p ≡ true) → DoEntriesSuffice m kept prev bytes
suffice-all m kept prev bytes all = record {
  field = λ tree u region entered runs count last held. subst (λ es. m.field region tree (u ++ bytes) (entered ++ es)) (entries-all kept (length bytes) all) held;
  leaves = λ tree u entered runs count last i within next.
      subst (λ es. Leaves tree (u ++ take i bytes) (entered ++ es) next ↔ Leaves tree (u ++ take i bytes) (entered ++ replicate i true) next) (sym (entries-all kept i (λ p low. all p (omega (arith, low, within)))))
      (λ leaves. leaves, λ leaves. leaves);
}

-- words that are all 0 have no place
pub zero-places : (places : List ℕ) → ((j : ℕ) → j < 8 → slice_index places j ≡ 0) → (p : ℕ) → p < 512 → has_word_bit places p ≡ false
unfolding has_word_bit
zero-places places zero_words p small = ap (λ w. eqb (bit_at w (p % 64)) 1) (zero_words (p / 64) (omega arith)) ∙ ap (λ b. eqb b 1) (bit_at-zero (p % 64))

pub word-none : (j : ℕ) → j < 8 → slice_index no_places j ≡ 0
word-none j small = get_or-replicate 8 j 0 0 small

-- the places at which rows fit, row by row
module _ (rows : List WakeRow) (sets : List ByteSet) (prev : Prev) (bytes : List ℕ) where
  pub places-none : (from : ℕ) (places : List ℕ) → HavePlaces rows sets from from prev bytes places
  places-none from places i row cut p low high = absurd (omega (arith, low, high))

  pub places-all : (from to : ℕ) (places : List ℕ) → places ≡ replicate 8 18446744073709551615 → length bytes ≤ 512 → HavePlaces rows sets from to prev bytes places
  places-all from to places all few i row cut p low high at_row numbered inside fits = ap (λ ws. has_word_bit ws p) all ∙ (all-ones p 512 refl (omega (arith, inside, few)) ∙ lt-ltb p 512 (omega (arith, inside, few)))

  pub places-more : (from n m : ℕ) (old new : List ℕ) (row : WakeRow) → m ≡ n + 1 → slice_get rows n ≡ Some row → ((p : ℕ) → has_word_bit old p ≡ true → has_word_bit new p ≡ true) →
      ((cut : List ByteSet) (p : ℕ) → IsRowBy (row_numbers row) sets cut → p < length bytes → FitsAt row.behind cut prev bytes p → has_word_bit new p ≡ true) →
      HavePlaces rows sets from n prev bytes old → HavePlaces rows sets from m prev bytes new
  places-more from n m old new row next at kept own have i other cut p low high at_other numbered inside fits =
      elim (cases_eq i n) [
        | inl same ↦
            let one : row ≡ other = one-value row other (slice_get rows n) at (ap (slice_get rows) (sym same) ∙ at_other) in
            subst (λ (r : WakeRow). IsRowBy (row_numbers r) sets cut → FitsAt r.behind cut prev bytes p → has_word_bit new p ≡ true) one (λ is at_p. own cut p is inside at_p) numbered fits
        | inr apart ↦ kept p (have i other cut p low (omega (arith, high, next, apart)) at_other numbered inside fits)
      ]

  -- of a row whose places are united with those so far
  pub places-united : (from n m : ℕ) (old fitting new : List ℕ) (row : WakeRow) → m ≡ n + 1 → length bytes ≤ 512 → slice_get rows n ≡ Some row → ((p : ℕ) → has_word_bit new p ≡ (has_word_bit fitting p || has_word_bit old p)) →
      ((own : List ByteSet) → IsRowBy (row_numbers row) sets own → (p : ℕ) → p < 512 → (has_word_bit fitting p ≡ true) ↔ ((p < length bytes) × FitsAt row.behind own prev bytes p)) →
      HavePlaces rows sets from n prev bytes old → HavePlaces rows sets from m prev bytes new
  places-united from n m old fitting new row next few at united fits_at =
      places-more from n m old new row next at (λ p set. united p ∙ (ap (λ b. has_word_bit fitting p || b) set ∙ either (has_word_bit fitting p)))
      (λ cut p numbered inside fits. united p ∙ ap (λ b. b || has_word_bit old p) ((fits_at cut numbered p (omega (arith, inside, few))).1 (inside, fits)))
    where
      either : (b : Bool) → (b || true) ≡ true
      either true = refl
      either false = refl

  -- of one row that fits nowhere
  pub none-starts : (from to : ℕ) (row : WakeRow) → to ≡ from + 1 → slice_get rows from ≡ Some row → ((own : List ByteSet) → IsRowBy (row_numbers row) sets own → FitsNowhere row.behind own prev bytes) → HavePlaces rows sets from to prev bytes no_places
  none-starts from to row next at nowhere = places-more from from to no_places no_places row next at (λ p set. set) (λ cut p numbered inside fits. absurd (nowhere cut numbered p inside fits)) (places-none from no_places)

-- the number behind one of a list
pub start-behind : (xs : List ℕ) (i : ℕ) → slice_index xs (i + 1) ≡ slice_index xs (suc i)
start-behind xs i = let next : i + 1 ≡ suc i = omega arith in ap (slice_index xs) next

-- a number that stands in a list
pub read-there : (xs : List ℕ) (i : ℕ) → i < length xs → slice_get xs i ≡ Some (slice_index xs i)
read-there [] i low = absurd (omega arith)
read-there (x ∷ xs) zero low = refl
read-there (x ∷ xs) (suc i) low = read-there xs i (omega arith)

-- the rows of a node of an engine tell it
module _ {E : Type 0} (meaning : E → Meaning) (table : NodeTable E) (wakes : WakeTable) (place k : ℕ) (prev : Prev) (bytes places : List ℕ) (starts : Starts) (sound : AreRowsSound meaning table wakes) (few : length bytes ≤ 512) (small : EachIndex bytes (λ i. slice_index bytes i < 256))
    (at : slice_get wakes.first_engines.items place ≡ Some k) (told : k < starts.count → (j : ℕ) → j < 8 → start_word starts k j ≡ slice_index places j) where
  pub row-starts : (node : Node) → slice_get table.nodes.items k ≡ Some node → AreStartsBy wakes place prev bytes places → DoStartsSuffice meaning table.engines.items node.kind starts k prev bytes
  row-starts node there have number null e kind_is at_e =
      let own = sound.are place k number null node e at there kind_is at_e in
      own.tell.enters (starts_at starts k) prev bytes small (λ d p one at_one low fits.
      let (i, row, from, to, at_row, covers) = own.each d one at_one in
      told-starts starts k places told p (omega (arith, low, few)) (have i row covers.cut p from to at_row covers.numbered low (covers.covers prev bytes p fits)))

  -- one that has no empty span, and whose matches begin nowhere, sleeps
  pub starts-asleep : (node : Node) → slice_get table.nodes.items k ≡ Some node → is_never_empty node.kind ≡ true → ((p : ℕ) → p < 512 → has_word_bit places p ≡ false) → AreStartsBy wakes place prev bytes places → IsKindAsleep meaning table.engines.items node.kind prev bytes
  starts-asleep node there never none have =
      row-asleep meaning table wakes place k node prev bytes places sound small at there have (λ p low. none p (omega (arith, low, few))) node.kind refl never

-- so many of the nodes of a list have been told
abbrev pub AreStartsTo : {E : Type 0} (meaning : E → Meaning) (table : NodeTable E) (cache : Cache) (numbers : List ℕ) (prev : Prev) (bytes : List ℕ) (starts : Starts) (n : ℕ) → Type 0
AreStartsTo meaning table cache numbers prev bytes starts n =
    (i : ℕ) (node : Node) → i < n → i < length numbers → slice_get table.nodes.items (slice_index numbers i) ≡ Some node → told cache (slice_index numbers i) ≡ None →
    DoStartsSuffice meaning table.engines.items node.kind starts (slice_index numbers i) prev bytes

module _ {E : Type 0} (meaning : E → Meaning) (table : NodeTable E) (cache : Cache) (numbers : List ℕ) (prev : Prev) (bytes : List ℕ) where
  pub starts-none : (starts : Starts) → AreStartsTo meaning table cache numbers prev bytes starts 0
  starts-none starts i node low = absurd (omega arith)

  pub starts-more : (starts new : Starts) (n m : ℕ) → m ≡ n + 1 → length bytes ≤ 512 → ((k j : ℕ) → (k ≡ slice_index numbers n → ⊥) → j < 8 → start_word new k j ≡ start_word starts k j) →
      ((node : Node) → slice_get table.nodes.items (slice_index numbers n) ≡ Some node → told cache (slice_index numbers n) ≡ None → DoStartsSuffice meaning table.engines.items node.kind new (slice_index numbers n) prev bytes) →
      AreStartsTo meaning table cache numbers prev bytes starts n → AreStartsTo meaning table cache numbers prev bytes new m
  starts-more starts new n m next few others own before i node low inside there untold =
      elim (cases_eq (slice_index numbers i) (slice_index numbers n)) [
        | inl same ↦ subst (λ k. DoStartsSuffice meaning table.engines.items node.kind new k prev bytes) (sym same) (own node (ap (slice_get table.nodes.items) (sym same) ∙ there) (ap (told cache) (sym same) ∙ untold))
        | inr apart ↦
            let elsewhere : i ≡ n → ⊥ = λ same. apart (ap (slice_index numbers) same) in
            let earlier : i < n = omega (arith, low, next, elsewhere) in
            λ number null e kind_is at_e.
            suffice-same (meaning e) (starts_at starts (slice_index numbers i)) (starts_at new (slice_index numbers i)) prev bytes
            (λ p within. ap (λ w. word_bit w (p % 64)) (sym (others (slice_index numbers i) (p / 64) apart (omega (arith, within, few)))))
            (before i node earlier inside there untold number null e kind_is at_e)
      ]

  pub starts-all : (wakes : WakeTable) (literals : ℕ) (starts : Starts) (n : ℕ) → AreWakesSound table.nodes.items wakes literals → numbers ≡ wakes.first_engines.items → length numbers ≤ n → AreStartsTo meaning table cache numbers prev bytes starts n → AreStartsEnough meaning table cache starts prev bytes
  starts-all wakes literals starts n sound same all to k node there no_parent untold number null e kind_is at_e =
      let listed = subst (λ ns. IsListed ns k) (sym same) (sound.entered k number null node there kind_is no_parent) in
      subst (λ i. DoEntriesSuffice (meaning e) (starts_at starts i) prev bytes) listed.is
      (to listed.place node (omega (arith, listed.within, all)) listed.within (ap (slice_get table.nodes.items) listed.is ∙ there) (ap (told cache) listed.is ∙ untold) number null e kind_is at_e)
