-- Where all noted identifiers are settled, what is known and what is told is that of the longer stream.
use Rattle.std.proofs.Common.{◌≡◌, ◌↔◌, ℕ, zero, suc, ◌+◌, ◌-◌, ◌<◌, ◌≤◌, ◌⊎◌, Bool, true, false, ◌||◌, ◌&&◌, List, [], ◌∷◌, ◌++◌, length, take, get_or, Some, slice_get, refl, sym, ap, subst, ◌∙◌, inl, inr, arith}
use Rattle.std.specs.Prelude.{option_map}
use Rattle.std.proofs.lemmas.Bool.{both_ways, cases_Bool, cases_lt, or_left, and_left, and_parts, false_from_ne_true, true_from_ne_false}
use Rattle.std.proofs.lemmas.List.{length-map}
use Rattle.std.proofs.lemmas.Option.{same_Some, slice_get-map, slice_get_within, slice_get-get_or, get_or_from_slice_get}
use Rattle.hs_base.specs.declared.context.Next.{Next}
use Rattle.hs_base.specs.declared.context.Next.TheVariants as after
use Rattle.hs_base.specs.Contexts.{class_of}
use Rattle.hs_base.specs.Bits.{has_word_bit}
use Rattle.hs_base.specs.Lists.{Each, IsMember}
use Rattle.hs_base.specs.Patterns.{Pattern, is_single}
use Rattle.hs_base.specs.Reports.{IsReport}
use Rattle.hs_base.specs.Told.{Pair, IsTold, IsNew}
use Rattle.hs_base.specs.Settling.{HasEndHere, Kept, Ends, AreRising}
use Rattle.hs_base.proofs.ListLemmas.{each-member, each-of_members, place-member, member-place}
use Rattle.hs_reports.specs.declared.identifier.Identifier.{Identifier}
use Rattle.hs_reports.specs.Chunks.{kept_behind}
use Rattle.hs_reports.specs.EndTables.{EndTable, words_of, is_noted, IsQuiet}
use Rattle.hs_reports.specs.Heard.{IsHeard}
use Rattle.hs_reports.specs.Identifiers.{id_numbers, numbers_of}
use Rattle.hs_reports.specs.Settlement.{known_at, AreKnown, ArePending, is_spent, AreBlockEnds, SettlesBlock}
use Rattle.hs_reports.proofs.SettlementLemmas.{IsSettledAt, IsSettledTo}
use Rattle.hs_reports.specs.Telling.{AreTellingWords, IsToldBefore, AreBlockWords, is_telling}
use Rattle.hs_reports.specs.Tellings.{TellingTable, pairs_of_tellings}
use Rattle.hs_reports.specs.Terminals.{ends_by_words}
use Rattle.hs_reports.specs.WordBits.{word_bit}
use Rattle.hs_reports.proofs.BlockLemmas.{block-new_but_spent}
use Rattle.hs_reports.proofs.ChunkLemmas.{AreEndsOrSpent, IsChunkOf, chunk-heard_or_spent, chunk-stays_or_spent}
use Rattle.hs_reports.proofs.HeardLemmas.{IsSpent}
use Rattle.hs_reports.proofs.TellingLemmas.{words-kept, told-before}
use Rattle.hs_reports.proofs.WordBitLemmas.{bit-zero}

abbrev pub no_identifier : Identifier
no_identifier = record { id = record { 0 = 0 }; single = false }

-- the identifier of that number, as a number
number-at : (identifiers : List Identifier) (p : ℕ) (x : Identifier) → slice_get identifiers p ≡ Some x → slice_get (numbers_of identifiers) p ≡ Some x.id.0
number-at identifiers p x at = slice_get-map (λ y. y.id.0) identifiers p ∙ ap (option_map (λ y. y.id.0)) at

at-number : (identifiers : List Identifier) (p id : ℕ) → slice_get (numbers_of identifiers) p ≡ Some id → (x : Identifier) × (slice_get identifiers p ≡ Some x) × (x.id.0 ≡ id)
at-number identifiers p id at =
    let within : p < length identifiers = omega (arith, slice_get_within (numbers_of identifiers) p id at, length-map identifiers (λ y. y.id.0)) in
    let there : slice_get identifiers p ≡ Some (get_or identifiers p no_identifier) = slice_get-get_or identifiers p no_identifier within in (
      get_or identifiers p no_identifier,
      there,
      same_Some (get_or identifiers p no_identifier).id.0 id (sym (number-at identifiers p (get_or identifiers p no_identifier) there) ∙ at),
    )

-- what is told is of the identifiers, whatever the ends are
pub settled-named : (identifiers : List Identifier) (last : ℕ) (table table' : EndTable) (told here told' here' : List ℕ) (tellings : TellingTable) (n : ℕ) → IsSettledTo identifiers last table told here table' told' here' tellings n →
    Each (λ id. IsMember id (numbers_of identifiers)) (id_numbers tellings.ids)
settled-named identifiers last table table' told here told' here' tellings n is =
    each-of_members (λ id. IsMember id (numbers_of identifiers)) (id_numbers tellings.ids)
    (λ id member.
    let (k, at) = member-place (id_numbers tellings.ids) id member in
    let below : k < length is.places = omega (arith, slice_get_within (id_numbers tellings.ids) k id at, length-map tellings.ids (λ y. y.0), is.count) in
    let p : ℕ = get_or is.places k 0 in
    let s : IsSettledAt identifiers last table told here told' here' tellings k p = is.each k p (slice_get-get_or is.places k 0 below) in
    let same : s.x.id.0 ≡ id = same_Some s.x.id.0 id (sym (slice_get-map (λ y. y.0) tellings.ids k ∙ ap (option_map (λ y. y.0)) s.named) ∙ at) in
    subst (λ j. IsMember j (numbers_of identifiers)) same (place-member (numbers_of identifiers) s.x.id.0 p (number-at identifiers p s.x s.there)))

-- what ends has one of the identifiers
ending-named : (P : List Pattern) (ids : List ℕ) (id : ℕ) (w : List ℕ) (next : Next) → Each (λ x. IsMember x.id ids) P → HasEndHere P id w next → IsMember id ids
ending-named [] ids id w next each found = absurd found
ending-named (x ∷ P) ids id w next each (inl here) = subst (λ k. IsMember k ids) here.named each.0
ending-named (x ∷ P) ids id w next each (inr there) = ending-named P ids id w next each.1 there

-- a later number has a greater identifier
rising-at : (ids : List ℕ) → AreRising ids → (p q a b : ℕ) → slice_get ids p ≡ Some a → slice_get ids q ≡ Some b → p < q → a < b
rising-at [] rising p q a b at at' below = absurd (cc)
rising-at (x ∷ ids) rising p zero a b at at' below = absurd (omega arith)
rising-at (x ∷ ids) rising zero (suc q) a b at at' below =
    let same : x ≡ a = same_Some x a at in
    let above : x < b = each-member (λ y. x < y) ids b rising.0 (place-member ids b q at') in
    omega arith
rising-at (x ∷ ids) rising (suc p) (suc q) a b at at' below = rising-at ids rising.1 p q a b at at' (omega arith)

-- and a list rises that does so at every two places
rising-by : (xs : List ℕ) → ((j k a b : ℕ) → slice_get xs j ≡ Some a → slice_get xs k ≡ Some b → j < k → a < b) → AreRising xs
rising-by [] rises = tt
rising-by (x ∷ xs) rises = (
  above xs (λ k b at. rises 0 (suc k) x b refl at (omega arith)),
  rising-by xs (λ j k a b at at' below. rises (suc j) (suc k) a b at at' (omega arith)),
)
  where
    above : (ys : List ℕ) → ((k b : ℕ) → slice_get ys k ≡ Some b → x < b) → Each (λ y. x < y) ys
    above [] all = tt
    above (y ∷ ys) all = (all 0 y refl, above ys (λ k b at. all (suc k) b at))

-- what is kept without the end, and of a single identifier alone
heard-alike : (P : List Pattern) (u : List ℕ) (id : ℕ) (kept kept' : Kept) → (is_single P id ≡ true → kept.told ≡ kept'.told) → kept.here ≡ kept'.here → IsHeard P u id kept → IsHeard P u id kept'
heard-alike P u id kept kept' told here is = record {
  told = λ single. subst (λ t. (t ≡ true) ↔ ((to : ℕ) × IsReport P u false id to)) (told single) (is.told single);
  here = subst (λ t. (t ≡ true) ↔ IsReport P u false id (length u)) here is.here;
}

-- nothing is told of bytes without an end
none-told : (single : Bool) (kept : Kept) (before behind late early n : ℕ) → AreTellingWords single kept (ends_by_words before behind) late early →
    ((i : ℕ) → n ≤ i → i < 64 → (word_bit before i ≡ false) × (word_bit behind i ≡ false)) → IsToldBefore n late early
none-told single kept before behind late early n words none i above below = (
  words.late_is i below ∙ and_none (word_bit before i) _ (none i above below).0,
  words.early_is i below ∙ and_none (word_bit behind i) _ (none i above below).1,
)
  where
    and_none : (a b : Bool) → a ≡ false → (a && b) ≡ false
    and_none a b is = and_left a b is

-- what was told stays told
pub told-grows : (identifiers : List Identifier) (last : ℕ) (table table' : EndTable) (told here told' here' : List ℕ) (tellings : TellingTable) (n : ℕ) → IsSettledTo identifiers last table told here table' told' here' tellings n →
    (p : ℕ) → has_word_bit told p ≡ true → has_word_bit told' p ≡ true
told-grows identifiers last table table' told here told' here' tellings n is p set = elim (cases_Bool (is_noted table p)) [
  | inl noted ↦ elim (cases_lt p n) [
    | inl below ↦
        let (k, at) = member-place is.places p (is.noted p below noted) in
        let s : IsSettledAt identifiers last table told here told' here' tellings k p = is.each k p at in
        s.told_is ∙ or_left (has_word_bit told p) (s.x.single && is_telling (get_or tellings.lates k 0) (get_or tellings.earlies k 0)) set
    | inr above ↦ let (same, _, _, _) = is.others p (inl above) in same ∙ set
  ]
  | inr none ↦ let (same, _, _, _) = is.others p (inr none) in same ∙ set
]

module _ (identifiers : List Identifier) (last : ℕ) (table table' : EndTable) (told here told' here' : List ℕ) (tellings : TellingTable) (n : ℕ)
    (small : last < 64) (quiet : IsQuiet table) (whole : length identifiers ≤ n) (is : IsSettledTo identifiers last table told here table' told' here' tellings n)
    (P : List Pattern) (u bytes : List ℕ) (count : length bytes ≡ last + 1) (block : AreBlockEnds P u bytes identifiers told table) (known : AreKnown P u identifiers told here) (pending : ArePending here table) where
  -- an identifier that is spent by the bits is spent
  spent : (p : ℕ) (x : Identifier) → slice_get identifiers p ≡ Some x → is_spent x told p ≡ true → IsSpent P u x.id.0
  spent p x there is-spent =
      let (one, told-p) = and_parts x.single (has_word_bit told p) is-spent in
      let single : is_single P x.id.0 ≡ true = known.single p x there ∙ one in
      let (to, report) = ((known.heard p x there).told single).0 told-p in
      record { single = single; to = to; reported = report }

  -- and of each other one the ends are known
  ends-or_spent : (p : ℕ) (x : Identifier) → slice_get identifiers p ≡ Some x → AreEndsOrSpent P u bytes x.id.0 (ends_by_words (words_of table p).before (words_of table p).behind)
  ends-or_spent p x there = elim (cases_Bool (is_spent x told p)) [
    | inl is-spent ↦ inr (spent p x there is-spent)
    | inr not-spent ↦ inl (block.ends p x there not-spent)
  ]

  -- what is settled of a noted identifier
  settled-words : (k p : ℕ) (s : IsSettledAt identifiers last table told here told' here' tellings k p) →
      AreTellingWords s.x.single (known_at told here p) (ends_by_words (words_of table p).before (words_of table p).behind) (get_or tellings.lates k 0) (get_or tellings.earlies k 0)
  settled-words k p s =
      s.tells (known_at told here p) (ends_by_words (words_of table p).before (words_of table p).behind) refl refl
      (record { before_is = λ i below. refl; behind_is = λ i below. refl })

  settled-within : (k p : ℕ) (s : IsSettledAt identifiers last table told here told' here' tellings k p) → IsToldBefore (length bytes) (get_or tellings.lates k 0) (get_or tellings.earlies k 0)
  settled-within k p s = elim (cases_Bool (is_spent s.x told p)) [
    | inl is-spent ↦
        let (one, told-p) = and_parts s.x.single (has_word_bit told p) is-spent in
        told-before (known_at told here p) (ends_by_words (words_of table p).before (words_of table p).behind) (get_or tellings.lates k 0) (get_or tellings.earlies k 0) (length bytes) told-p
        (subst (λ b. AreTellingWords b (known_at told here p) (ends_by_words (words_of table p).before (words_of table p).behind) (get_or tellings.lates k 0) (get_or tellings.earlies k 0)) one (settled-words k p s))
    | inr not-spent ↦
        none-told s.x.single (known_at told here p) (words_of table p).before (words_of table p).behind (get_or tellings.lates k 0) (get_or tellings.earlies k 0) (length bytes)
        (settled-words k p s) (λ i above below. block.within p i s.x s.there not-spent above below)
  ]

  heard-settled : (k p : ℕ) (s : IsSettledAt identifiers last table told here told' here' tellings k p) → IsHeard P (u ++ bytes) s.x.id.0 (known_at told' here' p)
  heard-settled k p s =
      let ends = ends_by_words (words_of table p).before (words_of table p).behind in
      let kept : Kept = known_at told here p in
      let single : is_single P s.x.id.0 ≡ s.x.single = known.single p s.x s.there in
      let (told-is, here-is) = words-kept s.x.single kept ends (get_or tellings.lates k 0) (get_or tellings.earlies k 0) (length bytes) (omega arith) (omega arith) s.late_fits s.early_fits
      (settled-words k p s) (settled-within k p s) in
      let last-is : length bytes - 1 ≡ last = omega arith in
      heard-alike P (u ++ bytes) s.x.id.0 (kept_behind s.x.single kept ends (length bytes)) (known_at told' here' p)
      (λ true-single.
      let yes : s.x.single ≡ true = sym single ∙ true-single in
      told-is ∙ sym (s.told_is ∙ ap (λ b. has_word_bit told p || (b && is_telling (get_or tellings.lates k 0) (get_or tellings.earlies k 0))) yes))
      (here-is ∙ (ap (λ i. word_bit (get_or tellings.earlies k 0) i) last-is ∙ sym s.here_is))
      (subst (λ b. IsHeard P (u ++ bytes) s.x.id.0 (kept_behind b kept ends (length bytes))) single
      (chunk-heard_or_spent P u bytes s.x.id.0 kept ends (known.heard p s.x s.there) (ends-or_spent p s.x s.there)))

  -- of one that isn't noted nothing ends
  heard-quiet : (p : ℕ) (x : Identifier) → slice_get identifiers p ≡ Some x → is_noted table p ≡ false → IsHeard P (u ++ bytes) x.id.0 (known_at told' here' p)
  heard-quiet p x there none =
      let ends = ends_by_words (words_of table p).before (words_of table p).behind in
      let (same-told, same-here, _, _) = is.others p (inr none) in
      let not-here : has_word_bit here p ≡ false = false_from_ne_true (has_word_bit here p) (λ set. both_ways (is_noted table p) none (pending p set)) in
      heard-alike P (u ++ bytes) x.id.0 (record { told = has_word_bit told p; here = false; last = false }) (known_at told' here' p)
      (λ single. sym same-told) (sym (same-here ∙ not-here))
      (chunk-stays_or_spent P u bytes x.id.0 (known_at told here p) ends (omega arith) (known.heard p x there) (ends-or_spent p x there)
      (λ i below. (ap (λ w. word_bit w.before i) (quiet p none) ∙ bit-zero i, ap (λ w. word_bit w.behind i) (quiet p none) ∙ bit-zero i)))

  known-behind : AreKnown P (u ++ bytes) identifiers told' here'
  known-behind = record {
    single = known.single;
    heard = λ p x there. elim (cases_Bool (is_noted table p)) [
      | inl noted ↦
          let inside : p < length identifiers = slice_get_within identifiers p x there in
          let (k, at) = member-place is.places p (is.noted p (omega arith) noted) in
          let s : IsSettledAt identifiers last table told here told' here' tellings k p = is.each k p at in
          subst (λ y. IsHeard P (u ++ bytes) y.id.0 (known_at told' here' p)) (same_Some s.x x (sym s.there ∙ there)) (heard-settled k p s)
      | inr none ↦ heard-quiet p x there none
    ];
  }

  -- the identifier that is told at a number

  place-at : (k : ℕ) → k < length is.places → slice_get is.places k ≡ Some (get_or is.places k 0)
  place-at k below = slice_get-get_or is.places k 0 below

  told-number : (k p : ℕ) (s : IsSettledAt identifiers last table told here told' here' tellings k p) → slice_get (id_numbers tellings.ids) k ≡ Some s.x.id.0
  told-number k p s = slice_get-map (λ y. y.0) tellings.ids k ∙ ap (option_map (λ y. y.0)) s.named

  number-within : (k id : ℕ) → slice_get (id_numbers tellings.ids) k ≡ Some id → k < length is.places
  number-within k id named = omega (arith, slice_get_within (id_numbers tellings.ids) k id named, length-map tellings.ids (λ y. y.0), is.count)

  rising-told : AreRising (id_numbers tellings.ids)
  rising-told =
      rising-by (id_numbers tellings.ids) (λ j k a b at at' below.
      let in-j : j < length is.places = number-within j a at in
      let in-k : k < length is.places = number-within k b at' in
      let s = is.each j (get_or is.places j 0) (place-at j in-j) in
      let t = is.each k (get_or is.places k 0) (place-at k in-k) in
      let first : s.x.id.0 ≡ a = same_Some s.x.id.0 a (sym (told-number j (get_or is.places j 0) s) ∙ at) in
      let second : t.x.id.0 ≡ b = same_Some t.x.id.0 b (sym (told-number k (get_or is.places k 0) t) ∙ at') in
      let order : get_or is.places j 0 < get_or is.places k 0 = rising-at is.places is.rising j k (get_or is.places j 0) (get_or is.places k 0) (place-at j in-j) (place-at k in-k) below in
      let less : s.x.id.0 < t.x.id.0 =
      rising-at (numbers_of identifiers) block.identifiers_are.rising (get_or is.places j 0) (get_or is.places k 0) s.x.id.0 t.x.id.0
      (number-at identifiers (get_or is.places j 0) s.x s.there) (number-at identifiers (get_or is.places k 0) t.x t.there) order in
      omega arith)

  -- an identifier with an end is told
  noted-told : (p : ℕ) (x : Identifier) → slice_get identifiers p ≡ Some x → (is_noted table p ≡ false → ⊥) → IsMember x.id.0 (id_numbers tellings.ids)
  noted-told p x there some =
      let inside : p < length identifiers = slice_get_within identifiers p x there in
      let noted : is_noted table p ≡ true = true_from_ne_false (is_noted table p) some in
      let (k, at) = member-place is.places p (is.noted p (omega arith) noted) in
      let s : IsSettledAt identifiers last table told here told' here' tellings k p = is.each k p at in
      subst (λ y. IsMember y.id.0 (id_numbers tellings.ids)) (same_Some s.x x (sym s.there ∙ there))
      (place-member (id_numbers tellings.ids) s.x.id.0 k (told-number k p s))

  -- what ends behind some bytes is told, where its bit is set, or spent
  ending-told : (id : ℕ) (w : List ℕ) (next : Next) → HasEndHere P id w next →
      ((p : ℕ) (x : Identifier) → slice_get identifiers p ≡ Some x → is_spent x told p ≡ false → HasEndHere P x.id.0 w next → is_noted table p ≡ false → ⊥) →
      IsMember id (id_numbers tellings.ids) ⊎ IsSpent P u id
  ending-told id w next found bit =
      let (p, number) = member-place (numbers_of identifiers) id (ending-named P (numbers_of identifiers) id w next block.identifiers_are.each found) in
      let (x, there, own) = at-number identifiers p id number in
      elim (cases_Bool (is_spent x told p)) [
        | inl is-spent ↦ inr (subst (IsSpent P u) own (spent p x there is-spent))
        | inr not-spent ↦
            inl (subst (λ k. IsMember k (id_numbers tellings.ids)) own
            (noted-told p x there (bit p x there not-spent (subst (λ k. HasEndHere P k w next) (sym own) found))))
      ]

  abbrev single-at : ℕ → Bool
  single-at k = (get_or identifiers (get_or is.places k 0) no_identifier).single

  abbrev kept-at : ℕ → Kept
  kept-at k = known_at told here (get_or is.places k 0)

  abbrev ends-at : ℕ → ℕ → Ends
  ends-at k = ends_by_words (words_of table (get_or is.places k 0)).before (words_of table (get_or is.places k 0)).behind

  own-identifier : (k : ℕ) (s : IsSettledAt identifiers last table told here told' here' tellings k (get_or is.places k 0)) → get_or identifiers (get_or is.places k 0) no_identifier ≡ s.x
  own-identifier k s = get_or_from_slice_get identifiers (get_or is.places k 0) s.x no_identifier s.there

  chunk : IsChunkOf P u bytes (id_numbers tellings.ids) single-at kept-at ends-at
  chunk = record {
    rising = rising-told;
    before = λ i id below found.
        ending-told id (u ++ take i bytes) (class_of (get_or bytes i 0)) found
        (λ p x there not-spent end none.
        both_ways (word_bit (words_of table p).before i) (ap (λ w. word_bit w.before i) (quiet p none) ∙ bit-zero i) ((block.ends p x there not-spent i below).before.1 end));
    behind = λ i id below found.
        ending-told id ((u ++ take i bytes) ++ get_or bytes i 0 ∷ []) after.Unknown found
        (λ p x there not-spent end none.
        both_ways (word_bit (words_of table p).behind i) (ap (λ w. word_bit w.behind i) (quiet p none) ∙ bit-zero i) ((block.ends p x there not-spent i below).behind.1 end));
    singles = λ k id named.
        let s = is.each k (get_or is.places k 0) (place-at k (number-within k id named)) in
        let own : s.x.id.0 ≡ id = same_Some s.x.id.0 id (sym (told-number k (get_or is.places k 0) s) ∙ named) in
        ap (is_single P) (sym own) ∙ (known.single (get_or is.places k 0) s.x s.there ∙ ap (λ y. y.single) (sym (own-identifier k s)));
    heard = λ k id named.
        let s = is.each k (get_or is.places k 0) (place-at k (number-within k id named)) in
        let own : s.x.id.0 ≡ id = same_Some s.x.id.0 id (sym (told-number k (get_or is.places k 0) s) ∙ named) in
        subst (λ n. IsHeard P u n (kept-at k)) own (known.heard (get_or is.places k 0) s.x s.there);
    ends_are = λ k id named.
        let s = is.each k (get_or is.places k 0) (place-at k (number-within k id named)) in
        let own : s.x.id.0 ≡ id = same_Some s.x.id.0 id (sym (told-number k (get_or is.places k 0) s) ∙ named) in
        subst (λ n. AreEndsOrSpent P u bytes n (ends-at k)) own (ends-or_spent (get_or is.places k 0) s.x s.there);
  }

  words-at : (k : ℕ) → k < length (id_numbers tellings.ids) → k < length is.places
  words-at k below = omega (arith, length-map tellings.ids (λ y. y.0), is.count)

  words : AreBlockWords (id_numbers tellings.ids) single-at kept-at ends-at tellings.lates tellings.earlies
  words k below =
      let s = is.each k (get_or is.places k 0) (place-at k (words-at k below)) in
      subst (λ y. AreTellingWords y.single (kept-at k) (ends-at k) (get_or tellings.lates k 0) (get_or tellings.earlies k 0)) (sym (own-identifier k s))
      (settled-words k (get_or is.places k 0) s)

  told-behind : (list : List Pair) → IsTold P u list → IsNew P u bytes (pairs_of_tellings tellings (length u) (last + 1))
  told-behind list told-list =
      subst (λ n. IsNew P u bytes (pairs_of_tellings tellings (length u) n)) count
      (block-new_but_spent P u bytes (id_numbers tellings.ids) single-at kept-at ends-at tellings.lates tellings.earlies list (omega arith) chunk words told-list)

pub settles-block : (identifiers : List Identifier) (last : ℕ) (table table' : EndTable) (told here told' here' : List ℕ) (tellings : TellingTable) (n : ℕ) → last < 64 → IsQuiet table → length identifiers ≤ n →
    IsSettledTo identifiers last table told here table' told' here' tellings n → SettlesBlock identifiers (last + 1) table told here told' here' tellings
settles-block identifiers last table table' told here told' here' tellings n small quiet whole is P u bytes count block known pending = (
  known-behind identifiers last table table' told here told' here' tellings n small quiet whole is P u bytes count block known pending,
  told-behind identifiers last table table' told here told' here' tellings n small quiet whole is P u bytes count block known pending,
)
