-- What a block settles of the noted identifiers, one by one.
use Rattle.std.proofs.Common.{◌≡◌, ℕ, zero, suc, ◌+◌, ◌-◌, ◌^◌, ◌<◌, ◌≤◌, ◌⊎◌, Bool, true, false, ◌||◌, ◌&&◌, List, [], ◌∷◌, ◌++◌, length, get_or, Option, Some, None, slice_get, slice_index, refl, sym, ap, subst, ◌∙◌, inl, inr, arith, length-append}
use Rattle.std.specs.Slice.Scan.{HoldsNowhere}
use Rattle.std.proofs.lemmas.Bool.{both_ways, cases_lt, cases_eq}
use Rattle.std.proofs.lemmas.List.{get_or_append_left, get_or_push, get_or_past}
use Rattle.std.proofs.lemmas.Option.{same_Some, slice_get_within}
use Rattle.hs_base.specs.Bits.{has_word_bit}
use Rattle.hs_base.specs.Lists.{Each, IsMember}
use Rattle.hs_base.specs.Settling.{AreRising}
use Rattle.hs_base.proofs.ListLemmas.{each-member, each-of_members, each-append, member-left, member-right, place-member, rising-append}
use Rattle.hs_bits.specs.NextBits.{IsNextBitIn}
use Rattle.hs_reports.specs.declared.identifier.Identifier.{Identifier}
use Rattle.hs_reports.specs.EndTables.{EndTable, no_words, words_of, is_noted, IsQuiet, HasNoEnds}
use Rattle.hs_reports.specs.Settlement.{ArePending, SettlesOne}
use Rattle.hs_reports.specs.Telling.{TellsWords, is_telling}
use Rattle.hs_reports.specs.Tellings.{TellingTable, no_tellings, with_telling}
use Rattle.hs_reports.specs.WordBits.{word_bit}

-- The identifier of number p, which is that of number k of those that are told, is settled.
pub record IsSettledAt (identifiers : List Identifier) (last : ℕ) (table : EndTable) (told here told' here' : List ℕ)
    (tellings : TellingTable) (k p : ℕ) : Type 0 where
  pub x : Identifier
  pub there : slice_get identifiers p ≡ Some x
  pub named : slice_get tellings.ids k ≡ Some x.id
  pub late_fits : slice_index tellings.lates k < 2 ^ 64
  pub early_fits : slice_index tellings.earlies k < 2 ^ 64
  pub tells : TellsWords x.single (has_word_bit told p) (has_word_bit here p) (words_of table p).before
      (words_of table p).behind (record { late = slice_index tellings.lates k; early = slice_index tellings.earlies k })
  pub told_is : has_word_bit told' p ≡ (has_word_bit told p
      || (x.single && is_telling (slice_index tellings.lates k) (slice_index tellings.earlies k)))
  pub here_is : has_word_bit here' p ≡ word_bit (slice_index tellings.earlies k) last

-- Of the noted identifiers those with a number before `from` are settled, and are told at these numbers.
pub record IsSettledTo (identifiers : List Identifier) (last : ℕ) (table : EndTable) (told here : List ℕ)
    (table' : EndTable) (told' here' : List ℕ) (tellings : TellingTable) (from : ℕ) : Type 0 where
  pub places : List ℕ
  pub rising : AreRising places
  pub below : Each (λ p. p < from) places
  pub noted : (p : ℕ) → p < from → is_noted table p ≡ true → IsMember p places
  pub count : length tellings.ids ≡ length places
  pub lates_count : length tellings.lates ≡ length places
  pub earlies_count : length tellings.earlies ≡ length places
  pub few : length places ≤ from
  pub words_count : length table'.words ≡ length table.words
  pub each : (k p : ℕ) → slice_get places k ≡ Some p →
      IsSettledAt identifiers last table told here told' here' tellings k p
  pub pending : ArePending here table → (p : ℕ) → p < from → has_word_bit here' p ≡ true → is_noted table' p ≡ true
  pub only : (p : ℕ) → p < from → is_noted table' p ≡ true → has_word_bit here' p ≡ true
  pub emptied : IsQuiet table → (p : ℕ) → p < from → words_of table' p ≡ no_words
  pub others : (p : ℕ) → (from ≤ p) ⊎ (is_noted table p ≡ false) → (has_word_bit told' p ≡ has_word_bit told p)
      × (has_word_bit here' p ≡ has_word_bit here p)
      × (words_of table' p ≡ words_of table p)
      × (is_noted table' p ≡ is_noted table p)

-- what is left to be looked at, from the next noted identifier on
abbrev pub left_over : ℕ → Option ℕ → ℕ
left_over count None = 0
left_over count (Some p) = count - p

pub get-left : {A : Type 0} (xs ys : List A) (i : ℕ) → i < length xs → slice_get (xs ++ ys) i ≡ slice_get xs i
get-left [] ys i below = absurd (omega arith)
get-left (x ∷ xs) ys zero below = refl
get-left (x ∷ xs) ys (suc i) below = get-left xs ys i (omega arith)

pub get-seam : {A : Type 0} (xs : List A) (x : A) → slice_get (xs ++ x ∷ []) (length xs) ≡ Some x
get-seam [] x = refl
get-seam (y ∷ xs) x = get-seam xs x

module _ (identifiers : List Identifier) (last : ℕ) (table : EndTable) (told here : List ℕ) where
  pub settled-none : (room : ℕ) → IsSettledTo identifiers last table told here table told here (no_tellings room) 0
  settled-none room = record {
    places = [];
    rising = tt;
    below = tt;
    noted = λ p below noted. absurd (omega arith);
    count = refl;
    lates_count = refl;
    earlies_count = refl;
    few = omega arith;
    words_count = refl;
    each = λ k p at. absurd (cc);
    pending = λ all p below here. absurd (omega arith);
    only = λ p below noted. absurd (omega arith);
    emptied = λ quiet p below. absurd (omega arith);
    others = λ p which. (refl, refl, refl, refl);
  }

  -- identifiers that aren't noted are passed over
  pub settled-passed : (table' : EndTable) (told' here' : List ℕ) (tellings : TellingTable) (from to : ℕ) → from ≤ to → HoldsNowhere (has_word_bit table'.noted) from to →
      IsSettledTo identifiers last table told here table' told' here' tellings from → IsSettledTo identifiers last table told here table' told' here' tellings to
  settled-passed table' told' here' tellings from to order nowhere is = record {
    places = is.places;
    rising = is.rising;
    below = each-of_members (λ p. p < to) is.places (λ p member. let under : p < from = each-member (λ q. q < from) is.places p is.below member in omega arith);
    noted = λ p below noted. elim (cases_lt p from) [
      | inl before ↦ is.noted p before noted
      | inr behind ↦ absurd (both_ways (is_noted table p) (unnoted p behind below) noted)
    ];
    count = is.count;
    lates_count = is.lates_count;
    earlies_count = is.earlies_count;
    few = omega (arith, is.few);
    words_count = is.words_count;
    each = is.each;
    pending = λ all p below ends. elim (cases_lt p from) [
      | inl before ↦ is.pending all p before ends
      | inr behind ↦
          let (_, same, _, noted) = is.others p (inl behind) in
          noted ∙ all p (sym same ∙ ends)
    ];
    only = λ p below noted. elim (cases_lt p from) [
      | inl before ↦ is.only p before noted
      | inr behind ↦ absurd (both_ways (is_noted table' p) (nowhere p behind below) noted)
    ];
    emptied = λ quiet p below. elim (cases_lt p from) [
      | inl before ↦ is.emptied quiet p before
      | inr behind ↦ let (_, _, words, _) = is.others p (inl behind) in words ∙ quiet p (unnoted p behind below)
    ];
    others = λ p which. elim which [
      | inl above ↦ is.others p (inl (omega arith))
      | inr none ↦ is.others p (inr none)
    ];
  }
    where
      unnoted : (p : ℕ) → from ≤ p → p < to → is_noted table p ≡ false
      unnoted p above below = let (_, _, _, noted) = is.others p (inl above) in sym noted ∙ nowhere p above below

  -- one more that is noted
  module _ (x : Identifier) (p : ℕ) (table' table'' : EndTable) (told' told'' here' here'' : List ℕ) (tellings tellings' : TellingTable)
      (is : IsSettledTo identifiers last table told here table' told' here' tellings p) (there : slice_get identifiers p ≡ Some x) (noted : is_noted table' p ≡ true)
      (one : SettlesOne x p last table' table'' told' told'' here' here'' tellings tellings') where
    lists : tellings' ≡ with_telling tellings x.id one.telling.late one.telling.early
    lists = one.pushed

    apart : (q : ℕ) → IsMember q is.places → q ≡ p → ⊥
    apart q member same = let under : q < p = each-member (λ r. r < p) is.places q is.below member in omega arith

    late-old : (k : ℕ) → k < length is.places → get_or tellings'.lates k 0 ≡ get_or tellings.lates k 0
    late-old k below =
        ap (λ t. get_or t.lates k 0) lists ∙ get_or_append_left tellings.lates (one.telling.late ∷ []) 0 k (omega (arith, is.lates_count))

    early-old : (k : ℕ) → k < length is.places → get_or tellings'.earlies k 0 ≡ get_or tellings.earlies k 0
    early-old k below =
        ap (λ t. get_or t.earlies k 0) lists ∙ get_or_append_left tellings.earlies (one.telling.early ∷ []) 0 k (omega (arith, is.earlies_count))

    late-new : get_or tellings'.lates (length is.places) 0 ≡ one.telling.late
    late-new = ap (λ t. get_or t.lates (length is.places) 0) lists ∙ get_or_push tellings.lates one.telling.late 0 (length is.places) is.lates_count

    early-new : get_or tellings'.earlies (length is.places) 0 ≡ one.telling.early
    early-new = ap (λ t. get_or t.earlies (length is.places) 0) lists ∙ get_or_push tellings.earlies one.telling.early 0 (length is.places) is.earlies_count

    at-old : (k q : ℕ) → k < length is.places → slice_get is.places k ≡ Some q → IsSettledAt identifiers last table told here told'' here'' tellings' k q
    at-old k q below at =
        let s : IsSettledAt identifiers last table told here told' here' tellings k q = is.each k q at in
        let (same_told, same_here, _, _) = one.others q (apart q (place-member is.places q k at)) in
        record {
          x = s.x;
          there = s.there;
          named = ap (λ t. slice_get t.ids k) lists ∙ (get-left tellings.ids (x.id ∷ []) k (omega (arith, is.count)) ∙ s.named);
          late_fits = subst (λ w. w < 2 ^ 64) (sym (late-old k below)) s.late_fits;
          early_fits = subst (λ w. w < 2 ^ 64) (sym (early-old k below)) s.early_fits;
          tells =
              subst (λ w. TellsWords s.x.single (has_word_bit told q) (has_word_bit here q) (words_of table q).before (words_of table q).behind (record { late = w; early = get_or tellings'.earlies k 0 })) (sym (late-old k below))
              (subst (λ w. TellsWords s.x.single (has_word_bit told q) (has_word_bit here q) (words_of table q).before (words_of table q).behind (record { late = get_or tellings.lates k 0; early = w })) (sym (early-old k below)) s.tells);
          told_is =
              same_told ∙ (s.told_is
              ∙ (ap (λ w. has_word_bit told q || (s.x.single && is_telling w (get_or tellings.earlies k 0))) (sym (late-old k below))
              ∙ ap (λ w. has_word_bit told q || (s.x.single && is_telling (get_or tellings'.lates k 0) w)) (sym (early-old k below))));
          here_is = same_here ∙ (s.here_is ∙ ap (λ w. word_bit w last) (sym (early-old k below)));
        }

    at-new : IsSettledAt identifiers last table told here told'' here'' tellings' (length is.places) p
    at-new =
        let k : ℕ = length is.places in
        let (same_told, same_here, same_words, _) = is.others p (inl (omega arith)) in
        record {
          x = x;
          there = there;
          named = ap (λ t. slice_get t.ids k) lists ∙ (ap (slice_get (tellings.ids ++ x.id ∷ [])) (sym is.count) ∙ get-seam tellings.ids x.id);
          late_fits = subst (λ w. w < 2 ^ 64) (sym late-new) one.late_fits;
          early_fits = subst (λ w. w < 2 ^ 64) (sym early-new) one.early_fits;
          tells =
              subst (λ w. TellsWords x.single (has_word_bit told p) (has_word_bit here p) (words_of table p).before (words_of table p).behind (record { late = w; early = get_or tellings'.earlies k 0 })) (sym late-new)
              (subst (λ w. TellsWords x.single (has_word_bit told p) (has_word_bit here p) (words_of table p).before (words_of table p).behind (record { late = one.telling.late; early = w })) (sym early-new)
              (subst (λ t. TellsWords x.single t (has_word_bit here p) (words_of table p).before (words_of table p).behind one.telling) same_told
              (subst (λ h. TellsWords x.single (has_word_bit told' p) h (words_of table p).before (words_of table p).behind one.telling) same_here
              (subst (λ w. TellsWords x.single (has_word_bit told' p) (has_word_bit here' p) w.before w.behind one.telling) same_words one.tells))));
          told_is =
              one.told_is
              ∙ (ap (λ t. t || (x.single && is_telling one.telling.late one.telling.early)) same_told
              ∙ (ap (λ w. has_word_bit told p || (x.single && is_telling w one.telling.early)) (sym late-new)
              ∙ ap (λ w. has_word_bit told p || (x.single && is_telling (get_or tellings'.lates k 0) w)) (sym early-new)));
          here_is = one.here_is ∙ ap (λ w. word_bit w last) (sym early-new);
        }

    at-each : (k q : ℕ) → slice_get (is.places ++ p ∷ []) k ≡ Some q → IsSettledAt identifiers last table told here told'' here'' tellings' k q
    at-each k q at = elim (cases_lt k (length is.places)) [
      | inl below ↦ at-old k q below (sym (get-left is.places (p ∷ []) k below) ∙ at)
      | inr above ↦
          let within : k < length (is.places ++ p ∷ []) = slice_get_within (is.places ++ p ∷ []) k q at in
          let here-k : length is.places ≡ k = omega (arith, length-append is.places (p ∷ [])) in
          let here-p : p ≡ q = same_Some p q (sym (get-seam is.places p) ∙ (ap (slice_get (is.places ++ p ∷ [])) here-k ∙ at)) in
          subst (λ j. IsSettledAt identifiers last table told here told'' here'' tellings' j q) here-k
          (subst (λ r. IsSettledAt identifiers last table told here told'' here'' tellings' (length is.places) r) here-p at-new)
    ]

    pub settled-next : IsSettledTo identifiers last table told here table'' told'' here'' tellings' (p + 1)
    settled-next = record {
      places = is.places ++ p ∷ [];
      rising =
          rising-append (λ m n. m < n) is.places (p ∷ []) is.rising (tt, tt)
          (each-of_members (λ q. Each (λ r. q < r) (p ∷ [])) is.places (λ q member. (each-member (λ r. r < p) is.places q is.below member, tt)));
      below =
          each-append (λ q. q < p + 1) is.places (p ∷ [])
          (each-of_members (λ q. q < p + 1) is.places (λ q member. let under : q < p = each-member (λ r. r < p) is.places q is.below member in omega arith)) (omega arith, tt);
      noted = λ q below set. elim (cases_eq q p) [
        | inl same ↦ member-right is.places (p ∷ []) q (inl same)
        | inr other ↦ member-left is.places (p ∷ []) q (is.noted q (omega arith) set)
      ];
      count = ap (λ t. length t.ids) lists ∙ grown tellings.ids x.id is.count;
      lates_count = ap (λ t. length t.lates) lists ∙ grown tellings.lates one.telling.late is.lates_count;
      earlies_count = ap (λ t. length t.earlies) lists ∙ grown tellings.earlies one.telling.early is.earlies_count;
      few = omega (arith, is.few, length-append is.places (p ∷ []));
      words_count = one.words_count ∙ is.words_count;
      each = at-each;
      pending = λ all q below ends. elim (cases_eq q p) [
        | inl same ↦
            ap (λ r. is_noted table'' r) same ∙ (one.noted_is ∙ (sym one.here_is ∙ (ap (λ r. has_word_bit here'' r) (sym same) ∙ ends)))
        | inr other ↦
            let (_, same_here, _, same_noted) = one.others q other in
            same_noted ∙ is.pending all q (omega arith) (sym same_here ∙ ends)
      ];
      only = λ q below set. elim (cases_eq q p) [
        | inl same ↦ ap (λ r. has_word_bit here'' r) same ∙ (one.here_is ∙ (sym one.noted_is ∙ (ap (λ r. is_noted table'' r) (sym same) ∙ set)))
        | inr other ↦
            let (_, same_here, _, same_noted) = one.others q other in
            same_here ∙ is.only q (omega arith) (sym same_noted ∙ set)
      ];
      emptied = λ quiet q below. elim (cases_eq q p) [
        | inl same ↦ ap (λ r. words_of table'' r) same ∙ one.words_is
        | inr other ↦ let (_, _, same_words, _) = one.others q other in same_words ∙ is.emptied quiet q (omega arith)
      ];
      others = λ q which.
          let (told_one, here_one, words_one, noted_one) = one.others q (other q which) in
          let (told_all, here_all, words_all, noted_all) = is.others q (earlier q which) in
          (told_one ∙ told_all, here_one ∙ here_all, words_one ∙ words_all, noted_one ∙ noted_all);
    }
      where
        grown : {A : Type 0} (xs : List A) (y : A) → length xs ≡ length is.places → length (xs ++ y ∷ []) ≡ length (is.places ++ p ∷ [])
        grown xs y same = omega (arith, length-append xs (y ∷ []), length-append is.places (p ∷ []))

        was-noted : is_noted table p ≡ true
        was-noted = let (_, _, _, same) = is.others p (inl (omega arith)) in sym same ∙ noted

        other : (q : ℕ) → (p + 1 ≤ q) ⊎ (is_noted table q ≡ false) → q ≡ p → ⊥
        other q (inl above) same = omega arith
        other q (inr none) same = both_ways (is_noted table p) (ap (λ r. is_noted table r) (sym same) ∙ none) was-noted

        earlier : (q : ℕ) → (p + 1 ≤ q) ⊎ (is_noted table q ≡ false) → (p ≤ q) ⊎ (is_noted table q ≡ false)
        earlier q (inl above) = inl (omega arith)
        earlier q (inr none) = inr none

-- a walk over the noted identifiers

-- The next one that is noted is known, and those before it are settled.
pub record IsWalkedTo (identifiers : List Identifier) (last : ℕ) (table : EndTable) (told here : List ℕ) (table' : EndTable) (told' here' : List ℕ) (tellings : TellingTable) (next : Option ℕ) : Type 0 where
  pub from : ℕ
  pub within : from ≤ length identifiers
  pub is : IsSettledTo identifiers last table told here table' told' here' tellings from
  pub ahead : IsNextBitIn (has_word_bit table'.noted) from (length identifiers) next

module _ (identifiers : List Identifier) (last : ℕ) (table : EndTable) (told here : List ℕ) where
  -- one identifier is noted, and is there
  pub walked-next : (x : Identifier) (p : ℕ) (table' table'' : EndTable) (told' told'' here' here'' : List ℕ) (tellings tellings' : TellingTable) (next : Option ℕ) →
      IsWalkedTo identifiers last table told here table' told' here' tellings (Some p) → slice_get identifiers p ≡ Some x →
      SettlesOne x p last table' table'' told' told'' here' here'' tellings tellings' → IsNextBitIn (has_word_bit table''.noted) (p + 1) (length identifiers) next →
      IsWalkedTo identifiers last table told here table'' told'' here'' tellings' next
  walked-next x p table' table'' told' told'' here' here'' tellings tellings' next walked there one ahead = record {
    from = p + 1;
    within = omega (arith, walked.ahead.high);
    is =
        settled-next identifiers last table told here x p table' table'' told' told'' here' here'' tellings tellings'
        (settled-passed identifiers last table told here table' told' here' tellings walked.from p walked.ahead.low walked.ahead.least walked.is) there walked.ahead.is one;
    ahead = ahead;
  }

  pub walked-all : (table' : EndTable) (told' here' : List ℕ) (tellings : TellingTable) → IsWalkedTo identifiers last table told here table' told' here' tellings None →
      IsSettledTo identifiers last table told here table' told' here' tellings (length identifiers)
  walked-all table' told' here' tellings walked =
      settled-passed identifiers last table told here table' told' here' tellings walked.from (length identifiers) walked.within walked.ahead walked.is

-- where all are settled none has an end
pub all-emptied : (identifiers : List Identifier) (last : ℕ) (table : EndTable) (told here : List ℕ) (table' : EndTable) (told' here' : List ℕ) (tellings : TellingTable) (n : ℕ) → length table.words ≤ n → IsQuiet table →
    IsSettledTo identifiers last table told here table' told' here' tellings n → HasNoEnds table'
all-emptied identifiers last table told here table' told' here' tellings n whole quiet is p = elim (cases_lt p n) [
  | inl below ↦ is.emptied quiet p below
  | inr past ↦ get_or_past table'.words p no_words (omega (arith, is.words_count))
]

-- the next one is farther on
pub left-less : (test : ℕ → Bool) (count p : ℕ) (next : Option ℕ) → p < count → IsNextBitIn test (p + 1) count next → left_over count next < left_over count (Some p)
left-less test count p None below ahead = omega arith
left-less test count p (Some q) below ahead = omega (arith, ahead.low, ahead.high)
