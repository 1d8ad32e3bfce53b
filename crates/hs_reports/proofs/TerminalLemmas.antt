-- The ends of an identifier, from where the chains of its patterns are left.
use Rattle.std.proofs.Common.{◌≡◌, ◌↔◌, ◌⊎◌, ℕ, zero, suc, ◌+◌, ◌<◌, ◌≤◌, Bool, true, false, ◌&&◌, eqb, leb, List, [], ◌∷◌, ◌++◌, length, take, get_or, Some, slice_get, refl, sym, ap, subst, ◌∙◌, inl, inr, arith, length-append, append_assoc}
use Rattle.std.specs.List.{list_any}
use Rattle.std.proofs.lemmas.Bool.{both_ways, cases_eq, ne_eqb, and_left, eqb-true, eq-eqb, leb-true, le-leb, and_parts, and_from, and_right, or_cases, or_left, or_right, or_from}
use Rattle.std.proofs.lemmas.List.{take_more, length-take-le}
use Rattle.std.proofs.lemmas.Option.{same_Some}
use Rattle.hs_base.specs.declared.context.Next.{Next}
use Rattle.hs_base.specs.declared.context.Next.TheVariants as after
use Rattle.hs_base.specs.Chains.{Piece, chains_of}
use Rattle.hs_base.specs.Contexts.{class_of}
use Rattle.hs_base.specs.Leaving.{LeavesAt}
use Rattle.hs_base.specs.LeavingLaws.{HasSpansOfChains}
use Rattle.hs_base.specs.Lists.{OneOf, Each, IsMember}
use Rattle.hs_base.specs.Patterns.{Pattern}
use Rattle.hs_base.specs.Settling.{EndsHere, HasEndHere, AreRising}
use Rattle.hs_base.proofs.EntryLemmas.{ends-leaving}
use Rattle.hs_base.proofs.ListLemmas.{each-member, each-of_members, place-member, one_of-each, one_of-map}
use Rattle.hs_reports.specs.declared.terminal.Terminal.{Terminal}
use Rattle.hs_reports.specs.Chunks.{AreChunkEnds, AreConcerned}
use Rattle.hs_reports.specs.Terminals.{IsTerminalOf, AreTerminals, AreLeftBy, is_within_bounds, is_end_at, AreEndsOf, ends_by_words}
use Rattle.hs_reports.specs.TerminalLaws.{AreLeftTerminals}
use Rattle.hs_reports.specs.WordBits.{word_bit}
use Rattle.hs_reports.proofs.WordBitLemmas.{bit-zero}

-- tests of a list

any-one : {A : Type 0} (test : A → Bool) (xs : List A) → list_any test xs ≡ true → OneOf (λ x. test x ≡ true) xs
any-one test [] some = absurd (cc)
any-one test (x ∷ xs) some = elim (or_cases (test x) (list_any test xs) some) [
  | inl here ↦ inl here
  | inr there ↦ inr (any-one test xs there)
]

one-any : {A : Type 0} (test : A → Bool) (xs : List A) → OneOf (λ x. test x ≡ true) xs → list_any test xs ≡ true
one-any test (x ∷ xs) (inl here) = or_left (test x) (list_any test xs) here
one-any test (x ∷ xs) (inr there) = or_right (test x) (list_any test xs) (one-any test xs there)
one-any test [] found = absurd found

any-none : {A : Type 0} (test : A → Bool) (xs : List A) → Each (λ x. test x ≡ false) xs → list_any test xs ≡ false
any-none test [] none = refl
any-none test (x ∷ xs) (here, there) = or_from (test x) (list_any test xs) here (any-none test xs there)

each-and : {A : Type 0} (P Q R : A → Type 0) (xs : List A) → ((x : A) → P x → Q x → R x) → Each P xs → Each Q xs → Each R xs
each-and P Q R [] both ps qs = tt
each-and P Q R (x ∷ xs) both ps qs = (both x ps.0 qs.0, each-and P Q R xs both ps.1 qs.1)

each-map : {A : Type 0} (P R : A → Type 0) (xs : List A) → ((x : A) → P x → R x) → Each P xs → Each R xs
each-map P R [] f ps = tt
each-map P R (x ∷ xs) f ps = (f x ps.0, each-map P R xs f ps.1)

-- one that has both
one-and : {A : Type 0} (P Q : A → Type 0) (R : Type 0) (xs : List A) → ((x : A) → P x → Q x → R) → Each P xs → OneOf Q xs → R
one-and P Q R [] both ps found = absurd found
one-and P Q R (x ∷ xs) both ps (inl here) = both x ps.0 here
one-and P Q R (x ∷ xs) both ps (inr there) = one-and P Q R xs both ps.1 there

one-out : {A : Type 0} (P : A → Type 0) (R : Type 0) (xs : List A) → ((x : A) → P x → R) → OneOf P xs → R
one-out P R [] out found = absurd found
one-out P R (x ∷ xs) out (inl here) = out x here
one-out P R (x ∷ xs) out (inr there) = one-out P R xs out there

-- an identifier has one number
numbered-once : (ids : List ℕ) → AreRising ids → (p q id : ℕ) → slice_get ids p ≡ Some id → slice_get ids q ≡ Some id → p ≡ q
numbered-once [] rising p q id at at' = absurd (cc)
numbered-once (x ∷ ids) rising zero zero id at at' = refl
numbered-once (x ∷ ids) rising zero (suc q) id at at' =
    let above : x < id = each-member (λ y. x < y) ids id rising.0 (place-member ids id q at') in
    let same : x ≡ id = same_Some x id at in
    absurd (omega arith)
numbered-once (x ∷ ids) rising (suc p) zero id at at' =
    let above : x < id = each-member (λ y. x < y) ids id rising.0 (place-member ids id p at) in
    let same : x ≡ id = same_Some x id at' in
    absurd (omega arith)
numbered-once (x ∷ ids) rising (suc p) (suc q) id at at' = ap (λ n. suc n) (numbered-once ids rising.1 p q id at at')

-- the ends behind the bytes w, where that comes next
module _ (pieces : ℕ → List Piece) (ids : List ℕ) (P : List Pattern) (terminals : List Terminal) (rising : AreRising ids) (are : AreTerminals pieces ids P terminals) (spans : Each HasSpansOfChains P)
    (words : ℕ → ℕ) (w : List ℕ) (next : Next) (at i : ℕ) (here : at ≡ length w) (asked : ℕ → Bool)
    (left : Each (λ t. asked t.identifier ≡ true → (word_bit (words t.node) i ≡ true) ↔ LeavesAt (pieces t.node) w next) terminals) where
  -- one terminal gives an end of its pattern
  terminal-end : (p id : ℕ) → asked p ≡ true → slice_get ids p ≡ Some id → (t : Terminal) → OneOf (λ x. OneOf (IsTerminalOf pieces ids x t) (chains_of x.tree)) P →
      (asked t.identifier ≡ true → (word_bit (words t.node) i ≡ true) ↔ LeavesAt (pieces t.node) w next) → is_end_at words p at i t ≡ true → HasEndHere P id w next
  terminal-end p id asks named t origin tells set =
      let (is, rest) = and_parts (eqb t.identifier p) (is_within_bounds t.least t.greatest at && word_bit (words t.node) i) set in
      let (within, bit) = and_parts (is_within_bounds t.least t.greatest at) (word_bit (words t.node) i) rest in
      let (above, below) = and_parts (leb t.least at) (leb at t.greatest) within in
      one_of-each HasSpansOfChains (λ x. OneOf (IsTerminalOf pieces ids x t) (chains_of x.tree)) (EndsHere id w next) P spans
      (λ x has stands. pattern-end x has stands (eqb-true t.identifier p is) (leb-true t.least at above) (leb-true at t.greatest below) ((tells (ap asked (eqb-true t.identifier p is) ∙ asks)).0 bit))
      origin
    where
      pattern-end : (x : Pattern) → HasSpansOfChains x → OneOf (IsTerminalOf pieces ids x t) (chains_of x.tree) → t.identifier ≡ p → t.least ≤ at → at ≤ t.greatest → LeavesAt (pieces t.node) w next → EndsHere id w next x
      pattern-end x has stands same above below leaves =
          let own : x.id ≡ id =
          one-out (IsTerminalOf pieces ids x t) (x.id ≡ id) (chains_of x.tree)
          (λ chain is. same_Some x.id id (sym is.named ∙ (ap (slice_get ids) same ∙ named))) stands in
          let least : x.least ≤ length w = one-out (IsTerminalOf pieces ids x t) (x.least ≤ length w) (chains_of x.tree) (λ chain is. omega (arith, is.least)) stands in
          let greatest : length w ≤ x.greatest = one-out (IsTerminalOf pieces ids x t) (length w ≤ x.greatest) (chains_of x.tree) (λ chain is. omega (arith, is.greatest)) stands in
          subst (λ k. EndsHere k w next x) own
          ((ends-leaving x w next has).1 (
            least,
            greatest,
            one_of-map (IsTerminalOf pieces ids x t) (λ chain. LeavesAt chain w next) (chains_of x.tree) (λ chain is. subst (λ c. LeavesAt c w next) is.ends leaves) stands,
          ))

  pub told-end : (p id : ℕ) → asked p ≡ true → slice_get ids p ≡ Some id → list_any (is_end_at words p at i) terminals ≡ true → HasEndHere P id w next
  told-end p id asks named some =
      one-and
      (λ t. OneOf (λ x. OneOf (IsTerminalOf pieces ids x t) (chains_of x.tree)) P × (asked t.identifier ≡ true → (word_bit (words t.node) i ≡ true) ↔ LeavesAt (pieces t.node) w next))
      (λ t. is_end_at words p at i t ≡ true) (HasEndHere P id w next) terminals
      (λ t (origin, tells) set. terminal-end p id asks named t origin tells set)
      (each-and (λ t. OneOf (λ x. OneOf (IsTerminalOf pieces ids x t) (chains_of x.tree)) P) (λ t. asked t.identifier ≡ true → (word_bit (words t.node) i ≡ true) ↔ LeavesAt (pieces t.node) w next)
      (λ t. OneOf (λ x. OneOf (IsTerminalOf pieces ids x t) (chains_of x.tree)) P × (asked t.identifier ≡ true → (word_bit (words t.node) i ≡ true) ↔ LeavesAt (pieces t.node) w next)) terminals
      (λ t origin tells. (origin, tells)) are.each left)
      (any-one (is_end_at words p at i) terminals some)

  -- a pattern that ends has a terminal that tells it
  terminal-set : (id : ℕ) (x : Pattern) (chain : List Piece) → ((p : ℕ) → slice_get ids p ≡ Some id → asked p ≡ true) → x.id ≡ id → x.least ≤ length w → length w ≤ x.greatest → LeavesAt chain w next → OneOf (λ t. IsTerminalOf pieces ids x t chain) terminals →
      (p : ℕ) × (slice_get ids p ≡ Some id) × (list_any (is_end_at words p at i) terminals ≡ true)
  terminal-set id x chain asks own least greatest leaves stands =
      one-and (λ t. IsMember t terminals × (asked t.identifier ≡ true → (word_bit (words t.node) i ≡ true) ↔ LeavesAt (pieces t.node) w next)) (λ t. IsTerminalOf pieces ids x t chain)
      ((p : ℕ) × (slice_get ids p ≡ Some id) × (list_any (is_end_at words p at i) terminals ≡ true)) terminals
      (λ t (member, tells) is. (
        t.identifier,
        is.named ∙ ap (λ k. Some k) own,
        one-any (is_end_at words t.identifier at i) terminals
            (one_of-map (λ y. t ≡ y) (λ y. is_end_at words t.identifier at i y ≡ true) terminals
            (λ y same. subst (λ z. is_end_at words t.identifier at i z ≡ true) same
            (and_from (eqb t.identifier t.identifier) (is_within_bounds t.least t.greatest at && word_bit (words t.node) i) (eq-eqb t.identifier t.identifier refl)
            (and_from (is_within_bounds t.least t.greatest at) (word_bit (words t.node) i)
            (and_from (leb t.least at) (leb at t.greatest) (le-leb t.least at (omega (arith, is.least))) (le-leb at t.greatest (omega (arith, is.greatest))))
            ((tells (asks t.identifier (is.named ∙ ap (λ k. Some k) own))).1 (subst (λ c. LeavesAt c w next) (sym is.ends) leaves)))))
            member),
      ))
      (each-and (λ t. IsMember t terminals) (λ t. asked t.identifier ≡ true → (word_bit (words t.node) i ≡ true) ↔ LeavesAt (pieces t.node) w next)
      (λ t. IsMember t terminals × (asked t.identifier ≡ true → (word_bit (words t.node) i ≡ true) ↔ LeavesAt (pieces t.node) w next)) terminals
      (λ t member tells. (member, tells)) (each-of_members (λ t. IsMember t terminals) terminals (λ t member. member)) left)
      stands

  pub end-set : (id : ℕ) → ((p : ℕ) → slice_get ids p ≡ Some id → asked p ≡ true) → HasEndHere P id w next → (p : ℕ) × (slice_get ids p ≡ Some id) × (list_any (is_end_at words p at i) terminals ≡ true)
  end-set id asks found =
      one-and (λ x. HasSpansOfChains x × Each (λ chain. OneOf (λ t. IsTerminalOf pieces ids x t chain) terminals) (chains_of x.tree)) (EndsHere id w next)
      ((p : ℕ) × (slice_get ids p ≡ Some id) × (list_any (is_end_at words p at i) terminals ≡ true)) P
      (λ x (has, all) end.
      let (least, greatest, leaves) = (ends-leaving x w next has).0 (subst (λ k. EndsHere k w next x) (sym end.named) end) in
      one-and (λ chain. OneOf (λ t. IsTerminalOf pieces ids x t chain) terminals) (λ chain. LeavesAt chain w next)
      ((p : ℕ) × (slice_get ids p ≡ Some id) × (list_any (is_end_at words p at i) terminals ≡ true)) (chains_of x.tree)
      (λ chain stands left. terminal-set id x chain asks end.named least greatest left stands) all leaves)
      (each-and HasSpansOfChains (λ x. Each (λ chain. OneOf (λ t. IsTerminalOf pieces ids x t chain) terminals) (chains_of x.tree))
      (λ x. HasSpansOfChains x × Each (λ chain. OneOf (λ t. IsTerminalOf pieces ids x t chain) terminals) (chains_of x.tree)) P
      (λ x has all. (has, all)) spans are.all)
      found

  pub end-told : (p id : ℕ) → asked p ≡ true → slice_get ids p ≡ Some id → HasEndHere P id w next → list_any (is_end_at words p at i) terminals ≡ true
  end-told p id asks named found =
      let (q, named', set) = end-set id (λ r at. ap asked (numbered-once ids rising r p id at named) ∙ asks) found in
      subst (λ n. list_any (is_end_at words n at i) terminals ≡ true) (numbered-once ids rising q p id named' named) set

-- a block
module _ (pieces : ℕ → List Piece) (ids : List ℕ) (P : List Pattern) (terminals : List Terminal) (u bytes : List ℕ) (befores behinds : ℕ → ℕ) (asked : ℕ → Bool)
    (all : AreLeftTerminals pieces ids P terminals u bytes befores behinds asked) where
  begun : (i : ℕ) → i ≤ length bytes → length u + i ≡ length (u ++ take i bytes)
  begun i within = omega (arith, length-append u (take i bytes), length-take-le i bytes within)

  behind-begun : (i : ℕ) → i < length bytes → u ++ take (i + 1) bytes ≡ (u ++ take i bytes) ++ get_or bytes i 0 ∷ []
  behind-begun i below = ap (λ xs. u ++ xs) (take_more bytes i 0 below) ∙ sym (append_assoc u (take i bytes) (get_or bytes i 0 ∷ []))

  left-before : (i : ℕ) → i < length bytes → Each (λ t. asked t.identifier ≡ true → (word_bit (befores t.node) i ≡ true) ↔ LeavesAt (pieces t.node) (u ++ take i bytes) (class_of (get_or bytes i 0))) terminals
  left-before i below =
      each-map (λ t. asked t.identifier ≡ true → AreLeftBy (pieces t.node) u bytes (befores t.node) (behinds t.node))
      (λ t. asked t.identifier ≡ true → (word_bit (befores t.node) i ≡ true) ↔ LeavesAt (pieces t.node) (u ++ take i bytes) (class_of (get_or bytes i 0))) terminals
      (λ t is asks. (is asks).before_is i below) all.left

  left-behind : (i : ℕ) → i < length bytes → Each (λ t. asked t.identifier ≡ true → (word_bit (behinds t.node) i ≡ true) ↔ LeavesAt (pieces t.node) ((u ++ take i bytes) ++ get_or bytes i 0 ∷ []) after.Unknown) terminals
  left-behind i below =
      each-map (λ t. asked t.identifier ≡ true → AreLeftBy (pieces t.node) u bytes (befores t.node) (behinds t.node))
      (λ t. asked t.identifier ≡ true → (word_bit (behinds t.node) i ≡ true) ↔ LeavesAt (pieces t.node) ((u ++ take i bytes) ++ get_or bytes i 0 ∷ []) after.Unknown) terminals
      (λ t is asks. subst (λ w. (word_bit (behinds t.node) i ≡ true) ↔ LeavesAt (pieces t.node) w after.Unknown) (behind-begun i below) ((is asks).behind_is i below)) all.left

  behind-length : (i : ℕ) → i < length bytes → length u + i + 1 ≡ length ((u ++ take i bytes) ++ get_or bytes i 0 ∷ [])
  behind-length i below = omega (arith, begun i (omega arith), length-append (u ++ take i bytes) (get_or bytes i 0 ∷ []))

  before-told : (p id before i : ℕ) → asked p ≡ true → slice_get ids p ≡ Some id → i < length bytes → word_bit before i ≡ list_any (is_end_at befores p (length u + i) i) terminals →
      (word_bit before i ≡ true) ↔ HasEndHere P id (u ++ take i bytes) (class_of (get_or bytes i 0))
  before-told p id before i asks named below is = (
    λ set. told-end pieces ids P terminals all.rising all.are all.spans befores (u ++ take i bytes) (class_of (get_or bytes i 0)) (length u + i) i (begun i (omega arith)) asked (left-before i below) p id asks named (sym is ∙ set),
    λ found. is ∙ end-told pieces ids P terminals all.rising all.are all.spans befores (u ++ take i bytes) (class_of (get_or bytes i 0)) (length u + i) i (begun i (omega arith)) asked (left-before i below) p id asks named found,
  )

  behind-told : (p id behind i : ℕ) → asked p ≡ true → slice_get ids p ≡ Some id → i < length bytes → word_bit behind i ≡ list_any (is_end_at behinds p (length u + i + 1) i) terminals →
      (word_bit behind i ≡ true) ↔ HasEndHere P id ((u ++ take i bytes) ++ get_or bytes i 0 ∷ []) after.Unknown
  behind-told p id behind i asks named below is = (
    λ set. told-end pieces ids P terminals all.rising all.are all.spans behinds ((u ++ take i bytes) ++ get_or bytes i 0 ∷ []) after.Unknown (length u + i + 1) i (behind-length i below) asked (left-behind i below) p id asks named (sym is ∙ set),
    λ found. is ∙ end-told pieces ids P terminals all.rising all.are all.spans behinds ((u ++ take i bytes) ++ get_or bytes i 0 ∷ []) after.Unknown (length u + i + 1) i (behind-length i below) asked (left-behind i below) p id asks named found,
  )

  pub terminals-end : (p id before behind : ℕ) → asked p ≡ true → slice_get ids p ≡ Some id → AreEndsOf terminals befores behinds (length u) p before behind → AreChunkEnds P u bytes id (ends_by_words before behind)
  terminals-end p id before behind asks named are i below = record {
    before = before-told p id before i asks named below (are.before_is i (omega (arith, all.few)));
    behind = behind-told p id behind i asks named below (are.behind_is i (omega (arith, all.few)));
  }

  pub noted-concerned : (before behind : ℕ → ℕ) (noted : List ℕ) → ((p : ℕ) → asked p ≡ true) → ((p id : ℕ) → slice_get ids p ≡ Some id → AreEndsOf terminals befores behinds (length u) p (before p) (behind p)) →
      ((p id : ℕ) → slice_get ids p ≡ Some id → IsMember id noted ⊎ ((before p ≡ 0) × (behind p ≡ 0))) → AreRising noted → AreConcerned P u bytes noted
  noted-concerned before behind noted asks are some rising = record {
    rising = rising;
    before = λ i id below found.
        let (p, named, _) = end-set pieces ids P terminals all.rising all.are all.spans befores (u ++ take i bytes) (class_of (get_or bytes i 0)) (length u + i) i (begun i (omega arith)) asked (left-before i below) id (λ q at. asks q) found in
        elim (some p id named) [
          | inl member ↦ member
          | inr (none, _) ↦
              absurd (both_ways (word_bit (before p) i) (ap (λ word. word_bit word i) none ∙ bit-zero i) ((terminals-end p id (before p) (behind p) (asks p) named (are p id named) i below).before.1 found))
        ];
    behind = λ i id below found.
        let (p, named, _) = end-set pieces ids P terminals all.rising all.are all.spans behinds ((u ++ take i bytes) ++ get_or bytes i 0 ∷ []) after.Unknown (length u + i + 1) i (behind-length i below) asked (left-behind i below) id (λ q at. asks q) found in
        elim (some p id named) [
          | inl member ↦ member
          | inr (_, none) ↦
              absurd (both_ways (word_bit (behind p) i) (ap (λ word. word_bit word i) none ∙ bit-zero i) ((terminals-end p id (before p) (behind p) (asks p) named (are p id named) i below).behind.1 found))
        ];
  }

  pub ends-within : (p before behind : ℕ) → asked p ≡ true → AreEndsOf terminals befores behinds (length u) p before behind → (i : ℕ) → length bytes ≤ i → i < 64 → (word_bit before i ≡ false) × (word_bit behind i ≡ false)
  ends-within p before behind asks are i past below = (
    are.before_is i below
        ∙ any-none (is_end_at befores p (length u + i) i) terminals
        (each-map (λ t. asked t.identifier ≡ true → AreLeftBy (pieces t.node) u bytes (befores t.node) (behinds t.node)) (λ t. is_end_at befores p (length u + i) i t ≡ false) terminals
        (λ t is. unset t (befores t.node) (length u + i) (λ own. ((is (ap asked own ∙ asks)).within i past below).0)) all.left),
    are.behind_is i below
        ∙ any-none (is_end_at behinds p (length u + i + 1) i) terminals
        (each-map (λ t. asked t.identifier ≡ true → AreLeftBy (pieces t.node) u bytes (befores t.node) (behinds t.node)) (λ t. is_end_at behinds p (length u + i + 1) i t ≡ false) terminals
        (λ t is. unset t (behinds t.node) (length u + i + 1) (λ own. ((is (ap asked own ∙ asks)).within i past below).1)) all.left),
  )
    where
      unset : (t : Terminal) (word at : ℕ) → (t.identifier ≡ p → word_bit word i ≡ false) → ((eqb t.identifier p) && (is_within_bounds t.least t.greatest at && word_bit word i)) ≡ false
      unset t word at none = elim (cases_eq t.identifier p) [
        | inl own ↦
            and_right (eqb t.identifier p) (is_within_bounds t.least t.greatest at && word_bit word i) (and_right (is_within_bounds t.least t.greatest at) (word_bit word i) (none own))
        | inr other ↦ and_left (eqb t.identifier p) (is_within_bounds t.least t.greatest at && word_bit word i) (ne_eqb t.identifier p other)
      ]
