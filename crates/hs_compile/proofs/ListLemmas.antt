-- Lists of entries: each is accepted, or refused in one way, and never both.
use Rattle.std.proofs.Common.{◌≡◌, ℕ, suc, ◌+◌, ◌≤◌, List, [], ◌∷◌, ◌++◌, length, map, take, drop, Some, slice_get, refl, sym, ap, ◌∙◌, subst, arith, inl, inr, append_assoc, length-append}
use Rattle.std.specs.List.{AllZip}
use Rattle.std.proofs.lemmas.Bool.{cases_lt}
use Rattle.std.proofs.lemmas.List.{append-nil, map-append, length-map, take_all, take_more, take-append-drop, length-take-le}
use Rattle.std.proofs.lemmas.Option.{slice_get_within, get_or_from_slice_get}
use Rattle.hs_base.specs.declared.ext.Entry.{Entry}
use Rattle.hs_base.specs.declared.refusal.Refusal.TheVariants.{CountLimit, MixedSingle}
use Rattle.hs_base.specs.Entries.{listed}
use Rattle.hs_base.proofs.ListLemmas.{each-append}
use Rattle.std.specs.declared.alloc.Global.{Global}
use Rattle.std.specs.declared.vec.Vec.{Vec}
use Rattle.hs_base.specs.Chains.{Piece, chains_of}
use Rattle.hs_kept.specs.declared.builder.PackingBuilder.{PackingBuilder}
use Rattle.hs_kept.specs.Builders.{IsPackedTo, IsPackedWith}
use Rattle.hs_pieces.specs.declared.piece.Chain.{Chain}
use Rattle.hs_pieces.specs.Meaning.{plain_chain}
use Rattle.hs_rose.specs.declared.builder.Builder.{Builder}
use Rattle.hs_rose.specs.Building.{IsBuilt}
use Rattle.hs_rose.specs.Listing.{ListedChain, asked_of, chains_from, listed_chains, plain_chains}
use Rattle.hs_rose.proofs.BuildLemmas.{listed-push}
use Rattle.hs_rose.specs.Plans.{IsFitPattern}
use Rattle.hs_rose.specs.Runnable.{AreRunnable}
use Rattle.hs_compile.specs.declared.fault.CompileFault.{CompileFault}
use Rattle.hs_compile.specs.declared.fault.CompileFault.TheVariants.{Refused, Memory}
use Rattle.hs_compile.specs.Answers.{AreSplit, IsCompiledEntry, IsEntryCause, IsCauseOf, IsListBuilt}
use Rattle.hs_compile.specs.Counting.{AreCounts, IsSmall}
use Rattle.hs_compile.specs.declared.counts.Counts.{Counts}
use Rattle.hs_compile.specs.declared.seen.Seen.{Seen}
use Rattle.hs_compile.specs.Remembered.{Remembers, Precede, AreAdded, AreSoFar}
use Rattle.hs_base.specs.declared.entry.ExprId.{ExprId}
use Rattle.hs_base.specs.declared.refusal.Refusal.{Refusal}
use Rattle.hs_base.specs.Entries.{ListedEntry}
use Rattle.hs_base.specs.Patterns.{Pattern}
use Rattle.hs_compile.specs.Lists.{greatest_count, IsMixed, HasRefusal, misplaced, beyond, mixed, IsAcceptedAs, IsReadAs, AreAcceptedFrom, IsRefusalOf, IsFirstRefusal, IsFirstRefusalFrom, here, behind}
use Rattle.hs_compile.proofs.NumberLemmas.{refusal_once}

-- no list is both accepted and refused
pub accepted-refused : (before : List ListedEntry) (number : ℕ) (entries : List ListedEntry) (P : List Pattern) (id : ExprId) (refusal : Refusal) →
    AreAcceptedFrom before entries P → IsFirstRefusalFrom before entries number id refusal → ⊥
accepted-refused before number [] P id refusal accepted first = elim first [ ]
accepted-refused before _ (entry ∷ entries) [] _ refusal accepted (here refused) = accepted
accepted-refused before number (entry ∷ entries) [] id refusal accepted (behind y is first) = accepted
accepted-refused before _ (entry ∷ entries) (x ∷ P) _ refusal accepted (here refused) = accepted.0.free refusal refused.has
accepted-refused before number (entry ∷ entries) (x ∷ P) id refusal accepted (behind y is first) = accepted-refused (before ++ entry ∷ []) number entries P id refusal accepted.1 first

-- one refusal of a list
pub record AreSame (number number' : ℕ) (id id' : ExprId) (refusal refusal' : Refusal) : Type 0 where
  pub same_number : number ≡ number'
  pub same_id : id ≡ id'
  pub same_refusal : refusal ≡ refusal'

-- a list is refused in one way
pub first_once : (before : List ListedEntry) (number number' : ℕ) (entries : List ListedEntry) (id id' : ExprId) (refusal refusal' : Refusal) →
    IsFirstRefusalFrom before entries number id refusal → IsFirstRefusalFrom before entries number' id' refusal' → AreSame number number' id id' refusal refusal'
first_once before number number' [] id id' refusal refusal' first other = elim first [ ]
first_once before _ _ (entry ∷ entries) _ _ refusal refusal' (here p) (here q) =
    record { same_number = refl; same_id = refl; same_refusal = refusal_once before entry refusal refusal' p q }
first_once before _ number' (entry ∷ entries) _ id' refusal refusal' (here p) (behind y is first) = absurd (is.free refusal p.has)
first_once before number _ (entry ∷ entries) id _ refusal refusal' (behind x is first) (here q) = absurd (is.free refusal' q.has)
first_once before number number' (entry ∷ entries) id id' refusal refusal' (behind x is first) (behind y is' first') =
    first_once (before ++ entry ∷ []) number number' entries id id' refusal refusal' first first'

-- one of those behind, with those before it
behind_those : (before entries : List ListedEntry) (entry : ListedEntry) → before ++ entry ∷ entries ≡ (before ++ entry ∷ []) ++ entries
behind_those before entries entry = sym (append_assoc before (entry ∷ []) entries)

-- one more entry that is accepted
pub accepted-push : (before entries : List ListedEntry) (P : List Pattern) (entry : ListedEntry) (x : Pattern) →
    AreAcceptedFrom before entries P → IsAcceptedAs (before ++ entries) entry x → AreAcceptedFrom before (entries ++ entry ∷ []) (P ++ x ∷ [])
accepted-push before [] [] entry x accepted is = (subst (λ es. IsAcceptedAs es entry x) (append-nil before) is, tt)
accepted-push before [] (y ∷ P) entry x accepted is = absurd accepted
accepted-push before (e ∷ entries) [] entry x accepted is = absurd accepted
accepted-push before (e ∷ entries) (y ∷ P) entry x accepted is =
    (accepted.0, accepted-push (before ++ e ∷ []) entries P entry x accepted.1 (subst (λ es. IsAcceptedAs es entry x) (behind_those before entries e) is))

-- the first entry that is refused, behind entries that are accepted
pub refused-behind : (before entries : List ListedEntry) (P : List Pattern) (entry : ListedEntry) (rest : List ListedEntry) (refusal : Refusal) →
    AreAcceptedFrom before entries P → IsRefusalOf (before ++ entries) entry refusal →
    IsFirstRefusalFrom before (entries ++ entry ∷ rest) (suc (length (before ++ entries))) (record { 0 = entry.id }) refusal
refused-behind before [] [] entry rest refusal accepted is =
    subst (λ es. IsFirstRefusalFrom before (entry ∷ rest) (suc (length es)) (record { 0 = entry.id }) refusal) (sym (append-nil before))
    (here (subst (λ es. IsRefusalOf es entry refusal) (append-nil before) is))
refused-behind before [] (y ∷ P) entry rest refusal accepted is = absurd accepted
refused-behind before (e ∷ entries) [] entry rest refusal accepted is = absurd accepted
refused-behind before (e ∷ entries) (y ∷ P) entry rest refusal accepted is =
    let same = behind_those before entries e in
    subst (λ es. IsFirstRefusalFrom before (e ∷ entries ++ entry ∷ rest) (suc (length es)) (record { 0 = entry.id }) refusal) (sym same)
    (behind y accepted.0 (refused-behind (before ++ e ∷ []) entries P entry rest refusal accepted.1 (subst (λ es. IsRefusalOf es entry refusal) same is)))

-- ---- the entries of a list as it is kept, one after the other

-- one entry more
take_next : (entries : List Entry) (i : ℕ) (entry : Entry) → slice_get entries i ≡ Some entry → take (i + 1) entries ≡ take i entries ++ entry ∷ []
take_next entries i entry is =
    take_more entries i entry (slice_get_within entries i entry is) ∙ ap (λ e. take i entries ++ e ∷ []) (get_or_from_slice_get entries i entry entry is)

listed_next : (entries : List Entry) (i : ℕ) (entry : Entry) → slice_get entries i ≡ Some entry → map listed (take (i + 1) entries) ≡ map listed (take i entries) ++ listed entry ∷ []
listed_next entries i entry is = ap (map listed) (take_next entries i entry is) ∙ map-append listed (take i entries) (entry ∷ [])

length_listed : (entries : List Entry) (i : ℕ) (entry : Entry) → slice_get entries i ≡ Some entry → length (map listed (take i entries)) ≡ i
length_listed entries i entry is = length-map (take i entries) listed ∙ length-take-le i entries (let within = slice_get_within entries i entry is in omega (arith, within))

-- the number of an entry that isn't refused is within the count
within-count : (before : List ListedEntry) (entry : ListedEntry) → ((refusal : Refusal) → HasRefusal before entry refusal → ⊥) → suc (length before) ≤ greatest_count
within-count before entry free = elim (cases_lt greatest_count (suc (length before))) [
  | inl more ↦ absurd (free CountLimit (misplaced (beyond more)))
  | inr few ↦ few
]

zip-push : {A B : Type 0} (R : A → B → Type 0) (xs : List A) (ys : List B) (x : A) (y : B) → AllZip R xs ys → R x y → AllZip R (xs ++ x ∷ []) (ys ++ y ∷ [])
zip-push R [] [] x y all own = (own, tt)
zip-push R [] (b ∷ ys) x y all own = absurd all
zip-push R (a ∷ xs) [] x y all own = absurd all
zip-push R (a ∷ xs) (b ∷ ys) x y all own = (all.0, zip-push R xs ys x y all.1 own)

pub zip-length : {A B : Type 0} (R : A → B → Type 0) (xs : List A) (ys : List B) → AllZip R xs ys → length xs ≡ length ys
zip-length R [] [] zip = refl
zip-length R [] (y ∷ ys) zip = absurd zip
zip-length R (x ∷ xs) [] zip = absurd zip
zip-length R (x ∷ xs) (y ∷ ys) zip = let n = zip-length R xs ys zip.1 in omega (arith, n)

-- before the first entry
pub so-far-none : (seen : Seen) (counts : Counts) → Remembers [] seen → AreCounts [] counts → IsSmall [] → AreSoFar [] [] seen counts
so-far-none seen counts kept are small = record {
  patterns = [];
  split = record { accepted = tt; chains_are = refl; runnable = tt; fit = tt; few = omega arith; small = small };
  kept = kept;
  read = tt;
  counts_are = are;
}

-- one entry more
so-far-more : (entries : List ListedEntry) (chains : List (List (List Piece))) (own : Vec Chain Global) (entry : ListedEntry) (seen seen' : Seen) (counts counts' : Counts) →
    (far : AreSoFar entries chains seen counts) → IsCompiledEntry entries far.patterns entry own counts' → Remembers (entries ++ entry ∷ []) seen' →
    AreSoFar (entries ++ entry ∷ []) (chains ++ plain_chains own ∷ []) seen' counts'
so-far-more entries chains own entry seen seen' counts counts' far is kept =
    let x = is.pattern in
    record {
      patterns = far.patterns ++ x ∷ [];
      split = record {
        accepted = accepted-push [] entries far.patterns entry x far.split.accepted is.accepted;
        chains_are =
            ap (λ cs. cs ++ plain_chains own ∷ []) far.split.chains_are
            ∙ (ap (λ c. map (λ (y : Pattern). chains_of y.tree) far.patterns ++ c ∷ []) is.chains_are ∙ sym (map-append (λ (y : Pattern). chains_of y.tree) far.patterns (x ∷ [])));
        runnable = each-append AreRunnable chains (plain_chains own ∷ []) far.split.runnable (is.runnable, tt);
        fit = each-append IsFitPattern far.patterns (x ∷ []) far.split.fit (is.fit, tt);
        few = let few = within-count entries entry is.accepted.free in omega (arith, few, length-append entries (entry ∷ []));
        small = is.small;
      };
      kept = kept;
      read = zip-push IsReadAs entries far.patterns entry x far.read (record { read = is.accepted.read; is = is.accepted.is });
      counts_are = is.counted;
    }

-- what is known where the next entry is looked at
pub next-number : (entries : List Entry) (chains : List (List (List Piece))) (i : ℕ) (entry : Entry) (seen : Seen) (counts : Counts) → slice_get entries i ≡ Some entry →
    (far : AreSoFar (map listed (take i entries)) chains seen counts) → Precede (map listed (take i entries)) far.patterns (i + 1) seen counts
next-number entries chains i entry seen counts is far = record {
  count = omega (arith, length_listed entries i entry is);
  kept = far.kept;
  read = far.read;
  counts_are = far.counts_are;
  small = far.split.small;
}

-- there are as many expressions as entries
pub as-many : (before entries : List ListedEntry) (P : List Pattern) → AreAcceptedFrom before entries P → length P ≡ length entries
as-many before [] [] accepted = refl
as-many before [] (x ∷ P) accepted = absurd accepted
as-many before (entry ∷ entries) [] accepted = absurd accepted
as-many before (entry ∷ entries) (x ∷ P) accepted = let n = as-many (before ++ entry ∷ []) entries P accepted.1 in omega (arith, n)

-- and as many chains
chains-count : (entries : List ListedEntry) (P : List Pattern) (chains : List (List (List Piece))) → AreSplit entries P chains → length chains ≡ length entries
chains-count entries P chains split = ap length split.chains_are ∙ (length-map P (λ (x : Pattern). chains_of x.tree) ∙ as-many [] entries P split.accepted)

-- one entry more is added
pub step : (entries : List Entry) (i : ℕ) (entry : Entry) (own : Vec Chain Global) (lent : List Chain) (seen seen' : Seen) (counts counts' : Counts) (b b' : Builder) (p p' : PackingBuilder) → slice_get entries i ≡ Some entry → lent ≡ own.items →
    AreAdded (take i entries) seen counts b p →
    ((before : List ListedEntry) (P : List Pattern) → Precede before P (i + 1) seen counts → IsCompiledEntry before P (listed entry) own counts') →
    ((before : List ListedEntry) → Remembers before seen → (IsMixed before (listed entry) → ⊥) → Remembers (before ++ listed entry ∷ []) seen') →
    ((before : List ListedChain) → IsBuilt b before [] → IsBuilt b' (before ++ chains_from (i + 1) 1 (asked_of entry) (map plain_chain lent)) []) →
    IsPackedWith p p' (map plain_chain lent) →
    AreAdded (take (i + 1) entries) seen' counts' b' p'
step entries i entry own lent seen seen' counts counts' b b' p p' is same was compile add build pack =
    let before = map listed (take i entries) in
    let es = map asked_of (take i entries) in
    let far = was.far in
    let one = compile before far.patterns (next-number entries was.chains i entry seen counts is far) in
    let kept : Remembers (before ++ listed entry ∷ []) seen' = add before far.kept (λ differs. one.accepted.free (MixedSingle entry.id) (misplaced (mixed differs))) in
    let more = so-far-more before was.chains own (listed entry) seen seen' counts counts' far one kept in
    let many : length es ≡ length was.chains = length-map (take i entries) asked_of ∙ (sym (length-map (take i entries) listed) ∙ sym (chains-count before far.patterns was.chains far.split)) in
    let number : i + 1 ≡ 1 + length es = omega (arith, length_listed entries i entry is, length-map (take i entries) listed, length-map (take i entries) asked_of) in
    let asked : map asked_of (take (i + 1) entries) ≡ es ++ asked_of entry ∷ [] = ap (map asked_of) (take_next entries i entry is) ∙ map-append asked_of (take i entries) (entry ∷ []) in
    let grown : IsBuilt b' (listed_chains es was.chains ++ chains_from (i + 1) 1 (asked_of entry) (map plain_chain lent)) [] = build (listed_chains es was.chains) was.built in
    let owned : IsBuilt b' (listed_chains es was.chains ++ chains_from (1 + length es) 1 (asked_of entry) (plain_chains own)) [] =
    subst (λ n. IsBuilt b' (listed_chains es was.chains ++ chains_from n 1 (asked_of entry) (plain_chains own)) []) number
    (subst (λ (cs : List Chain). IsBuilt b' (listed_chains es was.chains ++ chains_from (i + 1) 1 (asked_of entry) (map plain_chain cs)) []) same grown) in
    record {
      chains = was.chains ++ plain_chains own ∷ [];
      far = subst (λ xs. AreSoFar xs (was.chains ++ plain_chains own ∷ []) seen' counts') (sym (listed_next entries i entry is)) more;
      built = subst (λ xs. IsBuilt b' (listed_chains xs (was.chains ++ plain_chains own ∷ [])) []) (sym asked)
          (subst (λ xs. IsBuilt b' xs []) (sym (listed-push 1 es was.chains (asked_of entry) (plain_chains own) many)) owned);
      packed = subst (λ (cs : List Chain). IsPackedTo p' (was.chains ++ map plain_chain cs ∷ [])) same (pack was.chains was.packed);
    }

-- all entries are
pub all-built : (entries : List Entry) (i : ℕ) (seen : Seen) (counts : Counts) (b : Builder) (p : PackingBuilder) → i ≡ length entries → AreAdded (take i entries) seen counts b p → IsListBuilt entries b p
all-built entries i seen counts b p all was =
    let whole : take i entries ≡ entries = take_all i entries (omega (arith, all)) in
    let done : AreAdded entries seen counts b p = subst (λ es. AreAdded es seen counts b p) whole was in
    record { patterns = done.far.patterns; chains = done.chains; split = done.far.split; built = done.built; packed = done.packed }

pub refused-at : (entries : List Entry) (P : List Pattern) (i : ℕ) (entry : Entry) (refusal : Refusal) → slice_get entries i ≡ Some entry →
    AreAcceptedFrom [] (map listed (take i entries)) P → IsRefusalOf (map listed (take i entries)) (listed entry) refusal → IsFirstRefusal (map listed entries) (suc (length (map listed (take i entries)))) entry.id refusal
refused-at entries P i entry refusal is accepted one =
    let whole : map listed (take i entries) ++ listed entry ∷ map listed (drop (i + 1) entries) ≡ map listed entries =
    sym (append_assoc (map listed (take i entries)) (listed entry ∷ []) (map listed (drop (i + 1) entries)))
    ∙ (ap (λ es. es ++ map listed (drop (i + 1) entries)) (sym (listed_next entries i entry is))
    ∙ (sym (map-append listed (take (i + 1) entries) (drop (i + 1) entries)) ∙ ap (map listed) (take-append-drop (i + 1) entries))) in
    subst (λ es. IsFirstRefusal es (suc (length (map listed (take i entries)))) entry.id refusal) whole
    (refused-behind [] (map listed (take i entries)) P (listed entry) (map listed (drop (i + 1) entries)) refusal accepted one)

-- why a list isn't compiled, by its entry
pub cause-at : (entries : List Entry) (P : List Pattern) (i : ℕ) (entry : Entry) (fault : CompileFault) → slice_get entries i ≡ Some entry →
    AreAcceptedFrom [] (map listed (take i entries)) P → IsEntryCause (map listed (take i entries)) (listed entry) fault → IsCauseOf (map listed entries) fault
cause-at entries P i entry (Refused number id refusal) is accepted cause =
    subst (λ n. IsFirstRefusal (map listed entries) n id refusal) (sym cause.0)
    (subst (λ (x : ExprId). IsFirstRefusal (map listed entries) (suc (length (map listed (take i entries)))) x refusal) (same_id entry.id id (sym cause.1)) (refused-at entries P i entry refusal is accepted cause.2))
  where
    same_id : (a b : ExprId) → a.0 ≡ b.0 → a ≡ b
    same_id a b e = ap (λ n. record { 0 = n }) e
cause-at entries P i entry Memory is accepted cause = tt

-- the reason of the next entry
pub next-cause : (entries : List Entry) (chains : List (List (List Piece))) (i : ℕ) (entry : Entry) (seen : Seen) (counts : Counts) (fault : CompileFault) → slice_get entries i ≡ Some entry →
    AreSoFar (map listed (take i entries)) chains seen counts →
    ((before : List ListedEntry) (P : List Pattern) → Precede before P (i + 1) seen counts → IsEntryCause before (listed entry) fault) → IsCauseOf (map listed entries) fault
next-cause entries chains i entry seen counts fault is far cause =
    cause-at entries far.patterns i entry fault is far.split.accepted (cause (map listed (take i entries)) far.patterns (next-number entries chains i entry seen counts is far))
