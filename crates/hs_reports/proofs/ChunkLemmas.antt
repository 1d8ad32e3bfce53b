-- What bytes in a row tell, by an induction on their places.
use Rattle.std.proofs.Common.{◌≡◌, ℕ, zero, suc, ◌+◌, ◌*◌, ◌<◌, ◌≤◌, ◌⊎◌, ◌↔◌, Bool, true, false, not, ◌||◌, ◌&&◌, List, [], ◌∷◌, ◌++◌, length, take, drop, get_or, Some, slice_get, slice_index, refl, sym, ap, subst, ◌∙◌, inl, inr, arith, append_assoc, length-append, cond}
use Rattle.std.proofs.lemmas.Bool.{and_left}
use Rattle.std.proofs.lemmas.List.{append-nil, take_all, take_more, length-take-le}
use Rattle.std.proofs.Math.Seq.{take-add}
use Rattle.hs_base.specs.declared.context.Next.TheVariants as after
use Rattle.hs_base.specs.Lists.{IsMember}
use Rattle.hs_base.specs.Contexts.{class_of}
use Rattle.hs_base.specs.Patterns.{Pattern, is_single, IsPair}
use Rattle.hs_base.specs.Reports.{IsReport}
use Rattle.hs_base.specs.Told.{Pair, IsTold, IsNew}
use Rattle.hs_base.specs.Settling.{HasEndHere, AreRising, Kept, Ends, tells_before, tells_behind, settled, pairs_told}
use Rattle.hs_base.proofs.ListLemmas.{member-left, member-right, member-append, member-place, place-member}
use Rattle.hs_base.proofs.ByteSetLemmas.{or-false}
use Rattle.hs_base.proofs.ReportLemmas.{report-pair_now}
use Rattle.hs_base.proofs.EndLemmas.{pair-before_byte, pair-behind_byte}
use Rattle.hs_base.proofs.SettlingLemmas.{only-two}
use Rattle.hs_base.proofs.NewLemmas.{AreByteReports, new_by_reports, told_more, new_nothing}
use Rattle.hs_base.proofs.ToldLemmas.{new-joins}
use Rattle.hs_base.proofs.PairListLemmas.{IsToldAt, pairs-member, pairs-rising_two, values_by, Tell, tell-by, IsNewBefore, IsNewBehind}
use Rattle.hs_reports.specs.Heard.{IsHeard, IsToldBy}
use Rattle.hs_reports.specs.Chunks.{kept_behind, late_at, early_at, pairs_where, chunk_pairs, pairs_of_chunk, AreChunkEnds, AreChunkOf, pairs_of_blocks}
use Rattle.hs_reports.proofs.HeardLemmas.{byte-tells, IsSpent, spent-longer, spent-earlier, spent-none, spent-tells}

-- beginnings of the bytes

begun-more : (bytes : List ℕ) (i : ℕ) → i < length bytes → take (suc i) bytes ≡ take i bytes ++ get_or bytes i 0 ∷ []
begun-more bytes i below = let next : suc i ≡ i + 1 = omega arith in ap (λ n. take n bytes) next ∙ take_more bytes i 0 below

stream-more : (u bytes : List ℕ) (i : ℕ) → i < length bytes → u ++ take (suc i) bytes ≡ (u ++ take i bytes) ++ get_or bytes i 0 ∷ []
stream-more u bytes i below = ap (λ xs. u ++ xs) (begun-more bytes i below) ∙ sym (append_assoc u (take i bytes) (get_or bytes i 0 ∷ []))

length-begun : (u bytes : List ℕ) (i : ℕ) → i ≤ length bytes → length (u ++ take i bytes) ≡ length u + i
length-begun u bytes i within = omega (arith, length-append u (take i bytes), length-take-le i bytes within)

-- the ends of the identifier are known, or it is spent, and they may be any
abbrev pub AreEndsOrSpent : List Pattern → (u bytes : List ℕ) → (id : ℕ) → (ℕ → Ends) → Type 0
AreEndsOrSpent P u bytes id ends = AreChunkEnds P u bytes id ends ⊎ IsSpent P u id

-- what one byte tells
tells-at : (P : List Pattern) (u bytes : List ℕ) (id : ℕ) (kept : Kept) (ends : ℕ → Ends) → AreEndsOrSpent P u bytes id ends → (i : ℕ) → i < length bytes → IsHeard P (u ++ take i bytes) id kept →
    IsToldBy P (u ++ take i bytes) (get_or bytes i 0) id (is_single P id) kept (ends i)
tells-at P u bytes id kept ends (inl are) i below is = byte-tells P (u ++ take i bytes) (get_or bytes i 0) id kept (ends i) is (are i below)
tells-at P u bytes id kept ends (inr spent) i below is = spent-tells P (u ++ take i bytes) (get_or bytes i 0) id kept (ends i) is (spent-longer P u (take i bytes) id spent)

-- what is known of an identifier behind the first bytes
heard-behind : (P : List Pattern) (u bytes : List ℕ) (id : ℕ) (kept : Kept) (ends : ℕ → Ends) → IsHeard P u id kept → AreEndsOrSpent P u bytes id ends →
    (i : ℕ) → i ≤ length bytes → IsHeard P (u ++ take i bytes) id (kept_behind (is_single P id) kept ends i)
heard-behind P u bytes id kept ends is are zero within = subst (λ w. IsHeard P w id kept) (sym (append-nil u)) is
heard-behind P u bytes id kept ends is are (suc i) within =
    subst (λ w. IsHeard P w id (kept_behind (is_single P id) kept ends (suc i))) (sym (stream-more u bytes i within))
    (tells-at P u bytes id (kept_behind (is_single P id) kept ends i) ends are i within
    (heard-behind P u bytes id kept ends is are i (omega arith))).heard

pub chunk-heard_or_spent : (P : List Pattern) (u bytes : List ℕ) (id : ℕ) (kept : Kept) (ends : ℕ → Ends) → IsHeard P u id kept → AreEndsOrSpent P u bytes id ends →
    IsHeard P (u ++ bytes) id (kept_behind (is_single P id) kept ends (length bytes))
chunk-heard_or_spent P u bytes id kept ends is are =
    subst (λ xs. IsHeard P (u ++ xs) id (kept_behind (is_single P id) kept ends (length bytes))) (take_all (length bytes) bytes (omega arith))
    (heard-behind P u bytes id kept ends is are (length bytes) (omega arith))

pub chunk-heard : (P : List Pattern) (u bytes : List ℕ) (id : ℕ) (kept : Kept) (ends : ℕ → Ends) → IsHeard P u id kept → AreChunkEnds P u bytes id ends →
    IsHeard P (u ++ bytes) id (kept_behind (is_single P id) kept ends (length bytes))
chunk-heard P u bytes id kept ends is are = chunk-heard_or_spent P u bytes id kept ends is (inl are)

-- an identifier without an end

-- what isn't left to the end alone is known
heard-same : (P : List Pattern) (u : List ℕ) (id : ℕ) (kept kept' : Kept) → kept.told ≡ kept'.told → kept.here ≡ kept'.here → IsHeard P u id kept → IsHeard P u id kept'
heard-same P u id kept kept' told here is = record {
  told = λ single. subst (λ t. (t ≡ true) ↔ ((to : ℕ) × IsReport P u false id to)) told (is.told single);
  here = subst (λ t. (t ≡ true) ↔ IsReport P u false id (length u)) here is.here;
}

quiet-byte : (single : Bool) (kept : Kept) (ends : Ends) → ends.before ≡ false → ends.behind ≡ false →
    ((settled single kept ends).told ≡ kept.told) × ((settled single kept ends).here ≡ false)
quiet-byte single kept ends before behind =
    let late : tells_before single kept ends ≡ false = and_left ends.before (not (cond single kept.told kept.here)) before in
    let early : tells_behind single kept ends ≡ false = and_left ends.behind (not (single && (kept.told || tells_before single kept ends))) behind in
    (ap (λ t. kept.told || (t || tells_behind single kept ends)) late ∙ (ap (λ t. kept.told || t) early ∙ or-false kept.told), early)

pub quiet-behind : (single : Bool) (kept : Kept) (ends : ℕ → Ends) (n : ℕ) → ((i : ℕ) → i < n → ((ends i).before ≡ false) × ((ends i).behind ≡ false)) →
    ((kept_behind single kept ends n).told ≡ kept.told) × (0 < n → (kept_behind single kept ends n).here ≡ false)
quiet-behind single kept ends zero quiet = (refl, λ below. absurd (omega arith))
quiet-behind single kept ends (suc n) quiet =
    let (before, behind) = quiet n (omega arith) in
    let (told, here) = quiet-byte single (kept_behind single kept ends n) (ends n) before behind in
    (told ∙ (quiet-behind single kept ends n (λ i below. quiet i (omega arith))).0, λ some. here)

pub chunk-stays_or_spent : (P : List Pattern) (u bytes : List ℕ) (id : ℕ) (kept : Kept) (ends : ℕ → Ends) → 0 < length bytes → IsHeard P u id kept → AreEndsOrSpent P u bytes id ends →
    ((i : ℕ) → i < length bytes → ((ends i).before ≡ false) × ((ends i).behind ≡ false)) → IsHeard P (u ++ bytes) id (record kept { here = false })
chunk-stays_or_spent P u bytes id kept ends some is are quiet =
    let (told, here) = quiet-behind (is_single P id) kept ends (length bytes) quiet in
    heard-same P (u ++ bytes) id (kept_behind (is_single P id) kept ends (length bytes)) (record kept { here = false }) told (here some)
    (chunk-heard_or_spent P u bytes id kept ends is are)

pub chunk-stays : (P : List Pattern) (u bytes : List ℕ) (id : ℕ) (kept : Kept) (ends : ℕ → Ends) → 0 < length bytes → IsHeard P u id kept → AreChunkEnds P u bytes id ends →
    ((i : ℕ) → i < length bytes → ((ends i).before ≡ false) × ((ends i).behind ≡ false)) → IsHeard P (u ++ bytes) id (record kept { here = false })
chunk-stays P u bytes id kept ends some is are quiet = chunk-stays_or_spent P u bytes id kept ends some is (inl are) quiet

-- the reports of one byte

-- the identifiers of which the byte decides a pair are among these, which rise
record AreNamed (P : List Pattern) (u : List ℕ) (b : ℕ) (ids : List ℕ) : Type 0 where
  rising : AreRising ids
  before : (id : ℕ) → IsNewBefore P u b id → IsMember id ids
  behind : (id : ℕ) → IsNewBehind P u b id → IsMember id ids

told-member : (ids : List ℕ) (values : List Bool) (Q : ℕ → Type 0) (to : ℕ) → Tell ids values Q → (p : Pair) → IsMember p (pairs_told ids values to) ↔ ((p.to ≡ to) × IsMember p.id ids × Q p.id)
told-member ids values Q to tell p = (
  λ member.
      let is : IsToldAt ids values to p = (pairs-member ids values to p).0 member in
      (is.ends, place-member ids p.id is.index is.named, (tell.each is.index p.id is.named).0 is.told),
  λ (ends, member, holds).
      let (k, named) = member-place ids p.id member in
      (pairs-member ids values to p).1 (record { index = k; named = named; told = (tell.each k p.id named).1 holds; ends = ends }),
)

named-reports : (P : List Pattern) (u : List ℕ) (b : ℕ) (ids : List ℕ) (befores behinds : List Bool) → AreNamed P u b ids → Tell ids befores (IsNewBefore P u b) → Tell ids behinds (IsNewBehind P u b) →
    AreByteReports P u b (pairs_told ids befores (length u) ++ pairs_told ids behinds (length u + 1))
named-reports P u b ids befores behinds are tell tell' = record {
  each = λ p. (
    λ member. elim (member-append (pairs_told ids befores (length u)) (pairs_told ids behinds (length u + 1)) p member) [
      | inl before ↦
          let (ends, _, (report, fresh)) = (told-member ids befores (IsNewBefore P u b) (length u) tell p).0 before in (
            subst (IsReport P (u ++ b ∷ []) false p.id) (sym ends) report,
            λ earlier. fresh (subst (IsReport P u false p.id) ends earlier),
          )
      | inr behind ↦
          let (ends, _, report) = (told-member ids behinds (IsNewBehind P u b) (length u + 1) tell' p).0 behind in (
            subst (IsReport P (u ++ b ∷ []) false p.id) (sym ends) report,
            λ earlier.
                let pair : IsPair P u false p.id p.to = report-pair_now P u false p.id p.to earlier in
                let within : p.to ≤ length u = pair.within in
                omega arith,
          )
    ],
    λ (report, fresh).
        elim (only-two P u b p.id p.to report fresh) [
          | inl here ↦
              let new : IsNewBefore P u b p.id = (subst (IsReport P (u ++ b ∷ []) false p.id) here report, λ earlier. fresh (subst (IsReport P u false p.id) (sym here) earlier)) in
              member-left (pairs_told ids befores (length u)) (pairs_told ids behinds (length u + 1)) p
              ((told-member ids befores (IsNewBefore P u b) (length u) tell p).1 (here, are.before p.id new, new))
          | inr here ↦
              let new : IsNewBehind P u b p.id = subst (IsReport P (u ++ b ∷ []) false p.id) here report in
              member-right (pairs_told ids befores (length u)) (pairs_told ids behinds (length u + 1)) p
              ((told-member ids behinds (IsNewBehind P u b) (length u + 1) tell' p).1 (here, are.behind p.id new, new))
        ],
  );
  rising = pairs-rising_two ids befores behinds (length u) (length u + 1) are.rising (omega arith);
}

-- What is known of identifiers as in AreChunkOf, but for those that are spent: none of them has to be there, and where
-- one is its ends may be any.
pub record IsChunkOf (P : List Pattern) (u bytes ids : List ℕ) (single : ℕ → Bool) (old : ℕ → Kept)
    (ends : ℕ → ℕ → Ends) : Type 0 where
  pub rising : AreRising ids
  pub before : (i id : ℕ) → i < length bytes → HasEndHere P id (u ++ take i bytes) (class_of (slice_index bytes i)) →
      IsMember id ids ⊎ IsSpent P u id
  pub behind : (i id : ℕ) → i < length bytes →
      HasEndHere P id (u ++ take i bytes ++ slice_index bytes i ∷ []) after.Unknown →
      IsMember id ids ⊎ IsSpent P u id
  pub singles : (k id : ℕ) → slice_get ids k ≡ Some id → is_single P id ≡ single k
  pub heard : (k id : ℕ) → slice_get ids k ≡ Some id → IsHeard P u id (old k)
  pub ends_are : (k id : ℕ) → slice_get ids k ≡ Some id → AreEndsOrSpent P u bytes id (ends k)

pub chunk-is : (P : List Pattern) (u bytes ids : List ℕ) (single : ℕ → Bool) (old : ℕ → Kept) (ends : ℕ → ℕ → Ends) → AreChunkOf P u bytes ids single old ends → IsChunkOf P u bytes ids single old ends
chunk-is P u bytes ids single old ends chunk = record {
  rising = chunk.concerned.rising;
  before = λ i id below found. inl (chunk.concerned.before i id below found);
  behind = λ i id below found. inl (chunk.concerned.behind i id below found);
  singles = chunk.singles;
  heard = chunk.heard;
  ends_are = λ k id named. inl (chunk.ends_are k id named);
}

-- the reports of bytes in a row
module _ (P : List Pattern) (u bytes ids : List ℕ) (single : ℕ → Bool) (old : ℕ → Kept) (ends : ℕ → ℕ → Ends) (chunk : IsChunkOf P u bytes ids single old ends) where
  told-by : (k id i : ℕ) → slice_get ids k ≡ Some id → i < length bytes →
      IsToldBy P (u ++ take i bytes) (get_or bytes i 0) id (single k) (kept_behind (single k) (old k) (ends k) i) (ends k i)
  told-by k id i named below =
      subst (λ s. IsToldBy P (u ++ take i bytes) (get_or bytes i 0) id s (kept_behind s (old k) (ends k) i) (ends k i)) (chunk.singles k id named)
      (tells-at P u bytes id (kept_behind (is_single P id) (old k) (ends k) i) (ends k) (chunk.ends_are k id named) i below
      (heard-behind P u bytes id (old k) (ends k) (chunk.heard k id named) (chunk.ends_are k id named) i (omega arith)))

  named-at : (i : ℕ) → i < length bytes → AreNamed P (u ++ take i bytes) (get_or bytes i 0) ids
  named-at i below = record {
    rising = chunk.rising;
    before = λ id (report, fresh). elim (chunk.before i id below (before-found i id report)) [
      | inl member ↦ member
      | inr spent ↦ absurd (fresh (spent-earlier P (u ++ take i bytes) (get_or bytes i 0 ∷ []) id (length (u ++ take i bytes)) (spent-longer P u (take i bytes) id spent) report))
    ];
    behind = λ id report. elim (chunk.behind i id below (behind-found i id report)) [
      | inl member ↦ member
      | inr spent ↦ absurd (spent-none P (u ++ take i bytes) (get_or bytes i 0) id (spent-longer P u (take i bytes) id spent) report)
    ];
  }
    where
      before-found : (i id : ℕ) → IsReport P ((u ++ take i bytes) ++ get_or bytes i 0 ∷ []) false id (length (u ++ take i bytes)) → HasEndHere P id (u ++ take i bytes) (class_of (get_or bytes i 0))
      before-found i id report =
          (pair-before_byte P (u ++ take i bytes) (get_or bytes i 0) id).0
          (report-pair_now P ((u ++ take i bytes) ++ get_or bytes i 0 ∷ []) false id (length (u ++ take i bytes)) report)

      behind-found : (i id : ℕ) → IsReport P ((u ++ take i bytes) ++ get_or bytes i 0 ∷ []) false id (length (u ++ take i bytes) + 1) → HasEndHere P id ((u ++ take i bytes) ++ get_or bytes i 0 ∷ []) after.Unknown
      behind-found i id report =
          (pair-behind_byte P (u ++ take i bytes) (get_or bytes i 0) id).0
          (report-pair_now P ((u ++ take i bytes) ++ get_or bytes i 0 ∷ []) false id (length (u ++ take i bytes) + 1) report)

  abbrev late : ℕ → ℕ → Bool
  late i k = late_at (single k) (old k) (ends k) i

  abbrev early : ℕ → ℕ → Bool
  early i k = early_at (single k) (old k) (ends k) i

  byte-reported : (i : ℕ) → i < length bytes → AreByteReports P (u ++ take i bytes) (get_or bytes i 0) (pairs_where ids (late i) (length u + i) ++ pairs_where ids (early i) (length u + i + 1))
  byte-reported i below =
      let w : List ℕ = u ++ take i bytes in
      let b : ℕ = get_or bytes i 0 in
      subst (λ n. AreByteReports P w b (pairs_where ids (late i) n ++ pairs_where ids (early i) (n + 1))) (length-begun u bytes i (omega arith))
      (named-reports P w b ids (values_by (late i) (length ids)) (values_by (early i) (length ids)) (named-at i below)
      (tell-by ids (late i) (IsNewBefore P w b) (λ k id named. (told-by k id i named below).before))
      (tell-by ids (early i) (IsNewBehind P w b) (λ k id named. (told-by k id i named below).behind)))

  chunk-begun : (told : List Pair) → IsTold P u told → (i : ℕ) → i ≤ length bytes → IsNew P u (take i bytes) (pairs_of_chunk ids single old ends (length u) i)
  unfolding chunk_pairs
  chunk-begun told is zero within = new_nothing P u told is
  chunk-begun told is (suc i) within =
      let w : List ℕ = u ++ take i bytes in
      let b : ℕ = get_or bytes i 0 in
      let earlier : List Pair = pairs_of_chunk ids single old ends (length u) i in
      let here : List Pair = pairs_where ids (late i) (length u + i) ++ pairs_where ids (early i) (length u + i + 1) in
      let begun : IsNew P u (take i bytes) earlier = chunk-begun told is i (omega arith) in
      let new : IsNew P w (b ∷ []) here = new_by_reports P w b (told ++ earlier) here (told_more P u (take i bytes) told earlier is begun) (byte-reported i within) in
      subst (λ xs. IsNew P u xs (earlier ++ here)) (sym (begun-more bytes i within))
      (new-joins P u (take i bytes) (b ∷ []) earlier here begun new)

pub chunk-new_but_spent : (P : List Pattern) (u bytes ids : List ℕ) (single : ℕ → Bool) (old : ℕ → Kept) (ends : ℕ → ℕ → Ends) (told : List Pair) → IsChunkOf P u bytes ids single old ends → IsTold P u told →
    IsNew P u bytes (pairs_of_chunk ids single old ends (length u) (length bytes))
chunk-new_but_spent P u bytes ids single old ends told chunk is =
    subst (λ xs. IsNew P u xs (pairs_of_chunk ids single old ends (length u) (length bytes))) (take_all (length bytes) bytes (omega arith))
    (chunk-begun P u bytes ids single old ends chunk told is (length bytes) (omega arith))

pub chunk-new : (P : List Pattern) (u bytes ids : List ℕ) (single : ℕ → Bool) (old : ℕ → Kept) (ends : ℕ → ℕ → Ends) (told : List Pair) → AreChunkOf P u bytes ids single old ends → IsTold P u told →
    IsNew P u bytes (pairs_of_chunk ids single old ends (length u) (length bytes))
chunk-new P u bytes ids single old ends told chunk is = chunk-new_but_spent P u bytes ids single old ends told (chunk-is P u bytes ids single old ends chunk) is

-- blocks in a row
pub blocks-new : (P : List Pattern) (u bytes : List ℕ) (size n : ℕ) (pairs : ℕ → List Pair) (told : List Pair) → IsTold P u told →
    ((j : ℕ) → j < n → IsNew P (u ++ take (size * j) bytes) (take size (drop (size * j) bytes)) (pairs j)) → IsNew P u (take (size * n) bytes) (pairs_of_blocks pairs n)
blocks-new P u bytes size zero pairs told is each =
    let none : size * 0 ≡ 0 = omega arith in
    subst (λ k. IsNew P u (take k bytes) []) (sym none) (new_nothing P u told is)
blocks-new P u bytes size (suc n) pairs told is each =
    let next : size * suc n ≡ size * n + size = omega arith in
    subst (λ xs. IsNew P u xs (pairs_of_blocks pairs n ++ pairs n)) (sym (ap (λ k. take k bytes) next ∙ take-add (size * n) size bytes))
    (new-joins P u (take (size * n) bytes) (take size (drop (size * n) bytes)) (pairs_of_blocks pairs n) (pairs n)
    (blocks-new P u bytes size n pairs told is (λ j below. each j (omega arith))) (each n (omega arith)))
