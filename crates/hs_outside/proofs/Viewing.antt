-- Reading a file in pieces.
use Rattle.std.proofs.Common.{◌≡◌, ℕ, zero, suc, ◌<◌, ◌≤◌, ◌+◌, ◌-◌, min, List, [], ◌∷◌, ◌++◌, length, take, drop, sym, subst, ◌∙◌, ap, refl, append_assoc, append-nil, arith, length-append, length-drop}
use Rattle.std.proofs.lemmas.List.{take-append-drop, take_at, drop_at, length-take-le}
use Rattle.std.proofs.Math.Seq.{drop-append_seam}
use Rattle.hs_outside.specs.declared.fault.StoreFault.{StoreFault}
use Rattle.hs_outside.specs.Store.{Refuses, Told, untold, lacks, holds, HasAt, EndsBy, ReadsAt, IsPresent, Begins, IsFile, IsLonger}

-- at first nothing is seen
pub Begins-nothing : (told : Told) → Begins told []
Begins-nothing untold = tt
Begins-nothing lacks = refl
Begins-nothing (holds file) = (file, refl)

-- the bytes at the end of what was seen
pub Begins-append : (told : Told) (seen piece : List ℕ) → Begins told seen → HasAt told (length seen) piece → Begins told (seen ++ piece)
Begins-append untold seen piece h k = tt
Begins-append lacks seen piece h k = absurd k
Begins-append (holds file) seen piece h k =
    let from_seam : drop (length seen) file ≡ h.0 = ap (λ (f : List ℕ). drop (length seen) f) h.1 ∙ drop-append_seam seen h.0 in
    (k.0, h.1 ∙ ap (λ (x : List ℕ). seen ++ x) (sym from_seam ∙ k.1) ∙ sym (append_assoc seen piece k.0))

-- no list with a part more is as short as the part before it
nothing_more : (rest : List ℕ) (n : ℕ) → n + length rest ≤ n → rest ≡ []
nothing_more [] n h = refl
nothing_more (x ∷ rest) n h = absurd (omega arith)

-- where the file ends by the end of what was seen, that is the file
pub IsFile-at_end : (told : Told) (seen : List ℕ) → Begins told seen → EndsBy told (length seen) → IsFile told seen
IsFile-at_end untold seen h end = tt
IsFile-at_end lacks seen h end = end
IsFile-at_end (holds file) seen h end =
    let none : h.0 ≡ [] = nothing_more h.0 (length seen) (omega (arith, ap length h.1, length-append seen h.0)) in
    h.1 ∙ ap (λ (x : List ℕ). seen ++ x) none ∙ append-nil seen

-- a file of which more than the limit was seen is longer
pub IsLonger-seen : (told : Told) (seen : List ℕ) (limit : ℕ) → Begins told seen → limit < length seen → IsLonger told limit
IsLonger-seen untold seen limit h more = tt
IsLonger-seen lacks seen limit h more = omega (arith, ap length h)
IsLonger-seen (holds file) seen limit h more = omega (arith, ap length h.1, length-append seen h.0)

-- a file with bytes somewhere isn't missing
pub IsPresent-read : (told : Told) (offset : ℕ) (bytes : List ℕ) → HasAt told offset bytes → IsPresent told
IsPresent-read untold offset bytes h = tt
IsPresent-read lacks offset bytes h = h
IsPresent-read (holds file) offset bytes h = tt

-- what is told of a name by a store that tells what it told
pub told_again : (before now : List ℕ → Told) (name : List ℕ) → now ≡ before → now name ≡ before name
told_again before now name same = ap (λ (told : List ℕ → Told). told name) same

-- what a read says of a store that tells what it told
pub ReadsAt-again : (before now : List ℕ → Told) (name : List ℕ) (offset : ℕ) (old new : List ℕ) (n : ℕ) → now ≡ before → ReadsAt (now name) offset old new n → ReadsAt (before name) offset old new n
ReadsAt-again before now name offset old new n same reads =
    subst (λ (told : List ℕ → Told). ReadsAt (told name) offset old new n) same reads

-- a read at the end of what was seen gives the next bytes
pub Begins-read : (told : Told) (seen : List ℕ) (offset : ℕ) (old new : List ℕ) (n : ℕ) → Begins told seen → offset ≡ length seen → ReadsAt told offset old new n → Begins told (seen ++ take n new)
Begins-read told seen offset old new n h at_end reads =
    Begins-append told seen (take n new) h (subst (λ (o : ℕ). HasAt told o (take n new)) at_end reads.given)

-- a read at the end of what was seen that gives nothing, though there is room, shows the whole file
pub IsFile-read : (told : Told) (seen : List ℕ) (offset : ℕ) (old new : List ℕ) (n : ℕ) → Begins told seen → offset ≡ length seen → ReadsAt told offset old new n → n ≡ 0 → 0 < length new → IsFile told seen
IsFile-read told seen offset old new n h at_end reads none room =
    IsFile-at_end told seen h (subst (λ (o : ℕ). EndsBy told o) at_end (reads.end none room))

-- a buffer whose front was overwritten by a file's bytes from some place on: the offset, or the file's end where that is before it
pub ReadsAt-copied : (file old front : List ℕ) (start offset n : ℕ) → front ≡ take n (drop start file) → start ≡ min (length file) offset → n ≡ min (length old) (length file - start) → ReadsAt (holds file) offset old (front ++ drop n old) n
ReadsAt-copied file old front start offset n copied starts counts =
    let there : n ≤ length (drop start file) = omega (arith, length-drop start file) in
    let len : length front ≡ n = omega (arith, ap length copied, length-take-le n (drop start file) there) in
    let total : length (front ++ drop n old) ≡ n + length (drop n old) = omega (arith, length-append front (drop n old)) in
    record {
      within = omega arith;
      given = (drop n (drop start file), drop-from_min file offset start starts ∙ sym (take-append-drop n (drop start file)) ∙ ap (λ (xs : List ℕ). xs ++ drop n (drop start file)) (sym copied ∙ sym (take_at front (drop n old) n len)));
      rest = drop_at front (drop n old) n len;
      end = λ none some. omega (arith, length-drop n old);
    }
  where
    drop-from_min : (xs : List ℕ) (k m : ℕ) → m ≡ min (length xs) k → drop k xs ≡ drop m xs
    drop-from_min [] zero zero h = refl
    drop-from_min [] zero (suc m) h = refl
    drop-from_min [] (suc k) zero h = refl
    drop-from_min [] (suc k) (suc m) h = refl
    drop-from_min (x ∷ xs) zero zero h = refl
    drop-from_min (x ∷ xs) zero (suc m) h = absurd (omega arith)
    drop-from_min (x ∷ xs) (suc k) zero h = absurd (omega arith)
    drop-from_min (x ∷ xs) (suc k) (suc m) h = drop-from_min xs k m (omega arith)

-- a refusal by a store that tells and counts what it did
pub Refuses-again : (before now : List ℕ → Told) (name : List ℕ) (fault : StoreFault) (count counted later : ℕ) → now ≡ before → counted ≡ count → Refuses fault (now name) counted later → Refuses fault (before name) count later
Refuses-again before now name fault count counted later same stays refused =
    subst (λ (told : List ℕ → Told). Refuses fault (told name) count later) same (subst (λ (c : ℕ). Refuses fault (now name) c later) stays refused)
