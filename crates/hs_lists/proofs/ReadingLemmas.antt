-- A list's file of which the beginning shows that it holds no list.
use Rattle.std.proofs.Common.{◌≡◌, ℕ, ◌+◌, ◌-◌, ◌<◌, ◌≤◌, List, [], ◌++◌, length, take, ap, sym, subst, ◌∙◌, append-nil, arith}
use Rattle.std.proofs.lemmas.List.{length-append, length-drop, length-take-le}
use Rattle.hs_outside.specs.Store.{Told, untold, lacks, holds, Begins, EndsBy, IsLonger, ReadsAt}
use Rattle.hs_lists.specs.ListKinds.{ListKind}
use Rattle.hs_lists.specs.Causes.{Cause}
use Rattle.hs_lists.specs.Accepting.{IsFormCause}
use Rattle.hs_lists.specs.Endings.{greatest_list, StopsList}
use Rattle.hs_lists.proofs.EndingLemmas.{form-stops}

-- a file that ends by a place ends by each one behind it
pub EndsBy-later : (told : Told) (at later : ℕ) → at ≤ later → EndsBy told at → EndsBy told later
EndsBy-later untold at later le end = tt
EndsBy-later lacks at later le end = end
EndsBy-later (holds file) at later le end = omega (arith, le, end)

-- a file of which the bytes so far show that it holds no list, and which ends within the limit
pub doomed-stops : (kind : ListKind) (name : List ℕ) (told : Told) (before now : ℕ) (seen : List ℕ) (cause : Cause) → Begins told seen → length seen ≤ greatest_list → EndsBy told greatest_list → now ≡ before → ((rest : List ℕ) → IsFormCause kind (seen ++ rest) cause) → StopsList kind name told before now cause
doomed-stops kind name untold before now seen cause begins within end same doomed =
    form-stops kind name untold before now seen cause tt within same (subst (λ file. IsFormCause kind file cause) (append-nil seen) (doomed []))
doomed-stops kind name lacks before now seen cause begins within end same doomed = absurd end
doomed-stops kind name (holds file) before now seen cause begins within end same doomed =
    form-stops kind name (holds file) before now (seen ++ begins.0) cause begins.1 (subst (λ bytes. length bytes ≤ greatest_list) begins.1 end) same (doomed begins.0)

-- a read at a place that gives nothing, though there is room, shows that the file ends by each place behind it
pub EndsBy-read : (told : Told) (at later : ℕ) (old new : List ℕ) (n : ℕ) → at ≤ later → ReadsAt told at old new n → n ≡ 0 → 0 < length new → EndsBy told later
EndsBy-read told at later old new n le reads none room = EndsBy-later told at later le (reads.end none room)

-- a read that gives bytes past the limit shows that the file is longer
pub IsLonger-read : (told : Told) (at limit : ℕ) (old new : List ℕ) (n : ℕ) → at ≤ limit → limit - at < n → ReadsAt told at old new n → IsLonger told limit
IsLonger-read untold at limit old new n le more reads = tt
IsLonger-read lacks at limit old new n le more reads = absurd reads.given
IsLonger-read (holds file) at limit old new n le more reads =
    let behind : length file - at ≡ n + length reads.given.0 = sym (length-drop at file) ∙ ap length reads.given.1 ∙ length-append (take n new) reads.given.0 ∙ ap (λ k. k + length reads.given.0) (length-take-le n new reads.within) in
    omega (arith, le, more, behind)
