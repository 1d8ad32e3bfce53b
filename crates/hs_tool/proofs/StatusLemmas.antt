-- What the status of an answer says by itself.
use Rattle.std.proofs.Common.{◌≡◌, ◌≢◌, ℕ, ◌⊎◌, List, [], Option, Some, None, refl, sym, ap, ◌∙◌, subst, arith, inl, inr}
use Rattle.hs_base.specs.Entries.{ListedEntry}
use Rattle.hs_outside.specs.Counts.{Rose}
use Rattle.hs_outside.specs.Sink.{Took}
use Rattle.hs_outside.specs.Store.{Told, untold}
use Rattle.hs_request.specs.Requests.{Request, match_file, check_list, compile_list, tell_database, scan_file, run_script, soak}
use Rattle.hs_lists.specs.ListKinds.{ListKind}
use Rattle.hs_tool.specs.Commands.{IsStream}
use Rattle.hs_lists.specs.Accepting.{IsRefused, bad_line, bad_bytes, bad_form, bad_entry}
use Rattle.hs_lists.specs.Causes.{Cause, usage, refused, read, write, store, absent, limit, form, script, memory, status_of, status_of_cause}
use Rattle.hs_tool.proofs.BegunLemmas.{begun-missing}
use Rattle.hs_tool.specs.SoakEndings as soaks
use Rattle.hs_tool.specs.SoakEndings.{SoakEnds}
use Rattle.hs_tool.specs.Answers
use Rattle.hs_lists.specs.Endings
use Rattle.hs_lists.specs.Endings.{Outside, StopsList, TellEnds, CompileEnds}
use Rattle.hs_tool.specs.Answers.{Input, ScanEnds, StreamEnds, Ends, KeepsFiles, IsDue, IsAnswer, TellsFile, IsStatus, IsSilentStatus, HasRun, HasSoaked}

is_status : (outcome : Option Cause) → IsStatus (status_of outcome)
is_status None = inl refl
is_status (Some usage) = inr (inl refl)
is_status (Some (refused entry refusal)) = inr (inr (inl refl))
is_status (Some read) = inr (inr (inr (inl refl)))
is_status (Some write) = inr (inr (inr (inl refl)))
is_status (Some store) = inr (inr (inr (inl refl)))
is_status (Some (form at)) = inr (inr (inr (inr (inl refl))))
is_status (Some (script fault)) = inr (inr (inr (inr (inr (inl refl)))))
is_status (Some memory) = inr (inr (inr (inr (inr (inr (inl refl))))))
is_status (Some (absent name)) = inr (inr (inr (inr (inr (inr (inr (inl refl)))))))
is_status (Some limit) = inr (inr (inr (inr (inr (inr (inr (inr (inl refl))))))))

-- ---- the list

-- a list is refused with status 2 or 4
refused_status : {kind : ListKind} {file : List ℕ} {cause : Cause} → IsRefused kind file cause → (status_of_cause cause ≡ 2) ⊎ (status_of_cause cause ≡ 4)
refused_status (bad_form (bad_line bad)) = inl refl
refused_status (bad_form (bad_bytes place)) = inr refl
refused_status (bad_entry list first) = inl refl

refused_as : {kind : ListKind} {file : List ℕ} {cause : Cause} (n : ℕ) → IsRefused kind file cause → status_of_cause cause ≡ n → (n ≡ 2 → ⊥) → (n ≡ 4 → ⊥) → ⊥
refused_as n bad e two four =
    elim (refused_status bad) [
      | inl is ↦ two (sym e ∙ is)
      | inr is ↦ four (sym e ∙ is)
    ]

stops_usage : {kind : ListKind} {name : List ℕ} {told : Told} {before now : ℕ} {cause : Cause} → StopsList kind name told before now cause → status_of_cause cause ≡ 1 → ⊥
stops_usage (Endings.no_list missing none) e = omega (arith, e)
stops_usage (Endings.list_failed rose) e = omega (arith, e)
stops_usage (Endings.long_list longer none) e = omega (arith, e)
stops_usage (Endings.list_refused has none) e = refused_as 1 has.refused e (λ x. omega (arith, x)) (λ x. omega (arith, x))
stops_usage (Endings.no_memory none) e = omega (arith, e)

stops_rose : {kind : ListKind} {name : List ℕ} {told : Told} {before now : ℕ} {cause : Cause} → StopsList kind name told before now cause → status_of_cause cause ≡ 3 → Rose before now
stops_rose (Endings.no_list missing none) e = absurd (omega (arith, e))
stops_rose (Endings.list_failed rose) e = rose
stops_rose (Endings.long_list longer none) e = absurd (omega (arith, e))
stops_rose (Endings.list_refused has none) e = absurd (refused_as 3 has.refused e (λ x. omega (arith, x)) (λ x. omega (arith, x)))
stops_rose (Endings.no_memory none) e = absurd (omega (arith, e))

-- a number that is neither 0 nor 5 isn't another that is
apart : (m n : ℕ) → m ≡ n → (n ≡ 0) ⊎ (n ≡ 5) → (m ≡ 0 → ⊥) → (m ≡ 5 → ⊥) → ⊥
apart m n e (inl zero) none five = none (e ∙ zero)
apart m n e (inr is) none five = five (e ∙ is)

-- a list that isn't loaded never ends the program with 0 or 5
stops_unserved : {kind : ListKind} {name : List ℕ} {told : Told} {before now : ℕ} {cause : Cause} (n : ℕ) → StopsList kind name told before now cause → status_of_cause cause ≡ n → (n ≡ 0) ⊎ (n ≡ 5) → ⊥
stops_unserved n (Endings.no_list missing none) e is = apart 7 n e is (λ x. omega (arith, x)) (λ x. omega (arith, x))
stops_unserved n (Endings.list_failed rose) e is = apart 3 n e is (λ x. omega (arith, x)) (λ x. omega (arith, x))
stops_unserved n (Endings.long_list longer none) e is = apart 8 n e is (λ x. omega (arith, x)) (λ x. omega (arith, x))
stops_unserved n (Endings.list_refused has none) e is =
    elim (refused_status has.refused) [
      | inl two ↦ apart 2 n (sym two ∙ e) is (λ x. omega (arith, x)) (λ x. omega (arith, x))
      | inr four ↦ apart 4 n (sym four ∙ e) is (λ x. omega (arith, x)) (λ x. omega (arith, x))
    ]
stops_unserved n (Endings.no_memory none) e is = apart 6 n e is (λ x. omega (arith, x)) (λ x. omega (arith, x))

-- ---- status 1: wrong words alone

scan_usage : {kind : ListKind} {list file : List ℕ} {before now : Outside} {outcome : Option Cause} → ScanEnds kind list file before now outcome → status_of outcome ≡ 1 → ⊥
scan_usage (Answers.done entries P has written none) e = omega (arith, e)
scan_usage (Answers.stopped cause early) e = stops_usage early.stops e
scan_usage (Answers.no_file entries P has missing begun none) e = omega (arith, e)
scan_usage (Answers.file_failed entries P has begun rose) e = omega (arith, e)
scan_usage (Answers.long_file entries P has longer begun none) e = omega (arith, e)
scan_usage (Answers.sink_failed entries P has begun rose) e = omega (arith, e)

tell_usage : {IsText : List ListedEntry → List ℕ → Type 0} {kind : ListKind} {list : List ℕ} {before now : Outside} {outcome : Option Cause} → TellEnds IsText kind list before now outcome → status_of outcome ≡ 1 → ⊥
tell_usage (Endings.done entries P text has is taken none) e = omega (arith, e)
tell_usage (Endings.stopped cause early) e = stops_usage early.stops e
tell_usage (Endings.sink_failed entries P text has is taken rose) e = omega (arith, e)

compile_usage : {patterns database : List ℕ} {before now : Outside} {outcome : Option Cause} → CompileEnds patterns database before now outcome → status_of outcome ≡ 1 → ⊥
compile_usage (Endings.done entries P bytes has is put taken none) e = omega (arith, e)
compile_usage (Endings.stopped cause early kept) e = stops_usage early.stops e
compile_usage (Endings.put_failed entries P has spoils nothing rose) e = omega (arith, e)
compile_usage (Endings.sink_failed entries P bytes has is put taken rose) e = omega (arith, e)

stream_usage : {database : List ℕ} {before now : Outside} {input inputs : Input} {outcome : Option Cause} → StreamEnds database before now input inputs outcome → status_of outcome ≡ 1 → ⊥
stream_usage (Answers.done entries P has served end none still) e = omega (arith, e)
stream_usage (Answers.faulty entries P fault has served none still) e = omega (arith, e)
stream_usage (Answers.stopped cause early same kept) e = stops_usage early.stops e
stream_usage (Answers.source_failed entries P bytes has answered none rose) e = omega (arith, e)
stream_usage (Answers.long_script entries P bytes has answered long none still) e = omega (arith, e)
stream_usage (Answers.store_failed entries P has stopped rose sunk still) e = omega (arith, e)
stream_usage (Answers.sink_failed entries P has begun rose) e = omega (arith, e)

soak_usage : {seed count : ℕ} {before now : Outside} {outcome : Option Cause} → SoakEnds seed count before now outcome → status_of outcome ≡ 1 → ⊥
soak_usage (soaks.done text is taken none) e = omega (arith, e)
soak_usage (soaks.list_refused number id refusal first quiet none) e = omega (arith, e)
soak_usage (soaks.no_memory quiet none) e = omega (arith, e)
soak_usage (soaks.sink_failed text is taken rose) e = omega (arith, e)

usage_request : (request : Option Request) (before now : Outside) (input inputs : Input) (outcome : Option Cause) → Ends request before now input inputs outcome → status_of outcome ≡ 1 → request ≡ None
usage_request None before now input inputs outcome ends e = refl
usage_request (Some (match_file patterns file)) before now input inputs outcome ends e = absurd (scan_usage ends e)
usage_request (Some (check_list patterns)) before now input inputs outcome ends e = absurd (tell_usage ends e)
usage_request (Some (compile_list patterns database)) before now input inputs outcome ends e = absurd (compile_usage ends e)
usage_request (Some (tell_database database)) before now input inputs outcome ends e = absurd (tell_usage ends e)
usage_request (Some (scan_file database file)) before now input inputs outcome ends e = absurd (scan_usage ends e)
usage_request (Some (run_script database)) before now input inputs outcome ends e = absurd (stream_usage ends e)
usage_request (Some (soak seed count)) before now input inputs outcome ends e = absurd (soak_usage ends e)

request_usage : (request : Option Request) (before now : Outside) (input inputs : Input) (outcome : Option Cause) → Ends request before now input inputs outcome → request ≡ None → (status_of outcome ≡ 1) ⊎ (status_of outcome ≡ 6)
request_usage None before now input inputs outcome ends e =
    elim ends.cause [
      | inl wrong ↦ inl (ap status_of wrong)
      | inr wanted ↦ inr (ap status_of wanted)
    ]
request_usage (Some request) before now input inputs outcome ends e = absurd (cc)

-- ---- status 3: a call failed

scan_rose : {kind : ListKind} {list file : List ℕ} {before now : Outside} {outcome : Option Cause} → ScanEnds kind list file before now outcome → status_of outcome ≡ 3 → Rose before.stored now.stored ⊎ Rose before.sunk now.sunk
scan_rose (Answers.done entries P has written none) e = absurd (omega (arith, e))
scan_rose (Answers.stopped cause early) e = inl (stops_rose early.stops e)
scan_rose (Answers.no_file entries P has missing begun none) e = absurd (omega (arith, e))
scan_rose (Answers.file_failed entries P has begun rose) e = inl rose
scan_rose (Answers.long_file entries P has longer begun none) e = absurd (omega (arith, e))
scan_rose (Answers.sink_failed entries P has begun rose) e = inr rose

tell_rose : {IsText : List ListedEntry → List ℕ → Type 0} {kind : ListKind} {list : List ℕ} {before now : Outside} {outcome : Option Cause} → TellEnds IsText kind list before now outcome → status_of outcome ≡ 3 → Rose before.stored now.stored ⊎ Rose before.sunk now.sunk
tell_rose (Endings.done entries P text has is taken none) e = absurd (omega (arith, e))
tell_rose (Endings.stopped cause early) e = inl (stops_rose early.stops e)
tell_rose (Endings.sink_failed entries P text has is taken rose) e = inr rose

compile_rose : {patterns database : List ℕ} {before now : Outside} {outcome : Option Cause} → CompileEnds patterns database before now outcome → status_of outcome ≡ 3 → Rose before.stored now.stored ⊎ Rose before.sunk now.sunk
compile_rose (Endings.done entries P bytes has is put taken none) e = absurd (omega (arith, e))
compile_rose (Endings.stopped cause early kept) e = inl (stops_rose early.stops e)
compile_rose (Endings.put_failed entries P has spoils nothing rose) e = inl rose
compile_rose (Endings.sink_failed entries P bytes has is put taken rose) e = inr rose

-- a call failed on the store, on the sink, or on the source of `stream`
abbrev pub Fails : Option Request → Outside → Outside → Input → Input → Type 0
Fails request before now input inputs = Rose before.stored now.stored ⊎ (Rose before.sunk now.sunk ⊎ (IsStream request × Rose input.faults inputs.faults))

failed_elsewhere : {A B C : Type 0} → A ⊎ B → A ⊎ (B ⊎ C)
failed_elsewhere (inl a) = inl a
failed_elsewhere (inr b) = inr (inl b)

stream_rose : {database : List ℕ} {before now : Outside} {input inputs : Input} {outcome : Option Cause} → StreamEnds database before now input inputs outcome → status_of outcome ≡ 3 → Fails (Some (run_script database)) before now input inputs
stream_rose (Answers.done entries P has served end none still) e = absurd (omega (arith, e))
stream_rose (Answers.faulty entries P fault has served none still) e = absurd (omega (arith, e))
stream_rose (Answers.stopped cause early same kept) e = inl (stops_rose early.stops e)
stream_rose (Answers.source_failed entries P bytes has answered none rose) e = inr (inr (tt, rose))
stream_rose (Answers.long_script entries P bytes has answered long none still) e = absurd (omega (arith, e))
stream_rose (Answers.store_failed entries P has stopped rose sunk still) e = inl rose
stream_rose (Answers.sink_failed entries P has begun rose) e = inr (inl rose)

soak_rose : {seed count : ℕ} {before now : Outside} {outcome : Option Cause} → SoakEnds seed count before now outcome → status_of outcome ≡ 3 → Rose before.stored now.stored ⊎ Rose before.sunk now.sunk
soak_rose (soaks.done text is taken none) e = absurd (omega (arith, e))
soak_rose (soaks.list_refused number id refusal first quiet none) e = absurd (omega (arith, e))
soak_rose (soaks.no_memory quiet none) e = absurd (omega (arith, e))
soak_rose (soaks.sink_failed text is taken rose) e = inr rose

ends_rose : (request : Option Request) (before now : Outside) (input inputs : Input) (outcome : Option Cause) → Ends request before now input inputs outcome → status_of outcome ≡ 3 → Fails request before now input inputs
ends_rose None before now input inputs outcome ends e =
    absurd (elim ends.cause [
      | inl wrong ↦ (let same = ap status_of wrong in omega (arith, e, same))
      | inr wanted ↦ (let same = ap status_of wanted in omega (arith, e, same))
    ])
ends_rose (Some (match_file patterns file)) before now input inputs outcome ends e = failed_elsewhere (scan_rose ends e)
ends_rose (Some (check_list patterns)) before now input inputs outcome ends e = failed_elsewhere (tell_rose ends e)
ends_rose (Some (compile_list patterns database)) before now input inputs outcome ends e = failed_elsewhere (compile_rose ends e)
ends_rose (Some (tell_database database)) before now input inputs outcome ends e = failed_elsewhere (tell_rose ends e)
ends_rose (Some (scan_file database file)) before now input inputs outcome ends e = failed_elsewhere (scan_rose ends e)
ends_rose (Some (run_script database)) before now input inputs outcome ends e = stream_rose ends e
ends_rose (Some (soak seed count)) before now input inputs outcome ends e = failed_elsewhere (soak_rose ends e)

-- ---- status 5: a script with a fault

scan_unserved : {kind : ListKind} {list file : List ℕ} {before now : Outside} {outcome : Option Cause} → ScanEnds kind list file before now outcome → status_of outcome ≡ 5 → ⊥
scan_unserved (Answers.done entries P has written none) e = omega (arith, e)
scan_unserved (Answers.stopped cause early) e = stops_unserved 5 early.stops e (inr refl)
scan_unserved (Answers.no_file entries P has missing begun none) e = omega (arith, e)
scan_unserved (Answers.file_failed entries P has begun rose) e = omega (arith, e)
scan_unserved (Answers.long_file entries P has longer begun none) e = omega (arith, e)
scan_unserved (Answers.sink_failed entries P has begun rose) e = omega (arith, e)

tell_unserved : {IsText : List ListedEntry → List ℕ → Type 0} {kind : ListKind} {list : List ℕ} {before now : Outside} {outcome : Option Cause} → TellEnds IsText kind list before now outcome → status_of outcome ≡ 5 → ⊥
tell_unserved (Endings.done entries P text has is taken none) e = omega (arith, e)
tell_unserved (Endings.stopped cause early) e = stops_unserved 5 early.stops e (inr refl)
tell_unserved (Endings.sink_failed entries P text has is taken rose) e = omega (arith, e)

compile_unserved : {patterns database : List ℕ} {before now : Outside} {outcome : Option Cause} → CompileEnds patterns database before now outcome → status_of outcome ≡ 5 → ⊥
compile_unserved (Endings.done entries P bytes has is put taken none) e = omega (arith, e)
compile_unserved (Endings.stopped cause early kept) e = stops_unserved 5 early.stops e (inr refl)
compile_unserved (Endings.put_failed entries P has spoils nothing rose) e = omega (arith, e)
compile_unserved (Endings.sink_failed entries P bytes has is put taken rose) e = omega (arith, e)

soak_unserved : {seed count : ℕ} {before now : Outside} {outcome : Option Cause} → SoakEnds seed count before now outcome → status_of outcome ≡ 5 → ⊥
soak_unserved (soaks.done text is taken none) e = omega (arith, e)
soak_unserved (soaks.list_refused number id refusal first quiet none) e = omega (arith, e)
soak_unserved (soaks.no_memory quiet none) e = omega (arith, e)
soak_unserved (soaks.sink_failed text is taken rose) e = omega (arith, e)

ends_script : (request : Option Request) (before now : Outside) (input inputs : Input) (outcome : Option Cause) → Ends request before now input inputs outcome → status_of outcome ≡ 5 → IsStream request
ends_script None before now input inputs outcome ends e =
    elim ends.cause [
      | inl wrong ↦ (let same = ap status_of wrong in omega (arith, e, same))
      | inr wanted ↦ (let same = ap status_of wanted in omega (arith, e, same))
    ]
ends_script (Some (match_file patterns file)) before now input inputs outcome ends e = scan_unserved ends e
ends_script (Some (check_list patterns)) before now input inputs outcome ends e = tell_unserved ends e
ends_script (Some (compile_list patterns database)) before now input inputs outcome ends e = compile_unserved ends e
ends_script (Some (tell_database database)) before now input inputs outcome ends e = tell_unserved ends e
ends_script (Some (scan_file database file)) before now input inputs outcome ends e = scan_unserved ends e
ends_script (Some (run_script database)) before now input inputs outcome ends e = tt
ends_script (Some (soak seed count)) before now input inputs outcome ends e = soak_unserved ends e

-- a script that was run to its end or its fault
stream_run : {database : List ℕ} {before now : Outside} {input inputs : Input} {outcome : Option Cause} (n : ℕ) → StreamEnds database before now input inputs outcome → status_of outcome ≡ n → (n ≡ 0) ⊎ (n ≡ 5) → HasRun database before.told now.told input.left before.out now.out n
stream_run n (Answers.done entries P has served end none still) e is =
    record { entries = entries; patterns = P; list = has; ending = None; ended = sym e; text = served.text; over = served.over; taken = served.taken }
stream_run n (Answers.faulty entries P fault has served none still) e is =
    record { entries = entries; patterns = P; list = has; ending = Some fault; ended = sym e; text = served.text; over = served.over; taken = served.taken }
stream_run n (Answers.stopped cause early same kept) e is = absurd (stops_unserved n early.stops e is)
stream_run n (Answers.source_failed entries P bytes has answered none rose) e is = absurd (apart 3 n e is (λ x. omega (arith, x)) (λ x. omega (arith, x)))
stream_run n (Answers.long_script entries P bytes has answered long none still) e is = absurd (apart 8 n e is (λ x. omega (arith, x)) (λ x. omega (arith, x)))
stream_run n (Answers.store_failed entries P has stopped rose sunk still) e is = absurd (apart 3 n e is (λ x. omega (arith, x)) (λ x. omega (arith, x)))
stream_run n (Answers.sink_failed entries P has begun rose) e is = absurd (apart 3 n e is (λ x. omega (arith, x)) (λ x. omega (arith, x)))

ends_run : (request : Option Request) (before now : Outside) (input inputs : Input) (outcome : Option Cause) (database : List ℕ) (n : ℕ) → Ends request before now input inputs outcome → request ≡ Some (run_script database) → status_of outcome ≡ n → (n ≡ 0) ⊎ (n ≡ 5) → HasRun database before.told now.told input.left before.out now.out n
ends_run request before now input inputs outcome database n ends same e is =
    stream_run n (subst (λ r. Ends r before now input inputs outcome) same ends) e is

-- the runs over what is drawn were told
soak_told : {seed count : ℕ} {before now : Outside} {outcome : Option Cause} → SoakEnds seed count before now outcome → status_of outcome ≡ 0 → HasSoaked seed count before.out now.out
soak_told (soaks.done text is taken none) e = record { text = text; lines = is; taken = taken }
soak_told (soaks.list_refused number id refusal first quiet none) e = absurd (omega (arith, e))
soak_told (soaks.no_memory quiet none) e = absurd (omega (arith, e))
soak_told (soaks.sink_failed text is taken rose) e = absurd (omega (arith, e))

ends_soaked : (request : Option Request) (before now : Outside) (input inputs : Input) (outcome : Option Cause) (seed count : ℕ) → Ends request before now input inputs outcome → request ≡ Some (soak seed count) → status_of outcome ≡ 0 → HasSoaked seed count before.out now.out
ends_soaked request before now input inputs outcome seed count ends same e =
    soak_told (subst (λ r. Ends r before now input inputs outcome) same ends) e

-- ---- the silent statuses

-- another status isn't silent
loud : (n : ℕ) → (n ≡ 1 → ⊥) × (n ≡ 2 → ⊥) × (n ≡ 4 → ⊥) × (n ≡ 6 → ⊥) × (n ≡ 7 → ⊥) → IsSilentStatus n → ⊥
loud n apart (inl e) = apart.0 e
loud n apart (inr (inl e)) = apart.1 e
loud n apart (inr (inr (inl e))) = apart.2 e
loud n apart (inr (inr (inr (inl e)))) = apart.3 e
loud n apart (inr (inr (inr (inr (inl e))))) = apart.4 e
loud n apart (inr (inr (inr (inr (inr e))))) = e

-- 0, 3, 5 and 8 aren't silent
loud-done : IsSilentStatus 0 → ⊥
loud-done e = loud 0 (λ x. omega (arith, x), λ x. omega (arith, x), λ x. omega (arith, x), λ x. omega (arith, x), λ x. omega (arith, x)) e

loud-failed : IsSilentStatus 3 → ⊥
loud-failed e = loud 3 (λ x. omega (arith, x), λ x. omega (arith, x), λ x. omega (arith, x), λ x. omega (arith, x), λ x. omega (arith, x)) e

loud-faulty : IsSilentStatus 5 → ⊥
loud-faulty e = loud 5 (λ x. omega (arith, x), λ x. omega (arith, x), λ x. omega (arith, x), λ x. omega (arith, x), λ x. omega (arith, x)) e

loud-long : IsSilentStatus 8 → ⊥
loud-long e = loud 8 (λ x. omega (arith, x), λ x. omega (arith, x), λ x. omega (arith, x), λ x. omega (arith, x), λ x. omega (arith, x)) e

scan_silent : {kind : ListKind} {list file : List ℕ} {before now : Outside} {outcome : Option Cause} → ScanEnds kind list file before now outcome → IsSilentStatus (status_of outcome) → (status_of outcome ≡ 7 → before.told file ≢ untold) → Took before.out now.out []
scan_silent (Answers.done entries P has written none) e tells = absurd (loud-done e)
scan_silent (Answers.stopped cause early) e tells = early.quiet
scan_silent {file = file} {before = before} {now = now} (Answers.no_file entries P has missing begun none) e tells =
    begun-missing (before.told file) P before.out now.out (tells refl) missing begun
scan_silent (Answers.file_failed entries P has begun rose) e tells = absurd (loud-failed e)
scan_silent (Answers.long_file entries P has longer begun none) e tells = absurd (loud-long e)
scan_silent (Answers.sink_failed entries P has begun rose) e tells = absurd (loud-failed e)

tell_silent : {IsText : List ListedEntry → List ℕ → Type 0} {kind : ListKind} {list : List ℕ} {before now : Outside} {outcome : Option Cause} → TellEnds IsText kind list before now outcome → IsSilentStatus (status_of outcome) → Took before.out now.out []
tell_silent (Endings.done entries P text has is taken none) e = absurd (loud-done e)
tell_silent (Endings.stopped cause early) e = early.quiet
tell_silent (Endings.sink_failed entries P text has is taken rose) e = absurd (loud-failed e)

compile_silent : {patterns database : List ℕ} {before now : Outside} {outcome : Option Cause} → CompileEnds patterns database before now outcome → IsSilentStatus (status_of outcome) → Took before.out now.out []
compile_silent (Endings.done entries P bytes has is put taken none) e = absurd (loud-done e)
compile_silent (Endings.stopped cause early kept) e = early.quiet
compile_silent (Endings.put_failed entries P has spoils nothing rose) e = nothing
compile_silent (Endings.sink_failed entries P bytes has is put taken rose) e = absurd (loud-failed e)

stream_silent : {database : List ℕ} {before now : Outside} {input inputs : Input} {outcome : Option Cause} → StreamEnds database before now input inputs outcome → IsSilentStatus (status_of outcome) → Took before.out now.out []
stream_silent (Answers.done entries P has served end none still) e = absurd (loud-done e)
stream_silent (Answers.faulty entries P fault has served none still) e = absurd (loud-faulty e)
stream_silent (Answers.stopped cause early same kept) e = early.quiet
stream_silent (Answers.source_failed entries P bytes has answered none rose) e = absurd (loud-failed e)
stream_silent (Answers.long_script entries P bytes has answered long none still) e = absurd (loud-long e)
stream_silent (Answers.store_failed entries P has stopped rose sunk still) e = absurd (loud-failed e)
stream_silent (Answers.sink_failed entries P has begun rose) e = absurd (loud-failed e)

soak_silent : {seed count : ℕ} {before now : Outside} {outcome : Option Cause} → SoakEnds seed count before now outcome → IsSilentStatus (status_of outcome) → Took before.out now.out []
soak_silent (soaks.done text is taken none) e = absurd (loud-done e)
soak_silent (soaks.list_refused number id refusal first quiet none) e = quiet
soak_silent (soaks.no_memory quiet none) e = quiet
soak_silent (soaks.sink_failed text is taken rose) e = absurd (loud-failed e)

ends_silent : (request : Option Request) (before now : Outside) (input inputs : Input) (outcome : Option Cause) → Ends request before now input inputs outcome → IsSilentStatus (status_of outcome) → (status_of outcome ≡ 7 → TellsFile request before.told) → Took before.out now.out []
ends_silent None before now input inputs outcome ends e tells = ends.quiet
ends_silent (Some (match_file patterns file)) before now input inputs outcome ends e tells = scan_silent ends e tells
ends_silent (Some (check_list patterns)) before now input inputs outcome ends e tells = tell_silent ends e
ends_silent (Some (compile_list patterns database)) before now input inputs outcome ends e tells = compile_silent ends e
ends_silent (Some (tell_database database)) before now input inputs outcome ends e tells = tell_silent ends e
ends_silent (Some (scan_file database file)) before now input inputs outcome ends e tells = scan_silent ends e tells
ends_silent (Some (run_script database)) before now input inputs outcome ends e tells = stream_silent ends e
ends_silent (Some (soak seed count)) before now input inputs outcome ends e tells = soak_silent ends e

compile_unput : {patterns database : List ℕ} {before now : Outside} {outcome : Option Cause} → CompileEnds patterns database before now outcome → IsSilentStatus (status_of outcome) → now.told ≡ before.told
compile_unput (Endings.done entries P bytes has is put taken none) e = absurd (loud-done e)
compile_unput (Endings.stopped cause early kept) e = kept
compile_unput (Endings.put_failed entries P has spoils nothing rose) e = absurd (loud-failed e)
compile_unput (Endings.sink_failed entries P bytes has is put taken rose) e = absurd (loud-failed e)

stream_unput : {database : List ℕ} {before now : Outside} {input inputs : Input} {outcome : Option Cause} → StreamEnds database before now input inputs outcome → IsSilentStatus (status_of outcome) → now.told ≡ before.told
stream_unput (Answers.done entries P has served end none still) e = absurd (loud-done e)
stream_unput (Answers.faulty entries P fault has served none still) e = absurd (loud-faulty e)
stream_unput (Answers.stopped cause early same kept) e = kept
stream_unput (Answers.source_failed entries P bytes has answered none rose) e = absurd (loud-failed e)
stream_unput (Answers.long_script entries P bytes has answered long none still) e = absurd (loud-long e)
stream_unput (Answers.store_failed entries P has stopped rose sunk still) e = absurd (loud-failed e)
stream_unput (Answers.sink_failed entries P has begun rose) e = absurd (loud-failed e)

ends_unput : (request : Option Request) (before now : Outside) (input inputs : Input) (outcome : Option Cause) → Ends request before now input inputs outcome → KeepsFiles request input.left before.told now.told → IsSilentStatus (status_of outcome) → now.told ≡ before.told
ends_unput None before now input inputs outcome ends kept e = kept
ends_unput (Some (match_file patterns file)) before now input inputs outcome ends kept e = kept
ends_unput (Some (check_list patterns)) before now input inputs outcome ends kept e = kept
ends_unput (Some (compile_list patterns database)) before now input inputs outcome ends kept e = compile_unput ends e
ends_unput (Some (tell_database database)) before now input inputs outcome ends kept e = kept
ends_unput (Some (scan_file database file)) before now input inputs outcome ends kept e = kept
ends_unput (Some (run_script database)) before now input inputs outcome ends kept e = stream_unput ends e
ends_unput (Some (soak seed count)) before now input inputs outcome ends kept e = kept

stream_unread : {database : List ℕ} {before now : Outside} {input inputs : Input} {outcome : Option Cause} → StreamEnds database before now input inputs outcome → IsSilentStatus (status_of outcome) → inputs.left ≡ input.left
stream_unread (Answers.done entries P has served end none still) e = absurd (loud-done e)
stream_unread (Answers.faulty entries P fault has served none still) e = absurd (loud-faulty e)
stream_unread (Answers.stopped cause early same kept) e = ap (λ (i : Input). i.left) same
stream_unread (Answers.source_failed entries P bytes has answered none rose) e = absurd (loud-failed e)
stream_unread (Answers.long_script entries P bytes has answered long none still) e = absurd (loud-long e)
stream_unread (Answers.store_failed entries P has stopped rose sunk still) e = absurd (loud-failed e)
stream_unread (Answers.sink_failed entries P has begun rose) e = absurd (loud-failed e)

-- what the other commands leave as it was is left so
ends_unread : (request : Option Request) (before now : Outside) (input inputs : Input) (outcome : Option Cause) → Ends request before now input inputs outcome → ((IsStream request → ⊥) → inputs.left ≡ input.left) → IsSilentStatus (status_of outcome) → inputs.left ≡ input.left
ends_unread None before now input inputs outcome ends kept e = kept (λ is. is)
ends_unread (Some (match_file patterns file)) before now input inputs outcome ends kept e = kept (λ is. is)
ends_unread (Some (check_list patterns)) before now input inputs outcome ends kept e = kept (λ is. is)
ends_unread (Some (compile_list patterns database)) before now input inputs outcome ends kept e = kept (λ is. is)
ends_unread (Some (tell_database database)) before now input inputs outcome ends kept e = kept (λ is. is)
ends_unread (Some (scan_file database file)) before now input inputs outcome ends kept e = kept (λ is. is)
ends_unread (Some (run_script database)) before now input inputs outcome ends kept e = stream_unread ends e
ends_unread (Some (soak seed count)) before now input inputs outcome ends kept e = kept (λ is. is)

-- ---- of an answer

pub answer_status : {request : Option Request} {before now : Outside} {input inputs : Input} {err erred : Option (List ℕ)} {count counted status : ℕ} → IsAnswer request before now input inputs err erred count counted status → IsStatus status
answer_status answer = subst IsStatus (sym answer.ended) (is_status answer.outcome)

pub answer_usage : {request : Option Request} {before now : Outside} {input inputs : Input} {err erred : Option (List ℕ)} {count counted status : ℕ} → IsAnswer request before now input inputs err erred count counted status → status ≡ 1 → request ≡ None
answer_usage {request} {before} {now} {input} {inputs} answer e = usage_request request before now input inputs answer.outcome answer.ends (sym answer.ended ∙ e)

pub answer_no_command : {request : Option Request} {before now : Outside} {input inputs : Input} {err erred : Option (List ℕ)} {count counted status : ℕ} → IsAnswer request before now input inputs err erred count counted status → request ≡ None → (status ≡ 1) ⊎ (status ≡ 6)
answer_no_command {request} {before} {now} {input} {inputs} answer e =
    elim (request_usage request before now input inputs answer.outcome answer.ends e) [
      | inl wrong ↦ inl (answer.ended ∙ wrong)
      | inr wanted ↦ inr (answer.ended ∙ wanted)
    ]

pub answer_fault : {request : Option Request} {before now : Outside} {input inputs : Input} {err erred : Option (List ℕ)} {count counted status : ℕ} → IsAnswer request before now input inputs err erred count counted status → status ≡ 3 → Fails request before now input inputs
answer_fault {request} {before} {now} {input} {inputs} answer e = ends_rose request before now input inputs answer.outcome answer.ends (sym answer.ended ∙ e)

pub answer_silent : {request : Option Request} {before now : Outside} {input inputs : Input} {err erred : Option (List ℕ)} {count counted status : ℕ} → IsAnswer request before now input inputs err erred count counted status → IsSilentStatus status → (status ≡ 7 → TellsFile request before.told) → Took before.out now.out []
answer_silent {request} {before} {now} {input} {inputs} answer e tells =
    ends_silent request before now input inputs answer.outcome answer.ends (subst IsSilentStatus answer.ended e) (λ gone. tells (answer.ended ∙ gone))

pub answer_unput : {request : Option Request} {before now : Outside} {input inputs : Input} {err erred : Option (List ℕ)} {count counted status : ℕ} → IsAnswer request before now input inputs err erred count counted status → KeepsFiles request input.left before.told now.told → IsSilentStatus status → now.told ≡ before.told
answer_unput {request} {before} {now} {input} {inputs} answer kept e = ends_unput request before now input inputs answer.outcome answer.ends kept (subst IsSilentStatus answer.ended e)

pub answer_complete : {request : Option Request} {before now : Outside} {input inputs : Input} {err erred : Option (List ℕ)} {count counted status : ℕ} → IsAnswer request before now input inputs err erred count counted status → (due : Option Cause) → IsDue before.told input.left request due → (Rose before.stored now.stored → ⊥) → (Rose before.sunk now.sunk → ⊥) → (IsStream request → Rose input.faults inputs.faults → ⊥) → (status ≡ status_of due) ⊎ (status ≡ 6)
answer_complete answer due is quiet still reads =
    elim (answer.due due is quiet still reads) [
      | inl same ↦ inl (answer.ended ∙ ap status_of same)
      | inr wanted ↦ inr (answer.ended ∙ ap status_of wanted)
    ]

pub answer_script : {request : Option Request} {before now : Outside} {input inputs : Input} {err erred : Option (List ℕ)} {count counted status : ℕ} → IsAnswer request before now input inputs err erred count counted status → status ≡ 5 → IsStream request
answer_script {request} {before} {now} {input} {inputs} answer e = ends_script request before now input inputs answer.outcome answer.ends (sym answer.ended ∙ e)

pub answer_unread : {request : Option Request} {before now : Outside} {input inputs : Input} {err erred : Option (List ℕ)} {count counted status : ℕ} → IsAnswer request before now input inputs err erred count counted status → ((IsStream request → ⊥) → inputs.left ≡ input.left) → IsSilentStatus status → inputs.left ≡ input.left
answer_unread {request} {before} {now} {input} {inputs} answer kept e = ends_unread request before now input inputs answer.outcome answer.ends kept (subst IsSilentStatus answer.ended e)

pub answer_run : {request : Option Request} {before now : Outside} {input inputs : Input} {err erred : Option (List ℕ)} {count counted status : ℕ} → IsAnswer request before now input inputs err erred count counted status → (database : List ℕ) → request ≡ Some (run_script database) → (status ≡ 0) ⊎ (status ≡ 5) → HasRun database before.told now.told input.left before.out now.out status
answer_run {request} {before} {now} {input} {inputs} {status = status} answer database same is =
    ends_run request before now input inputs answer.outcome database status answer.ends same (sym answer.ended) is

pub answer_soaked : {request : Option Request} {before now : Outside} {input inputs : Input} {err erred : Option (List ℕ)} {count counted status : ℕ} → IsAnswer request before now input inputs err erred count counted status → (seed expressions : ℕ) → request ≡ Some (soak seed expressions) → status ≡ 0 → HasSoaked seed expressions before.out now.out
answer_soaked {request} {before} {now} {input} {inputs} answer seed expressions same e =
    ends_soaked request before now input inputs answer.outcome seed expressions answer.ends same (sym answer.ended ∙ e)
