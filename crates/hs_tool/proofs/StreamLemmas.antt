-- From what a script leaves to the answer of `stream`.
use Rattle.std.proofs.Common.{◌≡◌, ℕ, Bool, true, List, [], ◌++◌, Option, Some, None, Result, Ok, Err, refl, sym, ap, ap₂, ◌∙◌, subst, append_assoc, append-nil}
use Rattle.hs_base.specs.Entries.{ListedEntry}
use Rattle.hs_base.specs.Patterns.{Pattern}
use Rattle.hs_outside.specs.Source.{Gave, IsAtEnd, IsWhole}
use Rattle.hs_outside.specs.Sink.{Took, TookPrefix}
use Rattle.hs_outside.specs.Store.{Told}
use Rattle.hs_text.specs.declared.reply_lines.ScriptFault.{ScriptFault}
use Rattle.hs_kept.specs.Packing.{packed_size}
use Rattle.hs_kept.proofs.PackingLemmas.{packings-sized}
use Rattle.hs_compile.specs.Databases.{Compiled, IsDatabaseOf, packing_of}
use Rattle.hs_compile.proofs.SizeLemmas.{plan-once}
use Rattle.hs_script.specs.Bases.{Basis}
use Rattle.hs_lists.specs.declared.loading.Loaded.{Loaded}
use Rattle.hs_lists.specs.Loading.{IsLoaded, entries_of, list_digest}
use Rattle.hs_tool.specs.OpenStreams.{RunsBasis}
use Rattle.hs_tool.specs.declared.session.fault.ScriptStop.{ScriptStop}
use Rattle.hs_reader.specs.Reading.{MayCome}
use Rattle.hs_tool.specs.Serving as serving
use Rattle.hs_tool.specs.Serving.{Finished, Begun, Unkept, SoFar, ScriptEnds, EndCounts, EndStored}
use Rattle.hs_lists.specs.ListKinds.{ListKind, database_file}
use Rattle.hs_lists.specs.Causes.{Cause}
use Rattle.hs_tool.specs.Streaming
use Rattle.hs_tool.specs.Streaming.{ByEach, IsBasisOf, IsTextOver, HasServed, IsTextSoFar, IsTextBefore, HasAnswered, HasStopped, IsSomeText, HasBegunAnswers}
use Rattle.hs_tool.specs.Stopping.{cause_of_stop}
use Rattle.hs_tool.specs.Answers
use Rattle.hs_lists.specs.Endings.{Outside, HasList, NoFault}
use Rattle.hs_tool.specs.Answers.{Input, HasDatabase, StreamEnds}
use Rattle.hs_lists.proofs.EndingLemmas.{no_memory_early}

-- what a source has left, and nothing where it doesn't tell
abbrev rest_of : Option (List ℕ) → List ℕ
rest_of None = []
rest_of (Some rest) = rest

may_come : (ended : Bool) (lefts : Option (List ℕ)) → (ended ≡ true → IsAtEnd lefts) → MayCome ended (rest_of lefts)
may_come ended None settled is = refl
may_come ended (Some rest) settled is = settled is

whole_of : (left lefts : Option (List ℕ)) (taken : List ℕ) → Gave left lefts taken → IsWhole left (taken ++ rest_of lefts)
whole_of None lefts taken gave = tt
whole_of (Some all) None taken gave = absurd gave
whole_of (Some all) (Some rest) taken gave = gave

-- what a machine may go by for the list is what it may go by for its database
pub runs_each : {kind : ListKind} {told : Told} {loaded : Loaded} → (is : IsLoaded kind told loaded) → ByEach (entries_of loaded) is.patterns (RunsBasis loaded.database)
runs_each {loaded = loaded} is basis of = record {
  is_basis = of.is_basis;
  is_database = subst (IsDatabaseOf loaded.database) (plan-once is.patterns is.plan basis.plan is.is_plan of.plan) is.runs;
  digest = of.digest ∙ sym is.digest;
}

pub has_database : {kind : ListKind} {told : Told} {loaded : Loaded} → (is : IsLoaded kind told loaded) → HasList database_file told (entries_of loaded) is.patterns → HasDatabase told (entries_of loaded) is.patterns
has_database {loaded = loaded} is has = record {
  list = has;
  plan = is.plan;
  is_plan = is.is_plan;
  size = packed_size (packing_of loaded.database);
  kept = packings-sized (packing_of loaded.database) is.plan is.runs.packing;
}

-- a machine may go by the plan of the list, and take no file for that of a stream
pub some_basis : {told : Told} {entries : List ListedEntry} {P : List Pattern} → HasDatabase told entries P → (basis : Basis) × IsBasisOf entries P basis
some_basis {entries = entries} has = (
  record { plan = has.plan; size = has.size; digest = list_digest entries; origin = λ file. None },
  record { plan = has.is_plan; digest = refl; is_basis = record { plan = has.is_plan.is_plan; size = has.kept; origins = λ file h e. absurd (cc e) } },
)

module _ {db : Compiled} {entries : List ListedEntry} {P : List Pattern} (of : ByEach entries P (RunsBasis db)) where
  -- the text of a script that was run to its end or its fault
  text_over : {told tells : List ℕ → Told} {left : Option (List ℕ)} (lefts : Option (List ℕ)) {taken : List ℕ} {ended : Bool} {ending : Option ScriptFault} {text : List ℕ} → Gave left lefts taken → (ended ≡ true → IsAtEnd lefts) → Finished db told tells taken ended ending text → ByEach entries P (λ basis. IsTextOver basis told tells left ending text)
  text_over {left = left} lefts {taken = taken} {ended = ended} gave settled finished basis is = record {
    bytes = taken ++ rest_of lefts;
    whole = whole_of left lefts taken gave;
    answers = finished.answers;
    run = finished.runs basis (rest_of lefts) (of basis is) (may_come ended lefts settled);
  }

  -- the text of a script of which the first bytes were looked at
  text_so_far : {told tells : List ℕ → Told} {left lefts : Option (List ℕ)} {taken unread text : List ℕ} (bytes : List ℕ) → (begun : Begun db told taken unread text) → bytes ≡ begun.front ++ begun.rest → IsTextSoFar (record { entries = entries; patterns = P; told = told; tells = tells; left = left; lefts = lefts }) bytes text
  text_so_far bytes begun split = record {
    front = begun.front;
    rest = begun.rest;
    split = split;
    actions = begun.actions;
    more = begun.more;
    answers = begun.answers;
    commands = begun.whole;
    part = begun.part;
    run = λ basis is. begun.runs basis (of basis is);
    is = begun.is;
  }

  -- and of one that the store broke off
  text_before : {told tells : List ℕ → Told} {left lefts : Option (List ℕ)} {taken unread text : List ℕ} → (unkept : Unkept db told taken unread text) → IsTextBefore (record { entries = entries; patterns = P; told = told; tells = tells; left = left; lefts = lefts }) unkept.front unkept.rest text
  text_before unkept = record {
    actions = unkept.actions;
    answers = unkept.answers;
    commands = unkept.whole;
    file_line = unkept.line;
    run = λ basis is. unkept.runs basis (of basis is);
    is = unkept.is;
  }

  -- all bytes that were taken were looked at
  answered : {told tells : List ℕ → Told} {left lefts out outs : Option (List ℕ)} {taken text : List ℕ} → Gave left lefts taken → Begun db told taken [] text → Took out outs text → HasAnswered (record { entries = entries; patterns = P; told = told; tells = tells; left = left; lefts = lefts }) taken out outs
  answered {taken = taken} {text = text} gave begun took = record {
    given = gave;
    text = text;
    so_far = text_so_far taken begun (begun.split ∙ ap (λ (xs : List ℕ). begun.front ++ xs) (append-nil begun.rest));
    taken = took;
  }

  stopped : {told tells : List ℕ → Told} {left lefts out outs : Option (List ℕ)} {taken unread text : List ℕ} → Gave left lefts taken → Unkept db told taken unread text → Took out outs text → HasStopped (record { entries = entries; patterns = P; told = told; tells = tells; left = left; lefts = lefts }) out outs
  stopped {left = left} {lefts = lefts} {unread = unread} {text = text} gave unkept took = record {
    bytes = unkept.front;
    line = unkept.rest;
    unread = unread;
    given = subst (λ (xs : List ℕ). Gave left lefts xs) unkept.split gave;
    text = text;
    before = text_before unkept;
    taken = took;
  }

  some_text : {told tells : List ℕ → Told} {left lefts : Option (List ℕ)} {taken text : List ℕ} → Gave left lefts taken → SoFar db told tells taken lefts text → IsSomeText (record { entries = entries; patterns = P; told = told; tells = tells; left = left; lefts = lefts }) text
  some_text {left = left} {lefts = lefts} gave (serving.begun unread begun) =
      Streaming.part (begun.front ++ begun.rest) unread
      (subst (λ (xs : List ℕ). Gave left lefts xs) (begun.split ∙ sym (append_assoc begun.front begun.rest unread)) gave)
      (text_so_far (begun.front ++ begun.rest) begun refl)
  some_text {left = left} {lefts = lefts} gave (serving.unkept unread unkept) =
      Streaming.stopped unkept.front unkept.rest unread (subst (λ (xs : List ℕ). Gave left lefts xs) unkept.split gave) (text_before unkept)
  some_text {lefts = lefts} {taken = taken} gave (serving.over ended ending settled finished) =
      Streaming.all ending (record { taken = taken; given = gave }) (text_over lefts gave settled finished)

-- nothing was taken
gave-none : (left lefts : Option (List ℕ)) → Gave left lefts [] → lefts ≡ left
gave-none None None gave = refl
gave-none None (Some rest) gave = absurd gave
gave-none (Some all) None gave = absurd gave
gave-none (Some all) (Some rest) gave = ap Some (sym gave)

-- how the command ended whose script ended so
abbrev pub outcome_of_stop : Result (Unit {0}) ScriptStop → Option Cause
outcome_of_stop (Ok done) = None
outcome_of_stop (Err stop) = Some (cause_of_stop stop)

-- of a store that told the same
pub ends_told : {db : Compiled} {told told' tells : List ℕ → Told} {left lefts : Option (List ℕ)} {IsWritten IsCut : List ℕ → Type 0} {result : Result (Unit {0}) ScriptStop} → told' ≡ told → ScriptEnds db told' tells left lefts IsWritten IsCut result → ScriptEnds db told tells left lefts IsWritten IsCut result
ends_told {db} {tells = tells} {left = left} {lefts = lefts} {IsWritten = IsWritten} {IsCut = IsCut} {result = result} same ends =
    subst (λ t. ScriptEnds db t tells left lefts IsWritten IsCut result) same ends

-- nothing failed of what was counted
none_failed : (before now : Outside) → now.stored ≡ before.stored → now.sunk ≡ before.sunk → NoFault before now
none_failed before now store sink = record { store = store; sink = sink }

module _ (db : Compiled) (database : List ℕ) (before now : Outside) (input inputs : Input) (entries : List ListedEntry) (P : List Pattern) (has : HasDatabase (before.told database) entries P) (of : ByEach entries P (RunsBasis db)) where
  pub stream_ends : (result : Result (Unit {0}) ScriptStop) →
      ScriptEnds db before.told now.told input.left inputs.left (λ text. Took before.out now.out text) (λ text. TookPrefix before.out now.out text) result → EndCounts input.faults inputs.faults before.sunk now.sunk result → EndStored before.stored now.stored result →
      StreamEnds database before now input inputs (outcome_of_stop result)
  stream_ends _ (serving.complete taken text gave end finished took) counts stored =
      Answers.done entries P has
      (record { text = text; over = text_over of inputs.left gave (λ e. end) finished; taken = took; given = record { taken = taken; given = gave } })
      end (none_failed before now stored counts.sink) counts.source
  stream_ends _ (serving.faulty fault taken text ended gave settled finished took) counts stored =
      Answers.faulty entries P fault has
      (record { text = text; over = text_over of inputs.left gave settled finished; taken = took; given = record { taken = taken; given = gave } })
      (none_failed before now stored counts.sink) counts.source
  stream_ends _ (serving.unread taken text gave begun took) counts stored =
      Answers.source_failed entries P taken has (answered of gave begun took) (none_failed before now stored counts.1) counts.0
  stream_ends _ (serving.too_long taken text gave long begun took) counts stored =
      Answers.long_script entries P taken has (answered of gave begun took) long (none_failed before now stored counts.sink) counts.source
  stream_ends _ (serving.unwritten taken text gave so_far cut) counts stored =
      Answers.sink_failed entries P has (record { text = text; some = some_text of gave so_far; taken = cut }) counts.1
  stream_ends _ (serving.unstored taken ahead text gave unkept took) counts stored =
      Answers.store_failed entries P has (stopped of gave unkept took) stored counts.sink counts.source
  stream_ends _ (serving.no_memory gave same took) counts stored =
      Answers.stopped _ (no_memory_early database_file database before now took (none_failed before now stored counts.sink))
      (ap₂ (λ (l : Option (List ℕ)) (n : ℕ). record { left = l; faults = n }) (gave-none input.left inputs.left gave) counts.source) same

  -- the script stopped by this cause
  pub stream_stops : (stop : ScriptStop) (cause : Cause) → cause ≡ cause_of_stop stop →
      ScriptEnds db before.told now.told input.left inputs.left (λ text. Took before.out now.out text) (λ text. TookPrefix before.out now.out text) (Err stop) → EndCounts input.faults inputs.faults before.sunk now.sunk (Err stop) → EndStored before.stored now.stored (Err stop) →
      StreamEnds database before now input inputs (Some cause)
  stream_stops stop cause is ends counts stored =
      subst (λ x. StreamEnds database before now input inputs (Some x)) (sym is) (stream_ends (Err stop) ends counts stored)
