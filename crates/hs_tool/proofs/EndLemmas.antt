-- How a script ends, from how its last command ran.
use Rattle.std.proofs.Common.{◌≡◌, ℕ, Bool, true, false, List, [], ◌++◌, length, inl, inr, Option, None, Some, Result, Ok, Err, refl, sym, ap, ◌∙◌, subst, arith, append-nil, append_assoc, length-append}
use Rattle.std.proofs.lemmas.Bool.{false≢true}
use Rattle.hs_outside.specs.Counts.{Rose}
use Rattle.hs_outside.proofs.Counting.{Rose-after_same}
use Rattle.hs_outside.specs.Sink.{Took, TookPrefix}
use Rattle.hs_outside.proofs.Sending.{Took-append, TookPrefix-after}
use Rattle.hs_compile.specs.Databases.{Compiled}
use Rattle.hs_text.specs.Commands.{Order, IsCommand}
use Rattle.hs_script.specs.Machine.{start}
use Rattle.hs_script.specs.Scripts.{BeginsLine}
use Rattle.hs_script.specs.Scripts as script
use Rattle.hs_script.specs.Runs.{run_text, ending_text}
use Rattle.hs_script.specs.Runs as run
use Rattle.hs_lines.specs.Passing.{IsPassed, Passes}
use Rattle.hs_reader.specs.declared.fault.Break.{Break}
use Rattle.hs_reader.specs.declared.fault.Break.TheVariants as stop
use Rattle.hs_tool.specs.declared.session.fault.ScriptStop.{ScriptStop}
use Rattle.hs_tool.specs.declared.session.fault.ScriptStop.TheVariants.{Fault, Broken, Store, Memory}
use Rattle.hs_outside.specs.Store.{Told}
use Rattle.hs_tool.specs.OpenStreams.{Holdings, files_of}
use Rattle.hs_reader.specs.Reading.{Ahead, Consumes, IsLineRead, IsLineless, IsLineBegun, ReadsLine}
use Rattle.hs_reader.specs.Breaks.{StopsAt, ReadCounts}
use Rattle.hs_tool.specs.ScriptCommands.{StopCounts, StoreCounts, IsUnkept, How, Goes, Faulty, Part, Runs, RunsBy, LeavesAt}
use Rattle.hs_tool.specs.Serving.{in_line, EndCounts, EndStored, lost_of, Flushes, was_lost, flushed, now_lost, ScriptEnds, complete, faulty, unread, too_long, unwritten, unstored, no_memory, begun, unkept, over}
use Rattle.hs_tool.specs.Serving as serving
use Rattle.hs_tool.specs.Serving.{IsFileLine}
use Rattle.hs_tool.specs.SavedFiles.{IsFileOrder}
use Rattle.hs_reader.proofs.ReadLemmas.{consumes-join}
use Rattle.hs_lines.proofs.PassLemmas.{passes-join}
use Rattle.hs_tool.proofs.ServeLemmas.{SoFar, so_far-next, fresh, IsGiven, given, finished-end, begun-so_far, begun-line, begun-part, finished-fault, whole_before, line-open}

-- the endings of a script whose lines may wait
abbrev pub EndsWaiting : Compiled → (told tells : List ℕ → Told) → Option (List ℕ) → Option (List ℕ) → Option (List ℕ) → Option (List ℕ) → List ℕ → List ℕ → Result (Unit {0}) ScriptStop → Type 0
EndsWaiting db told tells left lefts taken takes waited waits result =
    ScriptEnds db told tells left lefts (λ text. IsPassed taken takes waited waits text) (λ text. TookPrefix taken takes (waited ++ text)) result

-- it is so for the same database
pub ends-same : {db db' : Compiled} {told tells : List ℕ → Told} {before now : Option (List ℕ)} {IsWritten IsCut : List ℕ → Type 0} {result : Result (Unit {0}) ScriptStop} → db ≡ db' → ScriptEnds db told tells before now IsWritten IsCut result → ScriptEnds db' told tells before now IsWritten IsCut result
ends-same {told = told} {tells = tells} {before = before} {now = now} {IsWritten = IsWritten} {IsCut = IsCut} {result = result} same ends =
    subst (λ d. ScriptEnds d told tells before now IsWritten IsCut result) same ends

-- ---- a line that didn't come

pub ends-complete : {db : Compiled} {number : ℕ} {p q r : Option (List ℕ)} {a b : Ahead} {first : List ℕ → Told} {k : Holdings} {x y : Option (List ℕ)} {f g : List ℕ} → SoFar db number p q fresh a first k x y f g false → IsLineless q r a b → EndsWaiting db first k.told p r x y f g (Ok tt)
ends-complete {db} {number} {p} {q} {r} {a} {b} {first} {k} {x} {y} {f} {g} so_far line =
    let consumes : Consumes p r fresh b so_far.seen = subst (λ l. Consumes p r fresh b l) (append-nil so_far.seen) (consumes-join so_far.consumes line.consumes) in
    let all : SoFar db number p r fresh b first k x y f g false = record {
      seen = so_far.seen;
      actions = so_far.actions;
      answers = so_far.answers;
      consumes = consumes;
      numbered = so_far.numbered;
      few = so_far.few;
      script = λ rest following ending may s. so_far.script rest following ending (λ e. may line.ended) s;
      paired = so_far.paired;
      leads = so_far.leads;
      sends = so_far.sends;
    } in
    let is = given p r b so_far.seen consumes in
    complete is.taken (run_text so_far.actions so_far.answers) is.gave (is.at_end line.ended) (finished-end all is line.ended) so_far.sends

pub ends-unread : {db : Compiled} {number : ℕ} {p q r : Option (List ℕ)} {a b : Ahead} {first : List ℕ → Told} {k : Holdings} {x y : Option (List ℕ)} {f g : List ℕ} (stop : Break) (read reads : ℕ) → SoFar db number p q fresh a first k x y f g false → IsLineBegun q r a b → StopsAt b stop → ReadCounts {A = Bool} read reads (Err stop) → EndsWaiting db first k.told p r x y f g (Err (Broken stop))
ends-unread {db} {p = p} {r = r} {b = b} {first = first} stop.Read read reads so_far line at counts =
    let is = given p r b (so_far.seen ++ line.part) (consumes-join so_far.consumes line.consumes) in
    unread is.taken (run_text so_far.actions so_far.answers) is.gave (subst (λ l. serving.Begun db first is.taken l (run_text so_far.actions so_far.answers)) (is.dry at.dry) (begun-line so_far line is)) so_far.sends
ends-unread {db} {p = p} {r = r} {b = b} {first = first} stop.Limit read reads so_far line at counts =
    let consumes = consumes-join so_far.consumes line.consumes in
    let is = given p r b (so_far.seen ++ line.part) consumes in
    too_long is.taken (run_text so_far.actions so_far.answers) is.gave
    (omega (arith, at.long, consumes.here, ap length is.split, length-append (so_far.seen ++ line.part) is.unread))
    (subst (λ l. serving.Begun db first is.taken l (run_text so_far.actions so_far.answers)) (is.dry at.dry.dry) (begun-line so_far line is)) so_far.sends
ends-unread stop.Write read reads so_far line at counts = absurd counts

-- ---- the sink failed behind a command

pub ends-lost : {db : Compiled} {number : ℕ} {p s : Option (List ℕ)} {c : Ahead} {first : List ℕ → Told} {new : Holdings} {x z : Option (List ℕ)} {f h : List ℕ} → SoFar db number p s fresh c first new x z f h true → EndsWaiting db first new.told p s x z f h (Err (Broken stop.Write))
ends-lost {db} {number} {p} {s} {c} {first} {new} {x} {z} {f} {h} next = by_end c.ended refl
  where
    is : IsGiven p s c next.seen
    is = given p s c next.seen next.consumes

    by_end : (t : Bool) → c.ended ≡ t → EndsWaiting db first new.told p s x z f h (Err (Broken stop.Write))
    by_end true e = unwritten is.taken (run_text next.actions next.answers) is.gave (over true None (λ t. is.at_end e) (finished-end next is e)) next.sends
    by_end false e = unwritten is.taken (run_text next.actions next.answers) is.gave (begun is.unread (begun-so_far next is e)) next.sends

-- ---- the store failed at a command

-- the whole line of a command that names a file
file_line : {p q : Option (List ℕ)} {a b : Ahead} {kept : List ℕ} {order : Order} (line : IsLineRead p q a b kept) → IsCommand line.line order → IsFileOrder order → BeginsLine line.line [] (line.seen ++ []) → IsFileLine line.seen
file_line line command names (script.fed plain is) = serving.fed line.line command names (sym (append-nil line.seen) ∙ is)
file_line {order = order} line command names (script.unfed plain some is none) =
    serving.unfed (subst (λ l. IsCommand l order) (is ∙ append-nil line.seen) command) names

pub stopped-store : {db : Compiled} {number : ℕ} {p q r s : Option (List ℕ)} {a b c : Ahead} {kept : List ℕ} {first : List ℕ → Told} {old : Holdings} {x y z : Option (List ℕ)} {f g h : List ℕ} (so_far : SoFar db number p q fresh a first old x y f g false) (line : IsLineRead q r a b kept) (new : Holdings) → IsUnkept line.line r s b c y z g h → EndsWaiting db first new.told p s x z f h (Err Store)
stopped-store {p = p} {s = s} {c = c} {x = x} {y = y} {z = z} {f = f} {g = g} {h = h} so_far line new broken =
    let whole : Consumes p s fresh c (so_far.seen ++ (line.seen ++ [])) = consumes-join so_far.consumes (consumes-join line.consumes broken.consumes) in
    let is = given p s c (so_far.seen ++ (line.seen ++ [])) whole in
    unstored is.taken is.unread (run_text so_far.actions so_far.answers) is.gave
    (record {
      front = so_far.seen;
      rest = line.seen;
      split = is.split ∙ (ap (λ l. (so_far.seen ++ l) ++ is.unread) (append-nil line.seen) ∙ append_assoc so_far.seen line.seen is.unread);
      actions = so_far.actions;
      answers = so_far.answers;
      whole = whole_before so_far (line-open line);
      line = file_line line broken.command broken.names_file (line.begins [] (λ e. refl));
      runs = λ basis of. let leads = so_far.leads basis of in record { after = leads.after; run = leads.run };
      is = refl;
    })
    (subst (λ t. Passes false x z f h t) (append-nil (run_text so_far.actions so_far.answers))
    (passes-join false x y z f g h (run_text so_far.actions so_far.answers) [] so_far.sends broken.sends))

-- ---- a command that stopped the script

module _ {db : Compiled} {number : ℕ} {p q r : Option (List ℕ)} {a b : Ahead} {kept : List ℕ} {first : List ℕ → Told} {old : Holdings} {x y : Option (List ℕ)} {f g : List ℕ} (s : Option (List ℕ)) (c : Ahead) (new : Holdings) (z : Option (List ℕ)) (h : List ℕ) (so_far : SoFar db number p q fresh a first old x y f g false) (line : IsLineRead q r a b kept) where
  -- the sink failed when all of a command was there
  lost-goes : Runs db line.line number old new r s b c y z g h true Goes → EndsWaiting db first new.told p s x z f h (Err (Broken stop.Write))
  lost-goes runs = ends-lost (so_far-next true so_far line runs)

  pub ends-by : (fault : ScriptStop) → RunsBy (Runs db line.line number old new r s b c y z g h) (IsUnkept line.line r s b c y z g h) (Err fault) → LeavesAt c (Err fault) → EndsWaiting db first new.told p s x z f h (Err fault)
  ends-by (Fault fault) runs at =
      let seen = so_far.seen ++ (line.seen ++ runs.seen) in
      let is = given p s c seen (consumes-join so_far.consumes (consumes-join line.consumes runs.consumes)) in
      faulty fault is.taken _ c.ended is.gave is.at_end (finished-fault false so_far line fault runs is)
      (passes-join false x y z f g h (run_text so_far.actions so_far.answers) (run_text runs.actions runs.answers ++ ending_text (Some fault)) so_far.sends runs.sends)
  ends-by (Broken stop.Read) runs at =
      let seen = so_far.seen ++ (line.seen ++ runs.seen) in
      let is = given p s c seen (consumes-join so_far.consumes (consumes-join line.consumes runs.consumes)) in
      unread is.taken _ is.gave
      (subst (λ l. serving.Begun db first is.taken l (run_text so_far.actions so_far.answers ++ (run_text runs.actions runs.answers ++ []))) (is.dry at.dry) (begun-part false so_far line runs is))
      (passes-join false x y z f g h (run_text so_far.actions so_far.answers) (run_text runs.actions runs.answers ++ []) so_far.sends runs.sends)
  ends-by (Broken stop.Limit) runs at =
      let seen = so_far.seen ++ (line.seen ++ runs.seen) in
      let consumes = consumes-join so_far.consumes (consumes-join line.consumes runs.consumes) in
      let is = given p s c seen consumes in
      too_long is.taken _ is.gave (omega (arith, at.long, consumes.here, ap length is.split, length-append seen is.unread))
      (subst (λ l. serving.Begun db first is.taken l (run_text so_far.actions so_far.answers ++ (run_text runs.actions runs.answers ++ []))) (is.dry at.dry.dry) (begun-part false so_far line runs is))
      (passes-join false x y z f g h (run_text so_far.actions so_far.answers) (run_text runs.actions runs.answers ++ []) so_far.sends runs.sends)
  ends-by (Broken stop.Write) somehow at = by_how somehow.how somehow.runs
    where
      by_how : (how : How) → Runs db line.line number old new r s b c y z g h true how → EndsWaiting db first new.told p s x z f h (Err (Broken stop.Write))
      by_how Goes runs = lost-goes runs
      by_how (Faulty fault) runs =
          let seen = so_far.seen ++ (line.seen ++ runs.seen) in
          let is = given p s c seen (consumes-join so_far.consumes (consumes-join line.consumes runs.consumes)) in
          unwritten is.taken _ is.gave (over c.ended (Some fault) is.at_end (finished-fault true so_far line fault runs is))
          (passes-join true x y z f g h (run_text so_far.actions so_far.answers) (run_text runs.actions runs.answers ++ ending_text (Some fault)) so_far.sends runs.sends)
      by_how Part runs =
          let seen = so_far.seen ++ (line.seen ++ runs.seen) in
          let is = given p s c seen (consumes-join so_far.consumes (consumes-join line.consumes runs.consumes)) in
          unwritten is.taken _ is.gave (begun is.unread (begun-part true so_far line runs is))
          (passes-join true x y z f g h (run_text so_far.actions so_far.answers) (run_text runs.actions runs.answers ++ []) so_far.sends runs.sends)
  ends-by Store runs at = stopped-store so_far line new runs
  ends-by Memory runs at = absurd runs

-- ---- what waits is written

-- all of it
text_written : {x y : Option (List ℕ)} {waits text : List ℕ} (z : Option (List ℕ)) → IsPassed x y [] waits text → Took y z waits → Took x z text
text_written {x} {y} {waits} z passes took = subst (λ t. Took x z t) passes.whole (Took-append x y z passes.written waits passes.taken took)

-- some of it
text_cut : {x y : Option (List ℕ)} {waits text : List ℕ} (z : Option (List ℕ)) → IsPassed x y [] waits text → TookPrefix y z waits → TookPrefix x z text
text_cut {x} {y} {waits} z passes took = subst (λ t. TookPrefix x z t) passes.whole (TookPrefix-after x y z passes.written waits passes.taken took)

-- ---- what a read line tells

pub line-none : (p q : Option (List ℕ)) (a b : Ahead) (kept : List ℕ) {more : Bool} → more ≡ false → ReadsLine p q a b kept more → IsLineless p q a b
line-none p q a b kept is reads = subst (λ t. ReadsLine p q a b kept t) is reads

pub line-one : (p q : Option (List ℕ)) (a b : Ahead) (kept : List ℕ) {more : Bool} → more ≡ true → ReadsLine p q a b kept more → IsLineRead p q a b kept
line-one p q a b kept is reads = subst (λ t. ReadsLine p q a b kept t) is reads

-- ---- what came of a script, when what waits is written

-- nothing was begun
begun-nothing : (db : Compiled) (told : List ℕ → Told) → serving.Begun db told [] [] []
begun-nothing db told = record {
  front = [];
  rest = [];
  split = refl;
  actions = [];
  more = [];
  answers = [];
  whole = λ next following ending s. s;
  part = in_line tt;
  runs = λ basis of. record { after = start (files_of told); run = run.none };
  is = refl;
}

so_far-of : {db : Compiled} {told tells : List ℕ → Told} {left lefts taken takes : Option (List ℕ)} {waits : List ℕ} {result : Result (Unit {0}) ScriptStop} (end : Option (List ℕ)) → lost_of result ≡ false → EndsWaiting db told tells left lefts taken takes [] waits result → TookPrefix takes end waits → ScriptEnds db told tells left lefts (λ text. Took taken end text) (λ text. TookPrefix taken end text) (Err (Broken stop.Write))
so_far-of end kept (complete bytes text gave at_end finished passes) cut = unwritten bytes text gave (over true None (λ e. at_end) finished) (text_cut end passes cut)
so_far-of end kept (faulty fault bytes text ended gave at_end finished passes) cut = unwritten bytes text gave (over ended (Some fault) at_end finished) (text_cut end passes cut)
so_far-of end kept (unread bytes text gave some passes) cut = unwritten bytes text gave (begun [] some) (text_cut end passes cut)
so_far-of end kept (too_long bytes text gave long some passes) cut = unwritten bytes text gave (begun [] some) (text_cut end passes cut)
so_far-of end kept (unwritten bytes text gave some part) cut = absurd (false≢true (sym kept))
so_far-of end kept (unstored bytes ahead text gave some passes) cut = unwritten bytes text gave (unkept ahead some) (text_cut end passes cut)
so_far-of {db} {told} end kept (no_memory gave same passes) cut = unwritten [] [] gave (begun [] (begun-nothing db told)) (text_cut end passes cut)

whole_of : {db : Compiled} {told tells : List ℕ → Told} {left lefts taken takes : Option (List ℕ)} {waits : List ℕ} {result : Result (Unit {0}) ScriptStop} (end : Option (List ℕ)) → lost_of result ≡ false → EndsWaiting db told tells left lefts taken takes [] waits result → Took takes end waits → ScriptEnds db told tells left lefts (λ text. Took taken end text) (λ text. TookPrefix taken end text) result
whole_of end kept (complete bytes text gave at_end finished passes) took = complete bytes text gave at_end finished (text_written end passes took)
whole_of end kept (faulty fault bytes text ended gave at_end finished passes) took = faulty fault bytes text ended gave at_end finished (text_written end passes took)
whole_of end kept (unread bytes text gave some passes) took = unread bytes text gave some (text_written end passes took)
whole_of end kept (too_long bytes text gave long some passes) took = too_long bytes text gave long some (text_written end passes took)
whole_of end kept (unwritten bytes text gave some part) took = absurd (false≢true (sym kept))
whole_of end kept (unstored bytes ahead text gave some passes) took = unstored bytes ahead text gave some (text_written end passes took)
whole_of end kept (no_memory gave same passes) took = no_memory gave same (text_written end passes took)

lost_alone : {db : Compiled} {told tells : List ℕ → Told} {left lefts taken takes : Option (List ℕ)} {waits : List ℕ} {result : Result (Unit {0}) ScriptStop} (end : Option (List ℕ)) → lost_of result ≡ true → EndsWaiting db told tells left lefts taken takes [] waits result → end ≡ takes → ScriptEnds db told tells left lefts (λ text. Took taken end text) (λ text. TookPrefix taken end text) result
lost_alone end lost (complete bytes text gave at_end finished passes) same = absurd (false≢true lost)
lost_alone end lost (faulty fault bytes text ended gave at_end finished passes) same = absurd (false≢true lost)
lost_alone end lost (unread bytes text gave some passes) same = absurd (false≢true lost)
lost_alone end lost (too_long bytes text gave long some passes) same = absurd (false≢true lost)
lost_alone {taken = taken} end lost (unwritten bytes text gave some part) same = unwritten bytes text gave some (subst (λ t. TookPrefix taken t text) (sym same) part)
lost_alone end lost (unstored bytes ahead text gave some passes) same = absurd (false≢true lost)
lost_alone end lost (no_memory gave kept passes) same = absurd (false≢true lost)

pub ends-flushed : {db : Compiled} {told tells : List ℕ → Told} {left lefts taken takes : Option (List ℕ)} {waits : List ℕ} {ended result : Result (Unit {0}) ScriptStop} {end : Option (List ℕ)} {sunk sinks : ℕ} → EndsWaiting db told tells left lefts taken takes [] waits ended → Flushes ended result takes end waits sunk sinks → ScriptEnds db told tells left lefts (λ text. Took taken end text) (λ text. TookPrefix taken end text) result
ends-flushed {db} {told} {tells} {left} {lefts} {taken} {end = end} ends (was_lost lost is same counted) =
    subst (λ r. ScriptEnds db told tells left lefts (λ text. Took taken end text) (λ text. TookPrefix taken end text) r) (sym is) (lost_alone end lost ends same)
ends-flushed {db} {told} {tells} {left} {lefts} {taken} {end = end} ends (flushed kept is took counted) =
    subst (λ r. ScriptEnds db told tells left lefts (λ text. Took taken end text) (λ text. TookPrefix taken end text) r) (sym is) (whole_of end kept ends took)
ends-flushed {db} {told} {tells} {left} {lefts} {taken} {end = end} ends (now_lost kept is cut counted) =
    subst (λ r. ScriptEnds db told tells left lefts (λ text. Took taken end text) (λ text. TookPrefix taken end text) r) (sym is) (so_far-of end kept ends cut)

-- the counts of faults behind that
kept_counts : (read reads sunk sinks : ℕ) (result : Result (Unit {0}) ScriptStop) → StopCounts read reads sunk sinks result → EndCounts read reads sunk sinks result
kept_counts read reads sunk sinks (Ok u) counts = counts
kept_counts read reads sunk sinks (Err (Fault fault)) counts = counts
kept_counts read reads sunk sinks (Err (Broken stop.Read)) counts = counts
kept_counts read reads sunk sinks (Err (Broken stop.Limit)) counts = counts
kept_counts read reads sunk sinks (Err (Broken stop.Write)) counts = (inl counts.0, counts.1)
kept_counts read reads sunk sinks (Err Store) counts = counts
kept_counts read reads sunk sinks (Err Memory) counts = counts

lost_counts : (read reads sunk sunks sinks : ℕ) (ended : Result (Unit {0}) ScriptStop) → lost_of ended ≡ false → StopCounts read reads sunk sunks ended → Rose sunks sinks → EndCounts read reads sunk sinks (Err (Broken stop.Write))
lost_counts read reads sunk sunks sinks (Ok u) kept counts rose = (inl counts.source, Rose-after_same sunk sunks sinks counts.sink rose)
lost_counts read reads sunk sunks sinks (Err (Fault fault)) kept counts rose = (inl counts.source, Rose-after_same sunk sunks sinks counts.sink rose)
lost_counts read reads sunk sunks sinks (Err (Broken stop.Read)) kept counts rose = (inr counts.0, Rose-after_same sunk sunks sinks counts.1 rose)
lost_counts read reads sunk sunks sinks (Err (Broken stop.Limit)) kept counts rose = (inl counts.source, Rose-after_same sunk sunks sinks counts.sink rose)
lost_counts read reads sunk sunks sinks (Err (Broken stop.Write)) kept counts rose = absurd (false≢true (sym kept))
lost_counts read reads sunk sunks sinks (Err Store) kept counts rose = (inl counts.source, Rose-after_same sunk sunks sinks counts.sink rose)
lost_counts read reads sunk sunks sinks (Err Memory) kept counts rose = (inl counts.source, Rose-after_same sunk sunks sinks counts.sink rose)

pub counts-flushed : (read reads sunk : ℕ) {sunks sinks : ℕ} {ended result : Result (Unit {0}) ScriptStop} {takes end : Option (List ℕ)} {waits : List ℕ} → StopCounts read reads sunk sunks ended → Flushes ended result takes end waits sunks sinks → EndCounts read reads sunk sinks result
counts-flushed read reads sunk {sunks} {sinks} {ended} counts (was_lost lost is same counted) =
    subst (λ r. EndCounts read reads sunk sinks r) (sym is) (subst (λ n. EndCounts read reads sunk n ended) (sym counted) (kept_counts read reads sunk sunks ended counts))
counts-flushed read reads sunk {sunks} {sinks} {ended} counts (flushed kept is took counted) =
    subst (λ r. EndCounts read reads sunk sinks r) (sym is) (subst (λ n. EndCounts read reads sunk n ended) (sym counted) (kept_counts read reads sunk sunks ended counts))
counts-flushed read reads sunk {sunks} {sinks} {ended} counts (now_lost kept is cut rose) =
    subst (λ r. EndCounts read reads sunk sinks r) (sym is) (lost_counts read reads sunk sunks sinks ended kept counts rose)

-- and that of the store
kept_stored : (stored storeds : ℕ) (result : Result (Unit {0}) ScriptStop) → StoreCounts stored storeds result → EndStored stored storeds result
kept_stored stored storeds (Ok u) counts = counts
kept_stored stored storeds (Err (Fault fault)) counts = counts
kept_stored stored storeds (Err (Broken stop.Read)) counts = counts
kept_stored stored storeds (Err (Broken stop.Limit)) counts = counts
kept_stored stored storeds (Err (Broken stop.Write)) counts = inl counts
kept_stored stored storeds (Err Store) counts = counts
kept_stored stored storeds (Err Memory) counts = counts

lost_stored : (stored storeds : ℕ) (ended : Result (Unit {0}) ScriptStop) → StoreCounts stored storeds ended → EndStored stored storeds (Err (Broken stop.Write))
lost_stored stored storeds (Ok u) counts = inl counts
lost_stored stored storeds (Err (Fault fault)) counts = inl counts
lost_stored stored storeds (Err (Broken cause)) counts = inl counts
lost_stored stored storeds (Err Store) counts = inr counts
lost_stored stored storeds (Err Memory) counts = inl counts

pub stored-flushed : (stored storeds : ℕ) {sunks sinks : ℕ} {ended result : Result (Unit {0}) ScriptStop} {takes end : Option (List ℕ)} {waits : List ℕ} → StoreCounts stored storeds ended → Flushes ended result takes end waits sunks sinks → EndStored stored storeds result
stored-flushed stored storeds {ended = ended} counts (was_lost lost is same counted) =
    subst (λ r. EndStored stored storeds r) (sym is) (kept_stored stored storeds ended counts)
stored-flushed stored storeds {ended = ended} counts (flushed kept is took counted) =
    subst (λ r. EndStored stored storeds r) (sym is) (kept_stored stored storeds ended counts)
stored-flushed stored storeds {ended = ended} counts (now_lost kept is cut rose) =
    subst (λ r. EndStored stored storeds r) (sym is) (lost_stored stored storeds ended counts)
