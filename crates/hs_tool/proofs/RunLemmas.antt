-- How the command of a line runs.
use Rattle.std.proofs.Common.{◌≡◌, ℕ, ◌<◌, ◌≤◌, ◌⊎◌, Bool, true, false, not, List, [], ◌∷◌, ◌++◌, length, Option, Some, Result, Ok, Err, refl, sym, ap, ◌∙◌, subst, inl, inr, arith, append-nil}
use Rattle.std.proofs.lemmas.Bool.{false≢true, cases_lt}
use Rattle.std.specs.List.{flat_map}
use Rattle.std.specs.Result.{is_err}
use Rattle.hs_outside.specs.declared.fault.Failed.{Failed}
use Rattle.hs_text.specs.declared.reply_lines.ScriptFault.{ScriptFault}
use Rattle.hs_text.specs.declared.reply_lines.ScriptFault.TheVariants.{Script, Truncated}
use Rattle.hs_text.specs.ReplyLines.{reply_line}
use Rattle.hs_text.specs.Commands.{Order, IsCommand}
use Rattle.hs_text.specs.Commands as order
use Rattle.hs_compile.specs.Databases.{Compiled}
use Rattle.hs_script.specs.Actions.{Action, Write, IsAlone}
use Rattle.hs_script.specs.Machine.{Answer}
use Rattle.hs_script.specs.Runs.{named_line, answer_text, run_text, ending_text}
use Rattle.hs_script.specs.Runs as run
use Rattle.hs_reader.specs.declared.fault.Break.{Break}
use Rattle.hs_reader.specs.declared.fault.Break.TheVariants as stop
use Rattle.hs_tool.specs.declared.session.fault.ScriptStop.{ScriptStop}
use Rattle.hs_tool.specs.declared.session.fault.ScriptStop.TheVariants.{Fault, Broken, Store, Memory}
use Rattle.hs_tool.specs.declared.session.payload.Payload.{Payload}
use Rattle.hs_outside.specs.Store.{Told}
use Rattle.hs_tool.specs.declared.session.streams.Streams.{Streams}
use Rattle.hs_reader.specs.Reading.{Ahead, Consumes}
use Rattle.hs_reader.specs.Breaks.{StopsAt, ReadCounts}
use Rattle.hs_lines.specs.Passing.{Passes}
use Rattle.hs_tool.specs.OpenStreams.{Holdings, kept, Performs}
use Rattle.hs_tool.specs.Payloads.{PayloadEnds, IsPayloadTaken}
use Rattle.hs_tool.specs.ScriptCommands.{IsAnswered, How, Goes, Faulty, Part, fault_of, IsBehind, no_command, alone, fed, unfed, other, cut, part, behind, Runs, RunsSomehow, RunsBy, SendsFault, done_of}
use Rattle.hs_reader.specs.Reading.{TakesFeed, line_end, nothing, another}
use Rattle.hs_reader.proofs.ReadLemmas.{consumes-nothing, consumes-join}
use Rattle.hs_lines.proofs.PassLemmas.{passed-nothing, passes-join, cut-longer}
use Rattle.hs_tool.proofs.CommandLemmas.{over}

-- the text of one action
one_text : (action : Action) (answer : Answer) (rest : List ℕ) → run_text (action ∷ []) (answer ∷ []) ++ rest ≡ answer_text action answer ++ rest
one_text action answer rest = ap (λ l. l ++ rest) (append-nil (answer_text action answer))

one_text_alone : (action : Action) (answer : Answer) → run_text (action ∷ []) (answer ∷ []) ++ [] ≡ answer_text action answer
one_text_alone action answer = one_text action answer [] ∙ append-nil (answer_text action answer)

-- with no line of a fault behind it
plainly : (x y : Option (List ℕ)) (f g text : List ℕ) (lost : Bool) → Passes lost x y f g text → Passes lost x y f g (text ++ [])
plainly x y f g text lost sends = subst (λ t. Passes lost x y f g t) (sym (append-nil text)) sends

module _ (db : Compiled) (line : List ℕ) (number : ℕ) (old new : Holdings) where
  -- one action ran
  one : {p q : Option (List ℕ)} {a b : Ahead} {x y : Option (List ℕ)} {f g : List ℕ} {seen : List ℕ} {action : Action} {answer : Answer} (lost : Bool) (how : How) → Consumes p q a b seen → IsBehind line number seen b.ended (action ∷ []) how → Performs db old new (action ∷ []) (answer ∷ []) → Passes lost x y f g (answer_text action answer ++ ending_text (fault_of how)) → Runs db line number old new p q a b x y f g lost how
  one {x = x} {y = y} {f = f} {g = g} {seen = seen} {action = action} {answer = answer} lost how consumes is performs sends =
      record {
        seen = seen;
        actions = action ∷ [];
        answers = answer ∷ [];
        consumes = consumes;
        is = is;
        paired = refl;
        performs = performs;
        sends = subst (λ t. Passes lost x y f g t) (sym (one_text action answer (ending_text (fault_of how)))) sends;
      }

  -- a command that writes nothing
  pub runs-alone : (U : Type 0) (p : Option (List ℕ)) (a : Ahead) {x y : Option (List ℕ)} {f g : List ℕ} {order : Order} {action : Action} (written : Result (Unit {0}) Failed) → IsCommand line order → IsAlone order action → IsAnswered db action (is_err written) old new x y f g → RunsBy (Runs db line number old new p p a a x y f g) U (done_of written)
  runs-alone U p a (Ok done) command is answered =
      one false Goes (consumes-nothing p a) (alone command is refl) answered.performs (plainly _ _ _ _ _ false answered.sends)
  runs-alone U p a {g = g} (Err failed) command is answered =
      record { how = Goes; runs = one true Goes (consumes-nothing p a) (alone command is refl) answered.performs (plainly _ _ _ g _ true answered.sends) }

-- the lines of a fault of the script are sent behind others, or they aren't
pub faulty : (U : Type 0) (R : Bool → How → Type 0) (x y z : Option (List ℕ)) (f g h text : List ℕ) (fault : ScriptFault) (told : ScriptStop) → ((lost : Bool) → Passes lost x z f h (text ++ ending_text (Some fault)) → R lost (Faulty fault)) → Passes false x y f g text → SendsFault fault y z g h told → RunsBy R U (Err told)
faulty U R x y z f g h text fault (Fault said) runs first (same, sends) =
    subst (λ (t : ScriptFault). R false (Faulty t)) (sym same) (runs false (passes-join false x y z f g h text (ending_text (Some fault)) first sends))
faulty U R x y z f g h text fault (Broken stop.Write) runs first sends =
    record { how = Faulty fault; runs = runs true (passes-join true x y z f g h text (ending_text (Some fault)) first sends) }
faulty U R x y z f g h text fault (Broken stop.Read) runs first sends = absurd sends
faulty U R x y z f g h text fault (Broken stop.Limit) runs first sends = absurd sends
faulty U R x y z f g h text fault Store runs first sends = absurd sends
faulty U R x y z f g h text fault Memory runs first sends = absurd sends

-- the write of as many bytes as came
exactly : {line name : List ℕ} {count : ℕ} (came : List ℕ) → IsCommand line (order.Write name count) → length came ≡ count → IsCommand line (order.Write name (length came))
exactly {line} {name} came command all = subst (λ n. IsCommand line (order.Write name n)) (sym all) command

was_true : (b : Bool) → not b ≡ false → b ≡ true
was_true true e = refl
was_true false e = absurd (false≢true (sym e))

was_false : (b : Bool) → not b ≡ true → b ≡ false
was_false true e = absurd (false≢true e)
was_false false e = refl

module _ (db : Compiled) (number : ℕ) (olds news : Streams) (was now : List ℕ → Told) (same : now ≡ was) (line name : List ℕ) (count : ℕ) (command : IsCommand line (order.Write name count)) where
  -- the sink failed before all came, or when they had come
  write-sunk : {p q : Option (List ℕ)} {a b : Ahead} {x y : Option (List ℕ)} {f g : List ℕ} (taken : IsPayloadTaken db name count olds news p q a b x y f g (Err stop.Write)) → (length taken.came < count) ⊎ (count ≤ length taken.came) → RunsSomehow (Runs db line number (kept olds was) (kept news now) p q a b x y f g)
  write-sunk {g = g} taken (inl before) =
      record { how = Part; runs = one db line number (kept olds was) (kept news now) true Part taken.comes.consumes (part command before refl taken.comes.ends) (over same taken.part) (plainly _ _ _ g _ true (plainly _ _ _ g _ true taken.sends)) }
  write-sunk {x = x} {y = y} {f = f} {g = g} taken (inr most) =
      let all : length taken.came ≡ count = omega (arith, taken.comes.within, most) in
      record {
        how = Part;
        runs =
            one db line number (kept olds was) (kept news now) true Part taken.comes.consumes (behind (exactly taken.came command all) refl taken.comes.ends) (over same (taken.all all))
            (plainly x y f g _ true (cut-longer x y f (flat_map (named_line name) taken.pairs) (reply_line name taken.reply) taken.sends));
      }

  -- the bytes were broken off
  pub write-broken : (U : Type 0) {p q : Option (List ℕ)} {a b : Ahead} {x y : Option (List ℕ)} {f g : List ℕ} (stop : Break) → IsPayloadTaken db name count olds news p q a b x y f g (Err stop) → RunsBy (Runs db line number (kept olds was) (kept news now) p q a b x y f g) U (Err (Broken stop))
  write-broken U stop.Read taken =
      one db line number (kept olds was) (kept news now) false Part taken.comes.consumes (part command taken.comes.ends.0 refl taken.comes.ends.1.still_open) (over same taken.part) (plainly _ _ _ _ _ false (plainly _ _ _ _ _ false taken.sends))
  write-broken U stop.Limit taken =
      one db line number (kept olds was) (kept news now) false Part taken.comes.consumes (part command taken.comes.ends.0 refl taken.comes.ends.1.dry.still_open) (over same taken.part) (plainly _ _ _ _ _ false (plainly _ _ _ _ _ false taken.sends))
  write-broken U stop.Write taken = write-sunk taken (cases_lt (length taken.came) count)

  -- all came
  all_came : {p q : Option (List ℕ)} {a b : Ahead} {x y : Option (List ℕ)} {f g : List ℕ} (payload : Payload) → not payload.whole ≡ false → (taken : IsPayloadTaken db name count olds news p q a b x y f g (Ok payload)) → length taken.came ≡ count
  all_came {b = b} payload whole taken = subst (λ t. PayloadEnds (length taken.came) count b (Ok t)) (was_true payload.whole whole) taken.comes.ends

  -- they were cut short by the end of the input
  pub write-cut : (U : Type 0) {p q : Option (List ℕ)} {a b : Ahead} {x y : Option (List ℕ)} {f g : List ℕ} (z : Option (List ℕ)) (h : List ℕ) (payload : Payload) (told : ScriptStop) → not payload.whole ≡ true → IsPayloadTaken db name count olds news p q a b x y f g (Ok payload) → SendsFault (Truncated number) y z g h told → RunsBy (Runs db line number (kept olds was) (kept news now) p q a b x z f h) U (Err told)
  write-cut U {p} {q} {a} {b} {x} {y} {f} {g} z h payload told short taken sends =
      let ends : PayloadEnds (length taken.came) count b (Ok false) = subst (λ t. PayloadEnds (length taken.came) count b (Ok t)) (was_false payload.whole short) taken.comes.ends in
      faulty U (Runs db line number (kept olds was) (kept news now) p q a b x z f h) x y z f g h _ (Truncated number) told
      (λ lost all. one db line number (kept olds was) (kept news now) lost (Faulty (Truncated number)) taken.comes.consumes (cut command ends.0 refl ends.1) (over same taken.part) all)
      (plainly _ _ _ _ _ false taken.sends) sends

  -- the reports and the reply of a write whose bytes all came
  write-text : {p q : Option (List ℕ)} {a b : Ahead} {x y : Option (List ℕ)} {f g : List ℕ} (z : Option (List ℕ)) (h : List ℕ) (payload : Payload) (lost : Bool) (taken : IsPayloadTaken db name count olds news p q a b x y f g (Ok payload)) → Passes lost y z g h (reply_line name payload.reply) → Passes lost x z f h (answer_text (Write name taken.came) (record { reports = taken.pairs; reply = Some taken.reply }))
  write-text {x = x} {y = y} {f = f} {g = g} z h payload lost taken sends =
      passes-join lost x y z f g h (flat_map (named_line name) taken.pairs) (reply_line name taken.reply) taken.sends
      (subst (λ r. Passes lost y z g h (reply_line name r)) taken.due sends)

  -- the sink failed at the reply
  pub write-lost : {p q : Option (List ℕ)} {a b : Ahead} {x y : Option (List ℕ)} {f g : List ℕ} (z : Option (List ℕ)) (h : List ℕ) (payload : Payload) → not payload.whole ≡ false → IsPayloadTaken db name count olds news p q a b x y f g (Ok payload) → Passes true y z g h (reply_line name payload.reply) → RunsSomehow (Runs db line number (kept olds was) (kept news now) p q a b x z f h)
  write-lost {p} {q} {a} {b} {x} {y} {f} {g} z h payload whole taken sends = by_end b.ended refl
    where
      sent : Passes true x z f h (answer_text (Write name taken.came) (record { reports = taken.pairs; reply = Some taken.reply }) ++ [])
      sent = plainly x z f h _ true (write-text z h payload true taken sends)

      by_end : (t : Bool) → b.ended ≡ t → RunsSomehow (Runs db line number (kept olds was) (kept news now) p q a b x z f h)
      by_end true e =
          record { how = Goes; runs = one db line number (kept olds was) (kept news now) true Goes taken.comes.consumes (unfed (exactly taken.came command (all_came payload whole taken)) refl e) (over same (taken.all (all_came payload whole taken))) sent }
      by_end false e =
          record { how = Part; runs = one db line number (kept olds was) (kept news now) true Part taken.comes.consumes (behind (exactly taken.came command (all_came payload whole taken)) refl e) (over same (taken.all (all_came payload whole taken))) sent }

  module _ (p q r : Option (List ℕ)) (a b c : Ahead) (x y z : Option (List ℕ)) (f g h : List ℕ) (payload : Payload) (whole : not payload.whole ≡ false) (taken : IsPayloadTaken db name count olds news p q a b x y f g (Ok payload)) (line_sent : Passes false y z g h (reply_line name payload.reply)) where
    all : length taken.came ≡ count
    all = all_came payload whole taken

    sent : Passes false x z f h (answer_text (Write name taken.came) (record { reports = taken.pairs; reply = Some taken.reply }))
    sent = write-text z h payload false taken line_sent

    nothing_more : Consumes q r b c [] → Consumes p r a c taken.came
    nothing_more takes = subst (λ l. Consumes p r a c l) (append-nil taken.came) (consumes-join taken.comes.consumes takes)

    -- nothing but a line feed stands behind the bytes
    pub write-done : {fine : Bool} → fine ≡ true → TakesFeed q r b c fine → Runs db line number (kept olds was) (kept news now) p r a c x z f h false Goes
    write-done is (line_end takes) =
        one db line number (kept olds was) (kept news now) false Goes (consumes-join taken.comes.consumes takes) (fed (exactly taken.came command all) refl) (over same (taken.all all)) (plainly _ _ _ _ _ false sent)
    write-done is (nothing takes ended) =
        one db line number (kept olds was) (kept news now) false Goes (nothing_more takes) (unfed (exactly taken.came command all) refl ended) (over same (taken.all all)) (plainly _ _ _ _ _ false sent)
    write-done is (another n apart takes) = absurd (false≢true is)

    -- another byte stands behind them
    pub write-other : (U : Type 0) (z' : Option (List ℕ)) (h' : List ℕ) {fine : Bool} (told : ScriptStop) → fine ≡ false → TakesFeed q r b c fine → SendsFault (Script number) z z' h h' told → RunsBy (Runs db line number (kept olds was) (kept news now) p r a c x z' f h') U (Err told)
    write-other U z' h' told is (another n apart takes) sends =
        faulty U (Runs db line number (kept olds was) (kept news now) p r a c x z' f h') x z z' f h h' _ (Script number) told
        (λ lost text. one db line number (kept olds was) (kept news now) lost (Faulty (Script number)) (consumes-join taken.comes.consumes takes) (other n (exactly taken.came command all) apart refl) (over same (taken.all all)) text)
        sent sends
    write-other U z' h' told is (line_end takes) sends = absurd (false≢true (sym is))
    write-other U z' h' told is (nothing takes ended) sends = absurd (false≢true (sym is))

    -- reading was broken off there
    pub write-unread : (U : Type 0) (stop : Break) (read reads : ℕ) → Consumes q r b c [] → StopsAt c stop → ReadCounts {A = Bool} read reads (Err stop) → RunsBy (Runs db line number (kept olds was) (kept news now) p r a c x z f h) U (Err (Broken stop))
    write-unread U stop.Read read reads takes at counts =
        one db line number (kept olds was) (kept news now) false Part (nothing_more takes) (behind (exactly taken.came command all) refl at.still_open) (over same (taken.all all)) (plainly _ _ _ _ _ false sent)
    write-unread U stop.Limit read reads takes at counts =
        one db line number (kept olds was) (kept news now) false Part (nothing_more takes) (behind (exactly taken.came command all) refl at.dry.still_open) (over same (taken.all all)) (plainly _ _ _ _ _ false sent)
    write-unread U stop.Write read reads takes at counts = absurd counts

-- a line that is no command
pub runs-none : (U : Type 0) (db : Compiled) (line : List ℕ) (number : ℕ) (streams : Holdings) (p : Option (List ℕ)) (a : Ahead) (x y : Option (List ℕ)) (f g : List ℕ) (told : ScriptStop) → ((order : Order) → IsCommand line order → ⊥) → SendsFault (Script number) x y f g told → RunsBy (Runs db line number streams streams p p a a x y f g) U (Err told)
runs-none U db line number streams p a x y f g told none sends =
    faulty U (Runs db line number streams streams p p a a x y f g) x x y f f g [] (Script number) told
    (λ lost text. record {
      seen = [];
      actions = [];
      answers = [];
      consumes = consumes-nothing p a;
      is = no_command none refl;
      paired = refl;
      performs = λ basis m is tracks. record { after = m; run = run.none; tracks = tracks };
      sends = text;
    })
    (passed-nothing x f) sends

-- a command that writes nothing, by what came of it
pub runs-done : (U : Type 0) (db : Compiled) (line : List ℕ) (number : ℕ) (old new : Holdings) (p : Option (List ℕ)) (a : Ahead) {x y : Option (List ℕ)} {f g : List ℕ} {order : Order} {action : Action} {result : Result (Unit {0}) ScriptStop} (written : Result (Unit {0}) Failed) → result ≡ done_of written → IsCommand line order → IsAlone order action → IsAnswered db action (is_err written) old new x y f g → RunsBy (Runs db line number old new p p a a x y f g) U result
runs-done U db line number old new p a {x} {y} {f} {g} written is command no_write answered =
    subst (λ r. RunsBy (Runs db line number old new p p a a x y f g) U r) (sym is) (runs-alone db line number old new U p a written command no_write answered)

-- it is so too where it is only known that what is ahead stayed the same
pub runs-still : (U : Type 0) (db : Compiled) (line : List ℕ) (number : ℕ) (old new : Holdings) (p q : Option (List ℕ)) (a b : Ahead) {x y : Option (List ℕ)} {f g : List ℕ} {order : Order} {action : Action} {result : Result (Unit {0}) ScriptStop} (written : Result (Unit {0}) Failed) → q ≡ p → b ≡ a → result ≡ done_of written → IsCommand line order → IsAlone order action → IsAnswered db action (is_err written) old new x y f g → RunsBy (Runs db line number old new p q a b x y f g) U result
runs-still U db line number old new p q a b {x} {y} {f} {g} {result = result} written same_left same_ahead is command no_write answered =
    subst (λ l. RunsBy (Runs db line number old new p l a b x y f g) U result) (sym same_left)
    (subst (λ r. RunsBy (Runs db line number old new p p a r x y f g) U result) (sym same_ahead) (runs-done U db line number old new p a written is command no_write answered))
