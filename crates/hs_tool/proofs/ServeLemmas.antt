-- The script, command by command.
use Rattle.std.proofs.Common.{◌≡◌, ◌≢◌, ℕ, suc, ◌<◌, ◌≤◌, Bool, true, false, List, [], ◌∷◌, ◌++◌, length, Option, None, Some, refl, sym, ap, ◌∙◌, subst, arith, append_assoc, append-nil, length-append}
use Rattle.std.proofs.lemmas.Bool.{false≢true}
use Rattle.hs_base.specs.Assertions.{line_feed}
use Rattle.hs_outside.specs.Source.{Gave, IsAtEnd}
use Rattle.hs_outside.specs.Store.{Told, untold, lacks, holds}
use Rattle.hs_text.specs.declared.reply_lines.ScriptFault.{ScriptFault}
use Rattle.hs_compile.specs.Databases.{Compiled}
use Rattle.hs_script.specs.Actions.{Action, Write}
use Rattle.hs_script.specs.Scripts.{BeginsLine, Goes as Going, Ends, written_by, IsFirst, IsScript}
use Rattle.hs_script.specs.Scripts as script
use Rattle.hs_script.specs.Bases.{Basis}
use Rattle.hs_script.specs.Machine.{Answer, start}
use Rattle.hs_script.specs.Runs.{IsRun, run_text, ending_text}
use Rattle.hs_script.specs.Runs as run
use Rattle.hs_script.proofs.LineLemmas.{no_line}
use Rattle.hs_script.proofs.JoinLemmas.{run_join}
use Rattle.hs_script.proofs.PayloadLemmas.{takes_payload}
use Rattle.hs_tool.specs.declared.session.streams.Streams.{Streams}
use Rattle.hs_reader.specs.Reading.{Ahead, MayCome, Consumes, IsLineRead, IsLineBegun}
use Rattle.hs_lines.specs.Passing.{Passes}
use Rattle.hs_tool.specs.OpenStreams.{Leads, Performs, Follows, FollowsFile, is_untold, is_missing, has_bytes, RunsBasis, Holdings, kept, files_of, file_of, stream_at, count_of}
use Rattle.hs_tool.specs.ScriptCommands.{Goes, Faulty, Part, IsBehind, no_command, alone, fed, unfed, other, cut, part, behind, Runs}
use Rattle.hs_tool.specs.Serving.{Finished, IsPart, in_line, in_payload, behind_payload, Begun}
use Rattle.hs_reader.proofs.ReadLemmas.{consumes-nothing, consumes-join}
use Rattle.hs_lines.proofs.PassLemmas.{passed-nothing, passes-join}

-- what may come behind bytes that were taken
pub may-behind : {p q : Option (List ℕ)} {a b : Ahead} {x : List ℕ} (rest : List ℕ) → Consumes p q a b x → MayCome b.ended rest → MayCome a.ended (x ++ rest)
may-behind {x = x} rest consumes may ended =
    let over = consumes.over ended in
    ap (λ l. l ++ rest) over.nothing ∙ may over.still

-- where the end isn't told now, it wasn't before
still-open : {p q : Option (List ℕ)} {a b : Ahead} {x : List ℕ} → Consumes p q a b x → b.ended ≡ false → a.ended ≡ false
still-open {a = a} consumes goes_on = by_test a.ended refl
  where
    by_test : (t : Bool) → a.ended ≡ t → a.ended ≡ false
    by_test true e = absurd (false≢true (sym goes_on ∙ (consumes.over e).still))
    by_test false e = e

-- the texts of two lists of actions
text-join : (xs ys : List Action) (ss bs : List Answer) → length xs ≡ length ss → run_text (xs ++ ys) (ss ++ bs) ≡ run_text xs ss ++ run_text ys bs
text-join [] ys [] bs e = refl
text-join [] ys (a ∷ ss) bs e = absurd (omega (arith, e))
text-join (x ∷ xs) ys [] bs e = absurd (omega (arith, e))
text-join (x ∷ xs) ys (a ∷ ss) bs e =
    ap (λ t. run.answer_text x a ++ t) (text-join xs ys ss bs (omega (arith, e)))
    ∙ sym (append_assoc (run.answer_text x a) (run_text xs ss) (run_text ys bs))

-- ---- one command, as the form of scripts has it

-- an action with what stands behind it
record HasFirst (number : ℕ) (bytes : List ℕ) (actions : List Action) (rest : List ℕ) : Type 0 where
  action : Action
  one : actions ≡ action ∷ []
  first : IsFirst number bytes (Going action rest)

first-goes : {line : List ℕ} {number : ℕ} {seen : List ℕ} {ended : Bool} {actions : List Action} (bytes rest : List ℕ) → IsBehind line number seen ended actions Goes → MayCome ended rest → BeginsLine line (seen ++ rest) bytes → HasFirst number bytes actions rest
first-goes {line} {number} bytes rest (alone command is nothing) may begins =
    record { action = _; one = refl; first = script.alone (subst (λ l. BeginsLine line (l ++ rest) bytes) nothing begins) command is refl }
first-goes {line} {number} bytes rest (fed {name = name} {came = came} command is) may begins =
    record {
      action = Write name came;
      one = refl;
      first =
          script.write
          (subst (λ l. BeginsLine line l bytes) (ap (λ l. l ++ rest) is ∙ append_assoc came (line_feed ∷ []) rest) begins)
          command (sym (takes_payload number name came rest).with_feed);
    }
first-goes {line} {number} bytes rest (unfed {name = name} {came = came} command is ended) may begins =
    record {
      action = Write name came;
      one = refl;
      first =
          script.write
          (subst (λ l. BeginsLine line l bytes) (ap (λ l. l ++ rest) is ∙ (ap (λ l. came ++ l) (may ended) ∙ append-nil came)) begins)
          command (ap (Going (Write name came)) (may ended) ∙ sym (takes_payload number name came []).at_end);
    }

first-faulty : {line : List ℕ} {number : ℕ} {seen : List ℕ} {ended : Bool} {actions : List Action} (fault : ScriptFault) (bytes rest : List ℕ) → IsBehind line number seen ended actions (Faulty fault) → MayCome ended rest → BeginsLine line (seen ++ rest) bytes → IsFirst number bytes (Ends actions fault)
first-faulty {line} {number} _ bytes rest (no_command none nothing) may begins =
    script.no_command (subst (λ l. BeginsLine line (l ++ rest) bytes) nothing begins) none refl
first-faulty {line} {number} _ bytes rest (other {name = name} {came = came} b command apart is) may begins =
    script.write
    (subst (λ l. BeginsLine line l bytes) (ap (λ l. l ++ rest) is ∙ append_assoc came (b ∷ []) rest) begins)
    command (sym ((takes_payload number name came rest).with_other b apart))
first-faulty {line} {number} _ bytes rest (cut {name = name} {came = came} {count = count} command short is ended) may begins =
    script.write
    (subst (λ l. BeginsLine line l bytes) (ap (λ l. l ++ rest) is ∙ (ap (λ l. came ++ l) (may ended) ∙ append-nil came)) begins)
    command (sym ((takes_payload number name came []).cut_short count short))

-- ---- the script so far

-- all commands up to here, with their lines
pub record SoFar (db : Compiled) (number : ℕ) (before now : Option (List ℕ)) (ahead aheads : Ahead) (first : List ℕ → Told) (k : Holdings) (taken takes : Option (List ℕ)) (waited waits : List ℕ) (lost : Bool) : Type 0 where
  pub seen : List ℕ
  pub actions : List Action
  pub answers : List Answer
  pub consumes : Consumes before now ahead aheads seen
  pub numbered : number ≡ suc (length actions)
  pub few : length actions ≤ length seen
  pub script : (rest : List ℕ) (following : List Action) (ending : Option ScriptFault) → MayCome aheads.ended rest → IsScript number rest following ending → IsScript 1 (seen ++ rest) (actions ++ following) ending
  pub paired : length actions ≡ length answers
  pub leads : (basis : Basis) → RunsBasis db basis → Leads basis (start (files_of first)) k actions answers
  pub sends : Passes lost taken takes waited waits (run_text actions answers)

-- at the start the machine is told what the store tells
follows-start : (basis : Basis) (t : Told) → FollowsFile basis (file_of t) t
follows-start basis untold = is_untold
follows-start basis lacks = is_missing
follows-start basis (holds bytes) = has_bytes

pub so_far-start : (db : Compiled) (left : Option (List ℕ)) (ahead : Ahead) (first : List ℕ → Told) (streams : Streams) (taken : Option (List ℕ)) (waited : List ℕ) → ((name : List ℕ) → stream_at streams name ≡ None) → count_of streams ≡ 0 → SoFar db 1 left left ahead ahead first (kept streams first) taken taken waited waited false
so_far-start db left ahead first streams taken waited none empty = record {
  seen = [];
  actions = [];
  answers = [];
  consumes = consumes-nothing left ahead;
  numbered = refl;
  few = omega arith;
  script = λ rest following ending may s. s;
  paired = refl;
  leads = λ basis is. record {
    after = start (files_of first);
    run = run.none;
    tracks = record {
      each = λ name. subst (λ s. Follows basis None s) (sym (none name)) tt;
      files = λ name. follows-start basis (first name);
      counted = sym empty;
    };
  };
  sends = passed-nothing taken waited;
}

-- a line has bytes
line-some : {p q : Option (List ℕ)} {a b : Ahead} {kept : List ℕ} (line : IsLineRead p q a b kept) → line.seen ≢ []
line-some line none = no_line (subst (λ l. BeginsLine line.line [] l) (ap (λ l. l ++ []) none) (line.begins [] (λ e. refl)))

filled : (xs : List ℕ) → xs ≢ [] → 0 < length xs
filled [] some = absurd (some refl)
filled (x ∷ xs) some = omega arith

pub line-long : {p q : Option (List ℕ)} {a b : Ahead} {kept : List ℕ} (line : IsLineRead p q a b kept) → a.at < b.at
line-long line = omega (arith, line.consumes.here, filled line.seen (line-some line))

-- all that the machine did
leads-join : {db : Compiled} (first : List ℕ → Told) {old new : Holdings} {xs ys : List Action} {ss bs : List Answer} → ((basis : Basis) → RunsBasis db basis → Leads basis (start (files_of first)) old xs ss) → Performs db old new ys bs → (basis : Basis) → RunsBasis db basis → Leads basis (start (files_of first)) new (xs ++ ys) (ss ++ bs)
leads-join first front then basis is =
    let one = front basis is in
    let two = then basis one.after is one.tracks in
    record { after = two.after; run = run_join one.run two.run; tracks = two.tracks }

-- the next command
pub so_far-next : {db : Compiled} {number : ℕ} {p q r s : Option (List ℕ)} {a b c d : Ahead} {kept : List ℕ} {first : List ℕ → Told} {old new : Holdings} {x y z : Option (List ℕ)} {f g h : List ℕ} (lost : Bool) → SoFar db number p q a b first old x y f g false → (line : IsLineRead q r b c kept) → Runs db line.line number old new r s c d y z g h lost Goes → SoFar db (suc number) p s a d first new x z f h lost
so_far-next {db} {number} {d = d} {x = x} {y = y} {z = z} {f = f} {g = g} {h = h} lost so_far line runs =
    record {
      seen = so_far.seen ++ (line.seen ++ runs.seen);
      actions = so_far.actions ++ runs.actions;
      answers = so_far.answers ++ runs.answers;
      consumes = consumes-join so_far.consumes (consumes-join line.consumes runs.consumes);
      numbered = ap suc (so_far.numbered ∙ sym more);
      few = omega (arith, more, so_far.few, filled line.seen (line-some line), length-append so_far.seen (line.seen ++ runs.seen), length-append line.seen runs.seen);
      script = script_of;
      paired = omega (arith, length-append so_far.actions runs.actions, length-append so_far.answers runs.answers, so_far.paired, runs.paired);
      leads = leads-join _ so_far.leads runs.performs;
      sends =
          subst (λ t. Passes lost x z f h t) (sym (text-join so_far.actions runs.actions so_far.answers runs.answers so_far.paired))
          (passes-join lost x y z f g h (run_text so_far.actions so_far.answers) (run_text runs.actions runs.answers) so_far.sends
          (subst (λ t. Passes lost y z g h t) (append-nil (run_text runs.actions runs.answers)) runs.sends));
    }
  where
    first_of : (rest : List ℕ) → MayCome d.ended rest → HasFirst number (line.seen ++ (runs.seen ++ rest)) runs.actions rest
    first_of rest may =
        first-goes (line.seen ++ (runs.seen ++ rest)) rest runs.is may (line.begins (runs.seen ++ rest) (may-behind rest runs.consumes may))

    more : length (so_far.actions ++ runs.actions) ≡ suc (length so_far.actions)
    more = omega (arith, length-append so_far.actions runs.actions, one_of runs.is)
      where
        one_of : {actions : List Action} {seen : List ℕ} {ended : Bool} → IsBehind line.line number seen ended actions Goes → length actions ≡ 1
        one_of (alone command is nothing) = refl
        one_of (fed command is) = refl
        one_of (unfed command is ended) = refl

    script_of : (rest : List ℕ) (following : List Action) (ending : Option ScriptFault) → MayCome d.ended rest → IsScript (suc number) rest following ending → IsScript 1 ((so_far.seen ++ (line.seen ++ runs.seen)) ++ rest) ((so_far.actions ++ runs.actions) ++ following) ending
    script_of rest following ending may then =
        let has = first_of rest may in
        let here : IsScript number (line.seen ++ (runs.seen ++ rest)) (runs.actions ++ following) ending =
        subst (λ l. IsScript number (line.seen ++ (runs.seen ++ rest)) (l ++ following) ending) (sym has.one) (script.goes has.first then) in
        let all = so_far.script (line.seen ++ (runs.seen ++ rest)) (runs.actions ++ following) ending (may-behind (runs.seen ++ rest) line.consumes (may-behind rest runs.consumes may)) here in
        subst (λ l. IsScript 1 ((so_far.seen ++ (line.seen ++ runs.seen)) ++ rest) l ending) (sym (append_assoc so_far.actions runs.actions following))
        (subst (λ l. IsScript 1 l (so_far.actions ++ (runs.actions ++ following)) ending)
        (sym (append_assoc so_far.seen (line.seen ++ runs.seen) rest ∙ ap (λ l. so_far.seen ++ l) (append_assoc line.seen runs.seen rest))) all)

-- what waits was written behind it, or some of that
pub so_far-sent : {db : Compiled} {number : ℕ} {p q : Option (List ℕ)} {a b : Ahead} {first : List ℕ → Told} {k : Holdings} {x y z : Option (List ℕ)} {f g h : List ℕ} (lost : Bool) → SoFar db number p q a b first k x y f g false → Passes lost y z g h [] → SoFar db number p q a b first k x z f h lost
so_far-sent {x = x} {y = y} {z = z} {f = f} {g = g} {h = h} lost so_far sent = record {
  seen = so_far.seen;
  actions = so_far.actions;
  answers = so_far.answers;
  consumes = so_far.consumes;
  numbered = so_far.numbered;
  few = so_far.few;
  script = so_far.script;
  paired = so_far.paired;
  leads = so_far.leads;
  sends =
      subst (λ t. Passes lost x z f h t) (append-nil (run_text so_far.actions so_far.answers))
      (passes-join lost x y z f g h (run_text so_far.actions so_far.answers) [] so_far.sends sent);
}

-- counted as it is counted
pub so_far-numbered : {db : Compiled} {n m : ℕ} {p q : Option (List ℕ)} {a b : Ahead} {first : List ℕ → Told} {k : Holdings} {x y : Option (List ℕ)} {f g : List ℕ} {lost : Bool} → m ≡ n → SoFar db n p q a b first k x y f g lost → SoFar db m p q a b first k x y f g lost
so_far-numbered {db} {p = p} {q = q} {a = a} {b = b} {first = first} {k = k} {x = x} {y = y} {f = f} {g = g} {lost = lost} same so_far =
    subst (λ i. SoFar db i p q a b first k x y f g lost) (sym same) so_far

-- for the same database
pub so_far-same : {db db' : Compiled} {n : ℕ} {p q : Option (List ℕ)} {a b : Ahead} {first : List ℕ → Told} {k : Holdings} {x y : Option (List ℕ)} {f g : List ℕ} {lost : Bool} → db ≡ db' → SoFar db n p q a b first k x y f g lost → SoFar db' n p q a b first k x y f g lost
so_far-same {n = n} {p = p} {q = q} {a = a} {b = b} {first = first} {k = k} {x = x} {y = y} {f = f} {g = g} {lost = lost} same so_far =
    subst (λ d. SoFar d n p q a b first k x y f g lost) same so_far

-- ---- what was taken of the source

-- the bytes that were taken, those that were looked at and those that still wait
pub record IsGiven (before now : Option (List ℕ)) (ahead : Ahead) (seen : List ℕ) : Type 0 where
  pub taken : List ℕ
  pub unread : List ℕ
  pub gave : Gave before now taken
  pub split : taken ≡ seen ++ unread
  pub none : ahead.ended ≡ true → unread ≡ []
  pub at_end : ahead.ended ≡ true → IsAtEnd now
  pub dry : ahead.bytes ≡ [] → unread ≡ []

front_nothing : (x y : List ℕ) → x ++ y ≡ [] → x ≡ []
front_nothing [] y e = refl
front_nothing (x ∷ xs) y e = cc

behind_nothing : (x y : List ℕ) → x ++ y ≡ [] → y ≡ []
behind_nothing [] y e = e
behind_nothing (x ∷ xs) y e = cc

pub given : (before now : Option (List ℕ)) (ahead : Ahead) (seen : List ℕ) → Consumes before now (record { bytes = []; at = 0; ended = false }) ahead seen → IsGiven before now ahead seen
given None None ahead seen consumes = record {
  taken = seen;
  unread = [];
  gave = tt;
  split = sym (append-nil seen);
  none = λ e. refl;
  at_end = λ e. tt;
  dry = λ e. refl;
}
given None (Some left) ahead seen consumes = absurd consumes.given
given (Some was) None ahead seen consumes = absurd consumes.given
given (Some was) (Some left) ahead seen consumes = record {
  taken = seen ++ ahead.bytes;
  unread = ahead.bytes;
  gave = consumes.given ∙ sym (append_assoc seen ahead.bytes left);
  split = refl;
  none = λ e. front_nothing ahead.bytes left (consumes.settled (λ f. absurd (false≢true f)) e);
  at_end = λ e. behind_nothing ahead.bytes left (consumes.settled (λ f. absurd (false≢true f)) e);
  dry = λ e. e;
}

-- the first reader
abbrev pub fresh : Ahead
fresh = record { bytes = []; at = 0; ended = false }

-- where the end isn't told, any bytes may stand behind
pub whole_before : {db : Compiled} {number : ℕ} {p q : Option (List ℕ)} {a b : Ahead} {first : List ℕ → Told} {k : Holdings} {x y : Option (List ℕ)} {f g : List ℕ} {lost : Bool} (so_far : SoFar db number p q a b first k x y f g lost) → b.ended ≡ false → (next : List ℕ) (following : List Action) (ending : Option ScriptFault) → IsScript (suc (length so_far.actions)) next following ending → IsScript 1 (so_far.seen ++ next) (so_far.actions ++ following) ending
whole_before so_far goes_on next following ending s =
    so_far.script next following ending (λ e. absurd (false≢true (sym goes_on ∙ e))) (subst (λ n. IsScript n next following ending) (sym so_far.numbered) s)

-- the end isn't told where a line came
pub line-open : {p q : Option (List ℕ)} {a b : Ahead} {kept : List ℕ} → IsLineRead p q a b kept → a.ended ≡ false
line-open {a = a} line = by_test a.ended refl
  where
    by_test : (t : Bool) → a.ended ≡ t → a.ended ≡ false
    by_test true e = absurd (line-some line (line.consumes.over e).nothing)
    by_test false e = e

-- ---- how it ends

-- all of it ran
pub finished-end : {db : Compiled} {number : ℕ} {p q : Option (List ℕ)} {a : Ahead} {first : List ℕ → Told} {k : Holdings} {x y : Option (List ℕ)} {f g : List ℕ} {lost : Bool} (so_far : SoFar db number p q fresh a first k x y f g lost) (is : IsGiven p q a so_far.seen) → a.ended ≡ true → Finished db first k.told is.taken true None (run_text so_far.actions so_far.answers)
finished-end {db} {a = a} so_far is ended = record {
  answers = so_far.answers;
  runs = λ basis rest of may.
      let leads = so_far.leads basis of in
      record {
        run = record {
          actions = so_far.actions;
          ending = None;
          after = leads.after;
          script =
              subst (λ l. IsScript 1 l so_far.actions None)
              (sym (ap (λ l. l ++ rest) (is.split ∙ ap (λ l. so_far.seen ++ l) (is.none ended)) ∙ (ap (λ l. (so_far.seen ++ []) ++ l) (may refl) ∙ append-nil (so_far.seen ++ []))))
              (subst (λ l. IsScript 1 (so_far.seen ++ []) l None) (append-nil so_far.actions) (so_far.script [] [] None (λ e. refl) script.nothing));
          run = leads.run;
          whole = sym (append-nil (run_text so_far.actions so_far.answers));
        };
        is = refl;
        files = leads.tracks.files;
      };
}

-- the commands so far, and no more of the next one
pub begun-so_far : {db : Compiled} {number : ℕ} {p q : Option (List ℕ)} {a : Ahead} {first : List ℕ → Told} {k : Holdings} {x y : Option (List ℕ)} {f g : List ℕ} {lost : Bool} (so_far : SoFar db number p q fresh a first k x y f g lost) (is : IsGiven p q a so_far.seen) → a.ended ≡ false → Begun db first is.taken is.unread (run_text so_far.actions so_far.answers)
begun-so_far {db} {number} {a = a} {first = first} so_far is goes_on = record {
  front = so_far.seen;
  rest = [];
  split = is.split;
  actions = so_far.actions;
  more = [];
  answers = so_far.answers;
  whole = whole_before so_far goes_on;
  part = in_line tt;
  runs = λ basis of.
      let leads = so_far.leads basis of in
      record { after = leads.after; run = subst (λ l. IsRun basis (start (files_of first)) l so_far.answers leads.after) (sym (append-nil so_far.actions)) leads.run };
  is = ap (λ l. run_text l so_far.answers) (sym (append-nil so_far.actions));
}

-- some of a line behind them
pub begun-line : {db : Compiled} {number : ℕ} {p q r : Option (List ℕ)} {a b : Ahead} {first : List ℕ → Told} {k : Holdings} {x y : Option (List ℕ)} {f g : List ℕ} {lost : Bool} (so_far : SoFar db number p q fresh a first k x y f g lost) (line : IsLineBegun q r a b) (is : IsGiven p r b (so_far.seen ++ line.part)) → Begun db first is.taken is.unread (run_text so_far.actions so_far.answers)
begun-line {db} {number} {a = a} {first = first} so_far line is = record {
  front = so_far.seen;
  rest = line.part;
  split = is.split ∙ append_assoc so_far.seen line.part is.unread;
  actions = so_far.actions;
  more = [];
  answers = so_far.answers;
  whole = whole_before so_far (still-open line.consumes line.still_open);
  part = in_line line.plain;
  runs = λ basis of.
      let leads = so_far.leads basis of in
      record { after = leads.after; run = subst (λ l. IsRun basis (start (files_of first)) l so_far.answers leads.after) (sym (append-nil so_far.actions)) leads.run };
  is = ap (λ l. run_text l so_far.answers) (sym (append-nil so_far.actions));
}

-- the text of the commands so far and of one more
two_texts : (xs ys : List Action) (ss bs : List Answer) (end : List ℕ) → length xs ≡ length ss → run_text xs ss ++ (run_text ys bs ++ end) ≡ run_text (xs ++ ys) (ss ++ bs) ++ end
two_texts xs ys ss bs end e = sym (append_assoc (run_text xs ss) (run_text ys bs) end) ∙ ap (λ t. t ++ end) (sym (text-join xs ys ss bs e))

module _ {db : Compiled} {number : ℕ} {p q r s : Option (List ℕ)} {a b c : Ahead} {kept : List ℕ} {first : List ℕ → Told} {old new : Holdings} {x y z : Option (List ℕ)} {f g h : List ℕ} (lost : Bool) (so_far : SoFar db number p q fresh a first old x y f g false) (line : IsLineRead q r a b kept) where
  -- some of a command behind them
  pub begun-part : (runs : Runs db line.line number old new r s b c y z g h lost Part) (is : IsGiven p s c (so_far.seen ++ (line.seen ++ runs.seen))) → Begun db first is.taken is.unread (run_text so_far.actions so_far.answers ++ (run_text runs.actions runs.answers ++ []))
  begun-part runs is = record {
    front = so_far.seen;
    rest = line.seen ++ runs.seen;
    split = is.split ∙ append_assoc so_far.seen (line.seen ++ runs.seen) is.unread;
    actions = so_far.actions;
    more = runs.actions;
    answers = so_far.answers ++ runs.answers;
    whole = whole_before so_far (still-open line.consumes (still-open runs.consumes (goes_on runs.is)));
    part = part_of runs.is;
    runs = λ basis of. let leads = leads-join _ so_far.leads runs.performs basis of in record { after = leads.after; run = leads.run };
    is = two_texts so_far.actions runs.actions so_far.answers runs.answers [] so_far.paired ∙ append-nil (run_text (so_far.actions ++ runs.actions) (so_far.answers ++ runs.answers));
  }
    where
      goes_on : {actions : List Action} {seen : List ℕ} → IsBehind line.line number seen c.ended actions Part → c.ended ≡ false
      goes_on (part command within is still) = still
      goes_on (behind command is still) = still

      line_is : {seen came : List ℕ} → seen ≡ came → c.ended ≡ false → line.seen ++ seen ≡ line.line ++ line_feed ∷ came
      line_is {seen} {came} is still =
          ap (λ l. l ++ seen) (line.fed (still-open runs.consumes still))
          ∙ (append_assoc line.line (line_feed ∷ []) seen ∙ ap (λ l. line.line ++ line_feed ∷ l) is)

      part_of : {actions : List Action} {seen : List ℕ} → IsBehind line.line number seen c.ended actions Part → IsPart (line.seen ++ seen) actions
      part_of (part command within is still) = in_payload line.line command within (line_is is still)
      part_of (behind command is still) = behind_payload line.line command (line_is is still)

  -- a fault of the script behind them
  pub finished-fault : (fault : ScriptFault) (runs : Runs db line.line number old new r s b c y z g h lost (Faulty fault)) (is : IsGiven p s c (so_far.seen ++ (line.seen ++ runs.seen))) → Finished db first new.told is.taken c.ended (Some fault) (run_text so_far.actions so_far.answers ++ (run_text runs.actions runs.answers ++ ending_text (Some fault)))
  finished-fault fault runs is = record {
    answers = so_far.answers ++ runs.answers;
    runs = λ basis rest of may.
        let leads = leads-join _ so_far.leads runs.performs basis of in
        let come : List ℕ = is.unread ++ rest in
        let may_come : MayCome c.ended come = λ e. ap (λ l. l ++ rest) (is.none e) ∙ may e in
        let first = first-faulty fault (line.seen ++ (runs.seen ++ come)) come runs.is may_come (line.begins (runs.seen ++ come) (may-behind come runs.consumes may_come)) in
        let all = so_far.script (line.seen ++ (runs.seen ++ come)) runs.actions (Some fault) (may-behind (runs.seen ++ come) line.consumes (may-behind come runs.consumes may_come)) (script.ends first) in
        record {
          run = record {
            actions = so_far.actions ++ runs.actions;
            ending = Some fault;
            after = leads.after;
            script =
                subst (λ l. IsScript 1 l (so_far.actions ++ runs.actions) (Some fault))
                (sym (ap (λ l. l ++ rest) is.split
                ∙ (append_assoc (so_far.seen ++ (line.seen ++ runs.seen)) is.unread rest
                ∙ (append_assoc so_far.seen (line.seen ++ runs.seen) come ∙ ap (λ l. so_far.seen ++ l) (append_assoc line.seen runs.seen come)))))
                all;
            run = leads.run;
            whole = two_texts so_far.actions runs.actions so_far.answers runs.answers (ending_text (Some fault)) so_far.paired;
          };
          is = refl;
          files = leads.tracks.files;
        };
  }
