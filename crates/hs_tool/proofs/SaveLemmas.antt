-- What a script leaves of the files, and what a store counts.
use Rattle.std.proofs.Common.{◌≡◌, ◌⊎◌, inl, inr, ℕ, suc, Bool, false, List, [], ◌∷◌, ◌++◌, length, Option, None, Some, Result, Ok, Err, refl, sym, ap, ◌∙◌, subst, arith, append_assoc}
use Rattle.hs_base.specs.Lists.{OneOf}
use Rattle.hs_outside.specs.Counts.{Rose}
use Rattle.hs_outside.specs.Source.{Gave, IsAtEnd, IsWhole}
use Rattle.hs_outside.specs.Store.{Told, untold}
use Rattle.hs_outside.specs.declared.fault.Failed.{Failed}
use Rattle.hs_text.specs.declared.reply_lines.ScriptFault.{ScriptFault}
use Rattle.hs_text.specs.Commands.{IsCommand}
use Rattle.hs_text.specs.Commands as order
use Rattle.hs_compile.specs.Databases.{Compiled}
use Rattle.hs_script.specs.Actions.{Action, Save, save_alone}
use Rattle.hs_script.specs.Scripts.{IsScript}
use Rattle.hs_script.specs.Scripts as script
use Rattle.hs_script.proofs.ScriptLemmas.{are_scripts}
use Rattle.hs_reader.specs.declared.fault.Break.TheVariants as stop
use Rattle.hs_reader.specs.Reading.{Ahead, Consumes, IsLineRead, MayCome}
use Rattle.hs_reader.proofs.ReadLemmas.{consumes-join}
use Rattle.hs_tool.specs.declared.session.fault.ScriptStop.{ScriptStop}
use Rattle.hs_tool.specs.declared.session.fault.ScriptStop.TheVariants.{Fault, Broken, Store, Memory}
use Rattle.hs_tool.specs.OpenStreams.{Holdings}
use Rattle.hs_tool.specs.SavedFiles.{KeepsBut, SavesInto, MaySave, IsSaveInto}
use Rattle.hs_tool.specs.ScriptCommands.{StoreCounts, IsNotStore, SendsFault, done_of}
use Rattle.hs_script.specs.Laws.{IsSomeScript}
use Rattle.hs_tool.proofs.ServeLemmas.{SoFar, fresh, IsGiven, given, may-behind}

-- ---- what a store counts

pub unfailed-done : {result : Result (Unit {0}) ScriptStop} (written : Result (Unit {0}) Failed) → result ≡ done_of written → IsNotStore result
unfailed-done (Ok done) is = subst IsNotStore (sym is) tt
unfailed-done (Err failed) is = subst IsNotStore (sym is) tt

-- the line of a fault of the script is no matter of the store
pub unfailed-fault : (fault : ScriptFault) (x y : Option (List ℕ)) (f g : List ℕ) (told : ScriptStop) → SendsFault fault x y f g told → IsNotStore (Err told)
unfailed-fault fault x y f g (Fault other) sends = tt
unfailed-fault fault x y f g (Broken cause) sends = tt
unfailed-fault fault x y f g Store sends = absurd sends
unfailed-fault fault x y f g Memory sends = tt

pub stored-same : (result : Result (Unit {0}) ScriptStop) (stored storeds : ℕ) → IsNotStore result → storeds ≡ stored → StoreCounts stored storeds result
stored-same (Ok done) stored storeds fine same = same
stored-same (Err (Fault fault)) stored storeds fine same = same
stored-same (Err (Broken cause)) stored storeds fine same = same
stored-same (Err Store) stored storeds fine same = absurd fine
stored-same (Err Memory) stored storeds fine same = same

pub stored-done : {result : Result (Unit {0}) ScriptStop} (stored storeds : ℕ) (written : Result (Unit {0}) Failed) → result ≡ done_of written → storeds ≡ stored → StoreCounts stored storeds result
stored-done {result} stored storeds written is same = stored-same result stored storeds (unfailed-done written is) same

-- ---- what is left of the files

pub keeps-same : {P : List ℕ → Type 0} {before now : List ℕ → Told} → now ≡ before → KeepsBut P before now
keeps-same {before = before} {now = now} same = record { others = λ name not. inl (ap (λ t. t name) same); none = λ never. same }

-- a save leaves all but its file
pub keeps-command : {whole name file : List ℕ} {before now : List ℕ → Told} → IsCommand whole (order.Save name file) → KeepsBut (λ n. file ≡ n) before now → KeepsBut (SavesInto whole) before now
keeps-command {whole} {name} {file} command keeps = record {
  others = λ n not. keeps.others n (λ same. not (record { stream = name; command = subst (λ f. IsCommand whole (order.Save name f)) same command }));
  none = λ never. absurd (never file (record { stream = name; command = command }));
}

-- one after the other
pub keeps-join : {P Q : List ℕ → Type 0} {a b c : List ℕ → Told} → KeepsBut P a b → ((name : List ℕ) → Q name → P name) → KeepsBut Q b c → KeepsBut P a c
keeps-join {P} {Q} {a} {b} {c} first into second = record {
  others = λ name not. both name (first.others name not) (second.others name (λ q. not (into name q)));
  none = λ never. second.none (λ name q. never name (into name q)) ∙ first.none never;
}
  where
    both : (name : List ℕ) → (b name ≡ a name) ⊎ (b name ≡ untold) → (c name ≡ b name) ⊎ (c name ≡ untold) → (c name ≡ a name) ⊎ (c name ≡ untold)
    both name (inl e) (inl f) = inl (f ∙ e)
    both name (inr e) (inl f) = inr (f ∙ e)
    both name (inl e) (inr f) = inr f
    both name (inr e) (inr f) = inr f

-- ---- a save of the script

-- what a source has left, and nothing where it doesn't tell
rest_of : Option (List ℕ) → List ℕ
rest_of None = []
rest_of (Some rest) = rest

whole_of : (left lefts : Option (List ℕ)) (taken : List ℕ) → Gave left lefts taken → IsWhole left (taken ++ rest_of lefts)
unfolding rest_of
whole_of None lefts taken gave = tt
whole_of (Some all) None taken gave = absurd gave
whole_of (Some all) (Some rest) taken gave = gave

ended-rest : (lefts : Option (List ℕ)) → IsAtEnd lefts → rest_of lefts ≡ []
unfolding rest_of
ended-rest None end = refl
ended-rest (Some rest) end = end

-- one of the actions, behind others
in_actions : (P : Action → Type 0) (xs ys : List Action) (x : Action) → P x → OneOf P (xs ++ x ∷ ys)
in_actions P [] ys x is = inl is
in_actions P (z ∷ xs) ys x is = inr (in_actions P xs ys x is)

-- a line of the script that is a save is a command of it
pub may-save : {db : Compiled} {number : ℕ} {p q r : Option (List ℕ)} {a b : Ahead} {kept : List ℕ} {first : List ℕ → Told} {old : Holdings} {x y : Option (List ℕ)} {f g : List ℕ} (so_far : SoFar db number p q fresh a first old x y f g false) (line : IsLineRead q r a b kept) (name : List ℕ) → SavesInto line.line name → MaySave p name
may-save {number = number} {p = p} {r = r} {b = b} so_far line name saves =
    record {
      bytes = is.taken ++ rest_of r;
      whole = whole_of p r is.taken is.gave;
      actions = so_far.actions ++ Save saves.stream name ∷ follows.actions;
      ending = follows.ending;
      script = subst (λ l. IsScript 1 l (so_far.actions ++ Save saves.stream name ∷ follows.actions) follows.ending) (sym split) all;
      saves = in_actions (IsSaveInto name) so_far.actions follows.actions (Save saves.stream name) refl;
    }
  where
    is : IsGiven p r b (so_far.seen ++ line.seen)
    is = given p r b (so_far.seen ++ line.seen) (consumes-join so_far.consumes line.consumes)

    rest : List ℕ
    rest = is.unread ++ rest_of r

    may : MayCome b.ended rest
    may ended = ap (λ l. l ++ rest_of r) (is.none ended) ∙ ended-rest r (is.at_end ended)

    follows : IsSomeScript (suc number) rest
    follows = are_scripts (length rest) (suc number) rest (omega arith)

    here : IsScript number (line.seen ++ rest) (Save saves.stream name ∷ follows.actions) follows.ending
    here = script.goes (script.alone (line.begins rest may) saves.command save_alone refl) follows.script

    all : IsScript 1 (so_far.seen ++ (line.seen ++ rest)) (so_far.actions ++ Save saves.stream name ∷ follows.actions) follows.ending
    all = so_far.script (line.seen ++ rest) (Save saves.stream name ∷ follows.actions) follows.ending (may-behind rest line.consumes may) here

    split : is.taken ++ rest_of r ≡ so_far.seen ++ (line.seen ++ rest)
    split =
        ap (λ l. l ++ rest_of r) is.split
        ∙ (append_assoc (so_far.seen ++ line.seen) is.unread (rest_of r) ∙ append_assoc so_far.seen line.seen rest)
