-- One step of the machine: it is determined but for want of memory and what foreign streams report, and on an open
-- stream it is done.
use Rattle.std.proofs.Common.{◌≡◌, ◌≢◌, ℕ, ◌+◌, ◌<◌, ◌≤◌, ◌⊎◌, inl, inr, Bool, true, false, List, [], ◌++◌, length, bytes_eq, Option, None, Some, refl, sym, ap, ◌∙◌, subst, arith}
use Rattle.std.proofs.lemmas.Bool.{false≢true}
use Rattle.std.proofs.lemmas.Slice.Eq.{bytes_eq-Decides}
use Rattle.hs_base.specs.Told.{Pair}
use Rattle.hs_base.proofs.ToldLemmas.{new-once, last-once}
use Rattle.hs_text.specs.declared.commands.Verb.TheVariants as verb
use Rattle.hs_text.specs.declared.reply_lines.Reply.{Reply}
use Rattle.hs_script.specs.Actions.{Action, Open, Write, Cut, Reset, Close, Save, Expand, name_of}
use Rattle.hs_script.specs.Bases.{Basis, Stream, Of, Foreign, File, Untold, Gives, patterns_of}
use Rattle.hs_script.specs.Machine.{most_streams, Answer, done, refused, unanswered, Takes, takes_new, takes_foreign, EndsBy, ends_last, ends_foreign}
use Rattle.hs_script.specs.Machine.{Moves, exists, full, memory, opened, write_unknown, too_long, written, cut_unknown, cut_too_long, cut_written, reset_unknown, reset, close_unknown, closed}
use Rattle.hs_script.specs.Machine.{save_unknown, save_memory, saved, expand_exists, expand_full, expand_memory, expand_refused, expanded, Machine, opens, IsShown, Put, put_by, PutsFile, LeavesFiles, Steps}
use Rattle.hs_script.specs.Laws.{is_full, is_refused, lacks_memory, MakesNoForeign, AreTold, IsSure, sure_write, sure_reset, sure_close, IsSureByMemory, sure_save, sure_expand}
use Rattle.hs_script.proofs.BasisLemmas.{refuses_once, refuses_never, gives_once, not_memory, puts_once, puts_before, shows_told}

-- the same answers, and the same streams behind them
pub record AreSame (x y : Answer) (h k : Option Stream) : Type 0 where
  pub answers : x ≡ y
  pub streams : h ≡ k

-- the stream isn't foreign
abbrev pub IsTraced : Option Stream → Type 0
IsTraced None = Unit {0}
IsTraced (Some (Of h)) = Unit {0}
IsTraced (Some (Foreign region)) = ⊥

-- the same stream, and the same reports
record TakesSame (t t' : Stream) (reports reports' : List Pair) : Type 0 where
  streams : t ≡ t'
  reports_are : reports ≡ reports'

module _ {basis : Basis} where
  takes_once : {v : List ℕ} {s t t' : Stream} {reports reports' : List Pair} → IsTraced (Some s) → Takes basis v s t reports → Takes basis v s t' reports' → TakesSame t t' reports reports'
  takes_once {v = v} traced (takes_new {h = h} {new = new} n) (takes_new {new = new'} n') = record { streams = refl; reports_are = new-once (patterns_of basis) h v new new' n n' }
  takes_once traced (takes_foreign g) q = absurd traced

  ends_once : {s : Stream} {last last' : List Pair} → IsTraced (Some s) → EndsBy basis s last → EndsBy basis s last' → last ≡ last'
  ends_once traced (ends_last {h = h} {last = last} n) (ends_last {last = last'} n') = last-once (patterns_of basis) h last last' n n'
  ends_once traced (ends_foreign g) q = absurd traced

  takes_traced : {v : List ℕ} {s t : Stream} {reports : List Pair} → IsTraced (Some s) → Takes basis v s t reports → IsTraced (Some t)
  takes_traced traced (takes_new n) = tt
  takes_traced traced (takes_foreign g) = absurd traced

  gives_traced_one : {shown : File} (s : Stream) → MakesNoForeign basis shown → Gives basis shown s → IsTraced (Some s)
  gives_traced_one (Of h) known gives = tt
  gives_traced_one (Foreign region) known gives = known region gives

  written_same : {v : List ℕ} {s t t' : Stream} {reports reports' : List Pair} (answer : List Pair → Answer) → IsTraced (Some s) → Takes basis v s t reports → Takes basis v s t' reports' → AreSame (answer reports) (answer reports') (Some t) (Some t')
  written_same answer traced p q = let same = takes_once traced p q in record { answers = ap answer same.reports_are; streams = ap Some same.streams }

  -- Two moves of one stream that isn't foreign are the same, where both lack memory or neither does, and no number of open
  -- streams parts them.
  pub moves_once : {c d : ℕ} {shown : File} {h i j : Option Stream} {action : Action} {x y : Answer} → IsTraced h → Moves basis c shown h action x i → Moves basis d shown h action y j → lacks_memory x ≡ lacks_memory y → (most_streams ≤ c → d < most_streams → is_refused is_full x.reply ≡ true → ⊥) → (most_streams ≤ d → c < most_streams → is_refused is_full y.reply ≡ true → ⊥) → AreSame x y i j
  moves_once traced exists exists e f g = record { answers = refl; streams = refl }
  moves_once traced (full p) (full q) e f g = record { answers = refl; streams = refl }
  moves_once traced (full p) memory e f g = absurd (false≢true e)
  moves_once traced (full p) (opened q) e f g = absurd (f p q refl)
  moves_once traced memory (full q) e f g = absurd (false≢true (sym e))
  moves_once traced memory memory e f g = record { answers = refl; streams = refl }
  moves_once traced memory (opened q) e f g = absurd (false≢true (sym e))
  moves_once traced (opened p) (full q) e f g = absurd (g q p refl)
  moves_once traced (opened p) memory e f g = absurd (false≢true e)
  moves_once traced (opened p) (opened q) e f g = record { answers = refl; streams = refl }
  moves_once traced write_unknown write_unknown e f g = record { answers = refl; streams = refl }
  moves_once traced (too_long p) (too_long q) e f g = record { answers = refl; streams = refl }
  moves_once traced (too_long p) (written q n) e f g = absurd (omega (arith, p, q))
  moves_once traced (written p n) (too_long q) e f g = absurd (omega (arith, p, q))
  moves_once traced (written {v = v} p n) (written q n') e f g = written_same (λ r. done verb.Write r (Some (length v))) traced n n'
  moves_once traced cut_unknown cut_unknown e f g = record { answers = refl; streams = refl }
  moves_once traced (cut_too_long p) (cut_too_long q) e f g = record { answers = refl; streams = refl }
  moves_once traced (cut_too_long p) (cut_written q n) e f g = absurd (omega (arith, p, q))
  moves_once traced (cut_written p n) (cut_too_long q) e f g = absurd (omega (arith, p, q))
  moves_once traced (cut_written p n) (cut_written q n') e f g = written_same unanswered traced n n'
  moves_once traced reset_unknown reset_unknown e f g = record { answers = refl; streams = refl }
  moves_once traced (reset n) (reset n') e f g = record { answers = ap (λ r. done verb.Reset r None) (ends_once traced n n'); streams = refl }
  moves_once traced close_unknown close_unknown e f g = record { answers = refl; streams = refl }
  moves_once traced (closed n) (closed n') e f g = record { answers = ap (λ r. done verb.Close r None) (ends_once traced n n'); streams = refl }
  moves_once traced save_unknown save_unknown e f g = record { answers = refl; streams = refl }
  moves_once traced save_memory save_memory e f g = record { answers = refl; streams = refl }
  moves_once traced save_memory saved e f g = absurd (false≢true (sym e))
  moves_once traced saved save_memory e f g = absurd (false≢true e)
  moves_once traced saved saved e f g = record { answers = refl; streams = refl }
  moves_once traced expand_exists expand_exists e f g = record { answers = refl; streams = refl }
  moves_once traced (expand_full p) (expand_full q) e f g = record { answers = refl; streams = refl }
  moves_once traced (expand_full p) expand_memory e f g = absurd (false≢true e)
  moves_once traced (expand_full p) (expand_refused q r) e f g = absurd (f p q refl)
  moves_once traced (expand_full p) (expanded q r) e f g = absurd (f p q refl)
  moves_once traced expand_memory (expand_full q) e f g = absurd (false≢true (sym e))
  moves_once traced expand_memory expand_memory e f g = record { answers = refl; streams = refl }
  moves_once traced expand_memory (expand_refused q r) e f g = absurd (false≢true (sym (not_memory r) ∙ sym e))
  moves_once traced expand_memory (expanded q r) e f g = absurd (false≢true (sym e))
  moves_once traced (expand_refused p r) (expand_full q) e f g = absurd (g q p refl)
  moves_once traced (expand_refused p r) expand_memory e f g = absurd (false≢true (sym (not_memory r) ∙ e))
  moves_once traced (expand_refused p r) (expand_refused q r') e f g = record { answers = ap (refused verb.Expand) (refuses_once r r'); streams = refl }
  moves_once traced (expand_refused p r) (expanded q r') e f g = absurd (refuses_never r r')
  moves_once traced (expanded p r) (expand_full q) e f g = absurd (g q p refl)
  moves_once traced (expanded p r) expand_memory e f g = absurd (false≢true e)
  moves_once traced (expanded p r) (expand_refused q r') e f g = absurd (refuses_never r' r)
  moves_once traced (expanded p r) (expanded q r') e f g = record { answers = refl; streams = ap Some (gives_once r r') }

  -- behind a move a stream isn't foreign, where none is made of the file
  pub moves_traced : {c : ℕ} {shown : File} {h i : Option Stream} {action : Action} {x : Answer} → IsTraced h → MakesNoForeign basis shown → Moves basis c shown h action x i → IsTraced i
  moves_traced traced known exists = traced
  moves_traced traced known (full p) = tt
  moves_traced traced known memory = tt
  moves_traced traced known (opened p) = tt
  moves_traced traced known write_unknown = tt
  moves_traced traced known (too_long p) = traced
  moves_traced traced known (written p n) = takes_traced traced n
  moves_traced traced known cut_unknown = tt
  moves_traced traced known (cut_too_long p) = traced
  moves_traced traced known (cut_written p n) = takes_traced traced n
  moves_traced traced known reset_unknown = tt
  moves_traced traced known (reset n) = tt
  moves_traced traced known close_unknown = tt
  moves_traced traced known (closed n) = tt
  moves_traced traced known save_unknown = tt
  moves_traced traced known save_memory = traced
  moves_traced traced known saved = traced
  moves_traced traced known expand_exists = traced
  moves_traced traced known (expand_full p) = tt
  moves_traced traced known expand_memory = tt
  moves_traced traced known (expand_refused p r) = tt
  moves_traced traced known (expanded {s = s} p r) = gives_traced_one s known r

  -- what is always done to an open stream is done
  pub sure_moves : {c : ℕ} {shown : File} {s : Stream} {i : Option Stream} {action : Action} {x : Answer} {reply : Reply} → IsSure s action reply → Moves basis c shown (Some s) action x i → x.reply ≡ Some reply
  sure_moves (sure_write p) (too_long q) = absurd (omega (arith, p, q))
  sure_moves (sure_write p) (written q n) = refl
  sure_moves sure_reset (reset n) = refl
  sure_moves sure_close (closed n) = refl

  -- and what is done but for want of memory
  pub sure_or_memory : {c : ℕ} {shown : File} {h i : Option Stream} {action : Action} {x : Answer} {reply no : Reply} → c < most_streams → IsSureByMemory basis shown h action reply no → Moves basis c shown h action x i → (x.reply ≡ Some reply) ⊎ (x.reply ≡ Some no)
  sure_or_memory room sure_save save_memory = inr refl
  sure_or_memory room sure_save saved = inl refl
  sure_or_memory room (sure_expand r) (expand_full q) = absurd (omega (arith, room, q))
  sure_or_memory room (sure_expand r) expand_memory = inr refl
  sure_or_memory room (sure_expand r) (expand_refused q r') = absurd (refuses_never r' r)
  sure_or_memory room (sure_expand r) (expanded q r') = inl refl

  -- a stream is opened only where fewer are open than may be
  pub moves_bounded : {c b : ℕ} {shown : File} {h i : Option Stream} {action : Action} {x : Answer} → Moves basis c shown h action x i → c ≤ most_streams → b + opens h ≡ c + opens i → b ≤ most_streams
  moves_bounded exists small e = omega (arith, small, e)
  moves_bounded (full p) small e = omega (arith, small, e)
  moves_bounded memory small e = omega (arith, small, e)
  moves_bounded (opened p) small e = omega (arith, p, e)
  moves_bounded write_unknown small e = omega (arith, small, e)
  moves_bounded (too_long p) small e = omega (arith, small, e)
  moves_bounded (written p n) small e = omega (arith, small, e)
  moves_bounded cut_unknown small e = omega (arith, small, e)
  moves_bounded (cut_too_long p) small e = omega (arith, small, e)
  moves_bounded (cut_written p n) small e = omega (arith, small, e)
  moves_bounded reset_unknown small e = omega (arith, small, e)
  moves_bounded (reset n) small e = omega (arith, small, e)
  moves_bounded close_unknown small e = omega (arith, small, e)
  moves_bounded (closed n) small e = omega (arith, small, e)
  moves_bounded save_unknown small e = omega (arith, small, e)
  moves_bounded save_memory small e = omega (arith, small, e)
  moves_bounded saved small e = omega (arith, small, e)
  moves_bounded expand_exists small e = omega (arith, small, e)
  moves_bounded (expand_full p) small e = omega (arith, small, e)
  moves_bounded expand_memory small e = omega (arith, small, e)
  moves_bounded (expand_refused p r) small e = omega (arith, small, e)
  moves_bounded (expanded p r) small e = omega (arith, p, e)

-- two names are the same or not
pub same_or_not : (xs ys : List ℕ) → (xs ≡ ys) ⊎ (xs ≢ ys)
same_or_not xs ys = by_test (bytes_eq xs ys) refl
  where
    by_test : (t : Bool) → bytes_eq xs ys ≡ t → (xs ≡ ys) ⊎ (xs ≢ ys)
    by_test true e = inl ((bytes_eq-Decides xs ys).0 e)
    by_test false e = inr (λ same. false≢true (sym e ∙ (bytes_eq-Decides xs ys).1 same))

-- no stream is foreign
abbrev pub AreTraced : Machine → Type 0
AreTraced m = (name : List ℕ) → IsTraced (m.stream name)

-- behind a step no stream is
pub step_traced : {basis : Basis} {m n : Machine} {action : Action} {x : Answer} (s : Steps basis m action x n) → MakesNoForeign basis s.shown → AreTraced m → AreTraced n
step_traced {basis} {m} {n} {action} s known traced name =
    elim (same_or_not name (name_of action)) [
      | inl is ↦ subst (λ a. IsTraced (n.stream a)) (sym is) (moves_traced (traced (name_of action)) known s.moves)
      | inr other ↦ subst IsTraced (sym (s.others name other)) (traced name)
    ]

-- ---- files

-- what is told of files behind an action was told before
told_before : (basis : Basis) (before after : List ℕ → File) (put : Option Put) → LeavesFiles basis before after put → ((name : List ℕ) → after name ≢ Untold) → (name : List ℕ) → before name ≢ Untold
told_before basis before after None same told name = λ e. told name (same name ∙ e)
told_before basis before after (Some put) (inl puts) told name =
    elim (same_or_not name put.file) [
      | inl is ↦ subst (λ n. before n ≢ Untold) (sym is) (puts_before puts.here (told put.file))
      | inr other ↦ λ e. told name (puts.others name other ∙ e)
    ]
told_before basis before after (Some put) (inr hidden) told name = absurd (told name (hidden name))

pub step_told : {basis : Basis} {m n : Machine} {action : Action} {x : Answer} → Steps basis m action x n → AreTold n → AreTold m
step_told {basis} {m = m} {n = n} {action = action} {x = x} s told = told_before basis m.file n.file (put_by (m.stream (name_of action)) action x.reply) s.files told

-- the same is told behind two steps that put the same
files_once : (basis : Basis) (before after before' after' : List ℕ → File) (put : Option Put) → LeavesFiles basis before after put → LeavesFiles basis before' after' put → ((name : List ℕ) → before name ≡ before' name) → ((name : List ℕ) → after name ≢ Untold) → ((name : List ℕ) → after' name ≢ Untold) → (name : List ℕ) → after name ≡ after' name
files_once basis before after before' after' None p q same told told' name = p name ∙ (same name ∙ sym (q name))
files_once basis before after before' after' (Some put) (inl p) (inl q) same told told' name =
    elim (same_or_not name put.file) [
      | inl is ↦ subst (λ n. after n ≡ after' n) (sym is) (puts_once p.here q.here (told put.file) (told' put.file))
      | inr other ↦ p.others name other ∙ (same name ∙ sym (q.others name other))
    ]
files_once basis before after before' after' (Some put) (inl p) (inr hidden) same told told' name = absurd (told' name (hidden name))
files_once basis before after before' after' (Some put) (inr hidden) q same told told' name = absurd (told name (hidden name))

-- two actions are shown the same of the same files
shown_once : {files files' : List ℕ → File} (action : Action) {x y : File} → IsShown files action x → IsShown files' action y → ((name : List ℕ) → files name ≡ files' name) → ((name : List ℕ) → files name ≢ Untold) → ((name : List ℕ) → files' name ≢ Untold) → x ≡ y
shown_once (Open name) p q same told told' = p ∙ sym q
shown_once (Write name v) p q same told told' = p ∙ sym q
shown_once (Cut name all v) p q same told told' = p ∙ sym q
shown_once (Reset name) p q same told told' = p ∙ sym q
shown_once (Close name) p q same told told' = p ∙ sym q
shown_once (Save name file) p q same told told' = p ∙ sym q
shown_once (Expand name file) p q same told told' = shows_told p (told file) ∙ (same file ∙ sym (shows_told q (told' file)))

-- the same streams, as many open ones, and the same files
pub record IsSame (m k : Machine) : Type 0 where
  pub streams : (name : List ℕ) → m.stream name ≡ k.stream name
  pub counts : m.count ≡ k.count
  pub files : (name : List ℕ) → m.file name ≡ k.file name

-- the same answers, and the same machines behind them
pub record AreSameSteps (x y : Answer) (m k : Machine) : Type 0 where
  pub answers : x ≡ y
  pub machines : IsSame m k

-- Two steps of the same machine without foreign streams are the same, where both lack memory or neither does, and files
-- are told of.
pub steps_once : {basis : Basis} {m m' k k' : Machine} {action : Action} {x y : Answer} → Steps basis m action x m' → Steps basis k action y k' → IsSame m k → AreTraced m → AreTold m' → AreTold k' → lacks_memory x ≡ lacks_memory y → AreSameSteps x y m' k'
steps_once {basis} {m} {m'} {k} {k'} {action} {x} {y} s t same traced told told' e =
    record { answers = alike.answers; machines = record { streams = streams; counts = counts; files = files } }
  where
    here : List ℕ
    here = name_of action

    shown : s.shown ≡ t.shown
    shown = shown_once action s.shows t.shows same.files (step_told s told) (step_told t told')

    moves : Moves basis k.count s.shown (m.stream (name_of action)) action y (k'.stream (name_of action))
    moves =
        subst
        (λ h. Moves basis k.count s.shown h action y (k'.stream (name_of action)))
        (sym (same.streams (name_of action)))
        (subst (λ f. Moves basis k.count f (k.stream (name_of action)) action y (k'.stream (name_of action))) (sym shown) t.moves)

    alike : AreSame x y (m'.stream (name_of action)) (k'.stream (name_of action))
    alike =
        moves_once
        (traced (name_of action))
        s.moves
        moves
        e
        (λ p q full. let c = same.counts in omega (arith, p, q, c))
        (λ p q full. let c = same.counts in omega (arith, p, q, c))

    streams : (name : List ℕ) → m'.stream name ≡ k'.stream name
    streams name =
        elim (same_or_not name (name_of action)) [
          | inl is ↦ subst (λ n. m'.stream n ≡ k'.stream n) (sym is) alike.streams
          | inr other ↦ s.others name other ∙ (same.streams name ∙ sym (t.others name other))
        ]

    counts : m'.count ≡ k'.count
    counts = omega (arith, s.counted, t.counted, same.counts, ap opens (same.streams (name_of action)), ap opens alike.streams)

    put : put_by (k.stream (name_of action)) action y.reply ≡ put_by (m.stream (name_of action)) action x.reply
    put =
        ap (λ h. put_by h action y.reply) (sym (same.streams (name_of action)))
        ∙ ap (λ (a : Answer). put_by (m.stream (name_of action)) action a.reply) (sym alike.answers)

    files : (name : List ℕ) → m'.file name ≡ k'.file name
    files =
        files_once
        basis
        m.file
        m'.file
        k.file
        k'.file
        (put_by (m.stream (name_of action)) action x.reply)
        s.files
        (subst (LeavesFiles basis k.file k'.file) put t.files)
        same.files
        told
        told'
