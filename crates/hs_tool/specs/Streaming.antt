-- What a script leaves that is run over streams of a list.
use Rattle.std.specs.Prelude.{◌≡◌, ℕ, suc, List, ◌++◌, length, Option}
use Rattle.hs_base.specs.Entries.{ListedEntry}
use Rattle.hs_base.specs.Patterns.{Pattern}
use Rattle.hs_outside.specs.Source.{Gave, GaveSome, IsWhole}
use Rattle.hs_outside.specs.Sink.{Took, TookPrefix}
use Rattle.hs_outside.specs.Store.{Told}
use Rattle.hs_text.specs.declared.reply_lines.ScriptFault.{ScriptFault}
use Rattle.hs_script.specs.Actions.{Action}
use Rattle.hs_script.specs.Bases.{Basis, IsBasis}
use Rattle.hs_script.specs.Scripts.{IsScript}
use Rattle.hs_script.specs.Machine.{Answer}
use Rattle.hs_script.specs.Runs.{run_text}
use Rattle.hs_compile.specs.Sizes.{IsPlanOf}
use Rattle.hs_lists.specs.Loading.{list_digest}
use Rattle.hs_tool.specs.Serving.{HasEnding, IsFileLine, IsPart, RunsThrough}

-- What a machine goes by for streams of a list: its plan and its digest. Each file may be taken for that of any stream
-- of which it is the state file, or of none.
pub record IsBasisOf (entries : List ListedEntry) (P : List Pattern) (basis : Basis) : Type 0 where
  pub plan : IsPlanOf P basis.plan
  pub digest : basis.digest ≡ list_digest entries
  pub is_basis : IsBasis basis

-- That holds by whatever a machine may go by for the list.
abbrev pub ByEach : List ListedEntry → List Pattern → (Basis → Type 0) → Type 0
ByEach entries P Holds = (basis : Basis) → IsBasisOf entries P basis → Holds basis

-- The text is that of a run of the machine over the whole script that the source has, which has this fault, if it has
-- one. The files are then those of the machine.
pub record IsTextOver (basis : Basis) (told tells : List ℕ → Told) (left : Option (List ℕ))
    (ending : Option ScriptFault) (text : List ℕ) : Type 0 where
  pub bytes : List ℕ
  pub whole : IsWhole left bytes
  pub answers : List Answer
  pub run : HasEnding basis told tells bytes answers text ending

-- What is said of a script: of which list, what the store told before and tells now, and what was left of the source.
pub record Setting : Type 0 where
  pub entries : List ListedEntry
  pub patterns : List Pattern
  pub told : List ℕ → Told
  pub tells : List ℕ → Told
  pub left : Option (List ℕ)
  pub lefts : Option (List ℕ)

-- The script was run to its end or to its fault, and the sink took that text.
pub record HasServed (s : Setting) (ending : Option ScriptFault) (out outs : Option (List ℕ)) : Type 0 where
  pub text : List ℕ
  pub over : ByEach s.entries s.patterns (λ basis. IsTextOver basis s.told s.tells s.left ending text)
  pub taken : Took out outs text
  pub given : GaveSome s.left s.lefts

-- The bytes are these commands, whole, whatever comes behind them.
abbrev pub AreCommands : List ℕ → List Action → Type 0
AreCommands bytes actions =
    (next : List ℕ) (following : List Action) (ending : Option ScriptFault) →
    IsScript (suc (length actions)) next following ending → IsScript 1 (bytes ++ next) (actions ++ following) ending

-- The text has all lines of each command that is whole in the bytes, and the reports of what came of the next one.
pub record IsTextSoFar (s : Setting) (bytes text : List ℕ) : Type 0 where
  pub front : List ℕ
  pub rest : List ℕ
  pub split : bytes ≡ front ++ rest
  pub actions : List Action
  pub more : List Action
  pub answers : List Answer
  pub commands : AreCommands front actions
  pub part : IsPart rest more
  pub run : ByEach s.entries s.patterns (λ basis. RunsThrough basis s.told (actions ++ more) answers)
  pub is : text ≡ run_text (actions ++ more) answers

-- The text has all lines of each command of the bytes, behind which stands a line at which the store failed.
pub record IsTextBefore (s : Setting) (bytes line text : List ℕ) : Type 0 where
  pub actions : List Action
  pub answers : List Answer
  pub commands : AreCommands bytes actions
  pub file_line : IsFileLine line
  pub run : ByEach s.entries s.patterns (λ basis. RunsThrough basis s.told actions answers)
  pub is : text ≡ run_text actions answers

-- The source gave these bytes, and the sink took the text of the commands in them.
pub record HasAnswered (s : Setting) (bytes : List ℕ) (out outs : Option (List ℕ)) : Type 0 where
  pub given : Gave s.left s.lefts bytes
  pub text : List ℕ
  pub so_far : IsTextSoFar s bytes text
  pub taken : Took out outs text

-- The source gave some commands, the line of one that names a file, and maybe more bytes. The sink took the text of the
-- commands before that line.
pub record HasStopped (s : Setting) (out outs : Option (List ℕ)) : Type 0 where
  pub bytes : List ℕ
  pub line : List ℕ
  pub unread : List ℕ
  pub given : Gave s.left s.lefts (bytes ++ (line ++ unread))
  pub text : List ℕ
  pub before : IsTextBefore s bytes line text
  pub taken : Took out outs text

-- The text of what was taken of the script, or of some first bytes of it; or of all of the script.
pub data IsSomeText (s : Setting) (text : List ℕ) : Type 0 where
  part : (bytes unread : List ℕ) →
      Gave s.left s.lefts (bytes ++ unread) →
      IsTextSoFar s bytes text →
      IsSomeText s text
  stopped : (bytes line unread : List ℕ) →
      Gave s.left s.lefts (bytes ++ (line ++ unread)) →
      IsTextBefore s bytes line text →
      IsSomeText s text
  all : (ending : Option ScriptFault) →
      GaveSome s.left s.lefts →
      ByEach s.entries s.patterns (λ basis. IsTextOver basis s.told s.tells s.left ending text) →
      IsSomeText s text

-- The sink took a beginning of such a text.
pub record HasBegunAnswers (s : Setting) (out outs : Option (List ℕ)) : Type 0 where
  pub text : List ℕ
  pub some : IsSomeText s text
  pub taken : TookPrefix out outs text
