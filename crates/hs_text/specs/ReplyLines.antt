-- The lines that answer the commands of a script, and the line of a fault of the script.
use Rattle.std.specs.Prelude.{ℕ, List, ◌++◌, codes, decimal, Option, None, Some}
use Rattle.hs_text.specs.declared.commands.Verb.{Verb}
use Rattle.hs_text.specs.declared.commands.Verb.TheVariants as verb
use Rattle.hs_text.specs.declared.reply_lines.Word.{Word}
use Rattle.hs_text.specs.declared.reply_lines.Word.TheVariants as word
use Rattle.hs_text.specs.declared.reply_lines.Reply.{Reply}
use Rattle.hs_text.specs.declared.reply_lines.Reply.TheVariants.{Done, No}
use Rattle.hs_text.specs.declared.reply_lines.ScriptFault.{ScriptFault}
use Rattle.hs_text.specs.declared.reply_lines.ScriptFault.TheVariants.{Script, Truncated}

-- the word of a command
abbrev pub verb_text : Verb → List ℕ
verb_text verb.Open = codes "open"
verb_text verb.Write = codes "write"
verb_text verb.Reset = codes "reset"
verb_text verb.Close = codes "close"
verb_text verb.Save = codes "save"
verb_text verb.Expand = codes "expand"

-- the word of a refusal
abbrev pub word_text : Word → List ℕ
word_text word.Exists = codes "exists"
word_text word.Unknown = codes "unknown"
word_text word.Full = codes "full"
word_text word.Length = codes "length"
word_text word.Absent = codes "absent"
word_text word.Form = codes "form"
word_text word.Version = codes "version"
word_text word.Database = codes "database"
word_text word.Memory = codes "memory"

-- a number with a space before it, if there is one
abbrev pub number_text : Option ℕ → List ℕ
number_text None = codes ""
number_text (Some number) = codes " " ++ decimal number

-- `ok COMMAND N`, with its number where it has one, and `no COMMAND N WORD`
abbrev pub reply_line : List ℕ → Reply → List ℕ
reply_line name (Done verb number) =
    codes "ok " ++ verb_text verb ++ codes " " ++ name ++ number_text number ++ codes "\n"
reply_line name (No verb word) =
    codes "no " ++ verb_text verb ++ codes " " ++ name ++ codes " " ++ word_text word ++ codes "\n"

-- `fault script LINE` and `fault truncated LINE`
abbrev pub fault_line : ScriptFault → List ℕ
fault_line (Script line) = codes "fault script " ++ decimal line ++ codes "\n"
fault_line (Truncated line) = codes "fault truncated " ++ decimal line ++ codes "\n"
