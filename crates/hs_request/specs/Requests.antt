-- What the words of a command line ask for.
use Rattle.std.specs.Prelude.{◌≡◌, ℕ, true, false, List, [], ◌∷◌, codes, Option, Some, None, if◌then◌else◌, unwrap_or}
use Rattle.std.specs.Str.{bytes_eq}
use Rattle.std.specs.Str.Parse.{digits_value, without_leading_plus}
use Rattle.clap.specs.Simple.{on_top}
use Rattle.clap.specs.ValueTests.{is_unsigned_in}
use Rattle.clap.specs.Words.{App, Kinds, Row, Rule, Text, app_of, first_of, fault_of, new_app, new_rule, subcommand_of}
use Rattle.clap.specs.Words.{with_rule, with_subcommand}
use Rattle.clap.specs.declared.builder.value_parser.ValueParser.TheVariants.{Unsigned}
use Rattle.clap.specs.declared.builder.command.Command.{Command}
use Rattle.clap.specs.declared.builder.command.Command.TheViews.{out-Command as fields_of}
use Rattle.hs_request.specs.declared.request.Request.{Request as Asked}
use Rattle.hs_request.specs.declared.request.Request.TheVariants.{Match, Check, Compile, Info, Scan, Stream, Soak}

-- ---- the command line

-- an operand, which has to be given
abbrev pub operand : Text → Rule
operand name = record (new_rule name) { required = true }

-- a subcommand with one operand
abbrev pub one_operand : Text → Text → App
one_operand name first = with_rule (new_app name) (operand first)

-- a subcommand with two operands
abbrev pub two_operands : Text → Text → Text → App
two_operands name first second = with_rule (one_operand name first) (operand second)

-- the greatest number of 32 bits
abbrev pub greatest_word : ℕ
greatest_word = 4294967295

-- an operand, which has to be given and is a number within these bounds
abbrev pub number_operand : Text → (least greatest : ℕ) → Rule
number_operand name least greatest = record (operand name) { parser = Some (Unsigned least greatest) }

-- the subcommand `soak`: a seed of 32 bits, and how many expressions are drawn, from 1 to 1,000
abbrev pub two_numbers : App
two_numbers =
    with_rule (with_rule (new_app (codes "soak")) (number_operand (codes "SEED") 0 greatest_word))
    (number_operand (codes "N") 1 1000)

-- the program, of which a subcommand has to be given, and none of which is `help`
abbrev pub program : App
program = on_top (λ s. record s { subcommand_required = true; disable_help_subcommand = true })
    (new_app (codes "hs_tool"))

-- the command line as `clap` is given it: subcommands with positional operands, and no other rule
abbrev pub command_line : App
command_line =
    with_subcommand
    (with_subcommand
    (with_subcommand
    (with_subcommand
    (with_subcommand
    (with_subcommand
    (with_subcommand program (two_operands (codes "match") (codes "PATTERNS") (codes "FILE")).top)
    (one_operand (codes "check") (codes "PATTERNS")).top)
    (two_operands (codes "compile") (codes "PATTERNS") (codes "DB")).top)
    (one_operand (codes "info") (codes "DB")).top)
    (two_operands (codes "scan") (codes "DB") (codes "FILE")).top)
    (one_operand (codes "stream") (codes "DB")).top)
    two_numbers.top

-- ---- the request

-- a command with the names that the words give
pub data Request : Type 0 where
  -- scan the file for the expressions of the pattern file
  match_file : (patterns file : List ℕ) → Request
  -- whether the list of the pattern file is accepted
  check_list : (patterns : List ℕ) → Request
  -- put the database file of the pattern file
  compile_list : (patterns database : List ℕ) → Request
  -- what the database file holds
  tell_database : (database : List ℕ) → Request
  -- scan the file for the expressions of the database file
  scan_file : (database file : List ℕ) → Request
  -- run the script of the input over streams of the database file
  run_script : (database : List ℕ) → Request
  -- draw so many expressions and a stream from the seed, and scan it in two ways
  soak : (seed count : ℕ) → Request

-- the word given for an operand
abbrev pub operand_in : List Row → Text → List ℕ
operand_in rows name = unwrap_or (first_of name rows) []

-- the number that a word says; 0 where it says none of 32 bits
abbrev pub number_of : Text → ℕ
number_of word = if is_unsigned_in 0 greatest_word word then digits_value 10 (without_leading_plus word) else 0

-- the number given for an operand
abbrev pub number_in : List Row → Text → ℕ
number_in rows name = number_of (operand_in rows name)

-- the request of a subcommand with the words given for its operands
abbrev pub request_named : Text → List Row → Option Request
request_named name rows =
    if bytes_eq name (codes "match")
    then Some (match_file (operand_in rows (codes "PATTERNS")) (operand_in rows (codes "FILE")))
    else (if bytes_eq name (codes "check")
    then Some (check_list (operand_in rows (codes "PATTERNS")))
    else (if bytes_eq name (codes "compile")
    then Some (compile_list (operand_in rows (codes "PATTERNS")) (operand_in rows (codes "DB")))
    else (if bytes_eq name (codes "info")
    then Some (tell_database (operand_in rows (codes "DB")))
    else (if bytes_eq name (codes "scan")
    then Some (scan_file (operand_in rows (codes "DB")) (operand_in rows (codes "FILE")))
    else (if bytes_eq name (codes "stream")
    then Some (run_script (operand_in rows (codes "DB")))
    else (if bytes_eq name (codes "soak")
    then Some (soak (number_in rows (codes "SEED")) (number_in rows (codes "N")))
    else None))))))

-- the request of the subcommand that was met
abbrev pub request_in : Option (Text × List Row) → Option Request
request_in None = None
request_in (Some met) = request_named met.0 met.1

-- the request where the words have no fault
abbrev pub without_fault : Kinds → Option Request → Option Request
without_fault [] request = request
without_fault (kind ∷ kinds) request = None

-- The request of the words, of which the first is the program's name: none where the command line doesn't take them.
unfoldable pub request_of : List (List ℕ) → Option Request
request_of words = without_fault (fault_of command_line words) (request_in (subcommand_of command_line words))

-- a request of the program as a plain one
abbrev pub plain_request : Asked → Request
plain_request (Match patterns file) = match_file patterns.now file.now
plain_request (Check patterns) = check_list patterns.now
plain_request (Compile patterns database) = compile_list patterns.now database.now
plain_request (Info database) = tell_database database.now
plain_request (Scan database file) = scan_file database.now file.now
plain_request (Stream database) = run_script database.now
plain_request (Soak seed count) = soak seed count

-- ---- what a command that is built is

-- the command is that of the command line
pub record IsCommand (app : App) (command : Command) : Type 0 where
  pub shape : app_of command ≡ app
  pub plain : (fields_of command).has_globals ≡ false

-- the command with one operand more
pub record IsMore (command : Command) (more_operand : Rule) (more : Command) : Type 0 where
  pub shape : app_of more ≡ with_rule (app_of command) more_operand
  pub plain : (fields_of command).has_globals ≡ false → (fields_of more).has_globals ≡ false

-- the command line with one subcommand more
pub record IsLonger (line : Command) (sub : App) (longer : Command) : Type 0 where
  pub more : {app : App} → IsCommand app line → IsCommand (with_subcommand app sub.top) longer
