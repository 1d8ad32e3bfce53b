-- What the commands are about: the files that they name, the script of the input, and what is drawn from a seed.
use Rattle.std.specs.Prelude.{ℕ, List, [], Option, Some}
use Rattle.hs_lists.specs.ListKinds.{ListKind, pattern_file, database_file}
use Rattle.hs_request.specs.Requests.{Request, match_file, check_list, compile_list, tell_database, scan_file}
use Rattle.hs_request.specs.Requests.{run_script, soak}

-- the list of the command is in a file that it names: so it is with all but `soak`
abbrev pub NamesList : Request → Type 0
NamesList (soak seed count) = ⊥
NamesList request = Unit {0}

-- what holds the list of a command that names one
abbrev pub list_kind : Request → ListKind
list_kind (match_file patterns file) = pattern_file
list_kind (check_list patterns) = pattern_file
list_kind (compile_list patterns database) = pattern_file
list_kind (tell_database database) = database_file
list_kind (scan_file database file) = database_file
list_kind (run_script database) = database_file
list_kind (soak seed count) = database_file

-- the name of the file that holds the list of a command that names one
abbrev pub list_name : Request → List ℕ
list_name (match_file patterns file) = patterns
list_name (check_list patterns) = patterns
list_name (compile_list patterns database) = patterns
list_name (tell_database database) = database
list_name (scan_file database file) = database
list_name (run_script database) = database
list_name (soak seed count) = []

-- what is scanned: nothing, the file of this name, what the script of the input writes, or what is drawn from a seed
pub data Scanned : Type 0 where
  no_bytes : Scanned
  file_named : List ℕ → Scanned
  script_of_input : Scanned
  drawn_bytes : Scanned

-- what a command scans
abbrev pub scanned_by : Request → Scanned
scanned_by (match_file patterns file) = file_named file
scanned_by (check_list patterns) = no_bytes
scanned_by (compile_list patterns database) = no_bytes
scanned_by (tell_database database) = no_bytes
scanned_by (scan_file database file) = file_named file
scanned_by (run_script database) = script_of_input
scanned_by (soak seed count) = drawn_bytes

-- the command is `stream`, which alone reads the input
abbrev pub IsStream : Option Request → Type 0
IsStream (Some (run_script database)) = Unit {0}
IsStream request = ⊥
