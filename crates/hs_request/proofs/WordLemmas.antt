-- What `clap` makes of the words, as the request that they are.
use Rattle.std.proofs.Common.{◌≡◌, ◌≢◌, ◌∙◌, List, [], ◌∷◌, Option, None, Result, Ok, Err, IfOk, true, refl, sym, ap, subst, inl, inr}
use Rattle.std.specs.Option.{option_map}
use Rattle.std.specs.declared.alloc.AllocError.{AllocError}
use Rattle.clap.specs.Words.{App, HasKind, HasMatchesOf, IsAmong, Kinds, Text, app_of, fault_of, is_simple, is_simple_and_free, kind_of, subcommand_of, subcommand_rows_of}
use Rattle.clap.specs.declared.ArgMatches.{ArgMatches}
use Rattle.clap.specs.declared.Error.{Error}
use Rattle.clap.specs.declared.error.ErrorKind.{ErrorKind}
use Rattle.clap.specs.declared.error.ErrorKind.TheVariants.{OutOfMemory}
use Rattle.clap.specs.declared.builder.command.Command.{Command}
use Rattle.clap.proofs.OnLiterals.{clap_on_literals}
use Rattle.hs_request.specs.Requests.{IsCommand, Request, command_line, plain_request, request_in, request_of, without_fault}
use Rattle.hs_request.specs.declared.request.Request.{Request as Asked}

pub simple : is_simple command_line ≡ true
unfolding clap_on_literals
simple = refl

pub free : is_simple_and_free command_line ≡ true
unfolding clap_on_literals
free = refl

some_fault : (kind : ErrorKind) (kinds : Kinds) (request : Option Request) → IsAmong kind kinds → None ≡ without_fault kinds request
some_fault kind [] request among = absurd among
some_fault kind (k ∷ kinds) request among = refl

-- the words were taken
pub taken : (command : Command) (words : List Text) (matches : ArgMatches) → IsCommand command_line command → fault_of (app_of command) words ≡ [] → HasMatchesOf (app_of command) words matches →
    request_in (subcommand_rows_of matches) ≡ request_of words
unfolding request_of
taken command words matches is none has =
    let same : fault_of command_line words ≡ [] = ap (λ (a : App). fault_of a words) (sym is.shape) ∙ none in
    let met = (has (ap is_simple is.shape ∙ simple)).1 ∙ ap (λ (a : App). subcommand_of a words) is.shape in
    ap request_in met ∙ ap (λ (kinds : Kinds). without_fault kinds (request_in (subcommand_of command_line words))) (sym same)

-- the words weren't taken, and not for want of memory
pub not_taken : (command : Command) (words : List Text) (error : Error) → IsCommand command_line command → HasKind (fault_of (app_of command) words) error → kind_of error ≢ OutOfMemory →
    None ≡ request_of words
unfolding request_of
not_taken command words error is has other =
    elim has [
      | inl memory ↦ absurd (other memory)
      | inr among ↦ subst (λ (a : App). None ≡ without_fault (fault_of a words) (request_in (subcommand_of command_line words))) is.shape
          (some_fault (kind_of error) (fault_of (app_of command) words) (request_in (subcommand_of command_line words)) among)
    ]

-- no request is that of the words, where they have none
pub no_request : {P : Type 0} (result : Result (Option Asked) AllocError) (asked : Option Request) → IfOk result (λ request. request ≡ None) → IfOk result (λ request. P) → (P → None ≡ asked) →
    IfOk result (λ request. option_map plain_request request ≡ asked)
no_request (Ok request) asked none holds is = ap (option_map plain_request) none ∙ is holds
no_request (Err error) asked none holds is = tt
