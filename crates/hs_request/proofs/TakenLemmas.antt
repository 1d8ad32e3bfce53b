-- Words in which the command line finds no fault name one of its subcommands.
use Rattle.std.proofs.Common.{◌≡◌, ◌∙◌, ◌&&◌, Bool, true, false, not, List, [], ◌∷◌, Option, Some, None, find, is_some, option_map, refl, sym, ap, cond}
use Rattle.std.specs.List.{list_any}
use Rattle.clap.specs.Facts.{explicit_source}
use Rattle.clap.specs.Walk.{Held, Names, answers_to, finished, nothing_held, settled, walk, walk_from}
use Rattle.clap.specs.Simple.{argument_words, built, entered, label_of, names_of, rows_at}
use Rattle.clap.specs.Takes.{is_given as is_given_in}
use Rattle.clap.specs.Kinds.{or_else, check_kinds}
use Rattle.clap.specs.Faults.{check_fault, defaults_fault, entered_fault, level_fault, settle_fault, walk_fault}
use Rattle.clap.specs.Words.{App, Kinds, Row, Rule, Shape, Text, fault_of, subcommand_of}
use Rattle.clap.proofs.OnLiterals.{clap_on_literals}
use Rattle.hs_request.specs.Requests.{Request, command_line, request_in, request_named, request_of, without_fault}

-- the second finds no fault where both find none
second : (first next : Kinds) → or_else first next ≡ [] → next ≡ []
second [] next e = e
second (k ∷ ks) next e = absurd (cc)

-- where a subcommand is required, it is a fault that none is given
is_given : (given help required argument : Bool) → check_kinds (not given && help) (not given && required) argument ≡ [] → help ≡ false → required ≡ true → given ≡ true
is_given true help required argument e helpless needed = refl
is_given false true required argument e helpless needed = absurd (cc)
is_given false false true argument e helpless needed = absurd (cc)
is_given false false false argument e helpless needed = absurd (cc)

-- the subcommand has the name of a request
abbrev IsNamed : Shape → Type 0
IsNamed s = (rows : List Row) → request_named s.name rows ≡ None → ⊥

-- each of them has
abbrev AreNamed : List Shape → Type 0
AreNamed [] = Unit {0}
AreNamed (s ∷ shapes) = IsNamed s × AreNamed shapes

named : AreNamed (built command_line).subs
unfolding clap_on_literals
named =
    (λ rows e. absurd (cc), (λ rows e. absurd (cc), (λ rows e. absurd (cc), (λ rows e. absurd (cc), (λ rows e. absurd (cc), (λ rows e. absurd (cc), (λ rows e. absurd (cc), tt)))))))

-- what is found among them is a request
abbrev IsAsked : Option Shape → List Text → Type 0
IsAsked found rest = is_some (option_map (λ s. rows_at s rest) found) ≡ true → request_in (option_map (λ s. rows_at s rest) found) ≡ None → ⊥

asked_if : (b : Bool) (s : Shape) (others : Option Shape) (rest : List Text) → IsNamed s → IsAsked others rest → IsAsked (cond b (Some s) others) rest
asked_if true s others rest is asked some none = is ((rows_at s rest).1) none
asked_if false s others rest is asked some none = asked some none

asked_found : (test : Shape → Bool) (rest : List Text) (shapes : List Shape) → AreNamed shapes → IsAsked (find test shapes) rest
asked_found test rest [] are some none = absurd (cc)
asked_found test rest (s ∷ shapes) are some none = asked_if (test s) s (find test shapes) rest are.0 (asked_found test rest shapes are.1) some none

-- the subcommand that was met is a request
asked : (app : App) (stop : Option (Text × List Text)) → AreNamed app.subs → is_some (entered app stop) ≡ true → request_in (entered app stop) ≡ None → ⊥
asked app None are some none = absurd (cc)
asked app (Some p) are some none = asked_found (λ s. answers_to p.0 (label_of s)) p.1 app.subs are some none

-- a level without a fault passes the check at its end
checked : (s : Shape) (names : Names) (h : Held) (words : List Text) (has : Bool) (below : Kinds) → level_fault s names h words has below ≡ [] → check_fault s (finished s.rules (walk s.rules names h words).held) has ≡ []
checked s names h words has below free =
    let end : Held = (walk s.rules names h words).held in
    let check : Kinds = check_fault s (finished s.rules end) has in
    let defaults : Kinds = defaults_fault (settled s.rules end).rows s.rules in
    let settle : Kinds = settle_fault s.rules s.args_override_self end in
    second defaults check
    (second settle (or_else defaults check)
    (second below (or_else settle (or_else defaults check))
    (second (walk_fault s names (walk_from h) words) (or_else below (or_else settle (or_else defaults check))) free)))

-- a level that passes it has a subcommand, where one is required
given : (s : Shape) (rows : List Row) (has : Bool) → check_fault s rows has ≡ [] → s.arg_required_else_help ≡ false → s.subcommand_required ≡ true → has ≡ true
given s rows has free helpless needed =
    let some : Bool = list_any (λ (r : Row). explicit_source r.source) rows in
    is_given has (s.arg_required_else_help && not some) s.subcommand_required
    (not (s.subcommand_negates_reqs && has) && list_any (λ (a : Rule). a.required && not (is_given_in a.id rows)) s.rules)
    free (ap (λ b. b && not some) helpless) needed

-- words without a fault are a request
pub taken_if : (words : List Text) → fault_of command_line words ≡ [] → request_of words ≡ None → ⊥
unfolding request_of
taken_if words free none =
    let app : App = built command_line in
    let rest : List Text = argument_words command_line words in
    let stop : Option (Text × List Text) = (walk app.top.rules (names_of app) nothing_held rest).stopped in
    let has : Bool = is_some (entered app stop) in
    let check = checked app.top (names_of app) nothing_held rest has (entered_fault app stop) free in
    let some = given app.top (finished app.top.rules (walk app.top.rules (names_of app) nothing_held rest).held) has check refl refl in
    let met : request_in (subcommand_of command_line words) ≡ None = sym (ap (λ (kinds : Kinds). without_fault kinds (request_in (subcommand_of command_line words))) free) ∙ none in
    asked app stop named some met

no_fault : (kinds : Kinds) (request : Option Request) → (without_fault kinds request ≡ None → ⊥) → kinds ≡ []
no_fault [] request some = refl
no_fault (k ∷ kinds) request some = absurd (some refl)

-- and no others are
pub none_if : (words : List Text) → (request_of words ≡ None → ⊥) → fault_of command_line words ≡ []
unfolding request_of
none_if words some = no_fault (fault_of command_line words) (request_in (subcommand_of command_line words)) some
