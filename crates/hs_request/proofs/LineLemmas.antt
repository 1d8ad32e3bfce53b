-- A command line that is built in steps is the one that is meant.
use Rattle.std.proofs.Common.{◌≡◌, ◌||◌, ◌∙◌, ap, ap₂, true, false, codes}
use Rattle.clap.specs.Simple.{on_top, app_of_fields}
use Rattle.clap.specs.Words.{AddsSubcommand, App, app_of, new_app, with_subcommand}
use Rattle.clap.specs.declared.builder.command.Command.{Command}
use Rattle.clap.specs.declared.builder.command.Command.TheViews.{out-Command as fields_of}
use Rattle.hs_request.specs.Requests.{IsCommand, program}

-- the program, of which a subcommand has to be given, and none of which is `help`
pub program-is : (new required helpless : Command) → app_of new ≡ new_app (codes "hs_tool") → (fields_of new).has_globals ≡ false →
    fields_of required ≡ record (fields_of new) { subcommand_required = true } → fields_of helpless ≡ record (fields_of required) { disable_help_subcommand = true } → IsCommand program helpless
program-is new required helpless is plain wants leaves = record {
  shape = ap app_of_fields leaves ∙ (ap (λ f. app_of_fields (record f { disable_help_subcommand = true })) wants ∙ ap (on_top (λ s. record s { subcommand_required = true; disable_help_subcommand = true })) is);
  plain = ap (λ f. f.has_globals) leaves ∙ (ap (λ f. f.has_globals) wants ∙ plain);
}

-- a command line with one subcommand more
pub line-more : {old sub new : Command} {line app : App} → IsCommand line old → IsCommand app sub → AddsSubcommand old sub new → IsCommand (with_subcommand line app.top) new
line-more before added adds = record {
  shape = adds.shape added.plain ∙ ap₂ with_subcommand before.shape (ap (λ (a : App). a.top) added.shape);
  plain = adds.globals ∙ ap₂ (λ x y. x || y) before.plain added.plain;
}
