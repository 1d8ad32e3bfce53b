use Rattle.std.proofs.Common.{sym, ◌∙◌}
use Rattle.hs_pieces.specs.Meaning.{plain_chain}
use Rattle.hs_kept.proofs.ToldLemmas.{told-behind}
use Rattle.hs_kept.proofs.builder.sets_of_first.Goals as goal

pub returns-then-begins_with_look_back : goal.returns-then-begins_with_look_back
returns-then-begins_with_look_back c = told-behind (plain_chain c.args.chain.now) (sym c.begins_with_look_back.ensures ∙ c.if-begins_with_look_back.true)
