use Rattle.std.proofs.Common.{sym, subst}
use Rattle.hs_parse.specs.declared.token.Token.TheVariants as seen
use Rattle.hs_parse.specs.Tokens.{Token, ClassToken}
use Rattle.hs_parse.proofs.ReadingLemmas.{class_next}
use Rattle.hs_parse.proofs.token.bracket_at.Goals as goal

pub returns-in-Ok : goal.returns-in-Ok
returns-in-Ok c =
    class_next _ _ _ c.class_token.result c.requires.made c.requires.within
    (subst (λ (made : Token). ClassToken c.args.text.now c.args.start.mode c.args.start.place made c.in-Ok.end)
    (sym c.class_token.ensures) c.in-Ok.ensures)

pub returns-in-Err : goal.returns-in-Err
returns-in-Err c = class_next _ _ _ (seen.Refused c.in-Err.refusal) c.requires.made c.requires.within c.in-Err.ensures
