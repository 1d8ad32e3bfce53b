use Rattle.std.proofs.Common.{sym, ap, ◌∙◌}
use Rattle.hs_parse.specs.Tokens.{Token, token, made_by}
use Rattle.hs_parse.proofs.token.made_by.Goals as goal

pub returns-in-Any : goal.returns-in-Any
returns-in-Any c =
    ap (λ (made : Token). token made c.args.mode 1) c.any_token.ensures ∙ sym (ap (made_by c.args.mode c.args.at) c.in-Any.is)

pub returns-in-Character : goal.returns-in-Character
returns-in-Character c =
    ap (λ (made : Token). token made c.args.mode c.in-Character.length) c.test_token.ensures
    ∙ sym (ap (made_by c.args.mode c.args.at) c.in-Character.is)

pub returns-in-Class : goal.returns-in-Class
returns-in-Class c =
    ap (λ (made : Token). token made c.args.mode c.in-Class.length) c.test_token-in-Class.ensures
    ∙ sym (ap (made_by c.args.mode c.args.at) c.in-Class.is)
