use Rattle.std.proofs.Common.{sym, ap, ◌∙◌, arith}
use Rattle.hs_parse.specs.Reading.{plain_made}
use Rattle.hs_parse.proofs.TokenLemmas.{skip_takes, bracket_within}
use Rattle.hs_parse.proofs.ReadingLemmas.{none_skipped, more_skipped, next_behind, token_next}
use Rattle.hs_parse.proofs.token.next_token.Goals as goal

pub loop-token-init : goal.loop-token-init
loop-token-init c = none_skipped c.args.text.now c.args.from c.requires.within

pub loop-token-smaller : goal.loop-token-smaller
loop-token-smaller c =
    let skip = skip_takes c.args.text.now c.loop-token.start c.in-Skips.mode c.in-Skips.length c.loop-token.invariant.within
    (sym c.made_at.ensures ∙ ap plain_made c.in-Skips.is) in
    omega (arith, skip.rises, skip.within)

pub loop-token-preserved : goal.loop-token-preserved
loop-token-preserved c =
    more_skipped c.args.text.now c.args.from c.loop-token.start c.in-Skips.mode c.in-Skips.length c.loop-token.invariant
    (sym c.made_at.ensures ∙ ap plain_made c.in-Skips.is)

pub returns-in-Token : goal.returns-in-Token
returns-in-Token c =
    next_behind _ _ _ _ c.loop-token.invariant
    (token_next c.args.text.now c.loop-token.start c.in-Token.token c.in-Token.mode c.in-Token.length c.loop-token.invariant.within
    (sym c.made_at.ensures ∙ ap plain_made c.in-Token.is))

pub returns-in-Bracket : goal.returns-in-Bracket
returns-in-Bracket c = next_behind _ _ _ _ c.loop-token.invariant c.bracket_at.ensures

pub overflow_add-behind : goal.overflow_add-behind
overflow_add-behind c =
    let next =
    token_next c.args.text.now c.loop-token.start c.in-Token.token c.in-Token.mode c.in-Token.length c.loop-token.invariant.within
    (sym c.made_at.ensures ∙ ap plain_made c.in-Token.is) in
    omega (arith, next.within, c.requires.short)

pub overflow_add-start : goal.overflow_add-start
overflow_add-start c =
    let skip = skip_takes c.args.text.now c.loop-token.start c.in-Skips.mode c.in-Skips.length c.loop-token.invariant.within
    (sym c.made_at.ensures ∙ ap plain_made c.in-Skips.is) in
    omega (arith, skip.within, c.requires.short)

pub bracket_at-requires-clause-within : goal.bracket_at-requires-clause-within
bracket_at-requires-clause-within c =
    bracket_within c.args.text.now c.loop-token.start (sym c.made_at.ensures ∙ ap plain_made c.in-Bracket.is)
