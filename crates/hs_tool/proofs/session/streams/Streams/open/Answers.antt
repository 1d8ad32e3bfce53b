use Rattle.std.proofs.Common.{sym, ◌∙◌, arith}
use Rattle.hs_tool.proofs.OpenLemmas.{performs-exists, performs-full, performs-memory, performs-open, fits-added, known-some, known-none}
use Rattle.hs_tool.proofs.session.streams.Streams.open.Goals as goal

pub returns-then-contains_key-clause-performs : goal.returns-then-contains_key-clause-performs
returns-then-contains_key-clause-performs c =
    let known = known-some _ (sym c.contains_key.ensures ∙ c.if-contains_key.true) in
    performs-exists c.args.name.now known.0 known.1

pub returns-then-len-ge-MAX_STREAMS-clause-performs : goal.returns-then-len-ge-MAX_STREAMS-clause-performs
returns-then-len-ge-MAX_STREAMS-clause-performs c =
    performs-full c.args.name.now (known-none _ (sym c.contains_key.ensures ∙ c.if-contains_key.false)) (omega (arith, c.len.ensures.len, c.if-len-ge-MAX_STREAMS.true))

pub returns-in-Ok-clause-fits : goal.returns-in-Ok-clause-fits
returns-in-Ok-clause-fits c = fits-added c.requires.fits c.in-Ok.ensures.added

pub returns-in-Ok-clause-performs : goal.returns-in-Ok-clause-performs
returns-in-Ok-clause-performs c =
    performs-open c.args.name.now (known-none _ (sym c.contains_key.ensures ∙ c.if-contains_key.false)) (omega (arith, c.len.ensures.len, c.if-len-ge-MAX_STREAMS.false)) c.in-Ok.ensures.added

pub returns-in-Err-clause-performs : goal.returns-in-Err-clause-performs
returns-in-Err-clause-performs c =
    performs-memory c.args.name.now (known-none _ (sym c.contains_key.ensures ∙ c.if-contains_key.false)) c.in-Err.ensures.unchanged
