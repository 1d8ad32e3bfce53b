use Rattle.std.proofs.Common.{sym, ◌∙◌, arith}
use Rattle.hs_tool.specs.Expanding.{is_open, is_full}
use Rattle.hs_tool.proofs.OpenLemmas.{known-some, known-none}
use Rattle.hs_tool.proofs.session.streams.Streams.hindrance.Goals as goal

pub returns-then-contains_key : goal.returns-then-contains_key
returns-then-contains_key c =
    let known = known-some _ (sym c.contains_key.ensures ∙ c.if-contains_key.true) in
    is_open known.0 known.1

pub returns-then-len-ge-MAX_STREAMS : goal.returns-then-len-ge-MAX_STREAMS
returns-then-len-ge-MAX_STREAMS c =
    is_full (known-none _ (sym c.contains_key.ensures ∙ c.if-contains_key.false)) (omega (arith, c.len.ensures.len, c.if-len-ge-MAX_STREAMS.true))
