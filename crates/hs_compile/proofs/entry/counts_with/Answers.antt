use Rattle.std.proofs.Common.{map}
use Rattle.hs_base.specs.Entries.{listed}
use Rattle.hs_pieces.specs.Meaning.{plain_chain}
use Rattle.hs_compile.proofs.KnownLemmas.{counted-all}
use Rattle.hs_compile.proofs.entry.counts_with.Goals as goal

pub returns : goal.returns
returns c =
    counted-all c.with_fields.result c.with_name-named.result c.args.counts c.in-Some.size (map plain_chain c.args.chains.now) c.args.seen.now (listed c.args.entry.now) c.known.result c.asks_single.result
    c.with_fields.ensures c.with_name-named.ensures.fields c.with_name-named.ensures.named c.known.ensures c.asks_single.ensures c.in-Some.ensures
