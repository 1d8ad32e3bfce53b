use Rattle.hs_nodes.proofs.TurnLemmas.{first-bits, first-bytes, first-fours, first-halves, first-pairs, first-twos, turned-bit}
use Rattle.hs_nodes.proofs.turning.turned_round.Goals as goal

pub changed-bits-requires-clause-mask : goal.changed-bits-requires-clause-mask
changed-bits-requires-clause-mask c = first-bits

pub changed-pairs-requires-clause-mask : goal.changed-pairs-requires-clause-mask
changed-pairs-requires-clause-mask c = first-pairs

pub changed-halves-requires-clause-mask : goal.changed-halves-requires-clause-mask
changed-halves-requires-clause-mask c = first-halves

pub changed-bytes-requires-clause-mask : goal.changed-bytes-requires-clause-mask
changed-bytes-requires-clause-mask c = first-bytes

pub changed-twos-requires-clause-mask : goal.changed-twos-requires-clause-mask
changed-twos-requires-clause-mask c = first-twos

pub changed-requires-clause-mask : goal.changed-requires-clause-mask
changed-requires-clause-mask c = first-fours

pub returns : goal.returns
returns c =
    turned-bit c.args.word c.changed-bits.result c.changed-pairs.result c.changed-halves.result c.changed-bytes.result c.changed-twos.result c.changed.result
    c.changed-bits.ensures c.changed-pairs.ensures c.changed-halves.ensures c.changed-bytes.ensures c.changed-twos.ensures c.changed.ensures
