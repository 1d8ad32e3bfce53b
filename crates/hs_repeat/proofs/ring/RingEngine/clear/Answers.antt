use Rattle.hs_base.specs.ByteSets.{members}
use Rattle.hs_repeat.proofs.RingLemmas.{ring-start, zero-ring}
use Rattle.hs_repeat.proofs.ring.RingEngine.clear.Goals as goal

pub returns-clause-starts : goal.returns-clause-starts
returns-clause-starts c tree runs = ring-start (members c.args.self.now.set) c.args.self.now.greatest c.clear_bits.new.bytes c.clear_bits.ensures.zero

pub returns-clause-well : goal.returns-clause-well
returns-clause-well c at = zero-ring c.args.self.now.greatest c.clear_bits.new.bytes at c.clear_bits.ensures.zero
