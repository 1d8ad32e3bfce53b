use Rattle.std.proofs.Common.{sym}
use Rattle.hs_compile.proofs.KnownLemmas.{known-none, known-some}
use Rattle.hs_compile.proofs.seen.Seen.known.Goals as goal

pub returns-in-None : goal.returns-in-None
returns-in-None c before P kept read = known-none c.args.self.now c.args.entry.now.id.0 before P kept read (sym c.in-None.ensures.value)

pub returns-in-Some : goal.returns-in-Some
returns-in-Some c before P kept read = known-some c.args.self.now c.args.entry.now.id.0 c.in-Some.single.now before P kept read (sym c.in-Some.ensures.value)
