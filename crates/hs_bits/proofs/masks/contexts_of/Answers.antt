use Rattle.hs_bits.proofs.masks.contexts_of.Goals as goal

pub returns-in-Some : goal.returns-in-Some
returns-in-Some c = c.requires.made c.in-Some.contexts c.in-Some.is
