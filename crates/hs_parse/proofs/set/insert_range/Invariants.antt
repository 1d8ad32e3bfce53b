use Rattle.hs_parse.proofs.InsertLemmas.{HasRange}
use Rattle.hs_parse.proofs.set.insert_range.Given as goal

-- the bytes of the range so far are there
abbrev pub invariant-loop-code : goal.invariant-loop-code
invariant-loop-code l = HasRange l.caseless l.first l.last l.code l.fn.set l.set
