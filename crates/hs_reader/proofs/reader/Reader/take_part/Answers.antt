use Rattle.hs_reader.proofs.ReadLemmas.{part-fed, part-all}
use Rattle.hs_reader.proofs.reader.Reader.take_part.Goals as goal

pub returns-in-Some : goal.returns-in-Some
returns-in-Some c =
    part-fed c.waiting-bytes.result.now c.in-Some.at c.waiting-bytes.ensures c.in-Some.ensures c.advance.ensures.bytes c.advance.ensures.place c.advance.ensures.ended c.append.ensures

pub returns-in-None : goal.returns-in-None
returns-in-None c =
    part-all c.waiting-bytes.result.now c.waiting-bytes.ensures c.in-None.ensures c.advance-in-None.ensures.bytes c.advance-in-None.ensures.place c.advance-in-None.ensures.ended c.append-in-None.ensures
