use Rattle.std.proofs.Common.{◌∙◌, ◌≤◌, length, drop, sym, ap, subst}
use Rattle.hs_reader.specs.Reading.{Ahead}
use Rattle.hs_reader.proofs.ReadLemmas.{range-drop, range-within}
use Rattle.hs_reader.proofs.reader.Reader.advance.Goals as goal

pub returns-clause-bytes : goal.returns-clause-bytes
returns-clause-bytes c =
    let r = c.self.inside in
    let same = c.self.view_is in
    range-drop r.piece r.from r.to c.args.count
    (range-within r.piece r.from r.to c.args.count (subst (λ (a : Ahead). c.args.count ≤ length a.bytes) (sym same) c.requires))
    ∙ ap (λ (a : Ahead). drop c.args.count a.bytes) same
