use Rattle.std.proofs.Common.{arith}
use Rattle.hs_dbfile.proofs.FieldLemmas.{each_byte}
use Rattle.hs_dbfile.proofs.writing.append_text.Goals as goal

pub returns-clause-widths : goal.returns-clause-widths
returns-clause-widths c = each_byte c.args.text.now (λ i. let b = c.type_inv.text i in omega (arith, b))
