use Rattle.std.proofs.Common.{map, ap, sym, ◌∙◌, arith}
use Rattle.hs_base.specs.LiteralView.{literal_byte, literal_bytes}
use Rattle.hs_rose.proofs.IndexLemmas.{index-found, index-more, index-new}
use Rattle.hs_rose.proofs.NamingLemmas.{pushed-numbered}
use Rattle.hs_rose.proofs.literal_index.LiteralIndex.number_of.Goals as goal

pub returns-in-Some-clause-numbered : goal.returns-in-Some-clause-numbered
returns-in-Some-clause-numbered c indexed =
    index-found c.args.self.now c.deref.result.now c.args.bytes.now c.in-Some.number (c.deref.ensures.value ∙ c.in_ok-key.ensures) (sym c.find.ensures ∙ c.in-Some.is) indexed

pub returns-clause-numbered : goal.returns-clause-numbered
returns-clause-numbered c indexed =
    pushed-numbered literal_bytes c.args.self.now.list.items c.push.new.self.items c.in_ok-from_slice.field-0 (map literal_byte c.args.bytes.now) c.len-number.result
    (index-new c.args.self.now c.deref.result.now c.args.bytes.now (c.deref.ensures.value ∙ c.in_ok-key.ensures) (sym c.find.ensures ∙ c.in_default.is) indexed)
    (ap (map literal_byte) c.in_ok-from_slice.ensures.items) c.in_ok-push.ensures.items (omega (arith, c.len-number.ensures, c.args.self.now.list.ok.0))

pub returns-clause-indexed : goal.returns-clause-indexed
returns-clause-indexed c indexed =
    index-more c.args.self.now (record { list = c.push.new.self; numbers = c.insert.new.self }) c.in_ok-key.key c.in_ok-from_slice.field-0 c.args.bytes.now c.len-number.result
    c.in_ok-key.ensures c.in_ok-from_slice.ensures.items (omega (arith, c.len-number.ensures, c.args.self.now.list.ok.0)) c.in_ok-insert.ensures.updates c.in_ok-push.ensures.items indexed
