use Rattle.std.proofs.Common.{◌∙◌, ap, arith, sym}
use Rattle.std.proofs.lemmas.Option.{get_or_from_slice_get, slice_get-get_or}
use Rattle.hs_reports.specs.declared.identifier.Identifier.{Identifier}
use Rattle.hs_nodes.proofs.LoneLemmas.{one-named}
use Rattle.hs_nodes.proofs.lone.only_identifier.Goals as goal

pub returns-then-index : goal.returns-then-index
returns-then-index g c = record {
  named = one-named c.args.graph.now c.args.k c.terminals_of-own.result.now _ c.requires.terminals c.requires.there c.terminals_of-own.ensures c.if-own-ne1.false (slice_get-get_or c.terminals_of-own.result.now 0 _ (omega (arith, c.if-own-ne1.false)));
  single = λ x at. ap (λ (i : Identifier). i.single) (sym (c.index.ensures ∙ get_or_from_slice_get c.args.graph.now.identifiers.items _ x _ at)) ∙ c.if-index.true;
}
