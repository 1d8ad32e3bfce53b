use Rattle.std.proofs.Common.{◌≡◌, ◌+◌, ◌++◌, ◌∙◌, [], length, map, get_or, sym, ap, eq-eqb}
use Rattle.std.proofs.lemmas.List.{get_or-map}
use Rattle.hs_base.specs.LiteralView.{literal_byte}
use Rattle.hs_confirm.specs.Taking.{ends_there}
use Rattle.hs_confirm.proofs.TakingLemmas.{and_true}
use Rattle.hs_confirm.proofs.plain.is_bucket_end.Goals as goal

pub returns-then-buckets-number : goal.returns-then-buckets-number
returns-then-buckets-number c =
    let literal = c.index-literals-number.result in
    let read : get_or (map (λ l. map literal_byte l.items) c.args.literals.now) c.args.number [] ≡ map literal_byte c.as_slice.result.now =
    get_or-map (λ l. map literal_byte l.items) c.args.literals.now c.args.number literal [] c.requires.number
    ∙ ap (λ l. map literal_byte l.items) (sym c.index-literals-number.is)
    ∙ ap (map literal_byte) (sym c.as_slice.ensures.value) in
    and_true _ _ _ (eq-eqb _ _ c.if-buckets-number.true) (c.ends_at_place.ensures ∙ ap (λ l. ends_there l (c.args.history.now ++ c.args.bytes.now) (length c.args.history.now + c.args.at)) (sym read))
