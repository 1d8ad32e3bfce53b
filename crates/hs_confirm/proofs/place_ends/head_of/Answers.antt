use Rattle.std.proofs.Common.{◌++◌, ◌+◌, ◌∙◌, length, sym, ap, subst, arith}
use Rattle.std.specs.Option.{unwrap_or}
use Rattle.hs_confirm.specs.Left.{ends_left}
use Rattle.hs_confirm.specs.Entries.{number_ends}
use Rattle.hs_confirm.specs.Heads.{IsFirstPassing}
use Rattle.hs_confirm.proofs.HeadLemmas.{first_or, first_or-next, first_end}
use Rattle.hs_confirm.proofs.place_ends.head_of.Goals as goal

pub returns : goal.returns
returns c =
    let entries = c.args.confirm.now.entries in
    let text = c.args.history.now ++ c.args.bytes.now in
    let offset = length c.args.history.now + c.args.at in
    let first = first_or-next c.next.result (ends_left c.with_key.result) (ends_left c.next.new.self) (length entries.items) c.next.ensures.steps in
    subst (λ count. IsFirstPassing (number_ends entries.items c.args.bucket text offset) 0 count c.unwrap_or.result) (sym entries.ok.0)
    (first_end entries.items c.args.bucket text offset 0 c.unwrap_or.result (omega arith)
    (c.unwrap_or.ensures ∙ ap (unwrap_or c.next.result) (c.len.ensures ∙ entries.ok.0) ∙ first ∙ ap (λ xs. first_or xs (length entries.items)) c.with_key.ensures.left))
