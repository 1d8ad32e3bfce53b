use Rattle.std.proofs.Common.{◌≡◌, ◌+◌, ◌++◌, ◌∙◌, List, length, map, ap, subst, sym, arith, length-append}
use Rattle.std.proofs.lemmas.List.{length-map}
use Rattle.hs_base.specs.Literals.{LiteralByte}
use Rattle.hs_base.specs.LiteralView.{literal_byte}
use Rattle.hs_confirm.specs.BucketEnds.{AreBucketEnds}
use Rattle.hs_confirm.proofs.PlainLemmas.{filter-in, filter-out, plain-exact}
use Rattle.hs_confirm.proofs.plain.plain_ends.Goals as goal
use Rattle.hs_confirm.proofs.plain.plain_ends.Goals.{then-is_bucket_end+in_ok-push, else-is_bucket_end}

pub loop-number-preserved : goal.loop-number-preserved
loop-number-preserved c =
    elim c.if-is_bucket_end.branch [
      | then-is_bucket_end+in_ok-push w ↦ ap (λ v. v.items) w.numbers-is ∙ w.in_ok-push.ensures.items ∙ filter-in _ c.loop-number.numbers.items c.loop-number.number c.loop-number.invariant (sym c.is_bucket_end.ensures ∙ w.if-is_bucket_end.true)
      | else-is_bucket_end w ↦ ap (λ v. v.items) w.numbers-is ∙ filter-out _ c.loop-number.numbers.items c.loop-number.number c.loop-number.invariant (sym c.is_bucket_end.ensures ∙ w.if-is_bucket_end.false)
    ]

pub returns : goal.returns
returns c =
    let literals : List (List LiteralByte) = map (λ l. map literal_byte l.items) c.args.literals.now in
    let same : length literals ≡ length c.args.literals.now = length-map c.args.literals.now (λ l. map literal_byte l.items) in
    subst (λ numbers. AreBucketEnds literals c.args.buckets.now c.args.bucket (c.args.history.now ++ c.args.bytes.now) (length c.args.history.now + c.args.at) numbers) (sym c.loop-number.invariant)
    (plain-exact literals c.args.buckets.now c.args.bucket _ _ c.loop-number.number (c.requires.each ∙ sym same) (omega (arith, length-append c.args.history.now c.args.bytes.now, c.requires.within)) (omega arith))
