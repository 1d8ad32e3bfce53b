use Rattle.std.proofs.Common.{rules, ◌++◌, ◌+◌, length, get_or, refl, ap, subst, arith}
use Rattle.hs_confirm.specs.Entries.{number_ends}
use Rattle.hs_confirm.specs.Heads.{IsFirstPassing}
use Rattle.hs_confirm.proofs.HeadLemmas.{left_behind-told, left_behind-none}
use Rattle.hs_confirm.proofs.place_ends.PlaceEndsIterator.next.Goals as goal

pub returns-then-number-len-clause-steps : goal.returns-then-number-len-clause-steps
returns-then-number-len-clause-steps c =
    let ends = c.args.self.now in
    let confirm = ends.confirm.now in
    let none = left_behind-none confirm.widths confirm.entries.items ends.heads (ends.history.now ++ ends.bytes.now) (length ends.history.now + ends.at) c.least_bucket-bucket.result confirm.keyed c.least_bucket-bucket.ensures.least (omega (arith, c.if-number-len.true, c.len.ensures, confirm.entries.ok.0)) in
    (none, none)

pub returns-clause-steps : goal.returns-clause-steps
returns-clause-steps c =
    let ends = c.args.self.now in
    let confirm = ends.confirm.now in
    left_behind-told confirm.widths confirm.entries.items ends.heads (ends.history.now ++ ends.bytes.now) (length ends.history.now + ends.at) c.least_bucket-bucket.result _ c.head_behind.result confirm.keyed ends.eight ends.ends c.least_bucket-bucket.ensures.within refl
    (omega (arith, c.if-number-len.false, c.len.ensures, confirm.entries.ok.0)) c.least_bucket-bucket.ensures.least
    (subst (λ count. IsFirstPassing (number_ends confirm.entries.items c.least_bucket-bucket.result (ends.history.now ++ ends.bytes.now) (length ends.history.now + ends.at)) (get_or ends.heads c.least_bucket-bucket.result 0 + 1) count c.head_behind.result) confirm.entries.ok.0 c.head_behind.ensures)

pub returns-clause-goes : goal.returns-clause-goes
returns-clause-goes c =
    let e = returns-clause-steps c in
    let fewer = ap length e in
    search rules
