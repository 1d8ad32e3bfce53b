use Rattle.std.proofs.Common.{◌≡◌, take, get_or, true, false, List, sym, ap, subst, ◌∙◌, [], ◌∷◌, ◌++◌, arith}
use Rattle.hs_base.specs.Lists.{IsMember}
use Rattle.hs_base.specs.Told.{Pair}
use Rattle.hs_base.specs.declared.entry.Report.{Report}
use Rattle.hs_plain.specs.PlainPatterns.{pair_of, pairs_of, KeepsPairs}
use Rattle.hs_plain.proofs.PairLemmas.{pairs-take, keeps-push, keeps-other, keeps-whole}
use Rattle.hs_plain.proofs.report_list.new_of.Goals as goal
use Rattle.hs_plain.proofs.report_list.new_of.Goals.{then-not-is_among+in_ok-push, else-not-is_among}

abbrev none : Report
none = record { id = record { 0 = 0 }; to = 0 }

pub loop-i-preserved : goal.loop-i-preserved
loop-i-preserved c =
    let after = c.args.after.now in
    let i = c.loop-i.i in
    let r = get_or after i none in
    let Q : Pair → Type 0 = λ p. IsMember p (pairs_of c.args.before.now) → ⊥ in
    let ps : List Pair = pairs_of (take i after) in
    subst (λ all. KeepsPairs Q all (pairs_of c.if-not-is_among.new.items)) (sym (pairs-take after i none c.loop-i-test.true))
    (elim c.if-not-is_among.branch [
      | then-not-is_among+in_ok-push w ↦
          keeps-push Q ps c.loop-i.new.items c.if-not-is_among.new.items r (ap (λ v. v.items) w.new-is ∙ w.in_ok-push.ensures.items)
          (λ member.
          let is : c.is_among.result ≡ true = c.is_among.ensures.1 member in
          let not : c.is_among.result ≡ false = w.if-not-is_among.true in
          cc)
          c.loop-i.invariant
      | else-not-is_among w ↦
          subst (λ kept. KeepsPairs Q (ps ++ pair_of r ∷ []) kept) (sym (ap (λ v. pairs_of v.items) w.new-is))
          (keeps-other Q ps (pairs_of c.loop-i.new.items) (pair_of r) (λ not. not (c.is_among.ensures.0 w.if-not-is_among.false)) c.loop-i.invariant)
    ])

pub returns : goal.returns
returns c =
    keeps-whole (λ p. IsMember p (pairs_of c.args.before.now) → ⊥) c.args.after.now c.loop-i.i (pairs_of c.loop-i.new.items) (omega arith) c.loop-i.invariant
