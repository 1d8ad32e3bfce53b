use Rattle.std.proofs.Common.{◌≡◌, ◌+◌, ◌++◌, false, take, sym, ap, subst, ◌∙◌}
use Rattle.std.proofs.lemmas.List.{map-append}
use Rattle.hs_base.specs.Lists.{IsMember}
use Rattle.hs_base.specs.Told.{IsTold}
use Rattle.hs_plain.specs.PlainPatterns.{patterns_of, pair_of, pairs_of, KeepsPairs, AreReports}
use Rattle.hs_plain.proofs.ReportLemmas.{told-byte}
use Rattle.hs_plain.proofs.report_list.told.Goals as goal

pub loop-n-preserved : goal.loop-n-preserved
loop-n-preserved c =
    let P = patterns_of c.args.patterns.now in
    let w = c.args.stream.now in
    let n = c.loop-n.n in
    let told = c.loop-n.told.items in
    let before = c.loop-n.before.items in
    let after = c.in_ok-after.after.items in
    let new = c.in_ok-new.new.items in
    let reported : AreReports P (take (n + 1) w) false (pairs_of after) = c.in_ok-after.ensures in
    let kept : KeepsPairs (λ p. IsMember p (pairs_of before) → ⊥) (pairs_of after) (pairs_of new) =
    subst (λ xs. KeepsPairs (λ p. IsMember p (pairs_of xs) → ⊥) (pairs_of after) (pairs_of new)) c.deref.ensures.value
    (subst (λ xs. KeepsPairs (λ p. IsMember p (pairs_of c.deref.result.now) → ⊥) (pairs_of xs) (pairs_of new)) c.deref-in-loop-n.ensures.value c.in_ok-new.ensures) in
    let longer : c.extend_from_slice.new.self.items ≡ told ++ new = c.in_ok-extend_from_slice.ensures.items ∙ ap (λ xs. told ++ xs) c.deref-in-loop-n-2.ensures.value in
    let joined : pairs_of told ++ pairs_of new ≡ pairs_of c.extend_from_slice.new.self.items = sym (map-append pair_of told new) ∙ ap pairs_of (sym longer) in
    record {
      told =
          subst (IsTold P (take (n + 1) w)) joined
          (told-byte P w n (pairs_of told) (pairs_of before) (pairs_of after) (pairs_of new) c.loop-n-test.true c.loop-n.invariant.told c.loop-n.invariant.before reported kept);
      before = reported;
    }
