use Rattle.std.proofs.Common.{ℕ, ◌≡◌, ◌<◌, ◌∷◌, [], ◌++◌, true, set, slice_index, subst, sym, ap, ◌∙◌, arith}
use Rattle.hs_base.specs.WrittenOut.{write_out}
use Rattle.hs_dfa.specs.DfaEngines.{IsNumberOf, next_number}
use Rattle.hs_dfa.proofs.DfaLemmas.{one-set, step-number}
use Rattle.hs_dfa.proofs.dfa.DfaEngine.step.Goals as goal

pub returns-clause-takes : goal.returns-clause-takes
returns-clause-takes g c tree u entered is len at prev field =
    let d = c.args.self.now in
    let region = c.args.region.now in
    let b : ℕ = c.args.byte in
    let small : b < 256 = omega arith in
    let region_is : next_number d (slice_index region 0) b ∷ [] ≡ set region 0 c.next.result =
    ap (λ n. n ∷ []) (sym c.next.ensures.next) ∙ sym (one-set region c.next.result c.requires.len) in
    subst (IsNumberOf (write_out tree) d.has_assertion (u ++ b ∷ []) (entered ++ true ∷ [])) region_is (step-number d tree is u entered len region field b small)
