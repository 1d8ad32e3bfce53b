use Rattle.std.proofs.Common.{◌≡◌, ℕ, ◌+◌, [], ◌∷◌, ◌++◌, ◌||◌, true, false, get_or, refl, sym, subst, ap, ◌∙◌, arith}
use Rattle.hs_base.specs.declared.context.Next.TheVariants as after
use Rattle.hs_base.specs.Contexts.{class_of}
use Rattle.hs_base.specs.ContextSets.{has_next}
use Rattle.hs_engine.specs.Engines.{TellsLeaves}
use Rattle.hs_bits.specs.WordBits.{word_bit}
use Rattle.hs_block.specs.Rests.{is_busy_at}
use Rattle.hs_block.proofs.RunLemmas.{run-more, bits-as, counts-bit, one-step}
use Rattle.hs_block.proofs.by_steps.Progress.take_byte.Goals as goal

pub returns-clause-runs : goal.returns-clause-runs
returns-clause-runs g c first prev ticks run =
    let m = g.E.Engine.meaning c.args.engine.now in
    let p = c.args.self.now in
    let b : ℕ = get_or c.args.bytes.now p.place 0 in
    let bit = word_bit c.args.enters p.place in
    let place : c.args.at + p.place + 1 ≡ c.args.at + (p.place + 1) = omega arith in
    let entered : has_next c.entering-enter.result (class_of b) ≡ bit = c.entering-enter.ensures (class_of b) ∙ c.contains_place.ensures in
    let counted : (m.always || has_next c.entering-enter.result (class_of b)) ≡ bit =
    ap (λ e. m.always || e) entered ∙ counts-bit m.always bit (λ always. c.requires.throughout always p.place c.requires.within) in
    run-more m first c.args.region.now c.step.new.region prev c.args.at c.args.enters c.args.bytes.now p ticks c.behind-self.result c.at_rest-self.result c.left_behind-self.result
    c.with_place-self.result c.with_place-self-2.result 1 run (record {
      within = c.requires.within;
      len = c.step.ensures.len;
      well = subst (λ n. m.well c.step.new.region n) place c.step.ensures.well;
      spent_is = one-step (is_busy_at c.args.region.now c.args.enters p.place) c.requires.busy;
      idle = λ rests. absurd (let e : true ≡ false = sym c.requires.busy ∙ rests in cc);
      takes = λ tree u entered is.
          subst (λ e. m.field c.step.new.region tree (u ++ b ∷ []) (entered ++ e ∷ [])) counted (c.step.ensures.takes tree u entered is.runs is.count is.offset is.behind is.field);
      behind_is = c.behind-self.ensures;
      left_is = subst (λ n. TellsLeaves m c.step.new.region c.behind-self.result n c.left_behind-self.result) place c.left_behind-self.ensures.leaves;
      rests_are = c.at_rest-self.ensures.zero;
      quiet = c.at_rest-self.ensures.quiet;
      silent = c.left_behind-self.ensures.silent;
      before_bits =
          bits-as c.with_place-self.result p.ends.before p.place c.is_left_before-ending.result p.left (class_of b) (class_of b) c.with_place-self.ensures c.is_left_before-ending.ensures refl;
      behind_bits =
          bits-as c.with_place-self-2.result p.ends.behind p.place c.contains-ended.result c.left_behind-self.result after.Unknown after.Unknown c.with_place-self-2.ensures c.contains-ended.ensures refl;
    })
