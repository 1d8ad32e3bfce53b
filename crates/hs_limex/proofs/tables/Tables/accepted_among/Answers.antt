use Rattle.std.proofs.Common.{◌≡◌, ◌∙◌, true, sym, ap, subst, inl, inr, arith}
use Rattle.std.proofs.lemmas.Bool.{cases_lt}
use Rattle.hs_base.specs.Bits.{has_bit, has_word_bit}
use Rattle.hs_base.specs.Contexts.{next_number}
use Rattle.hs_base.specs.ContextSets.{has_next}
use Rattle.hs_base.proofs.ContextLemmas.{of_either, left_of_either, right_of_either}
use Rattle.hs_base.proofs.ContextSetLemmas.{next_number-lt}
use Rattle.hs_limex.specs.Fitting.{AcceptsIn}
use Rattle.hs_limex.specs.TableMoves.{moves_of_tables}
use Rattle.hs_limex.specs.Numbers.{next_numbered}
use Rattle.hs_limex.proofs.LimexLemmas.{accepts-as, next-named}
use Rattle.hs_limex.proofs.PlainLemmas.{true-false}
use Rattle.hs_limex.proofs.tables.Tables.accepted_among.Goals as goal

pub loop-number-init : goal.loop-number-init
loop-number-init g c = record {
  sound = λ next told. true-false (has_next c.empty-all.result next) told (c.empty-all.ensures next);
  whole = λ next below. absurd (omega arith);
}

pub loop-number-preserved : goal.loop-number-preserved
loop-number-preserved g c =
    let all = c.loop-number.all in
    let more = c.accepted_before.result in
    record {
      sound = λ next told.
          elim (of_either (has_next all next) (has_next more next) (sym (c.union-all.ensures next) ∙ told)) [
            | inl old ↦ c.loop-number.invariant.sound next old
            | inr new ↦ c.accepted_before.ensures.sound next new
          ];
      whole = λ next below accepts.
          c.union-all.ensures next
          ∙ elim (cases_lt (next_number next) c.loop-number.number) [
            | inl before ↦ left_of_either (has_next all next) (has_next more next) (c.loop-number.invariant.whole next before accepts)
            | inr here ↦
                let number : c.loop-number.number ≡ next_number next = omega arith in
                let same : c.next_of.result ≡ next = c.next_of.ensures ∙ (ap next_numbered number ∙ next-named next) in
                right_of_either (has_next all next) (has_next more next)
                (subst (λ n. has_next more n ≡ true) same
                (c.accepted_before.ensures.whole (subst (λ n. AcceptsIn (moves_of_tables c.args.self.now) (has_word_bit c.load_row-live.result) (record { prev = c.args.prev; next = n })) (sym same) accepts)))
          ];
    }

pub returns-clause-sound : goal.returns-clause-sound
returns-clause-sound g c next told =
    accepts-as (moves_of_tables c.args.self.now) (has_word_bit c.load_row-live.result) (has_bit c.args.region.now) (record { prev = c.args.prev; next = next }) c.load_row-live.ensures.bits
    (c.loop-number.invariant.sound next told)

pub returns-clause-whole : goal.returns-clause-whole
returns-clause-whole g c next accepts =
    c.loop-number.invariant.whole next (omega (arith, next_number-lt next))
    (accepts-as (moves_of_tables c.args.self.now) (has_bit c.args.region.now) (has_word_bit c.load_row-live.result) (record { prev = c.args.prev; next = next })
    (λ x. sym (c.load_row-live.ensures.bits x)) accepts)
