use Rattle.std.proofs.Common.{◌≡◌, [], ℕ, false, List, Some, slice_get, get_or, ◌∙◌, refl, arith}
use Rattle.std.proofs.lemmas.Option.{slice_get_within, slice_get-get_or, slice_get_read}
use Rattle.hs_lazy.specs.declared.parts.Member.{Member}
use Rattle.hs_lazy.proofs.StepLemmas.{done-more}
use Rattle.hs_lazy.proofs.steps.take_members.Goals as goal

abbrev member : (members : List Member) (k : ℕ) → Member
member members k = get_or members k (record { number = 0; engine = 0; start = 0; end = 0; wakers = record { words = [] }; is_dropped = false })

pub loop-k-init : goal.loop-k-init
loop-k-init g c = record {
  len = c.requires.len;
  befores = c.requires.before_len;
  behinds = c.requires.behind_len;
  within = omega arith;
  done = λ j m e is there kept unasked. c.requires.others j m e is there kept (unasked (omega arith));
}

pub loop-k-preserved : goal.loop-k-preserved
loop-k-preserved g c =
    let m : Member = member c.args.members.now c.in-Some.k in
    let is : slice_get c.args.members.now c.in-Some.k ≡ Some m = slice_get-get_or c.args.members.now c.in-Some.k _ c.in-Some.ensures.high in
    let there : slice_get c.args.engines.now m.engine ≡ Some c.index-engines-member.result =
    slice_get_read c.args.engines.now _ m.engine _ refl (c.requires.of.there c.in-Some.k m is) c.index-engines-member.is in
    record {
      len = c.take_member.ensures.len ∙ c.loop-k.invariant.len;
      befores = c.write_word_bit.ensures.len ∙ c.loop-k.invariant.befores;
      behinds = c.write_word_bit-in-Some.ensures.len ∙ c.loop-k.invariant.behinds;
      within = omega (arith, c.in-Some.ensures.high);
      done = done-more g.E.Engine.meaning c.args.engines.now c.args.members.now c.args.old.now c.args.byte c.loop-k.image c.take_member.new.image c.loop-k.ends.before c.write_word_bit.new.words c.loop-k.ends.behind c.write_word_bit-in-Some.new.words c.args.asked.now c.loop-k.from c.in-Some.k m c.index-engines-member.result c.in-Some-take_member.own
          c.requires.apart is there c.take_member.ensures.others c.in-Some.ensures.least c.in-Some-take_member.ensures.takes c.write_word_bit.ensures.put c.write_word_bit-in-Some.ensures.put c.write_word_bit.ensures.others c.write_word_bit-in-Some.ensures.others
          c.loop-k.invariant.done;
    }

pub returns-clause-takes : goal.returns-clause-takes
returns-clause-takes g c told k m e is there kept = c.loop-k.invariant.done k m e is there kept (λ high. c.in_default.ensures k high (slice_get_within c.args.members.now k m is))
