use Rattle.std.proofs.Common.{◌<◌, length, inl, inr, sym, ap, subst, ◌∙◌, refl, arith, length-set}
use Rattle.std.proofs.lemmas.Option.{slice_get-get_or, slice_get_within}
use Rattle.hs_lazy.specs.declared.dfa.LazyDfa.{LazyDfa}
use Rattle.hs_lazy.specs.declared.parts.Run.{Run}
use Rattle.hs_lazy.specs.Walks.{IsChunkTaken}
use Rattle.hs_lazy.proofs.ListLemmas.{get-set}
use Rattle.hs_lazy.proofs.ToldLemmas.{images-set, members-set, sound-set}
use Rattle.hs_lazy.proofs.running.run_all.Goals as goal

pub run_dfa-requires-clause-sound : goal.run_dfa-requires-clause-sound
run_dfa-requires-clause-sound g c =
    let low : c.loop-at.at < length c.loop-at.list = omega (arith, c.loop-at-test.true, c.min-at-end.ensures, c.loop-at.invariant.len) in
    c.loop-at.invariant.sound c.loop-at.at _ (slice_get-get_or c.loop-at.list c.loop-at.at c.index-list-at.result low)

pub loop-at-preserved : goal.loop-at-preserved
loop-at-preserved g c =
    let low : c.loop-at.at < length c.loop-at.list = omega (arith, c.loop-at-test.true, c.min-at-end.ensures, c.loop-at.invariant.len) in
    let low-run : c.loop-at.at < length c.loop-at.runs = omega (arith, c.loop-at-test.true, c.min-at-end.ensures, c.loop-at.invariant.runs_len) in
    record {
      len = length-set c.loop-at.list c.loop-at.at c.run_dfa.new.dfa ∙ c.loop-at.invariant.len;
      runs_len = length-set c.loop-at.runs c.loop-at.at c.run_dfa.new.run ∙ c.loop-at.invariant.runs_len;
      sound = sound-set g.E.Engine.meaning c.args.engines.now c.loop-at.list c.loop-at.at c.run_dfa.new.dfa low c.run_dfa.ensures.sound c.loop-at.invariant.sound;
      members = λ i k. members-set c.loop-at.list c.loop-at.at _ c.run_dfa.new.dfa low (slice_get-get_or c.loop-at.list c.loop-at.at c.index-list-at.result low) c.run_dfa.ensures.members i k ∙ c.loop-at.invariant.members i k;
      images = images-set c.args.runs.now c.loop-at.runs c.loop-at.at _ c.run_dfa.new.run low-run (slice_get-get_or c.loop-at.runs c.loop-at.at _ low-run) c.run_dfa.ensures.image c.loop-at.invariant.images;
      taken = λ i dfa run below d r done. elim (get-set c.loop-at.list c.loop-at.at c.run_dfa.new.dfa i dfa low d) [
        | inl (here, what) ↦ elim (get-set c.loop-at.runs c.loop-at.at c.run_dfa.new.run i run low-run r) [
          | inl (here', what') ↦
              subst (λ (x : LazyDfa). IsChunkTaken x.states.items x.rows.items x.ends.items run c.args.prev c.args.bytes.now) (sym what)
              (subst (λ (x : Run). IsChunkTaken c.run_dfa.new.dfa.states.items c.run_dfa.new.dfa.rows.items c.run_dfa.new.dfa.ends.items x c.args.prev c.args.bytes.now) (sym what')
              (c.run_dfa.ensures.taken (ap (λ (x : Run). x.is_done) (sym what') ∙ done)))
          | inr (other, was) ↦ absurd (other here)
        ]
        | inr (other, was) ↦ elim (get-set c.loop-at.runs c.loop-at.at c.run_dfa.new.run i run low-run r) [
          | inl (here', what') ↦ absurd (other here')
          | inr (other', was') ↦ c.loop-at.invariant.taken i dfa run (omega (arith, below, other)) was was' done
        ]
      ];
    }

pub returns-clause-taken : goal.returns-clause-taken
returns-clause-taken g c i dfa run d r done =
    c.loop-at.invariant.taken i dfa run
    (omega (arith, slice_get_within c.loop-at.list i dfa d, slice_get_within c.loop-at.runs i run r, c.loop-at-test.false, c.min-at-end.ensures, c.loop-at.invariant.len, c.loop-at.invariant.runs_len)) d r done

pub loop-at-init : goal.loop-at-init
loop-at-init g c = record {
  len = refl;
  runs_len = refl;
  sound = c.requires.sound;
  members = λ i k. refl;
  images = λ i run is. (run, is, refl);
  taken = λ i dfa run low d r done. absurd (omega (arith, low));
}
