use Rattle.std.proofs.Common.{◌∙◌, sym, ap}
use Rattle.std.proofs.lemmas.Option.{IfSome_then}
use Rattle.hs_compile.specs.Databases.{literals_in}
use Rattle.hs_kept.specs.Packing.{packed_size}
use Rattle.hs_literals.specs.Held.{held}
use Rattle.hs_rose.specs.PieceEngines.{piece_meaning}
use Rattle.hs_regions.specs.KeptFaults.{IsFirstFault}
use Rattle.hs_regions.specs.Packed.{IsWellPacked, RunsSomePacked}
use Rattle.hs_stream.proofs.RunningLemmas.{as-three, plan-packed, three-as, whole-packed}
use Rattle.hs_stream.proofs.running.region_fault.Goals as goal

pub first_fault-place-requires-clause-runs : goal.first_fault-place-requires-clause-runs
first_fault-place-requires-clause-runs c =
    as-three c.args.db.now c.graph.ensures.graph c.layout.ensures.layout c.packing.ensures.packing (λ x l p. RunsSomePacked piece_meaning x l p) (whole-packed c.args.db.now c.graph.ensures.whole)

pub first_fault-place-requires-clause-kept : goal.first_fault-place-requires-clause-kept
first_fault-place-requires-clause-kept c = c.requires.sized ∙ sym (ap packed_size c.packing.ensures.packing)

pub returns-clause-none : goal.returns-clause-none
returns-clause-none c = (
  λ is. three-as c.args.db.now c.graph.ensures.graph c.layout.ensures.layout c.packing.ensures.packing (λ x l p. IsWellPacked piece_meaning x l p c.args.kept.now) (c.first_fault-place.ensures.none.0 is),
  λ well.
      c.first_fault-place.ensures.none.1 (as-three c.args.db.now c.graph.ensures.graph c.layout.ensures.layout c.packing.ensures.packing (λ x l p. IsWellPacked piece_meaning x l p c.args.kept.now) well),
)

pub returns-clause-first : goal.returns-clause-first
returns-clause-first c =
    IfSome_then c.first_fault-place.result c.first_fault-place.ensures.first (λ place fault. record {
      whole = c.graph.ensures.whole;
      first = λ plan is.
          three-as c.args.db.now c.graph.ensures.graph c.layout.ensures.layout c.packing.ensures.packing (λ x l p. IsFirstFault piece_meaning x l p c.args.kept.now place) fault
          (held (literals_in c.args.db.now)) plan (plan-packed c.args.db.now plan is);
    })
