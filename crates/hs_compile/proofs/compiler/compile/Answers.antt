use Rattle.std.proofs.Common.{◌≤◌, map, subst, sym}
use Rattle.hs_kept.specs.declared.packing.Packing.{Packing}
use Rattle.hs_kept.specs.Packing.{IsPackingFor}
use Rattle.hs_layout.specs.Layouts.{laid_size}
use Rattle.hs_rose.specs.Listing.{asked_of, listed_chains}
use Rattle.hs_rose.specs.Plans.{plan_of}
use Rattle.hs_rose.specs.Programs.{IsProgramOf}
use Rattle.hs_rose.proofs.FinishLemmas.{built-numbered}
use Rattle.hs_compile.proofs.DatabaseLemmas.{compiled-few, database-compiled, program-for, program-small}
use Rattle.hs_compile.proofs.LengthLemmas.{encodable}
use Rattle.hs_compile.proofs.PackingLemmas.{built-for}
use Rattle.hs_compile.specs.Sizes.{greatest_size}
use Rattle.hs_compile.proofs.compiler.compile.Goals as goal

pub finish-requires-clause-few : goal.finish-requires-clause-few
finish-requires-clause-few c = let is = c.in_ok-builder.ensures.built in compiled-few c.args.entries.now is.patterns is.chains is.split

pub finish-requires-clause-numbered : goal.finish-requires-clause-numbered
finish-requires-clause-numbered c =
    let is = c.in_ok-builder.ensures.built in
    built-numbered c.in_ok-builder.builder (listed_chains (map asked_of c.args.entries.now) is.chains) is.built

pub digest-requires : goal.digest-requires
digest-requires c = let is = c.in_ok-builder.ensures.built in encodable _ is.patterns is.chains is.split

pub lay_out-requires : goal.lay_out-requires
lay_out-requires c =
    let is = c.in_ok-builder.ensures.built in
    record { small = program-small c.args.entries.now is.patterns is.chains is.split c.in_ok-program.program (c.in_ok-program.ensures is.chains is.split.runnable is.built) }

pub finish-requires-2 : goal.finish-requires-2
finish-requires-2 c =
    let is = c.in_ok-builder.ensures.built in
    let program : IsProgramOf c.in_ok-program.program (map asked_of c.args.entries.now) is.chains = c.in_ok-program.ensures is.chains is.split.runnable is.built in (
      plan_of c.in_ok-program.program is.patterns,
      built-for c.in_ok-program.program c.in_ok-builder.packing_builder c.in_ok-layout.layout is.patterns is.chains
          (program-for c.args.entries.now is.patterns is.chains is.split c.in_ok-program.program program) c.in_ok-layout.ensures is.split.chains_are is.packed,
    )

pub of_program-requires : goal.of_program-requires
of_program-requires c =
    let is = c.in_ok-builder.ensures.built in
    let program : IsProgramOf c.in_ok-program.program (map asked_of c.args.entries.now) is.chains = c.in_ok-program.ensures is.chains is.split.runnable is.built in
    let is_for = program-for c.args.entries.now is.patterns is.chains is.split c.in_ok-program.program program in
    record {
      packed = record {
        patterns = is.patterns;
        is_for = is_for;
        packs = c.in_ok-packing.ensures (plan_of c.in_ok-program.program is.patterns)
            (built-for c.in_ok-program.program c.in_ok-builder.packing_builder c.in_ok-layout.layout is.patterns is.chains is_for c.in_ok-layout.ensures is.split.chains_are is.packed);
      };
      laid = record {
        laid = c.in_ok-layout.ensures;
        small = subst (λ l. laid_size l ≤ greatest_size) (sym c.in_ok-layout.ensures) (program-small c.args.entries.now is.patterns is.chains is.split c.in_ok-program.program program);
      };
    }

pub returns-clause-compiled : goal.returns-clause-compiled
returns-clause-compiled c =
    let is = c.in_ok-builder.ensures.built in
    let program : IsProgramOf c.in_ok-program.program (map asked_of c.args.entries.now) is.chains = c.in_ok-program.ensures is.chains is.split.runnable is.built in
    let is_for = program-for c.args.entries.now is.patterns is.chains is.split c.in_ok-program.program program in
    database-compiled c.args.entries.now is.patterns is.chains is.split c.in_ok-program.program program c.in_ok-database.database c.in_ok-database.ensures.plans
    (subst (λ (p : Packing). IsPackingFor p (plan_of c.in_ok-program.program is.patterns)) (sym c.in_ok-database.ensures.packing)
    (c.in_ok-packing.ensures (plan_of c.in_ok-program.program is.patterns)
    (built-for c.in_ok-program.program c.in_ok-builder.packing_builder c.in_ok-layout.layout is.patterns is.chains is_for c.in_ok-layout.ensures is.split.chains_are is.packed)))
