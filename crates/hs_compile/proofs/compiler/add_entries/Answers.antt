use Rattle.std.proofs.Common.{◌≡◌, ℕ, ◌<◌, List, [], length, map, Some, slice_get, get_or, refl, arith, subst, sym, ◌∙◌}
use Rattle.std.proofs.lemmas.Option.{slice_get_read}
use Rattle.std.proofs.lemmas.Result.{err_from_is_err_and}
use Rattle.hs_base.specs.declared.ext.Entry.{Entry}
use Rattle.hs_base.specs.Lists.{Each}
use Rattle.hs_kept.specs.Builders.{IsBuildable, IsPackedWith}
use Rattle.hs_pieces.specs.declared.piece.Chain.{Chain}
use Rattle.hs_pieces.specs.Meaning.{plain_chain}
use Rattle.hs_rose.specs.Listing.{plain_chains}
use Rattle.hs_rose.specs.Runnable.{AreRunnable}
use Rattle.hs_compile.specs.Counting.{AreCounts}
use Rattle.hs_compile.proofs.ListLemmas.{all-built, next-cause, next-number, so-far-none, step}
use Rattle.hs_compile.proofs.PackingLemmas.{chains-buildable}
use Rattle.hs_compile.proofs.SizeLemmas.{small-none}
use Rattle.hs_compile.proofs.compiler.add_entries.Goals as goal

-- the entry that is looked at
entry_at : (entries : List Entry) (i : ℕ) (entry : Entry) → i < length entries → entry ≡ get_or entries i entry → slice_get entries i ≡ Some entry
entry_at entries i entry within is = slice_get_read entries (length entries) i entry refl within is

pub loop-i-init : goal.loop-i-init
loop-i-init c =
    let are : AreCounts [] c.none-counts.result = record { named = c.none-counts.ensures.named; fields = c.none-counts.ensures.fields } in
    record {
      chains = [];
      far = so-far-none c.new-seen.result c.none-counts.result c.new-seen.ensures are (small-none c.none-counts.result are);
      built = c.new-builder.ensures;
      packed = c.new-packing.ensures;
    }

pub returns-in_err-own-clause-refused : goal.returns-in_err-own-clause-refused
returns-in_err-own-clause-refused c =
    let at = entry_at c.args.entries.now c.loop-i.i c.index-entries-i.result (omega arith) c.index-entries-i.is in
    let given = err_from_is_err_and c.from_residual.result c.from_residual.ensures.1 in
    rw (given.1, given.2)
    (next-cause c.args.entries.now c.loop-i.invariant.chains c.loop-i.i c.index-entries-i.result c.loop-i.seen c.loop-i.counts _ at c.loop-i.invariant.far c.in_err-own.ensures.refused)

pub add_entry-requires : goal.add_entry-requires
add_entry-requires c =
    let at = entry_at c.args.entries.now c.loop-i.i c.index-entries-i.result (omega arith) c.index-entries-i.is in
    let far = c.loop-i.invariant.far in
    let one = c.in_ok-own.ensures.compiled _ far.patterns (next-number c.args.entries.now c.loop-i.invariant.chains c.loop-i.i c.index-entries-i.result c.loop-i.seen c.loop-i.counts at far) in
    subst (λ (cs : List Chain). AreRunnable (map plain_chain cs)) (sym c.deref.ensures.value) one.runnable

pub add_chains-requires : goal.add_chains-requires
add_chains-requires c =
    let at = entry_at c.args.entries.now c.loop-i.i c.index-entries-i.result (omega arith) c.index-entries-i.is in
    let far = c.loop-i.invariant.far in
    let one = c.in_ok-own.ensures.compiled _ far.patterns (next-number c.args.entries.now c.loop-i.invariant.chains c.loop-i.i c.index-entries-i.result c.loop-i.seen c.loop-i.counts at far) in
    subst (λ (cs : List Chain). Each (Each IsBuildable) (map plain_chain cs)) (sym c.deref-in-loop-i.ensures.value) (chains-buildable (plain_chains c.in_ok-own.own) one.runnable.each)

pub loop-i-preserved : goal.loop-i-preserved
loop-i-preserved c =
    step c.args.entries.now c.loop-i.i c.index-entries-i.result c.in_ok-own.own c.deref.result.now c.loop-i.seen c.add.new.self c.loop-i.counts c.in_ok-own.next c.loop-i.builder c.add_entry.new.self c.loop-i.packing c.add_chains.new.self
    (entry_at c.args.entries.now c.loop-i.i c.index-entries-i.result (omega arith) c.index-entries-i.is) c.deref.ensures.value
    c.loop-i.invariant c.in_ok-own.ensures.compiled c.in_ok-add.ensures c.in_ok-add_entry.ensures
    (subst (λ (cs : List Chain). IsPackedWith c.loop-i.packing c.add_chains.new.self (map plain_chain cs)) (c.deref-in-loop-i.ensures.value ∙ sym c.deref.ensures.value) c.in_ok-add_chains.ensures)

pub returns-clause-built : goal.returns-clause-built
returns-clause-built c = all-built c.args.entries.now c.loop-i.i c.loop-i.seen c.loop-i.counts c.loop-i.builder c.loop-i.packing (omega arith) c.loop-i.invariant
