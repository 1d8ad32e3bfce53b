use Rattle.std.proofs.Common.{ℕ, List, length, refl, sym, subst, ap, arith}
use Rattle.hs_outside.specs.Store.{Begins}
use Rattle.hs_outside.proofs.Viewing.{Begins-nothing, ReadsAt-again, IsFile-read}
use Rattle.hs_outside.proofs.transfer.read_file.Goals as goal

pub loop-bytes-init : goal.loop-bytes-init
loop-bytes-init g c = let told = g.S.Store.told c.args.store.now c.args.name.now in record {
  begins = subst (λ (seen : List ℕ). Begins told seen) (sym c.new-bytes.ensures.items) (Begins-nothing told);
  within = omega (arith, ap length c.new-bytes.ensures.items);
  told = refl;
  counted = refl;
}

pub returns-in-Ok-eq0-clause-whole : goal.returns-in-Ok-eq0-clause-whole
returns-in-Ok-eq0-clause-whole g c = IsFile-read _ c.loop-bytes.bytes.items c.len.result _ _ _ c.loop-bytes.invariant.begins (omega arith) (ReadsAt-again _ _ _ _ _ _ _ c.loop-bytes.invariant.told c.in-Ok-eq0.ensures.given) c.in-Ok-eq0.field-0-test (omega arith)
