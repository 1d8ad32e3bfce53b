use Rattle.std.proofs.Common.{◌≡◌, ℕ, suc, ◌+◌, length, Some, slice_get, sym, ap, subst, ◌∙◌, arith}
use Rattle.std.proofs.lemmas.Option.{get_or_from_slice_get}
use Rattle.hs_base.specs.Regions.{fields_at, sums_from}
use Rattle.hs_base.proofs.SumLemmas.{sums-first, sums-next}
use Rattle.hs_rose.specs.declared.role.Role.{Role}
use Rattle.hs_rose.specs.Identifiers.{singles_of}
use Rattle.hs_rose.proofs.ListLemmas.{get-map}
use Rattle.hs_run.specs.Programs.{sizes_of}
use Rattle.hs_run.proofs.LayingLemmas.{laid-above, laid-whole}
use Rattle.hs_run.proofs.LayoutLemmas.{there}
use Rattle.hs_run.proofs.laying.region_size.Goals as goal

pub loop-role-init : goal.loop-role-init
loop-role-init c =
    let first = fields_at (length (singles_of c.args.program.now.identifiers)) (length c.args.program.now.identifiers) in
    let at : first ≡ c.header_size-size.result = sym (c.header_size-size.ensures.is ∙ ap (λ xs. fields_at (length (singles_of xs)) (length xs)) c.identifiers.ensures) in
    record {
      size = sums-first first (sizes_of c.args.program.now.roles) ∙ ap (λ n. Some n) at;
      few = omega (arith, c.header_size-size.ensures.few);
    }

pub loop-role-preserved : goal.loop-role-preserved
loop-role-preserved c =
    let k : ℕ = c.loop-role.role-index in
    let rs = c.roles-role-items.result.now in
    let first = fields_at (length (singles_of c.args.program.now.identifiers)) (length c.args.program.now.identifiers) in
    let sizes = sizes_of c.args.program.now.roles in
    let (r, at) = there rs k c.loop-role-test.true in
    let size : c.field_size-size.result ≡ r.field_size = c.field_size-size.ensures.is ∙ ap (λ (q : Role). q.field_size) (get_or_from_slice_get rs k r _ at) in
    let own : slice_get sizes k ≡ Some r.field_size = get-map (λ (q : Role). q.field_size) c.args.program.now.roles k r (subst (λ xs. slice_get xs k ≡ Some r) c.roles-role-items.ensures.roles at) in
    let next : suc k ≡ k + 1 = omega arith in
    record {
      size = subst (λ n. slice_get (sums_from first sizes) n ≡ Some (c.loop-role.size + c.field_size-size.result)) next
          (sums-next first sizes k c.loop-role.size r.field_size c.loop-role.invariant.size own ∙ ap (λ n. Some (c.loop-role.size + n)) (sym size));
      few = omega (arith, c.if-size-gt-MAX_SIZE.false, c.field_size-size.ensures.small);
    }

pub returns-then-size-gt-MAX_SIZE : goal.returns-then-size-gt-MAX_SIZE
returns-then-size-gt-MAX_SIZE c = omega (arith, c.if-size-gt-MAX_SIZE.true, laid-above c.args.program.now c.loop-role.role-index c.loop-role.size c.loop-role.invariant.size)

pub returns-then-size-gt-MAX_SIZE-2 : goal.returns-then-size-gt-MAX_SIZE-2
returns-then-size-gt-MAX_SIZE-2 c = omega (arith, c.if-size-gt-MAX_SIZE-2.true, laid-above c.args.program.now c.loop-role.role-index c.loop-role.size c.loop-role.invariant.size)

pub returns-else-size-gt-MAX_SIZE-2 : goal.returns-else-size-gt-MAX_SIZE-2
returns-else-size-gt-MAX_SIZE-2 c =
    let count : length c.roles-role-items.result.now ≡ length c.args.program.now.roles = ap length c.roles-role-items.ensures.roles in
    (laid-whole c.args.program.now c.loop-role.role-index c.loop-role.size (omega (arith, count, c.loop-role-test.false, c.loop-role.auto.role-index-end)) c.loop-role.invariant.size, c.if-size-gt-MAX_SIZE-2.false)
