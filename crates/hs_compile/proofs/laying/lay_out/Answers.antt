use Rattle.std.proofs.Common.{◌≡◌, ◌≤◌, ◌^◌, length, map, sym, ap, subst, ◌∙◌}
use Rattle.hs_base.specs.Regions.{region_size}
use Rattle.hs_layout.specs.Layouts.{layout_of as layout_for}
use Rattle.hs_rose.specs.declared.role.Role.{Role}
use Rattle.hs_rose.specs.Identifiers.{singles_of}
use Rattle.hs_rose.proofs.FinishLemmas.{ok-each}
use Rattle.hs_compile.specs.GraphTables.{program_layout}
use Rattle.hs_compile.proofs.DatabaseLemmas.{laid-sums}
use Rattle.hs_compile.proofs.laying.lay_out.Goals as goal

pub new-requires : goal.new-requires
new-requires c =
    let program = c.args.program.now in
    let singles : c.count_singles.result ≡ length (singles_of program.identifiers) = c.count_singles.ensures ∙ ap (λ xs. length (singles_of xs)) c.identifiers-identifiers.ensures in
    let ids : length c.identifiers-identifiers.result.now ≡ length program.identifiers = ap length c.identifiers-identifiers.ensures in
    let sizes : c.deref.result.now ≡ map (λ (r : Role). r.field_size) program.roles = c.deref.ensures.value ∙ (c.in_ok-sizes.ensures ∙ ap (λ rs. map (λ (r : Role). r.field_size) rs) c.roles.ensures.roles) in
    let whole : region_size (length (singles_of program.identifiers)) (length program.identifiers) (map (λ (r : Role). r.field_size) program.roles) ≤ 2 ^ 24 =
    subst (λ n. n ≤ 2 ^ 24) (laid-sums (length (singles_of program.identifiers)) (length program.identifiers) (map (λ (r : Role). r.field_size) program.roles)) c.requires.small in
    record {
      small = subst (λ n. region_size n (length c.identifiers-identifiers.result.now) c.deref.result.now ≤ 2 ^ 24) (sym singles)
          (subst (λ n. region_size (length (singles_of program.identifiers)) n c.deref.result.now ≤ 2 ^ 24) (sym ids)
          (subst (λ ns. region_size (length (singles_of program.identifiers)) (length program.identifiers) ns ≤ 2 ^ 24) (sym sizes) whole));
    }

pub returns : goal.returns
returns c =
    let program = c.args.program.now in
    let singles : c.count_singles.result ≡ length (singles_of program.identifiers) = c.count_singles.ensures ∙ ap (λ xs. length (singles_of xs)) c.identifiers-identifiers.ensures in
    let ids : length c.identifiers-identifiers.result.now ≡ length program.identifiers = ap length c.identifiers-identifiers.ensures in
    let sizes : c.deref.result.now ≡ map (λ (r : Role). r.field_size) program.roles = c.deref.ensures.value ∙ (c.in_ok-sizes.ensures ∙ ap (λ rs. map (λ (r : Role). r.field_size) rs) c.roles.ensures.roles) in
    let same : layout_for c.count_singles.result (length c.identifiers-identifiers.result.now) c.deref.result.now ≡ program_layout program =
    ap (λ n. layout_for n (length c.identifiers-identifiers.result.now) c.deref.result.now) singles
    ∙ (ap (λ n. layout_for (length (singles_of program.identifiers)) n c.deref.result.now) ids ∙ ap (λ ns. layout_for (length (singles_of program.identifiers)) (length program.identifiers) ns) sizes) in
    ok-each (λ l. l ≡ layout_for c.count_singles.result (length c.identifiers-identifiers.result.now) c.deref.result.now) (λ l. l ≡ program_layout program) c.new.result
    (λ l is. is ∙ same)
    c.new.ensures.laid
