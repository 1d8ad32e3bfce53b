use Rattle.std.proofs.Common.{◌≡◌, ℕ, ◌+◌, ◌-◌, get_or, ap, ◌∙◌, arith}
use Rattle.hs_scan.proofs.CopyLemmas.{field-copied}
use Rattle.hs_scan.proofs.copying.copy_field.Goals as goal

pub returns : goal.returns
returns g c =
    let old = c.args.region.now in
    let new = c.copy_within.new.self in
    let node = c.node_at-node.result in
    let place : ℕ = c.place.result in
    let by = c.copy_within.ensures.by_index in
    field-copied c.args.graph.now c.args.layout.now c.requires.fits c.args.copy node old new place c.requires.sound c.node_at-node.ensures c.requires.sized c.copy_within.ensures.len c.place.ensures.at
    (λ i low.
    let e : node.start + (place + i - place) ≡ node.start + i = omega arith in
    by.0 (place + i) 0 (omega arith) (omega (arith, low)) ∙ ap (λ n. get_or old n 0) e)
    (λ i low. by.1 i 0 low) (λ i high. by.2 i 0 high)
