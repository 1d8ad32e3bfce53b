use Rattle.std.proofs.Common.{refl, sym, ◌∙◌}
use Rattle.hs_scan.proofs.ScratchLemmas.{new-idle}
use Rattle.hs_scan.proofs.scratch.Scratch.new.Goals as goal

pub returns-clause-idle : goal.returns-clause-idle
returns-clause-idle g c =
    new-idle _ c.len-nodes.result c.len-identifiers.result c.count-count.result
    (c.in_ok-vec.ensures.items_if_clones_equal (λ y is. is))
    (c.in_ok-vec-2.ensures.items_if_clones_equal (λ y is. is))
    c.in_ok-new.ensures.count_is
    c.in_ok-new-4.ensures
    c.in_ok-new-5.ensures
    (sym c.in_ok-vec-3.field-0.ok.0 ∙ (c.in_ok-vec-3.ensures.len ∙ c.word_count_for.ensures))
    refl
