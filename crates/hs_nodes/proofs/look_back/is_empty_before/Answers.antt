use Rattle.std.proofs.Common.{◌≡◌, ◌↔◌, ◌++◌, Bool, true, ap, subst, sym, ◌∙◌}
use Rattle.std.specs.Prelude.{slice_index}
use Rattle.hs_base.specs.declared.context.Next.{Next}
use Rattle.hs_base.specs.Contexts.{class_of}
use Rattle.hs_base.specs.Leaving.{IsEmptyAt}
use Rattle.hs_nodes.proofs.LookLemmas.{no-mask}
use Rattle.hs_nodes.proofs.look_back.is_empty_before.Goals as goal

pub returns-then-is_some : goal.returns-then-is_some
returns-then-is_some c tree u null stands =
    subst (λ (next : Next). (c.is_empty_between.result ≡ true) ↔ IsEmptyAt tree u next) (c.class_of.ensures ∙ ap class_of c.byte_at.ensures) (c.is_empty_between.ensures tree u null (c.prev_behind.ensures ∙ stands))

pub returns-else-is_some : goal.returns-else-is_some
returns-else-is_some c tree u null stands =
    let next : Next = class_of (slice_index (c.args.chunk.now.past.now ++ c.args.chunk.now.bytes.now) c.args.place) in
    subst (λ (b : Bool). (b ≡ true) ↔ IsEmptyAt tree u next) (sym c.if-is_some.false) (no-mask c.args.null tree u next (sym c.is_some.ensures ∙ c.if-is_some.false) null)
