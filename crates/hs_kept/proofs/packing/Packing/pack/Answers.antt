use Rattle.std.proofs.Common.{◌++◌, ℕ, take, ◌≡◌, ◌≤◌, List, [], drop, length, arith, ap, ◌∙◌}
use Rattle.std.proofs.lemmas.List.{drop_all, take_rest}
use Rattle.hs_kept.proofs.WritingLemmas.{end-written}
use Rattle.hs_kept.proofs.FieldLemmas.{apart-within}
use Rattle.hs_kept.proofs.CopyLemmas.{packed-all}
use Rattle.hs_kept.proofs.packing.Packing.pack.Goals as goal

pub returns : goal.returns
returns c =
    let fs = c.args.self.now.fields.items in
    let first = c.loop-first.first in
    let at = c.loop-first.at in
    let place = c.loop-first.place in
    let region = c.args.region.now in
    let kept = c.loop-first.kept in
    let so_far = c.loop-first.invariant.so_far in
    let none : drop first fs ≡ [] = drop_all first fs (omega (arith, c.loop-first-test.false, c.len.ensures)) in
    let apart : (place ≤ c.args.self.now.size) × (at ≤ c.args.self.now.region_size) = apart-within (drop first fs) at place _ _ so_far.left.apart in
    let within : place ≤ length kept = omega (arith, apart.0, so_far.len) in
    let is = end-written kept c.copy_from_slice.new.self place within ∙ ap (λ (l : List ℕ). take place kept ++ l) (c.copy_from_slice.ensures.after ∙ take_rest region at) in
    packed-all c.args.self.now (drop first fs) at place region c.prev_behind-prev.result kept _ none c.requires.region so_far.len so_far.left.apart c.prev_behind-prev.ensures so_far.packed is
