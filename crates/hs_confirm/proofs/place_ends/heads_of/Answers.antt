use Rattle.std.proofs.Common.{◌++◌, ◌+◌, ◌∙◌, length, get_or, set, replicate, sym, subst, length-set}
use Rattle.hs_confirm.specs.Entries.{number_ends}
use Rattle.hs_confirm.specs.Heads.{IsHead, IsFirstPassing, OutsideHave}
use Rattle.hs_confirm.proofs.HeadLemmas.{open-step, heads-first, heads-step}
use Rattle.hs_confirm.proofs.place_ends.heads_of.Goals as goal

pub loop-left-init : goal.loop-left-init
loop-left-init c =
    let entries = c.args.confirm.now.entries in
    let text = c.args.history.now ++ c.args.bytes.now in
    let offset = length c.args.history.now + c.args.at in
    let count = c.len-heads.result in
    let first = c.args.first in
    record {
      eight = length-set (replicate 8 count) c.from.result first.number;
      unmasked = c.requires.first.unmasked_left;
      heads = subst (λ b. OutsideHave (λ k. IsHead entries.items c.args.mask text offset k (get_or (set (replicate 8 count) b first.number) k 0)) first.left) (sym c.from.ensures)
          (heads-first entries.items c.args.mask text offset first.bucket first.number first.left count (c.len-heads.ensures ∙ entries.ok.0) c.requires.first);
    }

pub loop-left-preserved : goal.loop-left-preserved
loop-left-preserved c =
    let entries = c.args.confirm.now.entries in
    let text = c.args.history.now ++ c.args.bytes.now in
    let offset = length c.args.history.now + c.args.at in
    let l = c.loop-left in
    let bucket = c.lowest_bit-bucket.result in
    let low = c.lowest_bit-bucket.ensures.lowest in
    let (few, unmasked) = l.invariant.unmasked bucket low.is in
    let less = c.without_lowest_bit-left.result in
    let behind = c.without_lowest_bit-left.ensures.behind bucket low in
    let found = subst (λ count. IsFirstPassing (number_ends entries.items bucket text offset) 0 count c.head_of.result) entries.ok.0 c.head_of.ensures in
    record {
      eight = length-set l.heads c.from-in-loop-left.result c.head_of.result ∙ l.invariant.eight;
      unmasked = open-step c.args.mask l.left less bucket l.invariant.unmasked behind;
      heads = subst (λ b. OutsideHave (λ k. IsHead entries.items c.args.mask text offset k (get_or (set l.heads b c.head_of.result) k 0)) less) (sym c.from-in-loop-left.ensures)
          (heads-step entries.items c.args.mask l.heads text offset l.left less bucket c.head_of.result l.invariant.eight few unmasked found low behind l.invariant.heads);
    }
