use Rattle.std.proofs.Common.{◌≡◌, length, ◌*◌, arith}
use Rattle.hs_glushkov.proofs.FollowLemmas.{put-cell}
use Rattle.hs_glushkov.proofs.follow_masks.FollowMasks.put.Goals as goal

pub returns-clause-follows : goal.returns-clause-follows
returns-clause-follows c =
    let len : length c.args.self.now.masks.items ≡ c.args.self.now.size * c.args.self.now.size = omega (arith, c.args.self.now.masks.ok.0, c.args.self.now.square) in
    put-cell c.args.self.now.masks.items c.args.self.now.size c.args.from c.args.to c.index.result.now c.union.result c.args.mask c.requires.from c.requires.to len c.index.ensures c.union.ensures
