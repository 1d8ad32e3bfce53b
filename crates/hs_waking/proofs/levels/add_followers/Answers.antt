use Rattle.std.proofs.Common.{◌≡◌, true}
use Rattle.hs_base.specs.Bits.{has_word_bit}
use Rattle.hs_engine.specs.Rows.{in_row}
use Rattle.hs_waking.proofs.LevelLemmas.{of-prev}
use Rattle.hs_waking.proofs.levels.add_followers.Goals as goal

pub returns-clause-added : goal.returns-clause-added
returns-clause-added c y h =
    of-prev (λ here. in_row c.args.follows.now c.args.position y here ≡ true → has_word_bit c.add_behind-4.new.level y ≡ true)
    (λ n is. c.add_behind-4.ensures.kept y (c.add_behind-3.ensures.kept y (c.add_behind-2.ensures.kept y (c.add_behind.ensures.added y n is))))
    (λ n is. c.add_behind-4.ensures.kept y (c.add_behind-3.ensures.kept y (c.add_behind-2.ensures.added y n is))) (λ n is. c.add_behind-4.ensures.kept y (c.add_behind-3.ensures.added y n is))
    (λ n is. c.add_behind-4.ensures.added y n is) h
