use Rattle.hs_block.proofs.StreamRunLemmas.{words-run}
use Rattle.hs_block.proofs.streams.Streams.take.Goals as goal

pub returns : goal.returns
returns g c =
    let s = c.args.self.now in
    let count = c.args.count in
    let live = c.in_ok-live.live in (
      c.place_count.result,
      c.tick_by.ensures,
      words-run s c.args.setting.now.prev c.args.region.now c.args.setting.now.enters c.args.whole.now c.solve.new.words c.load.result c.args.setting.now.blank c.load.ensures.bits c.in_ok-live.ensures.settled
          c.keep.new.region count c.ends-ends.result c.busy_places-busy.result c.place_count.result c.requires.few c.requires.len c.requires.blank c.keep.ensures.none c.keep.ensures.some
          c.ends-ends.ensures.before c.ends-ends.ensures.behind c.busy_places-busy.ensures (c.place_count.ensures count c.requires.few),
    )
