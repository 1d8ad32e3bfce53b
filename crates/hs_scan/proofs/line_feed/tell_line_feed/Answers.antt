use Rattle.std.proofs.Common.{◌≡◌, ◌+◌, ◌*◌, ◌++◌, length, take, drop, sym, ap, subst, ◌∙◌, arith}
use Rattle.hs_base.specs.Lists.{Each, IsMember}
use Rattle.hs_nodes.specs.Blocks.{block}
use Rattle.hs_reports.specs.Identifiers.{id_numbers, numbers_of}
use Rattle.hs_reports.specs.Settlement.{SettlesBlock}
use Rattle.hs_reports.specs.Tellings.{pairs_of_tellings}
use Rattle.hs_scan.specs.Telling.{TellsBlock}
use Rattle.hs_nodes.specs.Gathering.{AreGathered}
use Rattle.hs_keeping.specs.Leaving.{AreLeftByLineFeed}
use Rattle.hs_scan.specs.Writing.{LeavesLineFeed}
use Rattle.hs_scan.proofs.BlockLemmas.{block-tells}
use Rattle.hs_nodes.proofs.FillLemmas.{whole}
use Rattle.hs_scan.proofs.LineFeedLemmas.{block-first, line_feed-leaves}
use Rattle.hs_scan.proofs.line_feed.tell_line_feed.Goals as goal

pub returns-clause-told : goal.returns-clause-told
returns-clause-told g c =
    let m = g.E.Engine.meaning in
    let graph = c.args.graph.now in
    let chunk = c.args.chunk.now in
    let bytes = chunk.bytes.now in
    let s = c.args.scratch.now in
    let known = s.course.known in
    let then = c.settle.new.self in
    let table = c.gather_block.new.table in
    let all = c.args.all.now in
    let ids_is : c.deref-3.result.now ≡ graph.identifiers.items = c.deref-3.ensures.value in
    let one : length bytes ≡ 1 = ap length c.requires.bytes in
    let size : length (block bytes 0) ≡ 1 = ap length (block-first bytes (omega (arith, one))) ∙ one in
    let at_is : chunk.at ≡ chunk.at + 64 * 0 = omega arith in
    let gathered = subst (λ es. AreGathered m graph es all chunk.at 0 (length graph.table.nodes.items + 1) table) c.deref.ensures.value c.gather_block.ensures.gathered in
    record {
      pairs = pairs_of_tellings then.tellings chunk.at 1;
      through = c.tell.ensures;
      holds =
          subst (λ n. TellsBlock m graph bytes chunk.at s.ends.items all 0 known.told.items known.here.items then.told.items then.here.items (pairs_of_tellings then.tellings n 1)) (sym at_is)
          (block-tells m graph c.requires.sound bytes chunk.at s.ends.items all known.told.items known.here.items then.told.items then.here.items 0 table then.tellings 1
          (omega arith) (omega (arith, one)) size (omega (arith, size)) gathered (subst (λ xs. SettlesBlock xs 1 table known.told.items known.here.items then.told.items then.here.items then.tellings) ids_is c.settle.ensures.settled.settles)
          (subst (λ xs. Each (λ id. IsMember id (numbers_of xs)) (id_numbers then.tellings.ids)) ids_is c.settle.ensures.settled.named)
          (λ p set. c.gather_block.ensures.noted p (c.requires.pending.pending p set)) c.settle.ensures.settled.keeps);
    }

pub returns-clause-left : goal.returns-clause-left
returns-clause-left g c =
    let m = g.E.Engine.meaning in
    let graph = c.args.graph.now in
    let chunk = c.args.chunk.now in
    let s = c.args.scratch.now in
    let known = s.course.known in
    let table = c.gather_block.new.table in
    let all = c.args.all.now in
    let last = c.fill_last.new.last in
    let old_is : c.deref_mut.result.now ≡ s.last.items = c.deref_mut.ensures.value in
    let len : length last ≡ length s.last.items = c.fill_last.ensures.len ∙ ap length old_is in
    let now : take s.last.len (last ++ drop (length last) s.last.items) ≡ last = whole last s.last.items s.last.len len (omega (arith, s.last.ok)) in
    let gathered = subst (λ es. AreGathered m graph es all chunk.at 0 (length graph.table.nodes.items + 1) table) c.deref.ensures.value c.gather_block.ensures.gathered in
    subst (λ xs. LeavesLineFeed m graph chunk.bytes.now chunk.at s.ends.items all known.told.items known.here.items s.finals xs) (sym now)
    (line_feed-leaves m graph c.requires.sound chunk.bytes.now chunk.at s.ends.items all known.told.items known.here.items table s.finals last c.requires.bytes gathered
    (subst (λ xs. AreLeftByLineFeed xs known.told.items known.here.items table s.finals last) c.deref-2.ensures.value c.fill_last.ensures.left))
