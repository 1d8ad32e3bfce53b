use Rattle.std.proofs.Common.{◌≡◌, ◌+◌, ◌-◌, ◌*◌, ◌<◌, ℕ, length, sym, ap, subst, arith}
use Rattle.hs_base.specs.Lists.{Each, IsMember}
use Rattle.hs_nodes.specs.Blocks.{block}
use Rattle.hs_nodes.proofs.FlatLemmas.{length-block_of}
use Rattle.hs_reports.specs.Identifiers.{id_numbers, numbers_of}
use Rattle.hs_reports.specs.Settlement.{SettlesBlock}
use Rattle.hs_reports.specs.Tellings.{pairs_of_tellings}
use Rattle.hs_scan.proofs.BlockLemmas.{block-tells}
use Rattle.hs_scan.proofs.telling.tell_known.Goals as goal

pub overflow_sub-last : goal.overflow_sub-last
overflow_sub-last g c =
    let bytes = c.args.chunk.now.bytes.now in
    let some : 0 < length (block bytes c.args.number) = length-block_of bytes c.args.number 0 (omega arith) (omega (arith, c.requires.there)) in
    omega (arith, some, ap length c.block-own.ensures.bytes)

pub returns-clause-told : goal.returns-clause-told
returns-clause-told g c =
    let chunk = c.args.chunk.now in
    let bytes = chunk.bytes.now in
    let j : ℕ = c.args.number in
    let known = c.args.known.now in
    let then = c.settle.new.self in
    let ids_is : c.deref.result.now ≡ c.args.graph.now.identifiers.items = c.deref.ensures.value in
    let some : 0 < length (block bytes j) = length-block_of bytes j 0 (omega arith) (omega (arith, c.requires.there)) in
    let own = c.block-own.result.now in
    let size : length (block bytes j) ≡ length own = sym (ap length c.block-own.ensures.bytes) in
    record {
      pairs = pairs_of_tellings then.tellings (chunk.at + 64 * j) (length own - 1 + 1);
      through = c.tell.ensures;
      holds =
          block-tells g.E.Engine.meaning c.args.graph.now c.requires.sound bytes chunk.at c.args.left.now.ends.now c.args.left.now.all.now known.told.items known.here.items then.told.items then.here.items j c.gather_left.new.table then.tellings (length own - 1 + 1)
          (omega (arith, c.requires.there, chunk.few)) c.requires.there (omega (arith, some, size)) (omega (arith, size, c.block-own.ensures.few)) c.gather_left.ensures.gathered (subst (λ xs. SettlesBlock xs (length own - 1 + 1) c.gather_left.new.table known.told.items known.here.items then.told.items then.here.items then.tellings) ids_is c.settle.ensures.settled.settles)
          (subst (λ xs. Each (λ id. IsMember id (numbers_of xs)) (id_numbers then.tellings.ids)) ids_is c.settle.ensures.settled.named)
          (λ p set. c.gather_left.ensures.noted p (c.requires.pending.pending p set)) c.settle.ensures.settled.keeps;
    }
