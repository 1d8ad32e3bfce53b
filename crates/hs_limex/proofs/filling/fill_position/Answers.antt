use Rattle.std.proofs.Common.{◌&&◌, ◌||◌, eqb, slice_get, refl, sym, ap, ◌∙◌, arith}
use Rattle.std.proofs.lemmas.Bool.{lt-ltb}
use Rattle.hs_engine.specs.Automata.{in_set}
use Rattle.hs_limex.specs.WordTables.{in_table}
use Rattle.hs_bits.proofs.WordLemmas.{none-under, number-more}
use Rattle.hs_limex.proofs.filling.fill_position.Goals as goal

pub loop-byte-init : goal.loop-byte-init
loop-byte-init c = record { count = refl; width = refl; bits = λ b k. none-under b (eqb k c.args.position && in_set (slice_get c.args.sets.now c.args.position) b) (in_table c.args.rows.now b k) }

pub loop-byte-preserved : goal.loop-byte-preserved
loop-byte-preserved c =
    let p = c.loop-byte.byte in
    record {
      count = c.insert_if.ensures.count ∙ c.loop-byte.invariant.count;
      width = c.insert_if.ensures.width ∙ c.loop-byte.invariant.width;
      bits = λ b k.
          number-more (λ n. eqb k c.args.position && in_set (slice_get c.args.sets.now c.args.position) n) b p (eqb k c.args.position && c.set_contains.result) (in_table c.loop-byte.rows b k) (in_table c.insert_if.new.self b k) (in_table c.args.rows.now b k)
          (λ same. ap (λ t. eqb k c.args.position && t) (c.set_contains.ensures ∙ ap (in_set (slice_get c.args.sets.now c.args.position)) (sym same))) (c.loop-byte.invariant.bits b k) (c.insert_if.ensures.bits b k);
    }

pub returns-clause-bits : goal.returns-clause-bits
returns-clause-bits c b k below =
    c.loop-byte.invariant.bits b k ∙ ap (λ t. (t && (eqb k c.args.position && in_set (slice_get c.args.sets.now c.args.position) b)) || in_table c.args.rows.now b k) (lt-ltb b c.loop-byte.byte (omega arith))
