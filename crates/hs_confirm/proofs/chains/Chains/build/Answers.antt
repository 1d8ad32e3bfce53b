use Rattle.std.proofs.Common.{◌≡◌, ◌+◌, ◌*◌, ◌-◌, ◌<◌, ◌||◌, ◌∙◌, length, get_or, set, eqb, refl, sym, ap, subst, arith}
use Rattle.std.specs.Vec.{with_items}
use Rattle.std.proofs.lemmas.List.{get_or_default, with_items_is}
use Rattle.hs_base.specs.Bits.{has_word_bit}
use Rattle.hs_confirm.specs.Rows.{AreChainsFrom}
use Rattle.hs_confirm.proofs.ChainLemmas.{chains-more, marked-more}
use Rattle.hs_confirm.proofs.chains.Chains.build.Goals as goal

pub loop-number-preserved : goal.loop-number-preserved
loop-number-preserved c =
    let l = c.loop-number in
    let rows = c.args.rows.now in
    let number = l.number - 1 in
    let row = get_or rows number 0 in
    let e : l.number ≡ number + 1 = omega (arith, c.loop-number-test.true) in
    let below = c.requires.within number (omega (arith, c.loop-number-test.true, l.invariant.within)) in
    let counted : row < length l.heads.items = omega (arith, below, l.invariant.heads, l.heads.ok.0) in
    let marked : row < 64 * length l.marks.items = omega (arith, below, l.invariant.marks, l.marks.ok.0) in
    let words = c.insert_word_bit.new.words in
    let now : (with_items l.marks words).items ≡ words = with_items_is l.marks words (c.insert_word_bit.ensures.len ∙ c.deref_mut.ensures.len) in
    let first : get_or l.heads.items row 0 ≡ c.index.result.now = get_or_default l.heads.items row 0 _ counted ∙ sym c.index.ensures in
    record {
      within = omega (arith, l.invariant.within);
      heads = l.invariant.heads;
      nexts = l.invariant.nexts;
      marks = l.invariant.marks;
      marked = marked-more l.marks.items (with_items l.marks words).items l.heads.items (length rows) row number
          (λ k. ap (λ ws. has_word_bit ws k) now ∙ (c.insert_word_bit.ensures.bits k ∙ ap (λ ws. eqb k row || has_word_bit ws k) c.deref_mut.ensures.value)) l.invariant.marked;
      chains = subst (λ n. AreChainsFrom rows number (set l.heads.items row number) (set l.nexts.items number n)) first
          (chains-more rows l.heads.items l.nexts.items number row (omega (arith, c.loop-number-test.true, l.invariant.within)) refl counted (omega (arith, l.invariant.nexts, l.nexts.ok.0)) (subst (λ n. AreChainsFrom rows n l.heads.items l.nexts.items) e l.invariant.chains));
    }
