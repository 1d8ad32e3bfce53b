use Rattle.std.proofs.Common.{◌≡◌, ◌≢◌, ℕ, ◌+◌, ◌*◌, ◌<◌, get_or, ap, sym, ◌∙◌, arith}
use Rattle.hs_base.specs.Bits.{has_word_bit}
use Rattle.hs_bits.specs.BlockContexts.{context_before}
use Rattle.hs_block.specs.StreamSets.{in_rows}
use Rattle.hs_block.proofs.StreamSettleLemmas.{asking-then, from-always, led-always, read-row}
use Rattle.hs_block.proofs.TableLemmas.{small-size}
use Rattle.hs_block.proofs.streams.Streams.arrivals.Goals as goal

pub by_context-requires : goal.by_context-requires
by_context-requires g c =
    let s = c.args.self.now in
    let asks = ap (λ items. get_or items c.args.position 0) c.as_slice.ensures.value in
    let read : (y : ℕ) → y < 64 * s.width → has_word_bit c.row_in-row.result.now y ≡ in_rows s.froms.items s.width c.args.position y = λ y below. c.row_in-row.ensures.bits y below ∙ ap (λ items. in_rows items s.width c.args.position y) c.deref.ensures.value in (
      small-size (56 + g.row.W * 8) (omega (arith, c.requires.fits.few)),
      (
        c.requires.fits,
        (
          c.requires.position,
          (
            c.requires.whole,
            (
              c.requires.made,
              (
                c.requires.room,
                (
                  asks,
                  (
                    asking-then s c.args.position (λ none. c.if-asks-eq0.false (asks ∙ none)),
                    (
                      c.requires.state,
                      (
                        c.requires.lit,
                        (
                          λ i small.
                              c.arrive-always.ensures.led s.size (omega (arith, s.wide, c.row_in-row.ensures.len)) c.requires.state c.requires.lit.few i small
                              ∙ read-row s c.args.entry.now.state c.args.words.now c.row_in-row.result.now c.args.position i read,
                          λ i small. c.arrive-always.ensures.again i small ∙ read c.args.position (omega (arith, c.requires.position, s.wide)),
                        ),
                      ),
                    ),
                  ),
                ),
              ),
            ),
          ),
        ),
      ),
    )

pub returns-then-asks-eq0-clause-led : goal.returns-then-asks-eq0-clause-led
returns-then-asks-eq0-clause-led g c i small =
    let s = c.args.self.now in
    c.arrive-always.ensures.led s.size (omega (arith, s.wide, c.row_in-row.ensures.len)) c.requires.state c.requires.lit.few i small
    ∙ (read-row s c.args.entry.now.state c.args.words.now c.row_in-row.result.now c.args.position i (λ y below. c.row_in-row.ensures.bits y below ∙ ap (λ items. in_rows items s.width c.args.position y) c.deref.ensures.value)
    ∙ led-always s c.args.entry.now.state c.args.words.now c.args.position i (context_before c.args.entry.now.prev c.args.whole.now i) c.requires.position
    (sym (ap (λ items. get_or items c.args.position 0) c.as_slice.ensures.value) ∙ c.if-asks-eq0.true))

pub returns-then-asks-eq0-clause-again : goal.returns-then-asks-eq0-clause-again
returns-then-asks-eq0-clause-again g c i small =
    let s = c.args.self.now in
    c.arrive-always.ensures.again i small
    ∙ (c.row_in-row.ensures.bits c.args.position (omega (arith, c.requires.position, s.wide))
    ∙ (ap (λ items. in_rows items s.width c.args.position c.args.position) c.deref.ensures.value
    ∙ sym (from-always s c.args.position c.args.position (context_before c.args.entry.now.prev c.args.whole.now i) c.requires.position c.requires.position
    (sym (ap (λ items. get_or items c.args.position 0) c.as_slice.ensures.value) ∙ c.if-asks-eq0.true))))
