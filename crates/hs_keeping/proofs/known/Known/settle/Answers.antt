use Rattle.std.proofs.Common.{◌≡◌, ◌+◌, ◌≤◌, true, ◌++◌, length, take, drop, sym, ap, subst, ◌∙◌, arith}
use Rattle.hs_base.specs.Bits.{has_word_bit}
use Rattle.hs_bits.proofs.MarkLemmas.{whole-written}
use Rattle.hs_reports.specs.Settlement.{ArePending, SettlesBlock}
use Rattle.hs_keeping.proofs.known.Known.settle.Goals as goal

pub returns : goal.returns
returns c =
    let s = c.settle_block in
    let ids = c.args.identifiers.now in
    let known = c.args.self.now in
    let told_is : c.deref_mut.result.now ≡ known.told.items = c.deref_mut.ensures.value in
    let here_is : c.deref_mut-2.result.now ≡ known.here.items = c.deref_mut-2.ensures.value in
    let told_len : length s.new.told ≡ length known.told.items = s.auto.told ∙ ap length told_is in
    let here_len : length s.new.here ≡ length known.here.items = s.auto.here ∙ ap length here_is in
    let told_now : take known.told.len (s.new.told ++ drop (length s.new.told) known.told.items) ≡ s.new.told = whole-written s.new.told known.told.items known.told.len told_len (omega (arith, known.told.ok)) in
    let here_now : take known.here.len (s.new.here ++ drop (length s.new.here) known.here.items) ≡ s.new.here = whole-written s.new.here known.here.items known.here.len here_len (omega (arith, known.here.ok)) in
    record {
      settled = record {
        fits = record {
          told = ap length told_now ∙ (told_len ∙ c.requires.fits.told);
          here = ap length here_now ∙ (here_len ∙ c.requires.fits.here);
          ends = s.ensures.ends ∙ c.requires.ends;
          room = subst (λ n. length ids ≤ n) (sym s.ensures.room) c.requires.fits.room;
        };
        pending = λ before. record {
          none = s.ensures.emptied;
          pending = subst (λ xs. ArePending xs s.new.ends) (sym here_now) (s.ensures.pending (subst (λ xs. ArePending xs known.ends) (sym here_is) before));
        };
        named = s.ensures.named;
        settles =
            subst (λ xs. SettlesBlock ids (c.args.last + 1) known.ends known.told.items known.here.items xs (take known.here.len (s.new.here ++ drop (length s.new.here) known.here.items)) s.new.tellings) (sym told_now)
            (subst (λ xs. SettlesBlock ids (c.args.last + 1) known.ends known.told.items known.here.items s.new.told xs s.new.tellings) (sym here_now)
            (subst (λ xs. SettlesBlock ids (c.args.last + 1) known.ends known.told.items xs s.new.told s.new.here s.new.tellings) here_is
            (subst (λ xs. SettlesBlock ids (c.args.last + 1) known.ends xs c.deref_mut-2.result.now s.new.told s.new.here s.new.tellings) told_is s.ensures.settled)));
        keeps = λ p set. subst (λ ws. has_word_bit ws p ≡ true) (sym told_now) (s.ensures.grows p (subst (λ ws. has_word_bit ws p ≡ true) (sym told_is) set));
      };
    }
