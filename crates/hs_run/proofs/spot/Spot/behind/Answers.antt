use Rattle.std.proofs.Common.{◌≡◌, [], ◌∷◌, ◌++◌, ◌<◌, length, drop, ◌∙◌, sym, ap, arith}
use Rattle.hs_base.proofs.ListLemmas.{each-append}
use Rattle.hs_run.proofs.SpotLemmas.{drop-first, history-push, length-push, prev-push}
use Rattle.hs_run.proofs.spot.Spot.behind.Goals as goal

pub returns-clause-history : goal.returns-clause-history
returns-clause-history c =
    let size : length c.args.self.now.history ≡ 64 = c.requires.whole in
    ap (λ xs. xs ++ c.args.byte ∷ []) c.copy_from_slice.ensures.after ∙ drop-first c.args.self.now.history c.args.byte size

pub returns-clause-stands : goal.returns-clause-stands
returns-clause-stands c u is = record {
  offset = omega (arith, is.offset, length-push u c.args.byte);
  behind = c.behind.ensures ∙ sym (prev-push u c.args.byte);
  bytes = each-append (λ b. b < 256) u (c.args.byte ∷ []) is.bytes (c.ranges.byte.fits, tt);
  past = returns-clause-history c ∙ (ap (λ xs. drop 1 (xs ++ c.args.byte ∷ [])) is.past ∙ history-push u c.args.byte);
}
