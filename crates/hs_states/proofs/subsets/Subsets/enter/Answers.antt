use Rattle.std.proofs.Common.{refl, arith, get_or, vec_len}
use Rattle.std.proofs.lemmas.Option.{slice_get_read}
use Rattle.hs_states.specs.Subsets.{is_known}
use Rattle.hs_states.proofs.subsets.Subsets.enter.Goals as goal

pub returns-then-is_alike-clause-entered : goal.returns-then-is_alike-clause-entered
returns-then-is_alike-clause-entered c =
    let self = c.args.self.now in
    let hint = get_or self.hints c.hint_place-place.result 0 in
    is_known hint refl refl
    (record {
      like = c.index.result.now;
      at = slice_get_read self.known.items (vec_len self.known) hint c.index.result.now self.known.ok.0 (omega (arith, c.if-hint-len.true, c.len.ensures)) c.index.ensures;
      alike = c.if-is_alike.ensures.0 refl;
    })
