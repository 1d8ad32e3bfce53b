use Rattle.std.proofs.Common.{map, refl}
use Rattle.hs_pieces.specs.Meaning.{plain_piece}
use Rattle.hs_rose.specs.Made.{model_of}
use Rattle.hs_rose.proofs.ListLemmas.{read-get}
use Rattle.hs_rose.proofs.NamingLemmas.{numbered-below, run-named}
use Rattle.hs_rose.proofs.builder.Builder.name_run.Goals as goal

pub returns : goal.returns
returns c sound =
    let made = c.number_of.new.made.items in
    let piece = plain_piece c.args.piece.now in
    let below = numbered-below model_of (map model_of c.args.self.now.made.items) piece made c.in_ok-number.number (c.in_ok-number.ensures.numbered sound.marked) in
    run-named _ _ piece _ c.index.result.now c.requires.run refl refl refl (c.in_ok-number.ensures.numbered sound.marked) c.in_ok-number.ensures.made c.in_ok-number.ensures.marked (read-get made c.in_ok-number.number c.index.result.now below c.index.ensures) refl sound
