use Rattle.std.proofs.Common.{None, map, sym, subst}
use Rattle.hs_base.specs.ByteSets.{members}
use Rattle.hs_base.specs.LiteralView.{literal_byte}
use Rattle.hs_pieces.specs.Meaning.{plain_piece}
use Rattle.hs_pieces.specs.declared.piece.Piece.{Piece}
use Rattle.hs_kept.specs.Builders.{IsPieceTold, first_place}
use Rattle.hs_kept.proofs.ToldLemmas.{told-literal, told-repeat}
use Rattle.hs_kept.proofs.builder.sets_of_piece.Goals as goal

pub returns-in-Lit : goal.returns-in-Lit
returns-in-Lit c = subst (λ (p : Piece). IsPieceTold (first_place (plain_piece p)) None) (sym c.in-Lit.is) (told-literal (map literal_byte c.in-Lit.field-0.items))

pub returns-in-Rep : goal.returns-in-Rep
returns-in-Rep c = subst (λ (p : Piece). IsPieceTold (first_place (plain_piece p)) None) (sym c.in-Rep.is) (told-repeat (members c.in-Rep.field-0) c.in-Rep.field-1 c.in-Rep.field-2)
