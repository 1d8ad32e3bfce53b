use Rattle.std.proofs.Common.{◌≡◌, List, map, refl, sym, ap, subst, ◌∙◌}
use Rattle.hs_base.specs.Chains.{Piece, lit}
use Rattle.hs_base.specs.LiteralView.{literal_byte}
use Rattle.hs_base.specs.declared.literal.LitByte.{LitByte}
use Rattle.hs_pieces.specs.Meaning.{plain_piece}
use Rattle.hs_rose.specs.Building.{IsNamed}
use Rattle.hs_rose.specs.declared.builder.Builder.{Builder}
use Rattle.hs_rose.specs.declared.builder.Named.{Named}
use Rattle.hs_rose.proofs.NamingLemmas.{literal-named}
use Rattle.hs_rose.proofs.builder.Builder.name.Goals as goal

pub returns-in_ok-number_of-in-Lit : goal.returns-in_ok-number_of-in-Lit
returns-in_ok-number_of-in-Lit c sound =
    let before = c.args.self.now in
    let now : Builder = record { chains = before.chains; roles = before.roles; literals = c.number_of.new.self; made = before.made } in
    let named : Named = record { number = c.in_ok-number_of-in-Lit.field-0; null = c.empty.result } in
    let xs = map literal_byte c.deref.result.now in
    let same : plain_piece c.args.piece.now ≡ lit xs = ap plain_piece c.in-Lit.is ∙ ap (λ (items : List LitByte). lit (map literal_byte items)) (sym c.deref.ensures.value) in
    subst (λ (p : Piece). IsNamed before now p named) (sym same)
    (literal-named before now xs named refl refl refl (c.in_ok-number_of-in-Lit.ensures.numbered sound.indexed) (c.in_ok-number_of-in-Lit.ensures.indexed sound.indexed) c.empty.ensures sound)
