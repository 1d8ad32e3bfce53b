use Rattle.std.proofs.Common.{refl, ◌∙◌, arith}
use Rattle.hs_rose.proofs.ListLemmas.{read-get}
use Rattle.hs_compile.proofs.NumberingLemmas.{number-new}
use Rattle.hs_compile.proofs.arranging.Numbering.number.Goals as goal

pub returns : goal.returns
returns c =
    let named = c.args.named.now in
    let own = c.index-named-at.result in
    number-new named c.args.self.now.literals.items c.push.new.self.items c.args.self.now.numbers.items _ c.args.literal c.in_ok-number.number own c.in_ok-from_slice.field-0 c.requires.given
    (read-get named c.args.literal own c.requires.known c.index-named-at.is) (c.in_ok-from_slice.ensures.items ∙ c.deref.ensures.value) c.in_ok-push.ensures.items
    (omega (arith, c.in_ok-number.ensures.is, c.len.ensures, c.args.self.now.literals.ok.0)) refl
