use Rattle.std.proofs.Common.{◌≢◌, ◌∷◌, [], ◌++◌, ◌∙◌, ap, sym, subst, Some, None}
use Rattle.std.proofs.lemmas.Bool.Decides.{Decides-eqb}
use Rattle.std.proofs.lemmas.Slice.Eq.{strip_prefix_is}
use Rattle.hs_base.specs.Lists.{Each}
use Rattle.hs_text.specs.Numbers.{IsNumber}
use Rattle.hs_text.specs.EntryLines.{HasTail}
use Rattle.hs_text.proofs.CutLemmas.{when_none, no_separator}
use Rattle.hs_text.proofs.LineLemmas.{entry_parts, expression_is, expression_parts}
use Rattle.hs_text.proofs.line.parts_of.Goals as goal

pub returns-in_err-digits : goal.returns-in_err-digits
returns-in_err-digits c =
    when_none _ _ _ c.from_residual.ensures (λ entry h.
    no_separator 58 h.digits (47 ∷ (entry.text ++ 47 ∷ h.tail)) (subst (λ t. Each (λ b. b ≢ 58) t) h.whole c.in_err-digits.ensures))

pub returns-in_err-expression : goal.returns-in_err-expression
returns-in_err-expression c =
    when_none _ _ _ c.from_residual-in_err-expression.ensures (λ entry h.
    strip_prefix_is Decides-eqb c.in_ok-digits.behind.now (47 ∷ []) None c.in_err-expression.ensures.cases (entry.text ++ 47 ∷ h.tail) (entry_parts _ _ _ entry c.in_ok-digits.ensures.1 c.in_ok-digits.ensures.0 h).right)

pub returns-in_err-text : goal.returns-in_err-text
returns-in_err-text c =
    when_none _ _ _ c.from_residual-in_err-text.ensures (λ entry h.
    let slash = strip_prefix_is Decides-eqb c.in_ok-digits.behind.now (47 ∷ []) (Some c.in_ok-expression.expression) c.in_ok-expression.ensures.cases in
    let same = expression_is _ _ _ c.in_ok-expression.expression.now entry c.in_ok-digits.ensures.1 c.in_ok-digits.ensures.0 slash h in
    no_separator 47 entry.text h.tail (subst (λ t. Each (λ b. b ≢ 47) t) same c.in_err-text.ensures))

pub returns-in_err-id : goal.returns-in_err-id
returns-in_err-id c =
    when_none _ _ _ c.from_residual-in_err-id.ensures (λ entry h.
    let digits = (entry_parts _ _ _ entry c.in_ok-digits.ensures.1 c.in_ok-digits.ensures.0 h).left in
    c.in_err-id.ensures entry.id (subst (λ t. IsNumber 10 4294967296 t entry.id) (sym digits) h.identifier))

pub returns-in_err-flags : goal.returns-in_err-flags
returns-in_err-flags c =
    when_none _ _ _ c.from_residual-in_err-flags.ensures (λ entry h.
    let slash = strip_prefix_is Decides-eqb c.in_ok-digits.behind.now (47 ∷ []) (Some c.in_ok-expression.expression) c.in_ok-expression.ensures.cases in
    let same = expression_is _ _ _ c.in_ok-expression.expression.now entry c.in_ok-digits.ensures.1 c.in_ok-digits.ensures.0 slash h in
    let parts = expression_parts _ _ entry _ _ c.in_ok-text.ensures.1 c.in_ok-text.ensures.0 h same in
    c.in_err-flags.ensures entry.flags entry.ext (subst (λ t. HasTail t entry.flags entry.ext) (sym parts.right) h.asked))

pub returns : goal.returns
returns c =
    let slash = strip_prefix_is Decides-eqb c.in_ok-digits.behind.now (47 ∷ []) (Some c.in_ok-expression.expression) c.in_ok-expression.ensures.cases in
    record {
      digits = c.in_ok-digits.digits.now;
      tail = c.in_ok-text.tail.now;
      whole = c.in_ok-digits.ensures.1 ∙ ap (λ xs. c.in_ok-digits.digits.now ++ 58 ∷ xs) (slash ∙ ap (λ xs. 47 ∷ xs) c.in_ok-text.ensures.1);
      identifier = c.in_ok-id.ensures;
      asked = c.in_ok-flags.ensures;
    }
