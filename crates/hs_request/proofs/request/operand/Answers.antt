use Rattle.std.proofs.Common.{ℕ, List, [], Option, ◌∙◌, ap, sym, unwrap_or, Bor}
use Rattle.std.specs.Option.{option_map}
use Rattle.clap.specs.Words.{found_of}
use Rattle.clap.proofs.WalkLemmas.{first_value-rows}
use Rattle.hs_request.proofs.request.operand.Goals as goal

pub returns-in-Some : goal.returns-in-Some
returns-in-Some c =
    ap (λ (o : Option (Bor (List ℕ))). unwrap_or (option_map (λ s. s.now) o) []) (sym c.in-Some.is)
    ∙ ap (λ (o : Option (List ℕ)). unwrap_or o []) (c.get_str.ensures ∙ first_value-rows (found_of c.args.operands.now) c.args.name.now)

pub returns-in-None : goal.returns-in-None
returns-in-None c =
    ap (λ (o : Option (Bor (List ℕ))). unwrap_or (option_map (λ s. s.now) o) []) (sym c.in-None.is)
    ∙ ap (λ (o : Option (List ℕ)). unwrap_or o []) (c.get_str.ensures ∙ first_value-rows (found_of c.args.operands.now) c.args.name.now)
