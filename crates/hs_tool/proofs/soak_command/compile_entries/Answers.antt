use Rattle.std.proofs.Common.{◌≡◌, ℕ, List, Result, Err, IfErr, map, ap, ◌∙◌, subst}
use Rattle.hs_base.specs.declared.entry.ExprId.{ExprId}
use Rattle.hs_base.specs.declared.refusal.Refusal.{Refusal}
use Rattle.hs_base.specs.Entries.{ListedEntry, listed}
use Rattle.hs_compile.specs.declared.fault.CompileFault.{CompileFault}
use Rattle.hs_compile.specs.declared.fault.CompileFault.TheVariants.{Refused}
use Rattle.hs_compile.specs.Lists.{IsFirstRefusal}
use Rattle.hs_compile.specs.Answers.{IsCauseOf}
use Rattle.hs_lists.specs.Accepting.{first, uncompiled}
use Rattle.hs_tool.proofs.soak_command.compile_entries.Goals as goal

-- the entry that the compiler refuses
refused : {T : Type 0} (entries : List ListedEntry) (number : ℕ) (id : ExprId) (refusal : Refusal) (result : Result T CompileFault) → IfErr result (IsCauseOf entries) → result ≡ Err (Refused number id refusal) → IsFirstRefusal entries number id refusal
refused entries number id refusal result answer is = subst (λ r. IfErr r (IsCauseOf entries)) is answer

pub returns-in-Err-Refused-clause-fault : goal.returns-in-Err-Refused-clause-fault
returns-in-Err-Refused-clause-fault c =
    first (refused (map listed c.args.entries.now) c.in-Err-Refused.entry c.in-Err-Refused.id c.in-Err-Refused.refusal c.compile.result c.compile.ensures.refused (c.in-Err-Refused.is ∙ ap Err c.in-Err-Refused.field-0-is))

pub returns-in-Err-Memory-clause-fault : goal.returns-in-Err-Memory-clause-fault
returns-in-Err-Memory-clause-fault c = uncompiled
