use Rattle.std.proofs.Common.{sym, ◌∙◌, subst}
use Rattle.hs_tool.specs.Main.{EndsWith}
use Rattle.hs_tool.specs.Main as ends
use Rattle.hs_tool.proofs.MainLemmas.{ran-from}
use Rattle.hs_tool.proofs.start.Goals as goal

-- src/main.rt:45:19
pub returns-in-Err : goal.returns-in-Err
returns-in-Err c = subst EndsWith (sym (c.from.ensures ∙ c.refuse.ensures.status)) ends.EndsWith.no_stream

-- src/main.rt:54:13
pub returns-in-Err-args : goal.returns-in-Err-args
returns-in-Err-args c = subst EndsWith (sym (c.from-in-Err-args.ensures ∙ c.refuse-in-Err-args.ensures.status)) ends.EndsWith.no_memory

-- src/main.rt:41:1
pub returns-in-Ok-words : goal.returns-in-Ok-words
returns-in-Ok-words c = subst EndsWith (sym c.from-in-Ok-words.ensures)
    (ran-from _ _ _ _ _ _ _ _ _ _ c.new-store.ensures c.new-out.ensures c.new-input.ensures c.new-err.ensures c.run.ensures.answer)

-- src/main.rt:39:1
pub returns : goal.returns
returns c = subst EndsWith (sym (c.from-in-Err-words.ensures ∙ c.refuse-in-Err-words.ensures.status)) ends.EndsWith.no_memory
