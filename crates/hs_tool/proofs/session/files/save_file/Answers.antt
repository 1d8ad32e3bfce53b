use Rattle.std.proofs.Common.{List, ℕ, sym, subst}
use Rattle.hs_outside.specs.Store.{PutsOrHides}
use Rattle.hs_tool.proofs.FileLemmas.{performs-save_unknown, performs-save_memory, performs-saved, saved-size}
use Rattle.hs_tool.proofs.session.files.save_file.Goals as goal

pub returns-in_default-clause-performs : goal.returns-in_default-clause-performs
returns-in_default-clause-performs g c = performs-save_unknown c.args.name.now c.args.file.now (sym c.in_default.ensures.value)

pub save-requires : goal.save-requires
save-requires g c = record { fits = c.requires.fits c.args.name.now c.in-Some.stream.now (sym c.in-Some.ensures.value) }

pub returns-in_default-save-clause-performs : goal.returns-in_default-save-clause-performs
returns-in_default-save-clause-performs g c = performs-save_memory c.args.name.now c.args.file.now c.in-Some.stream.now (sym c.in-Some.ensures.value)

pub returns-in-Ok-put-clause-performs : goal.returns-in-Ok-put-clause-performs
returns-in-Ok-put-clause-performs g c =
    performs-saved c.args.name.now c.args.file.now c.in-Ok.bytes.items c.stream_size.result c.in-Some.stream.now (sym c.in-Some.ensures.value) c.in-Ok.ensures (λ basis is. saved-size is c.stream_size.ensures) (subst (λ (b : List ℕ). PutsOrHides (g.S.Store.told c.args.store.now) (g.S.Store.told c.put.new.self) c.args.file.now b) c.as_slice.ensures.value c.in-Ok-put.ensures.done)
