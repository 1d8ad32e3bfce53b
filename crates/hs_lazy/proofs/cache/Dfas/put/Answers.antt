use Rattle.std.proofs.Common.{◌∙◌, refl, ap, rules}
use Rattle.std.proofs.Math.ListN.{set}
use Rattle.std.proofs.lemmas.List.{set-get_or}
use Rattle.std.proofs.lemmas.Option.{slice_get_read}
use Rattle.hs_lazy.specs.Tables.IsPut.{is_put, stays}
use Rattle.hs_lazy.proofs.cache.Dfas.put.Goals as goal

pub returns-in_default-put : goal.returns-in_default-put
returns-in_default-put c =
    stays (ap (set c.args.self.now.list.items c.in-Some.last) (c.in_default-put.ensures ∙ c.index_mut.ensures.value) ∙ set-get_or c.args.self.now.list.items c.in-Some.last _) refl

pub returns : goal.returns
returns c =
    is_put c.in-Some.last c.in-Some-put.member c.index_mut.result.now c.put.new.self
    (slice_get_read c.args.self.now.list.items _ c.in-Some.last _ refl (search rules) c.index_mut.ensures.value)
    refl refl (search rules) c.in-Some-put.ensures
