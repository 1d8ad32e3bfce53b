use Rattle.std.proofs.Common.{◌∙◌, ap, arith}
use Rattle.std.proofs.lemmas.List.Filters.{dedup_is}
use Rattle.std.proofs.lemmas.Map.Keys.{IsStrictlyIncreasing-dedup}
use Rattle.hs_rose.specs.Identifiers.{has_id}
use Rattle.hs_rose.proofs.IdLemmas.{same-ids}
use Rattle.hs_rose.proofs.identifiers.rising.Goals as goal

pub returns-clause-rises : goal.returns-clause-rises
returns-clause-rises c =
    let is = dedup_is _ _ _ c.dedup.ensures.filtered in
    rw is (IsStrictlyIncreasing-dedup _ c.sort_unstable.ensures.sorted)

pub returns-clause-same : goal.returns-clause-same
returns-clause-same c id =
    ap (λ ids. has_id ids id) (dedup_is _ _ _ c.dedup.ensures.filtered) ∙ same-ids _ _ id c.sort_unstable.ensures.permutation

pub returns-clause-few : goal.returns-clause-few
returns-clause-few c = omega (arith, c.dedup.ensures.bound, c.sort_unstable.ensures.len)
