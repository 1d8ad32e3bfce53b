use Rattle.std.proofs.Common.{rules, sym, subst}
use Rattle.hs_stream.specs.Leading.{IsRegionOf}
use Rattle.hs_stream.proofs.stream.Stream.fits.Goals as goal

pub returns : goal.returns
returns c = (
  λ is. record {
    digest = search rules;
    region = subst (IsRegionOf c.args.db.now) c.deref.ensures.value (c.is_region.ensures.0 is);
  },
  λ own. c.is_region.ensures.1 (subst (IsRegionOf c.args.db.now) (sym c.deref.ensures.value) own.region),
)
