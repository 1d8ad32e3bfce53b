use Rattle.hs_waking.proofs.FitLemmas.{some-fits}
use Rattle.hs_waking.proofs.fitting.fits.Goals as goal

pub returns-clause-fits : goal.returns-clause-fits
returns-clause-fits c own by = some-fits c.args.row.now.behind own c.args.prev c.args.bytes.now c.fit_places.result c.is_none.result c.requires.few c.is_none.ensures.none (c.fit_places.ensures.places own by)
