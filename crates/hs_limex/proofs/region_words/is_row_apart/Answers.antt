use Rattle.std.proofs.Common.{◌∙◌, arith}
use Rattle.hs_limex.proofs.region_words.is_row_apart.Goals as goal

pub is_word_apart-requires-clause-row : goal.is_word_apart-requires-clause-row
is_word_apart-requires-clause-row g c = c.requires.fits.exact (omega (arith, c.if-this-eq1.true)) ∙ c.if-this-eq1.true
