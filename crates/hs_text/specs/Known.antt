-- What an entry of a pattern file has, whatever its line says.
use Rattle.std.specs.Prelude.{◌≡◌, ◌<◌, ◌^◌, bit_and}
use Rattle.hs_base.specs.declared.ext.Ext.{Ext}
use Rattle.hs_base.specs.Entries.{ListedEntry}

-- The parameters are among the five that there are, and a bound that isn't given has the value that stands for that.
pub record AreKnown (ext : Ext) : Type 0 where
  pub few : ext.bits < 2 ^ 5
  pub no_min_offset : bit_and ext.bits 1 ≡ 0 → ext.min_offset ≡ 0
  pub no_max_offset : bit_and ext.bits 2 ≡ 0 → ext.max_offset ≡ 18446744073709551615

-- The flags are among the eleven that there are, and so are the parameters among theirs.
pub record IsKnown (entry : ListedEntry) : Type 0 where
  pub flags : entry.flags < 2 ^ 11
  pub parameters : AreKnown entry.ext
