use Rattle.std.proofs.Common.{sym, subst}
use Rattle.hs_base.specs.ByteSets.{has}
use Rattle.memchr.specs.Find.{is_byte, is_byte2, is_byte3}
use Rattle.hs_accel.specs.Places.{IsLeastPlace}
use Rattle.hs_accel.proofs.PlaceLemmas.{first_behind_slice}
use Rattle.hs_accel.proofs.search.far.Goals as goal

pub returns-in-One : goal.returns-in-One
returns-in-One c =
    subst (IsLeastPlace (has c.args.set.now) c.args.bytes.now c.args.from) (sym c.behind.ensures)
    (first_behind_slice (has c.args.set.now) (is_byte c.in-One.first) c.args.bytes.now c.args.from c.memchr.result c.requires c.type_inv.bytes c.in-One.ensures c.memchr.ensures)

pub returns-in-Two : goal.returns-in-Two
returns-in-Two c =
    subst (IsLeastPlace (has c.args.set.now) c.args.bytes.now c.args.from) (sym c.behind-in-Two.ensures)
    (first_behind_slice (has c.args.set.now) (is_byte2 c.in-Two.first c.in-Two.second) c.args.bytes.now c.args.from c.memchr2.result c.requires c.type_inv.bytes c.in-Two.ensures c.memchr2.ensures)

pub returns-in-Three : goal.returns-in-Three
returns-in-Three c =
    subst (IsLeastPlace (has c.args.set.now) c.args.bytes.now c.args.from) (sym c.behind-in-Three.ensures)
    (first_behind_slice (has c.args.set.now) (is_byte3 c.in-Three.first c.in-Three.second c.in-Three.third) c.args.bytes.now c.args.from c.memchr3.result c.requires c.type_inv.bytes c.in-Three.ensures c.memchr3.ensures)
