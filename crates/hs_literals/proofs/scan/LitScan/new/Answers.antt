use Rattle.std.proofs.Common.{◌≡◌, ◌++◌, ◌∙◌, [], refl, sym, ap, subst}
use Rattle.hs_confirm.specs.Filed.{literals_of, buckets_of}
use Rattle.hs_confirm.specs.PlaceLeft.{place_left}
use Rattle.hs_literals.specs.ScanEnds.{AreScanEnds}
use Rattle.hs_literals.specs.Held.{held}
use Rattle.hs_literals.specs.AllEnds.{pairs_of_place, ends_behind}
use Rattle.hs_literals.proofs.AllEndLemmas.{ends_behind-exact}
use Rattle.hs_literals.proofs.MaskLemmas.{none_open}
use Rattle.hs_literals.proofs.scan.LitScan.new.Goals as goal

pub returns : goal.returns
returns c =
    let literals = c.args.literals.now in
    let history = c.args.history.now in
    let bytes = c.args.bytes.now in
    let new = c.new.result in
    let none : place_left c.place_ends.result ≡ [] = none_open (literals_of literals.confirm) (buckets_of literals.confirm) _ _ 255 (place_left c.place_ends.result) literals.few refl c.place_ends.ensures in
    subst (λ ends. AreScanEnds (held literals) history bytes ends)
    (ap (λ l. ends_behind (held l) history bytes 0) (sym c.new.ensures.literals)
    ∙ ap (λ h. ends_behind (held new.literals.now) h bytes 0) (sym c.new.ensures.history)
    ∙ ap (λ b. ends_behind (held new.literals.now) new.history.now b 0) (sym c.new.ensures.bytes)
    ∙ ap (λ n. ends_behind (held new.literals.now) new.history.now new.bytes.now n) (sym c.new.ensures.at)
    ∙ ap (λ numbers. pairs_of_place new.at numbers ++ ends_behind (held new.literals.now) new.history.now new.bytes.now new.at) (sym none))
    (ends_behind-exact (held literals) history bytes)
