use Rattle.std.proofs.Common.{◌≡◌, length, sym, ◌∙◌, arith}
use Rattle.std.proofs.lemmas.List.{length-map}
use Rattle.hs_confirm.specs.Entries.{literal_in}
use Rattle.hs_confirm.specs.Filed.{literals_of}
use Rattle.hs_confirm.proofs.confirm.Confirm.count.Goals as goal

pub returns : goal.returns
unfolding literals_of
returns c =
    let entries = c.args.self.now.entries in
    let size : c.len.result ≡ length entries.items = omega (arith, c.len.ensures, entries.ok) in size ∙ sym (length-map entries.items literal_in)
