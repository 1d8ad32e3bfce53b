use Rattle.std.proofs.Common.{map, ap, ◌∙◌}
use Rattle.hs_base.specs.Trees.{class}
use Rattle.hs_expr.specs.Meaning.{tree_of}
use Rattle.hs_expr.specs.declared.expr.Expr.TheVariants.{Class}
use Rattle.hs_expr.proofs.TreeLemmas.{tree_of-Class}
use Rattle.hs_base.specs.ByteSets.{bytes_where}
use Rattle.hs_utf8.specs.Lowered.{is_ascii_member}
use Rattle.hs_utf8.proofs.SetLemmas.{ascii-none, ascii-above, ascii-some}
use Rattle.hs_utf8.proofs.TreeLists.{map-push}
use Rattle.hs_utf8.proofs.set.push_ascii.Goals as goal

pub returns-in-None : goal.returns-in-None
returns-in-None c = ascii-none c.args.class.now.ranges.items (map tree_of c.args.parts.now.items) c.in-None.ensures

pub returns-then-bounds-ge-ASCII_END : goal.returns-then-bounds-ge-ASCII_END
returns-then-bounds-ge-ASCII_END c =
    ascii-above c.args.class.now.ranges.items (map tree_of c.args.parts.now.items) c.in-Some.bounds c.in-Some.ensures
    c.if-bounds-ge-ASCII_END.true

pub returns-in_ok-push-in-Some : goal.returns-in_ok-push-in-Some
returns-in_ok-push-in-Some c =
    let rs = c.args.class.now.ranges.items in
    ascii-some rs (map tree_of c.args.parts.now.items) (map tree_of c.push.new.self.items) c.in-Some.bounds c.in-Some.ensures
    c.if-bounds-ge-ASCII_END.false
    (map-push c.args.parts.now.items c.push.new.self.items (Class c.ascii_members.result) (class (bytes_where (is_ascii_member rs)))
    c.in_ok-push-in-Some.ensures.items (tree_of-Class c.ascii_members.result ∙ ap class c.ascii_members.ensures))
