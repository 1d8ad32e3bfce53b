use Rattle.std.proofs.Common.{◌≡◌, ◌+◌, ◌++◌, map, drop, length, get_or, sym, ap, ap₂, ◌∙◌, arith}
use Rattle.std.specs.List.{zip}
use Rattle.hs_base.specs.Trees.{class, cat, trees_of}
use Rattle.hs_expr.specs.Meaning.{tree_of}
use Rattle.hs_expr.specs.declared.expr.Expr.TheVariants.{Class}
use Rattle.hs_expr.proofs.TreeLemmas.{tree_of-Class, tree_of-Cat}
use Rattle.hs_utf8.specs.Runs.{place_tree}
use Rattle.hs_utf8.proofs.TreeLists.{map-push, classes-more, classes-all}
use Rattle.hs_utf8.proofs.byte_range.run_classes.Goals as goal

pub loop-i-preserved : goal.loop-i-preserved
loop-i-preserved c =
    let firsts = c.encoding-least.result.now in
    let lasts = c.encoding-greatest.result.now in
    let i = c.loop-i.i in
    let same : length firsts ≡ length lasts =
    ap length c.encoding-least.ensures ∙ c.requires.length ∙ sym (ap length c.encoding-greatest.ensures) in
    let grown = map-push c.loop-i.places.items c.push.new.self.items (Class c.byte_range.result)
    (place_tree (get_or firsts i 0, get_or lasts i 0)) c.in_ok-push.ensures.items
    (tree_of-Class c.byte_range.result ∙ ap class c.byte_range.ensures) in
    ap (λ ts. ts ++ map place_tree (zip (drop (i + 1) firsts) (drop (i + 1) lasts))) grown
    ∙ classes-more (map tree_of c.loop-i.places.items) firsts lasts i c.loop-i-test.true (omega (arith, c.loop-i-test.true))
    ∙ c.loop-i.invariant

pub returns : goal.returns
returns c =
    let firsts = c.encoding-least.result.now in
    let lasts = c.encoding-greatest.result.now in
    let whole = sym (classes-all (map tree_of c.loop-i.places.items) firsts lasts c.loop-i.i c.loop-i-test.false) ∙ c.loop-i.invariant in
    tree_of-Cat c.loop-i.places
    ∙ ap (λ ts. cat (trees_of ts)) (whole ∙ ap₂ (λ a b. map place_tree (zip a b)) c.encoding-least.ensures c.encoding-greatest.ensures)
