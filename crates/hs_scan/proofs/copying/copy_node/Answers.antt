use Rattle.std.proofs.Common.{◌≡◌, ◌+◌, ◌<◌, length, slice_get, suc, refl, ap, sym, subst, ◌∙◌, inl, inr, arith}
use Rattle.std.specs.Prelude.{slice_index}
use Rattle.std.proofs.lemmas.Bool.{cases_eq}
use Rattle.std.proofs.lemmas.Option.{same_Some}
use Rattle.hs_nodes.specs.declared.graph.FieldCopy.{FieldCopy}
use Rattle.hs_layout.specs.Layouts.{laid_size}
use Rattle.hs_scan.specs.Copying.{IsMade, MakesCopies}
use Rattle.hs_scan.proofs.MadeLemmas.{made-all, made-one, made-stays, makes-join, makes-one}
use Rattle.hs_scan.proofs.copying.copy_node.Goals as goal

pub copy_at-copy-requires : goal.copy_at-copy-requires
copy_at-copy-requires g c =
    let by_node = c.requires.fits.by_node in
    let end = by_node.within c.args.k c.requires.there in
    let is : c.start_of.result ≡ slice_index c.args.graph.now.node_copies.numbers.items c.loop-i.i =
    c.start_of.ensures ∙ ap (λ xs. slice_index xs c.loop-i.i) c.deref-in-loop-i.ensures.value in
    let past : c.start_of-i-end.result ≡ slice_index c.args.graph.now.node_copies.starts.items (suc c.args.k) =
    c.start_of-i-end.ensures
    ∙ (ap (λ xs. slice_index xs (c.args.k + 1)) c.deref-2.ensures.value ∙ ap (λ n. slice_index c.args.graph.now.node_copies.starts.items n) (let e : c.args.k + 1 ≡ suc c.args.k = omega arith in e)) in
    subst (λ n. n < length c.args.graph.now.copies.items) (sym is) (by_node.there c.loop-i.i (omega (arith, end, c.loop-i-test.true, past)))

pub loop-i-preserved : goal.loop-i-preserved
loop-i-preserved g c =
    let graph = c.args.graph.now in
    let l = c.args.layout.now in
    let fits = c.requires.fits in
    let number = c.start_of.result in
    let is : number ≡ slice_index graph.node_copies.numbers.items c.loop-i.i =
    c.start_of.ensures ∙ ap (λ xs. slice_index xs c.loop-i.i) c.deref-in-loop-i.ensures.value in
    let copy = c.copy_at-copy.result in
    let old = c.args.region.now in
    let mid = c.loop-i.region in
    let new = c.copy_field.new.region in
    let so_far = c.loop-i.invariant in
    let size : length mid ≡ laid_size l = so_far.makes.len ∙ c.requires.sized in
    let one : MakesCopies graph l mid new = makes-one graph l fits number copy mid new c.copy_at-copy.ensures size c.copy_field.ensures in
    record {
      makes = makes-join graph l fits old mid new c.requires.sized so_far.makes one;
      made = λ j other low high at. elim (cases_eq j c.loop-i.i) [
        | inl same ↦
            let e : slice_index graph.node_copies.numbers.items j ≡ number = ap (λ n. slice_index graph.node_copies.numbers.items n) same ∙ sym is in
            let own : copy ≡ other = same_Some copy other (sym c.copy_at-copy.ensures ∙ (ap (λ n. slice_get graph.copies.items n) (sym e) ∙ at)) in
            subst (λ (x : FieldCopy). IsMade graph l new x) own (made-one graph l fits number copy mid new c.copy_at-copy.ensures size c.copy_field.ensures)
        | inr apart ↦
            made-stays graph l fits mid new size one (slice_index graph.node_copies.numbers.items j) other at (so_far.made j other low (omega (arith, high, apart)) at)
      ];
    }

pub returns-clause-made : goal.returns-clause-made
returns-clause-made g c =
    let past : c.start_of-i-end.result ≡ slice_index c.args.graph.now.node_copies.starts.items (suc c.args.k) =
    c.start_of-i-end.ensures
    ∙ (ap (λ xs. slice_index xs (c.args.k + 1)) c.deref-2.ensures.value ∙ ap (λ n. slice_index c.args.graph.now.node_copies.starts.items n) (let e : c.args.k + 1 ≡ suc c.args.k = omega arith in e)) in
    made-all c.args.graph.now c.args.layout.now c.requires.fits c.loop-i.region c.args.k (slice_index c.args.graph.now.node_copies.starts.items (suc c.args.k)) refl
    (λ j copy low high at. c.loop-i.invariant.made j copy low (omega (arith, high, c.loop-i-test.false, past)) at)
