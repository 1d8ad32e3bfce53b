use Rattle.std.proofs.Common.{◌≡◌, ◌++◌, length, take, drop, refl, sym, ap, subst, ◌∙◌, arith}
use Rattle.hs_literals.specs.Held.{held}
use Rattle.hs_scan.specs.Hits.{HasNowhere}
use Rattle.hs_scan.specs.Scans.{AreHitsBehind}
use Rattle.hs_nodes.proofs.FillLemmas.{whole}
use Rattle.hs_scan.proofs.HitLemmas.{hits-behind}
use Rattle.hs_scan.proofs.scratch.find_hits.Goals as goal

pub returns : goal.returns
returns c =
    let literals = held c.args.literals.now in
    let s = c.args.scratch.now in
    let bytes = c.args.bytes.now in
    let new = c.show_hits.new.hits in
    let old_is : c.deref_mut.result.now ≡ s.hits.items = c.deref_mut.ensures.value in
    let len : length new ≡ length s.hits.items = c.show_hits.ensures.count ∙ ap length old_is in
    let now : take s.hits.len (new ++ drop (length new) s.hits.items) ≡ new = whole new s.hits.items s.hits.len len (omega (arith, s.hits.ok)) in
    record {
      hits =
          subst (λ hs. AreHitsBehind literals s.at s.past hs bytes) (sym now)
          (hits-behind literals c.find.new.self new s.at s.past c.seen_of.result.now bytes c.find.ensures.tells c.show_hits.ensures.shown (omega (arith, c.find.ensures.count, c.requires.rows)) c.requires.few c.requires.short
          c.seen_of.ensures);
      others = λ k unset. subst (λ hs. HasNowhere hs k) (sym now) (c.show_hits.ensures.others k unset);
      count = ap length now ∙ len;
      rows = c.find.ensures.count;
      ends = refl;
      starts = refl;
      course = refl;
      finals = refl;
      last = refl;
      past = refl;
      at_is = refl;
    }
