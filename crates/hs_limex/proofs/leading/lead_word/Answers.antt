use Rattle.std.proofs.Common.{◌≡◌, ℕ, ◌+◌, ◌*◌, true, ◌&&◌, ◌||◌, refl, sym, ap, subst, ◌∙◌}
use Rattle.std.specs.Int.{bit_at}
use Rattle.std.proofs.lemmas.Bool.{eq-eqb}
use Rattle.hs_base.specs.Contexts.{Context}
use Rattle.hs_base.specs.Bits.{has_word_bit}
use Rattle.hs_base.proofs.ContextLemmas.{second_of_both}
use Rattle.hs_engine.specs.Rows.{in_row}
use Rattle.hs_limex.specs.Leading.{far_leads}
use Rattle.hs_limex.proofs.LeadLemmas.{LeadsBut, both-on, leads-all, leads-more, leads-none, word-both}
use Rattle.hs_limex.proofs.SingleLemmas.{left-before}
use Rattle.hs_limex.proofs.leading.lead_word.Goals as goal

pub loop-left-init : goal.loop-left-init
loop-left-init c =
    let here : Context = record { prev = c.args.prev; next = c.args.next } in
    record {
      leads = λ k. leads-none c.args.live.now c.args.far.now (λ x. in_row c.args.follows.now x k here) c.args.place (has_word_bit c.args.led.now k);
      both = λ b is. is;
      len = refl;
    }

pub row-requires : goal.row-requires
row-requires c =
    let live = c.args.live.now in
    let far = c.args.far.now in
    let low = c.lowest_bit.result in
    let x : ℕ = 64 * c.args.place + low in
    let set : (has_word_bit live x && has_word_bit far x) ≡ true =
    sym (word-both live far c.args.place low c.lowest_bit.ensures.within) ∙ c.loop-left.invariant.both low (eq-eqb (bit_at c.loop-left.left low) 1 c.lowest_bit.ensures.lowest.is) in
    c.requires.few x (second_of_both (has_word_bit live x) (has_word_bit far x) set)

pub loop-left-preserved : goal.loop-left-preserved
loop-left-preserved c =
    let here : Context = record { prev = c.args.prev; next = c.args.next } in
    let rows = c.args.follows.now in
    let live = c.args.live.now in
    let far = c.args.far.now in
    let left = c.loop-left.left in
    let low = c.lowest_bit.result in
    let rest = c.without_lowest_bit-left.result in
    let x : ℕ = 64 * c.args.place + low in
    let within = c.lowest_bit.ensures.within in
    let lowest = c.lowest_bit.ensures.lowest in
    let behind = c.without_lowest_bit-left.ensures.behind low lowest in
    let known = c.loop-left.invariant in
    let set : (has_word_bit live x && has_word_bit far x) ≡ true =
    sym (word-both live far c.args.place low within) ∙ known.both low (eq-eqb (bit_at left low) 1 lowest.is) in
    record {
      len = c.unite_region.ensures.len ∙ known.len;
      leads = λ k.
          leads-more (far_leads rows live far here k) c.args.place left low rest (has_word_bit c.args.led.now k) (has_word_bit c.loop-left.led k) (in_row rows x k here) (has_word_bit c.unite_region.new.words k) lowest behind within
          (both-on (has_word_bit live x) (has_word_bit far x) (in_row rows x k here) set)
          (c.unite_region.ensures.bits k ∙ ap (λ b. b || has_word_bit c.loop-left.led k) (c.row.ensures.bits k))
          (known.leads k);
      both = λ b is. known.both b (left-before left low rest behind b is);
    }

pub returns-clause-bits : goal.returns-clause-bits
returns-clause-bits c k first known =
    let here : Context = record { prev = c.args.prev; next = c.args.next } in
    let test = far_leads c.args.follows.now c.args.live.now c.args.far.now here k in
    let none : c.loop-left.left ≡ 0 = c.loop-left-test.false in
    leads-all test c.args.place (has_word_bit c.args.led.now k) (has_word_bit c.loop-left.led k) first
    (subst (λ n. LeadsBut test c.args.place n (has_word_bit c.args.led.now k) (has_word_bit c.loop-left.led k)) none (c.loop-left.invariant.leads k)) known
