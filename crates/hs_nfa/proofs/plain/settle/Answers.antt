use Rattle.std.proofs.Common.{ℕ, ◌&&◌, ◌||◌, ◌∙◌, refl, sym, ap, eqb, arith}
use Rattle.std.proofs.lemmas.Bool.{le-ltb}
use Rattle.hs_base.specs.Contexts.{Context}
use Rattle.hs_engine.specs.Tables.{is_moved}
use Rattle.hs_limex.proofs.PlainLemmas.{moved-more}
use Rattle.hs_base.proofs.BitLemmas.{zero-bits}
use Rattle.hs_nfa.proofs.plain.settle.Goals as goal

pub loop-position-init : goal.loop-position-init
loop-position-init c = record {
  bits = λ k.
      zero-bits c.args.region.now c.requires.zero k
      ∙ sym (ap (λ b. b && is_moved c.args.automaton.now c.args.led.now (record { prev = c.args.prev; next = c.args.next }) c.args.entering c.args.byte k) (le-ltb k 0 (omega arith)));
  stays = λ none. refl;
}

pub loop-position-preserved : goal.loop-position-preserved
loop-position-preserved c =
    let p : ℕ = c.loop-position.position in
    let here : Context = record { prev = c.args.prev; next = c.args.next } in
    record {
      bits = λ k.
          c.settle_one.ensures.bits k
          ∙ (ap (λ b. (eqb k p && is_moved c.args.automaton.now c.args.led.now here c.args.entering c.args.byte p) || b) (c.loop-position.invariant.bits k)
          ∙ moved-more (is_moved c.args.automaton.now c.args.led.now here c.args.entering c.args.byte) p k);
      stays = λ none. c.settle_one.ensures.stays (none p) ∙ c.loop-position.invariant.stays none;
    }
