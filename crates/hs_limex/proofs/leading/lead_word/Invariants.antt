use Rattle.std.proofs.Common.{◌≡◌, ℕ, true, bit_and, get_or, length}
use Rattle.hs_base.specs.Bits.{has_word_bit}
use Rattle.hs_limex.specs.Leading.{far_leads}
use Rattle.hs_limex.specs.SingleWords.{is_set}
use Rattle.hs_limex.proofs.LeadLemmas.{LeadsBut}
use Rattle.hs_limex.proofs.leading.lead_word.Given as goal

abbrev pub invariant-loop-left : goal.invariant-loop-left
invariant-loop-left l = record {
  len : length l.led ≡ length l.initial.led;
  leads : (k : ℕ) → LeadsBut (far_leads l.follows l.live l.far (record { prev = l.prev; next = l.next }) k) l.place l.left (has_word_bit l.initial.led k) (has_word_bit l.led k);
  both : (b : ℕ) → is_set l.left b ≡ true → is_set (bit_and (get_or l.live l.place 0) (get_or l.far l.place 0)) b ≡ true;
}

abbrev pub decreases-loop-left : goal.decreases-loop-left
decreases-loop-left l = l.left
