-- Where a state leads before each class of bytes.
use Rattle.std.specs.Prelude.{◌≡◌, ℕ}
use Rattle.hs_base.specs.Bits.{has_word_bit}
use Rattle.hs_base.specs.declared.context.Next.TheVariants as after
use Rattle.hs_engine.specs.declared.automaton.Automaton.{Automaton}
use Rattle.hs_states.specs.Footings.{is_led_on}
use Rattle.hs_states.specs.declared.leads.Leads.{Leads}

-- the words tell to which positions the state leads
pub record AreLeads (a : Automaton) (leads : Leads) : Type 0 where
  pub words : (k : ℕ) → has_word_bit leads.word k ≡ is_led_on a leads.from after.Word k
  pub newlines : (k : ℕ) → has_word_bit leads.newline k ≡ is_led_on a leads.from after.Newline k
  pub others : (k : ℕ) → has_word_bit leads.other k ≡ is_led_on a leads.from after.Other k
