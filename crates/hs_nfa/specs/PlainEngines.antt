-- What the engine `Plain` means.
use Rattle.hs_engine.specs.declared.automaton.Automaton.{Automaton}
use Rattle.hs_engine.specs.Engines.{Meaning}
use Rattle.hs_limex.specs.AutomatonMeanings.{automaton_meaning}
use Rattle.hs_nfa.specs.declared.plain.Plain.{Plain}

-- the tables that it goes by
abbrev pub automaton_of : Plain → Automaton
automaton_of plain = plain.automaton

abbrev pub meaning_of_plain : Plain → Meaning
meaning_of_plain plain = automaton_meaning plain.automaton
