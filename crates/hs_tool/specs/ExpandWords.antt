-- The words of the faults of saved streams.
use Rattle.hs_text.specs.declared.reply_lines.Word.{Word}
use Rattle.hs_text.specs.declared.reply_lines.Word.TheVariants as word
use Rattle.hs_stream.specs.declared.fault.ExpandFault.{ExpandFault}
use Rattle.hs_stream.specs.declared.fault.ExpandFault.TheVariants as fault

-- the word that tells the fault
abbrev pub word_of_fault : ExpandFault → Word
word_of_fault (fault.Form at) = word.Form
word_of_fault (fault.Version version) = word.Version
word_of_fault fault.OtherDatabase = word.Database
word_of_fault fault.Memory = word.Memory
