-- What stands behind the word of a command.
use Rattle.std.specs.Prelude.{◌≡◌, ℕ, ◌^◌, ◌<◌, List, ◌++◌, codes, decimal}
use Rattle.hs_text.specs.declared.commands.Verb.{Verb}
use Rattle.hs_text.specs.Commands.{IsName, IsFileName, Order, verb_of, name_of, count_of, operands_of, NamesFile}

-- Behind the word stand the operands of this order.
pub record AreOperands (verb : Verb) (operands : List ℕ) (order : Order) : Type 0 where
  pub verb_is : verb ≡ verb_of order
  pub whole : operands ≡ operands_of order
  pub name : IsName (name_of order)
  pub count : count_of order < 2 ^ 63
  pub file : NamesFile order

-- a name and a number with a space between
pub record HasParts (operands name : List ℕ) (count : ℕ) : Type 0 where
  pub whole : operands ≡ name ++ (codes " " ++ decimal count)
  pub is_name : IsName name
  pub small : count < 2 ^ 63

-- two names with a space between, of a stream and of a file
pub record HasFileParts (operands name file : List ℕ) : Type 0 where
  pub whole : operands ≡ name ++ (codes " " ++ file)
  pub is_name : IsName name
  pub is_file : IsFileName file
