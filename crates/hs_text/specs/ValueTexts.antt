-- What the values of a refusal stand for.
use Rattle.std.specs.Prelude.{ℕ, List, [], ◌∷◌, decimal}
use Rattle.hs_text.specs.RefusalValues.{word_of}
use Rattle.hs_text.specs.declared.refusal_values.Values.{Values}
use Rattle.hs_text.specs.declared.refusal_values.Values.TheVariants.{Nothing, Number, Place}

-- the texts of the values, in order
abbrev pub texts_of : Values → List (List ℕ)
texts_of Nothing = []
texts_of (Number n) = decimal n ∷ []
texts_of (Place construct at) = word_of construct ∷ decimal at ∷ []
