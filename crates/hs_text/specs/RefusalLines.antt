-- The line of a refused list.
use Rattle.std.specs.Prelude.{ℕ, List, ◌++◌, codes, decimal, Option, None, Some}
use Rattle.std.specs.List.{flat_map}
use Rattle.hs_base.specs.Refusals.{number_of}
use Rattle.hs_base.specs.declared.entry.ExprId.{ExprId}
use Rattle.hs_base.specs.declared.refusal.Refusal.{Refusal}
use Rattle.hs_text.specs.RefusalValues.{name_of, values_of}

-- the number of an entry and its identifier; `- -` where no entry is refused
abbrev pub entry_text : Option (ℕ × ExprId) → List ℕ
entry_text None = codes "- -"
entry_text (Some (number, id)) = decimal number ++ codes " " ++ decimal id.0

-- the values, each with a space before it
abbrev pub spaced : List (List ℕ) → List ℕ
spaced values = flat_map (λ value. codes " " ++ value) values

-- `refused ENTRY ID NUMBER NAME VALUES`
abbrev pub refusal_line : Option (ℕ × ExprId) → Refusal → List ℕ
refusal_line entry refusal =
    codes "refused " ++ entry_text entry ++ codes " " ++ decimal (number_of refusal)
    ++ codes " " ++ name_of refusal ++ spaced (values_of refusal) ++ codes "\n"
