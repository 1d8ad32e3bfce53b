-- The entries that are read so far, and the lines that are left, are together the file.
use Rattle.std.proofs.Common.{◌≡◌, ℕ, suc, ◌+◌, ◌<◌, true, eqb, List, [], ◌∷◌, ◌++◌, length, map, refl, sym, ap, ◌∙◌, subst, append_assoc, append-nil, arith}
use Rattle.std.proofs.lemmas.List.{length-append}
use Rattle.std.proofs.lemmas.Bool.{eqb-true}
use Rattle.hs_base.specs.Assertions.{line_feed}
use Rattle.hs_base.specs.declared.ext.Entry.{Entry}
use Rattle.hs_text.specs.declared.line.Line.{Line}
use Rattle.hs_text.specs.declared.line.Line.TheVariants as line
use Rattle.hs_text.specs.Lines.{Begins, unended, ended}
use Rattle.hs_base.specs.Entries.{ListedEntry}
use Rattle.hs_base.specs.Entries as base
use Rattle.hs_text.specs.PatternFile.{IsList, nothing, skipped, listed, HasBadLine, behind_skipped, behind_entry}
use Rattle.hs_text.specs.Reading.{listed_parts, IsReadAs, AddsEntry}

not_shorter : (file : List ℕ) → (file ≡ [] → ⊥) → 0 < length file
not_shorter [] some = absurd (some refl)
not_shorter (x ∷ xs) some = omega arith

-- what stands behind the first line is shorter
pub behind_shorter : {text rest file : List ℕ} → Begins text rest file → length rest < length file
behind_shorter {file = file} (unended some p l none) = let long = not_shorter file some in omega (arith, ap length none, long)
behind_shorter {rest = rest} (ended raw p l whole) = omega (arith, ap length whole ∙ length-append raw (line_feed ∷ rest))

-- the list of the lines that are left goes on the entries before
pub list_step : (bytes file text rest : List ℕ) (read : Line) (before after : List Entry) → Begins text rest file → IsReadAs text read → AddsEntry read before after → ((xs : List ListedEntry) → IsList file xs → IsList bytes (map base.listed before ++ xs)) → (xs : List ListedEntry) → IsList rest xs → IsList bytes (map base.listed after ++ xs)
list_step bytes file text rest line.Skipped before after begins s same kept xs list =
    subst (λ es. IsList bytes (es ++ xs)) (sym same) (kept xs (skipped begins s list))
list_step bytes file text rest (line.Entry parts) before after begins h added kept xs list =
    subst
    (λ es. IsList bytes (es ++ xs))
    (sym added)
    (subst (IsList bytes) (sym (append_assoc (map base.listed before) (listed_parts parts ∷ []) xs)) (kept (listed_parts parts ∷ xs) (listed begins h list)))

-- a bad line of those that are left is one of the file, by as many lines later as were read
pub bad_step : (bytes file text rest : List ℕ) (number : ℕ) (read : Line) → Begins text rest file → IsReadAs text read → ((n : ℕ) → HasBadLine file n → HasBadLine bytes (number + n)) → (n : ℕ) → HasBadLine rest n → HasBadLine bytes (number + 1 + n)
bad_step bytes file text rest number line.Skipped begins s kept n bad =
    subst (HasBadLine bytes) (let e : number + suc n ≡ number + 1 + n = omega arith in e) (kept (suc n) (behind_skipped begins s bad))
bad_step bytes file text rest number (line.Entry parts) begins h kept n bad =
    subst (HasBadLine bytes) (let e : number + suc n ≡ number + 1 + n = omega arith in e) (kept (suc n) (behind_entry begins h bad))

-- where no line is left, the entries are the list
pub list_end : (bytes file : List ℕ) (entries : List Entry) → eqb (length file) 0 ≡ true → ((xs : List ListedEntry) → IsList file xs → IsList bytes (map base.listed entries ++ xs)) → IsList bytes (map base.listed entries)
list_end bytes [] entries e kept = subst (IsList bytes) (append-nil (map base.listed entries)) (kept [] nothing)
list_end bytes (x ∷ xs) entries e kept = let none = eqb-true _ _ e in absurd (omega arith)
