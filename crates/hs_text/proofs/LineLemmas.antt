-- Lines: a file begins with one line, and a line says one thing.
use Rattle.std.proofs.Common.{◌≡◌, ◌≢◌, ℕ, ◌≤◌, Bool, true, false, eqb, List, [], ◌∷◌, ◌++◌, length, get_or, refl, sym, ap, ◌∙◌, subst, arith, MatchBool}
use Rattle.std.proofs.lemmas.Bool.{eq-eqb, eqb-true, false≢true}
use Rattle.std.proofs.lemmas.List.{same_from_push}
use Rattle.hs_base.specs.Lists.{Each}
use Rattle.hs_base.specs.Assertions.{line_feed}
use Rattle.hs_base.specs.declared.ext.Ext.{Ext}
use Rattle.hs_base.proofs.ListLemmas.{each-append}
use Rattle.hs_text.specs.Numbers.{IsDigit, value_from}
use Rattle.hs_text.specs.FlagLetters.{AreFlags}
use Rattle.hs_text.specs.Parameters.{no_parameters, AreSettings}
use Rattle.hs_text.specs.Lines.{IsLineOf, plain, returned, Begins, unended, ended}
use Rattle.hs_base.specs.Entries.{ListedEntry}
use Rattle.hs_text.specs.EntryLines.{HasTail, bare, braced, IsEntryLine}
use Rattle.hs_text.specs.PatternFile.{IsSkipped, empty, comment}
use Rattle.hs_text.proofs.CutLemmas.{AreSame, no_separator, cut_once, cut_last_once}
use Rattle.hs_text.proofs.NumberLemmas.{number_apart, flags_once, letters_apart, slash_unnamed, brace_unnamed}
use Rattle.hs_text.proofs.SettingLemmas.{settings_once, settings_apart}

-- what is left without a carriage return is one line
pub line_of_once : {raw l m : List ℕ} → IsLineOf raw l → IsLineOf raw m → l ≡ m
line_of_once (plain p e) (plain q f) = e ∙ sym f
line_of_once {raw} {l} {m} (plain p e) (returned f) = absurd (p m f)
line_of_once {raw} {l} {m} (returned e) (plain q f) = absurd (q l e)
line_of_once {raw} {l} {m} (returned e) (returned f) = (same_from_push l m 13 13 (sym e ∙ f)).0

-- a file begins with one line
pub begins_once : {l m r s file : List ℕ} → Begins l r file → Begins m s file → AreSame l m r s
begins_once (unended some p line nothing) (unended some' q line' nothing') =
    record { left = line_of_once line line'; right = nothing ∙ sym nothing' }
begins_once {s = s} (unended some p line nothing) (ended raw q line' whole) =
    absurd (no_separator line_feed raw s (subst (λ xs. Each (λ b. b ≢ line_feed) xs) whole p))
begins_once {r = r} (ended raw p line whole) (unended some q line' nothing) =
    absurd (no_separator line_feed raw r (subst (λ xs. Each (λ b. b ≢ line_feed) xs) whole q))
begins_once {l} {m} {r} {s} (ended raw p line whole) (ended raw' q line' whole') =
    let both = cut_once line_feed raw raw' r s p q (sym whole ∙ whole') in
    record { left = line_of_once line (subst (λ xs. IsLineOf xs m) (sym both.left) line'); right = both.right }

-- no flag and no parameter has a `/`
pub tail_apart : {tail : List ℕ} {flags : ℕ} {ext : Ext} → HasTail tail flags ext → Each (λ b. b ≢ 47) tail
tail_apart (bare letters e) = letters_apart 47 slash_unnamed letters
tail_apart (braced letters settings whole named given) =
    subst
    (λ t. Each (λ b. b ≢ 47) t)
    (sym whole)
    (each-append (λ b. b ≢ 47) letters (123 ∷ (settings ++ 125 ∷ [])) (letters_apart 47 slash_unnamed named) ((λ e. omega arith), each-append (λ b. b ≢ 47) settings (125 ∷ []) (settings_apart given) ((λ e. omega arith), tt)))

-- letters of flags have no `{`
pub no_brace : {letters : List ℕ} {flags : ℕ} → AreFlags letters flags → Each (λ b. b ≢ 123) letters
no_brace p = letters_apart 123 brace_unnamed p

-- what stands before and behind a first `{`, where there is one
pub record HasBraces (letters behind : List ℕ) (flags : ℕ) (ext : Ext) : Type 0 where
  pub settings : List ℕ
  pub whole : behind ≡ settings ++ 125 ∷ []
  pub named : AreFlags letters flags
  pub given : AreSettings settings no_parameters ext

pub tail_parts : (tail letters behind : List ℕ) (flags : ℕ) (ext : Ext) → tail ≡ letters ++ 123 ∷ behind → Each (λ b. b ≢ 123) letters → HasTail tail flags ext → HasBraces letters behind flags ext
tail_parts tail letters behind flags ext whole clear (bare named e) =
    absurd (no_separator 123 letters behind (subst (λ t. Each (λ b. b ≢ 123) t) whole (no_brace named)))
tail_parts tail letters behind flags ext whole clear (braced letters' settings whole' named given) =
    let both = cut_once 123 letters' letters (settings ++ 125 ∷ []) behind (no_brace named) clear (sym whole' ∙ whole) in
    record { settings = settings; whole = sym both.right; named = subst (λ t. AreFlags t flags) both.left named; given = given }

-- without a `{` there are flags alone
pub tail_bare : (tail : List ℕ) (flags : ℕ) (ext : Ext) → Each (λ b. b ≢ 123) tail → HasTail tail flags ext → AreFlags tail flags × (ext ≡ no_parameters)
tail_bare tail flags ext clear (bare named e) = (named, e)
tail_bare tail flags ext clear (braced letters settings whole named given) =
    absurd (no_separator 123 letters (settings ++ 125 ∷ []) (subst (λ t. Each (λ b. b ≢ 123) t) whole clear))

-- a tail asks for one thing
pub tail_once : {tail : List ℕ} {f g : ℕ} {d e : Ext} → HasTail tail f d → HasTail tail g e → AreSame f g d e
tail_once {tail} {f} {g} {d} {e} (bare named none) q =
    let other = tail_bare tail g e (no_brace named) q in
    record { left = flags_once named other.0; right = none ∙ sym other.1 }
tail_once {tail} {f} {g} {d} {e} (braced letters settings whole named given) q =
    let other = tail_parts tail letters (settings ++ 125 ∷ []) g e whole (no_brace named) q in
    record {
      left = flags_once named other.named;
      right = settings_once given (subst (λ t. AreSettings t no_parameters e) (sym (same_from_push settings other.settings 125 125 other.whole).0) other.given);
    }

-- the parts of an entry's line before and behind the first colon
pub entry_parts : (line digits behind : List ℕ) (entry : ListedEntry) → line ≡ digits ++ 58 ∷ behind → Each (λ b. b ≢ 58) digits → (h : IsEntryLine line entry) → AreSame digits h.digits behind (47 ∷ (entry.text ++ 47 ∷ h.tail))
entry_parts line digits behind entry whole clear h =
    cut_once 58 digits h.digits behind (47 ∷ (entry.text ++ 47 ∷ h.tail)) clear (number_apart 58 (λ digit. absurd (omega arith)) h.identifier) (sym whole ∙ h.whole)

-- the parts of what stands behind `:/`
pub expression_parts : (text tail : List ℕ) (entry : ListedEntry) (line expression : List ℕ) → expression ≡ text ++ 47 ∷ tail → Each (λ b. b ≢ 47) tail → (h : IsEntryLine line entry) → expression ≡ entry.text ++ 47 ∷ h.tail → AreSame text entry.text tail h.tail
expression_parts text tail entry line expression whole clear h same =
    cut_last_once 47 text entry.text tail h.tail clear (tail_apart h.asked) (sym whole ∙ same)

same_entry : (i j f g : ℕ) (d e : Ext) (t u : List ℕ) → i ≡ j → f ≡ g → d ≡ e → t ≡ u → (let x : ListedEntry = record { id = i; flags = f; ext = d; text = t } in x) ≡ record { id = j; flags = g; ext = e; text = u }
same_entry i j f g d e t u p q r s = cc

-- a line says one entry
pub entry_once : {line : List ℕ} {a b : ListedEntry} → IsEntryLine line a → IsEntryLine line b → a ≡ b
entry_once {line} {a} {b} p q =
    let outer = entry_parts line p.digits (47 ∷ (a.text ++ 47 ∷ p.tail)) b p.whole (number_apart 58 (λ digit. absurd (omega arith)) p.identifier) q in
    let expression : a.text ++ 47 ∷ p.tail ≡ b.text ++ 47 ∷ q.tail = cc (outer.right) in
    let inner = expression_parts a.text p.tail b line (a.text ++ 47 ∷ p.tail) refl (tail_apart p.asked) q expression in
    let asked = tail_once p.asked (subst (λ t. HasTail t b.flags b.ext) (sym inner.right) q.asked) in
    same_entry
    a.id
    b.id
    a.flags
    b.flags
    a.ext
    b.ext
    a.text
    b.text
    (sym p.identifier.spelled ∙ (ap (value_from 0) outer.left ∙ q.identifier.spelled))
    asked.left
    asked.right
    inner.left

-- a skipped line says no entry
pub skipped-no_entry : {line : List ℕ} {entry : ListedEntry} → IsSkipped line → IsEntryLine line entry → ⊥
skipped-no_entry {line} {entry} s h = by_digits h.digits h.identifier.some h.identifier.each (h.whole) s
  where
    by_digits : (digits : List ℕ) → digits ≢ [] → Each IsDigit digits → line ≡ digits ++ (58 ∷ (47 ∷ (entry.text ++ 47 ∷ h.tail))) → IsSkipped line → ⊥
    by_digits [] some each whole s = some refl
    by_digits (d ∷ ds) some each whole (empty e) = cc
    by_digits (d ∷ ds) some each whole (comment rest e) =
        let same : d ≡ 35 = cc in
        let low = each.0 in
        absurd (omega arith)

-- what stands between `{` and `}` gives the parameters
pub braces_give : {letters behind : List ℕ} {flags : ℕ} {ext : Ext} (settings : List ℕ) → behind ≡ settings ++ 125 ∷ [] → HasBraces letters behind flags ext → AreSettings settings no_parameters ext
braces_give {ext = ext} settings whole braces =
    subst (λ s. AreSettings s no_parameters ext) (sym (same_from_push settings braces.settings 125 125 (sym whole ∙ braces.whole)).0) braces.given

-- what stands behind `:/` in an entry's line
pub expression_is : (line digits behind expression : List ℕ) (entry : ListedEntry) → line ≡ digits ++ 58 ∷ behind → Each (λ b. b ≢ 58) digits → behind ≡ 47 ∷ expression → (h : IsEntryLine line entry) → expression ≡ entry.text ++ 47 ∷ h.tail
expression_is line digits behind expression entry whole clear slash h =
    let parts = entry_parts line digits behind entry whole clear h in
    let same : 47 ∷ expression ≡ 47 ∷ (entry.text ++ 47 ∷ h.tail) = sym slash ∙ parts.right in
    cc (same)

-- whether a line that isn't empty is a comment
pub comment_is : (line : List ℕ) → 1 ≤ length line → MatchBool (eqb (get_or line 0 0) 35) (IsSkipped line) (IsSkipped line → ⊥)
comment_is [] long = absurd (omega arith)
comment_is (x ∷ xs) long = by_byte (eqb x 35) refl
  where
    other_byte : eqb x 35 ≡ false → IsSkipped (x ∷ xs) → ⊥
    other_byte other (empty e) = cc
    other_byte other (comment rest e) = let same : x ≡ 35 = cc (e) in false≢true (sym other ∙ eq-eqb x 35 same)

    by_byte : (t : Bool) → eqb x 35 ≡ t → MatchBool t (IsSkipped (x ∷ xs)) (IsSkipped (x ∷ xs) → ⊥)
    by_byte true e = comment xs (ap (λ b. b ∷ xs) (eqb-true x 35 e))
    by_byte false e = other_byte e
