-- The lines of a script: what a line of a command begins with, and that a line is one command.
use Rattle.std.proofs.Common.{◌≡◌, ◌≢◌, ℕ, suc, ◌<◌, ◌≤◌, ◌^◌, inl, inr, eqb, cond, List, [], ◌∷◌, ◌++◌, length, get_or, decimal, refl, sym, ap, ◌∙◌, subst, arith, rules}
use Rattle.std.proofs.lemmas.Bool.{cases_lt}
use Rattle.std.proofs.lemmas.Fmt.{decimal_digit, decimal_nonempty, decimal_injective, digits_decimal, digits_value-decimal, decimal-digits_value, first_decimal, length-decimal-le}
use Rattle.std.proofs.lemmas.Str.Parse.{IsNumeralModel, numerals_by_fold}
use Rattle.hs_base.specs.Lists.{Each}
use Rattle.hs_text.specs.declared.commands.Verb.{Verb}
use Rattle.hs_text.specs.declared.commands.Verb.TheVariants as verb
use Rattle.hs_text.specs.Numbers.{IsDigit, value_from, IsNumber}
use Rattle.hs_text.specs.ReplyLines.{verb_text}
use Rattle.hs_text.specs.Commands.{IsNameByte, IsName, IsFileName, Order, Open, Write, Reset, Close, Save, Expand, verb_of, name_of, count_of, operands_of, NamesFile, IsCommand}
use Rattle.hs_text.specs.CommandParts.{AreOperands, HasFileParts, HasParts}
use Rattle.hs_text.proofs.CutLemmas.{AreSame, each-weaken, no_separator, cut_once}

-- digits and the number that they spell, as std has them
own : IsNumeralModel (Each IsDigit) (value_from 0)
own =
    numerals_by_fold
    (Each IsDigit)
    (record { empty = tt; parts = λ c cs p. p; more = λ c cs k p. (k, p) })
    value_from
    (record { empty = λ n. refl; more = λ n c cs k. refl })

-- a number is spelled by its decimal digits
pub decimal-number : (n : ℕ) → n < 2 ^ 63 → IsNumber 20 (2 ^ 64) (decimal n) n
decimal-number n small =
    record {
      each = digits_decimal own n (omega arith);
      some = λ e. let long = decimal_nonempty n (omega arith) in omega (arith, long, ap length e);
      short = length-decimal-le 20 n (omega arith) (omega arith) (omega arith);
      spelled = digits_value-decimal own n (omega arith);
      small = omega arith;
    }

-- no zero stands before other decimal digits
pub no_zero_before : (n : ℕ) → n < 2 ^ 63 → 1 < length (decimal n) → get_or (decimal n) 0 0 ≡ 48 → ⊥
no_zero_before n small long zero =
    elim (cases_lt n 10) [
      | inl one ↦ omega (arith, ap length (decimal_digit n one))
      | inr more ↦ let first = first_decimal n (omega arith) (omega arith) in omega arith
    ]

filled : (xs : List ℕ) → xs ≢ [] → 0 < length xs
filled [] some = absurd (some refl)
filled (x ∷ xs) some = omega arith

-- digits without a zero before them are the decimal digits of their number
pub number-decimal : (ds : List ℕ) (v : ℕ) → (get_or ds 0 0 ≡ 48 → length ds ≤ 1) → IsNumber 20 (2 ^ 64) ds v → ds ≡ decimal v
number-decimal ds v lead h =
    let long = filled ds h.some in
    sym (decimal-digits_value own ds h.each long (λ zero. let k = lead zero in omega arith) (subst (λ n. n < 2 ^ 64) (sym h.spelled) h.small))
    ∙ ap decimal h.spelled

-- the verb of a word, by its second byte
pub verb_from : List ℕ → Verb
verb_from word =
    cond (eqb (get_or word 1 0) 112) verb.Open
    (cond (eqb (get_or word 1 0) 114) verb.Write
    (cond (eqb (get_or word 1 0) 101) verb.Reset
    (cond (eqb (get_or word 1 0) 108) verb.Close (cond (eqb (get_or word 1 0) 97) verb.Save verb.Expand))))

verb_from-text : (v : Verb) → verb_from (verb_text v) ≡ v
unfolding verb_from
verb_from-text verb.Open = refl
verb_from-text verb.Write = refl
verb_from-text verb.Reset = refl
verb_from-text verb.Close = refl
verb_from-text verb.Save = refl
verb_from-text verb.Expand = refl

-- no two commands have one word
pub verb_once : (v w : Verb) → verb_text v ≡ verb_text w → v ≡ w
verb_once v w e = sym (verb_from-text v) ∙ (ap verb_from e ∙ verb_from-text w)

-- a word of a command is that of its verb
pub verb_of_word : (word : List ℕ) (v : Verb) → word ≡ verb_text v → verb_from word ≡ v
verb_of_word word v e = ap verb_from e ∙ verb_from-text v

-- what holds at each place holds of each byte
pub each_name_byte_at : (xs : List ℕ) → ((k : ℕ) → k < length xs → IsNameByte (get_or xs k 0)) → Each IsNameByte xs
each_name_byte_at [] h = tt
each_name_byte_at (x ∷ xs) h = (h 0 (omega arith), each_name_byte_at xs (λ k below. h (suc k) (omega (arith, below))))

no_space : (v : Verb) → Each (λ b. b ≢ 32) (verb_text v)
no_space verb.Open = search rules
no_space verb.Write = search rules
no_space verb.Reset = search rules
no_space verb.Close = search rules
no_space verb.Save = search rules
no_space verb.Expand = search rules

name_byte_apart : (b : ℕ) → IsNameByte b → b ≢ 32
name_byte_apart b h e = grind arith

-- a name has no space
pub name_apart : {name : List ℕ} → IsName name → Each (λ b. b ≢ 32) name
name_apart {name} h = each-weaken IsNameByte (λ b. b ≢ 32) name name_byte_apart h.each

-- the word of a command, and what stands behind it
pub line_parts : (line word operands : List ℕ) (order : Order) → line ≡ word ++ 32 ∷ operands → Each (λ b. b ≢ 32) word → IsCommand line order → AreSame word (verb_text (verb_of order)) operands (operands_of order)
line_parts line word operands order whole clear h =
    cut_once 32 word (verb_text (verb_of order)) operands (operands_of order) clear (no_space (verb_of order)) (sym whole ∙ h.whole)

-- a line without a space is no command
pub no_word : (line : List ℕ) → Each (λ b. b ≢ 32) line → (order : Order) → IsCommand line order → ⊥
no_word line clear order h = no_separator 32 (verb_text (verb_of order)) (operands_of order) (subst (λ t. Each (λ b. b ≢ 32) t) h.whole clear)

-- a line of another word is no command
pub other_word : (line word operands : List ℕ) → line ≡ word ++ 32 ∷ operands → Each (λ b. b ≢ 32) word → ((v : Verb) → word ≢ verb_text v) → (order : Order) → IsCommand line order → ⊥
other_word line word operands whole clear none order h = none (verb_of order) (line_parts line word operands order whole clear h).left

-- the operands of a command's line
pub line_operands : (line word operands : List ℕ) (v : Verb) → line ≡ word ++ 32 ∷ operands → Each (λ b. b ≢ 32) word → word ≡ verb_text v → (order : Order) → IsCommand line order → AreOperands v operands order
line_operands line word operands v whole clear named order h =
    let parts = line_parts line word operands order whole clear h in
    record {
      verb_is = verb_once v (verb_of order) (sym named ∙ parts.left);
      whole = parts.right;
      name = h.name;
      count = h.count;
      file = h.file;
    }

-- and the line of a word and operands
pub operands_line : (line word operands : List ℕ) (v : Verb) → line ≡ word ++ 32 ∷ operands → word ≡ verb_text v → (order : Order) → AreOperands v operands order → IsCommand line order
operands_line line word operands v whole named order h =
    record {
      whole = whole ∙ (ap (λ w. w ++ 32 ∷ operands) (named ∙ ap verb_text h.verb_is) ∙ ap (λ o. verb_text (verb_of order) ++ 32 ∷ o) h.whole);
      name = h.name;
      count = h.count;
      file = h.file;
    }

-- what stands behind a word: a name alone, with a number, or with a file
pub data Kind : Type 0 where
  alone : Kind
  numbered : Kind
  filed : Kind

abbrev pub kind_of : Verb → Kind
kind_of verb.Open = alone
kind_of verb.Write = numbered
kind_of verb.Reset = alone
kind_of verb.Close = alone
kind_of verb.Save = filed
kind_of verb.Expand = filed

-- the file that is named, if one is
abbrev pub file_of : Order → List ℕ
file_of (Open name) = []
file_of (Write name count) = []
file_of (Reset name) = []
file_of (Close name) = []
file_of (Save name file) = file
file_of (Expand name file) = file

-- what stands behind the word of a command
data IsOfForm (order : Order) : Type 0 where
  is_alone : kind_of (verb_of order) ≡ alone → operands_of order ≡ name_of order → count_of order ≡ 0 → file_of order ≡ [] → IsOfForm order
  is_numbered : kind_of (verb_of order) ≡ numbered → operands_of order ≡ name_of order ++ 32 ∷ decimal (count_of order) → file_of order ≡ [] → IsOfForm order
  is_filed : kind_of (verb_of order) ≡ filed → operands_of order ≡ name_of order ++ 32 ∷ file_of order → count_of order ≡ 0 → (NamesFile order → IsFileName (file_of order)) → IsOfForm order

form_of : (order : Order) → IsOfForm order
form_of (Open name) = is_alone refl refl refl refl
form_of (Write name count) = is_numbered refl refl refl
form_of (Reset name) = is_alone refl refl refl refl
form_of (Close name) = is_alone refl refl refl refl
form_of (Save name file) = is_filed refl refl refl (λ n. n)
form_of (Expand name file) = is_filed refl refl refl (λ n. n)

-- behind some words a name stands alone
pub names_operands : (v : Verb) (operands : List ℕ) → kind_of v ≡ alone → (order : Order) → AreOperands v operands order → IsName operands
names_operands v operands is order h = by_form (form_of order)
  where
    kind : kind_of (verb_of order) ≡ alone
    kind = ap kind_of (sym h.verb_is) ∙ is

    by_form : IsOfForm order → IsName operands
    by_form (is_alone k e z f) = subst IsName (sym (h.whole ∙ e)) h.name
    by_form (is_numbered k e f) = cc (kind, k)
    by_form (is_filed k e z f) = cc (kind, k)

-- behind the word of a write stand a name and a number
pub write_operands : (operands : List ℕ) (order : Order) → AreOperands verb.Write operands order → HasParts operands (name_of order) (count_of order)
write_operands operands order h = by_form (form_of order)
  where
    kind : kind_of (verb_of order) ≡ numbered
    kind = ap kind_of (sym h.verb_is)

    by_form : IsOfForm order → HasParts operands (name_of order) (count_of order)
    by_form (is_alone k e z f) = cc (kind, k)
    by_form (is_numbered k e f) = record { whole = h.whole ∙ e; is_name = h.name; small = h.count }
    by_form (is_filed k e z f) = cc (kind, k)

-- behind other words stand a name and a file
pub file_operands : (v : Verb) (operands : List ℕ) → kind_of v ≡ filed → (order : Order) → AreOperands v operands order → HasFileParts operands (name_of order) (file_of order)
file_operands v operands is order h = by_form (form_of order)
  where
    kind : kind_of (verb_of order) ≡ filed
    kind = ap kind_of (sym h.verb_is) ∙ is

    by_form : IsOfForm order → HasFileParts operands (name_of order) (file_of order)
    by_form (is_alone k e z f) = cc (kind, k)
    by_form (is_numbered k e f) = cc (kind, k)
    by_form (is_filed k e z f) = record { whole = h.whole ∙ e; is_name = h.name; is_file = f h.file }

-- the name and the digits of a write
pub parts_once : (operands name digits : List ℕ) (m : List ℕ) (count : ℕ) → operands ≡ name ++ 32 ∷ digits → Each (λ b. b ≢ 32) name → HasParts operands m count → AreSame name m digits (decimal count)
parts_once operands name digits m count whole clear h =
    cut_once 32 name m digits (decimal count) clear (name_apart h.is_name) (sym whole ∙ h.whole)

-- operands without a space aren't those of a write
pub no_parts : (operands : List ℕ) → Each (λ b. b ≢ 32) operands → (name : List ℕ) (count : ℕ) → HasParts operands name count → ⊥
no_parts operands clear name count h = no_separator 32 name (decimal count) (subst (λ t. Each (λ b. b ≢ 32) t) h.whole clear)

-- the name and the file of a save or of an expansion
pub file_parts_once : (operands name file : List ℕ) (m f : List ℕ) → operands ≡ name ++ 32 ∷ file → Each (λ b. b ≢ 32) name → HasFileParts operands m f → AreSame name m file f
file_parts_once operands name file m f whole clear h =
    cut_once 32 name m file f clear (name_apart h.is_name) (sym whole ∙ h.whole)

-- operands without a space aren't those
pub no_file_parts : (operands : List ℕ) → Each (λ b. b ≢ 32) operands → (name file : List ℕ) → HasFileParts operands name file → ⊥
no_file_parts operands clear name file h = no_separator 32 name file (subst (λ t. Each (λ b. b ≢ 32) t) h.whole clear)

made : Verb → List ℕ → ℕ → List ℕ → Order
made verb.Open name count file = Open name
made verb.Write name count file = Write name count
made verb.Reset name count file = Reset name
made verb.Close name count file = Close name
made verb.Save name count file = Save name file
made verb.Expand name count file = Expand name file

made_of : (order : Order) → made (verb_of order) (name_of order) (count_of order) (file_of order) ≡ order
unfolding made
made_of (Open name) = refl
made_of (Write name count) = refl
made_of (Reset name) = refl
made_of (Close name) = refl
made_of (Save name file) = refl
made_of (Expand name file) = refl

same_order : (x y : Order) → verb_of x ≡ verb_of y → name_of x ≡ name_of y → count_of x ≡ count_of y → file_of x ≡ file_of y → x ≡ y
same_order x y v n c f =
    sym (made_of x)
    ∙ (ap (λ w. made w (name_of x) (count_of x) (file_of x)) v
    ∙ (ap (λ m. made (verb_of y) m (count_of x) (file_of x)) n
    ∙ (ap (λ k. made (verb_of y) (name_of y) k (file_of x)) c ∙ (ap (λ l. made (verb_of y) (name_of y) (count_of y) l) f ∙ made_of y))))

-- a line is one command
pub command_once : (line : List ℕ) (x y : Order) → IsCommand line x → IsCommand line y → x ≡ y
command_once line x y p q = by_forms (form_of x) (form_of y)
  where
    parts : AreSame (verb_text (verb_of x)) (verb_text (verb_of y)) (operands_of x) (operands_of y)
    parts = line_parts line (verb_text (verb_of x)) (operands_of x) y p.whole (no_space (verb_of x)) q

    verbs : verb_of x ≡ verb_of y
    verbs = verb_once (verb_of x) (verb_of y) parts.left

    kinds : kind_of (verb_of x) ≡ kind_of (verb_of y)
    kinds = ap kind_of verbs

    by_forms : IsOfForm x → IsOfForm y → x ≡ y
    by_forms (is_alone k e z a) (is_alone l f w b) = same_order x y verbs (sym e ∙ (parts.right ∙ f)) (z ∙ sym w) (a ∙ sym b)
    by_forms (is_alone k e z a) (is_numbered l f b) = cc (k, l, kinds)
    by_forms (is_alone k e z a) (is_filed l f w b) = cc (k, l, kinds)
    by_forms (is_numbered k e a) (is_alone l f w b) = cc (k, l, kinds)
    by_forms (is_numbered k e a) (is_filed l f w b) = cc (k, l, kinds)
    by_forms (is_filed k e z a) (is_alone l f w b) = cc (k, l, kinds)
    by_forms (is_filed k e z a) (is_numbered l f b) = cc (k, l, kinds)
    by_forms (is_filed k e z a) (is_filed l f w b) =
        let both = cut_once 32 (name_of x) (name_of y) (file_of x) (file_of y) (name_apart p.name) (name_apart q.name) (sym e ∙ (parts.right ∙ f)) in
        same_order x y verbs both.left (z ∙ sym w) both.right
    by_forms (is_numbered k e a) (is_numbered l f b) =
        let both = cut_once 32 (name_of x) (name_of y) (decimal (count_of x)) (decimal (count_of y)) (name_apart p.name) (name_apart q.name) (sym e ∙ (parts.right ∙ f)) in
        let small = p.count in
        let small' = q.count in
        same_order x y verbs both.left (decimal_injective (count_of x) (count_of y) (omega arith) (omega arith) both.right) (a ∙ sym b)
