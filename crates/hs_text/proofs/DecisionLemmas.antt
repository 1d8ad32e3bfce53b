-- Whether a line is a command can be told.
use Rattle.std.proofs.Common.{◌≡◌, ◌≢◌, ℕ, ◌<◌, ◌≤◌, ◌^◌, ◌⊎◌, inl, inr, Bool, true, false, eqb, bytes_eq, List, [], ◌∷◌, ◌++◌, length, get_or, decimal, refl, sym, ap, ◌∙◌, subst, arith}
use Rattle.std.proofs.lemmas.Bool.{cases_lt, eq-eqb, eqb-true, false≢true}
use Rattle.std.proofs.lemmas.Slice.Eq.{bytes_eq-Decides}
use Rattle.hs_base.specs.Lists.{Each}
use Rattle.hs_text.specs.declared.commands.Verb.{Verb}
use Rattle.hs_text.specs.declared.commands.Verb.TheVariants as verb
use Rattle.hs_text.specs.Numbers.{value_from}
use Rattle.hs_text.specs.ReplyLines.{verb_text}
use Rattle.hs_text.specs.Commands.{IsNameByte, IsFirstByte, IsName, IsFileName, Order, Open, Write, Reset, Close, Save, Expand, verb_of, name_of, count_of, operands_of, NamesFile, IsCommand}
use Rattle.hs_text.specs.CommandParts.{AreOperands}
use Rattle.hs_text.proofs.CommandLemmas.{decimal-number, verb_from, verb_of_word, no_word, other_word, line_operands, operands_line, Kind, alone, numbered, filed, kind_of, file_of, names_operands, write_operands, file_operands, parts_once, no_parts, file_parts_once, no_file_parts}

-- it holds or not
abbrev pub IsTold : Type 0 → Type 0
IsTold P = P ⊎ (P → ⊥)

either : {P Q : Type 0} → IsTold P → IsTold Q → IsTold (P ⊎ Q)
either (inl p) q = inl (inl p)
either (inr p) (inl q) = inl (inr q)
either {P} {Q} (inr p) (inr q) = inr neither
  where
    neither : P ⊎ Q → ⊥
    neither (inl x) = p x
    neither (inr x) = q x

in_range : (low high b : ℕ) → IsTold ((low ≤ b) × (b ≤ high))
in_range low high b =
    elim (cases_lt b low) [
      | inl below ↦ inr (λ h. let k = h.0 in omega (arith, below, k))
      | inr above ↦
          elim (cases_lt high b) [
            | inl beyond ↦ inr (λ h. let k = h.1 in omega (arith, beyond, k))
            | inr within ↦ inl (omega (arith, above), omega (arith, within))
          ]
    ]

equal : (a b : ℕ) → IsTold (a ≡ b)
equal a b = by_test (eqb a b) refl
  where
    by_test : (t : Bool) → eqb a b ≡ t → IsTold (a ≡ b)
    by_test true e = inl (eqb-true a b e)
    by_test false e = inr (λ same. false≢true (sym e ∙ eq-eqb a b same))

same_bytes : (xs ys : List ℕ) → IsTold (xs ≡ ys)
same_bytes xs ys = by_test (bytes_eq xs ys) refl
  where
    by_test : (t : Bool) → bytes_eq xs ys ≡ t → IsTold (xs ≡ ys)
    by_test true e = inl ((bytes_eq-Decides xs ys).0 e)
    by_test false e = inr (λ same. false≢true (sym e ∙ (bytes_eq-Decides xs ys).1 same))

name_byte : (b : ℕ) → IsTold (IsNameByte b)
name_byte b = either (in_range 65 90 b) (either (in_range 97 122 b) (either (in_range 48 57 b) (either (equal b 95) (either (equal b 46) (equal b 45)))))

each_name_byte : (xs : List ℕ) → IsTold (Each IsNameByte xs)
each_name_byte [] = inl tt
each_name_byte (x ∷ xs) = both (name_byte x) (each_name_byte xs)
  where
    both : IsTold (IsNameByte x) → IsTold (Each IsNameByte xs) → IsTold (Each IsNameByte (x ∷ xs))
    both (inl p) (inl q) = inl (p, q)
    both (inl p) (inr q) = inr (λ h. q h.1)
    both (inr p) q = inr (λ h. p h.0)

is_name : (xs : List ℕ) → IsTold (IsName xs)
is_name [] = inr (λ h. h.some refl)
is_name (x ∷ xs) = by_parts (each_name_byte (x ∷ xs)) (cases_lt 32 (length (x ∷ xs)))
  where
    by_parts : IsTold (Each IsNameByte (x ∷ xs)) → (32 < length (x ∷ xs)) ⊎ (length (x ∷ xs) ≤ 32) → IsTold (IsName (x ∷ xs))
    by_parts (inr p) long = inr (λ h. p h.each)
    by_parts (inl p) (inl long) = inr (λ h. let k = h.short in omega (arith, k, long))
    by_parts (inl p) (inr short) = inl (record { each = p; some = λ e. cc; short = short })

first_byte : (b : ℕ) → IsTold (IsFirstByte b)
first_byte b = either (in_range 65 90 b) (either (in_range 97 122 b) (either (in_range 48 57 b) (equal b 95)))

is_file_name : (xs : List ℕ) → IsTold (IsFileName xs)
is_file_name xs = by_parts (each_name_byte xs) (first_byte (get_or xs 0 0)) (cases_lt 64 (length xs))
  where
    by_parts : IsTold (Each IsNameByte xs) → IsTold (IsFirstByte (get_or xs 0 0)) → (64 < length xs) ⊎ (length xs ≤ 64) → IsTold (IsFileName xs)
    by_parts (inr p) q long = inr (λ h. p h.each)
    by_parts (inl p) (inr q) long = inr (λ h. q h.first)
    by_parts (inl p) (inl q) (inl long) = inr (λ h. let k = h.short in omega (arith, k, long))
    by_parts (inl p) (inl q) (inr short) = inl (record { each = p; first = q; short = short })

-- the first separator, with what stands before and behind it, or none
data IsCutAt (c : ℕ) (xs : List ℕ) : Type 0 where
  parted : (front back : List ℕ) → Each (λ b. b ≢ c) front → xs ≡ front ++ c ∷ back → IsCutAt c xs
  unparted : Each (λ b. b ≢ c) xs → IsCutAt c xs

cut_at : (c : ℕ) (xs : List ℕ) → IsCutAt c xs
cut_at c [] = unparted tt
cut_at c (x ∷ xs) = by_test (equal x c) (cut_at c xs)
  where
    by_test : IsTold (x ≡ c) → IsCutAt c xs → IsCutAt c (x ∷ xs)
    by_test (inl e) rest = parted [] xs tt (ap (λ b. b ∷ xs) e)
    by_test (inr other) (parted front back clear whole) = parted (x ∷ front) back (other, clear) (ap (λ l. x ∷ l) whole)
    by_test (inr other) (unparted clear) = unparted (other, clear)

-- the line is a command, or none
pub data IsToldCommand (line : List ℕ) : Type 0 where
  some_command : (order : Order) → IsCommand line order → IsToldCommand line
  none_command : ((order : Order) → IsCommand line order → ⊥) → IsToldCommand line

data AreToldOperands (v : Verb) (operands : List ℕ) : Type 0 where
  some_operands : (order : Order) → AreOperands v operands order → AreToldOperands v operands
  none_operands : ((order : Order) → AreOperands v operands order → ⊥) → AreToldOperands v operands

named_operands : (v : Verb) (operands : List ℕ) → kind_of v ≡ alone → (order : Order) → v ≡ verb_of order → operands ≡ operands_of order → operands ≡ name_of order → count_of order ≡ 0 → NamesFile order → IsTold (IsName operands) → AreToldOperands v operands
named_operands v operands other order e whole name none file (inl is) =
    some_operands order (record { verb_is = e; whole = whole; name = subst IsName name is; count = omega (arith, none); file = file })
named_operands v operands other order e whole name none file (inr not) = none_operands (λ o h. not (names_operands v operands other o h))

counted_operands : (operands name digits : List ℕ) → operands ≡ name ++ 32 ∷ digits → Each (λ b. b ≢ 32) name → IsTold (IsName name) → IsTold (digits ≡ decimal (value_from 0 digits)) → (value_from 0 digits < 2 ^ 63) ⊎ (2 ^ 63 ≤ value_from 0 digits) → AreToldOperands verb.Write operands
counted_operands operands name digits whole clear (inr not) is small =
    none_operands (λ o h. let p = write_operands operands o h in not (subst IsName (sym (parts_once operands name digits (name_of o) (count_of o) whole clear p).left) p.is_name))
counted_operands operands name digits whole clear (inl named) (inl is) (inl small) =
    some_operands
    (Write name (value_from 0 digits))
    (record { verb_is = refl; whole = whole ∙ ap (λ d. name ++ 32 ∷ d) is; name = named; count = small; file = tt })
counted_operands operands name digits whole clear (inl named) (inr not) small =
    none_operands (λ o h.
    let p = write_operands operands o h in
    let e = (parts_once operands name digits (name_of o) (count_of o) whole clear p).right in
    not (e ∙ ap decimal (sym (ap (value_from 0) e ∙ (decimal-number (count_of o) p.small).spelled))))
counted_operands operands name digits whole clear (inl named) (inl is) (inr big) =
    none_operands (λ o h.
    let p = write_operands operands o h in
    let e = (parts_once operands name digits (name_of o) (count_of o) whole clear p).right in
    let value = ap (value_from 0) e ∙ (decimal-number (count_of o) p.small).spelled in
    let small = p.small in
    omega (arith, big, value, small))

write_told : (operands : List ℕ) → IsCutAt 32 operands → AreToldOperands verb.Write operands
write_told operands (unparted clear) =
    none_operands (λ o h. no_parts operands clear (name_of o) (count_of o) (write_operands operands o h))
write_told operands (parted name digits clear whole) =
    counted_operands operands name digits whole clear (is_name name) (same_bytes digits (decimal (value_from 0 digits))) (cases_lt (value_from 0 digits) (2 ^ 63))

-- the command of a word, a name and a file
record IsOfWord (v : Verb) (name file : List ℕ) : Type 0 where
  order : Order
  verb_is : v ≡ verb_of order
  operands_are : operands_of order ≡ name ++ 32 ∷ file
  name_is : name_of order ≡ name
  none : count_of order ≡ 0
  file_is : IsFileName file → NamesFile order

filed_operands : (v : Verb) → kind_of v ≡ filed → ((name file : List ℕ) → IsOfWord v name file) → (operands name file : List ℕ) → operands ≡ name ++ 32 ∷ file → Each (λ b. b ≢ 32) name → IsTold (IsName name) → IsTold (IsFileName file) → AreToldOperands v operands
filed_operands v kind make operands name file whole clear (inl named) (inl is) =
    let made = make name file in
    let zero = made.none in
    some_operands made.order (record { verb_is = made.verb_is; whole = whole ∙ sym made.operands_are; name = subst IsName (sym made.name_is) named; count = omega (arith, zero); file = made.file_is is })
filed_operands v kind make operands name file whole clear (inr not) is =
    none_operands (λ o h. let p = file_operands v operands kind o h in not (subst IsName (sym (file_parts_once operands name file (name_of o) (file_of o) whole clear p).left) p.is_name))
filed_operands v kind make operands name file whole clear (inl named) (inr not) =
    none_operands (λ o h. let p = file_operands v operands kind o h in not (subst IsFileName (sym (file_parts_once operands name file (name_of o) (file_of o) whole clear p).right) p.is_file))

file_told : (v : Verb) → kind_of v ≡ filed → ((name file : List ℕ) → IsOfWord v name file) → (operands : List ℕ) → IsCutAt 32 operands → AreToldOperands v operands
file_told v kind make operands (unparted clear) =
    none_operands (λ o h. no_file_parts operands clear (name_of o) (file_of o) (file_operands v operands kind o h))
file_told v kind make operands (parted name file clear whole) = filed_operands v kind make operands name file whole clear (is_name name) (is_file_name file)

operands_told : (v : Verb) (operands : List ℕ) → AreToldOperands v operands
operands_told verb.Open operands = named_operands verb.Open operands refl (Open operands) refl refl refl refl tt (is_name operands)
operands_told verb.Write operands = write_told operands (cut_at 32 operands)
operands_told verb.Reset operands = named_operands verb.Reset operands refl (Reset operands) refl refl refl refl tt (is_name operands)
operands_told verb.Close operands = named_operands verb.Close operands refl (Close operands) refl refl refl refl tt (is_name operands)
operands_told verb.Save operands = file_told verb.Save refl (λ name file. record { order = Save name file; verb_is = refl; operands_are = refl; name_is = refl; none = refl; file_is = λ n. n }) operands (cut_at 32 operands)
operands_told verb.Expand operands = file_told verb.Expand refl (λ name file. record { order = Expand name file; verb_is = refl; operands_are = refl; name_is = refl; none = refl; file_is = λ n. n }) operands (cut_at 32 operands)

by_operands : (line word operands : List ℕ) (v : Verb) → line ≡ word ++ 32 ∷ operands → Each (λ b. b ≢ 32) word → word ≡ verb_text v → AreToldOperands v operands → IsToldCommand line
by_operands line word operands v whole clear named (some_operands order is) = some_command order (operands_line line word operands v whole named order is)
by_operands line word operands v whole clear named (none_operands none) =
    none_command (λ o h. none o (line_operands line word operands v whole clear named o h))

by_word : (line word operands : List ℕ) → line ≡ word ++ 32 ∷ operands → Each (λ b. b ≢ 32) word → IsTold (word ≡ verb_text (verb_from word)) → IsToldCommand line
by_word line word operands whole clear (inl named) = by_operands line word operands (verb_from word) whole clear named (operands_told (verb_from word) operands)
by_word line word operands whole clear (inr not) =
    none_command (other_word line word operands whole clear (λ v e. not (e ∙ ap verb_text (sym (verb_of_word word v e)))))

-- whether a line is a command can be told
pub command_told : (line : List ℕ) → IsToldCommand line
command_told line = by_cut (cut_at 32 line)
  where
    by_cut : IsCutAt 32 line → IsToldCommand line
    by_cut (unparted clear) = none_command (no_word line clear)
    by_cut (parted word operands clear whole) = by_word line word operands whole clear (same_bytes word (verb_text (verb_from word)))
