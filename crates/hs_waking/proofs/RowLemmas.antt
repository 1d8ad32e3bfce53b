-- The rows of an automaton from one position each, and its one row as all of them.
use Rattle.std.proofs.Common.{◌≡◌, ℕ, zero, suc, ◌<◌, ◌≤◌, Bool, true, List, [], ◌∷◌, ◌++◌, length, map, nat_eq, Some, slice_get, Vec, Global, vec_len, refl, sym, ap, subst, ◌∙◌, inl, inr, arith, length-append}
use Rattle.std.proofs.lemmas.Bool.{cases_lt}
use Rattle.std.proofs.lemmas.List.{map-append}
use Rattle.std.proofs.lemmas.Option.{same_Some, slice_get_past, slice_get_within}
use Rattle.std.proofs.lemmas.Slice.Eq.{slice_eq-Decides}
use Rattle.std.specs.Bool.{Decides}
use Rattle.std.specs.Cmp.Lexicographic.{bytes_decides, pointwise}
use Rattle.hs_base.specs.declared.byte_set.ByteSet.{ByteSet}
use Rattle.hs_base.specs.Bits.{has_word_bit}
use Rattle.hs_base.specs.Contexts.{Context}
use Rattle.hs_engine.specs.declared.automaton.Automaton.{Automaton}
use Rattle.hs_engine.specs.Automata.{enters, in_mask}
use Rattle.hs_engine.specs.Engines.{Meaning}
use Rattle.hs_engine.proofs.AgreementLemmas.{get-append, get-seam}
use Rattle.hs_waking.proofs.AnyLemmas.{true-false}
use Rattle.hs_waking.specs.declared.prev_set.PrevSet.{PrevSet}
use Rattle.hs_waking.specs.EntryRows.{TellBeginnings, TellsBeginnings}
use Rattle.hs_waking.specs.Rows.{AddsRow, AreRowsOf, IsAtLevel, IsAtLevelFrom, IsRowFrom, IsRowFromEach, IsRowOf, row_sets}

-- the levels from a position that is entered are among those of the automaton, and each position of these is of one of
-- those

pub level-all : (a : Automaton) (first : ℕ) (c : Context) → enters a first c ≡ true → (d y : ℕ) → IsAtLevelFrom a first d y → IsAtLevel a d y
level-all a first c enter zero y same = (c, subst (λ x. enters a x c ≡ true) (sym same) enter)
level-all a first c enter (suc d) y (x, h, before, follow) = (x, h, level-all a first c enter d x before, follow)

pub level-one : (a : Automaton) (d y : ℕ) → IsAtLevel a d y → (first : ℕ) × (c : Context) × (enters a first c ≡ true) × IsAtLevelFrom a first d y
level-one a zero y (c, enter) = (y, c, enter, refl)
level-one a (suc d) y (x, h, before, follow) = let (first, c, enter, from) = level-one a d x before in (first, c, enter, (x, h, from, follow))

pub row-from : (a : Automaton) (row : List ByteSet) → IsRowOf a row → (first : ℕ) (c : Context) → enters a first c ≡ true → IsRowFrom a first row
row-from a row is first c enter = record {
  some = is.some;
  sets = λ d x b below at_level. is.sets d x b below (level-all a first c enter d x at_level);
  ends = λ d x h below at_level. is.ends d x h below (level-all a first c enter d x at_level);
}

pub row-of-each : (a : Automaton) (words : List ℕ) (row : List ByteSet) → ((first : ℕ) (c : Context) → enters a first c ≡ true → has_word_bit words first ≡ true) → IsRowFromEach a words row → IsRowOf a row
row-of-each a words row firsts is = record {
  some = is.some;
  sets = λ d x b below at_level. let (first, c, enter, from) = level-one a d x at_level in (is.each first (firsts first c enter)).sets d x b below from;
  ends = λ d x h below at_level. let (first, c, enter, from) = level-one a d x at_level in (is.each first (firsts first c enter)).ends d x h below from;
}

-- one row

pub one-row : (a : Automaton) (row : List ByteSet) → IsRowOf a row → AreRowsOf a (row ∷ [])
one-row a row is x c enter = (0, row, refl, row-from a row is x c enter)

pub tells-one-row : (m : Meaning) (behind : PrevSet) (row : List ByteSet) → TellsBeginnings m behind row → TellBeginnings m behind (row ∷ [])
tells-one-row m behind row tells = record {
  wakes = λ region bytes prev start small nowhere. tells.wakes region bytes prev start small (nowhere 0 row refl);
  enters = λ kept prev bytes small keeps. tells.enters kept prev bytes small (λ i. keeps 0 i row refl);
}

-- rows that are kept

-- no position behind the last one is entered
pub entered-within : (a : Automaton) (x : ℕ) (c : Context) → enters a x c ≡ true → x < vec_len a.sets
entered-within a x c enter =
    elim (cases_lt x (vec_len a.sets)) [
      | inl within ↦ within
      | inr past ↦ true-false (enters a x c) enter (ap (λ o. in_mask o c) (slice_get_past a.enters.items x (omega (arith, past, a.enters.ok.0, a.enters_whole))))
    ]

-- one more, behind the others
adds-behind : (a : Automaton) (x : ℕ) (old : List (List ByteSet)) (row : List ByteSet) → length row ≤ 8 → IsRowFrom a x row → AddsRow a x old (old ++ row ∷ [])
adds-behind a x old row few is = record {
  kept = λ y has. let (k, own, there, from) = has in (k, own, get-append old (row ∷ []) k row (slice_get_within old k own there) ∙ there, from);
  added = λ c enter. (length old, row, get-seam old row, is);
  short = λ short k own there.
      elim (cases_lt k (length old)) [
        | inl before ↦ short k own (sym (get-append old (row ∷ []) k row before) ∙ there)
        | inr past ↦
            let within : k < length (old ++ row ∷ []) = slice_get_within (old ++ row ∷ []) k own there in
            let last : k ≡ length old = omega (arith, within, past, length-append old (row ∷ [])) in
            let same : row ≡ own = same_Some row own (sym (get-seam old row) ∙ subst (λ i. slice_get (old ++ row ∷ []) i ≡ Some own) last there) in
            subst (λ r. length r ≤ 8) same few
      ];
}

pub push-adds : (a : Automaton) (x : ℕ) (old new : List (Vec ByteSet Global)) (row : Vec ByteSet Global) → new ≡ old ++ row ∷ [] → length row.items ≤ 8 → IsRowFrom a x row.items → AddsRow a x (map row_sets old) (map row_sets new)
push-adds a x old new row items few is =
    subst (AddsRow a x (map row_sets old)) (sym (ap (map row_sets) items ∙ map-append row_sets old (row ∷ []))) (adds-behind a x (map row_sets old) row.items few is)

pub push-one : (a : Automaton) (old new : List (Vec ByteSet Global)) (row : Vec ByteSet Global) → new ≡ old ++ row ∷ [] → old ≡ [] → IsRowOf a row.items → AreRowsOf a (map row_sets new)
push-one a old new row items none is = subst (λ vs. AreRowsOf a (map row_sets vs)) (sym (items ∙ ap (λ vs. vs ++ row ∷ []) none)) (one-row a row.items is)

-- rows whose sets have equal words are the same

same-words : (a b : ByteSet) → Decides (pointwise nat_eq a.words b.words) (a ≡ b)
same-words a b = (λ is i. record { words = (bytes_decides a.words b.words).0 is i }, λ same. (bytes_decides a.words b.words).1 (ap (λ (s : ByteSet). s.words) same))

pub same-rows : (xs ys : List ByteSet) (r : Bool) → r ≡ pointwise (λ (a b : ByteSet). pointwise nat_eq a.words b.words) xs ys → r ≡ true → xs ≡ ys
same-rows xs ys r is = (slice_eq-Decides same-words xs ys r is).0
