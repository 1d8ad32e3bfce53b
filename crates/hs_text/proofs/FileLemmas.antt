-- Files: each is a list in one way or has one first bad line, and never both.
use Rattle.std.proofs.Common.{◌≡◌, ◌≢◌, ℕ, zero, suc, ◌<◌, Bool, true, false, eqb, List, [], ◌∷◌, ◌++◌, length, refl, sym, ap, ◌∙◌, subst, arith}
use Rattle.std.proofs.lemmas.Bool.{eq-eqb, eqb-true, false≢true}
use Rattle.std.proofs.lemmas.List.{length-append}
use Rattle.hs_base.specs.Lists.{Each}
use Rattle.hs_base.specs.Assertions.{line_feed}
use Rattle.hs_text.specs.Lines.{IsLineOf, plain, returned, Begins, unended, ended}
use Rattle.hs_base.specs.Entries.{ListedEntry}
use Rattle.hs_text.specs.EntryLines.{IsEntryLine}
use Rattle.hs_text.specs.PatternFile.{IsSkipped, IsBad, IsList, nothing, skipped, listed, HasBadLine, first, behind_skipped, behind_entry}
use Rattle.hs_text.specs.Laws.{NeverNeither}
use Rattle.hs_text.proofs.LineLemmas.{begins_once, entry_once, skipped-no_entry}

-- an empty file has no line
pub no_line : {l r : List ℕ} → Begins l r [] → ⊥
no_line (unended some p line e) = some refl
no_line {r = r} (ended raw p line whole) = by_raw raw whole
  where
    by_raw : (xs : List ℕ) → [] ≡ xs ++ line_feed ∷ r → ⊥
    by_raw [] e = cc
    by_raw (x ∷ xs) e = cc

same_skipped : {l m : List ℕ} → l ≡ m → IsSkipped m → IsSkipped l
same_skipped e s = subst IsSkipped (sym e) s

same_line : {l m : List ℕ} {entry : ListedEntry} → l ≡ m → IsEntryLine m entry → IsEntryLine l entry
same_line {entry = entry} e h = subst (λ line. IsEntryLine line entry) (sym e) h

same_list : {r s : List ℕ} {entries : List ListedEntry} → r ≡ s → IsList s entries → IsList r entries
same_list {entries = entries} e h = subst (λ file. IsList file entries) (sym e) h

same_bad : {r s : List ℕ} {number : ℕ} → r ≡ s → HasBadLine s number → HasBadLine r number
same_bad {number = number} e h = subst (λ file. HasBadLine file number) (sym e) h

pub list_once : {file : List ℕ} {xs ys : List ListedEntry} → IsList file xs → IsList file ys → xs ≡ ys
list_once nothing nothing = refl
list_once nothing (skipped b s l) = absurd (no_line b)
list_once nothing (listed b h l) = absurd (no_line b)
list_once (skipped b s l) nothing = absurd (no_line b)
list_once (listed b h l) nothing = absurd (no_line b)
list_once (skipped b s l) (skipped b' s' l') =
    let both = begins_once b b' in list_once l (same_list both.right l')
list_once (skipped b s l) (listed b' h' l') =
    let both = begins_once b b' in absurd (skipped-no_entry s (same_line both.left h'))
list_once (listed b h l) (skipped b' s' l') =
    let both = begins_once b b' in absurd (skipped-no_entry (same_skipped both.left s') h)
list_once (listed b h l) (listed b' h' l') =
    let both = begins_once b b' in
    let head = entry_once h (same_line both.left h') in
    let tail = list_once l (same_list both.right l') in
    cc

pub never_both : {file : List ℕ} {xs : List ListedEntry} {n : ℕ} → IsList file xs → HasBadLine file n → ⊥
never_both nothing (first b bad) = no_line b
never_both nothing (behind_skipped b s bad) = no_line b
never_both nothing (behind_entry b h bad) = no_line b
never_both (skipped b s l) (first b' bad) =
    let both = begins_once b' b in bad.written (same_skipped both.left s)
never_both (skipped b s l) (behind_skipped b' s' bad) =
    let both = begins_once b b' in never_both l (same_bad both.right bad)
never_both (skipped b s l) (behind_entry b' h' bad) =
    let both = begins_once b b' in skipped-no_entry s (same_line both.left h')
never_both (listed {entry = entry} b h l) (first b' bad) =
    let both = begins_once b' b in bad.no_entry entry (same_line both.left h)
never_both (listed b h l) (behind_skipped b' s' bad) =
    let both = begins_once b b' in skipped-no_entry (same_skipped both.left s') h
never_both (listed b h l) (behind_entry b' h' bad) =
    let both = begins_once b b' in never_both l (same_bad both.right bad)

pub bad_once : {file : List ℕ} {m n : ℕ} → HasBadLine file m → HasBadLine file n → m ≡ n
bad_once (first b bad) (first b' bad') = refl
bad_once (first b bad) (behind_skipped b' s' bad') =
    let both = begins_once b b' in absurd (bad.written (same_skipped both.left s'))
bad_once (first b bad) (behind_entry {entry = entry} b' h' bad') =
    let both = begins_once b b' in absurd (bad.no_entry entry (same_line both.left h'))
bad_once (behind_skipped b s bad) (first b' bad') =
    let both = begins_once b' b in absurd (bad'.written (same_skipped both.left s))
bad_once (behind_skipped b s bad) (behind_skipped b' s' bad') =
    let both = begins_once b b' in ap suc (bad_once bad (same_bad both.right bad'))
bad_once (behind_skipped b s bad) (behind_entry b' h' bad') =
    let both = begins_once b b' in ap suc (bad_once bad (same_bad both.right bad'))
bad_once (behind_entry {entry = entry} b h bad) (first b' bad') =
    let both = begins_once b' b in absurd (bad'.no_entry entry (same_line both.left h))
bad_once (behind_entry b h bad) (behind_skipped b' s' bad') =
    let both = begins_once b b' in ap suc (bad_once bad (same_bad both.right bad'))
bad_once (behind_entry b h bad) (behind_entry b' h' bad') =
    let both = begins_once b b' in ap suc (bad_once bad (same_bad both.right bad'))

-- ends with a carriage return, or doesn't
line_of : (raw : List ℕ) → (line : List ℕ) × IsLineOf raw line
line_of [] = ([], plain (λ front e. by_front front e) refl)
  where
    by_front : (front : List ℕ) → [] ≡ front ++ 13 ∷ [] → ⊥
    by_front [] e = cc
    by_front (x ∷ xs) e = cc
line_of (x ∷ []) = by_byte (eqb x 13) refl
  where
    short : (front : List ℕ) → eqb x 13 ≡ false → x ∷ [] ≡ front ++ 13 ∷ [] → ⊥
    short [] other e = let same : x ≡ 13 = cc in false≢true (sym other ∙ eq-eqb x 13 same)
    short (y ∷ []) other e = cc
    short (y ∷ (z ∷ zs)) other e = cc

    by_byte : (t : Bool) → eqb x 13 ≡ t → (line : List ℕ) × IsLineOf (x ∷ []) line
    by_byte true e = ([], returned (ap (λ b. b ∷ []) (eqb-true x 13 e)))
    by_byte false e = (x ∷ [], plain (λ front. short front e) refl)
line_of (x ∷ (y ∷ ys)) = longer (line_of (y ∷ ys))
  where
    behind : (front : List ℕ) → ((f : List ℕ) → y ∷ ys ≢ f ++ 13 ∷ []) → x ∷ (y ∷ ys) ≡ front ++ 13 ∷ [] → ⊥
    behind [] none e = cc
    behind (z ∷ zs) none e = none zs cc

    by_line : (line : List ℕ) → IsLineOf (y ∷ ys) line → (l : List ℕ) × IsLineOf (x ∷ (y ∷ ys)) l
    by_line line (plain none same) = (x ∷ (y ∷ ys), plain (λ front. behind front none) refl)
    by_line line (returned e) = (x ∷ line, returned (ap (λ l. x ∷ l) e))

    longer : (line : List ℕ) × IsLineOf (y ∷ ys) line → (l : List ℕ) × IsLineOf (x ∷ (y ∷ ys)) l
    longer p = by_line p.0 p.1

-- a list cut at its first separator
data HasCut (c : ℕ) (xs : List ℕ) : Type 0 where
  clear : Each (λ b. b ≢ c) xs → HasCut c xs
  at : (a b : List ℕ) → Each (λ n. n ≢ c) a → xs ≡ a ++ c ∷ b → HasCut c xs

cut_of : (c : ℕ) (xs : List ℕ) → HasCut c xs
cut_of c [] = clear tt
cut_of c (x ∷ xs) = by_byte (eqb x c) refl (cut_of c xs)
  where
    apart : eqb x c ≡ false → x ≢ c
    apart other e = false≢true (sym other ∙ eq-eqb x c e)

    behind : eqb x c ≡ false → HasCut c xs → HasCut c (x ∷ xs)
    behind other (clear p) = clear (apart other, p)
    behind other (at a b p whole) = at (x ∷ a) b (apart other, p) (ap (λ l. x ∷ l) whole)

    by_byte : (t : Bool) → eqb x c ≡ t → HasCut c xs → HasCut c (x ∷ xs)
    by_byte true e cut = at [] xs tt (ap (λ b. b ∷ xs) (eqb-true x c e))
    by_byte false e cut = behind e cut

-- the first line of a file, with a rest that is shorter
record HasFirstLine (file : List ℕ) : Type 0 where
  line : List ℕ
  rest : List ℕ
  begins : Begins line rest file
  shorter : length rest < length file

first_line_of : (x : ℕ) (xs : List ℕ) → HasFirstLine (x ∷ xs)
first_line_of x xs = by_cut (cut_of line_feed (x ∷ xs))
  where
    by_cut : HasCut line_feed (x ∷ xs) → HasFirstLine (x ∷ xs)
    by_cut (clear p) = record { line = (line_of (x ∷ xs)).0; rest = []; begins = unended (λ e. cc) p (line_of (x ∷ xs)).1 refl; shorter = omega arith }
    by_cut (at a b p whole) = record {
      line = (line_of a).0;
      rest = b;
      begins = ended a p (line_of a).1 whole;
      shorter = let e = ap length whole ∙ length-append a (line_feed ∷ b) in omega arith;
    }

neither_below : (n : ℕ) (file : List ℕ) → length file < n → ((entries : List ListedEntry) → IsList file entries → ⊥) → ((number : ℕ) → HasBadLine file number → ⊥) → ⊥
neither_below zero file below no_list no_bad = absurd (omega arith)
neither_below (suc n) [] below no_list no_bad = no_list [] nothing
neither_below (suc n) (x ∷ xs) below no_list no_bad =
    let head = first_line_of x xs in
    let bad : IsBad head.line = record {
      written = λ s. neither_below n head.rest (omega (arith, head.shorter)) (λ entries l. no_list entries (skipped head.begins s l)) (λ number b. no_bad (suc number) (behind_skipped head.begins s b));
      no_entry = λ entry h. neither_below n head.rest (omega (arith, head.shorter)) (λ entries l. no_list (entry ∷ entries) (listed head.begins h l)) (λ number b. no_bad (suc number) (behind_entry head.begins h b));
    } in
    no_bad 1 (first head.begins bad)

pub never_neither : NeverNeither
never_neither file no_list no_bad = neither_below (suc (length file)) file (omega arith) no_list no_bad
