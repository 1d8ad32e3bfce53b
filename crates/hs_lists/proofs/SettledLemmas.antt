-- Pattern files of which the beginning shows that they aren't of the form.
use Rattle.std.proofs.Common.{◌≡◌, ◌≢◌, ℕ, zero, suc, ◌+◌, ◌-◌, ◌<◌, ◌≤◌, Bool, true, false, eqb, List, [], ◌∷◌, ◌++◌, length, take, drop, get_or, refl, sym, ap, ◌∙◌, subst, append_assoc, append-nil, arith}
use Rattle.std.specs.Char.{IsNotAsciiDigit}
use Rattle.std.proofs.Math.Seq.{take-length}
use Rattle.std.proofs.lemmas.Bool.{eq-eqb, eqb-true, false≢true}
use Rattle.std.proofs.lemmas.List.{length-append, same_from_push, take-append-drop, length-drop, get_or-drop}
use Rattle.memchr.specs.Find.{NoneAfter, Nowhere, Passes, is_byte}
use Rattle.hs_base.specs.Lists.{Each}
use Rattle.hs_base.specs.Assertions.{line_feed}
use Rattle.hs_base.specs.Entries.{ListedEntry}
use Rattle.hs_text.specs.Numbers.{IsDigit}
use Rattle.hs_text.specs.EntryLines.{IsEntryLine}
use Rattle.hs_text.specs.Lines.{carriage_return, IsLineOf, plain, returned, Begins, unended, ended}
use Rattle.hs_text.specs.PatternFile.{IsSkipped, empty, comment, IsBad, HasBadLine, first, behind_skipped, behind_entry}
use Rattle.hs_text.proofs.CutLemmas.{no_separator, each-from_index}
use Rattle.hs_text.proofs.FileLemmas.{no_line}
use Rattle.hs_lists.specs.ListKinds.{pattern_file}
use Rattle.hs_lists.specs.Causes.{Cause}
use Rattle.hs_lists.specs.Accepting.{IsFormCause, formless, unread, bad_line}
use Rattle.hs_lists.specs.Beginnings.{AreEnded, no_lines, ended_by, BeginsBad, AreLines, IsSettledPart}

-- ---- a file that isn't empty has a first line

record HasLast (xs : List ℕ) : Type 0 where
  front : List ℕ
  last : ℕ
  parts : xs ≡ front ++ last ∷ []

last_of : (x : ℕ) (xs : List ℕ) → HasLast (x ∷ xs)
last_of x [] = record { front = []; last = x; parts = refl }
last_of x (y ∷ ys) = let more = last_of y ys in record { front = x ∷ more.front; last = more.last; parts = ap (λ zs. x ∷ zs) more.parts }

no_last : (front : List ℕ) (last : ℕ) → [] ≡ front ++ last ∷ [] → ⊥
no_last [] last e = cc
no_last (x ∷ front) last e = cc

record HasLine (raw : List ℕ) : Type 0 where
  line : List ℕ
  is : IsLineOf raw line

line_of : (raw : List ℕ) → HasLine raw
line_of [] = record { line = []; is = plain (λ front e. no_last front carriage_return e) refl }
line_of (x ∷ xs) = by_last (last_of x xs)
  where
    other : (last : HasLast (x ∷ xs)) → eqb last.last 13 ≡ false → (front : List ℕ) → x ∷ xs ≡ front ++ carriage_return ∷ [] → ⊥
    other last differs front e =
        let same = (same_from_push last.front front last.last 13 (sym last.parts ∙ e)).1 in
        false≢true (sym differs ∙ eq-eqb last.last 13 same)

    by_byte : (last : HasLast (x ∷ xs)) (t : Bool) → eqb last.last 13 ≡ t → HasLine (x ∷ xs)
    by_byte last true e = record { line = last.front; is = returned (last.parts ∙ ap (λ b. last.front ++ b ∷ []) (eqb-true last.last 13 e)) }
    by_byte last false e = record { line = x ∷ xs; is = plain (other last e) refl }

    by_last : HasLast (x ∷ xs) → HasLine (x ∷ xs)
    by_last last = by_byte last (eqb last.last 13) refl

-- bytes without a line feed, or cut at their first one
data AreCut (xs : List ℕ) : Type 0 where
  uncut : Each (λ b. b ≢ line_feed) xs → AreCut xs
  parted : (raw rest : List ℕ) → Each (λ b. b ≢ line_feed) raw → xs ≡ raw ++ line_feed ∷ rest → AreCut xs

cut_of : (xs : List ℕ) → AreCut xs
cut_of [] = uncut tt
cut_of (x ∷ xs) = by_byte (eqb x 10) refl (cut_of xs)
  where
    by_byte : (t : Bool) → eqb x 10 ≡ t → AreCut xs → AreCut (x ∷ xs)
    by_byte true e cut = parted [] xs tt (ap (λ b. b ∷ xs) (eqb-true x 10 e))
    by_byte false e (uncut clear) = uncut ((λ same. false≢true (sym e ∙ eq-eqb x 10 same)), clear)
    by_byte false e (parted raw rest clear parts) = parted (x ∷ raw) rest ((λ same. false≢true (sym e ∙ eq-eqb x 10 same)), clear) (ap (λ ys. x ∷ ys) parts)

record HasFirstLine (file : List ℕ) : Type 0 where
  line : List ℕ
  rest : List ℕ
  begins : Begins line rest file

first_line_of : (file : List ℕ) → file ≢ [] → HasFirstLine file
first_line_of file filled = by_cut (cut_of file)
  where
    by_cut : AreCut file → HasFirstLine file
    by_cut (uncut clear) = record { line = (line_of file).line; rest = []; begins = unended filled clear (line_of file).is refl }
    by_cut (parted raw rest clear parts) = record { line = (line_of raw).line; rest = rest; begins = ended raw clear (line_of raw).is parts }

-- ---- whole lines

-- what is behind the first line feed of ended lines is ended lines
ended-behind : (raw behind front : List ℕ) → raw ++ line_feed ∷ behind ≡ front ++ line_feed ∷ [] → AreEnded behind
ended-behind [] behind [] e = no_lines cc
ended-behind [] behind (x ∷ front) e = ended_by front cc
ended-behind (b ∷ raw) behind [] e = absurd (let l = ap length e in let more = length-append raw (line_feed ∷ behind) in omega (arith, l, more))
ended-behind (b ∷ raw) behind (x ∷ front) e = let tails : raw ++ line_feed ∷ behind ≡ front ++ line_feed ∷ [] = cc in ended-behind raw behind front tails

ended-rest : (raw behind lines : List ℕ) → lines ≡ raw ++ line_feed ∷ behind → AreEnded lines → AreEnded behind
ended-rest raw behind lines e (no_lines nothing) = absurd (let l = ap length (sym e ∙ nothing) in let more = length-append raw (line_feed ∷ behind) in omega (arith, l, more))
ended-rest raw behind lines e (ended_by front parts) = ended-behind raw behind front (sym e ∙ parts)

-- ended lines without a line feed are none
ended-clear : (lines last : List ℕ) → AreEnded lines → Each (λ b. b ≢ line_feed) (lines ++ last) → lines ≡ []
ended-clear lines last (no_lines nothing) clear = nothing
ended-clear lines last (ended_by front parts) clear =
    absurd (no_separator line_feed front last (subst (λ xs. Each (λ b. b ≢ line_feed) xs) (ap (λ xs. xs ++ last) parts ∙ append_assoc front (line_feed ∷ []) last) clear))

-- a first line that is ended is among the lines, where none ends behind them
record IsAmong (raw rest lines last : List ℕ) : Type 0 where
  behind : List ℕ
  lines_are : lines ≡ raw ++ line_feed ∷ behind
  rest_is : rest ≡ behind ++ last

among : (raw rest lines last : List ℕ) → Each (λ b. b ≢ line_feed) last → raw ++ line_feed ∷ rest ≡ lines ++ last → IsAmong raw rest lines last
among raw rest [] last clear e = absurd (no_separator line_feed raw rest (subst (λ xs. Each (λ b. b ≢ line_feed) xs) (sym e) clear))
among [] rest (x ∷ lines) last clear e =
    let same : x ≡ line_feed = cc in
    record { behind = lines; lines_are = ap (λ b. b ∷ lines) same; rest_is = cc }
among (b ∷ raw) rest (x ∷ lines) last clear e =
    let same : x ≡ b = cc in
    let tails : raw ++ line_feed ∷ rest ≡ lines ++ last = cc in
    let inner = among raw rest lines last clear tails in
    record { behind = inner.behind; lines_are = ap (λ c. c ∷ lines) same ∙ ap (λ xs. b ∷ xs) inner.lines_are; rest_is = inner.rest_is }

-- ---- a bad line stays

none_bad : {number : ℕ} → HasBadLine [] number → ⊥
none_bad (first b bad) = no_line b
none_bad (behind_skipped b s bad) = no_line b
none_bad (behind_entry b h bad) = no_line b

none_bad_is : {number : ℕ} (rest : List ℕ) → rest ≡ [] → HasBadLine rest number → ⊥
none_bad_is {number} rest e bad = none_bad (subst (λ file. HasBadLine file number) e bad)

-- a first line that is ended is that of each file that begins so
begins-more : {line : List ℕ} (file raw rest more : List ℕ) → Each (λ b. b ≢ line_feed) raw → IsLineOf raw line → file ≡ raw ++ line_feed ∷ rest → Begins line (rest ++ more) (file ++ more)
begins-more file raw rest more clear line parts = ended raw clear line (ap (λ xs. xs ++ more) parts ∙ append_assoc raw (line_feed ∷ rest) more)

-- where only the last line isn't ended, and no line that begins like it is of the form
bad_first : (file last more : List ℕ) → BeginsBad last → file ≡ last → file ≢ [] → HasBadLine (file ++ more) 1
bad_first file last more hopeless same filled =
    let line = first_line_of (file ++ more) (filled_more file filled) in
    first line.begins (hopeless more line.line line.rest (subst (λ xs. Begins line.line line.rest (xs ++ more)) same line.begins))
  where
    filled_more : (xs : List ℕ) → xs ≢ [] → xs ++ more ≢ []
    filled_more [] filled e = filled refl
    filled_more (x ∷ xs) filled e = cc

-- The first bad line of ended lines, and of a last line behind them that is hopeless where it isn't empty, is that of
-- each file that begins so.
pub bad_line-settled : {number : ℕ} (file lines last more : List ℕ) → AreEnded lines → Each (λ b. b ≢ line_feed) last → (last ≢ [] → BeginsBad last) → file ≡ lines ++ last → HasBadLine file number → HasBadLine (file ++ more) number
bad_line-settled file lines last more closed clear hopeless parts (first (unended filled unbroken line nothing) bad) =
    let empty : lines ≡ [] = ended-clear lines last closed (subst (λ xs. Each (λ b. b ≢ line_feed) xs) parts unbroken) in
    let same : file ≡ last = parts ∙ ap (λ xs. xs ++ last) empty in
    bad_first file last more (hopeless (λ e. filled (same ∙ e))) same filled
bad_line-settled file lines last more closed clear hopeless parts (first (ended raw unbroken line whole) bad) = first (begins-more file raw _ more unbroken line whole) bad
bad_line-settled file lines last more closed clear hopeless parts (behind_skipped {rest = rest} (unended filled unbroken line nothing) s bad) = absurd (none_bad_is rest nothing bad)
bad_line-settled file lines last more closed clear hopeless parts (behind_skipped {rest = rest} (ended raw unbroken line whole) s bad) =
    let cut = among raw rest lines last clear (sym whole ∙ parts) in
    behind_skipped (begins-more file raw _ more unbroken line whole) s (bad_line-settled rest cut.behind last more (ended-rest raw cut.behind lines cut.lines_are closed) clear hopeless cut.rest_is bad)
bad_line-settled file lines last more closed clear hopeless parts (behind_entry {rest = rest} (unended filled unbroken line nothing) h bad) = absurd (none_bad_is rest nothing bad)
bad_line-settled file lines last more closed clear hopeless parts (behind_entry {rest = rest} (ended raw unbroken line whole) h bad) =
    let cut = among raw rest lines last clear (sym whole ∙ parts) in
    behind_entry (begins-more file raw _ more unbroken line whole) h (bad_line-settled rest cut.behind last more (ended-rest raw cut.behind lines cut.lines_are closed) clear hopeless cut.rest_is bad)

-- ---- a line that is bad from its first two bytes on

-- an entry's line begins with a digit
entry_first : (byte : ℕ) (rest : List ℕ) (entry : ListedEntry) → IsEntryLine (byte ∷ rest) entry → IsDigit byte
entry_first byte rest entry h = by_digits h.digits h.identifier.each h.identifier.some h.whole
  where
    by_digits : (digits : List ℕ) → Each IsDigit digits → digits ≢ [] → byte ∷ rest ≡ digits ++ (58 ∷ (47 ∷ (entry.text ++ (47 ∷ h.tail)))) → IsDigit byte
    by_digits [] each some e = absurd (some refl)
    by_digits (d ∷ ds) each some e = let same : byte ≡ d = cc in subst IsDigit (sym same) each.0

-- a line that begins neither with `#` nor with a digit is bad
bad_from : (byte : ℕ) (rest : List ℕ) → byte ≢ 35 → (IsDigit byte → ⊥) → IsBad (byte ∷ rest)
bad_from byte rest hash digit = record { written = written; no_entry = λ entry h. digit (entry_first byte rest entry h) }
  where
    written : IsSkipped (byte ∷ rest) → ⊥
    written (empty e) = cc
    written (comment more e) = hash cc

-- the line of two bytes and more has the first of them
line_first : (byte after : ℕ) (rest line : List ℕ) → IsLineOf (byte ∷ after ∷ rest) line → (more : List ℕ) × line ≡ byte ∷ more
line_first byte after rest line (plain p e) = (after ∷ rest, e)
line_first byte after rest [] (returned e) = absurd (let l = ap length e in omega (arith, l))
line_first byte after rest (x ∷ line) (returned e) = (line, let same : x ≡ byte = cc in ap (λ b. b ∷ line) same)

bad_as : (byte after : ℕ) (rest line : List ℕ) → byte ≢ 35 → (IsDigit byte → ⊥) → IsLineOf (byte ∷ after ∷ rest) line → IsBad line
bad_as byte after rest line hash digit is =
    let parts = line_first byte after rest line is in
    subst IsBad (sym parts.1) (bad_from byte parts.0 hash digit)

-- No line that begins with two bytes of a line, of which the first is neither `#` nor a digit, is of the form.
pub begins_bad : (byte after : ℕ) (rest : List ℕ) → Each (λ b. b ≢ line_feed) (byte ∷ after ∷ rest) → byte ≢ 35 → (IsDigit byte → ⊥) → BeginsBad (byte ∷ after ∷ rest)
begins_bad byte after rest clear hash digit more line behind (unended filled unbroken is nothing) = bad_as byte after (rest ++ more) line hash digit is
begins_bad byte after rest clear hash digit more line behind (ended raw unbroken is whole) = by_raw raw is whole
  where
    by_raw : (raw : List ℕ) → IsLineOf raw line → byte ∷ (after ∷ (rest ++ more)) ≡ raw ++ line_feed ∷ behind → IsBad line
    by_raw [] is e = absurd (clear.0 cc)
    by_raw (x ∷ []) is e = absurd (clear.1.0 cc)
    by_raw (x ∷ (y ∷ zs)) is e =
        let same : byte ≡ x = cc in
        bad_as x y zs line (λ h. hash (same ∙ h)) (λ d. digit (subst IsDigit (sym same) d)) is

-- the cause of a settled part is that of each file that begins with all the bytes
pub form_cause-settled : (bytes part : List ℕ) (cause : Cause) → IsSettledPart bytes part → IsFormCause pattern_file part cause → (rest : List ℕ) → IsFormCause pattern_file (bytes ++ rest) cause
form_cause-settled bytes part _ settled unread rest = unread
form_cause-settled bytes part _ settled (formless (bad_line {line = line} bad)) rest =
    let same : part ++ (settled.behind ++ rest) ≡ bytes ++ rest = sym (append_assoc part settled.behind rest) ∙ ap (λ xs. xs ++ rest) (sym settled.whole) in
    formless (bad_line (subst (λ file. HasBadLine file line) same (settled.stays line (settled.behind ++ rest) bad)))

-- ---- the last line feed

take-snoc : (xs : List ℕ) (n : ℕ) → n < length xs → take (suc n) xs ≡ take n xs ++ get_or xs n 0 ∷ []
take-snoc [] n below = absurd (omega (arith, below))
take-snoc (x ∷ xs) zero below = refl
take-snoc (x ∷ xs) (suc n) below = ap (λ ys. x ∷ ys) (take-snoc xs n (omega (arith, below)))

-- bytes whose last line feed stands there
pub lines-at : (bytes : List ℕ) (at : ℕ) → NoneAfter (Passes (is_byte line_feed) bytes) 0 (length bytes) at → Passes (is_byte line_feed) bytes at → AreLines bytes (take (at + 1) bytes) (take (length bytes - (at + 1)) (drop (at + 1) bytes))
lines-at bytes at least here = record {
  parts = sym (take-append-drop (at + 1) bytes) ∙ ap (λ xs. take (at + 1) bytes ++ xs) (sym all_of);
  ended = ended_by (take at bytes) (ap (λ n. take n bytes) one_more ∙ take-snoc bytes at least.high ∙ ap (λ b. take at bytes ++ b ∷ []) (eqb-true (get_or bytes at 0) 10 here));
  unended = subst (λ xs. Each (λ b. b ≢ line_feed) xs) (sym all_of) (each-from_index (λ b. b ≢ line_feed) (drop (at + 1) bytes) other);
}
  where
    one_more : at + 1 ≡ suc at
    one_more = omega arith

    all_of : take (length bytes - (at + 1)) (drop (at + 1) bytes) ≡ drop (at + 1) bytes
    all_of = ap (λ n. take n (drop (at + 1) bytes)) (sym (length-drop (at + 1) bytes)) ∙ take-length (drop (at + 1) bytes)

    other : (k : ℕ) → k < length (drop (at + 1) bytes) → get_or (drop (at + 1) bytes) k 0 ≢ line_feed
    other k below same =
        least.after (at + 1 + k) (omega arith) (omega (arith, below, length-drop (at + 1) bytes)) (eq-eqb (get_or bytes (at + 1 + k) 0) 10 (sym (get_or-drop (at + 1) bytes k 0) ∙ same))

-- bytes without a line feed
pub lines-none : (bytes : List ℕ) → Nowhere (Passes (is_byte line_feed) bytes) 0 (length bytes) → AreLines bytes (take 0 bytes) bytes
lines-none bytes nowhere = record {
  parts = refl;
  ended = no_lines refl;
  unended = each-from_index (λ b. b ≢ line_feed) bytes (λ k below same. nowhere k (omega arith) below (eq-eqb (get_or bytes k 0) 10 same));
}

-- ---- what is settled

-- all the bytes, where the line behind the ended ones is hopeless
pub settled-all : (bytes lines last : List ℕ) → AreLines bytes lines last → BeginsBad last → IsSettledPart bytes bytes
settled-all bytes lines last are hopeless = record {
  behind = [];
  whole = sym (append-nil bytes);
  stays = λ line rest bad. bad_line-settled bytes lines last rest are.ended are.unended (λ filled. hopeless) are.parts bad;
}

-- the lines that are ended
pub settled-lines : (bytes lines last : List ℕ) → AreLines bytes lines last → IsSettledPart bytes lines
settled-lines bytes lines last are = record {
  behind = last;
  whole = are.parts;
  stays = λ line rest bad. bad_line-settled lines lines [] rest are.ended tt (λ filled. absurd (filled refl)) (sym (append-nil lines)) bad;
}

-- a line of two bytes and more, of which the first is neither `#` nor a digit
pub begins_bad-line : (bytes : List ℕ) → Each (λ b. b ≢ line_feed) bytes → 2 ≤ length bytes → get_or bytes 0 0 ≢ 35 → IsNotAsciiDigit (get_or bytes 0 0) → BeginsBad bytes
begins_bad-line [] clear long hash digit = absurd (omega (arith, long))
begins_bad-line (byte ∷ []) clear long hash digit = absurd (omega (arith, long))
begins_bad-line (byte ∷ (after ∷ rest)) clear long hash digit = begins_bad byte after rest clear hash not_digit
  where
    not_digit : IsDigit byte → ⊥
    not_digit d = omega (arith, d.0, d.1, digit)
