-- What a scan wrote that was broken off, and the text of a match.
use Rattle.std.proofs.Common.{◌≡◌, ◌≢◌, List, [], ◌++◌, ℕ, length, Option, refl, sym, ap, ◌∙◌, subst, append_assoc, arith, ◌∷◌}
use Rattle.hs_base.specs.Patterns.{Pattern}
use Rattle.hs_base.specs.Told.{Pair, IsNew}
use Rattle.hs_base.specs.MatchText.{report_line, report_lines, end_line, IsMatchText}
use Rattle.hs_base.proofs.ToldLemmas.{new-once, last-once, new-splits}
use Rattle.hs_base.proofs.NewLemmas.{told_start, new_nothing}
use Rattle.hs_outside.specs.Sink.{Took, TookPrefix}
use Rattle.hs_outside.specs.Store.{Told, untold, lacks, holds, Begins, IsFile, IsMissing}
use Rattle.std.proofs.lemmas.List.Concat.{flat_map-append}
use Rattle.hs_tool.specs.Answers.{HasBegun, in_reports, in_text}

-- ---- the text of a match

-- a match has one text
pub text_once : (P : List Pattern) (w s t : List ℕ) → IsMatchText P w s → IsMatchText P w t → s ≡ t
text_once P w s t p q =
    let news = new-once P [] w p.new q.new p.by_bytes q.by_bytes in
    let lasts = last-once P w p.last q.last p.by_end q.by_end in
    p.whole ∙ (ap (λ (x : List Pair). report_lines x ++ report_lines p.last ++ end_line (length w)) news
    ∙ (ap (λ (x : List Pair). report_lines q.new ++ report_lines x ++ end_line (length w)) lasts ∙ sym q.whole))

regroup : (front rest a b e : List ℕ) → (((front ++ rest) ++ a) ++ b) ++ e ≡ front ++ (((rest ++ a) ++ b) ++ e)
regroup front rest a b e = simp append_assoc

-- the reports of some first bytes begin the text of the match of all
begins_text : (P : List Pattern) (seen more text front rest : List ℕ) (reports : List Pair) → IsNew P [] seen reports → report_lines reports ≡ front ++ rest → IsMatchText P (seen ++ more) text → (later : List ℕ) × (text ≡ front ++ later)
begins_text P seen more text front rest reports is split match =
    let two = new-splits P [] seen more match.new match.by_bytes in
    let same : two.front ≡ reports = new-once P [] seen two.front reports two.first is in
    let lines : report_lines match.new ≡ (front ++ rest) ++ report_lines two.back =
    ap report_lines two.whole ∙ (flat_map-append report_line two.front two.back ∙ ap (λ xs. xs ++ report_lines two.back) (ap report_lines same ∙ split)) in (
      ((rest ++ report_lines two.back) ++ report_lines match.last) ++ end_line (length (seen ++ more)),
      match.whole
          ∙ (ap (λ (xs : List ℕ). xs ++ report_lines match.last ++ end_line (length (seen ++ more))) lines
          ∙ regroup front rest (report_lines two.back) (report_lines match.last) (end_line (length (seen ++ more)))),
    )

begins-of_told : (told : Told) (seen bytes : List ℕ) → told ≡ holds bytes → Begins told seen → (more : List ℕ) × (bytes ≡ seen ++ more)
begins-of_told told seen bytes same begins = subst (λ t. Begins t seen) same begins

-- the file that is told is the one that was read
file-told : (told : Told) (bytes other : List ℕ) → told ≡ holds other → IsFile told bytes → other ≡ bytes
file-told told bytes other same file = subst (λ t. IsFile t bytes) same file

-- where the file is told, a beginning of the text of its match
pub begun-told : (told : Told) (P : List Pattern) (p q : Option (List ℕ)) (bytes text : List ℕ) → told ≡ holds bytes → IsMatchText P bytes text → HasBegun told P p q → TookPrefix p q text
begun-told told P p q bytes text same match (in_reports seen reports begins is cut) =
    let (more, whole) = begins-of_told told seen bytes same begins in
    let (rest, longer) = begins_text P seen more text cut.front cut.rest reports is cut.split (subst (λ w. IsMatchText P w text) whole match) in
    record { front = cut.front; rest = rest; split = longer; taken = cut.taken }
begun-told told P p q bytes text same match (in_text other whole file is cut) =
    subst (λ t. TookPrefix p q t) (text_once P other whole text is (subst (λ w. IsMatchText P w text) (file-told told other bytes same file) match)) cut

nothing_before : (xs ys : List ℕ) → [] ≡ xs ++ ys → xs ≡ []
nothing_before [] ys e = refl
nothing_before (x ∷ xs) ys e = absurd (omega (arith, ap length e))

-- of a file that is told missing nothing was written
begun-lacks : (P : List Pattern) (p q : Option (List ℕ)) → HasBegun lacks P p q → Took p q []
begun-lacks P p q (in_reports bytes reports begins is cut) =
    let none : reports ≡ [] = new-once P [] [] reports [] (subst (λ w. IsNew P [] w reports) begins is) (new_nothing P [] [] (told_start P)) in
    subst (λ t. Took p q t) (nothing_before cut.front cut.rest (sym (ap report_lines none) ∙ cut.split)) cut.taken
begun-lacks P p q (in_text bytes text file is cut) = absurd file

pub begun-missing : (told : Told) (P : List Pattern) (p q : Option (List ℕ)) → told ≢ untold → IsMissing told → HasBegun told P p q → Took p q []
begun-missing untold P p q tells missing begun = absurd (tells refl)
begun-missing lacks P p q tells missing begun = begun-lacks P p q begun
begun-missing (holds bytes) P p q tells missing begun = absurd missing
