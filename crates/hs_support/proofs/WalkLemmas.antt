-- What one more item does to where a walk leads.
use Rattle.std.proofs.Common.{◌≡◌, ℕ, ◌+◌, ◌<◌, min, Bool, true, false, nat_lt, List, [], ◌∷◌, ◌++◌, length, map, Option, Some, None, refl, sym, ap, ◌∙◌, subst, if◌then◌else◌, arith}
use Rattle.std.specs.Option.{option_map, option_or}
use Rattle.std.proofs.lemmas.Bool.Decides.{nat_tests}
use Rattle.std.proofs.lemmas.List.{length-append}
use Rattle.hs_base.specs.Trees.{Tree, class}
use Rattle.hs_base.specs.Literals.{LiteralByte, literal_set}
use Rattle.hs_base.specs.Chains.{Part, literal, ordinary, long, piece_of, ordinary_joined, rest_of_run}
use Rattle.hs_expr.specs.Counts.{greatest_count, capped, positions}
use Rattle.hs_expr.specs.Waiting.{cut_from, row}
use Rattle.hs_expr.proofs.RowLemmas.{row-snoc}
use Rattle.hs_expr.proofs.RunLemmas.{with_items-snoc, cut_from-ordinary, cut_from-long, cut_from-none, cut_from-byte, cut_from-full}
use Rattle.hs_support.specs.PieceCounts.{too_many, first_excess}
use Rattle.hs_support.specs.Waiting.{excess_behind, LeadsCut, LeadsFrom}

pub or-assoc : (a b c : Option ℕ) → option_or (option_or a b) c ≡ option_or a (option_or b c)
or-assoc None b c = refl
or-assoc (Some x) b c = refl

pub or-none : (a : Option ℕ) → option_or a None ≡ a
or-none None = refl
or-none (Some x) = refl

-- whether a count is too great is seen of the capped one

few-positions : (n : ℕ) (rest : Option ℕ) (a b : Bool) → nat_lt 512 n ≡ a → nat_lt 512 (capped n) ≡ b →
    option_map capped (option_or (if a then Some n else None) rest) ≡ option_or (if b then Some (capped n) else None) (option_map capped rest)
few-positions n rest true true first second = refl
few-positions n rest true false first second = absurd (grind (arith, nat_tests))
few-positions n rest false true first second = absurd (grind (arith, nat_tests))
few-positions n rest false false first second = refl

capped-too_many : (n : ℕ) (rest : Option ℕ) →
    option_map capped (option_or (too_many n) rest) ≡ option_or (too_many (capped n)) (option_map capped rest)
capped-too_many n rest = few-positions n rest (nat_lt 512 n) (nat_lt 512 (capped n)) refl refl

-- what ends the ordinary items that wait

literal-behind : (items : List Tree) (xs : List LiteralByte) (cut : List Part) →
    excess_behind items (literal xs ∷ cut) ≡ option_or (too_many (capped (row items))) (excess_behind [] cut)
literal-behind [] xs cut = refl
literal-behind (t ∷ ts) xs cut = capped-too_many (row (t ∷ ts)) (first_excess (map piece_of (ordinary_joined cut)))

long-behind : (items : List Tree) (set : List Bool) (least : ℕ) (greatest : Option ℕ) (cut : List Part) →
    excess_behind items (long set least greatest ∷ cut) ≡ option_or (too_many (capped (row items))) (excess_behind [] cut)
long-behind [] set least greatest cut = refl
long-behind (t ∷ ts) set least greatest cut = capped-too_many (row (t ∷ ts)) (first_excess (map piece_of (ordinary_joined cut)))

none-behind : (items : List Tree) → excess_behind items [] ≡ option_or (too_many (capped (row items))) None
none-behind [] = refl
none-behind (t ∷ ts) = capped-too_many (row (t ∷ ts)) None

-- the ordinary items that wait are a piece, and then comes what is behind them
closing : (found last behind before answer : Option ℕ) (count held : ℕ) → held ≡ count →
    last ≡ option_or found (too_many count) → before ≡ option_or (too_many held) behind →
    option_or last behind ≡ answer → option_or found before ≡ answer
closing found last behind before answer count held same is front leads =
    ap (λ b. option_or found b) front
    ∙ ap (λ n. option_or found (option_or (too_many n) behind)) same
    ∙ sym (or-assoc found (too_many count) behind)
    ∙ ap (λ l. option_or l behind) (sym is)
    ∙ leads

literal-leads : (found last : Option ℕ) (count : ℕ) (xs : List LiteralByte) (cut : List Part) (answer : Option ℕ) →
    last ≡ option_or found (too_many count) →
    LeadsCut last 0 cut answer → LeadsCut found count (literal xs ∷ cut) answer
literal-leads found last count xs cut answer is leads items held =
    closing found last (excess_behind [] cut) (excess_behind items (literal xs ∷ cut)) answer count (capped (row items)) held
    is (literal-behind items xs cut) (leads [] refl)

long-leads : (found last : Option ℕ) (count : ℕ) (set : List Bool) (least : ℕ) (greatest : Option ℕ) (cut : List Part) (answer : Option ℕ) →
    last ≡ option_or found (too_many count) →
    LeadsCut last 0 cut answer → LeadsCut found count (long set least greatest ∷ cut) answer
long-leads found last count set least greatest cut answer is leads items held =
    closing found last (excess_behind [] cut) (excess_behind items (long set least greatest ∷ cut)) answer count (capped (row items)) held
    is (long-behind items set least greatest cut) (leads [] refl)

pub none-leads : (found : Option ℕ) (count : ℕ) → LeadsCut found count [] (option_or found (too_many count))
none-leads found count items held =
    ap (λ b. option_or found b) (none-behind items)
    ∙ sym (or-assoc found (too_many (capped (row items))) None)
    ∙ or-none (option_or found (too_many (capped (row items))))
    ∙ ap (λ n. option_or found (too_many n)) held

-- one more ordinary item
ordinary-leads : (found : Option ℕ) (count part last : ℕ) (t : Tree) (cut : List Part) (answer : Option ℕ) →
    part ≡ capped (positions t) → last ≡ min (count + part) greatest_count →
    LeadsCut found last cut answer → LeadsCut found count (ordinary (t ∷ []) ∷ cut) answer
ordinary-leads found count part last t cut answer of is leads items held =
    let more = row-snoc items t in
    ap (λ parts. option_or found (option_map capped (first_excess (map piece_of parts)))) (sym (with_items-snoc items t (ordinary_joined cut)))
    ∙ leads (items ++ t ∷ []) (omega (arith, more, held, of, is))

-- the run that waits ends

pub no_run-leads : (found : Option ℕ) (count : ℕ) (xs : List LiteralByte) (cut : List Part) (answer : Option ℕ) →
    length xs ≡ 0 → LeadsCut found count cut answer → LeadsCut found count (rest_of_run xs ++ cut) answer
no_run-leads found count [] cut answer size leads = leads
no_run-leads found count (x ∷ xs) cut answer size leads = absurd (omega arith)

pub one_byte-leads : (found : Option ℕ) (count last : ℕ) (xs : List LiteralByte) (cut : List Part) (answer : Option ℕ) →
    length xs ≡ 1 → last ≡ min (count + 1) greatest_count →
    LeadsCut found last cut answer → LeadsCut found count (rest_of_run xs ++ cut) answer
one_byte-leads found count last [] cut answer size is leads = absurd (omega arith)
one_byte-leads found count last (x ∷ []) cut answer size is leads =
    ordinary-leads found count 1 last (class (literal_set x)) cut answer refl is leads
one_byte-leads found count last (x ∷ y ∷ xs) cut answer size is leads = absurd (omega arith)

pub rest-leads : (found last : Option ℕ) (count : ℕ) (xs : List LiteralByte) (cut : List Part) (answer : Option ℕ) →
    1 < length xs → last ≡ option_or found (too_many count) →
    LeadsCut last 0 cut answer → LeadsCut found count (rest_of_run xs ++ cut) answer
rest-leads found last count [] cut answer size is leads = absurd (omega arith)
rest-leads found last count (x ∷ []) cut answer size is leads = absurd (omega arith)
rest-leads found last count (x ∷ y ∷ xs) cut answer size is leads =
    literal-leads found last count (x ∷ y ∷ xs) cut answer is leads

-- what a walk behind its run promises
abbrev pub EndsRunFrom : (found : Option ℕ) (count run : ℕ) (found' : Option ℕ) (count' : ℕ) → Type 0
EndsRunFrom found count run found' count' =
    (xs : List LiteralByte) (cut : List Part) (answer : Option ℕ) → length xs ≡ run →
    LeadsCut found' count' cut answer → LeadsCut found count (rest_of_run xs ++ cut) answer

-- one more item, over the walk behind its run

pub positions-lead : (found : Option ℕ) (count run : ℕ) (mid : Option ℕ) (held part last : ℕ) (t : Tree) (parts : List Part) (answer : Option ℕ) →
    run < 32 → EndsRunFrom found count run mid held → part ≡ capped (positions t) → last ≡ min (held + part) greatest_count →
    LeadsFrom mid last 0 parts answer → LeadsFrom found count run (ordinary (t ∷ []) ∷ parts) answer
positions-lead found count run mid held part last t parts answer short ends of is leads xs size =
    subst (λ cut. LeadsCut found count cut answer) (sym (cut_from-ordinary xs (t ∷ []) parts (omega (arith, size, short))))
    (ends xs (ordinary (t ∷ []) ∷ cut_from [] parts) answer size
    (ordinary-leads mid held part last t (cut_from [] parts) answer of is (leads [] refl)))

pub long-lead : (found : Option ℕ) (count run : ℕ) (mid last : Option ℕ) (held : ℕ) (set : List Bool) (least : ℕ) (greatest : Option ℕ) (parts : List Part) (answer : Option ℕ) →
    run < 32 → EndsRunFrom found count run mid held → last ≡ option_or mid (too_many held) →
    LeadsFrom last 0 0 parts answer → LeadsFrom found count run (long set least greatest ∷ parts) answer
long-lead found count run mid last held set least greatest parts answer short ends is leads xs size =
    subst (λ cut. LeadsCut found count cut answer) (sym (cut_from-long xs set least greatest parts (omega (arith, size, short))))
    (ends xs (long set least greatest ∷ cut_from [] parts) answer size
    (long-leads mid last held set least greatest (cut_from [] parts) answer is (leads [] refl)))

pub end-leads : (found : Option ℕ) (count run : ℕ) (mid last : Option ℕ) (held : ℕ) →
    run < 32 → EndsRunFrom found count run mid held → last ≡ option_or mid (too_many held) →
    LeadsFrom found count run [] last
end-leads found count run mid last held short ends is xs size =
    subst (λ cut. LeadsCut found count cut last) (sym (cut_from-none xs (omega (arith, size, short))))
    (ends xs [] last size (subst (LeadsCut mid held []) (sym is) (none-leads mid held)))

pub byte-leads : (found : Option ℕ) (count run : ℕ) (x : LiteralByte) (parts : List Part) (answer : Option ℕ) →
    LeadsFrom found count (run + 1) parts answer → LeadsFrom found count run (literal (x ∷ []) ∷ parts) answer
byte-leads found count run x parts answer leads xs size =
    let longer : length (xs ++ x ∷ []) ≡ length xs + 1 = length-append xs (x ∷ []) in
    subst (λ cut. LeadsCut found count cut answer) (cut_from-byte xs x parts) (leads (xs ++ x ∷ []) (longer ∙ ap (λ n. n + 1) size))

pub full-leads : (found last : Option ℕ) (count run : ℕ) (x : LiteralByte) (parts : List Part) (answer : Option ℕ) →
    run + 1 ≡ 32 → last ≡ option_or found (too_many count) →
    LeadsFrom last 0 0 parts answer → LeadsFrom found count run (literal (x ∷ []) ∷ parts) answer
full-leads found last count run x parts answer full is leads xs size =
    let longer : length (xs ++ x ∷ []) ≡ length xs + 1 = length-append xs (x ∷ []) in
    subst (λ cut. LeadsCut found count cut answer) (sym (cut_from-full xs x parts (longer ∙ ap (λ n. n + 1) size ∙ full)))
    (literal-leads found last count (xs ++ x ∷ []) (cut_from [] parts) answer is (leads [] refl))
