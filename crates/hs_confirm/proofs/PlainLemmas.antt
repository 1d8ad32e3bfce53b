-- Literals looked at from their last byte back, and numbers looked at one by one.
use Rattle.std.proofs.Common.{◌≡◌, ℕ, zero, suc, ◌+◌, ◌-◌, ◌<◌, ◌≤◌, Bool, true, false, List, [], ◌∷◌, ◌++◌, cond, length, get_or, map, take, drop, Some, sym, ap, ◌∙◌, arith, eqb}
use Rattle.std.specs.List.{range_with_len, filter}
use Rattle.std.proofs.lemmas.List.{drop_more, get_or-take, get_or-drop, length-map, drop_all, append-nil}
use Rattle.std.proofs.lemmas.Bool.{false≢true, and_parts, and_from, eqb-true, eq-eqb, le-leb, leb-true, false_from_ne_true}
use Rattle.std.proofs.lemmas.Option.{slice_get-get_or, slice_get_within, get_or_from_slice_get}
use Rattle.hs_base.specs.declared.literal.LitByte.{LitByte}
use Rattle.hs_base.specs.Literals.{LiteralByte, takes}
use Rattle.hs_base.specs.LiteralView.{literal_byte}
use Rattle.hs_confirm.specs.BucketEnds.{IsBucketEnd, AreBucketEnds}
use Rattle.hs_confirm.specs.Taking.{takes_all, ends_there}
use Rattle.hs_confirm.specs.Plain.{plain_ends_there}
use Rattle.hs_confirm.proofs.TakingLemmas.{ends_from_there, there_from_ends}
use Rattle.hs_confirm.proofs.NumberLemmas.{IsPassing, member-passing, passing-member, passing-rising}

-- the last so many bytes in front of an offset are taken
abbrev pub IsTakenBack : List LitByte → List ℕ → (offset back : ℕ) → Type 0
IsTakenBack literal text offset back = (back ≤ offset) × (takes_all (map literal_byte (drop (length literal - back) literal)) (take back (drop (offset - back) text)) ≡ true)

pub taken_back-none : (literal : List LitByte) (text : List ℕ) (offset : ℕ) → IsTakenBack literal text offset 0
taken_back-none literal text offset = (omega arith, ap (λ xs. takes_all (map literal_byte xs) []) (drop_all (length literal - 0) literal (omega arith)))

pub taken_back-more : (literal : List LitByte) (text : List ℕ) (offset back : ℕ) (x : LitByte) (b : ℕ) → back < length literal → back < offset → offset ≤ length text → x ≡ get_or literal (length literal - 1 - back) x → b ≡ get_or text (offset - 1 - back) 0
    → takes (literal_byte x) b ≡ true → IsTakenBack literal text offset back → IsTakenBack literal text offset (back + 1)
taken_back-more literal text offset back x b within below inside read byte says taken =
    let n = length literal in
    let i : n - (back + 1) ≡ n - 1 - back = omega arith in
    let j : offset - (back + 1) ≡ offset - 1 - back = omega arith in
    let i' : n - 1 - back + 1 ≡ n - back = omega arith in
    let j' : offset - 1 - back + 1 ≡ offset - back = omega arith in
    let next : back + 1 ≡ suc back = omega arith in
    let front : drop (n - (back + 1)) literal ≡ x ∷ drop (n - back) literal =
    ap (λ k. drop k literal) i ∙ drop_more literal (n - 1 - back) x (omega arith) ∙ ap (λ y. y ∷ drop (n - 1 - back + 1) literal) (sym read) ∙ ap (λ k. x ∷ drop k literal) i' in
    let bytes : drop (offset - (back + 1)) text ≡ b ∷ drop (offset - back) text =
    ap (λ k. drop k text) j ∙ drop_more text (offset - 1 - back) 0 (omega arith) ∙ ap (λ y. y ∷ drop (offset - 1 - back + 1) text) (sym byte) ∙ ap (λ k. b ∷ drop k text) j' in (
      omega arith,
      ap (λ xs. takes_all (map literal_byte xs) (take (back + 1) (drop (offset - (back + 1)) text))) front
          ∙ ap (λ ys. takes_all (map literal_byte (x ∷ drop (n - back) literal)) (take (back + 1) ys)) bytes
          ∙ ap (λ k. takes_all (map literal_byte (x ∷ drop (n - back) literal)) (take k (b ∷ drop (offset - back) text))) next
          ∙ and_from (takes (literal_byte x) b) _ says taken.1,
    )

pub taken_back-all : (literal : List LitByte) (text : List ℕ) (offset back : ℕ) → length literal ≤ back → back ≤ length literal → IsTakenBack literal text offset back → ends_there (map literal_byte literal) text offset ≡ true
unfolding ends_there
taken_back-all literal text offset back past within taken =
    let same : length (map literal_byte literal) ≡ back = length-map literal literal_byte ∙ omega arith in
    let e : length literal - back ≡ 0 = omega arith in
    and_from _ _ (le-leb (length (map literal_byte literal)) offset (omega (arith, taken.0)))
    (ap (λ k. takes_all (map literal_byte literal) (take k (drop (offset - k) text))) same
    ∙ ap (λ k. takes_all (map literal_byte (drop k literal)) (take back (drop (offset - back) text))) (sym e)
    ∙ taken.1)

takes_at : (literal : List LitByte) (bytes : List ℕ) (k : ℕ) (x : LitByte) → takes_all (map literal_byte literal) bytes ≡ true → k < length literal → x ≡ get_or literal k x → takes (literal_byte x) (get_or bytes k 0) ≡ true
takes_at [] bytes k x says within read = absurd (omega arith)
takes_at (y ∷ literal) [] k x says within read = absurd (false≢true says)
takes_at (y ∷ literal) (b ∷ bytes) zero x says within read = ap (λ z. takes (literal_byte z) b) read ∙ (and_parts (takes (literal_byte y) b) (takes_all (map literal_byte literal) bytes) says).0
takes_at (y ∷ literal) (b ∷ bytes) (suc k) x says within read = takes_at literal bytes k x (and_parts (takes (literal_byte y) b) (takes_all (map literal_byte literal) bytes) says).1 (omega arith) read

-- a byte that isn't taken
pub untaken : (literal : List LitByte) (text : List ℕ) (offset back : ℕ) (x : LitByte) (b : ℕ) → back < length literal → x ≡ get_or literal (length literal - 1 - back) x → b ≡ get_or text (offset - 1 - back) 0 → takes (literal_byte x) b ≡ false
    → ends_there (map literal_byte literal) text offset ≡ false
unfolding ends_there
untaken literal text offset back x b within read byte says =
    false_from_ne_true _ (λ ends.
    let both = and_parts _ _ ends in
    let n = length (map literal_byte literal) in
    let same : n ≡ length literal = length-map literal literal_byte in
    let long : n ≤ offset = leb-true n offset both.0 in
    let k = length literal - 1 - back in
    let e : offset - n + k ≡ offset - 1 - back = omega arith in
    let at : get_or (take n (drop (offset - n) text)) k 0 ≡ b = get_or-take n (drop (offset - n) text) k 0 (omega arith) ∙ get_or-drop (offset - n) text k 0 ∙ ap (λ m. get_or text m 0) e ∙ sym byte in
    false≢true (sym says ∙ ap (takes (literal_byte x)) (sym at) ∙ takes_at literal (take n (drop (offset - n) text)) k x both.1 (omega arith) read))

cond-append : (b : Bool) (x : ℕ) (xs ys zs : List ℕ) → xs ≡ ys ++ zs → cond b (x ∷ xs) xs ≡ cond b (x ∷ ys) ys ++ zs
cond-append true x xs ys zs e = ap (λ ws. x ∷ ws) e
cond-append false x xs ys zs e = e

filter-more : (n : ℕ) (p : ℕ → Bool) (from : ℕ) → filter p (range_with_len from (n + 1)) ≡ filter p (range_with_len from n) ++ filter p (range_with_len (from + n) 1)
filter-more zero p from = let e : from ≡ from + 0 = omega arith in ap (λ k. filter p (range_with_len k 1)) e
filter-more (suc n) p from =
    let e : suc n + 1 ≡ suc (n + 1) = omega arith in
    let f : from + 1 + n ≡ from + suc n = omega arith in
    ap (λ k. filter p (range_with_len from k)) e
    ∙ cond-append (p from) from (filter p (range_with_len (from + 1) (n + 1))) (filter p (range_with_len (from + 1) n)) (filter p (range_with_len (from + suc n) 1))
    (filter-more n p (from + 1) ∙ ap (λ k. filter p (range_with_len (from + 1) n) ++ filter p (range_with_len k 1)) f)

pub filter-in : (p : ℕ → Bool) (numbers : List ℕ) (n : ℕ) → numbers ≡ filter p (range_with_len 0 n) → p n ≡ true → numbers ++ n ∷ [] ≡ filter p (range_with_len 0 (n + 1))
filter-in p numbers n is says =
    let e : 0 + n ≡ n = omega arith in
    ap (λ xs. xs ++ n ∷ []) is
    ∙ ap (λ b. filter p (range_with_len 0 n) ++ cond b (n ∷ []) []) (sym says)
    ∙ ap (λ k. filter p (range_with_len 0 n) ++ filter p (range_with_len k 1)) (sym e)
    ∙ sym (filter-more n p 0)

pub filter-out : (p : ℕ → Bool) (numbers : List ℕ) (n : ℕ) → numbers ≡ filter p (range_with_len 0 n) → p n ≡ false → numbers ≡ filter p (range_with_len 0 (n + 1))
filter-out p numbers n is says =
    let e : 0 + n ≡ n = omega arith in
    is ∙ sym (append-nil (filter p (range_with_len 0 n)))
    ∙ ap (λ b. filter p (range_with_len 0 n) ++ cond b (n ∷ []) []) (sym says)
    ∙ ap (λ k. filter p (range_with_len 0 n) ++ filter p (range_with_len k 1)) (sym e)
    ∙ sym (filter-more n p 0)

bucket_end-plain : (literals : List (List LiteralByte)) (buckets : List ℕ) (bucket : ℕ) (text : List ℕ) (offset number : ℕ) → length buckets ≡ length literals → offset ≤ length text → number < length literals
    → plain_ends_there literals buckets bucket text offset number ≡ true → IsBucketEnd literals buckets bucket text offset number
bucket_end-plain literals buckets bucket text offset number same inside within says =
    let both = and_parts (eqb (get_or buckets number 0) bucket) (ends_there (get_or literals number []) text offset) says in
    record {
      literal = get_or literals number [];
      numbered = slice_get-get_or literals number [] within;
      filed = slice_get-get_or buckets number 0 (omega arith) ∙ ap (λ b. Some b) (eqb-true (get_or buckets number 0) bucket both.0);
      ends = ends_from_there (get_or literals number []) text offset inside both.1;
    }

plain-bucket_end : (literals : List (List LiteralByte)) (buckets : List ℕ) (bucket : ℕ) (text : List ℕ) (offset number : ℕ) → IsBucketEnd literals buckets bucket text offset number → plain_ends_there literals buckets bucket text offset number ≡ true
plain-bucket_end literals buckets bucket text offset number is =
    and_from (eqb (get_or buckets number 0) bucket) (ends_there (get_or literals number []) text offset)
    (eq-eqb (get_or buckets number 0) bucket (get_or_from_slice_get buckets number bucket 0 is.filed))
    (ap (λ l. ends_there l text offset) (get_or_from_slice_get literals number is.literal [] is.numbered) ∙ there_from_ends is.literal text offset is.ends)

pub plain-exact : (literals : List (List LiteralByte)) (buckets : List ℕ) (bucket : ℕ) (text : List ℕ) (offset count : ℕ) → length buckets ≡ length literals → offset ≤ length text → count ≡ length literals
    → AreBucketEnds literals buckets bucket text offset (filter (plain_ends_there literals buckets bucket text offset) (range_with_len 0 count))
plain-exact literals buckets bucket text offset count same inside whole =
    let p = plain_ends_there literals buckets bucket text offset in
    record {
      rising = passing-rising count p 0;
      exact = λ number. (
        λ member.
            let is : IsPassing p 0 count number = member-passing count p 0 number member in
            bucket_end-plain literals buckets bucket text offset number same inside (omega (arith, is.high)) is.passes,
        λ is.
            passing-member count p 0 number
            (record { low = omega arith; high = omega (arith, slice_get_within literals number is.literal is.numbered); passes = plain-bucket_end literals buckets bucket text offset number is }),
      );
    }
