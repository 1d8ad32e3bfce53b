-- The entries of a bucket that end at a place: which they are, and which are passed over.
use Rattle.std.proofs.Common.{◌≡◌, ℕ, ◌+◌, ◌-◌, ◌<◌, ◌≤◌, true, false, List, [], ◌∷◌, length, get_or, map, Option, Some, None, refl, sym, ap, ◌∙◌, arith, eqb}
use Rattle.std.specs.Prelude.{slice_get}
use Rattle.std.specs.Option.{option_map}
use Rattle.std.proofs.lemmas.List.{length-map}
use Rattle.std.proofs.lemmas.Bool.{false≢true, and_parts, and_from, eqb-true, eq-eqb, false_from_ne_true}
use Rattle.std.proofs.lemmas.Option.{slice_get-map, slice_get_within, same_Some, none-some, get_or_from_slice_get}
use Rattle.hs_confirm.specs.declared.entry.Entry.{Entry}
use Rattle.hs_confirm.specs.BucketEnds.{IsBucketEnd, AreBucketEnds}
use Rattle.hs_confirm.specs.Taking.{ends_there}
use Rattle.hs_confirm.specs.Keys.{text_key, key_row}
use Rattle.hs_confirm.specs.Rows.{IsLeastFrom}
use Rattle.hs_confirm.specs.Entries.{literal_in, IsKeyed, AreKeyed, rows_of_entries, entry_ends_option, number_ends, ends_from}
use Rattle.hs_confirm.proofs.TakingLemmas.{ends_from_there, there_from_ends}
use Rattle.hs_confirm.proofs.KeyLemmas.{are_small, keys-same}
use Rattle.hs_confirm.proofs.NumberLemmas.{passing-end, passing-in, passing-out, passing-skip, IsPassing, member-passing, passing-member, passing-rising}

-- an entry of the bucket that ends there, with its number
pub record IsEntryEnd (entries : List Entry) (bucket : ℕ) (text : List ℕ) (offset number : ℕ) : Type 0 where
  pub entry : Entry
  pub numbered : slice_get entries number ≡ Some entry
  pub filed : entry.bucket ≡ bucket
  pub ends : ends_there (literal_in entry) text offset ≡ true

entry_end_option : (entries : List Entry) (bucket : ℕ) (text : List ℕ) (offset number : ℕ) (found : Option Entry) → slice_get entries number ≡ found → entry_ends_option bucket text offset found ≡ true → IsEntryEnd entries bucket text offset number
entry_end_option entries bucket text offset number None is says = absurd (false≢true says)
entry_end_option entries bucket text offset number (Some entry) is says =
    let both = and_parts (eqb entry.bucket bucket) (ends_there (literal_in entry) text offset) says in
    record { entry = entry; numbered = is; filed = eqb-true entry.bucket bucket both.0; ends = both.1 }

pub number_end : (entries : List Entry) (bucket : ℕ) (text : List ℕ) (offset number : ℕ) → number_ends entries bucket text offset number ≡ true → IsEntryEnd entries bucket text offset number
number_end entries bucket text offset number says = entry_end_option entries bucket text offset number (slice_get entries number) refl says

pub end_number : (entries : List Entry) (bucket : ℕ) (text : List ℕ) (offset number : ℕ) (entry : Entry) → slice_get entries number ≡ Some entry → entry.bucket ≡ bucket → ends_there (literal_in entry) text offset ≡ true → number_ends entries bucket text offset number ≡ true
end_number entries bucket text offset number entry is filed ends =
    ap (entry_ends_option bucket text offset) is ∙ and_from (eqb entry.bucket bucket) (ends_there (literal_in entry) text offset) (eq-eqb entry.bucket bucket filed) ends

-- what a map of a list has at a number
pub mapped : {A B : Type 0} (f : A → B) (xs : List A) (k : ℕ) (found : Option A) (y : B) → slice_get xs k ≡ found → slice_get (map f xs) k ≡ Some y → (x : A) × (slice_get xs k ≡ Some x) × (f x ≡ y)
mapped f xs k None y is says = absurd (none-some y (sym (slice_get-map f xs k ∙ ap (option_map f) is) ∙ says))
mapped f xs k (Some x) y is says = (x, is, same_Some (f x) y (sym (slice_get-map f xs k ∙ ap (option_map f) is) ∙ says))

pub bucket_end : (entries : List Entry) (bucket : ℕ) (text : List ℕ) (offset number : ℕ) → offset ≤ length text → IsEntryEnd entries bucket text offset number → IsBucketEnd (map literal_in entries) (map (λ entry. entry.bucket) entries) bucket text offset number
bucket_end entries bucket text offset number within is = record {
  literal = literal_in is.entry;
  numbered = slice_get-map literal_in entries number ∙ ap (option_map literal_in) is.numbered;
  filed = slice_get-map (λ entry. entry.bucket) entries number ∙ ap (option_map (λ entry. entry.bucket)) is.numbered ∙ ap (λ b. Some b) is.filed;
  ends = ends_from_there (literal_in is.entry) text offset within is.ends;
}

pub entry_end : (entries : List Entry) (bucket : ℕ) (text : List ℕ) (offset number : ℕ) → IsBucketEnd (map literal_in entries) (map (λ entry. entry.bucket) entries) bucket text offset number → number_ends entries bucket text offset number ≡ true
entry_end entries bucket text offset number is =
    let (entry, numbered, literal) = mapped literal_in entries number (slice_get entries number) is.literal refl is.numbered in
    let (other, numbered', filed) = mapped (λ e. e.bucket) entries number (slice_get entries number) bucket refl is.filed in
    let same : other ≡ entry = same_Some other entry (sym numbered' ∙ numbered) in
    end_number entries bucket text offset number entry numbered (sym (ap (λ e. e.bucket) same) ∙ filed)
    (ap (λ l. ends_there l text offset) literal ∙ there_from_ends is.literal text offset is.ends)

-- all of them
pub ends_from-exact : (entries : List Entry) (bucket : ℕ) (text : List ℕ) (offset : ℕ) → offset ≤ length text
    → AreBucketEnds (map literal_in entries) (map (λ entry. entry.bucket) entries) bucket text offset (ends_from entries bucket text offset 0)
unfolding ends_from
ends_from-exact entries bucket text offset within =
    let p = number_ends entries bucket text offset in
    record {
      rising = passing-rising (length entries - 0) p 0;
      exact = λ number. (
        λ member.
            let is : IsPassing p 0 (length entries - 0) number = member-passing (length entries - 0) p 0 number member in
            bucket_end entries bucket text offset number within (number_end entries bucket text offset number is.passes),
        λ is.
            let passes : p number ≡ true = entry_end entries bucket text offset number is in
            let found : IsEntryEnd entries bucket text offset number = number_end entries bucket text offset number passes in
            passing-member (length entries - 0) p 0 number
            (record { low = omega arith; high = omega (arith, slice_get_within entries number found.entry found.numbered); passes = passes }),
      );
    }

-- one that ends there stands in the row of the bucket and the key
pub end_row : (widths : List ℕ) (entries : List Entry) (rows bucket key : ℕ) (text : List ℕ) (offset number : ℕ) → AreKeyed widths entries → key ≡ text_key (get_or widths bucket 0) text offset → number_ends entries bucket text offset number ≡ true
    → get_or (rows_of_entries rows entries) number 0 ≡ key_row rows bucket key
end_row widths entries rows bucket key text offset number keyed is says =
    let found : IsEntryEnd entries bucket text offset number = number_end entries bucket text offset number says in
    let entry = found.entry in
    let known : IsKeyed widths entry = keyed number entry found.numbered in
    let same_key : entry.key ≡ key =
    known.key
    ∙ keys-same (get_or widths entry.bucket 0) (literal_in entry) text offset (are_small entry.literal.items) known.short found.ends
    ∙ ap (λ b. text_key (get_or widths b 0) text offset) found.filed
    ∙ sym is in
    get_or_from_slice_get (rows_of_entries rows entries) number (key_row rows entry.bucket entry.key) 0
    (slice_get-map (λ e. key_row rows e.bucket e.key) entries number ∙ ap (option_map (λ e. key_row rows e.bucket e.key)) found.numbered)
    ∙ ap (λ b. key_row rows b entry.key) found.filed
    ∙ ap (key_row rows bucket) same_key

-- the numbers up to the next one of the row are passed over
pub ends_from-skip : (widths : List ℕ) (entries : List Entry) (rows bucket key : ℕ) (text : List ℕ) (offset from to : ℕ) → AreKeyed widths entries → key ≡ text_key (get_or widths bucket 0) text offset
    → IsLeastFrom (rows_of_entries rows entries) (key_row rows bucket key) from to → ends_from entries bucket text offset from ≡ ends_from entries bucket text offset to
unfolding ends_from
ends_from-skip widths entries rows bucket key text offset from to keyed is least =
    let p = number_ends entries bucket text offset in
    passing-skip (to - from) p (length entries) from to (omega (arith, least.low)) (λ k low high.
    false_from_ne_true (p k) (λ says.
    let found : IsEntryEnd entries bucket text offset k = number_end entries bucket text offset k says in
    let there : k < length entries = slice_get_within entries k found.entry found.numbered in
    least.passed k low high (omega (arith, length-map entries (λ e. key_row rows e.bucket e.key)))
    (end_row widths entries rows bucket key text offset k keyed is says)))

pub ends_from-in : (entries : List Entry) (bucket : ℕ) (text : List ℕ) (offset number : ℕ) → number < length entries → number_ends entries bucket text offset number ≡ true
    → ends_from entries bucket text offset number ≡ number ∷ ends_from entries bucket text offset (number + 1)
unfolding ends_from
ends_from-in entries bucket text offset number within says = passing-in (number_ends entries bucket text offset) (length entries) number within says

pub ends_from-out : (entries : List Entry) (bucket : ℕ) (text : List ℕ) (offset number : ℕ) → number_ends entries bucket text offset number ≡ false
    → ends_from entries bucket text offset number ≡ ends_from entries bucket text offset (number + 1)
unfolding ends_from
ends_from-out entries bucket text offset number says = passing-out (number_ends entries bucket text offset) (length entries) number says

pub ends_from-end : (entries : List Entry) (bucket : ℕ) (text : List ℕ) (offset number : ℕ) → length entries ≤ number → ends_from entries bucket text offset number ≡ []
unfolding ends_from
ends_from-end entries bucket text offset number past = passing-end (number_ends entries bucket text offset) (length entries) number past

-- the step from one number of the row to the next
pub ends_from-told : (widths : List ℕ) (entries : List Entry) (rows bucket key : ℕ) (text : List ℕ) (offset number next : ℕ) → AreKeyed widths entries → key ≡ text_key (get_or widths bucket 0) text offset
    → IsLeastFrom (rows_of_entries rows entries) (key_row rows bucket key) (number + 1) next → number < length entries → number_ends entries bucket text offset number ≡ true
    → ends_from entries bucket text offset number ≡ number ∷ ends_from entries bucket text offset next
ends_from-told widths entries rows bucket key text offset number next keyed is least within says =
    ends_from-in entries bucket text offset number within says
    ∙ ap (λ numbers. number ∷ numbers) (ends_from-skip widths entries rows bucket key text offset (number + 1) next keyed is least)

pub ends_from-untold : (widths : List ℕ) (entries : List Entry) (rows bucket key : ℕ) (text : List ℕ) (offset number next : ℕ) → AreKeyed widths entries → key ≡ text_key (get_or widths bucket 0) text offset
    → IsLeastFrom (rows_of_entries rows entries) (key_row rows bucket key) (number + 1) next → number_ends entries bucket text offset number ≡ false
    → ends_from entries bucket text offset number ≡ ends_from entries bucket text offset next
ends_from-untold widths entries rows bucket key text offset number next keyed is least says =
    ends_from-out entries bucket text offset number says
    ∙ ends_from-skip widths entries rows bucket key text offset (number + 1) next keyed is least

-- the key of an entry that ends there is that of the text
pub end_key : (widths : List ℕ) (entries : List Entry) (bucket : ℕ) (text : List ℕ) (offset number : ℕ) (entry : Entry) → AreKeyed widths entries → number_ends entries bucket text offset number ≡ true → slice_get entries number ≡ Some entry
    → entry.key ≡ text_key (get_or widths bucket 0) text offset
end_key widths entries bucket text offset number entry keyed says numbered =
    let found : IsEntryEnd entries bucket text offset number = number_end entries bucket text offset number says in
    let same : found.entry ≡ entry = same_Some found.entry entry (sym found.numbered ∙ numbered) in
    let known : IsKeyed widths entry = keyed number entry numbered in
    known.key
    ∙ keys-same (get_or widths entry.bucket 0) (literal_in entry) text offset (are_small entry.literal.items) known.short (sym (ap (λ e. ends_there (literal_in e) text offset) same) ∙ found.ends)
    ∙ ap (λ b. text_key (get_or widths b 0) text offset) (sym (ap (λ e. e.bucket) same) ∙ found.filed)
