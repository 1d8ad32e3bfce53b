-- Sets of bytes that ranges and named classes fill.
use Rattle.std.proofs.Common.{◌≡◌, ℕ, ◌+◌, ◌<◌, ◌≤◌, ◌⊎◌, inl, inr, Bool, true, false, ◌&&◌, ◌||◌, List, [], ◌∷◌, length, take, map, eqb, Some, zero-add, refl, sym, ap, ap₂, ◌∙◌, arith}
use Rattle.std.specs.Prelude.{if◌then◌else◌, nat_lt, slice_get}
use Rattle.std.specs.Option.{option_map}
use Rattle.std.specs.List.{range_with_len}
use Rattle.std.proofs.lemmas.Bool.{cases_eq, eq-eqb, ne_eqb}
use Rattle.std.proofs.lemmas.Bool.Decides.{nat_tests}
use Rattle.std.proofs.lemmas.List.{take_all}
use Rattle.std.proofs.lemmas.List.FromFn.{length-range_with_len, get_or-range_with_len}
use Rattle.std.proofs.lemmas.Option.{same_Some, slice_get-map, slice_get-get_or}
use Rattle.regex_class.specs.Ranges.{Range, in_range, in_ranges, range_at}
use Rattle.regex_class.proofs.RangesLemmas.{in_ranges-more}
use Rattle.hs_base.specs.declared.byte_set.ByteSet.{ByteSet}
use Rattle.hs_base.specs.ByteSets.{has, members, bytes_where}
use Rattle.hs_syntax.specs.declared.named.Named.{Named}
use Rattle.hs_syntax.specs.declared.named.Named.TheVariants as named
use Rattle.hs_syntax.specs.Names.{is_of}
use Rattle.hs_parse.specs.declared.set.Test.TheVariants.{Any}
use Rattle.hs_parse.specs.Classes.{other_case, is_between, is_within, passes}
use Rattle.hs_parse.specs.Tokens.{any_byte}

-- what a list of all bytes has at a byte
at_byte : {A : Type 0} (f : ℕ → A) (b : ℕ) → b < 256 → slice_get (map f (range_with_len 0 256)) b ≡ Some (f b)
at_byte f b below =
    let bytes : List ℕ = range_with_len 0 256 in
    let within : b < length bytes = omega (arith, length-range_with_len 0 256) in
    slice_get-map f bytes b
    ∙ ap (option_map f) (slice_get-get_or bytes b 0 within ∙ ap (λ x. Some x) (get_or-range_with_len 0 256 b 0 below ∙ zero-add b))

-- what gives one list of all bytes agrees at each
agree_on_bytes :
    {A : Type 0} (f g : ℕ → A) → map f (range_with_len 0 256) ≡ map g (range_with_len 0 256) →
    (b : ℕ) → b < 256 → f b ≡ g b
agree_on_bytes f g same b h =
    same_Some (f b) (g b) (sym (at_byte f b h) ∙ ap (λ xs. slice_get xs b) same ∙ at_byte g b h)

-- the bytes that pass a test are members of its set
pub has-where :
    (s : ByteSet) (test : ℕ → Bool) → members s ≡ bytes_where test → (b : ℕ) → b < 256 → has s b ≡ test b
unfolding members
has-where s test same = agree_on_bytes (has s) test same

-- the bytes that `.` takes
pub has-any : (dotall : Bool) (s : ByteSet) → members s ≡ any_byte dotall → (b : ℕ) → b < 256 → has s b ≡ passes (Any dotall) b
unfolding any_byte
has-any dotall s same = has-where s (passes (Any dotall)) same

-- the sets of the classes that are constants
pub has-digit : (class : Named) → class ≡ named.Digit → (b : ℕ) → b < 256 →
    has (record { words = 0x03FF_0000_0000_0000 ∷ 0 ∷ 0 ∷ 0 ∷ [] }) b ≡ is_of class b
unfolding has members is_of
has-digit class e b h =
    has-where (record { words = 0x03FF_0000_0000_0000 ∷ 0 ∷ 0 ∷ 0 ∷ [] }) (is_of named.Digit) refl b h ∙ ap (λ c. is_of c b) (sym e)

pub has-word : (class : Named) → class ≡ named.Word → (b : ℕ) → b < 256 →
    has (record { words = 0x03FF_0000_0000_0000 ∷ 0x07FF_FFFE_87FF_FFFE ∷ 0 ∷ 0 ∷ [] }) b ≡ is_of class b
unfolding has members is_of
has-word class e b h =
    has-where (record { words = 0x03FF_0000_0000_0000 ∷ 0x07FF_FFFE_87FF_FFFE ∷ 0 ∷ 0 ∷ [] }) (is_of named.Word) refl b h ∙ ap (λ c. is_of c b) (sym e)

pub has-space : (class : Named) → class ≡ named.Space → (b : ℕ) → b < 256 →
    has (record { words = 0x0000_0001_0000_3E00 ∷ 0 ∷ 0 ∷ 0 ∷ [] }) b ≡ is_of class b
unfolding has members is_of
has-space class e b h =
    has-where (record { words = 0x0000_0001_0000_3E00 ∷ 0 ∷ 0 ∷ 0 ∷ [] }) (is_of named.Space) refl b h ∙ ap (λ c. is_of c b) (sym e)

-- up to a code, the bytes of a range
abbrev pub is_passed : (first last code : ℕ) → ℕ → Bool
is_passed first last code b = is_between first last b && nat_lt b code

-- up to a code, the bytes of a range, in both cases where the truth value says so, and those that were there
abbrev pub is_inserted : (caseless : Bool) → (first last code : ℕ) → (old : ByteSet) → ℕ → Bool
is_inserted caseless first last code old b =
    (is_passed first last code b || (caseless && is_passed first last code (other_case b))) || has old b

-- a set has them
pub record HasRange (caseless : Bool) (first last code : ℕ) (old new : ByteSet) : Type 0 where
  pub from : first ≤ code
  pub same : (b : ℕ) → b < 256 → has new b ≡ is_inserted caseless first last code old b

none_passed : (first last b : ℕ) → is_passed first last first b ≡ false
none_passed first last b = grind (arith, nat_tests)

neither : (c x y o : Bool) → x ≡ false → y ≡ false → o ≡ ((x || (c && y)) || o)
neither true x y o e f = rw (e, f) refl
neither false x y o e f = rw e refl

-- none yet
pub no_range : (caseless : Bool) (first last : ℕ) (old : ByteSet) → HasRange caseless first last first old old
no_range caseless first last old = record {
  from = omega arith;
  same = λ b h.
      neither caseless (is_passed first last first b) (is_passed first last first (other_case b)) (has old b)
      (none_passed first last b) (none_passed first last (other_case b));
}

passed_more :
    (first last code b : ℕ) → first ≤ code → code ≤ last →
    is_passed first last (code + 1) b ≡ (eqb b code || is_passed first last code b)
passed_more first last code b from to = elim (cases_eq b code) [
  | inl here ↦
      let there : is_passed first last (code + 1) b ≡ true = grind (arith, nat_tests, here, from, to) in
      there ∙ sym (ap (λ x. x || is_passed first last code b) (eq-eqb b code here))
  | inr far ↦
      let same : nat_lt b (code + 1) ≡ nat_lt b code = grind (arith, nat_tests, far) in
      ap (λ x. is_between first last b && x) same
      ∙ sym (ap (λ x. x || is_passed first last code b) (ne_eqb b code far))
]

shuffled : (c p q u v o : Bool) → ((p || (c && q)) || ((u || (c && v)) || o)) ≡ (((p || u) || (c && (q || v))) || o)
shuffled c true q u v o = refl
shuffled false false q u v o = refl
shuffled true false true true v o = refl
shuffled true false true false v o = refl
shuffled true false false u v o = refl

-- one byte more, in both cases where the truth value says so
pub more_range :
    (caseless : Bool) (first last code : ℕ) (old now new : ByteSet) → HasRange caseless first last code old now →
    code ≤ last →
    ((b : ℕ) → b < 256 → has new b ≡ ((eqb b code || (caseless && eqb (other_case b) code)) || has now b)) →
    HasRange caseless first last (code + 1) old new
more_range caseless first last code old now new before to added = record {
  from = omega (arith, before.from);
  same = λ b h.
      added b h
      ∙ ap (λ x. (eqb b code || (caseless && eqb (other_case b) code)) || x) (before.same b h)
      ∙ shuffled caseless (eqb b code) (eqb (other_case b) code) (is_passed first last code b)
      (is_passed first last code (other_case b)) (has old b)
      ∙ sym (ap₂ (λ x y. (x || (caseless && y)) || has old b) (passed_more first last code b before.from to)
      (passed_more first last code (other_case b) before.from to));
}

other_case-byte : (b : ℕ) → b < 256 → other_case b < 256
unfolding other_case
other_case-byte b h =
    let e : nat_lt (other_case b) 256 ≡ true = agree_on_bytes (λ n. nat_lt (other_case n) 256) (λ _. true) refl b h in
    grind (arith, nat_tests, e)

-- where the bytes of a range end
end_cases : (small : Bool) (last end : ℕ) → nat_lt last 256 ≡ small → end ≡ (if small then last + 1 else 256) →
    ((last < 256) × (end ≡ last + 1)) ⊎ ((256 ≤ last) × (end ≡ 256))
end_cases true last end e is = inl (grind (arith, nat_tests, e), is)
end_cases false last end e is = inr (grind (arith, nat_tests, e), is)

pub code_within : (last end code : ℕ) → end ≡ (if nat_lt last 256 then last + 1 else 256) → code < end →
    (code ≤ last) × (code < 256)
code_within last end code is h = elim (end_cases (nat_lt last 256) last end refl is) [
  | inl small ↦ (omega (arith, small.0, small.1, h), omega (arith, small.0, small.1, h))
  | inr large ↦ (omega (arith, large.0, large.1, h), omega (arith, large.1, h))
]

all_passed : (first last end code b : ℕ) → b < 256 → end ≡ (if nat_lt last 256 then last + 1 else 256) → end ≤ code →
    is_passed first last code b ≡ is_between first last b
all_passed first last end code b h is past = elim (end_cases (nat_lt last 256) last end refl is) [
  | inl small ↦ grind (arith, nat_tests, small.1, past)
  | inr large ↦
      let there : nat_lt b code ≡ true = grind (arith, nat_tests, h, large.1, past) in
      ap (λ x. is_between first last b && x) there ∙ sym (and_true (is_between first last b))
]
  where
    and_true : (x : Bool) → x ≡ (x && true)
    and_true true = refl
    and_true false = refl

-- all of them
pub whole_range :
    (caseless : Bool) (first last end code : ℕ) (old new : ByteSet) → HasRange caseless first last code old new →
    end ≡ (if nat_lt last 256 then last + 1 else 256) → end ≤ code →
    (b : ℕ) → b < 256 → has new b ≡ (is_within caseless first last b || has old b)
whole_range caseless first last end code old new all is past b h =
    all.same b h
    ∙ ap₂ (λ x y. (x || (caseless && y)) || has old b) (all_passed first last end code b h is past)
    (all_passed first last end code (other_case b) (other_case-byte b h) is past)

-- each case is the other of its other
turned_twice : (b : ℕ) → b < 256 → other_case (other_case b) ≡ b
unfolding other_case
turned_twice = agree_on_bytes (λ b. other_case (other_case b)) (λ b. b) refl

other_same : (b code : ℕ) → b < 256 → code < 256 → eqb b (other_case code) ≡ eqb (other_case b) code
other_same b code hb hc = elim (cases_eq (other_case b) code) [
  | inl same ↦ eq-eqb b (other_case code) (sym (turned_twice b hb) ∙ ap other_case same) ∙ sym (eq-eqb (other_case b) code same)
  | inr far ↦
      ne_eqb b (other_case code) (λ e. far (ap other_case e ∙ turned_twice code hc)) ∙ sym (ne_eqb (other_case b) code far)
]

both : (p q o : Bool) → (q || (p || o)) ≡ ((p || q) || o)
both true true o = refl
both true false o = refl
both false q o = refl

-- a byte, and its other case
pub with_other :
    (caseless : Bool) (code : ℕ) (old now new : ByteSet) → code < 256 → caseless ≡ true →
    ((b : ℕ) → b < 256 → has now b ≡ (eqb b code || has old b)) →
    ((b : ℕ) → b < 256 → has new b ≡ (eqb b (other_case code) || has now b)) →
    (b : ℕ) → b < 256 → has new b ≡ ((eqb b code || (caseless && eqb (other_case b) code)) || has old b)
with_other caseless code old now new hc e first second b h =
    second b h
    ∙ ap₂ (λ x y. x || y) (other_same b code h hc) (first b h)
    ∙ both (eqb b code) (eqb (other_case b) code) (has old b)
    ∙ ap (λ c. (eqb b code || (c && eqb (other_case b) code)) || has old b) (sym e)

-- the set of a class that is given by ranges
pub has-ranges :
    (set : ByteSet) (ranges : List Range) (of class : Named) → class ≡ of →
    ((b : ℕ) → b < 256 → has set b ≡ in_ranges ranges b) →
    bytes_where (in_ranges ranges) ≡ bytes_where (is_of of) →
    (b : ℕ) → b < 256 → has set b ≡ is_of class b
has-ranges set ranges of class e same alike b h =
    same b h ∙ agree_on_bytes (in_ranges ranges) (is_of of) alike b h ∙ ap (λ c. is_of c b) (sym e)

put_behind : (x o : Bool) → ((x || false) || o) ≡ (o || x)
put_behind true true = refl
put_behind true false = refl
put_behind false true = refl
put_behind false false = refl

-- one range more
pub ranges_more :
    (ranges : List Range) (k : ℕ) (old new : ByteSet) → k < length ranges →
    ((b : ℕ) → b < 256 → has old b ≡ in_ranges (take k ranges) b) →
    ((b : ℕ) → b < 256 → has new b ≡ (is_within false (range_at ranges k).0 (range_at ranges k).1 b || has old b)) →
    (b : ℕ) → b < 256 → has new b ≡ in_ranges (take (k + 1) ranges) b
unfolding in_range
ranges_more ranges k old new within before added b h =
    added b h
    ∙ put_behind (in_range (range_at ranges k) b) (has old b)
    ∙ ap (λ x. x || in_range (range_at ranges k) b) (before b h)
    ∙ sym (in_ranges-more ranges k b within)

-- all of them
pub ranges_all :
    (ranges : List Range) (k : ℕ) (set : ByteSet) → length ranges ≤ k →
    ((b : ℕ) → b < 256 → has set b ≡ in_ranges (take k ranges) b) →
    (b : ℕ) → b < 256 → has set b ≡ in_ranges ranges b
ranges_all ranges k set past all b h = all b h ∙ ap (λ rs. in_ranges rs b) (take_all k ranges past)
