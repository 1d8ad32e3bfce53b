-- Where a state file is read, and where reading one stops: it is its fields in pairs.
use Rattle.std.proofs.Common.{◌≡◌, ℕ, ◌+◌, ◌-◌, ◌<◌, ◌≤◌, List, [], ◌++◌, length, take, drop, refl, sym, ap, ◌∙◌, subst, append-nil, append_assoc, arith, codes}
use Rattle.std.specs.Int.{w16, w32, to_le_bytes, from_le_bytes}
use Rattle.std.proofs.lemmas.List.{length-append, length-take, take-append-drop}
use Rattle.hs_base.specs.Lists.{Each}
use Rattle.hs_dbfile.specs.Reading.{IsRead, Stops, always, Always, itself}
use Rattle.hs_dbfile.specs.States.{State, region_bytes, state_bytes, IsDigest, IsStorable, IsState, HasForm, IsStateFile, IsStatePlace, IsStateFaultOf, IsOfDigest, Differs, IsReadOnce, IsSameState}
use Rattle.hs_dbfile.specs.declared.state.StateFault.{StateFault}
use Rattle.hs_dbfile.specs.declared.state.StateFault.TheVariants as fault
use Rattle.hs_dbfile.proofs.CodeLemmas.{Once, pair_bytes, ArePair, pair_once, stops_first, stops_second, reads_pair, IsSameCode, stops_as, once_as, reads_as, always_once}
use Rattle.hs_dbfile.proofs.NumberLemmas.{AreBytes, IsBelow, code_16, code_32, number_once, zeros, zeros_behind, padded_length, too_short, bytes_left, bytes_taken}
use Rattle.hs_dbfile.proofs.FieldLemmas.{HasLength, each_byte, zeros_text, length_once}
use Rattle.hs_dbfile.proofs.PlaceLemmas.{place_once}

abbrev pub name_bytes : List ℕ
name_bytes = codes "HSST"

number16_once : Once (to_le_bytes w16) (IsBelow 65536)
number16_once = number_once (to_le_bytes w16) (from_le_bytes w16) 2 65536 code_16

number32_once : Once (to_le_bytes w32) (IsBelow 4294967296)
number32_once = number_once (to_le_bytes w32) (from_le_bytes w32) 4 4294967296 code_32

-- ---- bytes of a known number

-- too few bytes begin so many
pub length_cut : (n : ℕ) (bytes rest : List ℕ) → AreBytes bytes → length bytes < n → rest ≡ [] → Stops itself (HasLength n) bytes rest
length_cut n bytes rest fits short none =
    let padded : List ℕ = bytes ++ zeros (n - length bytes) in
    let cut : Stops itself (HasLength n) bytes [] = record {
      front = bytes;
      parts = sym (append-nil bytes);
      value = padded;
      more = zeros (n - length bytes);
      allowed = record { sized = padded_length bytes n short; bytes = each_byte padded (zeros_behind bytes (n - length bytes) fits) };
      begins = refl;
      refused = λ others other after first p e. too_short bytes other others after (let l = p.sized in omega (arith, l, short)) first e;
    } in
    subst (λ r. Stops itself (HasLength n) bytes r) (sym none) cut

-- as many bytes are there
pub length_read : (n : ℕ) (bytes front rest : List ℕ) → AreBytes bytes → n ≤ length bytes → front ≡ take n bytes → rest ≡ drop n bytes → IsRead itself (HasLength n) bytes front rest
length_read n bytes front rest fits long f r =
    let sized : length (take n bytes) ≡ n = let l = length-take n bytes in omega (arith, l, long) in
    record {
      parts = sym (take-append-drop n bytes) ∙ ap (λ xs. xs ++ drop n bytes) (sym f) ∙ ap (λ xs. front ++ xs) (sym r);
      allowed = record { sized = ap length f ∙ sized; bytes = each_byte front (subst AreBytes (sym f) (bytes_taken n bytes fits)) };
    }

-- ---- digests

digest_same : IsSameCode itself (HasLength 32) itself IsDigest
digest_same = record {
  to = λ digest. digest;
  from = λ digest. digest;
  to_allowed = λ digest h. record { sized = h.sized; bytes = h.bytes };
  from_allowed = λ digest h. record { sized = h.sized; bytes = h.bytes };
  to_bytes = λ digest h. refl;
  from_bytes = λ digest h. refl;
  back = λ digest h. refl;
}

digest_once : Once itself IsDigest
digest_once = once_as _ _ _ _ digest_same (length_once 32)

pub digest_cut : (bytes rest : List ℕ) → AreBytes bytes → length bytes < 32 → rest ≡ [] → Stops itself IsDigest bytes rest
digest_cut bytes rest fits short none = stops_as _ _ _ _ bytes rest digest_same (length_cut 32 bytes rest fits short none)

pub digest_read : (bytes front rest : List ℕ) → AreBytes bytes → 32 ≤ length bytes → front ≡ take 32 bytes → rest ≡ drop 32 bytes → IsRead itself IsDigest bytes front rest
unfolding digest_same
digest_read bytes front rest fits long f r =
    reads_as _ _ _ _ bytes rest front digest_same (length_read 32 bytes front rest fits long f r)

-- ---- regions

region_same : IsSameCode (pair_bytes (to_le_bytes w32) itself) (ArePair (IsBelow 4294967296) HasLength) region_bytes IsStorable
region_same = record {
  to = λ p. p.1;
  from = λ region. (length region, region);
  to_allowed = λ p h. record { short = subst (λ k. k < 4294967296) (sym h.second.sized) h.first; bytes = h.second.bytes };
  from_allowed = λ region h. record { first = h.short; second = record { sized = refl; bytes = h.bytes } };
  to_bytes = λ p h. ap (λ k. to_le_bytes w32 k ++ p.1) h.second.sized;
  from_bytes = λ region h. refl;
  back = λ region h. refl;
}

region_once : Once region_bytes IsStorable
region_once = once_as _ _ _ _ region_same (pair_once (to_le_bytes w32) (IsBelow 4294967296) itself HasLength number32_once (λ n p. length_once n))

-- a cut length
pub region_stop_length : (bytes rest : List ℕ) → Stops (to_le_bytes w32) (IsBelow 4294967296) bytes rest → Stops region_bytes IsStorable bytes rest
region_stop_length bytes rest s =
    stops_as _ _ _ _ bytes rest region_same (stops_first (to_le_bytes w32) (IsBelow 4294967296) itself HasLength zeros bytes rest (λ n p. zeros_text n) s)

bytes_behind : (bytes behind : List ℕ) (n : ℕ) → IsRead (to_le_bytes w32) (IsBelow 4294967296) bytes n behind → AreBytes bytes → AreBytes behind
bytes_behind bytes behind n read fits = bytes_left (to_le_bytes w32 n) behind (subst AreBytes read.parts fits)

-- a cut region
pub region_stop_cut : (bytes behind rest : List ℕ) (n : ℕ) → IsRead (to_le_bytes w32) (IsBelow 4294967296) bytes n behind → AreBytes bytes → length behind < n → rest ≡ [] → Stops region_bytes IsStorable bytes rest
region_stop_cut bytes behind rest n read fits short none =
    let cut = length_cut n behind rest (bytes_behind bytes behind n read fits) short none in
    stops_as _ _ _ _ bytes rest region_same (stops_second (to_le_bytes w32) (IsBelow 4294967296) itself HasLength n bytes behind rest number32_once read cut)

-- a region that is there
pub region_read : (bytes behind region rest : List ℕ) (n : ℕ) → IsRead (to_le_bytes w32) (IsBelow 4294967296) bytes n behind → AreBytes bytes → n ≤ length behind → region ≡ take n behind → rest ≡ drop n behind → IsRead region_bytes IsStorable bytes region rest
unfolding region_same
region_read bytes behind region rest n read fits long f r =
    let second = length_read n behind region rest (bytes_behind bytes behind n read fits) long f r in
    reads_as _ _ _ _ bytes rest (n, region) region_same (reads_pair _ _ _ _ n region bytes behind rest read second)

-- ---- the file

-- from the digest on
abbrev pub Behind2 : Type 0
Behind2 = List ℕ × List ℕ

abbrev pub bytes2 : Behind2 → List ℕ
bytes2 = pair_bytes itself region_bytes

abbrev pub Allowed2 : Behind2 → Type 0
Allowed2 = ArePair IsDigest (λ digest. IsStorable)

-- from the version on
abbrev pub Behind1 : Type 0
Behind1 = ℕ × Behind2

abbrev pub bytes1 : Behind1 → List ℕ
bytes1 = pair_bytes (to_le_bytes w16) bytes2

abbrev pub Allowed1 : Behind1 → Type 0
Allowed1 = ArePair (IsBelow 65536) (λ version. Allowed2)

abbrev pub Behind0 : Type 0
Behind0 = Unit {0} × Behind1

abbrev pub bytes0 : Behind0 → List ℕ
bytes0 = pair_bytes (always name_bytes) bytes1

abbrev pub Allowed0 : Behind0 → Type 0
Allowed0 = ArePair Always (λ one. Allowed1)

state_same : IsSameCode bytes0 Allowed0 state_bytes IsState
state_same = record {
  to = λ p. record { version = p.1.0; digest = p.1.1.0; region = p.1.1.1 };
  from = λ state. (tt, (state.version, (state.digest, state.region)));
  to_allowed = λ p h. record { numbered = h.second.first; digest = h.second.second.first; region = h.second.second.second };
  from_allowed = λ state h. record { first = tt; second = record { first = h.numbered; second = record { first = h.digest; second = h.region } } };
  to_bytes = λ p h. refl;
  from_bytes = λ state h. refl;
  back = λ state h. refl;
}

pub state_once : Once state_bytes IsState
state_once =
    once_as _ _ _ _ state_same (pair_once (always name_bytes) Always bytes1 (λ one. Allowed1) (always_once name_bytes) (λ one p.
    pair_once (to_le_bytes w16) (IsBelow 65536) bytes2 (λ version. Allowed2) number16_once (λ version q.
    pair_once itself IsDigest region_bytes (λ digest. IsStorable) digest_once (λ digest r. region_once))))

-- ---- what may stand behind a field

no_region : IsStorable []
no_region = record { short = omega arith; bytes = tt }

no_digest : IsDigest (zeros 32)
no_digest = let z = zeros_text 32 in record { sized = z.sized; bytes = z.bytes }

default2 : Allowed2 (zeros 32, [])
default2 = record { first = no_digest; second = no_region }

default1 : Allowed1 (0, (zeros 32, []))
default1 = record { first = omega arith; second = default2 }

-- ---- where reading stops, field by field

pub as_state : {bytes rest : List ℕ} → Stops bytes0 Allowed0 bytes rest → Stops state_bytes IsState bytes rest
as_state {bytes = bytes} {rest = rest} s = stops_as bytes0 Allowed0 state_bytes IsState bytes rest state_same s

pub at_name : {bytes rest : List ℕ} → Stops (always name_bytes) Always bytes rest → Stops bytes0 Allowed0 bytes rest
at_name {bytes = bytes} {rest = rest} s =
    stops_first (always name_bytes) Always bytes1 (λ one. Allowed1) (λ one. (0, (zeros 32, []))) bytes rest (λ one p. default1) s

name_read : {bytes between : List ℕ} → bytes ≡ name_bytes ++ between → IsRead (always name_bytes) Always bytes tt between
name_read parts = record { parts = parts; allowed = tt }

pub behind_name : {bytes between rest : List ℕ} → bytes ≡ name_bytes ++ between → Stops bytes1 Allowed1 between rest → Stops bytes0 Allowed0 bytes rest
behind_name {bytes = bytes} {between = between} {rest = rest} parts s =
    stops_second (always name_bytes) Always bytes1 (λ one. Allowed1) tt bytes between rest (always_once name_bytes) (name_read parts) s

pub at_version : {bytes rest : List ℕ} → Stops (to_le_bytes w16) (IsBelow 65536) bytes rest → Stops bytes1 Allowed1 bytes rest
at_version {bytes = bytes} {rest = rest} s =
    stops_first (to_le_bytes w16) (IsBelow 65536) bytes2 (λ version. Allowed2) (λ version. (zeros 32, [])) bytes rest (λ version p. default2) s

pub behind_version : {version : ℕ} {bytes between rest : List ℕ} → IsRead (to_le_bytes w16) (IsBelow 65536) bytes version between → Stops bytes2 Allowed2 between rest → Stops bytes1 Allowed1 bytes rest
behind_version {version = version} {bytes = bytes} {between = between} {rest = rest} read s =
    stops_second (to_le_bytes w16) (IsBelow 65536) bytes2 (λ version. Allowed2) version bytes between rest number16_once read s

pub at_digest : {bytes rest : List ℕ} → Stops itself IsDigest bytes rest → Stops bytes2 Allowed2 bytes rest
at_digest {bytes = bytes} {rest = rest} s =
    stops_first itself IsDigest region_bytes (λ digest. IsStorable) (λ digest. []) bytes rest (λ digest p. no_region) s

pub behind_digest : {digest bytes between rest : List ℕ} → IsRead itself IsDigest bytes digest between → Stops region_bytes IsStorable between rest → Stops bytes2 Allowed2 bytes rest
behind_digest {digest = digest} {bytes = bytes} {between = between} {rest = rest} read s =
    stops_second itself IsDigest region_bytes (λ digest. IsStorable) digest bytes between rest digest_once read s

-- ---- a file that is there

pub state_read : {version : ℕ} {digest region a b c d rest : List ℕ} →
    a ≡ name_bytes ++ b →
    IsRead (to_le_bytes w16) (IsBelow 65536) b version c →
    IsRead itself IsDigest c digest d →
    IsRead region_bytes IsStorable d region rest →
    IsRead state_bytes IsState a (record { version = version; digest = digest; region = region }) rest
unfolding state_same
state_read {version = version} {digest = digest} {region = region} {a = a} {b = b} {c = c} {d = d} {rest = rest} name r1 r2 r3 =
    let p2 : IsRead bytes2 Allowed2 c (digest, region) rest = reads_pair _ _ _ _ digest region c d rest r2 r3 in
    let p1 : IsRead bytes1 Allowed1 b (version, (digest, region)) rest = reads_pair _ _ _ _ version (digest, region) b c rest r1 p2 in
    let p0 : IsRead bytes0 Allowed0 a (tt, (version, (digest, region))) rest = reads_pair _ _ _ _ tt (version, (digest, region)) a b rest (name_read name) p1 in
    reads_as bytes0 Allowed0 state_bytes IsState a rest (tt, (version, (digest, region))) state_same p0

-- bytes that are read to their end have the form
pub state_end : {bytes rest : List ℕ} {state : State} → IsRead state_bytes IsState bytes state rest → rest ≡ [] → HasForm bytes state
state_end {bytes = bytes} {rest = rest} {state = state} read none = record {
  is = read.allowed;
  whole = read.parts ∙ ap (λ xs. state_bytes state ++ xs) none ∙ append-nil (state_bytes state);
}

pub state_stop_within : {bytes rest : List ℕ} → Stops state_bytes IsState bytes rest → length rest ≤ length bytes
state_stop_within {bytes = bytes} {rest = rest} s =
    let l = ap length s.parts in
    let both = length-append s.front rest in
    omega (arith, l, both)

pub state_read_within : {bytes rest : List ℕ} {state : State} → IsRead state_bytes IsState bytes state rest → length rest ≤ length bytes
state_read_within {bytes = bytes} {rest = rest} {state = state} read =
    let l = ap length read.parts in
    let both = length-append (state_bytes state) rest in
    omega (arith, l, both)

-- what is written part by part is the file
pub state_written : (digest region a b c : List ℕ) → a ≡ [] ++ (name_bytes ++ to_le_bytes w16 2) → b ≡ a ++ digest → c ≡ b ++ region_bytes region → length digest ≡ 32 → AreBytes digest → length region < 4294967296 → Each (λ b. b < 256) region → IsStateFile c digest region
state_written digest region a b c a-is b-is c-is sized fits short widths = record {
  is = record {
    numbered = omega arith;
    digest = record { sized = sized; bytes = each_byte digest fits };
    region = record { short = short; bytes = widths };
  };
  whole =
      c-is
      ∙ ap (λ xs. xs ++ region_bytes region) (b-is ∙ ap (λ xs. xs ++ digest) a-is)
      ∙ append_assoc (name_bytes ++ to_le_bytes w16 2) digest (region_bytes region);
}

made : ℕ → List ℕ → List ℕ → State
made version digest region = record { version = version; digest = digest; region = region }

same_state : (s : State) (digest region : List ℕ) → s.version ≡ 2 → s.digest ≡ digest → region ≡ s.region → s ≡ record { version = 2; digest = digest; region = region }
unfolding made
same_state s digest region v d r =
    ap (λ n. made n s.digest s.region) v ∙ (ap (λ x. made 2 x s.region) d ∙ ap (λ x. made 2 digest x) (sym r))

-- what holds the version and the digest is their file
pub state_of_digest : {bytes digest region : List ℕ} (state : State) → HasForm bytes state → IsOfDigest state digest region → IsStateFile bytes digest region
state_of_digest {bytes} {digest} {region} state form of =
    subst (HasForm bytes) (same_state state digest region of.version of.same of.is) form

pub state_differs : (bytes digest : List ℕ) (state : State) (f : StateFault) → HasForm bytes state → Differs state digest f → IsStateFaultOf bytes digest f
state_differs bytes digest state (fault.Form at) form differs = absurd differs
state_differs bytes digest state (fault.Version version) form differs = record { state = state; form = form; told = differs.0; other = differs.1 }
state_differs bytes digest state fault.OtherDatabase form differs = record { state = state; form = form; same = differs.0; other = differs.1 }

-- ---- the laws

pub same_form : {bytes : List ℕ} {x y : State} → HasForm bytes x → HasForm bytes y → x ≡ y
same_form {x = x} {y = y} p q = (state_once x y [] [] p.is q.is (ap (λ b. b ++ []) (sym p.whole ∙ q.whole))).value

never_place : {bytes : List ℕ} {x : State} {at : ℕ} → HasForm bytes x → IsStatePlace bytes at → ⊥
never_place {x = x} form place = place.no_code x form.is form.whole

never_state : (bytes digest region : List ℕ) (f : StateFault) → IsStateFile bytes digest region → IsStateFaultOf bytes digest f → ⊥
never_state bytes digest region (fault.Form at) p place = never_place p place
never_state bytes digest region (fault.Version version) p other = other.other (sym other.told ∙ ap (λ (s : State). s.version) (same_form other.form p))
never_state bytes digest region fault.OtherDatabase p other = other.other (ap (λ (s : State). s.digest) (same_form other.form p))

same_fault : (bytes digest : List ℕ) (x y : StateFault) → IsStateFaultOf bytes digest x → IsStateFaultOf bytes digest y → x ≡ y
same_fault bytes digest (fault.Form m) (fault.Form n) p q = ap fault.Form (place_once state_bytes IsState bytes m n p q)
same_fault bytes digest (fault.Form m) (fault.Version n) p q = absurd (never_place q.form p)
same_fault bytes digest (fault.Form m) fault.OtherDatabase p q = absurd (never_place q.form p)
same_fault bytes digest (fault.Version m) (fault.Form n) p q = absurd (never_place p.form q)
same_fault bytes digest (fault.Version m) (fault.Version n) p q = ap fault.Version (sym p.told ∙ (ap (λ (s : State). s.version) (same_form p.form q.form) ∙ q.told))
same_fault bytes digest (fault.Version m) fault.OtherDatabase p q = absurd (p.other (sym p.told ∙ (ap (λ (s : State). s.version) (same_form p.form q.form) ∙ q.same)))
same_fault bytes digest fault.OtherDatabase (fault.Form n) p q = absurd (never_place p.form q)
same_fault bytes digest fault.OtherDatabase (fault.Version n) p q = absurd (q.other (sym q.told ∙ (ap (λ (s : State). s.version) (same_form q.form p.form) ∙ p.same)))
same_fault bytes digest fault.OtherDatabase fault.OtherDatabase p q = refl

pub states_read_once : (bytes digest : List ℕ) → IsReadOnce bytes digest
states_read_once bytes digest = record {
  regions = λ x y p q. ap (λ (s : State). s.region) (same_form p q);
  never = λ x f p q. never_state bytes digest x f p q;
  faults = λ x y p q. same_fault bytes digest x y p q;
}

long_is : (state : State) → IsDigest state.digest → length (state_bytes state) ≡ 42 + length state.region
long_is state is =
    let sized = is.sized in
    let both = length-append state.digest (region_bytes state.region) in
    omega (arith, sized, both)

pub states_are_one : (bytes digest digest' region region' : List ℕ) → IsStateFile bytes digest region → IsStateFile bytes digest' region' → IsSameState bytes digest digest' region region'
states_are_one bytes digest digest' region region' p q = record {
  digests = ap (λ (s : State). s.digest) (same_form p q);
  regions = ap (λ (s : State). s.region) (same_form p q);
  long = ap length p.whole ∙ long_is (record { version = 2; digest = digest; region = region }) p.is.digest;
}
