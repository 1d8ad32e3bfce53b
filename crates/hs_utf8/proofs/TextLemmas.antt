-- Bytes that stand at an offset, one after the other.
use Rattle.std.proofs.Common.{◌≡◌, ℕ, suc, ◌+◌, ◌<◌, ◌≤◌, Bool, true, List, [], ◌∷◌, length, take, drop, get_or, Some, slice_get, refl, sym, ap, subst, ◌∙◌, add-one, drop-cons, zero-add, inl, inr, arith}
use Rattle.std.specs.Prelude.{encode_utf8}
use Rattle.std.specs.List.{range_with_len}
use Rattle.std.specs.Option.{option_map}
use Rattle.std.proofs.lemmas.Bool.{cases_lt}
use Rattle.std.proofs.lemmas.Option.{slice_get_within, slice_get-get_or, slice_get-map, get_or_from_slice_get}
use Rattle.std.proofs.lemmas.List.FromFn.{length-range_with_len, get_or-range_with_len, length-map-range_with_len}
use lib.Utf8.{encode}
use Rattle.hs_base.specs.ByteSets.{bytes_where}
use Rattle.hs_base.specs.Lists.{Each}
use Rattle.hs_base.specs.Spans.{HasBytesAt}
use Rattle.hs_utf8.proofs.LengthLemmas.{encode-one, encode-two, encode-three, encode-four}

-- what a set of bytes by a test says of a byte
pub where-at : (f : ℕ → Bool) (b : ℕ) → b < 256 → slice_get (bytes_where f) b ≡ Some (f b)
where-at f b below =
    let bytes : List ℕ = range_with_len 0 256 in
    let within : b < length bytes = omega (arith, length-range_with_len 0 256) in
    slice_get-map f bytes b
    ∙ ap (option_map f) (slice_get-get_or bytes b 0 within ∙ ap (λ x. Some x) (get_or-range_with_len 0 256 b 0 below ∙ zero-add b))

pub where-byte : (f : ℕ → Bool) (b : ℕ) → slice_get (bytes_where f) b ≡ Some true → (b < 256) × (f b ≡ true)
where-byte f b is =
    let within : b < length (bytes_where f) = slice_get_within (bytes_where f) b true is in
    let below : b < 256 = omega (arith, length-map-range_with_len f 0 256) in
    let both : Some (f b) ≡ Some true = sym (where-at f b below) ∙ is in
    let test : f b ≡ true = cc in
    (below, test)

-- the bytes stand one after the other from the offset on, which lies in the stream
abbrev pub Stand : List ℕ → ℕ → List ℕ → Type 0
Stand w i [] = i ≤ length w
Stand w i (b ∷ bytes) = (slice_get w i ≡ Some b) × Stand w (i + 1) bytes

drop-at : (w : List ℕ) (i b : ℕ) → slice_get w i ≡ Some b → drop i w ≡ b ∷ drop (suc i) w
drop-at w i b there =
    let within : i < length w = slice_get_within w i b there in
    drop-cons w i 0 within ∙ ap (λ x. x ∷ drop (suc i) w) (get_or_from_slice_get w i b 0 there)

pub stand-bytes : (w : List ℕ) (i : ℕ) (bytes : List ℕ) → Stand w i bytes → HasBytesAt w i bytes
stand-bytes w i [] within = record { within = omega arith; same = refl }
stand-bytes w i (b ∷ bytes) (there, rest) =
    let behind = stand-bytes w (i + 1) bytes rest in
    record {
      within = omega (arith, behind.within);
      same =
          ap (take (suc (length bytes))) (drop-at w i b there)
          ∙ ap (λ n. b ∷ take (length bytes) (drop n w)) (sym (add-one i)) ∙ ap (λ bs. b ∷ bs) behind.same;
    }

pub bytes-stand : (w : List ℕ) (i : ℕ) (bytes : List ℕ) → HasBytesAt w i bytes → Stand w i bytes
bytes-stand w i [] has = omega (arith, has.within)
bytes-stand w i (b ∷ bytes) has =
    let inside : i < length w = omega (arith, has.within) in
    let cut = drop-cons w i 0 inside in
    let whole : get_or w i 0 ∷ take (length bytes) (drop (suc i) w) ≡ b ∷ bytes =
    sym (ap (take (suc (length bytes))) cut) ∙ has.same in
    let first : get_or w i 0 ≡ b = cc in
    let others : take (length bytes) (drop (suc i) w) ≡ bytes = cc in
    let rest : HasBytesAt w (i + 1) bytes = record {
      within = omega (arith, has.within);
      same = ap (λ n. take (length bytes) (drop n w)) (add-one i) ∙ others;
    } in
    (slice_get-get_or w i 0 inside ∙ ap (λ x. Some x) first, bytes-stand w (i + 1) bytes rest)

-- each byte of an encoding is a byte
pub encoding-bytes : (c : ℕ) → c < 0x110000 → Each (λ b. b < 256) (encode_utf8 c)
encoding-bytes c bounded = elim (cases_lt c 0x80) [
  | inl one ↦
      let is = encode-one c one in
      subst (Each (λ b. b < 256)) (sym is) (omega arith, tt)
  | inr more_than_one ↦ elim (cases_lt c 0x800) [
    | inl two ↦
        subst (Each (λ b. b < 256)) (sym (encode-two c more_than_one (omega arith))) (omega arith, (omega arith, tt))
    | inr more_than_two ↦ elim (cases_lt c 0x10000) [
      | inl three ↦
          subst (Each (λ b. b < 256)) (sym (encode-three c more_than_two (omega arith))) (omega arith, (omega arith, (omega arith, tt)))
      | inr four ↦
          subst (Each (λ b. b < 256)) (sym (encode-four c four)) (omega arith, (omega arith, (omega arith, (omega arith, tt))))
    ]
  ]
]
