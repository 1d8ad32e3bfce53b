-- Flags and parameters of a pattern file are among those that there are.
use Rattle.std.proofs.Common.{ℕ, ◌*◌, ◌<◌, ◌≤◌, ◌^◌, ◌==◌, Bool, true, false, List, [], ◌∷◌, codes, refl, sym, ◌∙◌, subst, arith, bit_or, if◌then◌else◌}
use Rattle.std.proofs.lemmas.Nat.{or_lt, and_or_self, and_or_apart}
use Rattle.hs_base.specs.Lists.{Each}
use Rattle.hs_base.specs.Entries.{ListedEntry}
use Rattle.hs_base.specs.declared.ext.Ext.{Ext}
use Rattle.hs_text.specs.declared.parameter.Parameter.{Parameter}
use Rattle.hs_text.specs.declared.parameter.Parameter.TheVariants.{MinOffset, MaxOffset, MinLength, EditDistance, HammingDistance}
use Rattle.hs_text.specs.FlagLetters.{bit_among, flag_bit, flags_from, AreFlags}
use Rattle.hs_text.specs.Parameters.{no_parameters, with_value, Sets, AreSettings, one, more}
use Rattle.hs_text.specs.EntryLines.{HasTail, bare, braced, IsEntryLine}
use Rattle.hs_text.specs.PatternFile.{IsList, nothing, skipped, listed}
use Rattle.hs_text.specs.Known.{AreKnown, IsKnown}

-- ---- flags

-- twice the bit of the last letter, where the first one has this bit
abbrev above : List ℕ → ℕ → ℕ
above [] bit = bit
above (letter ∷ letters) bit = above letters (2 * bit)

above-le : (letters : List ℕ) (bit : ℕ) → bit ≤ above letters bit
above-le [] bit = omega arith
above-le (letter ∷ letters) bit = omega (arith, above-le letters (2 * bit))

below-if : (b : Bool) (x y n : ℕ) → x < n → y < n → (if b then x else y) < n
below-if true x y n p q = p
below-if false x y n p q = q

bit_among-below : (letters : List ℕ) (bit letter : ℕ) → 0 < bit → bit_among letters bit letter < above letters bit
bit_among-below [] bit letter some = some
bit_among-below (first ∷ others) bit letter some =
    below-if (first == letter) bit (bit_among others (2 * bit) letter) (above others (2 * bit))
    (omega (arith, some, above-le others (2 * bit)))
    (bit_among-below others (2 * bit) letter (omega (arith, some)))

flag_bit-below : (letter : ℕ) → flag_bit letter < 2 ^ 11
unfolding flag_bit
flag_bit-below letter = bit_among-below (codes "ismHV8WPLCQ") 1 letter (omega arith)

flags_from-below : (letters : List ℕ) (flags : ℕ) → flags < 2 ^ 11 → flags_from flags letters < 2 ^ 11
flags_from-below [] flags below = below
flags_from-below (letter ∷ letters) flags below =
    flags_from-below letters (bit_or flags (flag_bit letter)) (or_lt 11 flags (flag_bit letter) below (flag_bit-below letter))

flags-below : (letters : List ℕ) (flags : ℕ) → AreFlags letters flags → flags < 2 ^ 11
flags-below letters flags are = subst (λ n. n < 2 ^ 11) are.named (flags_from-below letters 0 (omega arith))

-- ---- parameters

none-known : AreKnown no_parameters
none-known = record { few = omega arith; no_min_offset = λ e. refl; no_max_offset = λ e. refl }

value-known : (ext : Ext) (parameter : Parameter) (value : ℕ) → AreKnown ext → AreKnown (with_value ext parameter value)
value-known ext MinOffset value known = record {
  few = or_lt 5 ext.bits 1 known.few (omega arith);
  no_min_offset = λ e. absurd (let given = and_or_self 1 ext.bits in omega (arith, e, given));
  no_max_offset = λ e. known.no_max_offset (sym (and_or_apart 2 ext.bits 1 refl) ∙ e);
}
value-known ext MaxOffset value known = record {
  few = or_lt 5 ext.bits 2 known.few (omega arith);
  no_min_offset = λ e. known.no_min_offset (sym (and_or_apart 1 ext.bits 2 refl) ∙ e);
  no_max_offset = λ e. absurd (let given = and_or_self 2 ext.bits in omega (arith, e, given));
}
value-known ext MinLength value known = record {
  few = or_lt 5 ext.bits 4 known.few (omega arith);
  no_min_offset = λ e. known.no_min_offset (sym (and_or_apart 1 ext.bits 4 refl) ∙ e);
  no_max_offset = λ e. known.no_max_offset (sym (and_or_apart 2 ext.bits 4 refl) ∙ e);
}
value-known ext EditDistance value known = record {
  few = or_lt 5 ext.bits 8 known.few (omega arith);
  no_min_offset = λ e. known.no_min_offset (sym (and_or_apart 1 ext.bits 8 refl) ∙ e);
  no_max_offset = λ e. known.no_max_offset (sym (and_or_apart 2 ext.bits 8 refl) ∙ e);
}
value-known ext HammingDistance value known = record {
  few = or_lt 5 ext.bits 16 known.few (omega arith);
  no_min_offset = λ e. known.no_min_offset (sym (and_or_apart 1 ext.bits 16 refl) ∙ e);
  no_max_offset = λ e. known.no_max_offset (sym (and_or_apart 2 ext.bits 16 refl) ∙ e);
}

set-known : {text : List ℕ} {before after : Ext} → Sets text before after → AreKnown before → AreKnown after
set-known {text} {before} sets known = subst AreKnown (sym sets.given) (value-known before sets.parameter sets.value known)

settings-known : {text : List ℕ} {before after : Ext} → AreSettings text before after → AreKnown before → AreKnown after
settings-known (one sets) known = set-known sets known
settings-known (more whole sets rest) known = settings-known rest (set-known sets known)

-- ---- entries

tail-known : {tail : List ℕ} {flags : ℕ} {ext : Ext} → HasTail tail flags ext → (flags < 2 ^ 11) × AreKnown ext
tail-known {tail} {flags} {ext} (bare are none) = (flags-below tail flags are, subst AreKnown (sym none) none-known)
tail-known {tail} {flags} {ext} (braced letters settings whole are given) = (flags-below letters flags are, settings-known given none-known)

entry-known : {line : List ℕ} {entry : ListedEntry} → IsEntryLine line entry → IsKnown entry
entry-known is = let known = tail-known is.asked in record { flags = known.0; parameters = known.1 }

-- each entry of a file
pub entries_known : {file : List ℕ} {entries : List ListedEntry} → IsList file entries → Each IsKnown entries
entries_known nothing = tt
entries_known (skipped begins skip rest) = entries_known rest
entries_known (listed begins line rest) = (entry-known line, entries_known rest)
