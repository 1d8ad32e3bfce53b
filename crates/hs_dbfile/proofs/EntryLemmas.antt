-- Where an entry is read, and where reading one stops: it is its fields in pairs.
use Rattle.std.proofs.Common.{ℕ, List, [], refl, bit_and, arith}
use Rattle.std.specs.Int.{w16, w32, w64, to_le_bytes, from_le_bytes}
use Rattle.hs_base.specs.Entries.{ListedEntry}
use Rattle.hs_dbfile.specs.Files.{text_bytes, entry_bytes}
use Rattle.hs_dbfile.specs.Entries.{IsEntry}
use Rattle.hs_dbfile.specs.Reading.{IsRead, Stops, one_byte, IsBound, IsText}
use Rattle.hs_dbfile.proofs.CodeLemmas.{Once, pair_bytes, ArePair, pair_once, stops_first, stops_second, reads_pair, IsSameCode, stops_as, once_as, reads_as, once_weaken}
use Rattle.hs_dbfile.proofs.NumberLemmas.{IsBelow, code_16, code_32, number_once}
use Rattle.hs_dbfile.proofs.FieldLemmas.{one_byte_once, bound_once, text_once}

-- the greatest bound
abbrev pub unbounded : ℕ
unbounded = 18446744073709551615

-- from the greatest bound on
abbrev pub Behind4 : Type 0
Behind4 = ℕ × List ℕ

abbrev pub bytes4 : Behind4 → List ℕ
bytes4 = pair_bytes (to_le_bytes w64) text_bytes

abbrev pub Allowed4 : ℕ → Behind4 → Type 0
Allowed4 bits = ArePair (IsBound (bit_and bits 2) unbounded) (λ greatest. IsText)

-- from the least bound on
abbrev pub Behind3 : Type 0
Behind3 = ℕ × Behind4

abbrev pub bytes3 : Behind3 → List ℕ
bytes3 = pair_bytes (to_le_bytes w64) bytes4

abbrev pub Allowed3 : ℕ → Behind3 → Type 0
Allowed3 bits = ArePair (IsBound (bit_and bits 1) 0) (λ least. Allowed4 bits)

-- from the bits of the parameters on
abbrev pub Behind2 : Type 0
Behind2 = ℕ × Behind3

abbrev pub bytes2 : Behind2 → List ℕ
bytes2 = pair_bytes one_byte bytes3

abbrev pub Allowed2 : Behind2 → Type 0
Allowed2 = ArePair (IsBelow 32) Allowed3

-- from the flags on
abbrev pub Behind1 : Type 0
Behind1 = ℕ × Behind2

abbrev pub bytes1 : Behind1 → List ℕ
bytes1 = pair_bytes (to_le_bytes w16) bytes2

abbrev pub Allowed1 : Behind1 → Type 0
Allowed1 = ArePair (IsBelow 2048) (λ flags. Allowed2)

-- from the identifier on
abbrev pub Behind0 : Type 0
Behind0 = ℕ × Behind1

abbrev pub bytes0 : Behind0 → List ℕ
bytes0 = pair_bytes (to_le_bytes w32) bytes1

abbrev pub Allowed0 : Behind0 → Type 0
Allowed0 = ArePair (IsBelow 4294967296) (λ id. Allowed1)

pub entry_same : IsSameCode bytes0 Allowed0 entry_bytes IsEntry
entry_same = record {
  to = λ p. record { id = p.0; flags = p.1.0; ext = record { bits = p.1.1.0; min_offset = p.1.1.1.0; max_offset = p.1.1.1.1.0 }; text = p.1.1.1.1.1 };
  from = λ entry. (entry.id, (entry.flags, (entry.ext.bits, (entry.ext.min_offset, (entry.ext.max_offset, entry.text)))));
  to_allowed = λ p h. record {
    writable = record {
      known_flags = h.second.first;
      known_parameters = h.second.second.first;
      no_min_offset = h.second.second.second.first.absent;
      no_max_offset = h.second.second.second.second.first.absent;
      short = h.second.second.second.second.second.short;
    };
    widths = record {
      identifier = h.first;
      least = h.second.second.second.first.fits;
      greatest = h.second.second.second.second.first.fits;
      bytes = h.second.second.second.second.second.bytes;
    };
  };
  from_allowed = λ entry h. record {
    first = h.widths.identifier;
    second = record {
      first = h.writable.known_flags;
      second = record {
        first = h.writable.known_parameters;
        second = record {
          first = record { fits = h.widths.least; absent = h.writable.no_min_offset };
          second = record {
            first = record { fits = h.widths.greatest; absent = h.writable.no_max_offset };
            second = record { short = h.writable.short; bytes = h.widths.bytes };
          };
        };
      };
    };
  };
  to_bytes = λ p h. refl;
  from_bytes = λ entry h. refl;
  back = λ entry h. refl;
}

-- flags are numbers
flags_once : Once (to_le_bytes w16) (IsBelow 2048)
flags_once = once_weaken (to_le_bytes w16) (IsBelow 65536) (IsBelow 2048) (λ n h. omega (arith, h)) (number_once (to_le_bytes w16) (from_le_bytes w16) 2 65536 code_16)

pub entry_once : Once entry_bytes IsEntry
entry_once =
    once_as _ _ _ _ entry_same (pair_once (to_le_bytes w32) (IsBelow 4294967296) bytes1 (λ id. Allowed1) (number_once (to_le_bytes w32) (from_le_bytes w32) 4 4294967296 code_32) (λ id p.
    pair_once (to_le_bytes w16) (IsBelow 2048) bytes2 (λ flags. Allowed2) flags_once (λ flags q.
    pair_once one_byte (IsBelow 32) bytes3 Allowed3 (one_byte_once 32) (λ bits r.
    pair_once (to_le_bytes w64) (IsBound (bit_and bits 1) 0) bytes4 (λ least. Allowed4 bits) (bound_once (bit_and bits 1) 0) (λ least s.
    pair_once (to_le_bytes w64) (IsBound (bit_and bits 2) unbounded) text_bytes (λ greatest. IsText) (bound_once (bit_and bits 2) unbounded) (λ greatest t. text_once))))))

-- ---- what may stand behind a field

no_text : IsText []
no_text = record { short = omega arith; bytes = tt }

default4 : (bits : ℕ) → Allowed4 bits (unbounded, [])
default4 bits = record { first = record { fits = omega arith; absent = λ e. refl }; second = no_text }

default3 : (bits : ℕ) → Allowed3 bits (0, (unbounded, []))
default3 bits = record { first = record { fits = omega arith; absent = λ e. refl }; second = default4 bits }

default2 : Allowed2 (0, (0, (unbounded, [])))
default2 = record { first = omega arith; second = default3 0 }

default1 : Allowed1 (0, (0, (0, (unbounded, []))))
default1 = record { first = omega arith; second = default2 }

-- ---- where reading stops, field by field

pub as_entry : {bytes rest : List ℕ} → Stops bytes0 Allowed0 bytes rest → Stops entry_bytes IsEntry bytes rest
as_entry {bytes = bytes} {rest = rest} s = stops_as bytes0 Allowed0 entry_bytes IsEntry bytes rest entry_same s

pub at_id : {bytes rest : List ℕ} → Stops (to_le_bytes w32) (IsBelow 4294967296) bytes rest → Stops bytes0 Allowed0 bytes rest
at_id {bytes = bytes} {rest = rest} s =
    stops_first (to_le_bytes w32) (IsBelow 4294967296) bytes1 (λ id. Allowed1) (λ id. (0, (0, (0, (unbounded, []))))) bytes rest (λ id p. default1) s

pub behind_id : {id : ℕ} {bytes between rest : List ℕ} → IsRead (to_le_bytes w32) (IsBelow 4294967296) bytes id between → Stops bytes1 Allowed1 between rest → Stops bytes0 Allowed0 bytes rest
behind_id {id = id} {bytes = bytes} {between = between} {rest = rest} read s =
    stops_second (to_le_bytes w32) (IsBelow 4294967296) bytes1 (λ id. Allowed1) id bytes between rest (number_once (to_le_bytes w32) (from_le_bytes w32) 4 4294967296 code_32) read s

pub at_flags : {bytes rest : List ℕ} → Stops (to_le_bytes w16) (IsBelow 2048) bytes rest → Stops bytes1 Allowed1 bytes rest
at_flags {bytes = bytes} {rest = rest} s =
    stops_first (to_le_bytes w16) (IsBelow 2048) bytes2 (λ flags. Allowed2) (λ flags. (0, (0, (unbounded, [])))) bytes rest (λ flags p. default2) s

pub behind_flags : {flags : ℕ} {bytes between rest : List ℕ} → IsRead (to_le_bytes w16) (IsBelow 2048) bytes flags between → Stops bytes2 Allowed2 between rest → Stops bytes1 Allowed1 bytes rest
behind_flags {flags = flags} {bytes = bytes} {between = between} {rest = rest} read s =
    stops_second (to_le_bytes w16) (IsBelow 2048) bytes2 (λ flags. Allowed2) flags bytes between rest flags_once read s

pub at_bits : {bytes rest : List ℕ} → Stops one_byte (IsBelow 32) bytes rest → Stops bytes2 Allowed2 bytes rest
at_bits {bytes = bytes} {rest = rest} s =
    stops_first one_byte (IsBelow 32) bytes3 Allowed3 (λ bits. (0, (unbounded, []))) bytes rest (λ bits p. default3 bits) s

pub behind_bits : {bits : ℕ} {bytes between rest : List ℕ} → IsRead one_byte (IsBelow 32) bytes bits between → Stops bytes3 (Allowed3 bits) between rest → Stops bytes2 Allowed2 bytes rest
behind_bits {bits = bits} {bytes = bytes} {between = between} {rest = rest} read s =
    stops_second one_byte (IsBelow 32) bytes3 Allowed3 bits bytes between rest (one_byte_once 32) read s

pub at_least : (bits : ℕ) {bytes rest : List ℕ} → Stops (to_le_bytes w64) (IsBound (bit_and bits 1) 0) bytes rest → Stops bytes3 (Allowed3 bits) bytes rest
at_least bits {bytes = bytes} {rest = rest} s =
    stops_first (to_le_bytes w64) (IsBound (bit_and bits 1) 0) bytes4 (λ least. Allowed4 bits) (λ least. (unbounded, [])) bytes rest (λ least p. default4 bits) s

pub behind_least : (bits : ℕ) {least : ℕ} {bytes between rest : List ℕ} → IsRead (to_le_bytes w64) (IsBound (bit_and bits 1) 0) bytes least between → Stops bytes4 (Allowed4 bits) between rest → Stops bytes3 (Allowed3 bits) bytes rest
behind_least bits {least = least} {bytes = bytes} {between = between} {rest = rest} read s =
    stops_second (to_le_bytes w64) (IsBound (bit_and bits 1) 0) bytes4 (λ least. Allowed4 bits) least bytes between rest (bound_once (bit_and bits 1) 0) read s

pub at_greatest : (bits : ℕ) {bytes rest : List ℕ} → Stops (to_le_bytes w64) (IsBound (bit_and bits 2) unbounded) bytes rest → Stops bytes4 (Allowed4 bits) bytes rest
at_greatest bits {bytes = bytes} {rest = rest} s =
    stops_first (to_le_bytes w64) (IsBound (bit_and bits 2) unbounded) text_bytes (λ greatest. IsText) (λ greatest. []) bytes rest (λ greatest p. no_text) s

pub behind_greatest : (bits : ℕ) {greatest : ℕ} {bytes between rest : List ℕ} → IsRead (to_le_bytes w64) (IsBound (bit_and bits 2) unbounded) bytes greatest between → Stops text_bytes IsText between rest → Stops bytes4 (Allowed4 bits) bytes rest
behind_greatest bits {greatest = greatest} {bytes = bytes} {between = between} {rest = rest} read s =
    stops_second (to_le_bytes w64) (IsBound (bit_and bits 2) unbounded) text_bytes (λ greatest. IsText) greatest bytes between rest (bound_once (bit_and bits 2) unbounded) read s

-- ---- an entry that is there

pub entry_read : {id flags bits least greatest : ℕ} {text a b c d e f rest : List ℕ} →
    IsRead (to_le_bytes w32) (IsBelow 4294967296) a id b →
    IsRead (to_le_bytes w16) (IsBelow 2048) b flags c →
    IsRead one_byte (IsBelow 32) c bits d →
    IsRead (to_le_bytes w64) (IsBound (bit_and bits 1) 0) d least e →
    IsRead (to_le_bytes w64) (IsBound (bit_and bits 2) unbounded) e greatest f →
    IsRead text_bytes IsText f text rest →
    IsRead entry_bytes IsEntry a (record { id = id; flags = flags; ext = record { bits = bits; min_offset = least; max_offset = greatest }; text = text }) rest
unfolding entry_same
entry_read {id = id} {flags = flags} {bits = bits} {least = least} {greatest = greatest} {text = text} {a = a} {b = b} {c = c} {d = d} {e = e} {f = f} {rest = rest} r0 r1 r2 r3 r4 r5 =
    let p4 : IsRead bytes4 (Allowed4 bits) e (greatest, text) rest = reads_pair _ _ _ _ greatest text e f rest r4 r5 in
    let p3 : IsRead bytes3 (Allowed3 bits) d (least, (greatest, text)) rest = reads_pair _ _ _ _ least (greatest, text) d e rest r3 p4 in
    let p2 : IsRead bytes2 Allowed2 c (bits, (least, (greatest, text))) rest = reads_pair _ _ _ Allowed3 bits (least, (greatest, text)) c d rest r2 p3 in
    let p1 : IsRead bytes1 Allowed1 b (flags, (bits, (least, (greatest, text)))) rest = reads_pair _ _ _ _ flags (bits, (least, (greatest, text))) b c rest r1 p2 in
    let p0 : IsRead bytes0 Allowed0 a (id, (flags, (bits, (least, (greatest, text))))) rest = reads_pair _ _ _ _ id (flags, (bits, (least, (greatest, text)))) a b rest r0 p1 in
    reads_as bytes0 Allowed0 entry_bytes IsEntry a rest (id, (flags, (bits, (least, (greatest, text))))) entry_same p0

-- ---- an entry that there always is

abbrev pub no_entry : ListedEntry
no_entry = record { id = 0; flags = 0; ext = record { bits = 0; min_offset = 0; max_offset = unbounded }; text = [] }

pub no_entry_is : IsEntry no_entry
unfolding entry_same
no_entry_is = entry_same.to_allowed (0, (0, (0, (0, (unbounded, []))))) (record { first = omega arith; second = default1 })
