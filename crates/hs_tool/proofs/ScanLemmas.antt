-- How scans join, and what the pieces of a file leave together.
use Rattle.std.proofs.Common.{◌≡◌, ℕ, ◌+◌, ◌<◌, ◌≤◌, List, [], ◌++◌, length, take, Option, None, Result, Ok, Err, true, refl, sym, ◌∙◌}
use Rattle.std.proofs.Common.{subst, arith, length-append}
use Rattle.std.specs.Result.{IsErr, OnOk}
use Rattle.std.proofs.lemmas.List.{length-take-le}
use Rattle.hs_outside.specs.Sink.{TookPrefix, IsCutShort, Sends}
use Rattle.hs_outside.specs.Store.{Told, ReadsAt, Begins, IsLonger}
use Rattle.hs_outside.proofs.Viewing.{Begins-nothing, Begins-read, IsFile-read, IsLonger-seen}
use Rattle.hs_compile.specs.Databases.{Compiled}
use Rattle.hs_base.specs.Offsets.{greatest_offset}
use Rattle.hs_stream.specs.declared.stream.Stream.{Stream}
use Rattle.hs_stream.specs.Streams.{offset_of}
use Rattle.hs_tool.proofs.WrittenLemmas.{written-none, written-more}
use Rattle.hs_lines.specs.Passing.{IsPassedOn}
use Rattle.hs_lines.specs.Printing.{report_lines_of}
use Rattle.hs_lines.proofs.PassLemmas.{passes-join, passed-part, passed-written, passed-unwritten, on-nothing, on-then, on-cut_longer}
use Rattle.hs_lines.proofs.PassLemmas.{on-line_written, on-line_unwritten}
use Rattle.hs_lines.proofs.PrintLemmas.{lines-join}
use Rattle.hs_tool.specs.Scanning.{Scans, IsClosed, IsFileScanned, IsFilePartlyScanned}

-- where it was no fault
pub when_ok : {T E : Type 0} {P : Type 0} (r : Result T E) → (IsErr r → ⊥) → OnOk r P → P
when_ok (Ok x) fine p = p
when_ok (Err e) fine p = absurd (fine refl)

-- ---- scans

pub scans-none : (db : Compiled) (name : Option (List ℕ)) (stream : Stream) {A : List ℕ → Type 0} → A [] → Scans db name stream stream [] A
scans-none db name stream nothing = record { pairs = []; writes = written-none db stream; passes = nothing }

pub scans-join : {db : Compiled} {name : Option (List ℕ)} {a b c : Stream} {x y : List ℕ} {A B C : List ℕ → Type 0} →
    ((s t : List ℕ) → A s → B t → C (s ++ t)) → Scans db name a b x A → Scans db name b c y B → Scans db name a c (x ++ y) C
scans-join {db} {name} {a} {b} {c} {x} {y} {C = C} join first then = record {
  pairs = first.pairs ++ then.pairs;
  writes = written-more db a b c x y first.pairs then.pairs first.writes then.writes;
  passes =
      subst C (sym (lines-join name first.pairs then.pairs))
      (join (report_lines_of name first.pairs) (report_lines_of name then.pairs) first.passes then.passes);
}

pub scans-weaker : {db : Compiled} {name : Option (List ℕ)} {a b : Stream} {x : List ℕ} {A B : List ℕ → Type 0} →
    ((s : List ℕ) → A s → B s) → Scans db name a b x A → Scans db name a b x B
scans-weaker {name = name} weaker scan = record { pairs = scan.pairs; writes = scan.writes; passes = weaker (report_lines_of name scan.pairs) scan.passes }

-- ---- the pieces of a file

-- Some first bytes of the file were scanned, as far as the stream has come.
pub record IsScannedTo (db : Compiled) (told : Told) (old new : Stream) (IsPassed : List ℕ → Type 0) : Type 0 where
  pub bytes : List ℕ
  pub begins : Begins told bytes
  pub within : length bytes ≤ greatest_offset
  pub length : offset_of new ≡ length bytes
  pub scanned : Scans db None old new bytes IsPassed

pub seen-start : (db : Compiled) (told : Told) (stream : Stream) (p : Option (List ℕ)) (f : ℕ) (w : List ℕ) → offset_of stream ≡ 0 →
    IsScannedTo db told stream stream (λ text. IsPassedOn p p f f w w text)
seen-start db told stream p f w start = record {
  bytes = [];
  begins = Begins-nothing told;
  within = omega arith;
  length = start;
  scanned = scans-none db None stream (on-nothing p f w);
}

pub seen-more : {db : Compiled} {told : Told} {a b c : Stream} {p q r : Option (List ℕ)} {f g h : ℕ} {w x y old new : List ℕ} (at n : ℕ) →
    at ≡ offset_of b → at + n ≤ greatest_offset → IsScannedTo db told a b (λ text. IsPassedOn p q f g w x text) → ReadsAt told at old new n →
    Scans db None b c (take n new) (λ text. IsPassedOn q r g h x y text) → offset_of c ≡ offset_of b + length (take n new) →
    IsScannedTo db told a c (λ text. IsPassedOn p r f h w y text)
seen-more {told = told} {old = old} {new = new} at n here fits so_far reads then grown = record {
  bytes = so_far.bytes ++ take n new;
  begins = Begins-read told so_far.bytes at old new n so_far.begins (here ∙ so_far.length) reads;
  within = omega (arith, length-append so_far.bytes (take n new), length-take-le n new reads.within, so_far.length, here, fits);
  length = omega (arith, length-append so_far.bytes (take n new), so_far.length, grown);
  scanned = scans-join on-then so_far.scanned then;
}

pub seen-end : {db : Compiled} {told : Told} {a b : Stream} {A : List ℕ → Type 0} {old new : List ℕ} (at n : ℕ) →
    at ≡ offset_of b → n ≡ 0 → 0 < length new → IsScannedTo db told a b A → ReadsAt told at old new n → IsFileScanned db told a b A
seen-end {told = told} {old = old} {new = new} at n here nothing room so_far reads = record {
  bytes = so_far.bytes;
  file = IsFile-read told so_far.bytes at old new n so_far.begins (here ∙ so_far.length) reads nothing room;
  within = so_far.within;
  length = so_far.length;
  scanned = so_far.scanned;
}

pub seen-part : {db : Compiled} {told : Told} {a b : Stream} {p q : Option (List ℕ)} {f g : ℕ} {w x : List ℕ} →
    IsScannedTo db told a b (λ text. IsPassedOn p q f g w x text) → IsFilePartlyScanned db told a (λ text. TookPrefix p q (w ++ text))
seen-part {b = b} {p = p} {q = q} {w = w} {x = x} so_far = record {
  bytes = so_far.bytes;
  begins = so_far.begins;
  new = b;
  scanned = scans-weaker (λ text passes. passed-part p q w x text passes.passed) so_far.scanned;
}

pub seen-cut : {db : Compiled} {told : Told} {a b c : Stream} {p q r : Option (List ℕ)} {f g h : ℕ} {w x old new : List ℕ} (at n : ℕ) →
    at ≡ offset_of b → IsScannedTo db told a b (λ text. IsPassedOn p q f g w x text) → ReadsAt told at old new n →
    Scans db None b c (take n new) (λ text. IsCutShort q r g h (x ++ text)) → IsFilePartlyScanned db told a (λ text. TookPrefix p r (w ++ text))
seen-cut {told = told} {c = c} {p = p} {q = q} {r = r} {w = w} {x = x} {old = old} {new = new} at n here so_far reads then = record {
  bytes = so_far.bytes ++ take n new;
  begins = Begins-read told so_far.bytes at old new n so_far.begins (here ∙ so_far.length) reads;
  new = c;
  scanned = scans-join (λ s t first last. passes-join true p q r w x x s t first.passed last.cut) so_far.scanned then;
}

pub seen-longer : {db : Compiled} {told : Told} {a b : Stream} {A : List ℕ → Type 0} {old new : List ℕ} (at n : ℕ) →
    at ≡ offset_of b → greatest_offset < at + n → IsScannedTo db told a b A → ReadsAt told at old new n → IsLonger told greatest_offset
seen-longer {told = told} {old = old} {new = new} at n here longer so_far reads =
    IsLonger-seen told (so_far.bytes ++ take n new) greatest_offset
    (Begins-read told so_far.bytes at old new n so_far.begins (here ∙ so_far.length) reads)
    (omega (arith, length-append so_far.bytes (take n new), length-take-le n new reads.within, so_far.length, here, longer))

-- ---- the close

-- the lines that wait, and one more, are written, or a beginning of them
pub line-sent : {T E : Type 0} (result : Result T E) (p q r : Option (List ℕ)) (f g h : ℕ) (w x line : List ℕ) →
    IsPassedOn p q f g w x line → Sends result q r g h x → Sends result p r f h (w ++ line)
line-sent (Ok done) p q r f g h w x line passes sends = passed-written passes sends
line-sent (Err fault) p q r f g h w x line passes sends = passed-unwritten passes sends

-- behind the lines of the last reports
pub close-sent : {T E : Type 0} (result : Result T E) {db : Compiled} {stream : Stream} (p q r : Option (List ℕ)) (f g h : ℕ) (w x line : List ℕ) →
    IsClosed db stream (λ text. IsPassedOn p q f g w x text) → Sends result q r g h (x ++ line) →
    IsClosed db stream (λ text. Sends result p r f h (w ++ (text ++ line)))
close-sent (Ok done) p q r f g h w x line closes sends = record {
  pairs = closes.pairs;
  ends = closes.ends;
  passes = on-line_written (report_lines_of None closes.pairs) line closes.passes sends;
}
close-sent (Err fault) p q r f g h w x line closes sends = record {
  pairs = closes.pairs;
  ends = closes.ends;
  passes = on-line_unwritten (report_lines_of None closes.pairs) line closes.passes sends;
}

pub close-cut : {db : Compiled} {stream : Stream} (p r : Option (List ℕ)) (f h : ℕ) (w line : List ℕ) →
    IsClosed db stream (λ text. IsCutShort p r f h (w ++ text)) → IsClosed db stream (λ text. IsCutShort p r f h (w ++ (text ++ line)))
close-cut p r f h w line closes = record {
  pairs = closes.pairs;
  ends = closes.ends;
  passes = on-cut_longer w (report_lines_of None closes.pairs) line closes.passes;
}
