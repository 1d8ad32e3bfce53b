-- Texts that are passed on to a sink, one after the other.
use Rattle.std.proofs.Common.{◌≡◌, ℕ, Bool, true, false, List, [], ◌++◌, Option, Result, Ok, Err, refl, sym, ap, ◌∙◌}
use Rattle.std.proofs.Common.{subst, append_assoc, append-nil}
use Rattle.std.specs.Result.{is_err, OnOk, OnErr}
use Rattle.hs_outside.specs.Counts.{Rose}
use Rattle.hs_outside.specs.Sink.{Took, TookPrefix, IsSent, IsCutShort, Sends}
use Rattle.hs_outside.proofs.Sending.{Took-nothing, Took-append, TookPrefix-after, TookPrefix-longer}
use Rattle.hs_outside.proofs.Counting.{Rose-after_same}
use Rattle.hs_lines.specs.Passing.{IsPassed, Passes, IsPassedOn, PassesOn, Queues}

pub passed-nothing : (taken : Option (List ℕ)) (waited : List ℕ) → IsPassed taken taken waited waited []
passed-nothing taken waited = record { written = []; taken = Took-nothing taken; whole = sym (append-nil waited) }

-- what is written, and what waits, of two texts in a row
in_turn : (v w a b c s t : List ℕ) → v ++ b ≡ a ++ s → w ++ c ≡ b ++ t → (v ++ w) ++ c ≡ a ++ (s ++ t)
in_turn v w a b c s t p q =
    append_assoc v w c ∙ (ap (λ x. v ++ x) q ∙ (sym (append_assoc v b t) ∙ (ap (λ x. x ++ t) p ∙ append_assoc a s t)))

-- one text after another
pub passes-join : (lost : Bool) (x y z : Option (List ℕ)) (a b c s t : List ℕ) →
    IsPassed x y a b s → Passes lost y z b c t → Passes lost x z a c (s ++ t)
passes-join false x y z a b c s t p q = record {
  written = p.written ++ q.written;
  taken = Took-append x y z p.written q.written p.taken q.taken;
  whole = in_turn p.written q.written a b c s t p.whole q.whole;
}
passes-join true x y z a b c s t p q =
    subst (λ text. TookPrefix x z text)
    (sym (append_assoc p.written b t) ∙ (ap (λ u. u ++ t) p.whole ∙ append_assoc a s t))
    (TookPrefix-after x y z p.written (b ++ t) p.taken q)

-- what was written of some lines begins them
pub passed-part : (x y : Option (List ℕ)) (a b s : List ℕ) → IsPassed x y a b s → TookPrefix x y (a ++ s)
passed-part x y a b s p = record { front = p.written; rest = b; split = sym p.whole; taken = p.taken }

-- where the sink failed, what was taken begins a longer text too
pub cut-longer : (x y : Option (List ℕ)) (a s t : List ℕ) → TookPrefix x y (a ++ s) → TookPrefix x y (a ++ (s ++ t))
cut-longer x y a s t p =
    subst (λ text. TookPrefix x y text) (append_assoc a s t) (TookPrefix-longer x y (a ++ s) t p)

-- what waited is written with the text behind it
pub passed-written : {p q r : Option (List ℕ)} {faults later last : ℕ} {waited waits text : List ℕ} →
    IsPassedOn p q faults later waited waits text → IsSent q r later last waits → IsSent p r faults last (waited ++ text)
passed-written {p} {q} {r} {waits = waits} passes sent = record {
  taken =
      subst (λ w. Took p r w) passes.passed.whole
      (Took-append p q r passes.passed.written waits passes.passed.taken sent.taken);
  counted = sent.counted ∙ passes.counted;
}

-- or only a beginning of it
pub passed-unwritten : {p q r : Option (List ℕ)} {faults later last : ℕ} {waited waits text : List ℕ} →
    IsPassedOn p q faults later waited waits text → IsCutShort q r later last waits → IsCutShort p r faults last (waited ++ text)
passed-unwritten {p} {q} {r} {waits = waits} passes cut = record {
  cut =
      subst (λ w. TookPrefix p r w) passes.passed.whole
      (TookPrefix-after p q r passes.passed.written waits passes.passed.taken cut.cut);
  failed = Rose-after_same _ _ _ passes.counted cut.failed;
}

-- ---- with the count of faults

pub on-nothing : (taken : Option (List ℕ)) (faults : ℕ) (waited : List ℕ) → IsPassedOn taken taken faults faults waited waited []
on-nothing taken faults waited = record { passed = passed-nothing taken waited; counted = refl }

pub on-then : {x y z : Option (List ℕ)} {f g h : ℕ} {a b c : List ℕ} (s t : List ℕ) →
    IsPassedOn x y f g a b s → IsPassedOn y z g h b c t → IsPassedOn x z f h a c (s ++ t)
on-then s t p q = record {
  passed = passes-join false _ _ _ _ _ _ s t p.passed q.passed;
  counted = q.counted ∙ p.counted;
}

pub on-cut : {x y z : Option (List ℕ)} {f g h : ℕ} {a b : List ℕ} (s t : List ℕ) →
    IsPassedOn x y f g a b s → IsCutShort y z g h (b ++ t) → IsCutShort x z f h (a ++ (s ++ t))
on-cut {b = b} s t p q = record {
  cut = passes-join true _ _ _ _ b b s t p.passed q.cut;
  failed = Rose-after_same _ _ _ p.counted q.failed;
}

pub on-cut_line : {x y z : Option (List ℕ)} {f g h : ℕ} {a b : List ℕ} (s line : List ℕ) →
    IsPassedOn x y f g a b s → IsCutShort y z g h b → IsCutShort x z f h (a ++ (s ++ line))
on-cut_line {x} {y} {z} {a = a} {b = b} s line p q =
    on-cut s line p (record { cut = TookPrefix-longer y z b line q.cut; failed = q.failed })

pub on-cut_longer : {x y : Option (List ℕ)} {f g : ℕ} (a s t : List ℕ) →
    IsCutShort x y f g (a ++ s) → IsCutShort x y f g (a ++ (s ++ t))
on-cut_longer {x} {y} a s t p = record { cut = cut-longer x y a s t p.cut; failed = p.failed }

-- the text alone, without the count
pub passes-alone : {T E : Type 0} (result : Result T E) (x y : Option (List ℕ)) (f g : ℕ) (a b s : List ℕ) →
    PassesOn result x y f g a b s → Passes (is_err result) x y a b s
passes-alone (Ok done) x y f g a b s p = p.passed
passes-alone (Err fault) x y f g a b s p = p.cut

-- what waits is written behind the text, with a line more
pub on-line_written : {p q r : Option (List ℕ)} {f g h : ℕ} {w x : List ℕ} (text line : List ℕ) →
    IsPassedOn p q f g w x text → IsSent q r g h (x ++ line) → IsSent p r f h (w ++ (text ++ line))
on-line_written {p} {q} {r} {w = w} {x = x} text line passes sent = record {
  taken =
      subst (λ t. Took p r t)
      (sym (append_assoc passes.passed.written x line) ∙ (ap (λ t. t ++ line) passes.passed.whole ∙ append_assoc w text line))
      (Took-append p q r passes.passed.written (x ++ line) passes.passed.taken sent.taken);
  counted = sent.counted ∙ passes.counted;
}

-- or only a beginning of it
pub on-line_unwritten : {p q r : Option (List ℕ)} {f g h : ℕ} {w x : List ℕ} (text line : List ℕ) →
    IsPassedOn p q f g w x text → IsCutShort q r g h (x ++ line) → IsCutShort p r f h (w ++ (text ++ line))
on-line_unwritten {x = x} text line passes cut = on-cut {b = x} text line passes cut

-- of a line that is put behind what waits
pub puts-alone : {T E : Type 0} (result : Result T E) (x y : Option (List ℕ)) (f g : ℕ) (a b s : List ℕ) →
    Queues result x y f g a b s → Passes (is_err result) x y a b s
puts-alone (Ok done) x y f g a b s p = p.passed
puts-alone (Err fault) x y f g a b s p = TookPrefix-longer x y a s p.cut

pub puts-counted : {T E : Type 0} (result : Result T E) (x y : Option (List ℕ)) (f g : ℕ) (a b s : List ℕ) →
    Queues result x y f g a b s → OnOk result (g ≡ f)
puts-counted (Ok done) x y f g a b s p = p.counted
puts-counted (Err fault) x y f g a b s p = tt

pub puts-failed : {T E : Type 0} (result : Result T E) (x y : Option (List ℕ)) (f g : ℕ) (a b s : List ℕ) →
    Queues result x y f g a b s → OnErr result (Rose f g)
puts-failed (Ok done) x y f g a b s p = tt
puts-failed (Err fault) x y f g a b s p = p.failed

-- of what waits, where it is written
pub flush-alone : {T E : Type 0} (result : Result T E) (x y : Option (List ℕ)) (f g : ℕ) (a b : List ℕ) →
    Sends result x y f g a → OnOk result (b ≡ []) → Passes (is_err result) x y a b []
flush-alone (Ok done) x y f g a b sent empty = record { written = a; taken = sent.taken; whole = ap (λ w. a ++ w) empty }
flush-alone (Err fault) x y f g a b cut empty = subst (λ t. TookPrefix x y t) (sym (append-nil a)) cut.cut

pub sends-counted : {T E : Type 0} (result : Result T E) (x y : Option (List ℕ)) (f g : ℕ) (a : List ℕ) →
    Sends result x y f g a → OnOk result (g ≡ f)
sends-counted (Ok done) x y f g a sent = sent.counted
sends-counted (Err fault) x y f g a cut = tt

pub sends-failed : {T E : Type 0} (result : Result T E) (x y : Option (List ℕ)) (f g : ℕ) (a : List ℕ) →
    Sends result x y f g a → OnErr result (Rose f g)
sends-failed (Ok done) x y f g a sent = tt
sends-failed (Err fault) x y f g a cut = cut.failed
