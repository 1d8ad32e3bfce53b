-- The lines of several reports on their way to a sink.
use Rattle.std.proofs.Common.{◌≡◌, ℕ, Bool, true, false, List, [], ◌∷◌, ◌++◌, Option, refl, sym, ap, ◌∙◌, subst, append-nil}
use Rattle.std.proofs.lemmas.Bool.{false≢true}
use Rattle.std.specs.List.{flat_map}
use Rattle.std.proofs.lemmas.List.Concat.{flat_map-append}
use Rattle.hs_base.specs.Told.{Pair}
use Rattle.hs_outside.specs.Sink.{IsCutShort}
use Rattle.hs_reports.specs.Events.{Through, still, onward}
use Rattle.hs_lines.specs.Passing.{IsPassedOn}
use Rattle.hs_lines.specs.declared.report_lines.ReportLines.{ReportLines}
use Rattle.hs_lines.specs.Printing.{report_line_of, report_lines_of, Way, Prints, passed, cut, over, way_of, Writes}
use Rattle.hs_lines.proofs.PassLemmas.{on-nothing, on-then, on-cut_line, on-cut_longer}

pub lines-join : (name : Option (List ℕ)) (xs ys : List Pair) → report_lines_of name (xs ++ ys) ≡ report_lines_of name xs ++ report_lines_of name ys
lines-join name xs ys = flat_map-append (report_line_of name) xs ys

apart : {b : Bool} → b ≡ true → b ≡ false → ⊥
apart p q = false≢true (sym q ∙ p)

lines_push : (name : Option (List ℕ)) (xs : List Pair) (p : Pair) → report_lines_of name xs ++ report_line_of name p ≡ report_lines_of name (xs ++ p ∷ [])
lines_push name xs p =
    ap (λ line. report_lines_of name xs ++ line) (sym (append-nil (report_line_of name p)))
    ∙ sym (flat_map-append (report_line_of name) xs (p ∷ []))

-- the lines of the reports were passed on, or the sink failed
pub data Printed (name : Option (List ℕ)) (before : Way) (pairs : List Pair) (after : Way) : Type 0 where
  all :
      after.failed ≡ false →
      IsPassedOn before.taken after.taken before.faults after.faults before.waits after.waits (report_lines_of name pairs) →
      Printed name before pairs after
  part :
      after.failed ≡ true →
      IsCutShort before.taken after.taken before.faults after.faults (before.waits ++ report_lines_of name pairs) →
      Printed name before pairs after

printed-more : (name : Option (List ℕ)) (before between after : Way) (pairs : List Pair) (p : Pair) →
    Printed name before pairs between → Prints between (report_line_of name p) after → Printed name before (pairs ++ p ∷ []) after
printed-more name before between after pairs p (all failed passes) (passed was now line) =
    all now
    (subst (λ text. IsPassedOn before.taken after.taken before.faults after.faults before.waits after.waits text) (lines_push name pairs p)
    (on-then (report_lines_of name pairs) (report_line_of name p) passes line))
printed-more name before between after pairs p (all failed passes) (cut was now short) =
    part now
    (subst (λ text. IsCutShort before.taken after.taken before.faults after.faults (before.waits ++ text)) (lines_push name pairs p)
    (on-cut_line (report_lines_of name pairs) (report_line_of name p) passes short))
printed-more name before between after pairs p (all failed passes) (over was same) = absurd (apart was failed)
printed-more name before between after pairs p (part failed short) (passed was now line) = absurd (apart failed was)
printed-more name before between after pairs p (part failed short) (cut was now line) = absurd (apart failed was)
printed-more name before between after pairs p (part failed short) (over was same) =
    subst (λ w. Printed name before (pairs ++ p ∷ []) w) (sym same)
    (part failed
    (subst (λ text. IsCutShort before.taken between.taken before.faults between.faults (before.waits ++ text)) (lines_push name pairs p)
    (on-cut_longer before.waits (report_lines_of name pairs) (report_line_of name p) short)))

pub printed-all : {name : Option (List ℕ)} {before : Way} {pairs : List Pair} {after : Way} → Printed name before pairs after → after.failed ≡ false →
    IsPassedOn before.taken after.taken before.faults after.faults before.waits after.waits (report_lines_of name pairs)
printed-all (all now passes) fine = passes
printed-all (part now short) fine = absurd (apart now fine)

pub printed-part : {name : Option (List ℕ)} {before : Way} {pairs : List Pair} {after : Way} → Printed name before pairs after → after.failed ≡ true →
    IsCutShort before.taken after.taken before.faults after.faults (before.waits ++ report_lines_of name pairs)
printed-part (all now passes) failed = absurd (apart failed now)
printed-part (part now short) failed = short

module _ {O : Type 0} (Written : O → Option (List ℕ)) (Faults : O → ℕ) where
  -- the reports made that of the lines, with the same name and by the same two references
  pub record Wrote (start : ReportLines O) (pairs : List Pair) (end : ReportLines O) : Type 0 where
    pub same_name : end.name.now ≡ start.name.now
    pub same_out : end.out.ghost_name ≡ start.out.ghost_name
    pub same_pending : end.pending.ghost_name ≡ start.pending.ghost_name
    pub printed : Printed start.name.now (way_of Written Faults start) pairs (way_of Written Faults end)

  pub wrote : (start : ReportLines O) (pairs : List Pair) (end : ReportLines O) → start.failed ≡ false →
      Through (Writes Written Faults) start pairs end → Wrote start pairs end
  wrote start _ _ fresh still = record {
    same_name = refl;
    same_out = refl;
    same_pending = refl;
    printed = all fresh (on-nothing (Written start.out.now) (Faults start.out.now) start.pending.now);
  }
  wrote start _ end fresh (onward {pairs} {between} p through writes) =
      let so_far = wrote start pairs between fresh through in
      let prints = subst (λ n. Prints (way_of Written Faults between) (report_line_of n p) (way_of Written Faults end)) so_far.same_name writes.prints in
      record {
        same_name = writes.same_name ∙ so_far.same_name;
        same_out = writes.same_out ∙ so_far.same_out;
        same_pending = writes.same_pending ∙ so_far.same_pending;
        printed = printed-more start.name.now (way_of Written Faults start) (way_of Written Faults between) (way_of Written Faults end) pairs p so_far.printed prints;
      }
