-- Fields are packed one behind the other.
use Rattle.std.proofs.Common.{◌≡◌, ℕ, suc, ◌+◌, ◌<◌, List, [], ◌∷◌, ◌++◌, length, take, drop, get_or, slice_range, sym, ap, subst, ◌∙◌, arith, length-append}
use Rattle.std.proofs.lemmas.List.{length-drop, length-take-le}
use Rattle.std.proofs.Math.Seq.{drop-append-add, take-append_seam}
use Rattle.hs_base.specs.declared.context.Prev.{Prev}
use Rattle.hs_kept.specs.StateFields.{AreFieldsApart, IsNextField, end_of}
use Rattle.hs_kept.specs.Groups.{IsNumbered, IsPackedUpTo}
use Rattle.hs_kept.specs.Packing.{IsNumberFor, IsPackedOf, prev_in}
use Rattle.hs_kept.specs.declared.packing.Packing.{Packing}
use Rattle.hs_kept.specs.declared.packing.StateField.{StateField}
use Rattle.hs_kept.proofs.FieldLemmas.{left-item}
use Rattle.hs_kept.proofs.WritingLemmas.{byte-by_front, range-by_front, shorter-front}

pub packed-none : (fields : List StateField) (region : List ℕ) (prev : Prev) (kept : List ℕ) → IsPackedUpTo fields fields 0 0 region prev kept
packed-none fields region prev kept = record { same = λ whole front alike. alike; numbers = λ whole front are. are }

-- one field more
pub packed-more : (fields : List StateField) (f : StateField) (fs : List StateField) (at place r s : ℕ) (region : List ℕ) (prev : Prev) (old new : List ℕ) →
    IsNextField f at place r s → IsPackedUpTo fields (f ∷ fs) at place region prev old → take place new ≡ take place old →
    slice_range region at f.at ≡ slice_range new place f.place → IsNumbered region prev new f →
    IsPackedUpTo fields fs (end_of f) (suc f.place) region prev new
packed-more fields f fs at place r s region prev old new next so_far stays gap number = record {
  same = λ whole front alike.
      so_far.same whole (before whole front) (gap ∙ range-by_front new whole place f.place next.place_behind (sym (up_to whole front)), alike);
  numbers = λ whole front are.
      so_far.numbers whole (before whole front)
      (subst (λ n. IsNumberFor f.sets (slice_range region f.at (end_of f)) prev n) (byte-by_front new whole f.place (sym front)) number, are);
}
  where
    before : (whole : List ℕ) → take (suc f.place) whole ≡ take (suc f.place) new → take place whole ≡ take place old
    before whole front = shorter-front whole new place (suc f.place) (omega (arith, next.place_behind)) front ∙ stays

    up_to : (whole : List ℕ) → take (suc f.place) whole ≡ take (suc f.place) new → take f.place whole ≡ take f.place new
    up_to whole front = shorter-front whole new f.place (suc f.place) (omega arith) front

-- the same for the item of a loop over the fields
pub packed-step : (fs gs : List StateField) (i : ℕ) (f : StateField) → gs ≡ fs → i < length gs → f ≡ get_or gs i f → (at place r s at' : ℕ) (region : List ℕ) (prev : Prev) (old new : List ℕ) →
    at' ≡ end_of f → IsNextField f at place r s → IsPackedUpTo fs (drop i fs) at place region prev old → take place new ≡ take place old →
    slice_range region at f.at ≡ slice_range new place f.place → IsNumbered region prev new f →
    IsPackedUpTo fs (drop (i + 1) fs) at' (f.place + 1) region prev new
packed-step fs gs i f same below is at place r s at' region prev old new end next so_far stays gap number =
    let rest : List StateField = drop (i + 1) fs in
    let both : IsPackedUpTo fs (f ∷ rest) at place region prev old = subst (λ l. IsPackedUpTo fs l at place region prev old) (left-item fs gs i f same below is) so_far in
    let e : suc f.place ≡ f.place + 1 = omega arith in
    subst (λ n. IsPackedUpTo fs rest n (f.place + 1) region prev new) (sym end)
    (subst (λ n. IsPackedUpTo fs rest (end_of f) n region prev new) e
    (packed-more fs f rest at place r s region prev old new next both stays gap number))

-- and what stands behind the last one
pub packed-all : (packing : Packing) (left : List StateField) (at place : ℕ) (region : List ℕ) (prev : Prev) (old whole : List ℕ) →
    left ≡ [] → length region ≡ packing.region_size → length old ≡ packing.size → AreFieldsApart left at place packing.region_size packing.size →
    prev ≡ prev_in region → IsPackedUpTo packing.fields.items left at place region prev old → whole ≡ take place old ++ drop at region →
    IsPackedOf packing region whole
packed-all packing left at place region prev old whole none sized sized' apart stands so_far is =
    let end : AreFieldsApart [] at place packing.region_size packing.size = subst (λ l. AreFieldsApart l at place packing.region_size packing.size) none apart in
    let size : length (take place old) ≡ place = length-take-le place old (omega (arith, end.0, sized')) in
    let e : place ≡ length (take place old) + 0 = omega (arith, size) in
    let behind : drop place whole ≡ drop at region =
    ap (λ l. drop place l) is ∙ (ap (λ n. drop n (take place old ++ drop at region)) e ∙ drop-append-add (take place old) (drop at region) 0) in
    let front : take place whole ≡ take place old =
    ap (λ l. take place l) is ∙ (ap (λ n. take n (take place old ++ drop at region)) (sym size) ∙ take-append_seam (take place old) (drop at region)) in
    let all : IsPackedUpTo packing.fields.items [] at place region (prev_in region) old =
    subst (λ p. IsPackedUpTo packing.fields.items [] at place region p old) stands
    (subst (λ l. IsPackedUpTo packing.fields.items l at place region prev old) none so_far) in
    record {
      len = omega (arith, ap (λ l. length l) is, length-append (take place old) (drop at region), size, length-drop at region, end.0, end.1, sized);
      same = all.same whole front (sym behind);
      numbers = all.numbers whole front tt;
    }
