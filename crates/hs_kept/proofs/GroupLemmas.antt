-- What is unpacked and packed so far, a field or a group at a time.
use Rattle.std.proofs.Common.{◌≡◌, ℕ, zero, suc, ◌+◌, ◌-◌, ◌<◌, ◌≤◌, List, [], ◌∷◌, ◌++◌, length, take, drop, replicate, get_or, Some, slice_get, slice_range, refl, sym, ap, subst, ◌∙◌, arith, append_assoc}
use Rattle.std.specs.Prelude.{IfSome, Option, slice_index}
use Rattle.hs_base.specs.declared.context.Prev.{Prev}
use Rattle.hs_base.specs.Lists.{Each}
use Rattle.hs_states.specs.StateSets.{set_bytes, state_count}
use Rattle.hs_kept.specs.StateFields.{AreFieldsApart, IsNextField, end_of}
use Rattle.hs_kept.specs.Rests.{IsAtRest, IsRestOf}
use Rattle.hs_bits.specs.Zeros.{IsZeroBetween}
use Rattle.hs_kept.specs.Packing.{region_from}
use Rattle.hs_kept.specs.Groups.{AreLeftFrom, IsNumbered, IsPackedTo, IsPackedUpTo, IsUnpackedTo}
use Rattle.hs_kept.specs.declared.packing.Packing.{Packing}
use Rattle.hs_kept.specs.declared.packing.StateField.{StateField}
use Rattle.hs_kept.proofs.CopyLemmas.{packed-step}
use Rattle.hs_kept.proofs.FieldLemmas.{apart-step, item-there, left-item, next-item}
use Rattle.hs_kept.proofs.RestLemmas.{AreAlikeIn, IsLastField, each-drop, group-apart, group-order, group-packs, group-rests, group-unpacks}

-- what is behind a place in what is behind another
pub drop-again : (fs : List StateField) (i n j : ℕ) → i + n ≡ j → drop n (drop i fs) ≡ drop j fs
drop-again fs zero n j is = ap (λ k. drop k fs) (let e : n ≡ j = omega (arith, is) in e)
drop-again [] (suc i) n zero is = absurd (omega (arith, is))
drop-again [] (suc i) zero (suc j) is = refl
drop-again [] (suc i) (suc n) (suc j) is = refl
drop-again (f ∷ fs) (suc i) n zero is = absurd (omega (arith, is))
drop-again (f ∷ fs) (suc i) n (suc j) is = drop-again fs i n j (omega (arith, is))

pub get-again : (fs : List StateField) (i n j : ℕ) (f : StateField) → i + n ≡ j → slice_get fs j ≡ Some f → slice_get (drop i fs) n ≡ Some f
get-again fs zero n j f is there = ap (λ k. slice_get fs k) (let e : n ≡ j = omega (arith, is) in e) ∙ there
get-again [] (suc i) n zero f is there = absurd (omega (arith, is))
get-again [] (suc i) zero (suc j) f is there = there
get-again [] (suc i) (suc n) (suc j) f is there = there
get-again (g ∷ fs) (suc i) n zero f is there = absurd (omega (arith, is))
get-again (g ∷ fs) (suc i) n (suc j) f is there = get-again fs i n j f (omega (arith, is)) there

-- what holds of the value of an option that is there
pub some-of : {A : Type 0} (P : A → Type 0) (o : Option A) (x : A) → o ≡ Some x → IfSome o P → P x
some-of P o x is holds = subst (λ o. IfSome o P) is holds

module _ (packing : Packing) where
  abbrev fs : List StateField
  fs = packing.fields.items

  -- none is taken yet
  pub left-none : AreLeftFrom packing 0 0 0
  left-none = record { apart = packing.apart; rests = λ prev row rests. rests }

  -- the next field
  pub left-next : (i : ℕ) (f : StateField) (at place : ℕ) → i < length fs → f ≡ get_or fs i f → AreLeftFrom packing i at place → IsNextField f at place packing.region_size packing.size
  left-next i f at place below is left = next-item fs fs i f refl below is at place packing.region_size packing.size _ _ refl refl left.apart

  -- one field more is taken
  pub left-more : (i : ℕ) (f : StateField) (at place at' place' : ℕ) → i < length fs → f ≡ get_or fs i f → at' ≡ end_of f → place' ≡ f.place + 1 → AreLeftFrom packing i at place → AreLeftFrom packing (i + 1) at' place'
  left-more i f at place at' place' below is end end' left = record {
    apart = subst (λ n. AreFieldsApart (drop (i + 1) fs) at' n packing.region_size packing.size) (sym end') (apart-step fs fs i f refl below is at place _ _ at' end left.apart);
    rests = λ prev row rests.
        let both : IsAtRest (f ∷ drop (i + 1) fs) place prev row = subst (λ l. IsAtRest l place prev row) (left-item fs fs i f refl below is) (left.rests prev row rests) in
        let e : suc f.place ≡ place' = omega (arith, end') in
        subst (λ n. IsAtRest (drop (i + 1) fs) n prev row) e both.1.1;
  }

  -- The last field of a group that is left.
  pub record IsGroupEnd (i j : ℕ) (last : StateField) : Type 0 where
    pub count : ℕ
    pub reach : i + suc count ≡ j
    pub there : slice_get (drop i fs) count ≡ Some last
    pub behind : drop (suc count) (drop i fs) ≡ drop j fs

  pub group-end : (i j k : ℕ) (last : StateField) → i < j → k + 1 ≡ j → j ≤ length fs → last ≡ get_or fs k last → IsGroupEnd i j last
  group-end i j k last some before within is =
      let e : i + suc (k - i) ≡ j = omega (arith, some, before) in
      let e' : i + (k - i) ≡ k = omega (arith, some, before) in
      record {
        count = k - i;
        reach = e;
        there = get-again fs i (k - i) k last e' (item-there fs k last (omega (arith, before, within)) is);
        behind = drop-again fs i (suc (k - i)) j e;
      }

  pub left-order : (i j : ℕ) (last : StateField) (at place : ℕ) → IsGroupEnd i j last → AreLeftFrom packing i at place → IsLastField last at place packing.region_size packing.size
  left-order i j last at place end left = group-order (drop i fs) end.count last at place packing.region_size packing.size end.there left.apart

  -- a group is taken
  pub left-group : (i j : ℕ) (last : StateField) (at place at' place' : ℕ) → IsGroupEnd i j last → at' ≡ end_of last → place' ≡ last.place + 1 → AreLeftFrom packing i at place → AreLeftFrom packing j at' place'
  left-group i j last at place at' place' end e e' left =
      let e2 : suc last.place ≡ place' = omega (arith, e') in
      record {
        apart =
            subst (λ n. AreFieldsApart (drop j fs) n place' packing.region_size packing.size) (sym e)
            (subst (λ n. AreFieldsApart (drop j fs) (end_of last) n packing.region_size packing.size) e2
            (subst (λ l. AreFieldsApart l (end_of last) (suc last.place) packing.region_size packing.size) end.behind
            (group-apart (drop i fs) end.count last at place packing.region_size packing.size end.there left.apart)));
        rests = λ prev row rests.
            subst (λ n. IsAtRest (drop j fs) n prev row) e2
            (subst (λ l. IsAtRest l (suc last.place) prev row) end.behind (group-rests (drop i fs) end.count last place prev row end.there (left.rests prev row rests)));
      }

  -- ---- unpacking

  pub unpacked-none : (kept region : List ℕ) → length region ≡ packing.region_size → Each (λ f. slice_index kept f.place < state_count f.sets) fs → IsUnpackedTo packing kept 0 0 0 region
  unpacked-none kept region sized numbers = record { len = sized; left = left-none; numbers = numbers; made = refl }

  pub unpacked-more : (kept old new : List ℕ) (i : ℕ) (f : StateField) (at place at' place' : ℕ) → i < length fs → f ≡ get_or fs i f → at' ≡ end_of f → place' ≡ f.place + 1 →
      length new ≡ length old → take (end_of f) new ≡ take at old ++ (slice_range kept place f.place ++ set_bytes f.sets (slice_index kept f.place)) →
      IsUnpackedTo packing kept i at place old → IsUnpackedTo packing kept (i + 1) at' place' new
  unpacked-more kept old new i f at place at' place' below is end end' sized made so_far =
      let split : drop i fs ≡ f ∷ drop (i + 1) fs = left-item fs fs i f refl below is in
      let gap : List ℕ = slice_range kept place f.place in
      let set : List ℕ = set_bytes f.sets (slice_index kept f.place) in
      let tail : List ℕ = region_from (drop (i + 1) fs) (suc f.place) kept in
      let e : place' ≡ suc f.place = omega (arith, end') in
      record {
        len = sized ∙ so_far.len;
        left = left-more i f at place at' place' below is end end' so_far.left;
        numbers = (subst (λ l. Each (λ f. slice_index kept f.place < state_count f.sets) l) split so_far.numbers).1;
        made =
            ap (λ n. take n new ++ region_from (drop (i + 1) fs) place' kept) end
            ∙ (ap (λ n. take (end_of f) new ++ region_from (drop (i + 1) fs) n kept) e
            ∙ (ap (λ zs. zs ++ tail) made
            ∙ (append_assoc (take at old) (gap ++ set) tail
            ∙ (ap (λ zs. take at old ++ zs) (append_assoc gap set tail)
            ∙ (ap (λ l. take at old ++ region_from l place kept) (sym split) ∙ so_far.made)))));
      }

  -- a group at rest
  pub unpacked-rest : (kept old new : List ℕ) (i j : ℕ) (last : StateField) (at place at' place' : ℕ) (prev : Prev) (row : List ℕ) → IsGroupEnd i j last → at' ≡ end_of last → place' ≡ last.place + 1 →
      length kept ≡ packing.size → IsRestOf fs packing.size prev row → length new ≡ length old →
      take at' new ≡ take at old ++ replicate (at' - at) 0 →
      AreAlikeIn kept row place place' →
      IsUnpackedTo packing kept i at place old → IsUnpackedTo packing kept j at' place' new
  unpacked-rest kept old new i j last at place at' place' prev row end e e' sized rest size front same so_far =
      let e2 : suc last.place ≡ place' = omega (arith, e') in
      let tail : List ℕ = region_from (drop j fs) place' kept in
      let zeros : List ℕ = replicate (at' - at) 0 in
      let group : region_from (drop i fs) place kept ≡ replicate (end_of last - at) 0 ++ region_from (drop (suc end.count) (drop i fs)) (suc last.place) kept =
      group-unpacks (drop i fs) end.count last at place packing.region_size packing.size prev row kept end.there so_far.left.apart sized (so_far.left.rests prev row rest.1)
      (subst (λ n. AreAlikeIn kept row place n) (sym e2) same) in
      let whole : region_from (drop i fs) place kept ≡ zeros ++ tail =
      group
      ∙ (ap (λ l. replicate (end_of last - at) 0 ++ region_from l (suc last.place) kept) end.behind
      ∙ (ap (λ n. replicate (end_of last - at) 0 ++ region_from (drop j fs) n kept) e2 ∙ ap (λ n. replicate (n - at) 0 ++ tail) (sym e))) in
      record {
        len = size ∙ so_far.len;
        left = left-group i j last at place at' place' end e e' so_far.left;
        numbers = subst (λ l. Each (λ f. slice_index kept f.place < state_count f.sets) l) end.behind (each-drop _ (suc end.count) (drop i fs) so_far.numbers);
        made = ap (λ l. l ++ tail) front ∙ (append_assoc (take at old) zeros tail ∙ (ap (λ l. take at old ++ l) (sym whole) ∙ so_far.made));
      }

  -- ---- packing

  pub packed-field : (region : List ℕ) (prev : Prev) (old new : List ℕ) (i : ℕ) (f : StateField) (at place at' place' : ℕ) → i < length fs → f ≡ get_or fs i f → at' ≡ end_of f → place' ≡ f.place + 1 →
      length new ≡ length old → take place new ≡ take place old → slice_range region at f.at ≡ slice_range new place f.place → IsNumbered region prev new f →
      IsPackedTo packing region prev i at place old → IsPackedTo packing region prev (i + 1) at' place' new
  packed-field region prev old new i f at place at' place' below is end end' sized stays gap number so_far = record {
    len = sized ∙ so_far.len;
    left = left-more i f at place at' place' below is end end' so_far.left;
    packed =
        subst (λ n. IsPackedUpTo fs (drop (i + 1) fs) at' n region prev new) (sym end')
        (packed-step fs fs i f refl below is at place packing.region_size packing.size at' region prev old new end (left-next i f at place below is so_far.left) so_far.packed stays gap number);
  }

  -- a group at rest
  pub packed-rest : (region : List ℕ) (prev : Prev) (old new : List ℕ) (i j : ℕ) (last : StateField) (at place at' place' : ℕ) (row : List ℕ) → IsGroupEnd i j last → at' ≡ end_of last → place' ≡ last.place + 1 →
      length region ≡ packing.region_size → IsRestOf fs packing.size prev row → length new ≡ length old → take place new ≡ take place old →
      AreAlikeIn new row place place' → IsZeroBetween region at at' →
      IsPackedTo packing region prev i at place old → IsPackedTo packing region prev j at' place' new
  packed-rest region prev old new i j last at place at' place' row end e e' sized rest size stays same none so_far =
      let e2 : suc last.place ≡ place' = omega (arith, e') in
      let begun : IsPackedUpTo fs (drop i fs) at place region prev new =
      record {
        same = λ whole front alike. so_far.packed.same whole (front ∙ stays) alike;
        numbers = λ whole front are. so_far.packed.numbers whole (front ∙ stays) are;
      } in
      let all : IsPackedUpTo fs (drop (suc end.count) (drop i fs)) (end_of last) (suc last.place) region prev new =
      group-packs fs (drop i fs) end.count last at place packing.region_size packing.size prev row region new end.there so_far.left.apart sized (size ∙ so_far.len) (so_far.left.rests prev row rest.1)
      (subst (λ n. AreAlikeIn new row place n) (sym e2) same) (subst (λ n. IsZeroBetween region at n) e none) begun in
      record {
        len = size ∙ so_far.len;
        left = left-group i j last at place at' place' end e e' so_far.left;
        packed =
            subst (λ n. IsPackedUpTo fs (drop j fs) n place' region prev new) (sym e)
            (subst (λ n. IsPackedUpTo fs (drop j fs) (end_of last) n region prev new) e2
            (subst (λ l. IsPackedUpTo fs l (end_of last) (suc last.place) region prev new) end.behind all));
      }
