-- Lists in one.
use Rattle.std.proofs.Common.{◌≡◌, ◌⊎◌, ℕ, suc, ◌+◌, ◌-◌, ◌<◌, ◌≤◌, List, [], ◌∷◌, ◌++◌, length, map, take, drop, slice_get, slice_index, slice_range, get_or, Option, Some, Vec, Global, refl, sym, ap, subst, ◌∙◌, inl, inr, arith, length-append, length-drop}
use Rattle.std.proofs.Math.Seq.{drop-append_seam, get_or-append_seam, take-length}
use Rattle.std.proofs.lemmas.List.{drop-append-le, get_or_append_left, take-append-le}
use Rattle.std.proofs.lemmas.Option.{slice_get_within, slice_get-get_or}
use Rattle.hs_forest.specs.Groups.{AreGroups, AreJoined, AreLists}
use Rattle.hs_forest.specs.Views.{numbers}
use Rattle.hs_forest.proofs.ListLemmas.{get-push, taken-more}

-- no list
pub joined-none : AreJoined [] (0 ∷ []) []
joined-none = record {
  count = refl;
  first = refl;
  last = refl;
  rising = λ j k up within.
      let at_j : j ≡ 0 = omega arith in
      let at_k : k ≡ 0 = omega arith in
      subst (λ n. slice_index (0 ∷ []) j ≤ slice_index (0 ∷ []) n) (sym at_k) (subst (λ n. slice_index (0 ∷ []) n ≤ slice_index (0 ∷ []) 0) (sym at_j) (omega arith));
  each = λ k list at. absurd (cc);
}

-- a range of the front
range-left : (xs ys : List ℕ) (from to : ℕ) → from ≤ to → to ≤ length xs → slice_range (xs ++ ys) from to ≡ slice_range xs from to
range-left xs ys from to up within =
    let room : to - from ≤ length (drop from xs) = omega (arith, length-drop from xs) in
    ap (λ zs. take (to - from) zs) (drop-append-le from xs ys (omega arith)) ∙ take-append-le (to - from) (drop from xs) ys room

-- the range behind it
range-behind : (xs ys : List ℕ) (to : ℕ) → to ≡ length xs + length ys → slice_range (xs ++ ys) (length xs) to ≡ ys
range-behind xs ys to end =
    let count : to - length xs ≡ length ys = omega arith in
    ap (λ zs. take (to - length xs) zs) (drop-append_seam xs ys) ∙ ap (λ n. take n ys) count ∙ take-length ys

module _ (lists : List (List ℕ)) (starts joined list : List ℕ) (end : ℕ) (are : AreJoined lists starts joined) (end_is : end ≡ length joined + length list) where
  old : (k : ℕ) → k ≤ length lists → slice_index (starts ++ end ∷ []) k ≡ slice_index starts k
  old k within = get_or_append_left starts (end ∷ []) 0 k (omega (arith, are.count))

  new : (k : ℕ) → k ≡ suc (length lists) → slice_index (starts ++ end ∷ []) k ≡ end
  new k at = ap (λ n. slice_index (starts ++ end ∷ []) n) (at ∙ sym are.count) ∙ get_or-append_seam starts end [] 0

  below : (j : ℕ) → j ≤ length lists → slice_index starts j ≤ length joined
  below j within = omega (arith, are.rising j (length lists) within (omega arith), are.last)

  rising-by : (j k : ℕ) → j ≤ k → (k ≤ length lists) ⊎ (k ≡ suc (length lists)) → (j ≤ length lists) ⊎ (j ≡ suc (length lists)) → slice_index (starts ++ end ∷ []) j ≤ slice_index (starts ++ end ∷ []) k
  rising-by j k up (inl in_k) (inl in_j) = omega (arith, old j in_j, old k in_k, are.rising j k up in_k)
  rising-by j k up (inl in_k) (inr at_j) = absurd (omega arith)
  rising-by j k up (inr at_k) (inl in_j) = omega (arith, old j in_j, new k at_k, below j in_j, end_is)
  rising-by j k up (inr at_k) (inr at_j) = omega (arith, new j at_j, new k at_k)

  split : (k : ℕ) → k ≤ suc (length lists) → (k ≤ length lists) ⊎ (k ≡ suc (length lists))
  split k within = grind arith

  each-by : (k : ℕ) (x : List ℕ) → (slice_get lists k ≡ Some x) ⊎ ((k ≡ length lists) × (list ≡ x)) →
      slice_range (joined ++ list) (slice_index (starts ++ end ∷ []) k) (slice_index (starts ++ end ∷ []) (suc k)) ≡ x
  each-by k x (inl at) =
      let within : k < length lists = slice_get_within lists k x at in
      let low = old k (omega arith) in
      let high = old (suc k) (omega arith) in
      ap (λ n. slice_range (joined ++ list) n (slice_index (starts ++ end ∷ []) (suc k))) low ∙ ap (λ n. slice_range (joined ++ list) (slice_index starts k) n) high
      ∙ range-left joined list (slice_index starts k) (slice_index starts (suc k)) (are.rising k (suc k) (omega arith) (omega arith)) (below (suc k) (omega arith)) ∙ are.each k x at
  each-by k x (inr is) =
      let low : slice_index (starts ++ end ∷ []) k ≡ length joined = old k (omega (arith, is.0)) ∙ ap (λ n. slice_index starts n) is.0 ∙ are.last in
      let high : slice_index (starts ++ end ∷ []) (suc k) ≡ end = new (suc k) (ap suc is.0) in
      ap (λ n. slice_range (joined ++ list) n (slice_index (starts ++ end ∷ []) (suc k))) low ∙ ap (λ n. slice_range (joined ++ list) (length joined) n) high
      ∙ range-behind joined list end end_is ∙ is.1

  -- one more list
  pub joined-more : AreJoined (lists ++ list ∷ []) (starts ++ end ∷ []) (joined ++ list)
  joined-more =
      let more : length (lists ++ list ∷ []) ≡ suc (length lists) = simp length-append (omega arith) in record {
        count = simp length-append (omega (arith, are.count));
        first = old 0 (omega arith) ∙ are.first;
        last = new (length (lists ++ list ∷ [])) more ∙ end_is ∙ sym (length-append joined list);
        rising = λ j k up within. rising-by j k up (split k (omega (arith, more))) (split j (omega (arith, more)));
        each = λ k x at. each-by k x (get-push lists list k x at);
      }

-- the lists of each owner are joined
pub groups-joined : (owners : List (Option ℕ)) (count : ℕ) (lists : List (List ℕ)) (starts joined : List ℕ) → AreLists owners count lists → AreJoined lists starts joined → AreGroups owners count starts joined
groups-joined owners count lists starts joined of are = record {
  count_is = are.count ∙ ap suc of.count_is;
  first = are.first;
  last = ap (λ n. slice_index starts n) (sym of.count_is) ∙ are.last;
  rising = λ j k up within. are.rising j k up (omega (arith, of.count_is));
  each = λ k below.
      let at : slice_get lists k ≡ Some (get_or lists k []) = slice_get-get_or lists k [] (omega (arith, of.count_is)) in
      are.each k (get_or lists k []) at ∙ of.each k (get_or lists k []) at;
}

-- one more of the lists of a table
pub join-step : (lists : List (Vec ℕ Global)) (i : ℕ) (v : Vec ℕ Global) (starts joined starts' joined' : List ℕ) (end : ℕ) (items : List ℕ) → slice_get lists i ≡ Some v → items ≡ v.items → joined' ≡ joined ++ items → starts' ≡ starts ++ end ∷ [] →
    end ≡ length joined' → AreJoined (map numbers (take i lists)) starts joined → AreJoined (map numbers (take (i + 1) lists)) starts' joined'
join-step lists i v starts joined starts' joined' end items at own more_joined more_starts end_is are =
    let all : joined' ≡ joined ++ v.items = more_joined ∙ ap (λ xs. joined ++ xs) own in
    let count : end ≡ length joined + length v.items = end_is ∙ ap length all ∙ length-append joined v.items in
    let step = joined-more (map numbers (take i lists)) starts joined v.items end are count in
    subst (λ ls. AreJoined ls starts' joined') (sym (taken-more numbers lists i v at))
    (subst (λ ss. AreJoined (map numbers (take i lists) ++ v.items ∷ []) ss joined') (sym more_starts) (subst (λ js. AreJoined (map numbers (take i lists) ++ v.items ∷ []) (starts ++ end ∷ []) js) (sym all) step))
