-- The size of a list's region, from what is counted.
use Rattle.std.proofs.Common.{◌≡◌, ℕ, ◌+◌, Bool, List, [], ◌∷◌, ◌++◌, length, map, refl, sym, ap, ◌∙◌, subst, arith}
use Rattle.std.specs.Prelude.{flat_map, slice_index}
use Rattle.std.specs.List.{AllZip, sum, sum_by}
use Rattle.std.proofs.lemmas.List.Sums.{sum-map, sum_by-append, sum_by-cons}
use Rattle.hs_base.specs.Chains.{Piece, chains_of}
use Rattle.hs_base.specs.Entries.{ListedEntry, flags_of}
use Rattle.hs_base.specs.Patterns.{Pattern}
use Rattle.hs_base.specs.Regions.{Plan, fields_at, list_places, place_size, places_of, plan_size, sums_from}
use Rattle.hs_base.proofs.PlanLemmas.{plans-once}
use Rattle.hs_pieces.specs.LookBack.{begins_with_look_back}
use Rattle.hs_rose.specs.Plans.{chain_places, plan_with}
use Rattle.hs_compile.specs.declared.counts.Counts.{Counts}
use Rattle.hs_compile.specs.Counting.{AreCounts, IsSmall, pattern_size}
use Rattle.hs_compile.specs.Lists.{IsReadAs, PassesSize, pattern_of}
use Rattle.hs_compile.specs.Sizes.{IsPlanOf, IsSizeOf}
use Rattle.hs_compile.proofs.LoweredLemmas.{one_read}

-- sums

pub sums-total : (at : ℕ) (ns : List ℕ) → slice_index (sums_from at ns) (length ns) ≡ at + sum ns
sums-total at [] = omega arith
sums-total at (n ∷ ns) = let e : slice_index (sums_from (at + n) ns) (length ns) ≡ (at + n) + sum ns = sums-total (at + n) ns in omega (arith, e, sum_by-cons (λ m. m) n ns)

sum-flat : {A B : Type 0} (f : B → ℕ) (g : A → List B) (xs : List A) → sum_by f (flat_map g xs) ≡ sum_by (λ x. sum_by f (g x)) xs
sum-flat f g [] = refl
sum-flat f g (x ∷ xs) =
    sum_by-append f (g x) (flat_map g xs) ∙ (ap (λ n. sum_by f (g x) + n) (sum-flat f g xs) ∙ sym (sum_by-cons (λ y. sum_by f (g y)) x xs))

sum-same : {A : Type 0} (f g : A → ℕ) → ((x : A) → f x ≡ g x) → (xs : List A) → sum_by f xs ≡ sum_by g xs
sum-same f g same [] = refl
sum-same f g same (x ∷ xs) = sum_by-cons f x xs ∙ (ap (λ n. n + sum_by f xs) (same x) ∙ (ap (λ n. g x + n) (sum-same f g same xs) ∙ sym (sum_by-cons g x xs)))

pattern-sized : (x : Pattern) → sum_by place_size (places_of begins_with_look_back x) ≡ pattern_size x
pattern-sized x = sum-flat place_size chain_places (chains_of x.tree)

-- the fields of a plan
pub plan-sized : (P : List Pattern) (ids singles : List ℕ) → plan_size (plan_with P ids singles) ≡ fields_at (length singles) (length ids) + sum_by pattern_size P
plan-sized P ids singles =
    sums-total (fields_at (length singles) (length ids)) (map place_size (list_places (plan_with P ids singles)))
    ∙ ap (λ n. fields_at (length singles) (length ids) + n)
    (sum-map place_size (list_places (plan_with P ids singles))
    ∙ (sum-flat place_size (places_of begins_with_look_back) P ∙ sum-same (λ x. sum_by place_size (places_of begins_with_look_back x)) pattern_size pattern-sized P))

-- the size, from the counts
pub size-counted : (P : List Pattern) (counts : Counts) (size : ℕ) → AreCounts P counts → size ≡ fields_at counts.singles counts.identifiers + counts.fields → IsSizeOf P size
size-counted P counts size are is = record {
  plan = plan_with P are.named.ids are.named.single_ids;
  is = record { patterns = refl; is_plan = are.named.is_plan; looks_back = refl };
  size =
      is ∙ (ap (λ n. fields_at n counts.identifiers + counts.fields) are.named.singles
      ∙ (ap (λ n. fields_at (length are.named.single_ids) n + counts.fields) are.named.identifiers
      ∙ (ap (λ n. fields_at (length are.named.single_ids) (length are.named.ids) + n) are.fields ∙ sym (plan-sized P are.named.ids are.named.single_ids))));
}

-- one pattern more
pub sum-push : (P : List Pattern) (x : Pattern) (old own : ℕ) → old ≡ sum_by pattern_size P → pattern_size x ≡ own → old + own ≡ sum_by pattern_size (P ++ x ∷ [])
sum-push P x old own are is =
    let last : sum_by pattern_size (x ∷ []) ≡ own = omega (arith, sum_by-cons pattern_size x [], is) in
    omega (arith, sum_by-append pattern_size P (x ∷ []), last, are)

-- there is one plan, and one size

abbrev made : List Pattern → List ℕ → List ℕ → (List Piece → Bool) → Plan
made ps ids singles look = record { patterns = ps; identifiers = ids; singles = singles; looks_back = look }

pub plan-once : (P : List Pattern) (x y : Plan) → IsPlanOf P x → IsPlanOf P y → x ≡ y
plan-once P x y is is' =
    let same : x.patterns ≡ y.patterns = is.patterns ∙ sym is'.patterns in
    let (ids, singles) = plans-once x y same is.is_plan is'.is_plan in
    let look : x.looks_back ≡ y.looks_back = is.looks_back ∙ sym is'.looks_back in
    plan_by x y same ids singles look
  where
    plan_by : (a b : Plan) → a.patterns ≡ b.patterns → a.identifiers ≡ b.identifiers → a.singles ≡ b.singles → a.looks_back ≡ b.looks_back → a ≡ b
    plan_by a b p i s l =
        ap (λ ps. made ps a.identifiers a.singles a.looks_back) p
        ∙ (ap (λ n. made b.patterns n a.singles a.looks_back) i
        ∙ (ap (λ n. made b.patterns b.identifiers n a.looks_back) s ∙ ap (λ f. made b.patterns b.identifiers b.singles f) l))

pub size-once : (P : List Pattern) (a b : ℕ) → IsSizeOf P a → IsSizeOf P b → a ≡ b
size-once P a b is is' = is.size ∙ (ap plan_size (plan-once P is.plan is'.plan is.is is'.is) ∙ sym is'.size)

-- an entry is read as one pattern

pub read-once : (entry : ListedEntry) (x y : Pattern) → IsReadAs entry x → IsReadAs entry y → x ≡ y
read-once entry x y is is' =
    is.is ∙ (ap (pattern_of entry) (one_read entry.text (flags_of entry) x.tree y.tree is.read is'.read) ∙ sym is'.is)

pub reads-once : (entries : List ListedEntry) (P Q : List Pattern) → AllZip IsReadAs entries P → AllZip IsReadAs entries Q → P ≡ Q
reads-once [] [] [] are are' = refl
reads-once [] [] (y ∷ Q) are are' = absurd are'
reads-once [] (x ∷ P) Q are are' = absurd are
reads-once (e ∷ entries) [] Q are are' = absurd are
reads-once (e ∷ entries) (x ∷ P) [] are are' = absurd are'
reads-once (e ∷ entries) (x ∷ P) (y ∷ Q) are are' = ap (λ z. z ∷ P) (read-once e x y are.0 are'.0) ∙ ap (λ zs. y ∷ zs) (reads-once entries P Q are.1 are'.1)

-- the size with an entry, of which the others are read so
pub passes-size : (before : List ListedEntry) (entry : ListedEntry) (bytes : ℕ) (P : List Pattern) (x : Pattern) → PassesSize before entry bytes → AllZip IsReadAs before P → IsReadAs entry x → IsSizeOf (P ++ x ∷ []) bytes
passes-size before entry bytes P x passes read own =
    subst (λ ps. IsSizeOf (ps ++ x ∷ []) bytes) (reads-once before passes.patterns P passes.all_read read)
    (subst (λ y. IsSizeOf (passes.patterns ++ y ∷ []) bytes) (read-once entry passes.pattern x passes.read own) passes.size)

pub passes-once : (before : List ListedEntry) (entry : ListedEntry) (a b : ℕ) → PassesSize before entry a → PassesSize before entry b → a ≡ b
passes-once before entry a b p q = size-once (q.patterns ++ q.pattern ∷ []) a b (passes-size before entry a q.patterns q.pattern p q.all_read q.read) q.size

-- the list without entries is small
pub small-none : (counts : Counts) → AreCounts [] counts → IsSmall []
small-none counts are =
    let no_single : counts.singles ≡ 0 = omega (arith, are.named.singles, are.named.fewer) in
    let no_id : counts.identifiers ≡ 0 = omega (arith, are.named.identifiers, are.named.few) in
    let no_field : counts.fields ≡ 0 = are.fields in
    let size : fields_at counts.singles counts.identifiers + counts.fields ≡ 72 = ap (λ n. fields_at n counts.identifiers + counts.fields) no_single ∙ (ap (λ n. fields_at 0 n + counts.fields) no_id ∙ ap (λ n. fields_at 0 0 + n) no_field) in
    record { bytes = 72; size = size-counted [] counts 72 are (sym size); within = omega arith }
