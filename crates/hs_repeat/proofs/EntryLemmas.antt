-- Entries that live, over one more byte; and where a repeat of one set is left.
use Rattle.std.proofs.Common.{◌≡◌, ℕ, zero, suc, ◌+◌, ◌<◌, ◌≤◌, Bool, true, false, List, [], ◌∷◌, ◌++◌, length, Option, Some, slice_get, refl, sym, ap, subst, ◌∙◌, inl, inr, arith, length-append}
use Rattle.std.specs.Prelude.{IfSome, ◌⊎◌}
use Rattle.std.proofs.lemmas.Bool.{cases_eq, cases_lt}
use Rattle.std.proofs.lemmas.Option.{slice_get-get_or}
use Rattle.std.proofs.lemmas.List.{get_or_append_left}
use Rattle.std.proofs.Math.Seq.{get_or-append_seam}
use Rattle.hs_base.specs.declared.byte_set.ByteSet.{ByteSet}
use Rattle.hs_base.specs.declared.context.Next.{Next}
use Rattle.hs_base.specs.ByteSets.{has, members}
use Rattle.hs_base.specs.Contexts.{then_bytes}
use Rattle.hs_base.specs.Fields.{Leaves}
use Rattle.hs_base.specs.Spans.{Copies, IsByteOf}
use Rattle.hs_base.specs.Trees.{class, repeat}
use Rattle.hs_base.proofs.ByteSetLemmas.{members-at}
use Rattle.hs_base.proofs.StreamContexts.{byte_of-longer, byte_of-shorter, then-begins}
use Rattle.hs_base.specs.RepeatRows.{IsUnbroken, IsAway}

-- the last of a list, and what stands before it

last-of : {A : Type 0} (xs : List A) (x : A) → slice_get (xs ++ x ∷ []) (length xs) ≡ Some x
last-of xs x =
    slice_get-get_or (xs ++ x ∷ []) (length xs) x (omega (arith, length-append xs (x ∷ [])))
    ∙ ap (λ y. Some y) (get_or-append_seam xs x [] x)

before-last : {A : Type 0} (xs : List A) (x : A) (i : ℕ) → i < length xs → slice_get (xs ++ x ∷ []) i ≡ slice_get xs i
before-last xs x i below =
    slice_get-get_or (xs ++ x ∷ []) i x (omega (arith, length-append xs (x ∷ [])))
    ∙ (ap (λ y. Some y) (get_or_append_left xs (x ∷ []) x i below) ∙ sym (slice_get-get_or xs i x below))

-- one more byte that is in the set, and before which the repeat is entered or not

module _ (set : ByteSet) (u : List ℕ) (entered : List Bool) (len : length entered ≡ length u) (b : ℕ) (byte : b < 256) (entering : Bool) where
  is-last : (q : ℕ) → length u ≤ q → q < length (u ++ b ∷ []) → q ≡ length u
  is-last q above below = omega (arith, length-append u (b ∷ []))

  last-byte : has set b ≡ true → IsByteOf (members set) (u ++ b ∷ []) (length u)
  last-byte is = (b, last-of u b, members-at set b byte ∙ ap (λ x. Some x) is)

  byte-last : IsByteOf (members set) (u ++ b ∷ []) (length u) → has set b ≡ true
  byte-last (x, there, member) =
      let same : x ≡ b = let e : Some x ≡ Some b = sym there ∙ last-of u b in cc in
      let truth : Some (has set b) ≡ Some true = sym (members-at set b byte) ∙ subst (λ y. slice_get (members set) y ≡ Some true) same member in
      cc

  pub unbroken-kept : has set b ≡ true → (q : ℕ) → IsUnbroken (members set) u entered q → IsUnbroken (members set) (u ++ b ∷ []) (entered ++ entering ∷ []) q
  unbroken-kept is q unbroken =
      let before : q < length u = unbroken.before in
      record {
        is_entered = before-last entered entering q (omega arith) ∙ unbroken.is_entered;
        before = omega (arith, length-append u (b ∷ []));
        inside = λ i above below.
            elim (cases_lt i (length u)) [
              | inl old ↦ byte_of-longer u (b ∷ []) (members set) i old (unbroken.inside i above old)
              | inr new ↦ subst (IsByteOf (members set) (u ++ b ∷ [])) (sym (is-last i new below)) (last-byte is)
            ];
      }

  pub unbroken-new : has set b ≡ true → entering ≡ true → IsUnbroken (members set) (u ++ b ∷ []) (entered ++ entering ∷ []) (length u)
  unbroken-new is enters = record {
    is_entered = ap (slice_get (entered ++ entering ∷ [])) (sym len) ∙ (last-of entered entering ∙ ap (λ x. Some x) enters);
    before = omega (arith, length-append u (b ∷ []));
    inside = λ i above below. subst (IsByteOf (members set) (u ++ b ∷ [])) (sym (is-last i above below)) (last-byte is);
  }

  -- it stands at the byte, or lived before it
  pub unbroken-only : (q : ℕ) → IsUnbroken (members set) (u ++ b ∷ []) (entered ++ entering ∷ []) q → ((q ≡ length u) × (entering ≡ true)) ⊎ IsUnbroken (members set) u entered q
  unbroken-only q unbroken =
      elim (cases_lt q (length u)) [
        | inl old ↦ inr (record {
          is_entered = sym (before-last entered entering q (omega arith)) ∙ unbroken.is_entered;
          before = old;
          inside = λ i above below. byte_of-shorter u (b ∷ []) (members set) i below (unbroken.inside i above (omega (arith, length-append u (b ∷ []))));
        })
        | inr new ↦
            let same : q ≡ length u = is-last q new unbroken.before in
            let truth : Some entering ≡ Some true =
            sym (last-of entered entering) ∙ (ap (slice_get (entered ++ entering ∷ [])) (len ∙ sym same) ∙ unbroken.is_entered) in
            inl (same, cc)
      ]

  -- behind a byte outside of the set none lives
  pub unbroken-none : has set b ≡ false → (q : ℕ) → IsUnbroken (members set) (u ++ b ∷ []) (entered ++ entering ∷ []) q → ⊥
  unbroken-none isnt q unbroken =
      let before : q < length (u ++ b ∷ []) = unbroken.before in
      let is : has set b ≡ true = byte-last (unbroken.inside (length u) (omega (arith, length-append u (b ∷ []))) (omega (arith, length-append u (b ∷ [])))) in
      let e : true ≡ false = sym is ∙ isnt in cc

-- copies of a byte of a set

copies-bytes : (set : List Bool) (w : List ℕ) (k i j : ℕ) → Copies (λ x y. IsByteOf set w x × (y ≡ x + 1)) k i j → (j ≡ i + k) × ((x : ℕ) → i ≤ x → x < i + k → IsByteOf set w x)
copies-bytes set w zero i j same = (omega arith, λ x above below. absurd (omega arith))
copies-bytes set w (suc k) i j (m, (byte, next), rest) =
    let (end, bytes) = copies-bytes set w k m j rest in (
      omega arith,
      λ x above below. elim (cases_eq i x) [
        | inl same ↦ subst (IsByteOf set w) same byte
        | inr apart ↦ bytes x (omega arith) (omega arith)
      ],
    )

bytes-copies : (set : List Bool) (w : List ℕ) (k i j : ℕ) → j ≡ i + k → ((x : ℕ) → i ≤ x → x < i + k → IsByteOf set w x) → Copies (λ x y. IsByteOf set w x × (y ≡ x + 1)) k i j
bytes-copies set w zero i j end bytes = omega arith
bytes-copies set w (suc k) i j end bytes =
    (i + 1, (bytes i (omega arith) (omega arith), refl), bytes-copies set w k (i + 1) j (omega arith) (λ x above below. bytes x (omega arith) (omega arith)))

-- a repeat is left where an entry that lives is as far away as its bounds allow

pub leaves-away : (set : List Bool) (n : ℕ) (m : Option ℕ) (u : List ℕ) (entered : List Bool) (next : Next) →
    Leaves (repeat (class set) n m) u entered next → (d : ℕ) × IsAway set u entered d × (n ≤ d) × IfSome m (λ k. d ≤ k)
leaves-away set n m u entered next leaves =
    let (k, low, high, copies) = leaves.spans in
    let (end, bytes) = copies-bytes set (then_bytes u next) k leaves.from (length u) copies in
    let (v, begins) = then-begins u next in (
      k,
      record {
        from = leaves.from;
        ends = sym end;
        unbroken = record {
          is_entered = leaves.is_entered;
          before = leaves.before;
          inside = λ i above below. byte_of-shorter u v set i below (subst (λ w. IsByteOf set w i) begins (bytes i above (omega arith)));
        };
      },
      low,
      high,
    )

pub away-leaves : (set : List Bool) (n : ℕ) (m : Option ℕ) (u : List ℕ) (entered : List Bool) (next : Next) (d : ℕ) →
    IsAway set u entered d → n ≤ d → IfSome m (λ k. d ≤ k) → Leaves (repeat (class set) n m) u entered next
away-leaves set n m u entered next d away low high =
    let (v, begins) = then-begins u next in
    let ends : away.from + d ≡ length u = away.ends in
    record {
      from = away.from;
      is_entered = away.unbroken.is_entered;
      before = away.unbroken.before;
      spans = (
        d,
        low,
        high,
        bytes-copies set (then_bytes u next) d away.from (length u) (sym ends)
            (λ x above below.
            let within : x < length u = omega arith in
            subst (λ w. IsByteOf set w x) (sym begins) (byte_of-longer u v set x within (away.unbroken.inside x above within))),
      );
    }
