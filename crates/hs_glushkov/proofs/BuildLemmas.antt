-- From the tables under construction to the automaton.
use Rattle.std.proofs.Common.{◌≡◌, ℕ, zero, suc, ◌+◌, ◌-◌, ◌*◌, ◌<◌, ◌≤◌, Bool, true, false, ◌&&◌, Option, Some, None, IfSome, length, slice_get, vec_len, refl, sym, ap, ◌∙◌, inl, inr, arith}
use Rattle.std.proofs.lemmas.Bool.{cases_lt}
use Rattle.std.proofs.lemmas.Option.{slice_get_past}
use Rattle.std.proofs.Math.Nat.{le-mul_of_pos_right}
use Rattle.hs_base.specs.Trees as tree
use Rattle.hs_base.specs.Trees.{Tree, Trees}
use Rattle.hs_base.specs.declared.context.Prev.{Prev}
use Rattle.hs_base.specs.Contexts.{Context, class_of}
use Rattle.hs_base.specs.ContextSets.{has_context}
use Rattle.hs_base.specs.WrittenOut.{Core, cat, alt, plus, copies_then, up_to, repeat_of, write_out, cat_from, alt_from, count, set_of}
use Rattle.hs_engine.specs.declared.automaton.Automaton.{Automaton}
use Rattle.hs_engine.specs.Automata.{in_mask, in_set, takes, enters, accepts, follows}
use Rattle.hs_expr.specs.Counts.{written_copies}
use Rattle.hs_glushkov.specs.Parts.{Table, is_set, IsAdded, null_in_copies}
use Rattle.hs_engine.specs.Positions.{null, enter, accept, follow}
use Rattle.hs_engine.specs.Tables.{IsFor}
use Rattle.hs_glushkov.proofs.CountLemmas.{count-repeat}
use Rattle.hs_engine.proofs.PastLemmas.{set-past, enter-past, accept-past, follow-past}
use Rattle.hs_glushkov.proofs.RowLemmas.{null-option, null-up_to}

-- a sequence has the positions of what it begins with, and so have alternatives

pub count-cat_from : (items : Trees) (r : Core) → count r ≤ count (cat_from r items)
count-cat_from tree.none r = omega arith
count-cat_from (tree.more item items) r = let rest : count r + count (write_out item) ≤ count (cat_from (cat r (write_out item)) items) = count-cat_from items (cat r (write_out item)) in omega arith

pub count-alt_from : (items : Trees) (r : Core) → count r ≤ count (alt_from r items)
count-alt_from tree.none r = omega arith
count-alt_from (tree.more item items) r = let rest : count r + count (write_out item) ≤ count (alt_from (alt r (write_out item)) items) = count-alt_from items (alt r (write_out item)) in omega arith

-- one copy is no longer than the repeat
pub body-within : (least : ℕ) (greatest : Option ℕ) (a : Core) → IfSome greatest (λ m. least ≤ m) → (written_copies least greatest ≡ 0 → ⊥) → count a ≤ count (repeat_of least greatest a)
body-within least greatest a ordered some =
    let positive : 0 < written_copies least greatest = omega arith in
    let short : count a ≤ count a * written_copies least greatest = le-mul_of_pos_right (count a) positive in
    omega (arith, count-repeat least greatest a ordered)

-- the first copy and the others are the repeat
pub copies-whole : (k w : ℕ) → (k ≡ 0 → ⊥) → w + (k - 1) * w ≡ w * k
copies-whole zero w some = absurd (some refl)
copies-whole (suc k) w some =
    let e : suc k - 1 ≡ k = omega arith in
    ap (λ z. w + z * w) e ∙ omega arith

-- the empty text in place of copies

and-same : (b : Bool) → (b && b) ≡ b
and-same true = refl
and-same false = refl

and-true : (a b : Bool) → b ≡ true → (a && b) ≡ a
and-true true b is = is
and-true false b is = refl

null-rounds : (n : ℕ) (a : Core) (c : Context) → null (copies_then n a (plus a)) c ≡ null a c
null-rounds zero a c = refl
null-rounds (suc n) a c = ap (λ z. null a c && z) (null-rounds n a c) ∙ and-same (null a c)

null-some : (n : ℕ) (a r : Core) (c : Context) → null r c ≡ true → null (copies_then (suc n) a r) c ≡ null a c
null-some zero a r c is = and-true (null a c) (null r c) is
null-some (suc n) a r c is = ap (λ z. null a c && z) (null-some n a r c is) ∙ and-same (null a c)

pub null-repeat : (least : ℕ) (greatest : Option ℕ) (a : Core) (c : Context) → null_in_copies least (null a c) ≡ null (repeat_of least greatest a) c
null-repeat zero None a c = sym (null-option (plus a) c)
null-repeat (suc n) None a c = sym (null-rounds n a c)
null-repeat zero (Some m) a c = sym (null-up_to (m - 0) a c)
null-repeat (suc n) (Some m) a c = sym (null-some n a (up_to (m - suc n) a) c (null-up_to (m - suc n) a c))

-- the truth value that is there

is-set : (o : Option Bool) → is_set o ≡ true → o ≡ Some true
is-set None is = absurd (let e : false ≡ true = is in cc)
is-set (Some b) is = ap (λ z. Some z) is

set-is : (o : Option Bool) → o ≡ Some true → is_set o ≡ true
set-is o is = ap is_set is

-- the tables of an automaton, where they say what tables under construction do
module _ (a : Automaton) (old new : Table) (none : Context → Bool) (r : Core) (size : vec_len a.sets ≡ count r)
    (same_takes : (x b : ℕ) → takes a x b ≡ new.takes x b)
    (same_enters : (x : ℕ) (c : Context) → enters a x c ≡ new.enters x c)
    (same_accepts : (x : ℕ) (c : Context) → accepts a x c ≡ new.accepts x c)
    (joined : (x y : ℕ) (prev : Prev) (b : ℕ) → follows a x y (record { prev = prev; next = class_of b }) ≡ new.follows x y (record { prev = prev; next = class_of b }))
    (same_null : (c : Context) → has_context a.null c ≡ none c)
    (added : IsAdded old new 0 r none) where
  from-none : (x : ℕ) → 0 + x ≡ x
  from-none x = omega arith

  all-takes : (x b : ℕ) → b < 256 → takes a x b ≡ is_set (slice_get (set_of r x) b)
  all-takes x b byte =
      elim (cases_lt x (count r)) [
        | inl below ↦ ap (λ z. takes a z b) (sym (from-none x)) ∙ (same_takes (0 + x) b ∙ added.part.takes x b below byte)
        | inr past ↦
            let over : length a.sets.items ≤ x = omega (arith, a.sets.ok.0) in
            ap (λ o. in_set o b) (slice_get_past a.sets.items x over) ∙ sym (ap (λ s. is_set (slice_get s b)) (set-past r x past))
      ]

  all-enters : (x : ℕ) (c : Context) → enters a x c ≡ enter r x c
  all-enters x c =
      elim (cases_lt x (count r)) [
        | inl below ↦ ap (λ z. enters a z c) (sym (from-none x)) ∙ (same_enters (0 + x) c ∙ added.part.enters x c below)
        | inr past ↦
            let over : length a.enters.items ≤ x = omega (arith, a.enters.ok.0, a.enters_whole) in
            ap (λ o. in_mask o c) (slice_get_past a.enters.items x over) ∙ sym (enter-past r x c past)
      ]

  all-accepts : (x : ℕ) (c : Context) → accepts a x c ≡ accept r x c
  all-accepts x c =
      elim (cases_lt x (count r)) [
        | inl below ↦ ap (λ z. accepts a z c) (sym (from-none x)) ∙ (same_accepts (0 + x) c ∙ added.part.accepts x c below)
        | inr past ↦
            let over : length a.accepts.items ≤ x = omega (arith, a.accepts.ok.0, a.accepts_whole) in
            ap (λ o. in_mask o c) (slice_get_past a.accepts.items x over) ∙ sym (accept-past r x c past)
      ]

  all-follows : (x y : ℕ) (prev : Prev) (b : ℕ) → follows a x y (record { prev = prev; next = class_of b }) ≡ follow r x y (record { prev = prev; next = class_of b })
  all-follows x y prev b =
      let c : Context = record { prev = prev; next = class_of b } in
      elim (cases_lt x (count r)) [
        | inl hx ↦ elim (cases_lt y (count r)) [
          | inl hy ↦ joined x y prev b ∙ (ap (λ z. new.follows z y c) (sym (from-none x)) ∙ (ap (λ z. new.follows (0 + x) z c) (sym (from-none y)) ∙ added.part.follows x y c hx hy))
          | inr past ↦ joined x y prev b ∙ (added.clear x y c (inr (omega arith)) ∙ sym (follow-past r x y c (inr past)))
        ]
        | inr past ↦ joined x y prev b ∙ (added.clear x y c (inl (omega arith)) ∙ sym (follow-past r x y c (inl past)))
      ]

  pub tables-for : IsFor a r
  tables-for =
      record {
        size = size;
        sets = λ x b byte. (
          λ is. is-set (slice_get (set_of r x) b) (sym (all-takes x b byte) ∙ is),
          λ is. all-takes x b byte ∙ set-is (slice_get (set_of r x) b) is,
        );
        enters = all-enters;
        accepts = all-accepts;
        follows = all-follows;
        null = λ c. same_null c ∙ added.null c;
      }
