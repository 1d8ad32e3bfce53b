-- The count of a machine is the number of its open streams; and a write may be cut anywhere.
use Rattle.std.proofs.Common.{◌≡◌, ◌≢◌, ℕ, suc, inl, inr, List, [], ◌∷◌, length, Option, None, Some, refl, sym, ◌∙◌, subst, arith}
use Rattle.hs_base.specs.Lists.{IsMember, IsRising}
use Rattle.hs_base.proofs.ListLemmas.{each-member, each-of_members}
use Rattle.hs_script.specs.Actions.{Action, name_of}
use Rattle.hs_script.specs.Bases.{Basis, Stream, File}
use Rattle.hs_script.specs.Machine.{Answer, Machine, start, opens, Steps}
use Rattle.hs_script.specs.Runs.{IsRun, none, more}
use Rattle.hs_script.specs.Laws.{AreOpen, IsCounted}
use Rattle.hs_script.proofs.MachineLemmas.{same_or_not}

-- the others of names, each once, with one of them left out
record IsWithout (name : List ℕ) (names : List (List ℕ)) : Type 0 where
  left : List (List ℕ)
  each : (n : List ℕ) → IsMember n left → IsMember n names × (n ≢ name)
  kept : (n : List ℕ) → IsMember n names → n ≢ name → IsMember n left
  once : IsRising (λ x y. x ≢ y) left
  counted : length names ≡ suc (length left)

without : (name : List ℕ) (names : List (List ℕ)) → IsRising (λ x y. x ≢ y) names → IsMember name names → IsWithout name names
without name [] once member = absurd member
without name (x ∷ xs) once (inl same) = record {
  left = xs;
  each = λ n m. (inr m, λ e. each-member (λ y. x ≢ y) xs n once.0 m (sym same ∙ sym e));
  kept = λ n m other. elim m [ inl here ↦ absurd (other (here ∙ sym same)) | inr there ↦ there ];
  once = once.1;
  counted = omega arith;
}
without name (x ∷ xs) once (inr member) =
    let w = without name xs once.1 member in
    record {
      left = x ∷ w.left;
      each = λ n m.
          elim m [
            | inl here ↦ (inl here, λ e. each-member (λ y. x ≢ y) xs name once.0 member (sym here ∙ e))
            | inr there ↦ (inr (w.each n there).0, (w.each n there).1)
          ];
      kept = λ n m other. elim m [ inl here ↦ inl here | inr there ↦ inr (w.kept n there other) ];
      once = (each-of_members (λ y. x ≢ y) w.left (λ y m. each-member (λ z. x ≢ z) xs y once.0 (w.each y m).0), w.once);
      counted = omega (arith, w.counted);
    }

-- one stream is open, or closed
data IsOpenOrNot (h : Option Stream) : Type 0 where
  is_open : h ≢ None → opens h ≡ 1 → IsOpenOrNot h
  is_closed : h ≡ None → opens h ≡ 0 → IsOpenOrNot h

open_or_not : (h : Option Stream) → IsOpenOrNot h
open_or_not None = is_closed refl refl
open_or_not (Some h) = is_open (λ e. cc) refl

step_counted : {basis : Basis} {m n : Machine} {action : Action} {answer : Answer} → Steps basis m action answer n → IsCounted m → IsCounted n
step_counted {basis} {m} {n} {action} s counted = by_streams (open_or_not (m.stream here)) (open_or_not (n.stream here))
  where
    here : List ℕ
    here = name_of action

    names : List (List ℕ)
    names = counted.names

    are : AreOpen m names
    are = counted.are_open

    other_open : (name : List ℕ) → name ≢ name_of action → (n.stream name ≢ None) → m.stream name ≢ None
    other_open name other is e = is (s.others name other ∙ e)

    open_other : (name : List ℕ) → name ≢ name_of action → (m.stream name ≢ None) → n.stream name ≢ None
    open_other name other is e = is (sym (s.others name other) ∙ e)

    by_streams : IsOpenOrNot (m.stream (name_of action)) → IsOpenOrNot (n.stream (name_of action)) → IsCounted n
    by_streams (is_open p o) (is_open q r) = record {
      names = names;
      are_open = record {
        each = λ name. (
          λ member.
              elim (same_or_not name (name_of action)) [
                | inl is ↦ subst (λ a. n.stream a ≢ None) (sym is) q
                | inr other ↦ open_other name other ((are.each name).0 member)
              ],
          λ open_now.
              elim (same_or_not name (name_of action)) [
                | inl is ↦ (are.each name).1 (subst (λ a. m.stream a ≢ None) (sym is) p)
                | inr other ↦ (are.each name).1 (other_open name other open_now)
              ],
        );
        once = are.once;
        counted = let c = are.counted in let d = s.counted in omega (arith, c, d, o, r);
      };
    }
    by_streams (is_open p o) (is_closed q r) =
        let w = without (name_of action) names are.once ((are.each (name_of action)).1 p) in
        record {
          names = w.left;
          are_open = record {
            each = λ name. (
              λ member. open_other name (w.each name member).1 ((are.each name).0 (w.each name member).0),
              λ open_now.
                  elim (same_or_not name (name_of action)) [
                    | inl is ↦ absurd (open_now (subst (λ a. n.stream a ≡ None) (sym is) q))
                    | inr other ↦ w.kept name ((are.each name).1 (other_open name other open_now)) other
                  ],
            );
            once = w.once;
            counted = let c = are.counted in let d = s.counted in let l = w.counted in omega (arith, c, d, l, o, r);
          };
        }
    by_streams (is_closed p o) (is_open q r) = record {
      names = name_of action ∷ names;
      are_open = record {
        each = λ name. (
          λ member.
              elim member [
                | inl is ↦ subst (λ a. n.stream a ≢ None) (sym is) q
                | inr there ↦
                    open_other name (λ is. (are.each name).0 there (subst (λ a. m.stream a ≡ None) (sym is) p)) ((are.each name).0 there)
              ],
          λ open_now.
              elim (same_or_not name (name_of action)) [
                | inl is ↦ inl is
                | inr other ↦ inr ((are.each name).1 (other_open name other open_now))
              ],
        );
        once = (each-of_members (λ y. name_of action ≢ y) names (λ y member e. (are.each y).0 member (subst (λ a. m.stream a ≡ None) e p)), are.once);
        counted = let c = are.counted in let d = s.counted in omega (arith, c, d, o, r);
      };
    }
    by_streams (is_closed p o) (is_closed q r) = record {
      names = names;
      are_open = record {
        each = λ name. (
          λ member.
              elim (same_or_not name (name_of action)) [
                | inl is ↦ absurd ((are.each name).0 member (subst (λ a. m.stream a ≡ None) (sym is) p))
                | inr other ↦ open_other name other ((are.each name).0 member)
              ],
          λ open_now.
              elim (same_or_not name (name_of action)) [
                | inl is ↦ absurd (open_now (subst (λ a. n.stream a ≡ None) (sym is) q))
                | inr other ↦ (are.each name).1 (other_open name other open_now)
              ],
        );
        once = are.once;
        counted = let c = are.counted in let d = s.counted in omega (arith, c, d, o, r);
      };
    }

run_counted : {basis : Basis} {m n : Machine} {actions : List Action} {answers : List Answer} → IsRun basis m actions answers n → IsCounted m → IsCounted n
run_counted none counted = counted
run_counted (more s r) counted = run_counted r (step_counted s counted)

-- the count of a machine that ran from the start is the number of its open streams
pub counts_open : {basis : Basis} {files : List ℕ → File} {n : Machine} {actions : List Action} {answers : List Answer} → IsRun basis (start files) actions answers n → IsCounted n
counts_open r = run_counted r (record { names = []; are_open = record { each = λ name. (λ member. absurd member, λ is. absurd (is refl)); once = tt; counted = refl } })
