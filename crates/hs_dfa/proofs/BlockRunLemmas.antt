-- A block by the numbers of states.
use Rattle.std.proofs.Common.{◌≡◌, ℕ, zero, suc, ◌+◌, ◌-◌, ◌<◌, ◌≤◌, Bool, true, false, nat_lt, ◌&&◌, ◌||◌, List, [], ◌∷◌, ◌++◌, length, get_or, eqb, Some, slice_get, refl, sym, ap, subst, ◌∙◌, arith, vec_len}
use Rattle.hs_base.specs.declared.context.Next.{Next}
use Rattle.hs_base.specs.declared.context.Next.TheVariants as after
use Rattle.hs_base.specs.declared.context.Prev.{Prev}
use Rattle.hs_base.specs.Assertions.{line_feed, is_word_byte}
use Rattle.hs_base.specs.Contexts.{class_of, prev_by}
use Rattle.hs_base.specs.ContextSets.{has_next}
use Rattle.hs_base.specs.WrittenOut.{write_out}
use Rattle.hs_engine.specs.Engines.{Meaning, TellsLeaves}
use Rattle.hs_engine.specs.declared.ends.BlockEnds.{BlockEnds}
use Rattle.hs_block.specs.Blocks.{IsBlockRun, IsEnteredThroughout}
use Rattle.hs_block.specs.Progress.{IsRunTo}
use Rattle.hs_block.specs.Rests.{is_busy_at}
use Rattle.std.specs.Int.{bit_at}
use Rattle.hs_bits.proofs.PlaceLemmas.{less-is}
use Rattle.hs_bits.specs.WordBits.{word_bit}
use Rattle.hs_block.proofs.RunLemmas.{entered-busy, one-step, run-all, run-more, run-none}
use Rattle.hs_dfa.specs.DfaEngines.{IsNumberOf, meaning_of_dfa, next_number}
use Rattle.hs_dfa.specs.declared.dfa.Dfa.{Dfa}
use Rattle.hs_dfa.specs.declared.state_ends.StateEnd.{StateEnd}
use Rattle.hs_dfa.proofs.DfaLemmas.{end-leaves, step-number}

-- The first bytes of a block have led from the region to the state of that number.
pub record IsRunSoFar (d : Dfa) (region : List ℕ) (prev : Prev) (at enters : ℕ) (bytes : List ℕ) (place number : ℕ) (ends : BlockEnds) : Type 0 where
  pub below : number < vec_len d.ends
  pub behind : Prev
  pub end : StateEnd
  pub there : slice_get d.ends.items number ≡ Some end
  pub run : IsRunTo (meaning_of_dfa d) region (number ∷ []) prev at enters bytes (record { place = place; behind = behind; rests = false; left = end.accepts; ends = ends }) place

-- what the state of a number tells
pub tells-leaves : (d : Dfa) (number : ℕ) (end : StateEnd) → slice_get d.ends.items number ≡ Some end → (prev : Prev) (at : ℕ) → TellsLeaves (meaning_of_dfa d) (number ∷ []) prev at end.accepts
tells-leaves d number end there prev at tree u entered is len offset behind field next = end-leaves d tree is u entered len (number ∷ []) field end there next

never-rests : {A : Type 0} → false ≡ true → A
never-rests never = absurd (let e : false ≡ true = never in cc)

pub so_far-none : (d : Dfa) (region : List ℕ) (number : ℕ) (end : StateEnd) (prev : Prev) (at enters : ℕ) (bytes : List ℕ) → region ≡ number ∷ [] → number < vec_len d.ends → slice_get d.ends.items number ≡ Some end →
    IsRunSoFar d region prev at enters bytes 0 number (record { before = 0; behind = 0 })
so_far-none d region number end prev at enters bytes same below there = record {
  below = below;
  behind = prev;
  end = end;
  there = there;
  run = subst (λ r. IsRunTo (meaning_of_dfa d) r (number ∷ []) prev at enters bytes (record { place = 0; behind = prev; rests = false; left = end.accepts; ends = record { before = 0; behind = 0 } }) 0) (sym same)
      (run-none (meaning_of_dfa d) (number ∷ []) prev at enters bytes false end.accepts refl below (tells-leaves d number end there prev at) (λ never. never-rests (sym never)) (λ never. never-rests never) (λ never. never-rests never));
}

pub so_far-more : (d : Dfa) (region : List ℕ) (prev : Prev) (at enters : ℕ) (bytes : List ℕ) (place number : ℕ) (ends : BlockEnds) (end : StateEnd) (next before' behind' : ℕ) (ending ended : Bool) →
    (so : IsRunSoFar d region prev at enters bytes place number ends) → place < length bytes → get_or bytes place 0 < 256 → IsEnteredThroughout (meaning_of_dfa d) enters (length bytes) →
    next ≡ next_number d number (get_or bytes place 0) → next < vec_len d.ends → slice_get d.ends.items next ≡ Some end →
    ((e : StateEnd) → slice_get d.ends.items number ≡ Some e → ending ≡ has_next e.accepts (class_of (get_or bytes place 0))) → ended ≡ has_next end.accepts after.Unknown →
    ((j : ℕ) → word_bit before' j ≡ ((eqb j place && ending) || word_bit ends.before j)) → ((j : ℕ) → word_bit behind' j ≡ ((eqb j place && ended) || word_bit ends.behind j)) →
    IsRunSoFar d region prev at enters bytes (place + 1) next (record { before = before'; behind = behind' })
so_far-more d region prev at enters bytes place number ends end next before' behind' ending ended so within small throughout next_is below there ending_is ended_is before_is behind_is =
    let m : Meaning = meaning_of_dfa d in
    let b : ℕ = get_or bytes place 0 in
    let behind : Prev = prev_by (eqb b line_feed) (is_word_byte b) in
    let set : word_bit enters place ≡ true = throughout refl place within in
    let busy : is_busy_at (number ∷ []) enters place ≡ true = entered-busy (word_bit enters place) _ set in
    record {
      below = below;
      behind = behind;
      end = end;
      there = there;
      run = run-more m region (number ∷ []) (next ∷ []) prev at enters bytes (record { place = place; behind = so.behind; rests = false; left = so.end.accepts; ends = ends }) place behind false end.accepts before' behind' 1 so.run (record {
        within = within;
        len = refl;
        well = below;
        spent_is = one-step (is_busy_at (number ∷ []) enters place) busy;
        idle = λ rests. never-rests (sym rests ∙ busy);
        takes = λ tree u entered is.
            subst (λ r. IsNumberOf (write_out tree) d.has_assertion (u ++ b ∷ []) (entered ++ word_bit enters place ∷ []) r) (ap (λ n. n ∷ []) (sym next_is))
            (subst (λ e. IsNumberOf (write_out tree) d.has_assertion (u ++ b ∷ []) (entered ++ e ∷ []) (next_number d number b ∷ [])) (sym set)
            (step-number d tree is.runs u entered is.count (number ∷ []) is.field b small));
        behind_is = refl;
        left_is = tells-leaves d next end there behind (at + (place + 1));
        rests_are = λ never. never-rests (sym never);
        quiet = λ never. never-rests never;
        silent = λ never. never-rests never;
        before_bits = λ j. before_is j ∙ ap (λ e. (eqb j place && e) || word_bit ends.before j) (ending_is so.end so.there);
        behind_bits = λ j. behind_is j ∙ ap (λ e. (eqb j place && e) || word_bit ends.behind j) ended_is;
      });
    }

-- bytes that keep a state which tells no end
so_far-stay : (d : Dfa) (region : List ℕ) (prev : Prev) (at enters : ℕ) (bytes : List ℕ) (place number : ℕ) (ends : BlockEnds) →
    IsRunSoFar d region prev at enters bytes place number ends → place < length bytes → get_or bytes place 0 < 256 → IsEnteredThroughout (meaning_of_dfa d) enters (length bytes) →
    next_number d number (get_or bytes place 0) ≡ number → ((e : StateEnd) → slice_get d.ends.items number ≡ Some e → (next : Next) → has_next e.accepts next ≡ false) →
    IsRunSoFar d region prev at enters bytes (place + 1) number ends
so_far-stay d region prev at enters bytes place number ends so within small throughout stays silent =
    so_far-more d region prev at enters bytes place number ends so.end number ends.before ends.behind false false so within small throughout (sym stays) so.below so.there
    (λ e there. sym (silent e there (class_of (get_or bytes place 0)))) (sym (silent so.end so.there after.Unknown)) (λ j. same-bit (eqb j place) (word_bit ends.before j)) (λ j. same-bit (eqb j place) (word_bit ends.behind j))
  where
    same-bit : (e b : Bool) → b ≡ ((e && false) || b)
    same-bit true b = refl
    same-bit false b = refl

pub so_far-stays : (d : Dfa) (region : List ℕ) (prev : Prev) (at enters : ℕ) (bytes : List ℕ) (more place number : ℕ) (ends : BlockEnds) →
    IsRunSoFar d region prev at enters bytes place number ends → more + place ≤ length bytes → ((i : ℕ) → get_or bytes i 0 < 256) → IsEnteredThroughout (meaning_of_dfa d) enters (length bytes) →
    ((i : ℕ) → place ≤ i → i < more + place → next_number d number (get_or bytes i 0) ≡ number) →
    ((e : StateEnd) → slice_get d.ends.items number ≡ Some e → place < more + place → (next : Next) → has_next e.accepts next ≡ false) → IsRunSoFar d region prev at enters bytes (more + place) number ends
so_far-stays d region prev at enters bytes zero place number ends so within small throughout stays silent =
    subst (λ p. IsRunSoFar d region prev at enters bytes p number ends) (let e : place ≡ 0 + place = omega arith in e) so
so_far-stays d region prev at enters bytes (suc more) place number ends so within small throughout stays silent =
    let e : (more + place) + 1 ≡ suc more + place = omega arith in
    subst (λ p. IsRunSoFar d region prev at enters bytes p number ends) e
    (so_far-stay d region prev at enters bytes (more + place) number ends
    (so_far-stays d region prev at enters bytes more place number ends so (omega (arith, within)) small throughout (λ i low high. stays i low (omega (arith, high))) (λ e there some. silent e there (omega arith))) (omega (arith, within))
    (small (more + place)) throughout (stays (more + place) (omega arith) (omega arith)) (λ e there. silent e there (omega arith)))

-- as far as the next byte that leads to another state
pub so_far-next_in : (d : Dfa) (region : List ℕ) (prev : Prev) (at enters : ℕ) (bytes : List ℕ) (place to number : ℕ) (ends : BlockEnds) →
    IsRunSoFar d region prev at enters bytes place number ends → place ≤ to → to ≤ length bytes → ((i : ℕ) → get_or bytes i 0 < 256) → IsEnteredThroughout (meaning_of_dfa d) enters (length bytes) →
    ((i : ℕ) → place ≤ i → i < to → next_number d number (get_or bytes i 0) ≡ number) →
    ((e : StateEnd) → slice_get d.ends.items number ≡ Some e → place < to → (next : Next) → has_next e.accepts next ≡ false) → IsRunSoFar d region prev at enters bytes to number ends
so_far-next_in d region prev at enters bytes place to number ends so low high small throughout stays silent =
    let e : (to - place) + place ≡ to = omega (arith, low) in
    subst (λ p. IsRunSoFar d region prev at enters bytes p number ends) e
    (so_far-stays d region prev at enters bytes (to - place) place number ends so (omega (arith, e, high)) small throughout (λ i below above. stays i below (omega (arith, e, above))) (λ z there some. silent z there (omega (arith, e, some))))

pub so_far-all : (d : Dfa) (region : List ℕ) (prev : Prev) (at enters : ℕ) (bytes : List ℕ) (place number : ℕ) (ends : BlockEnds) → IsRunSoFar d region prev at enters bytes place number ends → length bytes ≤ place →
    IsBlockRun (meaning_of_dfa d) region (number ∷ []) prev at enters bytes ends place
so_far-all d region prev at enters bytes place number ends so all =
    run-all (meaning_of_dfa d) region (number ∷ []) prev at enters bytes (record { place = place; behind = so.behind; rests = false; left = so.end.accepts; ends = ends }) place so.run all

pub one-region : (region : List ℕ) → length region ≡ 1 → region ≡ get_or region 0 0 ∷ []
one-region [] len = absurd (omega arith)
one-region (x ∷ []) len = refl
one-region (x ∷ y ∷ region) len = absurd (omega arith)

-- a place that isn't marked has a byte outside of the set
pub unset-outside : (word i n : ℕ) (b : Bool) → i < n → eqb (bit_at word i) 1 ≡ (nat_lt i n && b) → word_bit word i ≡ false → b ≡ false
unfolding word_bit
unset-outside word i n b below is unset = sym (is ∙ ap (λ t. t && b) (less-is i n below)) ∙ unset
