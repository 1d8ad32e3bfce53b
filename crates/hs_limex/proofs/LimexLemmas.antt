-- What `Limex` keeps, by the tables that it goes by.
use Rattle.std.proofs.Common.{◌≡◌, ◌↔◌, ℕ, ◌*◌, Bool, true, false, ◌&&◌, List, length, refl, sym, ap, ◌∙◌, inl, inr}
use Rattle.std.proofs.lemmas.Bool.{cases_lt}
use Rattle.hs_base.specs.declared.context.Next.{Next}
use Rattle.hs_base.specs.ByteSets.{has}
use Rattle.hs_base.specs.declared.context.Next.TheVariants as after
use Rattle.hs_base.specs.Bits.{AreZero, has_bit, has_word_bit}
use Rattle.hs_base.specs.Contexts.{Context, context_of, next_number}
use Rattle.hs_base.specs.Fields.{Leaves}
use Rattle.hs_base.specs.PositionRows.{IsField}
use Rattle.hs_base.specs.Trees.{Tree}
use Rattle.hs_base.specs.WrittenOut.{write_out}
use Rattle.hs_base.proofs.BitLemmas.{zero-bits}
use Rattle.hs_base.proofs.ContextLemmas.{first_of_both, second_of_both}
use Rattle.hs_bits.proofs.WordLemmas.{and-none, words-past}
use Rattle.hs_engine.specs.AnyBelow.{any_below}
use Rattle.hs_engine.specs.Engines.{AreWakers, IsQuiet}
use Rattle.hs_engine.proofs.AutomatonLemmas.{start-clear}
use Rattle.hs_limex.specs.PositionMoves.{PositionMoves}
use Rattle.hs_limex.specs.Fitting.{AcceptsIn, AreTablesFor, tables_meaning}
use Rattle.hs_limex.specs.Numbers.{next_numbered}
use Rattle.hs_limex.proofs.StepLemmas.{true-or-false}
use Rattle.hs_limex.proofs.PlainLemmas.{any-some, bit-leaves, both-false, field-rests, field-still, leaves-bit, leaves-none, not-true, some-any, true-false}

pub tables-quiet : (t : PositionMoves) (region : List ℕ) → AreZero region → IsQuiet (tables_meaning t) region
tables-quiet t region zeros = record {
  stays = λ never b byte tree u entered is len field. field-still (write_out tree) u entered region len field (zero-bits region zeros) b;
  leaves_nothing = λ tree u entered is len field. leaves-none is.automaton tree is.runs u entered region field (zero-bits region zeros);
}

pub tables-asleep : (t : PositionMoves) → AreWakers (tables_meaning t) t.first
tables-asleep t region b start byte outside = record {
  stays = λ enters tree u entered is len field.
      field-rests is.automaton (write_out tree) t.first is.runs.tables is.fits.first u entered len region field (start-clear (write_out tree) region (start tree is)) b byte enters
      (both-false enters (has t.first b) outside);
  leaves_nothing = λ tree u entered is len field. leaves-none is.automaton tree is.runs u entered region field (start-clear (write_out tree) region (start tree is));
}

-- the expression is left where a position accepts that is live
pub accepts-leaves : (t : PositionMoves) (tree : Tree) → AreTablesFor t tree → (u : List ℕ) (entered : List Bool) (region : List ℕ) → IsField region (write_out tree) u entered → (next : Next) →
    AcceptsIn t (has_bit region) (context_of u next) ↔ Leaves tree u entered next
accepts-leaves t tree is u entered region field next = (
  λ accepts. bit-leaves is.automaton tree is.runs u entered region field next accepts.position accepts.is_live (sym (is.fits.accepts (context_of u next) accepts.position) ∙ accepts.accepts),
  λ leaves.
      let (x, set, accepts) = leaves-bit is.automaton tree is.runs u entered region field next leaves in
      record { position = x; is_live = set; accepts = is.fits.accepts (context_of u next) x ∙ accepts },
)

-- rows that aren't apart have a bit in common
pub common-bit : (words row : List ℕ) → (((k : ℕ) → (has_word_bit words k && has_word_bit row k) ≡ false) → ⊥) → (k : ℕ) × (has_word_bit words k ≡ true) × (has_word_bit row k ≡ true)
common-bit words row some =
    let test : ℕ → Bool = λ k. has_word_bit words k && has_word_bit row k in
    elim (true-or-false (any_below (64 * length row) test)) [
      | inl any ↦
          let (k, is) = any-some (64 * length row) test any in
          (k, first_of_both (has_word_bit words k) (has_word_bit row k) is, second_of_both (has_word_bit words k) (has_word_bit row k) is)
      | inr none ↦ absurd (some (λ k.
          elim (cases_lt k (64 * length row)) [
            | inl below ↦ not-true (test k) (λ is. true-false (any_below (64 * length row) test) (some-any (64 * length row) test k below is) none)
            | inr past ↦ ap (λ b. has_word_bit words k && b) (words-past row k past) ∙ and-none (has_word_bit words k)
          ]))
    ]

-- what comes next has one number
pub next-named : (next : Next) → next_numbered (next_number next) ≡ next
next-named after.Word = refl
next-named after.Newline = refl
next-named after.Other = refl
next-named after.End = refl
next-named after.FinalNewline = refl
next-named after.Unknown = refl

-- the same, where what is live has another name
pub accepts-as : (t : PositionMoves) (live other : ℕ → Bool) (c : Context) → ((x : ℕ) → live x ≡ other x) → AcceptsIn t live c → AcceptsIn t other c
accepts-as t live other c same accepts = record { position = accepts.position; is_live = sym (same accepts.position) ∙ accepts.is_live; accepts = accepts.accepts }
