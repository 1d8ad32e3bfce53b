-- What the layers above take of automata.
use Rattle.std.proofs.Common.{◌≡◌, ◌↔◌, ℕ, ◌<◌, Bool, true, false, List, [], length, slice_get, Some, None, refl, ap, sym, ◌∙◌, arith}
use Rattle.hs_base.specs.declared.context.Next.{Next}
use Rattle.hs_base.specs.Contexts.{class_of, context_at, context_of, then_bytes, then_ended}
use Rattle.hs_base.specs.ContextSets.{has_context}
use Rattle.hs_base.specs.Spans.{IsByteOf, Spans}
use Rattle.hs_base.specs.Trees.{Tree}
use Rattle.hs_engine.specs.declared.automaton.Automaton.{Automaton}
use Rattle.hs_engine.specs.Automata.{in_mask, in_set, takes}
use Rattle.hs_engine.proofs.RowLemmas.{same-rows}
use Rattle.hs_base.specs.Bits.{has_bit}
use Rattle.hs_base.specs.PositionRows.{IsField}
use Rattle.hs_base.specs.WrittenOut.{Core, IsReached, count}
use Rattle.hs_engine.specs.Tables.{IsClearFrom, IsCopy, Runs}
use Rattle.hs_engine.proofs.PositionLemmas.{reach-below}
use Rattle.hs_engine.proofs.AgreementLemmas.{null-spans, spans-null}

denied : (b : Bool) → (b ≡ true → ⊥) → b ≡ false
denied true isnt = absurd (isnt refl)
denied false isnt = refl

-- the null mask of an automaton tells where its expression has empty spans
pub null-exact : (a : Automaton) (tree : Tree) → Runs a tree → (u : List ℕ) (next : Next) →
    (has_context a.null (context_of u next) ≡ true) ↔ Spans (then_bytes u next) (then_ended next) tree (length u) (length u)
null-exact a tree runs u next = (
  λ is. null-spans tree runs.plain u next (sym (runs.tables.null (context_of u next)) ∙ is),
  λ span. runs.tables.null (context_of u next) ∙ spans-null tree runs.plain u next span,
)

-- a copy runs what the original runs
pub runs-copy : (copy original : Automaton) → IsCopy copy original → (tree : Tree) → Runs original tree → Runs copy tree
runs-copy copy original same tree runs =
    record {
      plain = runs.plain;
      ends_last = runs.ends_last;
      tables = record {
        size = omega (arith, copy.sets.ok.0, original.sets.ok.0, ap (λ items. length items) same.sets, runs.tables.size);
        sets = λ x b byte.
            let takes_same : takes copy x b ≡ takes original x b = ap (λ items. in_set (slice_get items x) b) same.sets in (
              λ is. (runs.tables.sets x b byte).0 (sym takes_same ∙ is),
              λ is. takes_same ∙ (runs.tables.sets x b byte).1 is,
            );
        enters = λ x c. ap (λ items. in_mask (slice_get items x) c) same.enters ∙ runs.tables.enters x c;
        accepts = λ x c. ap (λ items. in_mask (slice_get items x) c) same.accepts ∙ runs.tables.accepts x c;
        follows = λ x y prev b.
            same-rows copy.follows original.follows same.follows same.size same.by_context x y (record { prev = prev; next = class_of b }) ∙ runs.tables.follows x y prev b;
        null = λ c. ap (λ mask. has_context mask c) same.null ∙ runs.tables.null c;
      };
    }

-- no bit is set in a field but those of positions
pub field-clear : (r : Core) (n : ℕ) → n ≡ count r → (u : List ℕ) (entered : List Bool) (region : List ℕ) → IsField region r u entered → IsClearFrom region n
field-clear r n size u entered region field k above =
    denied (has_bit region k) (λ is.
    let reached : IsReached r u entered k = (field k).0 is in
    let below : k < count r = reach-below (context_at u false) (λ set i. IsByteOf set u i) r k reached.from (length u) reached.reached in
    omega arith)

-- none is set behind the empty stream
pub start-clear : (r : Core) (region : List ℕ) → IsField region r [] [] → (k : ℕ) → has_bit region k ≡ false
start-clear r region field k =
    denied (has_bit region k) (λ is.
    let reached : IsReached r [] [] k = (field k).0 is in
    let e : None ≡ Some true = reached.is_entered in cc)
