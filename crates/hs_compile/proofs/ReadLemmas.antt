-- What is read of a program.
use Rattle.std.proofs.Common.{◌≡◌, ◌⊎◌, ◌↔◌, ℕ, suc, ◌+◌, ◌-◌, ◌<◌, ◌≤◌, Bool, true, false, List, length, map, get_or, slice_get, Option, Some, Result, Ok, Err, sym, ap, subst, ◌∙◌, inl, inr, arith}
use Rattle.std.specs.Prelude.{IfOk}
use Rattle.std.specs.declared.alloc.Global.{Global}
use Rattle.std.specs.declared.vec.Vec.{Vec}
use Rattle.std.proofs.lemmas.Bool.{cases_lt, false≢true}
use Rattle.std.proofs.lemmas.List.{length-map}
use Rattle.std.proofs.lemmas.Option.{same_Some}
use Rattle.hs_base.specs.declared.context.Mask.{Mask}
use Rattle.hs_base.specs.declared.literal.LitByte.{LitByte}
use Rattle.hs_base.specs.LiteralView.{literal_byte, literal_bytes}
use Rattle.hs_layout.specs.Layouts.{Laid}
use Rattle.hs_rose.specs.declared.info.ChainInfo.{ChainInfo}
use Rattle.hs_nodes.specs.declared.table.NodeKind.{NodeKind}
use Rattle.hs_nodes.specs.declared.table.NodeKind.TheVariants as nodes
use Rattle.hs_rose.specs.declared.kind.Kind.{Kind}
use Rattle.hs_rose.specs.declared.kind.Kind.TheVariants as kinds
use Rattle.hs_rose.specs.declared.role.Role.{Role}
use Rattle.hs_rose.specs.Kinds.{number_if_run}
use Rattle.hs_rose.specs.Programs.{Tables}
use Rattle.hs_rose.proofs.ListLemmas.{get-map, read-get}
use Rattle.hs_compile.specs.GraphKinds.{HasLength, IsKeptMask, IsKindAt, IsKindOf, IsPairOf, bare, by_itself, engine, entered, paired}
use Rattle.hs_compile.specs.GraphTables.{IsLaidFor, IsOneOf, IsReady, LooksBack}
use Rattle.hs_compile.proofs.PlaceLemmas.{starts-count}

-- what an answer says, said otherwise
pub ok-to : {A E : Type 0} (P Q : A → Type 0) (r : Result A E) → ((x : A) → P x → Q x) → IfOk r P → IfOk r Q
ok-to P Q (Ok x) to is = to x is
ok-to P Q (Err e) to is = tt

-- how many bytes a literal has
pub has-length : (t : Tables) (vs : List (Vec LitByte Global)) (k : ℕ) (item : Vec LitByte Global) (n : ℕ) → map literal_bytes vs ≡ t.literals → k < length t.literals → item ≡ get_or vs k item → n ≡ length item.items →
    HasLength t k n
has-length t vs k item n same below is count =
    let inside : k < length vs = omega (arith, below, ap length same, length-map vs literal_bytes) in
    record {
      literal = literal_bytes item;
      there = ap (λ xs. slice_get xs k) (sym same) ∙ get-map literal_bytes vs k item (read-get vs k item inside is);
      count = length-map item.items literal_byte ∙ sym count;
    }

-- each role of a chain has a field
pub place-within : (t : Tables) (l : Laid) (c : ChainInfo) (i : ℕ) → IsReady t → IsLaidFor t l → IsOneOf t c → i < c.end → i + 1 < length l.starts
place-within t l c i ready laid one high = omega (arith, ready.within one.0 c one.1, high, starts-count t l laid)

-- the kind of a literal's node
pub bare-is : (t : Tables) (r : Role) (n : ℕ) (own : NodeKind) → n ≡ r.number → r.kind ≡ kinds.BareLiteral → (len : ℕ) × HasLength t n len × (own ≡ nodes.FirstLiteral n len) → IsKindOf t r own
bare-is t r n own same kind (len, has, is) = bare len kind (subst (λ m. HasLength t m len) same has) (is ∙ ap (λ m. nodes.FirstLiteral m len) same)

pub entered-is : (t : Tables) (r : Role) (n : ℕ) (own : NodeKind) → n ≡ r.number → r.kind ≡ kinds.Literal → (len : ℕ) × HasLength t n len × (own ≡ nodes.Literal n len) → IsKindOf t r own
entered-is t r n own same kind (len, has, is) = entered len kind (subst (λ m. HasLength t m len) same has) (is ∙ ap (λ m. nodes.Literal m len) same)

-- the kind of an engine's node
is-run : (k : Kind) (n : ℕ) → (k ≡ kinds.LookBack) ⊎ (k ≡ kinds.Positions) ⊎ (k ≡ kinds.Dfa) ⊎ (k ≡ kinds.First) ⊎ (k ≡ kinds.Last) ⊎ (k ≡ kinds.Ring) → number_if_run k n ≡ Some n
is-run k n (inl e) = ap (λ x. number_if_run x n) e
is-run k n (inr (inl e)) = ap (λ x. number_if_run x n) e
is-run k n (inr (inr (inl e))) = ap (λ x. number_if_run x n) e
is-run k n (inr (inr (inr (inl e)))) = ap (λ x. number_if_run x n) e
is-run k n (inr (inr (inr (inr (inl e))))) = ap (λ x. number_if_run x n) e
is-run k n (inr (inr (inr (inr (inr e))))) = ap (λ x. number_if_run x n) e

pub engine-is : (t : Tables) (r : Role) (k : Kind) (n : ℕ) (null : Mask) (own : NodeKind) → k ≡ r.kind → n ≡ r.number → null ≡ r.null →
    (k ≡ kinds.LookBack) ⊎ (k ≡ kinds.Positions) ⊎ (k ≡ kinds.Dfa) ⊎ (k ≡ kinds.First) ⊎ (k ≡ kinds.Last) ⊎ (k ≡ kinds.Ring) → (kept : Option Mask) × IsKeptMask kept null × (own ≡ nodes.Engine n kept) → IsKindOf t r own
engine-is t r k n null own same number mask run (kept, is_kept, is) =
    engine kept (ap (λ x. number_if_run x r.number) (sym same) ∙ is-run k r.number run) (subst (λ m. IsKeptMask kept m) mask is_kept) (is ∙ ap (λ m. nodes.Engine m kept) number)

-- the kind at a place

later-than : (first i : ℕ) → first ≤ i → (i ≡ first → ⊥) → first < i
later-than first i low apart = elim (cases_lt first i) [ inl less ↦ less | inr more ↦ absurd (apart (omega (arith, low, more))) ]

pub at-first : (t : Tables) (first i : ℕ) (r : Role) (own : NodeKind) → slice_get t.roles i ≡ Some r → i ≡ first → IsKindOf t r own → IsKindAt t first i own
at-first t first i r own at same kind = by_itself r at (λ j before low next there back. absurd (omega (arith, low, same))) kind

module _ (t : Tables) (c : ChainInfo) (i : ℕ) (before r : Role) (low : c.first ≤ i) (apart : i ≡ c.first → ⊥) (before_at : slice_get t.roles (i - 1) ≡ Some before) (at : slice_get t.roles i ≡ Some r) where
  behind-one : suc (i - 1) ≡ i
  behind-one = omega (arith, later-than c.first i low apart)

  pub pair-bare : IsReady t → IsOneOf t c → i < c.end → LooksBack before → r.kind ≡ kinds.BareLiteral
  pair-bare ready one high back =
      ready.pairs c (i - 1) before r one (omega (arith, later-than c.first i low apart)) (omega (arith, high, behind-one)) before_at back (ap (slice_get t.roles) behind-one ∙ at)

  pub at-pair : (own : NodeKind) → IsPairOf t before r own → IsKindAt t c.first i own
  at-pair own pair = paired (i - 1) before r (later-than c.first i low apart) behind-one before_at at pair

  pub at-later : (own : NodeKind) (looks : Bool) → looks ≡ false → (looks ≡ true) ↔ LooksBack before → IsKindOf t r own → IsKindAt t c.first i own
  at-later own looks no_look tells kind =
      by_itself r at
      (λ j other less next there back.
      let same : other ≡ before = same_Some other before (sym there ∙ (ap (slice_get t.roles) (omega (arith, next, behind-one)) ∙ before_at)) in
      false≢true (sym no_look ∙ tells.1 (subst LooksBack same back))) kind
