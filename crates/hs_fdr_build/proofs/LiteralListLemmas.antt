-- What the literals of a list ask for, literal by literal.
use Rattle.std.proofs.Common.{◌≡◌, ℕ, ◌+◌, ◌<◌, List, length, map, get_or, Some, sym, ap, subst, ◌∙◌}
use Rattle.std.specs.List.{slice_get}
use Rattle.std.specs.Option.{option_map}
use Rattle.std.specs.declared.vec.Vec.{Vec}
use Rattle.std.specs.declared.alloc.Global.{Global}
use Rattle.std.proofs.lemmas.Option.{slice_get-map, slice_get-get_or, slice_get_within}
use Rattle.hs_base.specs.declared.literal.LitByte.{LitByte}
use Rattle.hs_base.specs.Literals.{LiteralByte}
use Rattle.hs_base.specs.LiteralView.{literal_byte, literal_bytes}
use Rattle.hs_fdr_build.specs.Clearing.{Clears}
use Rattle.hs_fdr_build.specs.MaskPlaces.{IsAskedBy}
use Rattle.hs_fdr_build.proofs.ClearLemmas.{FromBelow, from_below-more, clears-map}

-- the literal of that number, as plain data
pub literal-there : (xs : List (Vec LitByte Global)) (n : ℕ) (v d : Vec LitByte Global) (items : List LitByte) → n < length xs → v ≡ get_or xs n d → items ≡ v.items → slice_get (map literal_bytes xs) n ≡ Some (map literal_byte items)
literal-there xs n v d items below read same =
    slice_get-map literal_bytes xs n ∙ ap (option_map literal_bytes) (slice_get-get_or xs n d below) ∙ ap (λ w. Some (literal_bytes w)) (sym read) ∙ ap (λ w. Some (map literal_byte w)) (sym same)

module _ (Asks : List LiteralByte → ℕ → Type 0) (literals : List (List LiteralByte)) (buckets : List ℕ) where
  -- by the literal of that number
  abbrev pub ByNumber : ℕ → ℕ → ℕ → Type 0
  ByNumber number place bucket = (literal : List LiteralByte) × (slice_get literals number ≡ Some literal) × (slice_get buckets number ≡ Some bucket) × Asks literal place

  -- one literal more
  pub number-more : (n bucket : ℕ) (literal : List LiteralByte) (s t u : List ℕ) → slice_get literals n ≡ Some literal → slice_get buckets n ≡ Some bucket → Clears (FromBelow ByNumber n) s t
      → Clears (λ place b. (b ≡ bucket) × Asks literal place) t u → Clears (FromBelow ByNumber (n + 1)) s u
  number-more n bucket literal s t u is goes before more =
      from_below-more ByNumber n s t u before (clears-map _ (ByNumber n) t u
      (λ place b _ _ (same, asks). (literal, is, goes ∙ ap Some (sym same), asks))
      (λ place b _ _ (other, it, there, asks).
      let two : Some b ≡ Some bucket = sym there ∙ goes in
      let one : Some other ≡ Some literal = sym it ∙ is in
      let same : b ≡ bucket = cc in
      let e : other ≡ literal = cc in
      (same, subst (λ l. Asks l place) e asks))
      more)

  -- all literals
  pub number-all : (n : ℕ) (s t : List ℕ) → n ≡ length literals → Clears (FromBelow ByNumber n) s t → Clears (IsAskedBy Asks literals buckets) s t
  number-all n s t whole all = clears-map (FromBelow ByNumber n) (IsAskedBy Asks literals buckets) s t
      (λ place b _ _ (number, _, (literal, is, goes, asks)). (literal, record { number = number; is = is; goes = goes }, asks))
      (λ place b _ _ (literal, stands, asks). (stands.number, subst (λ m. stands.number < m) (sym whole) (slice_get_within literals stands.number literal stands.is), (literal, stands.is, stands.goes, asks)))
      all
