-- One piece over a byte: where it is left, and its field.
use Rattle.std.proofs.Common.{◌≡◌, ℕ, zero, suc, ◌+◌, ◌-◌, ◌<◌, ◌≤◌, ◌↔◌, Bool, true, false, ◌||◌, ◌&&◌, nat_lt, List, [], ◌∷◌, ◌++◌, length, map, get_or, take, refl, sym, ap, subst, ◌∙◌, inl, inr, arith}
use Rattle.std.proofs.lemmas.Bool.{cases_lt}
use Rattle.std.proofs.lemmas.Bool.Decides.{nat_tests}
use Rattle.std.proofs.lemmas.List.{length-map}
use Rattle.std.proofs.lemmas.Option.{slice_get-get_or}
use Rattle.hs_base.specs.declared.context.Mask.{Mask}
use Rattle.hs_base.specs.declared.context.Prev.{Prev}
use Rattle.hs_base.specs.declared.context.Next.{Next}
use Rattle.hs_base.specs.declared.context.NextSet.{NextSet}
use Rattle.hs_base.specs.Bits.{has_bit}
use Rattle.hs_base.specs.Chains.{Piece, lit, piece_tree, IsFitChain}
use Rattle.hs_base.specs.Contexts.{class_of, then_bytes, then_ended}
use Rattle.hs_base.specs.ContextSets.{has_context, has_next}
use Rattle.hs_base.specs.Fields.{Leaves}
use Rattle.hs_base.specs.KeptPieces.{Form, nothing, positions, literal, first, last, ring, IsKeptAs, IsKeptBy}
use Rattle.hs_base.specs.Leaving.{AreEntered, IsEmptyAt, LeavesAt, LeavesBehind, TellsLeaving}
use Rattle.hs_base.specs.Lists.{Each}
use Rattle.hs_base.specs.LiteralEnds.{EndsAt}
use Rattle.hs_base.specs.LiteralRows.{IsEnteredBack, IsEnteredBefore, TellsEntries, shifted}
use Rattle.hs_base.specs.Literals.{LiteralByte, literal_set}
use Rattle.hs_base.specs.Regions.{Place, place_form}
use Rattle.hs_base.specs.RepeatRows.{IsRingAt}
use Rattle.hs_base.specs.Spans.{Spans, CatSpans}
use Rattle.hs_base.specs.Trees as tree
use Rattle.hs_base.specs.Trees.{Tree, Trees, trees_of}
use Rattle.hs_base.proofs.ChainStreamLemmas.{leaving-goes_on, leaving-begins}
use Rattle.hs_base.proofs.EntryLemmas.{entries-grow, leaves-listed}
use Rattle.hs_base.proofs.LiteralRowLemmas.{literals-leave, literals-leave_behind, literals-step, literal-spans_end}
use Rattle.hs_engine.specs.Engines.{Meaning, TakesByte, TellsLeaves}
use Rattle.hs_run.specs.Ways.{way_of}
use Rattle.hs_run.specs.Pieces.{IsAlone, IsBare, IsEntered, IsEngined, IsRoleNull, RunsForm, TellsBehind, keeps, bare, entered, engine}
use Rattle.hs_run.proofs.TakingLemmas.{ends-taken}
use Rattle.hs_base.specs.declared.literal.LitByte.{LitByte}
use Rattle.hs_base.specs.LiteralView.{literal_byte}
use Rattle.hs_run.specs.Spots.{IsSpot}
use Rattle.hs_run.specs.declared.way.Way.TheVariants as way
use Rattle.hs_rose.specs.Programs.{Tables}
use Rattle.hs_rose.specs.declared.role.Role.{Role}
use Rattle.hs_run.specs.declared.spot.Spot.{Spot}

-- what is kept of a piece of which something is kept

pub kept-by : (form : Form) (pieces : List Piece) (bytes u : List ℕ) → keeps form ≡ true → IsKeptAs form pieces bytes u → IsKeptBy form pieces bytes u
kept-by nothing pieces bytes u keeps is = absurd (let e : false ≡ true = keeps in cc)
kept-by (positions t) pieces bytes u keeps is = is
kept-by (literal n) pieces bytes u keeps is = is
kept-by (first set n) pieces bytes u keeps is = is
kept-by (last set m) pieces bytes u keeps is = is
kept-by (ring set m) pieces bytes u keeps is = is

pub by-kept : (form : Form) (pieces : List Piece) (bytes u : List ℕ) → keeps form ≡ true → IsKeptBy form pieces bytes u → IsKeptAs form pieces bytes u
by-kept nothing pieces bytes u keeps is = absurd (let e : false ≡ true = keeps in cc)
by-kept (positions t) pieces bytes u keeps is = is
by-kept (literal n) pieces bytes u keeps is = is
by-kept (first set n) pieces bytes u keeps is = is
by-kept (last set m) pieces bytes u keeps is = is
by-kept (ring set m) pieces bytes u keeps is = is

-- how a role is run, by its kind

module _ (program : Tables) (r : Role) (p : Place) where
  pub bare-of : IsAlone program r p → way_of r ≡ way.BareLiteral → IsBare program r p
  bare-of (bare is) same = is
  bare-of (entered is) same = absurd (let e : way.Literal ≡ way.BareLiteral = sym is.kind ∙ same in cc)
  bare-of (engine is) same = absurd (let e : way.Engine ≡ way.BareLiteral = sym is.kind ∙ same in cc)

  pub entered-of : IsAlone program r p → way_of r ≡ way.Literal → IsEntered program r p
  entered-of (bare is) same = absurd (let e : way.BareLiteral ≡ way.Literal = sym is.kind ∙ same in cc)
  entered-of (entered is) same = is
  entered-of (engine is) same = absurd (let e : way.Engine ≡ way.Literal = sym is.kind ∙ same in cc)

  pub engined-of : IsAlone program r p → way_of r ≡ way.Engine → IsEngined program r p
  engined-of (bare is) same = absurd (let e : way.BareLiteral ≡ way.Engine = sym is.kind ∙ same in cc)
  engined-of (entered is) same = absurd (let e : way.Literal ≡ way.Engine = sym is.kind ∙ same in cc)
  engined-of (engine is) same = is

  pub never-looks_back : IsAlone program r p → way_of r ≡ way.LookBack → ⊥
  never-looks_back (bare is) same = let e : way.BareLiteral ≡ way.LookBack = sym is.kind ∙ same in cc
  never-looks_back (entered is) same = let e : way.Literal ≡ way.LookBack = sym is.kind ∙ same in cc
  never-looks_back (engine is) same = let e : way.Engine ≡ way.LookBack = sym is.kind ∙ same in cc

-- the spans of a literal

abbrev lit_trees : List LiteralByte → Trees
lit_trees xs = trees_of (map (λ x. tree.class (literal_set x)) xs)

pub lit-width : (w : List ℕ) (ended : Bool) (xs : List LiteralByte) (i j : ℕ) → CatSpans w ended (lit_trees xs) i j → i + length xs ≡ j
lit-width w ended [] i j span = omega (arith, span)
lit-width w ended (x ∷ xs) i j (m, one, rest) =
    let e : m ≡ i + 1 = one.1 in
    let e' : m + length xs ≡ j = lit-width w ended xs m j rest in
    omega arith

module _ (xs : List LiteralByte) (u : List ℕ) (some : 1 ≤ length xs) (each : Each (λ b. b < 256) u) where
  -- it has the span of the last bytes where it ends there
  pub span-ends : length xs ≤ length u → Spans u false (piece_tree (lit xs)) (length u - length xs) (length u) ↔ EndsAt xs u (length u)
  span-ends within =
      let e : length u - length xs + length xs ≡ length u = omega (arith, within) in
      subst (λ j. Spans u false (piece_tree (lit xs)) (length u - length xs) j ↔ EndsAt xs u j) e (literal-spans_end xs u false (length u - length xs) some each)

  first-before : length xs ≤ length u → IsEnteredBefore [] (length xs) u
  first-before within =
      let k : ℕ = length u - length xs in
      record {
        byte = get_or u k 0;
        there = slice_get-get_or u k 0 (omega (arith, within, some));
        entered = (leaving-begins (take k u) (class_of (get_or u k 0))).0 refl;
      }

  -- any literal is left where it ends and the pieces before it are left before its first byte
  pub behind-leaves : (pieces : List Piece) (next : Next) → (EndsAt xs u (length u) × IsEnteredBefore pieces (length xs) u) ↔ LeavesBehind pieces (lit xs) u next
  behind-leaves pieces next = (
    λ (ends, before).
        let within : length xs ≤ length u = (ends-taken xs u ends).0 in
        (literals-leave_behind pieces xs u next some within).1 (before, (span-ends within).1 ends),
    λ behind.
        let wide : behind.from + length xs ≡ length u = lit-width (then_bytes u next) (then_ended next) xs behind.from (length u) behind.spans in
        let within : length xs ≤ length u = omega (arith, wide) in
        let (before, span) = (literals-leave_behind pieces xs u next some within).0 behind in
        ((span-ends within).0 span, before),
  )

  -- a first literal is left where it ends
  pub bare-leaves : (next : Next) → EndsAt xs u (length u) ↔ LeavesBehind [] (lit xs) u next
  bare-leaves next = (
    λ ends. (behind-leaves [] next).0 (ends, first-before (ends-taken xs u ends).0),
    λ behind. ((behind-leaves [] next).1 behind).0,
  )

  pub literal-not_empty : (next : Next) → IsEmptyAt (piece_tree (lit xs)) u next → ⊥
  literal-not_empty next span =
      let wide : length u + length xs ≡ length u = lit-width (then_bytes u next) (then_ended next) xs (length u) (length u) span in
      omega (arith, wide, some)

  -- and another one where it was entered too
  module _ (pieces : List Piece) (marks : List Bool) (m : ℕ) (bit : ℕ → Bool) (size : length xs ≡ suc m) (are : AreEntered pieces u marks) (tells : TellsEntries (length xs) bit u marks) where
    back-within : bit m ≡ true → length xs ≤ length u
    back-within is =
        let back : IsEnteredBack (length xs) u marks m = (tells m).0 is in
        omega (arith, back.ends, size)

    law : (next : Next) → Leaves (piece_tree (lit xs)) u marks next ↔ ((bit m ≡ true) × Spans u false (piece_tree (lit xs)) (length u - length xs) (length u))
    law next =
        subst (λ n. Leaves (piece_tree (lit xs)) u marks next ↔ ((bit m ≡ true) × Spans u false (piece_tree (lit xs)) (length u - n) (length u))) (sym size)
        (literals-leave xs m bit u marks next size are.count (subst (λ n. TellsEntries n bit u marks) size tells))

    pub entered-leaves : (next : Next) → ((bit m ≡ true) × EndsAt xs u (length u)) ↔ LeavesBehind pieces (lit xs) u next
    entered-leaves next = (
      λ (is, ends). (leaves-listed pieces (lit xs) u marks next are).1 ((law next).1 (is, (span-ends (back-within is)).1 ends)),
      λ behind.
          let (is, span) = (law next).0 ((leaves-listed pieces (lit xs) u marks next are).0 behind) in
          (is, (span-ends (back-within is)).0 span),
    )

-- what leaves a piece, by a set of what comes next

pub all-tells : (pieces : List Piece) (piece : Piece) (u : List ℕ) (holds : Bool) (set : NextSet) (Q : Type 0) → ((next : Next) → has_next set next ≡ holds) → ((holds ≡ true) ↔ Q) →
    ((next : Next) → Q ↔ LeavesBehind pieces piece u next) → TellsBehind set pieces piece u
all-tells pieces piece u holds set Q all tells leaves next = (
  λ is. (leaves next).0 (tells.0 (sym (all next) ∙ is)),
  λ behind. all next ∙ tells.1 ((leaves next).1 behind),
)

pub bare-out : (p : Place) (u : List ℕ) (x : List LiteralByte) (ys : List LitByte) (holds : Bool) (set : NextSet) → p.piece ≡ lit x → p.pieces ≡ [] → map literal_byte ys ≡ x → 1 ≤ length x →
    Each (λ b. b < 256) u → ((next : Next) → has_next set next ≡ holds) → ((holds ≡ true) ↔ EndsAt (map literal_byte ys) u (length u)) → TellsBehind set p.pieces p.piece u
bare-out p u x ys holds set is_piece is_first same some each all tells =
    subst (λ piece. TellsBehind set p.pieces piece u) (sym is_piece)
    (subst (λ pieces. TellsBehind set pieces (lit x) u) (sym is_first)
    (all-tells [] (lit x) u holds set (EndsAt x u (length u)) all
    (subst (λ zs. (holds ≡ true) ↔ EndsAt zs u (length u)) same tells)
    (bare-leaves x u some each)))

pub entered-out : (p : Place) (part u : List ℕ) (x : List LiteralByte) (ys : List LitByte) (holds : Bool) (set : NextSet) → p.piece ≡ lit x → place_form p ≡ literal (length x) → map literal_byte ys ≡ x →
    1 ≤ length x → Each (λ b. b < 256) u → ((next : Next) → has_next set next ≡ holds) →
    ((holds ≡ true) ↔ ((has_bit part (length ys - 1) ≡ true) × EndsAt (map literal_byte ys) u (length u))) →
    IsKeptAs (place_form p) p.pieces part u → TellsBehind set p.pieces p.piece u
entered-out p part u x ys holds set is_piece form same some each all tells kept =
    let size : length ys ≡ length x = sym (length-map ys literal_byte) ∙ ap length same in
    let is : IsKeptBy (literal (length x)) p.pieces part u = subst (λ f. IsKeptAs f p.pieces part u) form kept in
    let m : ℕ = length x - 1 in
    let count : length x ≡ suc m = omega (arith, some) in
    subst (λ piece. TellsBehind set p.pieces piece u) (sym is_piece)
    (all-tells p.pieces (lit x) u holds set ((has_bit part m ≡ true) × EndsAt x u (length u)) all
    (subst (λ zs. (holds ≡ true) ↔ ((has_bit part m ≡ true) × EndsAt zs u (length u))) same
    (subst (λ n. (holds ≡ true) ↔ ((has_bit part (n - 1) ≡ true) × EndsAt (map literal_byte ys) u (length u))) size tells))
    (entered-leaves x u some each p.pieces is.entered m (has_bit part) count is.are is.says))

pub engine-out : (m : Meaning) (p : Place) (part u : List ℕ) (spot : Spot) (set : NextSet) → RunsForm m (place_form p) (piece_tree p.piece) → IsSpot u spot →
    TellsLeaves m part spot.prev spot.at set → IsKeptAs (place_form p) p.pieces part u → TellsBehind set p.pieces p.piece u
engine-out m p part u spot set runs is tells kept next =
    let by : IsKeptBy (place_form p) p.pieces part u = kept-by (place_form p) p.pieces part u runs.kept kept in
    let law = tells (piece_tree p.piece) u by.entered runs.runs by.are.count is.offset is.behind ((runs.says part u by.entered by.are.count).0 by.says) next in
    let listed = leaves-listed p.pieces p.piece u by.entered next by.are in (
      λ has. listed.1 (law.0 has),
      λ behind. law.1 (listed.0 behind),
    )

-- and where the pieces up to it are left

pub goes-on : (p : Place) (rest : List Piece) (u : List ℕ) (spot : Spot) (null : Mask) (now out then : NextSet) → IsRoleNull null (piece_tree p.piece) → IsFitChain (p.pieces ++ p.piece ∷ rest) → IsSpot u spot →
    ((next : Next) → has_next then next ≡ (has_next out next || (has_context null (record { prev = spot.prev; next = next }) && has_next now next))) →
    TellsBehind out p.pieces p.piece u → TellsLeaving (has_next now) p.pieces u → TellsLeaving (has_next then) (p.pieces ++ p.piece ∷ []) u
goes-on p rest u spot null now out then is_null fit is joins leaves tells next =
    let empties : (c : Next) → (has_context null (record { prev = spot.prev; next = c }) ≡ true) ↔ IsEmptyAt (piece_tree p.piece) u c =
    λ c. subst (λ (q : Prev). (has_context null (record { prev = q; next = c }) ≡ true) ↔ IsEmptyAt (piece_tree p.piece) u c) (sym is.behind) (is_null u c) in
    let law = leaving-goes_on p.pieces rest p.piece u (has_next now) (has_next out) (λ c. has_context null (record { prev = spot.prev; next = c })) fit tells leaves empties next in (
      λ has. law.0 (sym (joins next) ∙ has),
      λ left. joins next ∙ law.1 left,
    )

-- the field behind the byte

pub each-by : (bytes : List ℕ) → ((i : ℕ) → get_or bytes i 0 < 256) → Each (λ b. b < 256) bytes
each-by [] all = tt
each-by (b ∷ bytes) all = (all 0, each-by bytes (λ i. all (suc i)))

pub engine-step : (m : Meaning) (p : Place) (old new u : List ℕ) (spot : Spot) (byte : ℕ) (now : NextSet) → RunsForm m (place_form p) (piece_tree p.piece) → IsSpot u spot →
    TakesByte m old new spot.prev spot.at now byte → length new ≡ m.width → Each (λ b. b < 256) new → IsKeptAs (place_form p) p.pieces old u → TellsLeaving (has_next now) p.pieces u →
    IsKeptAs (place_form p) p.pieces new (u ++ byte ∷ [])
engine-step m p old new u spot byte now runs is takes wide each kept tells =
    let by : IsKeptBy (place_form p) p.pieces old u = kept-by (place_form p) p.pieces old u runs.kept kept in
    let enters : Bool = has_next now (class_of byte) in
    let grown : AreEntered p.pieces (u ++ byte ∷ []) (by.entered ++ enters ∷ []) = entries-grow p.pieces u by.entered byte enters by.are (tells (class_of byte)) in
    let moved = takes (piece_tree p.piece) u by.entered runs.runs by.are.count is.offset is.behind ((runs.says old u by.entered by.are.count).0 by.says) in
    let listed : m.field new (piece_tree p.piece) (u ++ byte ∷ []) (by.entered ++ enters ∷ []) =
    subst (λ always. m.field new (piece_tree p.piece) (u ++ byte ∷ []) (by.entered ++ (always || enters) ∷ [])) runs.listed moved in
    by-kept (place_form p) p.pieces new (u ++ byte ∷ []) runs.kept (record {
      entered = by.entered ++ enters ∷ [];
      are = grown;
      sized = record { count = wide ∙ runs.wide; each = each };
      says = (runs.says new (u ++ byte ∷ []) (by.entered ++ enters ∷ []) grown.count).1 listed;
    })

-- the row of a literal behind the byte

not-less : (k n : ℕ) → n ≤ k → nat_lt k n ≡ false
not-less k n late = grind (arith, nat_tests)

false-behind : (b : Bool) → (b && false) ≡ false
false-behind true = refl
false-behind false = refl

false-by : (b : Bool) → (b ≡ true → ⊥) → b ≡ false
false-by true never = absurd (never refl)
false-by false never = refl

abbrev pub IsMoved : (n : ℕ) (enters : Bool) (old new : List ℕ) → Type 0
IsMoved n enters old new =
    ((k : ℕ) → k < n → has_bit new k ≡ shifted n enters (has_bit old) k) × ((k : ℕ) → n ≤ k → has_bit new k ≡ has_bit old k)

shifted-late : (n : ℕ) (enters : Bool) (bit : ℕ → Bool) (k : ℕ) → n ≤ k → shifted n enters bit k ≡ false
shifted-late n enters bit zero late = ap (λ b. b && enters) (not-less 0 n late)
shifted-late n enters bit (suc k) late = ap (λ b. b && bit k) (not-less (suc k) n late)

shifted-unset : (n : ℕ) (enters : Bool) (bit : ℕ → Bool) (k : ℕ) → bit k ≡ false → shifted n enters bit (suc k) ≡ false
shifted-unset n enters bit k unset = ap (λ b. nat_lt (suc k) n && b) unset ∙ false-behind (nat_lt (suc k) n)

pub moved-ring : (n : ℕ) (enters : Bool) (old new : List ℕ) (at : ℕ) → IsMoved n enters old new → IsRingAt n old at → IsRingAt n new (at + 1)
moved-ring n enters old new at (moved, others) standing = record {
  spare = λ k late. others k late ∙ standing.spare k late;
  early = early;
}
  where
    early : (k : ℕ) → at + 1 ≤ k → has_bit new k ≡ false
    early zero late = absurd (omega (arith, late))
    early (suc k) late = elim (cases_lt (suc k) n) [
      | inl below ↦ moved (suc k) below ∙ shifted-unset n enters (has_bit old) k (standing.early k (omega (arith, late)))
      | inr above ↦ others (suc k) above ∙ standing.spare (suc k) above
    ]

pub entered-step : (p : Place) (old new u : List ℕ) (n : ℕ) (byte : ℕ) (enters : Bool) → place_form p ≡ literal n → length new ≡ length old → Each (λ b. b < 256) new → IsMoved n enters old new →
    IsKeptAs (place_form p) p.pieces old u → ((enters ≡ true) ↔ LeavesAt p.pieces u (class_of byte)) → IsKeptAs (place_form p) p.pieces new (u ++ byte ∷ [])
entered-step p old new u n byte enters form len each (moved, others) kept tells =
    let by : IsKeptBy (literal n) p.pieces old u = subst (λ f. IsKeptAs f p.pieces old u) form kept in
    let says : TellsEntries n (has_bit old) u by.entered = by.says in
    let unset : (k : ℕ) → n ≤ k → has_bit old k ≡ false = λ k late. false-by (has_bit old k) (λ is. omega (arith, late, ((says k).0 is).below)) in
    let same : (k : ℕ) → has_bit new k ≡ shifted n enters (has_bit old) k = λ k. elim (cases_lt k n) [
      | inl below ↦ moved k below
      | inr above ↦ others k above ∙ (unset k above ∙ sym (shifted-late n enters (has_bit old) k above))
    ] in
    let step = literals-step n (has_bit old) u by.entered byte enters by.are.count says in
    subst (λ f. IsKeptAs f p.pieces new (u ++ byte ∷ [])) (sym form) (record {
      entered = by.entered ++ enters ∷ [];
      are = entries-grow p.pieces u by.entered byte enters by.are tells;
      sized = record { count = len ∙ by.sized.count; each = each };
      says = λ k. (λ is. (step k).0 (sym (same k) ∙ is), λ back. same k ∙ (step k).1 back);
    })
