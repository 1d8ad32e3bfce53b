-- A lowered tree has the spans of the expression.
use Rattle.std.proofs.Common.{◌≡◌, ◌↔◌, ◌⊎◌, ℕ, zero, suc, ◌+◌, ◌<◌, ◌≤◌, Bool, true, false, ◌&&◌, ◌||◌, List, [], ◌∷◌, ◌++◌, map, length, Some, refl, sym, ap, subst, ◌∙◌, inl, inr, true≢false, le_refl, le_trans, arith}
use Rattle.std.specs.Prelude.{encode_utf8, nat_le, nat_lt}
use Rattle.std.proofs.lemmas.Bool.{cases_lt, and_parts, or_cases}
use Rattle.std.proofs.lemmas.Bool.Decides.{nat_tests}
use Rattle.std.proofs.lemmas.Option.{slice_get_within}
use Rattle.hs_base.specs.ByteSets.{bytes_where}
use Rattle.hs_base.specs.Lists.{Each, OneOf}
use Rattle.hs_base.specs.Trees.{Tree, Trees, empty, class, points, assert, cat, alt, repeat, none, more, trees_of}
use Rattle.hs_base.specs.Spans.{IsByteOf, HasBytesAt, IsScalarValue, IsInRange, IsPointOf, Copies, Spans, CatSpans, AltSpans}
use Rattle.hs_expr.specs.Items.{HaveSameSpans}
use Rattle.regex_class.specs.Ranges.{Range, in_range, in_ranges}
use Rattle.regex_class.proofs.RangesLemmas.{in_ranges-nil, in_ranges-cons, in_range_tells}
use Rattle.hs_utf8.specs.Members.{has_encoding, is_member}
use Rattle.hs_utf8.specs.Runs.{IsChoice, IsCodePointRun, AreRuns, place_tree, run_tree}
use Rattle.hs_utf8.specs.Lowered.{ascii_end, is_ascii_member, AreAscii, nothing, something, alternatives, IsLoweredSet, IsLowered, AreLowered}
use Rattle.hs_utf8.proofs.LengthLemmas.{encode-one, some_byte}
use Rattle.hs_utf8.proofs.TextLemmas.{where-at, where-byte, Stand, stand-bytes, bytes-stand, encoding-bytes}

-- from i to j stands the encoding of a member from a code point on
pub record HasMember (member : ℕ → Bool) (from : ℕ) (w : List ℕ) (i j : ℕ) : Type 0 where
  pub code_point : ℕ
  pub above : from ≤ code_point
  pub is_member : member code_point ≡ true
  pub bytes : HasBytesAt w i (encode_utf8 code_point)
  pub end : j ≡ i + length (encode_utf8 code_point)

-- from i to j stands a choice of bytes
record HasChoice (places : List (ℕ × ℕ)) (w : List ℕ) (i j : ℕ) : Type 0 where
  pub bytes : List ℕ
  pub choice : IsChoice places bytes
  pub stand : Stand w i bytes
  pub end : j ≡ i + length bytes

choice-of : (w : List ℕ) (ended : Bool) (places : List (ℕ × ℕ)) (i j : ℕ) → i ≤ length w →
    CatSpans w ended (trees_of (map place_tree places)) i j → HasChoice places w i j
choice-of w ended [] i j inside span = record { bytes = []; choice = tt; stand = inside; end = omega (arith, span) }
choice-of w ended ((low, high) ∷ places) i j inside (m, ((b, there, member), step), span) =
    let within : i < length w = slice_get_within w i b there in
    let test = where-byte (λ d. nat_le low d && nat_le d high) b member in
    let least : low ≤ b = grind (arith, nat_tests, test.1) in
    let greatest : b ≤ high = grind (arith, nat_tests, test.1) in
    let rest = choice-of w ended places m j (omega (arith, step)) span in
    record {
      bytes = b ∷ rest.bytes;
      choice = ((least, greatest), rest.choice);
      stand = (there, subst (λ n. Stand w n rest.bytes) step rest.stand);
      end = omega (arith, step, rest.end);
    }

of-choice : (w : List ℕ) (ended : Bool) (places : List (ℕ × ℕ)) (bytes : List ℕ) (i j : ℕ) → IsChoice places bytes →
    Each (λ b. b < 256) bytes → Stand w i bytes → j ≡ i + length bytes → CatSpans w ended (trees_of (map place_tree places)) i j
of-choice w ended [] [] i j choice each stand end = omega (arith, end)
of-choice w ended [] (b ∷ bytes) i j choice each stand end = absurd choice
of-choice w ended (p ∷ places) [] i j choice each stand end = absurd choice
of-choice w ended ((low, high) ∷ places) (b ∷ bytes) i j ((least, greatest), choice) (below, each) (there, stand) end =
    let test : (nat_le low b && nat_le b high) ≡ true = grind (arith, nat_tests) in (
      i + 1,
      ((b, there, where-at (λ d. nat_le low d && nat_le d high) b below ∙ ap (λ x. Some x) test), refl),
      of-choice w ended places bytes (i + 1) j choice each stand (omega (arith, end)),
    )

-- a member has an encoding
abbrev pub HaveEncodings : (ℕ → Bool) → Type 0
HaveEncodings member = (c : ℕ) → member c ≡ true → c < 0x110000

run-choice : (w : List ℕ) (ended : Bool) (places : List (ℕ × ℕ)) (first : List ℕ) (i j : ℕ) → IsChoice places first → 0 < length first →
    CatSpans w ended (trees_of (map place_tree places)) i j → HasChoice places w i j
run-choice w ended [] [] i j choice some span = absurd (omega arith)
run-choice w ended [] (b ∷ bytes) i j choice some span = absurd choice
run-choice w ended (p ∷ places) first i j choice some (m, ((b, there, member), step), span) =
    let within : i < length w = slice_get_within w i b there in
    choice-of w ended (p ∷ places) i j (omega arith) (m, ((b, there, member), step), span)

module _ (w : List ℕ) (ended : Bool) (member : ℕ → Bool) (bounded : HaveEncodings member) where
  -- the spans of a run are the encodings of its code points
  run-spans : (from first last : ℕ) (places : List (ℕ × ℕ)) (i j : ℕ) → from ≤ first → IsCodePointRun member first last places →
      Spans w ended (run_tree places) i j → HasMember member from w i j
  run-spans from first last places i j above run span =
      let own = run.encodings.each first (le_refl first) run.some in
      let here = run-choice w ended places (encode_utf8 first) i j own (some_byte first) span in
      let (c, low, high, same) = run.encodings.every here.bytes here.choice in
      record {
        code_point = c;
        above = le_trans above low;
        is_member = run.members c low high;
        bytes = subst (HasBytesAt w i) same (stand-bytes w i here.bytes here.stand);
        end = here.end ∙ ap (λ bs. i + length bs) same;
      }

  spans-run : (first last : ℕ) (places : List (ℕ × ℕ)) (i j c : ℕ) → IsCodePointRun member first last places → first ≤ c → c ≤ last →
      HasBytesAt w i (encode_utf8 c) → j ≡ i + length (encode_utf8 c) → Spans w ended (run_tree places) i j
  spans-run first last places i j c run low high bytes end =
      of-choice w ended places (encode_utf8 c) i j (run.encodings.each c low high)
      (encoding-bytes c (bounded c (run.members c low high))) (bytes-stand w i (encode_utf8 c) bytes) end

  runs-spans : (from : ℕ) (trees : List Tree) (i j : ℕ) → AreRuns member from trees →
      AltSpans w ended (trees_of trees) i j → HasMember member from w i j
  runs-spans from [] i j runs span = absurd span
  runs-spans from (t ∷ trees) i j (next, is, runs) (inl here) =
      run-spans from next.first next.last next.places i j next.above next.run (subst (λ u. Spans w ended u i j) is here)
  runs-spans from (t ∷ trees) i j (next, is, runs) (inr there) =
      let found = runs-spans (next.last + 1) trees i j runs there in
      record {
        code_point = found.code_point;
        above = omega (arith, found.above, next.above, next.run.some);
        is_member = found.is_member;
        bytes = found.bytes;
        end = found.end;
      }

  spans-runs : (from : ℕ) (trees : List Tree) (i j : ℕ) → AreRuns member from trees →
      HasMember member from w i j → AltSpans w ended (trees_of trees) i j
  spans-runs from [] i j runs has = absurd (true≢false (sym has.is_member ∙ runs has.code_point has.above))
  spans-runs from (t ∷ trees) i j (next, is, runs) has = elim (cases_lt has.code_point next.first) [
    | inl before ↦ absurd (true≢false (sym has.is_member ∙ next.least has.code_point has.above before))
    | inr low ↦ elim (cases_lt next.last has.code_point) [
      | inl behind ↦ inr (spans-runs (next.last + 1) trees i j runs (record {
        code_point = has.code_point;
        above = omega (arith, behind);
        is_member = has.is_member;
        bytes = has.bytes;
        end = has.end;
      }))
      | inr high ↦
          inl (subst (λ u. Spans w ended u i j) (sym is)
          (spans-run next.first next.last next.places i j has.code_point next.run low high has.bytes has.end))
    ]
  ]

-- the spans of ASCII are its members
ascii-spans : (w : List ℕ) (ended : Bool) (ranges : List Range) (trees : List Tree) (i j : ℕ) → AreAscii ranges trees →
    AltSpans w ended (trees_of trees) i j → HasMember (is_member ranges) 0 w i j
ascii-spans w ended ranges _ i j (nothing h) span = absurd span
ascii-spans w ended ranges _ i j (something d h) (inr span) = absurd span
ascii-spans w ended ranges _ i j (something d h) (inl ((b, there, member), end)) =
    let test = where-byte (is_ascii_member ranges) b member in
    let parts = and_parts (nat_lt b ascii_end) (is_member ranges b) test.1 in
    let low : b < 0x80 = grind (arith, nat_tests, parts.0) in
    let within : i < length w = slice_get_within w i b there in
    let is : encode_utf8 b ≡ b ∷ [] = encode-one b low in
    record {
      code_point = b;
      above = omega arith;
      is_member = parts.1;
      bytes = subst (HasBytesAt w i) (sym is) (stand-bytes w i (b ∷ []) (there, omega arith));
      end = end ∙ ap (λ bs. i + length bs) (sym is);
    }

spans-ascii : (w : List ℕ) (ended : Bool) (ranges : List Range) (trees : List Tree) (i j : ℕ) → AreAscii ranges trees →
    (has : HasMember (is_member ranges) 0 w i j) → has.code_point < 0x80 → AltSpans w ended (trees_of trees) i j
spans-ascii w ended ranges _ i j ascii has low =
    let first : nat_lt has.code_point ascii_end ≡ true = grind (arith, nat_tests) in
    let test : is_ascii_member ranges has.code_point ≡ true = ap (λ x. x && is_member ranges has.code_point) first ∙ has.is_member in
    let is : encode_utf8 has.code_point ≡ has.code_point ∷ [] = encode-one has.code_point low in
    let bytes = bytes-stand w i (has.code_point ∷ []) (subst (HasBytesAt w i) is has.bytes) in
    elim ascii as (λ trees _. AltSpans w ended (trees_of trees) i j) [
      | nothing h ↦ absurd (true≢false (sym test ∙ h has.code_point))
      | something d h ↦
          inl (
            (has.code_point, bytes.0, where-at (is_ascii_member ranges) has.code_point (omega arith) ∙ ap (λ x. Some x) test),
            has.end ∙ ap (λ bs. i + length bs) is,
          )
    ]

-- one of the parts
alt-spans : (w : List ℕ) (ended : Bool) (parts : List Tree) (i j : ℕ) →
    Spans w ended (alternatives parts) i j ↔ AltSpans w ended (trees_of parts) i j
alt-spans w ended [] i j = (λ span. none_of span.0, λ span. absurd span)
  where
    none_of : IsByteOf (bytes_where (λ _. false)) w i → ⊥
    none_of (b, there, member) = true≢false (sym (where-byte (λ _. false) b member).1)
alt-spans w ended (p ∷ []) i j = (λ span. inl span, λ span. elim span [ inl here ↦ here | inr other ↦ absurd other ])
alt-spans w ended (p ∷ q ∷ parts) i j = (λ span. span, λ span. span)

-- one of the first or one of the others
alt-left : (w : List ℕ) (ended : Bool) (xs ys : List Tree) (i j : ℕ) → AltSpans w ended (trees_of xs) i j →
    AltSpans w ended (trees_of (xs ++ ys)) i j
alt-left w ended [] ys i j span = absurd span
alt-left w ended (x ∷ xs) ys i j (inl here) = inl here
alt-left w ended (x ∷ xs) ys i j (inr there) = inr (alt-left w ended xs ys i j there)

alt-right : (w : List ℕ) (ended : Bool) (xs ys : List Tree) (i j : ℕ) → AltSpans w ended (trees_of ys) i j →
    AltSpans w ended (trees_of (xs ++ ys)) i j
alt-right w ended [] ys i j span = span
alt-right w ended (x ∷ xs) ys i j span = inr (alt-right w ended xs ys i j span)

alt-cases : (w : List ℕ) (ended : Bool) (xs ys : List Tree) (i j : ℕ) → AltSpans w ended (trees_of (xs ++ ys)) i j →
    AltSpans w ended (trees_of xs) i j ⊎ AltSpans w ended (trees_of ys) i j
alt-cases w ended [] ys i j span = inr span
alt-cases w ended (x ∷ xs) ys i j (inl here) = inl (inl here)
alt-cases w ended (x ∷ xs) ys i j (inr there) = elim (alt-cases w ended xs ys i j there) [ inl a ↦ inl (inr a) | inr b ↦ inr b ]

or-right : (x y : Bool) → y ≡ true → (x || y) ≡ true
or-right true y is = refl
or-right false y is = is

-- a member by its test and by the ranges
range-point : (ranges : List Range) (c : ℕ) → in_ranges ranges c ≡ true → OneOf (IsInRange c) ranges
range-point [] c is = absurd (true≢false (sym is ∙ in_ranges-nil c))
range-point (r ∷ ranges) c is = elim (or_cases (in_range r c) (in_ranges ranges c) (sym (in_ranges-cons r ranges c) ∙ is)) [
  | inl here ↦
      let low : r.0 ≤ c = grind (arith, in_range_tells r c) in
      let high : c ≤ r.1 = grind (arith, in_range_tells r c) in
      inl (low, high)
  | inr there ↦ inr (range-point ranges c there)
]

point-range : (ranges : List Range) (c : ℕ) → OneOf (IsInRange c) ranges → in_ranges ranges c ≡ true
point-range [] c in_one = absurd in_one
point-range (r ∷ ranges) c (inl (low, high)) =
    let here : in_range r c ≡ true = grind (arith, in_range_tells r c) in
    in_ranges-cons r ranges c ∙ ap (λ b. b || in_ranges ranges c) here
point-range (r ∷ ranges) c (inr there) =
    in_ranges-cons r ranges c ∙ or-right (in_range r c) (in_ranges ranges c) (point-range ranges c there)

scalar-value : (c : ℕ) → has_encoding c ≡ true → IsScalarValue c
scalar-value c is = elim (cases_lt c 0xD800) [
  | inl low ↦ inl low
  | inr high ↦
      let above : 0xE000 ≤ c = grind (arith, nat_tests) in
      let below : c < 0x110000 = grind (arith, nat_tests) in
      inr (above, below)
]

value-scalar : (c : ℕ) → IsScalarValue c → has_encoding c ≡ true
value-scalar c (inl low) = grind (arith, nat_tests)
value-scalar c (inr (above, below)) = grind (arith, nat_tests)

members-bounded : (ranges : List Range) → HaveEncodings (is_member ranges)
members-bounded ranges c is =
    let scalar = scalar-value c (and_parts (has_encoding c) (in_ranges ranges c) is).0 in
    elim scalar [ inl low ↦ omega arith | inr high ↦ high.1 ]

-- the spans of a set in bytes are those of the set
set-spans : (w : List ℕ) (ended : Bool) (ranges : List Range) (tree : Tree) (i j : ℕ) → IsLoweredSet ranges tree →
    Spans w ended tree i j ↔ IsPointOf ranges w i j
set-spans w ended ranges tree i j set = (to, from)
  where
    point : HasMember (is_member ranges) 0 w i j → IsPointOf ranges w i j
    point has =
        let parts = and_parts (has_encoding has.code_point) (in_ranges ranges has.code_point) has.is_member in
        record {
          code_point = has.code_point;
          scalar = scalar-value has.code_point parts.0;
          member = range-point ranges has.code_point parts.1;
          bytes = has.bytes;
          end = has.end;
        }

    lower : HasMember (is_member ranges) ascii_end w i j → HasMember (is_member ranges) 0 w i j
    lower has = record {
      code_point = has.code_point;
      above = omega arith;
      is_member = has.is_member;
      bytes = has.bytes;
      end = has.end;
    }

    to : Spans w ended tree i j → IsPointOf ranges w i j
    to span =
        let parts = (alt-spans w ended (set.ascii ++ set.runs) i j).0 (subst (λ u. Spans w ended u i j) set.is span) in
        elim (alt-cases w ended set.ascii set.runs i j parts) [
          | inl ascii ↦ point (ascii-spans w ended ranges set.ascii i j set.are_ascii ascii)
          | inr runs ↦
              point (lower (runs-spans w ended (is_member ranges) (members-bounded ranges) ascii_end set.runs i j set.are_runs runs))
        ]

    from : IsPointOf ranges w i j → Spans w ended tree i j
    from is =
        let member : is_member ranges is.code_point ≡ true =
        ap (λ x. x && in_ranges ranges is.code_point) (value-scalar is.code_point is.scalar) ∙ point-range ranges is.code_point is.member in
        let whole : AltSpans w ended (trees_of (set.ascii ++ set.runs)) i j = elim (cases_lt is.code_point 0x80) [
          | inl low ↦
              let has : HasMember (is_member ranges) 0 w i j =
              record { code_point = is.code_point; above = omega arith; is_member = member; bytes = is.bytes; end = is.end } in
              alt-left w ended set.ascii set.runs i j (spans-ascii w ended ranges set.ascii i j set.are_ascii has low)
          | inr high ↦
              let has : HasMember (is_member ranges) ascii_end w i j =
              record { code_point = is.code_point; above = high; is_member = member; bytes = is.bytes; end = is.end } in
              alt-right w ended set.ascii set.runs i j
              (spans-runs w ended (is_member ranges) (members-bounded ranges) ascii_end set.runs i j set.are_runs has)
        ] in
        subst (λ u. Spans w ended u i j) (sym set.is) ((alt-spans w ended (set.ascii ++ set.runs) i j).1 whole)

copies-map : (R S : ℕ → ℕ → Type 0) → ((i j : ℕ) → R i j → S i j) → (n i j : ℕ) → Copies R n i j → Copies S n i j
copies-map R S carry zero i j copies = copies
copies-map R S carry (suc n) i j (m, one, rest) = (m, carry i m one, copies-map R S carry n m j rest)

-- the spans of the lowered tree are those of the expression
mutual
  lowered-to : (w : List ℕ) (ended : Bool) (t u : Tree) (i j : ℕ) → IsLowered t u → Spans w ended u i j → Spans w ended t i j
  lowered-to w ended empty u i j is span = subst (λ v. Spans w ended v i j) is span
  lowered-to w ended (class set) u i j is span = subst (λ v. Spans w ended v i j) is span
  lowered-to w ended (points ranges) u i j is span = (set-spans w ended ranges u i j is).0 span
  lowered-to w ended (assert assertion) u i j is span = subst (λ v. Spans w ended v i j) is span
  lowered-to w ended (cat items) u i j (lowered, are, is) span =
      cats-to w ended items lowered i j are (subst (λ v. Spans w ended v i j) is span)
  lowered-to w ended (alt items) u i j (lowered, are, is) span =
      alts-to w ended items lowered i j are (subst (λ v. Spans w ended v i j) is span)
  lowered-to w ended (repeat body least greatest) u i j (lowered, here, is) span =
      let (n, low, high, copies) = subst (λ v. Spans w ended v i j) is span in
      (n, low, high, copies-map (Spans w ended lowered) (Spans w ended body) (λ a b. lowered-to w ended body lowered a b here) n i j copies)

  cats-to : (w : List ℕ) (ended : Bool) (items us : Trees) (i j : ℕ) → AreLowered items us →
      CatSpans w ended us i j → CatSpans w ended items i j
  cats-to w ended none us i j is span = subst (λ v. CatSpans w ended v i j) is span
  cats-to w ended (more item items) us i j (first, others, here, rest, is) span =
      let (m, one, behind) = subst (λ v. CatSpans w ended v i j) is span in
      (m, lowered-to w ended item first i m here one, cats-to w ended items others m j rest behind)

  alts-to : (w : List ℕ) (ended : Bool) (items us : Trees) (i j : ℕ) → AreLowered items us →
      AltSpans w ended us i j → AltSpans w ended items i j
  alts-to w ended none us i j is span = subst (λ v. AltSpans w ended v i j) is span
  alts-to w ended (more item items) us i j (first, others, here, rest, is) span =
      elim (subst (λ v. AltSpans w ended v i j) is span) [
        | inl one ↦ inl (lowered-to w ended item first i j here one)
        | inr other ↦ inr (alts-to w ended items others i j rest other)
      ]

mutual
  lowered-from : (w : List ℕ) (ended : Bool) (t u : Tree) (i j : ℕ) → IsLowered t u → Spans w ended t i j → Spans w ended u i j
  lowered-from w ended empty u i j is span = subst (λ v. Spans w ended v i j) (sym is) span
  lowered-from w ended (class set) u i j is span = subst (λ v. Spans w ended v i j) (sym is) span
  lowered-from w ended (points ranges) u i j is span = (set-spans w ended ranges u i j is).1 span
  lowered-from w ended (assert assertion) u i j is span = subst (λ v. Spans w ended v i j) (sym is) span
  lowered-from w ended (cat items) u i j (lowered, are, is) span =
      subst (λ v. Spans w ended v i j) (sym is) (cats-from w ended items lowered i j are span)
  lowered-from w ended (alt items) u i j (lowered, are, is) span =
      subst (λ v. Spans w ended v i j) (sym is) (alts-from w ended items lowered i j are span)
  lowered-from w ended (repeat body least greatest) u i j (lowered, here, is) (n, low, high, copies) =
      subst (λ v. Spans w ended v i j) (sym is)
      (n, low, high, copies-map (Spans w ended body) (Spans w ended lowered) (λ a b. lowered-from w ended body lowered a b here) n i j copies)

  cats-from : (w : List ℕ) (ended : Bool) (items us : Trees) (i j : ℕ) → AreLowered items us →
      CatSpans w ended items i j → CatSpans w ended us i j
  cats-from w ended none us i j is span = subst (λ v. CatSpans w ended v i j) (sym is) span
  cats-from w ended (more item items) us i j (first, others, here, rest, is) (m, one, behind) =
      subst (λ v. CatSpans w ended v i j) (sym is)
      (m, lowered-from w ended item first i m here one, cats-from w ended items others m j rest behind)

  alts-from : (w : List ℕ) (ended : Bool) (items us : Trees) (i j : ℕ) → AreLowered items us →
      AltSpans w ended items i j → AltSpans w ended us i j
  alts-from w ended none us i j is span = absurd span
  alts-from w ended (more item items) us i j (first, others, here, rest, is) (inl one) =
      subst (λ v. AltSpans w ended v i j) (sym is) (inl (lowered-from w ended item first i j here one))
  alts-from w ended (more item items) us i j (first, others, here, rest, is) (inr other) =
      subst (λ v. AltSpans w ended v i j) (sym is) (inr (alts-from w ended items others i j rest other))

pub lowered-spans : (t u : Tree) → IsLowered t u → HaveSameSpans u t
lowered-spans t u is = λ w ended i j. (lowered-to w ended t u i j is, lowered-from w ended t u i j is)
