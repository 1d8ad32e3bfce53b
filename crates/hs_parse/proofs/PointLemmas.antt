-- Which code points may stand at a spot.
use Rattle.std.proofs.Common.{◌≡◌, ℕ, ◌<◌, ◌≤◌, Bool, false, not, ◌||◌, List, [], ◌∷◌, length, Option, Some, None, refl, sym, ap, subst, ◌∙◌, arith}
use Rattle.std.specs.Prelude.{if◌then◌else◌}
use Rattle.regex_class.specs.Ranges.{in_ranges}
use Rattle.regex_class.proofs.RangesLemmas.{in_ranges-nil}
use Rattle.hs_syntax.specs.declared.mode.Mode.{Mode}
use Rattle.hs_syntax.specs.declared.form.Form.{Form}
use Rattle.hs_syntax.specs.declared.form.Form.TheVariants as form
use Rattle.hs_parse.specs.declared.item.Item.{Item}
use Rattle.hs_parse.specs.declared.item.Item.TheVariants as item
use Rattle.hs_parse.specs.declared.set.Test.{Test}
use Rattle.hs_parse.specs.declared.spot.Spot.{Spot}
use Rattle.hs_parse.specs.Spots.{form_of}
use Rattle.hs_parse.specs.Classes.{item_at, Items, nothing, is_negated, items_start}
use Rattle.hs_parse.specs.Tokens.{Token, code_point, token, bracket, made_by, made_at, closed, unclosed, refused, TokenAt, formed, bracketed, Next, now, skipped}
use Rattle.hs_parse.specs.Points.{test_of, passes_point, is_point_by, AreTests, formed as of_form, bracketed as of_class, AreRanges, AddsPoints, ArePoints}
use Rattle.hs_parse.specs.PointReading.{IsPoint, HavePoints, HaveItems, AreClassPoints}
use Rattle.hs_parse.proofs.ClassLemmas.{goes_on, one_items, items_last, any_last}
use Rattle.hs_parse.proofs.TokenLemmas.{token_takes}
use Rattle.hs_parse.proofs.RangeLemmas.{ranges_read, one_list, same_test}

-- the token that is next begins at its start
pub next_token : {text : List ℕ} {s start t : Spot} {made : Token} → Next text s start made t → TokenAt text start made t
next_token (now p) = p
next_token (skipped e there) = next_token there

-- the form of a class
bracket_form : (mode : Mode) (at : ℕ) (f : Form) → made_by mode at f ≡ bracket → f ≡ form.Bracket
bracket_form mode at form.End e = absurd cc
bracket_form mode at (form.Skipped behind n) e = absurd cc
bracket_form mode at (form.Setting behind n) e = absurd cc
bracket_form mode at (form.Opening inside n) e = absurd cc
bracket_form mode at form.Closing e = absurd cc
bracket_form mode at form.Bar e = absurd cc
bracket_form mode at form.Any e = absurd cc
bracket_form mode at (form.Character code n) e = absurd cc
bracket_form mode at (form.Class named negated n) e = absurd cc
bracket_form mode at form.Bracket e = refl
bracket_form mode at (form.Assert here n) e = absurd cc
bracket_form mode at (form.Quantifier least greatest possessive n) e = absurd cc
bracket_form mode at (form.Refused reason) e = absurd cc

bracket_there : (text : List ℕ) (s : Spot) → made_at text s ≡ bracket → form_of text s ≡ form.Bracket
unfolding made_at
bracket_there text s e = bracket_form s.mode s.place (form_of text s) e

-- a form of one code point has a test
pub record HasTest (mode : Mode) (f : Form) : Type 0 where
  pub test : Test
  pub is : test_of mode f ≡ Some test

point_form : (mode behind : Mode) (at n : ℕ) (f : Form) → made_by mode at f ≡ token code_point behind n → HasTest mode f
point_form mode behind at n form.End e = absurd cc
point_form mode behind at n (form.Skipped after k) e = absurd cc
point_form mode behind at n (form.Setting after k) e = absurd cc
point_form mode behind at n (form.Opening inside k) e = absurd cc
point_form mode behind at n form.Closing e = absurd cc
point_form mode behind at n form.Bar e = absurd cc
point_form mode behind at n form.Any e = record { test = _; is = refl }
point_form mode behind at n (form.Character code k) e = record { test = _; is = refl }
point_form mode behind at n (form.Class named negated k) e = record { test = _; is = refl }
point_form mode behind at n form.Bracket e = absurd cc
point_form mode behind at n (form.Assert here k) e = absurd cc
point_form mode behind at n (form.Quantifier least greatest possessive k) e = absurd cc
point_form mode behind at n (form.Refused reason) e = absurd cc

point_there : (text : List ℕ) (s : Spot) (behind : Mode) (n : ℕ) → made_at text s ≡ token code_point behind n → HasTest s.mode (form_of text s)
unfolding made_at
point_there text s behind n e = point_form s.mode behind s.place n (form_of text s) e

-- the tests of a token of one code point
pub record TestsRead (text : List ℕ) (s : Spot) : Type 0 where
  pub negated : Bool
  pub tests : List Test
  pub there : AreTests text s negated tests

pub tests_read : {text : List ℕ} {s t : Spot} {made : Token} → TokenAt text s made t → made ≡ code_point → TestsRead text s
tests_read {text = text} {s = s} (formed {made = made} {mode = mode} {length = n} e) same =
    let found = point_there text s mode n (e ∙ ap (λ (x : Token). token x mode n) same) in
    record { negated = _; tests = _; there = of_form found.is }
tests_read {text = text} {s = s} (bracketed e (closed items f)) same =
    record { negated = _; tests = _; there = of_class (bracket_there text s e) items f }
tests_read (bracketed e (unclosed items f)) same = absurd cc
tests_read (bracketed e (refused items f)) same = absurd cc

-- the code points of one
pub record PointsRead (text : List ℕ) (s : Spot) : Type 0 where
  pub ranges : List (ℕ × ℕ)
  pub there : ArePoints text s ranges

pub points_read : {text : List ℕ} {s t : Spot} {made : Token} → TokenAt text s made t → made ≡ code_point → PointsRead text s
points_read p same =
    let tests = tests_read p same in
    let set = ranges_read (is_point_by tests.negated tests.tests) in
    record { ranges = set.ranges; there = record { negated = tests.negated; tests = tests.tests; there = tests.there; are = set.are } }

-- tests at a spot are the same in two readings
record AreSameTests (n m : Bool) (ts us : List Test) : Type 0 where
  pub negated : n ≡ m
  pub tests : ts ≡ us

no_class_test : (mode : Mode) (f : Form) (test : Test) → f ≡ form.Bracket → test_of mode f ≡ Some test → ⊥
no_class_test mode f test e is = let bad : None ≡ Some test = sym (ap (test_of mode) e) ∙ is in cc

some_same : {o : Option Test} {a b : Test} → o ≡ Some a → o ≡ Some b → a ≡ b
some_same e f = let both = sym e ∙ f in cc

one_tests : {text : List ℕ} {s : Spot} {n m : Bool} {ts us : List Test} → AreTests text s n ts → AreTests text s m us → AreSameTests n m ts us
one_tests (of_form e) (of_form f) = record { negated = refl; tests = ap (λ (t : Test). t ∷ []) (some_same e f) }
one_tests {text = text} {s = s} (of_form {test = test} e) (of_class f items g) = absurd (no_class_test s.mode (form_of text s) test f e)
one_tests {text = text} {s = s} (of_class e items f) (of_form {test = test} g) = absurd (no_class_test s.mode (form_of text s) test e g)
one_tests (of_class e items f) (of_class g others h) =
    let same = one_items items (ap goes_on f) others (ap goes_on h) in record { negated = refl; tests = same.tests }

one_points : {text : List ℕ} {s : Spot} {xs ys : List (ℕ × ℕ)} → ArePoints text s xs → ArePoints text s ys → xs ≡ ys
one_points a b =
    let same = one_tests a.there b.there in
    one_list
    (λ c. ap (λ x. is_point_by x a.tests c) same.negated ∙ ap (λ (ts : List Test). is_point_by b.negated ts c) same.tests)
    a.are b.are

-- there is one set of code points at a spot
pub moved_points : {text : List ℕ} {s r : Spot} {xs ys : List (ℕ × ℕ)} → s ≡ r → ArePoints text s xs → ArePoints text r ys → xs ≡ ys
moved_points {text = text} {ys = ys} e a b = one_points a (subst (λ (x : Spot). ArePoints text x ys) (sym e) b)

-- an item that can't go on
stops_here : (i : Item) → ((test : Test) (end : ℕ) → i ≡ item.Bytes test end → ⊥) → goes_on i ≡ false
stops_here item.End h = refl
stops_here item.Close h = refl
stops_here (item.Bytes test end) h = absurd (h test end refl)
stops_here (item.Refused refusal) h = refl

-- the code points of a form
pub form_set : (text : List ℕ) (s : Spot) (test : Test) (o : Option Test) (ranges : List (ℕ × ℕ)) →
    o ≡ test_of s.mode (form_of text s) → o ≡ Some test → AreRanges (is_point_by false (test ∷ [])) ranges → ArePoints text s ranges
form_set text s test o ranges e f are =
    record { negated = false; tests = test ∷ []; there = of_form (sym e ∙ f); are = are }

-- a class is all that has no test
pub record IsClosed (text : List ℕ) (s : Spot) : Type 0 where
  pub form : form_of text s ≡ form.Bracket
  pub tests : List Test
  pub close : ℕ
  pub items : Items text s.mode (items_start text s.place) (items_start text s.place) tests close
  pub stop : item_at text s.mode (items_start text s.place) close ≡ item.Close

closed_class : {text : List ℕ} {s : Spot} {n : Bool} {ts : List Test} → AreTests text s n ts → test_of s.mode (form_of text s) ≡ None → IsClosed text s
closed_class (of_form e) none = absurd (let bad = sym e ∙ none in cc)
closed_class (of_class e items f) none = record { form = e; tests = _; close = _; items = items; stop = f }

-- the code points of a class
pub class_set : (text : List ℕ) (s : Spot) (o : Option Test) (ranges : List (ℕ × ℕ)) →
    IsPoint text s → o ≡ test_of s.mode (form_of text s) → o ≡ None → AreClassPoints text s.mode s.place ranges → ArePoints text s ranges
class_set text s o ranges (t, p) e f are =
    let there = closed_class (tests_read p refl).there (sym e ∙ f) in
    let same = one_items are.items (stops_here _ are.stop) there.items (ap goes_on there.stop) in
    let stop = ap (item_at text s.mode (items_start text s.place)) same.end ∙ there.stop in
    record { negated = _; tests = _; there = of_class there.form are.items stop; are = are.are }

-- a token of one code point is some bytes
pub point_within : (text : List ℕ) (s : Spot) → s.place ≤ length text → IsPoint text s → s.place < length text
point_within text s h (t, p) =
    let takes = token_takes h p in
    let rises : s.place < t.place = takes.rises in
    omega (arith, rises, takes.within)

-- no item is read yet
pub no_points : (text : List ℕ) (mode : Mode) (start : ℕ) (ranges : List (ℕ × ℕ)) → ranges ≡ [] → HavePoints text mode start ranges start
no_points text mode start ranges e =
    record { tests = []; items = nothing; same = λ c h. ap (λ rs. in_ranges rs c) e ∙ in_ranges-nil c }

-- one item more
pub more_points :
    (text : List ℕ) (mode : Mode) (start here end : ℕ) (test : Test) (old new : List (ℕ × ℕ)) →
    HavePoints text mode start old here → item_at text mode start here ≡ item.Bytes test end →
    AddsPoints (passes_point test) old new → HavePoints text mode start new end
more_points text mode start here end test old new before e added = record {
  tests = _;
  items = items_last before.items e;
  same = λ c h.
      added c h
      ∙ ap (λ x. passes_point test c || x) (before.same c h)
      ∙ sym (any_last (λ (t : Test). passes_point t c) before.tests test);
}

-- the set of a form
pub form_ranges : (test : Test) (old new ranges : List (ℕ × ℕ)) → old ≡ [] → AddsPoints (passes_point test) old new →
    AreRanges (λ c. if false then not (in_ranges new c) else in_ranges new c) ranges → AreRanges (is_point_by false (test ∷ [])) ranges
form_ranges test old new ranges e added are =
    same_test (in_ranges new) (is_point_by false (test ∷ [])) ranges
    (λ c h. added c h ∙ ap (λ x. passes_point test c || x) (ap (λ rs. in_ranges rs c) e ∙ in_ranges-nil c)) are

-- the set of a class
pub class_ranges :
    (text : List ℕ) (mode : Mode) (at start : ℕ) (negated : Bool) (all ranges : List (ℕ × ℕ)) →
    start ≡ items_start text at → negated ≡ is_negated text at → HaveItems text mode start all →
    AreRanges (λ c. if negated then not (in_ranges all c) else in_ranges all c) ranges → AreClassPoints text mode at ranges
class_ranges text mode at start negated all ranges e f have are =
    let there = subst (λ x. HaveItems text mode x all) e have in
    let set = subst (λ b. AreRanges (λ c. if b then not (in_ranges all c) else in_ranges all c) ranges) f are in
    record {
      tests = there.points.tests;
      here = there.here;
      items = there.points.items;
      stop = there.stop;
      are =
          same_test (λ c. if is_negated text at then not (in_ranges all c) else in_ranges all c)
          (is_point_by (is_negated text at) there.points.tests) ranges
          (λ c h. ap (λ x. if is_negated text at then not x else x) (there.points.same c h)) set;
    }
