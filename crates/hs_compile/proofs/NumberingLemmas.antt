-- Literals that are given new numbers, node by node.
use mathlib.Core.Bool.{beq}
use Rattle.std.proofs.Common.{◌≡◌, ◌⊎◌, ℕ, zero, suc, ◌+◌, ◌<◌, ◌≤◌, ◌^◌, Bool, true, false, List, [], ◌∷◌, ◌++◌, length, map, Option, Some, None, slice_get, slice_set, replicate, Vec, Global, refl, sym, ap, subst, ◌∙◌, inl, inr, arith, length-set}
use Rattle.std.proofs.lemmas.Bool.{cases_eq, false≢true}
use Rattle.std.proofs.lemmas.List.{length-map, length-replicate}
use Rattle.std.proofs.lemmas.Option.{same_Some, slice_get_within}
use Rattle.hs_base.specs.declared.literal.LitByte.{LitByte}
use Rattle.hs_base.specs.LiteralView.{literal_byte, literal_bytes}
use Rattle.hs_base.specs.Literals.{LiteralByte}
use Rattle.hs_bits.specs.Marks.{is_marked}
use Rattle.hs_nodes.specs.Openings.{named_literal}
use Rattle.hs_nodes.specs.declared.table.Node.{Node}
use Rattle.hs_rose.proofs.ListLemmas.{get-behind, get-left, get-map, get-push}
use Rattle.hs_compile.specs.Arranging.{AreGiven, AreMarkedTo, AreRenumbered, GivesKind, GivesNumber, IsMore, IsOpening, IsRenamedNode, IsSameText, GivesNodes}
use Rattle.hs_compile.proofs.GraphListLemmas.{get-read, length-push}
use Rattle.hs_compile.proofs.RenamedLemmas.{named-as}

-- truth values that are compared

pub bools-same : (a b : Bool) → beq a b ≡ true → a ≡ b
bools-same true true is = refl
bools-same true false is = absurd (cc)
bools-same false true is = absurd (cc)
bools-same false false is = refl

pub bools-apart : (a b : Bool) → beq a b ≡ false → a ≡ b → ⊥
bools-apart true true not same = cc
bools-apart true false not same = cc
bools-apart false true not same = cc
bools-apart false false not same = cc

-- lists with one member written

after-set : {A : Type 0} (xs : List A) (x y z : A) (j k : ℕ) → (slice_get xs j ≡ Some z) ⊎ ((j ≡ k) × (y ≡ z)) → (slice_get (x ∷ xs) (suc j) ≡ Some z) ⊎ ((suc j ≡ suc k) × (y ≡ z))
after-set xs x y z j k (inl at) = inl at
after-set xs x y z j k (inr is) = inr (ap suc is.0, is.1)

-- a member of the list is one of those before, or the new one
pub set-get : {A : Type 0} (xs : List A) (k : ℕ) (y : A) (j : ℕ) (z : A) → slice_get (slice_set xs k y) j ≡ Some z → (slice_get xs j ≡ Some z) ⊎ ((j ≡ k) × (y ≡ z))
set-get [] k y j z at = inl at
set-get (x ∷ xs) zero y zero z at = inr (refl, same_Some y z at)
set-get (x ∷ xs) zero y (suc j) z at = inl at
set-get (x ∷ xs) (suc k) y zero z at = inl at
set-get (x ∷ xs) (suc k) y (suc j) z at = after-set xs x y z j k (set-get xs k y j z at)

pub set-there : {A : Type 0} (xs : List A) (k : ℕ) (y : A) → k < length xs → slice_get (slice_set xs k y) k ≡ Some y
set-there [] k y low = absurd (omega (arith, low))
set-there (x ∷ xs) zero y low = refl
set-there (x ∷ xs) (suc k) y low = set-there xs k y (omega (arith, low))

pub set-others : {A : Type 0} (xs : List A) (k : ℕ) (y : A) (j : ℕ) → (j ≡ k → ⊥) → slice_get (slice_set xs k y) j ≡ slice_get xs j
set-others [] k y j apart = refl
set-others (x ∷ xs) zero y zero apart = absurd (apart refl)
set-others (x ∷ xs) zero y (suc j) apart = refl
set-others (x ∷ xs) (suc k) y zero apart = refl
set-others (x ∷ xs) (suc k) y (suc j) apart = set-others xs k y j (λ same. apart (ap suc same))

-- more members

pub no-more : {A : Type 0} (xs : List A) → IsMore xs xs
no-more xs = record { kept = λ k x at. at; longer = omega arith }

pub one-more : {A : Type 0} (xs : List A) (y : A) → IsMore xs (xs ++ y ∷ [])
one-more xs y = record { kept = λ k x at. get-left xs (y ∷ []) k x at; longer = omega (arith, length-push xs y) }

pub more-then : {A : Type 0} (xs ys zs : List A) → IsMore xs ys → IsMore ys zs → IsMore xs zs
more-then xs ys zs first second = record { kept = λ k x at. second.kept k x (first.kept k x at); longer = omega (arith, first.longer, second.longer) }

pub text-kept : (olds news mores : List (List LiteralByte)) (old new : ℕ) → IsMore news mores → IsSameText olds news old new → IsSameText olds mores old new
text-kept olds news mores old new more same = record { text = same.text; was = same.was; is = more.kept new same.text same.is }

pub renamed-kept : (olds news mores : List (List LiteralByte)) (node own : Node) → IsMore news mores → IsRenamedNode olds news node own → IsRenamedNode olds mores node own
renamed-kept olds news mores node own more is = record {
  parent = is.parent;
  start = is.start;
  end = is.end;
  kind = record { new = is.kind.new; is = is.kind.is; same = λ old names. text-kept olds news mores old is.kind.new more (is.kind.same old names) };
}

-- no numbers are given

abbrev ungiven : Option ℕ
ungiven = None

none-there : (count k new : ℕ) → slice_get (replicate count ungiven) k ≡ Some (Some new) → ⊥
none-there zero k new at = absurd (cc)
none-there (suc count) zero new at = absurd (let e : ungiven ≡ Some new = same_Some ungiven (Some new) at in cc)
none-there (suc count) (suc k) new at = none-there count k new at

pub none-given : (olds news : List (List LiteralByte)) (numbers : List (Option ℕ)) → numbers ≡ replicate (length olds) ungiven → ((new : ℕ) (text : List LiteralByte) → slice_get news new ≡ Some text → (old : ℕ) × (slice_get olds old ≡ Some text)) → AreGiven olds news numbers
none-given olds news numbers none texts = record {
  count = ap length none ∙ length-replicate (length olds) ungiven;
  given = λ old new at. absurd (none-there (length olds) old new (ap (λ ns. slice_get ns old) (sym none) ∙ at));
  texts = texts;
}

-- a number that is given
pub number-known : (olds news : List (List LiteralByte)) (numbers : List (Option ℕ)) (old new : ℕ) → AreGiven olds news numbers → slice_get numbers old ≡ Some (Some new) → GivesNumber olds news news numbers old new
number-known olds news numbers old new given at = record { given = given; more = no-more news; same = given.given old new at }

-- one that is given now
number-put : (olds news : List (List LiteralByte)) (numbers : List (Option ℕ)) (old : ℕ) (text : List LiteralByte) → AreGiven olds news numbers → slice_get olds old ≡ Some text → GivesNumber olds news (news ++ text ∷ []) (slice_set numbers old (Some (length news))) old (length news)
number-put olds news numbers old text given was =
    let mores = news ++ text ∷ [] in
    let more = one-more news text in
    let own : IsSameText olds mores old (length news) = record { text = text; was = was; is = get-behind news text } in record {
      given = record {
        count = length-set numbers old (Some (length news)) ∙ given.count;
        given = λ other new at. elim (set-get numbers old (Some (length news)) other (Some new) at) [
          | inl before ↦ text-kept olds news mores other new more (given.given other new before)
          | inr is ↦
              let e : length news ≡ new = same_Some (length news) new is.1 in
              subst (λ n. IsSameText olds mores other n) e (subst (λ n. IsSameText olds mores n (length news)) (sym is.0) own)
        ];
        texts = λ new other at. elim (get-push news text new other at) [
          | inl before ↦ given.texts new other before
          | inr is ↦ (old, was ∙ ap Some is.1)
        ];
      };
      more = more;
      same = own;
    }

map-push : (xs : List (Vec LitByte Global)) (x : Vec LitByte Global) → map literal_bytes (xs ++ x ∷ []) ≡ map literal_bytes xs ++ literal_bytes x ∷ []
map-push [] x = refl
map-push (y ∷ xs) x = ap (λ ys. literal_bytes y ∷ ys) (map-push xs x)

pub number-new : (named lits lits' : List (Vec LitByte Global)) (numbers numbers' : List (Option ℕ)) (old new : ℕ) (own copy : Vec LitByte Global) → AreGiven (map literal_bytes named) (map literal_bytes lits) numbers → slice_get named old ≡ Some own → copy.items ≡ own.items → lits' ≡ lits ++ copy ∷ [] → new ≡ length lits →
    numbers' ≡ slice_set numbers old (Some new) → GivesNumber (map literal_bytes named) (map literal_bytes lits) (map literal_bytes lits') numbers' old new
number-new named lits lits' numbers numbers' old new own copy given there same lits_are new_is numbers_are =
    let olds = map literal_bytes named in
    let news = map literal_bytes lits in
    let text : List LiteralByte = literal_bytes own in
    let grown : news ++ text ∷ [] ≡ map literal_bytes lits' =
    ap (λ xs. news ++ map literal_byte xs ∷ []) (sym same) ∙ (sym (map-push lits copy) ∙ ap (map literal_bytes) (sym lits_are)) in
    let count : length news ≡ new = length-map lits literal_bytes ∙ sym new_is in
    let put : slice_set numbers old (Some (length news)) ≡ numbers' = ap (λ n. slice_set numbers old (Some n)) count ∙ sym numbers_are in
    subst (λ n. GivesNumber olds news (map literal_bytes lits') numbers' old n) count
    (subst (λ ns. GivesNumber olds news (map literal_bytes lits') ns old (length news)) put
    (subst (λ ls. GivesNumber olds news ls (slice_set numbers old (Some (length news))) old (length news)) grown (number-put olds news numbers old text given (get-map literal_bytes named old own there))))

-- nodes, one after the other

pub none-taken : (olds news : List (List LiteralByte)) (numbers : List (Option ℕ)) (marks : List ℕ) (wanted : Bool) (nodes : List Node) → AreGiven olds news numbers → GivesNodes olds news news numbers marks wanted 0 nodes nodes
none-taken olds news numbers marks wanted nodes given = record {
  given = given;
  more = no-more news;
  nodes_are = record { count = refl; taken = λ k node own low. absurd (omega (arith, low)); passed = λ k apart. refl; ahead = λ k low. refl };
}

module _ (olds before news : List (List LiteralByte)) (numbers : List (Option ℕ)) (marks : List ℕ) (wanted : Bool) (n : ℕ) (nodes owns : List Node) (takes : GivesNodes olds before news numbers marks wanted n nodes owns) where
  -- the next node is still as it was
  pub next-node : (node : Node) → slice_get owns n ≡ Some node → slice_get nodes n ≡ Some node
  next-node node at = sym (takes.nodes_are.ahead n (omega arith)) ∙ at

  pub taken-passed : (is_marked marks n ≡ wanted → ⊥) → GivesNodes olds before news numbers marks wanted (n + 1) nodes owns
  taken-passed apart = record {
    given = takes.given;
    more = takes.more;
    nodes_are = record {
      count = takes.nodes_are.count;
      taken = λ k node own low is. elim (cases_eq k n) [
        | inl same ↦ absurd (apart (ap (is_marked marks) (sym same) ∙ is))
        | inr other ↦ takes.nodes_are.taken k node own (omega (arith, low, other)) is
      ];
      passed = takes.nodes_are.passed;
      ahead = λ k low. takes.nodes_are.ahead k (omega (arith, low));
    };
  }

  pub taken-more : (mores : List (List LiteralByte)) (numbers' : List (Option ℕ)) (owns' : List Node) (node own : Node) → is_marked marks n ≡ wanted → slice_get owns n ≡ Some node → GivesKind olds news mores numbers' node.kind own.kind → own.parent ≡ node.parent → own.start ≡ node.start → own.end ≡ node.end → owns' ≡ slice_set owns n own →
      GivesNodes olds before mores numbers' marks wanted (n + 1) nodes owns'
  taken-more mores numbers' owns' node own is_wanted at gives parent start end written =
      subst (λ os. GivesNodes olds before mores numbers' marks wanted (n + 1) nodes os) (sym written) (record {
        given = gives.given;
        more = more-then before news mores takes.more gives.more;
        nodes_are = record {
          count = length-set owns n own ∙ takes.nodes_are.count;
          taken = taken;
          passed = λ k apart. set-others owns n own k (λ same. apart (ap (is_marked marks) same ∙ is_wanted)) ∙ takes.nodes_are.passed k apart;
          ahead = λ k low. set-others owns n own k (λ same. absurd (omega (arith, low, same))) ∙ takes.nodes_are.ahead k (omega (arith, low));
        };
      })
    where
      was : slice_get nodes n ≡ Some node
      was = next-node node at

      taken : (k : ℕ) (x y : Node) → k < n + 1 → is_marked marks k ≡ wanted → slice_get nodes k ≡ Some x → slice_get (slice_set owns n own) k ≡ Some y → IsRenamedNode olds mores x y
      taken k x y low is there now = elim (cases_eq k n) [
        | inl same ↦
            let e : node ≡ x = same_Some node x (sym was ∙ (ap (slice_get nodes) (sym same) ∙ there)) in
            let f : own ≡ y = same_Some own y (sym (set-there owns n own (slice_get_within owns n node at)) ∙ (ap (slice_get (slice_set owns n own)) (sym same) ∙ now)) in
            subst (λ z. IsRenamedNode olds mores z y) e (subst (λ z. IsRenamedNode olds mores node z) f (record { parent = parent; start = start; end = end; kind = gives.renamed }))
        | inr other ↦
            renamed-kept olds news mores x y gives.more (takes.nodes_are.taken k x y (omega (arith, low, other)) is there (sym (set-others owns n own k other) ∙ now))
      ]

-- both passes
module _ (olds firsts news : List (List LiteralByte)) (numbers numbers' : List (Option ℕ)) (marks : List ℕ) (nodes middle owns : List Node) (first : GivesNodes olds [] firsts numbers marks false (length nodes) nodes middle) (second : GivesNodes olds firsts news numbers' marks true (length middle) middle owns) where
  renamed-node : (k : ℕ) (node own : Node) (b : Bool) → is_marked marks k ≡ b → slice_get nodes k ≡ Some node → slice_get owns k ≡ Some own → IsRenamedNode olds news node own
  renamed-node k node own true is there now =
      let below : k < length nodes = slice_get_within nodes k node there in
      second.nodes_are.taken k node own (omega (arith, below, first.nodes_are.count)) is
      (first.nodes_are.passed k (λ not. false≢true (sym not ∙ is)) ∙ there) now
  renamed-node k node own false is there now =
      let apart = second.nodes_are.passed k (λ not. false≢true (sym is ∙ not)) in
      renamed-kept olds firsts news node own second.more (first.nodes_are.taken k node own (slice_get_within nodes k node there) is there (sym apart ∙ now))

  name-others : (k number : ℕ) (own : Node) → slice_get owns k ≡ Some own → is_marked marks k ≡ false → named_literal own.kind ≡ Some number → number < length firsts
  name-others k number own now is names =
      let (node, there) = get-read nodes k (omega (arith, slice_get_within owns k own now, second.nodes_are.count, first.nodes_are.count)) in
      let apart = second.nodes_are.passed k (λ not. false≢true (sym is ∙ not)) in
      let renamed = (first.nodes_are.taken k node own (slice_get_within nodes k node there) is there (sym apart ∙ now)).kind in
      let (old, was, new) = named-as node.kind renamed.new number (ap named_literal (sym renamed.is) ∙ names) in
      let text = renamed.same old was in
      subst (λ n. n < length firsts) new (slice_get_within firsts renamed.new text.text text.is)

  pub both-taken : (others : ℕ) → others ≡ length firsts → length news < 2 ^ 32 → AreRenumbered olds news marks others nodes owns
  both-taken others same few = record {
    renamed = record {
      count = second.nodes_are.count ∙ first.nodes_are.count;
      each = λ k node own there now. renamed-node k node own (is_marked marks k) refl there now;
    };
    texts = second.given.texts;
    few = few;
    within = omega (arith, same, second.more.longer);
    named = λ k number own now is names. omega (arith, same, name-others k number own now is names);
  }

-- nodes that are marked

pub none-marked : (nodes : List Node) (marks : List ℕ) → length nodes ≤ Rattle.hs_bits.specs.Marks.mark_room marks → AreMarkedTo nodes 0 marks
none-marked nodes marks room = record { room = room; each = λ k node low. absurd (omega (arith, low)) }

pub one-marked : (nodes : List Node) (n : ℕ) (marks marks' : List ℕ) (value : Bool) (node : Node) → Rattle.hs_compile.specs.Arranging.AreParentsFirst nodes → AreMarkedTo nodes n marks → slice_get nodes n ≡ Some node → (value ≡ true → IsOpening marks node) → length marks' ≡ length marks → is_marked marks' n ≡ value →
    ((k : ℕ) → (k ≡ n → ⊥) → is_marked marks' k ≡ is_marked marks k) → AreMarkedTo nodes (n + 1) marks'
one-marked nodes n marks marks' value node earlier are at opens room put others = record {
  room = omega (arith, are.room, room);
  each = λ k own low there is. elim (cases_eq k n) [
    | inl same ↦
        let e : node ≡ own = same_Some node own (sym at ∙ (ap (slice_get nodes) (sym same) ∙ there)) in
        let own_opens = subst (λ x. IsOpening marks x) e (opens (sym put ∙ (ap (is_marked marks') (sym same) ∙ is))) in
        kept k own (omega (arith, same)) there own_opens
    | inr other ↦ kept k own (omega (arith, low)) there (are.each k own (omega (arith, low, other)) there (sym (others k other) ∙ is))
  ];
}
  where
    kept : (k : ℕ) (own : Node) → k ≤ n → slice_get nodes k ≡ Some own → IsOpening marks own → IsOpening marks' own
    kept k own low there opens = record {
      first = opens.first;
      behind = λ p parent. others p (λ same. absurd (omega (arith, same, low, earlier k p own there parent))) ∙ opens.behind p parent;
    }
