-- Items in a row, and chains in a row.
use Rattle.std.proofs.Common.{◌≡◌, ℕ, true, false, List, [], ◌∷◌, ◌++◌, map, Option, Some, None, refl, sym, ap, ◌∙◌, subst, if◌then◌else◌}
use Rattle.std.specs.Option.{option_map, option_or}
use Rattle.std.proofs.lemmas.List.{append_assoc, append-nil, map-append}
use Rattle.hs_base.specs.Chains.{Part, Piece, part_of, pieces_of, chains_of, alternatives_of, alternatives_of_all}
use Rattle.hs_base.specs.Items.{items_of, is_once}
use Rattle.hs_base.specs.Trees.{Tree, Trees, more, repeat}
use Rattle.hs_expr.specs.Counts.{capped}
use Rattle.hs_expr.specs.Waiting.{chains_of_all, cut_from}
use Rattle.hs_support.specs.PieceCounts.{first_excess, first_excess_of}
use Rattle.hs_support.specs.Waiting.{excess_behind}
use Rattle.hs_support.specs.Walking.{Leads, Takes, PassesItems}
use Rattle.hs_support.specs.declared.walk.Walk.{Walk}
use Rattle.hs_support.proofs.WalkLemmas.{or-assoc, or-none}

-- a walk through all items stands there, with these still to come
abbrev pub PassesUntil : Walk → List Tree → (now : Walk) → List Tree → Type 0
PassesUntil walk all now rest =
    (parts : List Part) (answer : Option ℕ) → Leads now (map part_of rest ++ parts) answer → Leads walk (map part_of all ++ parts) answer

pub passes-more : (walk now next : Walk) (all first rest : List Tree) →
    PassesUntil walk all now (first ++ rest) → PassesItems now first next → PassesUntil walk all next rest
passes-more walk now next all first rest until passes parts answer leads =
    let seam : map part_of (first ++ rest) ++ parts ≡ map part_of first ++ (map part_of rest ++ parts) =
    ap (λ front. front ++ parts) (map-append part_of first rest) ∙ append_assoc (map part_of first) (map part_of rest) parts in
    until parts answer (subst (λ ps. Leads now ps answer) (sym seam) (passes (map part_of rest ++ parts) answer leads))

-- what is one item, as it stands, is a part
pub item-passes : (walk next : Walk) (t : Tree) → items_of t ≡ t ∷ [] → Takes walk (part_of t) next → PassesItems walk (items_of t) next
item-passes walk next t same takes parts answer leads =
    subst (λ items. Leads walk (map part_of items ++ parts) answer) (sym same) (takes parts answer leads)

pub once-items : (body : Tree) (least : ℕ) (greatest : Option ℕ) → is_once least greatest ≡ true →
    items_of body ≡ items_of (repeat body least greatest)
once-items body least greatest is = ap (λ b. if b then items_of body else repeat body least greatest ∷ []) (sym is)

pub not_once-items : (body : Tree) (least : ℕ) (greatest : Option ℕ) → is_once least greatest ≡ false →
    items_of (repeat body least greatest) ≡ repeat body least greatest ∷ []
not_once-items body least greatest is = ap (λ b. if b then items_of body else repeat body least greatest ∷ []) is

-- a walk from the start to the end finds the first excess of the chain
pub from-start : (first : Walk) (items : List Tree) (answer : Option ℕ) →
    first.found ≡ None → first.count ≡ 0 → first.run ≡ 0 → Leads first (map part_of items ++ []) answer →
    answer ≡ option_map capped (first_excess_of (pieces_of items ∷ []))
from-start first items answer found count run leads =
    let all : option_or first.found (excess_behind [] (cut_from [] (map part_of items ++ []))) ≡ answer = leads [] (sym run) [] (sym count) in
    sym all
    ∙ ap (λ f. option_or f (excess_behind [] (cut_from [] (map part_of items ++ [])))) found
    ∙ ap (λ parts. excess_behind [] (cut_from [] parts)) (append-nil (map part_of items))
    ∙ ap (option_map capped) (sym (or-none (first_excess (pieces_of items))))

-- the first excess of chains in a row

append-excess : (xs ys : List (List Piece)) → first_excess_of (xs ++ ys) ≡ option_or (first_excess_of xs) (first_excess_of ys)
append-excess [] ys = refl
append-excess (x ∷ xs) ys =
    ap (λ rest. option_or (first_excess x) rest) (append-excess xs ys)
    ∙ sym (or-assoc (first_excess x) (first_excess_of xs) (first_excess_of ys))

pub more-excess : (item : Tree) (items : Trees) →
    first_excess_of (chains_of_all (more item items)) ≡ option_or (first_excess_of (chains_of item)) (first_excess_of (chains_of_all items))
more-excess item items =
    ap first_excess_of (map-append (λ u. pieces_of (items_of u)) (alternatives_of item) (alternatives_of_all items))
    ∙ append-excess (chains_of item) (chains_of_all items)

-- the first of the alternatives has one, or the others have the first
pub found-first : (found : ℕ) (a b : Option ℕ) → Some found ≡ option_map capped a → Some found ≡ option_map capped (option_or a b)
found-first found None b is = cc
found-first found (Some n) b is = is

pub none-first : (a b : Option ℕ) → None ≡ option_map capped a → option_map capped (option_or a b) ≡ option_map capped b
none-first None b is = refl
none-first (Some n) b is = cc
