-- The items that parts are made of: no stage of the split loses, adds or moves one.
use Rattle.std.proofs.Common.{◌≡◌, ℕ, zero, suc, ◌/◌, Bool, true, false, List, [], ◌∷◌, ◌++◌, length, map, take, drop, Option, Some, None, refl, sym, ap, ◌∙◌}
use Rattle.std.proofs.lemmas.List.{append_assoc, append-nil, map-append, take-append-drop}
use Rattle.hs_base.specs.Lists.{Each}
use Rattle.hs_base.specs.Trees.{Tree, empty, class, points, assert, cat, alt, repeat, IsProper}
use Rattle.hs_base.specs.Literals.{LiteralByte, literal_set, literal_of}
use Rattle.hs_base.specs.Chains.{Part, literal, ordinary, long, part_of, class_part, repeat_part, is_long, with_literal, with_ordinary, runs_joined, runs_cut, ordinary_joined, rest_of_run, cut_times, cut_run}
use Rattle.hs_pieces.proofs.ExactLemmas.{literal-exact}

-- the items of a run
abbrev pub classes : List LiteralByte → List Tree
classes xs = map (λ x. class (literal_set x)) xs

-- the items of a part
abbrev pub items_in : Part → List Tree
items_in (literal xs) = classes xs
items_in (ordinary ts) = ts
items_in (long set least greatest) = repeat (class set) least greatest ∷ []

-- the items of parts
abbrev pub items_within : List Part → List Tree
items_within [] = []
items_within (part ∷ parts) = items_in part ++ items_within parts

classes-append : (xs ys : List LiteralByte) (rest : List Tree) → classes (xs ++ ys) ++ rest ≡ classes xs ++ (classes ys ++ rest)
classes-append xs ys rest =
    ap (λ front. front ++ rest) (map-append (λ x. class (literal_set x)) xs ys) ∙ append_assoc (classes xs) (classes ys) rest

with_literal-same : (xs : List LiteralByte) (parts : List Part) → items_within (with_literal xs parts) ≡ classes xs ++ items_within parts
with_literal-same xs [] = refl
with_literal-same xs (literal ys ∷ parts) = classes-append xs ys (items_within parts)
with_literal-same xs (ordinary ts ∷ parts) = refl
with_literal-same xs (long set least greatest ∷ parts) = refl

pub runs_joined-same : (parts : List Part) → items_within (runs_joined parts) ≡ items_within parts
runs_joined-same [] = refl
runs_joined-same (literal xs ∷ parts) =
    with_literal-same xs (runs_joined parts) ∙ ap (λ rest. classes xs ++ rest) (runs_joined-same parts)
runs_joined-same (ordinary ts ∷ parts) = ap (λ rest. ts ++ rest) (runs_joined-same parts)
runs_joined-same (long set least greatest ∷ parts) =
    ap (λ rest. repeat (class set) least greatest ∷ rest) (runs_joined-same parts)

rest-same : (xs : List LiteralByte) → items_within (rest_of_run xs) ≡ classes xs
rest-same [] = refl
rest-same (x ∷ []) = refl
rest-same (x ∷ y ∷ xs) = append-nil (classes (x ∷ y ∷ xs))

cut_times-same : (n : ℕ) (xs : List LiteralByte) → items_within (cut_times n xs) ≡ classes xs
cut_times-same zero xs = rest-same xs
cut_times-same (suc n) xs =
    ap (λ rest. classes (take 32 xs) ++ rest) (cut_times-same n (drop 32 xs))
    ∙ sym (map-append (λ x. class (literal_set x)) (take 32 xs) (drop 32 xs))
    ∙ ap classes (take-append-drop 32 xs)

within-append : (parts others : List Part) → items_within (parts ++ others) ≡ items_within parts ++ items_within others
within-append [] others = refl
within-append (part ∷ parts) others =
    ap (λ rest. items_in part ++ rest) (within-append parts others)
    ∙ sym (append_assoc (items_in part) (items_within parts) (items_within others))

pub runs_cut-same : (parts : List Part) → items_within (runs_cut parts) ≡ items_within parts
runs_cut-same [] = refl
runs_cut-same (literal xs ∷ parts) =
    within-append (cut_run xs) (runs_cut parts)
    ∙ ap (λ front. front ++ items_within (runs_cut parts)) (cut_times-same (length xs / 32) xs)
    ∙ ap (λ rest. classes xs ++ rest) (runs_cut-same parts)
runs_cut-same (ordinary ts ∷ parts) = ap (λ rest. ts ++ rest) (runs_cut-same parts)
runs_cut-same (long set least greatest ∷ parts) =
    ap (λ rest. repeat (class set) least greatest ∷ rest) (runs_cut-same parts)

with_ordinary-same : (ts : List Tree) (parts : List Part) → items_within (with_ordinary ts parts) ≡ ts ++ items_within parts
with_ordinary-same ts [] = refl
with_ordinary-same ts (literal xs ∷ parts) = refl
with_ordinary-same ts (ordinary us ∷ parts) = append_assoc ts us (items_within parts)
with_ordinary-same ts (long set least greatest ∷ parts) = refl

pub ordinary_joined-same : (parts : List Part) → items_within (ordinary_joined parts) ≡ items_within parts
ordinary_joined-same [] = refl
ordinary_joined-same (literal xs ∷ parts) = ap (λ rest. classes xs ++ rest) (ordinary_joined-same parts)
ordinary_joined-same (ordinary ts ∷ parts) =
    with_ordinary-same ts (ordinary_joined parts) ∙ ap (λ rest. ts ++ rest) (ordinary_joined-same parts)
ordinary_joined-same (long set least greatest ∷ parts) =
    ap (λ rest. repeat (class set) least greatest ∷ rest) (ordinary_joined-same parts)

class_part-same : (set : List Bool) (byte : Option LiteralByte) → length set ≡ 256 → literal_of set ≡ byte →
    items_in (class_part set byte) ≡ class set ∷ []
class_part-same set None size is = refl
class_part-same set (Some x) size is = ap (λ s. class s ∷ []) (sym (literal-exact set x size is))

repeat_part-same : (set : List Bool) (least : ℕ) (greatest : Option ℕ) (long : Bool) →
    items_in (repeat_part set least greatest long) ≡ repeat (class set) least greatest ∷ []
repeat_part-same set least greatest true = refl
repeat_part-same set least greatest false = refl

-- an item is a part of its own
part_of-same : (t : Tree) → IsProper t → items_in (part_of t) ≡ t ∷ []
part_of-same empty proper = refl
part_of-same (class set) proper = class_part-same set (literal_of set) proper refl
part_of-same (points ranges) proper = refl
part_of-same (assert assertion) proper = refl
part_of-same (cat items) proper = refl
part_of-same (alt items) proper = refl
part_of-same (repeat empty least greatest) proper = refl
part_of-same (repeat (class set) least greatest) proper = repeat_part-same set least greatest (is_long least greatest)
part_of-same (repeat (points ranges) least greatest) proper = refl
part_of-same (repeat (assert assertion) least greatest) proper = refl
part_of-same (repeat (cat items) least greatest) proper = refl
part_of-same (repeat (alt items) least greatest) proper = refl
part_of-same (repeat (repeat body n m) least greatest) proper = refl

parts-same : (items : List Tree) → Each IsProper items → items_within (map part_of items) ≡ items
parts-same [] proper = refl
parts-same (t ∷ ts) proper =
    ap (λ front. front ++ items_within (map part_of ts)) (part_of-same t proper.0)
    ∙ ap (λ rest. t ∷ rest) (parts-same ts proper.1)

-- the parts of items in a row, as the pieces are made of them
abbrev pub parts_of : List Tree → List Part
parts_of items = ordinary_joined (runs_cut (runs_joined (map part_of items)))

-- they have exactly these items, in order
pub parts_of-same : (items : List Tree) → Each IsProper items → items_within (parts_of items) ≡ items
parts_of-same items proper =
    ordinary_joined-same (runs_cut (runs_joined (map part_of items)))
    ∙ runs_cut-same (runs_joined (map part_of items))
    ∙ runs_joined-same (map part_of items)
    ∙ parts-same items proper
