-- One more item, over the lists of a split.
use Rattle.std.proofs.Common.{◌≡◌, ℕ, ◌+◌, ◌<◌, ◌≤◌, Bool, List, [], ◌∷◌, ◌++◌, length, map, slice_get, Option, Some, Vec, Global, refl, sym, ap, ◌∙◌, arith}
use Rattle.std.proofs.lemmas.List.{map-append, length-map, length-append}
use Rattle.hs_base.specs.ByteSets.{members}
use Rattle.hs_base.specs.Chains.{Part, literal, ordinary, long, rest_of_run}
use Rattle.hs_base.specs.LiteralView.{literal_byte}
use Rattle.hs_base.specs.Literals.{literal_set}
use Rattle.hs_base.specs.Trees.{Tree, class}
use Rattle.hs_base.specs.declared.byte_set.ByteSet.{ByteSet}
use Rattle.hs_base.specs.declared.literal.LitByte.{LitByte}
use Rattle.hs_expr.specs.Meaning.{tree_of}
use Rattle.hs_expr.specs.declared.expr.Expr.{Expr}
use Rattle.hs_expr.specs.declared.expr.Expr.TheVariants.{Class}
use Rattle.hs_expr.specs.Waiting.{cut_from}
use Rattle.hs_expr.proofs.RunLemmas.{cut_from-full, cut_from-ordinary, cut_from-long, cut_from-none}
use Rattle.hs_expr.proofs.TreeLemmas.{tree_of-Class}
use Rattle.hs_pieces.specs.Meaning.{plain_piece}
use Rattle.hs_pieces.specs.Splitting.{closed, pieces_of_cut}
use Rattle.hs_pieces.specs.declared.piece.Piece.{Piece}
use Rattle.hs_pieces.specs.declared.piece.Piece.TheVariants.{Lit, Rep}
use Rattle.hs_pieces.proofs.PartLemmas.{literal-complete, long-complete, ordinary-added, rest-literal}

-- what waits is nothing
nothing : (left : List Expr) (run : List LitByte) (parts : List Part) → left ≡ [] → run ≡ [] →
    pieces_of_cut (map tree_of left) (cut_from (map literal_byte run) parts) ≡ pieces_of_cut [] (cut_from [] parts)
nothing left run parts first second = rw (first, second) refl

-- a run becomes a full literal
pub full-complete : (before mid last : List Piece) (items left : List Expr) (run left_run : List LitByte) (full : Vec LitByte Global) (x : LitByte) (parts : List Part) →
    map plain_piece mid ≡ map plain_piece before ++ closed (map tree_of items) → left ≡ [] → left_run ≡ [] →
    full.items ≡ run ++ x ∷ [] → length run + 1 ≡ 32 → last ≡ mid ++ Lit full ∷ [] →
    map plain_piece last ++ pieces_of_cut (map tree_of left) (cut_from (map literal_byte left_run) parts)
    ≡ map plain_piece before ++ pieces_of_cut (map tree_of items) (cut_from (map literal_byte run) (literal (literal_byte x ∷ []) ∷ parts))
full-complete before mid last items left run left_run full x parts closes empty ended all size more =
    let bytes : map literal_byte full.items ≡ map literal_byte run ++ literal_byte x ∷ [] =
    ap (map literal_byte) all ∙ map-append literal_byte run (x ∷ []) in
    let longer : length (map literal_byte run ++ literal_byte x ∷ []) ≡ length (map literal_byte run) + 1 =
    length-append (map literal_byte run) (literal_byte x ∷ []) in
    let same : length (map literal_byte run) ≡ length run = length-map run literal_byte in
    let is : length (map literal_byte run ++ literal_byte x ∷ []) ≡ 32 = omega arith in
    ap (λ pieces. map plain_piece last ++ pieces) (nothing left left_run parts empty ended)
    ∙ literal-complete (map plain_piece before) (map plain_piece mid) (map plain_piece last) (map tree_of items)
    (map literal_byte full.items) (cut_from [] parts) closes (ap (map plain_piece) more ∙ map-append plain_piece mid (Lit full ∷ []))
    ∙ ap (λ xs. map plain_piece before ++ pieces_of_cut (map tree_of items) (literal xs ∷ cut_from [] parts)) bytes
    ∙ ap (λ cut. map plain_piece before ++ pieces_of_cut (map tree_of items) cut)
    (sym (cut_from-full (map literal_byte run) (literal_byte x) parts is))

-- a run of two or more ends
pub run-complete : (before mid last : List Piece) (items left : List Expr) (run : Vec LitByte Global) (cut : List Part) →
    map plain_piece mid ≡ map plain_piece before ++ closed (map tree_of items) → left ≡ [] →
    1 < length run.items → last ≡ mid ++ Lit run ∷ [] →
    map plain_piece last ++ pieces_of_cut (map tree_of left) cut
    ≡ map plain_piece before ++ pieces_of_cut (map tree_of items) (rest_of_run (map literal_byte run.items) ++ cut)
run-complete before mid last items left run cut closes empty some more =
    let same : length (map literal_byte run.items) ≡ length run.items = length-map run.items literal_byte in
    let two : 1 < length (map literal_byte run.items) = omega arith in
    ap (λ waiting. map plain_piece last ++ pieces_of_cut (map tree_of waiting) cut) empty
    ∙ literal-complete (map plain_piece before) (map plain_piece mid) (map plain_piece last) (map tree_of items)
    (map literal_byte run.items) cut closes (ap (map plain_piece) more ∙ map-append plain_piece mid (Lit run ∷ []))
    ∙ ap (λ rest. map plain_piece before ++ pieces_of_cut (map tree_of items) (rest ++ cut))
    (sym (rest-literal (map literal_byte run.items) two))

-- a run of one is an ordinary item
pub byte-complete : (before : List Piece) (items more : List Expr) (run : List LitByte) (x : LitByte) (set : ByteSet) (cut : List Part) →
    run ≡ x ∷ [] → members set ≡ literal_set (literal_byte x) → more ≡ items ++ Class set ∷ [] →
    map plain_piece before ++ pieces_of_cut (map tree_of more) cut
    ≡ map plain_piece before ++ pieces_of_cut (map tree_of items) (rest_of_run (map literal_byte run) ++ cut)
byte-complete before items more run x set cut one same added =
    let tree : tree_of (Class set) ≡ class (literal_set (literal_byte x)) = tree_of-Class set ∙ ap class same in
    let trees : map tree_of more ≡ map tree_of items ++ class (literal_set (literal_byte x)) ∷ [] =
    ap (map tree_of) added ∙ map-append tree_of items (Class set ∷ []) ∙ ap (λ t. map tree_of items ++ t ∷ []) tree in
    ap (λ waiting. map plain_piece before ++ pieces_of_cut waiting cut) trees
    ∙ ap (λ pieces. map plain_piece before ++ pieces) (ordinary-added (map tree_of items) (class (literal_set (literal_byte x))) cut)
    ∙ ap (λ bytes. map plain_piece before ++ pieces_of_cut (map tree_of items) (rest_of_run (map literal_byte bytes) ++ cut)) (sym one)

-- an ordinary item is added, behind a run that has ended
pub ordinary-taken : (before : List Piece) (items more : List Expr) (run : List LitByte) (item : Expr) (t : Tree) (parts : List Part) →
    run ≡ [] → more ≡ items ++ item ∷ [] → tree_of item ≡ t →
    map plain_piece before ++ pieces_of_cut (map tree_of more) (cut_from (map literal_byte run) parts)
    ≡ map plain_piece before ++ pieces_of_cut (map tree_of items) (ordinary (t ∷ []) ∷ cut_from [] parts)
ordinary-taken before items more run item t parts ended added is =
    let trees : map tree_of more ≡ map tree_of items ++ t ∷ [] =
    ap (map tree_of) added ∙ map-append tree_of items (item ∷ []) ∙ ap (λ u. map tree_of items ++ u ∷ []) is in
    ap (λ bytes. map plain_piece before ++ pieces_of_cut (map tree_of more) (cut_from (map literal_byte bytes) parts)) ended
    ∙ ap (λ waiting. map plain_piece before ++ pieces_of_cut waiting (cut_from [] parts)) trees
    ∙ ap (λ pieces. map plain_piece before ++ pieces) (ordinary-added (map tree_of items) t (cut_from [] parts))

-- a long repeat is added, behind a run that has ended
pub long-taken : (before mid last : List Piece) (items left : List Expr) (run : List LitByte) (set : ByteSet) (least : ℕ) (greatest : Option ℕ) (parts : List Part) →
    map plain_piece mid ≡ map plain_piece before ++ closed (map tree_of items) → left ≡ [] → run ≡ [] →
    last ≡ mid ++ Rep set least greatest ∷ [] →
    map plain_piece last ++ pieces_of_cut (map tree_of left) (cut_from (map literal_byte run) parts)
    ≡ map plain_piece before ++ pieces_of_cut (map tree_of items) (long (members set) least greatest ∷ cut_from [] parts)
long-taken before mid last items left run set least greatest parts closes empty ended more =
    ap (λ pieces. map plain_piece last ++ pieces) (nothing left run parts empty ended)
    ∙ long-complete (map plain_piece before) (map plain_piece mid) (map plain_piece last) (map tree_of items)
    (members set) least greatest (cut_from [] parts) closes
    (ap (map plain_piece) more ∙ map-append plain_piece mid (Rep set least greatest ∷ []))

-- where a short run ends

pub ends-ordinary : (run : List LitByte) (ts : List Tree) (parts : List Part) → length run < 32 →
    rest_of_run (map literal_byte run) ++ ordinary ts ∷ cut_from [] parts ≡ cut_from (map literal_byte run) (ordinary ts ∷ parts)
ends-ordinary run ts parts short =
    let same : length (map literal_byte run) ≡ length run = length-map run literal_byte in
    sym (cut_from-ordinary (map literal_byte run) ts parts (omega arith))

pub ends-long : (run : List LitByte) (set : List Bool) (least : ℕ) (greatest : Option ℕ) (parts : List Part) → length run < 32 →
    rest_of_run (map literal_byte run) ++ long set least greatest ∷ cut_from [] parts
    ≡ cut_from (map literal_byte run) (long set least greatest ∷ parts)
ends-long run set least greatest parts short =
    let same : length (map literal_byte run) ≡ length run = length-map run literal_byte in
    sym (cut_from-long (map literal_byte run) set least greatest parts (omega arith))

pub ends-none : (run : List LitByte) → length run < 32 → rest_of_run (map literal_byte run) ++ [] ≡ cut_from (map literal_byte run) []
ends-none run short =
    let same : length (map literal_byte run) ≡ length run = length-map run literal_byte in
    sym (cut_from-none (map literal_byte run) (omega arith))

-- a list of one member at most, by its first
pub one-only : {A : Type 0} (xs : List A) (x : A) → length xs ≤ 1 → Some x ≡ slice_get xs 0 → xs ≡ x ∷ []
one-only [] x few is = absurd (cc)
one-only (y ∷ []) x few is = let e : x ≡ y = cc in ap (λ z. z ∷ []) (sym e)
one-only (y ∷ z ∷ ys) x few is = absurd (omega arith)
