-- Runs and ordinary items that wait: what one more item does to them.
use Rattle.std.proofs.Common.{◌≡◌, ℕ, suc, ◌+◌, ◌/◌, ◌<◌, Bool, List, [], ◌∷◌, ◌++◌, length, take, drop, Option, refl, sym, ap, ◌∙◌, arith}
use Rattle.std.proofs.lemmas.List.{append_assoc, append-nil, length-append}
use Rattle.std.proofs.Math.Seq.{take-append_seam, drop-append_seam}
use Rattle.hs_base.specs.Trees.{Tree}
use Rattle.hs_base.specs.Literals.{LiteralByte}
use Rattle.hs_base.specs.Chains.{Part, literal, ordinary, long, with_literal, with_ordinary, runs_joined, runs_cut, rest_of_run, cut_times, cut_run}
use Rattle.hs_expr.specs.Waiting.{with_run, with_items, cut_from}

-- one more byte behind a run
with_run-snoc : (run : List LiteralByte) (x : LiteralByte) (parts : List Part) →
    with_run (run ++ x ∷ []) parts ≡ with_run run (with_literal (x ∷ []) parts)
with_run-snoc [] x parts = refl
with_run-snoc (y ∷ ys) x [] = refl
with_run-snoc (y ∷ ys) x (literal zs ∷ parts) = ap (λ all. literal all ∷ parts) (append_assoc (y ∷ ys) (x ∷ []) zs)
with_run-snoc (y ∷ ys) x (ordinary ts ∷ parts) = refl
with_run-snoc (y ∷ ys) x (long set least greatest ∷ parts) = refl

-- one more item behind ordinary items
pub with_items-snoc : (items : List Tree) (t : Tree) (parts : List Part) →
    with_items (items ++ t ∷ []) parts ≡ with_items items (with_ordinary (t ∷ []) parts)
with_items-snoc [] t parts = refl
with_items-snoc (u ∷ us) t [] = refl
with_items-snoc (u ∷ us) t (literal xs ∷ parts) = refl
with_items-snoc (u ∷ us) t (ordinary ts ∷ parts) = ap (λ all. ordinary all ∷ parts) (append_assoc (u ∷ us) (t ∷ []) ts)
with_items-snoc (u ∷ us) t (long set least greatest ∷ parts) = refl

take_full : (full xs : List LiteralByte) (n : ℕ) → n ≡ length full → take n (full ++ xs) ≡ full
take_full full xs n is = ap (λ k. take k (full ++ xs)) is ∙ take-append_seam full xs

drop_full : (full xs : List LiteralByte) (n : ℕ) → n ≡ length full → drop n (full ++ xs) ≡ xs
drop_full full xs n is = ap (λ k. drop k (full ++ xs)) is ∙ drop-append_seam full xs

-- a full literal in front of a run is cut off
cut_run-full : (full xs : List LiteralByte) → length full ≡ 32 → cut_run (full ++ xs) ≡ literal full ∷ cut_run xs
cut_run-full full xs is =
    let all : length (full ++ xs) ≡ length full + length xs = length-append full xs in
    let count : length (full ++ xs) / 32 ≡ suc (length xs / 32) = omega arith in
    ap (λ n. cut_times n (full ++ xs)) count
    ∙ ap (λ front. literal front ∷ cut_times (length xs / 32) (drop 32 (full ++ xs))) (take_full full xs 32 (sym is))
    ∙ ap (λ rest. literal full ∷ cut_times (length xs / 32) rest) (drop_full full xs 32 (sym is))

-- a short run is all rest
cut_run-short : (run : List LiteralByte) → length run < 32 → cut_run run ≡ rest_of_run run
cut_run-short run short =
    let count : length run / 32 ≡ 0 = omega arith in
    ap (λ n. cut_times n run) count

cut_run-once : (full : List LiteralByte) → length full ≡ 32 → cut_run full ≡ literal full ∷ []
cut_run-once full is = ap cut_run (sym (append-nil full)) ∙ cut_run-full full [] is

-- a run that has become full is a literal, whatever follows
full-ends : (full : List LiteralByte) (parts : List Part) → length full ≡ 32 →
    runs_cut (with_run full parts) ≡ literal full ∷ runs_cut parts
full-ends [] parts is = absurd (omega arith)
full-ends (x ∷ xs) [] is = ap (λ cut. cut ++ []) (cut_run-once (x ∷ xs) is)
full-ends (x ∷ xs) (literal ys ∷ parts) is = ap (λ cut. cut ++ runs_cut parts) (cut_run-full (x ∷ xs) ys is)
full-ends (x ∷ xs) (ordinary ts ∷ parts) is = ap (λ cut. cut ++ ordinary ts ∷ runs_cut parts) (cut_run-once (x ∷ xs) is)
full-ends (x ∷ xs) (long set least greatest ∷ parts) is =
    ap (λ cut. cut ++ long set least greatest ∷ runs_cut parts) (cut_run-once (x ∷ xs) is)

-- a short run ends before an ordinary item, before a long repeat, and behind the last item

pub cut_from-ordinary : (run : List LiteralByte) (ts : List Tree) (parts : List Part) → length run < 32 →
    cut_from run (ordinary ts ∷ parts) ≡ rest_of_run run ++ ordinary ts ∷ cut_from [] parts
cut_from-ordinary [] ts parts short = refl
cut_from-ordinary (x ∷ xs) ts parts short =
    ap (λ cut. cut ++ ordinary ts ∷ runs_cut (runs_joined parts)) (cut_run-short (x ∷ xs) short)

pub cut_from-long : (run : List LiteralByte) (set : List Bool) (least : ℕ) (greatest : Option ℕ) (parts : List Part) →
    length run < 32 →
    cut_from run (long set least greatest ∷ parts) ≡ rest_of_run run ++ long set least greatest ∷ cut_from [] parts
cut_from-long [] set least greatest parts short = refl
cut_from-long (x ∷ xs) set least greatest parts short =
    ap (λ cut. cut ++ long set least greatest ∷ runs_cut (runs_joined parts)) (cut_run-short (x ∷ xs) short)

pub cut_from-none : (run : List LiteralByte) → length run < 32 → cut_from run [] ≡ rest_of_run run ++ []
cut_from-none [] short = refl
cut_from-none (x ∷ xs) short = ap (λ cut. cut ++ []) (cut_run-short (x ∷ xs) short)

-- one more byte, with the run short or full

pub cut_from-byte : (run : List LiteralByte) (x : LiteralByte) (parts : List Part) →
    cut_from (run ++ x ∷ []) parts ≡ cut_from run (literal (x ∷ []) ∷ parts)
cut_from-byte run x parts = ap runs_cut (with_run-snoc run x (runs_joined parts))

pub cut_from-full : (run : List LiteralByte) (x : LiteralByte) (parts : List Part) → length (run ++ x ∷ []) ≡ 32 →
    cut_from run (literal (x ∷ []) ∷ parts) ≡ literal (run ++ x ∷ []) ∷ cut_from [] parts
cut_from-full run x parts is = sym (cut_from-byte run x parts) ∙ full-ends (run ++ x ∷ []) (runs_joined parts) is
