-- Contexts in streams that begin alike.
use Rattle.std.proofs.Common.{sym, ◌<◌, ◌≡◌, ℕ, zero, suc, ◌+◌, ◌≤◌, Bool, true, false, ◌&&◌, List, [], ◌∷◌, ◌++◌, length, Some, None, slice_get, eqb, refl, ap, ◌∙◌, arith, length-append}
use Rattle.std.proofs.lemmas.Bool.{eq-eqb, ne_eqb}
use Rattle.std.proofs.lemmas.Option.{slice_get_past, slice_get-get_or}
use Rattle.std.proofs.Math.Seq.{get_or-append_seam}
use Rattle.hs_base.specs.declared.assertion.Assertion.{Assertion}
use Rattle.hs_base.specs.declared.assertion.Assertion.TheVariants.{StreamStart, LineStart, LineEnd, EndOrFinalNewline, StreamEnd, WordBoundary, NotWordBoundary}
use Rattle.hs_base.specs.EndAssertions.{is_end_assertion}
use Rattle.hs_base.specs.Spans.{IsByteOf}
use Rattle.std.specs.Prelude.{slice_index, not, ◌||◌}
use Rattle.std.proofs.lemmas.List.{append-nil}
use Rattle.hs_base.proofs.ContextLemmas.{word-next_by, byte-next_by, known-next_by, line_end-next_by}
use Rattle.hs_base.specs.Contexts.{allows, is_start, is_newline, is_known, is_word_before, is_word_next, differ}
use Rattle.hs_base.specs.declared.context.Prev.{Prev}
use Rattle.hs_base.specs.declared.context.Next.{Next}
use Rattle.hs_base.specs.declared.context.Next.TheVariants as after
use Rattle.hs_base.specs.Assertions.{line_feed, is_word_byte}
use Rattle.hs_base.specs.Contexts.{Context, next_by, prev_behind, next_before, class_of, prev_at, next_at, context_at, context_of, then_bytes, then_ended}
use Rattle.hs_base.proofs.SpanLemmas.{byte-append}

pub slice_get-seam : (u : List ℕ) (b : ℕ) (v : List ℕ) → slice_get (u ++ b ∷ v) (length u) ≡ Some b
slice_get-seam u b v =
    slice_get-get_or (u ++ b ∷ v) (length u) 0 (omega (arith, length-append u (b ∷ v)))
    ∙ ap (λ x. Some x) (get_or-append_seam u b v 0)

pub same-context : (p q : Prev) (m n : Next) → p ≡ q → m ≡ n → ◌≡◌ {A = Context} (record { prev = p; next = m }) (record { prev = q; next = n })
same-context p q m n prev next =
    let f : Prev → Context = λ x. record { prev = x; next = m } in
    let g : Next → Context = λ x. record { prev = q; next = x } in
    ap f prev ∙ ap g next

-- what stands before an offset is the same whatever follows it
pub prev-append : (u v : List ℕ) (p : ℕ) → p ≤ length u → prev_at (u ++ v) p ≡ prev_at u p
unfolding prev_at
prev-append u v zero below = refl
prev-append u v (suc p) below = ap prev_behind (byte-append u v p (omega arith))

and-true : (b : Bool) → (b && true) ≡ b
and-true true = refl
and-true false = refl

and-false : (b : Bool) → (b && false) ≡ false
and-false true = refl
and-false false = refl

-- what comes next is told by the byte that is there, and by whether it is the last of an ended stream
pub next-byte_at : (w : List ℕ) (ended : Bool) (p b : ℕ) → slice_get w p ≡ Some b → next_at w ended p ≡ next_by (eqb b line_feed) (is_word_byte b) (ended && eqb (p + 1) (length w))
unfolding next_at
next-byte_at w ended p b byte = ap (λ o. next_before o (ended && eqb p (length w)) (ended && eqb (p + 1) (length w))) byte

-- a byte that isn't the last of an ended stream
pub next-class : (w : List ℕ) (ended : Bool) (p b : ℕ) → slice_get w p ≡ Some b → (ended && eqb (p + 1) (length w)) ≡ false → next_at w ended p ≡ class_of b
next-class w ended p b byte inner = next-byte_at w ended p b byte ∙ ap (next_by (eqb b line_feed) (is_word_byte b)) inner

-- the byte that is the last
pub next-seam : (u : List ℕ) (b : ℕ) (ended : Bool) → next_at (u ++ b ∷ []) ended (length u) ≡ next_by (eqb b line_feed) (is_word_byte b) ended
next-seam u b ended =
    next-byte_at (u ++ b ∷ []) ended (length u) b (slice_get-seam u b [])
    ∙ ap (next_by (eqb b line_feed) (is_word_byte b))
    (ap (λ x. ended && x) (eq-eqb (length u + 1) (length (u ++ b ∷ [])) (omega (arith, length-append u (b ∷ [])))) ∙ and-true ended)

-- behind the last byte
pub next-end : (u : List ℕ) (ended : Bool) → next_at u ended (length u) ≡ next_before None ended false
unfolding next_at
next-end u ended =
    let past : length u ≤ length u = omega arith in
    let none : slice_get u (length u) ≡ None = slice_get_past u (length u) past in
    ap (λ o. next_before o (ended && eqb (length u) (length u)) (ended && eqb (length u + 1) (length u))) none
    ∙ (ap (λ x. next_before None (ended && x) (ended && eqb (length u + 1) (length u))) (eq-eqb (length u) (length u) refl)
    ∙ (ap (λ x. next_before None x (ended && eqb (length u + 1) (length u))) (and-true ended)
    ∙ (ap (λ x. next_before None ended (ended && x)) (ne_eqb (length u + 1) (length u) (λ same. omega arith))
    ∙ ap (next_before None ended) (and-false ended))))

next-then : (u : List ℕ) (next : Next) → next_at (then_bytes u next) (then_ended next) (length u) ≡ next
next-then u after.Word = next-seam u 97 false
next-then u after.Newline = next-seam u line_feed false
next-then u after.Other = next-seam u 32 false
next-then u after.End = next-end u true
next-then u after.FinalNewline = next-seam u line_feed true
next-then u after.Unknown = next-end u false

prev-then : (u : List ℕ) (next : Next) → prev_at (then_bytes u next) (length u) ≡ prev_at u (length u)
prev-then u after.Word = prev-append u (97 ∷ []) (length u) (omega arith)
prev-then u after.Newline = prev-append u (line_feed ∷ []) (length u) (omega arith)
prev-then u after.Other = prev-append u (32 ∷ []) (length u) (omega arith)
prev-then u after.End = refl
prev-then u after.FinalNewline = prev-append u (line_feed ∷ []) (length u) (omega arith)
prev-then u after.Unknown = refl

-- in the stream in which a context follows u, it is the context at the end of u
pub context-then : (u : List ℕ) (next : Next) → context_at (then_bytes u next) (then_ended next) (length u) ≡ context_of u next
context-then u next =
    same-context (prev_at (then_bytes u next) (length u)) (prev_at u (length u)) (next_at (then_bytes u next) (then_ended next) (length u)) next (prev-then u next) (next-then u next)

-- only an end assertion can tell whether the byte that comes next is the last
pub allows-last : (prev : Prev) (l x m n : Bool) (a : Assertion) → is_end_assertion a ≡ false →
    allows a (record { prev = prev; next = next_by l x m }) ≡ allows a (record { prev = prev; next = next_by l x n })
allows-last prev l x m n StreamStart plain = refl
allows-last prev l x m n LineStart plain = ap (λ t. is_start prev || (is_newline prev && t)) (byte-next_by l x m ∙ sym (byte-next_by l x n))
allows-last prev l x m n LineEnd plain = line_end-next_by l x m ∙ sym (line_end-next_by l x n)
allows-last prev l x m n EndOrFinalNewline plain = absurd (let e : true ≡ false = plain in cc)
allows-last prev l x m n StreamEnd plain = absurd (let e : true ≡ false = plain in cc)
allows-last prev l x m n WordBoundary plain =
    ap (λ t. t && differ (is_word_before prev) (is_word_next (next_by l x m))) (known-next_by l x m ∙ sym (known-next_by l x n))
    ∙ ap (λ t. is_known (next_by l x n) && differ (is_word_before prev) t) (word-next_by l x m ∙ sym (word-next_by l x n))
allows-last prev l x m n NotWordBoundary plain =
    ap (λ t. t && not (differ (is_word_before prev) (is_word_next (next_by l x m)))) (known-next_by l x m ∙ sym (known-next_by l x n))
    ∙ ap (λ t. is_known (next_by l x n) && not (differ (is_word_before prev) t)) (word-next_by l x m ∙ sym (word-next_by l x n))

-- before the end of u the context is the same however the stream goes on
pub context-append : (u v : List ℕ) (i : ℕ) → i < length u → context_at (u ++ v) false i ≡ context_at u false i
context-append u v i below =
    let b : ℕ = slice_index u i in
    let byte : slice_get u i ≡ Some b = slice_get-get_or u i 0 below in
    same-context (prev_at (u ++ v) i) (prev_at u i) (next_at (u ++ v) false i) (next_at u false i) (prev-append u v i (omega arith))
    (next-byte_at (u ++ v) false i b (byte-append u v i below ∙ byte) ∙ sym (next-byte_at u false i b byte))

-- and if the stream ends, only an end assertion can tell
pub allows-append : (u v : List ℕ) (ended : Bool) (i : ℕ) → i < length u → (a : Assertion) → is_end_assertion a ≡ false →
    allows a (context_at (u ++ v) ended i) ≡ allows a (context_at u false i)
allows-append u v ended i below a plain =
    let b : ℕ = slice_index u i in
    let byte : slice_get u i ≡ Some b = slice_get-get_or u i 0 below in
    let last : Bool = ended && eqb (i + 1) (length (u ++ v)) in
    let l : Bool = eqb b line_feed in
    let x : Bool = is_word_byte b in
    ap (allows a) (same-context (prev_at (u ++ v) i) (prev_at u i) (next_at (u ++ v) ended i) (next_by l x last) (prev-append u v i (omega arith))
    (next-byte_at (u ++ v) ended i b (byte-append u v i below ∙ byte)))
    ∙ (allows-last (prev_at u i) l x last false a plain
    ∙ ap (allows a) (same-context (prev_at u i) (prev_at u i) (next_by l x false) (next_at u false i) refl (sym (next-byte_at u false i b byte))))

-- the stream in which a context follows u begins with u
pub then-begins : (u : List ℕ) (next : Next) → (v : List ℕ) × (then_bytes u next ≡ u ++ v)
then-begins u after.Word = (97 ∷ [], refl)
then-begins u after.Newline = (line_feed ∷ [], refl)
then-begins u after.Other = (32 ∷ [], refl)
then-begins u after.End = ([], sym (append-nil u))
then-begins u after.FinalNewline = (line_feed ∷ [], refl)
then-begins u after.Unknown = ([], sym (append-nil u))

-- the bytes of sets before the end of u are the same however the stream goes on
pub byte_of-longer : (u v : List ℕ) (set : List Bool) (i : ℕ) → i < length u → IsByteOf set u i → IsByteOf set (u ++ v) i
byte_of-longer u v set i below (b, byte, member) = (b, byte-append u v i below ∙ byte, member)

pub byte_of-shorter : (u v : List ℕ) (set : List Bool) (i : ℕ) → i < length u → IsByteOf set (u ++ v) i → IsByteOf set u i
byte_of-shorter u v set i below (b, byte, member) = (b, sym (byte-append u v i below) ∙ byte, member)
