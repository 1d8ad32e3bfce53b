-- The position automaton in streams: its paths before the end of some bytes don't depend on what follows.
use Rattle.std.proofs.Common.{◌≡◌, ℕ, ◌+◌, ◌<◌, Bool, true, false, List, [], ◌∷◌, ◌++◌, length, Some, slice_get, refl, sym, ap, subst, ◌∙◌, arith, length-append}
use Rattle.std.proofs.lemmas.Option.{slice_get_within, slice_get-get_or}
use Rattle.std.proofs.lemmas.List.{get_or_append_left}
use Rattle.std.proofs.Math.Seq.{get_or-append_seam}
use Rattle.hs_base.specs.declared.context.Next.{Next}
use Rattle.hs_base.specs.EndAssertions.{has_embedded_end}
use Rattle.hs_base.specs.Contexts.{Context, class_of, prev_at, next_at, context_at, context_of, then_bytes, then_ended}
use Rattle.hs_base.specs.Trees.{Tree}
use Rattle.hs_base.specs.Spans.{Spans, IsByteOf}
use Rattle.hs_base.specs.Fields.{Leaves}
use Rattle.hs_base.specs.WrittenOut.{Core, write_out, IsPlain, StreamSpans, IsReachedFrom, IsReached, set_of, front}
use Rattle.hs_base.proofs.StreamContexts.{slice_get-seam, same-context, prev-append, next-seam, context-append, allows-append, context-then, then-begins, byte_of-longer, byte_of-shorter}
use Rattle.hs_base.proofs.WrittenOutLemmas.{spans-written, written-spans}
use Rattle.hs_base.proofs.EndAssertionLemmas.{IsTail, ends-last}
use Rattle.hs_engine.specs.Positions.{null, enter, accept, follow, Path, path_enter, path_step}
use Rattle.hs_engine.specs.Agreement.{HasPath, IsAccepted, AgreesWith, StepsTo, steps_in, steps_on, IsAccepting}
use Rattle.hs_engine.proofs.PositionLemmas.{Ends, ends_empty, ends_at, From, entered, followed, Arrives, arrives, null-span, accept-span, spans-ends, reach-arrives, from-reach, path-reach, reach-path, path-same}
use Rattle.hs_engine.proofs.AlikeLemmas.{path-alike}

-- a path in a stream
abbrev StreamPath : List ℕ → Bool → Core → ℕ → ℕ → ℕ → Type 0
StreamPath w ended r q x p = Path (context_at w ended) (λ set k. IsByteOf set w k) r q x p

pub path-order : (context : ℕ → Context) (Byte : List Bool → ℕ → Type 0) (r : Core) (q x p : ℕ) → Path context Byte r q x p → q < p
path-order context Byte r q x p (path_enter y e end is byte) = omega arith
path-order context Byte r q x p (path_step z y k e end path is byte) =
    let before : q < k = path-order context Byte r q z k path in
    omega arith

path-shorter : (u v : List ℕ) (ended : Bool) (r : Core) → IsTail r → (q x : ℕ) → StreamPath (u ++ v) ended r q x (length u) → StreamPath u false r q x (length u)
path-shorter u v ended r tail q x path =
    path-alike (context_at (u ++ v) ended) (context_at u false) (λ set k. IsByteOf set (u ++ v) k) (λ set k. IsByteOf set u k) r tail q x (length u)
    (λ i below a plain is. sym (allows-append u v ended i below a plain) ∙ is)
    (λ i set below byte. byte_of-shorter u v set i below byte)
    path

path-longer : (u v : List ℕ) (ended : Bool) (r : Core) → IsTail r → (q x : ℕ) → StreamPath u false r q x (length u) → StreamPath (u ++ v) ended r q x (length u)
path-longer u v ended r tail q x path =
    path-alike (context_at u false) (context_at (u ++ v) ended) (λ set k. IsByteOf set u k) (λ set k. IsByteOf set (u ++ v) k) r tail q x (length u)
    (λ i below a plain is. allows-append u v ended i below a plain ∙ is)
    (λ i set below byte. byte_of-longer u v set i below byte)
    path

then-path : (u : List ℕ) (next : Next) (r : Core) → IsTail r → (q x : ℕ) → StreamPath (then_bytes u next) (then_ended next) r q x (length u) → StreamPath u false r q x (length u)
then-path u next r tail q x path =
    let (v, whole) = then-begins u next in
    path-shorter u v (then_ended next) r tail q x (subst (λ w. StreamPath w (then_ended next) r q x (length u)) whole path)

path-then : (u : List ℕ) (next : Next) (r : Core) → IsTail r → (q x : ℕ) → StreamPath u false r q x (length u) → StreamPath (then_bytes u next) (then_ended next) r q x (length u)
path-then u next r tail q x path =
    let (v, whole) = then-begins u next in
    subst (λ w. StreamPath w (then_ended next) r q x (length u)) (sym whole) (path-longer u v (then_ended next) r tail q x path)

module _ (t : Tree) (plain : IsPlain t) (u : List ℕ) (next : Next) where
  -- in the stream in which `next` follows u
  abbrev ThenContext : ℕ → Context
  ThenContext = context_at (then_bytes u next) (then_ended next)

  abbrev ThenByte : List Bool → ℕ → Type 0
  ThenByte = λ set k. IsByteOf set (then_bytes u next) k

  accepted-of_ends : IsTail (write_out t) → (q : ℕ) → q < length u → Ends ThenContext ThenByte (write_out t) q (length u) → IsAccepted (write_out t) u q next
  accepted-of_ends tail q before (ends_empty same is) = absurd (omega arith)
  accepted-of_ends tail q before (ends_at x reach is) = (
    x,
    then-path u next (write_out t) tail q x (reach-path ThenContext ThenByte (length u) (write_out t) q x reach),
    subst (λ c. accept (write_out t) x c ≡ true) (context-then u next) is,
  )

  pub spans-accepted : IsTail (write_out t) → (q : ℕ) → q < length u → Spans (then_bytes u next) (then_ended next) t q (length u) → IsAccepted (write_out t) u q next
  spans-accepted tail q before span =
      accepted-of_ends tail q before
      (spans-ends ThenContext ThenByte (write_out t) q (length u) (spans-written (then_bytes u next) (then_ended next) t q (length u) plain span))

  pub accepted-spans : IsTail (write_out t) → (q : ℕ) → IsAccepted (write_out t) u q next → Spans (then_bytes u next) (then_ended next) t q (length u)
  accepted-spans tail q (x, path, is) =
      written-spans (then_bytes u next) (then_ended next) t q (length u) plain
      (accept-span ThenContext ThenByte (write_out t) x q (length u)
      (path-reach ThenContext ThenByte (write_out t) q x (length u) (path-then u next (write_out t) tail q x path))
      (subst (λ c. accept (write_out t) x c ≡ true) (sym (context-then u next)) is))

  null-of_ends : Ends ThenContext ThenByte (write_out t) (length u) (length u) → null (write_out t) (context_of u next) ≡ true
  null-of_ends (ends_empty same is) = subst (λ c. null (write_out t) c ≡ true) (context-then u next) is
  null-of_ends (ends_at x reach is) =
      let before : length u < length u = path-order ThenContext ThenByte (write_out t) (length u) x (length u) (reach-path ThenContext ThenByte (length u) (write_out t) (length u) x reach) in
      absurd (omega arith)

  pub spans-null : Spans (then_bytes u next) (then_ended next) t (length u) (length u) → null (write_out t) (context_of u next) ≡ true
  spans-null span =
      null-of_ends (spans-ends ThenContext ThenByte (write_out t) (length u) (length u) (spans-written (then_bytes u next) (then_ended next) t (length u) (length u) plain span))

  pub null-spans : null (write_out t) (context_of u next) ≡ true → Spans (then_bytes u next) (then_ended next) t (length u) (length u)
  null-spans is =
      written-spans (then_bytes u next) (then_ended next) t (length u) (length u) plain
      (null-span ThenContext ThenByte (write_out t) (length u) (subst (λ c. null (write_out t) c ≡ true) (sym (context-then u next)) is))

pub reached-path : (u : List ℕ) (r : Core) (q x : ℕ) → IsReachedFrom r u q x → HasPath r u q x
reached-path u r q x reach = reach-path (context_at u false) (λ set k. IsByteOf set u k) (length u) r q x reach

pub path-reached : (u : List ℕ) (r : Core) (q x : ℕ) → HasPath r u q x → IsReachedFrom r u q x
path-reached u r q x path = path-reach (context_at u false) (λ set k. IsByteOf set u k) r q x (length u) path

pub positions-agree : (t : Tree) → IsPlain t → has_embedded_end t false ≡ false → AgreesWith t (write_out t)
positions-agree t plain free =
    let tail : IsTail (write_out t) = (ends-last t false plain free).0 in
    record {
      reached = λ u q x. (path-reached u (write_out t) q x, reached-path u (write_out t) q x);
      accepts = λ u q next before. (accepted-spans t plain u next tail q, spans-accepted t plain u next tail q before);
      nulls = λ u next. (null-spans t plain u next, spans-null t plain u next);
    }

-- entries, as a list grows

pub get-append : {A : Type 0} (xs ys : List A) (i : ℕ) (d : A) → i < length xs → slice_get (xs ++ ys) i ≡ slice_get xs i
get-append xs ys i d below =
    slice_get-get_or (xs ++ ys) i d (omega (arith, length-append xs ys))
    ∙ (ap (λ b. Some b) (get_or_append_left xs ys d i below) ∙ sym (slice_get-get_or xs i d below))

pub get-seam : {A : Type 0} (xs : List A) (x : A) → slice_get (xs ++ x ∷ []) (length xs) ≡ Some x
get-seam xs x =
    slice_get-get_or (xs ++ x ∷ []) (length xs) x (omega (arith, length-append xs (x ∷ [])))
    ∙ ap (λ b. Some b) (get_or-append_seam xs x [] x)

-- the context before the last byte
pub context-seam : (u : List ℕ) (b : ℕ) → context_at (u ++ b ∷ []) false (length u) ≡ context_of u (class_of b)
context-seam u b =
    same-context (prev_at (u ++ b ∷ []) (length u)) (prev_at u (length u)) (next_at (u ++ b ∷ []) false (length u)) (class_of b)
    (prev-append u (b ∷ []) (length u) (omega arith)) (next-seam u b false)

-- what is reached at the end of u is reached there however the bytes go on

reach-longer : (u v : List ℕ) (r : Core) (q x : ℕ) → StreamSpans u false (front r x) q (length u) → StreamSpans (u ++ v) false (front r x) q (length u)
reach-longer u v r q x reach =
    path-reach (context_at (u ++ v) false) (λ set k. IsByteOf set (u ++ v) k) r q x (length u)
    (path-same (context_at u false) (context_at (u ++ v) false) (λ set k. IsByteOf set u k) (λ set k. IsByteOf set (u ++ v) k) r q x (length u)
    (λ i below. sym (context-append u v i below)) (λ i set below byte. byte_of-longer u v set i below byte)
    (reach-path (context_at u false) (λ set k. IsByteOf set u k) (length u) r q x reach))

reach-shorter : (u v : List ℕ) (r : Core) (q x : ℕ) → StreamSpans (u ++ v) false (front r x) q (length u) → StreamSpans u false (front r x) q (length u)
reach-shorter u v r q x reach =
    path-reach (context_at u false) (λ set k. IsByteOf set u k) r q x (length u)
    (path-same (context_at (u ++ v) false) (context_at u false) (λ set k. IsByteOf set (u ++ v) k) (λ set k. IsByteOf set u k) r q x (length u)
    (λ i below. context-append u v i below) (λ i set below byte. byte_of-shorter u v set i below byte)
    (reach-path (context_at (u ++ v) false) (λ set k. IsByteOf set (u ++ v) k) (length u) r q x reach))

module _ (r : Core) (u : List ℕ) (entries : List Bool) (b : ℕ) (entering : Bool) (y : ℕ) (len : length entries ≡ length u) where
  abbrev LongContext : ℕ → Context
  LongContext = context_at (u ++ b ∷ []) false

  abbrev LongByte : List Bool → ℕ → Type 0
  LongByte = λ set k. IsByteOf set (u ++ b ∷ []) k

  steps-of_from : (q : ℕ) → slice_get (entries ++ entering ∷ []) q ≡ Some true → slice_get (set_of r y) b ≡ Some true →
      From LongContext LongByte r y q (length u) → StepsTo r u entries b entering y
  steps-of_from q is_entered member (entered same is) =
      let now : slice_get (entries ++ entering ∷ []) (length entries) ≡ Some entering = get-seam entries entering in
      let place : q ≡ length entries = omega arith in
      let here : slice_get (entries ++ entering ∷ []) (length entries) ≡ Some true = subst (λ k. slice_get (entries ++ entering ∷ []) k ≡ Some true) place is_entered in
      steps_in member (cc) (subst (λ c. enter r y c ≡ true) (context-seam u b) is)
  steps-of_from q is_entered member (followed x reach is) =
      let short : StreamSpans u false (front r x) q (length u) = reach-shorter u (b ∷ []) r q x reach in
      let before : q < length u = path-order (context_at u false) (λ set k. IsByteOf set u k) r q x (length u) (reached-path u r q x short) in
      let in_entries : q < length entries = omega arith in
      steps_on x member
      (record { from = q; is_entered = sym (get-append entries (entering ∷ []) q false in_entries) ∙ is_entered; reached = short })
      (subst (λ c. follow r x y c ≡ true) (context-seam u b) is)

  steps-of_arrives : (q : ℕ) → slice_get (entries ++ entering ∷ []) q ≡ Some true → Arrives LongContext LongByte r y q (length (u ++ b ∷ [])) → StepsTo r u entries b entering y
  steps-of_arrives q is_entered (arrives p end (byte, there, member) from) =
      let place : p ≡ length u = omega (arith, length-append u (b ∷ [])) in
      let seam : slice_get (u ++ b ∷ []) (length u) ≡ Some b = slice_get-seam u b [] in
      let last : slice_get (u ++ b ∷ []) (length u) ≡ Some byte = subst (λ k. slice_get (u ++ b ∷ []) k ≡ Some byte) place there in
      let same : byte ≡ b = (cc) in
      steps-of_from q is_entered (subst (λ k. slice_get (set_of r y) k ≡ Some true) same member) (subst (From LongContext LongByte r y q) place from)

  pub reached-steps : IsReached r (u ++ b ∷ []) (entries ++ entering ∷ []) y → StepsTo r u entries b entering y
  reached-steps reached =
      steps-of_arrives reached.from reached.is_entered (reach-arrives LongContext LongByte r y reached.from (length (u ++ b ∷ [])) reached.reached)

  last-byte : slice_get (set_of r y) b ≡ Some true → LongByte (set_of r y) (length u)
  last-byte member = (b, slice_get-seam u b [], member)

  reached-of_from : (q : ℕ) → slice_get (set_of r y) b ≡ Some true → From LongContext LongByte r y q (length u) → IsReachedFrom r (u ++ b ∷ []) q y
  reached-of_from q member from =
      let end : length u + 1 ≡ length (u ++ b ∷ []) = omega (arith, length-append u (b ∷ [])) in
      subst (StreamSpans (u ++ b ∷ []) false (front r y) q) end (from-reach LongContext LongByte r y q (length u) (last-byte member) from)

  pub steps-reached : StepsTo r u entries b entering y → IsReached r (u ++ b ∷ []) (entries ++ entering ∷ []) y
  steps-reached (steps_in member enters is) =
      record {
        from = length u;
        is_entered = subst (λ k. slice_get (entries ++ entering ∷ []) k ≡ Some true) len (get-seam entries entering ∙ ap (λ x. Some x) enters);
        reached = reached-of_from (length u) member (entered refl (subst (λ c. enter r y c ≡ true) (sym (context-seam u b)) is));
      }
  steps-reached (steps_on x member reached is) =
      let in_entries : reached.from < length entries = slice_get_within entries reached.from true reached.is_entered in
      record {
        from = reached.from;
        is_entered = get-append entries (entering ∷ []) reached.from false in_entries ∙ reached.is_entered;
        reached =
            reached-of_from reached.from member
            (followed x (reach-longer u (b ∷ []) r reached.from x reached.reached) (subst (λ c. follow r x y c ≡ true) (sym (context-seam u b)) is));
      }

-- where a position that is reached accepts

pub leaves-accepting : (t : Tree) (u : List ℕ) (entries : List Bool) (next : Next) → IsPlain t → has_embedded_end t false ≡ false → Leaves t u entries next → IsAccepting (write_out t) u entries next
leaves-accepting t u entries next plain free leaves =
    let (x, path, is) = spans-accepted t plain u next (ends-last t false plain free).0 leaves.from leaves.before leaves.spans in
    record {
      position = x;
      reached = record { from = leaves.from; is_entered = leaves.is_entered; reached = path-reached u (write_out t) leaves.from x path };
      accepts = is;
    }

pub accepting-leaves : (t : Tree) (u : List ℕ) (entries : List Bool) (next : Next) → IsPlain t → has_embedded_end t false ≡ false → IsAccepting (write_out t) u entries next → Leaves t u entries next
accepting-leaves t u entries next plain free accepting =
    let q : ℕ = accepting.reached.from in
    let path : HasPath (write_out t) u q accepting.position = reached-path u (write_out t) q accepting.position accepting.reached.reached in
    record {
      from = q;
      is_entered = accepting.reached.is_entered;
      before = path-order (context_at u false) (λ set k. IsByteOf set u k) (write_out t) q accepting.position (length u) path;
      spans = accepted-spans t plain u next (ends-last t false plain free).0 q (accepting.position, path, accepting.accepts);
    }
