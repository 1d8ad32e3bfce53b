-- The last bytes of a stream.
use Rattle.std.proofs.Common.{◌≡◌, ℕ, zero, suc, ◌+◌, ◌-◌, ◌<◌, ◌≤◌, List, [], ◌∷◌, ◌++◌, length, replicate, get_or, take, drop, min, refl, sym, ap, ◌∙◌, inl, inr, arith, length-append, length-drop}
use Rattle.std.proofs.lemmas.Bool.{cases_lt}
use Rattle.std.proofs.lemmas.List.{length-replicate, length-take-le, get_or-drop, get_or-take, get_or-append-add, get_or_append_left, drop-append-le, append-nil, take-append-drop, take_rest}
use Rattle.std.proofs.lemmas.Option.{slice_get-get_or}
use Rattle.std.proofs.Math.ListN.{drop_of_length-le}
use Rattle.std.proofs.Math.Seq.{drop-append-add}
use Rattle.hs_base.specs.declared.context.Prev.{Prev}
use Rattle.hs_base.specs.Contexts.{prev_at, prev_behind}
use Rattle.hs_base.specs.Literals.{LiteralByte}
use Rattle.hs_base.specs.Regions.{last_bytes}
use Rattle.hs_base.proofs.BitLemmas.{same-places}
use Rattle.hs_base.proofs.RegionLemmas.{drop-drop}
use Rattle.hs_literals.specs.HitLaws.{ReachesBack}
use Rattle.hs_nodes.specs.Blocks.{EndsBehind}
use Rattle.hs_scan.specs.Past.{KeepsEarly, prev_from}

history-get : (n k : ℕ) (u : List ℕ) → n ≤ length u + k → get_or (last_bytes n u) k 0 ≡ get_or u (length u + k - n) 0
history-get n k u low =
    let size : length (replicate n 0) ≡ n = length-replicate {A = ℕ} n 0 in
    let e : length u + k ≡ length (replicate n 0) + (length u + k - n) = omega (arith, size, low) in
    get_or-drop (length u) (replicate n 0 ++ u) k 0
    ∙ (ap (λ m. get_or (replicate n 0 ++ u) m 0) e ∙ get_or-append-add (replicate n 0) u (length u + k - n) 0)

pub history-size : (n : ℕ) (u : List ℕ) → length (last_bytes n u) ≡ n
history-size n u = omega (arith, length-drop (length u) (replicate n 0 ++ u), length-append (replicate n 0) u, length-replicate {A = ℕ} n 0)

history-end : (n k : ℕ) (u : List ℕ) → k ≤ n → k ≤ length u → drop (n - k) (last_bytes n u) ≡ drop (length u - k) u
history-end n k u small within =
    let size : length (replicate n 0) ≡ n = length-replicate {A = ℕ} n 0 in
    let e : length u + (n - k) ≡ length (replicate n 0) + (length u - k) = omega (arith, size, small, within) in
    drop-drop (length u) (n - k) (replicate n 0 ++ u)
    ∙ (ap (λ m. drop m (replicate n 0 ++ u)) e ∙ drop-append-add (replicate n 0) u (length u - k))

prev-read : (u : List ℕ) (n : ℕ) → length u ≡ n → prev_from n (get_or u (n - 1) 0) ≡ prev_at u n
unfolding prev_at
prev-read u zero size = refl
prev-read u (suc m) size =
    let e : suc m - 1 ≡ m = omega arith in
    ap (λ k. prev_from (suc m) (get_or u k 0)) e ∙ ap prev_behind (sym (slice_get-get_or u m 0 (omega (arith, size))))

prev-spot : (u : List ℕ) → prev_from (length u) (get_or (last_bytes 64 u) 63 0) ≡ prev_at u (length u)
prev-spot [] = prev-read [] 0 refl
prev-spot (b ∷ u) =
    let e : length (b ∷ u) + 63 - 64 ≡ length (b ∷ u) - 1 = omega arith in
    ap (prev_from (length (b ∷ u))) (history-get 64 63 (b ∷ u) (omega arith) ∙ ap (λ k. get_or (b ∷ u) k 0) e)
    ∙ prev-read (b ∷ u) (length (b ∷ u)) refl

pub prev-of : (at : ℕ) (past u : List ℕ) (prev : Prev) → prev ≡ prev_from at (get_or past 63 0) → at ≡ length u → past ≡ last_bytes 64 u → EndsBehind u prev at
prev-of at past u prev is offset past_is = record {
  offset = offset;
  behind = is ∙ (ap (λ n. prev_from n (get_or past 63 0)) offset ∙ (ap (λ xs. prev_from (length u) (get_or xs 63 0)) past_is ∙ prev-spot u));
}

pub reaches : (at n : ℕ) (past before u : List ℕ) (literal : List LiteralByte) → n ≡ min at 64 → before ≡ drop (64 - n) past → at ≡ length u → past ≡ last_bytes 64 u → length literal ≤ 32 → ReachesBack literal u before
reaches at n past before u literal seen is offset past_is short =
    let small : n ≤ 64 = omega arith in
    let within : n ≤ length u = omega arith in
    let same : before ≡ drop (length u - n) u = is ∙ (ap (drop (64 - n)) past_is ∙ history-end 64 n u small within) in
    record {
      earlier = take (length u - n) u;
      split = sym (take-append-drop (length u - n) u) ∙ ap (λ xs. take (length u - n) u ++ xs) (sym same);
      enough = elim (cases_lt 64 (length u)) [
        | inl long ↦ inr (omega (arith, ap length same, length-drop (length u - n) u, seen, offset))
        | inr few ↦ inl (let none : length u - n ≡ 0 = omega arith in ap (λ m. take m u) none)
      ];
    }

pub pushed : (past bytes now : List ℕ) (n : ℕ) → length past ≡ 64 → n ≡ min (length bytes) 64 → now ≡ drop n past ++ drop (length bytes - n) bytes → now ≡ drop (length bytes) (past ++ bytes)
pushed past bytes now n size count is = is ∙ elim (cases_lt 64 (length bytes)) [
  | inl long ↦
      let all : n ≡ 64 = omega arith in
      let none : drop n past ≡ [] = drop_of_length-le past (omega arith) in
      let e : length bytes ≡ length past + (length bytes - n) = omega arith in
      ap (λ xs. xs ++ drop (length bytes - n) bytes) none ∙ sym (ap (λ m. drop m (past ++ bytes)) e ∙ drop-append-add past bytes (length bytes - n))
  | inr few ↦
      let all : n ≡ length bytes = omega arith in
      let none : length bytes - n ≡ 0 = omega arith in
      ap (λ m. drop m past ++ drop (length bytes - n) bytes) all ∙ (ap (λ m. drop (length bytes) past ++ drop m bytes) none ∙ sym (drop-append-le (length bytes) past bytes (omega (arith, few, size))))
]

pub shifted : (old new : List ℕ) (count : ℕ) → count ≤ length old → length new ≡ length old → ((k : ℕ) → 0 ≤ k → k < 0 + (length old - count) → get_or new k 0 ≡ get_or old (count + (k - 0)) 0) → take (length old - count) new ≡ drop count old
shifted old new count within len here =
    let size : length (take (length old - count) new) ≡ length old - count = length-take-le (length old - count) new (omega (arith, len)) in
    same-places (take (length old - count) new) (drop count old) (size ∙ sym (length-drop count old))
    (λ k below.
    let low : k < length old - count = omega (arith, below, size) in
    let e : count + (k - 0) ≡ count + k = omega arith in
    get_or-take (length old - count) new k 0 low ∙ (here k (omega arith) (omega (arith, low)) ∙ (ap (λ n. get_or old n 0) e ∙ sym (get_or-drop count old k 0))))

pub joined : (past mid ys bytes : List ℕ) (n : ℕ) → length past ≡ 64 → length mid ≡ length past → n ≤ 64 → take (length past - n) mid ≡ drop n past → ys ≡ take (length bytes - (length bytes - n)) (drop (length bytes - n) bytes) →
    take (64 - n) mid ++ (ys ++ drop (length mid - (64 - n)) (drop (64 - n) mid)) ≡ drop n past ++ drop (length bytes - n) bytes
joined past mid ys bytes n size len small front is =
    let none : drop (length mid - (64 - n)) (drop (64 - n) mid) ≡ [] = drop_of_length-le (drop (64 - n) mid) (omega (arith, length-drop (64 - n) mid)) in
    let own : ys ≡ drop (length bytes - n) bytes = is ∙ take_rest bytes (length bytes - n) in
    ap (λ zs. take (64 - n) mid ++ (ys ++ zs)) none
    ∙ (ap (λ zs. take (64 - n) mid ++ zs) (append-nil ys ∙ own)
    ∙ ap (λ zs. zs ++ drop (length bytes - n) bytes) (ap (λ m. take (m - n) mid) (sym size) ∙ front))

-- Bytes that are put behind the last ones leave no early one.
pub early-pushed : (past past' bytes : List ℕ) (at at' : ℕ) → length past ≡ 64 → past' ≡ drop (length bytes) (past ++ bytes) → at' ≡ at + length bytes → KeepsEarly at at' past past'
early-pushed past past' bytes at at' wide pushed at_is early i below =
    let n : ℕ = length bytes in
    let low : n + i < length past = omega (arith, below, at_is, wide) in
    ap (λ xs. get_or xs i 0) pushed ∙ (get_or-drop n (past ++ bytes) i 0 ∙ (get_or_append_left past bytes 0 (n + i) low ∙ early (n + i) (omega (arith, below, at_is))))
