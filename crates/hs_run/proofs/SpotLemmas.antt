-- Where a stream stands, and what its last bytes are.
use Rattle.std.proofs.Common.{◌≡◌, ℕ, zero, suc, ◌+◌, ◌-◌, ◌≤◌, List, [], ◌∷◌, ◌++◌, length, replicate, get_or, take, drop, eqb, refl, sym, ap, ◌∙◌, arith, length-append, length-drop}
use Rattle.std.proofs.lemmas.List.{length-replicate, get_or-drop, get_or-append-add, drop-append-le, take_rest}
use Rattle.std.proofs.lemmas.Option.{slice_get-get_or}
use Rattle.std.proofs.Math.Seq.{drop-append-add}
use Rattle.hs_base.specs.Assertions.{line_feed, is_word_byte}
use Rattle.hs_base.specs.Contexts.{prev_at, prev_behind, prev_by}
use Rattle.hs_base.specs.Regions.{last_bytes}
use Rattle.hs_base.proofs.RegionLemmas.{drop-drop, last_bytes-follow}
use Rattle.hs_base.proofs.StreamContexts.{slice_get-seam}
use Rattle.hs_run.specs.Spots.{prev_from}

-- the last bytes, by place
pub history-get : (n k : ℕ) (u : List ℕ) → n ≤ length u + k → get_or (last_bytes n u) k 0 ≡ get_or u (length u + k - n) 0
history-get n k u low =
    let size : length (replicate n 0) ≡ n = length-replicate {A = ℕ} n 0 in
    let e : length u + k ≡ length (replicate n 0) + (length u + k - n) = omega (arith, size, low) in
    get_or-drop (length u) (replicate n 0 ++ u) k 0
    ∙ (ap (λ m. get_or (replicate n 0 ++ u) m 0) e ∙ get_or-append-add (replicate n 0) u (length u + k - n) 0)

pub history-size : (n : ℕ) (u : List ℕ) → length (last_bytes n u) ≡ n
history-size n u = omega (arith, length-drop (length u) (replicate n 0 ++ u), length-append (replicate n 0) u, length-replicate {A = ℕ} n 0)

-- the last ones of them
pub history-end : (n k : ℕ) (u : List ℕ) → k ≤ n → k ≤ length u → drop (n - k) (last_bytes n u) ≡ drop (length u - k) u
history-end n k u small within =
    let size : length (replicate n 0) ≡ n = length-replicate {A = ℕ} n 0 in
    let e : length u + (n - k) ≡ length (replicate n 0) + (length u - k) = omega (arith, size, small, within) in
    drop-drop (length u) (n - k) (replicate n 0 ++ u)
    ∙ (ap (λ m. drop m (replicate n 0 ++ u)) e ∙ drop-append-add (replicate n 0) u (length u - k))

prev-read : (u : List ℕ) (n : ℕ) → length u ≡ n → prev_from n (get_or u (n - 1) 0) ≡ prev_at u n
unfolding prev_at
prev-read u zero size = refl
prev-read u (suc m) size =
    let e : suc m - 1 ≡ m = omega arith in
    ap (λ k. prev_from (suc m) (get_or u k 0)) e ∙ ap prev_behind (sym (slice_get-get_or u m 0 (omega (arith, size))))

pub prev-spot : (u : List ℕ) → prev_from (length u) (get_or (last_bytes 64 u) 63 0) ≡ prev_at u (length u)
prev-spot [] = prev-read [] 0 refl
prev-spot (b ∷ u) =
    let e : length (b ∷ u) + 63 - 64 ≡ length (b ∷ u) - 1 = omega arith in
    ap (prev_from (length (b ∷ u))) (history-get 64 63 (b ∷ u) (omega arith) ∙ ap (λ k. get_or (b ∷ u) k 0) e)
    ∙ prev-read (b ∷ u) (length (b ∷ u)) refl

pub length-push : (u : List ℕ) (b : ℕ) → length (u ++ b ∷ []) ≡ length u + 1
length-push u b = length-append u (b ∷ [])

prev-suc : (u : List ℕ) (b : ℕ) → prev_at (u ++ b ∷ []) (suc (length u)) ≡ prev_by (eqb b line_feed) (is_word_byte b)
unfolding prev_at
prev-suc u b = ap prev_behind (slice_get-seam u b [])

pub prev-push : (u : List ℕ) (b : ℕ) → prev_at (u ++ b ∷ []) (length (u ++ b ∷ [])) ≡ prev_by (eqb b line_feed) (is_word_byte b)
prev-push u b =
    let count : length (u ++ b ∷ []) ≡ suc (length u) = omega (arith, length-push u b) in
    ap (prev_at (u ++ b ∷ [])) count ∙ prev-suc u b

pub history-push : (u : List ℕ) (b : ℕ) → drop 1 (last_bytes 64 u ++ b ∷ []) ≡ last_bytes 64 (u ++ b ∷ [])
history-push u b = sym (last_bytes-follow 64 u (b ∷ []))

pub drop-push : (xs : List ℕ) (b : ℕ) → 1 ≤ length xs → drop 1 xs ++ b ∷ [] ≡ drop 1 (xs ++ b ∷ [])
drop-push xs b some = sym (drop-append-le 1 xs (b ∷ []) some)

-- the last k bytes, as they are read from the history
pub history-tail : (history u : List ℕ) (k m : ℕ) → history ≡ last_bytes 64 u → k ≡ m → k ≤ 32 → m ≤ length u → take (64 - (64 - k)) (drop (64 - k) history) ≡ drop (length u - m) u
history-tail history u k m past same small within =
    let size : length history ≡ 64 = ap length past ∙ history-size 64 u in
    ap (λ n. take (n - (64 - k)) (drop (64 - k) history)) (sym size)
    ∙ (take_rest history (64 - k)
    ∙ (ap (drop (64 - k)) past
    ∙ (history-end 64 k u (omega (arith, small)) (omega (arith, within, same)) ∙ ap (λ n. drop (length u - n) u) same)))

pub drop-first : (history : List ℕ) (b : ℕ) → length history ≡ 64 → take 63 (drop 1 history) ++ b ∷ [] ≡ drop 1 (history ++ b ∷ [])
drop-first history b size =
    let e : 63 ≡ length history - 1 = omega (arith, size) in
    ap (λ n. take n (drop 1 history) ++ b ∷ []) e ∙ (ap (λ xs. xs ++ b ∷ []) (take_rest history 1) ∙ drop-push history b (omega (arith, size)))
