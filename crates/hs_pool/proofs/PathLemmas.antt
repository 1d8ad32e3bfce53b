-- A block that is taken by known steps of a pool.
use Rattle.std.proofs.Common.{◌≡◌, ℕ, zero, suc, ◌+◌, ◌-◌, ◌<◌, ◌≤◌, inl, inr, false, ◌==◌, List, length, take, Some, slice_get, slice_index, refl, sym, ap, subst, ◌∙◌, arith}
use Rattle.hs_base.specs.declared.context.Prev.{Prev}
use Rattle.hs_base.specs.Bits.{AreZero}
use Rattle.hs_bits.specs.WordBits.{word_bit}
use Rattle.hs_engine.specs.Engines.{Meaning}
use Rattle.hs_pool.specs.Blocks.{AreZerosIdle, IsIdleRegion, TakesBlock}
use Rattle.hs_pool.specs.Following.{IsKnownRun, state_to, step_of}
use Rattle.hs_pool.specs.Pools.{IsPoolAt, IsStep}
use Rattle.hs_pool.specs.Rows.{IsSink, ends_of_step}
use Rattle.hs_pool.specs.Running.{IsPath, IsUnwokenTo, prev_to}
use Rattle.hs_engine.specs.Timeless.{TakesStep}
use Rattle.hs_pool.specs.declared.following.Taken.{Taken}
use Rattle.hs_pool.specs.declared.pool.StatePool.{StatePool}
use Rattle.hs_engine.specs.declared.ends.BlockEnds.{BlockEnds}
use Rattle.hs_pool.specs.declared.state.State.{State}
use Rattle.hs_pool.proofs.FollowLemmas.{sinks}
use Rattle.hs_pool.proofs.RunLemmas.{IsTakenTo, asleep-step, taken-all, taken-more, taken-none}
use Rattle.hs_pool.proofs.StepLemmas.{no-bit}

module _ (m : Meaning) (old : List ℕ) (prev : Prev) (enters : ℕ) (bytes : List ℕ) (ends : BlockEnds) (from : ℕ) (listed : m.always ≡ false) (unwoken : IsUnwokenTo m enters bytes from)
    (small : (i : ℕ) → slice_index bytes i < 256) (idle : 0 < from → IsIdleRegion m old)
    (befores : (i : ℕ) → i < from → word_bit ends.before i ≡ false) (behinds : (i : ℕ) → i < from → word_bit ends.behind i ≡ false) where
  -- bytes that wake nothing leave all as it is
  pub asleep-to : (n : ℕ) → n ≤ from → n ≤ length bytes → IsTakenTo m old prev enters bytes ends old n
  asleep-to zero low within = taken-none m old prev enters bytes ends
  asleep-to (suc n) low within =
      let next : n + 1 ≡ suc n = omega arith in
      subst (λ k. IsTakenTo m old prev enters bytes ends old k) next
      (taken-more m old prev enters bytes ends old old n (record { before = false; behind = false }) (omega (arith, within)) (asleep-to n (omega (arith, low)) (omega (arith, within)))
      (asleep-step m old (idle (omega (arith, low))) listed unwoken.wakers (prev_to prev bytes n) (word_bit enters n) (slice_index bytes n) unwoken.are (small n) (unwoken.none n (omega (arith, low))))
      (befores n (omega (arith, low))) (behinds n (omega (arith, low))))

module _ (m : Meaning) (old : List ℕ) (prev : Prev) (enters : ℕ) (bytes : List ℕ) (ends : BlockEnds) (pool : StatePool) (number first from : ℕ) (sound : IsPoolAt m number pool) where
  abbrev at : ℕ → ℕ
  at k = state_to pool.rows.items first from enters bytes k

  abbrev step : ℕ → ℕ
  step k = step_of pool.rows.items first from enters bytes k

  -- where the steps have led so many bytes on
  pub record IsHere (k : ℕ) : Type 0 where
    pub state : State
    pub is : slice_get pool.states.items (at k) ≡ Some state
    pub engine_is : state.engine ≡ number
    pub prev_is : state.prev ≡ prev_to prev bytes (from + k)
    pub taken : IsTakenTo m old prev enters bytes ends (take m.width state.region) (from + k)
    pub well : 0 < k → (offset : ℕ) → m.well (take m.width state.region) offset

  pub here-more : (k : ℕ) → from + k < length bytes → slice_index bytes (from + k) < 256 → (at (suc k) ≡ 0 → ⊥) →
      word_bit ends.before (from + k) ≡ word_bit (step k) 0 → word_bit ends.behind (from + k) ≡ word_bit (step k) 1 → IsHere k → IsHere (suc k)
  here-more k low small known before behind here =
      let one : IsStep m pool.states.items here.state (word_bit enters (from + k)) (slice_index bytes (from + k)) (step k) =
      sound (at k) here.state (word_bit enters (from + k)) (slice_index bytes (from + k)) here.is here.engine_is small known in
      let next : suc (from + k) ≡ from + suc k = omega arith in
      let more : from + k + 1 ≡ from + suc k = omega arith in
      record {
        state = one.next;
        is = one.is;
        engine_is = one.engine_is ∙ here.engine_is;
        prev_is = one.prev_is ∙ ap (prev_to prev bytes) next;
        taken =
            subst (λ n. IsTakenTo m old prev enters bytes ends (take m.width one.next.region) n) more
            (taken-more m old prev enters bytes ends (take m.width here.state.region) (take m.width one.next.region) (from + k) (ends_of_step (step k)) low here.taken
            (subst (λ p. TakesStep m (take m.width here.state.region) (take m.width one.next.region) p (word_bit enters (from + k)) (slice_index bytes (from + k)) (ends_of_step (step k))) here.prev_is one.takes)
            before behind);
        well = λ some. one.takes.well;
      }

  pub here-all : IsHere 0 → ((i : ℕ) → slice_index bytes i < 256) → (taken : Taken) → taken.ends ≡ ends → IsKnownRun pool.rows.items first from enters bytes taken → IsSink pool.rows.items →
      (k : ℕ) → from + k ≤ length bytes → IsHere k
  here-all start small taken same run sink zero low = start
  here-all start small taken same run sink (suc k) low =
      here-more k (omega (arith, low)) (small (from + k))
      (λ none. run.some (run.state_is ∙ sinks pool.rows.items first from enters bytes sink (suc k) (length bytes - from) (omega (arith, low)) none))
      (ap (λ (e : BlockEnds). word_bit e.before (from + k)) (sym same) ∙ run.before_is k (omega (arith, low)))
      (ap (λ (e : BlockEnds). word_bit e.behind (from + k)) (sym same) ∙ run.behind_is k (omega (arith, low)))
      (here-all start small taken same run sink k (omega (arith, low)))

pub some-of : (n : ℕ) → (n == 0) ≡ false → 0 < n
some-of zero none = absurd (cc)
some-of (suc n) none = omega arith

-- a block that wakes nothing
pub block-asleep : (m : Meaning) (old : List ℕ) (prev : Prev) (enters : ℕ) (bytes : List ℕ) → m.always ≡ false → IsUnwokenTo m enters bytes (length bytes) → ((i : ℕ) → slice_index bytes i < 256) → IsIdleRegion m old →
    TakesBlock m old old prev enters bytes (record { before = 0; behind = 0 })
block-asleep m old prev enters bytes listed unwoken small idle =
    taken-all m old prev enters bytes (record { before = 0; behind = 0 }) old
    (asleep-to m old prev enters bytes (record { before = 0; behind = 0 }) (length bytes) listed unwoken small (λ some. idle) (λ i low. no-bit i) (λ i low. no-bit i) (length bytes) (omega arith) (omega arith))
    refl idle.well (λ i high. no-bit i) (λ i high. no-bit i)

-- a block by a path of steps
pub block-taken : (m : Meaning) (old region : List ℕ) (prev : Prev) (enters : ℕ) (bytes : List ℕ) (pool : StatePool) (number from : ℕ) (taken : Taken) → m.always ≡ false → AreZerosIdle m → length old ≡ m.width →
    IsUnwokenTo m enters bytes from → (0 < from → AreZero old) → ((i : ℕ) → slice_index bytes i < 256) → IsPoolAt m number pool → IsSink pool.rows.items → from < length bytes →
    IsPath pool number old (prev_to prev bytes from) from enters bytes taken →
    length region ≡ length old → ((own : State) → slice_get pool.states.items taken.state ≡ Some own → region ≡ take (length old) own.region) →
    TakesBlock m old region prev enters bytes taken.ends
block-taken m old region prev enters bytes pool number from taken listed zeros sized unwoken blank small sound sink low path len read =
    let n : ℕ = length bytes - from in
    let whole : from + (length bytes - from) ≡ length bytes = omega (arith, low) in
    let first : List ℕ = take m.width path.padded in
    let own : first ≡ old = ap (λ w. take w path.padded) (sym sized) ∙ path.padded_is in
    let asleep : IsTakenTo m old prev enters bytes taken.ends old from =
    asleep-to m old prev enters bytes taken.ends from listed unwoken small (λ some. zeros old sized (blank some)) (λ i early. path.run.before_others i (inl early)) (λ i early. path.run.behind_others i (inl early)) from (omega arith) (omega (arith, low)) in
    let none : from ≡ from + 0 = omega arith in
    let start : IsHere m old prev enters bytes taken.ends pool number path.first from sound 0 = record {
      state = path.starts.state;
      is = path.starts.is;
      engine_is = path.starts.of.engine_is;
      prev_is = path.starts.of.prev_is ∙ ap (prev_to prev bytes) none;
      taken =
          subst (λ k. IsTakenTo m old prev enters bytes taken.ends (take m.width path.starts.state.region) k) none
          (subst (λ r. IsTakenTo m old prev enters bytes taken.ends (take m.width r) from) (sym path.starts.of.region_is)
          (subst (λ r. IsTakenTo m old prev enters bytes taken.ends r from) (sym own) asleep));
      well = λ some. absurd (omega (arith, some));
    } in
    let last : IsHere m old prev enters bytes taken.ends pool number path.first from sound (length bytes - from) =
    here-all m old prev enters bytes taken.ends pool number path.first from sound start small taken refl path.run sink (length bytes - from) (omega (arith, low)) in
    let is : region ≡ take m.width last.state.region =
    read last.state (subst (λ s. slice_get pool.states.items s ≡ Some last.state) (sym path.run.state_is) last.is) ∙ ap (λ w. take w last.state.region) sized in
    taken-all m old prev enters bytes taken.ends region
    (subst (λ k. IsTakenTo m old prev enters bytes taken.ends region k) whole (subst (λ r. IsTakenTo m old prev enters bytes taken.ends r (from + (length bytes - from))) (sym is) last.taken))
    len (λ offset. subst (λ r. m.well r offset) (sym is) (last.well (omega (arith, low)) offset))
    (λ i high. path.run.before_others i (inr high)) (λ i high. path.run.behind_others i (inr high))
