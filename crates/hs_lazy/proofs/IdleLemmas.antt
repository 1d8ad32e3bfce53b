-- States in which nothing is live, and the members of bytes.
use Rattle.std.proofs.Common.{◌≡◌, ℕ, ◌+◌, ◌-◌, ◌<◌, ◌≤◌, inl, inr, Bool, true, false, List, [], ◌∷◌, ◌++◌, length, replicate, Some, slice_get, slice_index, sym, ap, subst, ◌∙◌, arith}
use Rattle.std.specs.Prelude.{if◌then◌else◌}
use Rattle.std.proofs.lemmas.Bool.{cases_eq}
use Rattle.std.proofs.lemmas.List.{get_or-replicate, length-replicate}
use Rattle.hs_base.specs.declared.context.Prev.{Prev}
use Rattle.hs_base.specs.Bits.{AreZero, has_word_bit}
use Rattle.hs_base.proofs.RegionLemmas.{get-range}
use Rattle.hs_lazy.specs.declared.parts.Member.{Member}
use Rattle.hs_lazy.specs.declared.parts.State.{State}
use Rattle.hs_lazy.specs.Parts.{AreFewer, AreLive, AreMembersApart, AreOwned, AreOwnersLive, AreStillThere, IsIdleState, IsLive, IsState}
use Rattle.hs_lazy.proofs.PartLemmas.{size-range, zero-range}
use Rattle.hs_lazy.proofs.TableLemmas.{get-either}

-- a state whose whole image is 0
pub zero-idle : (members : List Member) (states : List State) (s : ℕ) (image : List ℕ) (prev : Prev) → AreLive members states → IsState states s image prev → image ≡ replicate 512 0 →
    IsIdleState members states s prev
zero-idle members states s image prev live state zeros =
    let all : state.state.image ≡ replicate 512 0 = state.image_is ∙ zeros in
    record {
      state = state.state;
      is = state.is;
      whole = live s state.state state.is;
      zero = λ k m is. zero-range state.state.image m.start m.end
          (subst AreZero (sym all) (λ i low. get_or-replicate 512 i 0 0 (omega (arith, low, length-replicate {A = ℕ} 512 0))));
      prev_is = state.prev_is;
    }

-- it stays one
pub idle-kept : (members members' : List Member) (states states' : List State) (s : ℕ) (prev : Prev) → members' ≡ members → AreStillThere states states' →
    IsIdleState members states s prev → IsIdleState members' states' s prev
idle-kept members members' states states' s prev same kept state =
    subst (λ l. IsIdleState l states' s prev) (sym same)
    (record { state = state.state; is = kept s state.state state.is; whole = state.whole; zero = state.zero; prev_is = state.prev_is })

-- one byte more
pub owners-more : (owners image live live' : List ℕ) (n : ℕ) → ((k : ℕ) → has_word_bit live' k ≡ false → has_word_bit live k ≡ false) →
    (has_word_bit live' (slice_index owners n) ≡ false → slice_index image n ≡ 0) → AreOwnersLive owners image live n → AreOwnersLive owners image live' (n + 1)
owners-more owners image live live' n fewer last done i low unset = elim (cases_eq i n) [
  | inl same ↦ ap (slice_index image) same ∙ last (ap (λ j. has_word_bit live' (slice_index owners j)) (sym same) ∙ unset)
  | inr other ↦ done i (omega (arith, low, other)) (fewer (slice_index owners i) unset)
]

-- a member of whose bytes each that isn't 0 has the bit
pub owners-live : (members : List Member) (owners image live : List ℕ) → AreOwned members owners → AreMembersApart members → AreOwnersLive owners image live 512 →
    IsLive members image live
owners-live members owners image live owned apart all k m is unset i low =
    let near : i < m.end - m.start = size-range image m.start m.end i low in
    let within : m.end ≤ 512 = apart.within k m is in
    get-range image m.start m.end i near ∙
    all (m.start + i) (omega (arith, near, within))
    (ap (has_word_bit live) (owned k (m.start + i) m is (omega arith) (omega (arith, near))) ∙ unset)

-- members where one may have been put behind
pub owned-pushed : (old new : List Member) (m : Member) (b : Bool) (owners owners' : List ℕ) → new ≡ (if b then old ++ m ∷ [] else old) →
    ((k : ℕ) (x : Member) → slice_get old k ≡ Some x → x.end ≤ m.start) →
    ((i : ℕ) → i < m.start → slice_index owners' i ≡ slice_index owners i) →
    ((i : ℕ) → m.start ≤ i → i < m.end → slice_index owners' i ≡ length old) → AreOwned old owners → AreOwned new owners'
owned-pushed old new m false owners owners' same behind before own owned k i x is low high =
    let there : slice_get old k ≡ Some x = subst (λ (l : List Member). slice_get l k ≡ Some x) same is in
    before i (omega (arith, high, behind k x there)) ∙ owned k i x there low high
owned-pushed old new m true owners owners' same behind before own owned k i x is low high = elim (get-either old m k x (subst (λ (l : List Member). slice_get l k ≡ Some x) same is)) [
  | inl there ↦ before i (omega (arith, high, behind k x there)) ∙ owned k i x there low high
  | inr here ↦
      own i (subst (λ (y : Member). y.start ≤ i) here.1 low) (subst (λ (y : Member). i < y.end) here.1 high) ∙ sym here.0
]

-- and where some were given up
pub fewer-owned : (old new : List Member) (owners : List ℕ) → AreFewer old new → AreOwned old owners → AreOwned new owners
fewer-owned old new owners fewer owned k i m is low high =
    let (b, b_is, same) = fewer k m is in
    owned k i b b_is (omega (arith, low, same.start_is)) (omega (arith, high, same.end_is))
