-- Maps by bytes: what a change at some bytes leaves at others.
use Rattle.std.proofs.Common.{◌≡◌, ◌≢◌, ℕ, Bool, true, false, List, Option, refl, sym, ◌∙◌}
use Rattle.std.proofs.lemmas.Map.Text.{is_eq-slice_cmp}
use Rattle.std.proofs.lemmas.Slice.Eq.{bytes_eq-Decides}
use Rattle.std.specs.BTreeMap as tree
use Rattle.std.specs.BTreeMap.{BTreeMap}
use Rattle.std.specs.Map.{lookup, IsKeyTest, AreApart, KeepsOthers}
use Rattle.std.specs.Ordering.{is_eq, nat_cmp}
use Rattle.std.specs.Cmp.{eq_by_cmp_equiv}
use Rattle.std.specs.Cmp.Lexicographic.{slice_cmp, nat_list_cmp_total}
use Rattle.std.specs.declared.vec.Vec.{Vec}

kept_entries : {K X : Type 0} (eq : K → K → Bool) (test : K → Bool) (old new : List (K × X)) → KeepsOthers eq test old new → (other : K → Bool) → IsKeyTest eq other → AreApart test other → lookup other new ≡ lookup other old
unfolding KeepsOthers
kept_entries eq test old new h = h

-- keys that are equal to some bytes are equal to no others
apart : (bs cs ks : List ℕ) → cs ≢ bs → is_eq (slice_cmp nat_cmp bs ks) ≡ true → is_eq (slice_cmp nat_cmp cs ks) ≡ false
apart bs cs ks other same = by_test (is_eq (slice_cmp nat_cmp cs ks)) refl
  where
    key_is : (xs : List ℕ) → is_eq (slice_cmp nat_cmp xs ks) ≡ true → xs ≡ ks
    key_is xs e = (bytes_eq-Decides xs ks).0 (sym (is_eq-slice_cmp xs ks) ∙ e)

    by_test : (t : Bool) → is_eq (slice_cmp nat_cmp cs ks) ≡ t → is_eq (slice_cmp nat_cmp cs ks) ≡ false
    by_test false e = e
    by_test true e = absurd (other (key_is cs e ∙ sym (key_is bs same)))

-- where the map changed at some bytes, other bytes have what they had
pub others_kept : {X Y : Type 0} (bs : List ℕ) (m n : BTreeMap (Vec ℕ Y) X) (w : Option X) → tree.UpdatesBy (λ x y. slice_cmp nat_cmp x.items y.items) (λ k. slice_cmp nat_cmp bs k.items) m n w → (cs : List ℕ) → cs ≢ bs → tree.get_by (λ k. slice_cmp nat_cmp cs k.items) n ≡ tree.get_by (λ k. slice_cmp nat_cmp cs k.items) m
others_kept bs m n w h cs other =
    kept_entries _ _ _ _ h.3 _ (λ x y. (eq_by_cmp_equiv nat_list_cmp_total).congr cs x.items y.items) (λ k. apart bs cs k.items other)
