-- An engine that is passed over: nothing is live, and nothing enters it or no byte wakes it.
use Rattle.std.proofs.Common.{◌≡◌, ◌⊎◌, ◌↔◌, ℕ, zero, suc, ◌+◌, ◌<◌, ◌≤◌, Bool, true, false, ◌||◌, List, [], ◌∷◌, ◌++◌, length, get_or, take, sym, ap, subst, inl, inr, arith}
use Rattle.std.proofs.lemmas.List.{append-nil, take_all}
use Rattle.hs_base.specs.declared.context.Next.{Next}
use Rattle.hs_base.specs.declared.context.Next.TheVariants as after
use Rattle.hs_base.specs.Chains.{Piece, piece_tree, IsFitChain}
use Rattle.hs_base.specs.Contexts.{class_of}
use Rattle.hs_base.specs.Leaving.{IsEmptyAt, LeavesAt, LeavesBehind}
use Rattle.hs_base.proofs.ChainStreamLemmas.{leaves-last}
use Rattle.hs_base.proofs.EntryLemmas.{entries-grow, leaves-listed}
use Rattle.hs_bits.proofs.BlockLemmas.{block-more}
use Rattle.hs_engine.specs.Engines.{Meaning, LeavesNothing, Stays}
use Rattle.hs_nodes.specs.Pieces.{IsHeld}
use Rattle.hs_nodes.proofs.FlatLemmas.{AreLeftNowhere}

module _ (m : Meaning) (pieces rest : List Piece) (piece : Piece) (region u bytes : List ℕ) (enters : ℕ → Bool) (fit : IsFitChain (pieces ++ piece ∷ rest)) (runs : m.is_for (piece_tree piece)) (never : m.always ≡ false)
    (entered_is : (i : ℕ) → i < length bytes → (enters i ≡ true) ↔ LeavesAt pieces (u ++ take i bytes) (class_of (get_or bytes i 0))) (stays : (i : ℕ) → i < length bytes → Stays m region (get_or bytes i 0) (enters i)) (nothing : LeavesNothing m region)
    (held : IsHeld m pieces piece region u) where
  -- its field behind so many bytes
  pub passed-to : (i : ℕ) → i ≤ length bytes → IsHeld m pieces piece region (u ++ take i bytes)
  passed-to zero within = subst (λ v. IsHeld m pieces piece region v) (sym (append-nil u)) held
  passed-to (suc i) within =
      let own = passed-to i (omega arith) in
      let next : i + 1 ≡ suc i = omega arith in
      let counts : (m.always || enters i) ≡ enters i = ap (λ b. b || enters i) never in
      subst (λ n. IsHeld m pieces piece region (u ++ take n bytes)) next
      (subst (λ v. IsHeld m pieces piece region v) (block-more u bytes i (omega arith)) (record {
        entered = own.entered ++ enters i ∷ [];
        are = entries-grow pieces (u ++ take i bytes) own.entered (get_or bytes i 0) (enters i) own.are (entered_is i (omega arith));
        field = subst (λ b. m.field region (piece_tree piece) ((u ++ take i bytes) ++ get_or bytes i 0 ∷ []) (own.entered ++ b ∷ [])) counts
            (stays i (omega arith) (piece_tree piece) (u ++ take i bytes) own.entered runs own.are.count own.field);
      }))

  -- it isn't left there
  not-left : (i : ℕ) → i ≤ length bytes → (next : Next) → LeavesBehind pieces piece (u ++ take i bytes) next → ⊥
  not-left i within next leaves =
      let own = passed-to i within in
      nothing (piece_tree piece) (u ++ take i bytes) own.entered runs own.are.count own.field next ((leaves-listed pieces piece (u ++ take i bytes) own.entered next own.are).0 leaves)

  pub passed-all : IsHeld m pieces piece region (u ++ bytes)
  passed-all = subst (λ v. IsHeld m pieces piece region (u ++ v)) (take_all (length bytes) bytes (omega arith)) (passed-to (length bytes) (omega arith))

  module _ (full : (i : ℕ) → i < length bytes → LeavesAt pieces (u ++ take i bytes) (class_of (get_or bytes i 0)) → IsEmptyAt (piece_tree piece) (u ++ take i bytes) (class_of (get_or bytes i 0)) → ⊥)
      (full' : (i : ℕ) → i < length bytes → LeavesAt pieces (u ++ take (i + 1) bytes) after.Unknown → IsEmptyAt (piece_tree piece) (u ++ take (i + 1) bytes) after.Unknown → ⊥) where
    refuted : (i : ℕ) → i ≤ length bytes → (next : Next) → (LeavesAt pieces (u ++ take i bytes) next → IsEmptyAt (piece_tree piece) (u ++ take i bytes) next → ⊥) →
        LeavesBehind pieces piece (u ++ take i bytes) next ⊎ (LeavesAt pieces (u ++ take i bytes) next × IsEmptyAt (piece_tree piece) (u ++ take i bytes) next) → ⊥
    refuted i within next none (inl leaves) = not-left i within next leaves
    refuted i within next none (inr both) = none both.0 both.1

    -- so the pieces up to it are left nowhere
    pub passed-nowhere : AreLeftNowhere (pieces ++ piece ∷ []) u bytes
    passed-nowhere = record {
      before = λ i low leaves. refuted i (omega arith) (class_of (get_or bytes i 0)) (full i low) (leaves-last pieces rest piece (u ++ take i bytes) (class_of (get_or bytes i 0)) fit leaves);
      behind = λ i low leaves. refuted (i + 1) (omega arith) after.Unknown (full' i low) (leaves-last pieces rest piece (u ++ take (i + 1) bytes) after.Unknown fit leaves);
    }
