-- A piece behind others over a block: from where those are left to where the piece is.
use Rattle.std.proofs.Common.{◌≡◌, ◌↔◌, ◌⊎◌, ℕ, zero, suc, ◌+◌, ◌≤◌, Bool, true, false, ◌&&◌, ◌||◌, List, [], ◌∷◌, ◌++◌, length, get_or, take, refl, sym, subst, ◌∙◌, inl, inr, arith}
use Rattle.std.proofs.lemmas.List.{append-nil, take_all}
use Rattle.hs_base.specs.declared.context.Next.{Next}
use Rattle.hs_base.specs.declared.context.Next.TheVariants as after
use Rattle.hs_base.specs.Chains.{Piece, piece_tree, IsFitChain}
use Rattle.hs_base.specs.Contexts.{class_of}
use Rattle.hs_base.specs.Leaving.{AreEntered, IsEmptyAt, LeavesAt, LeavesBehind}
use Rattle.hs_base.specs.Fields.{Leaves}
use Rattle.hs_base.proofs.ChainStreamLemmas.{leaves-last, last-leaves}
use Rattle.hs_base.proofs.EntryLemmas.{entries-grow, leaves-listed}
use Rattle.hs_bits.specs.WordBits.{word_bit, bits_of}
use Rattle.hs_block.specs.Scans.{Scans}
use Rattle.hs_bits.proofs.BlockLemmas.{block-more, entered-more}
use Rattle.hs_nodes.specs.Left.{AreLeft}
use Rattle.hs_nodes.specs.Pieces.{AreEmptyAt}

-- the entries of the piece go on with the word
pub entries-on : (pieces : List Piece) (u bytes : List ℕ) (entered : List Bool) (enters enters' : ℕ) → AreEntered pieces u entered → AreLeft pieces u bytes enters enters' → (i : ℕ) → i ≤ length bytes →
    AreEntered pieces (u ++ take i bytes) (entered ++ bits_of enters i)
entries-on pieces u bytes entered enters enters' are left zero within =
    subst (λ v. AreEntered pieces v (entered ++ [])) (sym (append-nil u)) (subst (λ es. AreEntered pieces u es) (sym (append-nil entered)) are)
entries-on pieces u bytes entered enters enters' are left (suc i) within =
    let next : i + 1 ≡ suc i = omega arith in
    let own = entries-on pieces u bytes entered enters enters' are left i (omega arith) in
    let more : AreEntered pieces ((u ++ take i bytes) ++ get_or bytes i 0 ∷ []) ((entered ++ bits_of enters i) ++ word_bit enters i ∷ []) =
    entries-grow pieces (u ++ take i bytes) (entered ++ bits_of enters i) (get_or bytes i 0) (word_bit enters i) own (left.before_is.below i (omega arith)) in
    subst (λ n. AreEntered pieces (u ++ take n bytes) (entered ++ bits_of enters n)) next
    (subst (λ v. AreEntered pieces v (entered ++ bits_of enters (i + 1))) (block-more u bytes i (omega arith)) (subst (λ es. AreEntered pieces ((u ++ take i bytes) ++ get_or bytes i 0 ∷ []) es) (entered-more entered enters i) more))

-- the word is where one of two words says so, of which the other is a part of two
abbrev pub IsThrough : (through out enters null : ℕ) → Type 0
IsThrough through out enters null = (i : ℕ) → word_bit through i ≡ (word_bit out i || (word_bit enters i && word_bit null i))

through-left : (out enters null : Bool) → out ≡ true → (out || (enters && null)) ≡ true
through-left true enters null e = refl
through-left false enters null e = absurd (cc)

through-both : (out enters null : Bool) → enters ≡ true → null ≡ true → (out || (enters && null)) ≡ true
through-both true enters null e e' = refl
through-both false true true e e' = refl
through-both false true false e e' = e'
through-both false false null e e' = e

through-either : (out enters null : Bool) → (out || (enters && null)) ≡ true → (out ≡ true) ⊎ ((enters ≡ true) × (null ≡ true))
through-either true enters null e = inl refl
through-either false true true e = inr (refl, refl)
through-either false true false e = absurd (cc)
through-either false false null e = absurd (cc)

through-none : (out enters null : Bool) → out ≡ false → enters ≡ false → (out || (enters && null)) ≡ false
through-none false false null e e' = refl
through-none true enters null e e' = e
through-none false true null e e' = absurd (cc)

module _ (pieces rest : List Piece) (piece : Piece) (u : List ℕ) (next : Next) (fit : IsFitChain (pieces ++ piece ∷ rest)) (out enters null : Bool)
    (out_is : (out ≡ true) ↔ LeavesBehind pieces piece u next) (enters_is : (enters ≡ true) ↔ LeavesAt pieces u next) (null_is : enters ≡ true → (null ≡ true) ↔ IsEmptyAt (piece_tree piece) u next) where
  left-by : (out ≡ true) ⊎ ((enters ≡ true) × (null ≡ true)) → LeavesAt (pieces ++ piece ∷ []) u next
  left-by (inl e) = last-leaves pieces rest piece u next fit (inl (out_is.0 e))
  left-by (inr e) = last-leaves pieces rest piece u next fit (inr (enters_is.0 e.0, (null_is e.0).0 e.1))

  by-left : LeavesBehind pieces piece u next ⊎ (LeavesAt pieces u next × IsEmptyAt (piece_tree piece) u next) → (out || (enters && null)) ≡ true
  by-left (inl leaves) = through-left out enters null (out_is.1 leaves)
  by-left (inr both) = through-both out enters null (enters_is.1 both.0) ((null_is (enters_is.1 both.0)).1 both.1)

  -- the pieces and one more are left where that one is, or where they are and it is empty
  pub left-through : ((out || (enters && null)) ≡ true) ↔ LeavesAt (pieces ++ piece ∷ []) u next
  left-through = (λ e. left-by (through-either out enters null e), λ leaves. by-left (leaves-last pieces rest piece u next fit leaves))

both-ways : {A B C : Type 0} → A ↔ B → B ↔ C → A ↔ C
both-ways f g = (λ a. g.0 (f.0 a), λ c. f.1 (g.1 c))

back : {A B : Type 0} → A ↔ B → B ↔ A
back f = (f.1, f.0)

same-true : (a b : Bool) → a ≡ b → (a ≡ true) ↔ (b ≡ true)
same-true a b e = (λ is. sym e ∙ is, λ is. e ∙ is)

module _ (Field : List ℕ → List Bool → Type 0) (pieces rest : List Piece) (piece : Piece) (u bytes : List ℕ) (entered : List Bool) (enters enters' null null' out out' before behind : ℕ)
    (fit : IsFitChain (pieces ++ piece ∷ rest)) (left : AreLeft pieces u bytes enters enters') (are : AreEntered pieces u entered)
    (empty : AreEmptyAt (piece_tree piece) u bytes enters enters' null null') (scans : Scans Field (piece_tree piece) u entered bytes enters out out') (through : IsThrough before out enters null) (through' : IsThrough behind out' enters' null') where
  at : (i : ℕ) → i ≤ length bytes → (next : Next) → (o e n : Bool) → (o ≡ true) ↔ Leaves (piece_tree piece) (u ++ take i bytes) (entered ++ bits_of enters i) next → (e ≡ true) ↔ LeavesAt pieces (u ++ take i bytes) next →
      (e ≡ true → (n ≡ true) ↔ IsEmptyAt (piece_tree piece) (u ++ take i bytes) next) → ((o || (e && n)) ≡ true) ↔ LeavesAt (pieces ++ piece ∷ []) (u ++ take i bytes) next
  at i within next o e n o_is e_is n_is =
      left-through pieces rest piece (u ++ take i bytes) next fit o e n
      (both-ways o_is (back (leaves-listed pieces piece (u ++ take i bytes) (entered ++ bits_of enters i) next (entries-on pieces u bytes entered enters enters' are left i within))))
      e_is
      n_is

  -- where the pieces and one more are left in a block
  pub piece-left : AreLeft (pieces ++ piece ∷ []) u bytes before behind
  piece-left = record {
    before_is = record {
      below = λ i low. both-ways (same-true (word_bit before i) (word_bit out i || (word_bit enters i && word_bit null i)) (through i))
          (at i (omega arith) (class_of (get_or bytes i 0)) (word_bit out i) (word_bit enters i) (word_bit null i) (scans.before_is.below i low) (left.before_is.below i low) (empty.before_is i low));
      above = λ i high. through i ∙ through-none (word_bit out i) (word_bit enters i) (word_bit null i) (scans.before_is.above i high) (left.before_is.above i high);
    };
    behind_is = record {
      below = λ i low. both-ways (same-true (word_bit behind i) (word_bit out' i || (word_bit enters' i && word_bit null' i)) (through' i))
          (at (i + 1) (omega arith) after.Unknown (word_bit out' i) (word_bit enters' i) (word_bit null' i) (scans.behind_is.below i low) (left.behind_is.below i low) (empty.behind_is i low));
      above = λ i high. through' i ∙ through-none (word_bit out' i) (word_bit enters' i) (word_bit null' i) (scans.behind_is.above i high) (left.behind_is.above i high);
    };
  }

  -- and its entries behind the block
  pub piece-entered : AreEntered pieces (u ++ bytes) (entered ++ bits_of enters (length bytes))
  piece-entered = subst (λ v. AreEntered pieces (u ++ v) (entered ++ bits_of enters (length bytes))) (take_all (length bytes) bytes (omega arith)) (entries-on pieces u bytes entered enters enters' are left (length bytes) (omega arith))
