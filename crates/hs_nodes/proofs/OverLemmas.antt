-- Nodes that are passed over since nothing enters them any more.
use Rattle.std.proofs.Common.{◌≡◌, ℕ, suc, ◌+◌, ◌-◌, ◌<◌, List, [], ◌∷◌, ◌++◌, length, get_or, take, slice_get, Option, refl, sym, subst, arith}
use Rattle.hs_base.specs.declared.context.Next.TheVariants as after
use Rattle.hs_base.specs.declared.context.Prev.TheVariants as prevs
use Rattle.hs_base.specs.Chains.{Piece, lit, nfa, IsFitChain}
use Rattle.hs_base.specs.Contexts.{class_of}
use Rattle.hs_base.specs.Literals.{LiteralByte}
use Rattle.hs_base.specs.Lists.{Each}
use Rattle.hs_base.proofs.ChainStreamLemmas.{leaving-begins}
use Rattle.hs_base.proofs.ListLemmas.{each-right}
use Rattle.hs_engine.specs.Engines.{Meaning}
use Rattle.hs_nodes.specs.declared.table.NodeKind.{NodeKind}
use Rattle.hs_nodes.specs.declared.table.NodeKind.TheVariants.{Engine, Literal, FirstLiteral, LookBack}
use Rattle.hs_nodes.specs.Nodes.{HoldsPiece, IsKindSound, IsWellPart, RunsPiece}
use Rattle.hs_nodes.specs.Openings.{MayBePassed}
use Rattle.hs_nodes.specs.Pieces.{IsHeld}
use Rattle.hs_nodes.specs.Walks.{StandsBehind}
use Rattle.hs_nodes.proofs.FlatLemmas.{AreLeftNowhere}
use Rattle.hs_nodes.proofs.KindLemmas.{one-value}
use Rattle.hs_nodes.proofs.PastLemmas.{past-none}
use Rattle.hs_nodes.proofs.RestLemmas.{ArePassed, IsPassed, IsPassedBy, root, behind, engine-passed, literal-rests}

module _ {E : Type 0} (meaning : E → Meaning) (engines : List E) where
  -- what is kept of it may stand at any offset
  pub over-well : (kind : NodeKind) (parent : Option ℕ) (part : List ℕ) (at later : ℕ) → MayBePassed meaning engines kind parent part at → IsWellPart meaning engines kind part later
  over-well (Engine number null) parent part at later may = λ e there. (may.1 e there).well later
  over-well (Literal number len) parent part at later may = record { spare = λ k high. may.1 k; early = λ k high. may.1 k }
  over-well (FirstLiteral number len) parent part at later may = tt
  over-well (LookBack pair) parent part at later may = tt

  -- what a node leaves that is passed over, since its parent is or its matches begin where the stream does
  pub node-over : (kind : NodeKind) (count size at : ℕ) (parent : Option ℕ) (literals : List (List LiteralByte)) (over pieces rest : List Piece) (piece : Piece) (part u : List ℕ) (bytes : List ℕ) → at ≡ length u → IsKindSound meaning engines count kind size → RunsPiece meaning engines literals kind pieces piece → StandsBehind kind parent over pieces →
      IsFitChain (pieces ++ piece ∷ rest) → Each (λ b. b < 256) (u ++ bytes) → MayBePassed meaning engines kind parent part at → IsPassedBy kind parent pieces u bytes → HoldsPiece meaning engines kind pieces piece part u → IsPassed meaning engines kind pieces piece part u bytes
  node-over (Engine number null) count size at parent literals over pieces rest piece part u bytes here sound of stands fit small may passed held = by passed where
    by : ArePassed parent pieces u bytes → IsPassed meaning engines (Engine number null) pieces piece part u bytes
    by (root no_parent no_pieces) = absurd (may.0 no_parent)
    by (behind some none) =
        let done = engine-passed (meaning of.value) pieces rest piece part u bytes fit of.runs (sound.each of.value of.there).1 (may.1 of.value of.there) (each-right (λ b. b < 256) u bytes small) none (held of.value of.there) in record {
          held = λ other there'. subst (λ v. IsHeld (meaning v) pieces piece part (u ++ bytes)) (one-value of.value other (slice_get engines number) of.there there') done.0;
          left = done.1;
        }
  node-over (Literal number len) count size at parent literals over pieces rest piece part u bytes here sound of stands fit small may passed held =
      let long : len ≡ suc (len - 1) = omega (arith, sound.1) in
      literal-rests meaning engines number len parent literals [] pieces rest piece part u prevs.Start bytes (len - 1) long of fit (may.1, may.0) passed held
  node-over (FirstLiteral number len) count size at parent literals over pieces rest piece part u bytes here sound of stands fit small may passed held = by passed where
    by : ArePassed parent pieces u bytes → IsPassed meaning engines (FirstLiteral number len) pieces piece part u bytes
    by (root no_parent no_pieces) = absurd (may no_parent)
    by (behind some none) =
        let none' : AreLeftNowhere [] u bytes = subst (λ ps. AreLeftNowhere ps u bytes) of.0 none in record {
          held = tt;
          left = record {
            before = λ i low leaves. none'.before i low ((leaving-begins (u ++ take i bytes) (class_of (get_or bytes i 0))).0 refl);
            behind = λ i low leaves. none'.behind i low ((leaving-begins (u ++ take (i + 1) bytes) after.Unknown).0 refl);
          };
        }
  node-over (LookBack pair) count size at parent literals over pieces rest piece part u bytes here sound of stands fit small may passed held =
      let value = of.literal.value in
      let begins = may stands in
      let fit' : IsFitChain (nfa of.tree ∷ lit value ∷ rest) = subst (λ p. IsFitChain (nfa of.tree ∷ p ∷ rest)) of.literal.is (subst (λ ps. IsFitChain (ps ++ piece ∷ rest)) of.before fit) in
      let none = past-none (meaning of.engine.value) pair (sound.0.edges of.engine.value of.engine.there) begins.0 of.tree value rest u bytes of.engine.runs of.engine.null_is of.narrow (omega (arith, of.literal.count, sound.2)) (omega (arith, of.literal.count, sound.2)) fit' (omega (arith, begins.1, here)) small in
      record {
        held = tt;
        left = subst (λ ps. AreLeftNowhere (ps ++ piece ∷ []) u bytes) (sym of.before) (subst (λ p. AreLeftNowhere (nfa of.tree ∷ p ∷ []) u bytes) (sym of.literal.is) none);
      }
