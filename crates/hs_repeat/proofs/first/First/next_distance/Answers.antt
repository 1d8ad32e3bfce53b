use Rattle.std.proofs.Common.{◌≡◌, ℕ, ◌<◌, ◌+◌, true, false, [], ◌∷◌, ◌++◌, refl, arith}
use Rattle.hs_base.specs.ByteSets.{has, members}
use Rattle.hs_base.specs.RepeatRows.{IsAway}
use Rattle.hs_base.specs.RepeatRows.IsFirstDistance.{none}
use Rattle.hs_repeat.proofs.DistanceLemmas.{away-moves, away-none}
use Rattle.hs_repeat.proofs.FirstLemmas.{first-entered, first-farther, first-rests}
use Rattle.hs_repeat.proofs.first.First.next_distance.Goals as goal

pub returns-then-not-contains-clause-moves : goal.returns-then-not-contains-clause-moves
returns-then-not-contains-clause-moves c u entered len first =
    let b : ℕ = c.args.byte in
    let byte : b < 256 = omega arith in
    let outside : has c.args.self.now.farthest.set b ≡ false = cc (c.contains.ensures, c.if-not-contains.true) in
    none refl (away-none c.args.self.now.farthest.set u entered len b byte c.args.entering outside)

pub returns-then-entering-clause-moves : goal.returns-then-entering-clause-moves
returns-then-entering-clause-moves c u entered len first =
    let b : ℕ = c.args.byte in
    let byte : b < 256 = omega arith in
    let set = c.args.self.now.farthest.set in
    let inside : has set b ≡ true = cc (c.contains.ensures, c.if-not-contains.false) in
    first-entered c.args.self.now.farthest.bound (IsAway (members set) u entered) (IsAway (members set) (u ++ b ∷ []) (entered ++ c.args.entering ∷ [])) c.args.entering c.args.distance (omega (arith, c.args.self.now.farthest.some))
    (away-moves set u entered len b byte c.args.entering inside) first c.if-distance-eq0.true c.if-entering.true

pub returns-else-entering-clause-moves : goal.returns-else-entering-clause-moves
returns-else-entering-clause-moves c u entered len first =
    let b : ℕ = c.args.byte in
    let byte : b < 256 = omega arith in
    let set = c.args.self.now.farthest.set in
    let inside : has set b ≡ true = cc (c.contains.ensures, c.if-not-contains.false) in
    first-rests c.args.self.now.farthest.bound (IsAway (members set) u entered) (IsAway (members set) (u ++ b ∷ []) (entered ++ c.args.entering ∷ [])) c.args.entering c.args.distance (omega (arith, c.args.self.now.farthest.some))
    (away-moves set u entered len b byte c.args.entering inside) first c.if-distance-eq0.true c.if-entering.false

pub returns-then-distance-self-clause-moves : goal.returns-then-distance-self-clause-moves
returns-then-distance-self-clause-moves c u entered len first =
    let b : ℕ = c.args.byte in
    let byte : b < 256 = omega arith in
    let set = c.args.self.now.farthest.set in
    let inside : has set b ≡ true = cc (c.contains.ensures, c.if-not-contains.false) in
    first-farther c.args.self.now.farthest.bound (IsAway (members set) u entered) (IsAway (members set) (u ++ b ∷ []) (entered ++ c.args.entering ∷ [])) c.args.entering c.args.distance (c.args.distance + 1) (omega (arith, c.args.self.now.farthest.some))
    (away-moves set u entered len b byte c.args.entering inside) first (omega arith) (omega arith)

pub returns-else-distance-self-clause-moves : goal.returns-else-distance-self-clause-moves
returns-else-distance-self-clause-moves c u entered len first =
    let b : ℕ = c.args.byte in
    let byte : b < 256 = omega arith in
    let set = c.args.self.now.farthest.set in
    let inside : has set b ≡ true = cc (c.contains.ensures, c.if-not-contains.false) in
    first-farther c.args.self.now.farthest.bound (IsAway (members set) u entered) (IsAway (members set) (u ++ b ∷ []) (entered ++ c.args.entering ∷ [])) c.args.entering c.args.distance c.args.distance (omega (arith, c.args.self.now.farthest.some))
    (away-moves set u entered len b byte c.args.entering inside) first (omega arith) (omega arith)
