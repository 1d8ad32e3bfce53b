-- The texts of an accepted list are short enough for its encoding.
use Rattle.std.proofs.Common.{◌<◌, List, [], ◌∷◌, ◌++◌, length, arith}
use Rattle.hs_base.specs.Chains.{Piece}
use Rattle.hs_base.specs.Entries.{ListedEntry}
use Rattle.hs_base.specs.Lists.{Each}
use Rattle.hs_base.specs.Patterns.{Pattern}
use Rattle.hs_dbfile.specs.Files.{AreEncodable}
use Rattle.hs_compile.specs.Answers.{AreSplit}
use Rattle.hs_compile.specs.Lists.{AreAcceptedFrom}

-- since each of them is read
short-texts : (before entries : List ListedEntry) (P : List Pattern) → AreAcceptedFrom before entries P → Each (λ entry. length entry.text < 65536) entries
short-texts before [] P accepted = tt
short-texts before (entry ∷ entries) [] accepted = absurd accepted
short-texts before (entry ∷ entries) (x ∷ P) accepted =
    (let within = accepted.0.read.read.within in let short : length entry.text < 65536 = omega (arith, within) in short, short-texts (before ++ entry ∷ []) entries P accepted.1)

-- a list that is compiled has an encoding
pub encodable : (entries : List ListedEntry) (P : List Pattern) (chains : List (List (List Piece))) → AreSplit entries P chains → AreEncodable entries
encodable entries P chains split = record {
  few = let few = split.few in omega (arith, few);
  short = short-texts [] entries P split.accepted;
}
