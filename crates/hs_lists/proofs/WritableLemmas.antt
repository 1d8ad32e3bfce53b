-- A list that is accepted can be written as a database file.
use Rattle.std.proofs.Common.{suc, ◌+◌, ◌<◌, ◌≤◌, ◌^◌, List, [], ◌∷◌, ◌++◌, length, length-append, ℕ, arith}
use Rattle.hs_base.specs.Lists.{Each}
use Rattle.hs_base.specs.Entries.{ListedEntry}
use Rattle.hs_base.specs.Patterns.{Pattern}
use Rattle.hs_base.specs.declared.refusal.Refusal.TheVariants.{CountLimit}
use Rattle.hs_text.specs.PatternFile.{IsList}
use Rattle.hs_text.specs.Known.{IsKnown}
use Rattle.hs_text.proofs.KnownLemmas.{entries_known}
use Rattle.hs_dbfile.specs.Files.{IsWritable, AreWritable}
use Rattle.hs_compile.specs.Lists.{IsAcceptedAs, AreAcceptedFrom, AreAcceptedAs, misplaced, beyond}

-- an entry that is accepted has a short text
accepted-short : (before : List ListedEntry) (entry : ListedEntry) (x : Pattern) → IsAcceptedAs before entry x → length entry.text < 2 ^ 16
accepted-short before entry x accepted = let within = accepted.read.read.within in omega (arith, within)

-- a list that is accepted has few entries
accepted-few : (before entries : List ListedEntry) (P : List Pattern) → AreAcceptedFrom before entries P → length before ≤ 65536 → length entries + length before ≤ 65536
accepted-few before [] [] accepted within = omega (arith, within)
accepted-few before [] (x ∷ P) accepted within = absurd accepted
accepted-few before (entry ∷ entries) [] accepted within = absurd accepted
accepted-few before (entry ∷ entries) (x ∷ P) accepted within =
    let inside : 65536 < suc (length before) → ⊥ = λ far. accepted.0.free CountLimit (misplaced (beyond far)) in
    let longer = length-append before (entry ∷ []) in
    let rest = accepted-few (before ++ entry ∷ []) entries P accepted.1 (omega (arith, inside, longer)) in
    omega (arith, rest, longer)

-- each entry of it can be written
accepted-each : (before entries : List ListedEntry) (P : List Pattern) → AreAcceptedFrom before entries P → Each IsKnown entries → Each IsWritable entries
accepted-each before [] [] accepted known = tt
accepted-each before [] (x ∷ P) accepted known = absurd accepted
accepted-each before (entry ∷ entries) [] accepted known = absurd accepted
accepted-each before (entry ∷ entries) (x ∷ P) accepted known = (
  record {
    known_flags = known.0.flags;
    known_parameters = known.0.parameters.few;
    no_min_offset = known.0.parameters.no_min_offset;
    no_max_offset = known.0.parameters.no_max_offset;
    short = accepted-short before entry x accepted.0;
  },
  accepted-each (before ++ entry ∷ []) entries P accepted.1 known.1,
)

-- the list of a pattern file that is accepted can be written
pub writable : (file : List ℕ) (entries : List ListedEntry) (P : List Pattern) → IsList file entries → AreAcceptedAs entries P → AreWritable entries
writable file entries P list accepted = record {
  few = (let most = accepted-few [] entries P accepted (omega arith) in omega (arith, most));
  each = accepted-each [] entries P accepted (entries_known list);
}
