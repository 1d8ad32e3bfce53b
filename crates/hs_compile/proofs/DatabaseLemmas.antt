-- The database of an accepted list.
use Rattle.std.proofs.Common.{◌≡◌, ℕ, ◌-◌, ◌^◌, ◌<◌, ◌≤◌, List, [], ◌∷◌, ◌++◌, length, map, take, IfSome, Option, refl, sym, ap, ◌∙◌, subst, arith}
use Rattle.std.specs.Prelude.{slice_index}
use Rattle.std.specs.List.{AllZip}
use Rattle.std.proofs.lemmas.List.{length-map}
use Rattle.hs_base.specs.declared.ext.Entry.{Entry}
use Rattle.hs_base.specs.Chains.{Piece, chains_of}
use Rattle.hs_base.specs.Entries.{ListedEntry, listed}
use Rattle.hs_base.specs.Literals.{LiteralByte}
use Rattle.hs_base.specs.Patterns.{Pattern}
use Rattle.hs_base.specs.Regions.{Plan, fields_at, list_places, place_size, plan_size, region_size, sums_from}
use Rattle.hs_base.proofs.SumLemmas.{sums-size}
use Rattle.hs_kept.specs.declared.packing.Packing.{Packing}
use Rattle.hs_kept.specs.Packing.{IsPackingFor}
use Rattle.hs_layout.specs.Layouts.{Laid, laid_size, layout_of as layout_for}
use Rattle.hs_literals.specs.declared.literals.Literals.{Literals}
use Rattle.hs_literals.specs.Held.{held}
use Rattle.hs_nodes.specs.declared.graph.Graph.{Graph}
use Rattle.hs_nodes.specs.declared.lone.LoneNodes.{LoneNodes}
use Rattle.hs_nodes.specs.Graphs.{IsGraphSound, RunsPlan, plan_layout}
use Rattle.hs_nodes.specs.Lone.{AreLoneNodes}
use Rattle.hs_rose.specs.declared.engine.PieceEngine.{PieceEngine}
use Rattle.hs_rose.specs.PieceEngines.{piece_meaning}
use Rattle.hs_rose.specs.Listing.{asked_of}
use Rattle.hs_rose.specs.Plans.{AsksFor, plan_of}
use Rattle.hs_rose.specs.Programs.{Tables, IsProgramOf}
use Rattle.hs_rose.proofs.PlanLemmas.{is-plan}
use Rattle.hs_compile.specs.Answers.{AreSplit, IsCompiled}
use Rattle.hs_compile.specs.Databases.{Compiled, compiled, packing_of}
use Rattle.hs_compile.specs.GraphLaws.{IsDatabaseOfPlans, IsProgramFor, OfPlans}
use Rattle.hs_compile.specs.GraphTables.{IsLaidFor, program_layout}
use Rattle.hs_compile.specs.Lists.{AreAcceptedFrom}
use Rattle.hs_compile.specs.Sizes.{IsPlanOf, IsSizeOf, greatest_size}
use Rattle.hs_compile.proofs.RowLemmas.{plan-laid}
use Rattle.hs_compile.proofs.SizeLemmas.{size-once}

-- the entries ask for what their patterns ask for
pub asks-all : (before : List ListedEntry) (entries : List Entry) (P : List Pattern) → AreAcceptedFrom before (map listed entries) P → AllZip AsksFor (map asked_of entries) P
asks-all before [] [] accepted = tt
asks-all before [] (x ∷ P) accepted = absurd accepted
asks-all before (e ∷ entries) [] accepted = absurd accepted
asks-all before (e ∷ entries) (x ∷ P) accepted =
    let is = accepted.0.is in (
      record {
        id = sym (ap (λ (y : Pattern). y.id) is);
        single = sym (ap (λ (y : Pattern). y.single) is);
        least = sym (ap (λ (y : Pattern). y.least) is);
        greatest = sym (ap (λ (y : Pattern). y.greatest) is);
      },
      asks-all (before ++ listed e ∷ []) entries P accepted.1,
    )

-- the last start of a layout is where the region ends
pub laid-sums : (singles identifiers : ℕ) (sizes : List ℕ) → laid_size (layout_for singles identifiers sizes) ≡ region_size singles identifiers sizes
laid-sums singles identifiers sizes =
    let first = fields_at singles identifiers in
    let e : length (sums_from first sizes) - 1 ≡ length sizes = omega (arith, sums-size first sizes) in
    ap (slice_index (sums_from first sizes)) e

pub plan-laid-size : (plan : Plan) → laid_size (plan_layout plan) ≡ plan_size plan
plan-laid-size plan = laid-sums (length plan.singles) (length plan.identifiers) (map place_size (list_places plan))

-- the database of a program is that of the plans whose program that is, where its graph runs these with its literals
pub database-plans : (t : Tables) (graph : Graph PieceEngine) (texts : List (List LiteralByte)) (literals : Literals) (lasting : Option Literals) (lone : LoneNodes) (l : Laid) (packing : Packing) (digest : List ℕ) → IsLaidFor t l → held literals ≡ texts → OfPlans t (RunsPlan piece_meaning graph texts) → IsGraphSound piece_meaning graph texts l →
    IfSome lasting (λ own. held own ≡ take graph.openings.others texts) → AreLoneNodes piece_meaning graph lone → IsDatabaseOfPlans t (compiled graph literals lasting lone l packing digest)
database-plans t graph texts literals lasting lone l packing digest laid same runs sound lasts are_lone P is packs =
    let plan = plan_of t P in
    let own : l ≡ plan_layout plan = laid.laid ∙ plan-laid t is.entries P is.program is.asks in
    record {
      sound = subst (λ xs. IsGraphSound piece_meaning graph xs l) (sym same) sound;
      runs = subst (λ xs. RunsPlan piece_meaning graph xs plan) (sym same) (runs P is);
      layout = own;
      size = ap laid_size own ∙ plan-laid-size plan;
      small = laid.small;
      packing = packs;
      lasting = subst (λ xs. IfSome lasting (λ own. held own ≡ take graph.openings.others xs)) (sym same) lasts;
      lone = are_lone;
    }

module _ (entries : List Entry) (P : List Pattern) (chains : List (List (List Piece))) (split : AreSplit (map listed entries) P chains) (t : Tables) (is : IsProgramOf t (map asked_of entries) chains) where
  asks : AllZip AsksFor (map asked_of entries) P
  asks = asks-all [] entries P split.accepted

  of-patterns : IsProgramOf t (map asked_of entries) (map (λ (x : Pattern). chains_of x.tree) P)
  of-patterns = subst (λ cs. IsProgramOf t (map asked_of entries) cs) split.chains_are is

  pub program-for : IsProgramFor t P
  program-for = record { entries = map asked_of entries; program = of-patterns; asks = asks; fit = split.fit }

  plan-is : IsPlanOf P (plan_of t P)
  plan-is = record { patterns = refl; is_plan = is-plan t (map asked_of entries) P is.identifiers asks; looks_back = refl }

  own-size : IsSizeOf P (laid_size (program_layout t))
  own-size = record { plan = plan_of t P; is = plan-is; size = ap laid_size (plan-laid t (map asked_of entries) P of-patterns asks) ∙ plan-laid-size (plan_of t P) }

  -- so it is small enough
  pub program-small : laid_size (program_layout t) ≤ greatest_size
  program-small = subst (λ n. n ≤ greatest_size) (size-once P split.small.bytes (laid_size (program_layout t)) split.small.size own-size) split.small.within

  pub database-compiled : (database : Compiled) → IsDatabaseOfPlans t database → IsPackingFor (packing_of database) (plan_of t P) → IsCompiled (map listed entries) database
  database-compiled database is_of packs = record {
    patterns = P;
    accepted = split.accepted;
    plan = plan_of t P;
    is_plan = plan-is;
    runs = is_of P program-for packs;
  }

-- what is built of an accepted list

pub compiled-few : (entries : List Entry) (P : List Pattern) (chains : List (List (List Piece))) → AreSplit (map listed entries) P chains → length entries < 2 ^ 32
compiled-few entries P chains split = omega (arith, split.few, length-map entries listed)
