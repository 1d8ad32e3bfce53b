-- What `info` tells: the identifiers of a database are those of its entries, each once, and what is kept of a stream is
-- what is kept of its plan's regions.
use Rattle.std.proofs.Common.{◌≡◌, ◌↔◌, ℕ, ◌+◌, List, [], ◌∷◌, ◌++◌, length, map, Option, Result, Ok, Err, refl, sym, ap, ap₂, ◌∙◌, subst, inl, inr}
use Rattle.std.proofs.lemmas.List.{length-map}
use Rattle.hs_base.specs.Lists.{IsMember, OneOf}
use Rattle.hs_base.specs.Entries.{ListedEntry}
use Rattle.hs_base.specs.Patterns.{Pattern}
use Rattle.hs_base.specs.Regions.{IsPlan, Plan}
use Rattle.hs_kept.specs.KeptRegions.{IsKeptSize}
use Rattle.hs_outside.specs.declared.fault.Failed.{Failed}
use Rattle.hs_outside.specs.Sink.{IsSent, Sends}
use Rattle.hs_outside.proofs.Sending.{IsSent-then, IsCutShort-after}
use Rattle.hs_text.specs.AnswerLines.{info_lines, size_lines}
use Rattle.hs_nodes.specs.declared.graph.Graph.{Graph}
use Rattle.hs_reports.specs.declared.identifier.Identifier.{Identifier}
use Rattle.hs_rose.specs.declared.engine.PieceEngine.{PieceEngine}
use Rattle.hs_compile.specs.Databases.{Compiled, IsDatabaseOf, graph_of}
use Rattle.hs_compile.specs.Lists.{AreAcceptedFrom, AreAcceptedAs}
use Rattle.hs_compile.specs.Sizes.{IsPlanOf}
use Rattle.hs_lists.specs.Endings.{IsInfoText}

-- the identifiers of its graph
abbrev pub identifiers_of : Compiled → List Identifier
identifiers_of database = database.graph.identifiers.items

pub identifiers-count : (database : Compiled) (graph : Graph PieceEngine) (n : ℕ) → graph ≡ graph_of database → n ≡ length graph.identifiers.items → n ≡ length (identifiers_of database)
identifiers-count database graph n same is = is ∙ ap (λ (x : Graph PieceEngine). length x.identifiers.items) same

-- patterns have the identifiers of their entries
same-names : (before entries : List ListedEntry) (P : List Pattern) → AreAcceptedFrom before entries P → map (λ (x : Pattern). x.id) P ≡ map (λ (entry : ListedEntry). entry.id) entries
same-names before [] [] accepted = refl
same-names before [] (x ∷ P) accepted = absurd accepted
same-names before (entry ∷ entries) [] accepted = absurd accepted
same-names before (entry ∷ entries) (x ∷ P) accepted = ap₂ (λ n ns. n ∷ ns) (ap (λ (y : Pattern). y.id) accepted.0.is) (same-names (before ++ entry ∷ []) entries P accepted.1)

-- a pattern of an identifier
one-member : (P : List Pattern) (id : ℕ) → OneOf (λ x. x.id ≡ id) P → IsMember id (map (λ (x : Pattern). x.id) P)
one-member [] id one = absurd one
one-member (x ∷ P) id (inl same) = inl (sym same)
one-member (x ∷ P) id (inr one) = inr (one-member P id one)

member-one : (P : List Pattern) (id : ℕ) → IsMember id (map (λ (x : Pattern). x.id) P) → OneOf (λ x. x.id ≡ id) P
member-one [] id member = absurd member
member-one (x ∷ P) id (inl same) = inl (sym same)
member-one (x ∷ P) id (inr member) = inr (member-one P id member)

-- the identifiers of the patterns of a plan are those of their entries
plan-names : (entries : List ListedEntry) (plan : Plan) → AreAcceptedAs entries plan.patterns → IsPlan plan → (id : ℕ) → IsMember id plan.identifiers ↔ IsMember id (map (λ (entry : ListedEntry). entry.id) entries)
plan-names entries plan accepted is id =
    let names = same-names [] entries plan.patterns accepted in (
      λ member. subst (λ (ns : List ℕ). IsMember id ns) names (one-member plan.patterns id ((is.named id).0 member)),
      λ member. (is.named id).1 (member-one plan.patterns id (subst (λ (ns : List ℕ). IsMember id ns) (sym names) member)),
    )

-- what the lines of a database say
pub info-text : (database : Compiled) (entries : List ListedEntry) (P : List Pattern) (plan : Plan) (count names size state : ℕ) → AreAcceptedAs entries P → IsPlanOf P plan → IsDatabaseOf database plan →
    count ≡ length entries → names ≡ length (identifiers_of database) → IsKeptSize plan size → state ≡ size + 42 → IsInfoText entries (info_lines count names ++ size_lines size state)
info-text database entries P plan count names size state accepted planned is counted named sized stated =
    record {
      identifiers = plan.identifiers;
      once = planned.is_plan.identifiers;
      same = plan-names entries plan (subst (AreAcceptedAs entries) (sym planned.patterns) accepted) planned.is_plan;
      patterns = P;
      accepted = accepted;
      size = size;
      is_size = record { plan = plan; is = planned; size = sized };
      whole = ap₂ (λ (x y : List ℕ). x ++ y) (ap₂ info_lines counted all) (ap (size_lines size) stated);
    }
  where
    all : names ≡ length plan.identifiers
    all = named ∙ (sym (length-map (identifiers_of database) (λ (i : Identifier). i.id.0)) ∙ ap length is.runs.ids)

-- two texts, one behind the other
pub sends-then : {before between : Option (List ℕ)} {faults later : ℕ} {text : List ℕ} (after : Option (List ℕ)) (last : ℕ) (more : List ℕ) (result : Result (Unit {0}) Failed) → IsSent before between faults later text → Sends result between after later last more → Sends result before after faults last (text ++ more)
sends-then after last more (Ok done) first then = IsSent-then first then
sends-then after last more (Err failed) first then = IsCutShort-after first then
