-- What the runner's relations say of a database.
use Rattle.std.proofs.Common.{◌≡◌, ◌↔◌, ℕ, ◌-◌, ◌<◌, Bor, IfSome, List, [], ◌∷◌, Option, Some, ap, get_or, suc, sym, subst, ◌∙◌}
use Rattle.std.specs.Option.{ForSome}
use Rattle.hs_base.specs.Lists.{Each, IsMember}
use Rattle.hs_base.specs.Literals.{LiteralByte}
use Rattle.hs_base.specs.Regions.{Plan, IsWellFormed, region_offset}
use Rattle.hs_base.specs.Told.{Pair}
use Rattle.hs_base.proofs.ListLemmas.{each-append}
use Rattle.hs_compile.specs.Databases.{Compiled, IsDatabaseOf, IsWholeDatabase, graph_of, lasting_in, layout_of, literals_in, lone_in, packing_of}
use Rattle.hs_layout.specs.Layouts.{Laid}
use Rattle.hs_literals.specs.Held.{held}
use Rattle.hs_literals.specs.declared.literals.Literals.{Literals}
use Rattle.hs_nodes.specs.Lone.{AreLoneNodes}
use Rattle.hs_nodes.specs.Openings.{lasting_literals}
use Rattle.hs_nodes.specs.declared.graph.Graph.{Graph}
use Rattle.hs_nodes.specs.declared.lone.LoneNodes.{LoneNodes}
use Rattle.hs_reports.specs.Events.{Takes}
use Rattle.hs_reports.specs.Identifiers.{numbers_of}
use Rattle.hs_reports.specs.Pairs.{ArePairsOf}
use Rattle.hs_rose.specs.PieceEngines.{piece_meaning}
use Rattle.hs_rose.specs.declared.engine.PieceEngine.{PieceEngine}
use Rattle.hs_kept.specs.declared.packing.Packing.{Packing}
use Rattle.hs_regions.specs.Packed.{RunsPacked, RunsSomePacked}
use Rattle.hs_scan.specs.Feeding.{Feeds, Finishes}
use Rattle.hs_nodes.specs.WellRegions.{RunsLaid}
use Rattle.hs_regions.proofs.ExactLemmas.{regions-exact}
use Rattle.hs_stream.specs.Scanning.{IsWholeRegionOf, MayScan, MayScanEnd, ScansTo}
use Rattle.hs_stream.specs.Telling.{MayTell}

pub each-by : (bytes : List ℕ) → ((i : ℕ) → get_or bytes i 0 < 256) → Each (λ b. b < 256) bytes
each-by [] all = tt
each-by (b ∷ bytes) all = (all 0, each-by bytes (λ i. all (suc i)))

-- What a call on a database is lent.
pub record AreLent (db : Compiled) (graph : Graph PieceEngine) (literals : Literals) (l : Laid) : Type 0 where
  pub graph_is : graph ≡ graph_of db
  pub literals_are : literals ≡ literals_in db
  pub layout_is : l ≡ layout_of db

pub lent : (db : Compiled) {graph : Graph PieceEngine} {literals : Literals} {l : Laid} → graph ≡ graph_of db → literals ≡ literals_in db → l ≡ layout_of db → AreLent db graph literals l
lent db a b c = record { graph_is = a; literals_are = b; layout_is = c }

-- The literals that last are those of the database, too.
pub lasting-lent : (db : Compiled) (lasting : Option (Bor Literals)) (graph : Graph PieceEngine) (literals : Literals) → graph ≡ graph_of db → literals ≡ literals_in db → IsWholeDatabase db → IfSome lasting (λ own. lasting_in db ≡ Some own.now) → ForSome lasting (λ own. held own.now ≡ lasting_literals graph.openings (held literals))
lasting-lent db lasting graph literals graph_is literals_are whole some own is =
    let at : lasting_in db ≡ Some own.now = subst (λ (o : Option (Bor Literals)). IfSome o (λ x. lasting_in db ≡ Some x.now)) is some in
    let are = subst (λ (o : Option Literals). IfSome o (λ x. held x ≡ lasting_literals (graph_of db).openings (held (literals_in db)))) at whole.is_of.lasting in
    are ∙ (ap (λ (x : Graph PieceEngine). lasting_literals x.openings (held (literals_in db))) (sym graph_is) ∙ ap (λ ls. lasting_literals graph.openings (held ls)) (sym literals_are))

-- The lone nodes are those of the database, too.
pub lone-lent : (db : Compiled) (lone : LoneNodes) (graph : Graph PieceEngine) → graph ≡ graph_of db → lone ≡ lone_in db → IsWholeDatabase db → AreLoneNodes piece_meaning graph lone
lone-lent db lone graph graph_is lone_is whole =
    subst (λ (x : Graph PieceEngine). AreLoneNodes piece_meaning x lone) (sym graph_is) (subst (λ (x : LoneNodes). AreLoneNodes piece_meaning (graph_of db) x) (sym lone_is) whole.is_of.lone)

-- The same of what is lent as of the database.
pub as-lent : {db : Compiled} {graph : Graph PieceEngine} {literals : Literals} {l : Laid} → AreLent db graph literals l →
    (P : Graph PieceEngine → List (List LiteralByte) → Laid → Type 0) → P (graph_of db) (held (literals_in db)) (layout_of db) → P graph (held literals) l
as-lent {db} {graph} {literals} {l} own P holds =
    subst (λ g. P g (held literals) l) (sym own.graph_is)
    (subst (λ ls. P (graph_of db) (held ls) l) (sym own.literals_are)
    (subst (λ m. P (graph_of db) (held (literals_in db)) m) (sym own.layout_is) holds))

pub lent-as : {db : Compiled} {graph : Graph PieceEngine} {literals : Literals} {l : Laid} → AreLent db graph literals l →
    (P : Graph PieceEngine → List (List LiteralByte) → Laid → Type 0) → P graph (held literals) l → P (graph_of db) (held (literals_in db)) (layout_of db)
lent-as {db} {graph} {literals} {l} own P holds =
    subst (λ g. P g (held (literals_in db)) (layout_of db)) own.graph_is
    (subst (λ ls. P graph (held ls) (layout_of db)) own.literals_are
    (subst (λ m. P graph (held literals) m) own.layout_is holds))

-- and of the graph, the layout and the packing
pub as-three : (db : Compiled) {graph : Graph PieceEngine} {l : Laid} {packing : Packing} → graph ≡ graph_of db → l ≡ layout_of db → packing ≡ packing_of db → (P : Graph PieceEngine → Laid → Packing → Type 0) → P (graph_of db) (layout_of db) (packing_of db) → P graph l packing
as-three db {graph} {l} {packing} same same_l same_p P holds =
    subst (λ g. P g l packing) (sym same) (subst (λ m. P (graph_of db) m packing) (sym same_l) (subst (λ p. P (graph_of db) (layout_of db) p) (sym same_p) holds))

pub three-as : (db : Compiled) {graph : Graph PieceEngine} {l : Laid} {packing : Packing} → graph ≡ graph_of db → l ≡ layout_of db → packing ≡ packing_of db → (P : Graph PieceEngine → Laid → Packing → Type 0) → P graph l packing → P (graph_of db) (layout_of db) (packing_of db)
three-as db {graph} {l} {packing} same same_l same_p P holds =
    subst (λ g. P g (layout_of db) (packing_of db)) same (subst (λ m. P graph m (packing_of db)) same_l (subst (λ p. P graph l p) same_p holds))

module _ (db : Compiled) (plan : Plan) (is : IsDatabaseOf db plan) where
  pub plan-runs : RunsLaid piece_meaning (graph_of db) (held (literals_in db)) (layout_of db) plan
  plan-runs = record { runs = is.runs; laid = is.layout }

  pub plan-packed : RunsPacked piece_meaning (graph_of db) (layout_of db) (packing_of db) (held (literals_in db)) plan
  plan-packed = record { sound = is.sound; runs = plan-runs; packing_for = is.packing }

  -- what may be run as a region is what is well formed for the plan
  pub region-exact : (region : List ℕ) → Each (λ b. b < 256) region → IsWholeRegionOf db region ↔ IsWellFormed plan region
  region-exact region small =
      regions-exact piece_meaning (graph_of db) (held (literals_in db)) (layout_of db) plan region is.sound plan-runs small

pub whole-packed : (db : Compiled) → IsWholeDatabase db → RunsSomePacked piece_meaning (graph_of db) (layout_of db) (packing_of db)
whole-packed db whole = record { literals = held (literals_in db); plan = whole.plan; is = plan-packed db whole.plan whole.is_of }

-- pairs of the identifiers of the graph are of those of each plan
pairs-told : (db : Compiled) (low high : ℕ) (pairs : List Pair) → ArePairsOf (numbers_of (graph_of db).identifiers.items) low high pairs → MayTell db low high pairs
pairs-told db low high pairs are = record {
  named = λ plan is. subst (λ ids. Each (λ (p : Pair). IsMember p.id ids) pairs) is.runs.ids are.named;
  bounded = are.ends;
  rising = are.rising;
}

feeds-scan : (db : Compiled) (old new bytes : List ℕ) (pairs : List Pair) → Each (λ b. b < 256) bytes → Feeds piece_meaning (graph_of db) (held (literals_in db)) (layout_of db) old new bytes pairs → ScansTo db old new bytes pairs
feeds-scan db old new bytes pairs small feeds plan u told is behind told_is =
    let fed = feeds.feeds plan u told (plan-runs db plan is) behind.bytes behind.region told_is in
    record {
      scanned = record { bytes = each-append (λ b. b < 256) u bytes behind.bytes small; region = fed.region };
      reports = fed.new;
    }

module _ {V : Type 0} (Tells : V → ℕ → ℕ → V → Type 0) {start end : V} (db : Compiled) where
  -- what the runner reported of bytes
  pub takes-scan : {old new bytes : List ℕ} → Each (λ b. b < 256) bytes → Takes Tells start end (Feeds piece_meaning (graph_of db) (held (literals_in db)) (layout_of db) old new bytes) → Takes Tells start end (MayScan db old new bytes)
  takes-scan {old} {new} {bytes} small took = record {
    pairs = took.pairs;
    through = took.through;
    holds = record {
      scans = feeds-scan db old new bytes took.pairs small took.holds;
      tells = pairs-told db (region_offset old) (region_offset new) took.pairs took.holds.pairs_are;
    };
  }

  -- and of the end
  pub takes-end : {region : List ℕ} → Takes Tells start end (Finishes piece_meaning (graph_of db) (held (literals_in db)) (layout_of db) region) → Takes Tells start end (MayScanEnd db region)
  takes-end {region} took = record {
    pairs = took.pairs;
    through = took.through;
    holds = record {
      ends = λ plan u is behind. took.holds.finishes plan u (plan-runs db plan is) behind.bytes behind.region;
      tells = pairs-told db (region_offset region - 1) (region_offset region) took.pairs took.holds.pairs_are;
    };
  }
