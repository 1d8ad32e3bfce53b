-- What the command writes, and how it ends.
use Rattle.std.proofs.Common.{◌≡◌, ◌∙◌, ℕ, zero, suc, ◌*◌, List, [], ◌∷◌, ◌++◌, length, Option, Some, None, refl, sym, ap, ap₂, subst, arith, length-append}
use Rattle.hs_base.specs.Patterns.{Pattern}
use Rattle.hs_base.proofs.ToldLemmas.{new-once, last-once}
use Rattle.hs_compile.specs.Answers.{IsCompiled}
use Rattle.hs_compile.specs.Databases.{Compiled, packing_of}
use Rattle.hs_outside.specs.Sink.{IsCutShort, IsSent, Took, TookPrefix}
use Rattle.hs_outside.specs.Store.{Told}
use Rattle.hs_kept.specs.KeptRegions.{IsKeptSize}
use Rattle.hs_kept.specs.Packing.{packed_size}
use Rattle.hs_kept.proofs.PackingLemmas.{packings-sized}
use Rattle.hs_lists.specs.Accepting.{IsEntryCause, first, uncompiled}
use Rattle.hs_lists.specs.Causes.{Cause, write}
use Rattle.hs_lists.specs.Endings.{Outside, NoFault, TookNothing, outside_of}
use Rattle.hs_stream.specs.Standing.{RunsPatterns}
use Rattle.hs_stream.specs.declared.tally.Tally.{Tally}
use Rattle.hs_stream.specs.Drawing.{after, byte, bytes, drawn, drawn_entries, drawn_stream}
use Rattle.hs_stream.specs.Summaries.{soak_lines}
use Rattle.hs_tool.specs.SoakEndings.{IsSoakText, SoakEnds, done, list_refused, no_memory, sink_failed}
use Rattle.hs_stream.specs.CutRuns.{IsSummary}
use Rattle.hs_stream.specs.Tallies.{tally_of}

-- so many bytes are drawn
pub length-bytes : (n x : ℕ) → length (bytes n x) ≡ n
length-bytes zero x = refl
length-bytes (suc n) x =
    let more = length-append (bytes n x) (byte (drawn 10 (after n x)) ∷ []) in
    let before = length-bytes n x in
    omega (arith, more, before)

-- both runs tell the same
same-tally : (P : List Pattern) (w : List ℕ) (even cut : Tally) → IsSummary P w even → IsSummary P w cut → even ≡ cut
same-tally P w even cut one other =
    one.counted
    ∙ (ap₂ (λ new last. tally_of (new ++ last)) (new-once P [] w one.new other.new one.by_bytes other.by_bytes) (last-once P w one.last other.last one.by_end other.by_end)
    ∙ sym other.counted)

-- the database runs the patterns of its list
runs-compiled : {db : Compiled} (seed count : ℕ) (is : IsCompiled (drawn_entries seed count) db) → RunsPatterns db is.patterns
runs-compiled seed count is = record { plan = is.plan; patterns = is.is_plan.patterns; is_database = is.runs }

-- the five lines
pub soak-text : (seed count : ℕ) (db : Compiled) (stream text : List ℕ) (even cut : Tally) (n size region : ℕ) → n ≡ count → IsCompiled (drawn_entries seed count) db → stream ≡ drawn_stream seed count →
    ((P : List Pattern) → RunsPatterns db P → IsSummary P stream even) → ((P : List Pattern) → RunsPatterns db P → IsSummary P stream cut) →
    size ≡ length stream → region ≡ packed_size (packing_of db) → text ≡ soak_lines n size region even cut → IsSoakText seed count text
soak-text seed count db stream text even cut n size region counted is drawn_is one other sized laid whole =
    let runs = runs-compiled seed count is in
    let P = is.patterns in
    let same = same-tally P stream even cut (one P runs) (other P runs) in
    let long : size ≡ 64 * count = sized ∙ (ap length drawn_is ∙ length-bytes (64 * count) _) in
    record {
      patterns = P;
      accepted = is.accepted;
      size = region;
      is_size = record { plan = is.plan; is = is.is_plan; size = subst (IsKeptSize is.plan) (sym laid) (packings-sized (packing_of db) is.plan is.runs.packing) };
      tally = even;
      summary = subst (λ w. IsSummary P w even) drawn_is (one P runs);
      whole = whole ∙ (ap (λ m. soak_lines m size region even cut) counted ∙ ap (λ m. soak_lines count m region even cut) long ∙ ap (λ t. soak_lines count (64 * count) region even t) (sym same));
    }

-- nothing was written
pub soak-stops : (seed count : ℕ) (before now : Outside) (cause : Cause) → IsEntryCause (drawn_entries seed count) cause → TookNothing before now → NoFault before now → SoakEnds seed count before now (Some cause)
soak-stops seed count before now _ (first {number = number} {id = id} {refusal = refusal} refused) quiet none = list_refused number id refusal refused quiet none
soak-stops seed count before now _ uncompiled quiet none = no_memory quiet none

-- the text was sent
pub soak-sent : (seed count : ℕ) (told : List ℕ → Told) (stored : ℕ) (out outs : Option (List ℕ)) (sunk sunks : ℕ) (text bytes : List ℕ) → bytes ≡ text → IsSent out outs sunk sunks bytes → IsSoakText seed count text →
    SoakEnds seed count (outside_of told stored out sunk) (outside_of told stored outs sunks) None
soak-sent seed count told stored out outs sunk sunks text bytes same sent is =
    done text is (subst (λ t. Took out outs t) same sent.taken) (record { store = refl; sink = sent.counted })

-- or cut short
pub soak-cut : (seed count : ℕ) (told : List ℕ → Told) (stored : ℕ) (out outs : Option (List ℕ)) (sunk sunks : ℕ) (text bytes : List ℕ) → bytes ≡ text → IsCutShort out outs sunk sunks bytes → IsSoakText seed count text →
    SoakEnds seed count (outside_of told stored out sunk) (outside_of told stored outs sunks) (Some write)
soak-cut seed count told stored out outs sunk sunks text bytes same sent is =
    sink_failed text is (subst (λ t. TookPrefix out outs t) same sent.cut) sent.failed
