use Rattle.std.proofs.Common.{◌≡◌, ◌++◌, ◌∙◌, ℕ, ◌+◌, List, length, refl, sym, subst, ap, arith}
use Rattle.std.proofs.lemmas.List.{length-map}
use Rattle.hs_base.specs.Entries.{listed}
use Rattle.hs_compile.specs.Databases.{packing_of}
use Rattle.hs_kept.specs.KeptRegions.{IsKeptSize}
use Rattle.hs_kept.proofs.PackingLemmas.{packings-sized}
use Rattle.hs_outside.proofs.Sending.{Took-nothing}
use Rattle.hs_text.specs.AnswerLines.{info_lines, size_lines}
use Rattle.hs_lists.specs.Loading.{entries_of}
use Rattle.hs_lists.specs.Endings
use Rattle.hs_lists.specs.Endings.{IsInfoText}
use Rattle.hs_lists.proofs.EndingLemmas.{has_list}
use Rattle.hs_lists.proofs.InfoLemmas.{identifiers-count, info-text}
use Rattle.hs_lists.proofs.info_command.tell_database.Goals as goal

pub returns-in-Err-clause-ends : goal.returns-in-Err-clause-ends
returns-in-Err-clause-ends g c = Endings.stopped _ (record { stops = c.in-Err.ensures.fault; quiet = Took-nothing (g.O.Sink.written c.args.out.now); still = refl })

pub returns-in-Ok-write_info-clause-ends : goal.returns-in-Ok-write_info-clause-ends
returns-in-Ok-write_info-clause-ends g c =
    let loaded = c.in-Ok.ensures.loaded in
    let entries = entries_of c.in-Ok.loaded in
    let count : c.len-expressions.result ≡ length entries = omega (arith, c.len-expressions.ensures, c.in-Ok.loaded.entries.ok.0, length-map c.in-Ok.loaded.entries.items listed) in
    let read : c.len-identifiers.result ≡ length c.graph.result.now.identifiers.items = omega (arith, c.len-identifiers.ensures, c.graph.result.now.identifiers.ok.0) in
    let named = identifiers-count c.in-Ok.loaded.database c.graph.result.now c.len-identifiers.result c.graph.ensures.graph read in
    let size : IsKeptSize loaded.plan c.region_size-region.result =
    subst (IsKeptSize loaded.plan) (sym c.region_size-region.ensures.size) (packings-sized (packing_of c.in-Ok.loaded.database) loaded.plan loaded.runs.packing) in
    let state : c.stream_size-state.result ≡ c.region_size-region.result + 42 = omega (arith, c.stream_size-state.ensures, c.region_size-region.ensures.size) in
    Endings.done entries loaded.patterns _ (has_list _ _ c.in-Ok.loaded loaded)
    (info-text c.in-Ok.loaded.database entries loaded.patterns loaded.plan c.len-expressions.result c.len-identifiers.result c.region_size-region.result c.stream_size-state.result loaded.accepted.accepted loaded.is_plan loaded.runs count named size state)
    c.in-Ok-write_info.ensures.taken
    (record { store = c.in-Ok.ensures.counted; sink = c.in-Ok-write_info.ensures.counted })

pub returns-clause-ends : goal.returns-clause-ends
returns-clause-ends g c =
    let loaded = c.in-Ok.ensures.loaded in
    let entries = entries_of c.in-Ok.loaded in
    let count : c.len-expressions.result ≡ length entries = omega (arith, c.len-expressions.ensures, c.in-Ok.loaded.entries.ok.0, length-map c.in-Ok.loaded.entries.items listed) in
    let read : c.len-identifiers.result ≡ length c.graph.result.now.identifiers.items = omega (arith, c.len-identifiers.ensures, c.graph.result.now.identifiers.ok.0) in
    let named = identifiers-count c.in-Ok.loaded.database c.graph.result.now c.len-identifiers.result c.graph.ensures.graph read in
    let size : IsKeptSize loaded.plan c.region_size-region.result =
    subst (IsKeptSize loaded.plan) (sym c.region_size-region.ensures.size) (packings-sized (packing_of c.in-Ok.loaded.database) loaded.plan loaded.runs.packing) in
    let state : c.stream_size-state.result ≡ c.region_size-region.result + 42 = omega (arith, c.stream_size-state.ensures, c.region_size-region.ensures.size) in
    Endings.sink_failed entries loaded.patterns _ (has_list _ _ c.in-Ok.loaded loaded)
    (info-text c.in-Ok.loaded.database entries loaded.patterns loaded.plan c.len-expressions.result c.len-identifiers.result c.region_size-region.result c.stream_size-state.result loaded.accepted.accepted loaded.is_plan loaded.runs count named size state)
    c.in-Err-write_info.ensures.cut
    c.in-Err-write_info.ensures.failed
