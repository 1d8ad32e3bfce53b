use Rattle.std.proofs.Common.{◌≡◌, ◌∙◌, ◌≤◌, arith, length, slice_get, slice_index, sym, ap, subst}
use Rattle.hs_nodes.proofs.StartingLemmas.{read-there, row-starts, start-behind, starts-asleep, word-none, zero-places}
use Rattle.hs_waking.specs.Starts.{start_word}
use Rattle.hs_lazy.specs.Caches.{told}
use Rattle.hs_nodes.specs.Waking.{no_places}
use Rattle.hs_nodes.proofs.CachedLemmas.{none-some, told-true}
use Rattle.hs_nodes.proofs.RestLemmas.{byte-small}
use Rattle.hs_nodes.proofs.waking.wake_engine.Goals as goal

pub returns-then-is_woken-clause-starts : goal.returns-then-is_woken-clause-starts
returns-then-is_woken-clause-starts g c node there untold =
    let graph = c.args.graph.now in
    let list = graph.wakes.first_engines.items in
    let k = slice_index list c.args.place in
    let same : c.start_of-k.result ≡ k = c.start_of-k.ensures ∙ ap (λ xs. slice_index xs c.args.place) c.deref.ensures.value in
    row-starts g.E.Engine.meaning graph.table graph.wakes c.args.place k c.args.spent.now.chunk.now.prev c.args.spent.now.chunk.now.bytes.now c.start_places-places.result c.tell.new.self c.requires.rows c.args.spent.now.chunk.now.few (λ i low. byte-small c.args.spent.now.chunk.now.bytes.now i c.requires.small low) (read-there list c.args.place c.requires.place)
    (λ below j small. ap (λ i. start_word c.tell.new.self i j) (sym same) ∙ c.tell.ensures.own (omega (arith, below, same, c.tell.ensures.count)) j small)
    node there c.start_places-places.ensures.places

pub returns-else-is_woken-clause-starts : goal.returns-else-is_woken-clause-starts
returns-else-is_woken-clause-starts g c node there untold =
    let graph = c.args.graph.now in
    let list = graph.wakes.first_engines.items in
    let k = slice_index list c.args.place in
    let same : c.start_of-k.result ≡ k = c.start_of-k.ensures ∙ ap (λ xs. slice_index xs c.args.place) c.deref.ensures.value in
    row-starts g.E.Engine.meaning graph.table graph.wakes c.args.place k c.args.spent.now.chunk.now.prev c.args.spent.now.chunk.now.bytes.now c.start_places-places.result c.tell.new.self c.requires.rows c.args.spent.now.chunk.now.few (λ i low. byte-small c.args.spent.now.chunk.now.bytes.now i c.requires.small low) (read-there list c.args.place c.requires.place)
    (λ below j small. ap (λ i. start_word c.tell.new.self i j) (sym same) ∙ c.tell.ensures.own (omega (arith, below, same, c.tell.ensures.count)) j small)
    node there c.start_places-places.ensures.places

pub returns-else-is_woken-clause-asleep : goal.returns-else-is_woken-clause-asleep
returns-else-is_woken-clause-asleep g c node there unmarked =
    let graph = c.args.graph.now in
    let list = graph.wakes.first_engines.items in
    let k = slice_index list c.args.place in
    let same : c.start_of-k.result ≡ k = c.start_of-k.ensures ∙ ap (λ xs. slice_index xs c.args.place) c.deref.ensures.value in
    let (never, none) = c.is_woken.ensures.asleep node (ap (slice_get graph.table.nodes.items) same ∙ there) c.if-is_woken.false in
    starts-asleep g.E.Engine.meaning graph.table graph.wakes c.args.place k c.args.spent.now.chunk.now.prev c.args.spent.now.chunk.now.bytes.now c.start_places-places.result c.tell.new.self c.requires.rows c.args.spent.now.chunk.now.few (λ i low. byte-small c.args.spent.now.chunk.now.bytes.now i c.requires.small low) (read-there list c.args.place c.requires.place)
    (λ below j small. ap (λ i. start_word c.tell.new.self i j) (sym same) ∙ c.tell.ensures.own (omega (arith, below, same, c.tell.ensures.count)) j small)
    node there never none c.start_places-places.ensures.places

pub returns-then-is_behind_start-clause-starts : goal.returns-then-is_behind_start-clause-starts
returns-then-is_behind_start-clause-starts g c node there untold =
    let graph = c.args.graph.now in
    let list = graph.wakes.first_engines.items in
    let k = slice_index list c.args.place in
    let same : c.start_of-k.result ≡ k = c.start_of-k.ensures ∙ ap (λ xs. slice_index xs c.args.place) c.deref.ensures.value in
    let places = c.is_behind_start.ensures.places c.args.spent.now.chunk.now.bytes.now c.if-is_behind_start.true in
    row-starts g.E.Engine.meaning graph.table graph.wakes c.args.place k c.args.spent.now.chunk.now.prev c.args.spent.now.chunk.now.bytes.now no_places c.tell_nowhere.new.self c.requires.rows c.args.spent.now.chunk.now.few (λ i low. byte-small c.args.spent.now.chunk.now.bytes.now i c.requires.small low) (read-there list c.args.place c.requires.place)
    (λ below j small. ap (λ i. start_word c.tell_nowhere.new.self i j) (sym same) ∙ (c.tell_nowhere.ensures.own (omega (arith, below, same, c.tell_nowhere.ensures.count)) j small ∙ sym (word-none j small)))
    node there places

pub returns-then-is_behind_start-clause-asleep : goal.returns-then-is_behind_start-clause-asleep
returns-then-is_behind_start-clause-asleep g c node there unmarked =
    let graph = c.args.graph.now in
    let list = graph.wakes.first_engines.items in
    let k = slice_index list c.args.place in
    let same : c.start_of-k.result ≡ k = c.start_of-k.ensures ∙ ap (λ xs. slice_index xs c.args.place) c.deref.ensures.value in
    let places = c.is_behind_start.ensures.places c.args.spent.now.chunk.now.bytes.now c.if-is_behind_start.true in
    let never = c.is_behind_start.ensures.never node (ap (slice_get graph.table.nodes.items) same ∙ there) c.if-is_behind_start.true in
    starts-asleep g.E.Engine.meaning graph.table graph.wakes c.args.place k c.args.spent.now.chunk.now.prev c.args.spent.now.chunk.now.bytes.now no_places c.tell_nowhere.new.self c.requires.rows c.args.spent.now.chunk.now.few (λ i low. byte-small c.args.spent.now.chunk.now.bytes.now i c.requires.small low) (read-there list c.args.place c.requires.place)
    (λ below j small. ap (λ i. start_word c.tell_nowhere.new.self i j) (sym same) ∙ (c.tell_nowhere.ensures.own (omega (arith, below, same, c.tell_nowhere.ensures.count)) j small ∙ sym (word-none j small)))
    node there never (zero-places no_places word-none) places

pub returns-then-is_ruled_out-clause-starts : goal.returns-then-is_ruled_out-clause-starts
returns-then-is_ruled_out-clause-starts g c node there untold =
    let graph = c.args.graph.now in
    let list = graph.wakes.first_engines.items in
    let k = slice_index list c.args.place in
    let same : c.start_of-k.result ≡ k = c.start_of-k.ensures ∙ ap (λ xs. slice_index xs c.args.place) c.deref.ensures.value in
    let places = c.is_ruled_out.ensures.places c.args.spent.now.chunk.now.prev c.args.spent.now.chunk.now.bytes.now c.if-is_ruled_out.true c.requires.levels c.args.spent.now.chunk.now.few in
    row-starts g.E.Engine.meaning graph.table graph.wakes c.args.place k c.args.spent.now.chunk.now.prev c.args.spent.now.chunk.now.bytes.now no_places c.tell_nowhere-then-is_ruled_out.new.self c.requires.rows c.args.spent.now.chunk.now.few (λ i low. byte-small c.args.spent.now.chunk.now.bytes.now i c.requires.small low) (read-there list c.args.place c.requires.place)
    (λ below j small. ap (λ i. start_word c.tell_nowhere-then-is_ruled_out.new.self i j) (sym same) ∙ (c.tell_nowhere-then-is_ruled_out.ensures.own (omega (arith, below, same, c.tell_nowhere-then-is_ruled_out.ensures.count)) j small ∙ sym (word-none j small)))
    node there places

pub returns-then-is_ruled_out-clause-asleep : goal.returns-then-is_ruled_out-clause-asleep
returns-then-is_ruled_out-clause-asleep g c node there unmarked =
    let graph = c.args.graph.now in
    let list = graph.wakes.first_engines.items in
    let k = slice_index list c.args.place in
    let same : c.start_of-k.result ≡ k = c.start_of-k.ensures ∙ ap (λ xs. slice_index xs c.args.place) c.deref.ensures.value in
    let places = c.is_ruled_out.ensures.places c.args.spent.now.chunk.now.prev c.args.spent.now.chunk.now.bytes.now c.if-is_ruled_out.true c.requires.levels c.args.spent.now.chunk.now.few in
    let never = c.is_ruled_out.ensures.never node (ap (slice_get graph.table.nodes.items) same ∙ there) c.if-is_ruled_out.true in
    starts-asleep g.E.Engine.meaning graph.table graph.wakes c.args.place k c.args.spent.now.chunk.now.prev c.args.spent.now.chunk.now.bytes.now no_places c.tell_nowhere-then-is_ruled_out.new.self c.requires.rows c.args.spent.now.chunk.now.few (λ i low. byte-small c.args.spent.now.chunk.now.bytes.now i c.requires.small low) (read-there list c.args.place c.requires.place)
    (λ below j small. ap (λ i. start_word c.tell_nowhere-then-is_ruled_out.new.self i j) (sym same) ∙ (c.tell_nowhere-then-is_ruled_out.ensures.own (omega (arith, below, same, c.tell_nowhere-then-is_ruled_out.ensures.count)) j small ∙ sym (word-none j small)))
    node there never (zero-places no_places word-none) places

pub returns-then-is_told-clause-starts : goal.returns-then-is_told-clause-starts
returns-then-is_told-clause-starts g c node there untold =
    let graph = c.args.graph.now in
    let list = graph.wakes.first_engines.items in
    let k = slice_index list c.args.place in
    let same : c.start_of-k.result ≡ k = c.start_of-k.ensures ∙ ap (λ xs. slice_index xs c.args.place) c.deref.ensures.value in
    let some = told-true (told c.args.cache.now c.start_of-k.result) c.is_told.result c.is_told.ensures c.if-is_told.true in
    absurd (none-some (told c.args.cache.now k) some.0 untold (ap (told c.args.cache.now) (sym same) ∙ some.1))

pub returns-then-is_told-clause-asleep : goal.returns-then-is_told-clause-asleep
returns-then-is_told-clause-asleep g c node there unmarked =
    let graph = c.args.graph.now in
    let list = graph.wakes.first_engines.items in
    let k = slice_index list c.args.place in
    let same : c.start_of-k.result ≡ k = c.start_of-k.ensures ∙ ap (λ xs. slice_index xs c.args.place) c.deref.ensures.value in
    let some = told-true (told c.args.cache.now c.start_of-k.result) c.is_told.result c.is_told.ensures c.if-is_told.true in
    c.requires.told k some.0 node (ap (told c.args.cache.now) (sym same) ∙ some.1) there unmarked

pub is_ruled_out-requires-clause-known : goal.is_ruled_out-requires-clause-known
is_ruled_out-requires-clause-known g c =
    let wakes = c.args.graph.now.wakes in
    subst (λ n. n ≤ length wakes.rows.items) (sym (start-behind wakes.row_starts.items c.args.place)) (c.requires.rows.known c.args.place c.requires.place)

pub start_places-places-requires-clause-known : goal.start_places-places-requires-clause-known
start_places-places-requires-clause-known g c =
    let wakes = c.args.graph.now.wakes in
    subst (λ n. n ≤ length wakes.rows.items) (sym (start-behind wakes.row_starts.items c.args.place)) (c.requires.rows.known c.args.place c.requires.place)
