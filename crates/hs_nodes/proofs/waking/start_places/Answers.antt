use Rattle.std.proofs.Common.{◌≡◌, ◌+◌, ◌<◌, ◌≤◌, ◌∙◌, suc, List, length, refl, sym, ap, subst, arith}
use Rattle.std.specs.Prelude.{Some, slice_get, slice_index, vec_len}
use Rattle.std.proofs.lemmas.Option.{slice_get_read}
use Rattle.hs_base.specs.declared.byte_set.ByteSet.{ByteSet}
use Rattle.hs_nodes.specs.Waking.{HavePlaces}
use Rattle.hs_waking.specs.ChunkWords.{AreOfChunk}
use Rattle.hs_waking.specs.FitStacks.{IsStackOf}
use Rattle.hs_waking.specs.declared.class_words.ClassWords.{ClassWords}
use Rattle.hs_waking.specs.Fits.{IsBehindBy, IsRowBy, row_numbers}
use Rattle.hs_nodes.proofs.StartingLemmas.{places-all, places-more, places-united, start-behind}
use Rattle.hs_nodes.proofs.waking.start_places.Goals as goal
use Rattle.hs_nodes.proofs.waking.start_places.Goals.{then-not-rules_out, else-not-rules_out}

pub returns-then-will_all_do-clause-places : goal.returns-then-will_all_do-clause-places
returns-then-will_all_do-clause-places c =
    let wakes = c.args.wakes.now in
    places-all wakes.rows.items wakes.sets.items c.args.chunk.now.prev c.args.chunk.now.bytes.now (slice_index wakes.row_starts.items c.args.place) (slice_index wakes.row_starts.items (suc c.args.place)) _ refl c.args.chunk.now.few

pub fit_places-fitting-requires-clause-numbers : goal.fit_places-fitting-requires-clause-numbers
fit_places-fitting-requires-clause-numbers c d low =
    let wakes = c.args.wakes.now in
    let row = c.index-row.result.now in
    let to : c.start_of-to.result ≡ slice_index wakes.row_starts.items (c.args.place + 1) = c.start_of-to.ensures ∙ ap (λ xs. slice_index xs (c.args.place + 1)) c.deref.ensures.value in
    let at : slice_get wakes.rows.items c.loop-i.i ≡ Some row = slice_get_read wakes.rows.items (vec_len wakes.rows) c.loop-i.i row wakes.rows.ok.0 (omega (arith, to, c.loop-i-test.true, c.requires.known, wakes.rows.ok.0)) c.index-row.ensures in
    subst (λ (ss : List ByteSet). slice_index (row_numbers row) d < length ss) (sym c.deref-then-not-rules_out.ensures.value) (c.requires.numbers c.loop-i.i d row at low)

pub fit_places-fitting-requires-clause-behind : goal.fit_places-fitting-requires-clause-behind
fit_places-fitting-requires-clause-behind c =
    let wakes = c.args.wakes.now in
    let row = c.index-row.result.now in
    let to : c.start_of-to.result ≡ slice_index wakes.row_starts.items (c.args.place + 1) = c.start_of-to.ensures ∙ ap (λ xs. slice_index xs (c.args.place + 1)) c.deref.ensures.value in
    let at : slice_get wakes.rows.items c.loop-i.i ≡ Some row = slice_get_read wakes.rows.items (vec_len wakes.rows) c.loop-i.i row wakes.rows.ok.0 (omega (arith, to, c.loop-i-test.true, c.requires.known, wakes.rows.ok.0)) c.index-row.ensures in
    subst (IsBehindBy row) (sym c.deref-then-not-rules_out.ensures.value) (c.requires.begins c.loop-i.i row at)

pub loop-i-preserved : goal.loop-i-preserved
loop-i-preserved c =
    let rows = c.args.wakes.now.rows in
    let sets = c.args.wakes.now.sets.items in
    let starts = c.args.wakes.now.row_starts.items in
    let prev = c.args.chunk.now.prev in
    let bytes = c.args.chunk.now.bytes.now in
    let row = c.index-row.result.now in
    let i = c.loop-i.i in
    let from = slice_index starts c.args.place in
    let to : c.start_of-to.result ≡ slice_index starts (c.args.place + 1) = c.start_of-to.ensures ∙ ap (λ xs. slice_index xs (c.args.place + 1)) c.deref.ensures.value in
    let at : slice_get rows.items i ≡ Some row = slice_get_read rows.items (vec_len rows) i row rows.ok.0 (omega (arith, to, c.loop-i-test.true, c.requires.known, rows.ok.0)) c.index-row.ensures in
    elim c.if-not-rules_out.branch [
      | then-not-rules_out w ↦
          let fit = w.fit_places-fitting in
          let same = w.deref-then-not-rules_out.ensures.value in
          record {
            room = subst (λ (ws : ClassWords). length sets ≤ ws.count) (sym w.words-is) (omega (arith, fit.ensures.count, c.loop-i.invariant.room));
            chunk = subst (λ ws. AreOfChunk ws sets bytes) (sym w.words-is) (subst (λ ss. AreOfChunk fit.new.words ss bytes) same fit.ensures.chunk);
            levels = subst (λ s. IsStackOf s sets prev bytes) (sym w.stack-is) (subst (λ ss. IsStackOf fit.new.self ss prev bytes) same fit.ensures.levels);
            places = subst (HavePlaces rows.items sets from (i + 1) prev bytes) (sym w.places-is)
                (places-united rows.items sets prev bytes from i (i + 1) c.loop-i.places fit.result w.unite_words.new.words row refl c.args.chunk.now.few at w.unite_words.ensures.bits
                (λ own numbered. fit.ensures.places own (subst (λ ss. IsRowBy (row_numbers row) ss own) (sym same) numbered)) c.loop-i.invariant.places);
          }
      | else-not-rules_out w ↦
          record {
            room = subst (λ (ws : ClassWords). length sets ≤ ws.count) (sym w.words-is) c.loop-i.invariant.room;
            chunk = subst (λ ws. AreOfChunk ws sets bytes) (sym w.words-is) c.loop-i.invariant.chunk;
            levels = subst (λ s. IsStackOf s sets prev bytes) (sym w.stack-is) c.loop-i.invariant.levels;
            places = subst (HavePlaces rows.items sets from (i + 1) prev bytes) (sym w.places-is)
                (places-more rows.items sets prev bytes from i (i + 1) c.loop-i.places c.loop-i.places row refl at (λ p set. set)
                (λ cut p numbered inside fits. absurd (c.rules_out.ensures w.if-not-rules_out.false sets cut prev bytes c.loop-i.invariant.levels c.args.chunk.now.few numbered p inside fits)) c.loop-i.invariant.places);
          }
    ]

pub returns-clause-places : goal.returns-clause-places
returns-clause-places c i row cut p low high at numbered inside fits =
    let starts = c.args.wakes.now.row_starts.items in
    let to : c.start_of-to.result ≡ slice_index starts (suc c.args.place) = c.start_of-to.ensures ∙ (ap (λ xs. slice_index xs (c.args.place + 1)) c.deref.ensures.value ∙ start-behind starts c.args.place) in
    c.loop-i.invariant.places i row cut p low (omega (arith, high, to, c.loop-i-test.false)) at numbered inside fits
