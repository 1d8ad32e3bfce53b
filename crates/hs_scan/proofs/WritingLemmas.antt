-- What is written into a region at the end of a write: bits, copies, history and offset.
use Rattle.std.proofs.Common.{◌≡◌, ℕ, ◌+◌, ◌-◌, ◌*◌, ◌/◌, ◌%◌, ◌<◌, ◌≤◌, List, ◌++◌, length, get_or, take, drop, eqb, Some, slice_get, sym, ap, ◌∙◌, inl, inr, arith}
use Rattle.std.specs.Prelude.{slice_index, slice_range}
use Rattle.std.specs.Int.{bit_at}
use Rattle.std.proofs.lemmas.List.{get_or-append-add, get_or-drop, length-take-le}
use Rattle.std.proofs.lemmas.Option.{slice_get_within}
use Rattle.hs_base.specs.Bits.{has_bit}
use Rattle.hs_base.specs.Lists.{Each}
use Rattle.hs_base.specs.Regions.{fields_at, here_at, last_at, region_offset}
use Rattle.hs_layout.specs.Layouts.{Laid, field_bytes, laid_size, with_part}
use Rattle.hs_nodes.specs.Walks.{node_part}
use Rattle.hs_nodes.specs.declared.table.Node.{Node}
use Rattle.hs_scan.specs.Copying.{AreFieldsCopied}
use Rattle.hs_keeping.specs.Keeping.{AreBitsWritten, AreLast, AreRead, HasBits, IsSpareBit, singles_before}
use Rattle.hs_nodes.specs.Graphs.{FitsLayout}
use Rattle.hs_scan.specs.Scans.{IsWritten, Stand}
use Rattle.hs_nodes.specs.declared.graph.Graph.{Graph}
use Rattle.hs_scan.proofs.CopyLemmas.{range-same}
use Rattle.hs_keeping.proofs.KeepingLemmas.{single-below}

-- what stands behind a part stays
part-behind : (region bytes : List ℕ) (low high i : ℕ) → low + length bytes ≡ high → high ≤ length region → high ≤ i → get_or (with_part region low high bytes) i 0 ≡ get_or region i 0
part-behind region bytes low high i wide within above =
    let size : length (take low region) ≡ low = length-take-le low region (omega (arith, wide, within)) in
    let k : ℕ = i - high in
    let e : i ≡ length (take low region) + (length bytes + k) = omega (arith, size, wide, above) in
    let e' : high + k ≡ i = omega (arith, above) in
    ap (λ n. get_or (with_part region low high bytes) n 0) e
    ∙ (get_or-append-add (take low region) (bytes ++ drop high region) (length bytes + k) 0
    ∙ (get_or-append-add bytes (drop high region) k 0 ∙ (get_or-drop high region k 0 ∙ ap (λ n. get_or region n 0) e')))

pub bit-same : (xs ys : List ℕ) (k : ℕ) → get_or xs (k / 8) 0 ≡ get_or ys (k / 8) 0 → has_bit xs k ≡ has_bit ys k
unfolding has_bit
bit-same xs ys k same = ap (λ n. eqb (bit_at n (k % 8)) 1) same

-- the regions of the writes, one after the other
pub record AreWrites {E : Type 0} (graph : Graph E) (l : Laid) (r0 r1 r2 r3 r4 history offset : List ℕ) : Type 0 where
  pub sized : length r0 ≡ laid_size l
  pub room : 72 ≤ fields_at l.singles l.identifiers
  pub header : fields_at l.singles l.identifiers ≤ laid_size l
  pub bits : AreBitsWritten l r0 r1
  pub copies : AreFieldsCopied graph l (length graph.copies.items) r1 r2
  pub third : r3 ≡ with_part r2 8 72 history
  pub wide : length history ≡ 64
  pub len_third : length r3 ≡ length r2
  pub fourth : r4 ≡ with_part r3 0 8 offset
  pub wide_offset : length offset ≡ 8
  pub len_fourth : length r4 ≡ length r3

module _ {E : Type 0} (graph : Graph E) (l : Laid) (fits : FitsLayout graph l) (r0 r1 r2 r3 r4 history offset : List ℕ) (writes : AreWrites graph l r0 r1 r2 r3 r4 history offset) where
  size : length r4 ≡ laid_size l
  size = writes.len_fourth ∙ (writes.len_third ∙ (writes.copies.len ∙ (writes.bits.len ∙ writes.sized)))

  long : 72 ≤ length r2
  long = omega (arith, writes.copies.len, writes.bits.len, writes.sized, writes.room, writes.header)

  late : (i : ℕ) → 8 ≤ i → get_or r4 i 0 ≡ get_or r3 i 0
  late i above = ap (λ r. get_or r i 0) writes.fourth ∙ part-behind r3 offset 0 8 i (omega (arith, writes.wide_offset)) (omega (arith, writes.len_third, long)) above

  later : (i : ℕ) → 72 ≤ i → get_or r4 i 0 ≡ get_or r2 i 0
  later i above =
      late i (omega (arith, above))
      ∙ (ap (λ r. get_or r i 0) writes.third ∙ part-behind r2 history 8 72 i (omega (arith, writes.wide)) long above)

  history-stays : slice_range r4 8 72 ≡ slice_range r3 8 72
  history-stays = range-same r4 r3 8 72 writes.len_fourth (omega arith) (omega (arith, writes.len_fourth, writes.len_third, long)) (λ i above below. late i above)

  -- the bits of identifiers are as they were written
  bits-stay : (k : ℕ) → 8 * 72 ≤ k → k < 8 * fields_at l.singles l.identifiers → has_bit r4 k ≡ has_bit r1 k
  bits-stay k above below = bit-same r4 r1 k (later (k / 8) (omega (arith, above)) ∙ writes.copies.header (k / 8) (omega (arith, below)))

  spare-low : (k : ℕ) → IsSpareBit l k → 8 * 72 ≤ k
  spare-low k (inl (low, high)) = omega (arith, low)
  spare-low k (inr (inl (low, high))) = omega (arith, low)
  spare-low k (inr (inr (low, high))) = omega (arith, low)

  spare-high : (k : ℕ) → IsSpareBit l k → k < 8 * fields_at l.singles l.identifiers
  spare-high k (inl (low, high)) = omega (arith, high)
  spare-high k (inr (inl (low, high))) = omega (arith, high)
  spare-high k (inr (inr (low, high))) = high

  pub spares-stay : (k : ℕ) → IsSpareBit l k → has_bit r4 k ≡ has_bit r0 k
  spares-stay k is = bits-stay k (spare-low k is) (spare-high k is) ∙ writes.bits.spare k is

  node-stays : (k : ℕ) (node : Node) → slice_get graph.table.nodes.items k ≡ Some node → node_part r4 node ≡ node_part r2 node
  node-stays k node at =
      range-same r4 r2 node.start node.end (writes.len_fourth ∙ writes.len_third) (fits.order k node at) (let w : node.end ≤ laid_size l = fits.within k node at in omega (arith, w, size))
      (λ i low high. later i (let f : fields_at l.singles l.identifiers ≤ node.start = fits.behind k node at in omega (arith, f, low, writes.room)))

  node-before : (k : ℕ) (node : Node) → slice_get graph.table.nodes.items k ≡ Some node → node_part r1 node ≡ node_part r0 node
  node-before k node at =
      range-same r1 r0 node.start node.end writes.bits.len (fits.order k node at) (let w : node.end ≤ laid_size l = fits.within k node at in omega (arith, w, writes.bits.len, writes.sized))
      (λ i low high. writes.bits.bytes i (inr (let f : fields_at l.singles l.identifiers ≤ node.start = fits.behind k node at in omega (arith, f, low))))

  field-stays : (k : ℕ) → k + 1 < length l.starts → field_bytes l r4 k ≡ field_bytes l r2 k
  field-stays k there =
      let order : slice_index l.starts k ≤ slice_index l.starts (k + 1) = fits.apart.rising k (k + 1) (omega arith) there in
      let within : slice_index l.starts (k + 1) ≤ laid_size l = fits.apart.rising (k + 1) (length l.starts - 1) (omega (arith, there)) (omega (arith, fits.apart.some)) in
      let first : slice_index l.starts 0 ≤ slice_index l.starts k = fits.apart.rising 0 k (omega arith) (omega (arith, there)) in
      range-same r4 r2 (slice_index l.starts k) (slice_index l.starts (k + 1)) (writes.len_fourth ∙ writes.len_third) order (omega (arith, within, size)) (λ i low high. later i (omega (arith, low, first, fits.apart.first, writes.room)))

  -- So all that is known where the scan is stands in the last region.
  pub all-written : (s : Stand) (last : List ℕ) → s.region ≡ r0 → HasBits l graph.identifiers.items → Each (λ b. b < 256) r4 → region_offset r4 ≡ s.at → slice_range r3 8 72 ≡ s.past → AreRead l r1 graph.identifiers.items s.told s.here → AreLast l r1 graph.identifiers.items last →
      IsWritten graph l s last r4
  all-written s last same has bytes at past read last_is = record {
    len = size;
    bytes = bytes;
    offset = at;
    past = history-stays ∙ past;
    read = λ p x there.
        let inside : p < l.identifiers = omega (arith, slice_get_within graph.identifiers.items p x there, has.all) in
        let is = read p x there in
        record {
          told_is = λ single.
              let low : singles_before graph.identifiers.items p < l.singles = omega (arith, single-below graph.identifiers.items p x there single, has.singles) in
              is.told_is single ∙ sym (bits-stay (8 * 72 + singles_before graph.identifiers.items p) (omega arith) (omega (arith, low)));
          here_is = is.here_is ∙ sym (bits-stay (8 * here_at l.singles + p) (omega arith) (omega (arith, inside)));
        };
    last_is = λ p x there.
        let inside : p < l.identifiers = omega (arith, slice_get_within graph.identifiers.items p x there, has.all) in
        last_is p x there ∙ sym (bits-stay (8 * last_at l.singles l.identifiers + p) (omega arith) (omega (arith, inside)));
    spare = λ k is. spares-stay k is ∙ ap (λ r. has_bit r k) (sym same);
    fields = λ k node at. node-stays k node at ∙ (writes.copies.nodes k node at ∙ (node-before k node at ∙ ap (λ r. node_part r node) (sym same)));
    copied = λ i copy node at there.
        let own = fits.copies i copy at in
        field-stays copy.field own.within ∙ (writes.copies.copied i copy node (slice_get_within graph.copies.items i copy at) at there ∙ sym (node-stays copy.node node there));
  }
