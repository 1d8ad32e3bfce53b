-- Fields are copied one after the other.
use Rattle.std.proofs.Common.{◌≡◌, ℕ, ◌+◌, ◌-◌, ◌<◌, ◌≤◌, List, length, get_or, Some, slice_get, sym, ap, subst, ◌∙◌, inl, inr, arith}
use Rattle.std.specs.Prelude.{slice_index, slice_range}
use Rattle.std.proofs.lemmas.Option.{same_Some}
use Rattle.hs_base.specs.Regions.{fields_at}
use Rattle.hs_base.proofs.BitLemmas.{same-places}
use Rattle.hs_base.proofs.RegionLemmas.{get-range, range-size}
use Rattle.hs_layout.specs.Layouts.{AreApart, Laid, field_bytes, laid_size}
use Rattle.hs_nodes.specs.Walks.{node_part}
use Rattle.hs_nodes.specs.declared.table.Node.{Node}
use Rattle.hs_scan.specs.Copying.{IsFieldCopied}
use Rattle.hs_nodes.specs.Graphs.{FitsLayout, IsCopySound}
use Rattle.hs_nodes.specs.declared.graph.FieldCopy.{FieldCopy}
use Rattle.hs_nodes.specs.declared.graph.Graph.{Graph}

-- a range is the same where its bytes are
pub range-same : (xs ys : List ℕ) (low high : ℕ) → length xs ≡ length ys → low ≤ high → high ≤ length xs → ((i : ℕ) → low ≤ i → i < high → get_or xs i 0 ≡ get_or ys i 0) → slice_range xs low high ≡ slice_range ys low high
range-same xs ys low high len order within same =
    let size : length (slice_range xs low high) ≡ high - low = range-size xs low high order within in
    same-places (slice_range xs low high) (slice_range ys low high) (size ∙ sym (range-size ys low high order (omega (arith, len, within))))
    (λ i below.
    let inner : i < high - low = omega (arith, below, size) in
    get-range xs low high i inner ∙ (same (low + i) (omega arith) (omega (arith, inner)) ∙ sym (get-range ys low high i inner)))

-- two ranges of one size are the same where their bytes are
pub ranges-same : (xs ys : List ℕ) (a b low high : ℕ) → a ≤ b → b ≤ length xs → low ≤ high → high ≤ length ys → b - a ≡ high - low → ((i : ℕ) → i < b - a → get_or xs (a + i) 0 ≡ get_or ys (low + i) 0) → slice_range xs a b ≡ slice_range ys low high
ranges-same xs ys a b low high order within order' within' size same =
    let count : length (slice_range xs a b) ≡ b - a = range-size xs a b order within in
    same-places (slice_range xs a b) (slice_range ys low high) (count ∙ (size ∙ sym (range-size ys low high order' within')))
    (λ i below.
    let inner : i < b - a = omega (arith, below, count) in
    get-range xs a b i inner ∙ (same i inner ∙ sym (get-range ys low high i (omega (arith, inner, size)))))

module _ {E : Type 0} (graph : Graph E) (l : Laid) (fits : FitsLayout graph l) where
  abbrev laid : AreApart l
  laid = fits.apart

  pub field-order : (k : ℕ) → k + 1 < length l.starts → slice_index l.starts k ≤ slice_index l.starts (k + 1)
  field-order k there = laid.rising k (k + 1) (omega arith) there

  pub field-within : (k : ℕ) → k + 1 < length l.starts → slice_index l.starts (k + 1) ≤ laid_size l
  field-within k there = laid.rising (k + 1) (length l.starts - 1) (omega (arith, there)) (omega (arith, laid.some))

  pub field-behind : (k : ℕ) → k + 1 < length l.starts → fields_at l.singles l.identifiers ≤ slice_index l.starts k
  field-behind k there = let first : slice_index l.starts 0 ≤ slice_index l.starts k = laid.rising 0 k (omega arith) (omega (arith, there)) in omega (arith, first, laid.first)

  -- one copy
  pub field-copied : (copy : FieldCopy) (node : Node) (old new : List ℕ) (place : ℕ) → IsCopySound graph l copy → slice_get graph.table.nodes.items copy.node ≡ Some node → length old ≡ laid_size l → length new ≡ length old → place ≡ slice_index l.starts copy.field →
      ((i : ℕ) → i < node.end - node.start → get_or new (place + i) 0 ≡ get_or old (node.start + i) 0) → ((i : ℕ) → i < place → get_or new i 0 ≡ get_or old i 0) → ((i : ℕ) → place + (node.end - node.start) ≤ i → get_or new i 0 ≡ get_or old i 0) →
      IsFieldCopied graph l copy old new
  field-copied copy node old new place own at size len at_place here below from =
      let there : own.node ≡ node = same_Some own.node node (sym own.there ∙ at) in
      let same : node.end - node.start ≡ slice_index l.starts (copy.field + 1) - slice_index l.starts copy.field = subst (λ z. z.end - z.start ≡ slice_index l.starts (copy.field + 1) - slice_index l.starts copy.field) there own.same in
      let order = field-order copy.field own.within in
      let within = field-within copy.field own.within in
      let inner : node.end ≤ laid_size l = fits.within copy.node node at in
      record {
        len = len;
        same = λ other at'.
            subst (λ z. field_bytes l new copy.field ≡ node_part old z) (same_Some node other (sym at ∙ at'))
            (ranges-same new old (slice_index l.starts copy.field) (slice_index l.starts (copy.field + 1)) node.start node.end order (omega (arith, within, len, size)) (fits.order copy.node node at) (omega (arith, inner, size)) (sym same)
            (λ i low. let e : slice_index l.starts copy.field + i ≡ place + i = omega (arith, at_place) in ap (λ n. get_or new n 0) e ∙ here i (omega (arith, low, same))));
        outside = λ i out. elim out [ inl low ↦ below i (omega (arith, low, at_place)) | inr high ↦ from i (omega (arith, high, at_place, same, order)) ];
      }
