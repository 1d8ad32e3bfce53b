-- Copies are made one after the other, as far as bytes aren't 0.
use Rattle.std.proofs.Common.{◌≡◌, ◌⊎◌, ℕ, suc, ◌+◌, ◌-◌, ◌<◌, ◌≤◌, List, length, get_or, Some, slice_get, refl, sym, ap, subst, ◌∙◌, inl, inr, arith}
use Rattle.std.specs.Prelude.{slice_index}
use Rattle.std.specs.Slice.Scan.{HoldsNowhere}
use Rattle.std.proofs.lemmas.Bool.{cases_eq, cases_lt}
use Rattle.std.proofs.lemmas.Option.{same_Some, slice_get-get_or, slice_get_within}
use Rattle.hs_base.specs.Regions.{fields_at}
use Rattle.hs_layout.specs.Layouts.{AreApart, Laid, field_bytes, laid_size}
use Rattle.hs_nodes.proofs.LivingLemmas.{dead-zero}
use Rattle.hs_nodes.specs.Graphs.{FitsLayout, IsCopySound}
use Rattle.hs_nodes.specs.Living.{AreInTurn, IsAround, is_live}
use Rattle.hs_nodes.specs.Walks.{node_part}
use Rattle.hs_nodes.specs.declared.graph.FieldCopy.{FieldCopy}
use Rattle.hs_nodes.specs.declared.graph.Graph.{Graph}
use Rattle.hs_nodes.specs.declared.table.Node.{Node}
use Rattle.hs_scan.specs.Copying.{AreFieldsCopied, AreMadeOf, ArePassed, GoesOn, IsCopyAround, IsFieldCopied, IsInField, IsInNode, IsKeptUpTo, IsMade, IsSpot, MakesCopies, behind_byte, behind_field}
use Rattle.hs_scan.specs.declared.copying.Spot.{Spot}
use Rattle.hs_scan.proofs.CopyLemmas.{field-behind, field-order, field-within, range-same, ranges-same}

module _ {E : Type 0} (graph : Graph E) (l : Laid) where
  -- Up to a place each copy is made, or all bytes of its field and of its node are 0.

  pub record AreMadeTo (old region : List ℕ) (from : ℕ) : Type 0 where
    pub makes : MakesCopies graph l old region
    pub copies : (n : ℕ) (copy : FieldCopy) → slice_get graph.copies.items n ≡ Some copy →
        IsMade graph l region copy ⊎ ((i : ℕ) → i < from → IsInField graph l copy i ⊎ IsInNode graph l copy i → get_or region i 0 ≡ 0)

module _ {E : Type 0} (graph : Graph E) (l : Laid) (fits : FitsLayout graph l) where
  abbrev laid : AreApart l
  laid = fits.apart

  -- the fields of two copies lie in their order
  pub fields-apart : (i j : ℕ) (a b : FieldCopy) → i < j → slice_get graph.copies.items i ≡ Some a → slice_get graph.copies.items j ≡ Some b → slice_index l.starts (a.field + 1) ≤ slice_index l.starts b.field
  fields-apart i j a b less at at' =
      let early : a.field < b.field = fits.rising i j a b less at at' in
      let there = (fits.copies j b at').within in
      laid.rising (a.field + 1) b.field (omega (arith, early)) (omega (arith, there))

  -- and end in it
  pub ends-rise : (i j : ℕ) (a b : FieldCopy) → i ≤ j → slice_get graph.copies.items i ≡ Some a → slice_get graph.copies.items j ≡ Some b → slice_index l.starts (a.field + 1) ≤ slice_index l.starts (b.field + 1)
  ends-rise i j a b order at at' = elim (cases_lt i j) [
    | inl less ↦
        let e = fields-apart i j a b less at at' in
        let o = field-order graph l fits b.field (fits.copies j b at').within in
        omega (arith, e, o)
    | inr past ↦
        let same : i ≡ j = omega (arith, order, past) in
        let one : a ≡ b = same_Some a b (sym at ∙ (ap (slice_get graph.copies.items) same ∙ at')) in
        subst (λ (x : FieldCopy). slice_index l.starts (a.field + 1) ≤ slice_index l.starts (x.field + 1)) one (omega arith)
  ]

  -- a byte in the field of a copy is in that of no other one
  pub one-field : (i j : ℕ) (a b : FieldCopy) (k : ℕ) → (i ≡ j → ⊥) → slice_get graph.copies.items i ≡ Some a → slice_get graph.copies.items j ≡ Some b → IsInField graph l a k → IsInField graph l b k → ⊥
  one-field i j a b k apart at at' in_a in_b = elim (cases_lt i j) [
    | inl less ↦ let e = fields-apart i j a b less at at' in omega (arith, e, in_a.1, in_b.0)
    | inr past ↦ let e = fields-apart j i b a (omega (arith, past, apart)) at' at in omega (arith, e, in_b.1, in_a.0)
  ]

  -- a byte that a node keeps is in no copy's field
  pub no-field : (n : ℕ) (copy : FieldCopy) (k : ℕ) (node : Node) (i : ℕ) → slice_get graph.copies.items n ≡ Some copy → slice_get graph.table.nodes.items k ≡ Some node → node.start ≤ i → i < node.end → IsInField graph l copy i → ⊥
  no-field n copy k node i at there low high in_field = elim ((fits.copies n copy at).apart k node there) [
    | inl before ↦ omega (arith, before, high, in_field.0)
    | inr behind ↦ omega (arith, behind, low, in_field.1)
  ]

  -- a byte is kept of one node
  pub one-node : (j k : ℕ) (a b : Node) (i : ℕ) → (j ≡ k → ⊥) → slice_get graph.table.nodes.items j ≡ Some a → slice_get graph.table.nodes.items k ≡ Some b → a.start ≤ i → i < a.end → b.start ≤ i → i < b.end → ⊥
  one-node j k a b i apart at at' low high low' high' = elim (cases_lt j k) [
    | inl less ↦ let e = fits.in_turn j k a b less at at' in omega (arith, e, high, low')
    | inr past ↦ let e = fits.in_turn k j b a (omega (arith, past, apart)) at' at in omega (arith, e, high', low)
  ]

  pub in-turn : AreInTurn graph.table.nodes.items (laid_size l)
  in-turn = record { order = fits.order; within = fits.within; apart = fits.in_turn }

  -- What makes copies.

  pub makes-none : (region : List ℕ) → MakesCopies graph l region region
  makes-none region = record { len = refl; nodes = λ k node i there low high. refl; header = λ i low. refl; copies = λ n copy at. inr (λ i in_field. refl) }

  module _ (old new : List ℕ) (size : length old ≡ laid_size l) (makes : MakesCopies graph l old new) where
    -- what is kept of nodes stays
    pub part-stays : (k : ℕ) (node : Node) → slice_get graph.table.nodes.items k ≡ Some node → node_part new node ≡ node_part old node
    part-stays k node there =
        let within : node.end ≤ laid_size l = fits.within k node there in
        range-same new old node.start node.end makes.len (fits.order k node there) (omega (arith, within, makes.len, size))
        (λ i low high. makes.nodes k node i there low high)

    field-same : (n : ℕ) (copy : FieldCopy) → slice_get graph.copies.items n ≡ Some copy → ((i : ℕ) → IsInField graph l copy i → slice_index new i ≡ slice_index old i) → field_bytes l new copy.field ≡ field_bytes l old copy.field
    field-same n copy at same =
        let there = (fits.copies n copy at).within in
        let within = field-within graph l fits copy.field there in
        range-same new old (slice_index l.starts copy.field) (slice_index l.starts (copy.field + 1)) makes.len (field-order graph l fits copy.field there) (omega (arith, within, makes.len, size))
        (λ i low high. same i (low, high))

    -- a copy that is made stays so
    pub made-stays : (n : ℕ) (copy : FieldCopy) → slice_get graph.copies.items n ≡ Some copy → IsMade graph l old copy → IsMade graph l new copy
    made-stays n copy at made node there = elim (makes.copies n copy at) [
      | inl again ↦ again node there
      | inr same ↦ field-same n copy at same ∙ (made node there ∙ sym (part-stays copy.node node there))
    ]

  -- one copy after others
  module _ (number : ℕ) (copy : FieldCopy) (mid new : List ℕ) (at : slice_get graph.copies.items number ≡ Some copy) (size : length mid ≡ laid_size l) (is : IsFieldCopied graph l copy mid new) where
    own : IsCopySound graph l copy
    own = fits.copies number copy at

    outside-node : (k : ℕ) (node : Node) (i : ℕ) → slice_get graph.table.nodes.items k ≡ Some node → node.start ≤ i → i < node.end → slice_index new i ≡ slice_index mid i
    outside-node k node i there low high = is.outside i (elim (own.apart k node there) [ inl before ↦ inl (omega (arith, before, high)) | inr behind ↦ inr (omega (arith, behind, low)) ])

    outside-header : (i : ℕ) → i < fields_at l.singles l.identifiers → slice_index new i ≡ slice_index mid i
    outside-header i low = is.outside i (inl (let f = field-behind graph l fits copy.field own.within in omega (arith, f, low)))

    outside-field : (n : ℕ) (other : FieldCopy) → (n ≡ number → ⊥) → slice_get graph.copies.items n ≡ Some other → (i : ℕ) → IsInField graph l other i → slice_index new i ≡ slice_index mid i
    outside-field n other apart at' i in_field = is.outside i (elim (cases_lt n number) [
      | inl less ↦ inl (let e = fields-apart n number other copy less at' at in omega (arith, e, in_field.1))
      | inr past ↦ inr (let e = fields-apart number n copy other (omega (arith, past, apart)) at at' in omega (arith, e, in_field.0))
    ])

    pub made-one : IsMade graph l new copy
    made-one node there =
        let within : node.end ≤ laid_size l = fits.within copy.node node there in
        is.same node there
        ∙ sym (range-same new mid node.start node.end is.len (fits.order copy.node node there) (omega (arith, within, is.len, size)) (λ i low high. outside-node copy.node node i there low high))

    pub makes-one : MakesCopies graph l mid new
    makes-one = record {
      len = is.len;
      nodes = outside-node;
      header = outside-header;
      copies = λ n other at'. elim (cases_eq n number) [
        | inl same ↦ inl (subst (λ c. IsMade graph l new c) (same_Some copy other (sym at ∙ (ap (slice_get graph.copies.items) (sym same) ∙ at'))) made-one)
        | inr apart ↦ inr (outside-field n other apart at')
      ];
    }

  pub makes-join : (old mid new : List ℕ) → length old ≡ laid_size l → MakesCopies graph l old mid → MakesCopies graph l mid new → MakesCopies graph l old new
  makes-join old mid new size first second = record {
    len = second.len ∙ first.len;
    nodes = λ k node i there low high. second.nodes k node i there low high ∙ first.nodes k node i there low high;
    header = λ i low. second.header i low ∙ first.header i low;
    copies = λ n copy at. elim (second.copies n copy at) [
      | inl made ↦ inl made
      | inr same ↦ elim (first.copies n copy at) [
        | inl made ↦ inl (made-stays mid new (first.len ∙ size) second n copy at made)
        | inr before ↦ inr (λ i in_field. same i in_field ∙ before i in_field)
      ]
    ];
  }

  -- all copies of a node are made, whose numbers are those of a range of the list
  pub made-all : (region : List ℕ) (k end : ℕ) → end ≡ slice_index graph.node_copies.starts.items (suc k) →
      ((j : ℕ) (copy : FieldCopy) → slice_index graph.node_copies.starts.items k ≤ j → j < end → slice_get graph.copies.items (slice_index graph.node_copies.numbers.items j) ≡ Some copy → IsMade graph l region copy) →
      AreMadeOf graph l region k
  made-all region k end last made n copy at same =
      let among = fits.by_node.among n copy at in
      let low : slice_index graph.node_copies.starts.items k ≤ among.place = subst (λ m. slice_index graph.node_copies.starts.items m ≤ among.place) same among.low in
      let high : among.place < slice_index graph.node_copies.starts.items (suc k) = subst (λ m. among.place < slice_index graph.node_copies.starts.items (suc m)) same among.high in
      made among.place copy low (omega (arith, high, last)) (ap (slice_get graph.copies.items) among.is ∙ at)

  -- Which bytes a step passes.

  module _ (place : ℕ) (spot : Spot) (from : spot.from ≤ place) (is : IsSpot graph l spot) where
    -- the copies of the node that keeps the byte
    pub passed-node : (region : List ℕ) (k end : ℕ) → IsKeptUpTo graph l region k place end → ArePassed graph l region place end
    passed-node region k end kept n copy at = elim (cases_eq copy.node k) [
      | inl same ↦ inl (kept.made n copy at same)
      | inr apart ↦ inr (λ i low high has. elim has [
        | inl in_field ↦ no-field n copy k kept.node i at kept.there (omega (arith, kept.low, low)) (omega (arith, kept.end_is, high)) in_field
        | inr in_node ↦ one-node copy.node k in_node.node kept.node i apart in_node.there kept.there in_node.low in_node.high (omega (arith, kept.low, low)) (omega (arith, kept.end_is, high))
      ])
    ]

    -- no node keeps it
    pub no-node : (k : ℕ) → IsAround graph.table.nodes.items spot.node place k → ((node : Node) → slice_get graph.table.nodes.items k ≡ Some node → place < node.start) →
        (j : ℕ) (node : Node) → slice_get graph.table.nodes.items j ≡ Some node → node.start ≤ place → place < node.end → ⊥
    no-node k around none j node there low high = elim (cases_lt j k) [
      | inl before ↦ elim (cases_lt j spot.node) [
        | inl early ↦ let e = is.nodes j node early there in omega (arith, e, from, high)
        | inr late ↦ let e = around.before j node late before there in omega (arith, e, high)
      ]
      | inr past ↦ elim (cases_eq j k) [
        | inl same ↦ let e = none node (ap (slice_get graph.table.nodes.items) (sym same) ∙ there) in omega (arith, e, low)
        | inr apart ↦
            let less : k < j = omega (arith, past, apart) in
            let inside : j < length graph.table.nodes.items = slice_get_within graph.table.nodes.items j node there in
            let own : Node = get_or graph.table.nodes.items k node in
            let at : slice_get graph.table.nodes.items k ≡ Some own = slice_get-get_or graph.table.nodes.items k node (omega (arith, less, inside)) in
            let turn : own.end ≤ node.start = fits.in_turn k j own node less at there in
            let order : own.start ≤ own.end = fits.order k own at in
            let first : place < own.start = none own at in
            omega (arith, turn, order, first, low)
      ]
    ]

    -- the copies before the next one about it end up to it
    early-copy : (n : ℕ) → IsCopyAround graph l spot.copy place n → (j : ℕ) (copy : FieldCopy) → j < n → slice_get graph.copies.items j ≡ Some copy → slice_index l.starts (copy.field + 1) ≤ place
    early-copy n around j copy low at = elim (cases_lt j spot.copy) [
      | inl early ↦ let e = is.copies j copy early at in omega (arith, e, from)
      | inr late ↦ around.before j copy late low at
    ]

    -- no field has it
    no-copy : (n : ℕ) → IsCopyAround graph l spot.copy place n → ((copy : FieldCopy) → slice_get graph.copies.items n ≡ Some copy → place < slice_index l.starts copy.field) →
        (j : ℕ) (copy : FieldCopy) → slice_get graph.copies.items j ≡ Some copy → IsInField graph l copy place → ⊥
    no-copy n around none j copy at in_field = elim (cases_lt j n) [
      | inl before ↦ let e = early-copy n around j copy before at in omega (arith, e, in_field.1)
      | inr past ↦ elim (cases_eq j n) [
        | inl same ↦ let e = none copy (ap (slice_get graph.copies.items) (sym same) ∙ at) in omega (arith, e, in_field.0)
        | inr apart ↦
            let less : n < j = omega (arith, past, apart) in
            let inside : j < length graph.copies.items = slice_get_within graph.copies.items j copy at in
            let own : FieldCopy = get_or graph.copies.items n copy in
            let there : slice_get graph.copies.items n ≡ Some own = slice_get-get_or graph.copies.items n copy (omega (arith, less, inside)) in
            let turn : slice_index l.starts (own.field + 1) ≤ slice_index l.starts copy.field = fields-apart n j own copy less there at in
            let order : slice_index l.starts own.field ≤ slice_index l.starts (own.field + 1) = field-order graph l fits own.field (fits.copies n own there).within in
            let first : place < slice_index l.starts own.field = none own there in
            omega (arith, turn, order, first, in_field.0)
      ]
    ]

    -- the copy whose field has it, or the byte alone
    pub passed-copy : (region : List ℕ) (k n next : ℕ) → IsAround graph.table.nodes.items spot.node place k → ((node : Node) → slice_get graph.table.nodes.items k ≡ Some node → place < node.start) →
        IsCopyAround graph l spot.copy place n → GoesOn graph l region n place next → ArePassed graph l region place next
    passed-copy region k n next around none copies (behind_field own there begin made end) j copy at = elim (cases_eq j n) [
      | inl same ↦ inl (subst (λ c. IsMade graph l region c) (same_Some own copy (sym there ∙ (ap (slice_get graph.copies.items) (sym same) ∙ at))) made)
      | inr apart ↦ inr (λ i low high has.
          let in_own : IsInField graph l own i = (omega (arith, begin, low), omega (arith, high, end)) in
          elim has [
            | inl in_field ↦ one-field j n copy own i apart at there in_field in_own
            | inr in_node ↦ no-field n own copy.node in_node.node i there in_node.there in_node.low in_node.high in_own
          ])
    ]
    passed-copy region k n next around none copies (behind_byte first end) j copy at = inr (λ i low high has.
        let same : i ≡ place = omega (arith, low, high, end) in
        elim has [
          | inl in_field ↦ no-copy n copies first j copy at (subst (λ m. IsInField graph l copy m) same in_field)
          | inr in_node ↦ no-node k around none copy.node in_node.node in_node.there (omega (arith, in_node.low, same)) (omega (arith, in_node.high, same))
        ])

    -- The spot behind it.

    early-node : (k : ℕ) → IsAround graph.table.nodes.items spot.node place k → (j : ℕ) (node : Node) → j < k → slice_get graph.table.nodes.items j ≡ Some node → node.end ≤ place
    early-node k around j node low there = elim (cases_lt j spot.node) [
      | inl early ↦ let e = is.nodes j node early there in omega (arith, e, from)
      | inr late ↦ around.before j node late low there
    ]

    pub spot-node : (region : List ℕ) (k end : ℕ) → IsAround graph.table.nodes.items spot.node place k → IsKeptUpTo graph l region k place end →
        (place < end) × ((end ≤ laid_size l) × IsSpot graph l (record { from = end; node = k; copy = spot.copy }))
    spot-node region k end around kept =
        let own : place < kept.node.end = around.own kept.node kept.there in
        let within : kept.node.end ≤ laid_size l = fits.within k kept.node kept.there in
        let later : place < end = omega (arith, own, kept.end_is) in (
          later,
          (
            omega (arith, within, kept.end_is),
            record {
              few_nodes = around.high;
              few_copies = is.few_copies;
              nodes = λ j node low there. let e = early-node k around j node low there in omega (arith, e, later);
              copies = λ j copy low at. let e = is.copies j copy low at in omega (arith, e, from, later);
            },
          ),
        )

    -- the next place is behind the byte
    goes-later : (region : List ℕ) (n next : ℕ) → place < laid_size l → IsCopyAround graph l spot.copy place n → GoesOn graph l region n place next → (place < next) × (next ≤ laid_size l)
    goes-later region n next room copies (behind_field copy there begin made end) =
        let own : place < slice_index l.starts (copy.field + 1) = copies.own copy there in
        let within : slice_index l.starts (copy.field + 1) ≤ laid_size l = field-within graph l fits copy.field (fits.copies n copy there).within in
        (omega (arith, own, end), omega (arith, within, end))
    goes-later region n next room copies (behind_byte first end) = (omega (arith, end), omega (arith, end, room))

    pub spot-copy : (region : List ℕ) (k n next : ℕ) → place < laid_size l → IsAround graph.table.nodes.items spot.node place k → IsCopyAround graph l spot.copy place n → GoesOn graph l region n place next →
        (place < next) × ((next ≤ laid_size l) × IsSpot graph l (record { from = next; node = k; copy = n }))
    spot-copy region k n next room around copies goes =
        let later = goes-later region n next room copies goes in (
          later.0,
          (
            later.1,
            record {
              few_nodes = around.high;
              few_copies = copies.high;
              nodes = λ j node low there. let e = early-node k around j node low there in omega (arith, e, later.0);
              copies = λ j copy low at. let e = early-copy n copies j copy low at in omega (arith, e, later.0);
            },
          ),
        )

  -- As far as copies are made.

  pub made-first : (region : List ℕ) (from : ℕ) → from ≡ slice_index l.starts 0 → AreMadeTo graph l region region from
  made-first region from first = record {
    makes = makes-none region;
    copies = λ n copy at. inr (λ i low has.
        let start : slice_index l.starts 0 ≤ slice_index l.starts copy.field = laid.rising 0 copy.field (omega arith) (let w = (fits.copies n copy at).within in omega (arith, w)) in
        absurd (elim has [
          | inl in_field ↦ omega (arith, in_field.0, start, low, first)
          | inr in_node ↦ let b : fields_at l.singles l.identifiers ≤ in_node.node.start = fits.behind copy.node in_node.node in_node.there in omega (arith, b, in_node.low, low, first, laid.first)
        ]));
  }

  pub made-on : (old region new : List ℕ) (from place next : ℕ) → length old ≡ laid_size l → AreMadeTo graph l old region from → HoldsNowhere (is_live region) from place → MakesCopies graph l region new → ArePassed graph l new place next →
      AreMadeTo graph l old new next
  made-on old region new from place next size so_far none makes passed =
      let sized : length region ≡ laid_size l = so_far.makes.len ∙ size in record {
        makes = makes-join old region new size so_far.makes makes;
        copies = λ n copy at. elim (passed n copy at) [
          | inl made ↦ inl made
          | inr free ↦ elim (so_far.copies n copy at) [
            | inl made ↦ inl (made-stays region new sized makes n copy at made)
            | inr zeros ↦ elim (makes.copies n copy at) [
              | inl made ↦ inl made
              | inr same ↦ inr (λ i low has.
                  let early : i < place = before i low has free in
                  stays n copy at same i has ∙ old-zero n copy zeros i early has)
            ]
          ]
        ];
      }
    where
      before : {copy : FieldCopy} (i : ℕ) → i < next → IsInField graph l copy i ⊎ IsInNode graph l copy i → ((i : ℕ) → place ≤ i → i < next → IsInField graph l copy i ⊎ IsInNode graph l copy i → ⊥) → i < place
      before i low has free = elim (cases_lt i place) [ inl less ↦ less | inr past ↦ absurd (free i past low has) ]

      stays : (n : ℕ) (copy : FieldCopy) → slice_get graph.copies.items n ≡ Some copy → ((i : ℕ) → IsInField graph l copy i → slice_index new i ≡ slice_index region i) → (i : ℕ) → IsInField graph l copy i ⊎ IsInNode graph l copy i → get_or new i 0 ≡ get_or region i 0
      stays n copy at same i (inl in_field) = same i in_field
      stays n copy at same i (inr in_node) = makes.nodes copy.node in_node.node i in_node.there in_node.low in_node.high

      old-zero : (n : ℕ) (copy : FieldCopy) → ((i : ℕ) → i < from → IsInField graph l copy i ⊎ IsInNode graph l copy i → get_or region i 0 ≡ 0) → (i : ℕ) → i < place → IsInField graph l copy i ⊎ IsInNode graph l copy i → get_or region i 0 ≡ 0
      old-zero n copy zeros i early has = elim (cases_lt i from) [ inl less ↦ zeros i less has | inr past ↦ dead-zero region i (none i past early) ]

  -- where no byte is left that isn't 0, all copies are made
  pub made-end : (old region : List ℕ) (from : ℕ) → length old ≡ laid_size l → AreMadeTo graph l old region from → HoldsNowhere (is_live region) from (length region) → AreFieldsCopied graph l (length graph.copies.items) old region
  made-end old region from size so_far none = record {
    len = so_far.makes.len;
    copied = λ n copy node low at there. elim (so_far.copies n copy at) [
      | inl made ↦ made node there
      | inr zeros ↦ blank-made n copy node at there zeros
    ];
    nodes = λ k node there. part-stays old region size so_far.makes k node there;
    header = so_far.makes.header;
  }
    where
      blank-made : (n : ℕ) (copy : FieldCopy) (node : Node) → slice_get graph.copies.items n ≡ Some copy → slice_get graph.table.nodes.items copy.node ≡ Some node → ((i : ℕ) → i < from → IsInField graph l copy i ⊎ IsInNode graph l copy i → get_or region i 0 ≡ 0) → field_bytes l region copy.field ≡ node_part region node
      blank-made n copy node at there zeros =
          let own = fits.copies n copy at in
          let sized : length region ≡ laid_size l = so_far.makes.len ∙ size in
          let one : own.node ≡ node = same_Some own.node node (sym own.there ∙ there) in
          let same : node.end - node.start ≡ slice_index l.starts (copy.field + 1) - slice_index l.starts copy.field = subst (λ z. z.end - z.start ≡ slice_index l.starts (copy.field + 1) - slice_index l.starts copy.field) one own.same in
          let order = field-order graph l fits copy.field own.within in
          let within : slice_index l.starts (copy.field + 1) ≤ laid_size l = field-within graph l fits copy.field own.within in
          let order' : node.start ≤ node.end = fits.order copy.node node there in
          let within' : node.end ≤ laid_size l = fits.within copy.node node there in
          ranges-same region region (slice_index l.starts copy.field) (slice_index l.starts (copy.field + 1)) node.start node.end order (omega (arith, within, sized)) order' (omega (arith, within', sized)) (sym same)
          (λ j low.
          let in_field : IsInField graph l copy (slice_index l.starts copy.field + j) = (omega arith, omega (arith, low, order)) in
          let in_node : IsInNode graph l copy (node.start + j) = record { node = node; there = there; low = omega arith; high = omega (arith, low, same, order') } in
          zero (slice_index l.starts copy.field + j) (omega (arith, in_field.1, within, sized)) (inl in_field)
          ∙ sym (zero (node.start + j) (omega (arith, in_node.high, within', sized)) (inr in_node)))
        where
          zero : (i : ℕ) → i < length region → IsInField graph l copy i ⊎ IsInNode graph l copy i → get_or region i 0 ≡ 0
          zero i low has = elim (cases_lt i from) [ inl less ↦ zeros i less has | inr past ↦ dead-zero region i (none i past low) ]
