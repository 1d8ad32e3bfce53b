use Rattle.std.proofs.Common.{◌≡◌, ◌∙◌, true, false, sym, subst}
use Rattle.std.specs.Prelude.{Some}
use Rattle.hs_base.specs.ByteSets.{members}
use Rattle.hs_base.specs.Fields.{Leaves}
use Rattle.hs_repeat.proofs.EntryLemmas.{away-leaves, leaves-away}
use Rattle.hs_repeat.proofs.ring.RingEngine.out.Goals as goal

pub returns-then-has_entry_away-clause-leaves : goal.returns-then-has_entry_away-clause-leaves
returns-then-has_entry_away-clause-leaves c tree u entered runs len at prev row next = (
  λ told.
      let whole = c.has_entry_away.ensures.away u entered at len row in
      let (d, away, low, high) = whole.0 c.if-has_entry_away.true in
      subst (λ t. Leaves t u entered next) (sym runs) (away-leaves (members c.args.self.now.set) c.args.self.now.least (Some c.args.self.now.greatest) u entered next d away low high),
  λ leaves. c.all.ensures next,
)

pub returns-else-has_entry_away-clause-leaves : goal.returns-else-has_entry_away-clause-leaves
returns-else-has_entry_away-clause-leaves c tree u entered runs len at prev row next = (
  λ told. absurd (let e : true ≡ false = sym told ∙ c.empty.ensures next in cc),
  λ leaves.
      let whole = c.has_entry_away.ensures.away u entered at len row in
      let found = leaves-away (members c.args.self.now.set) c.args.self.now.least (Some c.args.self.now.greatest) u entered next (subst (λ t. Leaves t u entered next) runs leaves) in
      absurd (let e : true ≡ false = sym (whole.1 found) ∙ c.if-has_entry_away.false in cc),
)
