use Rattle.std.proofs.Common.{sym, ◌∙◌, arith}
use Rattle.hs_parse.specs.Reading.{FromEach, StopsFrom}
use Rattle.hs_parse.proofs.StopLemmas.{faulty_stops, depth_stops, group_stops, quantifier_stops, passes_stops}
use Rattle.hs_parse.proofs.LoopLemmas.{as_next, bar_rises, no_alternatives, no_sequence, more_sequence, setting_sequence, more_alternatives, all_alternatives, group_read, group_open, sequence_ends, single_read, point_read, point_there, point_within, assertion_read, once_read, repeated_read, twice_read, wrong_read, sequence_read, handed_on}
use Rattle.hs_parse.proofs.parser.+parser.Goals as goal

pub alternation_at-loop-alternatives-init : goal.alternation_at-loop-alternatives-init
alternation_at-loop-alternatives-init t c = no_alternatives _ _ _ _ c.new-alternatives.ensures.items c.requires.within

pub alternation_at-returns-in_err-sequence-clause-refused : goal.alternation_at-returns-in_err-sequence-clause-refused
alternation_at-returns-in_err-sequence-clause-refused t c =
    handed_on (StopsFrom c.args.text.now c.args.depth c.args.start) c.from_residual.result _ c.from_residual.ensures
    (passes_stops _ _ _ _ _ c.loop-alternatives.invariant.passes c.in_err-sequence.ensures.refused)

pub alternation_at-returns-then-not-is_bar-clause-read : goal.alternation_at-returns-then-not-is_bar-clause-read
alternation_at-returns-then-not-is_bar-clause-read t c =
    all_alternatives _ _ _ _ _ _ _ _ _ _ c.loop-alternatives.invariant c.in_ok-sequence.ensures.read c.next_token-found.ensures
    c.if-not-is_bar.ensures c.in_ok-push.ensures.items c.alternation_of.ensures

pub alternation_at-loop-alternatives-smaller : goal.alternation_at-loop-alternatives-smaller
alternation_at-loop-alternatives-smaller t c =
    let read = c.in_ok-sequence.ensures.read in
    let next = c.next_token-found.ensures in
    let rises = bar_rises _ _ _ next c.if-not-is_bar.ensures in
    omega (arith, read.rises, rises, next.within)

pub alternation_at-loop-alternatives-preserved : goal.alternation_at-loop-alternatives-preserved
alternation_at-loop-alternatives-preserved t c =
    more_alternatives _ _ _ _ _ _ _ _ _ c.loop-alternatives.invariant c.in_ok-sequence.ensures.read c.next_token-found.ensures
    c.if-not-is_bar.ensures c.in_ok-push.ensures.items

pub atom_at-returns-in-End-clause-read : goal.atom_at-returns-in-End-clause-read
atom_at-returns-in-End-clause-read t c = λ at next. sequence_ends _ at c.args.found next c.in-End.is c.requires.item

pub atom_at-returns-in-Single-clause-read : goal.atom_at-returns-in-Single-clause-read
atom_at-returns-in-Single-clause-read t c = λ at next. single_read _ _ at c.args.found _ next c.in-Single.is

pub atom_at-points_at-requires-clause-there : goal.atom_at-points_at-requires-clause-there
atom_at-points_at-requires-clause-there t c = point_there _ c.args.found c.requires.next c.in-Point.is

pub atom_at-points_at-requires-clause-within : goal.atom_at-points_at-requires-clause-within
atom_at-points_at-requires-clause-within t c = point_within _ c.args.found c.requires.next

pub atom_at-returns-in_ok-ranges-in-Point-clause-read : goal.atom_at-returns-in_ok-ranges-in-Point-clause-read
atom_at-returns-in_ok-ranges-in-Point-clause-read t c = λ at next. point_read _ _ at c.args.found _ c.in_ok-ranges-in-Point.ensures next c.in-Point.is

pub atom_at-returns-in-Assert-clause-read : goal.atom_at-returns-in-Assert-clause-read
atom_at-returns-in-Assert-clause-read t c = λ at next. assertion_read _ _ at c.args.found _ next c.in-Assert.is

pub atom_at-returns-in-Quantifier-clause-refused : goal.atom_at-returns-in-Quantifier-clause-refused
atom_at-returns-in-Quantifier-clause-refused t c = λ at next. quantifier_stops _ _ at _ _ _ _ _ (as_next next c.in-Quantifier.is)

pub atom_at-returns-in-Refused-clause-refused : goal.atom_at-returns-in-Refused-clause-refused
atom_at-returns-in-Refused-clause-refused t c = λ at next. faulty_stops _ _ at _ _ _ (as_next next c.in-Refused.is)

pub group_at-returns-then-depth-eq-MAX_DEPTH-clause-refused : goal.group_at-returns-then-depth-eq-MAX_DEPTH-clause-refused
group_at-returns-then-depth-eq-MAX_DEPTH-clause-refused t c =
    λ at next. depth_stops _ _ at _ _ (omega arith) (as_next next c.requires.opens)

pub group_at-returns-in_err-body-clause-refused : goal.group_at-returns-in_err-body-clause-refused
group_at-returns-in_err-body-clause-refused t c =
    handed_on (λ fault. FromEach c.args.text.now c.args.found (λ at. StopsFrom c.args.text.now c.args.depth at fault))
    c.from_residual.result _ c.from_residual.ensures
    (λ at next. group_stops _ _ at _ _ _ (omega arith) (as_next next c.requires.opens) c.in_err-body.ensures.refused)

pub group_at-returns-then-is_end-clause-refused : goal.group_at-returns-then-is_end-clause-refused
group_at-returns-then-is_end-clause-refused t c =
    λ at next.
    group_open _ _ at _ c.args.found c.next_token-close.result _ (omega arith) next c.requires.opens c.in_ok-body.ensures.read
    c.next_token-close.ensures c.if-is_end.ensures

pub group_at-returns-clause-read : goal.group_at-returns-clause-read
group_at-returns-clause-read t c =
    λ at next.
    group_read _ _ at _ c.args.found c.next_token-close.result _ (omega arith) next c.requires.opens c.in_ok-body.ensures.read
    c.next_token-close.ensures c.if-is_end.ensures

pub item_at-returns-in_default-clause-read : goal.item_at-returns-in_default-clause-read
item_at-returns-in_default-clause-read t c = rw c.in_default.is at c.in_ok-atom.ensures.read

pub sequence_at-loop-at-init : goal.sequence_at-loop-at-init
sequence_at-loop-at-init t c = no_sequence _ _ _ _ c.new-items.ensures.items c.requires.within

pub sequence_at-returns-in_err-item-clause-refused : goal.sequence_at-returns-in_err-item-clause-refused
sequence_at-returns-in_err-item-clause-refused t c =
    handed_on (StopsFrom c.args.text.now c.args.depth c.args.start) c.from_residual.result _ c.from_residual.ensures
    (passes_stops _ _ _ _ _ c.loop-at.invariant.passes
    (c.in_err-item.ensures.refused c.loop-at.at c.next_token-found.ensures))

pub item_at-returns-in_default-quantifier-clause-read : goal.item_at-returns-in_default-quantifier-clause-read
item_at-returns-in_default-quantifier-clause-read t c =
    let atom = rw c.in-Some.is at c.in_ok-atom.ensures.read in
    λ at next. once_read _ _ at _ c.next_token-next.result _ (atom at next) c.next_token-next.ensures c.in_default-quantifier.ensures

pub item_at-returns-in-Some-quantifier_fault-clause-refused : goal.item_at-returns-in-Some-quantifier_fault-clause-refused
item_at-returns-in-Some-quantifier_fault-clause-refused t c =
    let atom = rw c.in-Some.is at c.in_ok-atom.ensures.read in
    λ at next. wrong_read _ _ at _ c.next_token-next.result _ _ _ _ _ (atom at next) c.next_token-next.ensures c.in-Some-quantifier.ensures
    c.in-Some-quantifier_fault.ensures

pub item_at-returns-then-is_quantifier-clause-refused : goal.item_at-returns-then-is_quantifier-clause-refused
item_at-returns-then-is_quantifier-clause-refused t c =
    let atom = rw c.in-Some.is at c.in_ok-atom.ensures.read in
    λ at next.
    twice_read _ _ at _ c.next_token-next.result c.next_token-behind.result _ _ _ _ (atom at next) c.next_token-next.ensures
    c.in-Some-quantifier.ensures c.in_default-quantifier_fault.ensures c.next_token-behind.ensures
    (sym c.is_quantifier.ensures ∙ c.if-is_quantifier.true)

pub item_at-returns-clause-read : goal.item_at-returns-clause-read
item_at-returns-clause-read t c =
    let atom = rw c.in-Some.is at c.in_ok-atom.ensures.read in
    λ at next.
    repeated_read _ _ at _ c.next_token-next.result c.next_token-behind.result _ _ _ c.in-Some.atom c.in_ok-body.body (atom at next)
    c.next_token-next.ensures c.in-Some-quantifier.ensures c.in_default-quantifier_fault.ensures c.next_token-behind.ensures
    (sym c.is_quantifier.ensures ∙ c.if-is_quantifier.false) c.in_ok-body.ensures.ok

pub sequence_at-loop-at-preserved-then-is_setting : goal.sequence_at-loop-at-preserved-then-is_setting
sequence_at-loop-at-preserved-then-is_setting t c =
    setting_sequence _ _ _ _ c.next_token-found.result _ c.loop-at.invariant c.next_token-found.ensures c.if-is_setting.ensures

pub sequence_at-returns-in_default-clause-read : goal.sequence_at-returns-in_default-clause-read
sequence_at-returns-in_default-clause-read t c =
    let ended = (rw c.in_default.is at c.in_ok-item.ensures.read) c.loop-at.at c.next_token-found.ensures in
    sequence_read _ _ _ _ c.loop-at.items.items c.sequence_of.result c.loop-at.invariant ended c.sequence_of.ensures

pub sequence_at-loop-at-preserved : goal.sequence_at-loop-at-preserved
sequence_at-loop-at-preserved t c =
    let item = (rw c.in-Some.is at c.in_ok-item.ensures.read) c.loop-at.at c.next_token-found.ensures in
    more_sequence _ _ _ _ _ c.loop-at.items.items c.push.new.self.items c.in-Some.item c.loop-at.invariant item
    c.in_ok-push.ensures.items
