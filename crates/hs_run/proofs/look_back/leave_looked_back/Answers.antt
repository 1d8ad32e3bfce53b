use Rattle.std.proofs.Common.{◌≡◌, ℕ, ◌-◌, ◌≤◌, [], ◌∷◌, length, map, take, get_or, true, Some, slice_get, sym, ap, subst, ◌∙◌, arith}
use Rattle.std.proofs.lemmas.Bool.{false≢true}
use Rattle.std.proofs.lemmas.List.{length-map}
use Rattle.std.proofs.lemmas.Option.{same_Some}
use Rattle.hs_base.specs.Chains.{lit, nfa, IsFitChain}
use Rattle.hs_base.specs.ContextSets.{has_next}
use Rattle.hs_base.specs.Leaving.{TellsLeaving}
use Rattle.hs_base.specs.LiteralEnds.{EndsAt}
use Rattle.hs_base.specs.LiteralView.{literal_byte}
use Rattle.hs_run.specs.Pieces.{IsRoleNull}
use Rattle.hs_run.proofs.BeginLemmas.{looked-value, looks, pair-named, pair-short, pair-window}
use Rattle.hs_run.proofs.TakingLemmas.{ends-taken}
use Rattle.hs_run.proofs.LookLemmas.{looked-none, looked-tells, window-byte}
use Rattle.hs_run.proofs.look_back.leave_looked_back.Goals as goal

pub role_at-requires : goal.role_at-requires
role_at-requires g c =
    let (r, role, look) = looks c.args.program.now c.args.chain.now c.requires.sound (c.requires.some, c.requires.looks_back) in
    record { there = omega (arith, look.within, c.requires.sound.within) }

pub literal_of-literal-requires : goal.literal_of-literal-requires
literal_of-literal-requires g c =
    record { there = pair-named c.args.program.now c.args.chain.now c.requires.sound (c.requires.some, c.requires.looks_back) c.role_at.result.now c.role_at.ensures.is }

pub ends_here-requires : goal.ends_here-requires
ends_here-requires g c =
    let (some, short) = pair-short c.args.program.now c.args.chain.now c.requires.sound (c.requires.some, c.requires.looks_back) c.role_at.result.now (map literal_byte c.literal_of-literal.result.now) c.role_at.ensures.is c.literal_of-literal.ensures in
    omega (arith, short, length-map c.literal_of-literal.result.now literal_byte)

pub leave_back-before-requires-clause-sound : goal.leave_back-before-requires-clause-sound
leave_back-before-requires-clause-sound g c =
    pair-window c.args.program.now c.args.chain.now c.requires.sound (c.requires.some, c.requires.looks_back) c.role_at-2.result.now c.role_at-2.ensures.is

pub leave_back-before-requires-clause-back : goal.leave_back-before-requires-clause-back
leave_back-before-requires-clause-back g c =
    let (some, short) = pair-short c.args.program.now c.args.chain.now c.requires.sound (c.requires.some, c.requires.looks_back) c.role_at.result.now (map literal_byte c.literal_of-literal.result.now) c.role_at.ensures.is c.literal_of-literal.ensures in
    omega (arith, short, length-map c.literal_of-literal.result.now literal_byte)

pub leave_back-before-requires-clause-within : goal.leave_back-before-requires-clause-within
leave_back-before-requires-clause-within g c =
    let told : c.ends_here.result ≡ true = c.if-not-ends_here.false in
    omega (arith, c.ends_here.ensures.short told, length-map c.literal_of-literal.result.now literal_byte, length-map c.literal_of-literal.result.now literal_byte)

pub overflow_sub-byte : goal.overflow_sub-byte
overflow_sub-byte g c =
    let (some, short) = pair-short c.args.program.now c.args.chain.now c.requires.sound (c.requires.some, c.requires.looks_back) c.role_at.result.now (map literal_byte c.literal_of-literal.result.now) c.role_at.ensures.is c.literal_of-literal.ensures in
    omega (arith, short, length-map c.literal_of-literal.result.now literal_byte)

pub bounds-spot-back : goal.bounds-spot-back
bounds-spot-back g c =
    let (some, short) = pair-short c.args.program.now c.args.chain.now c.requires.sound (c.requires.some, c.requires.looks_back) c.role_at.result.now (map literal_byte c.literal_of-literal.result.now) c.role_at.ensures.is c.literal_of-literal.ensures in
    omega (arith, some, short, length-map c.literal_of-literal.result.now literal_byte)

pub returns-then-not-ends_here-clause-leaves : goal.returns-then-not-ends_here-clause-leaves
returns-then-not-ends_here-clause-leaves g c chain u looked fit is =
    let value = map literal_byte c.literal_of-literal.result.now in
    let (some, short) = pair-short c.args.program.now c.args.chain.now c.requires.sound (c.requires.some, c.requires.looks_back) c.role_at.result.now value c.role_at.ensures.is c.literal_of-literal.ensures in
    let same = looked-value c.args.program.now c.args.chain.now.first chain looked c.role_at.result.now value c.role_at.ensures.is c.literal_of-literal.ensures in
    let whole = looked.is_chain ∙ ap (λ v. nfa looked.tree ∷ lit (v) ∷ looked.rest) same in
    subst (λ pieces. TellsLeaving (has_next c.empty.result) (take 2 pieces) u) (sym whole)
    (looked-none looked.tree (value) looked.rest u some is.bytes (subst IsFitChain whole fit) c.empty.result
    (λ ends. absurd (false≢true (sym c.if-not-ends_here.true ∙ (c.ends_here.ensures.ends u is).1 ends)))
    c.empty.ensures)

pub returns-clause-leaves : goal.returns-clause-leaves
returns-clause-leaves g c chain u looked fit is =
    let value = map literal_byte c.literal_of-literal.result.now in
    let xs = value in
    let back : ℕ = length c.literal_of-literal.result.now in
    let (some, short) = pair-short c.args.program.now c.args.chain.now c.requires.sound (c.requires.some, c.requires.looks_back) c.role_at.result.now value c.role_at.ensures.is c.literal_of-literal.ensures in
    let same = looked-value c.args.program.now c.args.chain.now.first chain looked c.role_at.result.now value c.role_at.ensures.is c.literal_of-literal.ensures in
    let whole = looked.is_chain ∙ ap (λ v. nfa looked.tree ∷ lit (v) ∷ looked.rest) same in
    let fits : IsFitChain (nfa looked.tree ∷ lit xs ∷ looked.rest) = subst IsFitChain whole fit in
    let size : length xs ≡ length c.literal_of-literal.result.now = length-map c.literal_of-literal.result.now literal_byte in
    let is_back : back ≡ length xs = sym size in
    let ends : EndsAt xs u (length u) = (c.ends_here.ensures.ends u is).0 c.if-not-ends_here.false in
    let within : length xs ≤ length u = (ends-taken xs u ends).0 in
    let first : c.role_at-2.result.now ≡ looked.before = same_Some c.role_at-2.result.now looked.before (sym c.role_at-2.ensures.is ∙ looked.there) in
    let named : slice_get c.args.program.now.engines c.role_at-2.result.now.number ≡ Some looked.engine = ap (λ q. slice_get c.args.program.now.engines q.number) first ∙ looked.engine_there in
    let null : IsRoleNull c.role_at-2.result.now.null looked.tree = subst (λ q. IsRoleNull q.null looked.tree) (sym first) looked.null in
    let tells : TellsLeaving (has_next c.leave_back-before.result) (nfa looked.tree ∷ []) (take (length u - length xs) u) =
    subst (λ n. TellsLeaving (has_next c.leave_back-before.result) (nfa looked.tree ∷ []) (take (length u - n) u)) is_back
    (c.leave_back-before.ensures.leaves looked.engine looked.tree (lit xs ∷ looked.rest) u named looked.runs looked.listed looked.narrow null fits is) in
    subst (λ pieces. TellsLeaving (has_next c.all_if.result) (take 2 pieces) u) (sym whole)
    (looked-tells looked.tree xs looked.rest u some is.bytes fits c.leave_back-before.result c.all_if.result c.contains.result (get_or c.args.spot.now.history (64 - back) 0) ends
    (window-byte u c.args.spot.now.history (length u - length xs) (64 - back) is.past (omega (arith, within, some, size)) (omega (arith, is_back, within, short, size)))
    tells (c.contains.ensures ∙ ap (has_next c.leave_back-before.result) c.class_of.ensures) c.all_if.ensures)

pub returns-then-not-ends_here-clause-ticks : goal.returns-then-not-ends_here-clause-ticks
returns-then-not-ends_here-clause-ticks g c = omega arith

pub returns-clause-ticks : goal.returns-clause-ticks
returns-clause-ticks g c = c.leave_back-before.ensures.ticks
