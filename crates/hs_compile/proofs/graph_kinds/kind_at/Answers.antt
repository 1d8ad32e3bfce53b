use Rattle.std.proofs.Common.{ap}
use Rattle.hs_rose.specs.Kinds.{number_if_literal}
use Rattle.hs_compile.specs.GraphKinds.{IsKindAt, IsKindOf, IsPairOf}
use Rattle.hs_compile.proofs.ReadLemmas.{at-first, at-later, at-pair, ok-to, pair-bare}
use Rattle.hs_compile.proofs.graph_kinds.kind_at.Goals as goal

pub returns-then-i-chain : goal.returns-then-i-chain
returns-then-i-chain c =
    let t = c.args.program.now in
    let r = c.role_at-role.result.now in
    ok-to (λ own. IsKindOf t r own) (λ own. IsKindAt t c.args.chain.now.first c.args.i own) c.kind_of.result
    (λ own is. at-first t c.args.chain.now.first c.args.i r own c.role_at-role.ensures.is c.if-i-chain.true is) c.kind_of.ensures

pub pair_kind-requires-clause-bare : goal.pair_kind-requires-clause-bare
pair_kind-requires-clause-bare c =
    pair-bare c.args.program.now c.args.chain.now c.args.i c.role_at-before.result.now c.role_at-role.result.now c.requires.low c.if-i-chain.false c.role_at-before.ensures.is c.role_at-role.ensures.is
    c.requires.ready c.requires.chain c.requires.high (c.looks_back.ensures.0 c.if-looks_back.true)

pub pair_kind-requires-clause-there : goal.pair_kind-requires-clause-there
pair_kind-requires-clause-there c =
    let r = c.role_at-role.result.now in
    c.role_at-role.ensures.named r.number
    (ap (λ k. number_if_literal k r.number)
    (pair-bare c.args.program.now c.args.chain.now c.args.i c.role_at-before.result.now r c.requires.low c.if-i-chain.false c.role_at-before.ensures.is c.role_at-role.ensures.is
    c.requires.ready c.requires.chain c.requires.high (c.looks_back.ensures.0 c.if-looks_back.true)))

pub returns-then-looks_back : goal.returns-then-looks_back
returns-then-looks_back c =
    let t = c.args.program.now in
    let before = c.role_at-before.result.now in
    let r = c.role_at-role.result.now in
    ok-to (λ own. IsPairOf t before r own) (λ own. IsKindAt t c.args.chain.now.first c.args.i own) c.pair_kind.result
    (λ own is. at-pair t c.args.chain.now c.args.i before r c.requires.low c.if-i-chain.false c.role_at-before.ensures.is c.role_at-role.ensures.is own is) c.pair_kind.ensures

pub returns : goal.returns
returns c =
    let t = c.args.program.now in
    let before = c.role_at-before.result.now in
    let r = c.role_at-role.result.now in
    ok-to (λ own. IsKindOf t r own) (λ own. IsKindAt t c.args.chain.now.first c.args.i own) c.kind_of-2.result
    (λ own is. at-later t c.args.chain.now c.args.i before r c.requires.low c.if-i-chain.false c.role_at-before.ensures.is c.role_at-role.ensures.is own c.looks_back.result c.if-looks_back.false c.looks_back.ensures is) c.kind_of-2.ensures
