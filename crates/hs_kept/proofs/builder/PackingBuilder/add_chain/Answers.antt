use Rattle.std.proofs.Common.{arith}
use Rattle.std.proofs.lemmas.List.{length-map}
use Rattle.hs_pieces.specs.Meaning.{plain_chain, plain_piece}
use Rattle.hs_kept.proofs.CandidateLemmas.{chain-added}
use Rattle.hs_kept.proofs.builder.PackingBuilder.add_chain.Goals as goal

pub returns : goal.returns
returns c before was =
    chain-added c.args.self.now (record { candidates = c.add_candidate.new.self.candidates; pieces = c.in-Some.pieces }) before (plain_chain c.args.chain.now) c.in_ok-found.found
    c.in_ok-found.ensures c.in_ok-add_candidate.ensures.candidates
    (omega (arith, c.in-Some.ensures.1, c.in_ok-add_candidate.ensures.pieces, c.len.ensures, length-map c.args.chain.now.0.items plain_piece)) was
