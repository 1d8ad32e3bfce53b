use Rattle.std.proofs.Common.{map, string_bytes}
use Rattle.hs_request.specs.Requests.{request_of}
use Rattle.hs_tool.proofs.AnswerLemmas.{unread-words, unput-words}
use Rattle.hs_tool.proofs.top.perform.Goals as goal

pub returns-in-Err-clause-ends : goal.returns-in-Err-clause-ends
returns-in-Err-clause-ends g c = unread-words (request_of (map string_bytes c.args.words.now)) _ _

pub returns-in-Err-clause-kept : goal.returns-in-Err-clause-kept
returns-in-Err-clause-kept g c = unput-words (request_of (map string_bytes c.args.words.now)) (g.I.Source.left c.args.input.now) (g.S.Store.told c.args.store.now)
