use Rattle.std.proofs.lemmas.Str.{IsUtf8-from_ascii}
use Rattle.hs_tool.proofs.FileLemmas.{name-ascii}
use Rattle.hs_tool.proofs.session.files.path_of.Goals as goal

pub returns-in-Err : goal.returns-in-Err
returns-in-Err c = absurd (c.in-Err.ensures.cases.0 (IsUtf8-from_ascii c.args.file.now (name-ascii c.args.file.now c.requires.each)))
