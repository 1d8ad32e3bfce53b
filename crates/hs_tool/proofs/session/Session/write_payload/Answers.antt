use Rattle.std.proofs.Common.{[], refl, Some, arith}
use Rattle.hs_text.specs.declared.commands.Verb.TheVariants as verb
use Rattle.hs_text.specs.declared.reply_lines.Word.TheVariants as word
use Rattle.hs_text.specs.declared.reply_lines.Reply.TheVariants.{Done, No}
use Rattle.hs_reader.specs.Breaks.{is_lost}
use Rattle.hs_tool.specs.Payloads.{too_long, turned}
use Rattle.hs_tool.proofs.WriteLemmas.{sends-none}
use Rattle.hs_tool.proofs.session.Session.write_payload.Goals as goal

pub returns-then-not-has_room-clause-written : goal.returns-then-not-has_room-clause-written
returns-then-not-has_room-clause-written g c =
    let refuses = c.refuse_payload.ensures.refused in
    record {
      came = refuses.come.came;
      pairs = [];
      reply = No verb.Write word.Length;
      comes = refuses.come.comes;
      turns = too_long (omega (arith, c.offset.ensures, c.if-not-has_room.ensures)) refl;
      due = refuses.due;
      sends = sends-none (is_lost c.refuse_payload.result) (g.O.Sink.written c.args.self.now.out.now) c.args.self.now.pending refuses.kept;
    }

pub returns-in-Ok-clause-written : goal.returns-in-Ok-clause-written
returns-in-Ok-clause-written g c =
    let all = c.in-Ok.ensures.scanned in
    record {
      came = all.came;
      pairs = all.scanned.pairs;
      reply = Done verb.Write (Some c.args.count);
      comes = all.comes;
      turns = turned (omega (arith, c.offset.ensures, c.if-not-has_room.ensures)) all.scanned.writes;
      due = refl;
      sends = all.scanned.passes;
    }

pub returns-in-Err-clause-written : goal.returns-in-Err-clause-written
returns-in-Err-clause-written g c =
    let all = c.in-Err.ensures.scanned in
    record {
      came = all.came;
      pairs = all.scanned.pairs;
      reply = Done verb.Write (Some c.args.count);
      comes = all.comes;
      turns = turned (omega (arith, c.offset.ensures, c.if-not-has_room.ensures)) all.scanned.writes;
      due = tt;
      sends = all.scanned.passes;
    }
